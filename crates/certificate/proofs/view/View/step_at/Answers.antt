use Rattle.certificate.proofs.Places.{at}
use Rattle.certificate.proofs.view.View.step_at.Goals as goal

pub returns-clause-bounded : goal.returns-clause-bounded
returns-clause-bounded g c = at _ _ _ 41 16 72 c.start_row_at.ensures.bounded c.requires c.step_width.ensures.bounded
