use Rattle.certificate.proofs.Places.{at}
use Rattle.std.proofs.Common.{arith}
use Rattle.certificate.proofs.view.View.proposition_at.Goals as goal

pub returns-clause-bounded : goal.returns-clause-bounded
returns-clause-bounded g c = at _ _ _ 1193 8 9 c.step_at.ensures.bounded c.requires (omega arith)
