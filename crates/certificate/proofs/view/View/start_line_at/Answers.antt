use Rattle.certificate.proofs.Places.{at}
use Rattle.std.proofs.Common.{arith}
use Rattle.certificate.proofs.view.View.start_line_at.Goals as goal

pub returns-clause-bounded : goal.returns-clause-bounded
returns-clause-bounded g c = at _ _ _ 2661 6 5 c.point_at.ensures.bounded c.requires (omega arith)
