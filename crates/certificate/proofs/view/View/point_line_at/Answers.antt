use Rattle.certificate.proofs.Places.{at}
use Rattle.std.proofs.Common.{arith}
use Rattle.certificate.proofs.view.View.point_line_at.Goals as goal

pub returns-clause-bounded : goal.returns-clause-bounded
returns-clause-bounded g c = at _ _ _ 7246 20 7 (omega arith) c.requires.line (omega arith)
