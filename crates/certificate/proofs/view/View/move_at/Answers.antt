use Rattle.certificate.proofs.Places.{at}
use Rattle.std.proofs.Common.{arith}
use Rattle.certificate.proofs.view.View.move_at.Goals as goal

pub returns-clause-bounded : goal.returns-clause-bounded
returns-clause-bounded g c = at _ _ _ 2691 192 153 c.start_line_at.ensures.bounded c.requires
    (at _ _ _ 1 8 19 (omega arith) c.conclusions_of.ensures.bounded (omega arith))
