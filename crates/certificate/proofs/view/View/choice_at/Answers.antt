use Rattle.certificate.proofs.Places.{at}
use Rattle.std.proofs.Common.{arith}
use Rattle.certificate.proofs.view.View.choice_at.Goals as goal

pub returns-clause-bounded : goal.returns-clause-bounded
returns-clause-bounded g c = at _ _ _ 2667 32 143 c.shown_at.ensures.bounded c.requires
    (at _ _ _ 3 20 7 (omega arith) c.point_conclusions.ensures.bounded (omega arith))
