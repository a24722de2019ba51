use Rattle.certificate.proofs.Places.{at}
use Rattle.std.proofs.lemmas.Nat.{mul-le}
use Rattle.certificate.proofs.view.View.point_at.Goals as goal

pub returns-clause-bounded : goal.returns-clause-bounded
returns-clause-bounded g c = at _ _ _ 1317 32 42 c.edge_at.ensures.bounded c.requires
    (mul-le _ _ 6 7 c.rows_of_point.ensures.bounded c.row_width.ensures.bounded)
