use Rattle.certificate.proofs.Places.{at}
use Rattle.std.proofs.Common.{arith}
use Rattle.certificate.proofs.view.View.step_width.Goals as goal

pub returns-clause-bounded : goal.returns-clause-bounded
returns-clause-bounded g c = at _ _ _ 44 4 7 (at _ _ _ 2 6 7 (omega arith) c.args.self.now.head.program.0 c.row_width-width.ensures.bounded)
    c.args.self.now.head.rows.1 c.row_width-width.ensures.bounded
