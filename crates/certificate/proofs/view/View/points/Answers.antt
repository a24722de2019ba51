use Rattle.std.proofs.lemmas.Nat.{mul-le}
use Rattle.certificate.proofs.view.View.points.Goals as goal

pub returns-clause-bounded : goal.returns-clause-bounded
returns-clause-bounded g c = mul-le _ _ 8 4 c.args.self.now.head.program.1 c.args.self.now.head.watch.1
