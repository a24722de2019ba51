use Rattle.std.proofs.Common.{◌≡◌, ◌+◌, length}
use Rattle.dossier.specs.Dossier as view
use Rattle.certificate.proofs.Fill.{Filled}
use Rattle.certificate.proofs.view.View.row_at.Given as goal

abbrev pub invariant-loop-j : goal.invariant-loop-j
invariant-loop-j g l = (length l.number-items ≡ l.width) × Filled l.number-items l.j (λ k. view.cell (g.S.Source.cells l.self.source.now) (l.at + k))
