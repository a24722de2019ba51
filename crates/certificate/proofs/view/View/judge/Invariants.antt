use Rattle.std.proofs.Common.{◌≡◌, ◌+◌}
use Rattle.dossier.specs.Dossier as parts
use Rattle.dossier.specs.Rows.{each}
use Rattle.certificate.proofs.view.View.judge.Given as goal

abbrev pub invariant-loop-k : goal.invariant-loop-k
invariant-loop-k g l = l.multipliers.items ≡ each l.k (λ k. parts.cell (g.S.Source.cells l.self.source.now) (l.at + 1 + k))
