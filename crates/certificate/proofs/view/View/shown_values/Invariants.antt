use Rattle.std.proofs.Common.{◌≡◌, ℕ, ◌<◌}
use Rattle.dossier.specs.Dossier as parts
use Rattle.dossier.specs.Rows.{each}
use Rattle.certificate.specs.Arrays.{rows_of, constant_row, Within}
use Rattle.certificate.proofs.view.View.shown_values.Given as goal

abbrev pub invariant-loop-variable : goal.invariant-loop-variable
invariant-loop-variable g l =
    (rows_of l.values.items ≡ each l.variable (λ v. constant_row (parts.shown (g.S.Source.cells l.self.source.now) v)))
    × ((v : ℕ) → v < l.variable → Within 2147483648 (parts.shown (g.S.Source.cells l.self.source.now) v))
