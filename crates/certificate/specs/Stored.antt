-- Rows that stand one after the other in a dossier's cells.
use Rattle.std.specs.Prelude.{ℕ, ◌+◌, ◌*◌, List, ℤ}
use Rattle.dossier.specs.Admission.{at_step}
use Rattle.dossier.specs.Dossier.{head, row_width, row_at}
use Rattle.dossier.specs.Rows.{Row, each}

-- row i of those that begin at a place
abbrev pub stored_row : List ℤ → ℕ → ℕ → Row
stored_row cells at i = row_at cells (at + i * row_width (head cells))

abbrev pub stored : List ℤ → ℕ → ℕ → List Row
stored cells at n = each n (stored_row cells at)

-- the same taken at a step
abbrev pub stored_taken : List ℤ → ℕ → ℕ → ℕ → List Row
stored_taken cells t at n = each n (λ i. at_step cells t (stored_row cells at i))
