-- The ranges of a well-formed list's cells, part by part.
use Rattle.std.specs.Prelude.{◌≡◌, ℕ, ◌+◌, ◌*◌, ◌^◌, ◌<◌, ◌≤◌, T, List, ℤ, pos, negsuc, bit_and}
use Rattle.layout.specs.Cells.{between}
use Rattle.layout.specs.Layout.{InRanges, point_rows, conclusions}
use Rattle.dossier.specs.Dossier

-- a number of a row
abbrev pub Small : List ℤ → ℕ → Type 0
Small cells i = T (between (negsuc 32767) (pos 32767) (Dossier.cell cells i))

-- a row of small numbers
abbrev pub SmallRow : List ℤ → ℕ → Type 0
SmallRow cells i = (j : ℕ) → j ≤ (Dossier.head cells).variables → Small cells (i + j)

abbrev pub Divisor : List ℤ → ℕ → Type 0
Divisor cells i = T (between (pos 1) (pos 1048575) (Dossier.cell cells i))

abbrev pub Multipliers : List ℤ → ℕ → ℕ → Type 0
Multipliers cells i n = (k : ℕ) → k < n → T (between (pos 0) (pos 1048575) (Dossier.cell cells (i + k)))

abbrev pub Line : List ℤ → ℕ → ℕ → Type 0
Line cells i n = Divisor cells i × Multipliers cells (i + 1) n

pub record ProgramRanges (cells : List ℤ) : Type 0 where
  pub counts_in : InRanges (Dossier.head cells)
  pub start_rows : (i : ℕ) → i < (Dossier.head cells).start_rows → SmallRow cells (Dossier.start_row_at (Dossier.head cells) i)
  pub step_from : (t : ℕ) → t < (Dossier.head cells).steps → Dossier.step_from cells t < (Dossier.head cells).places
  pub step_to : (t : ℕ) → t < (Dossier.head cells).steps → Dossier.step_to cells t < (Dossier.head cells).places
  pub updates : (t v : ℕ) → t < (Dossier.head cells).steps → v < (Dossier.head cells).variables → SmallRow cells (Dossier.step_at (Dossier.head cells) t + 2 + v * Dossier.row_width (Dossier.head cells))
  pub guards : (t g : ℕ) → t < (Dossier.head cells).steps → g < (Dossier.head cells).guards → SmallRow cells (Dossier.step_at (Dossier.head cells) t + 2 + ((Dossier.head cells).variables + g) * Dossier.row_width (Dossier.head cells))
  pub propositions : (i : ℕ) → i < (Dossier.head cells).propositions → SmallRow cells (Dossier.proposition_at (Dossier.head cells) i + 2)
  pub edge_from : (e : ℕ) → e < (Dossier.head cells).edges → Dossier.edge_from cells e < (Dossier.head cells).states
  pub edge_to : (e : ℕ) → e < (Dossier.head cells).edges → Dossier.edge_to cells e < (Dossier.head cells).states
  pub must : (e : ℕ) → e < (Dossier.head cells).edges → Dossier.must cells e < 2 ^ (Dossier.head cells).propositions
  pub must_not : (e : ℕ) → e < (Dossier.head cells).edges → Dossier.must_not cells e < 2 ^ (Dossier.head cells).propositions
  pub apart : (e : ℕ) → e < (Dossier.head cells).edges → bit_and (Dossier.must_not cells e) (Dossier.must cells e) ≡ 0
  pub point_rows : (p r : ℕ) → p < Dossier.points (Dossier.head cells) → r < point_rows (Dossier.head cells) → SmallRow cells (Dossier.point_at (Dossier.head cells) p + r * Dossier.row_width (Dossier.head cells))

pub record EveryRunRanges (cells : List ℤ) : Type 0 where
  pub start_lines : (k : ℕ) → k < point_rows (Dossier.head cells) → Line cells (Dossier.start_line_at (Dossier.head cells) k) (Dossier.head cells).start_rows
  pub modes : (m : ℕ) → m < (Dossier.head cells).steps * (Dossier.head cells).edges → Dossier.move_mode cells m ≤ (Dossier.head cells).rank_numbers
  pub move_lines : (m k : ℕ) → m < (Dossier.head cells).steps * (Dossier.head cells).edges → k < conclusions (Dossier.head cells) → Line cells (Dossier.move_line_at (Dossier.head cells) m k) (Dossier.move_hypotheses (Dossier.head cells))

pub record SomeRunRanges (cells : List ℤ) : Type 0 where
  pub modes : (p : ℕ) → p < Dossier.points (Dossier.head cells) → Dossier.choice_mode cells p ≤ (Dossier.head cells).rank_numbers
  pub steps : (p : ℕ) → p < Dossier.points (Dossier.head cells) → Dossier.choice_step cells p < (Dossier.head cells).steps
  pub edges : (p : ℕ) → p < Dossier.points (Dossier.head cells) → Dossier.choice_edge cells p < (Dossier.head cells).edges
  pub point_lines : (p k : ℕ) → p < Dossier.points (Dossier.head cells) → k < Dossier.point_conclusions (Dossier.head cells) → Line cells (Dossier.point_line_at (Dossier.head cells) p k) (point_rows (Dossier.head cells))
