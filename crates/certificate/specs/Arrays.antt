-- Rows as the code holds them: seven numbers, a constant and up to six coefficients.
use Rattle.std.specs.Prelude.{◌≡◌, ℕ, zero, suc, ◌<◌, ◌≤◌, cond, List, map, length, ℤ, pos, neg_ℤ, ◌≤ℤ◌, nat_lt, slice_index_or}
use Rattle.dossier.specs.Rows.{Row, zero_row}
use Rattle.arrayvec.specs.ArrayVec.{ArrayVec}

abbrev pub row_of : List ℤ → Row
row_of numbers j = slice_index_or numbers j (pos 0)

abbrev pub rows_of : List (List ℤ) → List Row
rows_of rows = map row_of rows

-- the columns that the code holds
abbrev pub seven : Row → Row
seven row j = cond (nat_lt j 7) (row j) (pos 0)

-- a row that is a constant
abbrev pub constant_row : ℤ → Row
constant_row z zero = z
constant_row z (suc j) = pos 0

-- the rows that a table holds
abbrev pub held : ArrayVec (List ℤ) → List Row
held table = rows_of table.items

-- bounds of numbers -------------------------------------------------------------------------------

abbrev pub Within : ℕ → ℤ → Type 0
Within most z = (neg_ℤ (pos most) ≤ℤ z) × (z ≤ℤ pos most)

abbrev pub RowWithin : ℕ → Row → Type 0
RowWithin most row = (j : ℕ) → Within most (row j)

abbrev pub RowsWithin : ℕ → List Row → Type 0
RowsWithin most rows = (k : ℕ) → k < length rows → RowWithin most (slice_index_or rows k zero_row)

-- numbers of a sheet's rows
abbrev pub short : ℕ
short = 32768

-- numbers of rows that are taken at a step
abbrev pub long : ℕ
long = 8589934592

-- numbers of all rows that a proof line compares: small enough that a line's sums stay exact
abbrev pub wide : ℕ
wide = 34359738368

-- multipliers of a line
abbrev pub Factors : List ℤ → Type 0
Factors ms = (k : ℕ) → k < length ms → (pos 0 ≤ℤ slice_index_or ms k (pos 0)) × (slice_index_or ms k (pos 0) ≤ℤ pos 1048575)

-- hypotheses with a multiplier each, at most eighteen
pub record Multiplied (ms : List ℤ) (rows : List (List ℤ)) : Type 0 where
  pub long : length ms ≡ length rows
  pub few : length ms ≤ 18
  pub factors : Factors ms
  pub bounded : RowsWithin wide (rows_of rows)
