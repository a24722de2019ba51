-- Fall rows over rank rows that stand in two lists.
use Rattle.std.specs.Prelude.{◌≡◌, ℕ, ◌+◌, ◌<◌, List, ◌++◌, length, slice_index_or}
use Rattle.dossier.specs.declared.fall.Fall.{Fall}
use Rattle.dossier.specs.declared.fall.Fall.TheVariants.{None, Keeps, Drops}
use Rattle.dossier.specs.Rows.{Row, zero_row}
use Rattle.certificate.specs.Arrays.{RowWithin, long}

-- the rows from a place on
abbrev pub rows_from : List Row → ℕ → ℕ → Row
rows_from rows at k = slice_index_or rows (at + k) zero_row

-- row k from a place on is there, and its numbers are those of a rank row or of one taken at a step
pub record There (rows : List Row) (at k : ℕ) : Type 0 where
  pub inside : at + k < length rows
  pub bounded : RowWithin long (rows_from rows at k)

-- the rows that a fall row compares are there
abbrev pub Ready : Fall → List Row → ℕ → List Row → ℕ → Type 0
Ready None old i new j = Unit {0}
Ready (Keeps k) old i new j = There old i k × There new j k
Ready (Drops k) old i new j = There old i k × There new j k

-- a list that begins with another
pub record Begins (whole front : List Row) : Type 0 where
  pub rest : List Row
  pub order : whole ≡ front ++ rest
