-- What a table holds.
use Rattle.std.proofs.Common.{◌≡◌, ℕ, ◌<◌, List, [], ◌∷◌, ◌++◌, length, get_or, ℤ, sym, ap, ◌∙◌, arith}
use Rattle.std.proofs.lemmas.List.{length-map, map-append, get_or-map}
use Rattle.arrayvec.specs.ArrayVec.{ArrayVec}
use Rattle.dossier.specs.Rows.{Row, zero_row, each}
use Rattle.dossier.proofs.Trials.{length_each, getD_each}
use Rattle.certificate.specs.Arrays.{row_of, rows_of, held}

pub held_length : (t : ArrayVec (List ℤ)) → length (held t) ≡ length t.items
held_length t = length-map t.items row_of

pub held_new : (t : ArrayVec (List ℤ)) → t.items ≡ [] → held t ≡ []
held_new t e = ap rows_of e

-- one row more
pub held_push : (t u : ArrayVec (List ℤ)) (row : List ℤ) → u.items ≡ t.items ++ row ∷ [] → held u ≡ held t ++ row_of row ∷ []
held_push t u row e = ap rows_of e ∙ map-append row_of t.items (row ∷ [])

-- how many rows there are, and row k of them
module _ (rows : List (List ℤ)) (all : List Row) (is : rows_of rows ≡ all) where
  pub counted : length rows ≡ length all
  counted = sym (length-map rows row_of) ∙ ap length is

  pub row_at : (k : ℕ) → k < length rows → row_of (get_or rows k []) ≡ get_or all k zero_row
  row_at k l = sym (get_or-map row_of rows k [] zero_row l) ∙ ap (λ xs. get_or xs k zero_row) is

-- the rows that a function of the index gives
module _ (rows : List (List ℤ)) (n : ℕ) (f : ℕ → Row) (is : rows_of rows ≡ each n f) where
  pub each_counted : length rows ≡ n
  each_counted = counted rows (each n f) is ∙ length_each n f

  pub each_row : (k : ℕ) → k < n → row_of (get_or rows k []) ≡ f k
  each_row k l = row_at rows (each n f) is k (omega (arith, each_counted)) ∙ getD_each n f k zero_row l
