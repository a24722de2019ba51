-- The table of digits, by one test that is computed over all its entries.
use Rattle.std.proofs.Common.{◌≡◌, ℕ, zero, suc, ◌+◌, ◌<◌, ◌≤◌, Bool, true, T, eqb, List, [], ◌∷◌, length, get_or, Some, None, Option, unwrap_or, sym, refl, ap, ◌∙◌, le_of_suc-le-suc, not-suc-le-zero, add-zero, add-suc, suc-add, zero-add, arith, eqb→eq}
use Rattle.layout.specs.Cells.{both}
use Rattle.layout.specs.Reading.{nibble}
use Rattle.layout.proofs.Count.{both_left, both_right}
use Rattle.layout.proofs.Hex.{digit_nibble}

-- what stands for a byte that is no digit
abbrev pub no : ℕ
no = 4294967296

-- each entry from place i on is the value of its byte
abbrev right : ℕ → List ℕ → Bool
right i [] = true
right i (x ∷ xs) = both (eqb x (unwrap_or (nibble i) no)) (right (suc i) xs)

from : (xs : List ℕ) (i : ℕ) → T (right i xs) → (k : ℕ) → k < length xs → get_or xs k 0 ≡ unwrap_or (nibble (i + k)) no
from [] i t k h = absurd (not-suc-le-zero h)
from (x ∷ xs) i t zero h = eqb→eq x _ (both_left (eqb x (unwrap_or (nibble i) no)) (right (suc i) xs) t) ∙ ap (λ m. unwrap_or (nibble m) no) (sym (add-zero i))
from (x ∷ xs) i t (suc k) h = from xs (suc i) (both_right (eqb x (unwrap_or (nibble i) no)) (right (suc i) xs) t) k (le_of_suc-le-suc h) ∙ ap (λ m. unwrap_or (nibble m) no) (suc-add i k ∙ sym (add-suc i k))

-- the table as it stands in the code
abbrev table : List ℕ
table =
    no ∷ no ∷ no ∷ no ∷ no ∷ no ∷ no ∷ no ∷ no ∷ no ∷ no ∷ no ∷ no ∷ no ∷ no ∷ no ∷ no ∷ no ∷ no ∷ no ∷ no ∷ no ∷ no ∷ no ∷ no ∷ no ∷ no ∷ no ∷ no ∷ no ∷ no ∷ no ∷
    no ∷ no ∷ no ∷ no ∷ no ∷ no ∷ no ∷ no ∷ no ∷ no ∷ no ∷ no ∷ no ∷ no ∷ no ∷ no ∷ 0 ∷ 1 ∷ 2 ∷ 3 ∷ 4 ∷ 5 ∷ 6 ∷ 7 ∷ 8 ∷ 9 ∷ no ∷ no ∷ no ∷ no ∷ no ∷ no ∷
    no ∷ 10 ∷ 11 ∷ 12 ∷ 13 ∷ 14 ∷ 15 ∷ no ∷ no ∷ no ∷ no ∷ no ∷ no ∷ no ∷ no ∷ no ∷ no ∷ no ∷ no ∷ no ∷ no ∷ no ∷ no ∷ no ∷ no ∷ no ∷ no ∷ no ∷ no ∷ no ∷ no ∷ no ∷
    no ∷ no ∷ no ∷ no ∷ no ∷ no ∷ no ∷ no ∷ no ∷ no ∷ no ∷ no ∷ no ∷ no ∷ no ∷ no ∷ no ∷ no ∷ no ∷ no ∷ no ∷ no ∷ no ∷ no ∷ no ∷ no ∷ no ∷ no ∷ no ∷ no ∷ no ∷ no ∷
    no ∷ no ∷ no ∷ no ∷ no ∷ no ∷ no ∷ no ∷ no ∷ no ∷ no ∷ no ∷ no ∷ no ∷ no ∷ no ∷ no ∷ no ∷ no ∷ no ∷ no ∷ no ∷ no ∷ no ∷ no ∷ no ∷ no ∷ no ∷ no ∷ no ∷ no ∷ no ∷
    no ∷ no ∷ no ∷ no ∷ no ∷ no ∷ no ∷ no ∷ no ∷ no ∷ no ∷ no ∷ no ∷ no ∷ no ∷ no ∷ no ∷ no ∷ no ∷ no ∷ no ∷ no ∷ no ∷ no ∷ no ∷ no ∷ no ∷ no ∷ no ∷ no ∷ no ∷ no ∷
    no ∷ no ∷ no ∷ no ∷ no ∷ no ∷ no ∷ no ∷ no ∷ no ∷ no ∷ no ∷ no ∷ no ∷ no ∷ no ∷ no ∷ no ∷ no ∷ no ∷ no ∷ no ∷ no ∷ no ∷ no ∷ no ∷ no ∷ no ∷ no ∷ no ∷ no ∷ no ∷
    no ∷ no ∷ no ∷ no ∷ no ∷ no ∷ no ∷ no ∷ no ∷ no ∷ no ∷ no ∷ no ∷ no ∷ no ∷ no ∷ no ∷ no ∷ no ∷ no ∷ no ∷ no ∷ no ∷ no ∷ no ∷ no ∷ no ∷ no ∷ no ∷ no ∷ no ∷ no ∷
    []

pub table_at : (b : ℕ) → b < 256 → get_or table b 0 ≡ unwrap_or (nibble b) no
table_at b h = from table 0 tt b h ∙ ap (λ m. unwrap_or (nibble m) no) (zero-add b)

-- a digit's entry is below `no`, and nothing else's is
pub is_digit : (o : Option ℕ) (d : ℕ) → d ≡ unwrap_or o no → d < no → o ≡ Some d
is_digit None d e h = absurd (omega (arith, e))
is_digit (Some x) d e h = ap Some (sym e)

-- a table entry's bound, so that sums of entries fit
pub at_most_no : (b d : ℕ) → d ≡ unwrap_or (nibble b) no → d ≤ no
at_most_no b d e = go (nibble b) refl
  where
    go : (o : Option ℕ) → nibble b ≡ o → d ≤ no
    go None f = omega (arith, e, ap (λ o. unwrap_or o no) f)
    go (Some x) f = omega (arith, e, ap (λ o. unwrap_or o no) f, (digit_nibble b x f).0)
