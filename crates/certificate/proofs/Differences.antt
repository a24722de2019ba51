-- One row less another, column by column.
use Rattle.std.proofs.Common.{◌≡◌, ℕ, zero, suc, ◌<◌, List, length, get_or, set, ℤ, pos, ◌-ℤ◌, sym, ap, ◌∙◌, subst, ap₂, arith, get_or-set_other, get_or-set_same, w64, SFits}
use Rattle.std.proofs.lemmas.List.{get_or_past}
use Rattle.std.proofs.lemmas.Int.{ints}
use Rattle.dossier.specs.Rows as rows
use Rattle.dossier.specs.Rows.{Row}
use Rattle.certificate.specs.Arrays.{row_of, Within, long}
use Rattle.certificate.proofs.Bounds.{difference_within, within_more, fits_64}
use Rattle.certificate.proofs.Fill.{Filled, filled_all}

pub difference_fits : (x y : ℤ) → Within long x → Within long y → SFits w64 (x -ℤ y)
difference_fits x y p q = fits_64 _ (within_more _ _ _ (omega arith) (difference_within 8589934592 8589934592 x y p q))

pub less_fits : (x y z : ℤ) (k : ℕ) → z ≡ x -ℤ y → Within long x → Within long y → k < 256 → SFits w64 (z -ℤ pos k)
less_fits x y z k e p q l = fits_64 _ (within_more _ _ _ (omega arith) (difference_within 17179869184 256 z (pos k) (subst (Within 17179869184) (sym e) (difference_within 8589934592 8589934592 x y p q)) (omega (arith, ints), omega (arith, ints))))

-- the columns beyond the seventh are 0 in both rows
pub all_columns : (result old new : List ℤ) (j : ℕ) → j ≡ 7 → length old ≡ 7 → length new ≡ 7 → Filled result j (rows.difference (row_of old) (row_of new)) → row_of result ≡ rows.difference (row_of old) (row_of new)
all_columns result old new j e p q h =
    filled_all result j 7 (rows.difference (row_of old) (row_of new)) e (λ k l. ap₂ ◌-ℤ◌ (get_or_past old k (pos 0) (omega arith)) (get_or_past new k (pos 0) (omega arith))) h

-- the constant less a number
pub set_constant : (result : List ℤ) (f : Row) (v : ℤ) (k : ℕ) → 0 < length result → row_of result ≡ f → v ≡ get_or result 0 (pos 0) -ℤ pos k → row_of (set result 0 v) ≡ rows.less f k
set_constant result f v k l e is i j = at j i
  where
    at : (j : ℕ) → get_or (set result 0 v) j (pos 0) ≡ rows.less f k j
    at zero = get_or-set_same result 0 v (pos 0) l ∙ is ∙ ap (λ r. r 0 -ℤ pos k) e
    at (suc j) = get_or-set_other result 0 (suc j) v (pos 0) (omega arith) ∙ ap (λ r. r (suc j)) e
