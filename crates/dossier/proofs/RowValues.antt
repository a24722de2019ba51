-- The values of rows that are made of others, which are linear in the row, and of fall rows over two ranks.
use Rattle.std.proofs.Common.{◌≡◌, ℕ, suc, ◌+◌, ◌<◌, ◌≤◌, true, false, not, List, [], ◌∷◌, length, get_or, ℤ, pos, negsuc, ◌+ℤ◌, ◌-ℤ◌, ◌*ℤ◌, neg_ℤ, sym, refl, ap, ◌∙◌, ap₂, arith}
use lib.IntN.{+ℤ_idr, neg_ℤ-+ℤ, zero-*ℤ, *ℤ-zero}
use lib.Signed.{le_z}
use Rattle.std.proofs.lemmas.Int.{ints}
use Rattle.dossier.specs.declared.fall.Fall.{Fall}
use Rattle.dossier.specs.declared.fall.Fall.TheVariants.{None, Keeps, Drops}
use Rattle.dossier.specs.Rows.{Row, dot, value, holds, zero_row, minus_one, negated, difference, less, constant, each}
use Rattle.dossier.specs.Kinds.{fall_row, fall_value, Inside}
use Rattle.dossier.proofs.Integers.{+ℤ-*ℤ, *ℤ-+ℤ, *ℤ-assoc, negℤ-*ℤ}
use Rattle.dossier.proofs.Trials.{getD_each}

exchange : (a b c d : ℤ) → (a +ℤ b) +ℤ (c +ℤ d) ≡ (a +ℤ c) +ℤ (b +ℤ d)
exchange a b c d = omega (arith, ints)

-- rows that agree at the variables
pub dot_same : (r s : Row) (j : ℕ) (xs : List ℤ) → ((i : ℕ) → j ≤ i → i < j + length xs → r (suc i) ≡ s (suc i)) → dot r (suc j) xs ≡ dot s (suc j) xs
dot_same r s j [] h = refl
dot_same r s j (x ∷ xs) h = ap₂ (λ a b. (a *ℤ x) +ℤ b) (h j (omega arith) (omega arith)) (dot_same r s (suc j) xs (λ i low high. h i (omega arith) (omega arith)))

dot_zero : (j : ℕ) (xs : List ℤ) → dot zero_row j xs ≡ pos 0
dot_zero j [] = refl
dot_zero j (x ∷ xs) = ap₂ ◌+ℤ◌ (zero-*ℤ x) (dot_zero (suc j) xs)

dot_plus : (r s : Row) (j : ℕ) (xs : List ℤ) → dot (λ i. r i +ℤ s i) j xs ≡ dot r j xs +ℤ dot s j xs
dot_plus r s j [] = refl
dot_plus r s j (x ∷ xs) = ap₂ ◌+ℤ◌ (+ℤ-*ℤ (r j) (s j) x) (dot_plus r s (suc j) xs) ∙ exchange (r j *ℤ x) (s j *ℤ x) (dot r (suc j) xs) (dot s (suc j) xs)

dot_times : (m : ℤ) (r : Row) (j : ℕ) (xs : List ℤ) → dot (λ i. m *ℤ r i) j xs ≡ m *ℤ dot r j xs
dot_times m r j [] = sym (*ℤ-zero m)
dot_times m r j (x ∷ xs) = ap₂ ◌+ℤ◌ (*ℤ-assoc m (r j) x) (dot_times m r (suc j) xs) ∙ sym (*ℤ-+ℤ m (r j *ℤ x) (dot r (suc j) xs))

dot_negated : (r : Row) (j : ℕ) (xs : List ℤ) → dot (negated r) j xs ≡ neg_ℤ (dot r j xs)
dot_negated r j [] = refl
dot_negated r j (x ∷ xs) = ap₂ ◌+ℤ◌ (negℤ-*ℤ (r j) x) (dot_negated r (suc j) xs) ∙ sym (neg_ℤ-+ℤ (r j *ℤ x) (dot r (suc j) xs))

pub value_zero : (xs : List ℤ) → value zero_row xs ≡ pos 0
value_zero xs = ap (λ z. pos 0 +ℤ z) (dot_zero 1 xs)

pub value_plus : (r s : Row) (xs : List ℤ) → value (λ i. r i +ℤ s i) xs ≡ value r xs +ℤ value s xs
value_plus r s xs = ap (λ z. (r 0 +ℤ s 0) +ℤ z) (dot_plus r s 1 xs) ∙ exchange (r 0) (s 0) (dot r 1 xs) (dot s 1 xs)

pub value_times : (m : ℤ) (r : Row) (xs : List ℤ) → value (λ i. m *ℤ r i) xs ≡ m *ℤ value r xs
value_times m r xs = ap (λ z. (m *ℤ r 0) +ℤ z) (dot_times m r 1 xs) ∙ sym (*ℤ-+ℤ m (r 0) (dot r 1 xs))

value_negated : (r : Row) (xs : List ℤ) → value (negated r) xs ≡ neg_ℤ (value r xs)
value_negated r xs = ap (λ z. neg_ℤ (r 0) +ℤ z) (dot_negated r 1 xs) ∙ sym (neg_ℤ-+ℤ (r 0) (dot r 1 xs))

value_difference : (r s : Row) (xs : List ℤ) → value (difference r s) xs ≡ value r xs -ℤ value s xs
value_difference r s xs = value_plus r (negated s) xs ∙ ap (λ z. value r xs +ℤ z) (value_negated s xs)

pub value_constant : (r : Row) (xs : List ℤ) → value (constant r) xs ≡ r 0
value_constant r xs = ap (λ z. r 0 +ℤ z) (dot_same (constant r) zero_row 0 xs (λ i low high. refl) ∙ dot_zero 1 xs) ∙ +ℤ_idr (r 0)

value_minus_one : (xs : List ℤ) → value minus_one xs ≡ negsuc 0
value_minus_one xs = ap (λ z. negsuc 0 +ℤ z) (dot_same minus_one zero_row 0 xs (λ i low high. refl) ∙ dot_zero 1 xs)

value_less : (r : Row) (k : ℕ) (xs : List ℤ) → value (less r k) xs ≡ value r xs -ℤ pos k
value_less r k xs = ap (λ z. (r 0 -ℤ pos k) +ℤ z) (dot_same (less r k) r 0 xs (λ i low high. refl)) ∙ behind (r 0) (dot r 1 xs) (pos k)
  where
    behind : (a b c : ℤ) → (a -ℤ c) +ℤ b ≡ (a +ℤ b) -ℤ c
    behind a b c = omega (arith, ints)

-- tests -------------------------------------------------------------------------------------------

pub zero_holds : (xs : List ℤ) → holds zero_row xs ≡ true
zero_holds xs = ap (le_z (pos 0)) (value_zero xs)

pub minus_one_fails : (xs : List ℤ) → holds minus_one xs ≡ false
minus_one_fails xs = ap (le_z (pos 0)) (value_minus_one xs)

-- the row −r − 1 holds exactly where r does not
opposite : (v : ℤ) → le_z (pos 0) (neg_ℤ v -ℤ pos 1) ≡ not (le_z (pos 0) v)
opposite v = grind (arith, ints)

pub opposite_holds : (r : Row) (xs : List ℤ) → holds (less (negated r) 1) xs ≡ not (holds r xs)
opposite_holds r xs = ap (le_z (pos 0)) (value_less (negated r) 1 xs ∙ ap (λ z. z -ℤ pos 1) (value_negated r xs)) ∙ opposite (value r xs)

-- fall rows ---------------------------------------------------------------------------------------

module _ (n : ℕ) (old new : ℕ → Row) (a b : ℕ → ℤ) (xs : List ℤ) (olds : (k : ℕ) → value (old k) xs ≡ a k) (news : (k : ℕ) → value (new k) xs ≡ b k) where
  dropped : (k : ℕ) → k < n → value (difference (old k) (new k)) xs ≡ get_or (each n a) k (pos 0) -ℤ get_or (each n b) k (pos 0)
  dropped k h =
      value_difference (old k) (new k) xs
      ∙ ap₂ ◌-ℤ◌ (olds k ∙ sym (getD_each n a k (pos 0) h)) (news k ∙ sym (getD_each n b k (pos 0) h))

  -- a fall row over rank rows has its value over the ranks
  pub value_fall : (f : Fall) → Inside n f → value (fall_row f old new) xs ≡ fall_value f (each n a) (each n b)
  value_fall None h = value_zero xs
  value_fall (Keeps k) h = dropped k h
  value_fall (Drops k) h = value_less (difference (old k) (new k)) 1 xs ∙ ap (λ z. z -ℤ pos 1) (dropped k h)
