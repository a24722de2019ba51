-- A row that is filled column by column.
use Rattle.std.proofs.Common.{◌≡◌, ℕ, zero, suc, ◌+◌, ◌<◌, ◌≤◌, cond, ltb, leb, List, [], ◌∷◌, ◌++◌, length, get_or, take, drop, replicate, set, ℤ, pos, sym, refl, ap, ◌∙◌, ⊎_elim, arith, get_or-set_other, get_or-set_same, le-ltb, lt-ltb, le-leb}
use borrow.Author.Tests.{lt-leb}
use Rattle.certificate.specs.Arrays.{row_of, seven}
use Rattle.std.proofs.str.Laws.{order}

-- the columns below j hold f, the others 0
abbrev pub Filled : List ℤ → ℕ → (ℕ → ℤ) → Type 0
Filled row j f = (k : ℕ) → get_or row k (pos 0) ≡ cond (ltb k j) (f k) (pos 0)

pub filled_more : (row : List ℤ) (j : ℕ) (f : ℕ → ℤ) (v : ℤ) → j < length row → v ≡ f j → Filled row j f → Filled (set row j v) (j + 1) f
filled_more row j f v inside e h k = ⊎_elim below (λ (n : j ≤ k). ⊎_elim above (λ (m : k ≤ j). here (omega arith)) (order j k)) (order k j)
  where
    below : k < j → get_or (set row j v) k (pos 0) ≡ cond (ltb k (j + 1)) (f k) (pos 0)
    below l = get_or-set_other row j k v (pos 0) (omega arith) ∙ h k ∙ ap (λ t. cond t (f k) (pos 0)) (lt-ltb k j l ∙ sym (lt-ltb k (j + 1) (omega arith)))

    above : j < k → get_or (set row j v) k (pos 0) ≡ cond (ltb k (j + 1)) (f k) (pos 0)
    above l = get_or-set_other row j k v (pos 0) (omega arith) ∙ h k ∙ ap (λ t. cond t (f k) (pos 0)) (le-ltb k j (omega arith) ∙ sym (le-ltb k (j + 1) (omega arith)))

    here : k ≡ j → get_or (set row j v) k (pos 0) ≡ cond (ltb k (j + 1)) (f k) (pos 0)
    here same = ap (λ i. get_or (set row j v) i (pos 0)) same ∙ get_or-set_same row j v (pos 0) inside ∙ e ∙ ap f (sym same) ∙ ap (λ t. cond t (f k) (pos 0)) (sym (lt-ltb k (j + 1) (omega arith)))

-- columns up to n are those below n + 1
pub up_to : (k n : ℕ) → ltb k (n + 1) ≡ leb k n
up_to k n = ⊎_elim (λ (l : n < k). le-ltb k (n + 1) (omega arith) ∙ sym (lt-leb k n l)) (λ (l : k ≤ n). lt-ltb k (n + 1) (omega arith) ∙ sym (le-leb k n l)) (order n k)

-- seven columns
pub filled_seven : (row : List ℤ) (n : ℕ) (f : ℕ → ℤ) → n ≡ 7 → Filled row n f → row_of row ≡ seven f
filled_seven row n f e h i k = (h k ∙ ap (λ m. cond (ltb k m) (f k) (pos 0)) e) i

-- n columns of a row that is 0 beyond them
pub filled_all : (row : List ℤ) (j n : ℕ) (f : ℕ → ℤ) → j ≡ n → ((k : ℕ) → n ≤ k → f k ≡ pos 0) → Filled row j f → row_of row ≡ f
filled_all row j n f e beyond h i k = (h k ∙ ap (λ m. cond (ltb k m) (f k) (pos 0)) e ∙ ⊎_elim (λ (l : k < n). ap (λ t. cond t (f k) (pos 0)) (lt-ltb k n l)) (λ (l : n ≤ k). ap (λ t. cond t (f k) (pos 0)) (le-ltb k n l) ∙ sym (beyond k l)) (order k n)) i

-- rows of zeros, and their parts
zeros : (m k : ℕ) → get_or (replicate m (pos 0)) k (pos 0) ≡ pos 0
zeros zero k = refl
zeros (suc m) zero = refl
zeros (suc m) (suc k) = zeros m k

pub zeros_front : (n m k : ℕ) → get_or (take n (replicate m (pos 0))) k (pos 0) ≡ pos 0
zeros_front zero m k = refl
zeros_front (suc n) zero k = refl
zeros_front (suc n) (suc m) zero = refl
zeros_front (suc n) (suc m) (suc k) = zeros_front n m k

zeros_behind : (n m k : ℕ) → get_or (drop n (replicate m (pos 0))) k (pos 0) ≡ pos 0
zeros_behind zero m k = zeros m k
zeros_behind (suc n) zero k = refl
zeros_behind (suc n) (suc m) k = zeros_behind n m k

-- zeros behind a row change none of its columns
pub padded : (row : List ℤ) (n m k : ℕ) → get_or (row ++ drop n (replicate m (pos 0))) k (pos 0) ≡ get_or row k (pos 0)
padded [] n m k = zeros_behind n m k
padded (x ∷ row) n m zero = refl
padded (x ∷ row) n m (suc k) = padded row n m k
