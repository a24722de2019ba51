-- Rows: a constant and a coefficient for each variable.
use Rattle.std.specs.Prelude.{ℕ, zero, suc, Bool, List, [], ◌∷◌, ℤ, pos, negsuc, ◌+ℤ◌, ◌-ℤ◌, ◌*ℤ◌, neg_ℤ, int_le}

-- the number in each column: column 0 is the constant, column j the coefficient of variable j
abbrev pub Row : Type 0
Row = ℕ → ℤ

-- coefficients from column j on, times the variables
abbrev pub dot : Row → ℕ → List ℤ → ℤ
dot r j [] = pos 0
dot r j (x ∷ xs) = (r j *ℤ x) +ℤ dot r (suc j) xs

abbrev pub value : Row → List ℤ → ℤ
value r xs = r 0 +ℤ dot r 1 xs

-- a row holds when its value is at least 0
abbrev pub holds : Row → List ℤ → Bool
holds r xs = int_le (pos 0) (value r xs)

abbrev pub zero_row : Row
zero_row j = pos 0

-- the row −1
abbrev pub minus_one : Row
minus_one zero = negsuc 0
minus_one (suc j) = pos 0

abbrev pub negated : Row → Row
negated r j = neg_ℤ (r j)

abbrev pub difference : Row → Row → Row
difference r s j = r j -ℤ s j

-- the constant less k
abbrev pub less : Row → ℕ → Row
less r k zero = r 0 -ℤ pos k
less r k (suc j) = r (suc j)

-- f 0 and the following, up to but not including f n
abbrev pub sum_to : ℕ → (ℕ → ℤ) → ℤ
sum_to zero f = pos 0
sum_to (suc n) f = sum_to n f +ℤ f n

abbrev pub constant : Row → Row
constant r zero = r 0
constant r (suc j) = pos 0

-- a row over n variables with each variable replaced by its update row
abbrev pub taken : ℕ → Row → (ℕ → Row) → Row
taken n r updates j = constant r j +ℤ sum_to n (λ v. r (suc v) *ℤ updates v j)

-- a list from a function of the index: from i on, n elements
abbrev pub each_from : {A : Type 0} → ℕ → ℕ → (ℕ → A) → List A
each_from i zero f = []
each_from i (suc n) f = f i ∷ each_from (suc i) n f

abbrev pub each : {A : Type 0} → ℕ → (ℕ → A) → List A
each n f = each_from 0 n f
