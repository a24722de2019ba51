-- Rank kinds: how many numbers a rank has, when one rank falls below another, and which fall rows each mode calls for.
use Rattle.std.specs.Prelude.{◌≡◌, ℕ, ◌+◌, ◌<◌, ◌≤◌, Bool, true, false, cond, T, ◌⊎◌, List, [], ◌∷◌, length, ℤ, pos, ◌-ℤ◌, ◌==◌, int_le, int_lt, nat_le, nat_lt, slice_index_or}
use Rattle.layout.specs.Cells.{both}
use Rattle.dossier.specs.declared.fall.Fall.{Fall}
use Rattle.dossier.specs.declared.fall.Fall.TheVariants.{None, Keeps, Drops}
use Rattle.dossier.specs.Rows.{Row, zero_row, difference, less}

pub record Kind : Type 1 where
  pub numbers : ℕ
  -- the second rank is below the first
  pub falls : List ℤ → List ℤ → Type 0
  -- the fall row of a mode and an index
  pub fall : ℕ → ℕ → Fall

-- a fall row over the old and the new rank rows
abbrev pub fall_row : Fall → (ℕ → Row) → (ℕ → Row) → Row
fall_row None old new = zero_row
fall_row (Keeps k) old new = difference (old k) (new k)
fall_row (Drops k) old new = less (difference (old k) (new k)) 1

-- its value over two ranks
abbrev pub fall_value : Fall → List ℤ → List ℤ → ℤ
fall_value None old new = pos 0
fall_value (Keeps k) old new = slice_index_or old k (pos 0) -ℤ slice_index_or new k (pos 0)
fall_value (Drops k) old new = (slice_index_or old k (pos 0) -ℤ slice_index_or new k (pos 0)) -ℤ pos 1

-- no negative number
abbrev pub NonNegative : List ℤ → Type 0
NonNegative [] = Unit {0}
NonNegative (x ∷ xs) = T (int_le (pos 0) x) × NonNegative xs

abbrev pub Rank : Kind → List ℤ → Type 0
Rank kind xs = (length xs ≡ kind.numbers) × NonNegative xs

abbrev pub Inside : ℕ → Fall → Type 0
Inside n None = Unit {0}
Inside n (Keeps k) = k < n
Inside n (Drops k) = k < n

pub record Lawful (kind : Kind) : Type 0 where
  -- the fall rows of a mode are of numbers that a rank has, and together give a fall
  pub inside : (mode i : ℕ) → Inside kind.numbers (kind.fall mode i)
  pub steps_down : (mode : ℕ) (old new : List ℤ) → 1 ≤ mode → mode ≤ kind.numbers → Rank kind old → Rank kind new → ((i : ℕ) → i < kind.numbers → T (int_le (pos 0) (fall_value (kind.fall mode i) old new))) → kind.falls old new
  -- no chain of falls is endless: in every sequence of ranks there is a place where it does not fall
  pub ends : (ranks : ℕ → List ℤ) → ((i : ℕ) → Rank kind (ranks i)) → (i : ℕ) × (kind.falls (ranks i) (ranks (i + 1)) → ⊥)

-- lower at the first number that differs
abbrev pub lower : List ℤ → List ℤ → Bool
lower [] new = false
lower (x ∷ xs) [] = false
lower (x ∷ xs) (y ∷ ys) = cond (int_lt y x) true (both (both (int_le x y) (int_le y x)) (lower xs ys))

-- mode k calls for: the numbers before number k do not rise, and number k, counted from 1, falls by at least 1
abbrev pub fall_of : ℕ → ℕ → ℕ → Fall
fall_of numbers mode i = cond (both (nat_le mode numbers) (nat_lt i numbers)) (cond (nat_lt (i + 1) mode) (Keeps i) (cond (i + 1 == mode) (Drops i) None)) None

abbrev pub by_first_difference : ℕ → Kind
by_first_difference n = record { numbers = n; falls = λ old new. T (lower old new); fall = fall_of n }

-- no mode, or no number of a rank
abbrev pub Outside : ℕ → ℕ → ℕ → Type 0
Outside numbers mode i = (mode ≡ 0) ⊎ ((numbers < mode) ⊎ (numbers ≤ i))

-- outside the modes, and beyond the numbers of a rank, a fall row is zero
abbrev pub ZeroOutside : Kind → Type 0
ZeroOutside kind = (mode i : ℕ) → Outside kind.numbers mode i → kind.fall mode i ≡ None
