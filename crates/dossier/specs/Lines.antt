-- Proof lines: hypotheses, one conclusion, a divisor and a multiplier for each hypothesis.
use Rattle.std.specs.Prelude.{ℕ, zero, suc, Bool, true, List, [], ◌∷◌, ℤ, pos, ◌+ℤ◌, ◌*ℤ◌, int_le}
use Rattle.layout.specs.Cells.{both}
use Rattle.dossier.specs.Rows.{Row}

-- the sum of multipliers times hypotheses, in a column
abbrev pub sums : List ℤ → List Row → ℕ → ℤ
sums [] hs j = pos 0
sums (m ∷ ms) [] j = pos 0
sums (m ∷ ms) (h ∷ hs) j = (m *ℤ h j) +ℤ sums ms hs j

abbrev pub same : ℤ → ℤ → Bool
same a b = both (int_le a b) (int_le b a)

-- for each variable, the divisor times the conclusion's coefficient equals the sum
abbrev pub coefficients_agree : ℕ → ℤ → List ℤ → List Row → Row → Bool
coefficients_agree zero d ms hs c = true
coefficients_agree (suc n) d ms hs c = both (coefficients_agree n d ms hs c) (same (d *ℤ c (suc n)) (sums ms hs (suc n)))

-- for the constants, the divisor times the conclusion's is at least the sum
abbrev pub constant_suffices : ℤ → List ℤ → List Row → Row → Bool
constant_suffices d ms hs c = int_le (sums ms hs 0) (d *ℤ c 0)

abbrev pub line_holds : ℕ → ℤ → List ℤ → List Row → Row → Bool
line_holds n d ms hs c = both (coefficients_agree n d ms hs c) (constant_suffices d ms hs c)
