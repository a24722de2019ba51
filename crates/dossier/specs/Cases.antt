-- The run-down dossier and its neighbours: the worked cases about admission that are theorems.
use Rattle.std.specs.Prelude.{◌≡◌, ℕ, zero, suc, true, false, List, [], ◌∷◌, ℤ, pos, negsuc, Ok, Err, Result, slice_set}
use Rattle.layout.specs.declared.fault.Refusal.{Refusal}
use Rattle.layout.specs.Cases.{run_down_cells}
use Rattle.layout.specs.Refusals.{refused, told}
use Rattle.dossier.specs.Admission.{admit_every_run}
use Rattle.dossier.specs.Kinds.{by_first_difference}
use Rattle.dossier.specs.Lines.{line_holds}
use Rattle.dossier.specs.Refusals.{admit_refusal}
use Rattle.dossier.specs.Rows.{Row}

-- the step leaves x as it is
abbrev pub standing : List ℤ → List ℤ
standing cells = slice_set cells 17 (pos 0)

-- the multiplier of the guard in the first line of the move is 2
abbrev pub doubled : List ℤ → List ℤ
doubled cells = slice_set cells 33 (pos 2)

-- the watch state is marked
abbrev pub recurring : List ℤ → List ℤ
recurring cells = slice_set cells 21 (pos 1)

-- a dossier, the count of rank numbers called for, and what admission answers
pub record Case : Type 0 where
  pub cells : List ℤ
  pub numbers : ℕ
  pub answer : Result ℕ Refusal

abbrev pub admission_cases : List Case
admission_cases =
    record { cells = run_down_cells; numbers = 1; answer = Ok 3 } ∷
    record { cells = run_down_cells; numbers = 2; answer = Err (refused 0x20 1 1) } ∷
    record { cells = standing run_down_cells; numbers = 1; answer = Err (refused 0x23 0 1) } ∷
    record { cells = doubled run_down_cells; numbers = 1; answer = Err (refused 0x23 0 0) } ∷
    record { cells = recurring run_down_cells; numbers = 1; answer = Ok 3 } ∷
    record { cells = recurring (standing run_down_cells); numbers = 1; answer = Ok 3 } ∷ []

abbrev pub AllAnswered : List Case → Type 0
AllAnswered [] = Unit {0}
AllAnswered (c ∷ cs) = (told admit_refusal (admit_every_run (by_first_difference c.numbers) c.cells) ≡ c.answer) × AllAnswered cs

-- over one variable x: a constant and its coefficient
abbrev pub over_x : ℤ → ℤ → Row
over_x constant coefficient zero = constant
over_x constant coefficient (suc zero) = coefficient
over_x constant coefficient (suc (suc j)) = pos 0

-- from 2x − 5 with divisor 2 and multiplier 1: x − 2 holds and x − 3 does not
pub record Halves : Type 0 where
  pub near : line_holds 1 (pos 2) (pos 1 ∷ []) (over_x (negsuc 4) (pos 2) ∷ []) (over_x (negsuc 1) (pos 1)) ≡ true
  pub far : line_holds 1 (pos 2) (pos 1 ∷ []) (over_x (negsuc 4) (pos 2) ∷ []) (over_x (negsuc 2) (pos 1)) ≡ false

abbrev pub WorkedCases : Type 0
WorkedCases = AllAnswered admission_cases × Halves
