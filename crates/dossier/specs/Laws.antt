-- What the tests buy.
use Rattle.std.specs.Prelude.{◌≡◌, ℕ, ◌+◌, ◌^◌, ◌<◌, Bool, true, false, cond, T, ◌↔◌, List, [], ◌∷◌, ◌++◌, length, ℤ, pos, Ok, Err, int_lt}
use Rattle.layout.specs.Cells.{well_formed}
use Rattle.layout.specs.Layout.{point_rows, conclusions}
use Rattle.dossier.specs.declared.fault.AdmitFault.{AdmitFault}
use Rattle.dossier.specs.declared.fault.AdmitFault.TheVariants.{Other, NoEdge, StartLine, MoveLine, Shown, StepElsewhere, EdgeElsewhere, PointLine}
use Rattle.dossier.specs.Admission.{Trial, moves, start_line, move_line, point_line, shown_values, step_begins, edge_begins, admit_every_run, admit_some_run, every_run_trials, every_run_lines, some_run_trials, some_run_lines}
use Rattle.dossier.specs.Dossier.{head, start_row, region_row, rank_row, start_point, points, point_conclusions}
use Rattle.dossier.specs.Kinds.{Kind, Lawful, ZeroOutside, NonNegative, by_first_difference}
use Rattle.dossier.specs.Lines.{line_holds}
use Rattle.dossier.specs.Rows.{Row, holds}
use Rattle.dossier.specs.Runs.{GoesOn, Endless, followed, EveryRunLaw, WatchFollows, SomeRunLaw}

abbrev pub AllHold : List Row → List ℤ → Type 0
AllHold [] xs = Unit {0}
AllHold (h ∷ hs) xs = T (holds h xs) × AllHold hs xs

-- where a line holds, every whole-number valuation that satisfies the hypotheses satisfies the conclusion
abbrev pub LineLaw : Type 0
LineLaw = (n : ℕ) (d : ℤ) (ms : List ℤ) (hs : List Row) (c : Row) → T (line_holds n d ms hs c) → T (int_lt (pos 0) d) → NonNegative ms → (xs : List ℤ) → length xs ≡ n → AllHold hs xs → T (holds c xs)

-- the kinds of any count of numbers are lawful
abbrev pub KindsLaw : Type 0
KindsLaw = (n : ℕ) → Lawful (by_first_difference n)

-- outside their modes, and beyond their numbers, their fall rows are zero
abbrev pub OutsideLaw : Type 0
OutsideLaw = (n : ℕ) → ZeroOutside (by_first_difference n)

abbrev pub AllPass : List Trial → Type 0
AllPass [] = Unit {0}
AllPass (t ∷ ts) = T t.passes × AllPass ts

-- each test of an every-run dossier by itself
pub record EveryRunTests (kind : Kind) (cells : List ℤ) : Type 0 where
  pub form : (head cells).form ≡ 1
  pub numbers : (head cells).rank_numbers ≡ kind.numbers
  -- from every state some edge goes on with every letter
  pub watched : (q l : ℕ) → q < (head cells).states → l < 2 ^ (head cells).propositions → GoesOn cells q l
  pub start_lines : (k : ℕ) → k < point_rows (head cells) → T (start_line cells k)
  pub move_lines : (m k : ℕ) → m < moves cells → k < conclusions (head cells) → T (move_line cells kind m k)

-- each test of a some-run dossier by itself
pub record SomeRunTests (kind : Kind) (cells : List ℤ) : Type 0 where
  pub form : (head cells).form ≡ 2
  pub numbers : (head cells).rank_numbers ≡ kind.numbers
  -- the shown values satisfy the start rows, and region rows and rank rows of the start point
  pub starts : (i : ℕ) → i < (head cells).start_rows → T (holds (start_row cells i) (shown_values cells))
  pub region : (i : ℕ) → i < (head cells).region_rows → T (holds (region_row cells (start_point cells) i) (shown_values cells))
  pub rank : (k : ℕ) → k < (head cells).rank_numbers → T (holds (rank_row cells (start_point cells) k) (shown_values cells))
  -- the choice of a point begins there, except in mode 0
  pub steps : (p : ℕ) → p < points (head cells) → T (step_begins cells p)
  pub edges : (p : ℕ) → p < points (head cells) → T (edge_begins cells p)
  pub point_lines : (p k : ℕ) → p < points (head cells) → k < point_conclusions (head cells) → T (point_line cells kind p k)

-- the first test that fails, and the fault that names it
pub record FirstFailing (trials : List Trial) (fault : AdmitFault) : Type 0 where
  pub before : List Trial
  pub failing : Trial
  pub behind : List Trial
  pub order : trials ≡ before ++ failing ∷ behind
  pub passed : AllPass before
  pub fails : failing.passes ≡ false
  pub named : failing.fault ≡ fault

-- how many of the tests are proof lines
abbrev pub is_line : AdmitFault → Bool
is_line (Other form numbers) = false
is_line (NoEdge state letter) = false
is_line (StartLine line) = true
is_line (MoveLine move line) = true
is_line (Shown row) = false
is_line (StepElsewhere p) = false
is_line (EdgeElsewhere p) = false
is_line (PointLine p line) = true

abbrev pub lines_in : List Trial → ℕ
lines_in [] = 0
lines_in (t ∷ ts) = cond (is_line t.fault) 1 0 + lines_in ts

-- a dossier is admitted exactly when every test passes
pub record AdmittedExactly (kind : Kind) (cells : List ℤ) : Type 0 where
  pub every_run : (n : ℕ) → admit_every_run kind cells ≡ Ok n → (n ≡ every_run_lines cells) × AllPass (every_run_trials cells kind)
  pub every_run_back : AllPass (every_run_trials cells kind) → admit_every_run kind cells ≡ Ok (every_run_lines cells)
  pub some_run : (n : ℕ) → admit_some_run kind cells ≡ Ok n → (n ≡ some_run_lines cells) × AllPass (some_run_trials cells kind)
  pub some_run_back : AllPass (some_run_trials cells kind) → admit_some_run kind cells ≡ Ok (some_run_lines cells)

abbrev pub ExactlyLaw : Type 1
ExactlyLaw = (kind : Kind) (cells : List ℤ) → AdmittedExactly kind cells

-- a dossier is admitted exactly when every test passes, and a refusal names the first that fails in the order of the tests
pub record AdmittedByTests (kind : Kind) (cells : List ℤ) : Type 0 where
  pub every_run : (n : ℕ) → (admit_every_run kind cells ≡ Ok n) ↔ ((n ≡ every_run_lines cells) × EveryRunTests kind cells)
  pub every_run_first : (f : AdmitFault) → (admit_every_run kind cells ≡ Err f) ↔ FirstFailing (every_run_trials cells kind) f
  pub every_run_counted : every_run_lines cells ≡ lines_in (every_run_trials cells kind)
  pub some_run : (n : ℕ) → (admit_some_run kind cells ≡ Ok n) ↔ ((n ≡ some_run_lines cells) × SomeRunTests kind cells)
  pub some_run_first : (f : AdmitFault) → (admit_some_run kind cells ≡ Err f) ↔ FirstFailing (some_run_trials cells kind) f
  pub some_run_counted : some_run_lines cells ≡ lines_in (some_run_trials cells kind)

-- so it is at every kind and every list
abbrev pub ByTestsLaw : Type 1
ByTestsLaw = (kind : Kind) (cells : List ℤ) → AdmittedByTests kind cells

-- what admission buys: at a well-formed list and a lawful kind
abbrev pub EveryRunTheorem : Type 1
EveryRunTheorem = (kind : Kind) → Lawful kind → (cells : List ℤ) → well_formed cells ≡ true → (n : ℕ) → admit_every_run kind cells ≡ Ok n → EveryRunLaw cells

abbrev pub SomeRunTheorem : Type 1
SomeRunTheorem = (kind : Kind) → Lawful kind → (cells : List ℤ) → well_formed cells ≡ true → (n : ℕ) → admit_some_run kind cells ≡ Ok n → SomeRunLaw cells

-- the watch follows every open step of the program
abbrev pub FollowsTheorem : Type 1
FollowsTheorem = (kind : Kind) → Lawful kind → (cells : List ℤ) → well_formed cells ≡ true → (n : ℕ) → admit_every_run kind cells ≡ Ok n → WatchFollows cells

-- following the choices is an endless run
abbrev pub FollowedTheorem : Type 1
FollowedTheorem = (kind : Kind) → Lawful kind → (cells : List ℤ) → well_formed cells ≡ true → (n : ℕ) → admit_some_run kind cells ≡ Ok n → Endless cells (followed cells)
