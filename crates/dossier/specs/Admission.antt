-- Admission: the tests of a dossier in their order. The first that fails is named; a dossier that passes all is admitted.
use Rattle.std.specs.Prelude.{ℕ, zero, suc, ◌+◌, ◌*◌, ◌/◌, ◌%◌, ◌^◌, Bool, true, false, cond, List, [], ◌∷◌, ◌++◌, ℤ, Some, None, Ok, Err, Option, Result, ◌==◌, slice_index_or}
use Rattle.std.specs.List.{flat_map}
use Rattle.layout.specs.Layout.{Counts, point_rows, conclusions}
use Rattle.layout.specs.Cells.{both}
use Rattle.dossier.specs.declared.fault.AdmitFault.{AdmitFault}
use Rattle.dossier.specs.declared.fault.AdmitFault.TheVariants.{Other, NoEdge, StartLine, MoveLine, Shown, StepElsewhere, EdgeElsewhere, PointLine}
use Rattle.dossier.specs.Rows.{Row, holds, zero_row, minus_one, negated, less, taken, each}
use Rattle.dossier.specs.Dossier.{head, cell, start_row, step_from, step_to, update, guard, is_place, proposition_place, proposition_row, marked_state, edge_from, edge_to, must, must_not, point_of, region_row, rank_row, start_point, move_mode, shown, choice_mode, choice_step, choice_edge, points, start_line_at, move_line_at, move_hypotheses, point_line_at, point_conclusions, bit}
use Rattle.dossier.specs.Kinds.{Kind, fall_row}
use Rattle.dossier.specs.Lines.{line_holds}
use Rattle.dossier.specs.Runs.{matches}

-- a test and the fault that names its failure
pub record Trial : Type 0 where
  pub passes : Bool
  pub fault : AdmitFault

abbrev pub first_failure : List Trial → Option AdmitFault
first_failure [] = None
first_failure (t ∷ ts) = cond t.passes (first_failure ts) (Some t.fault)

abbrev pub verdict : ℕ → Option AdmitFault → Result ℕ AdmitFault
verdict lines None = Ok lines
verdict lines (Some fault) = Err fault

-- form and count of rank numbers are those called for
abbrev pub called_by : Counts → ℕ → ℕ → Trial
called_by h form numbers = record { passes = both (h.form == form) (h.rank_numbers == numbers); fault = Other h.form h.rank_numbers }

module _ (cells : List ℤ) where
  -- rows of an edge's propositions at a place --------------------------------------------------

  -- a demand on the place: the zero row where it is met, else the row −1
  abbrev pub demand : Bool → Row
  demand true = zero_row
  demand false = minus_one

  abbrev pub wanted : ℕ → ℕ → Row
  wanted place i = cond (is_place cells i) (demand (place == proposition_place cells i)) (proposition_row cells i)

  abbrev pub unwanted : ℕ → ℕ → Row
  unwanted place i = cond (is_place cells i) (demand (cond (place == proposition_place cells i) false true)) (less (negated (proposition_row cells i)) 1)

  -- the row of proposition i for edge e at a place
  abbrev pub edge_row : ℕ → ℕ → ℕ → Row
  edge_row e place i = cond (bit i (must cells e)) (wanted place i) (cond (bit i (must_not cells e)) (unwanted place i) zero_row)

  -- hypotheses and conclusions -----------------------------------------------------------------

  abbrev pub start_hypotheses : List Row
  start_hypotheses = each (head cells).start_rows (start_row cells)

  abbrev pub point_hypotheses : ℕ → List Row
  point_hypotheses p = each (head cells).region_rows (region_row cells p) ++ each (head cells).rank_numbers (rank_row cells p)

  abbrev pub edge_rows : ℕ → ℕ → List Row
  edge_rows e place = each (head cells).propositions (edge_row e place)

  abbrev pub guard_rows : ℕ → List Row
  guard_rows t = each (head cells).guards (guard cells t)

  -- the points that a move joins
  abbrev pub first_point : ℕ → ℕ → ℕ
  first_point t e = point_of cells (step_from cells t) (edge_from cells e)

  abbrev pub last_point : ℕ → ℕ → ℕ
  last_point t e = point_of cells (step_to cells t) (edge_to cells e)

  abbrev pub move_hypotheses_of : ℕ → ℕ → List Row
  move_hypotheses_of t e = point_hypotheses (first_point t e) ++ (guard_rows t ++ edge_rows e (step_from cells t))

  -- a row of the last point taken at the step
  abbrev pub at_step : ℕ → Row → Row
  at_step t r = taken (head cells).variables r (update cells t)

  module _ (kind : Kind) where
    -- from a marked point all fall rows are zero
    abbrev pub fall_rows : ℕ → ℕ → ℕ → List Row
    fall_rows mode t e = each (head cells).rank_numbers λ i.
        cond (marked_state cells (edge_from cells e)) zero_row
        (fall_row (kind.fall mode i) (rank_row cells (first_point t e)) (λ k. at_step t (rank_row cells (last_point t e) k)))

    abbrev pub move_conclusions : ℕ → ℕ → ℕ → List Row
    move_conclusions mode t e =
        each (head cells).region_rows (λ i. at_step t (region_row cells (last_point t e) i)) ++
        (each (head cells).rank_numbers (λ k. at_step t (rank_row cells (last_point t e) k)) ++ fall_rows mode t e)

  -- in mode 0 the first conclusion is the row −1, and every other is the zero row
  abbrev pub impossible : ℕ → List Row
  impossible zero = []
  impossible (suc n) = minus_one ∷ each n (λ i. zero_row)

  abbrev pub in_mode : ℕ → ℕ → List Row → List Row
  in_mode mode n rows = cond (mode == 0) (impossible n) rows

  -- what the lines of move m are to show
  abbrev pub move_step : ℕ → ℕ
  move_step m = m / (head cells).edges

  abbrev pub move_edge : ℕ → ℕ
  move_edge m = m % (head cells).edges

  abbrev pub move_claims : Kind → ℕ → List Row
  move_claims kind m = in_mode (move_mode cells m) (conclusions (head cells)) (move_conclusions kind (move_mode cells m) (move_step m) (move_edge m))

  -- what the lines of point p are to show
  abbrev pub choice_conclusions : Kind → ℕ → ℕ → ℕ → List Row
  choice_conclusions kind mode t e = guard_rows t ++ (edge_rows e (step_from cells t) ++ move_conclusions kind mode t e)

  abbrev pub point_claims : Kind → ℕ → List Row
  point_claims kind p = in_mode (choice_mode cells p) (point_conclusions (head cells)) (choice_conclusions kind (choice_mode cells p) (choice_step cells p) (choice_edge cells p))

  -- lines --------------------------------------------------------------------------------------

  -- the line whose divisor stands at a place, with its multipliers behind
  abbrev pub line_at : ℕ → ℕ → List Row → Row → Bool
  line_at i n hypotheses conclusion = line_holds (head cells).variables (cell cells i) (each n (λ k. cell cells (i + 1 + k))) hypotheses conclusion

  -- conclusions in order, each with its line: `at` tells where a line stands and `named` its fault
  abbrev pub lines : (ℕ → ℕ) → ℕ → List Row → (ℕ → AdmitFault) → ℕ → List Row → List Trial
  lines at n hypotheses named k [] = []
  lines at n hypotheses named k (c ∷ cs) = record { passes = line_at (at k) n hypotheses c; fault = named k } ∷ lines at n hypotheses named (suc k) cs

  -- the tests of each form ---------------------------------------------------------------------

  abbrev pub called_for : ℕ → ℕ → Trial
  called_for form numbers = record { passes = both ((head cells).form == form) ((head cells).rank_numbers == numbers); fault = Other (head cells).form (head cells).rank_numbers }

  -- the lowest-numbered edge from a state that matches a letter
  abbrev pub edge_from_on : ℕ → ℕ → ℕ → ℕ → Option ℕ
  edge_from_on zero e state l = None
  edge_from_on (suc n) e state l = cond (both (edge_from cells e == state) (matches cells e l)) (Some e) (edge_from_on n (suc e) state l)

  abbrev pub edge_for : ℕ → ℕ → Option ℕ
  edge_for state l = edge_from_on (head cells).edges 0 state l

  abbrev pub found : Option ℕ → Bool
  found None = false
  found (Some e) = true

  -- a watch state with every letter, and every watch state
  abbrev pub state_trials : ℕ → List Trial
  state_trials q = each (2 ^ (head cells).propositions) (λ l. record { passes = found (edge_for q l); fault = NoEdge q l })

  abbrev pub watch_trials : List Trial
  watch_trials = flat_map state_trials (each (head cells).states (λ q. q))

  abbrev pub start_conclusions : List Row
  start_conclusions = point_hypotheses (start_point cells)

  -- start line k
  abbrev pub start_line : ℕ → Bool
  start_line k = line_at (start_line_at (head cells) k) (head cells).start_rows start_hypotheses (slice_index_or start_conclusions k zero_row)

  abbrev pub start_trials : List Trial
  start_trials = lines (start_line_at (head cells)) (head cells).start_rows start_hypotheses StartLine 0 start_conclusions

  -- line k of move m
  abbrev pub move_line : Kind → ℕ → ℕ → Bool
  move_line kind m k = line_at (move_line_at (head cells) m k) (move_hypotheses (head cells)) (move_hypotheses_of (move_step m) (move_edge m)) (slice_index_or (move_claims kind m) k zero_row)

  abbrev pub move_trials : Kind → ℕ → ℕ → List Trial
  move_trials kind t e =
      let m : ℕ = t * (head cells).edges + e in
      lines (move_line_at (head cells) m) (move_hypotheses (head cells)) (move_hypotheses_of t e) (MoveLine m) 0
      (in_mode (move_mode cells m) (conclusions (head cells)) (move_conclusions kind (move_mode cells m) t e))

  -- the same by the number of the move
  abbrev pub trials_of_move : Kind → ℕ → List Trial
  trials_of_move kind m = lines (move_line_at (head cells) m) (move_hypotheses (head cells)) (move_hypotheses_of (move_step m) (move_edge m)) (MoveLine m) 0 (move_claims kind m)

  abbrev pub moves : ℕ
  moves = (head cells).steps * (head cells).edges

  abbrev pub every_run_trials : Kind → List Trial
  every_run_trials kind =
      called_for 1 kind.numbers ∷ watch_trials ++ (start_trials ++
      flat_map (λ t. flat_map (λ e. move_trials kind t e) (each (head cells).edges (λ e. e))) (each (head cells).steps (λ t. t)))

  abbrev pub shown_values : List ℤ
  shown_values = each (head cells).variables (shown cells)

  abbrev pub row_trials : ℕ → List Row → List Trial
  row_trials i [] = []
  row_trials i (r ∷ rs) = record { passes = holds r shown_values; fault = Shown i } ∷ row_trials (suc i) rs

  -- the rows that the shown values are to satisfy
  abbrev pub shown_rows : List Row
  shown_rows = start_hypotheses ++ point_hypotheses (start_point cells)

  -- whether the choice of a point begins there; in mode 0 it need not
  abbrev pub step_begins : ℕ → Bool
  step_begins p = cond (choice_mode cells p == 0) true (step_from cells (choice_step cells p) == p / (head cells).states)

  abbrev pub edge_begins : ℕ → Bool
  edge_begins p = cond (choice_mode cells p == 0) true (edge_from cells (choice_edge cells p) == p % (head cells).states)

  -- line k of point p
  abbrev pub point_line : Kind → ℕ → ℕ → Bool
  point_line kind p k = line_at (point_line_at (head cells) p k) (point_rows (head cells)) (point_hypotheses p) (slice_index_or (point_claims kind p) k zero_row)

  abbrev pub begin_trials : ℕ → List Trial
  begin_trials p = record { passes = step_begins p; fault = StepElsewhere p } ∷ record { passes = edge_begins p; fault = EdgeElsewhere p } ∷ []

  abbrev pub point_trials : Kind → ℕ → List Trial
  point_trials kind p = lines (point_line_at (head cells) p) (point_rows (head cells)) (point_hypotheses p) (PointLine p) 0 (point_claims kind p)

  abbrev pub choice_trials : Kind → ℕ → List Trial
  choice_trials kind p =
      let t : ℕ = choice_step cells p in
      let e : ℕ = choice_edge cells p in
      let mode : ℕ = choice_mode cells p in
      record { passes = cond (mode == 0) true (step_from cells t == p / (head cells).states); fault = StepElsewhere p } ∷
      record { passes = cond (mode == 0) true (edge_from cells e == p % (head cells).states); fault = EdgeElsewhere p } ∷
      lines (point_line_at (head cells) p) (point_rows (head cells)) (point_hypotheses p) (PointLine p) 0
      (in_mode mode (point_conclusions (head cells)) (guard_rows t ++ (edge_rows e (step_from cells t) ++ move_conclusions kind mode t e)))

  abbrev pub some_run_trials : Kind → List Trial
  some_run_trials kind =
      called_for 2 kind.numbers ∷ row_trials 0 (start_hypotheses ++ point_hypotheses (start_point cells)) ++
      flat_map (choice_trials kind) (each (points (head cells)) (λ p. p))

  -- how many proof lines a full admission judges
  abbrev pub every_run_lines : ℕ
  every_run_lines = point_rows (head cells) + (head cells).steps * (head cells).edges * conclusions (head cells)

  abbrev pub some_run_lines : ℕ
  some_run_lines = points (head cells) * point_conclusions (head cells)

-- the outcome of admission: the count of proof lines judged, or the first test that fails
unfoldable pub admit_every_run : Kind → List ℤ → Result ℕ AdmitFault
admit_every_run kind cells = verdict (every_run_lines cells) (first_failure (every_run_trials cells kind))

unfoldable pub admit_some_run : Kind → List ℤ → Result ℕ AdmitFault
admit_some_run kind cells = verdict (some_run_lines cells) (first_failure (some_run_trials cells kind))
