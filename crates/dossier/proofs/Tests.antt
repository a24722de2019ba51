-- A dossier is admitted exactly when each test by itself passes, and a refusal names the first that fails.
use Rattle.std.proofs.Common.{◌≡◌, ℕ, zero, suc, ◌+◌, ◌^◌, ◌<◌, ◌≤◌, Bool, true, false, cond, T, eqb, ◌↔◌, List, [], ◌∷◌, ◌++◌, length, get_or, ℤ, Some, Ok, Err, sym, refl, ap, ◌∙◌, subst, inl, inr, ⊎_elim, add-zero, zero-add, arith, eqb→eq}
use Rattle.std.specs.List.{flat_map}
use Rattle.std.proofs.lemmas.List.{length-append}
use Rattle.std.proofs.lemmas.Bool.{cases_Bool, cases_eq, eq-eqb}
use Rattle.layout.specs.Cells.{both}
use Rattle.layout.specs.Layout.{point_rows, conclusions}
use Rattle.layout.proofs.Count.{both_left, both_right, both_from}
use Rattle.dossier.specs.declared.fault.AdmitFault.{AdmitFault}
use Rattle.dossier.specs.declared.fault.AdmitFault.TheVariants.{NoEdge, StartLine, MoveLine, PointLine}
use Rattle.dossier.specs.Rows.{Row, zero_row, each}
use Rattle.dossier.specs.Dossier.{head, start_row, region_row, rank_row, start_point, start_line_at, move_line_at, move_hypotheses, edge_from, points, point_line_at, point_conclusions, move_mode, choice_mode, choice_step, choice_edge}
use Rattle.dossier.specs.Kinds.{Kind}
use Rattle.dossier.specs.Runs.{GoesOn, matches}
use Rattle.dossier.specs.Admission
use Rattle.dossier.specs.Laws.{AllPass, AllHold, EveryRunTests, SomeRunTests, FirstFailing}
use Rattle.dossier.proofs.Trials.{of_true, both_equal, none_fails, all_passed, verdict_ok, verdict_err, append_passes, first_fails, pass_append, append_pass, pass_joined, joined_pass, pass_each, each_pass, hold_append, append_hold, hold_each, each_hold, length_each}
use Rattle.dossier.proofs.InOrder.{moves_in_order}
use Rattle.dossier.proofs.Moves.{length_in_mode, length_conclusions}

-- lines -------------------------------------------------------------------------------------------

module _ (cells : List ℤ) (at : ℕ → ℕ) (n : ℕ) (hs : List Row) (named : ℕ → AdmitFault) where
  -- line j behind the first k
  abbrev Holds : ℕ → List Row → ℕ → Type 0
  Holds k cs j = T (Admission.line_at cells (at (k + j)) n hs (get_or cs j zero_row))

  each_line_from : (k : ℕ) (cs : List Row) → AllPass (Admission.lines cells at n hs named k cs) → (j : ℕ) → j < length cs → Holds k cs j
  each_line_from k [] h j l = absurd (omega arith)
  each_line_from k (c ∷ cs) h zero l = subst (λ i. T (Admission.line_at cells (at i) n hs c)) (sym (add-zero k)) h.0
  each_line_from k (c ∷ cs) h (suc j) l = subst (λ i. T (Admission.line_at cells (at i) n hs (get_or cs j zero_row))) (omega arith) (each_line_from (suc k) cs h.1 j (omega arith))

  lines_from : (k : ℕ) (cs : List Row) → ((j : ℕ) → j < length cs → Holds k cs j) → AllPass (Admission.lines cells at n hs named k cs)
  lines_from k [] h = tt
  lines_from k (c ∷ cs) h = (
    subst (λ i. T (Admission.line_at cells (at i) n hs c)) (add-zero k) (h 0 (omega arith)),
    lines_from (suc k) cs (λ j l. subst (λ i. T (Admission.line_at cells (at i) n hs (get_or cs j zero_row))) (omega arith) (h (suc j) (omega arith))),
  )

  module _ (count : ℕ) (cs : List Row) (e : length cs ≡ count) where
    pub each_line : AllPass (Admission.lines cells at n hs named 0 cs) → (k : ℕ) → k < count → T (Admission.line_at cells (at k) n hs (get_or cs k zero_row))
    each_line h k l = subst (λ i. T (Admission.line_at cells (at i) n hs (get_or cs k zero_row))) (zero-add k) (each_line_from 0 cs h k (omega arith))

    pub all_lines : ((k : ℕ) → k < count → T (Admission.line_at cells (at k) n hs (get_or cs k zero_row))) → AllPass (Admission.lines cells at n hs named 0 cs)
    all_lines h = lines_from 0 cs (λ k l. subst (λ i. T (Admission.line_at cells (at i) n hs (get_or cs k zero_row))) (sym (zero-add k)) (h k (omega arith)))

-- the edge that goes on from a state with a letter --------------------------------------------------

module _ (cells : List ℤ) (q l : ℕ) where
  abbrev goes : ℕ → Bool
  goes e = both (eqb (edge_from cells e) q) (matches cells e l)

  -- an edge of the first n
  abbrev Edge : ℕ → Type 0
  Edge n = (e : ℕ) × (e < n) × (edge_from cells e ≡ q) × T (matches cells e l)

  found_edge : (n e : ℕ) → T (Admission.found cells (Admission.edge_from_on cells n e q l)) → Edge (e + n)
  found_edge zero e h = absurd h
  found_edge (suc n) e h = elim (cases_Bool (goes e)) [
    | inl is ↦
        let t = of_true _ is in
        (e, omega arith, eqb→eq _ _ (both_left _ _ t), both_right (eqb (edge_from cells e) q) _ t)
    | inr not ↦ subst Edge (omega arith) (found_edge n (suc e) (subst (λ b. T (Admission.found cells (cond b (Some e) (Admission.edge_from_on cells n (suc e) q l)))) not h))
  ]

  edge_found : (n e i : ℕ) → e ≤ i → i < e + n → T (goes i) → T (Admission.found cells (Admission.edge_from_on cells n e q l))
  edge_found zero e i low high h = absurd (omega arith)
  edge_found (suc n) e i low high h = elim (cases_Bool (goes e)) [
    | inl is ↦ subst (λ b. T (Admission.found cells (cond b (Some e) (Admission.edge_from_on cells n (suc e) q l)))) (sym is) tt
    | inr not ↦
        subst (λ b. T (Admission.found cells (cond b (Some e) (Admission.edge_from_on cells n (suc e) q l)))) (sym not)
        (⊎_elim (λ same. absurd (subst T not (subst (λ j. T (goes j)) (sym same) h))) (λ apart. edge_found n (suc e) i (omega arith) (omega arith) h) (cases_eq e i))
  ]

  goes_on : T (Admission.found cells (Admission.edge_for cells q l)) → GoesOn cells q l
  goes_on h = subst Edge (zero-add (head cells).edges) (found_edge (head cells).edges 0 h)

  gone_on : GoesOn cells q l → T (Admission.found cells (Admission.edge_for cells q l))
  gone_on (e, below, from, fits) = edge_found (head cells).edges 0 e (omega arith) (omega arith) (both_from _ _ (of_true _ (eq-eqb _ _ from)) fits)

-- the parts of the tests ----------------------------------------------------------------------------

module _ (cells : List ℤ) where
  pub length_start : length (Admission.start_conclusions cells) ≡ point_rows (head cells)
  length_start = simp (length-append, length_each)

  module _ (kind : Kind) where
    pub length_move_claims : (m : ℕ) → length (Admission.move_claims cells kind m) ≡ conclusions (head cells)
    length_move_claims m =
        let mode = move_mode cells m in
        let t = Admission.move_step cells m in
        let e = Admission.move_edge cells m in
        length_in_mode cells mode (conclusions (head cells)) (Admission.move_conclusions cells kind mode t e) (length_conclusions cells kind mode t e)

    length_choice : (mode t e : ℕ) → length (Admission.choice_conclusions cells kind mode t e) ≡ point_conclusions (head cells)
    length_choice mode t e = simp (length-append, length_each) (omega arith)

    pub length_point_claims : (p : ℕ) → length (Admission.point_claims cells kind p) ≡ point_conclusions (head cells)
    length_point_claims p =
        let mode = choice_mode cells p in
        let t = choice_step cells p in
        let e = choice_edge cells p in
        length_in_mode cells mode (point_conclusions (head cells)) (Admission.choice_conclusions cells kind mode t e) (length_choice mode t e)

  both_called : (form numbers : ℕ) → (head cells).form ≡ form → (head cells).rank_numbers ≡ numbers → T (Admission.called_for cells form numbers).passes
  both_called form numbers p q = both_from _ _ (of_true _ (eq-eqb _ _ p)) (of_true _ (eq-eqb _ _ q))

  abbrev letter_trial : ℕ → ℕ → Admission.Trial
  letter_trial q l = record { passes = Admission.found cells (Admission.edge_for cells q l); fault = NoEdge q l }

  row_trials_hold : (i : ℕ) (rs : List Row) → AllPass (Admission.row_trials cells i rs) → AllHold rs (Admission.shown_values cells)
  row_trials_hold i [] h = tt
  row_trials_hold i (r ∷ rs) h = (h.0, row_trials_hold (suc i) rs h.1)

  hold_row_trials : (i : ℕ) (rs : List Row) → AllHold rs (Admission.shown_values cells) → AllPass (Admission.row_trials cells i rs)
  hold_row_trials i [] h = tt
  hold_row_trials i (r ∷ rs) h = (h.0, hold_row_trials (suc i) rs h.1)

-- every-run form ------------------------------------------------------------------------------------

module _ (kind : Kind) (cells : List ℤ) where
  abbrev all_moves : List Admission.Trial
  all_moves = flat_map (λ t. flat_map (λ e. Admission.move_trials cells kind t e) (each (head cells).edges (λ e. e))) (each (head cells).steps (λ t. t))

  pub record EveryRunParts : Type 0 where
    pub called : ((head cells).form ≡ 1) × ((head cells).rank_numbers ≡ kind.numbers)
    pub watched : (q l : ℕ) → q < (head cells).states → l < 2 ^ (head cells).propositions → GoesOn cells q l
    pub start : AllPass (Admission.start_trials cells)
    pub moves : (m : ℕ) → m < Admission.moves cells → AllPass (Admission.trials_of_move cells kind m)

  pub every_run_parts : AllPass (Admission.every_run_trials cells kind) → EveryRunParts
  every_run_parts pass =
      let behind = pass_append (Admission.watch_trials cells) (Admission.start_trials cells ++ all_moves) pass.1 in
      let parts = pass_append (Admission.start_trials cells) all_moves behind.1 in
      record {
        called = both_equal (head cells).form 1 (head cells).rank_numbers kind.numbers pass.0;
        watched = λ q l h k. goes_on cells q l
            (pass_each (2 ^ (head cells).propositions) (letter_trial cells q) (pass_joined (Admission.state_trials cells) (head cells).states behind.0 q h) l k);
        start = parts.0;
        moves = pass_joined (Admission.trials_of_move cells kind) (Admission.moves cells) (subst AllPass (moves_in_order kind cells) parts.1);
      }

  pub every_run_each : AllPass (Admission.every_run_trials cells kind) → EveryRunTests kind cells
  every_run_each pass =
      let p = every_run_parts pass in
      record {
        form = p.called.0;
        numbers = p.called.1;
        watched = p.watched;
        start_lines = each_line cells (start_line_at (head cells)) (head cells).start_rows (Admission.start_hypotheses cells) StartLine
            (point_rows (head cells)) (Admission.start_conclusions cells) (length_start cells) p.start;
        move_lines = λ m k h l.
            each_line cells (move_line_at (head cells) m) (move_hypotheses (head cells)) (Admission.move_hypotheses_of cells (Admission.move_step cells m) (Admission.move_edge cells m)) (MoveLine m)
            (conclusions (head cells)) (Admission.move_claims cells kind m) (length_move_claims cells kind m) (p.moves m h) k l;
      }

  pub every_run_all : EveryRunTests kind cells → AllPass (Admission.every_run_trials cells kind)
  every_run_all t = (
    both_called cells 1 kind.numbers t.form t.numbers,
    append_pass (Admission.watch_trials cells) (Admission.start_trials cells ++ all_moves)
        (joined_pass (Admission.state_trials cells) (head cells).states (λ q h. each_pass (2 ^ (head cells).propositions) (letter_trial cells q) (λ l k. gone_on cells q l (t.watched q l h k))))
        (append_pass (Admission.start_trials cells) all_moves
        (all_lines cells (start_line_at (head cells)) (head cells).start_rows (Admission.start_hypotheses cells) StartLine
        (point_rows (head cells)) (Admission.start_conclusions cells) (length_start cells) t.start_lines)
        (subst AllPass (sym (moves_in_order kind cells)) (joined_pass (Admission.trials_of_move cells kind) (Admission.moves cells) (λ m h.
        all_lines cells (move_line_at (head cells) m) (move_hypotheses (head cells)) (Admission.move_hypotheses_of cells (Admission.move_step cells m) (Admission.move_edge cells m)) (MoveLine m)
        (conclusions (head cells)) (Admission.move_claims cells kind m) (length_move_claims cells kind m) (λ k l. t.move_lines m k h l))))),
  )

-- some-run form -------------------------------------------------------------------------------------

module _ (kind : Kind) (cells : List ℤ) where
  abbrev regions : List Row
  regions = each (head cells).region_rows (region_row cells (start_point cells))

  abbrev ranks : List Row
  ranks = each (head cells).rank_numbers (rank_row cells (start_point cells))

  abbrev all_points : List Admission.Trial
  all_points = flat_map (Admission.choice_trials cells kind) (each (points (head cells)) (λ p. p))

  pub record SomeRunParts : Type 0 where
    pub called : ((head cells).form ≡ 2) × ((head cells).rank_numbers ≡ kind.numbers)
    pub start : AllHold (Admission.start_hypotheses cells) (Admission.shown_values cells)
    pub point : AllHold (Admission.point_hypotheses cells (start_point cells)) (Admission.shown_values cells)
    pub choices : (p : ℕ) → p < points (head cells) → AllPass (Admission.choice_trials cells kind p)

  pub some_run_parts : AllPass (Admission.some_run_trials cells kind) → SomeRunParts
  some_run_parts pass =
      let parts = pass_append (Admission.row_trials cells 0 (Admission.shown_rows cells)) all_points pass.1 in
      let shown = hold_append (Admission.start_hypotheses cells) (Admission.point_hypotheses cells (start_point cells)) (Admission.shown_values cells) (row_trials_hold cells 0 (Admission.shown_rows cells) parts.0) in
      record {
        called = both_equal (head cells).form 2 (head cells).rank_numbers kind.numbers pass.0;
        start = shown.0;
        point = shown.1;
        choices = pass_joined (Admission.choice_trials cells kind) (points (head cells)) parts.1;
      }

  pub some_run_each : AllPass (Admission.some_run_trials cells kind) → SomeRunTests kind cells
  some_run_each pass =
      let p = some_run_parts pass in
      let xs = Admission.shown_values cells in
      let point = hold_append regions ranks xs p.point in
      record {
        form = p.called.0;
        numbers = p.called.1;
        starts = hold_each (head cells).start_rows (start_row cells) xs p.start;
        region = hold_each (head cells).region_rows (region_row cells (start_point cells)) xs point.0;
        rank = hold_each (head cells).rank_numbers (rank_row cells (start_point cells)) xs point.1;
        steps = λ q h. (p.choices q h).0;
        edges = λ q h. (p.choices q h).1.0;
        point_lines = λ q k h l.
            each_line cells (point_line_at (head cells) q) (point_rows (head cells)) (Admission.point_hypotheses cells q) (PointLine q)
            (point_conclusions (head cells)) (Admission.point_claims cells kind q) (length_point_claims cells kind q) (p.choices q h).1.1 k l;
      }

  pub some_run_all : SomeRunTests kind cells → AllPass (Admission.some_run_trials cells kind)
  some_run_all t =
      let xs = Admission.shown_values cells in (
        both_called cells 2 kind.numbers t.form t.numbers,
        append_pass (Admission.row_trials cells 0 (Admission.shown_rows cells)) all_points
            (hold_row_trials cells 0 (Admission.shown_rows cells)
            (append_hold (Admission.start_hypotheses cells) (Admission.point_hypotheses cells (start_point cells)) xs
            (each_hold (head cells).start_rows (start_row cells) xs t.starts)
            (append_hold regions ranks xs
            (each_hold (head cells).region_rows (region_row cells (start_point cells)) xs t.region)
            (each_hold (head cells).rank_numbers (rank_row cells (start_point cells)) xs t.rank))))
            (joined_pass (Admission.choice_trials cells kind) (points (head cells)) (λ q h. (
              t.steps q h,
              (
                t.edges q h,
                all_lines cells (point_line_at (head cells) q) (point_rows (head cells)) (Admission.point_hypotheses cells q) (PointLine q)
                    (point_conclusions (head cells)) (Admission.point_claims cells kind q) (length_point_claims cells kind q) (λ k l. t.point_lines q k h l),
              ),
            ))),
      )

-- the verdict ---------------------------------------------------------------------------------------

failing_from : (b : Bool) (t : Admission.Trial) (ts : List Admission.Trial) (f : AdmitFault) → t.passes ≡ b → Admission.first_failure (t ∷ ts) ≡ Some f
    → (Admission.first_failure ts ≡ Some f → FirstFailing ts f) → FirstFailing (t ∷ ts) f
failing_from true t ts f e h more =
    let later = more (sym (ap (λ b. cond b (Admission.first_failure ts) (Some t.fault)) e) ∙ h) in
    record { before = t ∷ later.before; failing = later.failing; behind = later.behind; order = ap (λ l. t ∷ l) later.order; passed = (of_true _ e, later.passed); fails = later.fails; named = later.named }
failing_from false t ts f e h more =
    let here : Some t.fault ≡ Some f = sym (ap (λ b. cond b (Admission.first_failure ts) (Some t.fault)) e) ∙ h in
    record { before = []; failing = t; behind = ts; order = refl; passed = tt; fails = e; named = cc }

first_failing : (ts : List Admission.Trial) (f : AdmitFault) → Admission.first_failure ts ≡ Some f → FirstFailing ts f
first_failing [] f h = absurd (let z : ◌≡◌ {A = ℕ} 0 1 = cc in omega arith)
first_failing (t ∷ ts) f h = failing_from t.passes t ts f refl h (first_failing ts f)

failing_first : (ts : List Admission.Trial) (f : AdmitFault) → FirstFailing ts f → Admission.first_failure ts ≡ Some f
failing_first ts f w =
    ap Admission.first_failure w.order
    ∙ append_passes w.before (w.failing ∷ w.behind) (all_passed w.before w.passed)
    ∙ first_fails w.failing w.behind w.fails
    ∙ ap Some w.named

-- the verdict over tests of which each is known by itself
module _ (count : ℕ) (ts : List Admission.Trial) {Tests : Type 0} (each_one : AllPass ts → Tests) (all_of : Tests → AllPass ts) where
  pub admitted : (n : ℕ) → (Admission.verdict count (Admission.first_failure ts) ≡ Ok n) ↔ ((n ≡ count) × Tests)
  admitted n = (
    λ h. let v = verdict_ok count n (Admission.first_failure ts) h in (v.0, each_one (none_fails ts v.1)),
    λ h. ap (Admission.verdict count) (all_passed ts (all_of h.1)) ∙ ap Ok (sym h.0),
  )

  pub refused : (f : AdmitFault) → (Admission.verdict count (Admission.first_failure ts) ≡ Err f) ↔ FirstFailing ts f
  refused f = (
    λ h. first_failing ts f (verdict_err count f (Admission.first_failure ts) h),
    λ h. ap (Admission.verdict count) (failing_first ts f h),
  )
