-- In an admitted some-run dossier the choices can be followed from the shown values for ever, and marked points are visited again and again.
use Rattle.std.proofs.Common.{◌≡◌, ℕ, zero, suc, ◌+◌, ◌/◌, ◌%◌, ◌<◌, ◌≤◌, true, cond, T, eqb, List, ◌++◌, ℤ, sym, refl, ap, ◌∙◌, subst, ⊎_elim, le_trans, le_of_eq, le_refl, le-add_right, add-le-add, add-one, arith, eqb→eq}
use lib.Arith.{digits_lt}
use Rattle.std.proofs.lemmas.Nat.{div-mul-add, mod-mul-add}
use Rattle.std.proofs.lemmas.Bool.{cases_eq, ne_eqb}
use Rattle.layout.specs.Cells.{well_formed}
use Rattle.layout.specs.Layout.{point_rows}
use Rattle.dossier.specs.declared.fault.AdmitFault.TheVariants.{PointLine}
use Rattle.dossier.specs.Rows.{Row, holds}
use Rattle.dossier.specs.Dossier.{head, start_row, step_from, guard, edge_from, shown, choice_mode, choice_step, choice_edge, points, point_line_at, point_conclusions}
use Rattle.dossier.specs.Kinds.{Kind, Lawful}
use Rattle.dossier.specs.Runs.{Situation, Can, Start, Endless, SomeRunLaw, point, marked, rank, after, shown_start, followed, marked_below}
use Rattle.dossier.specs.Admission.{some_run_trials, choice_trials, choice_conclusions, shown_values, point_hypotheses, guard_rows, edge_row, edge_rows, move_conclusions, in_mode}
use Rattle.dossier.specs.Laws.{AllPass, AllHold}
use Rattle.dossier.specs.Ranges.{SomeRunRanges, ProgramRanges}
use Rattle.dossier.proofs.Trials.{is_true, hold_append, hold_each, length_each}
use Rattle.dossier.proofs.EdgeRows.{holding_matches}
use Rattle.dossier.proofs.CellRanges.{program_ranges, some_run_ranges}
use Rattle.dossier.proofs.LineLaw.{lines_hold}
use Rattle.dossier.proofs.Tests.{SomeRunParts, some_run_parts, length_point_claims}
use Rattle.dossier.proofs.Moves.{in_mode_rows, within_rows, rows_within, Sound, Moved, moved, marked_later}

-- how often marked situations are visited ---------------------------------------------------------

module _ (cells : List ℤ) (run : ℕ → Situation) where
  below_mono : (n j : ℕ) → n ≤ j → marked_below cells n run ≤ marked_below cells j run
  below_mono n zero h = let e : n ≡ 0 = omega arith in le_of_eq (ap (λ k. marked_below cells k run) e)
  below_mono n (suc j) h =
      ⊎_elim (λ e. le_of_eq (ap (λ k. marked_below cells k run) e)) (λ e. le_trans (below_mono n j (omega arith)) (le-add_right (marked_below cells j run) (cond (marked cells (run j)) 1 0))) (cases_eq n (suc j))

  -- one more visit is counted past a marked situation
  counted : (n j : ℕ) → n ≤ j → T (marked cells (run j)) → marked_below cells n run + 1 ≤ marked_below cells (suc j) run
  counted n j h m =
      let one : cond (marked cells (run j)) 1 0 ≡ 1 = ap (λ b. cond b 1 0) (is_true (marked cells (run j)) m) in
      subst (λ c. marked_below cells n run + 1 ≤ marked_below cells j run + c) (sym one) (add-le-add (below_mono n j h) (le_refl 1))

  visits : ((k : ℕ) → (j : ℕ) × (k ≤ j) × T (marked cells (run j))) → (k : ℕ) → (n : ℕ) × (k ≤ marked_below cells n run)
  visits later zero = (0, omega arith)
  visits later (suc k) =
      let before = visits later k in
      let next = later before.0 in
      (suc next.0, omega (arith, before.1, counted before.0 next.0 next.1 next.2))

-- some run ----------------------------------------------------------------------------------------

-- a test that mode 0 skips
unskipped : (mode a b : ℕ) → 1 ≤ mode → T (cond (eqb mode 0) true (eqb a b)) → a ≡ b
unskipped mode a b l h =
    eqb→eq a b (subst (λ c. T (cond c true (eqb a b))) (ne_eqb mode 0 (λ e. omega arith)) h)

module _ (kind : Kind) (lawful : Lawful kind) (cells : List ℤ) (formed : well_formed cells ≡ true) (pass : AllPass (some_run_trials cells kind)) where
  parts : SomeRunParts kind cells
  parts = some_run_parts kind cells pass

  ranges : SomeRunRanges cells
  ranges = some_run_ranges cells formed parts.called.0

  program : ProgramRanges cells
  program = program_ranges cells formed

  started : Start cells (shown_start cells)
  started = record {
    place_is = refl;
    state_is = refl;
    sized = length_each (head cells).variables (shown cells);
    starts = hold_each (head cells).start_rows (start_row cells) (shown_values cells) parts.start;
  }

  -- at a point, and within its region
  record Stands (s : Situation) : Type 0 where
    place_below : s.place < (head cells).places
    state_below : s.state < (head cells).states
    sound : Sound cells s

  record Chosen (s : Situation) : Type 0 where
    mode_low : 1 ≤ choice_mode cells (point cells s)
    can : Can cells (choice_step cells (point cells s)) (choice_edge cells (point cells s)) s
    goes : Moved cells kind s (after cells (choice_step cells (point cells s)) (choice_edge cells (point cells s)) s)

  choose : (s : Situation) → Stands s → Chosen s
  choose s stands =
      let p : ℕ = point cells s in
      let t : ℕ = choice_step cells p in
      let e : ℕ = choice_edge cells p in
      let mode : ℕ = choice_mode cells p in
      let xs : List ℤ = s.values in
      let sound : Sound cells s = stands.sound in
      let below : p < points (head cells) = digits_lt stands.place_below stands.state_below in
      let passes : AllPass (choice_trials cells kind p) = parts.choices p below in
      let ends : List Row = move_conclusions cells kind mode t e in
      let rows : List Row = choice_conclusions cells kind mode t e in
      let n : ℕ = point_conclusions (head cells) in
      let all : AllHold (in_mode cells mode n rows) xs =
      lines_hold cells (point_line_at (head cells) p) (point_rows (head cells)) (point_hypotheses cells p) (PointLine p) xs sound.sized
      (within_rows cells s sound.within) n (in_mode cells mode n rows) (length_point_claims cells kind p) (λ k l. ranges.point_lines p k below l) passes.1.1 in
      let mode_shown = in_mode_rows cells mode n rows xs (omega (arith, program.counts_in.rank_numbers_low)) all in
      let guarded = hold_append (guard_rows cells t) (edge_rows cells e (step_from cells t) ++ ends) xs mode_shown.1 in
      let edged = hold_append (edge_rows cells e (step_from cells t)) ends xs guarded.1 in
      let step_here : step_from cells t ≡ s.place =
      unskipped mode (step_from cells t) (p / (head cells).states) mode_shown.0 passes.0 ∙ div-mul-add s.place (head cells).states s.state stands.state_below in
      let edge_here : edge_from cells e ≡ s.state =
      unskipped mode (edge_from cells e) (p % (head cells).states) mode_shown.0 passes.1.0 ∙ mod-mul-add s.place (head cells).states s.state stands.state_below in
      record {
        mode_low = mode_shown.0;
        can = record {
          step_is = ranges.steps p below;
          step_here = step_here;
          guarded = hold_each (head cells).guards (guard cells t) xs guarded.0;
          edge_is = ranges.edges p below;
          edge_here = edge_here;
          matching = holding_matches cells xs s.place e (program.must e (ranges.edges p below)) (program.must_not e (ranges.edges p below)) (program.apart e (ranges.edges p below))
              (subst (λ q. (i : ℕ) → i < (head cells).propositions → T (holds (edge_row cells e q i) xs)) step_here
              (hold_each (head cells).propositions (edge_row cells e (step_from cells t)) xs edged.0));
        };
        goes = moved kind lawful cells parts.called.1 mode t e s step_here edge_here sound edged.1 mode_shown.0 (ranges.modes p below);
      }

  stands : (i : ℕ) → Stands (followed cells i)
  stands zero = record {
    place_below = program.counts_in.start_place_high;
    state_below = program.counts_in.start_state_high;
    sound = record { sized = started.sized; within = rows_within cells (shown_start cells) parts.point };
  }
  stands (suc i) =
      let c = choose (followed cells i) (stands i) in
      record {
        place_below = program.step_to (choice_step cells (point cells (followed cells i))) c.can.step_is;
        state_below = program.edge_to (choice_edge cells (point cells (followed cells i))) c.can.edge_is;
        sound = c.goes.sound;
      }

  chosen : (i : ℕ) → Chosen (followed cells i)
  chosen i = choose (followed cells i) (stands i)

  pub followed_endless : Endless cells (followed cells)
  followed_endless = record {
    begins = started;
    goes_on = λ i. record {
      step = choice_step cells (point cells (followed cells i));
      edge = choice_edge cells (point cells (followed cells i));
      can = (chosen i).can;
      leads = ap (followed cells) (add-one i);
    };
  }

  pub some_run : SomeRunLaw cells
  some_run = record {
    starts = started;
    chosen = λ i e. omega (arith, (chosen i).mode_low);
    can = λ i. (chosen i).can;
    within = λ i. (stands i).sound.within;
    recurs = visits cells (followed cells) (marked_later kind lawful cells parts.called.1 (followed cells) (λ i. (stands i).sound)
        (λ i unmarked. subst (λ j. kind.falls (rank cells (followed cells i)) (rank cells (followed cells j))) (sym (add-one i)) ((chosen i).goes.falls unmarked)));
  }
