-- In a run of an admitted every-run dossier the watch goes on at every letter, each situation is within its region, and an endless run comes to marked points again and again.
use Rattle.std.proofs.Common.{◌≡◌, ℕ, zero, suc, ◌+◌, ◌*◌, ◌/◌, ◌<◌, true, T, List, ◌++◌, ℤ, sym, ap, subst, ap₂, add-one, arith}
use lib.Arith.{digits_lt}
use Rattle.std.proofs.lemmas.Nat.{div-mul-add, mod-mul-add}
use Rattle.layout.specs.Cells.{well_formed}
use Rattle.layout.specs.Layout.{point_rows, conclusions}
use Rattle.dossier.specs.declared.fault.AdmitFault.TheVariants.{StartLine, MoveLine}
use Rattle.dossier.specs.Rows.{Row, holds}
use Rattle.dossier.specs.Dossier.{head, start_row, step_from, guard, start_point, start_line_at, point_of, move_mode, move_line_at, move_hypotheses}
use Rattle.dossier.specs.Kinds.{Kind, Lawful}
use Rattle.dossier.specs.Runs.{Situation, Open, Can, Move, Start, Reached, begins, goes_on, Endless, EveryRunLaw, WatchFollows, letter, point}
use Rattle.dossier.specs.Admission.{Trial, every_run_trials, lines, start_hypotheses, start_conclusions, point_hypotheses, guard_rows, edge_row, edge_rows, first_point, move_hypotheses_of, move_conclusions, in_mode}
use Rattle.dossier.specs.Laws.{AllPass, AllHold}
use Rattle.dossier.specs.Ranges.{EveryRunRanges, ProgramRanges}
use Rattle.dossier.proofs.Trials.{append_hold, each_hold}
use Rattle.dossier.proofs.EdgeRows.{matching_holds}
use Rattle.dossier.proofs.Masks.{letter_low}
use Rattle.dossier.proofs.CellRanges.{program_ranges, every_run_ranges}
use Rattle.dossier.proofs.LineLaw.{lines_hold}
use Rattle.dossier.proofs.Tests.{EveryRunParts, every_run_parts, length_start}
use Rattle.dossier.proofs.Moves.{in_mode_rows, length_in_mode, length_conclusions, within_rows, rows_within, Sound, Moved, moved, marked_later}

module _ (kind : Kind) (lawful : Lawful kind) (cells : List ℤ) (formed : well_formed cells ≡ true) (pass : AllPass (every_run_trials cells kind)) where
  parts : EveryRunParts kind cells
  parts = every_run_parts kind cells pass

  ranges : EveryRunRanges cells
  ranges = every_run_ranges cells formed parts.called.0

  program : ProgramRanges cells
  program = program_ranges cells formed

  -- the lines of a move, by its number and by its step and edge
  abbrev trials_of : ℕ → ℕ → ℕ → List Trial
  trials_of m t e = lines cells (move_line_at (head cells) m) (move_hypotheses (head cells)) (move_hypotheses_of cells t e) (MoveLine m) 0
      (in_mode cells (move_mode cells m) (conclusions (head cells)) (move_conclusions cells kind (move_mode cells m) t e))

  step_edge_pass : (t e : ℕ) → t < (head cells).steps → e < (head cells).edges → AllPass (trials_of (t * (head cells).edges + e) t e)
  step_edge_pass t e h k =
      let m : ℕ = t * (head cells).edges + e in
      subst (λ t. AllPass (trials_of m t e)) (div-mul-add t (head cells).edges e k)
      (subst (λ e. AllPass (trials_of m (m / (head cells).edges) e)) (mod-mul-add t (head cells).edges e k) (parts.moves m (digits_lt h k)))

  started : (s : Situation) → Start cells s → Sound cells s
  started s st =
      let at_point : start_point cells ≡ point cells s = ap₂ (point_of cells) (sym st.place_is) (sym st.state_is) in
      let all : AllHold (start_conclusions cells) s.values =
      lines_hold cells (start_line_at (head cells)) (head cells).start_rows (start_hypotheses cells) StartLine s.values st.sized
      (each_hold (head cells).start_rows (start_row cells) s.values st.starts) (point_rows (head cells)) (start_conclusions cells) (length_start cells) ranges.start_lines parts.start in
      record { sized = st.sized; within = rows_within cells s (subst (λ p. AllHold (point_hypotheses cells p) s.values) at_point all) }

  -- the hypotheses of a move hold where it can be made
  hypotheses_hold : (t e : ℕ) (s : Situation) → Can cells t e s → Sound cells s → AllHold (move_hypotheses_of cells t e) s.values
  hypotheses_hold t e s can sound =
      append_hold (point_hypotheses cells (first_point cells t e)) (guard_rows cells t ++ edge_rows cells e (step_from cells t)) s.values
      (subst (λ p. AllHold (point_hypotheses cells p) s.values) (sym (ap₂ (point_of cells) can.step_here can.edge_here)) (within_rows cells s sound.within))
      (append_hold (guard_rows cells t) (edge_rows cells e (step_from cells t)) s.values
      (each_hold (head cells).guards (guard cells t) s.values can.guarded)
      (each_hold (head cells).propositions (edge_row cells e (step_from cells t)) s.values
      (subst (λ p. (i : ℕ) → i < (head cells).propositions → T (holds (edge_row cells e p i) s.values)) (sym can.step_here)
      (matching_holds cells s.values s.place e can.matching))))

  went : (s s' : Situation) → Sound cells s → Move cells s s' → Moved cells kind s s'
  went s s' sound move =
      let t : ℕ = move.step in
      let e : ℕ = move.edge in
      let can : Can cells t e s = move.can in
      let m : ℕ = t * (head cells).edges + e in
      let below : m < (head cells).steps * (head cells).edges = digits_lt can.step_is can.edge_is in
      let rows : List Row = move_conclusions cells kind (move_mode cells m) t e in
      let all : AllHold (in_mode cells (move_mode cells m) (conclusions (head cells)) rows) s.values =
      lines_hold cells (move_line_at (head cells) m) (move_hypotheses (head cells)) (move_hypotheses_of cells t e) (MoveLine m) s.values sound.sized
      (hypotheses_hold t e s can sound) (conclusions (head cells)) (in_mode cells (move_mode cells m) (conclusions (head cells)) rows)
      (length_in_mode cells (move_mode cells m) (conclusions (head cells)) rows (length_conclusions cells kind (move_mode cells m) t e))
      (λ j l. ranges.move_lines m j below l) (step_edge_pass t e can.step_is can.edge_is) in
      let p = in_mode_rows cells (move_mode cells m) (conclusions (head cells)) rows s.values (omega (arith, program.counts_in.rank_numbers_low)) all in
      subst (Moved cells kind s) (sym move.leads)
      (moved kind lawful cells parts.called.1 (move_mode cells m) t e s can.step_here can.edge_here sound p.1 p.0 (ranges.modes m below))

  reached_sound : (s : Situation) → Reached cells s → Sound cells s
  reached_sound s (begins st) = started s st
  reached_sound s (goes_on {s = r} reached move) = (went r s (reached_sound r reached) move).sound

  -- the watch stands at one of its states
  reached_state : (s : Situation) → Reached cells s → s.state < (head cells).states
  reached_state s (begins st) = subst (λ q. q < (head cells).states) (sym st.state_is) program.counts_in.start_state_high
  reached_state s (goes_on reached move) = subst (λ q. q < (head cells).states) (sym (ap (λ s. s.state) move.leads)) (program.edge_to move.edge move.can.edge_is)

  followed_by : (s : Situation) → Reached cells s → (t : ℕ) → Open cells t s → (e : ℕ) × Can cells t e s
  followed_by s reached t may =
      let (e, is, here, fits) = parts.watched s.state (letter cells s.place s.values) (reached_state s reached) (letter_low cells s.place s.values (head cells).propositions) in
      (e, record { step_is = may.step_is; step_here = may.step_here; guarded = may.guarded; edge_is = is; edge_here = here; matching = fits })

  run_sound : (run : ℕ → Situation) → Endless cells run → (i : ℕ) → Sound cells (run i)
  run_sound run endless zero = started (run 0) endless.begins
  run_sound run endless (suc i) = subst (λ j. Sound cells (run j)) (add-one i) (went (run i) (run (i + 1)) (run_sound run endless i) (endless.goes_on i)).sound

  pub watch_follows : WatchFollows cells
  watch_follows = followed_by

  pub every_run : EveryRunLaw cells
  every_run = record {
    watched = parts.watched;
    within = λ s r. (reached_sound s r).within;
    recurs = λ run endless. marked_later kind lawful cells parts.called.1 run (run_sound run endless)
        (λ i. (went (run i) (run (i + 1)) (run_sound run endless i) (endless.goes_on i)).falls);
  }
