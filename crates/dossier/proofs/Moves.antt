-- A move whose conclusions hold leads from within a region to within one, and from an unmarked point the rank falls. So a run of such moves comes to a marked point.
use Rattle.std.proofs.Common.{◌≡◌, ℕ, zero, suc, ◌+◌, ◌<◌, ◌≤◌, false, cond, T, eqb, List, ◌++◌, length, ℤ, pos, sym, refl, ap, ◌∙◌, subst, ap₂, inl, inr, add_assoc, arith}
use lib.Signed.{le_z}
use Rattle.std.proofs.lemmas.List.{length-append}
use Rattle.std.proofs.lemmas.Bool.{cases_Bool, eqb-false, cond_both}
use Rattle.layout.specs.Layout.{conclusions}
use Rattle.dossier.specs.Rows.{Row, value, holds, zero_row, each}
use Rattle.dossier.specs.Dossier.{head, step_from, update, edge_from, point_of, marked_state, region_row, rank_row}
use Rattle.dossier.specs.Kinds.{Kind, Lawful, Rank, Inside, fall_row, fall_value}
use Rattle.dossier.specs.Runs.{Situation, Within, point, marked, rank, after, values_after}
use Rattle.dossier.specs.Admission.{point_hypotheses, first_point, last_point, at_step, fall_rows, move_conclusions, impossible, in_mode}
use Rattle.dossier.specs.Laws.{AllHold}
use Rattle.dossier.proofs.Trials.{of_true, hold_append, append_hold, hold_each, each_hold, nonnegative_each, each_nonnegative, length_each}
use Rattle.dossier.proofs.RowValues.{minus_one_fails, value_fall}
use Rattle.dossier.proofs.LineLaw.{taken_value}

-- modes -------------------------------------------------------------------------------------------

module _ (cells : List ℤ) where
  impossible_fails : (n : ℕ) (xs : List ℤ) → 1 ≤ n → AllHold (impossible cells n) xs → ⊥
  impossible_fails zero xs l h = omega arith
  impossible_fails (suc n) xs l h = subst T (minus_one_fails xs) h.0

  length_impossible : (n : ℕ) → length (impossible cells n) ≡ n
  length_impossible zero = refl
  length_impossible (suc n) = ap suc (length_each n (λ i. zero_row))

  module _ (mode n : ℕ) (rows : List Row) where
    -- mode 0 cannot hold; in any other the rows do
    pub in_mode_rows : (xs : List ℤ) → 1 ≤ n → AllHold (in_mode cells mode n rows) xs → (1 ≤ mode) × AllHold rows xs
    in_mode_rows xs l =
        cond_both (eqb mode 0) (impossible cells n) rows (λ rs. AllHold rs xs → (1 ≤ mode) × AllHold rows xs)
        (λ e p. absurd (impossible_fails n xs l p)) (λ e p. (omega (arith, eqb-false mode 0 e), p))

    pub length_in_mode : length rows ≡ n → length (in_mode cells mode n rows) ≡ n
    length_in_mode e = cond_both (eqb mode 0) (impossible cells n) rows (λ rs. length rs ≡ n) (λ _. length_impossible n) (λ _. e)

  pub length_conclusions : (kind : Kind) (mode t e : ℕ) → length (move_conclusions cells kind mode t e) ≡ conclusions (head cells)
  length_conclusions kind mode t e = simp (length-append, length_each) (omega arith)

  -- regions and ranks -----------------------------------------------------------------------------

  pub within_rows : (s : Situation) → Within cells s → AllHold (point_hypotheses cells (point cells s)) s.values
  within_rows s w =
      append_hold (each (head cells).region_rows (region_row cells (point cells s))) (each (head cells).rank_numbers (rank_row cells (point cells s))) s.values
      (each_hold (head cells).region_rows (region_row cells (point cells s)) s.values w.region)
      (each_hold (head cells).rank_numbers (rank_row cells (point cells s)) s.values
      (nonnegative_each (head cells).rank_numbers (λ k. value (rank_row cells (point cells s) k) s.values) w.ranked))

  pub rows_within : (s : Situation) → AllHold (point_hypotheses cells (point cells s)) s.values → Within cells s
  rows_within s h =
      let p = hold_append (each (head cells).region_rows (region_row cells (point cells s))) (each (head cells).rank_numbers (rank_row cells (point cells s))) s.values h in
      record {
        region = hold_each (head cells).region_rows (region_row cells (point cells s)) s.values p.0;
        ranked = each_nonnegative (head cells).rank_numbers (λ k. value (rank_row cells (point cells s) k) s.values)
            (hold_each (head cells).rank_numbers (rank_row cells (point cells s)) s.values p.1);
      }

  -- values of the right count, in the region
  pub record Sound (s : Situation) : Type 0 where
    pub sized : length s.values ≡ (head cells).variables
    pub within : Within cells s

  pub record Moved (kind : Kind) (s s' : Situation) : Type 0 where
    pub sound : Sound s'
    pub falls : marked cells s ≡ false → kind.falls (rank cells s) (rank cells s')

  length_after : (t : ℕ) (xs : List ℤ) → length (values_after cells t xs) ≡ (head cells).variables
  length_after t xs = length_each (head cells).variables (λ v. value (update cells t v) xs)

-- a move ------------------------------------------------------------------------------------------

module _ (kind : Kind) (lawful : Lawful kind) (cells : List ℤ) (numbers : (head cells).rank_numbers ≡ kind.numbers) where
  ranked : (s : Situation) → Within cells s → Rank kind (rank cells s)
  ranked s w = (length_each (head cells).rank_numbers (λ k. value (rank_row cells (point cells s) k) s.values) ∙ numbers, w.ranked)

  -- a run that falls from every unmarked situation stands at a marked one again and again
  module _ (run : ℕ → Situation) (sound : (i : ℕ) → Sound cells (run i)) (falls : (i : ℕ) → marked cells (run i) ≡ false → kind.falls (rank cells (run i)) (rank cells (run (i + 1)))) where
    pub marked_later : (k : ℕ) → (j : ℕ) × (k ≤ j) × T (marked cells (run j))
    marked_later k =
        let stop = lawful.ends (λ i. rank cells (run (k + i))) (λ i. ranked (run (k + i)) (sound (k + i)).within) in
        let j : ℕ = k + stop.0 in
        elim (cases_Bool (marked cells (run j))) [
          | inl is ↦ (j, omega arith, of_true _ is)
          | inr unmarked ↦ absurd (stop.1 (subst (λ m. kind.falls (rank cells (run j)) (rank cells (run m))) (add_assoc k stop.0 1) (falls j unmarked)))
        ]

  module _ (mode t e : ℕ) (s : Situation) (step_here : step_from cells t ≡ s.place) (EdgeHere : edge_from cells e ≡ s.state) (sound : Sound cells s) where
    at_step_value : (r : Row) → value (at_step cells t r) s.values ≡ value r (values_after cells t s.values)
    at_step_value r = taken_value (head cells).variables r (update cells t) s.values

    at_step_holds : (r : Row) → T (holds (at_step cells t r) s.values) → T (holds r (values_after cells t s.values))
    at_step_holds r h = subst (λ v. T (le_z (pos 0) v)) (at_step_value r) h

    module _ (holding : AllHold (move_conclusions cells kind mode t e) s.values) where
      regions_new : List Row
      regions_new = each (head cells).region_rows (λ i. at_step cells t (region_row cells (last_point cells t e) i))

      ranks_new : List Row
      ranks_new = each (head cells).rank_numbers (λ k. at_step cells t (rank_row cells (last_point cells t e) k))

      parts : AllHold regions_new s.values × (AllHold ranks_new s.values × AllHold (fall_rows cells kind mode t e) s.values)
      unfolding regions_new ranks_new
      parts =
          let p = hold_append regions_new (ranks_new ++ fall_rows cells kind mode t e) s.values holding in
          (p.0, hold_append ranks_new (fall_rows cells kind mode t e) s.values p.1)

      after_within : Within cells (after cells t e s)
      unfolding regions_new ranks_new
      after_within = record {
        region = λ i l. at_step_holds (region_row cells (last_point cells t e) i)
            (hold_each (head cells).region_rows (λ i. at_step cells t (region_row cells (last_point cells t e) i)) s.values parts.0 i l);
        ranked = each_nonnegative (head cells).rank_numbers (λ k. value (rank_row cells (last_point cells t e) k) (values_after cells t s.values))
            (λ k l. at_step_holds (rank_row cells (last_point cells t e) k)
            (hold_each (head cells).rank_numbers (λ k. at_step cells t (rank_row cells (last_point cells t e) k)) s.values parts.1.0 k l));
      }

      fall_holds : marked cells s ≡ false → (i : ℕ) → i < kind.numbers → T (le_z (pos 0) (fall_value (kind.fall mode i) (rank cells s) (rank cells (after cells t e s))))
      fall_holds unmarked i l =
          let fall : Row = fall_row (kind.fall mode i) (rank_row cells (first_point cells t e)) (λ k. at_step cells t (rank_row cells (last_point cells t e) k)) in
          let here : T (holds (cond (marked_state cells (edge_from cells e)) zero_row fall) s.values) =
          hold_each (head cells).rank_numbers
          (λ i. cond (marked_state cells (edge_from cells e)) zero_row
          (fall_row (kind.fall mode i) (rank_row cells (first_point cells t e)) (λ k. at_step cells t (rank_row cells (last_point cells t e) k))))
          s.values parts.1.1 i (subst (λ n. i < n) (sym numbers) l) in
          let holding : T (holds fall s.values) = subst (λ b. T (holds (cond b zero_row fall) s.values)) (ap (marked_state cells) EdgeHere ∙ unmarked) here in
          subst (λ v. T (le_z (pos 0) v))
          (value_fall (head cells).rank_numbers (rank_row cells (first_point cells t e)) (λ k. at_step cells t (rank_row cells (last_point cells t e) k))
          (λ k. value (rank_row cells (point cells s) k) s.values) (λ k. value (rank_row cells (last_point cells t e) k) (values_after cells t s.values)) s.values
          (λ k. ap (λ p. value (rank_row cells p k) s.values) (ap₂ (point_of cells) step_here EdgeHere)) (λ k. at_step_value (rank_row cells (last_point cells t e) k))
          (kind.fall mode i) (subst (λ n. Inside n (kind.fall mode i)) (sym numbers) (lawful.inside mode i)))
          holding

      pub moved : 1 ≤ mode → mode ≤ (head cells).rank_numbers → Moved cells kind s (after cells t e s)
      moved low high = record {
        sound = record { sized = length_after cells t s.values; within = after_within };
        falls = λ unmarked. lawful.steps_down mode (rank cells s) (rank cells (after cells t e s)) low (subst (λ n. mode ≤ n) numbers high)
            (ranked s sound.within) (ranked (after cells t e s) after_within) (fall_holds unmarked);
      }
