-- Every row that a proof line compares is within the bounds at which a line's sums are exact.
use Rattle.std.proofs.Common.{◌≡◌, ℕ, zero, suc, ◌+◌, ◌-◌, ◌<◌, ◌≤◌, Bool, true, false, cond, eqb, List, [], ◌++◌, length, get_or, ℤ, pos, sym, refl, subst, ⊎_elim, arith}
use Rattle.std.proofs.lemmas.List.{get_or_append_left, get_or-append_right, length-append}
use Rattle.std.proofs.lemmas.Int.{ints}
use Rattle.std.proofs.lemmas.Bool.{cond_both}
use Rattle.std.proofs.str.Laws.{order}
use Rattle.dossier.specs.declared.fall.Fall.{Fall}
use Rattle.dossier.specs.declared.fall.Fall.TheVariants.{None, Keeps, Drops}
use Rattle.dossier.specs.Admission
use Rattle.dossier.specs.Dossier.{head, region_row, rank_row, start_row, start_point, guard, is_place, proposition_row, marked_state, edge_from, must, must_not, bit, points, step_from}
use Rattle.dossier.specs.Kinds.{Kind, Lawful, Inside, fall_row}
use Rattle.dossier.specs.Ranges.{ProgramRanges}
use Rattle.dossier.specs.Rows.{Row, zero_row, minus_one, negated, less, each}
use Rattle.dossier.proofs.Trials.{length_each, getD_each}
use Rattle.certificate.specs.Arrays.{RowWithin, RowsWithin, short, long, wide}
use Rattle.certificate.proofs.Bounds.{difference_within, within_more}
use Rattle.certificate.proofs.Places.{first_below, last_below}
use Rattle.certificate.proofs.RowBounds.{zero_row_within, row_more, row_short, taken_long}

-- lists of rows -----------------------------------------------------------------------------------

module _ (b : ℕ) where
  append_within : (xs ys : List Row) → RowsWithin b xs → RowsWithin b ys → RowsWithin b (xs ++ ys)
  append_within xs ys p q k l =
      ⊎_elim (λ (h : k < length xs). subst (RowWithin b) (sym (get_or_append_left xs ys zero_row k h)) (p k h))
      (λ (h : length xs ≤ k). subst (RowWithin b) (sym (get_or-append_right xs ys (length xs) k zero_row refl h)) (q (k - length xs) (omega (arith, length-append xs ys))))
      (order k (length xs))

  each_within : (n : ℕ) (f : ℕ → Row) → ((k : ℕ) → k < n → RowWithin b (f k)) → RowsWithin b (each n f)
  each_within n f h k l = let inside : k < n = omega (arith, length_each n f) in subst (RowWithin b) (sym (getD_each n f k zero_row inside)) (h k inside)

  cond_within : (t : Bool) (r s : Row) → RowWithin b r → RowWithin b s → RowWithin b (cond t r s)
  cond_within true r s p q = p
  cond_within false r s p q = q

  minus_one_within : 1 ≤ b → RowWithin b minus_one
  minus_one_within l zero = (omega (arith, ints), omega (arith, ints))
  minus_one_within l (suc j) = (omega (arith, ints), omega (arith, ints))

  demand_within : 1 ≤ b → (met : Bool) → RowWithin b (Admission.demand [] met)
  demand_within l true = zero_row_within b
  demand_within l false = minus_one_within l

  impossible_within : 1 ≤ b → (n : ℕ) → RowsWithin b (Admission.impossible [] n)
  impossible_within l zero k h = absurd (omega arith)
  impossible_within l (suc n) zero h = minus_one_within l
  impossible_within l (suc n) (suc k) h = each_within n (λ _. zero_row) (λ _ _. zero_row_within b) k (omega arith)

  in_mode_within : 1 ≤ b → (mode n : ℕ) (rows : List Row) → RowsWithin b rows → RowsWithin b (Admission.in_mode [] mode n rows)
  in_mode_within l mode n rows h = cond_both (eqb mode 0) (Admission.impossible [] n) rows (RowsWithin b) (λ _. impossible_within l n) (λ _. h)

rows_more : (a b : ℕ) (rows : List Row) → a ≤ b → RowsWithin a rows → RowsWithin b rows
rows_more a b rows l h k i = row_more a b (get_or rows k zero_row) l (h k i)

less_within : (a : ℕ) (r : Row) → RowWithin a r → RowWithin (a + 1) (less r 1)
less_within a r h zero = difference_within a 1 (r 0) (pos 1) (h 0) (omega (arith, ints), omega (arith, ints))
less_within a r h (suc j) = within_more a (a + 1) (r (suc j)) (omega arith) (h (suc j))

negated_within : (a : ℕ) (r : Row) → RowWithin a r → RowWithin a (negated r)
negated_within a r h j = (omega (arith, ints, (h j).1), omega (arith, ints, (h j).0))

-- rows of a dossier -------------------------------------------------------------------------------

module _ (cells : List ℤ) (ranges : ProgramRanges cells) where
  start_short : RowsWithin short (Admission.start_hypotheses cells)
  start_short = each_within short (head cells).start_rows (start_row cells) (λ i l. row_short cells _ (ranges.start_rows i l))

  point_short : (p : ℕ) → p < points (head cells) → RowsWithin short (Admission.point_hypotheses cells p)
  point_short p h =
      append_within short (each (head cells).region_rows (region_row cells p)) (each (head cells).rank_numbers (rank_row cells p))
      (each_within short (head cells).region_rows (region_row cells p) (λ i l. row_short cells _ (ranges.point_rows p i h (omega arith))))
      (each_within short (head cells).rank_numbers (rank_row cells p) (λ k l. row_short cells _ (ranges.point_rows p ((head cells).region_rows + k) h (omega arith))))

  pub start_wide : RowsWithin wide (Admission.start_hypotheses cells)
  start_wide = rows_more 32768 34359738368 (Admission.start_hypotheses cells) (omega arith) start_short

  pub point_wide : (p : ℕ) → p < points (head cells) → RowsWithin wide (Admission.point_hypotheses cells p)
  point_wide p h = rows_more 32768 34359738368 (Admission.point_hypotheses cells p) (omega arith) (point_short p h)

  -- the rows that the shown values are to satisfy
  pub shown_short : start_point cells < points (head cells) → RowsWithin short (Admission.shown_rows cells)
  shown_short h = append_within short (Admission.start_hypotheses cells) (Admission.point_hypotheses cells (start_point cells)) start_short (point_short (start_point cells) h)

  guards_wide : (t : ℕ) → t < (head cells).steps → RowsWithin wide (Admission.guard_rows cells t)
  guards_wide t h = each_within wide (head cells).guards (guard cells t) (λ i l. row_more 32768 34359738368 _ (omega arith) (row_short cells _ (ranges.guards t i h l)))

  edge_row_within : (e place i : ℕ) → i < (head cells).propositions → RowWithin 32769 (Admission.edge_row cells e place i)
  edge_row_within e place i l =
      let row = row_short cells _ (ranges.propositions i l) in
      cond_within 32769 (bit i (must cells e)) (Admission.wanted cells place i) _
      (cond_within 32769 (is_place cells i) _ (proposition_row cells i) (demand_within 32769 (omega arith) _) (row_more 32768 32769 (proposition_row cells i) (omega arith) row))
      (cond_within 32769 (bit i (must_not cells e)) (Admission.unwanted cells place i) zero_row
      (cond_within 32769 (is_place cells i) _ (less (negated (proposition_row cells i)) 1) (demand_within 32769 (omega arith) _) (less_within 32768 (negated (proposition_row cells i)) (negated_within 32768 (proposition_row cells i) row)))
      (zero_row_within 32769))

  edge_rows_wide : (e place : ℕ) → RowsWithin wide (Admission.edge_rows cells e place)
  edge_rows_wide e place = each_within wide (head cells).propositions (Admission.edge_row cells e place) (λ i l. row_more 32769 34359738368 _ (omega arith) (edge_row_within e place i l))

  module _ (t e : ℕ) (step : t < (head cells).steps) (edge : e < (head cells).edges) where
    first_rank : (k : ℕ) → k < (head cells).rank_numbers → RowWithin short (rank_row cells (Admission.first_point cells t e) k)
    first_rank k l = row_short cells _ (ranges.point_rows _ ((head cells).region_rows + k) (first_below cells ranges t e step edge) (omega arith))

    last_region : (i : ℕ) → i < (head cells).region_rows → RowWithin long (Admission.at_step cells t (region_row cells (Admission.last_point cells t e) i))
    last_region i l = taken_long cells ranges t step _ (row_short cells _ (ranges.point_rows _ i (last_below cells ranges t e step edge) (omega arith)))

    last_rank : (k : ℕ) → k < (head cells).rank_numbers → RowWithin long (Admission.at_step cells t (rank_row cells (Admission.last_point cells t e) k))
    last_rank k l = taken_long cells ranges t step _ (row_short cells _ (ranges.point_rows _ ((head cells).region_rows + k) (last_below cells ranges t e step edge) (omega arith)))

    pub hypotheses_wide : RowsWithin wide (Admission.move_hypotheses_of cells t e)
    hypotheses_wide =
        append_within wide (Admission.point_hypotheses cells (Admission.first_point cells t e)) _ (point_wide _ (first_below cells ranges t e step edge))
        (append_within wide (Admission.guard_rows cells t) _ (guards_wide t step) (edge_rows_wide e (step_from cells t)))

    fall_wide : (fall : Fall) → Inside (head cells).rank_numbers fall → RowWithin wide (fall_row fall (rank_row cells (Admission.first_point cells t e)) (λ k. Admission.at_step cells t (rank_row cells (Admission.last_point cells t e) k)))
    fall_wide None l = zero_row_within 34359738368
    fall_wide (Keeps k) l = row_more 8589967360 34359738368 _ (omega arith) (λ j. difference_within 32768 8589934592 _ _ (first_rank k l j) (last_rank k l j))
    fall_wide (Drops k) l = row_more 8589967361 34359738368 _ (omega arith) (less_within 8589967360 _ (λ j. difference_within 32768 8589934592 _ _ (first_rank k l j) (last_rank k l j)))

    module _ (kind : Kind) (lawful : Lawful kind) (numbers : (head cells).rank_numbers ≡ kind.numbers) (mode : ℕ) where
      conclusions_wide : RowsWithin wide (Admission.move_conclusions cells kind mode t e)
      conclusions_wide =
          append_within wide (each (head cells).region_rows (λ i. Admission.at_step cells t (region_row cells (Admission.last_point cells t e) i))) _
          (each_within wide (head cells).region_rows (λ i. Admission.at_step cells t (region_row cells (Admission.last_point cells t e) i)) (λ i l. row_more 8589934592 34359738368 _ (omega arith) (last_region i l)))
          (append_within wide (each (head cells).rank_numbers (λ k. Admission.at_step cells t (rank_row cells (Admission.last_point cells t e) k))) _
          (each_within wide (head cells).rank_numbers (λ k. Admission.at_step cells t (rank_row cells (Admission.last_point cells t e) k)) (λ k l. row_more 8589934592 34359738368 _ (omega arith) (last_rank k l)))
          (each_within wide (head cells).rank_numbers _ (λ i l.
          cond_within wide (marked_state cells (edge_from cells e)) zero_row _ (zero_row_within 34359738368)
          (fall_wide (kind.fall mode i) (subst (λ n. Inside n (kind.fall mode i)) (sym numbers) (lawful.inside mode i))))))

      choice_wide : RowsWithin wide (Admission.choice_conclusions cells kind mode t e)
      choice_wide =
          append_within wide (Admission.guard_rows cells t) _ (guards_wide t step)
          (append_within wide (Admission.edge_rows cells e (step_from cells t)) _ (edge_rows_wide e (step_from cells t)) conclusions_wide)

      -- in a mode
      pub claims_wide : (n : ℕ) → RowsWithin wide (Admission.in_mode cells mode n (Admission.move_conclusions cells kind mode t e))
      claims_wide n = in_mode_within wide (omega arith) mode n (Admission.move_conclusions cells kind mode t e) conclusions_wide

      pub choice_claims_wide : (n : ℕ) → RowsWithin wide (Admission.in_mode cells mode n (Admission.choice_conclusions cells kind mode t e))
      choice_claims_wide n = in_mode_within wide (omega arith) mode n (Admission.choice_conclusions cells kind mode t e) choice_wide
