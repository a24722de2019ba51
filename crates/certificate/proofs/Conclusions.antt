-- The rank rows that fall rows compare, where the tables have them.
use Rattle.std.proofs.Common.{◌≡◌, ℕ, ◌+◌, ◌<◌, true, false, cond, List, ◌++◌, length, get_or, ℤ, sym, ap, ◌∙◌, subst, append_assoc, arith}
use Rattle.std.proofs.lemmas.List.{get_or_append_left, get_or-append-add, length-append}
use Rattle.layout.specs.Layout.{point_rows}
use Rattle.dossier.specs.Admission.{at_step, point_hypotheses, first_point, last_point, fall_rows, move_conclusions}
use Rattle.dossier.specs.Dossier.{head, point_at, points, rank_row, marked_state, edge_from}
use Rattle.dossier.specs.Kinds.{Kind, Inside, fall_row}
use Rattle.dossier.specs.Ranges.{ProgramRanges}
use Rattle.dossier.specs.Rows.{Row, zero_row, each}
use Rattle.dossier.proofs.Trials.{length_each, getD_each}
use Rattle.certificate.specs.Arrays.{RowWithin, short, long}
use Rattle.certificate.specs.Falls.{rows_from, There, Begins}
use Rattle.certificate.specs.Stored.{stored_row, stored_taken}
use Rattle.certificate.proofs.Eaches.{each_split, each_same}
use Rattle.certificate.proofs.FallRows.{fall_row_same}
use Rattle.certificate.proofs.RowBounds.{row_short, row_more, taken_long}

module _ (cells : List ℤ) (ranges : ProgramRanges cells) (p : ℕ) (point : p < points (head cells)) where
  rank_short : (k : ℕ) → k < (head cells).rank_numbers → RowWithin short (rank_row cells p k)
  rank_short k l = row_short cells _ (ranges.point_rows p ((head cells).region_rows + k) point (omega arith))

  -- the rank rows of a point behind its region rows
  module _ (old : List Row) (begins : Begins old (point_hypotheses cells p)) (k : ℕ) (l : k < (head cells).rank_numbers) where
    together : point_hypotheses cells p ≡ each (point_rows (head cells)) (stored_row cells (point_at (head cells) p))
    together = sym (each_split (head cells).region_rows (head cells).rank_numbers (stored_row cells (point_at (head cells) p)))

    long_enough : (head cells).region_rows + k < length (point_hypotheses cells p)
    long_enough = omega (arith, ap length together, length_each (point_rows (head cells)) (stored_row cells (point_at (head cells) p)))

    pub old_rank : rows_from old (head cells).region_rows k ≡ rank_row cells p k
    old_rank =
        ap (λ xs. get_or xs ((head cells).region_rows + k) zero_row) begins.order
        ∙ get_or_append_left (point_hypotheses cells p) begins.rest zero_row ((head cells).region_rows + k) long_enough
        ∙ ap (λ xs. get_or xs ((head cells).region_rows + k) zero_row) together
        ∙ getD_each (point_rows (head cells)) (stored_row cells (point_at (head cells) p)) ((head cells).region_rows + k) zero_row (omega arith)

    pub old_there : There old (head cells).region_rows k
    old_there = record {
      inside = omega (arith, long_enough, ap length begins.order, length-append (point_hypotheses cells p) begins.rest);
      bounded = subst (RowWithin long) (sym old_rank) (row_more 32768 8589934592 (rank_row cells p k) (omega arith) (rank_short k l));
    }

  -- the same taken at a step, behind a base
  module _ (t : ℕ) (step : t < (head cells).steps) (base rows : List Row) (at : ℕ) (is : at ≡ length base) (filled : rows ≡ base ++ stored_taken cells t (point_at (head cells) p) (point_rows (head cells)))
      (k : ℕ) (l : k < (head cells).rank_numbers) where
    pub new_rank : rows_from rows (at + (head cells).region_rows) k ≡ at_step cells t (rank_row cells p k)
    new_rank =
        ap (λ xs. get_or xs (at + (head cells).region_rows + k) zero_row) filled
        ∙ ap (λ i. get_or (base ++ stored_taken cells t (point_at (head cells) p) (point_rows (head cells))) i zero_row) (let e : at + (head cells).region_rows + k ≡ length base + ((head cells).region_rows + k) = omega arith in e)
        ∙ get_or-append-add base (stored_taken cells t (point_at (head cells) p) (point_rows (head cells))) ((head cells).region_rows + k) zero_row
        ∙ getD_each (point_rows (head cells)) (λ i. at_step cells t (stored_row cells (point_at (head cells) p) i)) ((head cells).region_rows + k) zero_row (omega arith)

    pub new_there : There rows (at + (head cells).region_rows) k
    new_there = record {
      inside = omega (arith, ap length filled, length-append base (stored_taken cells t (point_at (head cells) p) (point_rows (head cells))), length_each (point_rows (head cells)) (λ i. at_step cells t (stored_row cells (point_at (head cells) p) i)));
      bounded = subst (RowWithin long) (sym new_rank) (taken_long cells ranges t step (rank_row cells p k) (rank_short k l));
    }

-- the conclusions of a move, behind a base
module _ (kind : Kind) (cells : List ℤ) (mode t e : ℕ) (base rows : List Row)
    (filled : rows ≡ base ++ stored_taken cells t (point_at (head cells) (last_point cells t e)) (point_rows (head cells))) where
  -- region rows, rank rows and then the fall rows
  pub concluded : (falls result : List Row) → result ≡ rows ++ falls → falls ≡ fall_rows cells kind mode t e → result ≡ base ++ move_conclusions cells kind mode t e
  concluded falls result r f =
      let at = point_at (head cells) (last_point cells t e) in
      let g : ℕ → Row = λ i. at_step cells t (stored_row cells at i) in
      let regions = each (head cells).region_rows g in
      let ranks = each (head cells).rank_numbers (λ k. g ((head cells).region_rows + k)) in
      r ∙ ap (λ xs. xs ++ falls) (filled ∙ ap (λ xs. base ++ xs) (each_split (head cells).region_rows (head cells).rank_numbers g))
      ∙ append_assoc base (regions ++ ranks) falls
      ∙ ap (λ xs. base ++ xs) (append_assoc regions ranks falls ∙ ap (λ xs. regions ++ (ranks ++ xs)) f)

  abbrev fall : ℕ → Row
  fall i = fall_row (kind.fall mode i) (rank_row cells (first_point cells t e)) (λ k. at_step cells t (rank_row cells (last_point cells t e) k))

  -- from a marked point
  pub marked_falls : marked_state cells (edge_from cells e) ≡ true → (n : ℕ) → n ≡ (head cells).rank_numbers → each n (λ _. zero_row) ≡ fall_rows cells kind mode t e
  marked_falls m n is =
      ap (λ n. each n (λ _. zero_row)) is
      ∙ each_same (head cells).rank_numbers (λ _. zero_row) (λ i. cond (marked_state cells (edge_from cells e)) zero_row (fall i)) (λ i l. sym (ap (λ b. cond b zero_row (fall i)) m))

  -- from any other
  pub unmarked_falls : marked_state cells (edge_from cells e) ≡ false → (n : ℕ) → n ≡ (head cells).rank_numbers → ((i : ℕ) → Inside n (kind.fall mode i)) → (old new : ℕ → Row)
      → ((k : ℕ) → k < n → old k ≡ rank_row cells (first_point cells t e) k) → ((k : ℕ) → k < n → new k ≡ at_step cells t (rank_row cells (last_point cells t e) k))
      → each n (λ i. fall_row (kind.fall mode i) old new) ≡ fall_rows cells kind mode t e
  unmarked_falls m n is inside old new o w =
      each_same n (λ i. fall_row (kind.fall mode i) old new) (λ i. cond (marked_state cells (edge_from cells e)) zero_row (fall i))
      (λ i l. fall_row_same n (kind.fall mode i) (inside i) old (rank_row cells (first_point cells t e)) new (λ k. at_step cells t (rank_row cells (last_point cells t e) k)) o w ∙ sym (ap (λ b. cond b zero_row (fall i)) m))
      ∙ ap (λ n. each n (λ i. cond (marked_state cells (edge_from cells e)) zero_row (fall i))) is
