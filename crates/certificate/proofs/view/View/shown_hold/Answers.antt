use Rattle.std.proofs.Common.{◌≡◌, ℕ, zero, suc, ◌<◌, true, false, List, [], ◌++◌, length, get_or, ℤ, pos, ◌+ℤ◌, ◌*ℤ◌, sym, ap, ◌∙◌, subst, ap₂, arith, w64, SFits, to_z, of_z, rules}
use lib.Signed.{le_z, lt_z}
use Rattle.std.proofs.lemmas.Int.{ints, to_z-of_z}
use Rattle.arrayvec.specs.ArrayVec.{ArrayVec}
use Rattle.dossier.specs.Admission as admission
use Rattle.dossier.specs.Admission.{first_failure}
use Rattle.dossier.specs.Dossier as parts
use Rattle.dossier.specs.Rows.{Row, value, zero_row, taken, each}
use Rattle.dossier.proofs.InOrder.{row_trial, rows_numbered}
use Rattle.dossier.proofs.LineLaw.{dot_each}
use Rattle.dossier.proofs.CellRanges.{program_ranges}
use Rattle.dossier.proofs.Trials.{length_each}
use Rattle.certificate.specs.Arrays.{row_of, rows_of, held, constant_row, Within, RowWithin, short, wide}
use Rattle.certificate.proofs.Bounds.{within_more}
use Rattle.certificate.proofs.RowBounds.{zero_row_within, sum_to_same}
use Rattle.certificate.specs.Outcomes.{outcome}
use Rattle.certificate.proofs.Groups.{start_below}
use Rattle.certificate.proofs.Numbered.{more, fails, done}
use Rattle.certificate.proofs.Tables.{counted, row_at, each_counted, each_row}
use Rattle.certificate.proofs.WideRows.{shown_short}
use Rattle.certificate.proofs.view.View.shown_hold.Goals as goal

pub push_start_point-requires : goal.push_start_point-requires
push_start_point-requires g c =
    let cells = g.S.Source.cells c.args.self.now.source.now in
    omega (arith, ap length c.start_hypotheses.ensures, length_each (parts.head cells).start_rows (parts.start_row cells), (program_ranges cells (g.S.Source.formed c.args.self.now.source.now)).counts_in.start_rows_high)

-- a value as a row
constant_wide : (z : ℤ) → Within 2147483648 z → RowWithin wide (constant_row z)
constant_wide z h zero = within_more 2147483648 34359738368 z (omega arith) h
constant_wide z h (suc j) = zero_row_within 34359738368 (suc j)

-- the rows that are shown
listed : (cells : List ℤ) (t : ArrayVec (List ℤ)) (rows starts : List (List ℤ)) → rows ≡ t.items → held t ≡ rows_of starts ++ admission.start_conclusions cells → rows_of starts ≡ admission.start_hypotheses cells → rows_of rows ≡ admission.shown_rows cells
listed cells t rows starts e filled starting = ap rows_of e ∙ filled ∙ ap (λ xs. xs ++ admission.start_conclusions cells) starting

pub taken_column-requires-clause-row : goal.taken_column-requires-clause-row
taken_column-requires-clause-row g c =
    let cells = g.S.Source.cells c.args.self.now.source.now in
    let formed = g.S.Source.formed c.args.self.now.source.now in
    let rows = listed cells c.push_start_point.new.table c.as_slice-numbers-items.result.now c.start_hypotheses.new.table.items c.as_slice-numbers-items.ensures.value c.push_start_point.ensures c.start_hypotheses.ensures in
    let inside : c.loop-row.row < length (admission.shown_rows cells) = omega (arith, counted _ _ rows) in
    subst (RowWithin short) (sym (row_at _ _ rows c.loop-row.row (omega arith))) (shown_short cells (program_ranges cells formed) (start_below cells formed) c.loop-row.row inside)

-- the shown values, each as a row
given_values : (cells : List ℤ) (items rows : List (List ℤ)) → rows ≡ items → rows_of items ≡ each (parts.head cells).variables (λ v. constant_row (parts.shown cells v)) → rows_of rows ≡ each (parts.head cells).variables (λ v. constant_row (parts.shown cells v))
given_values cells items rows e is = ap rows_of e ∙ is

pub taken_column-requires-clause-few : goal.taken_column-requires-clause-few
taken_column-requires-clause-few g c =
    let cells = g.S.Source.cells c.args.self.now.source.now in
    let given = given_values cells c.shown_values-values.result.items c.as_slice.result.now c.as_slice.ensures.value c.shown_values-values.ensures.constant in
    omega (arith, each_counted _ _ _ given, (program_ranges cells (g.S.Source.formed c.args.self.now.source.now)).counts_in.variables_high)

pub taken_column-requires-clause-updates : goal.taken_column-requires-clause-updates
taken_column-requires-clause-updates g c v l =
    let cells = g.S.Source.cells c.args.self.now.source.now in
    let given = given_values cells c.shown_values-values.result.items c.as_slice.result.now c.as_slice.ensures.value c.shown_values-values.ensures.constant in
    let inside : v < (parts.head cells).variables = omega (arith, each_counted _ _ _ given) in
    subst (RowWithin wide) (sym (each_row _ _ _ given v inside)) (constant_wide (parts.shown cells v) (c.shown_values-values.ensures.within v inside))

-- the value of a row as the definition has it
row_value : (cells : List ℤ) (xs : List (List ℤ)) (n : ℕ) (row : Row) (r : Row) (v : ℤ) → n ≡ (parts.head cells).variables → ((i : ℕ) → i < (parts.head cells).variables → row_of (get_or xs i []) ≡ constant_row (parts.shown cells i)) → row ≡ r → v ≡ taken n row (λ i. row_of (get_or xs i [])) 0 → v ≡ value r (admission.shown_values cells)
row_value cells xs n row r v e same is h =
    h
    ∙ ap₂ (λ f m. taken m f (λ i. row_of (get_or xs i [])) 0) is e
    ∙ ap (λ z. r 0 +ℤ z) (sum_to_same (parts.head cells).variables (λ i. r (suc i) *ℤ row_of (get_or xs i []) 0) (λ i. r (suc i) *ℤ parts.shown cells i) (λ i l. ap (λ f. r (suc i) *ℤ f 0) (same i l))
    ∙ sym (dot_each r (parts.shown cells) (parts.head cells).variables))

-- below 0 a row does not hold, and otherwise it does
sign_no : (v w : ℤ) → v ≡ w → lt_z (to_z w64 (of_z w64 v)) (pos 0) ≡ true → SFits w64 v → le_z (pos 0) w ≡ false
sign_no v w e h f = ap (le_z (pos 0)) (sym e) ∙ negative v (sym (ap (λ z. lt_z z (pos 0)) (to_z-of_z w64 v f)) ∙ h)
  where
    negative : (v : ℤ) → lt_z v (pos 0) ≡ true → le_z (pos 0) v ≡ false
    negative v h = grind (arith, ints)

sign_yes : (v w : ℤ) → v ≡ w → lt_z (to_z w64 (of_z w64 v)) (pos 0) ≡ false → SFits w64 v → le_z (pos 0) w ≡ true
sign_yes v w e h f = ap (le_z (pos 0)) (sym e) ∙ positive v (sym (ap (λ z. lt_z z (pos 0)) (to_z-of_z w64 v f)) ∙ h)
  where
    positive : (v : ℤ) → lt_z v (pos 0) ≡ false → le_z (pos 0) v ≡ true
    positive v h = grind (arith, ints)

pub returns-then-taken_column-lt0 : goal.returns-then-taken_column-lt0
returns-then-taken_column-lt0 g c =
    let cells = g.S.Source.cells c.args.self.now.source.now in
    let rows = listed cells c.push_start_point.new.table c.as_slice-numbers-items.result.now c.start_hypotheses.new.table.items c.as_slice-numbers-items.ensures.value c.push_start_point.ensures c.start_hypotheses.ensures in
    let inside : c.loop-row.row < length (admission.shown_rows cells) = omega (arith, counted _ _ rows) in
    let r = get_or (admission.shown_rows cells) c.loop-row.row zero_row in
    let given = given_values cells c.shown_values-values.result.items c.as_slice.result.now c.as_slice.ensures.value c.shown_values-values.ensures.constant in
    let v = row_value cells c.as_slice.result.now _ _ r c.taken_column.result (each_counted _ _ _ given) (each_row _ _ _ given) (row_at _ _ rows c.loop-row.row (omega arith)) c.taken_column.ensures in
    let fits : SFits w64 c.taken_column.result = search rules in
    sym (ap outcome (ap first_failure (rows_numbered cells 0 (admission.shown_rows cells)) ∙ fails (row_trial cells) zero_row (admission.shown_rows cells) c.loop-row.row inside (sign_no _ _ v c.if-taken_column-lt0.true fits) c.loop-row.invariant))

pub loop-row-preserved : goal.loop-row-preserved
loop-row-preserved g c =
    let cells = g.S.Source.cells c.args.self.now.source.now in
    let rows = listed cells c.push_start_point.new.table c.as_slice-numbers-items.result.now c.start_hypotheses.new.table.items c.as_slice-numbers-items.ensures.value c.push_start_point.ensures c.start_hypotheses.ensures in
    let inside : c.loop-row.row < length (admission.shown_rows cells) = omega (arith, counted _ _ rows) in
    let r = get_or (admission.shown_rows cells) c.loop-row.row zero_row in
    let given = given_values cells c.shown_values-values.result.items c.as_slice.result.now c.as_slice.ensures.value c.shown_values-values.ensures.constant in
    let v = row_value cells c.as_slice.result.now _ _ r c.taken_column.result (each_counted _ _ _ given) (each_row _ _ _ given) (row_at _ _ rows c.loop-row.row (omega arith)) c.taken_column.ensures in
    let fits : SFits w64 c.taken_column.result = search rules in
    more (row_trial cells) zero_row (admission.shown_rows cells) c.loop-row.row inside (sign_yes _ _ v c.if-taken_column-lt0.false fits) c.loop-row.invariant

pub returns : goal.returns
returns g c =
    let cells = g.S.Source.cells c.args.self.now.source.now in
    let rows = listed cells c.push_start_point.new.table c.as_slice-numbers-items.result.now c.start_hypotheses.new.table.items c.as_slice-numbers-items.ensures.value c.push_start_point.ensures c.start_hypotheses.ensures in
    sym (ap outcome (ap first_failure (rows_numbered cells 0 (admission.shown_rows cells)) ∙ done (row_trial cells) zero_row (admission.shown_rows cells) c.loop-row.row (omega (arith, counted _ _ rows)) c.loop-row.invariant))
