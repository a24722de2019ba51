use Rattle.std.proofs.Common.{◌≡◌, List, [], ◌++◌, length, ℤ, sym, refl, ap, ◌∙◌, arith}
use Rattle.arrayvec.specs.ArrayVec.{ArrayVec}
use Rattle.layout.specs.Forms.{form_number}
use Rattle.dossier.specs.declared.fault.AdmitFault.TheVariants.{StartLine}
use Rattle.dossier.specs.Admission as admission
use Rattle.dossier.specs.Dossier as parts
use Rattle.dossier.proofs.CellRanges.{program_ranges}
use Rattle.dossier.proofs.Tests.{length_start}
use Rattle.certificate.specs.Arrays.{rows_of, held}
use Rattle.certificate.specs.Outcomes.{outcome}
use Rattle.certificate.proofs.Groups.{start_group, judgement}
use Rattle.certificate.proofs.Numbered.{line_more, line_fails, lines_done}
use Rattle.certificate.proofs.Tables.{counted, held_new}
use Rattle.certificate.proofs.view.View.start_lines.Goals as goal

-- the rows that the lines are to show
shown : (cells : List ℤ) (none t : ArrayVec (List ℤ)) (rows : List (List ℤ)) → none.items ≡ [] → held t ≡ held none ++ admission.start_conclusions cells → rows ≡ t.items → rows_of rows ≡ admission.start_conclusions cells
shown cells none t rows n e is = ap rows_of is ∙ e ∙ ap (λ xs. xs ++ admission.start_conclusions cells) (held_new none n)

pub push_start_point-requires : goal.push_start_point-requires
push_start_point-requires g c = omega (arith, ap length (held_new _ c.clear.ensures))

pub start_line_at-at-requires : goal.start_line_at-at-requires
start_line_at-at-requires g c =
    let cells = g.S.Source.cells c.args.self.now.source.now in
    let claims = shown cells c.clear.new.self c.push_start_point.new.table c.as_slice-conclusion-items.result.now c.clear.ensures c.push_start_point.ensures c.as_slice-conclusion-items.ensures.value in
    let counts = (program_ranges cells (g.S.Source.formed c.args.self.now.source.now)).counts_in in
    omega (arith, counted _ _ claims, length_start cells, counts.region_rows_high, counts.rank_numbers_high)

pub judge-requires : goal.judge-requires
judge-requires g c =
    let cells = g.S.Source.cells c.args.self.now.source.now in
    let form : (parts.head cells).form ≡ 1 = sym (ap (λ h. h.form) c.args.self.now.agrees) ∙ ap form_number c.requires in
    let claims = shown cells c.clear.new.self c.push_start_point.new.table c.as_slice-conclusion-items.result.now c.clear.ensures c.push_start_point.ensures c.as_slice-conclusion-items.ensures.value in
    let j = judgement (start_group cells (g.S.Source.formed c.args.self.now.source.now) form) c.as_slice-hypotheses.result.now c.as_slice-conclusion-items.result.now (ap rows_of c.as_slice-hypotheses.ensures.value ∙ c.start_hypotheses.ensures) claims c.loop-line.line c.loop-line-test.true c.start_line_at-at.ensures.value refl in
    record { inside = omega (arith, c.start_line_at-at.ensures.bounded); few = j.few; line = j.line; assumed = j.assumed; shown = j.shown }

pub returns-then-not-judge : goal.returns-then-not-judge
returns-then-not-judge g c =
    let cells = g.S.Source.cells c.args.self.now.source.now in
    let form : (parts.head cells).form ≡ 1 = sym (ap (λ h. h.form) c.args.self.now.agrees) ∙ ap form_number c.requires in
    let claims = shown cells c.clear.new.self c.push_start_point.new.table c.as_slice-conclusion-items.result.now c.clear.ensures c.push_start_point.ensures c.as_slice-conclusion-items.ensures.value in
    let j = judgement (start_group cells (g.S.Source.formed c.args.self.now.source.now) form) c.as_slice-hypotheses.result.now c.as_slice-conclusion-items.result.now (ap rows_of c.as_slice-hypotheses.ensures.value ∙ c.start_hypotheses.ensures) claims c.loop-line.line c.loop-line-test.true c.start_line_at-at.ensures.value refl in
    sym (ap outcome (line_fails cells (parts.start_line_at (parts.head cells)) (parts.head cells).start_rows (admission.start_hypotheses cells) StartLine (admission.start_conclusions cells) c.loop-line.line
    j.inside (sym (c.if-not-judge.ensures ∙ j.judged)) c.loop-line.invariant))

pub loop-line-preserved : goal.loop-line-preserved
loop-line-preserved g c =
    let cells = g.S.Source.cells c.args.self.now.source.now in
    let form : (parts.head cells).form ≡ 1 = sym (ap (λ h. h.form) c.args.self.now.agrees) ∙ ap form_number c.requires in
    let claims = shown cells c.clear.new.self c.push_start_point.new.table c.as_slice-conclusion-items.result.now c.clear.ensures c.push_start_point.ensures c.as_slice-conclusion-items.ensures.value in
    let j = judgement (start_group cells (g.S.Source.formed c.args.self.now.source.now) form) c.as_slice-hypotheses.result.now c.as_slice-conclusion-items.result.now (ap rows_of c.as_slice-hypotheses.ensures.value ∙ c.start_hypotheses.ensures) claims c.loop-line.line c.loop-line-test.true c.start_line_at-at.ensures.value refl in
    line_more cells (parts.start_line_at (parts.head cells)) (parts.head cells).start_rows (admission.start_hypotheses cells) StartLine (admission.start_conclusions cells) c.loop-line.line
    j.inside (sym (c.if-not-judge.ensures ∙ j.judged)) c.loop-line.invariant

pub returns : goal.returns
returns g c =
    let cells = g.S.Source.cells c.args.self.now.source.now in
    let claims = shown cells c.clear.new.self c.push_start_point.new.table c.as_slice-conclusion-items.result.now c.clear.ensures c.push_start_point.ensures c.as_slice-conclusion-items.ensures.value in
    sym (ap outcome (lines_done cells (parts.start_line_at (parts.head cells)) (parts.head cells).start_rows (admission.start_hypotheses cells) StartLine (admission.start_conclusions cells) c.loop-line.line
    (omega (arith, counted _ _ claims)) c.loop-line.invariant))
