use Rattle.std.proofs.Common.{◌≡◌, ◌<◌, sym, refl, ap, ◌∙◌, arith}
use Rattle.layout.specs.Forms.{form_number}
use Rattle.layout.specs.Layout.{point_rows}
use Rattle.dossier.specs.declared.fault.AdmitFault.TheVariants.{PointLine}
use Rattle.dossier.specs.Admission as admission
use Rattle.dossier.specs.Dossier as parts
use Rattle.dossier.proofs.Trials.{append_passes, append_fails}
use Rattle.certificate.specs.Arrays.{rows_of}
use Rattle.certificate.specs.Outcomes.{outcome}
use Rattle.certificate.proofs.Failures.{none_fails, some_fails, joined_more, joined_fails}
use Rattle.certificate.proofs.Groups.{point_group, judgement}
use Rattle.certificate.proofs.Numbered.{line_more, line_fails, lines_done}
use Rattle.certificate.proofs.Tables.{counted}
use Rattle.certificate.proofs.ranked.Ranked.choices_hold.Goals as goal

pub judge-requires : goal.judge-requires
judge-requires g c =
    let cells = g.S.Source.cells c.args.self.now.view.source.now in
    let p = c.search.point in
    let below : p < parts.points (parts.head cells) = omega (arith, c.points-point-end.ensures.value) in
    let same = c.args.self.now.view.agrees in
    let form : (parts.head cells).form ≡ 2 = sym (ap (λ h. h.form) same) ∙ ap form_number c.requires in
    let numbers = sym (ap (λ h. h.rank_numbers) same) ∙ c.args.self.now.ranks in
    let assumed = ap rows_of c.as_slice-hypotheses.ensures.value ∙ c.point_hypotheses.ensures in
    let claims = ap rows_of c.as_slice-conclusion-items.ensures.value ∙ c.point_claims.ensures in
    let j = judgement (point_group cells (g.S.Source.formed c.args.self.now.view.source.now) g.K.RankKind.kind g.met.K.RankKind.lawful numbers form p below) c.as_slice-hypotheses.result.now c.as_slice-conclusion-items.result.now assumed claims c.loop-line.line c.loop-line-test.true c.point_line_at-at.ensures.value refl in
    record { inside = omega (arith, c.point_line_at-at.ensures.bounded); few = j.few; line = j.line; assumed = j.assumed; shown = j.shown }

pub loop-line-preserved : goal.loop-line-preserved
loop-line-preserved g c =
    let cells = g.S.Source.cells c.args.self.now.view.source.now in
    let p = c.search.point in
    let below : p < parts.points (parts.head cells) = omega (arith, c.points-point-end.ensures.value) in
    let same = c.args.self.now.view.agrees in
    let form : (parts.head cells).form ≡ 2 = sym (ap (λ h. h.form) same) ∙ ap form_number c.requires in
    let numbers = sym (ap (λ h. h.rank_numbers) same) ∙ c.args.self.now.ranks in
    let assumed = ap rows_of c.as_slice-hypotheses.ensures.value ∙ c.point_hypotheses.ensures in
    let claims = ap rows_of c.as_slice-conclusion-items.ensures.value ∙ c.point_claims.ensures in
    let j = judgement (point_group cells (g.S.Source.formed c.args.self.now.view.source.now) g.K.RankKind.kind g.met.K.RankKind.lawful numbers form p below) c.as_slice-hypotheses.result.now c.as_slice-conclusion-items.result.now assumed claims c.loop-line.line c.loop-line-test.true c.point_line_at-at.ensures.value refl in
    (c.loop-line.invariant.0, line_more cells (parts.point_line_at (parts.head cells) p) (point_rows (parts.head cells)) (admission.point_hypotheses cells p) (PointLine p) (admission.point_claims cells g.K.RankKind.kind p) c.loop-line.line j.inside (sym (c.if-not-judge.ensures ∙ j.judged)) c.loop-line.invariant.1)

pub search-preserved : goal.search-preserved
search-preserved g c =
    let cells = g.S.Source.cells c.args.self.now.view.source.now in
    let p = c.search.point in
    let below : p < parts.points (parts.head cells) = omega (arith, c.points-point-end.ensures.value) in
    let kind = g.K.RankKind.kind in
    let begins = none_fails (admission.begin_trials cells p) c.in_default.ensures in
    let claims = ap rows_of c.as_slice-conclusion-items.ensures.value ∙ c.point_claims.ensures in
    let none = lines_done cells (parts.point_line_at (parts.head cells) p) (point_rows (parts.head cells)) (admission.point_hypotheses cells p) (PointLine p) (admission.point_claims cells g.K.RankKind.kind p) c.loop-line.line (omega (arith, counted _ _ claims)) c.loop-line.invariant.1 in
    (c.loop-line.invariant.0, joined_more (parts.points (parts.head cells)) (admission.choice_trials cells kind) p below (sym (ap outcome (append_passes (admission.begin_trials cells p) (admission.point_trials cells kind p) begins ∙ none))) c.search.invariant.1)

pub returns-in-Err : goal.returns-in-Err
returns-in-Err g c =
    let cells = g.S.Source.cells c.args.self.now.view.source.now in
    let p = c.search.point in
    let below : p < parts.points (parts.head cells) = omega (arith, c.points-point-end.ensures.value) in
    let kind = g.K.RankKind.kind in
    let fault = append_fails (admission.begin_trials cells p) (admission.point_trials cells kind p) c.in-Err.fault (some_fails (admission.begin_trials cells p) c.in-Err.fault c.in-Err.ensures) in
    joined_fails (parts.points (parts.head cells)) (admission.choice_trials cells kind) p c.in-Err.fault below (sym (ap outcome fault)) c.search.invariant.1

pub returns-then-not-judge : goal.returns-then-not-judge
returns-then-not-judge g c =
    let cells = g.S.Source.cells c.args.self.now.view.source.now in
    let p = c.search.point in
    let below : p < parts.points (parts.head cells) = omega (arith, c.points-point-end.ensures.value) in
    let same = c.args.self.now.view.agrees in
    let form : (parts.head cells).form ≡ 2 = sym (ap (λ h. h.form) same) ∙ ap form_number c.requires in
    let numbers = sym (ap (λ h. h.rank_numbers) same) ∙ c.args.self.now.ranks in
    let assumed = ap rows_of c.as_slice-hypotheses.ensures.value ∙ c.point_hypotheses.ensures in
    let claims = ap rows_of c.as_slice-conclusion-items.ensures.value ∙ c.point_claims.ensures in
    let j = judgement (point_group cells (g.S.Source.formed c.args.self.now.view.source.now) g.K.RankKind.kind g.met.K.RankKind.lawful numbers form p below) c.as_slice-hypotheses.result.now c.as_slice-conclusion-items.result.now assumed claims c.loop-line.line c.loop-line-test.true c.point_line_at-at.ensures.value refl in
    let kind = g.K.RankKind.kind in
    let begins = none_fails (admission.begin_trials cells p) c.in_default.ensures in
    let fault = line_fails cells (parts.point_line_at (parts.head cells) p) (point_rows (parts.head cells)) (admission.point_hypotheses cells p) (PointLine p) (admission.point_claims cells g.K.RankKind.kind p) c.loop-line.line j.inside (sym (c.if-not-judge.ensures ∙ j.judged)) c.loop-line.invariant.1 in
    joined_fails (parts.points (parts.head cells)) (admission.choice_trials cells kind) p (PointLine p c.loop-line.line) below (sym (ap outcome (append_passes (admission.begin_trials cells p) (admission.point_trials cells kind p) begins ∙ fault))) c.search.invariant.1
