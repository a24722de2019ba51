use Rattle.std.proofs.Common.{◌+◌, ◌*◌, Some, None, Ok, ap, ◌∙◌, ap₂}
use Rattle.std.proofs.lemmas.Result.{err_from_is_err_and}
use Rattle.layout.specs.Heads.{counts_of}
use Rattle.layout.specs.Layout.{point_rows}
use Rattle.dossier.specs.declared.fault.AdmitFault.TheVariants.{MoveLine}
use Rattle.dossier.specs.Admission.{admit_every_run, moves}
use Rattle.dossier.specs.Dossier as parts
use Rattle.certificate.proofs.Verdicts.{every_called_fails, watch_fails, start_fails, moves_decide}
use Rattle.certificate.proofs.form_tests.judge_every_run.Goals as goal

pub returns-in_err-called_for : goal.returns-in_err-called_for
returns-in_err-called_for g c =
    let kind = g.K.RankKind.kind in
    let view = c.of-view.result in
    let here = g.S.Source.cells view.source.now in
    let same = ap (λ s. admit_every_run kind (g.S.Source.cells s.now)) c.of-view.ensures in
    let p = err_from_is_err_and c.from_residual.result c.from_residual.ensures.1 in
    rw (p.1, p.2) (every_called_fails kind here (counts_of view.head) c.numbers.result view.agrees c.numbers.ensures _ c.in_err-called_for.ensures.outcome ∙ same)

pub returns-in_err-watch_complete : goal.returns-in_err-watch_complete
returns-in_err-watch_complete g c =
    let kind = g.K.RankKind.kind in
    let view = c.of-view.result in
    let here = g.S.Source.cells view.source.now in
    let same = ap (λ s. admit_every_run kind (g.S.Source.cells s.now)) c.of-view.ensures in
    let p = err_from_is_err_and c.from_residual-in_err-watch_complete.result c.from_residual-in_err-watch_complete.ensures.1 in
    rw (p.1, p.2) (watch_fails kind here (counts_of view.head) c.numbers.result view.agrees c.numbers.ensures c.in_ok-called_for.ensures.outcome _ c.in_err-watch_complete.ensures ∙ same)

pub returns-in_err-start_lines : goal.returns-in_err-start_lines
returns-in_err-start_lines g c =
    let kind = g.K.RankKind.kind in
    let view = c.of-view.result in
    let here = g.S.Source.cells view.source.now in
    let same = ap (λ s. admit_every_run kind (g.S.Source.cells s.now)) c.of-view.ensures in
    let p = err_from_is_err_and c.from_residual-in_err-start_lines.result c.from_residual-in_err-start_lines.ensures.1 in
    rw (p.1, p.2) (start_fails kind here (counts_of view.head) c.numbers.result view.agrees c.numbers.ensures c.in_ok-called_for.ensures.outcome c.in_ok-watch_complete.ensures _ c.in_err-start_lines.ensures ∙ same)

pub returns-in-Some : goal.returns-in-Some
returns-in-Some g c =
    let kind = g.K.RankKind.kind in
    let view = c.of-view.result in
    let here = g.S.Source.cells view.source.now in
    let same = ap (λ s. admit_every_run kind (g.S.Source.cells s.now)) c.of-view.ensures in
    moves_decide kind here (counts_of view.head) c.numbers.result view.agrees c.numbers.ensures c.in_ok-called_for.ensures.outcome c.in_ok-watch_complete.ensures c.in_ok-start_lines.ensures (Some (MoveLine c.in-Some.number c.in-Some.line)) c.in-Some.ensures ∙ same

pub returns-in-None : goal.returns-in-None
returns-in-None g c =
    let kind = g.K.RankKind.kind in
    let view = c.of-view.result in
    let here = g.S.Source.cells view.source.now in
    let same = ap (λ s. admit_every_run kind (g.S.Source.cells s.now)) c.of-view.ensures in
    let count = ap₂ (λ a b. a + b * c.conclusions_of.result) c.rows_of_point.ensures.value c.moves.ensures.value ∙ ap (λ k. point_rows (parts.head here) + moves here * k) c.conclusions_of.ensures.value in
    ap Ok count ∙ moves_decide kind here (counts_of view.head) c.numbers.result view.agrees c.numbers.ensures c.in_ok-called_for.ensures.outcome c.in_ok-watch_complete.ensures c.in_ok-start_lines.ensures None c.in-None.ensures ∙ same
