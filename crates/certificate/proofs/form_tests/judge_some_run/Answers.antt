use Rattle.std.proofs.Common.{◌*◌, Ok, ap, ◌∙◌, ap₂}
use Rattle.std.proofs.lemmas.Result.{err_from_is_err_and}
use Rattle.layout.specs.Heads.{counts_of}
use Rattle.dossier.specs.Admission.{admit_some_run}
use Rattle.certificate.proofs.Verdicts.{some_called_fails, shown_fails, choices_fail, choices_pass}
use Rattle.certificate.proofs.form_tests.judge_some_run.Goals as goal

pub returns-in_err-called_for : goal.returns-in_err-called_for
returns-in_err-called_for g c =
    let kind = g.K.RankKind.kind in
    let view = c.of-view.result in
    let here = g.S.Source.cells view.source.now in
    let same = ap (λ s. admit_some_run kind (g.S.Source.cells s.now)) c.of-view.ensures in
    let p = err_from_is_err_and c.from_residual.result c.from_residual.ensures.1 in
    rw (p.1, p.2) (some_called_fails kind here (counts_of view.head) c.numbers.result view.agrees c.numbers.ensures _ c.in_err-called_for.ensures.outcome ∙ same)

pub returns-in_err-shown_hold : goal.returns-in_err-shown_hold
returns-in_err-shown_hold g c =
    let kind = g.K.RankKind.kind in
    let view = c.of-view.result in
    let here = g.S.Source.cells view.source.now in
    let same = ap (λ s. admit_some_run kind (g.S.Source.cells s.now)) c.of-view.ensures in
    let p = err_from_is_err_and c.from_residual-in_err-shown_hold.result c.from_residual-in_err-shown_hold.ensures.1 in
    rw (p.1, p.2) (shown_fails kind here (counts_of view.head) c.numbers.result view.agrees c.numbers.ensures c.in_ok-called_for.ensures.outcome _ c.in_err-shown_hold.ensures ∙ same)

pub returns-in_err-choices_hold : goal.returns-in_err-choices_hold
returns-in_err-choices_hold g c =
    let kind = g.K.RankKind.kind in
    let view = c.of-view.result in
    let here = g.S.Source.cells view.source.now in
    let same = ap (λ s. admit_some_run kind (g.S.Source.cells s.now)) c.of-view.ensures in
    let p = err_from_is_err_and c.from_residual-in_err-choices_hold.result c.from_residual-in_err-choices_hold.ensures.1 in
    rw (p.1, p.2) (choices_fail kind here (counts_of view.head) c.numbers.result view.agrees c.numbers.ensures c.in_ok-called_for.ensures.outcome c.in_ok-shown_hold.ensures _ c.in_err-choices_hold.ensures ∙ same)

pub returns : goal.returns
returns g c =
    let kind = g.K.RankKind.kind in
    let view = c.of-view.result in
    let here = g.S.Source.cells view.source.now in
    let same = ap (λ s. admit_some_run kind (g.S.Source.cells s.now)) c.of-view.ensures in
    let count = ap₂ ◌*◌ c.points.ensures.value c.point_conclusions.ensures.value in
    ap Ok count ∙ choices_pass kind here (counts_of view.head) c.numbers.result view.agrees c.numbers.ensures c.in_ok-called_for.ensures.outcome c.in_ok-shown_hold.ensures c.in_ok-choices_hold.ensures ∙ same
