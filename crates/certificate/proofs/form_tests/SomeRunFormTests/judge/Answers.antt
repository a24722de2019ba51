use Rattle.std.proofs.Common.{◌≡◌, Ok, rules}
use Rattle.dossier.specs.Admission.{admit_some_run}
use Rattle.dossier.proofs.RunLaws.{some_run_theorem, followed_theorem}
use Rattle.certificate.proofs.Admitting.{if_ok}
use Rattle.certificate.proofs.form_tests.SomeRunFormTests.judge.Goals as goal

-- the call is taken by what it answers and not by its name, so that a call of other tests is refused for its outcome
pub returns-clause-promised : goal.returns-clause-promised
returns-clause-promised g c =
    let kind = g.K.RankKind.kind in
    let lawful = g.met.K.RankKind.lawful in
    let cells = g.S.Source.cells c.args.source.now in
    let formed = g.S.Source.formed c.args.source.now in
    if_ok _ (λ n e. let admitted : admit_some_run kind cells ≡ Ok n = search rules in (some_run_theorem kind lawful cells formed n admitted, followed_theorem kind lawful cells formed n admitted))
