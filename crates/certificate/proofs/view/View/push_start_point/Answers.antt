use Rattle.std.proofs.Common.{◌<◌, ◌++◌, sym, ap, ◌∙◌, subst, ap₂}
use Rattle.dossier.specs.Admission as admission
use Rattle.dossier.specs.Dossier as parts
use Rattle.certificate.specs.Arrays.{held}
use Rattle.certificate.proofs.Groups.{start_below}
use Rattle.certificate.proofs.view.View.push_start_point.Goals as goal

pub push_point-requires-clause-inside : goal.push_point-requires-clause-inside
push_point-requires-clause-inside g c =
    let cells = g.S.Source.cells c.args.self.now.source.now in
    let same = c.args.self.now.agrees in
    let is = c.point.ensures ∙ ap₂ (parts.point_of cells) (ap (λ h. h.start_place) same) (ap (λ h. h.start_state) same) in
    subst (λ p. p < parts.points (parts.head cells)) (sym is) (start_below cells (g.S.Source.formed c.args.self.now.source.now))

pub returns : goal.returns
returns g c =
    let cells = g.S.Source.cells c.args.self.now.source.now in
    let same = c.args.self.now.agrees in
    let is = c.point.ensures ∙ ap₂ (parts.point_of cells) (ap (λ h. h.start_place) same) (ap (λ h. h.start_state) same) in
    c.push_point.ensures ∙ ap (λ p. held c.args.table.now ++ admission.point_hypotheses cells p) is
