use Rattle.std.proofs.Common.{◌≡◌, ◌<◌, sym, ap, subst, arith}
use Rattle.dossier.specs.Admission as admission
use Rattle.dossier.specs.Dossier as parts
use Rattle.dossier.proofs.CellRanges.{program_ranges}
use Rattle.certificate.proofs.Places.{first_below}
use Rattle.certificate.proofs.view.View.first_point.Goals as goal

pub returns-clause-inside : goal.returns-clause-inside
returns-clause-inside g c =
    let cells = g.S.Source.cells c.args.self.now.source.now in
    let ranges = program_ranges cells (g.S.Source.formed c.args.self.now.source.now) in
    let step : c.args.step < (parts.head cells).steps = omega (arith, ap (λ h. h.steps) c.args.self.now.agrees) in
    let edge : c.args.edge < (parts.head cells).edges = omega (arith, ap (λ h. h.edges) c.args.self.now.agrees) in
    let is : c.point.result ≡ admission.first_point cells c.args.step c.args.edge = cc in
    subst (λ p. p < parts.points (parts.head cells)) (sym is) (first_below cells ranges c.args.step c.args.edge step edge)
