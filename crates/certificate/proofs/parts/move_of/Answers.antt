use Rattle.std.proofs.Common.{◌/◌, ◌≤◌, ◌<◌, sym, ap, subst, arith}
use Rattle.dossier.specs.Admission as admission
use Rattle.dossier.specs.Dossier as parts
use Rattle.dossier.proofs.CellRanges.{program_ranges}
use Rattle.certificate.proofs.Places.{step_below}
use Rattle.certificate.proofs.parts.move_of.Goals as goal

pub joined-requires-clause-step : goal.joined-requires-clause-step
joined-requires-clause-step g c =
    let view = c.of-view.result in
    let cells = g.S.Source.cells view.source.now in
    let ranges = program_ranges cells (g.S.Source.formed view.source.now) in
    let below : c.args.index < admission.moves cells = omega (arith, c.moves.ensures.value) in
    let step : c.args.index / (parts.head cells).edges < (parts.head cells).steps = step_below cells ranges c.args.index below in
    subst (λ n. c.args.index / n ≤ 16) (sym (ap (λ h. h.edges) view.agrees)) (omega (arith, ranges.counts_in.steps_high))
