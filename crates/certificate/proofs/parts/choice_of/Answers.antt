use Rattle.std.proofs.Common.{◌≡◌, ◌<◌, sym, ap, ◌∙◌, arith}
use Rattle.layout.specs.Forms.{form_number}
use Rattle.dossier.specs.Dossier as parts
use Rattle.dossier.proofs.CellRanges.{program_ranges, some_run_ranges}
use Rattle.certificate.proofs.parts.choice_of.Goals as goal

pub joined-requires : goal.joined-requires
joined-requires g c =
    let view = c.of-view.result in
    let cells = g.S.Source.cells view.source.now in
    let formed = g.S.Source.formed view.source.now in
    let form : (parts.head cells).form ≡ 2 = sym (ap (λ h. h.form) view.agrees) ∙ ap form_number c.in-SomeRun.is in
    let below : c.args.point < parts.points (parts.head cells) = omega (arith, c.points.ensures.value) in
    let choices = some_run_ranges cells formed form in
    let counts = (program_ranges cells formed).counts_in in
    record {
      step = omega (arith, c.choice_step-step.ensures, choices.steps c.args.point below, counts.steps_high);
      edge = omega (arith, c.choice_edge-edge.ensures, choices.edges c.args.point below, counts.edges_high);
    }
