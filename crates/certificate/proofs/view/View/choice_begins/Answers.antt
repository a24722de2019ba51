use Rattle.std.proofs.Common.{◌≡◌, ◌/◌, ◌%◌, sym, ap, ◌∙◌, arith}
use Rattle.layout.specs.Forms.{form_number}
use Rattle.layout.proofs.Count.{formed_ranges}
use Rattle.dossier.specs.Dossier as parts
use Rattle.dossier.proofs.CellRanges.{program_ranges, some_run_ranges}
use Rattle.certificate.specs.Outcomes.{outcome}
use Rattle.certificate.proofs.Choosing.{begins_there, begin_passes}
use Rattle.certificate.proofs.Places.{few_points}
use Rattle.certificate.proofs.view.View.choice_begins.Goals as goal

pub choice_step-requires : goal.choice_step-requires
choice_step-requires g c =
    let cells = g.S.Source.cells c.args.self.now.source.now in
    omega (arith, c.requires.inside, few_points (parts.head cells) (formed_ranges cells (g.S.Source.formed c.args.self.now.source.now)))

pub step_from-requires : goal.step_from-requires
step_from-requires g c =
    let cells = g.S.Source.cells c.args.self.now.source.now in
    let formed = g.S.Source.formed c.args.self.now.source.now in
    let form : (parts.head cells).form ≡ 2 = sym (ap (λ h. h.form) c.args.self.now.agrees) ∙ ap form_number c.requires.form in
    omega (arith, c.choice_step.ensures, (some_run_ranges cells formed form).steps c.args.point c.requires.inside, (program_ranges cells formed).counts_in.steps_high)

pub choice_edge-requires : goal.choice_edge-requires
choice_edge-requires g c =
    let cells = g.S.Source.cells c.args.self.now.source.now in
    omega (arith, c.requires.inside, few_points (parts.head cells) (formed_ranges cells (g.S.Source.formed c.args.self.now.source.now)))

pub edge_from-requires : goal.edge_from-requires
edge_from-requires g c =
    let cells = g.S.Source.cells c.args.self.now.source.now in
    let formed = g.S.Source.formed c.args.self.now.source.now in
    let form : (parts.head cells).form ≡ 2 = sym (ap (λ h. h.form) c.args.self.now.agrees) ∙ ap form_number c.requires.form in
    omega (arith, c.choice_edge.ensures, (some_run_ranges cells formed form).edges c.args.point c.requires.inside, (program_ranges cells formed).counts_in.edges_high)

pub returns : goal.returns
returns g c =
    let cells = g.S.Source.cells c.args.self.now.source.now in
    let p = c.args.point in
    let from = c.step_from.ensures.value ∙ ap (parts.step_from cells) c.choice_step.ensures in
    let leaves = c.edge_from.ensures.value ∙ ap (parts.edge_from cells) c.choice_edge.ensures in
    let states = ap (λ h. h.states) c.args.self.now.agrees in
    sym (ap outcome (begin_passes cells p
    (begins_there (parts.choice_mode cells p) _ _ (sym from ∙ c.if-step_from-point.false ∙ ap (λ n. p / n) states))
    (begins_there (parts.choice_mode cells p) _ _ (sym leaves ∙ c.if-edge_from-point.false ∙ ap (λ n. p % n) states))))
