use Rattle.std.proofs.Common.{◌≡◌, false, cond, eqb, [], sym, ap, ◌∙◌, ap₂, append-nil, arith}
use Rattle.std.proofs.lemmas.Bool.{ne_eqb}
use Rattle.layout.specs.Forms.{form_number}
use Rattle.layout.proofs.Count.{formed_ranges}
use Rattle.dossier.specs.Admission as admission
use Rattle.dossier.specs.Dossier as parts
use Rattle.dossier.proofs.CellRanges.{some_run_ranges}
use Rattle.certificate.proofs.Choosing.{chosen_first}
use Rattle.certificate.proofs.Places.{few_points}
use Rattle.certificate.proofs.ranked.Ranked.point_claims.Goals as goal

pub choice_mode-mode-requires : goal.choice_mode-mode-requires
choice_mode-mode-requires g c =
    let cells = g.S.Source.cells c.args.self.now.view.source.now in
    omega (arith, c.requires.inside, few_points (parts.head cells) (formed_ranges cells (g.S.Source.formed c.args.self.now.view.source.now)))

pub choice_step-step-requires : goal.choice_step-step-requires
choice_step-step-requires g c =
    let cells = g.S.Source.cells c.args.self.now.view.source.now in
    omega (arith, c.requires.inside, few_points (parts.head cells) (formed_ranges cells (g.S.Source.formed c.args.self.now.view.source.now)))

pub choice_edge-edge-requires : goal.choice_edge-edge-requires
choice_edge-edge-requires g c =
    let cells = g.S.Source.cells c.args.self.now.view.source.now in
    omega (arith, c.requires.inside, few_points (parts.head cells) (formed_ranges cells (g.S.Source.formed c.args.self.now.view.source.now)))

pub choice_claims-requires : goal.choice_claims-requires
choice_claims-requires g c =
    let cells = g.S.Source.cells c.args.self.now.view.source.now in
    let p = c.args.point in
    let same = c.args.self.now.view.agrees in
    let form : (parts.head cells).form ≡ 2 = sym (ap (λ h. h.form) same) ∙ ap form_number c.requires.form in
    let ranges = some_run_ranges cells (g.S.Source.formed c.args.self.now.view.source.now) form in
    let here = chosen_first cells p (λ e. c.if-mode-eq0.false (c.choice_mode-mode.ensures ∙ e)) c.requires.step_begins c.requires.edge_begins in
    record {
      step = omega (arith, c.choice_step-step.ensures, ranges.steps p c.requires.inside, ap (λ h. h.steps) same);
      edge = omega (arith, c.choice_edge-edge.ensures, ranges.edges p c.requires.inside, ap (λ h. h.edges) same);
      begins = record {
        rest = [];
        order = c.requires.assumed ∙ ap (admission.point_hypotheses cells) (sym (ap₂ (admission.first_point cells) c.choice_step-step.ensures c.choice_edge-edge.ensures ∙ here)) ∙ sym (append-nil _);
      };
    }

pub returns-else-mode-eq0 : goal.returns-else-mode-eq0
returns-else-mode-eq0 g c =
    let cells = g.S.Source.cells c.args.self.now.view.source.now in
    let p = c.args.point in
    let kind = g.K.RankKind.kind in
    let some : eqb (parts.choice_mode cells p) 0 ≡ false = ne_eqb _ 0 (λ e. c.if-mode-eq0.false (c.choice_mode-mode.ensures ∙ e)) in
    c.choice_claims.ensures
    ∙ ap (λ m. admission.choice_conclusions cells kind m c.choice_step-step.result c.choice_edge-edge.result) c.choice_mode-mode.ensures
    ∙ ap₂ (admission.choice_conclusions cells kind (parts.choice_mode cells p)) c.choice_step-step.ensures c.choice_edge-edge.ensures
    ∙ sym (ap (λ b. cond b (admission.impossible cells (parts.point_conclusions (parts.head cells))) (admission.choice_conclusions cells kind (parts.choice_mode cells p) (parts.choice_step cells p) (parts.choice_edge cells p))) some)
