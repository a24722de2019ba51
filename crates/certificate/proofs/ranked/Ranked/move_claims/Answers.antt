use Rattle.std.proofs.Common.{◌≡◌, ◌/◌, ◌%◌, ◌<◌, false, cond, eqb, ◌++◌, length, sym, ap, ◌∙◌, subst, ap₂, arith}
use Rattle.std.proofs.lemmas.Bool.{ne_eqb}
use Rattle.layout.specs.Layout.{conclusions}
use Rattle.dossier.specs.Admission as admission
use Rattle.dossier.specs.Dossier as parts
use Rattle.dossier.proofs.CellRanges.{program_ranges}
use Rattle.certificate.specs.Arrays.{rows_of}
use Rattle.certificate.specs.Falls.{Begins}
use Rattle.certificate.proofs.Places.{move_below, step_below, edge_below}
use Rattle.certificate.proofs.Tables.{held_new}
use Rattle.certificate.proofs.ranked.Ranked.move_claims.Goals as goal

pub move_mode-mode-requires : goal.move_mode-mode-requires
move_mode-mode-requires g c =
    let cells = g.S.Source.cells c.args.self.now.view.source.now in
    omega (arith, move_below cells (program_ranges cells (g.S.Source.formed c.args.self.now.view.source.now)) c.args.index c.requires.inside)

pub push_conclusions-requires : goal.push_conclusions-requires
push_conclusions-requires g c =
    let cells = g.S.Source.cells c.args.self.now.view.source.now in
    let ranges = program_ranges cells (g.S.Source.formed c.args.self.now.view.source.now) in
    let m = c.args.index in
    let same = c.args.self.now.view.agrees in
    let edges = sym (ap (λ h. h.edges) same) in
    let step : m / (parts.head cells).edges < (parts.head cells).steps = step_below cells ranges m c.requires.inside in
    record {
      step = subst (λ n. m / n < c.args.self.now.view.head.steps) edges (omega (arith, ap (λ h. h.steps) same));
      edge = subst (λ n. m % n < n) edges (edge_below cells ranges m c.requires.inside);
      room = omega (arith, ap length (held_new _ c.clear.ensures));
      begins = subst (λ n. Begins (rows_of c.args.hypotheses.now) (admission.point_hypotheses cells (admission.first_point cells (m / n) (m % n)))) edges c.requires.begins;
    }

pub returns-else-mode-eq0 : goal.returns-else-mode-eq0
returns-else-mode-eq0 g c =
    let cells = g.S.Source.cells c.args.self.now.view.source.now in
    let m = c.args.index in
    let kind = g.K.RankKind.kind in
    let claims = admission.move_conclusions cells kind (parts.move_mode cells m) (admission.move_step cells m) (admission.move_edge cells m) in
    let some : eqb (parts.move_mode cells m) 0 ≡ false = ne_eqb _ 0 (λ e. c.if-mode-eq0.false (c.move_mode-mode.ensures ∙ e)) in
    c.push_conclusions.ensures
    ∙ ap (λ xs. xs ++ admission.move_conclusions cells kind c.move_mode-mode.result (m / c.args.self.now.view.head.edges) (m % c.args.self.now.view.head.edges)) (held_new _ c.clear.ensures)
    ∙ ap₂ (λ k n. admission.move_conclusions cells kind k (m / n) (m % n)) c.move_mode-mode.ensures (ap (λ h. h.edges) c.args.self.now.view.agrees)
    ∙ sym (ap (λ b. cond b (admission.impossible cells (conclusions (parts.head cells))) claims) some)
