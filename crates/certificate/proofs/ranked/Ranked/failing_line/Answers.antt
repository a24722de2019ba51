use Rattle.std.proofs.Common.{◌≡◌, ◌*◌, ◌/◌, ◌%◌, ◌<◌, ◌++◌, sym, refl, ap, ◌∙◌, subst, arith}
use Rattle.layout.specs.Forms.{form_number}
use Rattle.dossier.specs.declared.fault.AdmitFault.TheVariants.{MoveLine}
use Rattle.dossier.specs.Admission as admission
use Rattle.dossier.specs.Dossier as parts
use Rattle.dossier.proofs.CellRanges.{program_ranges}
use Rattle.dossier.proofs.Tests.{length_move_claims}
use Rattle.certificate.specs.Arrays.{rows_of}
use Rattle.certificate.specs.Outcomes.{outcome}
use Rattle.certificate.proofs.Failures.{joined_more, joined_first}
use Rattle.certificate.proofs.Groups.{move_group, judgement}
use Rattle.certificate.proofs.Numbered.{line_more, line_fails, lines_done}
use Rattle.certificate.proofs.Places.{move_below, step_below, edge_below}
use Rattle.certificate.proofs.Tables.{counted}
use Rattle.certificate.proofs.ranked.Ranked.failing_line.Goals as goal

pub move_hypotheses_of-requires : goal.move_hypotheses_of-requires
move_hypotheses_of-requires g c =
    let cells = g.S.Source.cells c.args.self.now.view.source.now in
    let m = c.search.index in
    let same = c.args.self.now.view.agrees in
    let below : m < admission.moves cells = omega (arith, ap (λ h. h.steps * h.edges) same) in
    let ranges = program_ranges cells (g.S.Source.formed c.args.self.now.view.source.now) in
    let edges = sym (ap (λ h. h.edges) same) in
    let step : m / (parts.head cells).edges < (parts.head cells).steps = step_below cells ranges m below in
    record {
      step = subst (λ n. m / n < c.args.self.now.view.head.steps) edges (omega (arith, ap (λ h. h.steps) same));
      edge = subst (λ n. m % n < n) edges (edge_below cells ranges m below);
    }

pub move_claims-requires : goal.move_claims-requires
move_claims-requires g c =
    let cells = g.S.Source.cells c.args.self.now.view.source.now in
    let m = c.search.index in
    let same = c.args.self.now.view.agrees in
    let step = admission.move_step cells m in
    let edge = admission.move_edge cells m in
    record {
      inside = omega (arith, ap (λ h. h.steps * h.edges) same);
      begins = record {
        rest = admission.guard_rows cells step ++ admission.edge_rows cells edge (parts.step_from cells step);
        order = ap rows_of c.as_slice-hypotheses.ensures.value ∙ c.move_hypotheses_of.ensures ∙ ap (λ n. admission.move_hypotheses_of cells (m / n) (m % n)) (ap (λ h. h.edges) same);
      };
    }

pub move_line_at-at-requires : goal.move_line_at-at-requires
move_line_at-at-requires g c =
    let cells = g.S.Source.cells c.args.self.now.view.source.now in
    let m = c.search.index in
    let same = c.args.self.now.view.agrees in
    let below : m < admission.moves cells = omega (arith, ap (λ h. h.steps * h.edges) same) in
    let ranges = program_ranges cells (g.S.Source.formed c.args.self.now.view.source.now) in
    let claims = ap rows_of c.as_slice-conclusion-items.ensures.value ∙ c.move_claims.ensures in
    record {
      place = omega (arith, move_below cells ranges m below);
      line = omega (arith, counted _ _ claims, length_move_claims cells g.K.RankKind.kind m, ranges.counts_in.region_rows_high, ranges.counts_in.rank_numbers_high);
    }

pub judge-requires : goal.judge-requires
judge-requires g c =
    let cells = g.S.Source.cells c.args.self.now.view.source.now in
    let m = c.search.index in
    let same = c.args.self.now.view.agrees in
    let below : m < admission.moves cells = omega (arith, ap (λ h. h.steps * h.edges) same) in
    let form : (parts.head cells).form ≡ 1 = sym (ap (λ h. h.form) same) ∙ ap form_number c.requires in
    let numbers = sym (ap (λ h. h.rank_numbers) same) ∙ c.args.self.now.ranks in
    let assumed = ap rows_of c.as_slice-hypotheses.ensures.value ∙ c.move_hypotheses_of.ensures ∙ ap (λ n. admission.move_hypotheses_of cells (m / n) (m % n)) (ap (λ h. h.edges) same) in
    let claims = ap rows_of c.as_slice-conclusion-items.ensures.value ∙ c.move_claims.ensures in
    let j = judgement (move_group cells (g.S.Source.formed c.args.self.now.view.source.now) g.K.RankKind.kind g.met.K.RankKind.lawful numbers form m below) c.as_slice-hypotheses.result.now c.as_slice-conclusion-items.result.now assumed claims c.loop-line.line c.loop-line-test.true c.move_line_at-at.ensures.value refl in
    record { inside = omega (arith, c.move_line_at-at.ensures.bounded); few = j.few; line = j.line; assumed = j.assumed; shown = j.shown }

pub loop-line-preserved : goal.loop-line-preserved
loop-line-preserved g c =
    let cells = g.S.Source.cells c.args.self.now.view.source.now in
    let m = c.search.index in
    let same = c.args.self.now.view.agrees in
    let below : m < admission.moves cells = omega (arith, ap (λ h. h.steps * h.edges) same) in
    let form : (parts.head cells).form ≡ 1 = sym (ap (λ h. h.form) same) ∙ ap form_number c.requires in
    let numbers = sym (ap (λ h. h.rank_numbers) same) ∙ c.args.self.now.ranks in
    let assumed = ap rows_of c.as_slice-hypotheses.ensures.value ∙ c.move_hypotheses_of.ensures ∙ ap (λ n. admission.move_hypotheses_of cells (m / n) (m % n)) (ap (λ h. h.edges) same) in
    let claims = ap rows_of c.as_slice-conclusion-items.ensures.value ∙ c.move_claims.ensures in
    let j = judgement (move_group cells (g.S.Source.formed c.args.self.now.view.source.now) g.K.RankKind.kind g.met.K.RankKind.lawful numbers form m below) c.as_slice-hypotheses.result.now c.as_slice-conclusion-items.result.now assumed claims c.loop-line.line c.loop-line-test.true c.move_line_at-at.ensures.value refl in
    (c.loop-line.invariant.0, line_more cells (parts.move_line_at (parts.head cells) m) (parts.move_hypotheses (parts.head cells)) (admission.move_hypotheses_of cells (admission.move_step cells m) (admission.move_edge cells m)) (MoveLine m) (admission.move_claims cells g.K.RankKind.kind m) c.loop-line.line j.inside (sym (c.if-not-judge.ensures ∙ j.judged)) c.loop-line.invariant.1)

pub search-preserved : goal.search-preserved
search-preserved g c =
    let cells = g.S.Source.cells c.args.self.now.view.source.now in
    let m = c.search.index in
    let same = c.args.self.now.view.agrees in
    let below : m < admission.moves cells = omega (arith, ap (λ h. h.steps * h.edges) same) in
    let claims = ap rows_of c.as_slice-conclusion-items.ensures.value ∙ c.move_claims.ensures in
    let none = lines_done cells (parts.move_line_at (parts.head cells) m) (parts.move_hypotheses (parts.head cells)) (admission.move_hypotheses_of cells (admission.move_step cells m) (admission.move_edge cells m)) (MoveLine m) (admission.move_claims cells g.K.RankKind.kind m) c.loop-line.line (omega (arith, counted _ _ claims)) c.loop-line.invariant.1 in
    (c.loop-line.invariant.0, joined_more (admission.moves cells) (admission.trials_of_move cells g.K.RankKind.kind) m below (sym (ap outcome none)) c.search.invariant.1)

pub returns-then-not-judge : goal.returns-then-not-judge
returns-then-not-judge g c =
    let cells = g.S.Source.cells c.args.self.now.view.source.now in
    let m = c.search.index in
    let same = c.args.self.now.view.agrees in
    let below : m < admission.moves cells = omega (arith, ap (λ h. h.steps * h.edges) same) in
    let form : (parts.head cells).form ≡ 1 = sym (ap (λ h. h.form) same) ∙ ap form_number c.requires in
    let numbers = sym (ap (λ h. h.rank_numbers) same) ∙ c.args.self.now.ranks in
    let assumed = ap rows_of c.as_slice-hypotheses.ensures.value ∙ c.move_hypotheses_of.ensures ∙ ap (λ n. admission.move_hypotheses_of cells (m / n) (m % n)) (ap (λ h. h.edges) same) in
    let claims = ap rows_of c.as_slice-conclusion-items.ensures.value ∙ c.move_claims.ensures in
    let j = judgement (move_group cells (g.S.Source.formed c.args.self.now.view.source.now) g.K.RankKind.kind g.met.K.RankKind.lawful numbers form m below) c.as_slice-hypotheses.result.now c.as_slice-conclusion-items.result.now assumed claims c.loop-line.line c.loop-line-test.true c.move_line_at-at.ensures.value refl in
    let fault = line_fails cells (parts.move_line_at (parts.head cells) m) (parts.move_hypotheses (parts.head cells)) (admission.move_hypotheses_of cells (admission.move_step cells m) (admission.move_edge cells m)) (MoveLine m) (admission.move_claims cells g.K.RankKind.kind m) c.loop-line.line j.inside (sym (c.if-not-judge.ensures ∙ j.judged)) c.loop-line.invariant.1 in
    sym (joined_first (admission.moves cells) (admission.trials_of_move cells g.K.RankKind.kind) m (MoveLine m c.loop-line.line) below fault c.search.invariant.1)
