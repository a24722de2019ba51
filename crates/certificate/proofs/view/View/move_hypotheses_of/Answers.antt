use Rattle.std.proofs.Common.{◌≡◌, ℕ, ◌≤◌, List, [], ◌++◌, length, ℤ, ap, ◌∙◌, ap₂, append_assoc, arith}
use Rattle.std.proofs.lemmas.List.{length-append}
use Rattle.dossier.specs.Admission as admission
use Rattle.dossier.specs.Dossier as parts
use Rattle.dossier.specs.Rows.{Row}
use Rattle.dossier.proofs.CellRanges.{program_ranges}
use Rattle.certificate.specs.Arrays.{held}
use Rattle.certificate.proofs.HypothesisRows.{length_point, length_guards}
use Rattle.certificate.proofs.Tables.{held_new}
use Rattle.certificate.proofs.view.View.move_hypotheses_of.Goals as goal

-- the rows so far are few
few : (cells : List ℤ) (p t : ℕ) (none rows more : List Row) → none ≡ [] → rows ≡ none ++ admission.point_hypotheses cells p → more ≡ rows ++ admission.guard_rows cells t → (parts.head cells).region_rows ≤ 4 → (parts.head cells).rank_numbers ≤ 2 → (parts.head cells).guards ≤ 4 → (length rows ≤ 6) × (length more ≤ 10)
few cells p t none rows more n r m a b d =
    let points : length rows ≡ length (admission.point_hypotheses cells p) = ap length (r ∙ ap (λ xs. xs ++ admission.point_hypotheses cells p) n) in
    (omega (arith, length_point cells p), omega (arith, length_point cells p, ap length m, length-append rows (admission.guard_rows cells t), length_guards cells t))

pub push_point-requires-clause-room : goal.push_point-requires-clause-room
push_point-requires-clause-room g c = omega (arith, ap length (held_new _ c.clear.ensures))

pub push_guards-requires-clause-room : goal.push_guards-requires-clause-room
push_guards-requires-clause-room g c =
    let cells = g.S.Source.cells c.args.self.now.source.now in
    let counts = (program_ranges cells (g.S.Source.formed c.args.self.now.source.now)).counts_in in
    let rows = held c.push_point.new.table in
    let so_far = few cells c.first_point.result c.args.step (held c.clear.new.self) rows (rows ++ admission.guard_rows cells c.args.step) (held_new _ c.clear.ensures) c.push_point.ensures (λ _. rows ++ admission.guard_rows cells c.args.step) counts.region_rows_high counts.rank_numbers_high counts.guards_high in
    omega (arith, so_far.0)

pub push_edge_rows-requires-clause-room : goal.push_edge_rows-requires-clause-room
push_edge_rows-requires-clause-room g c =
    let cells = g.S.Source.cells c.args.self.now.source.now in
    let counts = (program_ranges cells (g.S.Source.formed c.args.self.now.source.now)).counts_in in
    let so_far = few cells c.first_point.result c.args.step (held c.clear.new.self) (held c.push_point.new.table) (held c.push_guards.new.table) (held_new _ c.clear.ensures) c.push_point.ensures c.push_guards.ensures counts.region_rows_high counts.rank_numbers_high counts.guards_high in
    omega (arith, so_far.1)

pub returns : goal.returns
returns g c =
    let cells = g.S.Source.cells c.args.self.now.source.now in
    let points = admission.point_hypotheses cells (admission.first_point cells c.args.step c.args.edge) in
    let guards = admission.guard_rows cells c.args.step in
    c.push_edge_rows.ensures
    ∙ ap₂ (λ rows p. rows ++ admission.edge_rows cells c.args.edge p)
    (c.push_guards.ensures ∙ ap (λ rows. rows ++ guards) (c.push_point.ensures ∙ ap₂ (λ rows p. rows ++ admission.point_hypotheses cells p) (held_new _ c.clear.ensures) c.first_point.ensures.value)) c.step_from.ensures.value
    ∙ append_assoc points guards (admission.edge_rows cells c.args.edge (parts.step_from cells c.args.step))
