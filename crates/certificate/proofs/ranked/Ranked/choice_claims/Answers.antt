use Rattle.std.proofs.Common.{◌≡◌, ℕ, List, [], ◌++◌, length, ℤ, ap, ◌∙◌, ap₂, append_assoc, arith}
use Rattle.std.proofs.lemmas.List.{length-append}
use Rattle.dossier.specs.Admission as admission
use Rattle.dossier.specs.Dossier as parts
use Rattle.dossier.specs.Rows.{Row}
use Rattle.dossier.proofs.CellRanges.{program_ranges}
use Rattle.certificate.specs.Arrays.{held}
use Rattle.certificate.proofs.HypothesisRows.{length_guards, length_edge_rows}
use Rattle.certificate.proofs.Tables.{held_new}
use Rattle.certificate.proofs.ranked.Ranked.choice_claims.Goals as goal

-- the guard rows, and then the proposition rows
guards_length : (cells : List ℤ) (t : ℕ) (none rows : List Row) → none ≡ [] → rows ≡ none ++ admission.guard_rows cells t → length rows ≡ (parts.head cells).guards
guards_length cells t none rows n r = ap length (r ∙ ap (λ xs. xs ++ admission.guard_rows cells t) n) ∙ length_guards cells t

pub push_guards-requires-clause-room : goal.push_guards-requires-clause-room
push_guards-requires-clause-room g c = omega (arith, ap length (held_new _ c.clear.ensures))

pub push_edge_rows-requires-clause-room : goal.push_edge_rows-requires-clause-room
push_edge_rows-requires-clause-room g c =
    let cells = g.S.Source.cells c.args.self.now.view.source.now in
    let counts = (program_ranges cells (g.S.Source.formed c.args.self.now.view.source.now)).counts_in in
    let guards = guards_length cells c.args.step (held c.clear.new.self) (held c.push_guards.new.table) (held_new _ c.clear.ensures) c.push_guards.ensures in
    omega (arith, guards, counts.guards_high)

pub push_conclusions-requires-clause-room : goal.push_conclusions-requires-clause-room
push_conclusions-requires-clause-room g c =
    let cells = g.S.Source.cells c.args.self.now.view.source.now in
    let counts = (program_ranges cells (g.S.Source.formed c.args.self.now.view.source.now)).counts_in in
    let guards = guards_length cells c.args.step (held c.clear.new.self) (held c.push_guards.new.table) (held_new _ c.clear.ensures) c.push_guards.ensures in
    let propositions = length-append (held c.push_guards.new.table) (admission.edge_rows cells c.args.edge c.step_from.result) in
    omega (arith, guards, propositions, ap length c.push_edge_rows.ensures, length_edge_rows cells c.args.edge c.step_from.result, counts.guards_high, counts.propositions_high)

pub returns : goal.returns
returns g c =
    let cells = g.S.Source.cells c.args.self.now.view.source.now in
    let guards = admission.guard_rows cells c.args.step in
    let last = admission.move_conclusions cells g.K.RankKind.kind c.args.mode c.args.step c.args.edge in
    c.push_conclusions.ensures
    ∙ ap (λ rows. rows ++ last)
    (c.push_edge_rows.ensures ∙ ap₂ (λ rows p. rows ++ admission.edge_rows cells c.args.edge p) (c.push_guards.ensures ∙ ap (λ rows. rows ++ guards) (held_new _ c.clear.ensures)) c.step_from.ensures.value)
    ∙ append_assoc guards (admission.edge_rows cells c.args.edge (parts.step_from cells c.args.step)) last
