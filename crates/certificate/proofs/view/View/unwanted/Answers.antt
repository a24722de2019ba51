use Rattle.std.proofs.Common.{◌≡◌, ◌<◌, false, cond, eqb, true, sym, ap, ◌∙◌, subst, ap₂, arith}
use lib.IntN.{+ℤ_idl}
use Rattle.dossier.specs.Admission as admission
use Rattle.dossier.specs.Dossier as parts
use Rattle.dossier.specs.Rows.{Row, zero_row, difference, negated, less}
use Rattle.dossier.proofs.CellRanges.{program_ranges}
use Rattle.certificate.specs.Arrays.{RowWithin, long}
use Rattle.certificate.proofs.RowBounds.{row_short, row_more, zero_row_within}
use Rattle.certificate.proofs.view.View.unwanted.Goals as goal

pub difference-requires-clause-old : goal.difference-requires-clause-old
difference-requires-clause-old g c = subst (RowWithin long) (sym c.zero_row.ensures) (zero_row_within 8589934592)

pub difference-requires-clause-new : goal.difference-requires-clause-new
difference-requires-clause-new g c =
    let cells = g.S.Source.cells c.args.self.now.source.now in
    let ranges = program_ranges cells (g.S.Source.formed c.args.self.now.source.now) in
    let inside : c.args.index < (parts.head cells).propositions = omega (arith, ap (λ h. h.propositions) c.args.self.now.agrees) in
    subst (RowWithin long) (sym c.proposition_row.ensures) (row_more 32768 8589934592 _ (omega arith) (row_short cells _ (ranges.propositions c.args.index inside)))

opposite : (r : Row) → less (difference zero_row r) 1 ≡ less (negated r) 1
opposite r = ap (λ f. less f 1) (λ i j. +ℤ_idl (negated r j) i)

pub returns-else-is_place : goal.returns-else-is_place
returns-else-is_place g c =
    let cells = g.S.Source.cells c.args.self.now.source.now in
    c.difference.ensures ∙ ap₂ (λ z r. less (difference z r) 1) c.zero_row.ensures c.proposition_row.ensures ∙ opposite (parts.proposition_row cells c.args.index)
    ∙ ap (λ b. cond b (admission.demand cells (cond (eqb c.args.place (parts.proposition_place cells c.args.index)) false true)) (less (negated (parts.proposition_row cells c.args.index)) 1)) c.if-is_place.ensures
