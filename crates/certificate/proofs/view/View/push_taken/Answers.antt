use Rattle.std.proofs.Common.{◌≡◌, ◌+◌, ◌*◌, ◌<◌, ℕ, List, ℤ, ◌++◌, sym, ap, ◌∙◌, subst, ap₂, arith}
use Rattle.layout.specs.Layout.{point_rows}
use Rattle.layout.proofs.Count.{formed_ranges}
use Rattle.dossier.specs.Admission.{at_step}
use Rattle.dossier.specs.Dossier as parts
use Rattle.dossier.specs.Rows.{each}
use Rattle.dossier.proofs.CellRanges.{program_ranges}
use Rattle.certificate.specs.Arrays.{rows_of, held, RowWithin, short}
use Rattle.certificate.specs.Stored.{stored_row, stored_taken}
use Rattle.certificate.proofs.Eaches.{pushed, filled_length}
use Rattle.certificate.proofs.Places.{few_points}
use Rattle.certificate.proofs.RowBounds.{row_short, update_short, taken_is}
use Rattle.certificate.proofs.Tables.{held_length, held_push, each_counted, each_row}
use Rattle.certificate.proofs.view.View.push_taken.Goals as goal

pub point_at-at-requires : goal.point_at-at-requires
point_at-at-requires g c =
    let cells = g.S.Source.cells c.args.self.now.source.now in
    let few = few_points (parts.head cells) (formed_ranges cells (g.S.Source.formed c.args.self.now.source.now)) in
    omega (arith, c.requires.point)

pub taken-requires-clause-row : goal.taken-requires-clause-row
taken-requires-clause-row g c =
    let cells = g.S.Source.cells c.args.self.now.source.now in
    let ranges = program_ranges cells (g.S.Source.formed c.args.self.now.source.now) in
    let inside : c.loop-i.i < point_rows (parts.head cells) = omega (arith, c.rows_of_point-i-end.ensures.value) in
    let row = c.row_at-row.ensures ∙ ap₂ (λ a w. parts.row_at cells (a + c.loop-i.i * w)) c.point_at-at.ensures.value c.row_width-width.ensures.value in
    subst (RowWithin short) (sym row) (row_short cells _ (ranges.point_rows c.args.point c.loop-i.i c.requires.point inside))

-- the updates as the step has them
given_updates : (cells : List ℤ) (t : ℕ) (items rows : List (List ℤ)) → rows ≡ items → rows_of items ≡ each (parts.head cells).variables (parts.update cells t) → rows_of rows ≡ each (parts.head cells).variables (parts.update cells t)
given_updates cells t items rows e is = ap rows_of e ∙ is

pub taken-requires-clause-few : goal.taken-requires-clause-few
taken-requires-clause-few g c =
    let cells = g.S.Source.cells c.args.self.now.source.now in
    let given = given_updates cells c.args.step c.updates-updates.result.items c.as_slice.result.now c.as_slice.ensures.value c.updates-updates.ensures in
    omega (arith, each_counted _ _ _ given, (formed_ranges cells (g.S.Source.formed c.args.self.now.source.now)).variables_high)

pub taken-requires-clause-updates : goal.taken-requires-clause-updates
taken-requires-clause-updates g c v l =
    let cells = g.S.Source.cells c.args.self.now.source.now in
    let ranges = program_ranges cells (g.S.Source.formed c.args.self.now.source.now) in
    let step : c.args.step < (parts.head cells).steps = omega (arith, ap (λ h. h.steps) c.args.self.now.agrees) in
    let given = given_updates cells c.args.step c.updates-updates.result.items c.as_slice.result.now c.as_slice.ensures.value c.updates-updates.ensures in
    let inside : v < (parts.head cells).variables = omega (arith, each_counted _ _ _ given) in
    subst (RowWithin short) (sym (each_row _ _ _ given v inside)) (update_short cells ranges c.args.step step v inside)

pub push-requires : goal.push-requires
push-requires g c =
    let cells = g.S.Source.cells c.args.self.now.source.now in
    omega (arith, c.rows_of_point-i-end.ensures.value, c.requires.room, held_length c.loop-i.table, filled_length (held c.args.table.now) (held c.loop-i.table) c.loop-i.i (λ i. at_step cells c.args.step (stored_row cells (parts.point_at (parts.head cells) c.args.point) i)) c.loop-i.invariant)

pub loop-i-preserved : goal.loop-i-preserved
loop-i-preserved g c =
    let cells = g.S.Source.cells c.args.self.now.source.now in
    let ranges = program_ranges cells (g.S.Source.formed c.args.self.now.source.now) in
    let same = c.args.self.now.agrees in
    let step : c.args.step < (parts.head cells).steps = omega (arith, ap (λ h. h.steps) same) in
    let place = parts.point_at (parts.head cells) c.args.point in
    let given = given_updates cells c.args.step c.updates-updates.result.items c.as_slice.result.now c.as_slice.ensures.value c.updates-updates.ensures in
    let row = c.row_at-row.ensures ∙ ap₂ (λ a w. parts.row_at cells (a + c.loop-i.i * w)) c.point_at-at.ensures.value c.row_width-width.ensures.value in
    pushed (held c.args.table.now) (held c.loop-i.table) c.loop-i.i (λ i. at_step cells c.args.step (stored_row cells place i)) c.loop-i.invariant
    _ _ (held_push _ _ _ c.push.ensures.items)
    (taken_is cells ranges c.args.step step (stored_row cells place c.loop-i.i) c.row_at-row.result c.taken.result c.as_slice.result.now _ row (each_counted _ _ _ given) (each_row _ _ _ given) c.taken.ensures)

pub returns : goal.returns
returns g c =
    let cells = g.S.Source.cells c.args.self.now.source.now in
    let all : c.loop-i.i ≡ point_rows (parts.head cells) = omega (arith, c.rows_of_point-i-end.ensures.value) in
    c.loop-i.invariant ∙ ap (λ n. held c.args.table.now ++ stored_taken cells c.args.step (parts.point_at (parts.head cells) c.args.point) n) all
