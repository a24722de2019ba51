use Rattle.std.proofs.Common.{◌≡◌, ℕ, ◌+◌, ◌<◌, ◌≤◌, List, ◌++◌, length, ℤ, sym, ap, ◌∙◌, subst, arith}
use Rattle.std.proofs.lemmas.List.{length-append}
use Rattle.layout.specs.Layout.{point_rows}
use Rattle.dossier.specs.Admission as admission
use Rattle.dossier.specs.Dossier as parts
use Rattle.dossier.specs.Rows.{Row}
use Rattle.dossier.proofs.CellRanges.{program_ranges}
use Rattle.dossier.proofs.Trials.{length_each}
use Rattle.certificate.specs.Arrays.{rows_of, held}
use Rattle.certificate.specs.Falls.{There, rows_from}
use Rattle.certificate.specs.Stored.{stored_row, stored_taken}
use Rattle.certificate.proofs.Conclusions.{old_rank, old_there, new_rank, new_there, concluded, marked_falls, unmarked_falls}
use Rattle.certificate.proofs.Places.{first_below, last_below}
use Rattle.certificate.proofs.Tables.{held_length}
use Rattle.certificate.specs.declared.ranked.Ranked.{Ranked}
use Rattle.certificate.proofs.ranked.Ranked.push_conclusions.Given as given
use Rattle.certificate.proofs.ranked.Ranked.push_conclusions.Goals as goal

-- the room behind the rows that are taken
room : (cells : List ℤ) (t p : ℕ) (base rows : List Row) (numbers : ℕ) → rows ≡ base ++ stored_taken cells t (parts.point_at (parts.head cells) p) (point_rows (parts.head cells)) → length base ≤ 12 → (parts.head cells).region_rows ≤ 4 → (parts.head cells).rank_numbers ≤ 2 → numbers ≡ (parts.head cells).rank_numbers → length rows + numbers ≤ 20
room cells t p base rows numbers filled short few ranks is =
    omega (arith, ap length filled, length-append base (stored_taken cells t (parts.point_at (parts.head cells) p) (point_rows (parts.head cells))), length_each (point_rows (parts.head cells)) (λ i. admission.at_step cells t (stored_row cells (parts.point_at (parts.head cells) p) i)))

pub marked_state-requires : goal.marked_state-requires
marked_state-requires g c =
    let cells = g.S.Source.cells c.args.self.now.view.source.now in
    let ranges = program_ranges cells (g.S.Source.formed c.args.self.now.view.source.now) in
    let edge : c.args.edge < (parts.head cells).edges = omega (arith, ap (λ h. h.edges) c.args.self.now.view.agrees) in
    omega (arith, c.edge_from.ensures.value, ranges.edge_from c.args.edge edge, ranges.counts_in.states_high)

pub push_zeros-requires : goal.push_zeros-requires
push_zeros-requires g c =
    let cells = g.S.Source.cells c.args.self.now.view.source.now in
    let counts = (program_ranges cells (g.S.Source.formed c.args.self.now.view.source.now)).counts_in in
    room cells c.args.step c.last_point-last.result (held c.args.table.now) (held c.push_taken.new.table) _ c.push_taken.ensures c.requires.room counts.region_rows_high counts.rank_numbers_high (ap (λ h. h.rank_numbers) c.args.self.now.view.agrees)

-- the count of a rank's numbers
numbers_are : (g : given.Over) (self : Ranked g.row.S.Denot g.row.K.Denot g.S.Source g.K.RankKind) → g.K.RankKind.kind.numbers ≡ (parts.head (g.S.Source.cells self.view.source.now)).rank_numbers
numbers_are g self = sym self.ranks ∙ ap (λ h. h.rank_numbers) self.view.agrees

pub push_falls-requires : goal.push_falls-requires
push_falls-requires g c =
    let cells = g.S.Source.cells c.args.self.now.view.source.now in
    let ranges = program_ranges cells (g.S.Source.formed c.args.self.now.view.source.now) in
    let same = c.args.self.now.view.agrees in
    let step : c.args.step < (parts.head cells).steps = omega (arith, ap (λ h. h.steps) same) in
    let edge : c.args.edge < (parts.head cells).edges = omega (arith, ap (λ h. h.edges) same) in
    let regions = ap (λ h. h.region_rows) same in
    let numbers = numbers_are g c.args.self.now in
    let first = admission.first_point cells c.args.step c.args.edge in
    let table = c.args.table.now in
    let count : c.len.result ≡ length (held table) = c.len.ensures.value ∙ sym (held_length table) in
    record {
      room = room cells c.args.step c.last_point-last.result (held table) (held c.push_taken.new.table) _ c.push_taken.ensures c.requires.room ranges.counts_in.region_rows_high ranges.counts_in.rank_numbers_high numbers;
      there = λ k l.
          let in_rank : k < (parts.head cells).rank_numbers = omega arith in (
            subst (λ r. There (rows_of c.args.old.now) r k) (sym regions) (old_there cells ranges first (first_below cells ranges c.args.step c.args.edge step edge) (rows_of c.args.old.now) c.requires.begins k in_rank),
            subst (λ r. There (held c.push_taken.new.table) (c.len.result + r) k) (sym regions)
                (new_there cells ranges c.last_point-last.result c.last_point-last.ensures.inside c.args.step step (held table) (held c.push_taken.new.table) c.len.result count c.push_taken.ensures k in_rank),
          );
    }

pub returns-then-marked_state : goal.returns-then-marked_state
returns-then-marked_state g c =
    let cells = g.S.Source.cells c.args.self.now.view.source.now in
    let base = held c.args.table.now in
    let filled = c.push_taken.ensures ∙ ap (λ p. base ++ stored_taken cells c.args.step (parts.point_at (parts.head cells) p) (point_rows (parts.head cells))) c.last_point-last.ensures.value in
    let marked = sym (c.if-marked_state.ensures ∙ ap (parts.marked_state cells) c.edge_from.ensures.value) in
    concluded g.K.RankKind.kind cells c.args.mode c.args.step c.args.edge base (held c.push_taken.new.table) filled _ _ c.push_zeros.ensures
    (marked_falls g.K.RankKind.kind cells c.args.mode c.args.step c.args.edge base (held c.push_taken.new.table) filled marked _ (ap (λ h. h.rank_numbers) c.args.self.now.view.agrees))

pub returns-else-marked_state : goal.returns-else-marked_state
returns-else-marked_state g c =
    let cells = g.S.Source.cells c.args.self.now.view.source.now in
    let ranges = program_ranges cells (g.S.Source.formed c.args.self.now.view.source.now) in
    let same = c.args.self.now.view.agrees in
    let step : c.args.step < (parts.head cells).steps = omega (arith, ap (λ h. h.steps) same) in
    let edge : c.args.edge < (parts.head cells).edges = omega (arith, ap (λ h. h.edges) same) in
    let kind = g.K.RankKind.kind in
    let base = held c.args.table.now in
    let rows = held c.push_taken.new.table in
    let regions = ap (λ h. h.region_rows) same in
    let numbers = numbers_are g c.args.self.now in
    let first = admission.first_point cells c.args.step c.args.edge in
    let last = admission.last_point cells c.args.step c.args.edge in
    let count : c.len.result ≡ length base = c.len.ensures.value ∙ sym (held_length c.args.table.now) in
    let filled = c.push_taken.ensures ∙ ap (λ p. base ++ stored_taken cells c.args.step (parts.point_at (parts.head cells) p) (point_rows (parts.head cells))) c.last_point-last.ensures.value in
    let unmarked = sym (c.if-marked_state.ensures ∙ ap (parts.marked_state cells) c.edge_from.ensures.value) in
    concluded kind cells c.args.mode c.args.step c.args.edge base rows filled _ _ c.push_falls.ensures
    (unmarked_falls kind cells c.args.mode c.args.step c.args.edge base rows filled unmarked _ numbers
    (g.met.K.RankKind.lawful.inside c.args.mode)
    (rows_from (rows_of c.args.old.now) c.args.self.now.view.head.region_rows) (rows_from rows (c.len.result + c.args.self.now.view.head.region_rows))
    (λ k l. ap (λ r. rows_from (rows_of c.args.old.now) r k) regions ∙ old_rank cells ranges first (first_below cells ranges c.args.step c.args.edge step edge) (rows_of c.args.old.now) c.requires.begins k (omega arith))
    (λ k l. ap (λ r. rows_from rows (c.len.result + r) k) regions ∙ new_rank cells ranges last (last_below cells ranges c.args.step c.args.edge step edge) c.args.step step base rows c.len.result count filled k (omega arith)))
