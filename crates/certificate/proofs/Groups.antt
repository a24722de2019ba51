-- Groups of proof lines: the start lines, the lines of a move, the lines of a point. What the judgement of a line asks for.
use Rattle.std.proofs.Common.{◌≡◌, ℕ, ◌+◌, ◌<◌, ◌≤◌, true, List, [], length, get_or, ℤ, sym, ap, ◌∙◌, subst, ap₂, arith}
use lib.Arith.{digits_lt}
use Rattle.std.proofs.lemmas.List.{length-append, length-map, get_or-map}
use Rattle.layout.specs.Cells.{well_formed}
use Rattle.layout.specs.Layout.{point_rows, conclusions}
use Rattle.dossier.specs.Admission
use Rattle.dossier.specs.Dossier.{head, start_row, step_from, start_point, start_line_at, move_line_at, move_hypotheses, move_mode, points, point_line_at, point_conclusions, choice_mode, choice_step, choice_edge}
use Rattle.dossier.specs.Kinds.{Kind, Lawful}
use Rattle.dossier.specs.Ranges.{Line}
use Rattle.dossier.specs.Rows.{Row, zero_row}
use Rattle.dossier.proofs.CellRanges.{program_ranges, every_run_ranges, some_run_ranges}
use Rattle.dossier.proofs.Tests.{length_start, length_move_claims, length_point_claims}
use Rattle.dossier.proofs.Trials.{length_each}
use Rattle.certificate.specs.Arrays.{row_of, rows_of, RowWithin, RowsWithin, wide}
use Rattle.certificate.proofs.HypothesisRows.{length_point, length_guards, length_edge_rows}
use Rattle.certificate.proofs.Places.{step_below, edge_below}
use Rattle.certificate.proofs.WideRows.{start_wide, point_wide, hypotheses_wide, claims_wide, choice_claims_wide}

-- n hypotheses and some conclusions, line k at its place
pub record Group (cells : List ℤ) (at : ℕ → ℕ) (n : ℕ) (hs cs : List Row) : Type 0 where
  pub counted : length hs ≡ n
  pub few : n ≤ 18
  pub lines : (k : ℕ) → k < length cs → Line cells (at k) n
  pub assumed : RowsWithin wide hs
  pub shown : RowsWithin wide cs

-- what the judgement of line k asks for, and what it tells
pub record Judgement (cells : List ℤ) (at : ℕ → ℕ) (n : ℕ) (hs cs : List Row) (H : List (List ℤ)) (k place : ℕ) (row : List ℤ) : Type 0 where
  pub inside : k < length cs
  pub few : length H ≤ 18
  pub line : Line cells place (length H)
  pub assumed : RowsWithin wide (rows_of H)
  pub shown : RowWithin wide (row_of row)
  pub judged : Admission.line_at cells place (length H) (rows_of H) (row_of row) ≡ Admission.line_at cells (at k) n hs (get_or cs k zero_row)

pub judgement : {cells : List ℤ} {at : ℕ → ℕ} {n : ℕ} {hs cs : List Row} → Group cells at n hs cs → (H C : List (List ℤ)) → rows_of H ≡ hs → rows_of C ≡ cs
    → (k : ℕ) → k < length C → {place : ℕ} → place ≡ at k → {row : List ℤ} → row ≡ get_or C k [] → Judgement cells at n hs cs H k place row
judgement {cells} {at} {n} {hs} {cs} group H C assumes shows k below {place} is {row} chosen =
    let within : k < length cs = omega (arith, length-map C row_of, ap length shows) in
    let count : length H ≡ n = sym (length-map H row_of) ∙ ap length assumes ∙ group.counted in
    let same : row_of row ≡ get_or cs k zero_row = ap row_of chosen ∙ sym (get_or-map row_of C k [] zero_row below) ∙ ap (λ xs. get_or xs k zero_row) shows in
    record {
      inside = within;
      few = omega (arith, group.few);
      line = subst (λ m. Line cells place m) (sym count) (subst (λ a. Line cells a n) (sym is) (group.lines k within));
      assumed = subst (RowsWithin wide) (sym assumes) group.assumed;
      shown = subst (RowWithin wide) (sym same) (group.shown k within);
      judged = ap₂ (λ a m. Admission.line_at cells a m (rows_of H) (row_of row)) is count ∙ ap₂ (Admission.line_at cells (at k) n) assumes same;
    }

-- the three sorts of groups
module _ (cells : List ℤ) (formed : well_formed cells ≡ true) where
  pub start_below : start_point cells < points (head cells)
  start_below = digits_lt (program_ranges cells formed).counts_in.start_place_high (program_ranges cells formed).counts_in.start_state_high

  pub start_group : (head cells).form ≡ 1 → Group cells (start_line_at (head cells)) (head cells).start_rows (Admission.start_hypotheses cells) (Admission.start_conclusions cells)
  start_group form = record {
    counted = length_each (head cells).start_rows (start_row cells);
    few = omega (arith, (program_ranges cells formed).counts_in.start_rows_high);
    lines = λ k l. (every_run_ranges cells formed form).start_lines k (omega (arith, length_start cells));
    assumed = start_wide cells (program_ranges cells formed);
    shown = point_wide cells (program_ranges cells formed) (start_point cells) start_below;
  }

  module _ (kind : Kind) (lawful : Lawful kind) (numbers : (head cells).rank_numbers ≡ kind.numbers) where
    pub move_group : (head cells).form ≡ 1 → (m : ℕ) → m < Admission.moves cells
        → Group cells (move_line_at (head cells) m) (move_hypotheses (head cells)) (Admission.move_hypotheses_of cells (Admission.move_step cells m) (Admission.move_edge cells m)) (Admission.move_claims cells kind m)
    move_group form m below =
        let ranges = program_ranges cells formed in
        let t = Admission.move_step cells m in
        let e = Admission.move_edge cells m in
        let step = step_below cells ranges m below in
        let edge = edge_below cells ranges m below in
        record {
          counted = length-append (Admission.point_hypotheses cells (Admission.first_point cells t e)) _
              ∙ ap₂ ◌+◌ (length_point cells (Admission.first_point cells t e)) (length-append (Admission.guard_rows cells t) _ ∙ ap₂ ◌+◌ (length_guards cells t) (length_edge_rows cells e (step_from cells t)))
              ∙ (let same : point_rows (head cells) + ((head cells).guards + (head cells).propositions) ≡ move_hypotheses (head cells) = omega arith in same);
          few = omega (arith, ranges.counts_in.region_rows_high, ranges.counts_in.rank_numbers_high, ranges.counts_in.guards_high, ranges.counts_in.propositions_high);
          lines = λ k l. (every_run_ranges cells formed form).move_lines m k below (omega (arith, length_move_claims cells kind m));
          assumed = hypotheses_wide cells ranges t e step edge;
          shown = claims_wide cells ranges t e step edge kind lawful numbers (move_mode cells m) (conclusions (head cells));
        }

    pub point_group : (head cells).form ≡ 2 → (p : ℕ) → p < points (head cells)
        → Group cells (point_line_at (head cells) p) (point_rows (head cells)) (Admission.point_hypotheses cells p) (Admission.point_claims cells kind p)
    point_group form p below =
        let ranges = program_ranges cells formed in
        let choices = some_run_ranges cells formed form in
        record {
          counted = length_point cells p;
          few = omega (arith, ranges.counts_in.region_rows_high, ranges.counts_in.rank_numbers_high);
          lines = λ k l. choices.point_lines p k below (omega (arith, length_point_claims cells kind p));
          assumed = point_wide cells ranges p below;
          shown = choice_claims_wide cells ranges (choice_step cells p) (choice_edge cells p) (choices.steps p below) (choices.edges p below) kind lawful numbers (choice_mode cells p) (point_conclusions (head cells));
        }
