-- The run-down sheet, x counted down to 0, and the worked cases about it that are theorems.
use Rattle.std.specs.Prelude.{◌≡◌, ℕ, true, List, [], ◌∷◌, ◌++◌, ℤ, pos, negsuc, Ok, Err, codes, Result}
use Rattle.std.specs.List.{flat_map}
use Rattle.layout.specs.declared.fault.Refusal.{Refusal}
use Rattle.layout.specs.Cells.{well_formed, cells_due}
use Rattle.layout.specs.Layout.{Counts}
use Rattle.layout.specs.Text.{sheet_text}
use Rattle.layout.specs.Reading.{read_text}
use Rattle.layout.specs.Refusals.{refused, told, read_refusal}

abbrev pub feed : List ℕ
feed = 10 ∷ []

-- lines, each with its line feed
abbrev pub text_of : List (List ℕ) → List ℕ
text_of lines = flat_map (λ line. line ++ feed) lines

abbrev pub run_down_lines : List (List ℕ)
run_down_lines =
    codes "1001010100010101010000000101" ∷
    codes "2000000001" ∷
    codes "300000FFFF0001" ∷
    codes "31FFFF0001" ∷
    codes "5000" ∷
    codes "5100000000" ∷
    codes "6100000001" ∷
    codes "700000000100000001" ∷
    codes "7101" ∷
    codes "72000000010000000000000001" ∷
    codes "72000000010000000000000000" ∷ []

abbrev pub run_down_text : List ℕ
run_down_text =
    codes "1001010100010101010000000101" ++ feed ++
    codes "2000000001" ++ feed ++
    codes "300000FFFF0001" ++ feed ++
    codes "31FFFF0001" ++ feed ++
    codes "5000" ++ feed ++
    codes "5100000000" ++ feed ++
    codes "6100000001" ++ feed ++
    codes "700000000100000001" ++ feed ++
    codes "7101" ++ feed ++
    codes "72000000010000000000000001" ++ feed ++
    codes "72000000010000000000000000" ++ feed

abbrev pub run_down_cells : List ℤ
run_down_cells =
    -- head
    pos 1 ∷ pos 1 ∷ pos 1 ∷ pos 0 ∷ pos 1 ∷ pos 1 ∷ pos 1 ∷ pos 1 ∷ pos 0 ∷ pos 0 ∷ pos 0 ∷ pos 1 ∷ pos 1 ∷
    -- start row, step with its update row, guard row
    pos 0 ∷ pos 1 ∷ pos 0 ∷ pos 0 ∷ negsuc 0 ∷ pos 1 ∷ negsuc 0 ∷ pos 1 ∷
    -- state, edge
    pos 0 ∷ pos 0 ∷ pos 0 ∷ pos 0 ∷ pos 0 ∷
    -- rank row, start line, mode, move lines
    pos 0 ∷ pos 1 ∷ pos 1 ∷ pos 1 ∷ pos 1 ∷ pos 1 ∷ pos 0 ∷ pos 1 ∷ pos 1 ∷ pos 0 ∷ pos 0 ∷ []

-- a text, the cells handed over, and what reading answers
pub record Case : Type 0 where
  pub text : List ℕ
  pub room : ℕ
  pub answer : Result (List ℤ) Refusal

abbrev pub reading_cases : List Case
reading_cases =
    record { text = run_down_text; room = 37; answer = Ok run_down_cells } ∷
    record { text = run_down_text; room = 36; answer = Err (refused 0x10 37 36) } ∷ []

abbrev pub AllRead : List Case → Type 0
AllRead [] = Unit {0}
AllRead (c ∷ cs) = (told read_refusal (read_text c.text c.room) ≡ c.answer) × AllRead cs

-- the head that calls for most cells
abbrev pub longest_counts : Counts
longest_counts = record {
  variables = 6;
  places = 8;
  steps = 16;
  propositions = 8;
  states = 4;
  edges = 12;
  start_rows = 4;
  guards = 4;
  region_rows = 4;
  start_place = 0;
  start_state = 0;
  form = 1;
  rank_numbers = 2;
}

abbrev pub WorkedCases : Type 0
WorkedCases = AllRead reading_cases × (well_formed run_down_cells ≡ true) × (sheet_text run_down_cells ≡ run_down_text) × (cells_due longest_counts ≡ 32067)
