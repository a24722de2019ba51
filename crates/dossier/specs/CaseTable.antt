-- A table of worked cases that are theorems: readings, admissions of sheets' texts, lines, fall rows of the rank kinds, parts of a list. One statement.
use Rattle.std.specs.Prelude.{◌≡◌, ℕ, ◌+◌, Bool, true, false, List, [], ◌∷◌, ◌++◌, map, drop, ℤ, pos, negsuc, Some, None, Ok, Err, codes, Option, Result, slice_set}
use Rattle.layout.specs.declared.fault.ReadFault.{ReadFault}
use Rattle.layout.specs.declared.fault.Refusal.{Refusal}
use Rattle.layout.specs.Cases as reading
use Rattle.layout.specs.Cells.{head_width}
use Rattle.layout.specs.Reading.{read_text}
use Rattle.layout.specs.Refusals.{refused, told, read_refusal}
use Rattle.dossier.specs.declared.fall.Fall.{Fall}
use Rattle.dossier.specs.declared.fall.Fall.TheVariants.{None as NoFall, Keeps, Drops}
use Rattle.dossier.specs.Admission.{admit_every_run}
use Rattle.dossier.specs.Cases.{over_x}
use Rattle.dossier.specs.Kinds.{by_first_difference, fall_of}
use Rattle.dossier.specs.Lines.{line_holds}
use Rattle.dossier.specs.Refusals.{admit_refusal}
use Rattle.dossier.specs.Parts.{named_parts}
use Rattle.dossier.specs.Rows.{Row, each}

pub data Entry : Type 0 where
  -- a text, the cells handed over, and what reading answers
  reads : List ℕ → ℕ → Result (List ℤ) Refusal → Entry
  -- a text, the count of rank numbers called for in the every-run form, and what admission answers to its cells
  admits : List ℕ → ℕ → Result ℕ Refusal → Entry
  -- divisor, multiplier, hypothesis and conclusion of a line over one variable, and whether it holds
  judges : ℤ → ℤ → Row → Row → Bool → Entry
  -- count of rank numbers, mode and index, and the fall row that is called for
  calls : ℕ → ℕ → ℕ → Fall → Entry
  -- a list whose named parts, in the order of a sheet's lines, are its cells behind the head
  names : List ℤ → Entry

-- what admission answers to the cells that were read
abbrev pub judged : ℕ → Result (List ℤ) ReadFault → Option (Result ℕ Refusal)
judged numbers (Ok cells) = Some (told admit_refusal (admit_every_run (by_first_difference numbers) cells))
judged numbers (Err fault) = None

abbrev pub EntryHolds : Entry → Type 0
EntryHolds (reads text room answer) = told read_refusal (read_text text room) ≡ answer
EntryHolds (admits text numbers answer) = judged numbers (read_text text 37) ≡ Some answer
EntryHolds (judges d m h c answer) = line_holds 1 d (m ∷ []) (h ∷ []) c ≡ answer
EntryHolds (calls numbers mode i answer) = fall_of numbers mode i ≡ answer
EntryHolds (names cells) = named_parts cells ≡ drop head_width cells

abbrev pub AllEntries : List Entry → Type 0
AllEntries [] = Unit {0}
AllEntries (c ∷ cs) = EntryHolds c × AllEntries cs

-- the run-down sheet with another line in place of line i, counted from 0
abbrev pub with_line : ℕ → List ℕ → List (List ℕ) → List (List ℕ)
with_line i line lines = slice_set lines i line

-- the step leaves x as it is
abbrev pub standing_lines : List (List ℕ) → List (List ℕ)
standing_lines lines = with_line 2 (codes "30000000000001") lines

-- the multiplier of the guard in the first line of the move is 2
abbrev pub doubled_lines : List (List ℕ) → List (List ℕ)
doubled_lines lines = with_line 9 (codes "72000000010000000000000002") lines

-- the watch state is marked
abbrev pub recurring_lines : List (List ℕ) → List (List ℕ)
recurring_lines lines = with_line 4 (codes "5001") lines

abbrev pub reading_entry : reading.Case → Entry
reading_entry c = reads c.text c.room c.answer

-- a head with counts that differ, and numbers that differ behind it: each part is told from every other
abbrev pub numbers_from : ℕ → ℕ → List ℤ
numbers_from i n = each n (λ k. pos (i + k))

-- start rows, steps; a place proposition; states; then all the rest
abbrev pub sample : ℕ → ℕ → List ℤ
sample form rest =
    pos 1 ∷ pos 2 ∷ pos 2 ∷ pos 1 ∷ pos 2 ∷ pos 3 ∷ pos 3 ∷ pos 2 ∷ pos 1 ∷ pos 0 ∷ pos 0 ∷ pos form ∷ pos 2 ∷
    (numbers_from 20 22 ++ (pos 1 ∷ (numbers_from 50 3 ++ (pos 0 ∷ pos 1 ∷ numbers_from 60 rest))))

abbrev pub worked_table : List Entry
worked_table =
    map reading_entry reading.reading_cases ++
    admits reading.run_down_text 1 (Ok 3) ∷
    admits reading.run_down_text 2 (Err (refused 0x20 1 1)) ∷
    admits (reading.text_of (standing_lines reading.run_down_lines)) 1 (Err (refused 0x23 0 1)) ∷
    admits (reading.text_of (doubled_lines reading.run_down_lines)) 1 (Err (refused 0x23 0 0)) ∷
    admits (reading.text_of (recurring_lines reading.run_down_lines)) 1 (Ok 3) ∷
    admits (reading.text_of (recurring_lines (standing_lines reading.run_down_lines))) 1 (Ok 3) ∷
    -- from 2x − 5 with divisor 2 and multiplier 1: x − 2 holds and x − 3 does not
    judges (pos 2) (pos 1) (over_x (negsuc 4) (pos 2)) (over_x (negsuc 1) (pos 1)) true ∷
    judges (pos 2) (pos 1) (over_x (negsuc 4) (pos 2)) (over_x (negsuc 2) (pos 1)) false ∷
    -- one number; two numbers in modes 1 and 2
    calls 1 1 0 (Drops 0) ∷
    calls 2 1 0 (Drops 0) ∷
    calls 2 1 1 NoFall ∷
    calls 2 2 0 (Keeps 0) ∷
    calls 2 2 1 (Drops 1) ∷
    names (sample 1 264) ∷
    names (sample 2 177) ∷ []

abbrev pub WorkedTable : Type 0
WorkedTable = AllEntries worked_table
