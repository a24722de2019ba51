-- The laws of the format.
use Rattle.std.specs.Prelude.{◌≡◌, ℕ, ◌≤◌, true, ◌↔◌, List, length, ℤ, Ok}
use Rattle.layout.specs.Layout.{counts}
use Rattle.layout.specs.Cells.{well_formed, cells_due}
use Rattle.layout.specs.Text.{sheet_text}
use Rattle.layout.specs.Reading.{read_text}
use Rattle.layout.specs.Checking.{check_cells}

-- a well-formed list, its text, and room for it
pub record TextOf (text : List ℕ) (room : ℕ) (cells : List ℤ) : Type 0 where
  pub formed : well_formed cells ≡ true
  pub texted : sheet_text cells ≡ text
  pub roomy : length cells ≤ room

-- a text is read exactly when it is the text of a well-formed list for which the cells suffice
abbrev pub ReadExactly : Type 0
ReadExactly = (text : List ℕ) (room : ℕ) (cells : List ℤ) → (read_text text room ≡ Ok cells) ↔ TextOf text room cells

-- a list has one text, and a text one list
abbrev pub OneToOne : Type 0
OneToOne = (a b : List ℤ) → well_formed a ≡ true → well_formed b ≡ true → sheet_text a ≡ sheet_text b → a ≡ b

-- a well-formed list is as long as its head calls for, and no list is longer than 32,067 cells
pub record Counted (cells : List ℤ) : Type 0 where
  pub due : length cells ≡ cells_due (counts cells)
  pub longest : length cells ≤ 32067

abbrev pub AllCounted : Type 0
AllCounted = (cells : List ℤ) → well_formed cells ≡ true → Counted cells

-- the check of a list accepts exactly the well-formed ones
abbrev pub CheckedExactly : Type 1
CheckedExactly = (A : Type 0) (push : A → ℤ → A) (a : A) (cells : List ℤ) → check_cells push a cells ≡ well_formed cells
