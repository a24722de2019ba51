-- A list of cells as a supply of fields: kinds and line ends are not written there. Going through it is the check of a list.
use Rattle.std.specs.Prelude.{Bool, false, cond, List, [], ◌∷◌, length, drop, ℤ, Ok, Err, Result, ◌==◌}
use Rattle.layout.specs.declared.fault.Place.{Place}
use Rattle.layout.specs.declared.fault.OpenFault.{OpenFault}
use Rattle.layout.specs.declared.fault.OpenFault.TheVariants.{NotWellFormed}
use Rattle.layout.specs.declared.field.Digits.{Digits}
use Rattle.layout.specs.declared.field.Range.{Range}
use Rattle.layout.specs.Layout.{counts, head_fields, unused, lines_due}
use Rattle.layout.specs.Cells.{passes}
use Rattle.layout.specs.Text.{head_kind}
use Rattle.layout.specs.Walk.{Supply, next, line, frames}
use Rattle.layout.specs.Reading.{ahead, start}

abbrev pub cell_at : List ℤ → Digits → Range → Place → Result (ℤ × Place) OpenFault
cell_at [] d r p = Err NotWellFormed
cell_at (v ∷ vs) d r p = cond (passes d r v) (Ok (v, ahead p 1)) (Err NotWellFormed)

abbrev pub cell_supply : List ℤ → Supply OpenFault
cell_supply cells = record {
  kind = λ due p. Ok p;
  field = λ d r p. cell_at (drop p.byte cells) d r p;
  end = λ p. Ok p;
}

module _ {A : Type 0} (push : A → ℤ → A) (a : A) where
  abbrev pub walk_cells : List ℤ → Result (A × Place) OpenFault
  walk_cells cells = next (line (cell_supply cells) push head_kind head_fields unused 0 a start) (λ x. frames (cell_supply cells) push (lines_due (counts x.0)) x.1 x.2)

  abbrev pub ended : List ℤ → Result (A × Place) OpenFault → Bool
  ended cells (Ok x) = x.1.byte == length cells
  ended cells (Err e) = false

  unfoldable pub check_cells : List ℤ → Bool
  check_cells cells = ended cells (walk_cells cells)
