-- Going through the lines of a sheet, field by field, up to the first fault. What supplies the fields, a text or a list of cells, and what becomes of the values are left open.
use Rattle.std.specs.Prelude.{◌≡◌, ℕ, zero, suc, T, List, [], ◌∷◌, ◌++◌, ℤ, Ok, Err, Result}
use Rattle.layout.specs.declared.fault.Place.{Place}
use Rattle.layout.specs.declared.field.Digits.{Digits}
use Rattle.layout.specs.declared.field.Range.{Range}
use Rattle.layout.specs.declared.field.Field.{Field}
use Rattle.layout.specs.declared.frame.Frame.{Frame}
use Rattle.layout.specs.Layout.{range_of, leading}
use Rattle.layout.specs.Cells.{passes}

-- the first fault, or what comes next of the value
abbrev pub next : {A B E : Type 0} → Result A E → (A → Result B E) → Result B E
next (Ok a) k = k a
next (Err e) k = Err e

-- what is found at a place: a kind, the value of a field, a line's end; with the place behind it
pub record Supply (E : Type 0) : Type 0 where
  pub kind : ℕ → Place → Result Place E
  pub field : Digits → Range → Place → Result (ℤ × Place) E
  pub end : Place → Result Place E

-- a supplied value passes the test of its field
abbrev pub Lawful : {E : Type 0} → Supply E → Type 0
Lawful u = (d : Digits) (r : Range) (p : Place) (v : ℤ) (q : Place) → u.field d r p ≡ Ok (v, q) → T (passes d r v)

-- `push` takes each value in
module _ {E A : Type 0} (u : Supply E) (push : A → ℤ → A) where
  abbrev pub leads : List ℤ → List Field → A → Place → Result (List ℤ × A × Place) E
  leads earlier [] a p = Ok (earlier, a, p)
  leads earlier (f ∷ fs) a p = next (u.field f.digits (range_of f.test earlier) p) (λ x. leads (earlier ++ x.0 ∷ []) fs (push a x.0) x.1)

  abbrev pub run : Digits → Range → ℕ → A → Place → Result (A × Place) E
  run d r zero a p = Ok (a, p)
  run d r (suc n) a p = next (u.field d r p) (λ x. run d r n (push a x.0) x.1)

  -- the line's leading values too
  abbrev pub line : ℕ → List Field → Field → ℕ → A → Place → Result (List ℤ × A × Place) E
  line kind lead rest n a p =
      next (u.kind kind p) λ q.
      next (leads [] lead a q) λ x.
      next (run rest.digits (range_of rest.test x.0) n x.1 x.2) λ y.
      next (u.end y.1) λ z.
      Ok (x.0, y.0, z)

  abbrev pub frame : Frame → A → Place → Result (A × Place) E
  frame f a p = next (line f.kind (leading f) f.rest f.count a p) (λ x. Ok (x.1, x.2))

  abbrev pub frames : List Frame → A → Place → Result (A × Place) E
  frames [] a p = Ok (a, p)
  frames (f ∷ fs) a p = next (frame f a p) (λ x. frames fs x.0 x.1)
