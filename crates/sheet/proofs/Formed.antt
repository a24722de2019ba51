-- The check of a list, by the way it went.
use Rattle.std.proofs.Common.{◌≡◌, List, length, ℤ, Ok, Err, Result, sym, refl, ap, ◌∙◌, eq-eqb, ne_eqb}
use Rattle.layout.specs.declared.fault.Place.{Place}
use Rattle.layout.specs.declared.fault.OpenFault.{OpenFault}
use Rattle.layout.specs.declared.fault.OpenFault.TheVariants.{NotWellFormed}
use Rattle.layout.specs.Layout.{Counts, counts, head_fields, unused, lines_due}
use Rattle.layout.specs.Cells.{well_formed}
use Rattle.layout.specs.Text.{head_kind}
use Rattle.layout.specs.Walk.{line, frames}
use Rattle.layout.specs.Checking.{cell_supply, walk_cells, ended, check_cells}
use Rattle.layout.specs.Reading.{start}
use Rattle.layout.proofs.CheckLaw.{checked_exactly}
use Rattle.sheet.specs.Outcomes.{verdict}

-- there is but one fault
pub only : (e : OpenFault) → e ≡ NotWellFormed
only NotWellFormed = refl

module _ {A : Type 0} (push : A → ℤ → A) (a : A) (cells : List ℤ) where
  by_walk : {x : Result (A × Place) OpenFault} → walk_cells push a cells ≡ x → well_formed cells ≡ ended push a cells x
  unfolding check_cells
  by_walk h = sym (checked_exactly A push a cells) ∙ ap (ended push a cells) h

  pub no_head : {e : OpenFault} → line (cell_supply cells) push head_kind head_fields unused 0 a start ≡ Err e → verdict (well_formed cells) ≡ Err e
  no_head {e} h = ap verdict (by_walk {x = Err e} (rw h refl)) ∙ ap Err (sym (only e))

  module _ {vs : List ℤ} {b : A} {p : Place} {h : Counts} (headed : line (cell_supply cells) push head_kind head_fields unused 0 a start ≡ Ok (vs, b, p)) (counted : h ≡ counts vs) where
    walked : {x : Result (A × Place) OpenFault} → frames (cell_supply cells) push (lines_due h) b p ≡ x → walk_cells push a cells ≡ x
    walked f = rw headed (ap (λ c. frames (cell_supply cells) push (lines_due c) b p) (sym counted) ∙ f)

    pub no_body : {e : OpenFault} → frames (cell_supply cells) push (lines_due h) b p ≡ Err e → verdict (well_formed cells) ≡ Err e
    no_body {e} f = ap verdict (by_walk (walked f)) ∙ ap Err (sym (only e))

    module _ {c : A} {q : Place} (f : frames (cell_supply cells) push (lines_due h) b p ≡ Ok (c, q)) where
      pub whole_list : q.byte ≡ length cells → verdict (well_formed cells) ≡ Ok tt
      whole_list e = ap verdict (by_walk (walked f) ∙ eq-eqb q.byte (length cells) e)

      pub longer_list : (q.byte ≡ length cells → ⊥) → verdict (well_formed cells) ≡ Err NotWellFormed
      longer_list e = ap verdict (by_walk (walked f) ∙ ne_eqb q.byte (length cells) e)
