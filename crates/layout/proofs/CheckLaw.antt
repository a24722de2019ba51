-- The check of a list of cells accepts exactly the well-formed lists; a supplied value passes its test.
use Rattle.std.proofs.Common.{◌≡◌, ℕ, zero, suc, ◌+◌, ◌≤◌, Bool, true, false, cond, T, eqb, List, [], ◌∷◌, ◌++◌, length, take, drop, ℤ, Ok, Err, Result, sym, refl, ap, ◌∙◌, subst, append_assoc, append-nil, zero-le, arith, length-drop}
use Rattle.std.proofs.lemmas.List.{drop-drop, take-take, drop-take}
use Rattle.std.proofs.lemmas.Bool.{eqb-true, eqb-false, eq-eqb, ne_eqb}
use Rattle.layout.specs.declared.fault.Place.{Place}
use Rattle.layout.specs.declared.fault.FieldFault.{FieldFault}
use Rattle.layout.specs.declared.fault.FieldFault.TheVariants.{OutOfRange}
use Rattle.layout.specs.declared.fault.LineFault.{LineFault}
use Rattle.layout.specs.declared.fault.LineFault.TheVariants.{Field as InField}
use Rattle.layout.specs.declared.fault.OpenFault.{OpenFault}
use Rattle.layout.specs.declared.fault.OpenFault.TheVariants.{NotWellFormed}
use Rattle.layout.specs.declared.field.Digits.{Digits}
use Rattle.layout.specs.declared.field.Range.{Range}
use Rattle.layout.specs.declared.field.Field.{Field}
use Rattle.layout.specs.declared.frame.Frame.{Frame}
use Rattle.layout.specs.Layout.{counts, range_of, head_fields, unused, leading, lines_due}
use Rattle.layout.specs.Cells.{both, passes, leads_hold, all_hold, line_holds, lines_hold, head_width, well_formed}
use Rattle.layout.specs.Text.{digits_of, head_kind}
use Rattle.layout.specs.Walk.{Lawful, next, leads, run, line, frame, frames}
use Rattle.layout.specs.Reading.{ahead, start, number_of, in_range, in_line, digits, text_supply}
use Rattle.layout.specs.Checking.{cell_at, cell_supply, walk_cells, ended, check_cells}
use Rattle.layout.specs.Laws.{CheckedExactly}
use Rattle.layout.proofs.Count.{counts_take}

-- what answers w only where w passes
passed : {E : Type 0} (d : Digits) (r : Range) (v w : ℤ) (p q : Place) (e : E) (answer : Bool → Result (ℤ × Place) E) → answer true ≡ Ok (w, p) → answer false ≡ Err e → (b : Bool) → passes d r w ≡ b → answer b ≡ Ok (v, q) → T (passes d r v)
passed d r v w p q e answer good bad true s h = let same : ◌≡◌ {A = ℤ × Place} (w, p) (v, q) = cc in subst (λ x. T (passes d r x.0)) same (rw s tt)
passed d r v w p q e answer good bad false s h = let z : ◌≡◌ {A = ℕ} 0 1 = cc in absurd (omega arith)

pub cells_lawful : (cells : List ℤ) → Lawful (cell_supply cells)
cells_lawful cells d r p v q = from (drop p.byte cells)
  where
    from : (cs : List ℤ) → cell_at cs d r p ≡ Ok (v, q) → T (passes d r v)
    from [] e = let z : ◌≡◌ {A = ℕ} 0 1 = cc in absurd (omega arith)
    from (w ∷ ws) e = passed d r v w (ahead p 1) q NotWellFormed (λ b. cond b (Ok (w, ahead p 1)) (Err NotWellFormed)) refl refl (passes d r w) refl e

pub text_lawful : (text : List ℕ) → Lawful (text_supply text)
text_lawful text d r p v q = found (digits (digits_of d) 0 (drop p.byte text) p)
  where
    behind : Result ℤ FieldFault → Result (ℤ × Place) LineFault
    behind x = next (in_line x) (λ w. Ok (w, ahead p (digits_of d)))

    found : (x : Result ℕ FieldFault) → behind (next x (λ n. in_range d r (number_of d n) p)) ≡ Ok (v, q) → T (passes d r v)
    found (Err e) h = let z : ◌≡◌ {A = ℕ} 0 1 = cc in absurd (omega arith)
    found (Ok n) h = passed d r v (number_of d n) (ahead p (digits_of d)) q (InField (OutOfRange p)) (λ b. behind (cond b (Ok (number_of d n)) (Err (OutOfRange p)))) refl refl (passes d r (number_of d n)) refl h

-- the check -------------------------------------------------------------------------------------

-- a test of what is answered, which no fault passes
abbrev test : {X E : Type 0} → (X → Bool) → Result X E → Bool
test k (Ok x) = k x
test k (Err e) = false

test_next : {X Y E : Type 0} (k : Y → Bool) (x : Result X E) (h : X → Result Y E) → test k (next x h) ≡ test (λ y. test k (h y)) x
test_next k (Ok x) h = refl
test_next k (Err e) h = refl

test_cond : {X Y E : Type 0} (k : Y → Bool) (b : Bool) (x : X) (e : E) (h : X → Result Y E) → test k (next (cond b (Ok x) (Err e)) h) ≡ both b (test k (h x))
test_cond k true x e h = refl
test_cond k false x e h = refl

both_assoc : (a b c : Bool) → both a (both b c) ≡ both (both a b) c
both_assoc true b c = refl
both_assoc false b c = refl

module _ (cells : List ℤ) where
  -- the cells from a place on
  record At (p : Place) (cs : List ℤ) : Type 0 where
    rest : drop p.byte cells ≡ cs
    within : p.byte ≤ length cells

  at_next : (p : Place) (v : ℤ) (vs : List ℤ) → At p (v ∷ vs) → At (ahead p 1) vs
  at_next p v vs h =
      record {
        rest = sym (drop-drop 1 p.byte cells) ∙ ap (drop 1) h.rest;
        within = omega (arith, length-drop p.byte cells, ap length h.rest);
      }

  -- where nothing is left, the place is the list's end
  at_end : (p : Place) (cs : List ℤ) → At p cs → eqb p.byte (length cells) ≡ eqb (length cs) 0
  at_end p cs h = go (eqb (length cs) 0) refl
    where
      left : length cells ≡ p.byte + length cs
      left = omega (arith, h.within, length-drop p.byte cells, ap length h.rest)

      go : (b : Bool) → eqb (length cs) 0 ≡ b → eqb p.byte (length cells) ≡ b
      go true e = eq-eqb p.byte (length cells) (omega (arith, left, eqb-true (length cs) 0 e))
      go false e = ne_eqb p.byte (length cells) (λ x. eqb-false (length cs) 0 e (omega (arith, left)))

  module _ {X : Type 0} (k : X → Bool) (h : ℤ × Place → Result X OpenFault) (d : Digits) (r : Range) (p : Place) where
    field_none : At p [] → test k (next ((cell_supply cells).field d r p) h) ≡ false
    field_none here = rw here.rest

    field_some : (v : ℤ) (vs : List ℤ) → At p (v ∷ vs) → test k (next ((cell_supply cells).field d r p) h) ≡ both (passes d r v) (test k (h (v, ahead p 1)))
    field_some v vs here = rw here.rest (test_cond k (passes d r v) (v, ahead p 1) NotWellFormed h)

-- `k` tests what the walk answers, and `j` what is left of the list there: where they agree, the walk tests the cells that it passes, and then `j` the rest.
module _ {A : Type 0} (push : A → ℤ → A) (cells : List ℤ) where
  abbrev SameValues : (List ℤ × A × Place → Bool) → (List ℤ → List ℤ → Bool) → Type 0
  SameValues k j = (vs : List ℤ) (a : A) (p : Place) (cs : List ℤ) → At cells p cs → k (vs, a, p) ≡ j vs cs

  abbrev Same : (A × Place → Bool) → (List ℤ → Bool) → Type 0
  Same k j = (a : A) (p : Place) (cs : List ℤ) → At cells p cs → k (a, p) ≡ j cs

  leads_walk : (k : List ℤ × A × Place → Bool) (j : List ℤ → List ℤ → Bool) → SameValues k j → (earlier : List ℤ) (fs : List Field) (a : A) (p : Place) (cs : List ℤ) → At cells p cs → test k (leads (cell_supply cells) push earlier fs a p) ≡ both (leads_hold earlier fs (take (length fs) cs)) (j (earlier ++ take (length fs) cs) (drop (length fs) cs))
  leads_walk k j same earlier [] a p cs h = rw append-nil (same earlier a p cs h)
  leads_walk k j same earlier (f ∷ fs) a p [] h = field_none cells k _ _ _ p h
  leads_walk k j same earlier (f ∷ fs) a p (v ∷ vs) h =
      let range = range_of f.test earlier in
      let on = leads_walk k j same (earlier ++ v ∷ []) fs (push a v) (ahead p 1) vs (at_next cells p v vs h) in
      field_some cells k _ f.digits range p v vs h ∙ ap (both (passes f.digits range v)) (rw append_assoc at on) ∙ both_assoc (passes f.digits range v) _ _

  run_walk : (k : A × Place → Bool) (j : List ℤ → Bool) → Same k j → (d : Digits) (r : Range) (n : ℕ) (a : A) (p : Place) (cs : List ℤ) → At cells p cs → test k (run (cell_supply cells) push d r n a p) ≡ both (all_hold d r n (take n cs)) (j (drop n cs))
  run_walk k j same d r zero a p cs h = same a p cs h
  run_walk k j same d r (suc n) a p [] h = field_none cells k _ _ _ p h
  run_walk k j same d r (suc n) a p (v ∷ vs) h = field_some cells k _ d r p v vs h ∙ ap (both (passes d r v)) (run_walk k j same d r n (push a v) (ahead p 1) vs (at_next cells p v vs h)) ∙ both_assoc (passes d r v) _ _

  line_walk : (k : List ℤ × A × Place → Bool) (j : List ℤ → List ℤ → Bool) → SameValues k j → (kind : ℕ) (lead : List Field) (rest : Field) (n : ℕ) (a : A) (p : Place) (cs : List ℤ) → At cells p cs → test k (line (cell_supply cells) push kind lead rest n a p) ≡ both (line_holds lead rest n (take (length lead + n) cs)) (j (take (length lead) cs) (drop (length lead + n) cs))
  line_walk k j same kind lead rest n a p cs h =
      let others = λ (vs : List ℤ) (b : A) (q : Place). run (cell_supply cells) push rest.digits (range_of rest.test vs) n b q in
      let after : SameValues (λ x. test k (next (others x.0 x.1 x.2) (λ y. Ok (x.0, y.0, y.1)))) (λ vs ds. both (all_hold rest.digits (range_of rest.test vs) n (take n ds)) (j vs (drop n ds))) =
      λ vs b q ds here. test_next k (others vs b q) (λ y. Ok (vs, y.0, y.1)) ∙ run_walk (λ y. k (vs, y.0, y.1)) (j vs) (same vs) rest.digits (range_of rest.test vs) n b q ds here in
      let short : length lead ≤ length lead + n = omega arith in
      test_next k (leads (cell_supply cells) push [] lead a p) _ ∙ leads_walk _ _ after [] lead a p cs h ∙ rw (take-take (length lead) (length lead + n) cs short, drop-take (length lead) n cs, ← drop-drop n (length lead) cs) (both_assoc (leads_hold [] lead (take (length lead) cs)) _ _)

  frames_walk : (k : A × Place → Bool) → Same k (λ cs. eqb (length cs) 0) → (fs : List Frame) (a : A) (p : Place) (cs : List ℤ) → At cells p cs → test k (frames (cell_supply cells) push fs a p) ≡ lines_hold fs cs
  frames_walk k same [] a p cs h = same a p cs h
  frames_walk k same (f ∷ fs) a p cs h =
      test_next k (frame (cell_supply cells) push f a p) _ ∙ test_next _ (line (cell_supply cells) push f.kind (leading f) f.rest f.count a p) _ ∙
      line_walk (λ x. test k (frames (cell_supply cells) push fs x.1 x.2)) (λ vs ds. lines_hold fs ds) (λ vs b q ds here. frames_walk k same fs b q ds here) f.kind (leading f) f.rest f.count a p cs h

pub checked_exactly : CheckedExactly
unfolding check_cells well_formed
checked_exactly A push a cells =
    is_test (walk_cells push a cells) ∙ test_next at_last (line (cell_supply cells) push head_kind head_fields unused 0 a start) _ ∙
    line_walk push cells (λ x. test at_last (frames (cell_supply cells) push (lines_due (counts x.0)) x.1 x.2)) (λ vs ds. lines_hold (lines_due (counts vs)) ds) (λ vs b q ds here. frames_walk push cells at_last (λ c r es there. at_end cells r es there) (lines_due (counts vs)) b q ds here) head_kind head_fields unused 0 a start cells (record { rest = refl; within = zero-le }) ∙
    ap (λ h. both (line_holds head_fields unused 0 (take head_width cells)) (lines_hold (lines_due h) (drop head_width cells))) (counts_take cells)
  where
    at_last : A × Place → Bool
    at_last x = eqb x.1.byte (length cells)

    is_test : (x : Result (A × Place) OpenFault) → ended push a cells x ≡ test at_last x
    is_test (Ok x) = refl
    is_test (Err e) = refl
