-- The leading values of a line from a lawful supply pass their tests.
use Rattle.std.proofs.Common.{◌≡◌, ℕ, T, List, [], ◌∷◌, ◌++◌, ℤ, Ok, sym, ap, ◌∙◌, subst, append_assoc, append-nil}
use Rattle.layout.specs.declared.fault.Place.{Place}
use Rattle.layout.specs.declared.field.Field.{Field}
use Rattle.layout.specs.Layout.{range_of}
use Rattle.layout.specs.Cells.{leads_hold}
use Rattle.layout.specs.Walk.{Supply, Lawful, leads, run, line}
use Rattle.layout.proofs.Count.{both_from}
use Rattle.layout.proofs.Found.{after, ok_is}

module _ {E A : Type 0} (u : Supply E) (push : A → ℤ → A) (law : Lawful u) where
  leads_lawful : (earlier : List ℤ) (fs : List Field) (a : A) (p : Place) {all : List ℤ} {b : A} {q : Place} → leads u push earlier fs a p ≡ Ok (all, b, q) → (vs : List ℤ) × (all ≡ earlier ++ vs) × T (leads_hold earlier fs vs)
  leads_lawful earlier [] a p e = ([], sym (ap (λ x. x.0) (ok_is e)) ∙ sym (append-nil earlier), tt)
  leads_lawful earlier (f ∷ fs) a p e =
      after (u.field f.digits (range_of f.test earlier) p) (λ y. leads u push (earlier ++ y.0 ∷ []) fs (push a y.0) y.1) e λ y h k.
      let (vs, split, held) = leads_lawful (earlier ++ y.0 ∷ []) fs (push a y.0) y.1 k in
      (y.0 ∷ vs, split ∙ append_assoc earlier (y.0 ∷ []) vs, both_from _ _ (law f.digits (range_of f.test earlier) p y.0 y.1 h) held)

  pub line_lawful : (kind : ℕ) (lead : List Field) (rest : Field) (n : ℕ) (a : A) (p : Place) {vs : List ℤ} {b : A} {q : Place} → line u push kind lead rest n a p ≡ Ok (vs, b, q) → T (leads_hold [] lead vs)
  line_lawful kind lead rest n a p {vs} e =
      after (u.kind kind p) _ e λ k _ e₁.
      after (leads u push [] lead a k) _ e₁ λ x led e₂.
      after (run u push rest.digits (range_of rest.test x.0) n x.1 x.2) _ e₂ λ y _ e₃.
      after (u.end y.1) _ e₃ λ z _ e₄.
      let (ws, same, held) = leads_lawful [] lead a k led in
      subst (λ l. T (leads_hold [] lead l)) (sym same ∙ ap (λ w. w.0) (ok_is e₄)) held
