-- A walk that went well keeps what each step of taking a value in keeps, as the cells that a store was lent.
use Rattle.std.proofs.Common.{◌≡◌, ℕ, zero, suc, List, [], ◌∷◌, ◌++◌, ℤ, Ok, sym, ap, ◌∙◌}
use Rattle.layout.specs.declared.fault.Place.{Place}
use Rattle.layout.specs.declared.field.Digits.{Digits}
use Rattle.layout.specs.declared.field.Range.{Range}
use Rattle.layout.specs.declared.field.Field.{Field}
use Rattle.layout.specs.declared.frame.Frame.{Frame}
use Rattle.layout.specs.Layout.{range_of, leading}
use Rattle.layout.specs.Walk.{Supply, leads, run, line, frame, frames}
use Rattle.layout.proofs.Found.{after, ok_is}

module _ {E A N : Type 0} (u : Supply E) (push : A → ℤ → A) (name : A → N) (keeps : (a : A) (v : ℤ) → name (push a v) ≡ name a) where
  leads_keep : (earlier : List ℤ) (fs : List Field) (a : A) (p : Place) {vs : List ℤ} {b : A} {q : Place} → leads u push earlier fs a p ≡ Ok (vs, b, q) → name b ≡ name a
  leads_keep earlier [] a p e = sym (ap (λ x. name x.1) (ok_is e))
  leads_keep earlier (f ∷ fs) a p e =
      after (u.field f.digits (range_of f.test earlier) p) _ e λ y _ k.
      leads_keep (earlier ++ y.0 ∷ []) fs (push a y.0) y.1 k ∙ keeps a y.0

  run_keep : (d : Digits) (r : Range) (n : ℕ) (a : A) (p : Place) {b : A} {q : Place} → run u push d r n a p ≡ Ok (b, q) → name b ≡ name a
  run_keep d r zero a p e = sym (ap (λ x. name x.0) (ok_is e))
  run_keep d r (suc n) a p e =
      after (u.field d r p) _ e λ y _ k.
      run_keep d r n (push a y.0) y.1 k ∙ keeps a y.0

  pub line_keep : (kind : ℕ) (lead : List Field) (rest : Field) (n : ℕ) (a : A) (p : Place) {vs : List ℤ} {b : A} {q : Place} → line u push kind lead rest n a p ≡ Ok (vs, b, q) → name b ≡ name a
  line_keep kind lead rest n a p e =
      after (u.kind kind p) _ e λ k _ e₁.
      after (leads u push [] lead a k) _ e₁ λ x led e₂.
      after (run u push rest.digits (range_of rest.test x.0) n x.1 x.2) _ e₂ λ y ran e₃.
      after (u.end y.1) _ e₃ λ z _ e₄.
      sym (ap (λ w. name w.1) (ok_is e₄)) ∙ run_keep rest.digits (range_of rest.test x.0) n x.1 x.2 ran ∙ leads_keep [] lead a k led

  pub frames_keep : (fs : List Frame) (a : A) (p : Place) {b : A} {q : Place} → frames u push fs a p ≡ Ok (b, q) → name b ≡ name a
  frames_keep [] a p e = sym (ap (λ x. name x.0) (ok_is e))
  frames_keep (f ∷ fs) a p e =
      after (frame u push f a p) _ e λ y first k.
      after (line u push f.kind (leading f) f.rest f.count a p) _ first λ x lined j.
      frames_keep fs y.0 y.1 k ∙ sym (ap (λ w. name w.0) (ok_is j)) ∙ line_keep f.kind (leading f) f.rest f.count a p lined
