-- One step of a walk, and its end.
use Rattle.std.proofs.Common.{◌≡◌, ℕ, suc, List, [], ◌∷◌, ◌++◌, ℤ, IsErrAnd, Ok, Err, Result, sym, refl, ap, ◌∙◌}
use Rattle.std.specs.List.{flat_map}
use Rattle.layout.specs.declared.fault.Place.{Place}
use Rattle.layout.specs.declared.field.Digits.{Digits}
use Rattle.layout.specs.declared.field.Range.{Range}
use Rattle.layout.specs.declared.frame.Frame.{Frame}
use Rattle.layout.specs.declared.frame.Group.{Group}
use Rattle.layout.specs.Layout.{Counts, groups, group_lines, lines_due}
use Rattle.layout.specs.Walk.{Supply, next, run, frame, frames}
use Rattle.sheet.specs.Store.{Answers}

-- the exit of a `?`
pub stops : {T A E : Type 0} (left : T → A) (r : Result T E) {x : Result A E} {e : E} → IsErrAnd r (λ y. y ≡ e) → x ≡ Err e → Answers left r x
stops left (Ok t) b h = absurd b
stops left (Err y) b h = h ∙ ap Err (sym b)

-- an answer in other words
pub answers_from : {T A E : Type 0} (left : T → A) (r : Result T E) {x y : Result A E} → x ≡ y → Answers left r y → Answers left r x
answers_from left (Ok t) e h = e ∙ h
answers_from left (Err y) e h = e ∙ h

-- `w` is the supply as a step finds it, the same as at the start
module _ {E A : Type 0} (u : Supply E) (push : A → ℤ → A) {w : Supply E} (same : w ≡ u) where
  pub run_more : (d : Digits) (r : Range) (k n : ℕ) (a b : A) (p : Place) {v : ℤ} {q : Place} → k ≡ suc n → w.field d r p ≡ Ok (v, q) → b ≡ push a v → run u push d r k a p ≡ run u push d r n b q
  run_more d r k n a b p {v} {q} e h s =
      ap (λ m. run u push d r m a p) e
      ∙ ap (λ x. next x (λ y. run u push d r n (push a y.0) y.1)) (ap (λ z. z.field d r p) (sym same) ∙ h)
      ∙ ap (λ z. run u push d r n z q) (sym s)

  pub run_stop : (d : Digits) (r : Range) (k n : ℕ) (a : A) (p : Place) {e : E} → k ≡ suc n → w.field d r p ≡ Err e → run u push d r k a p ≡ Err e
  run_stop d r k n a p s h =
      ap (λ m. run u push d r m a p) s
      ∙ ap (λ x. next x (λ y. run u push d r n (push a y.0) y.1)) (ap (λ z. z.field d r p) (sym same) ∙ h)

-- lines after lines
module _ {E A : Type 0} (u : Supply E) (push : A → ℤ → A) where
  then_lines : (gs hs : List Frame) (a : A) (p : Place) → frames u push (gs ++ hs) a p ≡ next (frames u push gs a p) (λ x. frames u push hs x.0 x.1)
  then_lines [] hs a p = refl
  then_lines (g ∷ gs) hs a p = go (then_lines gs hs) (frame u push g a p)
    where
      go : ((b : A) (q : Place) → frames u push (gs ++ hs) b q ≡ next (frames u push gs b q) (λ x. frames u push hs x.0 x.1)) → (x : Result (A × Place) E) → next x (λ y. frames u push (gs ++ hs) y.0 y.1) ≡ next (next x (λ y. frames u push gs y.0 y.1)) (λ y. frames u push hs y.0 y.1)
      go more (Ok y) = more y.0 y.1
      go more (Err e) = refl

  pub one_line : (f : Frame) (a : A) (p : Place) {x : Result (A × Place) E} → frame u push f a p ≡ x → frames u push (f ∷ []) a p ≡ x
  one_line f a p {x} h = ap (λ y. next y (λ z. Ok (z.0, z.1))) h ∙ whole x
    where
      whole : (y : Result (A × Place) E) → next y (λ z. Ok (z.0, z.1)) ≡ y
      whole (Ok z) = refl
      whole (Err e) = refl

  module _ {w : Supply E} (same : w ≡ u) {fs : List Frame} (gs hs : List Frame) (split : fs ≡ gs ++ hs) (a : A) (p : Place) where
    on : {x : Result (A × Place) E} → frames w push gs a p ≡ x → frames u push fs a p ≡ next x (λ y. frames u push hs y.0 y.1)
    on {x} h = ap (λ l. frames u push l a p) split ∙ then_lines gs hs a p ∙ ap (λ y. next y (λ z. frames u push hs z.0 z.1)) (ap (λ z. frames z push gs a p) (sym same) ∙ h)

    pub lines_more : {b : A} {q : Place} → frames w push gs a p ≡ Ok (b, q) → frames u push fs a p ≡ frames u push hs b q
    lines_more h = on h

    pub lines_stop : {e : E} → frames w push gs a p ≡ Err e → frames u push fs a p ≡ Err e
    lines_stop h = on h

-- the lines of groups, one after the other
abbrev pub all_lines : List Group → List Frame
all_lines gs = flat_map (λ (x : Group). group_lines x x.times) gs

pub due_lines : (h : Counts) (gs : List Group) → gs ≡ groups h → lines_due h ≡ all_lines gs
unfolding lines_due
due_lines h gs e = ap all_lines (sym e)
