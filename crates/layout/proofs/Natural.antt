-- What becomes of the values does not change the way that a walk takes: a walk that takes them in by `push'` goes as the one by `push`, seen through a map `h` between the two.
use Rattle.std.proofs.Common.{◌≡◌, ℕ, zero, suc, Bool, true, false, cond, ltb, leb, List, [], ◌∷◌, ◌++◌, length, ℤ, Ok, Err, Result, sym, refl, ap, ◌∙◌}
use Rattle.layout.specs.declared.fault.Place.{Place}
use Rattle.layout.specs.declared.fault.LineFault.{LineFault}
use Rattle.layout.specs.declared.fault.ReadFault.{ReadFault}
use Rattle.layout.specs.declared.fault.ReadFault.TheVariants.{TooFewCells, Extra}
use Rattle.layout.specs.declared.field.Digits.{Digits}
use Rattle.layout.specs.declared.field.Range.{Range}
use Rattle.layout.specs.declared.field.Field.{Field}
use Rattle.layout.specs.declared.frame.Frame.{Frame}
use Rattle.layout.specs.Layout.{range_of, leading, counts, head_fields, unused, lines_due}
use Rattle.layout.specs.Cells.{cells_due}
use Rattle.layout.specs.Text.{head_kind}
use Rattle.layout.specs.Walk.{Supply, next, leads, run, line, frame, frames}
use Rattle.layout.specs.Reading.{text_supply, in_sheet, start, finished, body, read_with}

-- what follows a line's leading fields
abbrev rest_of : {E C : Type 0} → Supply E → Field → ℕ → (C → ℤ → C) → List ℤ × C × Place → Result (List ℤ × C × Place) E
rest_of u rest n push x = next (run u push rest.digits (range_of rest.test x.0) n x.1 x.2) (λ y. next (u.end y.1) (λ z. Ok (x.0, y.0, z)))

module _ {A B : Type 0} (push : A → ℤ → A) (push' : B → ℤ → B) (h : A → B) (hom : (a : A) (v : ℤ) → h (push a v) ≡ push' (h a) v) where
  -- the result of a walk, seen through h
  abbrev seen : {E : Type 0} → Result (A × Place) E → Result (B × Place) E
  seen (Ok x) = Ok (h x.0, x.1)
  seen (Err e) = Err e

  abbrev seen_led : {E : Type 0} → Result (List ℤ × A × Place) E → Result (List ℤ × B × Place) E
  seen_led (Ok x) = Ok (x.0, h x.1, x.2)
  seen_led (Err e) = Err e

  abbrev pub seen_whole : {E : Type 0} → Result A E → Result B E
  seen_whole (Ok a) = Ok (h a)
  seen_whole (Err e) = Err e

  module _ {E : Type 0} (u : Supply E) where
    leads_seen : (earlier : List ℤ) (fs : List Field) (a : A) (p : Place) → leads u push' earlier fs (h a) p ≡ seen_led (leads u push earlier fs a p)
    leads_seen earlier [] a p = refl
    leads_seen earlier (f ∷ fs) a p = go (λ v q. leads_seen (earlier ++ v ∷ []) fs (push a v) q) (u.field f.digits (range_of f.test earlier) p)
      where
        go : ((v : ℤ) (q : Place) → leads u push' (earlier ++ v ∷ []) fs (h (push a v)) q ≡ seen_led (leads u push (earlier ++ v ∷ []) fs (push a v) q)) → (x : Result (ℤ × Place) E) → next x (λ y. leads u push' (earlier ++ y.0 ∷ []) fs (push' (h a) y.0) y.1) ≡ seen_led (next x (λ y. leads u push (earlier ++ y.0 ∷ []) fs (push a y.0) y.1))
        go more (Ok y) = ap (λ b. leads u push' (earlier ++ y.0 ∷ []) fs b y.1) (sym (hom a y.0)) ∙ more y.0 y.1
        go more (Err e) = refl

    run_seen : (d : Digits) (r : Range) (n : ℕ) (a : A) (p : Place) → run u push' d r n (h a) p ≡ seen (run u push d r n a p)
    run_seen d r zero a p = refl
    run_seen d r (suc n) a p = go (λ v q. run_seen d r n (push a v) q) (u.field d r p)
      where
        go : ((v : ℤ) (q : Place) → run u push' d r n (h (push a v)) q ≡ seen (run u push d r n (push a v) q)) → (x : Result (ℤ × Place) E) → next x (λ y. run u push' d r n (push' (h a) y.0) y.1) ≡ seen (next x (λ y. run u push d r n (push a y.0) y.1))
        go more (Ok y) = ap (λ b. run u push' d r n b y.1) (sym (hom a y.0)) ∙ more y.0 y.1
        go more (Err e) = refl

    pub line_seen : (kind : ℕ) (lead : List Field) (rest : Field) (n : ℕ) (a : A) (p : Place) → line u push' kind lead rest n (h a) p ≡ seen_led (line u push kind lead rest n a p)
    line_seen kind lead rest n a p = at_kind (u.kind kind p)
      where
        at_end : (vs : List ℤ) (a : A) (x : Result Place E) → next x (λ z. Ok (vs, h a, z)) ≡ seen_led (next x (λ z. Ok (vs, a, z)))
        at_end vs a (Ok z) = refl
        at_end vs a (Err e) = refl

        at_run : (vs : List ℤ) (y : Result (A × Place) E) → next (seen y) (λ w. next (u.end w.1) (λ z. Ok (vs, w.0, z))) ≡ seen_led (next y (λ w. next (u.end w.1) (λ z. Ok (vs, w.0, z))))
        at_run vs (Ok w) = at_end vs w.0 (u.end w.1)
        at_run vs (Err e) = refl

        at_leads : (x : Result (List ℤ × A × Place) E) → next (seen_led x) (rest_of u rest n push') ≡ seen_led (next x (rest_of u rest n push))
        at_leads (Ok x) = ap (λ y. next y (λ w. next (u.end w.1) (λ z. Ok (x.0, w.0, z)))) (run_seen rest.digits (range_of rest.test x.0) n x.1 x.2) ∙ at_run x.0 (run u push rest.digits (range_of rest.test x.0) n x.1 x.2)
        at_leads (Err e) = refl

        at_kind : (x : Result Place E) → next x (λ q. next (leads u push' [] lead (h a) q) (rest_of u rest n push')) ≡ seen_led (next x (λ q. next (leads u push [] lead a q) (rest_of u rest n push)))
        at_kind (Ok q) = ap (λ x. next x (rest_of u rest n push')) (leads_seen [] lead a q) ∙ at_leads (leads u push [] lead a q)
        at_kind (Err e) = refl

    frame_seen : (f : Frame) (a : A) (p : Place) → frame u push' f (h a) p ≡ seen (frame u push f a p)
    frame_seen f a p = ap (λ x. next x (λ y. Ok (y.1, y.2))) (line_seen f.kind (leading f) f.rest f.count a p) ∙ go (line u push f.kind (leading f) f.rest f.count a p)
      where
        go : (x : Result (List ℤ × A × Place) E) → next (seen_led x) (λ y. Ok (y.1, y.2)) ≡ seen (next x (λ y. Ok (y.1, y.2)))
        go (Ok x) = refl
        go (Err e) = refl

    pub frames_seen : (fs : List Frame) (a : A) (p : Place) → frames u push' fs (h a) p ≡ seen (frames u push fs a p)
    frames_seen [] a p = refl
    frames_seen (f ∷ fs) a p = ap (λ x. next x (λ y. frames u push' fs y.0 y.1)) (frame_seen f a p) ∙ go (frames_seen fs) (frame u push f a p)
      where
        go : ((b : A) (q : Place) → frames u push' fs (h b) q ≡ seen (frames u push fs b q)) → (x : Result (A × Place) E) → next (seen x) (λ y. frames u push' fs y.0 y.1) ≡ seen (next x (λ y. frames u push fs y.0 y.1))
        go more (Ok x) = more x.0 x.1
        go more (Err e) = refl

  module _ (text : List ℕ) (room : ℕ) where
    ends_seen : (a : A) (p : Place) → finished text (h a) p ≡ seen_whole (finished text a p)
    ends_seen a p = go (leb (length text) p.byte)
      where
        go : (t : Bool) → cond t (Ok (h a)) (Err (Extra p)) ≡ seen_whole (cond t (Ok a) (Err (Extra p)))
        go true = refl
        go false = refl

    body_seen : (head : List ℤ) (a : A) (p : Place) → body push' text room head (h a) p ≡ seen_whole (body push text room head a p)
    body_seen head a p = ap (λ x. cond (ltb room (cells_due (counts head))) (Err (TooFewCells (cells_due (counts head)) room)) (next (in_sheet x) (λ y. finished text y.0 y.1))) (frames_seen (text_supply text) (lines_due (counts head)) a p) ∙ roomy (TooFewCells (cells_due (counts head)) room) (ltb room (cells_due (counts head)))
      where
        go : (x : Result (A × Place) LineFault) → next (in_sheet (seen x)) (λ y. finished text y.0 y.1) ≡ seen_whole (next (in_sheet x) (λ y. finished text y.0 y.1))
        go (Ok x) = ends_seen x.0 x.1
        go (Err e) = refl

        roomy : (e : ReadFault) (t : Bool) → cond t (Err e) (next (in_sheet (seen (frames (text_supply text) push (lines_due (counts head)) a p))) (λ y. finished text y.0 y.1)) ≡ seen_whole (cond t (Err e) (next (in_sheet (frames (text_supply text) push (lines_due (counts head)) a p)) (λ y. finished text y.0 y.1)))
        roomy e true = refl
        roomy e false = go (frames (text_supply text) push (lines_due (counts head)) a p)

    pub read_seen : (a : A) → read_with push' text room (h a) ≡ seen_whole (read_with push text room a)
    read_seen a = ap (λ x. next (in_sheet x) (λ y. body push' text room y.0 y.1 y.2)) (line_seen (text_supply text) head_kind head_fields unused 0 a start) ∙ go (line (text_supply text) push head_kind head_fields unused 0 a start)
      where
        go : (x : Result (List ℤ × A × Place) LineFault) → next (in_sheet (seen_led x)) (λ y. body push' text room y.0 y.1 y.2) ≡ seen_whole (next (in_sheet x) (λ y. body push text room y.0 y.1 y.2))
        go (Ok x) = body_seen x.0 x.1 x.2
        go (Err e) = refl
