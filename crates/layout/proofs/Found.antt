-- What a text supplies at a place: a kind, a field, a line's end. Each fact in both directions.
use Rattle.std.proofs.Common.{◌≡◌, ℕ, zero, suc, ◌+◌, ◌%◌, ◌^◌, ◌<◌, Bool, true, false, cond, eqb, List, [], ◌∷◌, ◌++◌, length, drop, ℤ, Ok, Err, Result, sym, refl, ap, ◌∙◌, ap₂, zero-mul, arith}
use Rattle.std.proofs.lemmas.List.{drop-drop, drop_at}
use Rattle.std.proofs.lemmas.Bool.{eqb-true, eq-eqb}
use Rattle.layout.specs.declared.fault.Place.{Place}
use Rattle.layout.specs.declared.fault.FieldFault.{FieldFault}
use Rattle.layout.specs.declared.fault.FieldFault.TheVariants.{OutOfRange}
use Rattle.layout.specs.declared.fault.LineFault.TheVariants.{WrongKind, NoLineFeed}
use Rattle.layout.specs.declared.field.Digits.{Digits}
use Rattle.layout.specs.declared.field.Range.{Range}
use Rattle.layout.specs.Cells.{both, passes, writable, holds}
use Rattle.layout.specs.Text.{hex, digits_of, written, field_text}
use Rattle.layout.specs.Walk.{next}
use Rattle.layout.specs.Reading.{ahead, digits, number_of, in_line, field_at, kind_at, line_end, field_in_line}
use Rattle.layout.proofs.Hex.{digits_hex, digits_are}
use Rattle.layout.proofs.Written.{written_number, written_small, number_written}

pub both_left : (a b : Bool) → both a b ≡ true → a ≡ true
both_left true b h = refl
both_left false b h = h

pub both_right : (a b : Bool) → both a b ≡ true → b ≡ true
both_right true b h = h
both_right false b h = let z : ◌≡◌ {A = ℕ} 0 1 = cc in absurd (omega arith)

pub both_from : (a b : Bool) → a ≡ true → b ≡ true → both a b ≡ true
both_from true b h k = k
both_from false b h k = h

-- a computation that ends well: its first part did
pub after : {A B E P : Type 0} (r : Result A E) (k : A → Result B E) {b : B} → next r k ≡ Ok b → ((a : A) → r ≡ Ok a → k a ≡ Ok b → P) → P
after (Ok a) k e go = go a refl e
after (Err x) k e go = let z : ◌≡◌ {A = ℕ} 0 1 = cc in absurd (omega arith)

pub ok_is : {A E : Type 0} {a b : A} → ◌≡◌ {A = Result A E} (Ok a) (Ok b) → a ≡ b
ok_is e = cc

pub tested : {A E : Type 0} (t : Bool) (a : A) (x : E) (b : A) → cond t (Ok a) (Err x) ≡ Ok b → (t ≡ true) × (a ≡ b)
tested true a x b e = (refl, cc)
tested false a x b e = let z : ◌≡◌ {A = ℕ} 0 1 = cc in absurd (omega arith)

pub in_line_ok : {A : Type 0} (r : Result A FieldFault) (a : A) → in_line r ≡ Ok a → r ≡ Ok a
in_line_ok (Ok x) a e = cc
in_line_ok (Err x) a e = let z : ◌≡◌ {A = ℕ} 0 1 = cc in absurd (omega arith)

length_hex : (n v : ℕ) → length (hex n v) ≡ n
length_hex zero v = refl
length_hex (suc n) v = ap suc (length_hex n (v % 16 ^ n))

module _ (text : List ℕ) where
  -- r answers x with the place before `more`
  pub record Reaches {X E : Type 0} (r : Result X E) (x : Place → X) (more : List ℕ) : Type 0 where
    pub at : Place
    pub is : r ≡ Ok (x at)
    pub left : drop at.byte text ≡ more

  pub onto : {A B E : Type 0} {r : Result A E} (k : A → Result B E) {x : Place → A} {y : Place → B} {between more : List ℕ}
      → Reaches r x between → ((q : Place) → drop q.byte text ≡ between → Reaches (k (x q)) y more) → Reaches (next r k) y more
  onto k h go =
      let g = go h.at h.left in
      record { at = g.at; is = ap (λ z. next z k) h.is ∙ g.is; left = g.left }

  pub other_words : {X E : Type 0} {r : Result X E} {x y : Place → X} {more : List ℕ} → ((q : Place) → x q ≡ y q) → Reaches r x more → Reaches r y more
  other_words same h = record { at = h.at; is = h.is ∙ ap Ok (same h.at); left = h.left }

  past : (p : Place) (n : ℕ) (front more : List ℕ) → drop p.byte text ≡ front ++ more → length front ≡ n → drop (p.byte + n) text ≡ more
  past p n front more e h = sym (drop-drop n p.byte text) ∙ ap (drop n) e ∙ drop_at front more n h

  -- n digits at p, with what they leave
  number_found : (n : ℕ) (p : Place) (w : ℕ) → digits n 0 (drop p.byte text) p ≡ Ok w → (w < 16 ^ n) × (drop p.byte text ≡ hex n w ++ drop (p.byte + n) text)
  number_found n p w e =
      let r = digits_are n 0 (drop p.byte text) p w e in
      let same : w ≡ r.value = omega (arith, r.sum, zero-mul (16 ^ n)) in
      (omega (arith, r.small), r.front ∙ ap₂ (λ x xs. hex n x ++ xs) (sym same) (drop-drop n p.byte text))

  number_reads : (n v : ℕ) (p : Place) (more : List ℕ) → v < 16 ^ n → drop p.byte text ≡ hex n v ++ more → digits n 0 (drop p.byte text) p ≡ Ok v
  number_reads n v p more h e = ap (λ b. digits n 0 b p) e ∙ digits_hex n 0 v more p h ∙ ap Ok (omega (arith, zero-mul (16 ^ n)))

  pub field_found : (d : Digits) (r : Range) (p : Place) (v : ℤ) (q : Place) → field_in_line text d r p ≡ Ok (v, q) → (passes d r v ≡ true) × (drop p.byte text ≡ field_text d v ++ drop q.byte text)
  field_found d r p v q e =
      after _ _ e λ v' is then.
      after _ _ (in_line_ok (field_at text d r p) v' is) λ n num tst.
      let c = tested (passes d r (number_of d n)) (number_of d n) (OutOfRange p) v' tst in
      let f = number_found (digits_of d) p n num in
      let pair : (v', ahead p (digits_of d)) ≡ (v, q) = ok_is then in
      let same : number_of d n ≡ v = c.1 ∙ ap (λ x. x.0) pair in
      (rw same at c.0, f.1 ∙ ap₂ (λ x y. hex (digits_of d) x ++ drop y.byte text) (sym (written_number d n f.0) ∙ ap (written d) same) (ap (λ x. x.1) pair))

  pub field_reads : (d : Digits) (r : Range) (p : Place) (v : ℤ) (more : List ℕ) → passes d r v ≡ true → drop p.byte text ≡ field_text d v ++ more → Reaches (field_in_line text d r p) (λ q. (v, q)) more
  field_reads d r p v more h e =
      let w = both_left (writable d v) (holds r v) h in
      record {
        at = ahead p (digits_of d);
        is = rw (number_reads (digits_of d) (written d v) p more (written_small d v w) e, number_written d v w, h);
        left = past p (digits_of d) (field_text d v) more e (length_hex (digits_of d) (written d v));
      }

  pub kind_found : (due : ℕ) (p q : Place) → kind_at text due p ≡ Ok q → drop p.byte text ≡ hex 2 due ++ drop q.byte text
  kind_found due p q e =
      after _ _ e λ k is tst.
      let f = number_found 2 p k (in_line_ok (digits 2 0 (drop p.byte text) p) k is) in
      let c = tested (eqb k due) (ahead p 2) (WrongKind p) q tst in
      f.1 ∙ ap₂ (λ x y. hex 2 x ++ drop y.byte text) (eqb-true k due c.0) c.1

  pub kind_reads : (due : ℕ) (p : Place) (more : List ℕ) → due < 256 → drop p.byte text ≡ hex 2 due ++ more → Reaches (kind_at text due p) (λ q. q) more
  kind_reads due p more h e = record {
    at = ahead p 2;
    is = rw (number_reads 2 due p more h e, eq-eqb due due refl);
    left = past p 2 (hex 2 due) more e refl;
  }

  pub end_found : (p q : Place) → line_end (drop p.byte text) p ≡ Ok q → drop p.byte text ≡ 10 ∷ drop q.byte text
  end_found p q e = go (drop p.byte text) refl e
    where
      go : (bytes : List ℕ) → drop p.byte text ≡ bytes → line_end bytes p ≡ Ok q → drop p.byte text ≡ 10 ∷ drop q.byte text
      go [] at e = let z : ◌≡◌ {A = ℕ} 0 1 = cc in absurd (omega arith)
      go (b ∷ bytes) at e =
          let c = tested (eqb b 10) (record { line = p.line + 1; byte = p.byte + 1 }) (NoLineFeed p) q e in
          at ∙ ap₂ (λ x xs. x ∷ xs) (eqb-true b 10 c.0) (sym (past p 1 (b ∷ []) bytes at refl) ∙ ap (λ y. drop y.byte text) c.1)

  pub end_reads : (p : Place) (more : List ℕ) → drop p.byte text ≡ 10 ∷ more → Reaches (line_end (drop p.byte text) p) (λ q. q) more
  end_reads p more e = record { at = record { line = p.line + 1; byte = p.byte + 1 }; is = rw e; left = past p 1 (10 ∷ []) more e refl }
