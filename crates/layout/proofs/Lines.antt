-- The lines of a text: what going through them finds, and that it finds what is written there.
use Rattle.std.proofs.Common.{◌≡◌, ℕ, zero, suc, ◌+◌, ◌<◌, true, List, [], ◌∷◌, ◌++◌, length, take, drop, ℤ, Ok, sym, refl, ap, ◌∙◌, subst, ap₂, append_assoc, append-nil, arith, length-append, take-append-drop}
use Rattle.std.proofs.lemmas.List.{take_at, drop_at, nil_from_length}
use Rattle.std.proofs.lemmas.Bool.{eqb-true}
use Rattle.std.specs.List.{AllByRecursion as All}
use Rattle.layout.specs.declared.fault.Place.{Place}
use Rattle.layout.specs.declared.field.Digits.{Digits}
use Rattle.layout.specs.declared.field.Range.{Range}
use Rattle.layout.specs.declared.field.Field.{Field}
use Rattle.layout.specs.declared.frame.Frame.{Frame}
use Rattle.layout.specs.Layout.{range_of, leading}
use Rattle.layout.specs.Cells.{leads_hold, all_hold, line_holds, width, lines_hold}
use Rattle.layout.specs.Text.{hex, field_text, leads_text, all_text, line_text, lines_text}
use Rattle.layout.specs.Walk.{leads, run, line, frames}
use Rattle.layout.specs.Reading.{text_supply, append}
use Rattle.layout.proofs.Found.{both_left, both_right, both_from, after, ok_is, Reaches, onto, other_words, field_found, field_reads, kind_found, kind_reads, end_found, end_reads}

push_more : (a : List ℤ) (v : ℤ) (vs : List ℤ) → append a v ++ vs ≡ a ++ v ∷ vs
push_more a v vs = append_assoc a (v ∷ []) vs

line_parts : (a b c more : List ℕ) → (a ++ (b ++ (c ++ 10 ∷ []))) ++ more ≡ a ++ (b ++ (c ++ 10 ∷ more))
line_parts a b c more = simp append_assoc

module _ (text : List ℕ) where
  -- from p to q stand the values of the leading fields, taken in behind `earlier` and behind a
  record LeadsFound (fs : List Field) (earlier a : List ℤ) (p : Place) (b a' : List ℤ) (q : Place) : Type 0 where
    values : List ℤ
    seen : b ≡ earlier ++ values
    taken : a' ≡ a ++ values
    long : length values ≡ length fs
    held : leads_hold earlier fs values ≡ true
    split : drop p.byte text ≡ leads_text fs values ++ drop q.byte text

  leads_found : (fs : List Field) (earlier a : List ℤ) (p : Place) (x : List ℤ × List ℤ × Place) → leads (text_supply text) append earlier fs a p ≡ Ok x → LeadsFound fs earlier a p x.0 x.1 x.2
  leads_found [] earlier a p x e =
      let same : x ≡ (earlier, a, p) = cc in
      record {
        values = [];
        seen = ap (λ y. y.0) same ∙ sym (append-nil earlier);
        taken = ap (λ y. y.1) same ∙ sym (append-nil a);
        long = refl;
        held = refl;
        split = ap (λ y. drop y.2.byte text) (sym same);
      }
  leads_found (f ∷ fs) earlier a p x e =
      after _ _ e λ y is then.
      let (v, q) = y in
      let g = field_found text f.digits (range_of f.test earlier) p v q is in
      let r = leads_found fs (earlier ++ v ∷ []) (append a v) q x then in
      record {
        values = v ∷ r.values;
        seen = r.seen ∙ push_more earlier v r.values;
        taken = r.taken ∙ push_more a v r.values;
        long = ap suc r.long;
        held = both_from _ _ g.0 r.held;
        split = g.1 ∙ ap (λ l. field_text f.digits v ++ l) r.split ∙ sym (append_assoc (field_text f.digits v) (leads_text fs r.values) _);
      }

  leads_read : (fs : List Field) (earlier a vs : List ℤ) (p : Place) (more : List ℕ) → leads_hold earlier fs vs ≡ true → drop p.byte text ≡ leads_text fs vs ++ more
      → Reaches text (leads (text_supply text) append earlier fs a p) (λ q. (earlier ++ vs, a ++ vs, q)) more
  leads_read [] earlier a [] p more h e = record { at = p; is = rw (append-nil earlier, append-nil a); left = e }
  leads_read [] earlier a (v ∷ vs) p more h e = let z : ◌≡◌ {A = ℕ} 0 1 = cc in absurd (omega arith)
  leads_read (f ∷ fs) earlier a [] p more h e = let z : ◌≡◌ {A = ℕ} 0 1 = cc in absurd (omega arith)
  leads_read (f ∷ fs) earlier a (v ∷ vs) p more h e =
      onto text _ (field_reads text f.digits (range_of f.test earlier) p v (leads_text fs vs ++ more) (both_left _ _ h) (e ∙ append_assoc (field_text f.digits v) (leads_text fs vs) more)) λ q at.
      other_words text (λ q. ap₂ (λ b c. (b, c, q)) (push_more earlier v vs) (push_more a v vs))
      (leads_read fs (earlier ++ v ∷ []) (append a v) vs q more (both_right _ _ h) at)

  -- n values of one range
  record RunFound (d : Digits) (r : Range) (n : ℕ) (a : List ℤ) (p : Place) (a' : List ℤ) (q : Place) : Type 0 where
    values : List ℤ
    taken : a' ≡ a ++ values
    long : length values ≡ n
    held : all_hold d r n values ≡ true
    split : drop p.byte text ≡ all_text d values ++ drop q.byte text

  run_found : (d : Digits) (r : Range) (n : ℕ) (a : List ℤ) (p : Place) (x : List ℤ × Place) → run (text_supply text) append d r n a p ≡ Ok x → RunFound d r n a p x.0 x.1
  run_found d r zero a p x e =
      let same : x ≡ (a, p) = cc in
      record { values = []; taken = ap (λ y. y.0) same ∙ sym (append-nil a); long = refl; held = refl; split = ap (λ y. drop y.1.byte text) (sym same) }
  run_found d r (suc n) a p x e =
      after _ _ e λ y is then.
      let (v, q) = y in
      let g = field_found text d r p v q is in
      let s = run_found d r n (append a v) q x then in
      record {
        values = v ∷ s.values;
        taken = s.taken ∙ push_more a v s.values;
        long = ap suc s.long;
        held = both_from _ _ g.0 s.held;
        split = g.1 ∙ ap (λ l. field_text d v ++ l) s.split ∙ sym (append_assoc (field_text d v) (all_text d s.values) _);
      }

  run_read : (d : Digits) (r : Range) (n : ℕ) (a vs : List ℤ) (p : Place) (more : List ℕ) → all_hold d r n vs ≡ true → drop p.byte text ≡ all_text d vs ++ more
      → Reaches text (run (text_supply text) append d r n a p) (λ q. (a ++ vs, q)) more
  run_read d r zero a [] p more h e = record { at = p; is = rw (append-nil a); left = e }
  run_read d r zero a (v ∷ vs) p more h e = let z : ◌≡◌ {A = ℕ} 0 1 = cc in absurd (omega arith)
  run_read d r (suc n) a [] p more h e = let z : ◌≡◌ {A = ℕ} 0 1 = cc in absurd (omega arith)
  run_read d r (suc n) a (v ∷ vs) p more h e =
      onto text _ (field_reads text d r p v (all_text d vs ++ more) (both_left _ _ h) (e ∙ append_assoc (field_text d v) (all_text d vs) more)) λ q at.
      other_words text (λ q. ap (λ b. (b, q)) (push_more a v vs)) (run_read d r n (append a v) vs q more (both_right _ _ h) at)

  -- a line's values
  pub record LineFound (kind : ℕ) (lead : List Field) (rest : Field) (n : ℕ) (a : List ℤ) (p : Place) (b a' : List ℤ) (q : Place) : Type 0 where
    pub values : List ℤ
    pub seen : b ≡ take (length lead) values
    pub taken : a' ≡ a ++ values
    pub long : length values ≡ length lead + n
    pub held : line_holds lead rest n values ≡ true
    pub split : drop p.byte text ≡ line_text kind lead rest values ++ drop q.byte text

  joined_line : {kind : ℕ} {lead : List Field} {rest : Field} {n : ℕ} {a b a₁ a₂ : List ℤ} {q q₁ : Place} (p q₂ q₃ : Place)
      → drop p.byte text ≡ hex 2 kind ++ drop q.byte text → LeadsFound lead [] a q b a₁ q₁ → RunFound rest.digits (range_of rest.test b) n a₁ q₁ a₂ q₂
      → drop q₂.byte text ≡ 10 ∷ drop q₃.byte text → LineFound kind lead rest n a p b a₂ q₃
  joined_line {kind} {lead} {rest} {n} {a} {b} p q₂ q₃ k l r o =
      let us = l.values in
      let ws = r.values in
      let first = take_at us ws (length lead) l.long in
      let behind = drop_at us ws (length lead) l.long in
      record {
        values = us ++ ws;
        seen = l.seen ∙ sym first;
        taken = r.taken ∙ ap (λ c. c ++ ws) l.taken ∙ append_assoc a us ws;
        long = length-append us ws ∙ ap₂ (λ i j. i + j) l.long r.long;
        held = rw (first, behind) (both_from _ _ l.held (rw l.seen at r.held));
        split = rw (first, behind)
            (k ∙ ap (λ t. hex 2 kind ++ t) (l.split ∙ ap (λ t. leads_text lead us ++ t) (r.split ∙ ap (λ t. all_text rest.digits ws ++ t) o))
            ∙ sym (line_parts (hex 2 kind) (leads_text lead us) (all_text rest.digits ws) (drop q₃.byte text)));
      }

  pub line_found : (kind : ℕ) (lead : List Field) (rest : Field) (n : ℕ) (a : List ℤ) (p : Place) (x : List ℤ × List ℤ × Place)
      → line (text_supply text) append kind lead rest n a p ≡ Ok x → LineFound kind lead rest n a p x.0 x.1 x.2
  line_found kind lead rest n a p x e =
      after _ _ e λ q is_kind e₁.
      after _ _ e₁ λ y is_leads e₂.
      after _ _ e₂ λ z is_run e₃.
      after _ _ e₃ λ q' is_end e₄.
      subst (λ x. LineFound kind lead rest n a p x.0 x.1 x.2) (ok_is e₄)
      (joined_line p z.1 q' (kind_found text kind p q is_kind) (leads_found lead [] a q y is_leads)
      (run_found rest.digits (range_of rest.test y.0) n y.1 y.2 z is_run) (end_found text z.1 q' is_end))

  pub line_read : (kind : ℕ) (lead : List Field) (rest : Field) (n : ℕ) (a vs : List ℤ) (p : Place) (more : List ℕ)
      → kind < 256 → line_holds lead rest n vs ≡ true → drop p.byte text ≡ line_text kind lead rest vs ++ more
      → Reaches text (line (text_supply text) append kind lead rest n a p) (λ q. (take (length lead) vs, a ++ vs, q)) more
  line_read kind lead rest n a vs p more small h e =
      let us = take (length lead) vs in
      let ws = drop (length lead) vs in
      onto text _ (kind_reads text kind p (leads_text lead us ++ (all_text rest.digits ws ++ 10 ∷ more)) small (e ∙ line_parts (hex 2 kind) (leads_text lead us) (all_text rest.digits ws) more)) λ q at.
      onto text _ (leads_read lead [] a us q (all_text rest.digits ws ++ 10 ∷ more) (both_left _ _ h) at) λ q at.
      onto text _ (run_read rest.digits (range_of rest.test us) n (a ++ us) ws q (10 ∷ more) (both_right _ _ h) at) λ q at.
      onto text _ (end_reads text q more at) λ q at.
      record { at = q; is = ap (λ l. Ok (us, l, q)) (append_assoc a us ws ∙ ap (λ l. a ++ l) (take-append-drop (length lead) vs)); left = at }

  -- the values of lines
  pub record LinesFound (fs : List Frame) (a : List ℤ) (p : Place) (a' : List ℤ) (q : Place) : Type 0 where
    pub values : List ℤ
    pub taken : a' ≡ a ++ values
    pub held : lines_hold fs values ≡ true
    pub split : drop p.byte text ≡ lines_text fs values ++ drop q.byte text

  one_more_line : (f : Frame) (fs : List Frame) {a b a₁ a₂ : List ℤ} {q₁ : Place} (p q₂ : Place)
      → LineFound f.kind (leading f) f.rest f.count a p b a₁ q₁ → LinesFound fs a₁ q₁ a₂ q₂ → LinesFound (f ∷ fs) a p a₂ q₂
  one_more_line f fs {a} p q₂ l r =
      let us = l.values in
      let ws = r.values in
      let first = take_at us ws (width f) l.long in
      let behind = drop_at us ws (width f) l.long in
      record {
        values = us ++ ws;
        taken = r.taken ∙ ap (λ c. c ++ ws) l.taken ∙ append_assoc a us ws;
        held = rw (first, behind) (both_from _ _ l.held r.held);
        split = rw (first, behind) (l.split ∙ ap (λ t. line_text f.kind (leading f) f.rest us ++ t) r.split ∙ sym (append_assoc (line_text f.kind (leading f) f.rest us) (lines_text fs ws) _));
      }

  pub lines_found : (fs : List Frame) (a : List ℤ) (p : Place) (x : List ℤ × Place) → frames (text_supply text) append fs a p ≡ Ok x → LinesFound fs a p x.0 x.1
  lines_found [] a p x e =
      let same : x ≡ (a, p) = cc in
      record { values = []; taken = ap (λ y. y.0) same ∙ sym (append-nil a); held = refl; split = ap (λ y. drop y.1.byte text) (sym same) }
  lines_found (f ∷ fs) a p x e =
      after _ _ e λ y is then.
      after _ _ is λ z is_line e₁.
      one_more_line f fs p x.1 (line_found f.kind (leading f) f.rest f.count a p z is_line)
      (lines_found fs z.1 z.2 x (subst (λ (y : List ℤ × Place). frames (text_supply text) append fs y.0 y.1 ≡ Ok x) (sym (ok_is e₁)) then))

  pub lines_read : (fs : List Frame) (a vs : List ℤ) (p : Place) (more : List ℕ)
      → All (λ f. f.kind < 256) fs → lines_hold fs vs ≡ true → drop p.byte text ≡ lines_text fs vs ++ more
      → Reaches text (frames (text_supply text) append fs a p) (λ q. (a ++ vs, q)) more
  lines_read [] a vs p more small h e =
      let none = nil_from_length vs (eqb-true (length vs) 0 h) in
      record { at = p; is = ap (λ l. Ok (l, p)) (sym (append-nil a) ∙ ap (λ l. a ++ l) (sym none)); left = e }
  lines_read (f ∷ fs) a vs p more small h e =
      let us = take (width f) vs in
      let ws = drop (width f) vs in
      onto text _ (onto text _ (line_read f.kind (leading f) f.rest f.count a us p (lines_text fs ws ++ more) small.0 (both_left _ _ h) (e ∙ append_assoc (line_text f.kind (leading f) f.rest us) (lines_text fs ws) more))
      λ q at. record { at = q; is = refl; left = at }) λ q at.
      other_words text (λ q. ap (λ l. (l, q)) (append_assoc a us ws ∙ ap (λ l. a ++ l) (take-append-drop (width f) vs)))
      (lines_read fs (a ++ us) ws q more small.1 (both_right _ _ h) at)
