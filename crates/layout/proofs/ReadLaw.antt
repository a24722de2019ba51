-- A text is read exactly when it is the text of a well-formed list, and so a list has one text and a text one list.
use Rattle.std.proofs.Common.{◌≡◌, ℕ, ◌+◌, ◌≤◌, Bool, true, false, cond, ltb, leb, List, [], ◌++◌, length, take, drop, ℤ, Ok, Err, Result, sym, refl, ap, ◌∙◌, subst, append-nil, arith, length-drop, take-append-drop}
use Rattle.std.proofs.lemmas.List.{take_at, drop_at, take_all, take-take, drop_all}
use Rattle.std.proofs.lemmas.Bool.{ltb-false, le-ltb, leb-true, le-leb}
use Rattle.layout.specs.declared.fault.Place.{Place}
use Rattle.layout.specs.declared.fault.LineFault.{LineFault}
use Rattle.layout.specs.declared.fault.ReadFault.{ReadFault}
use Rattle.layout.specs.declared.fault.ReadFault.TheVariants.{Extra, TooFewCells}
use Rattle.layout.specs.Layout.{Counts, counts, head_fields, unused, lines_due}
use Rattle.layout.specs.Cells.{both, line_holds, lines_hold, head_width, well_formed, cells_due}
use Rattle.layout.specs.Text.{head_kind, line_text, lines_text, sheet_text}
use Rattle.layout.specs.Walk.{next, line, frames}
use Rattle.layout.specs.Reading.{text_supply, append, start, in_sheet, finished, body, read_text}
use Rattle.layout.specs.Laws.{TextOf, ReadExactly, OneToOne, AllCounted}
use Rattle.layout.proofs.Found.{both_left, both_right, both_from, after, ok_is, tested, Reaches}
use Rattle.layout.proofs.Count.{counts_take}
use Rattle.layout.proofs.Lines.{LineFound, line_found, line_read, lines_found, lines_read}
use Rattle.layout.proofs.SmallKinds.{kinds_small}

in_sheet_ok : {A : Type 0} (r : Result A LineFault) (a : A) → in_sheet r ≡ Ok a → r ≡ Ok a
in_sheet_ok (Ok x) a e = cc
in_sheet_ok (Err x) a e = let z : ◌≡◌ {A = ℕ} 0 1 = cc in absurd (omega arith)

-- a head and the cells behind it
module _ (head ws : List ℤ) (long : length head ≡ head_width) where
  counts_append : counts (head ++ ws) ≡ counts head
  counts_append = sym (counts_take (head ++ ws)) ∙ ap counts (take_at head ws head_width long)

  formed_parts : well_formed (head ++ ws) ≡ both (line_holds head_fields unused 0 head) (lines_hold (lines_due (counts head)) ws)
  unfolding well_formed
  formed_parts i = both (line_holds head_fields unused 0 (take_at head ws head_width long i)) (lines_hold (lines_due (counts_append i)) (drop_at head ws head_width long i))

  text_parts : sheet_text (head ++ ws) ≡ line_text head_kind head_fields unused head ++ lines_text (lines_due (counts head)) ws
  unfolding sheet_text
  text_parts i = line_text head_kind head_fields unused (take_at head ws head_width long i) ++ lines_text (lines_due (counts_append i)) (drop_at head ws head_width long i)

roomed : {A E : Type 0} (t : Bool) (x : E) (r : Result A E) (a : A) → cond t (Err x) r ≡ Ok a → (t ≡ false) × (r ≡ Ok a)
roomed true x r a e = let z : ◌≡◌ {A = ℕ} 0 1 = cc in absurd (omega arith)
roomed false x r a e = (refl, e)

module _ (counted : AllCounted) (text : List ℕ) (room : ℕ) where
  -- the parts of a text that is read
  whole : (head ws cells : List ℤ) (p q : Place) → length head ≡ head_width → line_holds head_fields unused 0 head ≡ true
      → text ≡ line_text head_kind head_fields unused head ++ drop p.byte text → cells_due (counts head) ≤ room
      → lines_hold (lines_due (counts head)) ws ≡ true → drop p.byte text ≡ lines_text (lines_due (counts head)) ws ++ drop q.byte text
      → length text ≤ q.byte → cells ≡ head ++ ws → TextOf text room cells
  whole head ws cells p q long held first fits follow behind over is =
      let formed : well_formed cells ≡ true = ap well_formed is ∙ formed_parts head ws long ∙ both_from _ _ held follow in
      let due : cells_due (counts cells) ≡ cells_due (counts head) = ap (λ c. cells_due (counts c)) is ∙ ap cells_due (counts_append head ws long) in
      record {
        formed = formed;
        texted = ap sheet_text is ∙ text_parts head ws long
            ∙ ap (λ t. line_text head_kind head_fields unused head ++ t) (sym (append-nil _) ∙ ap (λ t. lines_text (lines_due (counts head)) ws ++ t) (sym (drop_all q.byte text over)) ∙ sym behind)
            ∙ sym first;
        roomy = omega (arith, (counted cells formed).due, due);
      }

  behind_head : (cells : List ℤ) {b a : List ℤ} {p : Place} → LineFound text head_kind head_fields unused 0 [] start b a p → body append text room b a p ≡ Ok cells → TextOf text room cells
  behind_head cells {b} {a} {p} l e =
      let long : length l.values ≡ head_width = l.long in
      let seen : b ≡ l.values = l.seen ∙ take_all head_width l.values (omega arith) in
      let r = roomed _ _ _ cells (subst (λ h. body append text room h a p ≡ Ok cells) seen e) in
      after _ _ r.1 λ y is then.
      let f = lines_found text (lines_due (counts l.values)) a p y (in_sheet_ok _ y is) in
      let t = tested (leb (length text) y.1.byte) y.0 (Extra y.1) cells then in
      whole l.values f.values cells p y.1 long l.held l.split (ltb-false _ _ r.0) f.held f.split (leb-true _ _ t.0)
      (sym t.1 ∙ f.taken ∙ ap (λ c. c ++ f.values) l.taken)

  read_only : (cells : List ℤ) → read_text text room ≡ Ok cells → TextOf text room cells
  unfolding read_text
  read_only cells e = after _ _ e λ x is then. behind_head cells (line_found text head_kind head_fields unused 0 [] start x (in_sheet_ok _ x is)) then

-- the body, from the counts of its head
abbrev body_by : List ℕ → ℕ → List ℤ → Place → Counts → Result (List ℤ) ReadFault
body_by text room cells p c =
    cond (ltb room (cells_due c)) (Err (TooFewCells (cells_due c) room))
    (next (in_sheet (frames (text_supply text) append (lines_due c) cells p)) (λ x. finished text x.0 x.1))

module _ (counted : AllCounted) (text : List ℕ) (room : ℕ) (cells : List ℤ) (of : TextOf text room cells) where
  heads_and_lines : (line_holds head_fields unused 0 (take head_width cells) ≡ true) × (lines_hold (lines_due (counts cells)) (drop head_width cells) ≡ true)
  unfolding well_formed
  heads_and_lines = (both_left _ _ of.formed, both_right _ _ of.formed)

  head_read : Reaches text (line (text_supply text) append head_kind head_fields unused 0 [] start) (λ q. (take head_width (take head_width cells), take head_width cells, q)) (lines_text (lines_due (counts cells)) (drop head_width cells))
  unfolding sheet_text
  head_read = line_read text head_kind head_fields unused 0 [] (take head_width cells) start _ (omega arith) heads_and_lines.0 (sym of.texted)

  body_read : (p : Place) → drop p.byte text ≡ lines_text (lines_due (counts cells)) (drop head_width cells) → body_by text room (take head_width cells) p (counts cells) ≡ Ok cells
  body_read p e =
      let f = lines_read text (lines_due (counts cells)) (take head_width cells) (drop head_width cells) p [] (kinds_small (counts cells)) heads_and_lines.1 (e ∙ sym (append-nil _)) in
      let over : length text ≤ f.at.byte = omega (arith, length-drop f.at.byte text, ap length f.left) in
      rw (le-ltb room (cells_due (counts cells)) (omega (arith, (counted cells of.formed).due, of.roomy)), f.is, le-leb (length text) f.at.byte over)
      (ap Ok (take-append-drop head_width cells))

  read_back : read_text text room ≡ Ok cells
  unfolding read_text
  read_back =
      let l = head_read in
      ap (λ r. next (in_sheet r) (λ x. body append text room x.0 x.1 x.2)) l.is
      ∙ ap (body_by text room (take head_width cells) l.at) (ap counts (take-take head_width head_width cells (omega arith)) ∙ counts_take cells)
      ∙ body_read l.at l.left

pub read_exactly : AllCounted → ReadExactly
read_exactly counted text room cells = (read_only counted text room cells, read_back counted text room cells)

pub one_to_one : AllCounted → OneToOne
one_to_one counted a b formed_a formed_b same =
    let room = length a + length b in
    ok_is (sym (read_back counted (sheet_text a) room a (record { formed = formed_a; texted = refl; roomy = omega arith }))
    ∙ read_back counted (sheet_text a) room b (record { formed = formed_b; texted = sym same; roomy = omega arith }))
