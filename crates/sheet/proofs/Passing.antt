-- One pass through a text, by the way it went.
use Rattle.std.proofs.Common.{◌≡◌, ℕ, ◌<◌, ◌≤◌, List, length, ℤ, Ok, Err, Result, sym, refl, ap, ◌∙◌, le-ltb, lt-ltb, le-leb}
use borrow.Author.Tests.{lt-leb}
use Rattle.layout.specs.declared.fault.Place.{Place}
use Rattle.layout.specs.declared.fault.LineFault.{LineFault}
use Rattle.layout.specs.declared.fault.ReadFault.TheVariants.{TooFewCells, Line as InLine, Extra}
use Rattle.layout.specs.declared.frame.Frame.{Frame}
use Rattle.layout.specs.Layout.{Counts, counts, head_fields, unused, lines_due}
use Rattle.layout.specs.Cells.{cells_due}
use Rattle.layout.specs.Text.{head_kind}
use Rattle.layout.specs.Walk.{Supply, line, frames}
use Rattle.layout.specs.Reading.{text_supply, start, read_with}

-- the head was read: `h` are its counts, `n` the cells due
module _ {A : Type 0} (push : A → ℤ → A) (text : List ℕ) (room : ℕ) (a : A) {vs : List ℤ} {b : A} {p : Place} {h : Counts} {n : ℕ}
    (headed : line (text_supply text) push head_kind head_fields unused 0 a start ≡ Ok (vs, b, p)) (counted : h ≡ counts vs) (due : n ≡ cells_due h) where
  needed : n ≡ cells_due (counts vs)
  needed = due ∙ ap cells_due counted

  pub too_few : room < n → read_with push text room a ≡ Err (TooFewCells n room)
  too_few few = rw headed (rw (← needed) (rw (lt-ltb room n few) refl))

  module _ (enough : n ≤ room) where
    pub faulty : {e : LineFault} → frames (text_supply text) push (lines_due h) b p ≡ Err e → read_with push text room a ≡ Err (InLine e)
    faulty f = rw headed (rw (← needed) (rw (le-ltb room n enough) (rw (ap (λ c. frames (text_supply text) push (lines_due c) b p) (sym counted) ∙ f) refl)))

    module _ {c : A} {q : Place} (f : frames (text_supply text) push (lines_due h) b p ≡ Ok (c, q)) where
      pub extra : q.byte < length text → read_with push text room a ≡ Err (Extra q)
      extra more = rw headed (rw (← needed) (rw (le-ltb room n enough) (rw (ap (λ c. frames (text_supply text) push (lines_due c) b p) (sym counted) ∙ f) (rw (lt-leb (length text) q.byte more) refl))))

      pub whole : length text ≤ q.byte → read_with push text room a ≡ Ok c
      whole none = rw headed (rw (← needed) (rw (le-ltb room n enough) (rw (ap (λ c. frames (text_supply text) push (lines_due c) b p) (sym counted) ∙ f) (rw (le-leb (length text) q.byte none) refl))))

-- the same reader under another name
pub started : {A : Type 0} (push : A → ℤ → A) (a : A) {text t : List ℕ} {s : Place} {x : Result (List ℤ × A × Place) LineFault} → t ≡ text → s ≡ start → line (text_supply t) push head_kind head_fields unused 0 a s ≡ x → line (text_supply text) push head_kind head_fields unused 0 a start ≡ x
started push a {text} {t} {s} e f h =
    ap (λ l. line (text_supply l) push head_kind head_fields unused 0 a start) (sym e)
    ∙ ap (λ q. line (text_supply t) push head_kind head_fields unused 0 a q) (sym f)
    ∙ h

pub on : {E A : Type 0} (push : A → ℤ → A) (fs : List Frame) (b : A) (p : Place) {w u : Supply E} {x : Result (A × Place) E} → w ≡ u → frames w push fs b p ≡ x → frames u push fs b p ≡ x
on push fs b p e h = ap (λ u. frames u push fs b p) (sym e) ∙ h
