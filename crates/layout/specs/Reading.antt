-- Reading a text: the cells, or the first fault with its place.
use Rattle.std.specs.Prelude.{ℕ, zero, suc, ◌+◌, ◌-◌, ◌*◌, cond, List, [], ◌∷◌, ◌++◌, length, drop, ℤ, pos, negsuc, Some, None, Ok, Err, Option, Result, ◌==◌, nat_le, nat_lt}
use Rattle.layout.specs.declared.fault.Place.{Place}
use Rattle.layout.specs.declared.fault.FieldFault.{FieldFault}
use Rattle.layout.specs.declared.fault.FieldFault.TheVariants.{NoDigit, LineFeed, Over, OutOfRange}
use Rattle.layout.specs.declared.fault.LineFault.{LineFault}
use Rattle.layout.specs.declared.fault.LineFault.TheVariants.{Field as InField, WrongKind, NoLineFeed, Unended}
use Rattle.layout.specs.declared.fault.ReadFault.{ReadFault}
use Rattle.layout.specs.declared.fault.ReadFault.TheVariants.{TooFewCells, Line as InLine, Extra}
use Rattle.layout.specs.declared.field.Digits.{Digits}
use Rattle.layout.specs.declared.field.Digits.TheVariants.{Two, Four, Eight, Value}
use Rattle.layout.specs.declared.field.Range.{Range}
use Rattle.layout.specs.Layout.{counts, head_fields, unused, lines_due}
use Rattle.layout.specs.Cells.{passes, cells_due}
use Rattle.layout.specs.Text.{digits_of, head_kind}
use Rattle.layout.specs.Walk.{Supply, next, line, frames}

abbrev pub ahead : Place → ℕ → Place
ahead p n = record { line = p.line; byte = p.byte + n }

-- the value of a digit's byte, 0 to 9 and A to F
abbrev pub nibble : ℕ → Option ℕ
nibble b = cond (nat_lt b 48) None (cond (nat_lt b 58) (Some (b - 48)) (cond (nat_lt b 65) None (cond (nat_lt b 71) (Some (b - 55)) None)))

-- what a byte that is no digit is a fault of
abbrev pub no_digit : ℕ → Place → FieldFault
no_digit b p = cond (b == 10) (LineFeed p) (NoDigit p)

-- one digit more behind the value so far
abbrev pub shift : ℕ → ℕ → Place → Option ℕ → Result ℕ FieldFault
shift so_far b p None = Err (no_digit b p)
shift so_far b p (Some d) = Ok (so_far * 16 + d)

-- n digits at the front of what is left of a text
abbrev pub digits : ℕ → ℕ → List ℕ → Place → Result ℕ FieldFault
digits zero so_far bytes p = Ok so_far
digits (suc n) so_far [] p = Err (Over p)
digits (suc n) so_far (b ∷ bytes) p = next (shift so_far b p (nibble b)) (λ v. digits n v bytes (ahead p 1))

-- the number that digits stand for; with a sign, two's complement
abbrev pub number_of : Digits → ℕ → ℤ
number_of Two n = pos n
number_of Four n = cond (nat_lt n 32768) (pos n) (negsuc (65535 - n))
number_of Eight n = pos n
number_of Value n = cond (nat_lt n 2147483648) (pos n) (negsuc (4294967295 - n))

abbrev pub in_range : Digits → Range → ℤ → Place → Result ℤ FieldFault
in_range d r v p = cond (passes d r v) (Ok v) (Err (OutOfRange p))

abbrev pub field_at : List ℕ → Digits → Range → Place → Result ℤ FieldFault
field_at text d r p = next (digits (digits_of d) 0 (drop p.byte text) p) (λ n. in_range d r (number_of d n) p)

-- a field's fault enters the line's
abbrev pub in_line : {A : Type 0} → Result A FieldFault → Result A LineFault
in_line (Ok a) = Ok a
in_line (Err e) = Err (InField e)

-- a line's fault enters the sheet's
abbrev pub in_sheet : {A : Type 0} → Result A LineFault → Result A ReadFault
in_sheet (Ok a) = Ok a
in_sheet (Err e) = Err (InLine e)

abbrev pub kind_at : List ℕ → ℕ → Place → Result Place LineFault
kind_at text due p = next (in_line (digits 2 0 (drop p.byte text) p)) (λ k. cond (k == due) (Ok (ahead p 2)) (Err (WrongKind p)))

-- a line feed is due at the front of what is left
abbrev pub line_end : List ℕ → Place → Result Place LineFault
line_end [] p = Err (Unended p)
line_end (b ∷ bytes) p = cond (b == 10) (Ok (record { line = p.line + 1; byte = p.byte + 1 })) (Err (NoLineFeed p))

abbrev pub field_in_line : List ℕ → Digits → Range → Place → Result (ℤ × Place) LineFault
field_in_line text d r p = next (in_line (field_at text d r p)) (λ v. Ok (v, ahead p (digits_of d)))

abbrev pub text_supply : List ℕ → Supply LineFault
text_supply text = record {
  kind = kind_at text;
  field = field_in_line text;
  end = λ p. line_end (drop p.byte text) p;
}

abbrev pub start : Place
start = record { line = 1; byte = 0 }

abbrev pub append : List ℤ → ℤ → List ℤ
append vs v = vs ++ v ∷ []

-- nothing may follow the last line
abbrev pub finished : {A : Type 0} → List ℕ → A → Place → Result A ReadFault
finished text a p = cond (nat_le (length text) p.byte) (Ok a) (Err (Extra p))

module _ {A : Type 0} (push : A → ℤ → A) (text : List ℕ) (room : ℕ) where
  -- the lines behind the head, where there is room for all cells
  abbrev pub body : List ℤ → A → Place → Result A ReadFault
  body head a p =
      cond (nat_lt room (cells_due (counts head))) (Err (TooFewCells (cells_due (counts head)) room))
      (next (in_sheet (frames (text_supply text) push (lines_due (counts head)) a p)) (λ x. finished text x.0 x.1))

  abbrev pub read_with : A → Result A ReadFault
  read_with a = next (in_sheet (line (text_supply text) push head_kind head_fields unused 0 a start)) (λ x. body x.0 x.1 x.2)

-- the cells of a text, where `room` cells are handed over
unfoldable pub read_text : List ℕ → ℕ → Result (List ℤ) ReadFault
read_text text room = read_with append text room []
