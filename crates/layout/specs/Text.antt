-- The text of a list of cells.
use Rattle.std.specs.Prelude.{ℕ, zero, suc, ◌+◌, ◌-◌, ◌/◌, ◌%◌, ◌^◌, cond, List, [], ◌∷◌, ◌++◌, length, take, drop, ℤ, pos, negsuc, nat_lt}
use Rattle.layout.specs.declared.field.Digits.{Digits}
use Rattle.layout.specs.declared.field.Digits.TheVariants.{Two, Four, Eight, Value}
use Rattle.layout.specs.declared.field.Field.{Field}
use Rattle.layout.specs.declared.frame.Frame.{Frame}
use Rattle.layout.specs.Layout.{counts, head_fields, unused, leading, lines_due}
use Rattle.layout.specs.Cells.{width, head_width}

-- the byte of a digit: 0 to 9, then A to F
abbrev pub digit : ℕ → ℕ
digit d = cond (nat_lt d 10) (48 + d) (55 + d)

-- the n hexadecimal digits of v, the highest first
abbrev pub hex : ℕ → ℕ → List ℕ
hex zero v = []
hex (suc n) v = digit (v / 16 ^ n) ∷ hex n (v % 16 ^ n)

abbrev pub digits_of : Digits → ℕ
digits_of Two = 2
digits_of Four = 4
digits_of Eight = 8
digits_of Value = 8

-- the number that is written for v; below 0 it is the two's complement
abbrev pub written : Digits → ℤ → ℕ
written d (pos v) = v
written d (negsuc v) = 16 ^ digits_of d - suc v

abbrev pub field_text : Digits → ℤ → List ℕ
field_text d v = hex (digits_of d) (written d v)

abbrev pub leads_text : List Field → List ℤ → List ℕ
leads_text [] vs = []
leads_text (f ∷ fs) [] = []
leads_text (f ∷ fs) (v ∷ vs) = field_text f.digits v ++ leads_text fs vs

abbrev pub all_text : Digits → List ℤ → List ℕ
all_text d [] = []
all_text d (v ∷ vs) = field_text d v ++ all_text d vs

-- kind, fields and a line feed
abbrev pub line_text : ℕ → List Field → Field → List ℤ → List ℕ
line_text kind lead rest vs =
    hex 2 kind ++ (leads_text lead (take (length lead) vs) ++ (all_text rest.digits (drop (length lead) vs) ++ 10 ∷ []))

abbrev pub lines_text : List Frame → List ℤ → List ℕ
lines_text [] cells = []
lines_text (f ∷ fs) cells = line_text f.kind (leading f) f.rest (take (width f) cells) ++ lines_text fs (drop (width f) cells)

abbrev pub head_kind : ℕ
head_kind = 0x10

unfoldable pub sheet_text : List ℤ → List ℕ
sheet_text cells = line_text head_kind head_fields unused (take head_width cells) ++ lines_text (lines_due (counts cells)) (drop head_width cells)
