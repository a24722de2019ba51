-- One digit at the front of what is left of a text.
use Rattle.std.specs.Prelude.{◌≡◌, ℕ, ◌^◌, ◌<◌, List, [], ◌∷◌, ◌++◌, length, Some, None, Ok, Err, Option, Result}
use Rattle.layout.specs.declared.fault.Place.{Place}
use Rattle.layout.specs.declared.fault.FieldFault.{FieldFault}
use Rattle.layout.specs.declared.fault.FieldFault.TheVariants.{Over}
use Rattle.layout.specs.Reading.{nibble, no_digit, digits}

abbrev pub digit_of : ℕ → Place → Option ℕ → Result ℕ FieldFault
digit_of b p None = Err (no_digit b p)
digit_of b p (Some d) = Ok d

abbrev pub one_digit : List ℕ → Place → Result ℕ FieldFault
one_digit [] p = Err (Over p)
one_digit (b ∷ bytes) p = digit_of b p (nibble b)

-- bytes that are all digits, and their number, wherever they stand; None says nothing, since the bytes are then judged one by one
abbrev pub Whole : List ℕ → Option ℕ → Type 0
Whole part None = Unit {0}
Whole part (Some v) = (v < 16 ^ length part) × ((more : List ℕ) (p : Place) → digits (length part) 0 (part ++ more) p ≡ Ok v)
