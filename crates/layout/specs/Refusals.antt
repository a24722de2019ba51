-- For each fault the number of its refusal and the two places that it tells.
use Rattle.std.specs.Prelude.{ℕ, Ok, Err, Result}
use Rattle.layout.specs.declared.fault.Place.{Place}
use Rattle.layout.specs.declared.fault.FieldFault.{FieldFault}
use Rattle.layout.specs.declared.fault.FieldFault.TheVariants.{NoDigit, LineFeed, Over, OutOfRange}
use Rattle.layout.specs.declared.fault.LineFault.{LineFault}
use Rattle.layout.specs.declared.fault.LineFault.TheVariants.{Field as InField, WrongKind, NoLineFeed, Unended}
use Rattle.layout.specs.declared.fault.ReadFault.{ReadFault}
use Rattle.layout.specs.declared.fault.ReadFault.TheVariants.{TooFewCells, Line as InLine, Extra}
use Rattle.layout.specs.declared.fault.OpenFault.{OpenFault}
use Rattle.layout.specs.declared.fault.OpenFault.TheVariants.{NotWellFormed}
use Rattle.layout.specs.declared.fault.Refusal.{Refusal}

-- a result with the refusal of its fault
abbrev pub told : {A F : Type 0} → (F → Refusal) → Result A F → Result A Refusal
told refusal (Ok a) = Ok a
told refusal (Err e) = Err (refusal e)

abbrev pub refused : ℕ → ℕ → ℕ → Refusal
refused number first second = record { number = number; first = first; second = second }

-- line and byte
abbrev pub refused_at : ℕ → Place → Refusal
refused_at number p = refused number p.line p.byte

abbrev pub field_refusal : FieldFault → Refusal
field_refusal (NoDigit p) = refused_at 0x11 p
field_refusal (LineFeed p) = refused_at 0x12 p
field_refusal (Over p) = refused_at 0x14 p
field_refusal (OutOfRange p) = refused_at 0x16 p

abbrev pub line_refusal : LineFault → Refusal
line_refusal (InField e) = field_refusal e
line_refusal (WrongKind p) = refused_at 0x15 p
line_refusal (NoLineFeed p) = refused_at 0x13 p
line_refusal (Unended p) = refused_at 0x14 p

abbrev pub read_refusal : ReadFault → Refusal
read_refusal (TooFewCells needed given) = refused 0x10 needed given
read_refusal (InLine e) = line_refusal e
read_refusal (Extra p) = refused_at 0x17 p

abbrev pub open_refusal : OpenFault → Refusal
open_refusal NotWellFormed = refused 0x39 0 0
