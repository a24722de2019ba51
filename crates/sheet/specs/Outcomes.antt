-- What the public calls answer and leave behind.
use Rattle.std.specs.Prelude.{◌≡◌, ℕ, Bool, true, false, List, ◌++◌, length, drop, ℤ, Ok, Err, Result}
use Rattle.std.specs.Borrow.{Bor}
use Rattle.layout.specs.declared.fault.OpenFault.{OpenFault}
use Rattle.layout.specs.declared.fault.OpenFault.TheVariants.{NotWellFormed}
use Rattle.layout.specs.declared.fault.ReadFault.{ReadFault}
use Rattle.layout.specs.Refusals.{refused, told, read_refusal, open_refusal}
use Rattle.sources.specs.declared.sheet.Sheet.{Sheet}

-- reading: the count of the list, whose cells stand at the front; the others stand unchanged, and after a fault all do
abbrev pub Read : Result (List ℤ) ReadFault → Result ℕ ReadFault → List ℤ → List ℤ → Type 0
Read (Ok list) r before after = (r ≡ Ok (length list)) × (after ≡ list ++ drop (length list) before)
Read (Err e) r before after = (r ≡ Err e) × (told read_refusal r ≡ Err (read_refusal e)) × (after ≡ before)

-- the check of a list
abbrev pub verdict : Bool → Result (Unit {0}) OpenFault
verdict true = Ok tt
verdict false = Err NotWellFormed

-- opening: the sheet stands over just these cells; after a fault it stands as it was
abbrev pub Opened : Bool → Result (Unit {0}) OpenFault → Bor (List ℤ) → Sheet → Sheet → Type 0
Opened true r list before after = (r ≡ Ok tt) × (after.list ≡ list)
Opened false r list before after = (r ≡ Err NotWellFormed) × (told open_refusal r ≡ Err (refused 0x39 0 0)) × (after ≡ before)
