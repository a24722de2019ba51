-- What the tests answer.
use Rattle.std.specs.Prelude.{ℕ, List, Some, None, Ok, Err, Option, Result}
use Rattle.dossier.specs.declared.fault.AdmitFault.{AdmitFault}
use Rattle.dossier.specs.declared.fault.AdmitFault.TheVariants.{MoveLine}
use Rattle.dossier.specs.Admission.{Trial, first_failure}

abbrev pub outcome : Option AdmitFault → Result (Unit {0}) AdmitFault
outcome None = Ok tt
outcome (Some fault) = Err fault

-- tests one after the other, up to the first that fails
abbrev pub passed : List Trial → Result (Unit {0}) AdmitFault
passed trials = outcome (first_failure trials)

-- the fault of a move's line that is found to fail
abbrev pub move_fault : Option (ℕ × ℕ) → Option AdmitFault
move_fault None = None
move_fault (Some x) = Some (MoveLine x.0 x.1)
