-- What admission answers: the count of proof lines with the admitted dossier, or the dossier as it was with the first failing test.
use Rattle.std.specs.Prelude.{ℕ, Some, None, Ok, Err, Option, Result}
use Rattle.layout.specs.declared.fault.Refusal.{Refusal}
use Rattle.dossier.specs.declared.fault.AdmitFault.{AdmitFault}
use Rattle.dossier.specs.Refusals.{admit_refusal}
use Rattle.certificate.specs.declared.admitted.Admitted.{Admitted}
use Rattle.certificate.specs.declared.admitted.Refused.{Refused}

module _ {S K F : Type 0} where
  -- the count with the admitted dossier, or the fault with the dossier as it was
  abbrev pub answered : Result ℕ AdmitFault → S → K → F → Result (ℕ × Admitted S K F) (Refused S K)
  answered (Ok lines) source kind form = Ok (lines, record { source = source; kind = kind; form = form })
  answered (Err fault) source kind form = Err (record { fault = fault; source = source; kind = kind })

  -- number and places of the refusal, if it is one
  abbrev pub refusal_of : Result (ℕ × Admitted S K F) (Refused S K) → Option Refusal
  refusal_of (Ok x) = None
  refusal_of (Err r) = Some (admit_refusal r.fault)

abbrev pub refusal_due : Result ℕ AdmitFault → Option Refusal
refusal_due (Ok lines) = None
refusal_due (Err fault) = Some (admit_refusal fault)
