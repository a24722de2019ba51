-- For each fault of admission the number of its refusal and the two places that it tells.
use Rattle.layout.specs.declared.fault.Refusal.{Refusal}
use Rattle.layout.specs.Refusals.{refused}
use Rattle.dossier.specs.declared.fault.AdmitFault.{AdmitFault}
use Rattle.dossier.specs.declared.fault.AdmitFault.TheVariants.{Other, NoEdge, StartLine, MoveLine, Shown, StepElsewhere, EdgeElsewhere, PointLine}

abbrev pub admit_refusal : AdmitFault → Refusal
admit_refusal (Other form numbers) = refused 0x20 form numbers
admit_refusal (NoEdge state letter) = refused 0x21 state letter
admit_refusal (StartLine line) = refused 0x22 0 line
admit_refusal (MoveLine move line) = refused 0x23 move line
admit_refusal (Shown row) = refused 0x24 0 row
admit_refusal (StepElsewhere p) = refused 0x25 p 0
admit_refusal (EdgeElsewhere p) = refused 0x25 p 1
admit_refusal (PointLine p line) = refused 0x26 p line
