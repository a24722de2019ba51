-- The worked cases, by computation.
use Rattle.std.proofs.Common.{refl}
use Rattle.dossier.specs.Admission.{admit_every_run}
use Rattle.dossier.specs.Cases.{WorkedCases}

pub worked : WorkedCases
unfolding admit_every_run
worked = ((refl, (refl, (refl, (refl, (refl, (refl, tt)))))), record { near = refl; far = refl })
