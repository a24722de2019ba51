-- The table of worked cases, by computation.
use Rattle.std.proofs.Common.{refl}
use Rattle.layout.specs.Cells.{cells_due}
use Rattle.layout.specs.Layout.{lines_due}
use Rattle.layout.specs.Reading.{read_text}
use Rattle.dossier.specs.Admission.{admit_every_run}
use Rattle.dossier.specs.CaseTable.{WorkedTable}

pub worked_table : WorkedTable
unfolding read_text lines_due cells_due admit_every_run
worked_table = (refl, (refl, (refl, (refl, (refl, (refl, (refl, (refl, (refl, (refl, (refl, (refl, (refl, (refl, (refl, (refl, (refl, tt)))))))))))))))))
