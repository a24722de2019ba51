-- The worked cases, by computation.
use Rattle.std.proofs.Common.{◌≡◌, true, refl}
use Rattle.layout.specs.Layout.{lines_due}
use Rattle.layout.specs.Cells.{well_formed, cells_due}
use Rattle.layout.specs.Text.{sheet_text}
use Rattle.layout.specs.Reading.{read_text}
use Rattle.layout.specs.Cases.{run_down_cells, WorkedCases}

pub worked : WorkedCases
unfolding read_text well_formed sheet_text lines_due cells_due
worked = ((refl, (refl, tt)), refl, refl, refl)

pub run_down_formed : well_formed run_down_cells ≡ true
run_down_formed = worked.1
