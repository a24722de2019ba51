-- The cells of a dossier, built in or held.
use Rattle.std.specs.Prelude.{◌≡◌, true, List, ℤ, vec_items}
use Rattle.layout.specs.Cases.{run_down_cells}
use Rattle.layout.specs.Cells.{well_formed}
use Rattle.layout.proofs.Worked.{run_down_formed}
use Rattle.unit.specs.declared.present.Dossier.{Dossier}
use Rattle.unit.specs.declared.present.Dossier.TheVariants.{BuiltIn, Held}

abbrev pub dossier_cells : Dossier → List ℤ
dossier_cells BuiltIn = run_down_cells
dossier_cells (Held held) = vec_items held.cells

pub dossier_formed : (d : Dossier) → well_formed (dossier_cells d) ≡ true
dossier_formed BuiltIn = run_down_formed
dossier_formed (Held held) = held.formed
