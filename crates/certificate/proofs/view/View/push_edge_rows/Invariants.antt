use Rattle.std.proofs.Common.{◌≡◌, ◌++◌}
use Rattle.dossier.specs.Admission as admission
use Rattle.dossier.specs.Rows.{each}
use Rattle.certificate.specs.Arrays.{held}
use Rattle.certificate.proofs.view.View.push_edge_rows.Given as goal

abbrev pub invariant-loop-index : goal.invariant-loop-index
invariant-loop-index g l = held l.table ≡ held l.initial.table ++ each l.index (admission.edge_row (g.S.Source.cells l.self.source.now) l.edge l.place)
