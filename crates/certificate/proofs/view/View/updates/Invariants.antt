use Rattle.std.proofs.Common.{◌≡◌}
use Rattle.dossier.specs.Dossier as parts
use Rattle.dossier.specs.Rows.{each}
use Rattle.certificate.specs.Arrays.{rows_of}
use Rattle.certificate.proofs.view.View.updates.Given as goal

abbrev pub invariant-loop-variable : goal.invariant-loop-variable
invariant-loop-variable g l = rows_of l.rows.items ≡ each l.variable (parts.update (g.S.Source.cells l.self.source.now) l.step)
