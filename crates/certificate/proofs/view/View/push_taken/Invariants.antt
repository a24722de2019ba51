use Rattle.std.proofs.Common.{◌≡◌, ◌++◌}
use Rattle.dossier.specs.Dossier as parts
use Rattle.certificate.specs.Arrays.{held}
use Rattle.certificate.specs.Stored.{stored_taken}
use Rattle.certificate.proofs.view.View.push_taken.Given as goal

abbrev pub invariant-loop-i : goal.invariant-loop-i
invariant-loop-i g l = held l.table ≡ held l.initial.table ++ stored_taken (g.S.Source.cells l.self.source.now) l.step (parts.point_at (parts.head (g.S.Source.cells l.self.source.now)) l.point) l.i
