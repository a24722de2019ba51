use Rattle.std.proofs.Common.{◌≡◌, ◌++◌}
use Rattle.certificate.specs.Arrays.{held}
use Rattle.certificate.specs.Stored.{stored}
use Rattle.certificate.proofs.view.View.push_stored.Given as goal

abbrev pub invariant-loop-i : goal.invariant-loop-i
invariant-loop-i g l = held l.table ≡ held l.initial.table ++ stored (g.S.Source.cells l.self.source.now) l.at l.i
