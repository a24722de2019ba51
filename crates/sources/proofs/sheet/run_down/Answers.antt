use Rattle.layout.proofs.Worked.{run_down_formed}
use Rattle.sources.proofs.sheet.run_down.Goals as goal

pub invariant_of-result : goal.invariant_of-result
invariant_of-result c = record { formed = run_down_formed }
