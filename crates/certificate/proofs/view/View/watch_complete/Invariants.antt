use Rattle.dossier.specs.Dossier as parts
use Rattle.dossier.specs.Admission as admission
use Rattle.certificate.proofs.Failures.{LeftJoined}
use Rattle.certificate.proofs.view.View.watch_complete.Given as goal

-- what is left of the states gives the answer
abbrev pub invariant-loop-state : goal.invariant-loop-state
invariant-loop-state g l = LeftJoined (parts.head (g.S.Source.cells l.self.source.now)).states (admission.state_trials (g.S.Source.cells l.self.source.now)) l.state
