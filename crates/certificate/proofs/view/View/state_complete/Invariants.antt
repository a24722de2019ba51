use Rattle.std.proofs.Common.{◌^◌}
use Rattle.dossier.specs.Dossier as parts
use Rattle.certificate.proofs.Edges.{letter_trial}
use Rattle.certificate.proofs.Failures.{Left}
use Rattle.certificate.proofs.view.View.state_complete.Given as goal

-- what is left of the letters gives the answer
abbrev pub invariant-loop-letter : goal.invariant-loop-letter
invariant-loop-letter g l = Left (2 ^ (parts.head (g.S.Source.cells l.self.source.now)).propositions) (letter_trial (g.S.Source.cells l.self.source.now) l.state) l.letter
