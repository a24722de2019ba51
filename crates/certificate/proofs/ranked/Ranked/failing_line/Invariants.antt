use Rattle.std.proofs.Common.{◌≡◌, None}
use Rattle.dossier.specs.declared.fault.AdmitFault.TheVariants.{MoveLine}
use Rattle.dossier.specs.Admission as admission
use Rattle.dossier.specs.Dossier as parts
use Rattle.certificate.proofs.Failures.{LeftJoined}
use Rattle.certificate.proofs.Numbered.{LinesLeft}
use Rattle.certificate.proofs.ranked.Ranked.failing_line.Given as goal

-- what is left of the moves gives the answer
abbrev pub invariant-search : goal.invariant-search
invariant-search g l = (l.failing ≡ None) × LeftJoined (admission.moves (g.S.Source.cells l.self.view.source.now)) (admission.trials_of_move (g.S.Source.cells l.self.view.source.now) g.K.RankKind.kind) l.index

-- what is left of a move's lines gives the answer
abbrev pub invariant-loop-line : goal.invariant-loop-line
invariant-loop-line g l =
    (l.failing ≡ None)
    × LinesLeft (g.S.Source.cells l.self.view.source.now) (parts.move_line_at (parts.head (g.S.Source.cells l.self.view.source.now)) l.index) (parts.move_hypotheses (parts.head (g.S.Source.cells l.self.view.source.now)))
    (admission.move_hypotheses_of (g.S.Source.cells l.self.view.source.now) (admission.move_step (g.S.Source.cells l.self.view.source.now) l.index) (admission.move_edge (g.S.Source.cells l.self.view.source.now) l.index))
    (MoveLine l.index) (admission.move_claims (g.S.Source.cells l.self.view.source.now) g.K.RankKind.kind l.index) l.line
