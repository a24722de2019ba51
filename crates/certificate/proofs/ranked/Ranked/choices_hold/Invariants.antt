use Rattle.std.proofs.Common.{◌≡◌, Ok}
use Rattle.layout.specs.Layout.{point_rows}
use Rattle.dossier.specs.declared.fault.AdmitFault.TheVariants.{PointLine}
use Rattle.dossier.specs.Admission as admission
use Rattle.dossier.specs.Dossier as parts
use Rattle.certificate.proofs.Failures.{LeftJoined}
use Rattle.certificate.proofs.Numbered.{LinesLeft}
use Rattle.certificate.proofs.ranked.Ranked.choices_hold.Given as goal

-- what is left of the points gives the answer
abbrev pub invariant-search : goal.invariant-search
invariant-search g l = (l.judged ≡ Ok tt) × LeftJoined (parts.points (parts.head (g.S.Source.cells l.self.view.source.now))) (admission.choice_trials (g.S.Source.cells l.self.view.source.now) g.K.RankKind.kind) l.point

-- what is left of a point's lines gives the answer
abbrev pub invariant-loop-line : goal.invariant-loop-line
invariant-loop-line g l =
    (l.judged ≡ Ok tt)
    × LinesLeft (g.S.Source.cells l.self.view.source.now) (parts.point_line_at (parts.head (g.S.Source.cells l.self.view.source.now)) l.point) (point_rows (parts.head (g.S.Source.cells l.self.view.source.now)))
    (admission.point_hypotheses (g.S.Source.cells l.self.view.source.now) l.point)
    (PointLine l.point) (admission.point_claims (g.S.Source.cells l.self.view.source.now) g.K.RankKind.kind l.point) l.line
