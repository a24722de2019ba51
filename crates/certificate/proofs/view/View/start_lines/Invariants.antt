use Rattle.dossier.specs.Admission as admission
use Rattle.dossier.specs.Dossier as parts
use Rattle.dossier.specs.declared.fault.AdmitFault.TheVariants.{StartLine}
use Rattle.certificate.proofs.Numbered.{LinesLeft}
use Rattle.certificate.proofs.view.View.start_lines.Given as goal

-- what is left of the lines gives the answer
abbrev pub invariant-loop-line : goal.invariant-loop-line
invariant-loop-line g l =
    LinesLeft (g.S.Source.cells l.self.source.now) (parts.start_line_at (parts.head (g.S.Source.cells l.self.source.now))) (parts.head (g.S.Source.cells l.self.source.now)).start_rows (admission.start_hypotheses (g.S.Source.cells l.self.source.now)) StartLine (admission.start_conclusions (g.S.Source.cells l.self.source.now)) l.line
