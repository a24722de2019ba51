use Rattle.dossier.specs.Admission as admission
use Rattle.dossier.specs.Rows.{zero_row}
use Rattle.dossier.proofs.InOrder.{row_trial}
use Rattle.certificate.proofs.Numbered.{Left}
use Rattle.certificate.proofs.view.View.shown_hold.Given as goal

-- what is left of the rows gives the answer
abbrev pub invariant-loop-row : goal.invariant-loop-row
invariant-loop-row g l = Left (row_trial (g.S.Source.cells l.self.source.now)) zero_row (admission.shown_rows (g.S.Source.cells l.self.source.now)) l.row
