use Rattle.std.proofs.Common.{◌++◌, length, ap, ◌∙◌, arith}
use Rattle.dossier.specs.Admission as admission
use Rattle.certificate.proofs.Tables.{held_new}
use Rattle.certificate.proofs.view.View.point_hypotheses.Goals as goal

pub push_point-requires-clause-room : goal.push_point-requires-clause-room
push_point-requires-clause-room g c = omega (arith, ap length (held_new _ c.clear.ensures))

pub returns : goal.returns
returns g c = c.push_point.ensures ∙ ap (λ rows. rows ++ admission.point_hypotheses (g.S.Source.cells c.args.self.now.source.now) c.args.point) (held_new _ c.clear.ensures)
