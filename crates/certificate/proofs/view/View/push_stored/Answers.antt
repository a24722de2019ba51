use Rattle.std.proofs.Common.{◌+◌, ◌*◌, ap, ◌∙◌, arith}
use Rattle.dossier.specs.Dossier as parts
use Rattle.certificate.specs.Arrays.{held}
use Rattle.certificate.specs.Stored.{stored_row}
use Rattle.certificate.proofs.Eaches.{pushed, filled_length}
use Rattle.certificate.proofs.Tables.{held_length, held_push}
use Rattle.certificate.proofs.view.View.push_stored.Goals as goal

pub push-requires : goal.push-requires
push-requires g c =
    let cells = g.S.Source.cells c.args.self.now.source.now in
    omega (arith, held_length c.loop-i.table, filled_length (held c.args.table.now) (held c.loop-i.table) c.loop-i.i (stored_row cells c.args.at) c.loop-i.invariant)

pub loop-i-preserved : goal.loop-i-preserved
loop-i-preserved g c =
    let cells = g.S.Source.cells c.args.self.now.source.now in
    pushed (held c.args.table.now) (held c.loop-i.table) c.loop-i.i (stored_row cells c.args.at) c.loop-i.invariant
    _ _ (held_push _ _ _ c.push.ensures.items) (c.row_at.ensures ∙ ap (λ w. parts.row_at cells (c.args.at + c.loop-i.i * w)) c.row_width-width.ensures.value)
