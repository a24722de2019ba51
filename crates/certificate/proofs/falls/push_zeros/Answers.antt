use Rattle.std.proofs.Common.{arith}
use Rattle.dossier.specs.Rows.{zero_row}
use Rattle.certificate.specs.Arrays.{held}
use Rattle.certificate.proofs.Eaches.{pushed, filled_length}
use Rattle.certificate.proofs.Tables.{held_length, held_push}
use Rattle.certificate.proofs.falls.push_zeros.Goals as goal

pub push-requires : goal.push-requires
push-requires c = omega (arith, c.requires, held_length c.loop.table, filled_length (held c.args.table.now) (held c.loop.table) c.loop.counter (λ _. zero_row) c.loop.invariant)

pub loop-preserved : goal.loop-preserved
loop-preserved c = pushed (held c.args.table.now) (held c.loop.table) c.loop.counter (λ _. zero_row) c.loop.invariant _ _ (held_push _ _ _ c.push.ensures.items) c.zero_row.ensures
