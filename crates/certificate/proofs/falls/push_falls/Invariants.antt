use Rattle.std.proofs.Common.{◌≡◌, ◌++◌}
use Rattle.dossier.specs.Kinds.{fall_row}
use Rattle.dossier.specs.Rows.{each}
use Rattle.certificate.specs.Arrays.{rows_of, held}
use Rattle.certificate.specs.Falls.{rows_from}
use Rattle.certificate.proofs.falls.push_falls.Given as goal

abbrev pub invariant-loop-index : goal.invariant-loop-index
invariant-loop-index g l = held l.table ≡ held l.initial.table ++ each l.index (λ i. fall_row (g.K.RankKind.kind.fall l.mode i) (rows_from (rows_of l.old.rows.now) l.old.at) (rows_from (held l.initial.table) l.new_at))
