use Rattle.std.proofs.Common.{◌≡◌, [], length, get_or}
use Rattle.dossier.specs.Rows as rows
use Rattle.certificate.specs.Arrays.{row_of}
use Rattle.certificate.proofs.Fill.{Filled}
use Rattle.certificate.proofs.rows.taken.Given as goal

abbrev pub invariant-loop-j : goal.invariant-loop-j
invariant-loop-j l = (length l.number-items ≡ 7) × Filled l.number-items l.j (rows.taken (length l.updates) (row_of l.row) (λ v. row_of (get_or l.updates v [])))
