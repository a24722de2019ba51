use Rattle.std.proofs.Common.{◌≡◌, length}
use Rattle.dossier.specs.Rows as rows
use Rattle.certificate.specs.Arrays.{row_of}
use Rattle.certificate.proofs.Fill.{Filled}
use Rattle.certificate.proofs.rows.difference.Given as goal

abbrev pub invariant-loop-j : goal.invariant-loop-j
invariant-loop-j l = (length l.number-items ≡ 7) × Filled l.number-items l.j (rows.difference (row_of l.old) (row_of l.new))
