use Rattle.std.proofs.Common.{◌≡◌, suc, ◌+◌, ◌*◌, [], get_or, ◌+ℤ◌, ◌*ℤ◌}
use Rattle.dossier.specs.Rows.{sum_to, constant}
use Rattle.certificate.specs.Arrays.{row_of, Within}
use Rattle.certificate.proofs.rows.taken_column.Given as goal

-- the terms so far, each of at most 2^55
abbrev pub invariant-loop-v : goal.invariant-loop-v
invariant-loop-v l =
    (l.sum ≡ constant (row_of l.row) l.column +ℤ sum_to l.v (λ v. row_of l.row (suc v) *ℤ row_of (get_or l.updates v []) l.column))
    × Within (32768 + l.v * 36028797018963968) l.sum
