use Rattle.std.proofs.Common.{◌≡◌, ◌++◌}
use Rattle.dossier.specs.Rows.{each, zero_row}
use Rattle.certificate.specs.Arrays.{held}
use Rattle.certificate.proofs.falls.push_zeros.Given as goal

abbrev pub invariant-loop : goal.invariant-loop
invariant-loop l = held l.table ≡ held l.initial.table ++ each l.counter (λ _. zero_row)
