use Rattle.std.proofs.Common.{◌≡◌, true, length}
use Rattle.dossier.specs.Lines.{coefficients_agree}
use Rattle.certificate.specs.Arrays.{row_of, rows_of}
use Rattle.certificate.proofs.line.line_holds.Given as goal

abbrev pub invariant-loop-sum : goal.invariant-loop-sum
invariant-loop-sum l = coefficients_agree (length l.yielded) l.divisor l.multipliers (rows_of l.hypotheses) (row_of l.conclusion) ≡ true
