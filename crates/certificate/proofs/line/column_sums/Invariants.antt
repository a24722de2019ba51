use Rattle.std.proofs.Common.{◌≡◌, ℕ, ◌-◌, ◌*◌, ◌<◌, length, get_or, pos, ◌+ℤ◌}
use Rattle.dossier.specs.Lines.{sums}
use Rattle.certificate.specs.Arrays.{rows_of, Within, Multiplied}
use Rattle.certificate.proofs.line.column_sums.Given as goal

-- what is left makes up the sums, and each product adds at most 2^55
abbrev pub invariant-loop-multiplier : goal.invariant-loop-multiplier
invariant-loop-multiplier l = record {
  whole : (j : ℕ) → j < l.width → get_or l.sums j (pos 0) +ℤ sums l.multiplier-iterator.a.rest.now (rows_of l.multiplier-iterator.b.rest.now) j ≡ sums l.multipliers (rows_of l.hypotheses) j;
  left : Multiplied l.multiplier-iterator.a.rest.now l.multiplier-iterator.b.rest.now;
  within : (j : ℕ) → j < l.width → Within ((18 - length l.multiplier-iterator.a.rest.now) * 36028797018963968) (get_or l.sums j (pos 0));
}
