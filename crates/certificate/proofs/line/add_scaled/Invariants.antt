use Rattle.std.proofs.Common.{◌≡◌, ℕ, ◌<◌, ◌≤◌, length, get_or, pos, ◌+ℤ◌, ◌*ℤ◌}
use Rattle.certificate.proofs.line.add_scaled.Given as goal

-- the columns below j have their product, and the others stand as they were
abbrev pub invariant-loop-j : goal.invariant-loop-j
invariant-loop-j l = record {
  long : length l.sum-items ≡ l.width;
  added : (k : ℕ) → k < l.j → get_or l.sum-items k (pos 0) ≡ get_or l.initial.sum-items k (pos 0) +ℤ (l.multiplier *ℤ get_or l.row k (pos 0));
  left : (k : ℕ) → l.j ≤ k → get_or l.sum-items k (pos 0) ≡ get_or l.initial.sum-items k (pos 0);
}
