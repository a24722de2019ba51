use Rattle.std.proofs.Common.{◌≡◌, drop}
use Rattle.sheet.specs.Store.{puts}
use Rattle.sheet.proofs.store.Store.put_all.Given as goal

-- what is left goes where all of it would
abbrev pub invariant-loop-value : goal.invariant-loop-value
invariant-loop-value l = puts l.self (drop l.value-index l.values) ≡ puts l.initial.self l.values
