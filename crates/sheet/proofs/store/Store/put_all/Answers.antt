use Rattle.std.proofs.Common.{sym, arith}
use Rattle.sheet.proofs.Runs.{puts_past}
use Rattle.sheet.proofs.store.Store.put_all.Goals as goal

pub returns-else-self : goal.returns-else-self
returns-else-self c = sym (puts_past c.args.self.now c.args.values.now (omega arith))
