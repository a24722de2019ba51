use Rattle.std.proofs.Common.{rules}
use Rattle.sheet.proofs.Nibbles.{table_at}
use Rattle.sheet.proofs.reading.nibble.Goals as goal

pub returns : goal.returns
returns c = table_at c.args.b (search rules)
