use Rattle.std.proofs.Common.{sym}
use Rattle.sheet.proofs.Bytes.{fast_digits}
use Rattle.sheet.proofs.reader.Reader.digits.Goals as goal

pub returns-in-Some-clause-read : goal.returns-in-Some-clause-read
returns-in-Some-clause-read c =
    let s = c.args.self.now in
    sym (fast_digits s.text.now s.place c.args.count c.in-Some.value s.inside c.if-size-self.true c.in-Some.ensures)
