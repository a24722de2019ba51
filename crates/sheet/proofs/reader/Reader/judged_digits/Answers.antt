use Rattle.std.proofs.Common.{◌+◌, ◌-◌, sym, ap, ◌∙◌, arith}
use Rattle.std.proofs.lemmas.Result.{err_from_is_err_and}
use Rattle.sheet.proofs.Bytes.{ahead_more, loop_more, loop_stop, shifted_small, seven_digits}
use Rattle.sheet.proofs.reader.Reader.judged_digits.Goals as goal

pub returns-in_err-digit-clause-read : goal.returns-in_err-digit-clause-read
returns-in_err-digit-clause-read c =
    let p = err_from_is_err_and c.from_residual.result c.from_residual.ensures.1 in
    let s = c.loop.self in
    let stop = loop_stop s.text.now s.place (c.args.count - c.loop.counter) (c.args.count - (c.loop.counter + 1)) c.loop.value (omega arith) c.in_err-digit.field-0.0 (sym c.in_err-digit.ensures.read) in
    rw (p.1, p.2) (sym (sym c.loop.invariant.left ∙ stop))

pub overflow_mul-value : goal.overflow_mul-value
overflow_mul-value c = record { fits = omega (arith, seven_digits c.loop.counter (omega arith), c.loop.invariant.small) }

pub overflow_add-value : goal.overflow_add-value
overflow_add-value c = record { fits = omega (arith, c.in_ok-digit.ensures.behind.0, seven_digits c.loop.counter (omega arith), c.loop.invariant.small) }

pub loop-preserved : goal.loop-preserved
loop-preserved c =
    let told = c.in_ok-digit.ensures in
    let s = c.loop.self in
    let more = loop_more s.text.now s.place (c.args.count - c.loop.counter) (c.args.count - (c.loop.counter + 1)) c.loop.value (omega arith) c.in_ok-digit.digit (sym told.read) c.digit.new.self.text.now c.digit.new.self.place (ap (λ t. t.now) told.same) told.behind.1 in
    record {
      same = told.same ∙ c.loop.invariant.same;
      small = shifted_small c.loop.counter c.loop.value c.in_ok-digit.digit c.loop.invariant.small told.behind.0;
      ahead = ahead_more c.args.self.now.place c.loop.counter 1 c.loop.invariant.ahead told.behind.1;
      left = sym more ∙ c.loop.invariant.left;
    }
