use Rattle.std.proofs.Common.{◌+◌, ◌-◌, sym, ap, ◌∙◌, arith, w32, rules}
use Rattle.std.proofs.lemmas.Int.{to_z-of_z}
use Rattle.sheet.specs.Store.{put}
use Rattle.sheet.proofs.Walking.{stops, run_more, run_stop}
use Rattle.sheet.proofs.walk.Fields.run.Goals as goal

pub returns-in_err-value-clause-walked : goal.returns-in_err-value-clause-walked
returns-in_err-value-clause-walked g c =
    let stop = run_stop (g.Self.Fields.supply c.args.self.now) put c.loop.invariant.same c.args.digits c.args.range (c.args.count - c.loop.counter) (c.args.count - (c.loop.counter + 1)) c.loop.store (g.Self.Fields.place c.loop.self) (omega arith) c.in_err-value.ensures.found in
    stops _ c.from_residual.result c.from_residual.ensures.1 (sym c.loop.invariant.left ∙ stop)

pub loop-preserved : goal.loop-preserved
loop-preserved g c =
    let told = c.in_ok-value.ensures in
    let more = run_more (g.Self.Fields.supply c.args.self.now) put c.loop.invariant.same c.args.digits c.args.range (c.args.count - c.loop.counter) (c.args.count - (c.loop.counter + 1)) c.loop.store c.put.new.self (g.Self.Fields.place c.loop.self) (omega arith) told.found (c.put.ensures ∙ ap (put c.loop.store) (to_z-of_z w32 c.in_ok-value.value (search rules))) in
    record { same = told.same ∙ c.loop.invariant.same; left = sym more ∙ c.loop.invariant.left }
