use Rattle.std.proofs.Common.{◌≡◌, suc, ◌+◌, ◌-◌, sym, ap, ◌∙◌, arith}
use Rattle.layout.specs.Layout.{group_pass, group_lines}
use Rattle.sheet.specs.Store.{put}
use Rattle.sheet.proofs.Walking.{stops, lines_more, lines_stop}
use Rattle.sheet.proofs.walk.Fields.group.Goals as goal

pub returns-in_err-pass-clause-walked : goal.returns-in_err-pass-clause-walked
returns-in_err-pass-clause-walked g c =
    let o = c.args.group.now in
    let w = c.loop in
    let left : o.times - c.loop.counter ≡ suc (o.times - (c.loop.counter + 1)) = omega arith in
    let stop = lines_stop (g.Self.Fields.supply c.args.self.now) put c.loop.invariant.same (group_pass o) (group_lines o (o.times - (c.loop.counter + 1))) (ap (group_lines o) left) w.store (g.Self.Fields.place w.self) c.in_err-pass.ensures.walked in
    stops _ c.from_residual.result c.from_residual.ensures.1 (sym c.loop.invariant.left ∙ stop)

pub loop-preserved : goal.loop-preserved
loop-preserved g c =
    let told = c.in_ok-pass.ensures in
    let o = c.args.group.now in
    let w = c.loop in
    let left : o.times - c.loop.counter ≡ suc (o.times - (c.loop.counter + 1)) = omega arith in
    let more = lines_more (g.Self.Fields.supply c.args.self.now) put c.loop.invariant.same (group_pass o) (group_lines o (o.times - (c.loop.counter + 1))) (ap (group_lines o) left) w.store (g.Self.Fields.place w.self) told.walked in
    record { same = told.same ∙ c.loop.invariant.same; left = sym more ∙ c.loop.invariant.left }
