use Rattle.std.proofs.Common.{◌≡◌, suc, ◌+◌, ◌-◌, [], ◌∷◌, replicate, sym, ap, ◌∙◌, arith}
use Rattle.sheet.specs.Store.{put}
use Rattle.sheet.proofs.Walking.{stops, one_line, lines_more, lines_stop}
use Rattle.sheet.proofs.walk.Fields.frames.Goals as goal

pub returns-in_err-frame-clause-walked : goal.returns-in_err-frame-clause-walked
returns-in_err-frame-clause-walked g c =
    let f = c.args.frame.now in
    let w = c.loop in
    let left : c.args.times - c.loop.counter ≡ suc (c.args.times - (c.loop.counter + 1)) = omega arith in
    let one = one_line (g.Self.Fields.supply w.self) put f w.store (g.Self.Fields.place w.self) c.in_err-frame.ensures.walked in
    let stop = lines_stop (g.Self.Fields.supply c.args.self.now) put c.loop.invariant.same (f ∷ []) (replicate (c.args.times - (c.loop.counter + 1)) f) (ap (λ n. replicate n f) left) w.store (g.Self.Fields.place w.self) one in
    stops _ c.from_residual.result c.from_residual.ensures.1 (sym c.loop.invariant.left ∙ stop)

pub loop-preserved : goal.loop-preserved
loop-preserved g c =
    let told = c.in_ok-frame.ensures in
    let f = c.args.frame.now in
    let w = c.loop in
    let left : c.args.times - c.loop.counter ≡ suc (c.args.times - (c.loop.counter + 1)) = omega arith in
    let one = one_line (g.Self.Fields.supply w.self) put f w.store (g.Self.Fields.place w.self) told.walked in
    let more = lines_more (g.Self.Fields.supply c.args.self.now) put c.loop.invariant.same (f ∷ []) (replicate (c.args.times - (c.loop.counter + 1)) f) (ap (λ n. replicate n f) left) w.store (g.Self.Fields.place w.self) one in
    record { same = told.same ∙ c.loop.invariant.same; left = sym more ∙ c.loop.invariant.left }
