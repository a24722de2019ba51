use Rattle.std.proofs.Common.{replicate, sym, refl, ap, ◌∙◌}
use Rattle.layout.specs.Walk as walking
use Rattle.sheet.specs.Store.{put}
use Rattle.sheet.proofs.Walking.{stops, lines_more, lines_stop, answers_from}
use Rattle.sheet.proofs.walk.Fields.pass.Goals as goal

pub returns-in_err-frames-clause-walked : goal.returns-in_err-frames-clause-walked
returns-in_err-frames-clause-walked g c =
    let o = c.args.group.now in
    let w = c.args in
    stops _ c.from_residual.result c.from_residual.ensures.1 (lines_stop (g.Self.Fields.supply w.self.now) put refl (replicate o.firsts o.first) (replicate o.seconds o.second) refl w.store.now (g.Self.Fields.place w.self.now) c.in_err-frames.ensures.walked)

pub returns-clause-walked : goal.returns-clause-walked
returns-clause-walked g c =
    let told = c.in_ok-frames.ensures in
    let o = c.args.group.now in
    let w = c.args in
    let v = c.frames.new in
    let more = lines_more (g.Self.Fields.supply w.self.now) put refl (replicate o.firsts o.first) (replicate o.seconds o.second) refl w.store.now (g.Self.Fields.place w.self.now) told.walked in
    let again = ap (λ u. walking.frames u put (replicate o.seconds o.second) v.store (g.Self.Fields.place v.self)) (sym told.same) in
    answers_from _ c.frames-2.result (more ∙ again) c.frames-2.ensures.walked
