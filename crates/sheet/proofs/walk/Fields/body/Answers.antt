use Rattle.std.proofs.Common.{◌≡◌, [], length, drop, sym, refl, ap, ◌∙◌, arith}
use Rattle.std.proofs.lemmas.List.{drop_more, drop_all}
use Rattle.layout.specs.Heads.{counts_of}
use Rattle.layout.specs.Layout.{lines_due}
use Rattle.layout.specs.Walk as walking
use Rattle.sheet.specs.Store.{put}
use Rattle.sheet.proofs.Walking.{stops, lines_more, lines_stop, all_lines, due_lines}
use Rattle.sheet.proofs.Lent.{frames_keep}
use Rattle.sheet.proofs.walk.Fields.body.Goals as goal

pub returns-in_err-group-clause-walked : goal.returns-in_err-group-clause-walked
returns-in_err-group-clause-walked g c =
    let eight : length c.groups-group-items.result ≡ 8 = ap length c.groups-group-items.ensures in
    let w = c.args in
    let v = c.loop-group in
    let split = ap all_lines (drop_more c.groups-group-items.result c.loop-group.group-index _ (omega arith)) in
    let stop = lines_stop (g.Self.Fields.supply w.self.now) put c.loop-group.invariant.same _ _ split v.store (g.Self.Fields.place v.self) c.in_err-group.ensures.walked in
    let due = ap (λ l. walking.frames (g.Self.Fields.supply w.self.now) put l w.store.now (g.Self.Fields.place w.self.now)) (due_lines (counts_of c.args.head.now) c.groups-group-items.result c.groups-group-items.ensures) in
    stops _ c.from_residual.result c.from_residual.ensures.1 (due ∙ sym c.loop-group.invariant.left ∙ stop)

pub loop-group-preserved : goal.loop-group-preserved
loop-group-preserved g c =
    let told = c.in_ok-group.ensures in
    let eight : length c.groups-group-items.result ≡ 8 = ap length c.groups-group-items.ensures in
    let v = c.loop-group in
    let split = ap all_lines (drop_more c.groups-group-items.result c.loop-group.group-index _ (omega arith)) in
    let more = lines_more (g.Self.Fields.supply c.args.self.now) put c.loop-group.invariant.same _ _ split v.store (g.Self.Fields.place v.self) told.walked in
    record { same = told.same ∙ c.loop-group.invariant.same; left = sym more ∙ c.loop-group.invariant.left }

pub returns : goal.returns
returns g c =
    let eight : length c.groups-group-items.result ≡ 8 = ap length c.groups-group-items.ensures in
    let w = c.args in
    let v = c.loop-group in
    let done : drop c.loop-group.group-index c.groups-group-items.result ≡ [] = drop_all c.loop-group.group-index c.groups-group-items.result (omega arith) in
    let due = ap (λ l. walking.frames (g.Self.Fields.supply w.self.now) put l w.store.now (g.Self.Fields.place w.self.now)) (due_lines (counts_of c.args.head.now) c.groups-group-items.result c.groups-group-items.ensures) in
    let walked = due ∙ sym c.loop-group.invariant.left ∙ ap (λ gs. walking.frames (g.Self.Fields.supply w.self.now) put (all_lines gs) v.store (g.Self.Fields.place v.self)) done in
    record {
      same = c.loop-group.invariant.same;
      walked = walked;
      lent = frames_keep (g.Self.Fields.supply w.self.now) put (λ s. s.cells.ghost_name) (λ s v. refl) (lines_due (counts_of c.args.head.now)) w.store.now (g.Self.Fields.place w.self.now) walked;
    }
