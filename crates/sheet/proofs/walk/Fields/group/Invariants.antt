use Rattle.std.proofs.Common.{◌≡◌, ◌-◌}
use Rattle.layout.specs.Layout.{group_lines}
use Rattle.layout.specs.Walk as walking
use Rattle.sheet.specs.Store.{put}
use Rattle.sheet.proofs.walk.Fields.group.Given as goal

-- what is left of the group gives the answer
abbrev pub invariant-loop : goal.invariant-loop
invariant-loop g l = record {
  same : g.Self.Fields.supply l.self ≡ g.Self.Fields.supply l.initial.self;
  left : walking.frames (g.Self.Fields.supply l.initial.self) put (group_lines l.group (l.group.times - l.counter)) l.store (g.Self.Fields.place l.self)
      ≡ walking.frames (g.Self.Fields.supply l.initial.self) put (group_lines l.group l.group.times) l.initial.store (g.Self.Fields.place l.initial.self);
}
