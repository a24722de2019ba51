use Rattle.std.proofs.Common.{◌≡◌, ◌-◌, replicate}
use Rattle.layout.specs.Walk as walking
use Rattle.sheet.specs.Store.{put}
use Rattle.sheet.proofs.walk.Fields.frames.Given as goal

-- what is left of the lines gives the answer
abbrev pub invariant-loop : goal.invariant-loop
invariant-loop g l = record {
  same : g.Self.Fields.supply l.self ≡ g.Self.Fields.supply l.initial.self;
  left : walking.frames (g.Self.Fields.supply l.initial.self) put (replicate (l.times - l.counter) l.frame) l.store (g.Self.Fields.place l.self)
      ≡ walking.frames (g.Self.Fields.supply l.initial.self) put (replicate l.times l.frame) l.initial.store (g.Self.Fields.place l.initial.self);
}
