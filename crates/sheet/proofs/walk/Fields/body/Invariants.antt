use Rattle.std.proofs.Common.{◌≡◌, drop}
use Rattle.layout.specs.Walk as walking
use Rattle.sheet.specs.Store.{put}
use Rattle.sheet.proofs.Walking.{all_lines}
use Rattle.sheet.proofs.walk.Fields.body.Given as goal

-- what is left of the groups gives the answer
abbrev pub invariant-loop-group : goal.invariant-loop-group
invariant-loop-group g l = record {
  same : g.Self.Fields.supply l.self ≡ g.Self.Fields.supply l.initial.self;
  left : walking.frames (g.Self.Fields.supply l.initial.self) put (all_lines (drop l.group-index l.group-items)) l.store (g.Self.Fields.place l.self)
      ≡ walking.frames (g.Self.Fields.supply l.initial.self) put (all_lines l.group-items) l.initial.store (g.Self.Fields.place l.initial.self);
}
