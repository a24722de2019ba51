use Rattle.std.proofs.Common.{◌≡◌, ◌-◌}
use Rattle.layout.specs.Walk as walking
use Rattle.sheet.specs.Store.{put}
use Rattle.sheet.proofs.walk.Fields.run.Given as goal

-- what is left of the run gives its answer
abbrev pub invariant-loop : goal.invariant-loop
invariant-loop g l = record {
  same : g.Self.Fields.supply l.self ≡ g.Self.Fields.supply l.initial.self;
  left : walking.run (g.Self.Fields.supply l.initial.self) put l.digits l.range (l.count - l.counter) l.store (g.Self.Fields.place l.self)
      ≡ walking.run (g.Self.Fields.supply l.initial.self) put l.digits l.range l.count l.initial.store (g.Self.Fields.place l.initial.self);
}
