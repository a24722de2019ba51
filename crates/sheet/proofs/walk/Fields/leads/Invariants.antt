use Rattle.std.proofs.Common.{◌≡◌, [], length, take, drop}
use Rattle.layout.specs.Walk as walking
use Rattle.sheet.specs.Store.{put}
use Rattle.sheet.proofs.walk.Fields.leads.Given as goal

-- what is left of the fields gives the answer
abbrev pub invariant-loop-i : goal.invariant-loop-i
invariant-loop-i g l = record {
  long : length l.values ≡ length l.initial.values;
  same : g.Self.Fields.supply l.self ≡ g.Self.Fields.supply l.initial.self;
  left : walking.leads (g.Self.Fields.supply l.initial.self) put (take l.i l.values) (drop l.i l.lead) l.store (g.Self.Fields.place l.self)
      ≡ walking.leads (g.Self.Fields.supply l.initial.self) put [] l.lead l.initial.store (g.Self.Fields.place l.initial.self);
}
