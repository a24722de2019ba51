use Rattle.std.proofs.Common.{take, refl, subst}
use Rattle.layout.specs.Layout.{InRanges, head_fields, unused}
use Rattle.layout.specs.Text.{head_kind}
use Rattle.layout.proofs.Count.{counts_take, head_ranges}
use Rattle.layout.proofs.Lawful.{line_lawful}
use Rattle.sheet.specs.Store.{put}
use Rattle.sheet.proofs.Lent.{line_keep}
use Rattle.sheet.proofs.walk.Fields.head.Goals as goal

pub invariant_of-from : goal.invariant_of-from
invariant_of-from g c =
    let w = c.args in
    record { in_ranges = subst InRanges (counts_take c.line.new.values) (head_ranges (take 13 c.line.new.values) (line_lawful (g.Self.Fields.supply w.self.now) put (g.Self.Fields.lawful w.self.now) head_kind head_fields unused 0 w.store.now (g.Self.Fields.place w.self.now) (rw c.head_fields-lead.ensures at c.in_ok-line.ensures.walked))) }

pub returns-clause-lent : goal.returns-clause-lent
returns-clause-lent g c =
    let w = c.args in
    line_keep (g.Self.Fields.supply w.self.now) put (λ s. s.cells.ghost_name) (λ s v. refl) head_kind head_fields unused 0 w.store.now (g.Self.Fields.place w.self.now) (rw c.head_fields-lead.ensures at c.in_ok-line.ensures.walked)
