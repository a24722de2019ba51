use Rattle.std.proofs.Common.{◌++◌, ap, ◌∙◌, ap₂, arith}
use Rattle.layout.proofs.Count.{formed_ranges}
use Rattle.dossier.specs.Dossier as parts
use Rattle.certificate.specs.Arrays.{held}
use Rattle.certificate.specs.Stored.{stored, stored_row}
use Rattle.certificate.proofs.Eaches.{each_split}
use Rattle.certificate.proofs.Places.{few_points}
use Rattle.certificate.proofs.view.View.push_point.Goals as goal

pub point_at-requires : goal.point_at-requires
point_at-requires g c =
    let cells = g.S.Source.cells c.args.self.now.source.now in
    omega (arith, c.requires.inside, few_points (parts.head cells) (formed_ranges cells (g.S.Source.formed c.args.self.now.source.now)))

pub returns : goal.returns
returns g c =
    let cells = g.S.Source.cells c.args.self.now.source.now in
    c.push_stored.ensures
    ∙ ap₂ (λ a n. held c.args.table.now ++ stored cells a n) c.point_at.ensures.value c.rows_of_point.ensures.value
    ∙ ap (λ rows. held c.args.table.now ++ rows) (each_split (parts.head cells).region_rows (parts.head cells).rank_numbers (stored_row cells (parts.point_at (parts.head cells) c.args.point)))
