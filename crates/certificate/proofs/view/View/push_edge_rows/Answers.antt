use Rattle.std.proofs.Common.{◌≡◌, ◌++◌, ap, ◌∙◌, arith}
use Rattle.dossier.specs.Admission as admission
use Rattle.dossier.specs.Dossier as parts
use Rattle.dossier.specs.Rows.{each}
use Rattle.certificate.specs.Arrays.{held}
use Rattle.certificate.proofs.Eaches.{pushed, filled_length}
use Rattle.certificate.proofs.Tables.{held_length, held_push}
use Rattle.certificate.proofs.view.View.push_edge_rows.Goals as goal

pub push-requires : goal.push-requires
push-requires g c =
    let cells = g.S.Source.cells c.args.self.now.source.now in
    omega (arith, c.requires.room, held_length c.loop-index.table, filled_length (held c.args.table.now) (held c.loop-index.table) c.loop-index.index (admission.edge_row cells c.args.edge c.args.place) c.loop-index.invariant)

pub loop-index-preserved : goal.loop-index-preserved
loop-index-preserved g c =
    let cells = g.S.Source.cells c.args.self.now.source.now in
    pushed (held c.args.table.now) (held c.loop-index.table) c.loop-index.index (admission.edge_row cells c.args.edge c.args.place) c.loop-index.invariant _ _ (held_push _ _ _ c.push.ensures.items) c.edge_row.ensures

pub returns : goal.returns
returns g c =
    let cells = g.S.Source.cells c.args.self.now.source.now in
    let all : c.loop-index.index ≡ (parts.head cells).propositions = omega (arith, ap (λ h. h.propositions) c.args.self.now.agrees) in
    c.loop-index.invariant ∙ ap (λ n. held c.args.table.now ++ each n (admission.edge_row cells c.args.edge c.args.place)) all
