use Rattle.std.proofs.Common.{◌≡◌, true, false, cond, sym, ap, ◌∙◌, ap₂}
use Rattle.dossier.specs.Admission as admission
use Rattle.dossier.specs.Dossier as parts
use Rattle.dossier.specs.Rows.{zero_row}
use Rattle.certificate.proofs.view.View.edge_row.Goals as goal

pub returns-then-bit-2 : goal.returns-then-bit-2
returns-then-bit-2 g c =
    let cells = g.S.Source.cells c.args.self.now.source.now in
    let must : parts.bit c.args.index (parts.must cells c.args.edge) ≡ false = sym (c.if-bit.ensures ∙ ap (parts.bit c.args.index) c.must.ensures) in
    let must_not : parts.bit c.args.index (parts.must_not cells c.args.edge) ≡ true = sym (c.if-bit-2.ensures ∙ ap (parts.bit c.args.index) c.must_not.ensures) in
    c.unwanted.ensures
    ∙ sym (ap₂ (λ a b. cond a (admission.wanted cells c.args.place c.args.index) (cond b (admission.unwanted cells c.args.place c.args.index) zero_row)) must must_not)
