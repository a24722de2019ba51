use Rattle.std.proofs.Common.{◌≡◌, ◌+◌, cond, ltb, leb, replicate, pos, sym, ap, ◌∙◌, arith, le-ltb, length-set, w32, w64, SFits, to_z, of_z, rules}
use Rattle.std.proofs.lemmas.List.{length-take-le}
use Rattle.std.proofs.lemmas.Int.{to_z-of_z}
use Rattle.dossier.specs.Dossier as parts
use Rattle.certificate.proofs.Fill.{filled_more, up_to, zeros_front, padded}
use Rattle.certificate.proofs.view.View.row_at.Goals as goal

pub loop-j-preserved : goal.loop-j-preserved
loop-j-preserved g c =
    let f : SFits w32 c.cell.result = search rules in
    let w : SFits w64 c.cell.result = search rules in
    let same : to_z w64 (of_z w64 (to_z w32 (of_z w32 c.cell.result))) ≡ c.cell.result = simp to_z-of_z in
    (length-set _ _ _ ∙ c.loop-j.invariant.0, filled_more c.loop-j.number-items c.loop-j.j (λ k. parts.cell (g.S.Source.cells c.args.self.now.source.now) (c.args.at + k)) _ (omega arith) (same ∙ c.cell.ensures) c.loop-j.invariant.1)

pub loop-j-init : goal.loop-j-init
loop-j-init g c = (length-take-le (c.args.self.now.head.variables + 1) (replicate 7 (pos 0)) (omega arith), λ k. zeros_front (c.args.self.now.head.variables + 1) 7 k ∙ sym (ap (λ t. cond t (parts.cell (g.S.Source.cells c.args.self.now.source.now) (c.args.at + k)) (pos 0)) (le-ltb k 0 (omega arith))))

pub returns : goal.returns
returns g c i k =
    let cells = g.S.Source.cells c.args.self.now.source.now in
    let last : c.loop-j.j ≡ c.args.self.now.head.variables + 1 = omega arith in
    (padded c.loop-j.number-items (c.args.self.now.head.variables + 1) 7 k
    ∙ c.loop-j.invariant.1 k
    ∙ ap (λ t. cond t (parts.cell cells (c.args.at + k)) (pos 0)) (ap (ltb k) last ∙ up_to k c.args.self.now.head.variables ∙ ap (λ h. leb k h.variables) c.args.self.now.agrees)) i
