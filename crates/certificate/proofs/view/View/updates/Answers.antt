use Rattle.std.proofs.Common.{◌≡◌, ◌∷◌, [], ◌++◌, sym, ap, ◌∙◌, ap₂, length, arith}
use Rattle.std.proofs.lemmas.List.{map-append, length-map}
use Rattle.dossier.specs.Dossier as parts
use Rattle.dossier.specs.Rows.{each}
use Rattle.dossier.proofs.Trials.{length_each}
use Rattle.certificate.specs.Arrays.{row_of, rows_of}
use Rattle.certificate.proofs.Eaches.{each_more}
use Rattle.certificate.proofs.view.View.updates.Goals as goal

pub push-requires : goal.push-requires
push-requires g c =
    let f = parts.update (g.S.Source.cells c.args.self.now.source.now) c.args.step in
    omega (arith, ap length c.loop-variable.invariant, length-map c.loop-variable.rows.items row_of, length_each c.loop-variable.variable f)

pub loop-variable-preserved : goal.loop-variable-preserved
loop-variable-preserved g c =
    let f = parts.update (g.S.Source.cells c.args.self.now.source.now) c.args.step in
    ap rows_of c.push.ensures.items ∙ map-append row_of c.loop-variable.rows.items (c.update.result ∷ []) ∙ ap₂ (λ xs x. xs ++ x ∷ []) c.loop-variable.invariant c.update.ensures ∙ sym (each_more c.loop-variable.variable f)

pub returns : goal.returns
returns g c =
    let cells = g.S.Source.cells c.args.self.now.source.now in
    let all : c.loop-variable.variable ≡ (parts.head cells).variables = omega (arith, ap (λ h. h.variables) c.args.self.now.agrees) in
    c.loop-variable.invariant ∙ ap (λ n. each n (parts.update cells c.args.step)) all
