use Rattle.std.proofs.Common.{◌≡◌, sym, refl, ap, ◌∙◌, rules, tests, arith}
use Rattle.std.proofs.lemmas.Iterator.{YieldsList-from_range}
use Rattle.std.proofs.lemmas.Iterator.Adapters.{option_map_id}
use Rattle.std.proofs.lemmas.Iterator.Search.{find_from_yields_List}
use Rattle.dossier.specs.Dossier as parts
use Rattle.certificate.proofs.Edges.{goes, first_edge}
use Rattle.certificate.proofs.view.View.matching_edge.Goals as goal

pub returns : goal.returns
returns g c =
    let cells = g.S.Source.cells c.args.self.now.source.now in
    let edges : c.args.self.now.head.edges ≡ (parts.head cells).edges = ap (λ h. h.edges) c.args.self.now.agrees in
    sym (option_map_id c.find.result)
    ∙ find_from_yields_List (goes cells c.args.state c.args.letter) _ _ _ c.find.ensures.ran (YieldsList-from_range 0 c.args.self.now.head.edges (parts.head cells).edges refl (omega (arith, edges))) (λ x b q k. search (rules, tests))
    ∙ first_edge cells c.args.state c.args.letter (parts.head cells).edges 0
