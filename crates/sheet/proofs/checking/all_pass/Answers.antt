use Rattle.std.proofs.Common.{◌≡◌, true, sym, ap, ◌∙◌, ap₂, w32, SFits, rules}
use Rattle.std.specs.Int.{int_max, int_min}
use Rattle.std.specs.List.{list_all}
use Rattle.std.proofs.lemmas.Int.{to_z-of_z}
use Rattle.layout.specs.Cells.{between, passes}
use Rattle.sheet.proofs.Runs.{fold_between, span_all}
use Rattle.sheet.proofs.checking.all_pass.Goals as goal

pub returns-in-Between : goal.returns-in-Between
returns-in-Between c =
    let low : SFits w32 c.in-Between.low = search rules in
    let high : SFits w32 c.in-Between.high = search rules in
    let least : SFits w32 c.span-least.result.0 = search rules in
    let most : SFits w32 c.span-least.result.1 = search rules in
    let lowest : SFits w32 c.max.result = search rules in
    let highest : SFits w32 c.min.result = search rules in
    let from : c.max.result ≡ int_max c.in-Between.low c.span-least.result.0 = simp to_z-of_z at c.max.ensures.value in
    let to : c.min.result ≡ int_min c.in-Between.high c.span-least.result.1 = simp to_z-of_z at c.min.ensures.value in
    c.all_between.ensures
    ∙ fold_between _ _ true c.args.part.now
    ∙ ap₂ (λ a b. list_all (between a b) c.args.part.now) (to_z-of_z w32 _ lowest ∙ from) (to_z-of_z w32 _ highest ∙ to)
    ∙ span_all c.args.digits c.in-Between.low c.in-Between.high c.span-least.result.0 c.span-least.result.1 low high c.span-least.ensures c.args.part.now
    ∙ ap (λ r. list_all (passes c.args.digits r) c.args.part.now) (sym c.in-Between.is)
