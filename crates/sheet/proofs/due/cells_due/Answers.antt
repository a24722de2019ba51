use Rattle.std.proofs.Common.{◌≡◌, ℕ, ◌+◌, ◌*◌, ◌^◌, ◌<◌, ◌≤◌, List, [], ◌∷◌, ◌++◌, length, refl, ap, subst, ◌∙◌, arith, rules}
use Rattle.std.proofs.iter.Yields.{serves_by, gives_left, slice_gives, fronts}
use Rattle.std.proofs.lemmas.Fn.{fold_over}
use Rattle.std.proofs.lemmas.List.{length_push}
use Rattle.layout.specs.declared.frame.Group.{Group}
use Rattle.layout.specs.Cells.{group_cells, all_groups_cells, cells_due}
use Rattle.sheet.proofs.Served.{fewer}
use Rattle.sheet.proofs.due.cells_due.Goals as goal

-- eight groups make no sum that passes 64 bits
bounded_more : {A : Type 0} (groups : List A) (x : A) (sum next count : ℕ) → next ≡ sum + count → count < 2 ^ 50 → sum ≤ 13 + length groups * 2 ^ 50 → next ≤ 13 + length (groups ++ x ∷ []) * 2 ^ 50
bounded_more groups x sum next count is small so_far = omega (arith, length_push groups x)

counted_more : (groups : List Group) (x : Group) → all_groups_cells (groups ++ x ∷ []) ≡ all_groups_cells groups + group_cells x
counted_more [] x = omega arith
counted_more (g ∷ groups) x = omega (arith, counted_more groups x)

pub fold-requires-clause-callable : goal.fold-requires-clause-callable
fold-requires-clause-callable c =
    serves_by _ (λ xs q. q.1 ≤ 13 + length xs * 2 ^ 50)
    (λ xs q x w j r. let is : w.1 ≡ q.1 + group_cells x.now = search rules in
    let small : group_cells x.now < 2 ^ 50 = search rules in bounded_more xs x q.1 w.1 (group_cells x.now) is small j)
    fronts _ _ _ (omega arith)
    (λ xs t q x u y e j. let m = gives_left fronts (λ z. z.now) xs _ _ t (slice_gives c.iter.result) y in
    let eight : length c.groups.result ≡ 8 = ap length c.groups.ensures in
    let place = fewer t u x e _ xs m.0 m.1 m.2 in
    let top : q.1 < 2 ^ 54 = omega (arith, j, place, eight, ap length c.iter.ensures.rest) in search rules)

pub returns : goal.returns
unfolding cells_due
returns c =
    let whole = subst (λ l. c.fold.result ≡ 13 + all_groups_cells l) c.iter.ensures.rest
    (fold_over fronts (λ y. y.now) _ (λ l n. n ≡ 13 + all_groups_cells l) _ (λ ys a x b f' j k. let is : b ≡ a + group_cells x.now = search rules in (omega (arith, is, j, counted_more ys x.now), refl))
    _ _ _ _ (slice_gives c.iter.result) (omega arith) c.fold.ensures.ran) in
    whole ∙ ap (λ l. 13 + all_groups_cells l) c.groups.ensures
