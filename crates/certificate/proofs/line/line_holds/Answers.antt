use Rattle.std.proofs.Common.{◌≡◌, ℕ, ◌+◌, ◌<◌, true, List, length, get_or, take, drop, ℤ, pos, sym, ap, ◌∙◌, subst, ap₂, arith, length-drop, ◌*ℤ◌, w64, SFits, to_z, of_z, rules}
use lib.Signed.{le_z}
use Rattle.std.proofs.lemmas.Int.{to_z-of_z}
use Rattle.std.proofs.lemmas.Slice.Zip.{zip_turn, zip_end}
use Rattle.std.proofs.lemmas.List.{length_push, length-take, get_or-take, get_or-drop}
use Rattle.layout.specs.Cells.{both}
use Rattle.dossier.specs.Lines.{coefficients_agree, constant_suffices}
use Rattle.certificate.specs.Arrays.{row_of, rows_of}
use Rattle.certificate.proofs.Agree.{agree_more, agree_fails}
use Rattle.certificate.proofs.line.line_holds.Goals as goal

-- where an item of a slice from the second on stands in the whole
module _ (n j : ℕ) (all : List ℤ) (v : ℤ) (below : j < length (take n (drop 1 all))) (is : v ≡ get_or (take n (drop 1 all)) j (pos 0)) where
  inside : j < n
  inside = omega (arith, length-take n (drop 1 all))

  at : v ≡ get_or all (j + 1) (pos 0)
  at = is ∙ get_or-take n (drop 1 all) j (pos 0) inside ∙ get_or-drop 1 all j (pos 0) ∙ ap (λ k. get_or all k (pos 0)) (omega arith)

pub returns-then-product-sum : goal.returns-then-product-sum
returns-then-product-sum c =
    let first : c.into_iter-sum-iterator.result.a.rest.now ≡ take c.args.variables (drop 1 c.column_sums-sums.result) = search rules in
    let second : c.into_iter-sum-iterator.result.b.rest.now ≡ take c.args.variables (drop 1 c.args.conclusion.now) = search rules in
    let turn = zip_turn _ _ c.loop-sum.yielded c.into_iter-sum-iterator.result c.loop-sum.sum-iterator c.next.new.self c.next.result first second c.loop-sum.yielded_by (c.in-Some.sum, c.in-Some.number) c.in-Some.is c.next.ensures.steps in
    let j = length c.loop-sum.yielded in
    let below = inside c.args.variables j c.args.conclusion.now c.in-Some.number.now turn.1 (turn.3 (pos 0)) in
    let sum = at c.args.variables j c.column_sums-sums.result c.in-Some.sum.now turn.0 (turn.2 (pos 0)) in
    let number = at c.args.variables j c.args.conclusion.now c.in-Some.number.now turn.1 (turn.3 (pos 0)) in
    let d : SFits w64 c.args.divisor = c.ranges.divisor in
    let n : SFits w64 c.in-Some.number.now = search rules in
    let scaled = simp to_z-of_z at c.product.ensures.value in
    let ms = c.args.multipliers.now in
    let hs = rows_of c.args.hypotheses.now in
    let r = row_of c.args.conclusion.now in
    sym (ap (λ x. both x (constant_suffices c.args.divisor ms hs r)) (agree_fails c.args.divisor ms hs r c.args.variables j below (λ e. c.if-product-sum.true (ap (of_z w64) (scaled ∙ ap (λ x. c.args.divisor *ℤ x) number ∙ e ∙ sym (c.column_sums-sums.ensures (j + 1) (omega arith)) ∙ sym sum)))))

pub loop-sum-preserved : goal.loop-sum-preserved
loop-sum-preserved c =
    let first : c.into_iter-sum-iterator.result.a.rest.now ≡ take c.args.variables (drop 1 c.column_sums-sums.result) = search rules in
    let second : c.into_iter-sum-iterator.result.b.rest.now ≡ take c.args.variables (drop 1 c.args.conclusion.now) = search rules in
    let turn = zip_turn _ _ c.loop-sum.yielded c.into_iter-sum-iterator.result c.loop-sum.sum-iterator c.next.new.self c.next.result first second c.loop-sum.yielded_by (c.in-Some.sum, c.in-Some.number) c.in-Some.is c.next.ensures.steps in
    let j = length c.loop-sum.yielded in
    let below = inside c.args.variables j c.args.conclusion.now c.in-Some.number.now turn.1 (turn.3 (pos 0)) in
    let sum = at c.args.variables j c.column_sums-sums.result c.in-Some.sum.now turn.0 (turn.2 (pos 0)) in
    let number = at c.args.variables j c.args.conclusion.now c.in-Some.number.now turn.1 (turn.3 (pos 0)) in
    let d : SFits w64 c.args.divisor = c.ranges.divisor in
    let n : SFits w64 c.in-Some.number.now = search rules in
    let a : SFits w64 c.product.result = search rules in
    let b : SFits w64 c.in-Some.sum.now = search rules in
    let scaled = simp to_z-of_z at c.product.ensures.value in
    let same : c.product.result ≡ c.in-Some.sum.now = sym (to_z-of_z w64 c.product.result a) ∙ ap (to_z w64) c.if-product-sum.false ∙ to_z-of_z w64 c.in-Some.sum.now b in
    let ms = c.args.multipliers.now in
    let hs = rows_of c.args.hypotheses.now in
    let r = row_of c.args.conclusion.now in
    let more = agree_more c.args.divisor ms hs r j (simp to_z-of_z at c.loop-sum.invariant) (ap (λ x. c.args.divisor *ℤ x) (sym number) ∙ sym scaled ∙ same ∙ sum ∙ c.column_sums-sums.ensures (j + 1) (omega arith)) in
    simp to_z-of_z (subst (λ k. coefficients_agree k c.args.divisor ms hs r ≡ true) (sym (length_push c.loop-sum.yielded (c.in-Some.sum, c.in-Some.number))) more)

pub returns : goal.returns
returns c =
    let first : c.into_iter-sum-iterator.result.a.rest.now ≡ take c.args.variables (drop 1 c.column_sums-sums.result) = search rules in
    let second : c.into_iter-sum-iterator.result.b.rest.now ≡ take c.args.variables (drop 1 c.args.conclusion.now) = search rules in
    let ended = zip_end _ _ c.loop-sum.yielded c.into_iter-sum-iterator.result c.loop-sum.sum-iterator c.next.new.self c.next.result first second c.loop-sum.yielded_by c.in-None.is c.next.ensures.steps in
    let d : SFits w64 c.args.divisor = c.ranges.divisor in
    let n : SFits w64 (get_or c.args.conclusion.now 0 (pos 0)) = search rules in
    let a : SFits w64 (get_or c.column_sums-sums.result 0 (pos 0)) = search rules in
    let b : SFits w64 c.product-2.result = search rules in
    let ms = c.args.multipliers.now in
    let hs = rows_of c.args.hypotheses.now in
    let r = row_of c.args.conclusion.now in
    let scaled = simp to_z-of_z at c.product-2.ensures.value in
    let long : length c.column_sums-sums.result ≡ 7 = search rules in
    let wide : length c.args.conclusion.now ≡ 7 = search rules in
    let all : length c.loop-sum.yielded ≡ c.args.variables = omega (arith, ended, length-take c.args.variables (drop 1 c.column_sums-sums.result), length-take c.args.variables (drop 1 c.args.conclusion.now), length-drop 1 c.column_sums-sums.result, length-drop 1 c.args.conclusion.now, long, wide, c.requires.variables) in
    let agree = subst (λ n. coefficients_agree n c.args.divisor ms hs r ≡ true) all (simp to_z-of_z at c.loop-sum.invariant) in
    simp to_z-of_z (ap₂ le_z (c.column_sums-sums.ensures 0 (omega arith)) scaled ∙ sym (ap (λ x. both x (constant_suffices c.args.divisor ms hs r)) agree))
