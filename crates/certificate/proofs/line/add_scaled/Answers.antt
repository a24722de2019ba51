use Rattle.std.proofs.Common.{◌≡◌, ℕ, ◌+◌, ◌<◌, ◌≤◌, List, length, get_or, set, take, ℤ, pos, ◌+ℤ◌, ◌*ℤ◌, sym, ap, ◌∙◌, subst, ap₂, arith, length-set, get_or-set_other, get_or-set_same, below_more, w64, SFits, rules}
use Rattle.std.proofs.lemmas.Int.{to_z-of_z}
use Rattle.std.proofs.lemmas.List.{get_or-take, get_or_append_left}
use Rattle.certificate.specs.Arrays.{Within}
use Rattle.certificate.proofs.Bounds.{sum_within, within_more, fits_64}
use Rattle.certificate.proofs.line.add_scaled.Goals as goal

pub product-requires : goal.product-requires
product-requires c =
    let m : SFits w64 c.args.multiplier = c.ranges.multiplier in
    let n : SFits w64 (get_or c.args.row.now c.loop-j.j (pos 0)) = search rules in
    simp to_z-of_z (record { factor = c.requires.factor; number = c.requires.numbers c.loop-j.j })

-- the column at hand stands as it was
standing : (c : goal.After-sum-in-loop-j-1) → get_or c.loop-j.sum-items c.loop-j.j (pos 0) ≡ get_or c.args.sums.now c.loop-j.j (pos 0)
standing c = c.loop-j.invariant.left c.loop-j.j (omega arith) ∙ get_or-take c.args.width c.args.sums.now c.loop-j.j (pos 0) (omega arith)

fits : (c : goal.After-sum-in-loop-j-1) → SFits w64 (get_or c.loop-j.sum-items c.loop-j.j (pos 0) +ℤ c.product.result)
fits c =
    let room = subst (Within 612489549322387456) (sym (standing c)) (c.requires.room c.loop-j.j (omega arith)) in
    fits_64 _ (within_more (612489549322387456 + 36028797018963968) _ _ (omega arith) (sum_within 612489549322387456 36028797018963968 (get_or c.loop-j.sum-items c.loop-j.j (pos 0)) c.product.result room c.product.ensures.bounded))

pub overflow_add-sum : goal.overflow_add-sum
overflow_add-sum c =
    let a : SFits w64 (get_or c.loop-j.sum-items c.loop-j.j (pos 0)) = search rules in
    let t : SFits w64 c.product.result = search rules in
    simp to_z-of_z (fits c)

-- one column more
module _ (xs base row : List ℤ) (m v : ℤ) (j : ℕ) (inside : j < length xs) (is : v ≡ get_or base j (pos 0) +ℤ (m *ℤ get_or row j (pos 0))) where
  one_more : ((k : ℕ) → k < j → get_or xs k (pos 0) ≡ get_or base k (pos 0) +ℤ (m *ℤ get_or row k (pos 0))) → (k : ℕ) → k < j + 1 → get_or (set xs j v) k (pos 0) ≡ get_or base k (pos 0) +ℤ (m *ℤ get_or row k (pos 0))
  one_more added =
      below_more (λ k. get_or (set xs j v) k (pos 0) ≡ get_or base k (pos 0) +ℤ (m *ℤ get_or row k (pos 0))) j
      (λ k l. get_or-set_other xs j k v (pos 0) (omega arith) ∙ added k l)
      (get_or-set_same xs j v (pos 0) inside ∙ is)

  others : ((k : ℕ) → j ≤ k → get_or xs k (pos 0) ≡ get_or base k (pos 0)) → (k : ℕ) → j + 1 ≤ k → get_or (set xs j v) k (pos 0) ≡ get_or base k (pos 0)
  others left k l = get_or-set_other xs j k v (pos 0) (omega arith) ∙ left k (omega arith)

pub loop-j-preserved : goal.loop-j-preserved
loop-j-preserved c =
    let m : SFits w64 c.args.multiplier = c.ranges.multiplier in
    let n : SFits w64 (get_or c.args.row.now c.loop-j.j (pos 0)) = search rules in
    let a : SFits w64 (get_or c.loop-j.sum-items c.loop-j.j (pos 0)) = search rules in
    let t : SFits w64 c.product.result = search rules in
    let s : SFits w64 (get_or c.loop-j.sum-items c.loop-j.j (pos 0) +ℤ c.product.result) = fits c in
    let base = take c.args.width c.args.sums.now in
    let inside : c.loop-j.j < length c.loop-j.sum-items = omega arith in
    let term : c.product.result ≡ c.args.multiplier *ℤ get_or c.args.row.now c.loop-j.j (pos 0) = simp to_z-of_z at c.product.ensures.value in
    let is : get_or c.loop-j.sum-items c.loop-j.j (pos 0) +ℤ c.product.result ≡ get_or base c.loop-j.j (pos 0) +ℤ (c.args.multiplier *ℤ get_or c.args.row.now c.loop-j.j (pos 0)) = ap₂ ◌+ℤ◌ (c.loop-j.invariant.left c.loop-j.j (omega arith)) term in
    let added : (k : ℕ) → k < c.loop-j.j → get_or c.loop-j.sum-items k (pos 0) ≡ get_or base k (pos 0) +ℤ (c.args.multiplier *ℤ get_or c.args.row.now k (pos 0)) = simp to_z-of_z at c.loop-j.invariant.added in
    simp to_z-of_z (record {
      long = length-set _ _ _ ∙ c.loop-j.invariant.long;
      added = one_more c.loop-j.sum-items base c.args.row.now c.args.multiplier _ c.loop-j.j inside is added;
      left = others c.loop-j.sum-items base c.args.row.now c.args.multiplier _ c.loop-j.j inside is c.loop-j.invariant.left;
    })

pub returns : goal.returns
returns c j l =
    let m : SFits w64 c.args.multiplier = c.ranges.multiplier in
    let added : (k : ℕ) → k < c.loop-j.j → get_or c.loop-j.sum-items k (pos 0) ≡ get_or (take c.args.width c.args.sums.now) k (pos 0) +ℤ (c.args.multiplier *ℤ get_or c.args.row.now k (pos 0)) = simp to_z-of_z at c.loop-j.invariant.added in
    get_or_append_left c.loop-j.sum-items _ (pos 0) j (omega arith)
    ∙ added j (omega arith)
    ∙ ap (λ x. x +ℤ (c.args.multiplier *ℤ get_or c.args.row.now j (pos 0))) (get_or-take c.args.width c.args.sums.now j (pos 0) l)
