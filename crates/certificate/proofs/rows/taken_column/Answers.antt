use Rattle.std.proofs.Common.{◌≡◌, suc, ◌+◌, ◌*◌, [], length, get_or, pos, ◌+ℤ◌, ◌*ℤ◌, ap, ◌∙◌, subst, add-one, arith, w64, SFits, rules}
use Rattle.std.proofs.lemmas.Int.{to_z-of_z}
use Rattle.dossier.specs.Rows.{sum_to, constant, taken}
use Rattle.certificate.specs.Arrays.{row_of, Within}
use Rattle.certificate.proofs.Bounds.{sum_within, within_more, fits_64}
use Rattle.certificate.proofs.Sums.{sum_to_more}
use Rattle.certificate.proofs.rows.taken_column.Goals as goal

pub product-term-requires : goal.product-term-requires
product-term-requires c =
    let a : SFits w64 (get_or c.args.row.now (c.loop-v.v + 1) (pos 0)) = search rules in
    let b : SFits w64 (get_or (get_or c.args.updates.now c.loop-v.v []) c.args.column (pos 0)) = search rules in
    simp to_z-of_z (record { factor = within_more 32768 1048576 _ (omega arith) (c.requires.row (c.loop-v.v + 1)); number = c.requires.updates c.loop-v.v (omega arith) c.args.column })

bounded : (c : goal.After-product-term) → Within (32768 + (c.loop-v.v + 1) * 36028797018963968) (c.loop-v.sum +ℤ c.product-term.result)
bounded c =
    subst (λ n. Within n (c.loop-v.sum +ℤ c.product-term.result)) (omega arith)
    (sum_within (32768 + c.loop-v.v * 36028797018963968) 36028797018963968 c.loop-v.sum c.product-term.result (simp c.loop-v.sum-is at c.loop-v.invariant.1) c.product-term.ensures.bounded)

fits : (c : goal.After-product-term) → SFits w64 (c.loop-v.sum +ℤ c.product-term.result)
fits c = fits_64 _ (within_more _ _ _ (omega (arith, c.requires.few)) (bounded c))

pub overflow_add-sum : goal.overflow_add-sum
overflow_add-sum c =
    let t : SFits w64 c.product-term.result = search rules in
    simp (c.loop-v.sum-is, to_z-of_z) (fits c)

pub loop-v-preserved : goal.loop-v-preserved
loop-v-preserved c =
    let a : SFits w64 (get_or c.args.row.now (c.loop-v.v + 1) (pos 0)) = search rules in
    let b : SFits w64 (get_or (get_or c.args.updates.now c.loop-v.v []) c.args.column (pos 0)) = search rules in
    let t : SFits w64 c.product-term.result = search rules in
    let s : SFits w64 (c.loop-v.sum +ℤ c.product-term.result) = fits c in
    let term : c.product-term.result ≡ get_or c.args.row.now (suc c.loop-v.v) (pos 0) *ℤ get_or (get_or c.args.updates.now c.loop-v.v []) c.args.column (pos 0) = (simp to_z-of_z at c.product-term.ensures.value) ∙ ap (λ i. get_or c.args.row.now i (pos 0) *ℤ get_or (get_or c.args.updates.now c.loop-v.v []) c.args.column (pos 0)) (add-one c.loop-v.v) in
    let more = sum_to_more (constant (row_of c.args.row.now) c.args.column) c.loop-v.sum c.product-term.result c.loop-v.v (λ v. row_of c.args.row.now (suc v) *ℤ row_of (get_or c.args.updates.now v []) c.args.column) (simp c.loop-v.sum-is at c.loop-v.invariant.0) term in
    simp (c.loop-v.sum-is, to_z-of_z) (more, bounded c)

-- the column as the definition has it
made : (c : goal.After-loop-v) → c.loop-v.sum ≡ taken (length c.args.updates.now) (row_of c.args.row.now) (λ v. row_of (get_or c.args.updates.now v [])) c.args.column
made c =
    let all : c.loop-v.v ≡ (length c.args.updates.now) = omega arith in
    simp c.loop-v.sum-is at c.loop-v.invariant.0 ∙ ap (λ n. constant (row_of c.args.row.now) c.args.column +ℤ sum_to n (λ v. row_of c.args.row.now (suc v) *ℤ row_of (get_or c.args.updates.now v []) c.args.column)) all

pub returns : goal.returns
returns c = simp c.loop-v.sum-is (made c)
