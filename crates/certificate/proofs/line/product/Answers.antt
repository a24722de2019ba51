use Rattle.std.proofs.Common.{◌*ℤ◌, refl, arith, w64, SFits}
use Rattle.std.proofs.lemmas.Int.{to_z-of_z}
use Rattle.certificate.specs.Arrays.{Within}
use Rattle.certificate.proofs.Bounds.{product_within, within_more, fits_64}
use Rattle.certificate.proofs.line.product.Goals as goal

bounded : (c : goal.Start) → Within 36028797018963968 (c.args.factor *ℤ c.args.number)
bounded c = product_within 1048576 34359738368 c.args.factor c.args.number c.requires.factor c.requires.number

fits : (c : goal.Start) → SFits w64 (c.args.factor *ℤ c.args.number)
fits c = fits_64 _ (within_more 36028797018963968 _ _ (omega arith) (bounded c))

pub overflow_mul-result : goal.overflow_mul-result
overflow_mul-result c =
    let m : SFits w64 c.args.factor = c.ranges.factor in
    let n : SFits w64 c.args.number = c.ranges.number in
    simp to_z-of_z (fits c)

pub returns-clause-value : goal.returns-clause-value
returns-clause-value c =
    let m : SFits w64 c.args.factor = c.ranges.factor in
    let n : SFits w64 c.args.number = c.ranges.number in
    let f : SFits w64 (c.args.factor *ℤ c.args.number) = fits c in
    simp to_z-of_z refl

pub returns-clause-bounded : goal.returns-clause-bounded
returns-clause-bounded c =
    let m : SFits w64 c.args.factor = c.ranges.factor in
    let n : SFits w64 c.args.number = c.ranges.number in
    let f : SFits w64 (c.args.factor *ℤ c.args.number) = fits c in
    simp to_z-of_z (bounded c)
