use Rattle.std.proofs.Common.{◌≡◌, ◌<◌, length, get_or, pos, ◌-ℤ◌, ◌∙◌, arith, length-set, w64, SFits, to_z, rules}
use Rattle.std.proofs.lemmas.Int.{to_z-of_z, to_z_pos}
use Rattle.dossier.specs.Rows as rows
use Rattle.certificate.specs.Arrays.{row_of}
use Rattle.certificate.proofs.Fill.{filled_more}
use Rattle.certificate.proofs.Differences.{difference_fits, less_fits, all_columns, set_constant}
use Rattle.certificate.proofs.rows.difference.Goals as goal

pub overflow_sub-number : goal.overflow_sub-number
overflow_sub-number c =
    let a : SFits w64 (get_or c.args.old.now c.loop-j.j (pos 0)) = search rules in
    let b : SFits w64 (get_or c.args.new.now c.loop-j.j (pos 0)) = search rules in
    simp to_z-of_z (difference_fits _ _ (c.requires.old c.loop-j.j) (c.requires.new c.loop-j.j))

pub loop-j-preserved : goal.loop-j-preserved
loop-j-preserved c =
    let a : SFits w64 (get_or c.args.old.now c.loop-j.j (pos 0)) = search rules in
    let b : SFits w64 (get_or c.args.new.now c.loop-j.j (pos 0)) = search rules in
    let f : SFits w64 (get_or c.args.old.now c.loop-j.j (pos 0) -ℤ get_or c.args.new.now c.loop-j.j (pos 0)) = difference_fits _ _ (c.requires.old c.loop-j.j) (c.requires.new c.loop-j.j) in
    let inside : c.loop-j.j < length c.loop-j.number-items = omega arith in (
      length-set _ _ _ ∙ c.loop-j.invariant.0,
      filled_more c.loop-j.number-items c.loop-j.j (rows.difference (row_of c.args.old.now) (row_of c.args.new.now)) _ inside (simp to_z-of_z) c.loop-j.invariant.1,
    )

pub overflow_sub-result : goal.overflow_sub-result
overflow_sub-result c =
    let columns = all_columns c.loop-j.number-items c.args.old.now c.args.new.now c.loop-j.j (omega arith) (omega arith) (omega arith) c.loop-j.invariant.1 in
    let f : SFits w64 (get_or c.loop-j.number-items 0 (pos 0)) = search rules in
    let small : to_z w64 c.args.less ≡ pos c.args.less = to_z_pos w64 c.args.less (omega arith) in
    simp (to_z-of_z, small) (less_fits (get_or c.args.old.now 0 (pos 0)) (get_or c.args.new.now 0 (pos 0)) _ c.args.less (λ i. columns i 0) (c.requires.old 0) (c.requires.new 0) (omega arith))

pub returns : goal.returns
returns c =
    let columns = all_columns c.loop-j.number-items c.args.old.now c.args.new.now c.loop-j.j (omega arith) (omega arith) (omega arith) c.loop-j.invariant.1 in
    let f : SFits w64 (get_or c.loop-j.number-items 0 (pos 0)) = search rules in
    let small : to_z w64 c.args.less ≡ pos c.args.less = to_z_pos w64 c.args.less (omega arith) in
    let l : SFits w64 (get_or c.loop-j.number-items 0 (pos 0) -ℤ pos c.args.less) = less_fits (get_or c.args.old.now 0 (pos 0)) (get_or c.args.new.now 0 (pos 0)) _ c.args.less (λ i. columns i 0) (c.requires.old 0) (c.requires.new 0) (omega arith) in
    set_constant c.loop-j.number-items _ _ c.args.less (omega arith) columns (simp (to_z-of_z, small))
