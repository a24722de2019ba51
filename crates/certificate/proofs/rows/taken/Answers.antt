use Rattle.std.proofs.Common.{◌≡◌, ◌<◌, [], length, get_or, ◌∙◌, arith, length-set, w64, SFits, rules}
use Rattle.std.proofs.lemmas.Int.{to_z-of_z}
use Rattle.dossier.specs.Rows as rows
use Rattle.certificate.specs.Arrays.{row_of, seven}
use Rattle.certificate.proofs.Fill.{filled_more, filled_seven}
use Rattle.certificate.proofs.rows.taken.Goals as goal

pub loop-j-preserved : goal.loop-j-preserved
loop-j-preserved c =
    let f : SFits w64 c.taken_column.result = search rules in
    let inside : c.loop-j.j < length c.loop-j.number-items = omega arith in (
      length-set _ _ _ ∙ c.loop-j.invariant.0,
      filled_more c.loop-j.number-items c.loop-j.j (rows.taken (length c.args.updates.now) (row_of c.args.row.now) (λ v. row_of (get_or c.args.updates.now v []))) _ inside (to_z-of_z w64 c.taken_column.result f ∙ c.taken_column.ensures) c.loop-j.invariant.1,
    )

-- the row as the definition has it
made : (c : goal.After-loop-j) → row_of c.loop-j.number-items ≡ seven (rows.taken (length c.args.updates.now) (row_of c.args.row.now) (λ v. row_of (get_or c.args.updates.now v [])))
made c = filled_seven c.loop-j.number-items c.loop-j.j (rows.taken (length c.args.updates.now) (row_of c.args.row.now) (λ v. row_of (get_or c.args.updates.now v []))) (omega arith) c.loop-j.invariant.1

pub returns : goal.returns
returns c = made c
