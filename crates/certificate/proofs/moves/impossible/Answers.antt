use Rattle.std.proofs.Common.{◌≡◌, suc, ◌-◌, [], ◌∷◌, ◌++◌, length, List, ℤ, ap, ◌∙◌, arith}
use Rattle.arrayvec.specs.ArrayVec.{ArrayVec}
use Rattle.dossier.specs.Admission.{impossible}
use Rattle.dossier.specs.Rows.{each, minus_one, zero_row}
use Rattle.certificate.specs.Arrays.{row_of, held}
use Rattle.certificate.proofs.Tables.{held_new, held_push}
use Rattle.certificate.proofs.moves.impossible.Goals as goal

-- the row −1
first : (t u : ArrayVec (List ℤ)) (row : List ℤ) → t.items ≡ [] → u.items ≡ t.items ++ row ∷ [] → row_of row ≡ minus_one → held u ≡ minus_one ∷ []
first t u row none one is = held_push t u row one ∙ ap (λ xs. xs ++ row_of row ∷ []) (held_new t none) ∙ ap (λ r. r ∷ []) is

pub push_zeros-requires : goal.push_zeros-requires
push_zeros-requires c = omega (arith, c.requires.room, ap length (first c.clear.new.self c.push.new.self c.minus_one.result c.clear.ensures c.push.ensures.items c.minus_one.ensures))

pub returns : goal.returns
returns c =
    let zeros = each (c.args.count - 1) (λ _. zero_row) in
    let count : suc (c.args.count - 1) ≡ c.args.count = omega arith in
    c.push_zeros.ensures ∙ ap (λ rows. rows ++ zeros) (first c.clear.new.self c.push.new.self c.minus_one.result c.clear.ensures c.push.ensures.items c.minus_one.ensures) ∙ ap (λ n. impossible [] n) count
