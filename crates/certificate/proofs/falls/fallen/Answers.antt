use Rattle.std.proofs.Common.{◌≡◌, ℕ, ◌+◌, List, [], get_or, ℤ, sym, ◌∙◌, subst, ap₂, arith}
use Rattle.std.proofs.lemmas.List.{length-map, get_or-map}
use Rattle.dossier.specs.Rows.{less, difference, zero_row}
use Rattle.certificate.specs.Arrays.{row_of, rows_of, RowWithin, long}
use Rattle.certificate.specs.Falls.{rows_from, There}
use Rattle.certificate.proofs.falls.fallen.Goals as goal

-- the row that an index tells
row_from : (rows : List (List ℤ)) (at k : ℕ) → There (rows_of rows) at k → rows_from (rows_of rows) at k ≡ row_of (get_or rows (at + k) [])
row_from rows at k there = get_or-map row_of rows (at + k) [] zero_row (omega (arith, there.inside, length-map rows row_of))

pub difference-requires-clause-old : goal.difference-requires-clause-old
difference-requires-clause-old c = subst (RowWithin long) (row_from c.args.old.now.rows.now c.args.old.now.at c.args.number c.requires.old) c.requires.old.bounded

pub difference-requires-clause-new : goal.difference-requires-clause-new
difference-requires-clause-new c = subst (RowWithin long) (row_from c.args.new.now.rows.now c.args.new.now.at c.args.number c.requires.new) c.requires.new.bounded

pub returns : goal.returns
returns c =
    let old = row_from c.args.old.now.rows.now c.args.old.now.at c.args.number c.requires.old in
    let new = row_from c.args.new.now.rows.now c.args.new.now.at c.args.number c.requires.new in
    c.difference.ensures ∙ ap₂ (λ a b. less (difference a b) c.args.less) (sym old) (sym new)
