-- Fall rows over rank rows that stand in two lists.
use Rattle.std.proofs.Common.{◌≡◌, ℕ, zero, suc, ◌+◌, ◌<◌, List, ◌++◌, length, sym, refl, subst, ap₂, arith}
use Rattle.std.proofs.lemmas.List.{get_or_append_left, length-append}
use Rattle.std.proofs.lemmas.Int.{ints}
use Rattle.dossier.specs.declared.fall.Fall.{Fall}
use Rattle.dossier.specs.declared.fall.Fall.TheVariants.{None, Keeps, Drops}
use Rattle.dossier.specs.Kinds.{Inside, fall_row}
use Rattle.dossier.specs.Rows.{Row, zero_row, difference, less}
use Rattle.certificate.specs.Arrays.{RowWithin, long}
use Rattle.certificate.specs.Falls.{rows_from, There, Ready}

-- the constant less 0
pub less_zero : (r : Row) → less r 0 ≡ r
less_zero r i j = at j i
  where
    at : (j : ℕ) → less r 0 j ≡ r j
    at zero = omega (arith, ints)
    at (suc j) = refl

module _ (xs ys : List Row) (at k : ℕ) where
  pub rows_from_append : at + k < length xs → rows_from (xs ++ ys) at k ≡ rows_from xs at k
  rows_from_append l = get_or_append_left xs ys zero_row (at + k) l

  pub there_append : There xs at k → There (xs ++ ys) at k
  there_append t = record {
    inside = omega (arith, length-append xs ys, t.inside);
    bounded = subst (RowWithin long) (sym (rows_from_append t.inside)) t.bounded;
  }

module _ (n : ℕ) where
  pub ready : (fall : Fall) → Inside n fall → (old new : List Row) (i j : ℕ) → ((k : ℕ) → k < n → There old i k × There new j k) → Ready fall old i new j
  ready None l old new i j h = tt
  ready (Keeps k) l old new i j h = h k l
  ready (Drops k) l old new i j h = h k l

  -- a fall row depends on the numbers of a rank alone
  pub fall_row_same : (fall : Fall) → Inside n fall → (old old' new new' : ℕ → Row) → ((k : ℕ) → k < n → old k ≡ old' k) → ((k : ℕ) → k < n → new k ≡ new' k) → fall_row fall old new ≡ fall_row fall old' new'
  fall_row_same None l old old' new new' p q = refl
  fall_row_same (Keeps k) l old old' new new' p q = ap₂ difference (p k l) (q k l)
  fall_row_same (Drops k) l old old' new new' p q = ap₂ (λ a b. less (difference a b) 1) (p k l) (q k l)
