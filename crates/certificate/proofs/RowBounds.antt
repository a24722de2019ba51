-- Bounds of the rows that proof lines compare, from the ranges of a well-formed list's cells.
use Rattle.std.proofs.Common.{◌≡◌, ℕ, zero, suc, ◌+◌, ◌*◌, ◌<◌, ◌≤◌, Bool, true, false, cond, ltb, List, [], get_or, ℤ, pos, negsuc, ◌+ℤ◌, ◌*ℤ◌, ◌≤ℤ◌, sym, refl, ap, ◌∙◌, subst, ap₂, ⊎_elim, suc-mul, zero-mul, arith, le-ltb, lt-ltb, le-leb}
use lib.IntN.{*ℤ-zero}
use lib.Signed.{le_z, le_z_yes}
use borrow.Author.Tests.{lt-leb}
use Rattle.std.proofs.lemmas.Int.{ints}
use Rattle.std.proofs.str.Laws.{order}
use Rattle.layout.proofs.Count.{both_left, both_right}
use Rattle.dossier.specs.Admission.{at_step}
use Rattle.dossier.specs.Dossier.{head, cell, row_at, update}
use Rattle.dossier.specs.Ranges.{SmallRow, ProgramRanges}
use Rattle.dossier.specs.Rows.{Row, zero_row, sum_to, constant, taken}
use Rattle.certificate.specs.Arrays.{row_of, seven, Within, RowWithin, short, long}
use Rattle.certificate.proofs.Bounds.{sum_within, product_within, within_more}

zero_within : (b : ℕ) → Within b (pos 0)
zero_within b = (omega (arith, ints), omega (arith, ints))

pub zero_row_within : (b : ℕ) → RowWithin b zero_row
zero_row_within b j = zero_within b

pub row_more : (a b : ℕ) (r : Row) → a ≤ b → RowWithin a r → RowWithin b r
row_more a b r l h j = within_more a b (r j) l (h j)

module _ (cells : List ℤ) where
  -- beyond the last column a row is 0
  row_beyond : (i j : ℕ) → (head cells).variables < j → row_at cells i j ≡ pos 0
  row_beyond i j l = ap (λ t. cond t (cell cells (i + j)) (pos 0)) (lt-leb j (head cells).variables l)

  -- the numbers of a row as a sheet has them
  abbrev Sixteen : ℤ → Type 0
  Sixteen z = (negsuc 32767 ≤ℤ z) × (z ≤ℤ pos 32767)

  pub row_small : (i : ℕ) → SmallRow cells i → (j : ℕ) → Sixteen (row_at cells i j)
  row_small i small j =
      ⊎_elim (λ (l : (head cells).variables < j). subst Sixteen (sym (row_beyond i j l)) (omega (arith, ints), omega (arith, ints))) (λ (l : j ≤ (head cells).variables).
      let is : row_at cells i j ≡ cell cells (i + j) = ap (λ t. cond t (cell cells (i + j)) (pos 0)) (le-leb j (head cells).variables l) in
      let h = small j l in
      subst Sixteen (sym is) (le_z_yes (both_left _ _ h), le_z_yes (both_right (le_z (negsuc 32767) (cell cells (i + j))) _ h)))
      (order (head cells).variables j)

  pub row_short : (i : ℕ) → SmallRow cells i → RowWithin short (row_at cells i)
  row_short i small j = let s = row_small i small j in (s.0, near (row_at cells i j) s.1)
    where
      near : (z : ℤ) → z ≤ℤ pos 32767 → z ≤ℤ pos 32768
      near z h = omega (arith, ints)

-- rows taken at a step ----------------------------------------------------------------------------

sum_zero : (n : ℕ) (f : ℕ → ℤ) → ((v : ℕ) → f v ≡ pos 0) → sum_to n f ≡ pos 0
sum_zero zero f h = refl
sum_zero (suc n) f h = ap₂ ◌+ℤ◌ (sum_zero n f h) (h n)

sum_to_within : (b n : ℕ) (f : ℕ → ℤ) → ((v : ℕ) → v < n → Within b (f v)) → Within (n * b) (sum_to n f)
sum_to_within b zero f h = subst (λ m. Within m (pos 0)) (sym (zero-mul b)) (zero_within 0)
sum_to_within b (suc n) f h = subst (λ m. Within m (sum_to n f +ℤ f n)) (sym (suc-mul n b)) (sum_within (n * b) b (sum_to n f) (f n) (sum_to_within b n f (λ v l. h v (omega arith))) (h n (omega arith)))

pub sum_to_same : (n : ℕ) (f g : ℕ → ℤ) → ((v : ℕ) → v < n → f v ≡ g v) → sum_to n f ≡ sum_to n g
sum_to_same zero f g h = refl
sum_to_same (suc n) f g h = ap₂ ◌+ℤ◌ (sum_to_same n f g (λ v l. h v (omega arith))) (h n (omega arith))

constant_within : (b : ℕ) (r : Row) (j : ℕ) → RowWithin b r → Within b (constant r j)
constant_within b r zero h = h 0
constant_within b r (suc j) h = zero_within b

-- a row over at most six variables, each replaced by a row of a sheet
pub taken_within : (n : ℕ) (r : Row) (us : ℕ → Row) → n ≤ 6 → RowWithin short r → ((v : ℕ) → v < n → RowWithin short (us v)) → RowWithin long (taken n r us)
taken_within n r us few h k j =
    let most : n * 1073741824 ≤ 6 * 1073741824 = omega (arith, few) in
    within_more (32768 + n * 1073741824) 8589934592 (taken n r us j) (omega arith)
    (sum_within 32768 (n * 1073741824) (constant r j) (sum_to n (λ v. r (suc v) *ℤ us v j)) (constant_within 32768 r j h)
    (sum_to_within 1073741824 n (λ v. r (suc v) *ℤ us v j) (λ v l. product_within 32768 32768 (r (suc v)) (us v j) (h (suc v)) (k v l j))))

-- the same of the columns that the code holds
pub seven_within : (b : ℕ) (r : Row) → RowWithin b r → RowWithin b (seven r)
seven_within b r h j = go (ltb j 7)
  where
    go : (t : Bool) → Within b (cond t (r j) (pos 0))
    go true = h j
    go false = zero_within b

module _ (cells : List ℤ) (ranges : ProgramRanges cells) (t : ℕ) (here : t < (head cells).steps) where
  pub update_short : (v : ℕ) → v < (head cells).variables → RowWithin short (update cells t v)
  update_short v l = row_short cells _ (ranges.updates t v here l)

  pub taken_long : (r : Row) → RowWithin short r → RowWithin long (at_step cells t r)
  taken_long r h = taken_within (head cells).variables r (update cells t) ranges.counts_in.variables_high h update_short

  -- beyond the seventh column a row that is taken is 0
  taken_beyond : (r : Row) (j : ℕ) → 7 ≤ j → at_step cells t r j ≡ pos 0
  taken_beyond r zero l = absurd (omega arith)
  taken_beyond r (suc j) l =
      ap (λ z. pos 0 +ℤ z)
      (sum_zero (head cells).variables (λ v. r (suc v) *ℤ update cells t v (suc j))
      (λ v. ap (λ z. r (suc v) *ℤ z) (row_beyond cells _ (suc j) (omega (arith, ranges.counts_in.variables_high))) ∙ *ℤ-zero (r (suc v))))

  -- what the code makes of a row and the update rows
  pub taken_is : (r : Row) (row result : List ℤ) (updates : List (List ℤ)) (n : ℕ) → row_of row ≡ r → n ≡ (head cells).variables → ((v : ℕ) → v < (head cells).variables → row_of (get_or updates v []) ≡ update cells t v)
      → row_of result ≡ seven (taken n (row_of row) (λ v. row_of (get_or updates v []))) → row_of result ≡ at_step cells t r
  taken_is r row result updates n same e us is i j = (ap (λ f. f j) is ∙ ⊎_elim below beyond (order j 7)) i
    where
      whole : taken n (row_of row) (λ v. row_of (get_or updates v [])) j ≡ at_step cells t r j
      whole =
          ap₂ (λ m f. constant f j +ℤ sum_to m (λ v. f (suc v) *ℤ row_of (get_or updates v []) j)) e same
          ∙ ap (λ z. constant r j +ℤ z) (sum_to_same (head cells).variables (λ v. r (suc v) *ℤ row_of (get_or updates v []) j) (λ v. r (suc v) *ℤ update cells t v j) (λ v l. ap (λ f. r (suc v) *ℤ f j) (us v l)))

      below : j < 7 → seven (taken n (row_of row) (λ v. row_of (get_or updates v []))) j ≡ at_step cells t r j
      below l = ap (λ b. cond b (taken n (row_of row) (λ v. row_of (get_or updates v [])) j) (pos 0)) (lt-ltb j 7 l) ∙ whole

      beyond : 7 ≤ j → seven (taken n (row_of row) (λ v. row_of (get_or updates v []))) j ≡ at_step cells t r j
      beyond l = ap (λ b. cond b (taken n (row_of row) (λ v. row_of (get_or updates v [])) j) (pos 0)) (le-ltb j 7 l) ∙ sym (taken_beyond r j l)
