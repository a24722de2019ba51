-- The multipliers of a line with its hypotheses.
use Rattle.std.proofs.Common.{◌≡◌, ℕ, suc, ◌<◌, ◌≤◌, ◌*◌, T, List, [], ◌∷◌, length, ℤ, pos, ◌+ℤ◌, ◌*ℤ◌, ◌∙◌, subst, arith}
use Rattle.std.proofs.lemmas.Int.{ints}
use lib.Signed.{le_z, le_z_yes}
use Rattle.layout.specs.Cells.{between}
use Rattle.layout.proofs.Count.{both_left, both_right}
use Rattle.dossier.specs.Rows.{each}
use Rattle.dossier.proofs.Trials.{length_each, getD_each}
use Rattle.certificate.specs.Arrays.{row_of, rows_of, Within, RowsWithin, wide, Factors, Multiplied}
use Rattle.dossier.specs.Lines.{sums}
use Rattle.certificate.proofs.Bounds.{factor_within, product_within, sum_within}

pub weighted : (n : ℕ) (f : ℕ → ℤ) (rows : List (List ℤ)) → n ≡ length rows → n ≤ 18 → ((k : ℕ) → k < n → T (between (pos 0) (pos 1048575) (f k))) → RowsWithin wide (rows_of rows) → Multiplied (each n f) rows
weighted n f rows long few factors bounded = record {
  long = length_each n f ∙ long;
  few = omega (arith, length_each n f);
  factors = λ k l.
      let inside : k < n = omega (arith, length_each n f) in
      let same = getD_each n f k (pos 0) inside in
      let t = factors k inside in
      (rw same (le_z_yes (both_left _ _ t)), rw same (le_z_yes (both_right (le_z (pos 0) (f k)) _ t)));
  bounded = bounded;
}

-- the first multiplier with its hypothesis, and the others
module _ {m : ℤ} {ms : List ℤ} {h : List ℤ} {hs : List (List ℤ)} (all : Multiplied (m ∷ ms) (h ∷ hs)) where
  pub first_factor : Within 1048576 m
  first_factor = factor_within m (all.factors 0 (omega arith))

  pub first_number : (j : ℕ) → Within wide (row_of h j)
  first_number j = all.bounded 0 (omega arith) j

  pub others : Multiplied ms hs
  others = record {
    long = omega (arith, all.long);
    few = omega (arith, all.few);
    factors = λ k l. all.factors (suc k) (omega arith);
    bounded = λ k l. all.bounded (suc k) (omega arith);
  }

-- how large the sums are, for rows of any bound
pub sums_within : (most : ℕ) (ms : List ℤ) (rows : List (List ℤ)) (j : ℕ) → Factors ms → RowsWithin most (rows_of rows) → Within (length ms * (1048576 * most)) (sums ms (rows_of rows) j)
sums_within most [] rows j f h = (omega (arith, ints), omega (arith, ints))
sums_within most (m ∷ ms) [] j f h = (omega (arith, ints), omega (arith, ints))
sums_within most (m ∷ ms) (r ∷ rows) j f h =
    subst (λ n. Within n ((m *ℤ row_of r j) +ℤ sums ms (rows_of rows) j)) (omega arith)
    (sum_within (1048576 * most) (length ms * (1048576 * most)) (m *ℤ row_of r j) (sums ms (rows_of rows) j)
    (product_within 1048576 most m (row_of r j) (factor_within m (f 0 (omega arith))) (h 0 (omega arith) j))
    (sums_within most ms rows j (λ k l. f (suc k) (omega arith)) (λ k l. h (suc k) (omega arith))))
