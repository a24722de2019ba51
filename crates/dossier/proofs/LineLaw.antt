-- A line that holds is sound, and a row taken at a step has the value that it has after the step.
use Rattle.std.proofs.Common.{◌≡◌, ℕ, zero, suc, ◌+◌, ◌<◌, ◌≤◌, T, List, [], ◌∷◌, length, ℤ, pos, ◌+ℤ◌, ◌*ℤ◌, sym, refl, ap, ◌∙◌, subst, ap₂, inl, inr, add-zero, zero-add, arith}
use lib.IntN.{+ℤ_idl, +ℤ_idr, +ℤ_assoc}
use lib.Signed.{le_z, lt_z}
use Rattle.std.proofs.lemmas.Int.{ints}
use Rattle.std.proofs.lemmas.Bool.{cases_eq}
use Rattle.layout.proofs.Count.{both_left, both_right}
use Rattle.dossier.specs.declared.fault.AdmitFault.{AdmitFault}
use Rattle.dossier.specs.Rows.{Row, dot, value, holds, zero_row, sum_to, constant, taken, each_from, each}
use Rattle.dossier.specs.Dossier.{head, cell}
use Rattle.dossier.specs.Kinds.{NonNegative}
use Rattle.dossier.specs.Lines.{sums, same, coefficients_agree, constant_suffices}
use Rattle.dossier.specs.Admission.{lines}
use Rattle.dossier.specs.Laws.{AllPass, AllHold, LineLaw}
use Rattle.dossier.specs.Ranges.{Line}
use Rattle.dossier.proofs.Integers.{0≤-+ℤ, 0≤-*ℤ, 0≤-cancel}
use Rattle.dossier.proofs.RowValues.{dot_same, value_zero, value_plus, value_times, value_constant, zero_holds}
use Rattle.dossier.proofs.Trials.{of_true, each_nonnegative}

-- a sum of hypotheses that hold, by multipliers that are not negative, holds
sums_hold : (ms : List ℤ) (hs : List Row) (xs : List ℤ) → NonNegative ms → AllHold hs xs → T (holds (sums ms hs) xs)
sums_hold [] hs xs n h = of_true (holds zero_row xs) (zero_holds xs)
sums_hold (m ∷ ms) [] xs n h = of_true (holds zero_row xs) (zero_holds xs)
sums_hold (m ∷ ms) (g ∷ hs) xs n h =
    subst (λ v. T (le_z (pos 0) v)) (sym (value_plus (λ i. m *ℤ g i) (sums ms hs) xs ∙ ap (λ z. z +ℤ value (sums ms hs) xs) (value_times m g xs)))
    (0≤-+ℤ (m *ℤ value g xs) (value (sums ms hs) xs) (0≤-*ℤ m (value g xs) n.0 h.0) (sums_hold ms hs xs n.1 h.1))

coefficients_same : (n : ℕ) (d : ℤ) (ms : List ℤ) (hs : List Row) (c : Row) → T (coefficients_agree n d ms hs c) → (i : ℕ) → i < n → d *ℤ c (suc i) ≡ sums ms hs (suc i)
coefficients_same zero d ms hs c h i l = absurd (omega arith)
coefficients_same (suc n) d ms hs c h i l =
    elim (cases_eq i n) [
      | inl e ↦ subst (λ j. d *ℤ c (suc j) ≡ sums ms hs (suc j)) (sym e) (is_same (d *ℤ c (suc n)) (sums ms hs (suc n)) (both_right (coefficients_agree n d ms hs c) _ h))
      | inr e ↦ coefficients_same n d ms hs c (both_left (coefficients_agree n d ms hs c) _ h) i (omega arith)
    ]
  where
    is_same : (a b : ℤ) → T (same a b) → a ≡ b
    is_same a b h = let low = both_left (le_z a b) (le_z b a) h in let high = both_right (le_z a b) (le_z b a) h in omega (arith, ints)

pub line_law : LineLaw
line_law n d ms hs c h positive weights xs long all =
    let agree = coefficients_same n d ms hs c (both_left (coefficients_agree n d ms hs c) _ h) in
    let suffices = both_right (coefficients_agree n d ms hs c) (constant_suffices d ms hs c) h in
    let variables = dot_same (λ i. d *ℤ c i) (sums ms hs) 0 xs (λ i low high. agree i (omega arith)) in
    0≤-cancel d (value c xs) positive
    (subst (λ v. T (le_z (pos 0) v)) (value_times d c xs)
    (at_least (sums ms hs 0) (dot (sums ms hs) 1 xs) (d *ℤ c 0) (dot (λ i. d *ℤ c i) 1 xs) suffices variables (sums_hold ms hs xs weights all)))
  where
    at_least : (a s b t : ℤ) → T (le_z a b) → t ≡ s → T (le_z (pos 0) (a +ℤ s)) → T (le_z (pos 0) (b +ℤ t))
    at_least a s b t h e k = omega (arith, ints)

-- lines that pass ---------------------------------------------------------------------------------

above_one : (d : ℤ) → T (le_z (pos 1) d) → T (lt_z (pos 0) d)
above_one d h = grind (arith)

module _ (cells : List ℤ) (at : ℕ → ℕ) (n : ℕ) (hs : List Row) (named : ℕ → AdmitFault) (xs : List ℤ) (sized : length xs ≡ (head cells).variables) (given : AllHold hs xs) where
  lines_hold_from : (k : ℕ) (cs : List Row) → AllPass (lines cells at n hs named k cs) → ((j : ℕ) → k ≤ j → j < k + length cs → Line cells (at j) n) → AllHold cs xs
  lines_hold_from k [] h r = tt
  lines_hold_from k (c ∷ cs) h r =
      let here : Line cells (at k) n = r k (omega arith) (omega arith) in
      let ms : NonNegative (each n (λ j. cell cells (at k + 1 + j))) = each_nonnegative n (λ j. cell cells (at k + 1 + j)) (λ j l. both_left _ _ (here.1 j l)) in (
        line_law (head cells).variables (cell cells (at k)) (each n (λ j. cell cells (at k + 1 + j))) hs c h.0 (above_one (cell cells (at k)) (both_left _ _ here.0)) ms xs sized given,
        lines_hold_from (suc k) cs h.1 (λ j l u. r j (omega arith) (omega arith)),
      )

  -- where every line passes, the hypotheses give every conclusion
  pub lines_hold : (count : ℕ) (cs : List Row) → length cs ≡ count → ((j : ℕ) → j < count → Line cells (at j) n) → AllPass (lines cells at n hs named 0 cs) → AllHold cs xs
  lines_hold count cs e r h = lines_hold_from 0 cs h (λ j l u. r j (omega arith))

-- rows taken at a step ----------------------------------------------------------------------------

value_sum_to : (n : ℕ) (f : ℕ → Row) (xs : List ℤ) → value (λ j. sum_to n (λ v. f v j)) xs ≡ sum_to n (λ v. value (f v) xs)
value_sum_to zero f xs = value_zero xs
value_sum_to (suc n) f xs = value_plus (λ j. sum_to n (λ v. f v j)) (f n) xs ∙ ap (λ z. z +ℤ value (f n) xs) (value_sum_to n f xs)

sum_to_same : (n : ℕ) (f g : ℕ → ℤ) → ((v : ℕ) → f v ≡ g v) → sum_to n f ≡ sum_to n g
sum_to_same zero f g h = refl
sum_to_same (suc n) f g h = ap₂ ◌+ℤ◌ (sum_to_same n f g h) (h n)

-- a sum up to i, with the products from column i + 1 on, is the sum up to i + n
sum_to_more : (r : Row) (g : ℕ → ℤ) (i n : ℕ) → sum_to i (λ v. r (suc v) *ℤ g v) +ℤ dot r (suc i) (each_from i n g) ≡ sum_to (i + n) (λ v. r (suc v) *ℤ g v)
sum_to_more r g i zero = +ℤ_idr _ ∙ ap (λ m. sum_to m (λ v. r (suc v) *ℤ g v)) (sym (add-zero i))
sum_to_more r g i (suc n) =
    sym (+ℤ_assoc (sum_to i (λ v. r (suc v) *ℤ g v)) (r (suc i) *ℤ g i) (dot r (suc (suc i)) (each_from (suc i) n g)))
    ∙ sum_to_more r g (suc i) n
    ∙ ap (λ m. sum_to m (λ v. r (suc v) *ℤ g v)) (swap i n)
  where
    swap : (i n : ℕ) → suc i + n ≡ i + suc n
    swap i n = omega arith

pub dot_each : (r : Row) (g : ℕ → ℤ) (n : ℕ) → dot r 1 (each n g) ≡ sum_to n (λ v. r (suc v) *ℤ g v)
dot_each r g n = sym (+ℤ_idl (dot r 1 (each n g))) ∙ sum_to_more r g 0 n ∙ ap (λ m. sum_to m (λ v. r (suc v) *ℤ g v)) (zero-add n)

-- a row taken at a step has, at the old values, the value that the row has at the new ones
pub taken_value : (n : ℕ) (r : Row) (us : ℕ → Row) (xs : List ℤ) → value (taken n r us) xs ≡ value r (each n (λ v. value (us v) xs))
taken_value n r us xs =
    value_plus (constant r) (λ j. sum_to n (λ v. r (suc v) *ℤ us v j)) xs
    ∙ ap₂ ◌+ℤ◌ (value_constant r xs)
    (value_sum_to n (λ v j. r (suc v) *ℤ us v j) xs
    ∙ sum_to_same n (λ v. value (λ j. r (suc v) *ℤ us v j) xs) (λ v. r (suc v) *ℤ value (us v) xs) (λ v. value_times (r (suc v)) (us v) xs)
    ∙ sym (dot_each r (λ v. value (us v) xs) n))
