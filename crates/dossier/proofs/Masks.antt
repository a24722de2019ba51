-- Masks bit by bit.
use Rattle.std.proofs.Common.{◌≡◌, ℕ, zero, suc, ◌+◌, ◌-◌, ◌*◌, ◌/◌, ◌%◌, ◌^◌, ◌<◌, min, Bool, true, false, cond, eqb, List, ℤ, sym, refl, ap, ◌∙◌, subst, ap₂, ⊎_elim, add-zero, pow-suc, div-one, arith}
use native.Mathlib.Nat.{add-mul-div_right, zero-div}
use lib.Bits.{bit_and, and_step, and_shr, and_zero_r}
use Rattle.std.proofs.lemmas.Nat.{pow_pos, pow-add, shr-shr, shr_high}
use Rattle.std.proofs.lemmas.Bool.{eqb-true, eqb-false, eq-eqb, ne_eqb, cases_eq}
use Rattle.dossier.specs.Dossier.{bit}
use Rattle.dossier.specs.Runs.{proposition_holds, letter_below}

-- digits ------------------------------------------------------------------------------------------

digit : ℕ → ℕ → ℕ
digit i mask = (mask / 2 ^ i) % 2

digit_set : (i m : ℕ) → bit i m ≡ true → digit i m ≡ 1
unfolding digit
digit_set i m h = eqb-true ((m / 2 ^ i) % 2) 1 h

set_digit : (i m : ℕ) → digit i m ≡ 1 → bit i m ≡ true
unfolding digit
set_digit i m h = eq-eqb ((m / 2 ^ i) % 2) 1 h

clear_digit : (i m : ℕ) → digit i m ≡ 0 → bit i m ≡ false
unfolding digit
clear_digit i m h = ne_eqb ((m / 2 ^ i) % 2) 1 (λ e. omega arith)

digit_and : (i l m : ℕ) → digit i (bit_and l m) ≡ min (digit i l) (digit i m)
unfolding digit
digit_and i l m = ap (λ x. x % 2) (and_shr l m i ∙ and_step (l / 2 ^ i) (m / 2 ^ i)) ∙ omega arith

-- a set bit of a mask -----------------------------------------------------------------------------

pub covered_bit : (i l m : ℕ) → bit_and l m ≡ m → bit i m ≡ true → bit i l ≡ true
unfolding digit
covered_bit i l m h b = set_digit i l (omega (arith, ap (digit i) h, digit_and i l m, digit_set i m b))

pub apart_bit : (i l m : ℕ) → bit_and l m ≡ 0 → bit i m ≡ true → bit i l ≡ false
unfolding digit
apart_bit i l m h b =
    let none : digit i 0 ≡ 0 = ap (λ x. x % 2) (zero-div (2 ^ i)) in
    clear_digit i l (omega (arith, ap (digit i) h, digit_and i l m, digit_set i m b))

-- a mask from its bits ----------------------------------------------------------------------------

bit_half : (i m : ℕ) → bit i (m / 2) ≡ bit (suc i) m
bit_half i m = ap (λ x. eqb (x % 2) 1) (shr-shr m 1 i ∙ ap (λ j. m / 2 ^ j) (omega arith))

bit_zero : (m : ℕ) → bit 0 m ≡ eqb (m % 2) 1
bit_zero m = ap (λ x. eqb (x % 2) 1) (div-one m)

half_below : (k m : ℕ) → m < 2 ^ suc k → m / 2 < 2 ^ k
half_below k m h = omega (arith, pow-suc 2 k)

low_digit : (b : Bool) (l m : ℕ) → (bit 0 m ≡ true → bit 0 l ≡ b) → min (l % 2) (m % 2) ≡ cond b (m % 2) 0
low_digit true l m h = ⊎_elim (λ e. omega (arith, eqb-true (l % 2) 1 (sym (bit_zero l) ∙ h (bit_zero m ∙ eq-eqb (m % 2) 1 e)))) (λ e. omega arith) (cases_eq (m % 2) 1)
low_digit false l m h = ⊎_elim (λ e. omega (arith, eqb-false (l % 2) 1 (sym (bit_zero l) ∙ h (bit_zero m ∙ eq-eqb (m % 2) 1 e)))) (λ e. omega arith) (cases_eq (m % 2) 1)

cond_halves : (b : Bool) (m : ℕ) → cond b (m / 2) 0 * 2 + cond b (m % 2) 0 ≡ cond b m 0
cond_halves true m = omega arith
cond_halves false m = refl

-- where every bit of a mask of k bits is set in l, or every one clear
pub masked : (b : Bool) (k l m : ℕ) → ((i : ℕ) → i < k → bit i m ≡ true → bit i l ≡ b) → m < 2 ^ k → bit_and l m ≡ cond b m 0
masked b zero l m h u =
    let e : m ≡ 0 = omega arith in
    ap (bit_and l) e ∙ and_zero_r l ∙ sym (cond_same b) ∙ ap (λ x. cond b x 0) (sym e)
  where
    cond_same : (b : Bool) → ◌≡◌ {A = ℕ} (cond b 0 0) 0
    cond_same true = refl
    cond_same false = refl
masked b (suc k) l m h u =
    and_step l m
    ∙ ap₂ (λ x y. x * 2 + y)
    (masked b k (l / 2) (m / 2) (λ i d e. bit_half i l ∙ h (suc i) (omega arith) (sym (bit_half i m) ∙ e)) (half_below k m u))
    (low_digit b l m (λ e. h 0 (omega arith) e))
    ∙ cond_halves b m

-- the letter --------------------------------------------------------------------------------------

low_sum : (p : Bool) (n x : ℕ) → x < 2 ^ n → x + cond p (2 ^ n) 0 < 2 ^ suc n
low_sum true n x h = omega (arith, pow-suc 2 n)
low_sum false n x h = omega (arith, pow-suc 2 n)

top_bit : (p : Bool) (n x : ℕ) → x < 2 ^ n → bit n (x + cond p (2 ^ n) 0) ≡ p
top_bit true n x h = ap (λ y. eqb (y % 2) 1) (ap (λ y. y / 2 ^ n) (omega arith) ∙ shr_high 1 n x h)
top_bit false n x h = ap (λ y. eqb (y % 2) 1) (ap (λ y. y / 2 ^ n) (omega arith) ∙ shr_high 0 n x h)

low_bit : (p : Bool) (i n x : ℕ) → i < n → bit i (x + cond p (2 ^ n) 0) ≡ bit i x
low_bit true i n x h =
    let d : ℕ = n - suc i in
    let w : 2 ^ n ≡ 2 ^ suc d * 2 ^ i = ap (λ y. 2 ^ y) (omega arith) ∙ pow-add 2 (suc d) i in
    let e : (x + 2 ^ n) / 2 ^ i ≡ x / 2 ^ i + 2 ^ suc d = ap (λ y. (x + y) / 2 ^ i) w ∙ add-mul-div_right x (2 ^ suc d) (pow_pos i) in
    let f : (x + 2 ^ n) / 2 ^ i % 2 ≡ x / 2 ^ i % 2 = ap (λ y. y % 2) e ∙ omega (arith, pow-suc 2 d) in
    ap (λ y. eqb y 1) f
low_bit false i n x h = ap (bit i) (add-zero x)

module _ (cells : List ℤ) (place : ℕ) (values : List ℤ) where
  pub letter_low : (n : ℕ) → letter_below cells n place values < 2 ^ n
  letter_low zero = omega arith
  letter_low (suc n) = low_sum (proposition_holds cells n place values) n (letter_below cells n place values) (letter_low n)

  -- bit i of the letter tells whether proposition i holds
  pub letter_bit : (n i : ℕ) → i < n → bit i (letter_below cells n place values) ≡ proposition_holds cells i place values
  letter_bit zero i h = absurd (omega arith)
  letter_bit (suc n) i h =
      ⊎_elim
      (λ e. subst (λ k. bit k (letter_below cells (suc n) place values) ≡ proposition_holds cells k place values) (sym e)
      (top_bit (proposition_holds cells n place values) n (letter_below cells n place values) (letter_low n)))
      (λ e. low_bit (proposition_holds cells n place values) i n (letter_below cells n place values) (omega arith) ∙ letter_bit n i (omega arith))
      (cases_eq i n)
