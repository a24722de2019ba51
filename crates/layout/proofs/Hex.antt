-- Hexadecimal digits, written and read back.
use Rattle.std.proofs.Common.{◌≡◌, ℕ, zero, suc, ◌+◌, ◌*◌, ◌/◌, ◌%◌, ◌^◌, ◌<◌, List, [], ◌∷◌, ◌++◌, drop, Some, None, Ok, Option, sym, refl, ap, ◌∙◌, ap₂, mul_assoc, mul_comm, add-mul, pow-suc, arith}
use native.Mathlib.Nat.{pow-le-pow_right}
use lib.Arith.{digits_lt, digits_div, digits_mod}
use Rattle.std.proofs.lemmas.Nat.{div-add-mod', div_below, mod_below}
use Rattle.std.proofs.lemmas.Bool.Decides.{nat_tests}
use Rattle.layout.specs.declared.fault.Place.{Place}
use Rattle.layout.specs.Text.{digit, hex}
use Rattle.layout.specs.Walk.{next}
use Rattle.layout.specs.Reading.{ahead, nibble, shift, digits}

pub nibble_digit : (d : ℕ) → d < 16 → nibble (digit d) ≡ Some d
nibble_digit d h = grind (arith, nat_tests)

pub digit_nibble : (b d : ℕ) → nibble b ≡ Some d → (d < 16) × (b ≡ digit d)
digit_nibble b d e = (grind (arith, nat_tests), grind (arith, nat_tests))

pow_pos : (n : ℕ) → 0 < 16 ^ n
pow_pos n = pow-le-pow_right {n = 16} (omega arith) {i = 0} {j = n} (omega arith)

pow_16 : (n : ℕ) → 16 ^ suc n ≡ 16 * 16 ^ n
pow_16 n = pow-suc 16 n ∙ mul_comm (16 ^ n) 16

-- one digit d between what was read before it and the n digits after it
carried : (n so_far d v : ℕ) → (so_far * 16 + d) * 16 ^ n + v ≡ so_far * 16 ^ suc n + (d * 16 ^ n + v)
carried n so_far d v =
    rw (pow_16 n) omega (arith, add-mul (so_far * 16) d (16 ^ n), mul_assoc so_far 16 (16 ^ n))

pub digits_hex : (n so_far v : ℕ) (more : List ℕ) (p : Place) → v < 16 ^ n → digits n so_far (hex n v ++ more) p ≡ Ok (so_far * 16 ^ n + v)
digits_hex zero so_far v more p h = ap Ok (omega arith)
digits_hex (suc n) so_far v more p h =
    let small : v / 16 ^ n < 16 = div_below v (16 ^ n) 16 (pow_pos n) (rw (← pow_16 n) h) in
    rw (nibble_digit (v / 16 ^ n) small)
    (digits_hex n (so_far * 16 + v / 16 ^ n) (v % 16 ^ n) more (ahead p 1) (mod_below v (16 ^ n) (pow_pos n))
    ∙ ap Ok (carried n so_far (v / 16 ^ n) (v % 16 ^ n) ∙ ap (λ x. so_far * 16 ^ suc n + x) (div-add-mod' v (16 ^ n))))

-- what n digits at the front of bytes tell
pub record DigitsOf (n so_far : ℕ) (bytes : List ℕ) (w : ℕ) : Type 0 where
  pub value : ℕ
  pub small : value < 16 ^ n
  pub sum : w ≡ so_far * 16 ^ n + value
  pub front : bytes ≡ hex n value ++ drop n bytes

pub digits_are : (n so_far : ℕ) (bytes : List ℕ) (p : Place) (w : ℕ) → digits n so_far bytes p ≡ Ok w → DigitsOf n so_far bytes w
digits_are zero so_far bytes p w e = record { value = 0; small = omega arith; sum = let q : w ≡ so_far = cc in omega arith; front = refl }
digits_are (suc n) so_far [] p w e = let z : ◌≡◌ {A = ℕ} 0 1 = cc in absurd (omega arith)
digits_are (suc n) so_far (b ∷ bytes) p w e = go (λ d. digits_are n (so_far * 16 + d) bytes (ahead p 1) w) (nibble b) refl e
  where
    go : ((d : ℕ) → digits n (so_far * 16 + d) bytes (ahead p 1) ≡ Ok w → DigitsOf n (so_far * 16 + d) bytes w)
        → (k : Option ℕ) → nibble b ≡ k → next (shift so_far b p k) (λ v. digits n v bytes (ahead p 1)) ≡ Ok w → DigitsOf (suc n) so_far (b ∷ bytes) w
    go after None is e = let z : ◌≡◌ {A = ℕ} 0 1 = cc in absurd (omega arith)
    go after (Some d) is e =
        let r = after d e in
        let found = digit_nibble b d is in
        record {
          value = d * 16 ^ n + r.value;
          small = rw (pow_16 n) (digits_lt found.0 r.small);
          sum = r.sum ∙ carried n so_far d r.value;
          front = ap₂ (λ x xs. x ∷ xs)
              (found.1 ∙ ap digit (sym (digits_div d r.small)))
              (r.front ∙ ap (λ x. hex n x ++ drop n bytes) (sym (digits_mod d r.small)));
        }
