-- A byte at a place, and the digits from there.
use Rattle.std.proofs.Common.{◌≡◌, ℕ, suc, ◌+◌, ◌-◌, ◌*◌, ◌^◌, ◌<◌, ◌≤◌, List, [], ◌∷◌, ◌++◌, length, take, drop, Some, None, Ok, Err, Option, sym, refl, ap, ◌∙◌, add_assoc, pow-suc, add-one, arith, lit<, length-drop}
use native.Mathlib.Nat.{pow-le-pow_right}
use Rattle.std.proofs.lemmas.List.{length_push, append_assoc, drop-drop, length-take-le, take-append-drop}
use Rattle.layout.specs.declared.fault.Place.{Place}
use Rattle.layout.specs.declared.fault.FieldFault.{FieldFault}
use Rattle.layout.specs.Reading.{nibble, digits, ahead, shift}
use Rattle.layout.specs.Walk.{next}
use Rattle.sheet.specs.Digit.{digit_of, one_digit, Whole}

pub ahead_more : (p : Place) (i j : ℕ) {q r : Place} → q ≡ ahead p i → r ≡ ahead q j → r ≡ ahead p (i + j)
ahead_more p i j e f = f ∙ ap (λ x. ahead x j) e ∙ ap (λ n. record { line = p.line; byte = n }) (add_assoc p.byte i j)

-- one digit of several
module _ (n v : ℕ) where
  pub digits_more : (l : List ℕ) (p : Place) (d : ℕ) → one_digit l p ≡ Ok d → digits (suc n) v l p ≡ digits n (v * 16 + d) (drop 1 l) (ahead p 1)
  digits_more [] p d e = let z : ◌≡◌ {A = ℕ} 0 1 = cc in absurd (omega arith)
  digits_more (b ∷ l) p d e = go (nibble b) e
    where
      go : (o : Option ℕ) → digit_of b p o ≡ Ok d → next (shift v b p o) (λ w. digits n w l (ahead p 1)) ≡ digits n (v * 16 + d) l (ahead p 1)
      go None h = let z : ◌≡◌ {A = ℕ} 0 1 = cc in absurd (omega arith)
      go (Some x) h = let same : x ≡ d = cc in ap (λ y. digits n (v * 16 + y) l (ahead p 1)) same

  pub digits_stop : (l : List ℕ) (p : Place) (f : FieldFault) → one_digit l p ≡ Err f → digits (suc n) v l p ≡ Err f
  digits_stop [] p f e = cc
  digits_stop (b ∷ l) p f e = go (nibble b) e
    where
      go : (o : Option ℕ) → digit_of b p o ≡ Err f → next (shift v b p o) (λ w. digits n w l (ahead p 1)) ≡ Err f
      go None h = cc
      go (Some x) h = let z : ◌≡◌ {A = ℕ} 0 1 = cc in absurd (omega arith)

-- the next step of a loop over the digits
module _ (text : List ℕ) (p : Place) (k n v : ℕ) (left : k ≡ suc n) where
  pub loop_more : (d : ℕ) → one_digit (drop p.byte text) p ≡ Ok d → (text' : List ℕ) (q : Place) → text' ≡ text → q ≡ ahead p 1 → digits k v (drop p.byte text) p ≡ digits n (v * 16 + d) (drop q.byte text') q
  loop_more d h text' q same on =
      ap (λ m. digits m v (drop p.byte text) p) left
      ∙ digits_more n v (drop p.byte text) p d h
      ∙ ap (λ l. digits n (v * 16 + d) l (ahead p 1)) (drop-drop 1 p.byte text)
      ∙ ap (λ l. digits n (v * 16 + d) (drop (p.byte + 1) l) (ahead p 1)) (sym same)
      ∙ ap (λ x. digits n (v * 16 + d) (drop x.byte text') x) (sym on)

  pub loop_stop : (f : FieldFault) → one_digit (drop p.byte text) p ≡ Err f → digits k v (drop p.byte text) p ≡ Err f
  loop_stop f h = ap (λ m. digits m v (drop p.byte text) p) left ∙ digits_stop n v (drop p.byte text) p f h

-- one digit more keeps a number small
pub shifted_small : (i v d : ℕ) → v < 16 ^ i → d < 16 → v * 16 + d < 16 ^ (i + 1)
shifted_small i v d hv hd = rw (add-one, pow-suc) (omega arith)

pub seven_digits : (i : ℕ) → i < 8 → 16 ^ i ≤ 268435456
seven_digits i h = pow-le-pow_right (lit< tt) {i = i} {j = 7} (omega arith)

-- a bound on a sum of entries that may be no digits, none of them above `most`: it shows that 64 bits hold the sum
pub shifted_most : (i v d most : ℕ) → 15 * v + most ≤ most * 16 ^ i → d ≤ most → 15 * (v * 16 + d) + most ≤ most * 16 ^ (i + 1)
shifted_most i v d most hv hd = rw (add-one, pow-suc) (omega arith)

-- one byte of several that may all be digits
pub byte_more : (bytes more : List ℕ) (b n v d : ℕ) (p : Place) → nibble b ≡ Some d → ((k : ℕ) (rest : List ℕ) → digits (length bytes + k) 0 (bytes ++ rest) p ≡ digits k v rest (ahead p (length bytes))) → digits (length (bytes ++ b ∷ []) + n) 0 ((bytes ++ b ∷ []) ++ more) p ≡ digits n (v * 16 + d) more (ahead p (length (bytes ++ b ∷ [])))
byte_more bytes more b n v d p e so_far =
    let long : length (bytes ++ b ∷ []) ≡ length bytes + 1 = length_push bytes b in
    ap (λ m. digits m 0 ((bytes ++ b ∷ []) ++ more) p) (omega (arith, long))
    ∙ ap (λ l. digits (length bytes + suc n) 0 l p) (append_assoc bytes (b ∷ []) more)
    ∙ so_far (suc n) (b ∷ more)
    ∙ ap (λ o. next (shift v b (ahead p (length bytes)) o) (λ w. digits n w more (ahead (ahead p (length bytes)) 1))) e
    ∙ ap (digits n (v * 16 + d) more) (ahead_more p (length bytes) 1 refl refl ∙ ap (ahead p) (sym long))

-- the bytes from a place on, all digits
module _ (text : List ℕ) (p : Place) (count v : ℕ) (inside : p.byte ≤ length text) (here : count ≤ length text - p.byte) (whole : Whole (take (p.byte + count - p.byte) (drop p.byte text)) (Some v)) where
  front : take (p.byte + count - p.byte) (drop p.byte text) ≡ take count (drop p.byte text)
  front = ap (λ n. take n (drop p.byte text)) (omega arith)

  long : length (take (p.byte + count - p.byte) (drop p.byte text)) ≡ count
  long = ap length front ∙ length-take-le count (drop p.byte text) (simp length-drop (omega arith))

  pub fast_digits : digits count 0 (drop p.byte text) p ≡ Ok v
  fast_digits =
      ap (λ n. digits n 0 (drop p.byte text) p) (sym long)
      ∙ ap (λ l. digits (length (take (p.byte + count - p.byte) (drop p.byte text))) 0 l p) (sym (ap (λ l. l ++ drop count (drop p.byte text)) front ∙ take-append-drop count (drop p.byte text)))
      ∙ whole.1 (drop count (drop p.byte text)) p
