use Rattle.std.proofs.Common.{◌≡◌, ℕ, ◌+◌, ◌*◌, ◌^◌, ◌<◌, ◌≤◌, List, [], ◌∷◌, ◌++◌, length, unwrap_or, refl, ap, subst, sym, ◌∙◌, add-zero, zero-add, arith, rules}
use Rattle.std.proofs.iter.Yields.{serves_by, gives_left, slice_gives, fronts}
use Rattle.std.proofs.lemmas.Fn.{fold_over}
use Rattle.std.proofs.lemmas.List.{length_push}
use Rattle.layout.specs.declared.fault.Place.{Place}
use Rattle.layout.specs.Reading.{nibble, digits, ahead}
use Rattle.layout.proofs.Hex.{digit_nibble}
use Rattle.sheet.proofs.Bytes.{shifted_small, seven_digits, shifted_most, byte_more}
use Rattle.sheet.proofs.Nibbles.{no, is_digit, at_most_no}
use Rattle.sheet.proofs.Served.{fewer}
use Rattle.sheet.proofs.reading.all_digits.Goals as goal

-- no sum passes 64 bits
bounded_more : {A : Type 0} (bytes : List A) (x : A) (b value next : ℕ) → next ≡ value * 16 + unwrap_or (nibble b) no → 15 * value + no ≤ no * 16 ^ length bytes → 15 * next + no ≤ no * 16 ^ length (bytes ++ x ∷ [])
bounded_more bytes x b value next is so_far =
    subst (λ n. 15 * next + no ≤ no * 16 ^ n) (sym (length_push bytes x))
    (subst (λ v. 15 * v + no ≤ no * 16 ^ (length bytes + 1)) (sym is) (shifted_most (length bytes) value (unwrap_or (nibble b) no) no so_far (at_most_no b _ refl)))

-- while every byte was a digit, the number is theirs
abbrev Read : List ℕ → ℕ → Type 0
Read bytes value = (15 * value + no ≤ no * 16 ^ length bytes) × (value < no → (value < 16 ^ length bytes) × ((p : Place) (n : ℕ) (more : List ℕ) → digits (length bytes + n) 0 (bytes ++ more) p ≡ digits n value more (ahead p (length bytes))))

read_more : (bytes : List ℕ) (b value next : ℕ) → next ≡ value * 16 + unwrap_or (nibble b) no → Read bytes value → Read (bytes ++ b ∷ []) next
read_more bytes b value next is so_far = (
  bounded_more bytes b b value next is so_far.0,
  λ h.
      let d = unwrap_or (nibble b) no in
      let there = is_digit (nibble b) d refl (omega (arith, is)) in
      let before = so_far.1 (omega (arith, is)) in (
        subst (λ n. next < 16 ^ n) (sym (length_push bytes b)) (subst (λ v. v < 16 ^ (length bytes + 1)) (sym is) (shifted_small (length bytes) value d before.0 (digit_nibble b d there).0)),
        λ p n more. byte_more bytes more b n value d p there (before.1 p) ∙ ap (λ v. digits n v more (ahead p (length (bytes ++ b ∷ [])))) (sym is),
      ),
)

none_read : (p : Place) (n : ℕ) (more : List ℕ) → digits (0 + n) 0 more p ≡ digits n 0 more (ahead p 0)
none_read p n more = ap (λ m. digits m 0 more p) (zero-add n) ∙ ap (λ b. digits n 0 more (record { line = p.line; byte = b })) (sym (add-zero p.byte))

pub fold-value-requires-clause-callable : goal.fold-value-requires-clause-callable
fold-value-requires-clause-callable c =
    serves_by _ (λ xs q. 15 * q.1 + no ≤ no * 16 ^ length xs)
    (λ xs q x w j r. let is : w.1 ≡ q.1 * 16 + unwrap_or (nibble x.now) no = search rules in bounded_more xs x x.now q.1 w.1 is j)
    fronts _ _ _ (omega arith)
    (λ xs t q x u y e j. let m = gives_left fronts (λ z. z.now) xs _ _ t (slice_gives c.iter.result) y in
    let place = fewer t u x e _ xs m.0 m.1 m.2 in
    let small = seven_digits (length xs) (omega (arith, place, ap length c.iter.ensures.rest, c.requires)) in
    let top : q.1 < 576460752303423488 = omega (arith, small, j) in search rules)

pub returns-then-value-lt-NO : goal.returns-then-value-lt-NO
returns-then-value-lt-NO c =
    let whole = subst (λ l. Read l c.fold-value.result) c.iter.ensures.rest
    (fold_over fronts (λ y. y.now) _ Read _ (λ ys a x b f' j k. let is : b ≡ a * 16 + unwrap_or (nibble x.now) no = search rules in (read_more ys x.now a b is j, refl))
    _ _ _ _ (slice_gives c.iter.result) (omega arith, λ h. (omega arith, λ p n more. none_read p n more)) c.fold-value.ensures.ran) in
    let here = whole.1 (omega arith) in
    (here.0, λ more p. ap (λ n. digits n 0 (c.args.part.now ++ more) p) (sym (add-zero (length c.args.part.now))) ∙ here.1 p 0 more)
