-- Products of integers: the ring laws, and their order.
use Rattle.std.proofs.Common.{◌≡◌, zero, suc, ◌*◌, T, ℤ, pos, negsuc, ◌+ℤ◌, ◌-ℤ◌, ◌*ℤ◌, neg_ℤ, sym, ap, ◌∙◌, ap₂, zero-le, arith, le→leb}
use lib.IntN.{suc_ℤ, pred_ℤ, +ℤ_idl, +ℤ_invl, suc_ℤ-+ℤ, pred_ℤ-+ℤ, zero-*ℤ, suc_ℤ-*ℤ, pred_ℤ-*ℤ, *ℤ_comm, *ℤ-negsuc}
use lib.Signed.{le_z, lt_z}
use Rattle.std.proofs.lemmas.Int.{ints}

-- induction by successor and predecessor
by_steps : (P : ℤ → Type 0) → P (pos 0) → ((a : ℤ) → P a → P (suc_ℤ a)) → ((a : ℤ) → P a → P (pred_ℤ a)) → (a : ℤ) → P a
by_steps P z s p (pos zero) = z
by_steps P z s p (pos (suc n)) = s (pos n) (by_steps P z s p (pos n))
by_steps P z s p (negsuc zero) = p (pos 0) z
by_steps P z s p (negsuc (suc n)) = p (negsuc n) (by_steps P z s p (negsuc n))

pub +ℤ-*ℤ : (a b c : ℤ) → (a +ℤ b) *ℤ c ≡ (a *ℤ c) +ℤ (b *ℤ c)
+ℤ-*ℤ a b c = by_steps (λ a. (a +ℤ b) *ℤ c ≡ (a *ℤ c) +ℤ (b *ℤ c))
    (ap (λ z. z *ℤ c) (+ℤ_idl b) ∙ sym (ap (λ z. z +ℤ (b *ℤ c)) (zero-*ℤ c) ∙ +ℤ_idl (b *ℤ c)))
    (λ a ih. ap (λ z. z *ℤ c) (suc_ℤ-+ℤ a b) ∙ suc_ℤ-*ℤ (a +ℤ b) c ∙ later (a *ℤ c) (b *ℤ c) c ih (suc_ℤ-*ℤ a c))
    (λ a ih. ap (λ z. z *ℤ c) (pred_ℤ-+ℤ a b) ∙ pred_ℤ-*ℤ (a +ℤ b) c ∙ earlier (a *ℤ c) (b *ℤ c) c ih (pred_ℤ-*ℤ a c))
    a
  where
    later : {s x' : ℤ} (x y c : ℤ) → s ≡ x +ℤ y → x' ≡ x +ℤ c → s +ℤ c ≡ x' +ℤ y
    later x y c e f = omega (arith, ints)

    earlier : {s x' : ℤ} (x y c : ℤ) → s ≡ x +ℤ y → x' ≡ x -ℤ c → s -ℤ c ≡ x' +ℤ y
    earlier x y c e f = omega (arith, ints)

pub *ℤ-+ℤ : (a b c : ℤ) → a *ℤ (b +ℤ c) ≡ (a *ℤ b) +ℤ (a *ℤ c)
*ℤ-+ℤ a b c = *ℤ_comm a (b +ℤ c) ∙ +ℤ-*ℤ b c a ∙ ap₂ ◌+ℤ◌ (*ℤ_comm b a) (*ℤ_comm c a)

pub negℤ-*ℤ : (a b : ℤ) → neg_ℤ a *ℤ b ≡ neg_ℤ (a *ℤ b)
negℤ-*ℤ a b = cancelled (neg_ℤ a *ℤ b) (a *ℤ b) (sym (+ℤ-*ℤ (neg_ℤ a) a b) ∙ ap (λ z. z *ℤ b) (+ℤ_invl a) ∙ zero-*ℤ b)
  where
    cancelled : (x y : ℤ) → x +ℤ y ≡ pos 0 → x ≡ neg_ℤ y
    cancelled x y e = omega (arith, ints)

pub *ℤ-assoc : (a b c : ℤ) → (a *ℤ b) *ℤ c ≡ a *ℤ (b *ℤ c)
*ℤ-assoc a b c = by_steps (λ a. (a *ℤ b) *ℤ c ≡ a *ℤ (b *ℤ c))
    (ap (λ z. z *ℤ c) (zero-*ℤ b) ∙ zero-*ℤ c ∙ sym (zero-*ℤ (b *ℤ c)))
    (λ a ih. ap (λ z. z *ℤ c) (suc_ℤ-*ℤ a b) ∙ +ℤ-*ℤ (a *ℤ b) b c ∙ ap (λ z. z +ℤ (b *ℤ c)) ih ∙ sym (suc_ℤ-*ℤ a (b *ℤ c)))
    (λ a ih. ap (λ z. z *ℤ c) (pred_ℤ-*ℤ a b) ∙ +ℤ-*ℤ (a *ℤ b) (neg_ℤ b) c ∙ ap₂ ◌+ℤ◌ ih (negℤ-*ℤ b c) ∙ sym (pred_ℤ-*ℤ a (b *ℤ c)))
    a

pub 0≤-+ℤ : (a b : ℤ) → T (le_z (pos 0) a) → T (le_z (pos 0) b) → T (le_z (pos 0) (a +ℤ b))
0≤-+ℤ a b h k = omega (arith, ints)

pub 0≤-*ℤ : (a b : ℤ) → T (le_z (pos 0) a) → T (le_z (pos 0) b) → T (le_z (pos 0) (a *ℤ b))
0≤-*ℤ (pos m) (pos n) h k = le→leb 0 (m * n) zero-le
0≤-*ℤ (pos m) (negsuc n) h k = absurd k
0≤-*ℤ (negsuc m) b h k = absurd h

-- a positive factor may be left out
pub 0≤-cancel : (d v : ℤ) → T (lt_z (pos 0) d) → T (le_z (pos 0) (d *ℤ v)) → T (le_z (pos 0) v)
0≤-cancel d (pos n) h k = le→leb 0 n zero-le
0≤-cancel d (negsuc n) h k =
    let more = 0≤-*ℤ d (pos n) (weaker d h) (le→leb 0 n zero-le) in
    absurd (clash d (d *ℤ pos n) h k more (*ℤ-negsuc d n) (*ℤ_comm d (pos (suc n)) ∙ suc_ℤ-*ℤ (pos n) d ∙ ap (λ z. z +ℤ d) (*ℤ_comm (pos n) d)))
  where
    weaker : (d : ℤ) → T (lt_z (pos 0) d) → T (le_z (pos 0) d)
    weaker d h = omega (arith, ints)

    clash : {x y : ℤ} (d z : ℤ) → T (lt_z (pos 0) d) → T (le_z (pos 0) x) → T (le_z (pos 0) z) → x ≡ neg_ℤ y → y ≡ z +ℤ d → ⊥
    clash d z h k m e f = omega (arith, ints)
