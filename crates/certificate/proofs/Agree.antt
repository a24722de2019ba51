-- Coefficients that agree column by column.
use Rattle.std.proofs.Common.{◌≡◌, ℕ, zero, suc, ◌+◌, ◌<◌, ◌≤◌, Bool, true, false, List, ℤ, ◌*ℤ◌, refl, ap, ◌∙◌, subst, ⊎_elim, add-one, arith}
use Rattle.std.proofs.lemmas.Int.{ints}
use Rattle.std.proofs.str.Laws.{order}
use Rattle.layout.specs.Cells.{both}
use Rattle.dossier.specs.Lines.{sums, same, coefficients_agree}
use Rattle.dossier.specs.Rows.{Row}

same_yes : (a b : ℤ) → a ≡ b → same a b ≡ true
same_yes a b e = grind (arith, ints)

same_no : (a b : ℤ) → (a ≡ b → ⊥) → same a b ≡ false
same_no a b e = grind (arith, ints)

both_true : (a b : Bool) → a ≡ true → b ≡ true → both a b ≡ true
both_true a b p q = ap (λ x. both x b) p ∙ q

pub both_false : (a b : Bool) → b ≡ false → both a b ≡ false
both_false true b q = q
both_false false b q = refl

module _ (d : ℤ) (ms : List ℤ) (hs : List Row) (c : Row) where
  pub agree_more : (j : ℕ) → coefficients_agree j d ms hs c ≡ true → d *ℤ c (j + 1) ≡ sums ms hs (j + 1) → coefficients_agree (j + 1) d ms hs c ≡ true
  agree_more j h e = rw add-one (both_true _ _ h (same_yes _ _ (rw add-one at e)))

  pub agree_fails : (n j : ℕ) → j < n → (d *ℤ c (j + 1) ≡ sums ms hs (j + 1) → ⊥) → coefficients_agree n d ms hs c ≡ false
  agree_fails zero j h e = absurd (omega arith)
  agree_fails (suc n) j h e =
      ⊎_elim
      (λ (below : j < n). ap (λ x. both x (same (d *ℤ c (suc n)) (sums ms hs (suc n)))) (agree_fails n j below e))
      (λ (at : n ≤ j). let here : j + 1 ≡ suc n = omega arith in both_false (coefficients_agree n d ms hs c) _ (same_no _ _ (subst (λ i. d *ℤ c i ≡ sums ms hs i → ⊥) here e)))
      (order j n)
