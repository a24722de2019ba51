-- Sums of products, one after the other.
use Rattle.std.proofs.Common.{◌≡◌, ℕ, ◌+◌, ℤ, ◌+ℤ◌, sym, ap, ◌∙◌, add-one}
use lib.IntN.{+ℤ_assoc}
use Rattle.dossier.specs.Rows.{sum_to}

-- one term more
pub sum_to_more : (a s t : ℤ) (n : ℕ) (f : ℕ → ℤ) → s ≡ a +ℤ sum_to n f → t ≡ f n → s +ℤ t ≡ a +ℤ sum_to (n + 1) f
sum_to_more a s t n f p q = ap (λ x. x +ℤ t) p ∙ ap (λ x. (a +ℤ sum_to n f) +ℤ x) q ∙ +ℤ_assoc a (sum_to n f) (f n) ∙ ap (λ m. a +ℤ sum_to m f) (sym (add-one n))
