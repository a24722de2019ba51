-- Lists made from a function of the index.
use Rattle.std.proofs.Common.{◌≡◌, ℕ, zero, suc, ◌+◌, ◌<◌, ◌≤◌, List, [], ◌∷◌, ◌++◌, length, sym, refl, ap, ◌∙◌, ap₂, append_assoc, arith}
use Rattle.std.proofs.lemmas.List.{length-append}
use Rattle.dossier.specs.Rows.{each, each_from}
use Rattle.dossier.proofs.Trials.{length_each}

module _ {A : Type 0} where
  split_from : (i m n : ℕ) (f : ℕ → A) → each_from i (m + n) f ≡ each_from i m f ++ each_from (i + m) n f
  split_from i zero n f = ap₂ (λ k j. each_from j k f) (let e : 0 + n ≡ n = omega arith in e) (let e : i ≡ i + 0 = omega arith in e)
  split_from i (suc m) n f =
      ap (λ k. each_from i k f) (let e : suc m + n ≡ suc (m + n) = omega arith in e)
      ∙ ap (λ l. f i ∷ l) (split_from (suc i) m n f ∙ ap (λ j. each_from (suc i) m f ++ each_from j n f) (let e : suc i + m ≡ i + suc m = omega arith in e))

  shifted : (i m n : ℕ) (f : ℕ → A) → each_from (m + i) n f ≡ each_from i n (λ k. f (m + k))
  shifted i m zero f = refl
  shifted i m (suc n) f = ap (λ l. f (m + i) ∷ l) (ap (λ j. each_from j n f) (let e : suc (m + i) ≡ m + suc i = omega arith in e) ∙ shifted (suc i) m n f)

  -- the first m, and the n behind them
  pub each_split : (m n : ℕ) (f : ℕ → A) → each (m + n) f ≡ each m f ++ each n (λ k. f (m + k))
  each_split m n f = split_from 0 m n f ∙ ap (λ l. each m f ++ l) (ap (λ j. each_from j n f) (let e : 0 + m ≡ m + 0 = omega arith in e) ∙ shifted 0 m n f)

  -- one more
  pub each_more : (n : ℕ) (f : ℕ → A) → each (n + 1) f ≡ each n f ++ f n ∷ []
  each_more n f = each_split n 1 f ∙ ap (λ k. each n f ++ f k ∷ []) (let e : n + 0 ≡ n = omega arith in e)

  same_from : (i n : ℕ) (f g : ℕ → A) → ((k : ℕ) → i ≤ k → k < i + n → f k ≡ g k) → each_from i n f ≡ each_from i n g
  same_from i zero f g h = refl
  same_from i (suc n) f g h = ap₂ ◌∷◌ (h i (omega arith) (omega arith)) (same_from (suc i) n f g (λ k l u. h k (omega arith) (omega arith)))

  pub each_same : (n : ℕ) (f g : ℕ → A) → ((k : ℕ) → k < n → f k ≡ g k) → each n f ≡ each n g
  each_same n f g h = same_from 0 n f g (λ k l u. h k (omega arith))

-- a list that is filled one by one behind a base
module _ {A : Type 0} (base xs : List A) (i : ℕ) (f : ℕ → A) (so_far : xs ≡ base ++ each i f) where
  pub pushed : (ys : List A) (x : A) → ys ≡ xs ++ x ∷ [] → x ≡ f i → ys ≡ base ++ each (i + 1) f
  pushed ys x e is = e ∙ ap₂ (λ l a. l ++ a ∷ []) so_far is ∙ append_assoc base (each i f) (f i ∷ []) ∙ ap (λ l. base ++ l) (sym (each_more i f))

  pub filled_length : length xs ≡ length base + i
  filled_length = ap length so_far ∙ length-append base (each i f) ∙ ap (λ n. length base + n) (length_each i f)
