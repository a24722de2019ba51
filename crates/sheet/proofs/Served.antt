-- How far a loop over a list has come, where one item more comes.
use Rattle.std.proofs.Common.{◌≡◌, ◌<◌, ◌++◌, List, [], ◌∷◌, length, map, Bor, Iter, Some, ap, arith}
use Rattle.std.proofs.iter.Yields.{fronts}
use Rattle.std.proofs.lemmas.List.{length-append, length-map}
use Rattle.std.specs.Iterator.{AlwaysYields}

module _ {A : Type 0} (t u : Iter A) (x : Bor A) (comes : fronts t (Some x) u) where
  some_left : (more : List A) → AlwaysYields fronts (λ z. z.now) t more → 0 < length more
  some_left [] ends = absurd (ends x u comes)
  some_left (b ∷ more) left = omega arith

  -- fewer than all came before it
  pub fewer : (items : List A) (before : List (Bor A)) (more : List A) → items ≡ map (λ z. z.now) before ++ more → AlwaysYields fronts (λ z. z.now) t more → length before < length items
  fewer items before more all left =
      let some = some_left more left in
      omega (arith, ap length all, length-append (map (λ (z : Bor A). z.now) before) more, length-map before (λ (z : Bor A). z.now))
