-- An edge's rows hold at a place exactly where the edge matches the letter.
use Rattle.std.proofs.Common.{◌≡◌, ℕ, ◌^◌, ◌<◌, Bool, true, false, cond, not, T, eqb, List, ℤ, sym, refl, ap, ◌∙◌, subst, eqb→eq}
use lib.Bits.{bit_and}
use Rattle.std.proofs.lemmas.Nat.{and_comm}
use Rattle.std.proofs.lemmas.Bool.{eq-eqb, not-true}
use Rattle.layout.proofs.Count.{both_left, both_right, both_from}
use Rattle.dossier.specs.Rows.{Row, holds, zero_row, negated, less}
use Rattle.dossier.specs.Dossier.{head, is_place, proposition_place, proposition_row, must, must_not, bit}
use Rattle.dossier.specs.Runs.{proposition_holds, letter, matches}
use Rattle.dossier.specs.Admission.{demand, wanted, unwanted, edge_row}
use Rattle.dossier.proofs.Trials.{is_true, of_true}
use Rattle.dossier.proofs.RowValues.{zero_holds, minus_one_fails, opposite_holds}
use Rattle.dossier.proofs.Masks.{covered_bit, apart_bit, masked, letter_bit}

module _ (cells : List ℤ) (xs : List ℤ) where
  demanded : (b d : Bool) (r : Row) → holds (cond b (demand cells d) r) xs ≡ cond b d (holds r xs)
  demanded true true r = zero_holds xs
  demanded true false r = minus_one_fails xs
  demanded false d r = refl

  refused : (b d : Bool) (r : Row) → holds (cond b (demand cells (cond d false true)) (less (negated r) 1)) xs ≡ not (cond b d (holds r xs))
  refused true true r = minus_one_fails xs
  refused true false r = zero_holds xs
  refused false d r = opposite_holds r xs

  -- one of three rows, by two tests
  chosen_holds : (b c : Bool) (r s : Row) → (b ≡ true → holds r xs ≡ true) → (c ≡ true → holds s xs ≡ true) → T (holds (cond b r (cond c s zero_row)) xs)
  chosen_holds true c r s f g = of_true (holds r xs) (f refl)
  chosen_holds false true r s f g = of_true (holds s xs) (g refl)
  chosen_holds false false r s f g = of_true (holds zero_row xs) (zero_holds xs)

  first_holds : (b c : Bool) (r s : Row) → T (holds (cond b r (cond c s zero_row)) xs) → b ≡ true → holds r xs ≡ true
  first_holds b c r s h e = is_true (holds r xs) (subst (λ b. T (holds (cond b r (cond c s zero_row)) xs)) e h)

  second_holds : (b c : Bool) (r s : Row) → T (holds (cond b r (cond c s zero_row)) xs) → b ≡ false → c ≡ true → holds s xs ≡ true
  second_holds b c r s h e f = first_holds c false s zero_row (subst (λ b. T (holds (cond b r (cond c s zero_row)) xs)) e h) f

  module _ (place : ℕ) where
    wanted_is : (i : ℕ) → holds (wanted cells place i) xs ≡ proposition_holds cells i place xs
    wanted_is i = demanded (is_place cells i) (eqb place (proposition_place cells i)) (proposition_row cells i)

    unwanted_is : (i : ℕ) → holds (unwanted cells place i) xs ≡ not (proposition_holds cells i place xs)
    unwanted_is i = refused (is_place cells i) (eqb place (proposition_place cells i)) (proposition_row cells i)

    letter_is : (i : ℕ) → i < (head cells).propositions → bit i (letter cells place xs) ≡ proposition_holds cells i place xs
    letter_is i h = letter_bit cells place xs (head cells).propositions i h

    module _ (e : ℕ) where
      pub matching_holds : T (matches cells e (letter cells place xs)) → (i : ℕ) → i < (head cells).propositions → T (holds (edge_row cells e place i) xs)
      matching_holds m i h =
          let l : ℕ = letter cells place xs in
          let yes : bit_and l (must cells e) ≡ must cells e = eqb→eq _ _ (both_left _ _ m) in
          let no : bit_and l (must_not cells e) ≡ 0 = eqb→eq _ _ (both_right (eqb (bit_and l (must cells e)) (must cells e)) _ m) in
          chosen_holds (bit i (must cells e)) (bit i (must_not cells e)) (wanted cells place i) (unwanted cells place i)
          (λ b. wanted_is i ∙ sym (letter_is i h) ∙ covered_bit i l (must cells e) yes b)
          (λ b. unwanted_is i ∙ ap not (sym (letter_is i h) ∙ apart_bit i l (must_not cells e) no b))

      pub holding_matches : must cells e < 2 ^ (head cells).propositions → must_not cells e < 2 ^ (head cells).propositions → bit_and (must_not cells e) (must cells e) ≡ 0 →
          ((i : ℕ) → i < (head cells).propositions → T (holds (edge_row cells e place i) xs)) → T (matches cells e (letter cells place xs))
      holding_matches u v apart h =
          let l : ℕ = letter cells place xs in
          let yes : bit_and l (must cells e) ≡ must cells e = masked true (head cells).propositions l (must cells e)
          (λ i k b. letter_is i k ∙ sym (wanted_is i) ∙ first_holds (bit i (must cells e)) (bit i (must_not cells e)) (wanted cells place i) (unwanted cells place i) (h i k) b) u in
          let no : bit_and l (must_not cells e) ≡ 0 = masked false (head cells).propositions l (must_not cells e)
          (λ i k b. letter_is i k ∙ not-true (proposition_holds cells i place xs) (sym (unwanted_is i)
          ∙ second_holds (bit i (must cells e)) (bit i (must_not cells e)) (wanted cells place i) (unwanted cells place i) (h i k)
          (apart_bit i (must cells e) (must_not cells e) (and_comm (must cells e) (must_not cells e) ∙ apart) b) b)) v in
          both_from _ _ (of_true _ (eq-eqb _ _ yes)) (of_true _ (eq-eqb _ _ no))
