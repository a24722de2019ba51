use Rattle.std.proofs.Common.{◌≡◌, ℕ, suc, ◌+◌, ◌-◌, ◌*◌, ◌<◌, ⊎_elim, List, [], ◌∷◌, length, get_or, ℤ, pos, ◌+ℤ◌, ◌*ℤ◌, sym, ap, ◌∙◌, subst, ap₂, arith, w64, SFits, rules}
use lib.IntN.{+ℤ_assoc, +ℤ_idr}
use Rattle.std.proofs.lemmas.Int.{to_z-of_z}
use Rattle.dossier.specs.Lines.{sums}
use Rattle.certificate.specs.Arrays.{Within, rows_of, Multiplied}
use Rattle.certificate.proofs.Bounds.{product_within, sum_within, within_more}
use Rattle.certificate.proofs.Weights.{first_factor, first_number, others}
use Rattle.certificate.proofs.line.column_sums.Goals as goal

-- what is left before a product and behind it
left : (ms ms' : List ℤ) (hs hs' : List (List ℤ)) (m : ℤ) (h : List ℤ) → ms ≡ m ∷ ms' → hs ≡ h ∷ hs' → Multiplied ms hs → Multiplied (m ∷ ms') (h ∷ hs')
left ms ms' hs hs' m h p q all = subst (λ xs. Multiplied xs (h ∷ hs')) p (subst (Multiplied ms) q all)

pub add_scaled-requires : goal.add_scaled-requires
add_scaled-requires c =
    let steps = c.in-Some.ensures.steps in
    let all = left _ _ _ _ _ _ steps.0 steps.1 c.loop-multiplier.invariant.left in
    let m : SFits w64 c.in-Some.multiplier.now = search rules in
    let one : length c.loop-multiplier.multiplier-iterator.a.rest.now ≡ suc (length c.next.new.self.a.rest.now) = ap length steps.0 in
    simp to_z-of_z (record {
      width = c.requires.width;
      factor = first_factor all;
      numbers = first_number all;
      room = λ j l. within_more _ _ _ (omega (arith, one, c.loop-multiplier.invariant.left.few)) (c.loop-multiplier.invariant.within j l);
    })

-- one product moves from what is left to the sum
moved : (s t : ℤ) (m : ℤ) (h : List ℤ) (j : ℕ) (ms ms' : List ℤ) (hs hs' : List (List ℤ)) (all : ℤ) → ms ≡ m ∷ ms' → hs ≡ h ∷ hs' → t ≡ s +ℤ (m *ℤ get_or h j (pos 0)) → s +ℤ sums ms (rows_of hs) j ≡ all → t +ℤ sums ms' (rows_of hs') j ≡ all
moved s t m h j ms ms' hs hs' all p q e total =
    ap (λ x. x +ℤ sums ms' (rows_of hs') j) e
    ∙ +ℤ_assoc s (m *ℤ get_or h j (pos 0)) (sums ms' (rows_of hs') j)
    ∙ sym (ap₂ (λ xs ys. s +ℤ sums xs (rows_of ys) j) p q)
    ∙ total

pub loop-multiplier-preserved : goal.loop-multiplier-preserved
loop-multiplier-preserved c =
    let steps = c.in-Some.ensures.steps in
    let inv = c.loop-multiplier.invariant in
    let all = left _ _ _ _ _ _ steps.0 steps.1 inv.left in
    let m : SFits w64 c.in-Some.multiplier.now = search rules in
    let n = length c.next.new.self.a.rest.now in
    let one : length c.loop-multiplier.multiplier-iterator.a.rest.now ≡ suc n = ap length steps.0 in
    let count : (18 - suc n) * 36028797018963968 + 36028797018963968 ≡ (18 - n) * 36028797018963968 = omega (arith, one, inv.left.few) in
    let term : (j : ℕ) → j < c.args.width → get_or c.add_scaled.new.sums j (pos 0) ≡ get_or c.loop-multiplier.sums j (pos 0) +ℤ (c.in-Some.multiplier.now *ℤ get_or c.in-Some.row.now j (pos 0)) = simp to_z-of_z at c.add_scaled.ensures in
    record {
      whole = λ j l. moved (get_or c.loop-multiplier.sums j (pos 0)) (get_or c.add_scaled.new.sums j (pos 0)) c.in-Some.multiplier.now c.in-Some.row.now j _ _ _ _ _ steps.0 steps.1 (term j l) (inv.whole j l);
      left = others all;
      within = λ j l.
          subst (Within ((18 - n) * 36028797018963968)) (sym (term j l))
          (subst (λ k. Within k (get_or c.loop-multiplier.sums j (pos 0) +ℤ (c.in-Some.multiplier.now *ℤ get_or c.in-Some.row.now j (pos 0)))) count
          (sum_within ((18 - suc n) * 36028797018963968) 36028797018963968 _ _
          (subst (λ k. Within ((18 - k) * 36028797018963968) (get_or c.loop-multiplier.sums j (pos 0))) one (inv.within j l))
          (product_within 1048576 34359738368 c.in-Some.multiplier.now (get_or c.in-Some.row.now j (pos 0)) (first_factor all) (first_number all j))));
    }

-- nothing is left
none_left : (s : ℤ) (ms : List ℤ) (hs : List (List ℤ)) (j : ℕ) (all : ℤ) → length ms ≡ 0 → s +ℤ sums ms (rows_of hs) j ≡ all → s ≡ all
none_left s [] hs j all none total = sym (+ℤ_idr s) ∙ total
none_left s (m ∷ ms) hs j all none total = absurd (omega arith)

pub returns : goal.returns
returns c j l =
    let long = c.loop-multiplier.invariant.left.long in
    let none : length c.loop-multiplier.multiplier-iterator.a.rest.now ≡ 0 = ⊎_elim (λ x. x.1.0) (λ x. long ∙ x.1.0) c.in-None.ensures.steps in
    none_left (get_or c.loop-multiplier.sums j (pos 0)) c.loop-multiplier.multiplier-iterator.a.rest.now c.loop-multiplier.multiplier-iterator.b.rest.now j _ none (c.loop-multiplier.invariant.whole j l)
