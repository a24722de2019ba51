-- Ranks by first difference are lawful: the fall rows of a mode give a fall, and no chain of falls is endless.
use Rattle.std.proofs.Common.{◌≡◌, ℕ, zero, suc, ◌+◌, ◌-◌, ◌<◌, ◌≤◌, Bool, true, false, cond, T, eqb, ltb, leb, ◌⊎◌, List, [], ◌∷◌, length, get_or, drop, ℤ, pos, ◌-ℤ◌, nat_abs, sym, refl, ap, ◌∙◌, subst, ap₂, inl, inr, add-zero, add_assoc, add-one, arith, ltb→lt}
use lib.Signed.{le_z, lt_z}
use Rattle.std.proofs.lemmas.Int.{ints}
use Rattle.std.proofs.lemmas.Bool.{le-leb, lt-leb, lt-ltb, le-ltb, eq-eqb, ne_eqb, cond_both}
use Rattle.layout.specs.Cells.{both}
use Rattle.layout.proofs.Count.{both_left, both_right, both_from}
use Rattle.dossier.specs.declared.fall.Fall.{Fall}
use Rattle.dossier.specs.declared.fall.Fall.TheVariants.{None, Keeps, Drops}
use Rattle.dossier.specs.Kinds.{Rank, Outside, Inside, fall_value, lower, fall_of, by_first_difference}
use Rattle.dossier.specs.Laws.{KindsLaw, OutsideLaw}

abbrev head : List ℤ → ℤ
head xs = get_or xs 0 (pos 0)

-- lower at the head, or not higher there and lower behind it
lower_at_head : (x y : ℤ) (xs ys : List ℤ) → T (lt_z y x) → T (lower (x ∷ xs) (y ∷ ys))
lower_at_head x y xs ys h = cond_both (lt_z y x) true _ T (λ e. tt) (λ e. absurd (subst T e h))

lower_behind : (x y : ℤ) (xs ys : List ℤ) → T (le_z y x) → T (lower xs ys) → T (lower (x ∷ xs) (y ∷ ys))
lower_behind x y xs ys h k = cond_both (lt_z y x) true _ T (λ e. tt) (λ e. both_from (both (le_z x y) (le_z y x)) (lower xs ys) (both_from (le_z x y) (le_z y x) (omega (arith, ints)) h) k)

-- and conversely
lower_cases : (x y : ℤ) (xs ys : List ℤ) → T (lower (x ∷ xs) (y ∷ ys)) → T (lt_z y x) ⊎ (T (le_z y x) × T (lower xs ys))
lower_cases x y xs ys = cond_both (lt_z y x) true (both (both (le_z x y) (le_z y x)) (lower xs ys)) (λ b. T b → T (lt_z y x) ⊎ (T (le_z y x) × T (lower xs ys)))
    (λ e t. inl (subst T (sym e) tt))
    (λ e t. inr (both_right (le_z x y) (le_z y x) (both_left (both (le_z x y) (le_z y x)) (lower xs ys) t), both_right (both (le_z x y) (le_z y x)) (lower xs ys) t))

-- no number before number k, counted from 0, rises, and number k falls
lower_at : (k : ℕ) (old new : List ℤ) → length old ≡ length new → k < length old → ((i : ℕ) → i < k → T (le_z (get_or new i (pos 0)) (get_or old i (pos 0)))) → T (lt_z (get_or new k (pos 0)) (get_or old k (pos 0))) → T (lower old new)
lower_at k [] new e l keeps drops = absurd (omega arith)
lower_at k (x ∷ xs) [] e l keeps drops = absurd (omega arith)
lower_at zero (x ∷ xs) (y ∷ ys) e l keeps drops = lower_at_head x y xs ys drops
lower_at (suc k) (x ∷ xs) (y ∷ ys) e l keeps drops = lower_behind x y xs ys (keeps 0 (omega arith)) (lower_at k xs ys (omega arith) (omega arith) (λ i h. keeps (suc i) (omega arith)) drops)

-- what the modes call for
fall_keeps : (n mode i : ℕ) → mode ≤ n → i + 1 < mode → fall_of n mode i ≡ Keeps i
fall_keeps n mode i h k = rw (le-leb mode n h, lt-ltb i n (omega arith), lt-ltb (i + 1) mode k)

fall_drops : (n mode i : ℕ) → mode ≤ n → i + 1 ≡ mode → fall_of n mode i ≡ Drops i
fall_drops n mode i h k = rw (le-leb mode n h, lt-ltb i n (omega arith), le-ltb (i + 1) mode (omega arith), eq-eqb (i + 1) mode k)

fall_inside : (n mode i : ℕ) → Inside n (fall_of n mode i)
fall_inside n mode i = cond_both (both (leb mode n) (ltb i n)) _ None (Inside n)
    (λ e. let l = ltb→lt i n (both_right (leb mode n) (ltb i n) (subst T (sym e) tt)) in
    cond_both (ltb (i + 1) mode) (Keeps i) _ (Inside n) (λ _. l) (λ _. cond_both (eqb (i + 1) mode) (Drops i) None (Inside n) (λ _. l) (λ _. tt)))
    (λ e. tt)

steps_lower : (n mode : ℕ) (old new : List ℤ) → 1 ≤ mode → mode ≤ n → Rank (by_first_difference n) old → Rank (by_first_difference n) new
    → ((i : ℕ) → i < n → T (le_z (pos 0) (fall_value (fall_of n mode i) old new))) → T (lower old new)
steps_lower n mode old new some within was is falls =
    let k = mode - 1 in
    lower_at k old new (was.0 ∙ sym is.0) (omega arith)
    (λ i h. keeps (get_or old i (pos 0)) (get_or new i (pos 0)) (subst (λ f. T (le_z (pos 0) (fall_value f old new))) (fall_keeps n mode i within (omega arith)) (falls i (omega arith))))
    (drops (get_or old k (pos 0)) (get_or new k (pos 0)) (subst (λ f. T (le_z (pos 0) (fall_value f old new))) (fall_drops n mode k within (omega arith)) (falls k (omega arith))))
  where
    keeps : (a b : ℤ) → T (le_z (pos 0) (a -ℤ b)) → T (le_z b a)
    keeps a b h = omega (arith, ints)

    drops : (a b : ℤ) → T (le_z (pos 0) ((a -ℤ b) -ℤ pos 1)) → T (lt_z b a)
    drops a b h = omega (arith, ints)

-- after a fall the head is not higher, and it is lower where the numbers behind it do not fall
head_keeps : (old new : List ℤ) → T (lower old new) → T (le_z (head new) (head old))
head_keeps [] new h = absurd h
head_keeps (x ∷ xs) [] h = absurd h
head_keeps (x ∷ xs) (y ∷ ys) h = elim (lower_cases x y xs ys h) [ inl l ↦ omega (arith, ints) | inr l ↦ l.0 ]

head_drops : (old new : List ℤ) → T (lower old new) → (T (lower (drop 1 old) (drop 1 new)) → ⊥) → T (lt_z (head new) (head old))
head_drops [] new h stays = absurd h
head_drops (x ∷ xs) [] h stays = absurd h
head_drops (x ∷ xs) (y ∷ ys) h stays = elim (lower_cases x y xs ys h) [ inl l ↦ l | inr l ↦ absurd (stays l.1) ]

abbrev Ranks : ℕ → (ℕ → List ℤ) → Type 0
Ranks n s = (i : ℕ) → Rank (by_first_difference n) (s i)

-- a place where a sequence does not fall
abbrev Stays : (ℕ → List ℤ) → Type 0
Stays s = (i : ℕ) × (T (lower (s i) (s (i + 1))) → ⊥)

falls_or_not : (b : Bool) → T b ⊎ (T b → ⊥)
falls_or_not true = inl tt
falls_or_not false = inr (λ h. h)

-- up to any place, the sequence stays somewhere or the head has not risen
reached : (s : ℕ → List ℤ) (i : ℕ) → Stays s ⊎ T (le_z (head (s i)) (head (s 0)))
reached s zero = inr (omega (arith, ints))
reached s (suc i) = elim (reached s i) [
  | inl stays ↦ inl stays
  | inr h ↦ elim (falls_or_not (lower (s i) (s (i + 1)))) [
    | inl falls ↦ inr (further (head (s (suc i))) (head (s i)) (head (s 0)) (subst (λ j. T (le_z (head (s j)) (head (s i)))) (add-one i) (head_keeps (s i) (s (i + 1)) falls)) h)
    | inr stays ↦ inl (i, stays)
  ]
]
  where
    further : (a b c : ℤ) → T (le_z a b) → T (le_z b c) → T (le_z a c)
    further a b c h k = omega (arith, ints)

rank_tail : (n : ℕ) (xs : List ℤ) → Rank (by_first_difference (suc n)) xs → Rank (by_first_difference n) (drop 1 xs)
rank_tail n [] r = absurd (omega (arith, r.0))
rank_tail n (x ∷ xs) r = (omega (arith, r.0), r.1.1)

rank_head : (n : ℕ) (xs : List ℤ) → Rank (by_first_difference (suc n)) xs → T (le_z (pos 0) (head xs))
rank_head n [] r = tt
rank_head n (x ∷ xs) r = r.1.0

stays_from : (s : ℕ → List ℤ) (k : ℕ) → Stays (λ j. s (k + j)) → Stays s
stays_from s k (j, stays) = (k + j, subst (λ m. T (lower (s (k + j)) (s m)) → ⊥) (sym (add_assoc k j 1)) stays)

-- by induction on a bound v of the first head: where the numbers behind the heads do not fall, the sequence stays or the head drops
descend : (n : ℕ) → ((s : ℕ → List ℤ) → Ranks n s → Stays s) → (v : ℕ) (s : ℕ → List ℤ) → Ranks (suc n) s → T (lt_z (head (s 0)) (pos v)) → Stays s
descend n shorter zero s ranks h = absurd (none (head (s 0)) h (rank_head n (s 0) (ranks 0)))
  where
    none : (a : ℤ) → T (lt_z a (pos 0)) → T (le_z (pos 0) a) → ⊥
    none a h k = omega (arith, ints)
descend n shorter (suc v) s ranks h =
    let (i, behind) = shorter (λ j. drop 1 (s j)) (λ j. rank_tail n (s j) (ranks j)) in
    elim (reached s i) [
      | inl stays ↦ stays
      | inr high ↦ elim (falls_or_not (lower (s i) (s (i + 1)))) [
        | inl falls ↦
            let low = below (head (s (i + 1))) (head (s i)) (head (s 0)) (head_drops (s i) (s (i + 1)) falls behind) high h in
            stays_from s (i + 1) (descend n shorter v (λ j. s (i + 1 + j)) (λ j. ranks (i + 1 + j)) (subst (λ m. T (lt_z (head (s m)) (pos v))) (sym (add-zero (i + 1))) low))
        | inr stays ↦ (i, stays)
      ]
    ]
  where
    below : (a b c : ℤ) → T (lt_z a b) → T (le_z b c) → T (lt_z c (pos (suc v))) → T (lt_z a (pos v))
    below a b c h k l = omega (arith, ints)

ends : (n : ℕ) (s : ℕ → List ℤ) → Ranks n s → Stays s
ends zero s ranks = (0, nothing_lower (s 0) (s 1) (ranks 0).0)
  where
    nothing_lower : (old new : List ℤ) → length old ≡ 0 → T (lower old new) → ⊥
    nothing_lower [] new e h = h
    nothing_lower (x ∷ xs) new e h = omega arith
ends (suc n) s ranks = descend n (ends n) (suc (nat_abs (head (s 0)))) s ranks (above (head (s 0)))
  where
    above : (a : ℤ) → T (lt_z a (pos (suc (nat_abs a))))
    above a = omega (arith, ints)

same_ways : (b : Bool) (f : Fall) → f ≡ None → cond b f None ≡ None
same_ways true f e = e
same_ways false f e = refl

-- what stands for a mode and a number of a rank
abbrev called : ℕ → ℕ → Fall
called mode i = cond (ltb (i + 1) mode) (Keeps i) (cond (eqb (i + 1) mode) (Drops i) None)

none_called : (i : ℕ) → called 0 i ≡ None
none_called i = ap₂ (λ a b. cond a (Keeps i) (cond b (Drops i) None)) (le-ltb (i + 1) 0 (omega arith)) (ne_eqb (i + 1) 0 (λ s. omega arith))

fall_outside : (n mode i : ℕ) → Outside n mode i → fall_of n mode i ≡ None
fall_outside n mode i (inl e) = subst (λ m. fall_of n m i ≡ None) (sym e) (same_ways (both (leb 0 n) (ltb i n)) (called 0 i) (none_called i))
fall_outside n mode i (inr (inl l)) = ap (λ b. cond (both b (ltb i n)) (called mode i) None) (lt-leb mode n l)
fall_outside n mode i (inr (inr l)) = ap (λ b. cond b (called mode i) None) (ap (both (leb mode n)) (le-ltb i n l) ∙ nothing (leb mode n))
  where
    nothing : (b : Bool) → both b false ≡ false
    nothing true = refl
    nothing false = refl

pub kinds_law : KindsLaw
kinds_law n = record { inside = fall_inside n; steps_down = steps_lower n; ends = ends n }

pub outside_law : OutsideLaw
outside_law n = fall_outside n
