-- Lists of trials, of rows and of numbers: what holds of a whole holds of each part, and back.
use Rattle.std.proofs.Common.{◌≡◌, ℕ, zero, suc, ◌+◌, ◌<◌, ◌≤◌, Bool, true, false, cond, T, eqb, List, [], ◌∷◌, ◌++◌, length, get_or, ℤ, pos, Some, None, Ok, Err, Option, sym, refl, ap, ◌∙◌, subst, ⊎_elim, arith, eqb→eq}
use lib.Signed.{le_z}
use Rattle.std.specs.List.{flat_map}
use Rattle.std.proofs.lemmas.Bool.{cases_eq}
use Rattle.layout.specs.Cells.{both}
use Rattle.layout.proofs.Count.{both_left, both_right}
use Rattle.dossier.specs.declared.fault.AdmitFault.{AdmitFault}
use Rattle.dossier.specs.Rows.{Row, holds, each, each_from}
use Rattle.dossier.specs.Kinds.{NonNegative}
use Rattle.dossier.specs.Admission.{Trial, first_failure, verdict}
use Rattle.dossier.specs.Laws.{AllPass, AllHold}

-- a test passed, in its two forms
pub is_true : (b : Bool) → T b → b ≡ true
is_true true h = refl
is_true false h = absurd h

pub of_true : (b : Bool) → b ≡ true → T b
of_true b h = subst T (sym h) tt

pub both_equal : (a b c d : ℕ) → T (both (eqb a b) (eqb c d)) → (a ≡ b) × (c ≡ d)
both_equal a b c d h = (eqb→eq a b (both_left (eqb a b) (eqb c d) h), eqb→eq c d (both_right (eqb a b) (eqb c d) h))

-- the first failure -------------------------------------------------------------------------------

passed : (b : Bool) (o : Option AdmitFault) (f : AdmitFault) → cond b o (Some f) ≡ None → T b × (o ≡ None)
passed true o f h = (tt, h)
passed false o f h = absurd (let z : ◌≡◌ {A = ℕ} 0 1 = cc in omega arith)

pub none_fails : (ts : List Trial) → first_failure ts ≡ None → AllPass ts
none_fails [] h = tt
none_fails (t ∷ ts) h =
    let p = passed t.passes (first_failure ts) t.fault h in
    (p.0, none_fails ts p.1)

pub all_passed : (ts : List Trial) → AllPass ts → first_failure ts ≡ None
all_passed [] h = refl
all_passed (t ∷ ts) h = rw (is_true t.passes h.0) (all_passed ts h.1)

pub verdict_ok : (count n : ℕ) (o : Option AdmitFault) → verdict count o ≡ Ok n → (n ≡ count) × (o ≡ None)
verdict_ok count n None h = (cc, refl)
verdict_ok count n (Some f) h = absurd (let z : ◌≡◌ {A = ℕ} 0 1 = cc in omega arith)

pub verdict_err : (count : ℕ) (f : AdmitFault) (o : Option AdmitFault) → verdict count o ≡ Err f → o ≡ Some f
verdict_err count f None h = absurd (let z : ◌≡◌ {A = ℕ} 0 1 = cc in omega arith)
verdict_err count f (Some e) h = cc

-- one trial, and trials before others ---------------------------------------------------------------

pub first_passes : (t : Trial) (ts : List Trial) → t.passes ≡ true → first_failure (t ∷ ts) ≡ first_failure ts
first_passes t ts h = ap (λ b. cond b (first_failure ts) (Some t.fault)) h

pub first_fails : (t : Trial) (ts : List Trial) → t.passes ≡ false → first_failure (t ∷ ts) ≡ Some t.fault
first_fails t ts h = ap (λ b. cond b (first_failure ts) (Some t.fault)) h

-- the first failure, or what comes after
abbrev or_else : Option AdmitFault → Option AdmitFault → Option AdmitFault
or_else None o = o
or_else (Some f) o = Some f

or_else_cond : (b : Bool) (o p : Option AdmitFault) (f : AdmitFault) → cond b (or_else o p) (Some f) ≡ or_else (cond b o (Some f)) p
or_else_cond true o p f = refl
or_else_cond false o p f = refl

first_failure_append : (xs ys : List Trial) → first_failure (xs ++ ys) ≡ or_else (first_failure xs) (first_failure ys)
first_failure_append [] ys = refl
first_failure_append (x ∷ xs) ys = ap (λ o. cond x.passes o (Some x.fault)) (first_failure_append xs ys) ∙ or_else_cond x.passes (first_failure xs) (first_failure ys) x.fault

pub append_passes : (xs ys : List Trial) → first_failure xs ≡ None → first_failure (xs ++ ys) ≡ first_failure ys
append_passes xs ys h = first_failure_append xs ys ∙ ap (λ o. or_else o (first_failure ys)) h

pub append_fails : (xs ys : List Trial) (f : AdmitFault) → first_failure xs ≡ Some f → first_failure (xs ++ ys) ≡ Some f
append_fails xs ys f h = first_failure_append xs ys ∙ ap (λ o. or_else o (first_failure ys)) h

-- parts of trials ---------------------------------------------------------------------------------

pub pass_append : (xs ys : List Trial) → AllPass (xs ++ ys) → AllPass xs × AllPass ys
pass_append [] ys h = (tt, h)
pass_append (x ∷ xs) ys h = let r = pass_append xs ys h.1 in ((h.0, r.0), r.1)

pub append_pass : (xs ys : List Trial) → AllPass xs → AllPass ys → AllPass (xs ++ ys)
append_pass [] ys h k = k
append_pass (x ∷ xs) ys h k = (h.0, append_pass xs ys h.1 k)

joined_pass_from : (f : ℕ → List Trial) (i n : ℕ) → ((k : ℕ) → i ≤ k → k < i + n → AllPass (f k)) → AllPass (flat_map f (each_from i n (λ q. q)))
joined_pass_from f i zero h = tt
joined_pass_from f i (suc n) h = append_pass (f i) (flat_map f (each_from (suc i) n (λ q. q))) (h i (omega arith) (omega arith)) (joined_pass_from f (suc i) n (λ k l u. h k (omega arith) (omega arith)))

pub joined_pass : (f : ℕ → List Trial) (n : ℕ) → ((k : ℕ) → k < n → AllPass (f k)) → AllPass (flat_map f (each n (λ q. q)))
joined_pass f n h = joined_pass_from f 0 n (λ k l u. h k (omega arith))

pass_joined_from : (f : ℕ → List Trial) (i n : ℕ) → AllPass (flat_map f (each_from i n (λ q. q))) → (k : ℕ) → i ≤ k → k < i + n → AllPass (f k)
pass_joined_from f i zero h k l u = absurd (omega arith)
pass_joined_from f i (suc n) h k l u =
    let r = pass_append (f i) (flat_map f (each_from (suc i) n (λ q. q))) h in
    ⊎_elim (λ e. subst (λ x. AllPass (f x)) e r.0) (λ e. pass_joined_from f (suc i) n r.1 k (omega arith) (omega arith)) (cases_eq i k)

pub pass_joined : (f : ℕ → List Trial) (n : ℕ) → AllPass (flat_map f (each n (λ q. q))) → (k : ℕ) → k < n → AllPass (f k)
pass_joined f n h k u = pass_joined_from f 0 n h k (omega arith) (omega arith)

-- parts of rows -----------------------------------------------------------------------------------

pub hold_append : (hs gs : List Row) (xs : List ℤ) → AllHold (hs ++ gs) xs → AllHold hs xs × AllHold gs xs
hold_append [] gs xs h = (tt, h)
hold_append (r ∷ hs) gs xs h = let p = hold_append hs gs xs h.1 in ((h.0, p.0), p.1)

pub append_hold : (hs gs : List Row) (xs : List ℤ) → AllHold hs xs → AllHold gs xs → AllHold (hs ++ gs) xs
append_hold [] gs xs h k = k
append_hold (r ∷ hs) gs xs h k = (h.0, append_hold hs gs xs h.1 k)

-- every element of a list made from a function of the index
module _ {A : Type 0} (P : A → Type 0) (All : List A → Type 0) (f : ℕ → A) where
  each_all_from : All [] → ((x : A) (ys : List A) → P x → All ys → All (x ∷ ys)) → (i n : ℕ) → ((k : ℕ) → i ≤ k → k < i + n → P (f k)) → All (each_from i n f)
  each_all_from nil cons i zero h = nil
  each_all_from nil cons i (suc n) h = cons (f i) (each_from (suc i) n f) (h i (omega arith) (omega arith)) (each_all_from nil cons (suc i) n (λ k l u. h k (omega arith) (omega arith)))

  all_each_from : ((x : A) (ys : List A) → All (x ∷ ys) → P x × All ys) → (i n : ℕ) → All (each_from i n f) → (k : ℕ) → i ≤ k → k < i + n → P (f k)
  all_each_from split i zero h k l u = absurd (omega arith)
  all_each_from split i (suc n) h k l u =
      let r = split (f i) (each_from (suc i) n f) h in
      ⊎_elim (λ e. subst (λ x. P (f x)) e r.0) (λ e. all_each_from split (suc i) n r.1 k (omega arith) (omega arith)) (cases_eq i k)

pub pass_each : (n : ℕ) (f : ℕ → Trial) → AllPass (each n f) → (k : ℕ) → k < n → T (f k).passes
pass_each n f h k u = all_each_from (λ t. T t.passes) AllPass f (λ x ys p. p) 0 n h k (omega arith) (omega arith)

pub each_pass : (n : ℕ) (f : ℕ → Trial) → ((k : ℕ) → k < n → T (f k).passes) → AllPass (each n f)
each_pass n f h = each_all_from (λ t. T t.passes) AllPass f tt (λ x ys p q. (p, q)) 0 n (λ k l u. h k (omega arith))

pub each_hold : (n : ℕ) (f : ℕ → Row) (xs : List ℤ) → ((k : ℕ) → k < n → T (holds (f k) xs)) → AllHold (each n f) xs
each_hold n f xs h = each_all_from (λ r. T (holds r xs)) (λ rs. AllHold rs xs) f tt (λ x ys p q. (p, q)) 0 n (λ k l u. h k (omega arith))

pub hold_each : (n : ℕ) (f : ℕ → Row) (xs : List ℤ) → AllHold (each n f) xs → (k : ℕ) → k < n → T (holds (f k) xs)
hold_each n f xs h k u = all_each_from (λ r. T (holds r xs)) (λ rs. AllHold rs xs) f (λ x ys p. p) 0 n h k (omega arith) (omega arith)

pub each_nonnegative : (n : ℕ) (f : ℕ → ℤ) → ((k : ℕ) → k < n → T (le_z (pos 0) (f k))) → NonNegative (each n f)
each_nonnegative n f h = each_all_from (λ x. T (le_z (pos 0) x)) NonNegative f tt (λ x ys p q. (p, q)) 0 n (λ k l u. h k (omega arith))

pub nonnegative_each : (n : ℕ) (f : ℕ → ℤ) → NonNegative (each n f) → (k : ℕ) → k < n → T (le_z (pos 0) (f k))
nonnegative_each n f h k u = all_each_from (λ x. T (le_z (pos 0) x)) NonNegative f (λ x ys p. p) 0 n h k (omega arith) (omega arith)

length_each_from : {A : Type 0} (f : ℕ → A) (i n : ℕ) → length (each_from i n f) ≡ n
length_each_from f i zero = refl
length_each_from f i (suc n) = ap suc (length_each_from f (suc i) n)

pub length_each : {A : Type 0} (n : ℕ) (f : ℕ → A) → length (each n f) ≡ n
length_each n f = length_each_from f 0 n

getD_each_from : {A : Type 0} (f : ℕ → A) (i n k : ℕ) (d : A) → k < n → get_or (each_from i n f) k d ≡ f (i + k)
getD_each_from f i zero k d h = absurd (omega arith)
getD_each_from f i (suc n) zero d h = ap f (omega arith)
getD_each_from f i (suc n) (suc k) d h = getD_each_from f (suc i) n k d (omega arith) ∙ ap f (omega arith)

pub getD_each : {A : Type 0} (n : ℕ) (f : ℕ → A) (k : ℕ) (d : A) → k < n → get_or (each n f) k d ≡ f k
getD_each n f k d h = getD_each_from f 0 n k d h ∙ ap f (omega arith)
