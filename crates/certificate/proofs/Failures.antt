-- The first failure of trials that are made one after the other. A loop's invariant says that what is left gives the answer.
use Rattle.std.proofs.Common.{◌≡◌, ℕ, suc, ◌+◌, ◌-◌, ◌<◌, ◌≤◌, true, false, List, [], ◌∷◌, ◌++◌, Some, None, Ok, Err, Option, sym, refl, ap, ◌∙◌, add-one, arith}
use Rattle.std.specs.List.{flat_map}
use Rattle.dossier.specs.declared.fault.AdmitFault.{AdmitFault}
use Rattle.dossier.specs.Rows.{each, each_from}
use Rattle.dossier.specs.Admission.{Trial, first_failure}
use Rattle.dossier.proofs.Trials.{first_passes, first_fails, append_passes, append_fails}
use Rattle.certificate.specs.Outcomes.{outcome, passed}

-- what a function that makes the trials answers ----------------------------------------------------

none_of : (o : Option AdmitFault) → outcome o ≡ Ok tt → o ≡ None
none_of None h = refl
none_of (Some f) h = absurd (let z : ◌≡◌ {A = ℕ} 0 1 = cc in omega arith)

some_of : (o : Option AdmitFault) (f : AdmitFault) → outcome o ≡ Err f → o ≡ Some f
some_of None f h = absurd (let z : ◌≡◌ {A = ℕ} 0 1 = cc in omega arith)
some_of (Some e) f h = cc

pub none_fails : (ts : List Trial) → Ok tt ≡ passed ts → first_failure ts ≡ None
none_fails ts h = none_of (first_failure ts) (sym h)

pub some_fails : (ts : List Trial) (f : AdmitFault) → Err f ≡ passed ts → first_failure ts ≡ Some f
some_fails ts f h = some_of (first_failure ts) f (sym h)

-- a loop over indices -------------------------------------------------------------------------------

module _ {A : Type 0} (n k : ℕ) (f : ℕ → A) where
  pub each_more : k < n → each_from k (n - k) f ≡ f k ∷ each_from (k + 1) (n - (k + 1)) f
  each_more h = ap (λ m. each_from k m f) (let e : n - k ≡ suc (n - (k + 1)) = omega arith in e) ∙ ap (λ i. f k ∷ each_from i (n - (k + 1)) f) (sym (add-one k))

  each_done : n ≤ k → each_from k (n - k) f ≡ []
  each_done h = ap (λ m. each_from k m f) (let e : n - k ≡ 0 = omega arith in e)

-- a trial for each index below n: those from k on give the answer
abbrev pub Left : ℕ → (ℕ → Trial) → ℕ → Type 0
Left n trial k = first_failure (each_from k (n - k) trial) ≡ first_failure (each n trial)

module _ (n : ℕ) (trial : ℕ → Trial) where
  pub left_begins : Left n trial 0
  left_begins = ap (λ m. first_failure (each_from 0 m trial)) (let e : n - 0 ≡ n = omega arith in e)

  pub left_more : (k : ℕ) → k < n → (trial k).passes ≡ true → Left n trial k → Left n trial (k + 1)
  left_more k h p l = sym (ap first_failure (each_more n k trial h) ∙ first_passes (trial k) (each_from (k + 1) (n - (k + 1)) trial) p) ∙ l

  pub left_fails : (k : ℕ) → k < n → (trial k).passes ≡ false → Left n trial k → Err (trial k).fault ≡ passed (each n trial)
  left_fails k h p l = ap outcome (sym (ap first_failure (each_more n k trial h) ∙ first_fails (trial k) (each_from (k + 1) (n - (k + 1)) trial) p) ∙ l)

  pub left_done : (k : ℕ) → n ≤ k → Left n trial k → Ok tt ≡ passed (each n trial)
  left_done k h l = ap outcome (sym (ap first_failure (each_done n k trial h)) ∙ l)

-- trials for each index below n: those from k on give the answer
abbrev pub LeftJoined : ℕ → (ℕ → List Trial) → ℕ → Type 0
LeftJoined n trials k = first_failure (flat_map trials (each_from k (n - k) (λ i. i))) ≡ first_failure (flat_map trials (each n (λ i. i)))

module _ (n : ℕ) (trials : ℕ → List Trial) where
  rest_more : (k : ℕ) → k < n → flat_map trials (each_from k (n - k) (λ i. i)) ≡ trials k ++ flat_map trials (each_from (k + 1) (n - (k + 1)) (λ i. i))
  rest_more k h = ap (flat_map trials) (each_more n k (λ i. i) h)

  pub joined_begins : LeftJoined n trials 0
  joined_begins = ap (λ m. first_failure (flat_map trials (each_from 0 m (λ i. i)))) (let e : n - 0 ≡ n = omega arith in e)

  pub joined_more : (k : ℕ) → k < n → Ok tt ≡ passed (trials k) → LeftJoined n trials k → LeftJoined n trials (k + 1)
  joined_more k h p l = sym (ap first_failure (rest_more k h) ∙ append_passes (trials k) _ (none_fails (trials k) p)) ∙ l

  pub joined_first : (k : ℕ) (f : AdmitFault) → k < n → first_failure (trials k) ≡ Some f → LeftJoined n trials k → first_failure (flat_map trials (each n (λ i. i))) ≡ Some f
  joined_first k f h p l = sym l ∙ ap first_failure (rest_more k h) ∙ append_fails (trials k) _ f p

  pub joined_fails : (k : ℕ) (f : AdmitFault) → k < n → Err f ≡ passed (trials k) → LeftJoined n trials k → Err f ≡ passed (flat_map trials (each n (λ i. i)))
  joined_fails k f h p l = sym (ap outcome (joined_first k f h (some_fails (trials k) f p) l))

  pub joined_done : (k : ℕ) → n ≤ k → LeftJoined n trials k → Ok tt ≡ passed (flat_map trials (each n (λ i. i)))
  joined_done k h l = ap outcome (sym (ap (λ is. first_failure (flat_map trials is)) (each_done n k (λ i. i) h)) ∙ l)
