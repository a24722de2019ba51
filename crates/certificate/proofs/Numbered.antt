-- Tests of the elements of a list, one after the other. A loop's invariant says that what is left gives the answer.
use Rattle.std.proofs.Common.{◌≡◌, ℕ, ◌+◌, ◌<◌, ◌≤◌, true, false, List, ◌∷◌, length, get_or, drop, ℤ, Some, None, sym, refl, ap, ◌∙◌, add-one}
use Rattle.std.proofs.lemmas.List.{drop_more, drop_all}
use Rattle.dossier.specs.Admission.{Trial, first_failure, lines}
use Rattle.dossier.specs.Rows.{Row, zero_row}
use Rattle.dossier.specs.declared.fault.AdmitFault.{AdmitFault}
use Rattle.dossier.proofs.InOrder.{numbered, line_trial, lines_numbered}
use Rattle.dossier.proofs.Trials.{first_passes, first_fails}

module _ {A : Type 0} (trial : ℕ → A → Trial) (d : A) (xs : List A) where
  -- the tests from k on give the answer
  abbrev pub Left : ℕ → Type 0
  Left k = first_failure (numbered trial k (drop k xs)) ≡ first_failure (numbered trial 0 xs)

  pub begins : Left 0
  begins = refl

  module _ (k : ℕ) (inside : k < length xs) where
    next : first_failure (numbered trial k (drop k xs)) ≡ first_failure (trial k (get_or xs k d) ∷ numbered trial (k + 1) (drop (k + 1) xs))
    next =
        ap (λ rest. first_failure (numbered trial k rest)) (drop_more xs k d inside)
        ∙ ap (λ i. first_failure (trial k (get_or xs k d) ∷ numbered trial i (drop (k + 1) xs))) (sym (add-one k))

    pub more : (trial k (get_or xs k d)).passes ≡ true → Left k → Left (k + 1)
    more h l = sym (next ∙ first_passes (trial k (get_or xs k d)) (numbered trial (k + 1) (drop (k + 1) xs)) h) ∙ l

    pub fails : (trial k (get_or xs k d)).passes ≡ false → Left k → first_failure (numbered trial 0 xs) ≡ Some (trial k (get_or xs k d)).fault
    fails h l = sym l ∙ next ∙ first_fails (trial k (get_or xs k d)) (numbered trial (k + 1) (drop (k + 1) xs)) h

  pub done : (k : ℕ) → length xs ≤ k → Left k → first_failure (numbered trial 0 xs) ≡ None
  done k over l = sym l ∙ ap (λ rest. first_failure (numbered trial k rest)) (drop_all k xs over)

-- conclusions in order, each with its line
module _ (cells : List ℤ) (at : ℕ → ℕ) (n : ℕ) (hypotheses : List Row) (named : ℕ → AdmitFault) (cs : List Row) where
  abbrev pub LinesLeft : ℕ → Type 0
  LinesLeft = Left (line_trial cells at n hypotheses named) zero_row cs

  pub line_more : (k : ℕ) → k < length cs → (line_trial cells at n hypotheses named k (get_or cs k zero_row)).passes ≡ true → LinesLeft k → LinesLeft (k + 1)
  line_more = more (line_trial cells at n hypotheses named) zero_row cs

  pub line_fails : (k : ℕ) → k < length cs → (line_trial cells at n hypotheses named k (get_or cs k zero_row)).passes ≡ false → LinesLeft k → first_failure (lines cells at n hypotheses named 0 cs) ≡ Some (named k)
  line_fails k inside h l = ap first_failure (lines_numbered cells at n hypotheses named 0 cs) ∙ fails (line_trial cells at n hypotheses named) zero_row cs k inside h l

  pub lines_done : (k : ℕ) → length cs ≤ k → LinesLeft k → first_failure (lines cells at n hypotheses named 0 cs) ≡ None
  lines_done k over l = ap first_failure (lines_numbered cells at n hypotheses named 0 cs) ∙ done (line_trial cells at n hypotheses named) zero_row cs k over l
