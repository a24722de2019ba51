-- The tests of each form, part by part.
use Rattle.std.proofs.Common.{◌≡◌, ℕ, List, [], ◌∷◌, ◌++◌, ℤ, Some, None, Ok, Err, Option, Result, sym, ap, ◌∙◌, subst}
use Rattle.std.specs.List.{flat_map}
use Rattle.layout.specs.Layout.{Counts}
use Rattle.dossier.specs.declared.fault.AdmitFault.{AdmitFault}
use Rattle.dossier.specs.Admission.{Trial, first_failure, verdict, called_by, watch_trials, start_trials, move_trials, trials_of_move, moves, every_run_lines, admit_every_run, row_trials, shown_rows, choice_trials, some_run_lines, admit_some_run}
use Rattle.dossier.specs.Dossier.{head, points}
use Rattle.dossier.specs.Kinds.{Kind}
use Rattle.dossier.specs.Rows.{each}
use Rattle.dossier.proofs.InOrder.{moves_in_order}
use Rattle.dossier.proofs.Trials.{append_passes, append_fails}
use Rattle.certificate.specs.Outcomes.{passed}
use Rattle.certificate.proofs.Failures.{none_fails, some_fails}

-- form and count of rank numbers, as the code asks
called_passes : (cells : List ℤ) (h : Counts) (form n numbers : ℕ) → h ≡ head cells → n ≡ numbers → Ok tt ≡ passed (called_by h form n ∷ []) → first_failure (called_by (head cells) form numbers ∷ []) ≡ None
called_passes cells h form n numbers e f r = subst (λ m. first_failure (called_by (head cells) form m ∷ []) ≡ None) f (subst (λ k. first_failure (called_by k form n ∷ []) ≡ None) e (none_fails (called_by h form n ∷ []) r))

called_fails : (cells : List ℤ) (h : Counts) (form n numbers : ℕ) (f : AdmitFault) → h ≡ head cells → n ≡ numbers → Err f ≡ passed (called_by h form n ∷ []) → first_failure (called_by (head cells) form numbers ∷ []) ≡ Some f
called_fails cells h form n numbers f e g r = subst (λ m. first_failure (called_by (head cells) form m ∷ []) ≡ Some f) g (subst (λ k. first_failure (called_by k form n ∷ []) ≡ Some f) e (some_fails (called_by h form n ∷ []) f r))

-- parts of tests, one after the other
first_decides : (lines : ℕ) (first rest : List Trial) (f : AdmitFault) → first_failure first ≡ Some f → Err f ≡ verdict lines (first_failure (first ++ rest))
first_decides lines first rest f h = sym (ap (verdict lines) (append_fails first rest f h))

rest_decides : (lines : ℕ) (first rest : List Trial) → first_failure first ≡ None → (r : Result ℕ AdmitFault) → r ≡ verdict lines (first_failure rest) → r ≡ verdict lines (first_failure (first ++ rest))
rest_decides lines first rest h r e = e ∙ sym (ap (verdict lines) (append_passes first rest h))

module _ (kind : Kind) (cells : List ℤ) where
  abbrev all_moves : List Trial
  all_moves = flat_map (trials_of_move cells kind) (each (moves cells) (λ m. m))

  abbrev stepped : List Trial
  stepped = flat_map (λ t. flat_map (λ e. move_trials cells kind t e) (each (head cells).edges (λ e. e))) (each (head cells).steps (λ t. t))

  abbrev all_choices : List Trial
  all_choices = flat_map (choice_trials cells kind) (each (points (head cells)) (λ p. p))

  -- the every-run form, as far as its parts have passed
  module _ (h : Counts) (n : ℕ) (same : h ≡ head cells) (numbers : n ≡ kind.numbers) where
    pub every_called_fails : (f : AdmitFault) → Err f ≡ passed (called_by h 1 n ∷ []) → Err f ≡ admit_every_run kind cells
    unfolding admit_every_run
    every_called_fails f r = first_decides (every_run_lines cells) (called_by (head cells) 1 kind.numbers ∷ []) (watch_trials cells ++ (start_trials cells ++ stepped)) f (called_fails cells h 1 n kind.numbers f same numbers r)

    module _ (called : Ok tt ≡ passed (called_by h 1 n ∷ [])) where
      every_rest : (r : Result ℕ AdmitFault) → r ≡ verdict (every_run_lines cells) (first_failure (watch_trials cells ++ (start_trials cells ++ all_moves))) → r ≡ admit_every_run kind cells
      unfolding admit_every_run
      every_rest r e = rest_decides (every_run_lines cells) (called_by (head cells) 1 kind.numbers ∷ []) (watch_trials cells ++ (start_trials cells ++ stepped)) (called_passes cells h 1 n kind.numbers same numbers called) r
          (e ∙ sym (ap (λ ms. verdict (every_run_lines cells) (first_failure (watch_trials cells ++ (start_trials cells ++ ms)))) (moves_in_order kind cells)))

      pub watch_fails : (f : AdmitFault) → Err f ≡ passed (watch_trials cells) → Err f ≡ admit_every_run kind cells
      watch_fails f r = every_rest (Err f) (first_decides (every_run_lines cells) (watch_trials cells) (start_trials cells ++ all_moves) f (some_fails (watch_trials cells) f r))

      module _ (watched : Ok tt ≡ passed (watch_trials cells)) where
        start_rest : (r : Result ℕ AdmitFault) → r ≡ verdict (every_run_lines cells) (first_failure (start_trials cells ++ all_moves)) → r ≡ admit_every_run kind cells
        start_rest r e = every_rest r (rest_decides (every_run_lines cells) (watch_trials cells) (start_trials cells ++ all_moves) (none_fails (watch_trials cells) watched) r e)

        pub start_fails : (f : AdmitFault) → Err f ≡ passed (start_trials cells) → Err f ≡ admit_every_run kind cells
        start_fails f r = start_rest (Err f) (first_decides (every_run_lines cells) (start_trials cells) all_moves f (some_fails (start_trials cells) f r))

        pub moves_decide : Ok tt ≡ passed (start_trials cells) → (o : Option AdmitFault) → o ≡ first_failure all_moves → verdict (every_run_lines cells) o ≡ admit_every_run kind cells
        moves_decide started o e = start_rest (verdict (every_run_lines cells) o) (rest_decides (every_run_lines cells) (start_trials cells) all_moves (none_fails (start_trials cells) started) _ (ap (verdict (every_run_lines cells)) e))

    -- the some-run form
    pub some_called_fails : (f : AdmitFault) → Err f ≡ passed (called_by h 2 n ∷ []) → Err f ≡ admit_some_run kind cells
    unfolding admit_some_run
    some_called_fails f r = first_decides (some_run_lines cells) (called_by (head cells) 2 kind.numbers ∷ []) (row_trials cells 0 (shown_rows cells) ++ all_choices) f (called_fails cells h 2 n kind.numbers f same numbers r)

    module _ (called : Ok tt ≡ passed (called_by h 2 n ∷ [])) where
      some_rest : (r : Result ℕ AdmitFault) → r ≡ verdict (some_run_lines cells) (first_failure (row_trials cells 0 (shown_rows cells) ++ all_choices)) → r ≡ admit_some_run kind cells
      unfolding admit_some_run
      some_rest r e = rest_decides (some_run_lines cells) (called_by (head cells) 2 kind.numbers ∷ []) (row_trials cells 0 (shown_rows cells) ++ all_choices) (called_passes cells h 2 n kind.numbers same numbers called) r e

      pub shown_fails : (f : AdmitFault) → Err f ≡ passed (row_trials cells 0 (shown_rows cells)) → Err f ≡ admit_some_run kind cells
      shown_fails f r = some_rest (Err f) (first_decides (some_run_lines cells) (row_trials cells 0 (shown_rows cells)) all_choices f (some_fails (row_trials cells 0 (shown_rows cells)) f r))

      module _ (shown : Ok tt ≡ passed (row_trials cells 0 (shown_rows cells))) where
        choices_decide : (o : Option AdmitFault) → first_failure all_choices ≡ o → verdict (some_run_lines cells) o ≡ admit_some_run kind cells
        choices_decide o e = some_rest (verdict (some_run_lines cells) o) (rest_decides (some_run_lines cells) (row_trials cells 0 (shown_rows cells)) all_choices (none_fails (row_trials cells 0 (shown_rows cells)) shown) _ (ap (verdict (some_run_lines cells)) (sym e)))

        pub choices_fail : (f : AdmitFault) → Err f ≡ passed all_choices → Err f ≡ admit_some_run kind cells
        choices_fail f r = choices_decide (Some f) (some_fails all_choices f r)

        pub choices_pass : Ok tt ≡ passed all_choices → Ok (some_run_lines cells) ≡ admit_some_run kind cells
        choices_pass r = choices_decide None (none_fails all_choices r)
