-- The move that a point chooses.
use Rattle.std.proofs.Common.{◌≡◌, ℕ, ◌+◌, ◌*◌, true, cond, eqb, List, ℤ, Some, None, sym, refl, ap, ◌∙◌, ap₂, eqb→eq}
use Rattle.std.proofs.lemmas.Nat.{div-add-mod'}
use Rattle.std.proofs.lemmas.Bool.{eq-eqb, ne_eqb, cond_both}
use Rattle.dossier.specs.declared.fault.AdmitFault.TheVariants.{StepElsewhere, EdgeElsewhere}
use Rattle.dossier.specs.Admission.{first_failure, first_point, step_begins, edge_begins, begin_trials}
use Rattle.dossier.specs.Dossier.{head, choice_mode, choice_step, choice_edge}
use Rattle.dossier.proofs.Trials.{of_true}

-- a test that mode 0 skips
tested : (mode a b : ℕ) → (mode ≡ 0 → ⊥) → cond (eqb mode 0) true (eqb a b) ≡ true → a ≡ b
tested mode a b some h = eqb→eq a b (of_true _ (sym (ap (λ c. cond c true (eqb a b)) (ne_eqb mode 0 some)) ∙ h))

-- the move that is chosen begins at the point
pub chosen_first : (cells : List ℤ) (p : ℕ) → (choice_mode cells p ≡ 0 → ⊥) → step_begins cells p ≡ true → edge_begins cells p ≡ true → first_point cells (choice_step cells p) (choice_edge cells p) ≡ p
chosen_first cells p some step edge =
    ap₂ (λ a b. a * (head cells).states + b) (tested (choice_mode cells p) _ _ some step) (tested (choice_mode cells p) _ _ some edge) ∙ div-add-mod' p (head cells).states

-- a test that passes, in any mode
pub begins_there : (mode a b : ℕ) → a ≡ b → cond (eqb mode 0) true (eqb a b) ≡ true
begins_there mode a b e = cond_both (eqb mode 0) true (eqb a b) (λ t. t ≡ true) (λ _. refl) (λ _. eq-eqb a b e)

-- both tests of a choice
pub begin_passes : (cells : List ℤ) (p : ℕ) → step_begins cells p ≡ true → edge_begins cells p ≡ true → first_failure (begin_trials cells p) ≡ None
begin_passes cells p step edge = ap₂ (λ a b. cond a (cond b None (Some (EdgeElsewhere p))) (Some (StepElsewhere p))) step edge
