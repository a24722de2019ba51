-- The search for the edge that goes on from a state with a letter.
use Rattle.std.proofs.Common.{◌≡◌, ℕ, zero, suc, Bool, cond, eqb, List, ℤ, Some, refl, ap, ◌∙◌, add-one}
use Rattle.std.specs.List.{find, range_with_len}
use Rattle.layout.specs.Cells.{both}
use Rattle.dossier.specs.Dossier.{edge_from}
use Rattle.dossier.specs.Runs.{matches}
use Rattle.dossier.specs.declared.fault.AdmitFault.TheVariants.{NoEdge}
use Rattle.dossier.specs.Admission.{Trial, edge_from_on, edge_for, found}

module _ (cells : List ℤ) (state letter : ℕ) where
  -- whether an edge goes on
  abbrev pub goes : ℕ → Bool
  goes e = both (eqb (edge_from cells e) state) (matches cells e letter)

  -- the first of the numbers from e on is the edge that the definition finds
  pub first_edge : (n e : ℕ) → find goes (range_with_len e n) ≡ edge_from_on cells n e state letter
  first_edge zero e = refl
  first_edge (suc n) e = ap (λ i. cond (goes e) (Some e) (find goes (range_with_len i n))) (add-one e) ∙ ap (cond (goes e) (Some e)) (first_edge n (suc e))

-- the test that a state has an edge for a letter
abbrev pub letter_trial : List ℤ → ℕ → ℕ → Trial
letter_trial cells state letter = record { passes = found cells (edge_for cells state letter); fault = NoEdge state letter }
