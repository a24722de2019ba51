-- How many rows there are of each sort.
use Rattle.std.proofs.Common.{◌≡◌, ℕ, ◌+◌, List, length, ℤ, ◌∙◌, ap₂}
use Rattle.std.proofs.lemmas.List.{length-append}
use Rattle.layout.specs.Layout.{point_rows}
use Rattle.dossier.specs.Admission.{point_hypotheses, guard_rows, edge_row, edge_rows}
use Rattle.dossier.specs.Dossier.{head, region_row, rank_row, guard}
use Rattle.dossier.specs.Rows.{each}
use Rattle.dossier.proofs.Trials.{length_each}

module _ (cells : List ℤ) where
  pub length_point : (p : ℕ) → length (point_hypotheses cells p) ≡ point_rows (head cells)
  length_point p =
      length-append (each (head cells).region_rows (region_row cells p)) (each (head cells).rank_numbers (rank_row cells p))
      ∙ ap₂ ◌+◌ (length_each (head cells).region_rows (region_row cells p)) (length_each (head cells).rank_numbers (rank_row cells p))

  pub length_guards : (t : ℕ) → length (guard_rows cells t) ≡ (head cells).guards
  length_guards t = length_each (head cells).guards (guard cells t)

  pub length_edge_rows : (e place : ℕ) → length (edge_rows cells e place) ≡ (head cells).propositions
  length_edge_rows e place = length_each (head cells).propositions (edge_row cells e place)
