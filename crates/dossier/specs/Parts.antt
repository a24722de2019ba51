-- The named parts of a dossier in the order of a sheet's lines: together they are the cells behind the head.
use Rattle.std.specs.Prelude.{ℕ, ◌+◌, ◌*◌, Bool, cond, List, [], ◌∷◌, ◌++◌, ℤ, pos}
use Rattle.std.specs.List.{flat_map}
use Rattle.layout.specs.Layout.{every_run, point_rows, conclusions}
use Rattle.dossier.specs.Dossier.{head, cell, start_row, step_from, step_to, update, guard, is_place, proposition_place, proposition_row, marked_state, edge_from, edge_to, must, must_not, region_row, rank_row, points, start_line_at, move_mode, move_line_at, move_hypotheses, shown, choice_mode, choice_step, choice_edge, point_line_at, point_conclusions}
use Rattle.dossier.specs.Rows.{Row, each}

-- n parts, one after the other
abbrev pub all_of : ℕ → (ℕ → List ℤ) → List ℤ
all_of n part = flat_map part (each n (λ i. i))

-- 1 or 0
abbrev pub flag : Bool → ℤ
flag b = pos (cond b 1 0)

module _ (cells : List ℤ) where
  abbrev pub row : Row → List ℤ
  row r = each ((head cells).variables + 1) r

  -- a divisor and n multipliers
  abbrev pub line : ℕ → ℕ → List ℤ
  line at n = each (1 + n) (λ k. cell cells (at + k))

  abbrev pub step_part : ℕ → List ℤ
  step_part t = pos (step_from cells t) ∷ pos (step_to cells t) ∷ (all_of (head cells).variables (λ v. row (update cells t v)) ++ all_of (head cells).guards (λ g. row (guard cells t g)))

  abbrev pub proposition_part : ℕ → List ℤ
  proposition_part i = flag (is_place cells i) ∷ pos (proposition_place cells i) ∷ row (proposition_row cells i)

  abbrev pub edge_part : ℕ → List ℤ
  edge_part e = pos (edge_from cells e) ∷ pos (edge_to cells e) ∷ pos (must cells e) ∷ pos (must_not cells e) ∷ []

  abbrev pub point_part : ℕ → List ℤ
  point_part p = all_of (head cells).region_rows (λ i. row (region_row cells p i)) ++ all_of (head cells).rank_numbers (λ k. row (rank_row cells p k))

  abbrev pub move_part : ℕ → List ℤ
  move_part m = pos (move_mode cells m) ∷ all_of (conclusions (head cells)) (λ k. line (move_line_at (head cells) m k) (move_hypotheses (head cells)))

  abbrev pub choice_part : ℕ → List ℤ
  choice_part p = pos (choice_mode cells p) ∷ pos (choice_step cells p) ∷ pos (choice_edge cells p) ∷ all_of (point_conclusions (head cells)) (λ k. line (point_line_at (head cells) p k) (point_rows (head cells)))

  abbrev pub named_parts : List ℤ
  named_parts =
      all_of (head cells).start_rows (λ i. row (start_row cells i)) ++
      (all_of (head cells).steps step_part ++
      (all_of (head cells).propositions proposition_part ++
      (each (head cells).states (λ q. flag (marked_state cells q)) ++
      (all_of (head cells).edges edge_part ++
      (all_of (points (head cells)) point_part ++
      cond (every_run (head cells))
      (all_of (point_rows (head cells)) (λ k. line (start_line_at (head cells) k) (head cells).start_rows) ++ all_of ((head cells).steps * (head cells).edges) move_part)
      (each (head cells).variables (shown cells) ++ all_of (points (head cells)) choice_part))))))
