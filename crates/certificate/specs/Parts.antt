-- The moves that a dossier writes down, none where there is no such move or point.
use Rattle.std.specs.Prelude.{ℕ, cond, List, ℤ, Some, None, Option, ◌==◌, nat_lt}
use Rattle.layout.specs.Cells.{both}
use Rattle.dossier.specs.Admission.{moves, move_step, move_edge}
use Rattle.dossier.specs.Dossier.{head, step_from, step_to, edge_from, edge_to, points, move_mode, choice_mode, choice_step, choice_edge}
use Rattle.certificate.specs.declared.written.Move.{Move}

module _ (cells : List ℤ) where
  -- a step and an edge in a mode, with what they lead from and to
  abbrev pub written : ℕ → ℕ → ℕ → Move
  written mode t e = record {
    mode = mode;
    step = t;
    edge = e;
    from_place = step_from cells t;
    from_state = edge_from cells e;
    to_place = step_to cells t;
    to_state = edge_to cells e;
  }

  abbrev pub move_written : ℕ → Option Move
  move_written m = cond (both ((head cells).form == 1) (nat_lt m (moves cells))) (Some (written (move_mode cells m) (move_step cells m) (move_edge cells m))) None

  abbrev pub choice_written : ℕ → Option Move
  choice_written p = cond (both ((head cells).form == 2) (nat_lt p (points (head cells)))) (Some (written (choice_mode cells p) (choice_step cells p) (choice_edge cells p))) None
