-- Places of parts, and how many there are.
use Rattle.std.proofs.Common.{ℕ, ◌+◌, ◌*◌, ◌<◌, ◌≤◌, List, ℤ, mod-lt, div-lt_iff_lt-mul, arith}
use lib.Arith.{digits_lt}
use Rattle.std.proofs.lemmas.Nat.{mul-le}
use Rattle.layout.specs.Layout.{Counts, InRanges}
use Rattle.dossier.specs.Admission.{first_point, last_point, moves, move_step, move_edge}
use Rattle.dossier.specs.Dossier.{head, points}
use Rattle.dossier.specs.Ranges.{ProgramRanges}

-- there are at most 32 points
pub few_points : (h : Counts) → InRanges h → points h ≤ 32
few_points h r = mul-le h.places h.states 8 4 r.places_high r.states_high

-- the place of the i-th of parts that are w wide, where the first stands at base
pub at : (base i w B I W : ℕ) → base ≤ B → i ≤ I → w ≤ W → base + i * w ≤ B + I * W
at base i w B I W b p q = omega (arith, mul-le i w I W p q)

-- the points that a move joins
module _ (cells : List ℤ) (ranges : ProgramRanges cells) (t e : ℕ) (step : t < (head cells).steps) (edge : e < (head cells).edges) where
  pub first_below : first_point cells t e < points (head cells)
  first_below = digits_lt (ranges.step_from t step) (ranges.edge_from e edge)

  pub last_below : last_point cells t e < points (head cells)
  last_below = digits_lt (ranges.step_to t step) (ranges.edge_to e edge)

-- the step and the edge of a move
module _ (cells : List ℤ) (ranges : ProgramRanges cells) (m : ℕ) (below : m < moves cells) where
  pub move_below : m < 192
  move_below = omega (arith, mul-le (head cells).steps (head cells).edges 16 12 ranges.counts_in.steps_high ranges.counts_in.edges_high)

  pub step_below : move_step cells m < (head cells).steps
  step_below = (div-lt_iff_lt-mul ranges.counts_in.edges_low).1 below

  pub edge_below : move_edge cells m < (head cells).edges
  edge_below = mod-lt m ranges.counts_in.edges_low
