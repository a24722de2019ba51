-- Program, watch and certificate as parts of a list of cells.
use Rattle.std.specs.Prelude.{ℕ, ◌+◌, ◌*◌, ◌/◌, ◌%◌, ◌^◌, Bool, cond, List, ℤ, pos, ◌==◌, nat_le, slice_index_or}
use Rattle.layout.specs.Layout.{Counts, counts, count_of, point_rows, conclusions}
use Rattle.layout.specs.Cells.{head_width}
use Rattle.dossier.specs.Rows.{Row}

-- where the parts begin --------------------------------------------------------------------------

module _ (h : Counts) where
  abbrev pub row_width : ℕ
  row_width = h.variables + 1

  abbrev pub start_row_at : ℕ → ℕ
  start_row_at i = head_width + i * row_width

  abbrev pub step_width : ℕ
  step_width = 2 + h.variables * row_width + h.guards * row_width

  -- from, to, update rows, guard rows
  abbrev pub step_at : ℕ → ℕ
  step_at t = start_row_at h.start_rows + t * step_width

  -- type, place, row
  abbrev pub proposition_at : ℕ → ℕ
  proposition_at i = step_at h.steps + i * (2 + row_width)

  abbrev pub state_at : ℕ → ℕ
  state_at q = proposition_at h.propositions + q

  -- from, to, must mask, must-not mask
  abbrev pub edge_at : ℕ → ℕ
  edge_at e = state_at h.states + e * 4

  -- region rows, then rank rows
  abbrev pub point_at : ℕ → ℕ
  point_at p = edge_at h.edges + p * (point_rows h * row_width)

  abbrev pub points : ℕ
  points = h.places * h.states

  -- every-run form: a divisor and a multiplier for each start row
  abbrev pub start_line_at : ℕ → ℕ
  start_line_at k = point_at points + k * (1 + h.start_rows)

  abbrev pub move_hypotheses : ℕ
  move_hypotheses = point_rows h + h.guards + h.propositions

  -- every-run form: the mode, then a line for each conclusion
  abbrev pub move_at : ℕ → ℕ
  move_at m = start_line_at (point_rows h) + m * (1 + conclusions h * (1 + move_hypotheses))

  abbrev pub move_line_at : ℕ → ℕ → ℕ
  move_line_at m k = move_at m + 1 + k * (1 + move_hypotheses)

  -- some-run form: the shown values
  abbrev pub shown_at : ℕ → ℕ
  shown_at i = point_at points + i

  abbrev pub point_conclusions : ℕ
  point_conclusions = h.guards + h.propositions + conclusions h

  -- some-run form: mode, step and edge, then a line for each conclusion
  abbrev pub choice_at : ℕ → ℕ
  choice_at p = shown_at h.variables + p * (3 + point_conclusions * (1 + point_rows h))

  abbrev pub point_line_at : ℕ → ℕ → ℕ
  point_line_at p k = choice_at p + 3 + k * (1 + point_rows h)

-- what stands there ------------------------------------------------------------------------------

module _ (cells : List ℤ) where
  abbrev pub head : Counts
  head = counts cells

  abbrev pub cell : ℕ → ℤ
  cell i = slice_index_or cells i (pos 0)

  abbrev pub number : ℕ → ℕ
  number i = count_of (cell i)

  -- the row whose constant stands at a place
  abbrev pub row_at : ℕ → Row
  row_at i j = cond (nat_le j head.variables) (cell (i + j)) (pos 0)

  abbrev pub start_row : ℕ → Row
  start_row i = row_at (start_row_at head i)

  abbrev pub step_from : ℕ → ℕ
  step_from t = number (step_at head t)

  abbrev pub step_to : ℕ → ℕ
  step_to t = number (step_at head t + 1)

  -- the new value of variable v, worked from the old values
  abbrev pub update : ℕ → ℕ → Row
  update t v = row_at (step_at head t + 2 + v * row_width head)

  -- a step is open when all its guard rows hold
  abbrev pub guard : ℕ → ℕ → Row
  guard t g = row_at (step_at head t + 2 + (head.variables + g) * row_width head)

  -- whether a proposition is a place
  abbrev pub is_place : ℕ → Bool
  is_place i = number (proposition_at head i) == 1

  abbrev pub proposition_place : ℕ → ℕ
  proposition_place i = number (proposition_at head i + 1)

  abbrev pub proposition_row : ℕ → Row
  proposition_row i = row_at (proposition_at head i + 2)

  -- the watch is a Büchi automaton: some of its states are marked, and a run is to stand at marked ones again and again
  abbrev pub marked_state : ℕ → Bool
  marked_state q = number (state_at head q) == 1

  abbrev pub edge_from : ℕ → ℕ
  edge_from e = number (edge_at head e)

  abbrev pub edge_to : ℕ → ℕ
  edge_to e = number (edge_at head e + 1)

  -- an edge matches a letter with every bit of its must mask and none of its must-not mask
  abbrev pub must : ℕ → ℕ
  must e = number (edge_at head e + 2)

  abbrev pub must_not : ℕ → ℕ
  must_not e = number (edge_at head e + 3)

  -- a point is a place and a watch state
  abbrev pub point_of : ℕ → ℕ → ℕ
  point_of place state = place * head.states + state

  -- a point's region is where its region rows hold
  abbrev pub region_row : ℕ → ℕ → Row
  region_row p i = row_at (point_at head p + i * row_width head)

  -- its rank is the values of its rank rows
  abbrev pub rank_row : ℕ → ℕ → Row
  rank_row p k = row_at (point_at head p + (head.region_rows + k) * row_width head)

  abbrev pub start_point : ℕ
  start_point = point_of head.start_place head.start_state

  abbrev pub move_mode : ℕ → ℕ
  move_mode m = number (move_at head m)

  abbrev pub shown : ℕ → ℤ
  shown i = cell (shown_at head i)

  abbrev pub choice_mode : ℕ → ℕ
  choice_mode p = number (choice_at head p)

  abbrev pub choice_step : ℕ → ℕ
  choice_step p = number (choice_at head p + 1)

  abbrev pub choice_edge : ℕ → ℕ
  choice_edge p = number (choice_at head p + 2)

-- whether bit i of a mask is set
abbrev pub bit : ℕ → ℕ → Bool
bit i mask = (mask / 2 ^ i) % 2 == 1
