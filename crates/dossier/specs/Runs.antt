-- Runs over whole numbers.
use Rattle.std.specs.Prelude.{◌≡◌, ℕ, zero, suc, ◌+◌, ◌^◌, ◌<◌, ◌≤◌, Bool, cond, T, List, length, ℤ, ◌==◌, ◌≢◌, bit_and}
use Rattle.layout.specs.Cells.{both}
use Rattle.dossier.specs.Rows.{value, holds, each}
use Rattle.dossier.specs.Dossier.{head, start_row, step_from, step_to, update, guard, is_place, proposition_place, proposition_row, edge_from, edge_to, must, must_not, point_of, marked_state, region_row, rank_row, shown, choice_mode, choice_step, choice_edge}
use Rattle.dossier.specs.Kinds.{NonNegative}

-- a place with values, and the state of the watch
pub record Situation : Type 0 where
  pub place : ℕ
  pub state : ℕ
  pub values : List ℤ

module _ (cells : List ℤ) where
  abbrev pub proposition_holds : ℕ → ℕ → List ℤ → Bool
  proposition_holds i place values = cond (is_place cells i) (place == proposition_place cells i) (holds (proposition_row cells i) values)

  -- bit i, of weight 2^i, is set exactly when proposition i holds
  abbrev pub letter_below : ℕ → ℕ → List ℤ → ℕ
  letter_below zero place values = 0
  letter_below (suc i) place values = letter_below i place values + cond (proposition_holds i place values) (2 ^ i) 0

  abbrev pub letter : ℕ → List ℤ → ℕ
  letter place values = letter_below (head cells).propositions place values

  -- every bit of the must mask and none of the must-not mask
  abbrev pub matches : ℕ → ℕ → Bool
  matches e l = both (bit_and l (must cells e) == must cells e) (bit_and l (must_not cells e) == 0)

  abbrev pub values_after : ℕ → List ℤ → List ℤ
  values_after t values = each (head cells).variables (λ v. value (update cells t v) values)

  -- step t begins at the situation's place, and its guard rows hold
  pub record Open (t : ℕ) (s : Situation) : Type 0 where
    pub step_is : t < (head cells).steps
    pub step_here : step_from cells t ≡ s.place
    pub guarded : (g : ℕ) → g < (head cells).guards → T (holds (guard cells t g) s.values)

  -- step t and edge e can be made at a situation
  pub record Can (t e : ℕ) (s : Situation) : Type 0 where
    pub step_is : t < (head cells).steps
    pub edge_is : e < (head cells).edges
    pub step_here : step_from cells t ≡ s.place
    pub edge_here : edge_from cells e ≡ s.state
    pub guarded : (g : ℕ) → g < (head cells).guards → T (holds (guard cells t g) s.values)
    pub matching : T (matches e (letter s.place s.values))

  abbrev pub after : ℕ → ℕ → Situation → Situation
  after t e s = record { place = step_to cells t; state = edge_to cells e; values = values_after t s.values }

  -- a move leads from one situation to another
  pub record Move (s s' : Situation) : Type 0 where
    pub step : ℕ
    pub edge : ℕ
    pub can : Can step edge s
    pub leads : s' ≡ after step edge s

  -- the start place and state, with values where the start rows hold
  pub record Start (s : Situation) : Type 0 where
    pub place_is : s.place ≡ (head cells).start_place
    pub state_is : s.state ≡ (head cells).start_state
    pub sized : length s.values ≡ (head cells).variables
    pub starts : (i : ℕ) → i < (head cells).start_rows → T (holds (start_row cells i) s.values)

  -- a situation of a run: the start, or what a move leads to from one
  pub data Reached : Situation → Type 0 where
    begins : {s : Situation} → Start s → Reached s
    goes_on : {s s' : Situation} → Reached s → Move s s' → Reached s'

  pub record Endless (run : ℕ → Situation) : Type 0 where
    pub begins : Start (run 0)
    pub goes_on : (i : ℕ) → Move (run i) (run (i + 1))

  abbrev pub point : Situation → ℕ
  point s = point_of cells s.place s.state

  abbrev pub marked : Situation → Bool
  marked s = marked_state cells s.state

  abbrev pub rank : Situation → List ℤ
  rank s = each (head cells).rank_numbers (λ k. value (rank_row cells (point s) k) s.values)

  -- in its point's region, with no negative rank number
  pub record Within (s : Situation) : Type 0 where
    pub region : (i : ℕ) → i < (head cells).region_rows → T (holds (region_row cells (point s) i) s.values)
    pub ranked : NonNegative (rank s)

  -- an edge that goes on from a state with a letter
  abbrev pub GoesOn : ℕ → ℕ → Type 0
  GoesOn q l = (e : ℕ) × (e < (head cells).edges) × (edge_from cells e ≡ q) × T (matches e l)

  -- what admission buys of an every-run dossier
  pub record EveryRunLaw : Type 0 where
    -- from every state and letter some edge goes on, so that the watch follows every step of the program
    pub watched : (q l : ℕ) → q < (head cells).states → l < 2 ^ (head cells).propositions → (e : ℕ) × (e < (head cells).edges) × (edge_from cells e ≡ q) × T (matches e l)
    pub within : (s : Situation) → Reached s → Within s
    -- an endless run stands at a marked point at or after move k, for every k
    pub recurs : (run : ℕ → Situation) → Endless run → (k : ℕ) → (j : ℕ) × (k ≤ j) × T (marked (run j))

  -- the watch follows every open step of the program
  abbrev pub WatchFollows : Type 0
  WatchFollows = (s : Situation) → Reached s → (t : ℕ) → Open t s → (e : ℕ) × Can t e s

  abbrev pub shown_start : Situation
  shown_start = record { place = (head cells).start_place; state = (head cells).start_state; values = each (head cells).variables (shown cells) }

  -- following the choices from the shown values
  abbrev pub followed : ℕ → Situation
  followed zero = shown_start
  followed (suc i) = after (choice_step cells (point (followed i))) (choice_edge cells (point (followed i))) (followed i)

  -- how many of the first n situations stand at marked points
  abbrev pub marked_below : ℕ → (ℕ → Situation) → ℕ
  marked_below zero run = 0
  marked_below (suc n) run = marked_below n run + cond (marked (run n)) 1 0

  -- what admission buys of a some-run dossier: the choices can be followed for ever, and marked points are visited again and again
  pub record SomeRunLaw : Type 0 where
    pub starts : Start shown_start
    pub chosen : (i : ℕ) → choice_mode cells (point (followed i)) ≢ 0
    pub can : (i : ℕ) → Can (choice_step cells (point (followed i))) (choice_edge cells (point (followed i))) (followed i)
    pub within : (i : ℕ) → Within (followed i)
    pub recurs : (k : ℕ) → (n : ℕ) × (k ≤ marked_below n followed)
