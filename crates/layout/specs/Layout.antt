-- The layout of a sheet as data: from the counts of a head, the lines that are due and their fields.
use Rattle.std.specs.Prelude.{ℕ, zero, suc, ◌+◌, ◌-◌, ◌*◌, ◌^◌, ◌<◌, ◌≤◌, Bool, false, cond, List, [], ◌∷◌, ◌++◌, take, replicate, ℤ, pos, negsuc, ◌==◌, slice_index_or}
use Rattle.std.specs.List.{flat_map}
use Rattle.layout.specs.declared.field.Digits.TheVariants.{Two, Four, Eight, Value}
use Rattle.layout.specs.declared.field.Range.{Range}
use Rattle.layout.specs.declared.field.Range.TheVariants.{Between, Apart}
use Rattle.layout.specs.declared.field.Test.{Test}
use Rattle.layout.specs.declared.field.Test.TheVariants.{Fixed, ByFirst, BelowField, ApartField}
use Rattle.layout.specs.declared.field.Field.{Field}
use Rattle.layout.specs.declared.frame.Frame.{Frame}
use Rattle.layout.specs.declared.frame.Group.{Group}

-- the number that a cell stands for where a count is due
abbrev pub count_of : ℤ → ℕ
count_of (pos n) = n
count_of (negsuc n) = 0

-- the numbers of a head
pub record Counts : Type 0 where
  pub variables : ℕ
  pub places : ℕ
  pub steps : ℕ
  pub propositions : ℕ
  pub states : ℕ
  pub edges : ℕ
  pub start_rows : ℕ
  pub guards : ℕ
  pub region_rows : ℕ
  pub start_place : ℕ
  pub start_state : ℕ
  pub form : ℕ
  pub rank_numbers : ℕ

-- the head's numbers are the first thirteen cells
abbrev pub counts : List ℤ → Counts
counts cells = record {
  variables = count_of (slice_index_or cells 0 (pos 0));
  places = count_of (slice_index_or cells 1 (pos 0));
  steps = count_of (slice_index_or cells 2 (pos 0));
  propositions = count_of (slice_index_or cells 3 (pos 0));
  states = count_of (slice_index_or cells 4 (pos 0));
  edges = count_of (slice_index_or cells 5 (pos 0));
  start_rows = count_of (slice_index_or cells 6 (pos 0));
  guards = count_of (slice_index_or cells 7 (pos 0));
  region_rows = count_of (slice_index_or cells 8 (pos 0));
  start_place = count_of (slice_index_or cells 9 (pos 0));
  start_state = count_of (slice_index_or cells 10 (pos 0));
  form = count_of (slice_index_or cells 11 (pos 0));
  rank_numbers = count_of (slice_index_or cells 12 (pos 0));
}

-- the ranges of a head's numbers
pub record InRanges (h : Counts) : Type 0 where
  pub variables_low : 1 ≤ h.variables
  pub variables_high : h.variables ≤ 6
  pub places_low : 1 ≤ h.places
  pub places_high : h.places ≤ 8
  pub steps_low : 1 ≤ h.steps
  pub steps_high : h.steps ≤ 16
  pub propositions_high : h.propositions ≤ 8
  pub states_low : 1 ≤ h.states
  pub states_high : h.states ≤ 4
  pub edges_low : 1 ≤ h.edges
  pub edges_high : h.edges ≤ 12
  pub start_rows_high : h.start_rows ≤ 4
  pub guards_high : h.guards ≤ 4
  pub region_rows_high : h.region_rows ≤ 4
  pub start_place_high : h.start_place < h.places
  pub start_state_high : h.start_state < h.states
  pub form_low : 1 ≤ h.form
  pub form_high : h.form ≤ 2
  pub rank_numbers_low : 1 ≤ h.rank_numbers
  pub rank_numbers_high : h.rank_numbers ≤ 2

-- fields --------------------------------------------------------------------------------------

-- one below a count, and −1 where it is none
abbrev pub below : ℤ → ℤ
below (pos zero) = negsuc 0
below (pos (suc n)) = pos n
below (negsuc n) = negsuc 0

abbrev pub is_zero : ℤ → Bool
is_zero (pos n) = n == 0
is_zero (negsuc n) = false

-- the values that a test allows after the line's earlier fields
abbrev pub range_of : Test → List ℤ → Range
range_of (Fixed range) earlier = range
range_of (ByFirst at_zero other) earlier = cond (is_zero (slice_index_or earlier 0 (pos 0))) at_zero other
range_of (BelowField index) earlier = Between (pos 0) (below (slice_index_or earlier index (pos 0)))
range_of (ApartField high index) earlier = Apart high (slice_index_or earlier index (pos 0))

-- a two-digit number from low to high
abbrev pub short : ℕ → ℕ → Field
short low high = record { digits = Two; test = Fixed (Between (pos low) (pos high)) }

-- the number of a place, a state, a step or an edge, of which there are n
abbrev pub one_of : ℕ → Field
one_of n = record { digits = Two; test = Fixed (Between (pos 0) (below (pos n))) }

abbrev pub any_number : Range
any_number = Between (negsuc 32767) (pos 32767)

abbrev pub only_zero : Range
only_zero = Between (pos 0) (pos 0)

-- a constant or a coefficient of a row
abbrev pub number : Field
number = record { digits = Four; test = Fixed any_number }

abbrev pub divisor : Field
divisor = record { digits = Eight; test = Fixed (Between (pos 1) (pos 1048575)) }

abbrev pub multiplier : Field
multiplier = record { digits = Eight; test = Fixed (Between (pos 0) (pos 1048575)) }

abbrev pub value : Field
value = record { digits = Value; test = Fixed (Between (negsuc 2147483647) (pos 2147483647)) }

-- the highest mask over n propositions
abbrev pub masks : ℕ → ℤ
masks n = pos (2 ^ n - 1)

-- the head's fields: counts with their ranges, start place and start state below their counts, form and count of rank numbers
abbrev pub head_fields : List Field
head_fields =
    short 1 6 ∷ short 1 8 ∷ short 1 16 ∷ short 0 8 ∷ short 1 4 ∷ short 1 12 ∷ short 0 4 ∷ short 0 4 ∷ short 0 4 ∷
    record { digits = Two; test = BelowField 1 } ∷ record { digits = Two; test = BelowField 4 } ∷ short 1 2 ∷ short 1 2 ∷ []

-- frames --------------------------------------------------------------------------------------

-- stands where a frame has fewer than four leading fields
abbrev pub unused : Field
unused = short 0 0

-- only fields of one sort
abbrev pub uniform : ℕ → Field → ℕ → Frame
uniform kind field count = record { kind = kind; lead = unused ∷ unused ∷ unused ∷ unused ∷ []; leads = 0; rest = field; count = count }

-- one field, then others of one sort
abbrev pub led : ℕ → Field → Field → ℕ → Frame
led kind field rest count = record { kind = kind; lead = field ∷ unused ∷ unused ∷ unused ∷ []; leads = 1; rest = rest; count = count }

abbrev pub state : Frame
state = led 0x50 (short 0 1) unused 0

-- a divisor and a multiplier for each hypothesis
abbrev pub line : ℕ → ℕ → Frame
line kind hypotheses = led kind divisor multiplier hypotheses

-- n lines like f
abbrev pub repeated : ℕ → Frame → Group
repeated n f = record { times = n; first = f; firsts = 1; second = f; seconds = 0 }

module _ (h : Counts) where
  abbrev pub row : ℕ → Frame
  row kind = uniform kind number (h.variables + 1)

  -- from, to, then an update row for each variable
  abbrev pub step : Frame
  step = record {
    kind = 0x30;
    lead = one_of h.places ∷ one_of h.places ∷ unused ∷ unused ∷ [];
    leads = 2;
    rest = number;
    count = h.variables * (h.variables + 1);
  }

  -- type 0 is a row with place 0, type 1 is a place with a row of zeros
  abbrev pub proposition : Frame
  proposition = record {
    kind = 0x40;
    lead =
        short 0 1 ∷ record { digits = Two; test = ByFirst only_zero (Between (pos 0) (below (pos h.places))) } ∷
        unused ∷ unused ∷ [];
    leads = 2;
    rest = record { digits = Four; test = ByFirst any_number only_zero };
    count = h.variables + 1;
  }

  -- from, to, must mask, must-not mask
  abbrev pub edge : Frame
  edge = record {
    kind = 0x51;
    lead =
        one_of h.states ∷ one_of h.states ∷
        record { digits = Two; test = Fixed (Between (pos 0) (masks h.propositions)) } ∷
        record { digits = Two; test = ApartField (masks h.propositions) 2 } ∷ [];
    leads = 4;
    rest = unused;
    count = 0;
  }

  abbrev pub mode : ℕ → Frame
  mode kind = led kind (short 0 h.rank_numbers) unused 0

  -- mode, step, edge
  abbrev pub choice : Frame
  choice = record {
    kind = 0x81;
    lead = short 0 h.rank_numbers ∷ one_of h.steps ∷ one_of h.edges ∷ unused ∷ [];
    leads = 3;
    rest = unused;
    count = 0;
  }

  -- groups -------------------------------------------------------------------------------------

  -- region rows and rank rows of a point: as many conclusions as a start has, and the fall rows besides for a move
  abbrev pub point_rows : ℕ
  point_rows = h.region_rows + h.rank_numbers

  abbrev pub conclusions : ℕ
  conclusions = h.region_rows + 2 * h.rank_numbers

  abbrev pub steps_group : Group
  steps_group = record { times = h.steps; first = step; firsts = 1; second = row 0x31; seconds = h.guards }

  abbrev pub points_group : Group
  points_group = record { times = h.places * h.states; first = row 0x60; firsts = h.region_rows; second = row 0x61; seconds = h.rank_numbers }

  -- every-run form: the mode and the lines of each move
  abbrev pub moves_group : Group
  moves_group = record { times = h.steps * h.edges; first = mode 0x71; firsts = 1; second = line 0x72 (point_rows + h.guards + h.propositions); seconds = conclusions }

  -- some-run form: the choice and the lines of each point
  abbrev pub choices_group : Group
  choices_group = record { times = h.places * h.states; first = choice; firsts = 1; second = line 0x82 point_rows; seconds = h.guards + h.propositions + conclusions }

  abbrev pub every_run : Bool
  every_run = h.form == 1

  -- every-run form: the start lines; some-run form: the shown values
  abbrev pub start_group : Group
  start_group = cond every_run (repeated point_rows (line 0x70 h.start_rows)) (repeated 1 (uniform 0x80 value h.variables))

  abbrev pub groups : List Group
  groups =
      repeated h.start_rows (row 0x20) ∷
      steps_group ∷
      repeated h.propositions proposition ∷
      repeated h.states state ∷
      repeated h.edges edge ∷
      points_group ∷
      start_group ∷
      cond every_run moves_group choices_group ∷ []

-- the lines of one pass through a group, and of n passes
abbrev pub group_pass : Group → List Frame
group_pass g = replicate g.firsts g.first ++ replicate g.seconds g.second

abbrev pub group_lines : Group → ℕ → List Frame
group_lines g zero = []
group_lines g (suc n) = group_pass g ++ group_lines g n

-- every line after the head, in order
unfoldable pub lines_due : Counts → List Frame
lines_due h = flat_map (λ g. group_lines g g.times) (groups h)

-- the fields of a frame
abbrev pub leading : Frame → List Field
leading f = take f.leads f.lead
