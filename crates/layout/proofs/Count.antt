-- How many cells a well-formed list has, and the ranges of its head's numbers.
use Rattle.std.proofs.Common.{◌≡◌, ℕ, zero, suc, ◌+◌, ◌*◌, ◌<◌, ◌≤◌, Bool, true, false, cond, T, leb, List, [], ◌∷◌, ◌++◌, length, get_or, take, drop, replicate, ℤ, pos, negsuc, sum_by, sym, refl, ap, ◌∙◌, subst, append_assoc, append-nil, suc-le-suc, le_of_suc-le-suc, not-suc-le-zero, add-le-add, suc-mul, mul-le-mul, zero-mul, arith, lit<, eqb→eq, leb→le, length-drop, length-take, get_or-take}
use Rattle.std.specs.List.{flat_map}
use Rattle.std.proofs.lemmas.List.Sums.{sum_by-cons, sum_by-append}
use Rattle.layout.specs.declared.field.Digits.{Digits}
use Rattle.layout.specs.declared.field.Digits.TheVariants.{Two}
use Rattle.layout.specs.declared.field.Range.{Range}
use Rattle.layout.specs.declared.field.Range.TheVariants.{Between}
use Rattle.layout.specs.declared.field.Field.{Field}
use Rattle.layout.specs.declared.frame.Frame.{Frame}
use Rattle.layout.specs.declared.frame.Group.{Group}
use Rattle.layout.specs.Layout.{InRanges, Counts, counts, count_of, below, range_of, short, head_fields, unused, leading, row, proposition, state, edge, repeated, uniform, line, value, point_rows, every_run, steps_group, points_group, moves_group, choices_group, groups, group_lines, lines_due}
use Rattle.layout.specs.Cells.{both, writable, passes, leads_hold, all_hold, line_holds, width, lines_hold, head_width, well_formed, all_groups_cells, group_cells, cells_due}
use Rattle.layout.specs.Laws.{AllCounted}

pub both_left : (a b : Bool) → T (both a b) → T a
both_left true b t = tt
both_left false b t = t

pub both_right : (a b : Bool) → T (both a b) → T b
both_right true b t = t
both_right false b t = absurd t

pub both_from : (a b : Bool) → T a → T b → T (both a b)
both_from true b s t = t
both_from false b s t = s

-- the value at index i passes its test, which looks at those before it
pub lead_passes : (earlier : List ℤ) (fs : List Field) (vs : List ℤ) → T (leads_hold earlier fs vs) → (i : ℕ) → i < length fs → T (passes (get_or fs i unused).digits (range_of (get_or fs i unused).test (earlier ++ take i vs)) (get_or vs i (pos 0)))
lead_passes earlier [] vs t i l = absurd (not-suc-le-zero l)
lead_passes earlier (f ∷ fs) [] t i l = absurd t
lead_passes earlier (f ∷ fs) (v ∷ vs) t zero l = rw append-nil (both_left _ _ t)
lead_passes earlier (f ∷ fs) (v ∷ vs) t (suc i) l = rw append_assoc at (lead_passes (earlier ++ v ∷ []) fs vs (both_right (passes f.digits (range_of f.test earlier) v) _ t) i (le_of_suc-le-suc l))

count_ranges : (low high : ℕ) (v : ℤ) → T (passes Two (Between (pos low) (pos high)) v) → (low ≤ count_of v) × (count_of v ≤ high)
count_ranges low high (pos n) t = (leb→le low n (both_left _ _ (both_right (writable Two (pos n)) _ t)), leb→le n high (both_right (leb low n) _ (both_right (writable Two (pos n)) _ t)))
count_ranges low high (negsuc n) t = absurd t

-- a number of which there are as many as the count says
count_below : (n v : ℤ) → T (passes Two (Between (pos 0) (below n)) v) → count_of v < count_of n
count_below n (negsuc v) t = absurd t
count_below (pos zero) (pos v) t = absurd (both_right (leb 0 v) _ (both_right (writable Two (pos v)) _ t))
count_below (pos (suc n)) (pos v) t = suc-le-suc (leb→le v n (both_right (leb 0 v) _ (both_right (writable Two (pos v)) _ t)))
count_below (negsuc n) (pos v) t = absurd (both_right (leb 0 v) _ (both_right (writable Two (pos v)) _ t))

pub head_ranges : (vs : List ℤ) → T (leads_hold [] head_fields vs) → InRanges (counts vs)
head_ranges vs t =
    record {
      variables_low = (ranged 0 1 6 refl (lit< tt)).0;
      variables_high = (ranged 0 1 6 refl (lit< tt)).1;
      places_low = (ranged 1 1 8 refl (lit< tt)).0;
      places_high = (ranged 1 1 8 refl (lit< tt)).1;
      steps_low = (ranged 2 1 16 refl (lit< tt)).0;
      steps_high = (ranged 2 1 16 refl (lit< tt)).1;
      propositions_high = (ranged 3 0 8 refl (lit< tt)).1;
      states_low = (ranged 4 1 4 refl (lit< tt)).0;
      states_high = (ranged 4 1 4 refl (lit< tt)).1;
      edges_low = (ranged 5 1 12 refl (lit< tt)).0;
      edges_high = (ranged 5 1 12 refl (lit< tt)).1;
      start_rows_high = (ranged 6 0 4 refl (lit< tt)).1;
      guards_high = (ranged 7 0 4 refl (lit< tt)).1;
      region_rows_high = (ranged 8 0 4 refl (lit< tt)).1;
      start_place_high = count_below (get_or vs 1 (pos 0)) (get_or vs 9 (pos 0)) (rw (get_or-take 9 vs 1 (pos 0) (lit< tt)) at (lead_passes [] head_fields vs t 9 (lit< tt)));
      start_state_high = count_below (get_or vs 4 (pos 0)) (get_or vs 10 (pos 0)) (rw (get_or-take 10 vs 4 (pos 0) (lit< tt)) at (lead_passes [] head_fields vs t 10 (lit< tt)));
      form_low = (ranged 11 1 2 refl (lit< tt)).0;
      form_high = (ranged 11 1 2 refl (lit< tt)).1;
      rank_numbers_low = (ranged 12 1 2 refl (lit< tt)).0;
      rank_numbers_high = (ranged 12 1 2 refl (lit< tt)).1;
    }
  where
    ranged : (i low high : ℕ) → get_or head_fields i unused ≡ short low high → i < 13 → (low ≤ count_of (get_or vs i (pos 0))) × (count_of (get_or vs i (pos 0)) ≤ high)
    ranged i low high e l = count_ranges low high (get_or vs i (pos 0)) (rw e at (lead_passes [] head_fields vs t i l))

-- the list's length -----------------------------------------------------------------------------

pub leads_length : (earlier : List ℤ) (fs : List Field) (vs : List ℤ) → T (leads_hold earlier fs vs) → length vs ≡ length fs
leads_length earlier [] [] t = refl
leads_length earlier [] (v ∷ vs) t = absurd t
leads_length earlier (f ∷ fs) [] t = absurd t
leads_length earlier (f ∷ fs) (v ∷ vs) t = ap suc (leads_length (earlier ++ v ∷ []) fs vs (both_right (passes f.digits (range_of f.test earlier) v) _ t))

pub all_length : (d : Digits) (r : Range) (n : ℕ) (vs : List ℤ) → T (all_hold d r n vs) → length vs ≡ n
all_length d r zero [] t = refl
all_length d r zero (v ∷ vs) t = absurd t
all_length d r (suc n) [] t = absurd t
all_length d r (suc n) (v ∷ vs) t = ap suc (all_length d r n vs (both_right (passes d r v) _ t))

-- fewer than n taken from a list that is shorter than n: so the two lengths settle the list's
from_parts : (n : ℕ) (vs : List ℤ) (m : ℕ) → length (take n vs) ≡ n → length (drop n vs) ≡ m → length vs ≡ n + m
from_parts n vs m front back = omega (arith, length-take n vs, length-drop n vs)

pub line_length : (lead : List Field) (rest : Field) (n : ℕ) (vs : List ℤ) → T (line_holds lead rest n vs) → length vs ≡ length lead + n
line_length lead rest n vs t =
    let front = take (length lead) vs in
    from_parts (length lead) vs n (leads_length [] lead front (both_left _ _ t)) (all_length rest.digits (range_of rest.test front) n _ (both_right (leads_hold [] lead front) _ t))

pub lines_length : (fs : List Frame) (cells : List ℤ) → T (lines_hold fs cells) → length cells ≡ sum_by width fs
lines_length [] cells t = eqb→eq (length cells) 0 t
lines_length (f ∷ fs) cells t =
    let line = line_holds (leading f) f.rest f.count (take (width f) cells) in
    from_parts (width f) cells _ (line_length (leading f) f.rest f.count _ (both_left line _ t)) (lines_length fs _ (both_right line _ t)) ∙ sym (sum_by-cons width f fs)

replicate_width : (n : ℕ) (f : Frame) → sum_by width (replicate n f) ≡ n * width f
replicate_width zero f = sym (zero-mul (width f))
replicate_width (suc n) f = sum_by-cons width f (replicate n f) ∙ omega (arith, replicate_width n f, suc-mul n (width f))

group_width : (g : Group) (n : ℕ) → sum_by width (group_lines g n) ≡ n * (g.firsts * width g.first + g.seconds * width g.second)
group_width g zero = sym (zero-mul _)
group_width g (suc n) =
    let a = replicate g.firsts g.first in
    let b = replicate g.seconds g.second in
    omega (arith, sum_by-append width (a ++ b) (group_lines g n), sum_by-append width a b, replicate_width g.firsts g.first, replicate_width g.seconds g.second, group_width g n, suc-mul n (g.firsts * width g.first + g.seconds * width g.second))

groups_width : (gs : List Group) → sum_by width (flat_map (λ g. group_lines g g.times) gs) ≡ all_groups_cells gs
groups_width [] = refl
groups_width (g ∷ gs) = sum_by-append width (group_lines g g.times) _ ∙ omega (arith, group_width g g.times, groups_width gs)

-- the lines that are due have the cells that are due
pub due_width : (h : Counts) → head_width + sum_by width (lines_due h) ≡ cells_due h
unfolding lines_due cells_due
due_width h = ap (λ n. head_width + n) (groups_width (groups h))

-- only the head's values are looked at
pub counts_take : (vs : List ℤ) → counts (take head_width vs) ≡ counts vs
counts_take vs =
    λ j. record {
      variables = count_of (same 0 (lit< tt) j);
      places = count_of (same 1 (lit< tt) j);
      steps = count_of (same 2 (lit< tt) j);
      propositions = count_of (same 3 (lit< tt) j);
      states = count_of (same 4 (lit< tt) j);
      edges = count_of (same 5 (lit< tt) j);
      start_rows = count_of (same 6 (lit< tt) j);
      guards = count_of (same 7 (lit< tt) j);
      region_rows = count_of (same 8 (lit< tt) j);
      start_place = count_of (same 9 (lit< tt) j);
      start_state = count_of (same 10 (lit< tt) j);
      form = count_of (same 11 (lit< tt) j);
      rank_numbers = count_of (same 12 (lit< tt) j);
    }
  where
    same : (i : ℕ) → i < head_width → get_or (take head_width vs) i (pos 0) ≡ get_or vs i (pos 0)
    same i l = get_or-take head_width vs i (pos 0) l

-- the longest list ------------------------------------------------------------------------------

group_cells_le : (g : Group) (t a b c d : ℕ) → (g.times ≤ t) × (g.firsts ≤ a) × (width g.first ≤ b) × (g.seconds ≤ c) × (width g.second ≤ d) → group_cells g ≤ t * (a * b + c * d)
group_cells_le g t a b c d h = mul-le-mul h.0 (add-le-add (mul-le-mul h.1 h.2) (mul-le-mul h.3 h.4))

-- whichever of two groups the form calls for
cond_cells_le : (t : Bool) (g k : Group) (n : ℕ) → group_cells g ≤ n → group_cells k ≤ n → group_cells (cond t g k) ≤ n
cond_cells_le true g k n hg hk = hg
cond_cells_le false g k n hg hk = hk

-- in the every-run form the last group alone has 29,376 cells at most; the some-run form has fewer in both of its groups
pub due_most : (h : Counts) → InRanges h → cells_due h ≤ 32067
unfolding cells_due
due_most h r =
    let squares : h.variables * (h.variables + 1) ≤ 6 * 7 = mul-le-mul {m₂ = 7} r.variables_high (omega arith) in
    let points : h.places * h.states ≤ 8 * 4 = mul-le-mul r.places_high r.states_high in
    let moves : h.steps * h.edges ≤ 16 * 12 = mul-le-mul r.steps_high r.edges_high in
    let starts = group_cells_le (repeated h.start_rows (row h 0x20)) 4 1 7 0 7 (omega arith) in
    let steps = group_cells_le (steps_group h) 16 1 44 4 7 (omega arith) in
    let propositions = group_cells_le (repeated h.propositions (proposition h)) 8 1 9 0 9 (omega arith) in
    let states = group_cells_le (repeated h.states state) 4 1 1 0 1 (omega arith) in
    let edges = group_cells_le (repeated h.edges (edge h)) 12 1 4 0 4 (omega arith) in
    let rows = group_cells_le (points_group h) 32 4 7 2 7 (omega arith) in
    let start_lines = repeated (point_rows h) (line 0x70 h.start_rows) in
    let started = group_cells_le start_lines 6 1 5 0 5 (omega arith) in
    let first = cond_cells_le (every_run h) start_lines (repeated 1 (uniform 0x80 value h.variables)) 30 started (omega arith) in
    let moved = group_cells_le (moves_group h) 192 1 1 8 19 (omega arith) in
    let chosen = group_cells_le (choices_group h) 32 1 3 20 7 (omega arith) in
    let last = cond_cells_le (every_run h) (moves_group h) (choices_group h) 29376 moved (omega arith) in
    omega arith

-- a well-formed list's parts ----------------------------------------------------------------------

pub record Formed (cells : List ℤ) : Type 0 where
  pub head : T (line_holds head_fields unused 0 (take head_width cells))
  pub lines : T (lines_hold (lines_due (counts cells)) (drop head_width cells))

pub formed : (cells : List ℤ) → well_formed cells ≡ true → Formed cells
unfolding well_formed
formed cells e =
    let t : T (well_formed cells) = rw e tt in
    let head = line_holds head_fields unused 0 (take head_width cells) in
    record { head = both_left head _ t; lines = both_right head _ t }

pub formed_ranges : (cells : List ℤ) → well_formed cells ≡ true → InRanges (counts cells)
formed_ranges cells e =
    let front = take head_width cells in
    subst InRanges (counts_take front ∙ counts_take cells) (head_ranges (take head_width front) (both_left _ _ (formed cells e).head))

pub all_counted : AllCounted
all_counted cells e =
    let f = formed cells e in
    let head = line_length head_fields unused 0 _ f.head in
    let due : length cells ≡ cells_due (counts cells) = from_parts head_width cells _ head (lines_length (lines_due (counts cells)) (drop head_width cells) f.lines) ∙ due_width (counts cells) in
    record { due = due; longest = omega (arith, due_most (counts cells) (formed_ranges cells e)) }
