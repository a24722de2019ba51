-- The ranges of a well-formed list's cells, part by part.
use Rattle.std.proofs.Common.{◌≡◌, ℕ, zero, suc, ◌+◌, ◌-◌, ◌*◌, ◌^◌, ◌<◌, ◌≤◌, true, cond, T, eqb, leb, List, [], ◌∷◌, length, get_or, take, ℤ, pos, negsuc, refl, ap, ◌∙◌, subst, inl, inr, suc-le-suc, add-mul, arith, lit<, eqb→eq, leb→le, get_or-take, pow_pos}
use lib.Arith.{digits_lt}
use lib.Bits.{bit_and}
use Rattle.std.proofs.lemmas.Bool.{cases_lt}
use Rattle.layout.specs.declared.field.Digits.TheVariants.{Two, Four, Eight}
use Rattle.layout.specs.declared.field.Test.TheVariants.{ApartField}
use Rattle.layout.specs.declared.frame.Frame.{Frame}
use Rattle.layout.specs.Layout.{Counts, short, one_of, counts, count_of, below, range_of, unused, leading, row, step, proposition, state, edge, mode, choice, line, uniform, value, point_rows, conclusions, steps_group, points_group, moves_group, choices_group, start_group, every_run, groups, lines_due}
use Rattle.layout.specs.Cells.{between, writable, holds, head_width, well_formed}
use Rattle.layout.proofs.Count.{both_left, both_right, formed, formed_ranges}
use Rattle.dossier.specs.Dossier
use Rattle.dossier.specs.Ranges.{Small, SmallRow, Line, ProgramRanges, EveryRunRanges, SomeRunRanges}
use Rattle.dossier.proofs.Standing.{Held, standing, Pass, Following, grouped, repeated_held, led_by, led_value, lead_held, rest_held}

at_most : (high : ℕ) (v : ℤ) → T (between (pos 0) (pos high) v) → count_of v ≤ high
at_most high (pos n) t = leb→le n high (both_right (leb 0 n) _ t)
at_most high (negsuc n) t = absurd t

-- a number of which there are n
under : (n : ℕ) (v : ℤ) → T (between (pos 0) (below (pos n)) v) → count_of v < n
under n (negsuc v) t = absurd t
under zero (pos v) t = absurd (both_right (leb 0 v) _ t)
under (suc n) (pos v) t = suc-le-suc (at_most n (pos v) t)

module _ (cells : List ℤ) where
  -- where the lines stand of which the ranges are told
  record Parts (h : Counts) : Type 0 where
    start_rows : (i : ℕ) → i < h.start_rows → Held cells (row h 0x20) (Dossier.start_row_at h i)
    steps : (t : ℕ) → t < h.steps → Pass cells (steps_group h) (Dossier.step_at h t)
    propositions : (i : ℕ) → i < h.propositions → Held cells (proposition h) (Dossier.proposition_at h i)
    edges : (e : ℕ) → e < h.edges → Held cells (edge h) (Dossier.edge_at h e)
    points : (p : ℕ) → p < Dossier.points h → Pass cells (points_group h) (Dossier.point_at h p)
    certificate : Following cells (start_group h ∷ cond (every_run h) (moves_group h) (choices_group h) ∷ []) (Dossier.point_at h (Dossier.points h))

  parts : (h : Counts) → Following cells (groups h) head_width → Parts h
  parts h all =
      let starts = repeated_held cells h.start_rows (row h 0x20) (Dossier.row_width h) (omega arith) all in
      let steps = grouped cells (steps_group h) (Dossier.step_width h) (omega arith) starts.1 in
      let propositions = repeated_held cells h.propositions (proposition h) (2 + Dossier.row_width h) refl steps.1 in
      let states = repeated_held cells h.states state 1 refl propositions.1 in
      let edges = repeated_held cells h.edges (edge h) {n = Dossier.state_at h h.states} 4 refl (subst (Following cells _) (ap (λ k. Dossier.proposition_at h h.propositions + k) (omega arith)) states.1) in
      let points = grouped cells (points_group h) (point_rows h * Dossier.row_width h) (omega (arith, add-mul h.region_rows h.rank_numbers (Dossier.row_width h))) edges.1 in
      record { start_rows = starts.0; steps = steps.0; propositions = propositions.0; edges = edges.0; points = points.0; certificate = points.1 }

  parts_of : well_formed cells ≡ true → Parts (counts cells)
  unfolding lines_due
  parts_of e = parts (counts cells) (record { lines = standing cells (lines_due (counts cells)) head_width (formed cells e).lines })

  -- leading value i of a line at n stands at m, and is of the range that its field allows
  lead_in : (f : Frame) (n : ℕ) → Held cells f n → (i : ℕ) → i < length (leading f) → (m : ℕ) → m ≡ n + i → T (holds (range_of (get_or (leading f) i unused).test (take i (led_by cells f n))) (Dossier.cell cells m))
  lead_in f n held i l m e = both_right (writable (get_or (leading f) i unused).digits (Dossier.cell cells m)) _ (lead_held cells f n held i l m e)

  lead_most : (f : Frame) (n : ℕ) → Held cells f n → (i : ℕ) → i < length (leading f) → (high : ℕ) → get_or (leading f) i unused ≡ short 0 high → (m : ℕ) → m ≡ n + i → Dossier.number cells m ≤ high
  lead_most f n held i l high is m e = at_most high (Dossier.cell cells m) (rw is at (lead_in f n held i l m e))

  lead_under : (f : Frame) (n : ℕ) → Held cells f n → (i : ℕ) → i < length (leading f) → (k : ℕ) → get_or (leading f) i unused ≡ one_of k → (m : ℕ) → m ≡ n + i → Dossier.number cells m < k
  lead_under f n held i l k is m e = under k (Dossier.cell cells m) (rw is at (lead_in f n held i l m e))

  -- a mask, apart from the earlier value j, which stands at k
  lead_apart : (f : Frame) (n : ℕ) → Held cells f n → (i : ℕ) → i < length (leading f) → (high j : ℕ) → get_or (leading f) i unused ≡ record { digits = Two; test = ApartField (pos high) j } → j < i → (m k : ℕ) → m ≡ n + i → k ≡ n + j → (Dossier.number cells m ≤ high) × (bit_and (Dossier.number cells m) (Dossier.number cells k) ≡ 0)
  lead_apart f n held i l high j is b m k e d =
      let t = rw is at (lead_in f n held i l m e) in
      let same : get_or (take i (led_by cells f n)) j (pos 0) ≡ Dossier.cell cells k = get_or-take i (led_by cells f n) j (pos 0) b ∙ led_value cells f n j (omega arith) k d in
      (at_most high (Dossier.cell cells m) (both_left _ _ t), rw same at (eqb→eq _ _ (both_right (between (pos 0) (pos high) (Dossier.cell cells m)) _ t)))

  -- numbers of four digits are small
  small_rest : (f : Frame) (n : ℕ) → f.rest.digits ≡ Four → Held cells f n → (i : ℕ) → i < f.count → (m : ℕ) → m ≡ n + length (leading f) + i → Small cells m
  small_rest f n four held i l m e = both_left _ _ (rw four at (rest_held cells f n held i l m e))

  -- a row that stands at n, which is m
  small_row : (h : Counts) (kind n : ℕ) → Held cells (row h kind) n → (m : ℕ) → m ≡ n → (i : ℕ) → i ≤ h.variables → Small cells (m + i)
  small_row h kind n held m e i l = small_rest (row h kind) n refl held i (omega arith) (m + i) (omega arith)

  line_ranges : (kind k n : ℕ) → Held cells (line kind k) n → Line cells n k
  line_ranges kind k n held = (
    lead_in (line kind k) n held 0 (lit< tt) n (omega arith),
    λ i l. both_right (writable Eight (Dossier.cell cells (n + 1 + i))) _ (rest_held cells (line kind k) n held i l (n + 1 + i) refl),
  )

-- a mask over n propositions
masked : (k n : ℕ) → k ≤ 2 ^ n - 1 → k < 2 ^ n
masked k n l = omega (arith, pow_pos n)

module _ (cells : List ℤ) (e : well_formed cells ≡ true) where
  abbrev h : Counts
  h = Dossier.head cells

  made : Parts cells h
  made = parts_of cells e

  step_held : (t : ℕ) → t < h.steps → Held cells (step h) (Dossier.step_at h t)
  step_held t l = subst (Held cells (step h)) (omega arith) ((made.steps t l).firsts 0 (lit< tt))

  updated : (t v : ℕ) → t < h.steps → v < h.variables → SmallRow cells (Dossier.step_at h t + 2 + v * Dossier.row_width h)
  updated t v l k j m = small_rest cells (step h) (Dossier.step_at h t) refl (step_held t l) (v * Dossier.row_width h + j) (digits_lt k (omega arith)) _ (omega arith)

  guarded : (t g : ℕ) → t < h.steps → g < h.guards → SmallRow cells (Dossier.step_at h t + 2 + (h.variables + g) * Dossier.row_width h)
  guarded t g l k = small_row cells h 0x31 _ ((made.steps t l).seconds g k) _ (omega (arith, add-mul h.variables g (Dossier.row_width h)))

  masks_held : (e : ℕ) → e < h.edges → (Dossier.must_not cells e ≤ 2 ^ h.propositions - 1) × (bit_and (Dossier.must_not cells e) (Dossier.must cells e) ≡ 0)
  masks_held e l = lead_apart cells (edge h) _ (made.edges e l) 3 (lit< tt) _ 2 refl (lit< tt) _ _ refl refl

  -- the region rows, then the rank rows
  pointed : (p r : ℕ) → p < Dossier.points h → r < point_rows h → SmallRow cells (Dossier.point_at h p + r * Dossier.row_width h)
  pointed p r l k =
      elim (cases_lt r h.region_rows) [
        | inl m ↦ small_row cells h 0x60 _ ((made.points p l).firsts r m) _ (omega arith)
        | inr m ↦
            let i = r - h.region_rows in
            let is : r ≡ h.region_rows + i = omega arith in
            small_row cells h 0x61 _ ((made.points p l).seconds i (omega arith)) _ (omega (arith, add-mul h.region_rows i (Dossier.row_width h), ap (λ r. r * Dossier.row_width h) is))
      ]

  pub program_ranges : ProgramRanges cells
  program_ranges =
      record {
        counts_in = formed_ranges cells e;
        start_rows = λ i l. small_row cells h 0x20 _ (made.start_rows i l) _ refl;
        step_from = λ t l. lead_under cells (step h) _ (step_held t l) 0 (lit< tt) h.places refl _ (omega arith);
        step_to = λ t l. lead_under cells (step h) _ (step_held t l) 1 (lit< tt) h.places refl _ refl;
        updates = updated;
        guards = guarded;
        propositions = λ i l j k. small_rest cells (proposition h) _ refl (made.propositions i l) j (omega arith) _ refl;
        edge_from = λ i l. lead_under cells (edge h) _ (made.edges i l) 0 (lit< tt) h.states refl _ (omega arith);
        edge_to = λ i l. lead_under cells (edge h) _ (made.edges i l) 1 (lit< tt) h.states refl _ refl;
        must = λ i l. masked _ h.propositions (lead_most cells (edge h) _ (made.edges i l) 2 (lit< tt) _ refl _ refl);
        must_not = λ i l. masked _ h.propositions (masks_held i l).0;
        apart = λ i l. (masks_held i l).1;
        point_rows = pointed;
      }

  pub every_run_ranges : (Dossier.head cells).form ≡ 1 → EveryRunRanges cells
  every_run_ranges is =
      let starts = repeated_held cells (point_rows h) (line 0x70 h.start_rows) (1 + h.start_rows) refl (rw (ap (λ n. eqb n 1) is) at made.certificate) in
      let moves = grouped cells (moves_group h) (1 + conclusions h * (1 + Dossier.move_hypotheses h)) refl starts.1 in
      record {
        start_lines = λ k l. line_ranges cells 0x70 h.start_rows _ (starts.0 k l);
        modes = λ m l. lead_most cells (mode h 0x71) _ ((moves.0 m l).firsts 0 (lit< tt)) 0 (lit< tt) h.rank_numbers refl _ (omega arith);
        move_lines = λ m k l i. line_ranges cells 0x72 (Dossier.move_hypotheses h) _ ((moves.0 m l).seconds k i);
      }

  pub some_run_ranges : (Dossier.head cells).form ≡ 2 → SomeRunRanges cells
  some_run_ranges is =
      let shown = repeated_held cells 1 (uniform 0x80 value h.variables) h.variables (omega arith) (rw (ap (λ n. eqb n 1) is) at made.certificate) in
      let choices = grouped cells (choices_group h) {n = Dossier.shown_at h h.variables} (3 + Dossier.point_conclusions h * (1 + point_rows h)) refl (subst (Following cells _) (omega arith) shown.1) in
      record {
        modes = λ p l. lead_most cells (choice h) _ ((choices.0 p l).firsts 0 (lit< tt)) 0 (lit< tt) h.rank_numbers refl _ (omega arith);
        steps = λ p l. lead_under cells (choice h) _ ((choices.0 p l).firsts 0 (lit< tt)) 1 (lit< tt) h.steps refl _ (omega arith);
        edges = λ p l. lead_under cells (choice h) _ ((choices.0 p l).firsts 0 (lit< tt)) 2 (lit< tt) h.edges refl _ (omega arith);
        point_lines = λ p k l i. line_ranges cells 0x82 (point_rows h) _ ((choices.0 p l).seconds k i);
      }
