-- Where each line of a layout stands in the list, and what its cells pass there.
use Rattle.std.proofs.Common.{◌≡◌, ℕ, zero, suc, ◌+◌, ◌*◌, ◌<◌, T, List, [], ◌∷◌, ◌++◌, length, get_or, take, drop, replicate, ℤ, pos, ap, ◌∙◌, subst, append_assoc, le_of_suc-le-suc, not-suc-le-zero, suc-mul, zero-mul, arith, lit<, get_or-drop, get_or-take, drop-drop}
use Rattle.std.specs.List.{flat_map}
use Rattle.layout.specs.declared.field.Digits.{Digits}
use Rattle.layout.specs.declared.field.Range.{Range}
use Rattle.layout.specs.declared.frame.Frame.{Frame}
use Rattle.layout.specs.declared.frame.Group.{Group}
use Rattle.layout.specs.Layout.{range_of, unused, leading, repeated, group_pass, group_lines}
use Rattle.layout.specs.Cells.{passes, leads_hold, all_hold, line_holds, width, lines_hold}
use Rattle.layout.proofs.Count.{both_left, both_right, lead_passes}

-- the width of one pass through a group
abbrev pub pass_width : Group → ℕ
pass_width g = g.firsts * width g.first + g.seconds * width g.second

-- what holds at 0, and behind it of k numbers
below_suc : (P : ℕ → Type 0) (k : ℕ) → P 0 → ((i : ℕ) → i < k → P (suc i)) → (i : ℕ) → i < suc k → P i
below_suc P k here more zero l = here
below_suc P k here more (suc i) l = more i (le_of_suc-le-suc l)

-- each of n values of one range
all_passes : (d : Digits) (r : Range) (n : ℕ) (vs : List ℤ) → T (all_hold d r n vs) → (i : ℕ) → i < n → T (passes d r (get_or vs i (pos 0)))
all_passes d r zero vs t i l = absurd (not-suc-le-zero l)
all_passes d r (suc n) [] t i l = absurd t
all_passes d r (suc n) (v ∷ vs) t zero l = both_left _ _ t
all_passes d r (suc n) (v ∷ vs) t (suc i) l = all_passes d r n vs (both_right (passes d r v) _ t) i (le_of_suc-le-suc l)

module _ (cells : List ℤ) where
  -- the values of a line of the frame f stand at n
  abbrev pub Held : Frame → ℕ → Type 0
  Held f n = T (line_holds (leading f) f.rest f.count (take (width f) (drop n cells)))

  -- lines stand one after the other from n on
  abbrev pub Standing : List Frame → ℕ → Type 0
  Standing [] n = Unit {0}
  Standing (f ∷ fs) n = Held f n × Standing fs (n + width f)

  pub standing : (fs : List Frame) (n : ℕ) → T (lines_hold fs (drop n cells)) → Standing fs n
  standing [] n t = tt
  standing (f ∷ fs) n t = (both_left _ _ t, standing fs (n + width f) (rw drop-drop at (both_right (line_holds (leading f) f.rest f.count (take (width f) (drop n cells))) _ t)))

  -- lines of one frame, then others
  replicated : (k : ℕ) (f : Frame) (fs : List Frame) (n : ℕ) → Standing (replicate k f ++ fs) n → ((i : ℕ) → i < k → Held f (n + i * width f)) × Standing fs (n + k * width f)
  replicated zero f fs n s = (λ i l. absurd (not-suc-le-zero l), subst (Standing fs) (omega (arith, zero-mul (width f))) s)
  replicated (suc k) f fs n s =
      let later = replicated k f fs (n + width f) s.1 in (
        below_suc (λ i. Held f (n + i * width f)) k (subst (Held f) (omega (arith, zero-mul (width f))) s.0) (λ i l. subst (Held f) (omega (arith, suc-mul i (width f))) (later.0 i l)),
        subst (Standing fs) (omega (arith, suc-mul k (width f))) later.1,
      )

  -- the lines of one pass that begins at n
  pub record Pass (g : Group) (n : ℕ) : Type 0 where
    pub firsts : (i : ℕ) → i < g.firsts → Held g.first (n + i * width g.first)
    pub seconds : (i : ℕ) → i < g.seconds → Held g.second (n + g.firsts * width g.first + i * width g.second)

  passed : (g : Group) (fs : List Frame) (n : ℕ) → Standing (group_pass g ++ fs) n → Pass g n × Standing fs (n + pass_width g)
  passed g fs n s =
      let ahead = replicated g.firsts g.first (replicate g.seconds g.second ++ fs) n (rw append_assoc at s) in
      let behind = replicated g.seconds g.second fs (n + g.firsts * width g.first) ahead.1 in
      (record { firsts = ahead.0; seconds = behind.0 }, subst (Standing fs) (omega arith) behind.1)

  passes_held : (g : Group) (k : ℕ) (fs : List Frame) (n : ℕ) → Standing (group_lines g k ++ fs) n → ((t : ℕ) → t < k → Pass g (n + t * pass_width g)) × Standing fs (n + k * pass_width g)
  passes_held g zero fs n s = (λ t l. absurd (not-suc-le-zero l), subst (Standing fs) (omega (arith, zero-mul (pass_width g))) s)
  passes_held g (suc k) fs n s =
      let now = passed g (group_lines g k ++ fs) n (rw (append_assoc (group_pass g) (group_lines g k) fs) at s) in
      let later = passes_held g k fs (n + pass_width g) now.1 in (
        below_suc (λ t. Pass g (n + t * pass_width g)) k (subst (Pass g) (omega (arith, zero-mul (pass_width g))) now.0) (λ t l. subst (Pass g) (omega (arith, suc-mul t (pass_width g))) (later.0 t l)),
        subst (Standing fs) (omega (arith, suc-mul k (pass_width g))) later.1,
      )

  -- the lines of groups stand from n on
  pub record Following (gs : List Group) (n : ℕ) : Type 0 where
    pub lines : Standing (flat_map (λ g. group_lines g g.times) gs) n

  -- a group whose passes have width w, and the groups behind it
  pub grouped : (g : Group) {gs : List Group} {n : ℕ} (w : ℕ) → pass_width g ≡ w → Following (g ∷ gs) n → ((t : ℕ) → t < g.times → Pass g (n + t * w)) × Following gs (n + g.times * w)
  grouped g {gs} {n} w e s =
      let all = passes_held g g.times _ n s.lines in
      (λ t l. subst (λ w. Pass g (n + t * w)) e (all.0 t l), subst (λ w. Following gs (n + g.times * w)) e (record { lines = all.1 }))

  -- k lines like f, of width w
  pub repeated_held : (k : ℕ) (f : Frame) {gs : List Group} {n : ℕ} (w : ℕ) → width f ≡ w → Following (repeated k f ∷ gs) n → ((t : ℕ) → t < k → Held f (n + t * w)) × Following gs (n + k * w)
  repeated_held k f w e s =
      let all = grouped (repeated k f) w (omega arith) s in
      (λ t l. subst (Held f) (omega arith) ((all.0 t l).firsts 0 (lit< tt)), all.1)

  -- what a line's cells pass -----------------------------------------------------------------------

  -- the values of a line's leading fields
  abbrev pub led_by : Frame → ℕ → List ℤ
  led_by f n = take (length (leading f)) (take (width f) (drop n cells))

  -- the leading value i stands at m
  pub led_value : (f : Frame) (n i : ℕ) → i < length (leading f) → (m : ℕ) → m ≡ n + i → get_or (led_by f n) i (pos 0) ≡ get_or cells m (pos 0)
  led_value f n i l m e =
      let within : i < width f = omega arith in
      get_or-take (length (leading f)) (take (width f) (drop n cells)) i (pos 0) l ∙ get_or-take (width f) (drop n cells) i (pos 0) within ∙ get_or-drop n cells i (pos 0) ∙ ap (λ k. get_or cells k (pos 0)) (omega arith)

  pub lead_held : (f : Frame) (n : ℕ) → Held f n → (i : ℕ) → i < length (leading f) → (m : ℕ) → m ≡ n + i → T (passes (get_or (leading f) i unused).digits (range_of (get_or (leading f) i unused).test (take i (led_by f n))) (get_or cells m (pos 0)))
  lead_held f n held i l m e = rw (led_value f n i l m e) at (lead_passes [] (leading f) (led_by f n) (both_left _ _ held) i l)

  -- the value i of the others stands at m
  pub rest_held : (f : Frame) (n : ℕ) → Held f n → (i : ℕ) → i < f.count → (m : ℕ) → m ≡ n + length (leading f) + i → T (passes f.rest.digits (range_of f.rest.test (led_by f n)) (get_or cells m (pos 0)))
  rest_held f n held i l m e =
      let leads = length (leading f) in
      let within : leads + i < width f = omega arith in
      let same : get_or (drop leads (take (width f) (drop n cells))) i (pos 0) ≡ get_or cells m (pos 0) = get_or-drop leads (take (width f) (drop n cells)) i (pos 0) ∙ get_or-take (width f) (drop n cells) (leads + i) (pos 0) within ∙ get_or-drop n cells (leads + i) (pos 0) ∙ ap (λ k. get_or cells k (pos 0)) (omega arith) in
      rw same at (all_passes f.rest.digits (range_of f.rest.test (led_by f n)) f.count (drop leads (take (width f) (drop n cells))) (both_right (leads_hold [] (leading f) (led_by f n)) _ held) i l)
