-- The number of proof lines is that of the tests that are proof lines.
use Rattle.std.proofs.Common.{◌≡◌, ℕ, zero, suc, ◌+◌, ◌*◌, ◌^◌, true, false, cond, List, [], ◌∷◌, ◌++◌, length, ℤ, sym, refl, ap, ◌∙◌, ap₂, suc-mul, zero-mul, arith}
use Rattle.std.specs.List.{flat_map}
use Rattle.layout.specs.Layout.{point_rows, conclusions}
use Rattle.dossier.specs.declared.fault.AdmitFault.{AdmitFault}
use Rattle.dossier.specs.declared.fault.AdmitFault.TheVariants.{NoEdge, StartLine, MoveLine, PointLine}
use Rattle.dossier.specs.Admission
use Rattle.dossier.specs.Dossier.{head, start_line_at, move_line_at, move_hypotheses, points, point_line_at, point_conclusions}
use Rattle.dossier.specs.Kinds.{Kind}
use Rattle.dossier.specs.Laws.{is_line, lines_in}
use Rattle.dossier.specs.Rows.{Row, each, each_from}
use Rattle.dossier.proofs.InOrder.{numbered, line_trial, lines_numbered, row_trial, rows_numbered, moves_in_order}
use Rattle.dossier.proofs.Tests.{length_start, length_move_claims, length_point_claims}

in_append : (xs ys : List Admission.Trial) → lines_in (xs ++ ys) ≡ lines_in xs + lines_in ys
in_append [] ys = omega arith
in_append (x ∷ xs) ys = ap (λ n. cond (is_line x.fault) 1 0 + n) (in_append xs ys) ∙ (let e : cond (is_line x.fault) 1 0 + (lines_in xs + lines_in ys) ≡ cond (is_line x.fault) 1 0 + lines_in xs + lines_in ys = omega arith in e)

module _ {A : Type 0} (trial : ℕ → A → Admission.Trial) where
  -- tests that are all proof lines, and tests of which none is
  numbered_lines : ((k : ℕ) (x : A) → is_line (trial k x).fault ≡ true) → (k : ℕ) (xs : List A) → lines_in (numbered trial k xs) ≡ length xs
  numbered_lines h k [] = refl
  numbered_lines h k (x ∷ xs) = ap₂ (λ b n. cond b 1 0 + n) (h k x) (numbered_lines h (suc k) xs) ∙ (let e : 1 + length xs ≡ suc (length xs) = omega arith in e)

  numbered_none : ((k : ℕ) (x : A) → is_line (trial k x).fault ≡ false) → (k : ℕ) (xs : List A) → lines_in (numbered trial k xs) ≡ 0
  numbered_none h k [] = refl
  numbered_none h k (x ∷ xs) = ap₂ (λ b n. cond b 1 0 + n) (h k x) (numbered_none h (suc k) xs)

-- the lines of conclusions in order
lines_counted : (cells : List ℤ) (at : ℕ → ℕ) (n : ℕ) (hs : List Row) (named : ℕ → AdmitFault) → ((k : ℕ) → is_line (named k) ≡ true) → (cs : List Row) → lines_in (Admission.lines cells at n hs named 0 cs) ≡ length cs
lines_counted cells at n hs named h cs = ap lines_in (lines_numbered cells at n hs named 0 cs) ∙ numbered_lines (line_trial cells at n hs named) (λ k x. h k) 0 cs

each_none : (f : ℕ → Admission.Trial) → ((k : ℕ) → is_line (f k).fault ≡ false) → (i n : ℕ) → lines_in (each_from i n f) ≡ 0
each_none f h i zero = refl
each_none f h i (suc n) = ap₂ (λ b m. cond b 1 0 + m) (h i) (each_none f h (suc i) n)

in_joined : (f : ℕ → List Admission.Trial) (c : ℕ) → ((k : ℕ) → lines_in (f k) ≡ c) → (i n : ℕ) → lines_in (flat_map f (each_from i n (λ k. k))) ≡ n * c
in_joined f c h i zero = sym (zero-mul c)
in_joined f c h i (suc n) = in_append (f i) (flat_map f (each_from (suc i) n (λ k. k))) ∙ ap₂ ◌+◌ (h i) (in_joined f c h (suc i) n) ∙ (let e : c + n * c ≡ suc n * c = omega (arith, suc-mul n c) in e)

module _ (kind : Kind) (cells : List ℤ) where
  watch_none : lines_in (Admission.watch_trials cells) ≡ 0
  watch_none =
      in_joined (Admission.state_trials cells) 0 (λ q. each_none (λ l. record { passes = Admission.found cells (Admission.edge_for cells q l); fault = NoEdge q l }) (λ l. refl) 0 (2 ^ (head cells).propositions)) 0 (head cells).states
      ∙ (let e : (head cells).states * 0 ≡ 0 = omega arith in e)

  pub every_run_counted : Admission.every_run_lines cells ≡ lines_in (Admission.every_run_trials cells kind)
  every_run_counted =
      let moves : List Admission.Trial = flat_map (λ t. flat_map (λ e. Admission.move_trials cells kind t e) (each (head cells).edges (λ e. e))) (each (head cells).steps (λ t. t)) in
      let start : lines_in (Admission.start_trials cells) ≡ point_rows (head cells) = lines_counted cells (start_line_at (head cells)) (head cells).start_rows (Admission.start_hypotheses cells) StartLine (λ k. refl) (Admission.start_conclusions cells) ∙ length_start cells in
      let all : lines_in moves ≡ Admission.moves cells * conclusions (head cells) = ap lines_in (moves_in_order kind cells) ∙ in_joined (Admission.trials_of_move cells kind) (conclusions (head cells)) (λ m. lines_counted cells (move_line_at (head cells) m) (move_hypotheses (head cells)) (Admission.move_hypotheses_of cells (Admission.move_step cells m) (Admission.move_edge cells m)) (MoveLine m) (λ k. refl) (Admission.move_claims cells kind m) ∙ length_move_claims cells kind m) 0 (Admission.moves cells) in
      omega (arith, watch_none, start, all, in_append (Admission.watch_trials cells) (Admission.start_trials cells ++ moves), in_append (Admission.start_trials cells) moves)

  pub some_run_counted : Admission.some_run_lines cells ≡ lines_in (Admission.some_run_trials cells kind)
  some_run_counted =
      let choices : List Admission.Trial = flat_map (Admission.choice_trials cells kind) (each (points (head cells)) (λ p. p)) in
      let shown : lines_in (Admission.row_trials cells 0 (Admission.shown_rows cells)) ≡ 0 = ap lines_in (rows_numbered cells 0 (Admission.shown_rows cells)) ∙ numbered_none (row_trial cells) (λ k x. refl) 0 (Admission.shown_rows cells) in
      let all : lines_in choices ≡ points (head cells) * point_conclusions (head cells) = in_joined (Admission.choice_trials cells kind) (point_conclusions (head cells)) (λ p. in_append (Admission.begin_trials cells p) (Admission.point_trials cells kind p) ∙ ap (λ n. 0 + n) (lines_counted cells (point_line_at (head cells) p) (point_rows (head cells)) (Admission.point_hypotheses cells p) (PointLine p) (λ k. refl) (Admission.point_claims cells kind p) ∙ length_point_claims cells kind p) ∙ (let e : 0 + point_conclusions (head cells) ≡ point_conclusions (head cells) = omega arith in e)) 0 (points (head cells)) in
      omega (arith, shown, all, in_append (Admission.row_trials cells 0 (Admission.shown_rows cells)) choices)
