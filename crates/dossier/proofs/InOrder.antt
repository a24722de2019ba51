-- Tests numbered along a list, and the moves in the order of their numbers.
use Rattle.std.proofs.Common.{◌≡◌, ℕ, zero, suc, ◌+◌, ◌*◌, ◌<◌, ◌≤◌, List, [], ◌∷◌, ◌++◌, ℤ, sym, refl, ap, ◌∙◌, ap₂, append_assoc, add-suc, suc-mul, zero-mul, arith}
use Rattle.std.specs.List.{flat_map}
use Rattle.std.proofs.lemmas.Nat.{div-mul-add, mod-mul-add}
use Rattle.layout.specs.Layout.{conclusions}
use Rattle.dossier.specs.declared.fault.AdmitFault.{AdmitFault}
use Rattle.dossier.specs.declared.fault.AdmitFault.TheVariants.{MoveLine, Shown}
use Rattle.dossier.specs.Rows.{Row, holds, each, each_from}
use Rattle.dossier.specs.Dossier.{head, move_mode, move_line_at, move_hypotheses}
use Rattle.dossier.specs.Kinds.{Kind}
use Rattle.dossier.specs.Admission.{Trial, line_at, lines, row_trials, shown_values, in_mode, move_conclusions, move_hypotheses_of, move_trials, trials_of_move, moves}

-- a test for each element of a list, with its number
abbrev pub numbered : {A : Type 0} → (ℕ → A → Trial) → ℕ → List A → List Trial
numbered trial k [] = []
numbered trial k (x ∷ xs) = trial k x ∷ numbered trial (suc k) xs

module _ (cells : List ℤ) where
  module _ (at : ℕ → ℕ) (n : ℕ) (hypotheses : List Row) (named : ℕ → AdmitFault) where
    abbrev pub line_trial : ℕ → Row → Trial
    line_trial k c = record { passes = line_at cells (at k) n hypotheses c; fault = named k }

    pub lines_numbered : (k : ℕ) (cs : List Row) → lines cells at n hypotheses named k cs ≡ numbered line_trial k cs
    lines_numbered k [] = refl
    lines_numbered k (c ∷ cs) = ap (λ ts. line_trial k c ∷ ts) (lines_numbered (suc k) cs)

  abbrev pub row_trial : ℕ → Row → Trial
  row_trial i r = record { passes = holds r (shown_values cells); fault = Shown i }

  pub rows_numbered : (i : ℕ) (rs : List Row) → row_trials cells i rs ≡ numbered row_trial i rs
  rows_numbered i [] = refl
  rows_numbered i (r ∷ rs) = ap (λ ts. row_trial i r ∷ ts) (rows_numbered (suc i) rs)

-- lists for each of w columns of each of h rows are lists for each of h * w numbers ------------------

module _ {A : Type 0} (w : ℕ) (at : ℕ → ℕ → List A) (by : ℕ → List A) (same : (t e : ℕ) → e < w → at t e ≡ by (t * w + e)) where
  columns_from : (t i n : ℕ) → i + n ≤ w → flat_map (λ e. at t e) (each_from i n (λ e. e)) ≡ flat_map by (each_from (t * w + i) n (λ m. m))
  columns_from t i zero h = refl
  columns_from t i (suc n) h =
      ap₂ ◌++◌ (same t i (omega arith)) (columns_from t (suc i) n (omega arith))
      ∙ ap (λ j. by (t * w + i) ++ flat_map by (each_from j n (λ m. m))) (add-suc (t * w) i)

  each_append : (i m n : ℕ) → flat_map by (each_from i (m + n) (λ m. m)) ≡ flat_map by (each_from i m (λ m. m)) ++ flat_map by (each_from (i + m) n (λ m. m))
  each_append i zero n = ap₂ (λ j k. flat_map by (each_from j k (λ m. m))) (let e : i ≡ i + 0 = omega arith in e) (let e : 0 + n ≡ n = omega arith in e)
  each_append i (suc m) n =
      ap (λ k. flat_map by (each_from i k (λ m. m))) (let e : suc m + n ≡ suc (m + n) = omega arith in e)
      ∙ ap (λ rest. by i ++ rest) (each_append (suc i) m n)
      ∙ sym (append_assoc (by i) (flat_map by (each_from (suc i) m (λ m. m))) (flat_map by (each_from (suc i + m) n (λ m. m))))
      ∙ ap (λ j. (by i ++ flat_map by (each_from (suc i) m (λ m. m))) ++ flat_map by (each_from j n (λ m. m))) (let e : suc i + m ≡ i + suc m = omega arith in e)

  rows_from : (s h : ℕ) → flat_map (λ t. flat_map (λ e. at t e) (each w (λ e. e))) (each_from s h (λ t. t)) ≡ flat_map by (each_from (s * w) (h * w) (λ m. m))
  rows_from s zero = ap (λ k. flat_map by (each_from (s * w) k (λ m. m))) (sym (zero-mul w))
  rows_from s (suc h) =
      ap₂ ◌++◌
      (columns_from s 0 w (omega arith) ∙ ap (λ i. flat_map by (each_from i w (λ m. m))) (let e : s * w + 0 ≡ s * w = omega arith in e))
      (rows_from (suc s) h ∙ ap (λ i. flat_map by (each_from i (h * w) (λ m. m))) (let e : suc s * w ≡ s * w + w = omega (arith, suc-mul s w) in e))
      ∙ sym (each_append (s * w) w (h * w))
      ∙ ap (λ k. flat_map by (each_from (s * w) k (λ m. m))) (let e : w + h * w ≡ suc h * w = omega (arith, suc-mul h w) in e)

  pub in_order : (h : ℕ) → flat_map (λ t. flat_map (λ e. at t e) (each w (λ e. e))) (each h (λ t. t)) ≡ flat_map by (each (h * w) (λ m. m))
  in_order h = rows_from 0 h ∙ ap (λ i. flat_map by (each_from i (h * w) (λ m. m))) (zero-mul w)

-- the moves, by step and edge and by number
module _ (kind : Kind) (cells : List ℤ) where
  same_move : (t e : ℕ) → e < (head cells).edges → move_trials cells kind t e ≡ trials_of_move cells kind (t * (head cells).edges + e)
  same_move t e l =
      let m : ℕ = t * (head cells).edges + e in
      ap₂ (λ t e. lines cells (move_line_at (head cells) m) (move_hypotheses (head cells)) (move_hypotheses_of cells t e) (MoveLine m) 0 (in_mode cells (move_mode cells m) (conclusions (head cells)) (move_conclusions cells kind (move_mode cells m) t e)))
      (sym (div-mul-add t (head cells).edges e l)) (sym (mod-mul-add t (head cells).edges e l))

  pub moves_in_order : flat_map (λ t. flat_map (λ e. move_trials cells kind t e) (each (head cells).edges (λ e. e))) (each (head cells).steps (λ t. t)) ≡ flat_map (trials_of_move cells kind) (each (moves cells) (λ m. m))
  moves_in_order = in_order (head cells).edges (move_trials cells kind) (trials_of_move cells kind) same_move (head cells).steps
