-- Several cells at once: their test, where they go, and a run of them.
use Rattle.std.proofs.Common.{◌≡◌, ℕ, zero, suc, ◌+◌, ◌-◌, ◌<◌, ◌≤◌, Bool, true, false, cond, ◌&&◌, List, [], ◌∷◌, length, take, drop, ℤ, Ok, Err, Result, sym, refl, ap, ◌∙◌, ap₂, add-zero, arith, length-drop, int_le, w32, SFits}
use lib.Signed.{le_z, mag}
use Rattle.std.specs.Int.{int_max, int_min}
use Rattle.std.specs.List.{fold, list_all}
use Rattle.std.proofs.lemmas.List.{drop-drop, length-take-le, set_past}
use Rattle.std.proofs.lemmas.Int.{ints}
use Rattle.std.proofs.lemmas.Bool.{le-ltb, false≢true}
use Rattle.layout.specs.declared.fault.Place.{Place}
use Rattle.layout.specs.declared.fault.OpenFault.{OpenFault}
use Rattle.layout.specs.declared.fault.OpenFault.TheVariants.{NotWellFormed}
use Rattle.layout.specs.declared.field.Digits.{Digits}
use Rattle.layout.specs.declared.field.Range.{Range}
use Rattle.layout.specs.declared.field.Range.TheVariants.{Between}
use Rattle.layout.specs.Cells.{both, between, writable, passes, all_hold}
use Rattle.layout.specs.Checking.{cell_at, cell_supply}
use Rattle.layout.specs.Reading.{ahead}
use Rattle.layout.specs.Walk.{next, run}
use Rattle.sheet.specs.declared.store.Store.{Store}
use Rattle.sheet.specs.Store.{put, puts}

both_false : (a : Bool) → both a false ≡ false
both_false true = refl
both_false false = refl

both_parts : (a b : Bool) → both a b ≡ true → (a ≡ true) × (b ≡ true)
both_parts true b h = (refl, h)
both_parts false b h = absurd (false≢true h)

-- a fold that keeps one flag
pub fold_between : (low high : ℤ) (seen : Bool) (vs : List ℤ) → fold (λ t v. (t && int_le low v) && int_le v high) seen vs ≡ (seen && list_all (between low high) vs)
fold_between low high true [] = refl
fold_between low high false [] = refl
fold_between low high seen (v ∷ vs) = fold_between low high ((seen && int_le low v) && int_le v high) vs ∙ go seen (int_le low v) (int_le v high)
  where
    go : (seen a b : Bool) → (((seen && a) && b) && list_all (between low high) vs) ≡ (seen && (both a b && list_all (between low high) vs))
    go true true b = refl
    go true false b = refl
    go false a b = refl

max_le : (a b v : ℤ) → int_le (int_max a b) v ≡ both (int_le b v) (int_le a v)
max_le a b v = grind (arith, ints)

le_min : (a b v : ℤ) → int_le v (int_min a b) ≡ both (int_le v b) (int_le v a)
le_min a b v = grind (arith, ints)

both_swap : (a b c d : Bool) → both (both a b) (both c d) ≡ both (both a c) (both b d)
both_swap true true c d = refl
both_swap true false true d = refl
both_swap true false false d = refl
both_swap false b c d = refl

module _ (d : Digits) (r : Range) where
  hold_short : (n : ℕ) (cs : List ℤ) → length cs < n → all_hold d r n (take n cs) ≡ false
  hold_short zero cs h = absurd (omega arith)
  hold_short (suc n) [] h = refl
  hold_short (suc n) (v ∷ vs) h = ap (both (passes d r v)) (hold_short n vs (omega arith)) ∙ both_false (passes d r v)

  hold_all : (vs : List ℤ) → list_all (passes d r) vs ≡ all_hold d r (length vs) vs
  hold_all [] = refl
  hold_all (v ∷ vs) = ap (λ t. passes d r v && t) (hold_all vs) ∙ and_both (passes d r v) _
    where
      and_both : (a b : Bool) → (a && b) ≡ both a b
      and_both true b = refl
      and_both false b = refl

-- the digits' span says what they can write of 32 bits, and what lies between two cells fits these
module _ (d : Digits) (low high least most : ℤ) (low_fits : SFits w32 low) (high_fits : SFits w32 high) (same : (v : ℤ) → SFits w32 v → between least most v ≡ writable d v) where
  fits_between : (v : ℤ) → between low high v ≡ true → SFits w32 v
  fits_between v h = let p = both_parts (le_z low v) (le_z v high) h in record { sfits = inside low high v low_fits.sfits high_fits.sfits p.0 p.1 }
    where
      inside : (a b c : ℤ) → mag a < 2147483648 → mag b < 2147483648 → le_z a c ≡ true → le_z c b ≡ true → mag c < 2147483648
      inside a b c ha hb l h = grind (arith, ints)

  span_passes : (v : ℤ) → between (int_max low least) (int_min high most) v ≡ passes d (Between low high) v
  span_passes v = ap₂ both (max_le low least v) (le_min high most v) ∙ both_swap (le_z least v) (le_z low v) (le_z v most) (le_z v high) ∙ go (between low high v) (λ h. same v (fits_between v h))
    where
      go : (t : Bool) → (t ≡ true → between least most v ≡ writable d v) → both (between least most v) t ≡ both (writable d v) t
      go true e = ap (λ x. both x true) (e refl)
      go false e = both_false (between least most v) ∙ sym (both_false (writable d v))

  pub span_all : (vs : List ℤ) → list_all (between (int_max low least) (int_min high most)) vs ≡ list_all (passes d (Between low high)) vs
  span_all vs = ap (λ p. list_all p vs) (λ i v. span_passes v i)

-- past the end there is no free cell
pub puts_past : (s : Store) (vs : List ℤ) → length s.cells.now ≤ s.next → puts s vs ≡ s
puts_past s [] h = refl
puts_past s (v ∷ vs) h = ap (λ t. puts t vs) nowhere ∙ puts_past s vs h
  where
    nowhere : put s v ≡ s
    nowhere = ap₂ (λ n cells. record { cells = record s.cells { now = cells }; next = n }) (ap (λ t. cond t (s.next + 1) s.next) (le-ltb s.next (length s.cells.now) h)) (set_past s.cells.now s.next v h)

-- a run takes the cells from a place on, if there are so many and every one passes
run_cells : (cells : List ℤ) (d : Digits) (r : Range) (n : ℕ) (s : Store) (p : Place) (cs : List ℤ) → drop p.byte cells ≡ cs → run (cell_supply cells) put d r n s p ≡ cond (all_hold d r n (take n cs)) (Ok (puts s (take n cs), ahead p n)) (Err NotWellFormed)
run_cells cells d r zero s p cs e = ap (λ k. Ok (s, record { line = p.line; byte = k })) (sym (add-zero p.byte))
run_cells cells d r (suc n) s p [] e = ap (λ l. next (cell_at l d r p) (λ x. run (cell_supply cells) put d r n (put s x.0) x.1)) e
run_cells cells d r (suc n) s p (v ∷ vs) e =
    let behind = run_cells cells d r n (put s v) (ahead p 1) vs (sym (drop-drop 1 p.byte cells) ∙ ap (drop 1) e) in
    ap (λ l. next (cell_at l d r p) (λ x. run (cell_supply cells) put d r n (put s x.0) x.1)) e ∙ go behind (passes d r v)
  where
    onward : ℤ × Place → Result (Store × Place) OpenFault
    onward x = run (cell_supply cells) put d r n (put s x.0) x.1

    go : onward (v, ahead p 1) ≡ cond (all_hold d r n (take n vs)) (Ok (puts (put s v) (take n vs), ahead (ahead p 1) n)) (Err NotWellFormed) → (t : Bool) → next (cond t (Ok (v, ahead p 1)) (Err NotWellFormed)) onward ≡ cond (both t (all_hold d r n (take n vs))) (Ok (puts (put s v) (take n vs), ahead p (suc n))) (Err NotWellFormed)
    go behind true = behind ∙ ap (λ k. cond (all_hold d r n (take n vs)) (Ok (puts (put s v) (take n vs), record { line = p.line; byte = k })) (Err NotWellFormed)) (omega arith)
    go behind false = refl

-- the cells from a place on, of which a run takes n
module _ (cells : List ℤ) (d : Digits) (r : Range) (n : ℕ) (s : Store) (p : Place) where
  run_tested : {t : Bool} → t ≡ all_hold d r n (take n (drop p.byte cells)) → run (cell_supply cells) put d r n s p ≡ cond t (Ok (puts s (take n (drop p.byte cells)), ahead p n)) (Err NotWellFormed)
  run_tested h = run_cells cells d r n s p (drop p.byte cells) refl ∙ ap (λ t. cond t (Ok (puts s (take n (drop p.byte cells)), ahead p n)) (Err NotWellFormed)) (sym h)

  pub run_short : length cells - p.byte < n → run (cell_supply cells) put d r n s p ≡ Err NotWellFormed
  run_short h = run_tested (sym (hold_short d r n (drop p.byte cells) (simp length-drop (omega arith))))

  -- `&cells[at..at + n]`
  module _ (part : List ℤ) (is : part ≡ take (p.byte + n - p.byte) (drop p.byte cells)) (here : n ≤ length cells - p.byte) where
    front : part ≡ take n (drop p.byte cells)
    front = is ∙ ap (λ m. take m (drop p.byte cells)) (omega arith)

    pub run_part : {t : Bool} → t ≡ list_all (passes d r) part → run (cell_supply cells) put d r n s p ≡ cond t (Ok (puts s part, ahead p n)) (Err NotWellFormed)
    run_part {t} h =
        run_tested (h ∙ hold_all d r part ∙ ap (λ l. all_hold d r (length l) l) front ∙ ap (λ m. all_hold d r m (take n (drop p.byte cells))) (length-take-le n (drop p.byte cells) (simp length-drop (omega arith))))
        ∙ ap (λ l. cond t (Ok (puts s l, ahead p n)) (Err NotWellFormed)) (sym front)
