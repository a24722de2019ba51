-- Both passes of a reading give the list that the text is read as.
use Rattle.std.proofs.Common.{◌≡◌, ℕ, ◌+◌, ◌<◌, ◌≤◌, cond, ltb, List, [], ◌∷◌, ◌++◌, length, drop, set, ℤ, Ok, Err, Result, sym, refl, ap, ◌∙◌, ap₂, append_assoc, add-zero, zero-add, arith, length-append, lt-ltb}
use Rattle.std.proofs.lemmas.List.{set_at}
use Rattle.layout.specs.declared.fault.ReadFault.{ReadFault}
use Rattle.layout.specs.Reading.{append, read_with, read_text}
use Rattle.layout.proofs.Count.{all_counted}
use Rattle.layout.proofs.Natural.{seen_whole, read_seen}
use Rattle.layout.proofs.ReadLaw.{read_exactly}
use Rattle.sheet.specs.declared.store.Store.{Store}
use Rattle.sheet.specs.Outcomes.{Read}
use Rattle.sheet.specs.Store.{put, puts}

puts_append : (s : Store) (vs : List ℤ) (v : ℤ) → puts s (vs ++ v ∷ []) ≡ put (puts s vs) v
puts_append s [] v = refl
puts_append s (w ∷ vs) v = puts_append (put s w) vs v

-- behind the cells that were written, there is room for the values
puts_behind : (s : Store) (before cells list : List ℤ) → s.cells.now ≡ before ++ cells → s.next ≡ length before → length list ≤ length cells → ((puts s list).next ≡ length before + length list) × ((puts s list).cells.now ≡ before ++ (list ++ drop (length list) cells))
puts_behind s before cells [] l n h = (n ∙ sym (add-zero (length before)), l)
puts_behind s before [] (v ∷ list) l n h = absurd (omega arith)
puts_behind s before (c ∷ cells) (v ∷ list) l n h =
    let told = puts_behind (put s v) (before ++ v ∷ []) cells list written (next ∙ sym long) (omega arith) in
    (told.0 ∙ omega (arith, long), told.1 ∙ append_assoc before (v ∷ []) (list ++ drop (length list) cells))
  where
    room : length before < length (before ++ c ∷ cells)
    room = simp length-append (omega arith)

    long : length (before ++ v ∷ []) ≡ length before + 1
    long = length-append before (v ∷ [])

    next : (put s v).next ≡ length before + 1
    next = ap₂ (λ i list. cond (ltb i (length list)) (i + 1) i) n l ∙ ap (λ t. cond t (length before + 1) (length before)) (lt-ltb _ _ room)

    written : (put s v).cells.now ≡ (before ++ v ∷ []) ++ cells
    written = ap₂ (λ list i. set list i v) l n ∙ set_at before c cells v (length before) refl ∙ sym (append_assoc before (v ∷ []) cells)

-- a pass puts the values of the list that the text is read as
through : (text : List ℕ) (room : ℕ) (s : Store) → read_with put text room s ≡ seen_whole append put (puts s) (puts_append s) (read_text text room)
unfolding read_text
through text room s = read_seen append put (puts s) (puts_append s) text room []

module _ (text : List ℕ) (room : ℕ) (s : Store) where
  -- what stops one pass stops the reading
  pub refused : {e : ReadFault} → read_with put text room s ≡ Err e → read_text text room ≡ Err e
  refused {e} h = go (read_text text room) (sym (through text room s) ∙ h)
    where
      go : (x : Result (List ℤ) ReadFault) → seen_whole append put (puts s) (puts_append s) x ≡ Err e → x ≡ Err e
      go (Ok list) k = cc
      go (Err d) k = cc

  -- a pass that ends well puts the list
  passed : {t : Store} → read_with put text room s ≡ Ok t → (list : List ℤ) × (read_text text room ≡ Ok list) × (puts s list ≡ t)
  passed {t} h = go (read_text text room) refl (sym (through text room s) ∙ h)
    where
      go : (x : Result (List ℤ) ReadFault) → read_text text room ≡ x → seen_whole append put (puts s) (puts_append s) x ≡ Ok t → (list : List ℤ) × (read_text text room ≡ Ok list) × (puts s list ≡ t)
      go (Ok list) e k = (list, e, cc)
      go (Err d) e k = cc

-- a pass over all the cells leaves the list at their front
module _ (text : List ℕ) (before after : List ℤ) (s t : Store) (same : s.cells.now ≡ before) (first : s.next ≡ 0) (left : after ≡ t.cells.now) where
  pub filled : read_with put text (length before) s ≡ Ok t → Read (read_text text (length before)) (Ok t.next) before after
  filled h = go (passed text (length before) s h)
    where
      go : (list : List ℤ) × (read_text text (length before) ≡ Ok list) × (puts s list ≡ t) → Read (read_text text (length before)) (Ok t.next) before after
      go (list, e, put_all) =
          let roomy = ((read_exactly all_counted text (length before) list).0 e).roomy in
          let told = puts_behind s [] before list same first (omega arith) in
          rw e (ap Ok (ap (λ x. x.next) (sym put_all) ∙ told.0 ∙ zero-add (length list)), left ∙ ap (λ x. x.cells.now) (sym put_all) ∙ told.1)

-- the second pass goes as the first
pub again : (text : List ℕ) (room : ℕ) (s t : Store) {b : Store} {e : ReadFault} → read_with put text room s ≡ Ok b → read_with put text room t ≡ Err e → ⊥
again text room s t h k =
    let ok = passed text room s h in
    let err = refused text room t k in
    let e = ok.1 in
    cc
