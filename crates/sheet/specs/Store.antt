-- What a step of a walk answers and leaves: its result, the place behind it, and the cells that it wrote.
use Rattle.std.specs.Prelude.{◌≡◌, ◌+◌, cond, List, [], ◌∷◌, length, ℤ, Ok, Err, Result, nat_lt, slice_set}
use Rattle.layout.specs.declared.fault.Place.{Place}
use Rattle.layout.specs.declared.head.Head.{Head}
use Rattle.layout.specs.Heads.{counts_of}
use Rattle.layout.specs.Layout.{counts}
use Rattle.sheet.specs.declared.store.Store.{Store}

-- the cells lent are the same, whatever stands in them
abbrev pub SameCells : Store → Store → Type 0
SameCells before after = after.cells.ghost_name ≡ before.cells.ghost_name

-- a value goes into the next free cell, if there is one
abbrev pub put : Store → ℤ → Store
put s v = record {
  cells = record s.cells { now = slice_set s.cells.now s.next v };
  next = cond (nat_lt s.next (length s.cells.now)) (s.next + 1) s.next;
}

-- values go in one after the other
abbrev pub puts : Store → List ℤ → Store
puts s [] = s
puts s (v ∷ vs) = puts (put s v) vs

-- a result with what is left behind an Ok; an Err is the fault alone
abbrev pub Answers : {T A E : Type 0} → (T → A) → Result T E → Result A E → Type 0
Answers left (Ok t) x = x ≡ Ok (left t)
Answers left (Err e) x = x ≡ Err e

module _ {E : Type 0} where
  -- a kind or a line's end was found, and `p` is the place behind it
  abbrev pub Found : Result (Unit {0}) E → Place → Result Place E → Type 0
  Found r p x = Answers (λ u. p) r x

  abbrev pub Valued : Result ℤ E → Place → Result (ℤ × Place) E → Type 0
  Valued r p x = Answers (λ v. (v, p)) r x

  abbrev pub Stored : Result (Unit {0}) E → Store → Place → Result (Store × Place) E → Type 0
  Stored r s p x = Answers (λ u. (s, p)) r x

  -- `vs` are the line's leading values
  abbrev pub Led : Result (Unit {0}) E → List ℤ → Store → Place → Result (List ℤ × Store × Place) E → Type 0
  Led r vs s p x = Answers (λ u. (vs, s, p)) r x

-- a head was taken from the line's leading values
abbrev pub Headed : {E : Type 0} → Result Head E → Store → Place → Result (List ℤ × Store × Place) E → Type 0
Headed (Ok h) s p x = (vs : List ℤ) × (x ≡ Ok (vs, s, p)) × (counts_of h ≡ counts vs)
Headed (Err e) s p x = x ≡ Err e
