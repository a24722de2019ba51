-- Lists of cells that are a full sheet's.
use Rattle.std.specs.Prelude.{ℕ, zero, suc, ◌+◌, ◌*◌, Bool, true, false, List, [], ◌∷◌, ◌++◌, length, take, drop, ℤ, pos, negsuc, ◌==◌, bit_and, int_le}
use Rattle.layout.specs.declared.field.Digits.{Digits}
use Rattle.layout.specs.declared.field.Digits.TheVariants.{Two, Four, Eight, Value}
use Rattle.layout.specs.declared.field.Range.{Range}
use Rattle.layout.specs.declared.field.Range.TheVariants.{Between, Apart}
use Rattle.layout.specs.declared.field.Field.{Field}
use Rattle.layout.specs.declared.frame.Frame.{Frame}
use Rattle.layout.specs.declared.frame.Group.{Group}
use Rattle.layout.specs.Layout.{Counts, counts, count_of, range_of, head_fields, unused, leading, groups, lines_due}

abbrev pub both : Bool → Bool → Bool
both true b = b
both false b = false

-- from low to high
abbrev pub between : ℤ → ℤ → ℤ → Bool
between low high v = both (int_le low v) (int_le v high)

abbrev pub holds : Range → ℤ → Bool
holds (Between low high) v = between low high v
holds (Apart high from) v = both (between (pos 0) high v) (bit_and (count_of v) (count_of from) == 0)

-- the numbers that the digits can write
abbrev pub writable : Digits → ℤ → Bool
writable Two v = between (pos 0) (pos 255) v
writable Four v = between (negsuc 32767) (pos 32767) v
writable Eight v = between (pos 0) (pos 4294967295) v
writable Value v = between (negsuc 2147483647) (pos 2147483647) v

abbrev pub passes : Digits → Range → ℤ → Bool
passes d r v = both (writable d v) (holds r v)

-- the values of a line's leading fields, one for each: every one passes its test
abbrev pub leads_hold : List ℤ → List Field → List ℤ → Bool
leads_hold earlier [] [] = true
leads_hold earlier [] (v ∷ vs) = false
leads_hold earlier (f ∷ fs) [] = false
leads_hold earlier (f ∷ fs) (v ∷ vs) = both (passes f.digits (range_of f.test earlier) v) (leads_hold (earlier ++ v ∷ []) fs vs)

-- n values, each of one range
abbrev pub all_hold : Digits → Range → ℕ → List ℤ → Bool
all_hold d r zero [] = true
all_hold d r zero (v ∷ vs) = false
all_hold d r (suc n) [] = false
all_hold d r (suc n) (v ∷ vs) = both (passes d r v) (all_hold d r n vs)

-- a line's values: those of the leading fields, which settle the range of the n others
abbrev pub line_holds : List Field → Field → ℕ → List ℤ → Bool
line_holds lead rest n vs =
    both (leads_hold [] lead (take (length lead) vs))
    (all_hold rest.digits (range_of rest.test (take (length lead) vs)) n (drop (length lead) vs))

-- how many fields a frame has
abbrev pub width : Frame → ℕ
width f = length (leading f) + f.count

-- the values of lines, one after the other, and nothing more
abbrev pub lines_hold : List Frame → List ℤ → Bool
lines_hold [] cells = length cells == 0
lines_hold (f ∷ fs) cells = both (line_holds (leading f) f.rest f.count (take (width f) cells)) (lines_hold fs (drop (width f) cells))

-- the fields of the head line
abbrev pub head_width : ℕ
head_width = 13

-- a full sheet's cells
unfoldable pub well_formed : List ℤ → Bool
well_formed cells = both (line_holds head_fields unused 0 (take head_width cells)) (lines_hold (lines_due (counts cells)) (drop head_width cells))

-- how many cells a head calls for
abbrev pub group_cells : Group → ℕ
group_cells g = g.times * (g.firsts * width g.first + g.seconds * width g.second)

abbrev pub all_groups_cells : List Group → ℕ
all_groups_cells [] = 0
all_groups_cells (g ∷ gs) = group_cells g + all_groups_cells gs

unfoldable pub cells_due : Counts → ℕ
cells_due h = head_width + all_groups_cells (groups h)
