-- The kind of every line that is due is below 256: two digits would not give back a larger one.
use Rattle.std.proofs.Common.{ℕ, zero, suc, ◌<◌, Bool, cond, List, [], ◌∷◌, ◌++◌, replicate, arith}
use Rattle.std.proofs.ByRecursion.{All-append}
use Rattle.std.proofs.lemmas.Bool.{cond_both}
use Rattle.std.specs.List.{flat_map, AllByRecursion as All}
use Rattle.layout.specs.declared.frame.Frame.{Frame}
use Rattle.layout.specs.declared.frame.Group.{Group}
use Rattle.layout.specs.Layout.{Counts, value, uniform, line, repeated, point_rows, groups, moves_group, choices_group, every_run, group_lines, lines_due}

-- what holds of both frames of every group holds of every line
module _ (P : Frame → Type 0) where
  all_replicate : (n : ℕ) (f : Frame) → P f → All P (replicate n f)
  all_replicate zero f h = tt
  all_replicate (suc n) f h = (h, all_replicate n f h)

  all_group : (g : Group) (n : ℕ) → P g.first → P g.second → All P (group_lines g n)
  all_group g zero h k = tt
  all_group g (suc n) h k =
      All-append P (replicate g.firsts g.first ++ replicate g.seconds g.second) (group_lines g n)
      (All-append P (replicate g.firsts g.first) (replicate g.seconds g.second) (all_replicate g.firsts g.first h) (all_replicate g.seconds g.second k))
      (all_group g n h k)

  all_groups : (gs : List Group) → All (λ g. P g.first × P g.second) gs → All P (flat_map (λ g. group_lines g g.times) gs)
  all_groups [] h = tt
  all_groups (g ∷ gs) h = All-append P (group_lines g g.times) (flat_map (λ g. group_lines g g.times) gs) (all_group g g.times h.0.0 h.0.1) (all_groups gs h.1)

abbrev Small : Group → Type 0
Small g = (g.first.kind < 256) × (g.second.kind < 256)

either_small : (b : Bool) (x y : Group) → Small x → Small y → Small (cond b x y)
either_small b x y h k = cond_both b x y Small (λ _. h) (λ _. k)

pub kinds_small : (h : Counts) → All (λ f. f.kind < 256) (lines_due h)
unfolding lines_due
kinds_small h =
    let start = either_small (every_run h) (repeated (point_rows h) (line 0x70 h.start_rows)) (repeated 1 (uniform 0x80 value h.variables)) (omega arith) (omega arith) in
    let last = either_small (every_run h) (moves_group h) (choices_group h) (omega arith) (omega arith) in
    all_groups (λ f. f.kind < 256) (groups h) (omega arith, (omega arith, (omega arith, (omega arith, (omega arith, (omega arith, (start, (last, tt))))))))
