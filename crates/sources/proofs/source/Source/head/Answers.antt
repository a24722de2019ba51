use Rattle.std.proofs.Common.{rules, ◌≡◌, ◌∙◌, ℤ, pos, slice_index_or, w32, FitsSigned, to_z, of_z}
use Rattle.std.proofs.lemmas.Int.{to_z-of_z}
use Rattle.layout.proofs.Count.{formed_ranges}
use Rattle.sources.proofs.source.Source.head.Goals as goal

word : (z : ℤ) → FitsSigned w32 z → to_z w32 (of_z w32 z) ≡ z
word z f = simp to_z-of_z

pub invariant_of-from : goal.invariant_of-from
invariant_of-from g c =
    let cells = g.Self.Source.cells c.args.self.now in
    let s0 : to_z w32 (of_z w32 c.cell.result) ≡ slice_index_or cells 0 (pos 0) = word c.cell.result (search rules) ∙ c.cell.ensures in
    let s1 : to_z w32 (of_z w32 c.cell-2.result) ≡ slice_index_or cells 1 (pos 0) = word c.cell-2.result (search rules) ∙ c.cell-2.ensures in
    let s2 : to_z w32 (of_z w32 c.cell-3.result) ≡ slice_index_or cells 2 (pos 0) = word c.cell-3.result (search rules) ∙ c.cell-3.ensures in
    let s3 : to_z w32 (of_z w32 c.cell-4.result) ≡ slice_index_or cells 3 (pos 0) = word c.cell-4.result (search rules) ∙ c.cell-4.ensures in
    let s4 : to_z w32 (of_z w32 c.cell-5.result) ≡ slice_index_or cells 4 (pos 0) = word c.cell-5.result (search rules) ∙ c.cell-5.ensures in
    let s5 : to_z w32 (of_z w32 c.cell-6.result) ≡ slice_index_or cells 5 (pos 0) = word c.cell-6.result (search rules) ∙ c.cell-6.ensures in
    let s6 : to_z w32 (of_z w32 c.cell-7.result) ≡ slice_index_or cells 6 (pos 0) = word c.cell-7.result (search rules) ∙ c.cell-7.ensures in
    let s7 : to_z w32 (of_z w32 c.cell-8.result) ≡ slice_index_or cells 7 (pos 0) = word c.cell-8.result (search rules) ∙ c.cell-8.ensures in
    let s8 : to_z w32 (of_z w32 c.cell-9.result) ≡ slice_index_or cells 8 (pos 0) = word c.cell-9.result (search rules) ∙ c.cell-9.ensures in
    let s9 : to_z w32 (of_z w32 c.cell-10.result) ≡ slice_index_or cells 9 (pos 0) = word c.cell-10.result (search rules) ∙ c.cell-10.ensures in
    let s10 : to_z w32 (of_z w32 c.cell-11.result) ≡ slice_index_or cells 10 (pos 0) = word c.cell-11.result (search rules) ∙ c.cell-11.ensures in
    let s11 : to_z w32 (of_z w32 c.cell-12.result) ≡ slice_index_or cells 11 (pos 0) = word c.cell-12.result (search rules) ∙ c.cell-12.ensures in
    let s12 : to_z w32 (of_z w32 c.cell-13.result) ≡ slice_index_or cells 12 (pos 0) = word c.cell-13.result (search rules) ∙ c.cell-13.ensures in
    record { in_ranges = rw (s0, s1, s2, s3, s4, s5, s6, s7, s8, s9, s10, s11, s12) (formed_ranges cells (g.Self.Source.formed c.args.self.now)) }
