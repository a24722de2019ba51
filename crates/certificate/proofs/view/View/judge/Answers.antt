use Rattle.std.proofs.Common.{◌≡◌, ℕ, ◌+◌, ◌∷◌, List, [], ◌++◌, length, ℤ, pos, ◌≤ℤ◌, sym, refl, ap, ◌∙◌, subst, ap₂, arith, w32, w64, SFits, to_z, of_z, rules}
use lib.Signed.{le_z, le_z_yes}
use Rattle.std.proofs.lemmas.Int.{ints, to_z-of_z}
use Rattle.layout.proofs.Count.{both_left, both_right}
use Rattle.dossier.specs.Dossier as parts
use Rattle.dossier.specs.Lines.{line_holds}
use Rattle.dossier.specs.Rows.{Row, each}
use Rattle.dossier.proofs.Trials.{length_each}
use Rattle.certificate.specs.Arrays.{row_of, rows_of, Multiplied}
use Rattle.certificate.proofs.Eaches.{each_more}
use Rattle.certificate.proofs.Weights.{weighted}
use Rattle.certificate.proofs.view.View.judge.Goals as goal

same_line : (hs : List Row) (r : Row) {v v' : ℕ} {d d' : ℤ} {ms ms' : List ℤ} → v ≡ v' → d ≡ d' → ms ≡ ms' → line_holds v d ms hs r ≡ line_holds v' d' ms' hs r
same_line hs r p q e i = line_holds (p i) (q i) (e i) hs r

word : (z : ℤ) → SFits w32 z → to_z w64 (of_z w64 (to_z w32 (of_z w32 z))) ≡ z
word z f = let w : SFits w64 z = search rules in simp to_z-of_z

pub push-requires : goal.push-requires
push-requires g c = omega (arith, c.requires.few, ap length c.loop-k.invariant, length_each c.loop-k.k (λ k. parts.cell (g.S.Source.cells c.args.self.now.source.now) (c.args.at + 1 + k)))

pub loop-k-preserved : goal.loop-k-preserved
loop-k-preserved g c =
    let f : SFits w32 c.cell.result = search rules in
    let multiplier : ℕ → ℤ = λ k. parts.cell (g.S.Source.cells c.args.self.now.source.now) (c.args.at + 1 + k) in
    c.push.ensures.items ∙ ap₂ (λ ms m. ms ++ m ∷ []) c.loop-k.invariant (word c.cell.result f ∙ c.cell.ensures) ∙ sym (each_more c.loop-k.k multiplier)

pub line_holds-requires-clause-divisor : goal.line_holds-requires-clause-divisor
line_holds-requires-clause-divisor g c =
    let cells = g.S.Source.cells c.args.self.now.source.now in
    let f : SFits w32 c.cell-divisor.result = search rules in
    let d = c.requires.line.0 in
    let low : pos 1 ≤ℤ parts.cell cells c.args.at = le_z_yes (both_left _ _ d) in
    let high : parts.cell cells c.args.at ≤ℤ pos 1048575 = le_z_yes (both_right (le_z (pos 1) (parts.cell cells c.args.at)) _ d) in
    let is : c.cell-divisor.result ≡ parts.cell cells c.args.at = c.cell-divisor.ensures in
    let same = word c.cell-divisor.result f in
    rw same (omega (arith, ints, is), omega (arith, ints, is))

pub line_holds-requires-clause-sum : goal.line_holds-requires-clause-sum
line_holds-requires-clause-sum g c =
    let cells = g.S.Source.cells c.args.self.now.source.now in
    let rows = c.args.hypotheses.now in
    let multiplier : ℕ → ℤ = λ k. parts.cell cells (c.args.at + 1 + k) in
    let all : c.loop-k.k ≡ length rows = omega arith in
    subst (λ ms. Multiplied ms rows) (sym (c.as_slice.ensures.value ∙ c.loop-k.invariant ∙ ap (λ n. each n multiplier) all))
    (weighted (length rows) multiplier rows refl c.requires.few c.requires.line.1 c.requires.assumed)

pub returns : goal.returns
returns g c =
    let cells = g.S.Source.cells c.args.self.now.source.now in
    let f : SFits w32 c.cell-divisor.result = search rules in
    let multiplier : ℕ → ℤ = λ k. parts.cell cells (c.args.at + 1 + k) in
    let all : c.loop-k.k ≡ length c.args.hypotheses.now = omega arith in
    c.line_holds.ensures
    ∙ same_line (rows_of c.args.hypotheses.now) (row_of c.args.conclusion.now) (ap (λ h. h.variables) c.args.self.now.agrees) (word c.cell-divisor.result f ∙ c.cell-divisor.ensures)
    (c.as_slice.ensures.value ∙ c.loop-k.invariant ∙ ap (λ n. each n multiplier) all)
