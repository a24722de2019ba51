use Rattle.std.proofs.Common.{◌≡◌, ℕ, zero, suc, [], ◌∷◌, ◌++◌, length, get_or, replicate, ℤ, pos, sym, refl, ap, ap₂, ◌∙◌, subst, arith, w32, w64, SFits, to_z, of_z, rules, below_more}
use Rattle.std.proofs.lemmas.List.{map-append, length-map}
use Rattle.std.proofs.lemmas.Int.{to_z-of_z}
use Rattle.dossier.specs.Dossier as parts
use Rattle.dossier.specs.Rows.{Row, each}
use Rattle.dossier.proofs.Trials.{length_each}
use Rattle.certificate.specs.Arrays.{row_of, rows_of, constant_row, Within}
use Rattle.certificate.proofs.Bounds.{within_32}
use Rattle.certificate.proofs.Eaches.{each_more}
use Rattle.certificate.proofs.view.View.shown_values.Goals as goal

-- seven numbers of which the first alone is not 0
made : (z : ℤ) → row_of (z ∷ pos 0 ∷ pos 0 ∷ pos 0 ∷ pos 0 ∷ pos 0 ∷ pos 0 ∷ []) ≡ constant_row z
made z i j = at j i
  where
    zeros : (n j : ℕ) → get_or (replicate n (pos 0)) j (pos 0) ≡ pos 0
    zeros zero j = refl
    zeros (suc n) zero = refl
    zeros (suc n) (suc j) = zeros n j

    at : (j : ℕ) → row_of (z ∷ pos 0 ∷ pos 0 ∷ pos 0 ∷ pos 0 ∷ pos 0 ∷ pos 0 ∷ []) j ≡ constant_row z j
    at zero = refl
    at (suc j) = zeros 6 j

pub push-requires : goal.push-requires
push-requires g c =
    let f = λ (v : ℕ). constant_row (parts.shown (g.S.Source.cells c.args.self.now.source.now) v) in
    omega (arith, ap length c.loop-variable.invariant.0, length-map c.loop-variable.values.items row_of, length_each c.loop-variable.variable f)

pub loop-variable-preserved : goal.loop-variable-preserved
loop-variable-preserved g c =
    let cells = g.S.Source.cells c.args.self.now.source.now in
    let f : SFits w32 c.shown.result = search rules in
    let w : SFits w64 c.shown.result = search rules in
    let same : to_z w64 (of_z w64 (to_z w32 (of_z w32 c.shown.result))) ≡ c.shown.result = simp to_z-of_z in
    let values : ℕ → Row = λ v. constant_row (parts.shown cells v) in (
      ap rows_of c.push.ensures.items
          ∙ map-append row_of c.loop-variable.values.items _
          ∙ ap₂ (λ xs x. xs ++ x ∷ []) c.loop-variable.invariant.0 (made _ ∙ ap constant_row (same ∙ c.shown.ensures))
          ∙ sym (each_more c.loop-variable.variable values),
      below_more (λ v. Within 2147483648 (parts.shown cells v)) c.loop-variable.variable c.loop-variable.invariant.1 (subst (Within 2147483648) c.shown.ensures (within_32 _ f)),
    )

pub returns : goal.returns
returns g c =
    let cells = g.S.Source.cells c.args.self.now.source.now in
    let all : c.loop-variable.variable ≡ (parts.head cells).variables = omega (arith, ap (λ h. h.variables) c.args.self.now.agrees) in
    record {
      constant = c.loop-variable.invariant.0 ∙ ap (λ n. each n (λ v. constant_row (parts.shown cells v))) all;
      within = λ v l. c.loop-variable.invariant.1 v (omega arith);
    }
