use Rattle.std.proofs.Common.{◌≡◌, ℕ, List, sym, refl, ap, ◌∙◌, subst, arith}
use Rattle.dossier.specs.declared.fall.Fall.{Fall}
use Rattle.dossier.specs.Kinds.{Inside, fall_row}
use Rattle.dossier.specs.Rows.{Row, each}
use Rattle.certificate.specs.Arrays.{rows_of, held}
use Rattle.certificate.specs.Falls.{rows_from, There, Ready}
use Rattle.certificate.proofs.Eaches.{pushed, filled_length}
use Rattle.certificate.proofs.FallRows.{rows_from_append, there_append, ready, fall_row_same}
use Rattle.certificate.proofs.Tables.{held_length, held_push}
use Rattle.certificate.proofs.falls.push_falls.Given as given
use Rattle.certificate.proofs.falls.push_falls.Goals as goal

-- the fall rows of a mode are of numbers that a rank has
inside : (g : given.Over) (mode i n : ℕ) (fall : Fall) → fall ≡ g.K.RankKind.kind.fall mode i → n ≡ g.K.RankKind.kind.numbers → Inside n fall
inside g mode i n fall e f = subst (Inside n) (sym e) (subst (λ m. Inside m (g.K.RankKind.kind.fall mode i)) (sym f) (g.met.K.RankKind.lawful.inside mode i))

-- the fall rows
abbrev rows : (g : given.Over) → ℕ → List Row → ℕ → List Row → ℕ → ℕ → Row
rows g mode old i new j index = fall_row (g.K.RankKind.kind.fall mode index) (rows_from old i) (rows_from new j)

pub fall_row-row-requires : goal.fall_row-row-requires
fall_row-row-requires g c =
    let old = rows_of c.args.old.now.rows.now in
    let base = held c.args.table.now in
    let more = each c.loop-index.index (rows g c.args.mode old c.args.old.now.at base c.args.new_at) in
    subst (λ xs. Ready c.fall.result old c.args.old.now.at (rows_of xs) c.args.new_at) (sym c.as_slice.ensures.value)
    (ready g.K.RankKind.kind.numbers c.fall.result (inside g c.args.mode c.loop-index.index g.K.RankKind.kind.numbers c.fall.result c.fall.ensures refl) old (held c.loop-index.table) c.args.old.now.at c.args.new_at
    (λ k l. let t = c.requires.there k l in (t.0, subst (λ xs. There xs c.args.new_at k) (sym c.loop-index.invariant) (there_append base more c.args.new_at k t.1))))

pub push-requires : goal.push-requires
push-requires g c =
    omega (arith, c.requires.room, held_length c.loop-index.table, filled_length (held c.args.table.now) (held c.loop-index.table) c.loop-index.index (rows g c.args.mode (rows_of c.args.old.now.rows.now) c.args.old.now.at (held c.args.table.now) c.args.new_at) c.loop-index.invariant)

pub loop-index-preserved : goal.loop-index-preserved
loop-index-preserved g c =
    let old = rows_of c.args.old.now.rows.now in
    let base = held c.args.table.now in
    let all = rows g c.args.mode old c.args.old.now.at base c.args.new_at in
    let same : fall_row c.fall.result (rows_from old c.args.old.now.at) (rows_from (held c.loop-index.table) c.args.new_at) ≡ all c.loop-index.index =
    fall_row_same g.K.RankKind.kind.numbers c.fall.result (inside g c.args.mode c.loop-index.index g.K.RankKind.kind.numbers c.fall.result c.fall.ensures refl)
    (rows_from old c.args.old.now.at) (rows_from old c.args.old.now.at) (rows_from (held c.loop-index.table) c.args.new_at) (rows_from base c.args.new_at)
    (λ k l. refl) (λ k l. ap (λ xs. rows_from xs c.args.new_at k) c.loop-index.invariant ∙ rows_from_append base (each c.loop-index.index all) c.args.new_at k (c.requires.there k l).1.inside)
    ∙ ap (λ f. fall_row f (rows_from old c.args.old.now.at) (rows_from base c.args.new_at)) c.fall.ensures in
    pushed base (held c.loop-index.table) c.loop-index.index all c.loop-index.invariant _ _ (held_push _ _ _ c.push.ensures.items) (c.fall_row-row.ensures ∙ ap (λ xs. fall_row c.fall.result (rows_from old c.args.old.now.at) (rows_from (rows_of xs) c.args.new_at)) c.as_slice.ensures.value ∙ same)
