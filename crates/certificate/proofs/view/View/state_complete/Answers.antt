use Rattle.std.proofs.Common.{◌≡◌, ℕ, ◌*◌, ◌%◌, ◌^◌, ◌<◌, sym, ap, ◌∙◌, arith}
use Rattle.std.proofs.lemmas.Nat.{one_shl}
use Rattle.dossier.specs.Dossier as parts
use Rattle.dossier.specs.Admission as admission
use Rattle.certificate.proofs.Edges.{letter_trial}
use Rattle.certificate.proofs.Failures.{left_begins, left_more, left_fails, left_done}
use Rattle.certificate.proofs.view.View.state_complete.Goals as goal

-- the loop's bound is the number of letters
bound : (p q : ℕ) → p < 64 → p ≡ q → (1 * 2 ^ p) % 18446744073709551616 ≡ 2 ^ q
bound p q few e = one_shl p 64 few ∙ ap (λ n. 2 ^ n) e

pub loop-letter-init : goal.loop-letter-init
loop-letter-init g c =
    let cells = g.S.Source.cells c.args.self.now.source.now in
    left_begins (2 ^ (parts.head cells).propositions) (letter_trial cells c.args.state)

pub returns-in_default : goal.returns-in_default
returns-in_default g c =
    let cells = g.S.Source.cells c.args.self.now.source.now in
    let letters = bound c.args.self.now.head.propositions (parts.head cells).propositions (omega arith) (ap (λ h. h.propositions) c.args.self.now.agrees) in
    left_fails (2 ^ (parts.head cells).propositions) (letter_trial cells c.args.state) c.loop-letter.letter (omega arith) (ap (admission.found (g.S.Source.cells c.args.self.now.source.now)) (sym c.in_default.ensures)) c.loop-letter.invariant

pub loop-letter-preserved : goal.loop-letter-preserved
loop-letter-preserved g c =
    let cells = g.S.Source.cells c.args.self.now.source.now in
    let letters = bound c.args.self.now.head.propositions (parts.head cells).propositions (omega arith) (ap (λ h. h.propositions) c.args.self.now.agrees) in
    left_more (2 ^ (parts.head cells).propositions) (letter_trial cells c.args.state) c.loop-letter.letter (omega arith) (ap (admission.found (g.S.Source.cells c.args.self.now.source.now)) (sym c.in-Some.ensures)) c.loop-letter.invariant

pub returns : goal.returns
returns g c =
    let cells = g.S.Source.cells c.args.self.now.source.now in
    let letters = bound c.args.self.now.head.propositions (parts.head cells).propositions (omega arith) (ap (λ h. h.propositions) c.args.self.now.agrees) in
    left_done (2 ^ (parts.head cells).propositions) (letter_trial cells c.args.state) c.loop-letter.letter (omega arith) c.loop-letter.invariant
