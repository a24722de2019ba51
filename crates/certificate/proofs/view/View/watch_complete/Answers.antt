use Rattle.std.proofs.Common.{◌≡◌, ap, arith}
use Rattle.std.proofs.lemmas.Result.{err_from_is_err_and}
use Rattle.dossier.specs.Dossier as parts
use Rattle.dossier.specs.Admission as admission
use Rattle.certificate.proofs.Failures.{joined_begins, joined_more, joined_fails, joined_done}
use Rattle.certificate.proofs.view.View.watch_complete.Goals as goal

pub loop-state-init : goal.loop-state-init
loop-state-init g c =
    let cells = g.S.Source.cells c.args.self.now.source.now in
    joined_begins (parts.head cells).states (admission.state_trials cells)

pub returns-in_err-state_complete : goal.returns-in_err-state_complete
returns-in_err-state_complete g c =
    let cells = g.S.Source.cells c.args.self.now.source.now in
    let states : c.args.self.now.head.states ≡ (parts.head cells).states = ap (λ h. h.states) c.args.self.now.agrees in
    let p = err_from_is_err_and c.from_residual.result c.from_residual.ensures.1 in
    rw (p.1, p.2) (joined_fails (parts.head cells).states (admission.state_trials cells) c.loop-state.state _ (omega arith) c.in_err-state_complete.ensures c.loop-state.invariant)

pub loop-state-preserved : goal.loop-state-preserved
loop-state-preserved g c =
    let cells = g.S.Source.cells c.args.self.now.source.now in
    let states : c.args.self.now.head.states ≡ (parts.head cells).states = ap (λ h. h.states) c.args.self.now.agrees in
    joined_more (parts.head cells).states (admission.state_trials cells) c.loop-state.state (omega arith) c.in_ok-state_complete.ensures c.loop-state.invariant

pub returns : goal.returns
returns g c =
    let cells = g.S.Source.cells c.args.self.now.source.now in
    let states : c.args.self.now.head.states ≡ (parts.head cells).states = ap (λ h. h.states) c.args.self.now.agrees in
    joined_done (parts.head cells).states (admission.state_trials cells) c.loop-state.state (omega arith) c.loop-state.invariant
