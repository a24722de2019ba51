use Rattle.std.proofs.Common.{ap, ◌∙◌, arith}
use Rattle.layout.specs.Heads.{counts_of}
use Rattle.layout.specs.Layout.{lines_due}
use Rattle.layout.specs.Reading.{text_supply}
use Rattle.sheet.specs.Store.{put}
use Rattle.sheet.proofs.Passing.{started, on, too_few, faulty, extra, whole}
use Rattle.sheet.proofs.Walking.{stops}
use Rattle.sheet.proofs.read.go_through.Goals as goal

pub returns-then-room-needed-clause-walked : goal.returns-then-room-needed-clause-walked
returns-then-room-needed-clause-walked c =
    let s = c.new-reader.ensures in
    let h = c.in_ok-head.ensures in
    let headed = started put c.args.store.now (ap (λ x. x.now) s.over) s.at_start h.walked.1 in
    too_few put c.args.text.now c.args.room c.args.store.now headed h.walked.2 c.cells_due-needed.ensures c.if-room-needed.true

pub returns-in_err-body-clause-walked : goal.returns-in_err-body-clause-walked
returns-in_err-body-clause-walked c =
    let s = c.new-reader.ensures in
    let h = c.in_ok-head.ensures in
    let headed = started put c.args.store.now (ap (λ x. x.now) s.over) s.at_start h.walked.1 in
    let f = on put (lines_due (counts_of c.in_ok-head.head)) c.head.new.store c.head.new.self.place (h.same ∙ ap (λ t. text_supply t.now) s.over) c.in_err-body.ensures.walked in
    stops _ c.from_residual-in_err-body.result c.from_residual-in_err-body.ensures.1 (faulty put c.args.text.now c.args.room c.args.store.now headed h.walked.2 c.cells_due-needed.ensures (omega arith) f)

pub returns-then-reader-text-clause-walked : goal.returns-then-reader-text-clause-walked
returns-then-reader-text-clause-walked c =
    let s = c.new-reader.ensures in
    let h = c.in_ok-head.ensures in
    let headed = started put c.args.store.now (ap (λ x. x.now) s.over) s.at_start h.walked.1 in
    let f = on put (lines_due (counts_of c.in_ok-head.head)) c.head.new.store c.head.new.self.place (h.same ∙ ap (λ t. text_supply t.now) s.over) c.in_ok-body.ensures.walked in
    extra put c.args.text.now c.args.room c.args.store.now headed h.walked.2 c.cells_due-needed.ensures (omega arith) f c.if-reader-text.true

pub returns-clause-walked : goal.returns-clause-walked
returns-clause-walked c =
    let s = c.new-reader.ensures in
    let h = c.in_ok-head.ensures in
    let headed = started put c.args.store.now (ap (λ x. x.now) s.over) s.at_start h.walked.1 in
    let f = on put (lines_due (counts_of c.in_ok-head.head)) c.head.new.store c.head.new.self.place (h.same ∙ ap (λ t. text_supply t.now) s.over) c.in_ok-body.ensures.walked in
    whole put c.args.text.now c.args.room c.args.store.now headed h.walked.2 c.cells_due-needed.ensures (omega arith) f c.if-reader-text.false
