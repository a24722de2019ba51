use Rattle.std.proofs.Common.{sym}
use Rattle.std.proofs.lemmas.Result.{err_from_is_err_and}
use Rattle.layout.specs.Heads.{counts_of}
use Rattle.layout.specs.Layout.{lines_due}
use Rattle.sheet.specs.Store.{put}
use Rattle.sheet.proofs.Formed.{no_head, no_body, whole_list, longer_list}
use Rattle.sheet.proofs.Passing.{on}
use Rattle.sheet.proofs.opening.check.Goals as goal

pub returns-in_err-head : goal.returns-in_err-head
returns-in_err-head c =
    let p = err_from_is_err_and c.from_residual.result c.from_residual.ensures.1 in
    rw (p.1, p.2) (sym (no_head put c.over-nowhere.result c.args.list.now c.in_err-head.ensures.walked))

pub returns-in_err-body : goal.returns-in_err-body
returns-in_err-body c =
    let h = c.in_ok-head.ensures in
    let p = err_from_is_err_and c.from_residual-in_err-body.result c.from_residual-in_err-body.ensures.1 in
    let f = on put (lines_due (counts_of c.in_ok-head.head)) c.head.new.store c.head.new.self.place h.same c.in_err-body.ensures.walked in
    rw (p.1, p.2) (sym (no_body put c.over-nowhere.result c.args.list.now h.walked.1 h.walked.2 f))

pub returns-then-checker-list : goal.returns-then-checker-list
returns-then-checker-list c =
    let h = c.in_ok-head.ensures in
    let f = on put (lines_due (counts_of c.in_ok-head.head)) c.head.new.store c.head.new.self.place h.same c.in_ok-body.ensures.walked in
    sym (whole_list put c.over-nowhere.result c.args.list.now h.walked.1 h.walked.2 f c.if-checker-list.true)

pub returns-else-checker-list : goal.returns-else-checker-list
returns-else-checker-list c =
    let h = c.in_ok-head.ensures in
    let f = on put (lines_due (counts_of c.in_ok-head.head)) c.head.new.store c.head.new.self.place h.same c.in_ok-body.ensures.walked in
    sym (longer_list put c.over-nowhere.result c.args.list.now h.walked.1 h.walked.2 f c.if-checker-list.false)
