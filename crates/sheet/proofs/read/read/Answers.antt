use Rattle.std.proofs.Common.{length, sym, refl, ap, ◌∙◌, rules}
use Rattle.std.proofs.lemmas.Result.{err_from_is_err_and}
use Rattle.layout.proofs.Count.{all_counted}
use Rattle.layout.proofs.ReadLaw.{read_exactly, one_to_one}
use Rattle.layout.proofs.Worked.{worked}
use Rattle.sheet.proofs.Filled.{refused, filled, again}
use Rattle.sheet.proofs.read.read.Goals as goal

pub returns-in_err-go_through : goal.returns-in_err-go_through
returns-in_err-go_through c =
    let p = err_from_is_err_and c.from_residual.result c.from_residual.ensures.1 in
    let e = refused c.args.text.now (length c.args.cells.now) c.over.result c.in_err-go_through.ensures.walked in
    rw (p.1, p.2, e) (record { outcome = (refl, refl, refl); exactly = read_exactly all_counted; one_to_one = one_to_one all_counted; counted = all_counted; worked = worked })

pub returns-in_err-go_through-2 : goal.returns-in_err-go_through-2
returns-in_err-go_through-2 c = absurd (again c.args.text.now (length c.args.cells.now) c.over.result c.over-store.result c.in_ok-go_through.ensures.walked c.in_err-go_through-2.ensures.walked)

pub returns : goal.returns
returns c =
    let s = c.over-store.ensures in
    let lent = sym (c.in_ok-go_through-2.ensures.lent ∙ ap (λ x. x.cells.ghost_name) s) in
    record {
      outcome = filled c.args.text.now c.args.cells.now _ c.over-store.result c.go_through-2.new.store (ap (λ x. x.cells.now) s) (ap (λ x. x.next) s) (search (rules, lent)) c.in_ok-go_through-2.ensures.walked;
      exactly = read_exactly all_counted;
      one_to_one = one_to_one all_counted;
      counted = all_counted;
      worked = worked;
    }
