use Rattle.std.proofs.Common.{Ok, sym, refl, ap, ◌∙◌, arith}
use Rattle.layout.specs.Reading.{ahead}
use Rattle.sheet.proofs.Runs.{run_short, run_part}
use Rattle.sheet.proofs.checking.CheckerFields.run.Goals as goal

pub returns-then-size-self-clause-walked : goal.returns-then-size-self-clause-walked
returns-then-size-self-clause-walked c =
    let s = c.args.self.now in
    run_short s.list.now c.args.digits c.args.range c.args.count c.args.store.now s.place (omega arith)

pub returns-then-not-all_pass-clause-walked : goal.returns-then-not-all_pass-clause-walked
returns-then-not-all_pass-clause-walked c =
    let s = c.args.self.now in
    run_part s.list.now c.args.digits c.args.range c.args.count c.args.store.now s.place _ refl (omega arith) c.if-not-all_pass.ensures

pub returns-clause-walked : goal.returns-clause-walked
returns-clause-walked c =
    let s = c.args.self.now in
    run_part s.list.now c.args.digits c.args.range c.args.count c.args.store.now s.place _ refl (omega arith) c.if-not-all_pass.ensures
    ∙ ap (λ x. Ok (x, ahead s.place c.args.count)) (sym c.put_all.ensures)
