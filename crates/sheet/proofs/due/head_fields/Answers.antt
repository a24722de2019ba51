use Rattle.sheet.proofs.due.head_fields.Goals as goal

pub returns : goal.returns
returns c = cc
