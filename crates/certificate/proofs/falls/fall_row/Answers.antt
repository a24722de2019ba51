use Rattle.std.proofs.Common.{sym, ap, ◌∙◌}
use Rattle.dossier.specs.Kinds.{fall_row}
use Rattle.certificate.specs.Arrays.{rows_of}
use Rattle.certificate.specs.Falls.{rows_from}
use Rattle.certificate.proofs.FallRows.{less_zero}
use Rattle.certificate.proofs.falls.fall_row.Goals as goal

pub returns-in-Keeps : goal.returns-in-Keeps
returns-in-Keeps c = c.fallen.ensures ∙ less_zero _ ∙ sym (ap (λ f. fall_row f (rows_from (rows_of c.args.old.now.rows.now) c.args.old.now.at) (rows_from (rows_of c.args.new.now.rows.now) c.args.new.now.at)) c.in-Keeps.is)

pub returns-in-Drops : goal.returns-in-Drops
returns-in-Drops c = c.fallen-in-Drops.ensures ∙ sym (ap (λ f. fall_row f (rows_from (rows_of c.args.old.now.rows.now) c.args.old.now.at) (rows_from (rows_of c.args.new.now.rows.now) c.args.new.now.at)) c.in-Drops.is)
