use Rattle.dossier.proofs.LineLaw.{line_law}
use Rattle.dossier.proofs.RunLaws.{exactly_law, by_tests_law}
use Rattle.dossier.proofs.Worked.{worked}
use Rattle.dossier.proofs.WorkedTable.{worked_table}
use Rattle.certificate.proofs.admit.admit.Goals as goal

pub returns-in-Ok-clause-exactly : goal.returns-in-Ok-clause-exactly
returns-in-Ok-clause-exactly g c = exactly_law _ _

pub returns-in-Ok-clause-by_tests : goal.returns-in-Ok-clause-by_tests
returns-in-Ok-clause-by_tests g c = by_tests_law _ _

pub returns-in-Ok-clause-line_law : goal.returns-in-Ok-clause-line_law
returns-in-Ok-clause-line_law g c = line_law

pub returns-in-Ok-clause-worked : goal.returns-in-Ok-clause-worked
returns-in-Ok-clause-worked g c = worked

pub returns-in-Ok-clause-table : goal.returns-in-Ok-clause-table
returns-in-Ok-clause-table g c = worked_table

pub returns-in-Err-clause-exactly : goal.returns-in-Err-clause-exactly
returns-in-Err-clause-exactly g c = exactly_law _ _

pub returns-in-Err-clause-by_tests : goal.returns-in-Err-clause-by_tests
returns-in-Err-clause-by_tests g c = by_tests_law _ _

pub returns-in-Err-clause-line_law : goal.returns-in-Err-clause-line_law
returns-in-Err-clause-line_law g c = line_law

pub returns-in-Err-clause-worked : goal.returns-in-Err-clause-worked
returns-in-Err-clause-worked g c = worked

pub returns-in-Err-clause-table : goal.returns-in-Err-clause-table
returns-in-Err-clause-table g c = worked_table
