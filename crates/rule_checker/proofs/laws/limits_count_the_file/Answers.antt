use Rattle.rule_checker.proofs.Accepted.{unrefused}
use Rattle.rule_checker.proofs.Sizes.{sizes_counted}
use Rattle.rule_checker.proofs.Written.{table_records_counted}
use Rattle.rule_checker.proofs.laws.limits_count_the_file.Goals as goal

pub returns-clause-stores : goal.returns-clause-stores
returns-clause-stores c = λ program read accepted. sizes_counted program read (unrefused program accepted)

pub returns-clause-records : goal.returns-clause-records
returns-clause-records c = table_records_counted
