use Rattle.std.proofs.Common.{arith}
use Rattle.curlew_calls.proofs.Begun.{never_kept_from}
use Rattle.curlew_calls.proofs.field.OpenField.begun_before.Goals as goal

pub returns-clause-happens : goal.returns-clause-happens
returns-clause-happens c = grind (arith, never_kept_from)

pub returns-clause-begins : goal.returns-clause-begins
returns-clause-begins c = grind (arith, never_kept_from)

pub returns-clause-characters : goal.returns-clause-characters
returns-clause-characters c = grind (arith, never_kept_from)

pub returns-clause-refused : goal.returns-clause-refused
returns-clause-refused c = grind (arith, never_kept_from)
