use Rattle.std.proofs.Common.{arith}
use Rattle.curlew_calls.proofs.NewPlace.{passing_never_fails, deleting_wants_memory}
use Rattle.curlew_calls.proofs.field.OpenField.emptied.Goals as goal

pub returns-in_err-caret-clause-refused : goal.returns-in_err-caret-clause-refused
returns-in_err-caret-clause-refused c = grind (arith, passing_never_fails)

pub returns-in_err-replace-2-clause-refused : goal.returns-in_err-replace-2-clause-refused
returns-in_err-replace-2-clause-refused c = grind (arith, deleting_wants_memory)
