use Rattle.std.proofs.Common.{◌≡◌, drop}
use Rattle.core_constructs.specs.Told.{shares_name}
use Rattle.core_constructs.proofs.files.shares_name.Given as goal

abbrev pub invariant-loop-i : goal.invariant-loop-i
invariant-loop-i l = shares_name l.stores (drop l.i l.options) ≡ shares_name l.stores l.options
