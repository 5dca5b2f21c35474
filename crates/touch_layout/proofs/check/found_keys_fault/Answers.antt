use Rattle.std.proofs.Common.{rules}
use Rattle.touch_layout.proofs.FoundLayers.{same_keys_fault}
use Rattle.touch_layout.proofs.check.found_keys_fault.Goals as goal

pub returns : goal.returns
returns c = search (rules, same_keys_fault)
