use Rattle.std.proofs.Common.{◌≡◌, drop}
use Rattle.std.specs.List.{list_any}
use Rattle.core_export.specs.Readable.{is_misread_element}
use Rattle.core_export.proofs.misread.is_misread_store.Given as goal

abbrev pub invariant-loop-element : goal.invariant-loop-element
invariant-loop-element l = list_any is_misread_element (drop l.element-index l.elements) ≡ list_any is_misread_element l.store.elements
