-- What is collected from the items of outputs.
use Rattle.std.specs.Prelude.{ℕ, List}
use Rattle.rule_model.specs.declared.tables.Out.{Out}
use Rattle.core_constructs.specs.declared.marks.Collected.{Collected}
use Rattle.core_constructs.specs.declared.marks.Collected.TheVariants as what
use Rattle.core_constructs.specs.Marks.{item_marks, put_store, set_value}

-- the mark that an item is, the store of which it puts an element, or the value that it sets one of these stores to
abbrev pub collected_of : Collected → List ℕ → Out → List ℕ
collected_of what.Marks stores item = item_marks item
collected_of what.Stores stores item = put_store item
collected_of what.Values stores item = set_value stores item
