-- The facts about a program that its items and its limits are checked with.
use Rattle.std.specs.Prelude.{ℕ, List, [], ◌∷◌, flat_map}
use Rattle.kmn_base.specs.declared.items.Element.{Element}
use Rattle.rule_model.specs.declared.program.SrcItem.{SrcItem}
use Rattle.rule_model.specs.declared.program.SrcItem.TheVariants as source
use Rattle.rule_model.specs.declared.program.StoreDef.{StoreDef}
use Rattle.rule_model.specs.declared.program.RuleDef.{RuleDef}
use Rattle.rule_model.specs.declared.program.Program.{Program}
use Rattle.rule_model.specs.declared.tables.Store.{Store}
use Rattle.rule_model.specs.Naming.{SourceNames, names_of, stores_of, item_elements, rule_items, all_rules}
use Rattle.rule_model.specs.Src.{cased_keys}

-- the store that an item uses as an option
abbrev pub option_named : SrcItem → List (List ℕ)
option_named (source.Equal store value) = store ∷ []
option_named (source.Unequal store value) = store ∷ []
option_named (source.Set store value) = store ∷ []
option_named (source.Save store) = store ∷ []
option_named (source.Reset store) = store ∷ []
option_named item = []

abbrev pub rule_options : RuleDef → List (List ℕ)
rule_options rule = flat_map option_named (rule_items rule)

-- the facts that a program's items are checked with: the names of its deadkeys and keys, its stores with their elements, the names of
-- its options, and the codes of its cased keys
pub record Known : Type 0 where
  pub names : SourceNames
  pub stores : List Store
  pub options : List (List ℕ)
  pub cased : List ℕ

unfoldable pub known : Program → Known
known program =
    record {
      names = names_of program;
      stores = stores_of program;
      options = flat_map rule_options (all_rules program);
      cased = cased_keys program;
    }

-- the elements that an item of a store denotes, and the elements of all items of a store statement
abbrev pub brought : Known → SrcItem → List Element
brought known item = item_elements known.names known.stores item

abbrev pub statement_elements : Known → StoreDef → List Element
statement_elements known store = flat_map (brought known) store.items
