-- Each `index` with the `any` whose place it takes.
use Rattle.std.specs.Prelude.{ℕ, zero, suc, nat_eq, ◌||◌, if◌then◌else◌, List, [], ◌∷◌, ◌++◌, length, flat_map, slice_get, codes, Option, Some, None}
use Rattle.std.specs.List.{concat}
use Rattle.rule_model.specs.declared.program.SrcItem.{SrcItem}
use Rattle.rule_model.specs.declared.program.SrcItem.TheVariants as source
use Rattle.rule_model.specs.declared.program.RuleDef.{RuleDef}
use Rattle.rule_model.specs.declared.program.GroupDef.{GroupDef}
use Rattle.rule_model.specs.declared.program.Program.{Program}
use Rattle.store_table.specs.Names.{is_named}
use Rattle.source_uses.specs.declared.pairs.Pair.{Pair}

-- the item that an offset in a rule refers to: an item of the context, from 1, or the key after the last
abbrev pub pointed : RuleDef → ℕ → Option SrcItem
pointed rule zero = None
pointed rule (suc place) = if nat_eq place (length rule.context) then rule.key else slice_get rule.context place

-- the store of an item, if it is an `any`
abbrev pub any_named : Option SrcItem → Option (List ℕ)
any_named None = None
any_named (Some (source.Any store)) = Some store
any_named (Some item) = None

-- an `index` with an `any`, if there is one and no store is among the options, whose elements change
abbrev pub paired : List (List ℕ) → ℕ → List ℕ → Option (List ℕ) → List Pair
paired options line index None = []
paired options line index (Some any) =
    if is_named options index || is_named options any then [] else record { line = line; index = index; any = any } ∷ []

abbrev pub item_pairs : List (List ℕ) → RuleDef → SrcItem → List Pair
item_pairs options rule (source.Index store offset) = paired options rule.line store (any_named (pointed rule offset))
item_pairs options rule item = []

abbrev pub items_pairs : List (List ℕ) → RuleDef → List SrcItem → List Pair
items_pairs options rule items = flat_map (item_pairs options rule) items

-- each `index` of a statement with its `any`, in the context and in the output
abbrev pub rule_pairs : List (List ℕ) → RuleDef → List Pair
rule_pairs options rule = items_pairs options rule rule.context ++ items_pairs options rule rule.output

abbrev pub group_pairs : List (List ℕ) → GroupDef → List Pair
group_pairs options group = flat_map (rule_pairs options) group.rules

abbrev pub program_pairs : List (List ℕ) → Program → List Pair
program_pairs options program = flat_map (group_pairs options) program.groups

-- the pairs whose `index` is not known, of each `index` the first
abbrev pub new_pairs : List (List ℕ) → List Pair → List Pair
new_pairs known [] = []
new_pairs known (pair ∷ pairs) =
    if is_named known pair.index then new_pairs known pairs else pair ∷ new_pairs (known ++ pair.index ∷ []) pairs

-- the names of both stores of a pair, with a comma, which no name has
unfoldable pub pair_name : Pair → List ℕ
pair_name pair = concat (pair.index ∷ codes "," ∷ pair.any ∷ [])

-- the pairs whose two stores are not known, of each two stores the first
abbrev pub distinct_pairs : List (List ℕ) → List Pair → List Pair
distinct_pairs known [] = []
distinct_pairs known (pair ∷ pairs) =
    if is_named known (pair_name pair) then distinct_pairs known pairs
    else pair ∷ distinct_pairs (known ++ pair_name pair ∷ []) pairs
