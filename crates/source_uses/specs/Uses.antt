-- The names that the statements of a program use.
use Rattle.std.specs.Prelude.{ℕ, nat_eq, ◌==◌, if◌then◌else◌, List, [], ◌∷◌, ◌++◌, length, map, flat_map, slice_get, option_to_list, Option, Some, None}
use Rattle.rule_model.specs.declared.program.SrcItem.{SrcItem}
use Rattle.rule_model.specs.declared.program.SrcItem.TheVariants as source
use Rattle.rule_model.specs.declared.program.StoreDef.{StoreDef}
use Rattle.rule_model.specs.declared.program.RuleDef.{RuleDef}
use Rattle.rule_model.specs.declared.program.GroupDef.{GroupDef}
use Rattle.rule_model.specs.declared.program.BeginDef.{BeginDef}
use Rattle.rule_model.specs.declared.program.Program.{Program}
use Rattle.rule_model.specs.Naming.{mark_names, rule_items}
use Rattle.rule_model.specs.Src.{pattern_uses}
use Rattle.store_table.specs.Known.{option_named}
use Rattle.store_table.specs.Names.{group_named, is_named, store_named}
use Rattle.source_uses.specs.declared.used.Use.{Use}
use Rattle.source_uses.specs.declared.used.Role.{Role}
use Rattle.source_uses.specs.declared.used.Role.TheVariants as role
use Rattle.source_uses.specs.declared.used.Part.{Part}
use Rattle.source_uses.specs.declared.used.Part.TheVariants as part

-- the store whose elements an item matches or puts
abbrev pub elements_used : SrcItem → Option (List ℕ)
elements_used (source.Any store) = Some store
elements_used (source.NotAny store) = Some store
elements_used (source.Index store offset) = Some store
elements_used (source.Outs store) = Some store
elements_used item = None

-- the store of `any` or `index`
abbrev pub matched_store : SrcItem → Option (List ℕ)
matched_store (source.Any store) = Some store
matched_store (source.Index store offset) = Some store
matched_store item = None

-- the store of `index`
abbrev pub index_named : SrcItem → Option (List ℕ)
index_named (source.Index store offset) = Some store
index_named item = None

-- the store whose content an item matches, puts or compares
abbrev pub store_read : SrcItem → Option (List ℕ)
store_read (source.Any store) = Some store
store_read (source.NotAny store) = Some store
store_read (source.Index store offset) = Some store
store_read (source.Outs store) = Some store
store_read (source.Equal store value) = Some store
store_read (source.Unequal store value) = Some store
store_read item = None

-- the option that `set` sets, and the one that `save` saves
abbrev pub set_option : SrcItem → Option (List ℕ)
set_option (source.Set store value) = Some store
set_option item = None

abbrev pub saved_option : SrcItem → Option (List ℕ)
saved_option (source.Save store) = Some store
saved_option item = None

-- a name, unless it is empty, and the name of a custom key
abbrev pub filled : List ℕ → Option (List ℕ)
filled name = if length name == 0 then None else Some name

abbrev pub own_key_named : SrcItem → Option (List ℕ)
own_key_named (source.Key key) = filled key.name
own_key_named item = None

-- the name that an item uses in a role
abbrev pub named_as : Role → SrcItem → Option (List ℕ)
named_as role.Store item = slice_get (store_named item) 0
named_as role.Elements item = elements_used item
named_as role.Matched item = matched_store item
named_as role.Index item = index_named item
named_as role.OptionStore item = slice_get (option_named item) 0
named_as role.Read item = store_read item
named_as role.Asked item = slice_get (pattern_uses item) 0
named_as role.Set item = set_option item
named_as role.Saved item = saved_option item
named_as role.Mark item = slice_get (mark_names item) 0
named_as role.Group item = slice_get (group_named item) 0
named_as role.OwnKey item = own_key_named item

-- the use of a name at a line, if there is a name
abbrev pub used : ℕ → Option (List ℕ) → List Use
used line None = []
used line (Some name) = record { line = line; name = name } ∷ []

-- the uses by items at a line
abbrev pub items_uses : Role → ℕ → List SrcItem → List Use
items_uses role line items = flat_map (λ (item : SrcItem). used line (named_as role item)) items

-- a part of a statement, and the uses by it
abbrev pub part_items : Part → RuleDef → List SrcItem
part_items part.Context rule = rule.context
part_items part.Key rule = option_to_list rule.key
part_items part.Output rule = rule.output
part_items part.Whole rule = rule_items rule

abbrev pub part_uses : Role → Part → RuleDef → List Use
part_uses role part rule = items_uses role rule.line (part_items part rule)

-- the uses by a part of all rules, match and nomatch statements, in their order
abbrev pub group_uses : Role → Part → GroupDef → List Use
group_uses role part group = flat_map (part_uses role part) group.rules

abbrev pub rule_uses : Role → Part → Program → List Use
rule_uses role part program = flat_map (group_uses role part) program.groups

-- the start groups of begin statements
abbrev pub begin_uses : List BeginDef → List Use
begin_uses begins = flat_map (λ (start : BeginDef). used start.line (Some start.group)) begins

-- the uses by store statements
abbrev pub store_uses : Role → List StoreDef → List Use
store_uses role stores = flat_map (λ (store : StoreDef). items_uses role store.line store.items) stores

-- the names of ordinary stores, each at its statement
abbrev pub stated_store : StoreDef → List Use
stated_store store = if nat_eq store.system 0 then used store.line (Some store.name) else []

abbrev pub stated_stores : List StoreDef → List Use
stated_stores stores = flat_map stated_store stores

abbrev pub names_of : List Use → List (List ℕ)
names_of uses = map (λ (found : Use). found.name) uses

-- the uses of names that are not known, of each name the first
abbrev pub new_uses : List (List ℕ) → List Use → List Use
new_uses known [] = []
new_uses known (found ∷ uses) =
    if is_named known found.name then new_uses known uses else found ∷ new_uses (known ++ found.name ∷ []) uses
