-- The tables that a program compiles to.
use Rattle.std.specs.Prelude.{◌≡◌, ℕ, ◌+◌, ◌*◌, ◌<◌, Bool, false, not, nat_eq, if◌then◌else◌, List, [], ◌∷◌, ◌++◌, length, map, flat_map, filter, find, Option, Some, None, unwrap_or, slice_index_or}
use Rattle.std.specs.List.Sorted.{IsPermutation, IsSortedBy}
use Rattle.std.specs.Ordering.{is_lt, ordering_then, nat_cmp}
use Rattle.kmn_base.specs.declared.items.Element.{Element}
use Rattle.kmn_base.specs.declared.items.Element.TheVariants as element
use Rattle.kmn_base.specs.declared.keys.RuleKey.{RuleKey}
use Rattle.kmn_base.specs.declared.keys.RuleKey.TheVariants as key
use Rattle.rule_model.specs.declared.program.SrcItem.{SrcItem}
use Rattle.rule_model.specs.declared.program.SrcItem.TheVariants as source
use Rattle.rule_model.specs.declared.program.RuleDef.{RuleDef}
use Rattle.rule_model.specs.declared.program.GroupDef.{GroupDef}
use Rattle.rule_model.specs.declared.program.BeginDef.{BeginDef}
use Rattle.rule_model.specs.declared.program.Program.{Program}
use Rattle.rule_model.specs.declared.tables.Pat.{Pat}
use Rattle.rule_model.specs.declared.tables.Pat.TheVariants as pattern
use Rattle.rule_model.specs.declared.tables.Out.{Out}
use Rattle.rule_model.specs.declared.tables.Out.TheVariants as output
use Rattle.rule_model.specs.declared.tables.Rule.{Rule}
use Rattle.rule_model.specs.declared.tables.Group.{Group}
use Rattle.rule_model.specs.declared.tables.Tables.{Tables}
use Rattle.rule_model.specs.Match.{element_at}
use Rattle.rule_model.specs.Hold.{key_of_element, is_exchanged}
use Rattle.rule_model.specs.CasedKeys.{half_flags}
use Rattle.rule_model.specs.Naming.{mark_number, key_number, elements_named}
use Rattle.rule_model.specs.Src.{is_plain, is_on_match, is_on_nomatch, is_unicode}
use Rattle.compile_laws.specs.Numbers.{Numbers, numbers_of, number_of_store, number_of_group, number_of_value, number_of_start, version_of, compiled_stores}

-- a context item of a file; an item that is not allowed in a context is a `nul`
abbrev pub file_pattern : Numbers → SrcItem → Pat
file_pattern numbers (source.Char c) = pattern.Char c
file_pattern numbers (source.Dead name) = pattern.Mark (mark_number numbers.names name)
file_pattern numbers (source.Any store) = pattern.Any (number_of_store numbers store)
file_pattern numbers (source.NotAny store) = pattern.NotAny (number_of_store numbers store)
file_pattern numbers (source.Index store offset) = pattern.Index (number_of_store numbers store) offset
file_pattern numbers (source.ContextAt offset) = pattern.ContextAt offset
file_pattern numbers (source.Equal store value) = pattern.Equal (number_of_store numbers store) (number_of_value numbers value)
file_pattern numbers (source.Unequal store value) = pattern.Unequal (number_of_store numbers store) (number_of_value numbers value)
file_pattern numbers (source.SystemEqual id value) = pattern.SystemEqual id (number_of_value numbers value)
file_pattern numbers (source.SystemUnequal id value) = pattern.SystemUnequal id (number_of_value numbers value)
file_pattern numbers item = pattern.Nul

-- an element as an output; a virtual key has no output
abbrev pub element_outs : Element → List Out
element_outs (element.Char c) = output.Char c ∷ []
element_outs (element.Mark m) = output.Mark m ∷ []
element_outs (element.Key flags code) = []

-- an optional element as an output
abbrev pub element_outs_if_any : Option Element → List Out
element_outs_if_any None = []
element_outs_if_any (Some e) = element_outs e

-- an output item of a rule with `count` context items and, if it has a key store, with the key at this position of the store: `outs`
-- becomes the elements of its store, and `index` at the key's offset becomes the element of its store at this position
abbrev pub file_output : Numbers → ℕ → Option ℕ → SrcItem → List Out
file_output numbers count place (source.Char c) = output.Char c ∷ []
file_output numbers count place (source.Dead name) = output.Mark (mark_number numbers.names name) ∷ []
file_output numbers count place (source.Index store offset) =
    if nat_eq offset (count + 1)
    then element_outs_if_any (element_at (elements_named numbers.stores store) place)
    else output.Index (number_of_store numbers store) offset ∷ []
file_output numbers count place source.Context = output.Context ∷ []
file_output numbers count place (source.ContextAt offset) = output.ContextAt offset ∷ []
file_output numbers count place (source.Outs store) = flat_map element_outs (elements_named numbers.stores store)
file_output numbers count place (source.Enter group) = output.Enter (number_of_group numbers group) ∷ []
file_output numbers count place (source.Set store value) = output.Set (number_of_store numbers store) (number_of_value numbers value) ∷ []
file_output numbers count place (source.SetSystem id value) = output.SetSystem id (number_of_value numbers value) ∷ []
file_output numbers count place (source.Save store) = output.Save (number_of_store numbers store) ∷ []
file_output numbers count place (source.Reset store) = output.Reset (number_of_store numbers store) ∷ []
file_output numbers count place source.Beep = output.Beep ∷ []
file_output numbers count place source.Stop = output.Stop ∷ []
file_output numbers count place item = output.Nul ∷ []

-- an output without items is a `nul`
abbrev pub or_nul : List Out → List Out
or_nul [] = output.Nul ∷ []
or_nul (out ∷ outs) = out ∷ outs

-- the output items of a rule in the file
abbrev pub file_outputs : Numbers → ℕ → Option ℕ → List SrcItem → List Out
file_outputs numbers count place items = or_nul (flat_map (file_output numbers count place) items)

-- whether a key has two records: a virtual key that exchanges shift and caps lock
abbrev pub has_halves : List ℕ → RuleKey → Bool
has_halves cased (key.Virtual flags code) = is_exchanged cased flags code
has_halves cased wanted = false

-- the key of one of the two records
abbrev pub half_key : ℕ → RuleKey → RuleKey
half_key half (key.Virtual flags code) = key.Virtual (half_flags half flags) code
half_key half wanted = wanted

-- the record of a rule with this key, with the position of the key in a key store, if there is one, and with one of two halves
abbrev pub file_record : Numbers → RuleDef → Option ℕ → ℕ → RuleKey → Rule
file_record numbers rule place half wanted =
    record {
      line = rule.line;
      place = 2 * unwrap_or place 0 + half;
      key = wanted;
      context = map (file_pattern numbers) rule.context;
      output = file_outputs numbers (length rule.context) place rule.output;
    }

-- the records of a rule for a key: one record, or two halves
abbrev pub key_records : Numbers → RuleDef → Option ℕ → RuleKey → List Rule
key_records numbers rule place wanted =
    if has_halves numbers.cased wanted
    then file_record numbers rule place 0 (half_key 0 wanted) ∷ file_record numbers rule place 1 (half_key 1 wanted) ∷ []
    else file_record numbers rule place 0 wanted ∷ []

-- the records for each element of a key store from this position on; a key store that was checked contains no mark
abbrev pub records_from : Numbers → RuleDef → ℕ → List Element → List Rule
records_from numbers rule place [] = []
records_from numbers rule place (e ∷ elements) =
    key_records numbers rule (Some place) (unwrap_or (key_of_element e) key.Any) ++ records_from numbers rule (place + 1) elements

-- the key of a rule without a key store; a rule of a group without keys has no key
abbrev pub own_key : Numbers → Option SrcItem → RuleKey
own_key numbers (Some (source.Char c)) = key.Char c
own_key numbers (Some (source.Key k)) = key.Virtual k.flags (key_number numbers.names k)
own_key numbers item = key.Any

-- the records of a rule with this key: one for each element of a key store, else one
abbrev pub keyed_records : Numbers → RuleDef → Option SrcItem → List Rule
keyed_records numbers rule (Some (source.Any store)) = records_from numbers rule 0 (elements_named numbers.stores store)
keyed_records numbers rule item = key_records numbers rule None (own_key numbers item)

-- the records of a rule
abbrev pub rule_records : Numbers → RuleDef → List Rule
rule_records numbers rule = keyed_records numbers rule rule.key

-- the output of a match or nomatch statement, which is empty if there is none
abbrev pub statement_outputs : Numbers → Option RuleDef → List Out
statement_outputs numbers None = []
statement_outputs numbers (Some rule) = file_outputs numbers 0 None rule.output

-- a group with the records of its rules in the source's order
abbrev pub file_group : Numbers → GroupDef → Group
file_group numbers group =
    record {
      name = group.name;
      using_keys = group.using_keys;
      rules = flat_map (rule_records numbers) (filter is_plain group.rules);
      on_match = statement_outputs numbers (find is_on_match group.rules);
      on_nomatch = statement_outputs numbers (find is_on_nomatch group.rules);
    }

-- a record precedes another: its context is longer; or the contexts are equally long and its line is earlier; or the lines are equal and
-- its position is earlier, which is the key's position in the key store and the order of a cased key's two records
abbrev pub precedes : Rule → Rule → Bool
precedes a b =
    is_lt (ordering_then (ordering_then (nat_cmp (length b.context) (length a.context)) (nat_cmp a.line b.line)) (nat_cmp a.place b.place))

-- a group has each record of another group once and in order, and is the same in all other fields
pub record IsOrderedGroup (expanded ordered : Group) : Type 0 where
  pub name : ordered.name ≡ expanded.name
  pub using_keys : ordered.using_keys ≡ expanded.using_keys
  pub records : IsPermutation expanded.rules ordered.rules
  pub in_order : IsSortedBy precedes ordered.rules
  pub on_match : ordered.on_match ≡ expanded.on_match
  pub on_nomatch : ordered.on_nomatch ≡ expanded.on_nomatch

-- each group of the second list has the records of the group at the same position of the first list in order
pub record AreOrderedGroups (expanded ordered : List Group) : Type 0 where
  pub count : length ordered ≡ length expanded
  pub each : (k : ℕ) (group : Group) → k < length expanded → IsOrderedGroup (slice_index_or expanded k group) (slice_index_or ordered k group)

-- whether a start statement is `begin ANSI`
abbrev pub is_ansi : BeginDef → Bool
is_ansi start = not start.unicode

-- the tables of a program: its version, start groups and stores, and its groups with their records in order
pub record Compiles (program : Program) (tables : Tables) : Type 0 where
  pub version : tables.version ≡ version_of program
  pub start_ansi : tables.start_ansi ≡ number_of_start (numbers_of program) (find is_ansi program.begins)
  pub start_unicode : tables.start_unicode ≡ number_of_start (numbers_of program) (find is_unicode program.begins)
  pub stores : tables.stores ≡ compiled_stores program
  pub groups : AreOrderedGroups (map (file_group (numbers_of program)) program.groups) tables.groups
