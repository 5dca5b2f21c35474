-- The keyboard that the statements of a source define.
use Rattle.std.specs.Prelude.{ℕ, Bool, true, false, nat_eq, List, [], ◌∷◌, ◌++◌, map, flat_map, filter, filter_map, find, Option, Some, None, option_map, option_to_list, position}
use Rattle.kmn_base.specs.declared.items.Element.{Element}
use Rattle.kmn_base.specs.declared.items.Element.TheVariants as element
use Rattle.kmn_base.specs.declared.keys.RuleKey.TheVariants as key
use Rattle.kmn_base.specs.Names.{same_name}
use Rattle.rule_model.specs.declared.program.SrcItem.{SrcItem}
use Rattle.rule_model.specs.declared.program.SrcItem.TheVariants as source
use Rattle.rule_model.specs.declared.program.RuleKind.{RuleKind}
use Rattle.rule_model.specs.declared.program.RuleKind.TheVariants.{Plain, OnMatch, OnNoMatch}
use Rattle.rule_model.specs.declared.program.RuleDef.{RuleDef}
use Rattle.rule_model.specs.declared.program.GroupDef.{GroupDef}
use Rattle.rule_model.specs.declared.program.BeginDef.{BeginDef}
use Rattle.rule_model.specs.declared.program.Program.{Program}
use Rattle.rule_model.specs.declared.tables.Store.{Store}
use Rattle.rule_model.specs.Keyboard.{Ref, Named, Pattern, IsChar, IsMark, IsAny, IsNotAny, IsIndex, IsContextAt, IfEqual, IfUnequal, AtStart, Output, PutChar, PutMark, PutIndex, PutContext, PutContextAt, PutStore, UseGroup, SetOption, SaveOption, ResetOption, MakeBeep, DoNothing, StopEvent, KeyPattern, OneKey, KeyIn, RuleMeaning, GroupMeaning, Keyboard, Best}
use Rattle.rule_model.specs.Naming.{SourceNames, names_of, mark_number, key_number, stores_of}
use Rattle.rule_model.specs.Tab.{with_options, store_elements}
use Rattle.rule_model.specs.System.{system_ref, system_options}
use Rattle.rule_model.specs.declared.system.TheConstants.{CASED_KEYS}

-- a value is its characters
abbrev pub value_elements : List ℕ → List Element
value_elements value = map element.Char value

-- the pattern of a context item; an item that is not allowed there has no meaning
abbrev pub src_pattern : SourceNames → SrcItem → Pattern
src_pattern names (source.Char c) = IsChar c
src_pattern names (source.Dead name) = IsMark (mark_number names name)
src_pattern names (source.Any store) = IsAny (Named store)
src_pattern names (source.NotAny store) = IsNotAny (Named store)
src_pattern names (source.Index store offset) = IsIndex (Named store) offset
src_pattern names (source.ContextAt offset) = IsContextAt offset
src_pattern names (source.Equal store value) = IfEqual (Named store) (value_elements value)
src_pattern names (source.Unequal store value) = IfUnequal (Named store) (value_elements value)
src_pattern names (source.SystemEqual id value) = IfEqual (system_ref id) (value_elements value)
src_pattern names (source.SystemUnequal id value) = IfUnequal (system_ref id) (value_elements value)
src_pattern names item = AtStart

-- the effect of an output item; an item that is not allowed there has no effect
abbrev pub src_output : SourceNames → SrcItem → Output
src_output names (source.Char c) = PutChar c
src_output names (source.Dead name) = PutMark (mark_number names name)
src_output names (source.Index store offset) = PutIndex (Named store) offset
src_output names source.Context = PutContext
src_output names (source.ContextAt offset) = PutContextAt offset
src_output names (source.Outs store) = PutStore (Named store)
src_output names (source.Enter group) = UseGroup (Named group)
src_output names (source.Set store value) = SetOption (Named store) (value_elements value)
src_output names (source.Save store) = SaveOption (Named store)
src_output names (source.Reset store) = ResetOption (Named store)
src_output names (source.SetSystem id value) = SetOption (system_ref id) (value_elements value)
src_output names source.Beep = MakeBeep
src_output names source.Stop = StopEvent
src_output names item = DoNothing

-- the key of a rule; a rule without one fits every press
abbrev pub src_key : SourceNames → Option SrcItem → KeyPattern
src_key names (Some (source.Char c)) = OneKey (key.Char c)
src_key names (Some (source.Key k)) = OneKey (key.Virtual k.flags (key_number names k))
src_key names (Some (source.Any store)) = KeyIn (Named store)
src_key names item = OneKey key.Any

abbrev pub src_rule : SourceNames → RuleDef → RuleMeaning
src_rule names rule =
    record {
      line = rule.line;
      context = map (src_pattern names) rule.context;
      key = src_key names rule.key;
      output = map (src_output names) rule.output;
    }

-- whether a statement is a rule, a match or a nomatch statement
abbrev pub is_plain_kind : RuleKind → Bool
is_plain_kind Plain = true
is_plain_kind OnMatch = false
is_plain_kind OnNoMatch = false

abbrev pub is_match_kind : RuleKind → Bool
is_match_kind Plain = false
is_match_kind OnMatch = true
is_match_kind OnNoMatch = false

abbrev pub is_nomatch_kind : RuleKind → Bool
is_nomatch_kind Plain = false
is_nomatch_kind OnMatch = false
is_nomatch_kind OnNoMatch = true

abbrev pub is_plain : RuleDef → Bool
is_plain rule = is_plain_kind rule.kind

abbrev pub is_on_match : RuleDef → Bool
is_on_match rule = is_match_kind rule.kind

abbrev pub is_on_nomatch : RuleDef → Bool
is_on_nomatch rule = is_nomatch_kind rule.kind

abbrev pub src_outputs : SourceNames → RuleDef → List Output
src_outputs names rule = map (src_output names) rule.output

-- a group: its rules, and the effects of its first match and nomatch statements
abbrev pub src_group : SourceNames → GroupDef → GroupMeaning
src_group names group =
    record {
      name = group.name;
      using_keys = group.using_keys;
      rules = map (src_rule names) (filter is_plain group.rules);
      on_match = option_map (src_outputs names) (find is_on_match group.rules);
      on_nomatch = option_map (src_outputs names) (find is_on_nomatch group.rules);
    }

-- the stores that the items of a context and of an output use as options
abbrev pub pattern_uses : SrcItem → List (List ℕ)
pattern_uses (source.Equal store value) = store ∷ []
pattern_uses (source.Unequal store value) = store ∷ []
pattern_uses item = []

abbrev pub output_uses : SrcItem → List (List ℕ)
output_uses (source.Set store value) = store ∷ []
output_uses (source.Save store) = store ∷ []
output_uses (source.Reset store) = store ∷ []
output_uses item = []

abbrev pub rule_uses : RuleDef → List (List ℕ)
rule_uses rule = flat_map pattern_uses rule.context ++ flat_map output_uses rule.output

-- the stores that a group uses as options, in its plain rules and its first match and nomatch statements
abbrev pub group_uses : GroupDef → List (List ℕ)
group_uses group =
    flat_map rule_uses (filter is_plain group.rules)
    ++ (flat_map rule_uses (option_to_list (find is_on_match group.rules)) ++ flat_map rule_uses (option_to_list (find is_on_nomatch group.rules)))

-- the number of a store by its name, if there is one
abbrev pub numbers_named : List Store → List ℕ → List ℕ
numbers_named stores name = option_to_list (position (λ (store : Store). same_name store.name name) stores)

unfoldable pub src_options : Program → List ℕ
src_options program = flat_map (numbers_named (stores_of program)) (flat_map group_uses program.groups)

abbrev pub is_unicode : BeginDef → Bool
is_unicode start = start.unicode

-- the code of an element that is a virtual key
abbrev pub code_of_element : Element → Option ℕ
code_of_element (element.Key flags code) = Some code
code_of_element e = None

-- the codes of the keys among elements
abbrev pub codes_among : List Element → List ℕ
codes_among elements = filter_map code_of_element elements

-- whether a store is `&casedkeys`
abbrev pub is_cased_keys : Store → Bool
is_cased_keys store = nat_eq store.system CASED_KEYS

-- the codes of the cased keys: the keys of the first `&casedkeys`
unfoldable pub cased_keys : Program → List ℕ
cased_keys program = codes_among (store_elements (find is_cased_keys (stores_of program)))

-- the group that the first `begin Unicode` names
abbrev pub start_named : Option BeginDef → Ref
start_named None = Named []
start_named (Some start) = Named start.group

-- the keyboard of a program: the best rule that holds is selected
unfoldable pub src : Program → Keyboard
src program =
    record {
      start = start_named (find is_unicode program.begins);
      stores = with_options (src_options program) 0 (stores_of program) ++ system_options;
      groups = map (src_group (names_of program)) program.groups;
      dictionary = (names_of program).keys;
      cased = cased_keys program;
      choice = Best;
    }
