-- Programs in which refused statements are replaced by what other statements need of them.
use Rattle.std.specs.Prelude.{ℕ, nat_eq, Bool, true, false, ◌||◌, if◌then◌else◌, List, [], ◌∷◌, ◌++◌, map, is_some, Option, None, Some}
use Rattle.kmn_base.specs.declared.codes.Code.{Code}
use Rattle.kmn_base.specs.declared.codes.Code.TheVariants.{C03}
use Rattle.kmn_base.specs.declared.refusals.Refusal.{Refusal}
use Rattle.rule_model.specs.declared.program.SrcItem.{SrcItem}
use Rattle.rule_model.specs.declared.program.SrcItem.TheVariants as source
use Rattle.rule_model.specs.declared.program.StoreDef.{StoreDef}
use Rattle.rule_model.specs.declared.program.RuleDef.{RuleDef}
use Rattle.rule_model.specs.declared.program.GroupDef.{GroupDef}
use Rattle.rule_model.specs.declared.program.Program.{Program}
use Rattle.store_table.specs.Names.{is_named, store_names, group_names}

-- the items of a store of which only the name is known: a character, which fits every use of a store
abbrev pub stub_items : List SrcItem
stub_items = source.Char 97 ∷ []

abbrev pub word_store : List ℕ → StoreDef
word_store name = record { line = 0; system = 0; name = name; items = stub_items }

abbrev pub word_group : List ℕ → GroupDef
word_group name = record { line = 0; name = name; using_keys = true; rules = [] }

-- the words that are not among names, each once
abbrev pub new_words : List (List ℕ) → List (List ℕ) → List (List ℕ)
new_words names [] = []
new_words names (word ∷ words) =
    if is_named names word then new_words names words else word ∷ new_words (names ++ word ∷ []) words

-- the program of the lines that are read, in which each word of a refused line is also a store and a group
abbrev pub with_words : Program → List (List ℕ) → Program
with_words program words =
    record program {
      stores = map word_store (new_words (store_names program.stores) words) ++ program.stores;
      groups = map word_group (new_words (group_names program.groups) words) ++ program.groups;
    }

-- the code with which a line is refused, if it is
abbrev pub code_at : List Refusal → ℕ → Option Code
code_at [] line = None
code_at (refusal ∷ refusals) line = if nat_eq refusal.line line then Some refusal.code else code_at refusals line

-- whether a line is refused. Line 0, which statements have that no line states, counts as refused if a line is
abbrev pub is_refused : List Refusal → ℕ → Bool
is_refused [] line = false
is_refused (refusal ∷ refusals) line = nat_eq line 0 || is_some (code_at (refusal ∷ refusals) line)

-- the name of a refused store; a second store of a name has none
abbrev pub stub_name : Code → List ℕ → List ℕ
stub_name C03 name = []
stub_name other name = name

-- a refused store keeps its name and has one character
abbrev pub stub_store : Option Code → StoreDef → StoreDef
stub_store None store = store
stub_store (Some code) store = record store { name = stub_name code store.name; items = stub_items }

-- a refused rule has no items
abbrev pub stub_rule : Option Code → RuleDef → RuleDef
stub_rule None rule = rule
stub_rule (Some code) rule = record rule { context = []; key = None; output = [] }

-- a refused group keeps its rules
abbrev pub stub_group_name : Option Code → List ℕ → List ℕ
stub_group_name None name = name
stub_group_name (Some code) name = []

abbrev pub stub_group : List Refusal → GroupDef → GroupDef
stub_group refusals group =
    record group {
      name = stub_group_name (code_at refusals group.line) group.name;
      rules = map (λ (rule : RuleDef). stub_rule (code_at refusals rule.line) rule) group.rules;
    }

-- a program with stubs for refused stores, groups and rules; its begins are unchanged, since no later pass looks at them
abbrev pub stubbed : List Refusal → Program → Program
stubbed refusals program =
    record program {
      stores = map (λ (store : StoreDef). stub_store (code_at refusals store.line) store) program.stores;
      groups = map (stub_group refusals) program.groups;
    }
