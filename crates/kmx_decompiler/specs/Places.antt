-- The place of a cause in a file: the offset of a key record, or of the offset word of the string that contains the cause.
use Rattle.std.specs.Prelude.{ℕ, ◌+◌, Bool, if◌then◌else◌, List, [], ◌∷◌, ◌++◌, min, fold, Option, Some, None}
use Rattle.std.specs.List.{list_any}
use Rattle.rule_model.specs.declared.tables.Rule.{Rule}
use Rattle.rule_model.specs.declared.tables.Store.{Store}
use Rattle.rule_model.specs.declared.tables.Group.{Group}
use Rattle.rule_model.specs.Tab.{tab_options}
use Rattle.kmx_format.specs.declared.places.TheConstants.{GROUPS_AT, GROUP_MATCH_AT, GROUP_NOMATCH_AT, GROUP_RULES_AT, RULE_CONTEXT_AT, RULE_OUTPUT_AT, STORES_AT, STORE_ELEMENTS_AT}
use Rattle.kmx_format.specs.declared.sizes.TheConstants.{STORE_BYTES, GROUP_BYTES, RULE_BYTES}
use Rattle.kmx_format.specs.TablesOf.{word_at, tables_of}
use Rattle.decompile_program.specs.Items.{Names}
use Rattle.decompile_program.specs.Back.{names_for}
use Rattle.kmx_decompiler.specs.Causes.{is_unspelled_key, is_unspelled_output, is_unspelled_context, is_unspelled_store}

-- a place if it has a cause
abbrev pub at_cause : ℕ → Bool → List ℕ
at_cause place cause = if cause then place ∷ [] else []

-- the places of the content words of stores with a cause; the records begin at `place`, and the numbers at `n`
abbrev pub store_causes : Names → List ℕ → ℕ → ℕ → List Store → List ℕ
store_causes names options place n [] = []
store_causes names options place n (store ∷ stores) =
    at_cause (place + STORE_ELEMENTS_AT) (is_unspelled_store names options n store) ++ store_causes names options (place + STORE_BYTES) (n + 1) stores

-- the places of key records with a cause, and of output and context words with a cause; the records begin at `place`
abbrev pub rule_causes : Names → ℕ → List Rule → List ℕ
rule_causes names place [] = []
rule_causes names place (rule ∷ rules) =
    at_cause place (is_unspelled_key names rule.key)
    ++ (at_cause (place + RULE_OUTPUT_AT) (list_any (is_unspelled_output names) rule.output)
    ++ (at_cause (place + RULE_CONTEXT_AT) (is_unspelled_context names rule.context) ++ rule_causes names (place + RULE_BYTES) rules))

-- the places of match and nomatch words of groups with a cause, and the places in the key records of the groups
abbrev pub group_causes : List ℕ → Names → ℕ → List Group → List ℕ
group_causes bytes names place [] = []
group_causes bytes names place (group ∷ groups) =
    at_cause (place + GROUP_MATCH_AT) (list_any (is_unspelled_output names) group.on_match)
    ++ (at_cause (place + GROUP_NOMATCH_AT) (list_any (is_unspelled_output names) group.on_nomatch)
    ++ (rule_causes names (word_at bytes (place + GROUP_RULES_AT)) group.rules ++ group_causes bytes names (place + GROUP_BYTES) groups))

-- the places of all causes in a file
unfoldable pub cause_places : List ℕ → List ℕ
cause_places bytes =
    store_causes (names_for (tables_of bytes)) (tab_options (tables_of bytes)) (word_at bytes STORES_AT) 0 (tables_of bytes).stores
    ++ group_causes bytes (names_for (tables_of bytes)) (word_at bytes GROUPS_AT) (tables_of bytes).groups

-- the least of places, which are not in order since arrays can be anywhere in a file
abbrev pub least : List ℕ → Option ℕ
least [] = None
least (place ∷ places) = Some (fold min place places)
