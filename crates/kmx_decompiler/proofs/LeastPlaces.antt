-- The least of several places, computed one place after the other.
use Rattle.std.proofs.Common.{◌≡◌, ℕ, ◌+◌, List, [], ◌∷◌, ◌++◌, Option, Some, None, refl, sym, ap, ◌∙◌, append_assoc, append-nil}
use Rattle.std.specs.Prelude.{fold, min}
use Rattle.rule_model.specs.declared.tables.Rule.{Rule}
use Rattle.rule_model.specs.declared.tables.Store.{Store}
use Rattle.rule_model.specs.declared.tables.Group.{Group}
use Rattle.kmx_format.specs.declared.sizes.TheConstants.{GROUP_BYTES, RULE_BYTES}
use Rattle.rule_model.specs.declared.tables.Tables.{Tables}
use Rattle.rule_model.specs.Tab.{tab_options}
use Rattle.kmx_format.specs.TablesOf.{word_at, tables_of}
use Rattle.decompile_program.specs.Items.{Names}
use Rattle.decompile_program.specs.Back.{names_for}
use Rattle.kmx_decompiler.specs.Causes.{is_unspelled_key}
use Rattle.kmx_decompiler.specs.Places.{at_cause, cause_places, least, store_causes, rule_causes, group_causes}
use Rattle.kmx_decompiler.specs.Least.{lesser, lesser_of}

-- the least of joined places is the least of the second places and of the least of the first
pub lesser_append : (first second : List ℕ) (found : Option ℕ) → lesser (first ++ second) found ≡ lesser second (lesser first found)
lesser_append [] second found = refl
lesser_append (place ∷ places) second found = lesser_append places second (Some (lesser_of found place))

folded : (places : List ℕ) (found : ℕ) → lesser places (Some found) ≡ Some (fold min found places)
folded [] found = refl
folded (place ∷ places) found = folded places (min found place)

-- if there is no place before, the result is the least of the places
lesser_is_least : (places : List ℕ) → lesser places None ≡ least places
lesser_is_least [] = refl
lesser_is_least (place ∷ places) = folded places place

apart_by_three : (a b c rest : List ℕ) → a ++ (b ++ (c ++ rest)) ≡ (a ++ (b ++ (c ++ []))) ++ rest
apart_by_three a b c rest =
    ap (λ tail. a ++ (b ++ tail)) (ap (λ l. l ++ rest) (sym (append-nil c)))
    ∙ ap (λ tail. a ++ tail) (sym (append_assoc b (c ++ []) rest))
    ∙ sym (append_assoc a (b ++ (c ++ [])) rest)

-- the places of records are the places of the first record, then the places of the others
rules_apart : (names : Names) (place : ℕ) (rule : Rule) (rules : List Rule)
    → rule_causes names place (rule ∷ rules) ≡ rule_causes names place (rule ∷ []) ++ rule_causes names (place + RULE_BYTES) rules
rules_apart names place rule rules = apart_by_three (at_cause place (is_unspelled_key names rule.key)) _ _ (rule_causes names (place + RULE_BYTES) rules)

lesser_rules : (names : Names) (place : ℕ) (rule : Rule) (rules : List Rule) (found least : Option ℕ)
    → found ≡ lesser (rule_causes names place (rule ∷ [])) least
    → lesser (rule_causes names place (rule ∷ rules)) least ≡ lesser (rule_causes names (place + RULE_BYTES) rules) found
lesser_rules names place rule rules found least e =
    ap (λ places. lesser places least) (rules_apart names place rule rules)
    ∙ lesser_append (rule_causes names place (rule ∷ [])) (rule_causes names (place + RULE_BYTES) rules) least
    ∙ ap (lesser (rule_causes names (place + RULE_BYTES) rules)) (sym e)

-- the least place of records is the least place of the others, computed after the first record
pub rules_step : (names : Names) (place next : ℕ) (rule : Rule) (rest from : List Rule) (found least whole : Option ℕ)
    → from ≡ rule ∷ rest → found ≡ lesser (rule_causes names place (rule ∷ [])) least → next ≡ place + RULE_BYTES
    → lesser (rule_causes names place from) least ≡ whole → lesser (rule_causes names next rest) found ≡ whole
rules_step names place next rule rest from found least whole begins e behind before =
    ap (λ n. lesser (rule_causes names n rest) found) behind
    ∙ sym (lesser_rules names place rule rest found least e)
    ∙ sym (ap (λ rules. lesser (rule_causes names place rules) least) begins)
    ∙ before

-- the places of groups are the places of the first group, then the places of the others
groups_apart : (bytes : List ℕ) (names : Names) (place : ℕ) (group : Group) (groups : List Group)
    → group_causes bytes names place (group ∷ groups) ≡ group_causes bytes names place (group ∷ []) ++ group_causes bytes names (place + GROUP_BYTES) groups
groups_apart bytes names place group groups = apart_by_three _ _ (rule_causes names (word_at bytes (place + 4)) group.rules) (group_causes bytes names (place + GROUP_BYTES) groups)

lesser_groups : (bytes : List ℕ) (names : Names) (place : ℕ) (group : Group) (groups : List Group) (found least : Option ℕ)
    → found ≡ lesser (group_causes bytes names place (group ∷ [])) least
    → lesser (group_causes bytes names place (group ∷ groups)) least ≡ lesser (group_causes bytes names (place + GROUP_BYTES) groups) found
lesser_groups bytes names place group groups found least e =
    ap (λ places. lesser places least) (groups_apart bytes names place group groups)
    ∙ lesser_append (group_causes bytes names place (group ∷ [])) (group_causes bytes names (place + GROUP_BYTES) groups) least
    ∙ ap (lesser (group_causes bytes names (place + GROUP_BYTES) groups)) (sym e)

-- the least place of groups is the least place of the others, computed after the first group
pub groups_step : (bytes : List ℕ) (names : Names) (place next : ℕ) (group : Group) (rest from : List Group) (found least whole : Option ℕ)
    → from ≡ group ∷ rest → found ≡ lesser (group_causes bytes names place (group ∷ [])) least → next ≡ place + GROUP_BYTES
    → lesser (group_causes bytes names place from) least ≡ whole → lesser (group_causes bytes names next rest) found ≡ whole
groups_step bytes names place next group rest from found least whole begins e behind before =
    ap (λ n. lesser (group_causes bytes names n rest) found) behind
    ∙ sym (lesser_groups bytes names place group rest found least e)
    ∙ sym (ap (λ groups. lesser (group_causes bytes names place groups) least) begins)
    ∙ before

-- the least of the places of stores, and then of groups, is the least of all places in a file
pub least_is : (bytes : List ℕ) (tables indexed : Tables) (names : Names) (place_of_stores place_of_groups : ℕ) (stores : List Store) (groups : List Group) (first place : Option ℕ)
    → tables ≡ tables_of bytes → indexed ≡ tables → names ≡ names_for tables → place_of_stores ≡ word_at bytes 32 → place_of_groups ≡ word_at bytes 36
    → stores ≡ tables.stores → groups ≡ tables.groups
    → first ≡ lesser (store_causes names (tab_options indexed) place_of_stores 0 stores) None
    → place ≡ lesser (group_causes bytes names place_of_groups groups) first
    → place ≡ least (cause_places bytes)
unfolding cause_places
least_is bytes tables indexed names place_of_stores place_of_groups stores groups first place of_bytes same called at_stores at_groups all_stores all_groups e f =
    f ∙ ap (lesser (group_causes bytes names place_of_groups groups)) e
    ∙ sym (lesser_append (store_causes names (tab_options indexed) place_of_stores 0 stores) (group_causes bytes names place_of_groups groups) None)
    ∙ lesser_is_least (store_causes names (tab_options indexed) place_of_stores 0 stores ++ group_causes bytes names place_of_groups groups)
    ∙ (λ i. least (store_causes (called i) (tab_options (same i)) (at_stores i) 0 (all_stores i) ++ group_causes bytes (called i) (at_groups i) (all_groups i)))
    ∙ (λ i. least (store_causes (names_for (of_bytes i)) (tab_options (of_bytes i)) (word_at bytes 32) 0 ((of_bytes i).stores) ++ group_causes bytes (names_for (of_bytes i)) (word_at bytes 36) ((of_bytes i).groups)))
