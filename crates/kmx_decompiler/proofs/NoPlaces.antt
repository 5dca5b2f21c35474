-- If the parts of a file's tables have no causes, there are no places of causes.
use Rattle.std.proofs.Common.{◌≡◌, ℕ, ◌+◌, Bool, true, false, List, [], ◌∷◌, ◌++◌, refl}
use Rattle.std.specs.List.{list_any, AllByRecursion}
use Rattle.rule_model.specs.declared.tables.Rule.{Rule}
use Rattle.rule_model.specs.declared.tables.Store.{Store}
use Rattle.rule_model.specs.declared.tables.Group.{Group}
use Rattle.rule_model.specs.Tab.{tab_options}
use Rattle.kmx_format.specs.declared.sizes.TheConstants.{STORE_BYTES, GROUP_BYTES, RULE_BYTES}
use Rattle.kmx_format.specs.TablesOf.{word_at, tables_of}
use Rattle.decompile_program.specs.Items.{Names}
use Rattle.decompile_program.specs.Back.{names_for}
use Rattle.kmx_decompiler.specs.Causes.{is_unspelled_key, is_unspelled_output, is_unspelled_context, is_unspelled_store}
use Rattle.kmx_decompiler.specs.Places.{at_cause, store_causes, rule_causes, group_causes, cause_places}
use Rattle.kmx_decompiler.proofs.Sayable.{IsSayableRule, IsSayableGroup, AreSayable}

no-place : (place : ℕ) (cause : Bool) → cause ≡ false → at_cause place cause ≡ []
no-place place true h = absurd (cc)
no-place place false h = refl

nil-joined : (xs ys : List ℕ) → xs ≡ [] → ys ≡ [] → xs ++ ys ≡ []
nil-joined xs ys e f = λ i. e i ++ f i

rules-none : (names : Names) (place : ℕ) (rules : List Rule) → AllByRecursion (IsSayableRule names) rules → rule_causes names place rules ≡ []
rules-none names place [] h = refl
rules-none names place (rule ∷ rules) h =
    nil-joined (at_cause place (is_unspelled_key names rule.key)) _ (no-place place (is_unspelled_key names rule.key) h.0.key)
    (nil-joined (at_cause (place + 12) (list_any (is_unspelled_output names) rule.output)) _ (no-place (place + 12) (list_any (is_unspelled_output names) rule.output) h.0.output)
    (nil-joined (at_cause (place + 16) (is_unspelled_context names rule.context)) _ (no-place (place + 16) (is_unspelled_context names rule.context) h.0.context)
    (rules-none names (place + RULE_BYTES) rules h.1)))

groups-none : (bytes : List ℕ) (names : Names) (place : ℕ) (groups : List Group) → AllByRecursion (IsSayableGroup names) groups → group_causes bytes names place groups ≡ []
groups-none bytes names place [] h = refl
groups-none bytes names place (group ∷ groups) h =
    nil-joined (at_cause (place + 8) (list_any (is_unspelled_output names) group.on_match)) _ (no-place (place + 8) (list_any (is_unspelled_output names) group.on_match) h.0.on_match)
    (nil-joined (at_cause (place + 12) (list_any (is_unspelled_output names) group.on_nomatch)) _ (no-place (place + 12) (list_any (is_unspelled_output names) group.on_nomatch) h.0.on_nomatch)
    (nil-joined (rule_causes names (word_at bytes (place + 4)) group.rules) _ (rules-none names (word_at bytes (place + 4)) group.rules h.0.rules)
    (groups-none bytes names (place + GROUP_BYTES) groups h.1)))

stores-none : (names : Names) (options : List ℕ) (place n : ℕ) (stores : List Store) → AreSayable names options n stores → store_causes names options place n stores ≡ []
stores-none names options place n [] h = refl
stores-none names options place n (store ∷ stores) h =
    nil-joined (at_cause (place + 8) (is_unspelled_store names options n store)) _ (no-place (place + 8) (is_unspelled_store names options n store) h.0)
    (stores-none names options (place + STORE_BYTES) (n + 1) stores h.1)

pub no_causes : (bytes : List ℕ) → AreSayable (names_for (tables_of bytes)) (tab_options (tables_of bytes)) 0 (tables_of bytes).stores
    → AllByRecursion (IsSayableGroup (names_for (tables_of bytes))) (tables_of bytes).groups → cause_places bytes ≡ []
unfolding cause_places
no_causes bytes stores groups =
    nil-joined (store_causes (names_for (tables_of bytes)) (tab_options (tables_of bytes)) (word_at bytes 32) 0 (tables_of bytes).stores) _
    (stores-none (names_for (tables_of bytes)) (tab_options (tables_of bytes)) (word_at bytes 32) 0 (tables_of bytes).stores stores)
    (groups-none bytes (names_for (tables_of bytes)) (word_at bytes 36) (tables_of bytes).groups groups)
