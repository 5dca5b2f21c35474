-- Appending texts one by one is appending the joined text.
use Rattle.std.proofs.Common.{◌≡◌, ℕ, ◌+◌, List, [], ◌∷◌, ◌++◌, sym, ◌∙◌, codes, None}
use Rattle.std.specs.Prelude.{slice_get, unwrap_or}
use Rattle.kmn_base.specs.declared.items.Element.{Element}
use Rattle.rule_model.specs.declared.tables.Pat.{Pat}
use Rattle.rule_model.specs.declared.tables.Out.{Out}
use Rattle.rule_model.specs.declared.tables.Rule.{Rule}
use Rattle.rule_model.specs.declared.tables.Store.{Store}
use Rattle.rule_model.specs.declared.tables.Group.{Group}
use Rattle.decompile_program.specs.Items.{Names, group_called}
use Rattle.decompile_text.specs.declared.page.Page.{Page}
use Rattle.decompile_text.specs.Pages.{with_text}
use Rattle.decompile_text.specs.Texts.{flag_text, element_text, elements_text, pattern_text, context_text, output_text, outputs_text, rule_text, rules_text, group_text, groups_text, if_called, stores_text, keys_line}
use Rattle.decompile_text.specs.OneByOne.{with_flag_words, with_elements, with_context, with_outputs, with_rules, with_groups, with_stores, with_keys}
use Rattle.decompile_text.proofs.MoreText.{with_text_append, with_no_text}

-- the modifier words of flags by a table
abbrev pub flags_text : ℕ → List (List ℕ × ℕ) → List ℕ
flags_text flags [] = []
flags_text flags (row ∷ rows) = flag_text flags row.0 row.1 ++ flags_text flags rows

pub flag_words_are : (flags : ℕ) (page : Page) (rows : List (List ℕ × ℕ)) → with_flag_words flags page rows ≡ with_text page (flags_text flags rows)
flag_words_are flags page [] = sym (with_no_text page)
flag_words_are flags page (row ∷ rows) =
    flag_words_are flags (with_text page (flag_text flags row.0 row.1)) rows ∙ with_text_append page (flag_text flags row.0 row.1) (flags_text flags rows)

pub elements_are : (names : Names) (page : Page) (elements : List Element) → with_elements names page elements ≡ with_text page (elements_text names elements)
elements_are names page [] = sym (with_no_text page)
elements_are names page (element ∷ elements) =
    elements_are names (with_text (with_text page (32 ∷ [])) (element_text names element)) elements
    ∙ with_text_append (with_text page (32 ∷ [])) (element_text names element) (elements_text names elements)
    ∙ with_text_append page (32 ∷ []) (element_text names element ++ elements_text names elements)

pub context_is : (names : Names) (page : Page) (context : List Pat) → with_context names page context ≡ with_text page (context_text names context)
context_is names page [] = sym (with_no_text page)
context_is names page (pattern ∷ patterns) =
    context_is names (with_text (with_text page (pattern_text names pattern)) (32 ∷ [])) patterns
    ∙ with_text_append (with_text page (pattern_text names pattern)) (32 ∷ []) (context_text names patterns)
    ∙ with_text_append page (pattern_text names pattern) (32 ∷ context_text names patterns)

pub outputs_are : (names : Names) (page : Page) (outputs : List Out) → with_outputs names page outputs ≡ with_text page (outputs_text names outputs)
outputs_are names page [] = sym (with_no_text page)
outputs_are names page (output ∷ outputs) =
    outputs_are names (with_text (with_text page (32 ∷ [])) (output_text names output)) outputs
    ∙ with_text_append (with_text page (32 ∷ [])) (output_text names output) (outputs_text names outputs)
    ∙ with_text_append page (32 ∷ []) (output_text names output ++ outputs_text names outputs)

pub rules_are : (names : Names) (page : Page) (rules : List Rule) → with_rules names page rules ≡ with_text page (rules_text names rules)
rules_are names page [] = sym (with_no_text page)
rules_are names page (rule ∷ rules) =
    rules_are names (with_text page (rule_text names rule)) rules ∙ with_text_append page (rule_text names rule) (rules_text names rules)

pub groups_are : (names : Names) (n : ℕ) (page : Page) (groups : List Group) → with_groups names n page groups ≡ with_text page (groups_text names n groups)
groups_are names n page [] = sym (with_no_text page)
groups_are names n page (group ∷ groups) =
    groups_are names (n + 1) (with_text page (group_text names (group_called names n) group)) groups
    ∙ with_text_append page (group_text names (group_called names n) group) (groups_text names (n + 1) groups)

pub stores_are : (names : Names) (n : ℕ) (page : Page) (stores : List Store) → with_stores names n page stores ≡ with_text page (stores_text names n stores)
stores_are names n page [] = sym (with_no_text page)
stores_are names n page (store ∷ stores) =
    stores_are names (n + 1) (with_text page (if_called names (unwrap_or (slice_get names.stores n) None) store)) stores
    ∙ with_text_append page (if_called names (unwrap_or (slice_get names.stores n) None) store) (stores_text names (n + 1) stores)

pub keys_are : (page : Page) (keys : List (List ℕ)) → with_keys page keys ≡ with_text page (keys_line keys)
keys_are page [] = sym (with_no_text page)
keys_are page (key ∷ keys) =
    keys_are (with_text (with_text (with_text page (codes " [")) key) (93 ∷ [])) keys
    ∙ with_text_append (with_text (with_text page (codes " [")) key) (93 ∷ []) (keys_line keys)
    ∙ with_text_append (with_text page (codes " [")) key (93 ∷ keys_line keys)
    ∙ with_text_append page (codes " [") (key ++ 93 ∷ keys_line keys)
