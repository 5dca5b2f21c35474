-- A page to which items or lines are appended one after the other.
use Rattle.std.specs.Prelude.{ℕ, ◌+◌, List, [], ◌∷◌, codes, None, slice_get, unwrap_or}
use Rattle.kmn_base.specs.declared.items.Element.{Element}
use Rattle.rule_model.specs.declared.tables.Pat.{Pat}
use Rattle.rule_model.specs.declared.tables.Out.{Out}
use Rattle.rule_model.specs.declared.tables.Rule.{Rule}
use Rattle.rule_model.specs.declared.tables.Store.{Store}
use Rattle.rule_model.specs.declared.tables.Group.{Group}
use Rattle.decompile_program.specs.Items.{Names, group_called}
use Rattle.decompile_text.specs.declared.page.Page.{Page}
use Rattle.decompile_text.specs.Pages.{with_text}
use Rattle.decompile_text.specs.Texts.{flag_text, element_text, pattern_text, output_text, rule_text, group_text, if_called}

abbrev pub with_flag_words : ℕ → Page → List (List ℕ × ℕ) → Page
with_flag_words flags page [] = page
with_flag_words flags page (row ∷ rows) = with_flag_words flags (with_text page (flag_text flags row.0 row.1)) rows

abbrev pub with_elements : Names → Page → List Element → Page
with_elements names page [] = page
with_elements names page (element ∷ elements) = with_elements names (with_text (with_text page (32 ∷ [])) (element_text names element)) elements

abbrev pub with_context : Names → Page → List Pat → Page
with_context names page [] = page
with_context names page (pattern ∷ patterns) = with_context names (with_text (with_text page (pattern_text names pattern)) (32 ∷ [])) patterns

abbrev pub with_outputs : Names → Page → List Out → Page
with_outputs names page [] = page
with_outputs names page (output ∷ outputs) = with_outputs names (with_text (with_text page (32 ∷ [])) (output_text names output)) outputs

abbrev pub with_rules : Names → Page → List Rule → Page
with_rules names page [] = page
with_rules names page (rule ∷ rules) = with_rules names (with_text page (rule_text names rule)) rules

-- the lines of groups and of stores that are numbered from `n` on
abbrev pub with_groups : Names → ℕ → Page → List Group → Page
with_groups names n page [] = page
with_groups names n page (group ∷ groups) = with_groups names (n + 1) (with_text page (group_text names (group_called names n) group)) groups

abbrev pub with_stores : Names → ℕ → Page → List Store → Page
with_stores names n page [] = page
with_stores names n page (store ∷ stores) = with_stores names (n + 1) (with_text page (if_called names (unwrap_or (slice_get names.stores n) None) store)) stores

-- keys in brackets, each preceded by a space
abbrev pub with_keys : Page → List (List ℕ) → Page
with_keys page [] = page
with_keys page (key ∷ keys) = with_keys (with_text (with_text (with_text page (codes " [")) key) (93 ∷ [])) keys
