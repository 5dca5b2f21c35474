-- The summary of the elements of a store: enough for each test of them. There may be far more elements than a source has bytes.
use Rattle.std.specs.Prelude.{◌≡◌, ℕ, Bool, true, false, not, ◌&&◌, ◌||◌, nat_eq, nat_lt, if◌then◌else◌, List, [], ◌∷◌, ◌++◌, length, map, flat_map, take, slice_get, Option, Some, None, is_some}
use Rattle.std.specs.List.{list_any, list_all}
use Rattle.std.specs.Str.{bytes_eq}
use Rattle.kmn_base.specs.declared.items.Element.{Element}
use Rattle.kmn_base.specs.declared.items.Element.TheVariants as element
use Rattle.kmn_base.specs.declared.keys.TheConstants.{VIRTUAL_KEY}
use Rattle.virtual_keys.specs.Dictionary.{place_in, code_in}
use Rattle.rule_model.specs.declared.program.KeyName.{KeyName}
use Rattle.rule_model.specs.declared.program.SrcItem.{SrcItem}
use Rattle.rule_model.specs.declared.program.SrcItem.TheVariants as source
use Rattle.rule_model.specs.declared.program.StoreDef.{StoreDef}
use Rattle.rule_model.specs.declared.tables.Store.{Store}
use Rattle.rule_model.specs.Naming.{SourceNames, is_dropped}
use Rattle.kmx_format.specs.Versions.{file_versions}
use Rattle.item_checker.specs.declared.summaries.Summary.{Summary}
use Rattle.item_checker.specs.declared.summaries.Summaries.{Summaries}
use Rattle.item_checker.specs.declared.summaries.TheConstants.{FRONT_CHARACTERS}
use Rattle.store_table.specs.Known.{Known}
use Rattle.item_checker.specs.Items.{is_far, is_key_element, is_no_plain_key}
use Rattle.rule_model.specs.declared.system.TheConstants.{MNEMONIC_LAYOUT, VERSION}
use Rattle.virtual_keys.specs.declared.dictionary.TheConstants.{FIRST_OWN_CODE}

abbrev pub is_nothing : List Element → Bool
is_nothing [] = true
is_nothing (e ∷ elements) = false

abbrev pub is_mark_element : Element → Bool
is_mark_element (element.Mark mark) = true
is_mark_element other = false

-- whether an element is a character above U+FFFF
abbrev pub is_far_element : Element → Bool
is_far_element (element.Char c) = is_far c
is_far_element other = false

abbrev pub element_characters : Element → List ℕ
element_characters (element.Char c) = c ∷ []
element_characters other = []

abbrev pub front_of : List Element → List ℕ
front_of elements = take FRONT_CHARACTERS (flat_map element_characters elements)

-- the summary of elements, with their first few characters
unfoldable pub summary : List Element → Summary
summary elements =
    record {
      is_empty = is_nothing elements;
      has_mark = list_any is_mark_element elements;
      has_key = list_any is_key_element elements;
      has_far = list_any is_far_element elements;
      has_other = list_any is_no_plain_key elements;
      front = front_of elements;
    }

-- a front with further characters, while it is short enough
abbrev pub with_character : List ℕ → ℕ → List ℕ
with_character front c = if nat_lt (length front) FRONT_CHARACTERS then front ++ c ∷ [] else front

abbrev pub with_characters : List ℕ → List ℕ → List ℕ
with_characters front [] = front
with_characters front (c ∷ characters) = with_characters (with_character front c) characters

-- the summary of elements followed by others
abbrev pub joined : Summary → Summary → Summary
joined one other =
    record {
      is_empty = one.is_empty && other.is_empty;
      has_mark = one.has_mark || other.has_mark;
      has_key = one.has_key || other.has_key;
      has_far = one.has_far || other.has_far;
      has_other = one.has_other || other.has_other;
      front = with_characters one.front other.front;
    }

abbrev pub joined_found : Summary → Option Summary → Summary
joined_found one None = one
joined_found one (Some other) = joined one other

-- the summary of the store with a name
abbrev pub summary_at : List Summary → Option ℕ → Option Summary
summary_at summaries None = None
summary_at summaries (Some place) = slice_get summaries place

abbrev pub found_summary : Summaries → List ℕ → Option Summary
found_summary stores name = summary_at stores.summaries (place_in stores.names name)

-- whether a key of a source is not a plain key; custom keys have no code in a source, and a code from 256 on in a file
abbrev pub is_other_key : KeyName → Bool
is_other_key key = not (nat_eq key.flags VIRTUAL_KEY && (nat_lt 0 key.code && nat_lt key.code FIRST_OWN_CODE))

-- whether the custom key that an item names is among the names
abbrev pub is_found_key : SourceNames → SrcItem → Bool
is_found_key names (source.Key key) = nat_lt 0 key.code || is_some (code_in names.keys key.name)
is_found_key names item = true

abbrev pub are_found_keys : SourceNames → List SrcItem → Bool
are_found_keys names items = list_all (is_found_key names) items

-- a summary with the elements that an item of a store denotes
abbrev pub with_item : Summaries → Summary → SrcItem → Summary
with_item stores sum (source.Char c) =
    record sum { is_empty = false; has_far = sum.has_far || is_far c; has_other = true; front = with_character sum.front c }
with_item stores sum (source.Dead name) = record sum { is_empty = false; has_mark = true; has_other = true }
with_item stores sum (source.Key key) = record sum { is_empty = false; has_key = true; has_other = sum.has_other || is_other_key key }
with_item stores sum (source.Outs name) = joined_found sum (found_summary stores name)
with_item stores sum item = sum

abbrev pub with_items : Summaries → Summary → List SrcItem → Summary
with_items stores sum [] = sum
with_items stores sum (item ∷ items) = with_items stores (with_item stores sum item) items

-- the stores of the file so far, with another statement
abbrev pub with_store : Summaries → StoreDef → Summaries
with_store stores store =
    if is_dropped store then stores
    else record {
      names = stores.names ++ store.name ∷ [];
      summaries = stores.summaries ++ with_items stores (summary []) store.items ∷ [];
    }

abbrev pub with_stores : Summaries → List StoreDef → Summaries
with_stores summaries [] = summaries
with_stores summaries (store ∷ stores) = with_stores (with_store summaries store) stores

abbrev pub no_summaries : Summaries
no_summaries = record { names = []; summaries = [] }

-- summaries are the summaries of stores
pub record AreSummaries (found : Summaries) (stores : List Store) : Type 0 where
  pub names : found.names ≡ map (λ (store : Store). store.name) stores
  pub summaries : found.summaries ≡ map (λ (store : Store). summary store.elements) stores

-- what the code computes is what a program's items are checked with
pub record AreFacts (known : Known) (found : Summaries) (options : List (List ℕ)) : Type 0 where
  pub stores : AreSummaries found known.stores
  pub named : options ≡ known.options

-- the tests of elements, by their summary
abbrev pub is_unfit_summary : Option Summary → Bool
is_unfit_summary None = true
is_unfit_summary (Some sum) = sum.is_empty || (sum.has_mark || sum.has_far)

abbrev pub has_key : Option Summary → Bool
has_key None = false
has_key (Some sum) = sum.has_key

abbrev pub lacks_characters : Summary → Bool
lacks_characters sum = sum.has_mark || sum.has_key

abbrev pub found_lacks_characters : Option Summary → Bool
found_lacks_characters None = false
found_lacks_characters (Some sum) = lacks_characters sum

abbrev pub has_other : Option Summary → Bool
has_other None = false
has_other (Some sum) = sum.has_other

-- whether a front is the front of a text that a system store may have
abbrev pub is_version_front : List ℕ → Bool
is_version_front front = list_any (λ row. bytes_eq row.0 front) file_versions

abbrev pub is_layout_front : List ℕ → Bool
is_layout_front front = bytes_eq (48 ∷ []) front

abbrev pub is_system_front : ℕ → List ℕ → Bool
is_system_front system front =
    if nat_eq system VERSION then is_version_front front
    else (if nat_eq system MNEMONIC_LAYOUT then is_layout_front front else true)
