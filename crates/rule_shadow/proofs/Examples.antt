-- What is found for the records of small groups, by computation.
use Rattle.std.proofs.Common.{◌≡◌, ℕ, List, [], ◌∷◌, true, refl}
use Rattle.kmn_base.specs.declared.items.Element.{Element}
use Rattle.kmn_base.specs.declared.items.Element.TheVariants as element
use Rattle.kmn_base.specs.declared.keys.RuleKey.{RuleKey}
use Rattle.kmn_base.specs.declared.keys.RuleKey.TheVariants as key
use Rattle.virtual_keys.specs.Fits.{char_of_press, key_fits}
use Rattle.virtual_keys.specs.Keys.{us_characters, key_codes}
use Rattle.rule_model.specs.declared.tables.Pat.{Pat}
use Rattle.rule_model.specs.declared.tables.Pat.TheVariants as pattern
use Rattle.rule_model.specs.declared.tables.Out.TheVariants as output
use Rattle.rule_model.specs.declared.tables.Rule.{Rule}
use Rattle.rule_model.specs.declared.tables.Store.{Store}
use Rattle.rule_model.specs.declared.tables.Group.{Group}
use Rattle.rule_model.specs.declared.tables.Tables.{Tables}
use Rattle.rule_model.specs.Tab.{tab, tab_options, tab_dictionary}
use Rattle.rule_shadow.specs.declared.finding.Found.{Found}
use Rattle.rule_shadow.specs.declared.finding.Found.TheVariants as found
use Rattle.rule_shadow.specs.Keys.{all_modifiers, all_codes}
use Rattle.rule_shadow.specs.Finding.{found_for}

abbrev rule_of : ℕ → RuleKey → List Pat → Rule
rule_of line k context = record { line = line; place = 0; key = k; context = context; output = output.Char 120 ∷ [] }

abbrev group_of : List Rule → Group
group_of rules = record { name = []; using_keys = true; rules = rules; on_match = []; on_nomatch = [] }

abbrev stores_of : List (List Element) → List Store
stores_of [] = []
stores_of (elements ∷ more) = record { system = 0; name = []; elements = elements } ∷ stores_of more

abbrev tables_of : List (List Element) → List Rule → Tables
tables_of stores rules =
    record {
      version = 0x0A00;
      start_ansi = 0xFFFF_FFFF;
      start_unicode = 0;
      stores = stores_of stores;
      groups = group_of rules ∷ [];
    }

abbrev finds : List (List Element) → List Rule → ℕ → Rule → Found
finds stores rules number r = found_for (tables_of stores rules) (group_of rules) number r

-- `a`, then K_A without shift, which produces `A` under caps lock
caps_lock_escapes :
    finds [] (rule_of 3 (key.Char 97) [] ∷ rule_of 4 (key.Virtual 0x4000 65) [] ∷ []) 1 (rule_of 4 (key.Virtual 0x4000 65) []) ≡ found.NotFound
unfolding tab tab_options tab_dictionary char_of_press key_fits us_characters key_codes all_modifiers all_codes
caps_lock_escapes = refl

-- with NCAPS, K_A is covered
no_caps_is_covered :
    finds [] (rule_of 3 (key.Char 97) [] ∷ rule_of 4 (key.Virtual 0x4200 65) [] ∷ []) 1 (rule_of 4 (key.Virtual 0x4200 65) []) ≡ found.ByRule 0
unfolding tab tab_options tab_dictionary char_of_press key_fits us_characters key_codes all_modifiers all_codes
no_caps_is_covered = refl

-- an `any` with a record for each of its items
abbrev vowels : List (List Element)
vowels = (element.Char 97 ∷ element.Char 101 ∷ []) ∷ []

any_is_split :
    finds vowels (rule_of 4 (key.Char 49) (pattern.Char 97 ∷ []) ∷ rule_of 5 (key.Char 49) (pattern.Char 101 ∷ []) ∷ rule_of 6 (key.Char 49) (pattern.Any 0 ∷ []) ∷ []) 2 (rule_of 6 (key.Char 49) (pattern.Any 0 ∷ []))
    ≡ found.SplitAt 0 (0 ∷ 1 ∷ [])
unfolding tab tab_options tab_dictionary char_of_press key_fits us_characters key_codes all_modifiers all_codes
any_is_split = refl
