-- The definition of a file has the bytes that were worked out by hand.
use Rattle.std.proofs.Common.{◌≢◌, ℕ, ◌^◌, ◌<◌, true, List, [], ◌∷◌, refl, arith, lit<, lit≤, inr}
use Rattle.std.specs.List.{All}
use Rattle.std.specs.Str.{chars}
use Rattle.std.proofs.lemmas.List.Elements.{All-nil, All-from_recursion}
use Rattle.kmn_base.specs.declared.items.Element.TheVariants as element
use Rattle.kmn_base.specs.declared.keys.RuleKey.{RuleKey}
use Rattle.kmn_base.specs.declared.keys.RuleKey.TheVariants as key
use Rattle.kmn_base.specs.declared.units.UnitItem.TheVariants as spelled
use Rattle.kmn_base.specs.Spelling.{IsSpellable}
use Rattle.rule_model.specs.declared.tables.Out.TheVariants as output
use Rattle.rule_model.specs.declared.tables.Rule.{Rule}
use Rattle.kmx_format.specs.FileUnits.{unit_item_of_element, item_units, name_units}
use Rattle.kmx_format.specs.File.{half, word, string, file_of}
use Rattle.kmx_format.specs.Writable.{PointsInto, IsWritableStore, IsWritableKey, IsWritableRule, IsWritableGroup, IsWritable}
use Rattle.kmx_format.proofs.WritableParts.{writable_name, no_context, characters_output, no_output}
use Rattle.kmx_format.specs.WorkedFiles.{plain_rule, one_rule, two_keys, AreWorkedFiles}

module _ (stores : ℕ) where
  writable_rule : (line : ℕ) (k : RuleKey) (c : ℕ) → line < 2 ^ 32 → IsWritableKey true k → IsSpellable (spelled.Char c) → IsWritableRule stores 1 true (plain_rule line k c)
  writable_rule line k c fits known spellable = record {
    line = fits;
    key = known;
    context = no_context stores 1;
    output = characters_output stores 1 (c ∷ []) (All-from_recursion (λ d. IsSpellable (spelled.Char d)) (c ∷ []) (spellable, tt)) (lit≤ tt);
    offsets = All-from_recursion (PointsInto []) (output.Char c ∷ []) (tt, tt);
  }

  writable_group : (rules : List Rule) → All (IsWritableRule stores 1 true) rules
      → IsWritableGroup stores 1 (record { name = 0x6D ∷ 0x61 ∷ 0x69 ∷ 0x6E ∷ []; using_keys = true; rules = rules; on_match = []; on_nomatch = [] })
  writable_group rules writable = record {
    name = writable_name (0x6D ∷ 0x61 ∷ 0x69 ∷ 0x6E ∷ [])
        (All-from_recursion (λ c. (c ≢ 0) × (c < 128)) (0x6D ∷ 0x61 ∷ 0x69 ∷ 0x6E ∷ []) ((omega arith, lit< tt), ((omega arith, lit< tt), ((omega arith, lit< tt), ((omega arith, lit< tt), tt)))))
        (lit≤ tt);
    rules = writable;
    on_match = no_output stores 1;
    on_nomatch = no_output stores 1;
  }

pub one_rule_is_writable : IsWritable one_rule
one_rule_is_writable = record {
  version = refl;
  start_unicode = lit< tt;
  start_ansi = inr refl;
  stores = All-nil IsWritableStore;
  groups = All-from_recursion (IsWritableGroup 0 1) one_rule.groups (
    writable_group 0 (plain_rule 3 (key.Char 0x61) 0x62 ∷ [])
        (All-from_recursion (IsWritableRule 0 1 true) (plain_rule 3 (key.Char 0x61) 0x62 ∷ [])
        (writable_rule 0 3 (key.Char 0x61) 0x62 (lit< tt) (lit< tt) (refl, omega arith, omega arith), tt)),
    tt,
  );
  store_count = lit≤ tt;
  group_count = lit≤ tt;
  rule_count = lit≤ tt;
  element_count = lit≤ tt;
}

store_k : IsWritableStore (record { system = 0; name = 0x6B ∷ []; elements = element.Key 0x4000 0x41 ∷ element.Key 0x4010 0x41 ∷ [] })
store_k = record {
  system = lit< tt;
  name = writable_name (0x6B ∷ []) (All-from_recursion (λ c. (c ≢ 0) × (c < 128)) (0x6B ∷ []) ((omega arith, lit< tt), tt)) (lit≤ tt);
  elements = All-from_recursion (λ e. IsSpellable (unit_item_of_element e)) (element.Key 0x4000 0x41 ∷ element.Key 0x4010 0x41 ∷ [])
      (((lit< tt, lit< tt), (lit< tt, lit< tt)), (((lit< tt, lit< tt), (lit< tt, lit< tt)), tt));
  element_count = lit≤ tt;
}

store_o : IsWritableStore (record { system = 0; name = 0x6F ∷ []; elements = element.Char 0x78 ∷ element.Char 0x79 ∷ [] })
store_o = record {
  system = lit< tt;
  name = writable_name (0x6F ∷ []) (All-from_recursion (λ c. (c ≢ 0) × (c < 128)) (0x6F ∷ []) ((omega arith, lit< tt), tt)) (lit≤ tt);
  elements = All-from_recursion (λ e. IsSpellable (unit_item_of_element e)) (element.Char 0x78 ∷ element.Char 0x79 ∷ [])
      ((refl, omega arith, omega arith), ((refl, omega arith, omega arith), tt));
  element_count = lit≤ tt;
}

pub two_keys_is_writable : IsWritable two_keys
two_keys_is_writable = record {
  version = refl;
  start_unicode = lit< tt;
  start_ansi = inr refl;
  stores = All-from_recursion IsWritableStore two_keys.stores (store_k, (store_o, tt));
  groups = All-from_recursion (IsWritableGroup 2 1) two_keys.groups (
    writable_group 2 (plain_rule 5 (key.Virtual 0x4000 0x41) 0x78 ∷ plain_rule 5 (key.Virtual 0x4010 0x41) 0x79 ∷ [])
        (All-from_recursion (IsWritableRule 2 1 true) (plain_rule 5 (key.Virtual 0x4000 0x41) 0x78 ∷ plain_rule 5 (key.Virtual 0x4010 0x41) 0x79 ∷ []) (
          writable_rule 2 5 (key.Virtual 0x4000 0x41) 0x78 (lit< tt) (omega arith, refl, lit< tt) (refl, omega arith, omega arith),
          (writable_rule 2 5 (key.Virtual 0x4010 0x41) 0x79 (lit< tt) (omega arith, refl, lit< tt) (refl, omega arith, omega arith), tt),
        )),
    tt,
  );
  store_count = lit≤ tt;
  group_count = lit≤ tt;
  rule_count = lit≤ tt;
  element_count = lit≤ tt;
}

-- computed
pub worked_files : AreWorkedFiles
unfolding file_of half word string item_units name_units chars
worked_files = record { of_one_rule = refl; of_two_keys = refl }
