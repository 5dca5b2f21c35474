-- Two files whose bytes were worked out by hand, and their tables.
use Rattle.std.specs.Prelude.{◌≡◌, ℕ, true, List, [], ◌∷◌}
use Rattle.kmn_base.specs.declared.items.Element.TheVariants as element
use Rattle.kmn_base.specs.declared.keys.RuleKey.{RuleKey}
use Rattle.kmn_base.specs.declared.keys.RuleKey.TheVariants as key
use Rattle.rule_model.specs.declared.system.TheConstants.{NO_GROUP}
use Rattle.rule_model.specs.declared.tables.Out.TheVariants as output
use Rattle.rule_model.specs.declared.tables.Rule.{Rule}
use Rattle.rule_model.specs.declared.tables.Store.{Store}
use Rattle.rule_model.specs.declared.tables.Tables.{Tables}
use Rattle.kmx_format.specs.File.{file_of}

-- a rule without context that outputs one character
abbrev pub plain_rule : ℕ → RuleKey → ℕ → Rule
plain_rule line k c = record { line = line; place = 0; key = k; context = []; output = output.Char c ∷ [] }

-- tables of version 10.0 with one group, which is called main and uses keys
abbrev pub main_tables : List Store → List Rule → Tables
main_tables stores rules = record {
  version = 0x0A00;
  start_ansi = NO_GROUP;
  start_unicode = 0;
  stores = stores;
  groups = record { name = 0x6D ∷ 0x61 ∷ 0x69 ∷ 0x6E ∷ []; using_keys = true; rules = rules; on_match = []; on_nomatch = [] } ∷ [];
}

-- in line 3, a rule with the character a as its key that outputs b
abbrev pub one_rule : Tables
one_rule = main_tables [] (plain_rule 3 (key.Char 0x61) 0x62 ∷ [])

-- a store k of two virtual keys, a store o of x and y, and in line 5 a record for each key
abbrev pub two_keys : Tables
two_keys = main_tables
    (record { system = 0; name = 0x6B ∷ []; elements = element.Key 0x4000 0x41 ∷ element.Key 0x4010 0x41 ∷ [] }
    ∷ record { system = 0; name = 0x6F ∷ []; elements = element.Char 0x78 ∷ element.Char 0x79 ∷ [] } ∷ [])
    (plain_rule 5 (key.Virtual 0x4000 0x41) 0x78 ∷ plain_rule 5 (key.Virtual 0x4010 0x41) 0x79 ∷ [])

-- header, group main, the record, and the strings main and b
abbrev pub one_rule_bytes : List ℕ
one_rule_bytes =
    0x4B ∷ 0x58 ∷ 0x54 ∷ 0x53 ∷ 0 ∷ 0x0A ∷ 0 ∷ 0 ∷ 0 ∷ 0 ∷ 0 ∷ 0 ∷ 0 ∷ 0 ∷ 0 ∷ 0 ∷ 0 ∷ 0 ∷ 0 ∷ 0 ∷ 0 ∷ 0 ∷ 0 ∷ 0 ∷ 0 ∷ 0 ∷ 0 ∷ 0 ∷ 1 ∷ 0 ∷ 0 ∷ 0
    ∷ 0 ∷ 0 ∷ 0 ∷ 0 ∷ 0x40 ∷ 0 ∷ 0 ∷ 0 ∷ 0xFF ∷ 0xFF ∷ 0xFF ∷ 0xFF ∷ 0 ∷ 0 ∷ 0 ∷ 0 ∷ 0 ∷ 0 ∷ 0 ∷ 0 ∷ 0 ∷ 0 ∷ 0 ∷ 0 ∷ 0 ∷ 0 ∷ 0 ∷ 0 ∷ 0 ∷ 0 ∷ 0 ∷ 0
    ∷ 0x6C ∷ 0 ∷ 0 ∷ 0 ∷ 0x58 ∷ 0 ∷ 0 ∷ 0 ∷ 0 ∷ 0 ∷ 0 ∷ 0 ∷ 0 ∷ 0 ∷ 0 ∷ 0 ∷ 1 ∷ 0 ∷ 0 ∷ 0 ∷ 1 ∷ 0 ∷ 0 ∷ 0
    ∷ 0x61 ∷ 0 ∷ 0 ∷ 0 ∷ 3 ∷ 0 ∷ 0 ∷ 0 ∷ 0 ∷ 0 ∷ 0 ∷ 0 ∷ 0x76 ∷ 0 ∷ 0 ∷ 0 ∷ 0 ∷ 0 ∷ 0 ∷ 0
    ∷ 0x6D ∷ 0 ∷ 0x61 ∷ 0 ∷ 0x69 ∷ 0 ∷ 0x6E ∷ 0 ∷ 0 ∷ 0 ∷ 0x62 ∷ 0 ∷ 0 ∷ 0 ∷ []

-- header, stores k and o, group main, two records, and the strings of the stores, of the group and of the records
abbrev pub two_keys_bytes : List ℕ
two_keys_bytes =
    0x4B ∷ 0x58 ∷ 0x54 ∷ 0x53 ∷ 0x00 ∷ 0x0A ∷ 0x00 ∷ 0x00 ∷ 0 ∷ 0 ∷ 0 ∷ 0 ∷ 0 ∷ 0 ∷ 0 ∷ 0 ∷ 0 ∷ 0 ∷ 0 ∷ 0 ∷ 0 ∷ 0 ∷ 0 ∷ 0 ∷ 2 ∷ 0 ∷ 0 ∷ 0 ∷ 1 ∷ 0 ∷ 0 ∷ 0
    ∷ 0x40 ∷ 0 ∷ 0 ∷ 0 ∷ 0x58 ∷ 0 ∷ 0 ∷ 0 ∷ 0xFF ∷ 0xFF ∷ 0xFF ∷ 0xFF ∷ 0 ∷ 0 ∷ 0 ∷ 0 ∷ 0 ∷ 0 ∷ 0 ∷ 0 ∷ 0 ∷ 0 ∷ 0 ∷ 0 ∷ 0 ∷ 0 ∷ 0 ∷ 0 ∷ 0 ∷ 0 ∷ 0 ∷ 0
    ∷ 0 ∷ 0 ∷ 0 ∷ 0 ∷ 0x98 ∷ 0 ∷ 0 ∷ 0 ∷ 0x9C ∷ 0 ∷ 0 ∷ 0
    ∷ 0 ∷ 0 ∷ 0 ∷ 0 ∷ 0xB2 ∷ 0 ∷ 0 ∷ 0 ∷ 0xB6 ∷ 0 ∷ 0 ∷ 0
    ∷ 0xBC ∷ 0 ∷ 0 ∷ 0 ∷ 0x70 ∷ 0 ∷ 0 ∷ 0 ∷ 0 ∷ 0 ∷ 0 ∷ 0 ∷ 0 ∷ 0 ∷ 0 ∷ 0 ∷ 2 ∷ 0 ∷ 0 ∷ 0 ∷ 1 ∷ 0 ∷ 0 ∷ 0
    ∷ 0x41 ∷ 0 ∷ 0 ∷ 0 ∷ 5 ∷ 0 ∷ 0 ∷ 0 ∷ 0x00 ∷ 0x40 ∷ 0 ∷ 0 ∷ 0xC6 ∷ 0 ∷ 0 ∷ 0 ∷ 0 ∷ 0 ∷ 0 ∷ 0
    ∷ 0x41 ∷ 0 ∷ 0 ∷ 0 ∷ 5 ∷ 0 ∷ 0 ∷ 0 ∷ 0x10 ∷ 0x40 ∷ 0 ∷ 0 ∷ 0xCA ∷ 0 ∷ 0 ∷ 0 ∷ 0 ∷ 0 ∷ 0 ∷ 0
    ∷ 0x6B ∷ 0 ∷ 0 ∷ 0
    ∷ 0xFF ∷ 0xFF ∷ 0x0A ∷ 0 ∷ 0x00 ∷ 0x40 ∷ 0x41 ∷ 0 ∷ 0x10 ∷ 0 ∷ 0xFF ∷ 0xFF ∷ 0x0A ∷ 0 ∷ 0x10 ∷ 0x40 ∷ 0x41 ∷ 0 ∷ 0x10 ∷ 0 ∷ 0 ∷ 0
    ∷ 0x6F ∷ 0 ∷ 0 ∷ 0 ∷ 0x78 ∷ 0 ∷ 0x79 ∷ 0 ∷ 0 ∷ 0
    ∷ 0x6D ∷ 0 ∷ 0x61 ∷ 0 ∷ 0x69 ∷ 0 ∷ 0x6E ∷ 0 ∷ 0 ∷ 0 ∷ 0x78 ∷ 0 ∷ 0 ∷ 0 ∷ 0x79 ∷ 0 ∷ 0 ∷ 0 ∷ []

-- the definition of a file has these bytes
pub record AreWorkedFiles : Type 0 where
  pub of_one_rule : file_of one_rule [] ≡ one_rule_bytes
  pub of_two_keys : file_of two_keys [] ≡ two_keys_bytes
