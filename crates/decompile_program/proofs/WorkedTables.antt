-- The texts of two examples of tables, by computation.
use Rattle.std.proofs.Common.{◌≡◌, true, false, [], ◌∷◌, refl}
use Rattle.std.specs.Prelude.{codes}
use Rattle.std.specs.Fmt.{digits}
use lib.Utf8.{encode}
use Rattle.kmn_base.specs.declared.items.Element.TheVariants as element
use Rattle.kmn_base.specs.declared.keys.RuleKey.TheVariants as key
use Rattle.kmn_base.specs.Names.{same_name}
use Rattle.kmn_lines.specs.Tokens.{in_word, token_size, token_kind, token_fault, begins_forbidden}
use Rattle.virtual_keys.specs.Keys.{key_codes, shift_flags}
use Rattle.rule_model.specs.declared.tables.Pat.TheVariants as pattern
use Rattle.rule_model.specs.declared.tables.Out.TheVariants as output
use Rattle.rule_model.specs.declared.tables.Tables.{Tables}
use Rattle.rule_model.specs.Tab.{tab_dictionary}
use Rattle.kmn_parser.specs.Line.{system_stores}
use Rattle.kmn_parser.specs.Printed.{rows}
use Rattle.kmn_parser.specs.Programs.{program_text}
use Rattle.decompile_program.specs.Marks.{table_marks}
use Rattle.decompile_program.specs.Names.{named_stores, free_names}
use Rattle.decompile_program.specs.Back.{back}

-- one rule
small_tables : Tables
small_tables = record {
  version = 0x0A00;
  start_ansi = 0xFFFF_FFFF;
  start_unicode = 0;
  stores = [];
  groups = record {
    name = codes "main";
    using_keys = true;
    on_match = [];
    on_nomatch = [];
    rules = record { line = 3; place = 0; key = key.Char 97; context = []; output = output.Char 98 ∷ [] } ∷ [];
  } ∷ [];
}

small_text : program_text (back small_tables)
    ≡ rows (codes "store(&version) \"10.0\"" ∷ codes "begin Unicode > use(main)" ∷ codes "group(main) using keys" ∷ codes "+ U+0061 > U+0062" ∷ [])
unfolding small_tables back free_names named_stores table_marks tab_dictionary same_name program_text system_stores encode token_size in_word token_kind token_fault begins_forbidden
small_text = refl

-- an option, a store that is omitted, one whose name isn't kept, a dictionary, a value, a system store, deadkeys, the layer
mixed_tables : Tables
mixed_tables = record {
  version = 0x0900;
  start_ansi = 1;
  start_unicode = 0;
  stores =
      record { system = 0; name = codes "S1"; elements = element.Char 49 ∷ [] }
      ∷ record { system = 0; name = codes "gone"; elements = element.Char 122 ∷ [] }
      ∷ record { system = 0; name = codes "a b"; elements = element.Char 97 ∷ element.Mark 2 ∷ element.Key 0x4010 65 ∷ element.Key 0x4000 256 ∷ [] }
      ∷ record { system = 2; name = []; elements = element.Char 99 ∷ [] }
      ∷ record { system = 34; name = []; elements = element.Char 84 ∷ element.Char 95 ∷ element.Char 120 ∷ [] }
      ∷ record { system = 0; name = []; elements = element.Char 34 ∷ [] }
      ∷ [];
  groups =
      record {
        name = codes "main";
        using_keys = true;
        on_match = output.Enter 1 ∷ [];
        on_nomatch = output.Beep ∷ [];
        rules =
            record { line = 30; place = 0; key = key.Virtual 0x4021 256; context = pattern.Equal 0 5 ∷ pattern.SystemUnequal 33 5 ∷ pattern.Nul ∷ pattern.Any 2 ∷ []; output = output.Index 2 3 ∷ output.Mark 1 ∷ [] }
            ∷ record { line = 20; place = 0; key = key.Char 97; context = []; output = [] }
            ∷ [];
      }
      ∷ record {
        name = codes "MAIN";
        using_keys = false;
        on_match = [];
        on_nomatch = [];
        rules = record { line = 40; place = 0; key = key.Any; context = pattern.Mark 1 ∷ []; output = output.Set 0 5 ∷ output.SetSystem 33 5 ∷ output.Context ∷ [] } ∷ [];
      }
      ∷ [];
}

mixed_text : program_text (back mixed_tables)
    ≡ rows (codes "store(&version) \"9.0\"" ∷ codes "store(s2) dk(1) dk(2)" ∷ codes "store(s3) [T_x]" ∷ codes "store(S1) U+0031" ∷ codes "store(s4) U+0061 dk(2) [SHIFT K_A] [T_x]" ∷ codes "store(&copyright) U+0063"
    ∷ codes "begin Unicode > use(main)" ∷ codes "begin ANSI > use(g1)"
    ∷ codes "group(main) using keys" ∷ codes "if(S1 = '\"') if(&layer != '\"') nul any(s4) + [LCTRL CTRL T_x] > index(s4,3) dk(1)" ∷ codes "+ U+0061 > nul" ∷ codes "match > use(g1)" ∷ codes "nomatch > beep"
    ∷ codes "group(g1)" ∷ codes "dk(1) > set(S1 = '\"') set(&layer = '\"') context" ∷ [])
unfolding mixed_tables back free_names named_stores table_marks tab_dictionary same_name program_text system_stores encode token_size in_word token_kind token_fault begins_forbidden key_codes shift_flags digits
mixed_text = refl
