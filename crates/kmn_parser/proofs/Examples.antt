-- The texts of two programs, by computation.
use Rattle.std.proofs.Common.{◌≡◌, true, false, [], ◌∷◌, map, None, Some, refl}
use Rattle.std.specs.Prelude.{codes}
use Rattle.std.specs.Fmt.{digits}
use lib.Utf8.{encode}
use Rattle.virtual_keys.specs.Keys.{key_codes, shift_flags}
use Rattle.rule_model.specs.declared.program.SrcItem.TheVariants as source
use Rattle.rule_model.specs.declared.program.RuleKind.TheVariants.{Plain, OnMatch, OnNoMatch}
use Rattle.rule_model.specs.declared.program.Program.{Program}
use Rattle.kmn_parser.specs.Line.{system_stores}
use Rattle.kmn_parser.specs.Printed.{rows}
use Rattle.kmn_parser.specs.Programs.{program_text}

-- one rule
small_program : Program
small_program = record {
  stores = record { line = 1; system = 8; name = []; items = map source.Char (codes "10.0") } ∷ [];
  begins = record { line = 2; unicode = true; group = codes "main" } ∷ [];
  groups = record {
    line = 3;
    name = codes "main";
    using_keys = true;
    rules = record { line = 4; kind = Plain; context = []; key = Some (source.Char 0x61); output = source.Char 0x62 ∷ [] } ∷ [];
  } ∷ [];
}

small_text : program_text small_program
    ≡ rows (codes "store(&version) \"10.0\"" ∷ codes "begin Unicode > use(main)" ∷ codes "group(main) using keys" ∷ codes "+ U+0061 > U+0062" ∷ [])
unfolding small_program program_text system_stores encode
small_text = refl

-- each kind of line, and most items
mixed_program : Program
mixed_program = record {
  stores =
      record { line = 1; system = 0; name = codes "s1"; items = source.Dead (codes "1") ∷ source.Dead (codes "2") ∷ [] }
      ∷ record {
        line = 2;
        system = 0;
        name = codes "k";
        items = source.Char 0x61 ∷ source.Key (record { flags = 0x4010; code = 65; name = [] })
            ∷ source.Key (record { flags = 0x4000; code = 0; name = codes "T_x" }) ∷ [];
      }
      ∷ record { line = 3; system = 1; name = []; items = source.Char 0x61 ∷ [] }
      ∷ record { line = 4; system = 39; name = []; items = source.Key (record { flags = 0x4000; code = 65; name = [] }) ∷ [] }
      ∷ record { line = 5; system = 0; name = codes "U+0041"; items = [] } ∷ [];
  begins = record { line = 6; unicode = true; group = codes "main" } ∷ record { line = 7; unicode = false; group = codes "other" } ∷ [];
  groups =
      record {
        line = 8;
        name = codes "main";
        using_keys = true;
        rules =
            record {
              line = 9;
              kind = Plain;
              context = source.Equal (codes "o") (codes "a\"b") ∷ source.Any (codes "k") ∷ [];
              key = Some (source.Key (record { flags = 0x4001; code = 65; name = [] }));
              output = source.Index (codes "k") 1 ∷ source.Dead (codes "3") ∷ [];
            }
            ∷ record { line = 10; kind = Plain; context = []; key = Some (source.Char 0x1F600); output = source.Nul ∷ [] }
            ∷ record {
              line = 11;
              kind = Plain;
              context = source.SystemEqual 33 (codes "shift") ∷ source.SystemUnequal 31 (codes "ios native") ∷ [];
              key = Some (source.Char 0x62);
              output = source.Char 0x42 ∷ source.SetSystem 33 (codes "default") ∷ [];
            }
            ∷ record { line = 12; kind = OnMatch; context = []; key = None; output = source.Enter (codes "other") ∷ [] }
            ∷ record { line = 13; kind = OnNoMatch; context = []; key = None; output = source.Context ∷ source.Beep ∷ [] } ∷ [];
      }
      ∷ record {
        line = 14;
        name = codes "other";
        using_keys = false;
        rules =
            record {
              line = 15;
              kind = Plain;
              context = source.Char 0x61 ∷ source.ContextAt 1 ∷ [];
              key = None;
              output = source.Set (codes "o") (codes "v") ∷ source.Save (codes "o") ∷ source.Reset (codes "o") ∷ source.Stop ∷ [];
            } ∷ [];
      } ∷ [];
}

mixed_text : program_text mixed_program
    ≡ rows (codes "store(s1) dk(1) dk(2)" ∷ codes "store(k) U+0061 [SHIFT K_A] [T_x]" ∷ codes "store(&bitmap) U+0061"
    ∷ codes "store(&casedkeys) [K_A]" ∷ codes "store(U+0041)"
    ∷ codes "begin Unicode > use(main)" ∷ codes "begin ANSI > use(other)"
    ∷ codes "group(main) using keys" ∷ codes "if(o = 'a\"b') any(k) + [LCTRL K_A] > index(k,1) dk(3)" ∷ codes "+ U+1F600 > nul"
    ∷ codes "if(&layer = \"shift\") if(&platform != \"ios native\") + U+0062 > U+0042 set(&layer = \"default\")"
    ∷ codes "match > use(other)" ∷ codes "nomatch > context beep"
    ∷ codes "group(other)" ∷ codes "U+0061 context(1) > set(o = \"v\") save(o) reset(o) return" ∷ [])
unfolding mixed_program program_text system_stores shift_flags key_codes encode digits
mixed_text = refl
