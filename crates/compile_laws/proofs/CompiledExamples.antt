-- A program with each kind of number, and the stores and records that it compiles to, by computation.
use Rattle.std.proofs.Common.{◌≡◌, ℕ, zero, suc, true, List, [], ◌∷◌, map, Some, refl, arith}
use Rattle.std.specs.Prelude.{codes}
use Rattle.std.specs.List.Sorted.{IsSortedBy}
use Rattle.std.specs.Str.{chars}
use Rattle.kmn_base.specs.declared.items.Element.TheVariants as element
use Rattle.kmn_base.specs.declared.keys.RuleKey.TheVariants as key
use Rattle.kmn_base.specs.Names.{same_name}
use Rattle.virtual_keys.specs.Dictionary.{code_in}
use Rattle.rule_model.specs.declared.program.SrcItem.{SrcItem}
use Rattle.rule_model.specs.declared.program.SrcItem.TheVariants as source
use Rattle.rule_model.specs.declared.program.RuleKind.TheVariants.{Plain}
use Rattle.rule_model.specs.declared.program.StoreDef.{StoreDef}
use Rattle.rule_model.specs.declared.program.GroupDef.{GroupDef}
use Rattle.rule_model.specs.declared.program.Program.{Program}
use Rattle.rule_model.specs.declared.tables.Pat.TheVariants as pattern
use Rattle.rule_model.specs.declared.tables.Out.TheVariants as output
use Rattle.rule_model.specs.declared.tables.Rule.{Rule}
use Rattle.rule_model.specs.Naming.{names_of, stores_of}
use Rattle.rule_model.specs.Src.{cased_keys}
use Rattle.compile_laws.specs.Numbers.{values_of, numbers_of, compiled_stores}
use Rattle.compile_laws.specs.Compiles.{file_group, precedes}

abbrev pub letters : List ℕ → List SrcItem
letters text = map source.Char text

abbrev pub store : ℕ → List ℕ → List SrcItem → StoreDef
store line name items = record { line = line; system = 0; name = name; items = items }

-- a group with a key store whose element is put, a deadkey, an `outs`, a key of the dictionary and a value
abbrev pub main_group : GroupDef
main_group =
    record {
      line = 5;
      name = codes "main";
      using_keys = true;
      rules =
          record { line = 6; kind = Plain; context = []; key = Some (source.Any (codes "k")); output = source.Index (codes "o") 1 ∷ source.Dead (codes "d") ∷ [] }
          ∷ record {
            line = 7;
            kind = Plain;
            context = source.Char 97 ∷ [];
            key = Some (source.Key (record { flags = 0x4000; code = 0; name = codes "T_z" }));
            output = source.Outs (codes "o") ∷ source.Set (codes "q") (codes "1") ∷ [];
          } ∷ [];
    }

abbrev pub numbered : Program
numbered =
    record {
      stores = store 1 (codes "k") (letters (codes "ab")) ∷ store 2 (codes "o") (letters (codes "xy")) ∷ store 3 (codes "q") (letters (codes "0")) ∷ [];
      begins = record { line = 4; unicode = true; group = codes "main" } ∷ [];
      groups = main_group ∷ [];
    }

-- the stores of the statements, the key dictionary, and the store of the value
stores_numbered : compiled_stores numbered
    ≡ record { system = 0; name = codes "k"; elements = map element.Char (codes "ab") }
    ∷ record { system = 0; name = codes "o"; elements = map element.Char (codes "xy") }
    ∷ record { system = 0; name = codes "q"; elements = map element.Char (codes "0") }
    ∷ record { system = 34; name = []; elements = map element.Char (codes "T_z") }
    ∷ record { system = 0; name = []; elements = map element.Char (codes "1") }
    ∷ []
unfolding names_of stores_of values_of same_name chars
stores_numbered = refl

abbrev pub of_a : Rule
of_a = record { line = 6; place = 0; key = key.Char 97; context = []; output = output.Char 120 ∷ output.Mark 1 ∷ [] }

abbrev pub of_b : Rule
of_b = record { line = 6; place = 2; key = key.Char 98; context = []; output = output.Char 121 ∷ output.Mark 1 ∷ [] }

abbrev pub of_z : Rule
of_z =
    record {
      line = 7;
      place = 0;
      key = key.Virtual 0x4000 256;
      context = pattern.Char 97 ∷ [];
      output = output.Char 120 ∷ output.Char 121 ∷ output.Set 2 4 ∷ [];
    }

-- a record for each element of the key store, with the element that `index` puts at its position
records_numbered : (file_group (numbers_of numbered) main_group).rules ≡ of_a ∷ of_b ∷ of_z ∷ []
unfolding names_of stores_of values_of same_name code_in cased_keys
records_numbered = refl

-- the longer context is first, and the elements of a key store are in their order
order_numbered : IsSortedBy precedes (of_z ∷ of_a ∷ of_b ∷ [])
order_numbered zero d low less = refl
order_numbered (suc zero) d low less = refl
order_numbered (suc (suc k)) d low less = absurd (omega arith)
