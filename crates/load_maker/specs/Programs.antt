-- The program that the source of a load states.
use Rattle.std.specs.Prelude.{◌≡◌, ℕ, zero, suc, ◌+◌, true, List, [], ◌∷◌, codes, Some}
use Rattle.rule_model.specs.declared.program.SrcItem.{SrcItem}
use Rattle.rule_model.specs.declared.program.SrcItem.TheVariants as source
use Rattle.rule_model.specs.declared.program.RuleKind.TheVariants.{Plain}
use Rattle.rule_model.specs.declared.program.RuleDef.{RuleDef}
use Rattle.rule_model.specs.declared.program.Program.{Program}
use Rattle.rule_model.specs.Src.{src}
use Rattle.load_maker.specs.declared.load.TheConstants.{FIRST}
use Rattle.load_maker.specs.Keyboards.{load_keyboard}

abbrev pub source_a : SrcItem
source_a = source.Key (record { flags = 0x4000; code = 65; name = [] })

-- the first rule, in line 3, and the rules after it
abbrev pub rule_def : ℕ → RuleDef
rule_def zero = record { line = 3; kind = Plain; context = []; key = Some source_a; output = source.Char FIRST ∷ [] }
rule_def (suc i) = record { line = i + 4; kind = Plain; context = source.Char (FIRST + i) ∷ []; key = Some source_a; output = source.Char (FIRST + suc i) ∷ [] }

-- `count` rules from the rule of a number on
abbrev pub rule_defs : ℕ → ℕ → List RuleDef
rule_defs i zero = []
rule_defs i (suc count) = rule_def i ∷ rule_defs (suc i) count

-- the begin statement, and the group with the first rule and `n` rules after it
abbrev pub load_program : ℕ → Program
load_program n =
    record {
      stores = [];
      begins = record { line = 1; unicode = true; group = codes "main" } ∷ [];
      groups = record { line = 2; name = codes "main"; using_keys = true; rules = rule_defs 0 (suc n) } ∷ [];
    }

-- the program of a load means its keyboard
abbrev pub ProgramsMean : Type 0
ProgramsMean = (n : ℕ) → src (load_program n) ≡ load_keyboard n
