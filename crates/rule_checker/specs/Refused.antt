-- What a program, and a source, is refused for: the first by pass, then by line, by reading order, and by code.
use Rattle.std.specs.Prelude.{◌≡◌, ℕ, Bool, not, List, [], ◌∷◌, Option, None, Result}
use Rattle.std.specs.List.{list_any}
use Rattle.std.specs.Option.{option_or}
use Rattle.kmn_base.specs.declared.codes.Code.TheVariants.{C01}
use Rattle.kmn_base.specs.declared.refusals.Refusal.{Refusal}
use Rattle.kmn_base.specs.Answers.{and_then}
use Rattle.rule_model.specs.declared.program.Program.{Program}
use Rattle.rule_model.specs.Src.{is_unicode}
use Rattle.kmn_parser.specs.Source.{parsed}
use Rattle.kmn_parser.specs.ProgramLaws.{IsReadProgram}
use Rattle.kmn_parser.specs.SourceLaws.{IsInOrder}
use Rattle.store_table.specs.First.{broken, at_line, or_refusal}
use Rattle.store_table.specs.Names.{names_refusal}
use Rattle.store_table.specs.Numbering.{NameLists, lists_of}
use Rattle.item_checker.specs.Items.{items_refusal}
use Rattle.rule_checker.specs.Limits.{limits_refusal}

-- C01: there is no `begin Unicode`
abbrev pub has_no_start : Program → Bool
has_no_start program = not (list_any is_unicode program.begins)

abbrev pub start_refusal : Program → Option Refusal
start_refusal program = at_line 1 (broken ((C01, has_no_start program) ∷ []))

-- the first refusal of a program: for its start, its names, its items, its limits
unfoldable pub refused : Program → Option Refusal
refused program =
    option_or (start_refusal program)
    (option_or (names_refusal program) (option_or (items_refusal program) (limits_refusal program)))

-- the program of a source, or the source's first refusal over all passes, those of reading first
abbrev pub checked : List ℕ → Result Program Refusal
checked source = and_then (parsed source) (λ program. or_refusal program (refused program))

-- the properties of each program that was read from a source
pub record IsRead (program : Program) : Type 0 where
  pub statements : IsReadProgram program
  pub order : IsInOrder program

-- a program that was read and isn't refused, with its names
pub record IsChecked (program : Program) (names : NameLists) : Type 0 where
  pub read : IsRead program
  pub unrefused : refused program ≡ None
  pub numbered : lists_of program ≡ names
