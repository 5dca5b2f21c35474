-- W11: values that a condition compares and that an option never has.
use Rattle.std.specs.Prelude.{ℕ, nat_eq, Bool, true, false, not, ◌&&◌, if◌then◌else◌, List, [], ◌∷◌, flat_map}
use Rattle.rule_model.specs.declared.program.StoreDef.{StoreDef}
use Rattle.rule_model.specs.declared.program.Program.{Program}
use Rattle.store_table.specs.Names.{is_named}
use Rattle.source_uses.specs.declared.choices.Choice.{Choice}
use Rattle.source_uses.specs.declared.contents.StoreElement.{StoreElement}
use Rattle.source_uses.specs.declared.contents.StoreElement.TheVariants as element
use Rattle.source_uses.specs.declared.contents.Contents.{Contents}
use Rattle.source_uses.specs.declared.used.Part.TheVariants as part
use Rattle.source_uses.specs.declared.used.Role.TheVariants as role
use Rattle.source_uses.specs.Choices.{is_chosen, program_choices, with_choice}
use Rattle.source_uses.specs.Elements.{elements_named}
use Rattle.source_uses.specs.Uses.{names_of, rule_uses}
use Rattle.name_warnings.specs.declared.warning.Warning.{Warning}
use Rattle.name_warnings.specs.declared.warning.WarningKind.TheVariants as kind

-- values of options with further ones
abbrev pub with_choices : List (List ℕ × List ℕ) → List Choice → List (List ℕ × List ℕ)
with_choices given [] = given
with_choices given (choice ∷ choices) = with_choices (with_choice given choice.option choice.value) choices

-- the characters among elements; an option has no others
abbrev pub element_characters : StoreElement → List ℕ
element_characters (element.Char c) = c ∷ []
element_characters other = []

abbrev pub characters : List StoreElement → List ℕ
characters elements = flat_map element_characters elements

-- values of options with those of the stores that are options
abbrev pub with_own_value : Contents → List (List ℕ) → List (List ℕ × List ℕ) → StoreDef → List (List ℕ × List ℕ)
with_own_value contents options given store =
    if nat_eq store.system 0 && is_named options store.name
    then with_choice given store.name (characters (elements_named contents store.name))
    else given

abbrev pub with_own_values : Contents → List (List ℕ) → List (List ℕ × List ℕ) → List StoreDef → List (List ℕ × List ℕ)
with_own_values contents options given [] = given
with_own_values contents options given (store ∷ stores) =
    with_own_values contents options (with_own_value contents options given store) stores

-- the values that options have at times: those that statements set, and those of their stores
abbrev pub given_values : Contents → List (List ℕ) → Program → List (List ℕ × List ℕ)
given_values contents options program =
    with_own_values contents options (with_choices [] (program_choices false program)) program.stores

-- whether a value is not given to its option, which statements set and other programs do not know
abbrev pub is_doubtful : List (List ℕ) → List (List ℕ) → List (List ℕ × List ℕ) → Choice → Bool
is_doubtful options others given choice =
    is_named options choice.option && (not (is_named others choice.option) && not (is_chosen given choice.option choice.value))

abbrev pub value_warning : Choice → Warning
value_warning choice = record { line = choice.line; kind = kind.ValueNeverSet choice.option choice.value }

-- a note at the first of each of these values that is doubtful
abbrev pub never_given : List (List ℕ) → List (List ℕ) → List (List ℕ × List ℕ) → List Choice → List Warning
never_given options others given [] = []
never_given options others given (choice ∷ choices) =
    if is_doubtful options others given choice
    then value_warning choice ∷ never_given options others (with_choice given choice.option choice.value) choices
    else never_given options others given choices

-- the options that statements set
abbrev pub set_names : Program → List (List ℕ)
set_names program = names_of (rule_uses role.Set part.Whole program)

-- W11: values that conditions compare and that their options, which statements set, never have
abbrev pub values_never_set : Contents → Program → List (List ℕ) → List Warning
values_never_set contents program aside =
    never_given (set_names program) aside (given_values contents (set_names program) program) (program_choices true program)
