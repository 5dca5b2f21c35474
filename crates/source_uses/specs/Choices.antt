-- The values that conditions compare and that `set` sets.
use Rattle.std.specs.Prelude.{ℕ, Bool, ◌&&◌, if◌then◌else◌, List, [], ◌∷◌, ◌++◌, flat_map}
use Rattle.std.specs.List.{list_any}
use Rattle.std.specs.Str.{bytes_eq, str_to_ascii_lowercase}
use Rattle.rule_model.specs.declared.program.SrcItem.{SrcItem}
use Rattle.rule_model.specs.declared.program.SrcItem.TheVariants as source
use Rattle.rule_model.specs.declared.program.RuleDef.{RuleDef}
use Rattle.rule_model.specs.declared.program.GroupDef.{GroupDef}
use Rattle.rule_model.specs.declared.program.Program.{Program}
use Rattle.source_uses.specs.declared.choices.Choice.{Choice}

-- a value of an option at a line
abbrev pub choice_at : ℕ → List ℕ → List ℕ → Choice
choice_at line option value = record { line = line; option = option; value = value }

-- the value in an item at a line
abbrev pub item_choices : ℕ → SrcItem → List Choice
item_choices line (source.Equal option value) = choice_at line option value ∷ []
item_choices line (source.Unequal option value) = choice_at line option value ∷ []
item_choices line (source.Set option value) = choice_at line option value ∷ []
item_choices line item = []

abbrev pub items_choices : ℕ → List SrcItem → List Choice
items_choices line items = flat_map (item_choices line) items

-- the values that contexts ask for if `asked`, else those that outputs set
abbrev pub rule_choices : Bool → RuleDef → List Choice
rule_choices asked rule = if asked then items_choices rule.line rule.context else items_choices rule.line rule.output

abbrev pub group_choices : Bool → GroupDef → List Choice
group_choices asked group = flat_map (rule_choices asked) group.rules

abbrev pub program_choices : Bool → Program → List Choice
program_choices asked program = flat_map (group_choices asked) program.groups

-- an option in lower case with a value, as a table of values has it
abbrev pub choice_key : List ℕ → List ℕ → List ℕ × List ℕ
choice_key option value = (str_to_ascii_lowercase option, value)

-- whether two of these are the same
abbrev pub same_key : List ℕ × List ℕ → List ℕ × List ℕ → Bool
same_key one other = bytes_eq one.0 other.0 && bytes_eq one.1 other.1

-- whether a value of an option is among others
abbrev pub is_chosen : List (List ℕ × List ℕ) → List ℕ → List ℕ → Bool
is_chosen keys option value = list_any (same_key (choice_key option value)) keys

-- the values of options with another, which goes last if it is new
abbrev pub with_choice : List (List ℕ × List ℕ) → List ℕ → List ℕ → List (List ℕ × List ℕ)
with_choice keys option value = if is_chosen keys option value then keys else keys ++ choice_key option value ∷ []
