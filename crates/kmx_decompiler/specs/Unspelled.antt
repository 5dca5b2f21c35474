-- The reason why a file has no text: the order of its records, else the least place of a cause, else what is too large.
use Rattle.std.specs.Prelude.{ℕ, ◌+◌, nat_lt, if◌then◌else◌, List, [], ◌∷◌, length, Option, Some, None, option_map}
use Rattle.std.specs.Option.{option_or}
use Rattle.rule_model.specs.declared.tables.Rule.{Rule}
use Rattle.rule_model.specs.declared.tables.Group.{Group}
use Rattle.kmx_format.specs.TablesOf.{tables_of}
use Rattle.decompile_program.specs.Back.{back}
use Rattle.kmx_decompiler.specs.declared.no_spelling.NoSpelling.{NoSpelling}
use Rattle.kmx_decompiler.specs.declared.no_spelling.NoSpelling.TheVariants.{Order, Unspelled}
use Rattle.kmx_decompiler.specs.Places.{cause_places, least}
use Rattle.kmx_decompiler.specs.Excess.{excess}

-- the number of the first record whose context is longer than the context before it; `before` is the length before the first record
abbrev pub longer_behind : ℕ → ℕ → List Rule → Option ℕ
longer_behind n before [] = None
longer_behind n before (rule ∷ rules) =
    if nat_lt before (length rule.context) then Some n else longer_behind (n + 1) (length rule.context) rules

-- the number of the first record of a group with a longer context than the record before it; the records are counted from 0
abbrev pub first_longer : List Rule → Option ℕ
first_longer [] = None
first_longer (rule ∷ rules) = longer_behind 1 (length rule.context) rules

-- the refusal of the first such record of all groups, which are numbered from `g` on
abbrev pub disorder : ℕ → List Group → Option NoSpelling
disorder g [] = None
disorder g (group ∷ groups) = option_or (option_map (λ rule. Order g rule) (first_longer group.rules)) (disorder (g + 1) groups)

-- the reason why a file has no text, or None if it has one
unfoldable pub unspelled : List ℕ → Option NoSpelling
unspelled bytes =
    option_or (disorder 0 (tables_of bytes).groups)
    (option_or (option_map Unspelled (least (cause_places bytes))) (excess (back (tables_of bytes))))
