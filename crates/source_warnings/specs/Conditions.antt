-- W09: rules whose conditions are never true together.
use Rattle.std.specs.Prelude.{ℕ, nat_eq, Bool, false, not, ◌&&◌, if◌then◌else◌, List, [], ◌∷◌, flat_map}
use Rattle.std.specs.List.{list_any}
use Rattle.std.specs.Str.{bytes_eq}
use Rattle.kmn_base.specs.Names.{same_name}
use Rattle.rule_model.specs.declared.program.SrcItem.{SrcItem}
use Rattle.rule_model.specs.declared.program.SrcItem.TheVariants as source
use Rattle.rule_model.specs.declared.program.RuleDef.{RuleDef}
use Rattle.rule_model.specs.declared.program.GroupDef.{GroupDef}
use Rattle.rule_model.specs.declared.system.TheConstants.{PLATFORM}
use Rattle.name_warnings.specs.declared.warning.Warning.{Warning}
use Rattle.name_warnings.specs.declared.warning.WarningKind.TheVariants as kind

-- whether an item is never true if an option has a value
abbrev pub option_contradicts : List ℕ → List ℕ → SrcItem → Bool
option_contradicts option value (source.Equal name other) = same_name option name && not (bytes_eq value other)
option_contradicts option value (source.Unequal name other) = same_name option name && bytes_eq value other
option_contradicts option value item = false

-- whether an item is never true if a system option has a value; the platform may have several values
abbrev pub system_contradicts : ℕ → List ℕ → SrcItem → Bool
system_contradicts id value (source.SystemEqual other_id other) =
    not (nat_eq id PLATFORM) && (nat_eq id other_id && not (bytes_eq value other))
system_contradicts id value (source.SystemUnequal other_id other) = nat_eq id other_id && bytes_eq value other
system_contradicts id value item = false

-- whether an item requires a value, and another item is never true then
abbrev pub contradicts : SrcItem → SrcItem → Bool
contradicts (source.Equal option value) other = option_contradicts option value other
contradicts (source.SystemEqual id value) other = system_contradicts id value other
contradicts item other = false

abbrev pub has_contradiction : List SrcItem → Bool
has_contradiction context = list_any (λ (item : SrcItem). list_any (contradicts item) context) context

-- W09: rules with two conditions that are never true together
abbrev pub rule_contradiction : RuleDef → List Warning
rule_contradiction rule =
    if has_contradiction rule.context then record { line = rule.line; kind = kind.ContradictoryConditions } ∷ [] else []

abbrev pub group_contradictions : GroupDef → List Warning
group_contradictions group = flat_map rule_contradiction group.rules

abbrev pub contradictions : List GroupDef → List Warning
contradictions groups = flat_map group_contradictions groups
