-- The items of a context that are read from a string are the patterns that are read from it.
use Rattle.std.proofs.Common.{◌≡◌, List, [], ◌∷◌, map, refl, ap, ◌∙◌}
use Rattle.std.specs.Prelude.{Option, Some, None, option_map}
use Rattle.std.specs.List.{cons_option, filter_map}
use Rattle.kmn_base.specs.declared.units.UnitItem.{UnitItem}
use Rattle.rule_model.specs.declared.tables.Pat.{Pat}
use Rattle.rule_model.specs.declared.tables.Pat.TheVariants as pattern
use Rattle.kmx_format.specs.TablesOf.{pattern_of_unit_item}
use Rattle.kmx_parts.specs.declared.context_item.ContextItem.{ContextItem}
use Rattle.kmx_parts.specs.ContextItems.{pattern_of, item_of, item_of_unit_item}

pattern_again : (p : Pat) → pattern_of (item_of p) ≡ p
pattern_again (pattern.Char c) = refl
pattern_again (pattern.Mark m) = refl
pattern_again (pattern.Any store) = refl
pattern_again (pattern.NotAny store) = refl
pattern_again (pattern.Index store offset) = refl
pattern_again (pattern.ContextAt offset) = refl
pattern_again (pattern.Equal store value) = refl
pattern_again (pattern.Unequal store value) = refl
pattern_again (pattern.SystemEqual id value) = refl
pattern_again (pattern.SystemUnequal id value) = refl
pattern_again pattern.Nul = refl

-- the same for an item that is read
pub pattern_read : (unit : UnitItem) → option_map pattern_of (item_of_unit_item unit) ≡ pattern_of_unit_item unit
pattern_read unit = read (pattern_of_unit_item unit) where
  read : (p : Option Pat) → option_map pattern_of (option_map item_of p) ≡ p
  read None = refl
  read (Some p) = ap Some (pattern_again p)

one_more : (p : Option Pat) (items : List ContextItem) (patterns : List Pat) → map pattern_of items ≡ patterns
    → map pattern_of (cons_option (option_map item_of p) items) ≡ cons_option p patterns
one_more None items patterns e = e
one_more (Some p) items patterns e = ap (λ (q : Pat). q ∷ map pattern_of items) (pattern_again p) ∙ ap (λ (l : List Pat). p ∷ l) e

pub patterns_of_items : (units : List UnitItem) → map pattern_of (filter_map item_of_unit_item units) ≡ filter_map pattern_of_unit_item units
patterns_of_items [] = refl
patterns_of_items (unit ∷ units) =
    one_more (pattern_of_unit_item unit) (filter_map item_of_unit_item units) (filter_map pattern_of_unit_item units) (patterns_of_items units)
