-- Outputs as Keyman's own engine runs them: up to the first `return`.
use Rattle.std.specs.Prelude.{ℕ, suc, Bool, true, false, ◌&&◌, ◌||◌, if◌then◌else◌, List, [], ◌∷◌}
use Rattle.std.specs.List.{list_any}
use Rattle.kmn_base.specs.Rising.{is_among}
use Rattle.rule_model.specs.declared.tables.Out.{Out}
use Rattle.rule_model.specs.declared.tables.Out.TheVariants as output

-- ---- items

abbrev pub is_return : Out → Bool
is_return output.Stop = true
is_return _ = false

abbrev pub is_use : Out → Bool
is_use (output.Enter group) = true
is_use _ = false

-- whether an item does something: it is neither `nul` nor `return`
abbrev pub does_something : Out → Bool
does_something output.Nul = false
does_something output.Stop = false
does_something _ = true

-- whether an item sets the layer. A file has no other system option that an output sets
abbrev pub sets_layer : Out → Bool
sets_layer (output.SetSystem id value) = true
sets_layer _ = false

-- whether an item puts what the context matched: all of it, one item by its offset, or an element of a store by such an offset
abbrev pub puts_match : Out → Bool
puts_match output.Context = true
puts_match (output.ContextAt offset) = true
puts_match (output.Index store offset) = true
puts_match _ = false

-- whether an item sets an option to the value of a store that is an option itself
abbrev pub sets_from_option : List ℕ → Out → Bool
sets_from_option options (output.Set store value) = is_among value options
sets_from_option options (output.SetSystem id value) = is_among value options
sets_from_option options _ = false

-- ---- outputs

-- the items of an output that run: those up to the first `return`, with it
abbrev pub live : List Out → List Out
live [] = []
live (item ∷ items) = if is_return item then item ∷ [] else item ∷ live items

-- the number of these items
abbrev pub live_count : List Out → ℕ
live_count [] = 0
live_count (item ∷ items) = if is_return item then 1 else suc (live_count items)

abbrev pub ends : List Out → Bool
ends outputs = list_any is_return outputs

-- whether an output does something
abbrev pub acts : List Out → Bool
acts outputs = list_any does_something (live outputs)

-- whether one of the items does something after a `use`
abbrev pub acts_after_use : List Out → Bool
acts_after_use [] = false
acts_after_use (item ∷ items) = (is_use item && list_any does_something items) || acts_after_use items
