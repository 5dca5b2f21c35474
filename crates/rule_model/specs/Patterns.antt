-- What an item of a compiled context requires.
use Rattle.std.specs.Prelude.{Bool, true, false}
use Rattle.rule_model.specs.declared.tables.Pat.{Pat}
use Rattle.rule_model.specs.declared.tables.Pat.TheVariants as pattern

-- whether an item of a context is a condition on a store or a system option
abbrev pub is_condition : Pat → Bool
is_condition (pattern.Equal store value) = true
is_condition (pattern.Unequal store value) = true
is_condition (pattern.SystemEqual id value) = true
is_condition (pattern.SystemUnequal id value) = true
is_condition _ = false

-- whether an item of a context is `nul`, the start of the text
abbrev pub is_nul : Pat → Bool
is_nul pattern.Nul = true
is_nul _ = false

-- whether an item of a context is matched with an item of the text; conditions and `nul` are not
abbrev pub is_matched : Pat → Bool
is_matched (pattern.Equal store value) = false
is_matched (pattern.Unequal store value) = false
is_matched (pattern.SystemEqual id value) = false
is_matched (pattern.SystemUnequal id value) = false
is_matched pattern.Nul = false
is_matched _ = true
