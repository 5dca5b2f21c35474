-- The sizes of values in quotes, by store.
use Rattle.std.specs.Prelude.{ℕ, List, length, map}
use Rattle.rule_model.specs.declared.tables.Store.{Store}
use Rattle.decompile_text.specs.Texts.{quoted_text}

-- for each store the number of bytes of its characters in quotes
abbrev pub quoted_sizes : List Store → List ℕ
quoted_sizes stores = map (λ (store : Store). length (quoted_text store.elements)) stores
