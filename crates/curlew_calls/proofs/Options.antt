-- Whether an option has a name, tested store by store.
use Rattle.std.proofs.Common.{◌≡◌, ℕ, ◌≤◌, Bool, false, List, length, drop, Option, ap}
use Rattle.std.proofs.lemmas.List.{drop_all}
use Rattle.std.specs.List.{list_any}
use Rattle.rule_model.specs.declared.tables.Tables.{Tables}
use Rattle.rule_model.specs.Event.{has_name}
use Rattle.rule_engine.specs.Engine.{name_of}
use Rattle.play_session.specs.Changes.{options_from}

module _ (name : List ℕ) (tables : Tables) where
  -- whether some store from a number on is an option with the name, given the option numbers of these stores
  abbrev pub known_from : ℕ → List (Option ℕ) → Bool
  known_from store numbers = list_any (λ (s : ℕ). has_name name (name_of tables s)) (options_from store numbers)

  pub none_left : (numbers : List (Option ℕ)) (store : ℕ) → length numbers ≤ store → known_from store (drop store numbers) ≡ false
  none_left numbers store end = ap (known_from store) (drop_all store numbers end)
