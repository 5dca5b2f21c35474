-- If no value changes, there are no changes.
use Rattle.std.proofs.Common.{◌≡◌, ℕ, ◌+◌, true, false, not, List, [], ◌∷◌, ◌++◌, Option, Some, None, refl, ap}
use Rattle.std.specs.Prelude.{if◌then◌else◌}
use Rattle.kmn_base.specs.declared.items.Element.{Element}
use Rattle.rule_model.specs.declared.tables.Tables.{Tables}
use Rattle.rule_model.specs.Plain.{option_numbers}
use Rattle.rule_model.specs.Tab.{tab}
use Rattle.play_session.specs.Changes.{Values, current_at, saved_at, is_newly_saved, store_changes, changes_from, changes_between}
use Rattle.play_session.proofs.Comparing.{same_as_itself}

saved_before : (saved : Option (List Element)) → is_newly_saved saved saved ≡ false
saved_before None = refl
saved_before (Some value) = ap not (same_as_itself value)

module _ (values : Values) where
  none_of_store : (store : ℕ) (number : Option ℕ) → store_changes values values store number ≡ []
  none_of_store store None = refl
  none_of_store store (Some option) =
      λ i. (if same_as_itself (current_at values option) i then [] else record { store = store; saved = false } ∷ [])
      ++ (if saved_before (saved_at values option) i then record { store = store; saved = true } ∷ [] else [])

  none_from : (store : ℕ) (numbers : List (Option ℕ)) → changes_from values values store numbers ≡ []
  none_from store [] = refl
  none_from store (number ∷ numbers) = λ i. none_of_store store number i ++ none_from (store + 1) numbers i

pub nothing_changes : (tables : Tables) (values : Values) → changes_between tables values values ≡ []
nothing_changes tables values = none_from values 0 (option_numbers 0 (tab tables).stores)
