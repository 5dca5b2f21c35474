-- The option numbers and the elements of the system options, which come last.
use Rattle.std.proofs.Common.{◌≡◌, ℕ, zero, suc, ◌+◌, ◌-◌, ◌<◌, ◌≤◌, ◌++◌, List, [], ◌∷◌, arith, length, Option, Some, sym, ap, ◌∙◌, if◌then◌else◌, nat_eq, refl}
use Rattle.std.specs.Prelude.{slice_get}
use Rattle.std.specs.Option.{option_flatten}
use Rattle.rule_model.specs.declared.tables.Store.{Store}
use Rattle.rule_model.specs.declared.tables.Tables.{Tables}
use Rattle.rule_model.specs.Content.{option_number, elements_at, elements_of_store}
use Rattle.rule_model.specs.Plain.{option_numbers, option_names}
use Rattle.rule_model.specs.System.{system_options, system_ref}
use Rattle.rule_model.specs.Tab.{elements_of, tab, tab_options, with_options}
use Rattle.rule_model.proofs.SystemOptions.{system_at, system_option_is, own_elements}

-- the last number, or the one before it, is the number of the system option
pub system_read : (tables : Tables) (numbers : List (Option ℕ)) (id : ℕ) → numbers ≡ option_numbers 0 (tab tables).stores
    → option_flatten (slice_get numbers (length numbers - (if nat_eq id 31 then 1 else 2))) ≡ option_number (tab tables).stores (system_ref id)
system_read tables numbers id are =
    ap (λ all. option_flatten (slice_get all (length all - (if nat_eq id 31 then 1 else 2)))) are ∙ system_at (tab tables).stores id _ refl

pub system_counted : (tables : Tables) (numbers : List (Option ℕ)) (id : ℕ) → numbers ≡ option_numbers 0 (tab tables).stores
    → option_flatten (slice_get numbers (length numbers - (if nat_eq id 31 then 1 else 2)))
    ≡ Some (length (option_names (with_options (tab_options tables) 0 tables.stores)) + (if nat_eq id 31 then 1 else 0))
unfolding tab
system_counted tables numbers id are = system_read tables numbers id are ∙ system_option_is (with_options (tab_options tables) 0 tables.stores) id

elements_behind : (options : List ℕ) (k n : ℕ) (stores : List Store) → length stores ≤ n
    → elements_of_store (slice_get (with_options options k stores ++ system_options) n) ≡ elements_at system_options (Some (n - length stores))
elements_behind options k n [] behind = let all : n ≡ n - 0 = omega arith in ap (λ m. elements_at system_options (Some m)) all
elements_behind options k zero (s ∷ ss) behind = absurd (omega arith)
elements_behind options k (suc n) (s ∷ ss) behind =
    let less : n - length ss ≡ suc n - suc (length ss) = omega arith in
    elements_behind options (k + 1) n ss (omega arith) ∙ ap (λ m. elements_at system_options (Some m)) less

-- a store of the tables has the elements that it defines, and the system options, which come after the stores, have theirs
pub own_stated : (tables : Tables) (n : ℕ) → n < length tables.stores → elements_of tables.stores n ≡ elements_at (tab tables).stores (Some n)
unfolding tab
own_stated tables n below = sym (own_elements (tab_options tables) 0 n tables.stores below)

pub system_stated : (tables : Tables) (n : ℕ) → length tables.stores ≤ n → elements_at system_options (Some (n - length tables.stores)) ≡ elements_at (tab tables).stores (Some n)
unfolding tab
system_stated tables n behind = sym (elements_behind (tab_options tables) 0 n tables.stores behind)
