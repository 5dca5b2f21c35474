-- The facts on the stores and the values of a program and of its tables that the other lemmas need.
use Rattle.std.proofs.Common.{◌≡◌, ℕ, Bool, true, List}
use Rattle.std.specs.Prelude.{is_some, position}
use Rattle.std.specs.Str.{bytes_eq}
use Rattle.kmn_base.specs.declared.items.Element.{Element}
use Rattle.rule_model.specs.declared.program.Program.{Program}
use Rattle.rule_model.specs.declared.tables.Tables.{Tables}
use Rattle.rule_model.specs.Keyboard.{Named, Numbered}
use Rattle.rule_model.specs.Content.{content, elements_at, store_number, option_number}
use Rattle.rule_model.specs.Naming.{stores_of, elements_named}
use Rattle.rule_model.specs.System.{system_ref}
use Rattle.rule_model.specs.Tab.{tab, elements_of}
use Rattle.rule_model.specs.Src.{src, value_elements}
use Rattle.compile_laws.specs.Numbers.{numbers_of, values_of, number_of_store, number_of_value}
use Rattle.compile_laws.specs.WellNamed.{is_store, is_fixed}

-- whether a value is one of a program's
abbrev pub is_value : Program → List ℕ → Bool
is_value p value = is_some (position (λ known. bytes_eq known value) (values_of p))

-- a defined store is the same in both keyboards, a fixed store has the elements of the statement, and a value is the elements of its
-- store
pub record Linked (p : Program) (t : Tables) : Type 0 where
  pub same_content : (s : List ℕ) (values : List (List Element)) → is_store p s ≡ true →
      content (tab t).stores values (Numbered (number_of_store (numbers_of p) s)) ≡ content (src p).stores values (Named s)
  pub same_option : (s : List ℕ) → is_store p s ≡ true →
      option_number (tab t).stores (Numbered (number_of_store (numbers_of p) s)) ≡ option_number (src p).stores (Named s)
  pub same_elements : (s : List ℕ) → is_store p s ≡ true →
      elements_at (tab t).stores (store_number (tab t).stores (Numbered (number_of_store (numbers_of p) s)))
      ≡ elements_at (src p).stores (store_number (src p).stores (Named s))
  pub named_elements : (s : List ℕ) → elements_at (src p).stores (store_number (src p).stores (Named s)) ≡ elements_named (stores_of p) s
  pub fixed : (s : List ℕ) (values : List (List Element)) → is_fixed p s ≡ true → content (src p).stores values (Named s) ≡ elements_named (stores_of p) s
  pub same_system : (id : ℕ) (values : List (List Element)) → content (tab t).stores values (system_ref id) ≡ content (src p).stores values (system_ref id)
  pub same_system_option : (id : ℕ) → option_number (tab t).stores (system_ref id) ≡ option_number (src p).stores (system_ref id)
  pub same_value : (v : List ℕ) → is_value p v ≡ true → elements_of t.stores (number_of_value (numbers_of p) v) ≡ value_elements v
