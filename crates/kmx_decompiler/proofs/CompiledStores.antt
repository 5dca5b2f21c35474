-- The stores of a file that a program compiles to have no causes.
use Rattle.std.proofs.Common.{◌≡◌, ◌≢◌, ℕ, zero, suc, ◌+◌, Bool, true, false, not, ◌||◌, List, [], ◌∷◌, ◌++◌, map, Option, Some, None, refl, sym, ◌∙◌, ap, subst, arith}
use Rattle.std.specs.Prelude.{All, nat_eq, position, slice_get, take, drop, unwrap_or}
use Rattle.std.specs.List.{list_any, AllByRecursion}
use Rattle.std.proofs.lemmas.Bool.{cond_both, eqb-true, eqb-false, not-true, and_from, cond-true, cond-false}
use Rattle.std.proofs.lemmas.List.Elements.{All-head, All-tail}
use Rattle.std.proofs.lemmas.List.Folds.{list_any-append}
use Rattle.std.proofs.lemmas.Option.{none-some, same_Some}
use Rattle.kmn_base.specs.declared.items.Element.{Element}
use Rattle.kmn_base.specs.Names.{same_name}
use Rattle.kmn_base.proofs.Elements.{slice_get-append_left}
use Rattle.rule_model.specs.declared.program.Program.{Program}
use Rattle.rule_model.specs.declared.tables.Store.{Store}
use Rattle.rule_model.specs.declared.tables.Tables.{Tables}
use Rattle.rule_model.specs.Naming.{names_of, stores_of}
use Rattle.rule_model.specs.Tab.{is_dictionary}
use Rattle.compile_laws.specs.Numbers.{values_of, value_store, dictionary_stores, compiled_stores, numbers_of, number_of_store}
use Rattle.compile_laws.specs.WellNamed.{is_store}
use Rattle.compile_laws.proofs.PlacedItems.{FirstPlace, first_place, at_place}
use Rattle.store_table.specs.Known.{known}
use Rattle.rule_checker.specs.Refused.{IsRead}
use Rattle.rule_checker.proofs.Accepted.{IsUnrefused}
use Rattle.kmn_parser.specs.Names.{is_source_name}
use Rattle.kmn_parser.specs.Spelled.{IsSpelledName}
use Rattle.kmn_items.specs.Words.{is_system_name}
use Rattle.decompile_program.specs.Items.{Names}
use Rattle.decompile_program.specs.Names.{is_written, is_free, keeps_name, keeps_store_name, store_names}
use Rattle.decompile_program.proofs.Apart.{source-some, same-turned}
use Rattle.kmx_decompiler.specs.Causes.{is_system_store, is_first_dictionary, is_number, is_unspelled_dictionary, is_unspelled_system, is_unspelled_store}
use Rattle.kmx_decompiler.specs.Written.{WasWritten}
use Rattle.kmx_decompiler.proofs.CompiledElements.{IsFineStore}
use Rattle.kmx_decompiler.proofs.Sayable.{AreSayable}
use Rattle.kmx_decompiler.proofs.StatedStores.{IsStatedStore, all_stated}
use Rattle.kmn_lines.proofs.TextSizes.{clash}

-- if all elements of a list have a property, the element at an index has it
pub all_at : {X : Type 0} (P : X → Type 0) (xs : List X) → All P xs → (i : ℕ) (x : X) → slice_get xs i ≡ Some x → P x
all_at P [] h i x at = absurd (none-some x at)
all_at P (y ∷ xs) h zero x at = subst P (same_Some y x at) (All-head P y xs h)
all_at P (y ∷ xs) h (suc i) x at = all_at P xs (All-tail P y xs h) i x at

-- ---- a store keeps its name

free-more : (name : List ℕ) (earlier : List (List ℕ)) (other : List ℕ) → is_free earlier name ≡ true → same_name name other ≡ false → is_free (earlier ++ other ∷ []) name ≡ true
free-more name earlier other h e =
    ap (λ (b : Bool). not b)
    (list_any-append (same_name name) earlier (other ∷ []) ∙ (λ i. not-true (list_any (same_name name) earlier) h i || (e i || false)))

-- a store that can be called by its own name
pub record KeepsOwnName (named : List ℕ) (n : ℕ) (x : Store) : Type 0 where
  pub ordinary : x.system ≡ 0
  pub uses : list_any (nat_eq n) named ≡ true
  pub plain : is_system_name x.name ≡ false
  pub source : is_source_name x.name ≡ true

module _ (named : List ℕ) (x : Store) where
  abbrev Differs : Store → Type 0
  Differs s = same_name x.name s.name ≡ false

  keeps-here : (free earlier : List (List ℕ)) (n : ℕ) (stores : List Store) → KeepsOwnName named n x → is_free earlier x.name ≡ true
      → slice_get (store_names named free earlier n (x ∷ stores)) 0 ≡ Some (Some x.name)
  keeps-here free earlier n stores keeps h =
      let zero_system : nat_eq x.system 0 ≡ true = ap (λ (m : ℕ). nat_eq m 0) keeps.ordinary in
      let written : is_written named n x ≡ true = cond-true (nat_eq x.system 0) _ _ zero_system ∙ keeps.uses in
      let kept : keeps_store_name earlier x.name ≡ true =
      and_from (not (is_system_name x.name)) (keeps_name earlier x.name) (ap (λ (b : Bool). not b) keeps.plain) (and_from (is_source_name x.name) (is_free earlier x.name) keeps.source h) in
      ap (λ (names : List (Option (List ℕ))). slice_get names 0)
      (cond-false (not (is_written named n x)) _ _ (ap (λ (b : Bool). not b) written)
      ∙ (cond-false (not (nat_eq x.system 0)) _ _ (ap (λ (b : Bool). not b) zero_system) ∙ cond-true (keeps_store_name earlier x.name) _ _ kept))

  pub keeps : (free earlier : List (List ℕ)) (n : ℕ) (stores : List Store) (i m : ℕ) → m ≡ n + i → slice_get stores i ≡ Some x → KeepsOwnName named m x → is_free earlier x.name ≡ true
      → AllByRecursion Differs (take i stores) → slice_get (store_names named free earlier n stores) i ≡ Some (Some x.name)
  keeps free earlier n [] i m e at own h apart = absurd (none-some x at)
  keeps free earlier n (s ∷ stores) zero m e at own h apart =
      let here : m ≡ n = omega (arith, e) in
      subst (λ (y : Store). slice_get (store_names named free earlier n (y ∷ stores)) 0 ≡ Some (Some x.name)) (sym (same_Some s x at))
      (keeps-here free earlier n stores (subst (λ (k : ℕ). KeepsOwnName named k x) here own) h)
  keeps free earlier n (s ∷ stores) (suc i) m e at own h apart =
      let next : m ≡ n + 1 + i = omega (arith, e) in
      let more = free-more x.name earlier s.name h apart.0 in
      let Done : List (Option (List ℕ)) → Type 0 = λ names. slice_get names (suc i) ≡ Some (Some x.name) in
      cond_both (not (is_written named n s)) _ _ Done
      (λ t. keeps free earlier (n + 1) stores i m next at own h apart.1)
      (λ t. cond_both (not (nat_eq s.system 0)) _ _ Done
      (λ t. keeps free earlier (n + 1) stores i m next at own h apart.1)
      (λ t. cond_both (keeps_store_name earlier s.name) _ _ Done
      (λ t. keeps free (earlier ++ s.name ∷ []) (n + 1) stores i m next at own more apart.1)
      (λ t. keeps (drop 1 free) (earlier ++ s.name ∷ []) (n + 1) stores i m next at own more apart.1)))

-- ---- the properties of each store

-- a store that has no cause, apart from the causes of an option
pub record IsGoodStore (program : Program) (names : Names) (keys : names.keys ≡ (names_of program).keys) (s : Store) : Type 0 where
  pub fine : IsFineStore program names keys s
  pub dictionary : is_dictionary s ≡ true → is_unspelled_dictionary s.elements ≡ false
  pub system : is_unspelled_system s ≡ false

pub no_elements : (test : Element → Bool) (es : List Element) → All (λ e. test e ≡ false) es → list_any test es ≡ false
no_elements test [] h = refl
no_elements test (e ∷ es) h = λ i. All-head (λ e. test e ≡ false) e es h i || no_elements test es (All-tail (λ e. test e ≡ false) e es h) i

-- if each store, numbered from `n` on, has a spelling, all the stores have one
pub each_sayable : (names : Names) (options : List ℕ) (n : ℕ) (stores : List Store) → ((i : ℕ) (s : Store) → slice_get stores i ≡ Some s → is_unspelled_store names options (n + i) s ≡ false) → AreSayable names options n stores
each_sayable names options n [] h = tt
each_sayable names options n (s ∷ stores) h = (
  (let e : n + 0 ≡ n = omega arith in subst (λ (k : ℕ). is_unspelled_store names options k s ≡ false) e (h 0 s refl)),
  each_sayable names options (n + 1) stores (λ i t at. let e : n + suc i ≡ n + 1 + i = omega arith in subst (λ (k : ℕ). is_unspelled_store names options k t ≡ false) e (h (suc i) t at)),
)

-- if the store of a number is the first dictionary, it is a dictionary
pub first_dictionary : (stores : List Store) (i : ℕ) (s : Store) → slice_get stores i ≡ Some s → is_first_dictionary stores i ≡ true → is_dictionary s ≡ true
first_dictionary stores i s at h = by (position is_dictionary stores) refl h
  where
    by : (o : Option ℕ) → position is_dictionary stores ≡ o → is_number i o ≡ true → is_dictionary s ≡ true
    by None is g = absurd (cc)
    by (Some k) is g =
        let first = first_place is_dictionary stores k is in
        let there : slice_get stores i ≡ Some first.item = ap (slice_get stores) (eqb-true i k g) ∙ first.reads in
        let same : first.item ≡ s = same_Some first.item s (sym there ∙ at) in
        subst (λ (t : Store). is_dictionary t ≡ true) same first.passes

unnamed-differs : (name : List ℕ) → IsSpelledName name → same_name [] name ≡ true → ⊥
unnamed-differs name ok h = clash (same_name [] name) h (same-turned name [] (source-some name ok.read))

module _ (program : Program) (read : IsRead program) (whole : IsUnrefused program) (written : WasWritten program) where
  pub stated_at : (i : ℕ) (s : Store) → slice_get (stores_of program) i ≡ Some s → IsStatedStore (known program) s
  stated_at i s at = all_at (IsStatedStore (known program)) (stores_of program) (all_stated program read whole written) i s at

  -- a store with a name that a source can have is an ordinary store
  named-ordinary : (s : Store) → IsStatedStore (known program) s → (name : List ℕ) → IsSpelledName name → same_name s.name name ≡ true → (b : Bool) → nat_eq s.system 0 ≡ b → b ≡ true
  named-ordinary s stated name ok same true e = refl
  named-ordinary s stated name ok same false e =
      let other : stated.statement.system ≢ 0 = λ g. eqb-false s.system 0 e (stated.system ∙ g) in
      let unnamed : s.name ≡ [] = stated.name ∙ stated.read.unnamed other in
      absurd (unnamed-differs name ok (ap (λ (own : List ℕ). same_name own name) (sym unnamed) ∙ same))

  pub is_ordinary_store : (s : Store) → IsStatedStore (known program) s → (name : List ℕ) → IsSpelledName name → same_name s.name name ≡ true → nat_eq s.system 0 ≡ true
  is_ordinary_store s stated name ok same = named-ordinary s stated name ok same (nat_eq s.system 0) refl

  module _ (tables : Tables) (stores_are : tables.stores ≡ compiled_stores program) where
    abbrev more : List Store
    more = dictionary_stores (names_of program).keys ++ map value_store (values_of program)

    pub at_first : (p : Store → Bool) (k : ℕ) → (first : FirstPlace p (stores_of program) k) → slice_get tables.stores k ≡ Some first.item
    at_first p k first = ap (λ (stores : List Store). slice_get stores k) stores_are ∙ (slice_get-append_left (stores_of program) more k first.within ∙ first.reads)

    pub named_ordinary : (name : List ℕ) → IsSpelledName name → is_store program name ≡ true → is_system_store (slice_get tables.stores (number_of_store (numbers_of program) name)) ≡ false
    named_ordinary name ok stated =
        let place = at_place (position (λ (s : Store). same_name s.name name) (stores_of program)) stated in
        let first = first_place (λ (s : Store). same_name s.name name) (stores_of program) place.0 place.1 in
        let number : number_of_store (numbers_of program) name ≡ place.0 = ap (λ (o : Option ℕ). unwrap_or o 0) place.1 in
        ap (λ (n : ℕ). is_system_store (slice_get tables.stores n)) number
        ∙ (ap is_system_store (at_first (λ (s : Store). same_name s.name name) place.0 first)
        ∙ ap (λ (b : Bool). not b) (is_ordinary_store first.item (stated_at place.0 first.item first.reads) name ok first.passes))
