-- The first store of a system id is the store of a statement that follows the stores of the earlier statements.
use Rattle.std.proofs.Common.{◌≡◌, ℕ, suc, Bool, true, false, not, cond, List, [], ◌∷◌, ◌++◌, take, get_or, Option, Some, None, refl, sym, ap, subst, ◌∙◌, if◌then◌else◌}
use Rattle.std.specs.Prelude.{nat_eq, find, position, option_map, ◌&&◌}
use Rattle.std.specs.Option.{option_or}
use Rattle.std.proofs.lemmas.List.Folds.{find-append}
use Rattle.std.proofs.lemmas.Option.{none-some}
use Rattle.rule_model.specs.declared.program.StoreDef.{StoreDef}
use Rattle.rule_model.specs.declared.program.Program.{Program}
use Rattle.rule_model.specs.declared.tables.Store.{Store}
use Rattle.rule_model.specs.Naming.{SourceNames, names_of, is_dropped, store_of, stores_of, stores_onto}
use Rattle.rule_model.specs.Tab.{store_elements}
use Rattle.store_table.specs.Numbering.{NameLists, lists_of}
use Rattle.virtual_keys.proofs.NamePlaces.{position_cons}
use Rattle.rule_expand.specs.Expanded.{HasTables}
use Rattle.rule_expand.specs.Lookups.{source_names, BeginWith}
use Rattle.rule_expand.specs.Stated.{is_of, states}
use Rattle.rule_expand.proofs.ExpandedTables.{names_are, statements_begin}
use Rattle.rule_expand.proofs.StoreLists.{first_statements}

other_id : (same dropped : Bool) → (same && not dropped) ≡ false → dropped ≡ false → same ≡ false
other_id true true other stated = stated
other_id true false other stated = other
other_id false dropped other stated = refl

this_id : (same dropped : Bool) → (same && not dropped) ≡ true → (same ≡ true) × (dropped ≡ false)
this_id true true this = absurd (cc)
this_id true false this = (refl, refl)
this_id false dropped this = absurd (cc)

module _ (system : ℕ) (names : SourceNames) where
  -- the stores with that of a further statement
  abbrev with_statement : List Store → StoreDef → List Store
  with_statement before store = if is_dropped store then before else before ++ store_of names before store ∷ []

  found_more : (before : List Store) (found : Store) (store : StoreDef) → find (is_of system) before ≡ Some found → find (is_of system) (with_statement before store) ≡ Some found
  found_more before found store e = by (is_dropped store)
    where
      by : (dropped : Bool) → find (is_of system) (if dropped then before else before ++ store_of names before store ∷ []) ≡ Some found
      by true = e
      by false = find-append (is_of system) before (store_of names before store ∷ []) ∙ ap (λ one. option_or one (find (is_of system) (store_of names before store ∷ []))) e

  -- if a store of the id is found, it is also found after further statements
  found_stays : (before : List Store) (found : Store) (stores : List StoreDef) → find (is_of system) before ≡ Some found → find (is_of system) (stores_onto names before stores) ≡ Some found
  found_stays before found [] e = e
  found_stays before found (store ∷ stores) e = found_stays (with_statement before store) found stores (found_more before found store e)

  -- if a statement is of another store, and no store of the id was found before it, none is found after it
  none_more : (before : List Store) (store : StoreDef) → states system store ≡ false → find (is_of system) before ≡ None → find (is_of system) (with_statement before store) ≡ None
  none_more before store other none = by (is_dropped store) refl
    where
      by : (dropped : Bool) → is_dropped store ≡ dropped → find (is_of system) (if dropped then before else before ++ store_of names before store ∷ []) ≡ None
      by true is = none
      by false is =
          let apart : nat_eq store.system system ≡ false = other_id (nat_eq store.system system) (is_dropped store) other is in
          find-append (is_of system) before (store_of names before store ∷ [])
          ∙ ap (λ one. option_or one (find (is_of system) (store_of names before store ∷ []))) none
          ∙ rw apart refl

  -- if a statement is of a store with the id, and none was found before it, its store is found
  found_here : (before : List Store) (store : StoreDef) → states system store ≡ true → find (is_of system) before ≡ None → find (is_of system) (with_statement before store) ≡ Some (store_of names before store)
  found_here before store this none =
      let both = this_id (nat_eq store.system system) (is_dropped store) this in
      rw both.1
      (find-append (is_of system) before (store_of names before store ∷ [])
      ∙ ap (λ one. option_or one (find (is_of system) (store_of names before store ∷ []))) none
      ∙ rw both.0 refl)

  found_nowhere : (before : List Store) (stores : List StoreDef) → find (is_of system) before ≡ None → position (states system) stores ≡ None → find (is_of system) (stores_onto names before stores) ≡ None
  found_nowhere before [] none e = none
  found_nowhere before (store ∷ stores) none e =
      by (states system store) refl (position (states system) stores) refl (sym (position_cons (states system) store stores) ∙ e) (found_nowhere (with_statement before store) stores)
    where
      by : (here : Bool) → states system store ≡ here → (later : Option ℕ) → position (states system) stores ≡ later → cond here (Some 0) (option_map suc later) ≡ None
          → (find (is_of system) (with_statement before store) ≡ None → position (states system) stores ≡ None → find (is_of system) (stores_onto names (with_statement before store) stores) ≡ None)
          → find (is_of system) (stores_onto names (with_statement before store) stores) ≡ None
      by true is later at h rest = absurd (none-some 0 (sym h))
      by false is None at h rest = rest (none_more before store is none) at
      by false is (Some k) at h rest = absurd (none-some (suc k) (sym h))

  -- whether the first store of the id is the store of the statement at an index
  abbrev FoundAt : List Store → List StoreDef → StoreDef → ℕ → Type 0
  FoundAt before stores d k = find (is_of system) (stores_onto names before stores) ≡ Some (store_of names (stores_onto names before (take k stores)) (get_or stores k d))

  found_at : (before : List Store) (stores : List StoreDef) (d : StoreDef) (k : ℕ) → find (is_of system) before ≡ None → position (states system) stores ≡ Some k → FoundAt before stores d k
  found_at before [] d k none e = absurd (none-some k e)
  found_at before (store ∷ stores) d k none e =
      by (states system store) refl (position (states system) stores) refl (sym (position_cons (states system) store stores) ∙ e) (found_at (with_statement before store) stores d)
    where
      by : (here : Bool) → states system store ≡ here → (later : Option ℕ) → position (states system) stores ≡ later → cond here (Some 0) (option_map suc later) ≡ Some k
          → ((j : ℕ) → find (is_of system) (with_statement before store) ≡ None → position (states system) stores ≡ Some j → FoundAt (with_statement before store) stores d j)
          → FoundAt before (store ∷ stores) d k
      by true is later at h rest =
          let first : 0 ≡ k = cc in
          subst (FoundAt before (store ∷ stores) d) first (found_stays (with_statement before store) (store_of names before store) stores (found_here before store is none))
      by false is None at h rest = absurd (none-some k h)
      by false is (Some j) at h rest =
          let next : suc j ≡ k = cc in
          subst (FoundAt before (store ∷ stores) d) next (rest j (none_more before store is none) at)

module _ (system : ℕ) (program : Program) (has : HasTables program) (lists : NameLists) (are : lists ≡ lists_of program) where
  pub no_elements : position (states system) program.stores ≡ None → [] ≡ store_elements (find (is_of system) (stores_of program))
  unfolding stores_of
  no_elements e = ap store_elements (sym (found_nowhere system (names_of program) [] program.stores refl e))

  -- the names begin with those of the stores of the first statements
  pub first_begin : (k : ℕ) → BeginWith (stores_onto (source_names lists) [] (take k program.stores)) lists.stores
  first_begin k = first_statements (source_names lists) lists.stores program.stores k (statements_begin program has lists are)

  pub first_elements : (store : StoreDef) (k : ℕ) → position (states system) program.stores ≡ Some k → store ≡ get_or program.stores k store
      → (store_of (source_names lists) (stores_onto (source_names lists) [] (take k program.stores)) store).elements ≡ store_elements (find (is_of system) (stores_of program))
  unfolding stores_of
  first_elements store k e at =
      ap (λ (names : SourceNames). (store_of names (stores_onto names [] (take k program.stores)) store).elements) (names_are program has lists are)
      ∙ ap (λ (s : StoreDef). (store_of (names_of program) (stores_onto (names_of program) [] (take k program.stores)) s).elements) at
      ∙ ap store_elements (sym (found_at system (names_of program) [] program.stores store k refl e))
