-- The offsets of an accepted program's contexts point to what they may, and its contexts can be written.
use Rattle.std.proofs.Common.{◌≡◌, ℕ, zero, suc, ◌+◌, ◌<◌, ◌≤◌, inl, inr, Bool, true, false, List, [], ◌∷◌, ◌++◌, length, map, take, Option, Some, None, refl, sym, ap, subst, ◌∙◌, arith, append-nil, append_assoc, length-append}
use Rattle.std.specs.Prelude.{All, slice_get, slice_index_or, IsSomeAnd, option_map, flat_map, nat_eq, ◌&&◌, ◌||◌}
use Rattle.std.specs.List.{list_all}
use Rattle.std.proofs.lemmas.Bool.{and_parts, not-false, eqb-true}
use Rattle.std.proofs.lemmas.Option.{slice_get-map, slice_get_cases}
use Rattle.std.proofs.lemmas.List.{map-append, length-map}
use Rattle.std.proofs.lemmas.List.Elements.{All-nil, All-cons, All-head, All-tail, All-append}
use Rattle.kmn_base.specs.declared.codes.Code.TheVariants.{C08, C09}
use Rattle.kmn_base.specs.declared.limits.TheConstants.{CONTEXT_ITEMS}
use Rattle.kmn_base.specs.Spelling.{IsOperand, IsSpellable}
use Rattle.kmn_base.proofs.Options.{option_or-none}
use Rattle.rule_model.specs.declared.program.SrcItem.{SrcItem}
use Rattle.rule_model.specs.declared.program.SrcItem.TheVariants as source
use Rattle.rule_model.specs.declared.program.Program.{Program}
use Rattle.rule_model.specs.declared.tables.Pat.{Pat}
use Rattle.compile_laws.specs.Numbers.{Numbers, numbers_of, number_of_store, number_of_value, compiled_stores}
use Rattle.compile_laws.specs.Compiles.{file_pattern}
use Rattle.compile_laws.specs.WellNamed.{is_store, is_known_pattern}
use Rattle.compile_laws.proofs.Linked.{is_value}
use Rattle.compile_laws.proofs.Known.{has_values}
use Rattle.kmx_format.specs.FileUnits.{unit_item_of_pattern}
use Rattle.kmx_format.specs.Writable.{stores_of_pattern, has_system_id, is_any, PointsTo, PointsBack, IsWritableContext}
use Rattle.rule_model.specs.Patterns.{is_matched}
use Rattle.kmn_parser.specs.ProgramLaws.{IsReadItem}
use Rattle.item_checker.specs.Items.{is_pattern_item, is_any_item, passes, points_to, misses_pattern, misses_any, context_item_code, context_code}
use Rattle.rule_checker.specs.Refused.{IsRead}
use Rattle.rule_checker.proofs.Unrefused.{none_broken}
use Rattle.rule_checker.proofs.Accepted.{IsUnrefused}
use Rattle.rule_checker.proofs.Within.{few_stores}
use Rattle.rule_checker.proofs.Numbers.{store_number, stores_end, value_number}
use Rattle.rule_checker.proofs.Elements.{mark_operand}

module _ (numbers : Numbers) where
  pub matched : (item : SrcItem) → is_pattern_item item ≡ true → is_matched (file_pattern numbers item) ≡ true
  matched (source.Char c) h = refl
  matched (source.Dead name) h = refl
  matched (source.Any store) h = refl
  matched (source.NotAny store) h = refl
  matched (source.Index store offset) h = refl
  matched (source.ContextAt offset) h = refl
  matched item h = absurd (cc)

  pub any_there : (item : SrcItem) → is_any_item item ≡ true → is_any (file_pattern numbers item) ≡ true
  any_there (source.Any store) h = refl
  any_there item h = absurd (cc)

  passing : (test : SrcItem → Bool) (other : Pat → Bool) → ((item : SrcItem) → test item ≡ true → other (file_pattern numbers item) ≡ true) → (o : Option SrcItem) → passes test o ≡ true
      → IsSomeAnd (option_map (file_pattern numbers) o) (λ item. other item ≡ true)
  passing test other same None h = absurd (cc)
  passing test other same (Some item) h = same item h

  pub pointing : (test : SrcItem → Bool) (other : Pat → Bool) → ((item : SrcItem) → test item ≡ true → other (file_pattern numbers item) ≡ true) → (items : List SrcItem) (offset : ℕ)
      → points_to test items offset ≡ true → PointsTo other (map (file_pattern numbers) items) offset
  pointing test other same items zero h = absurd (cc)
  pointing test other same items (suc place) h =
      subst (λ o. IsSomeAnd o (λ item. other item ≡ true)) (sym (slice_get-map (file_pattern numbers) items place)) (passing test other same (slice_get items place) h)

  item_back : (before : List SrcItem) (item : SrcItem) → context_item_code before item ≡ None → PointsBack (map (file_pattern numbers) before) (file_pattern numbers item)
  item_back before (source.Index store offset) h =
      let rows = none_broken C08 (misses_pattern before offset) ((C09, misses_any before offset) ∷ []) h in
      let any = none_broken C09 (misses_any before offset) [] rows.1 in
      pointing is_any_item is_any any_there before offset (not-false (points_to is_any_item before offset) any.0)
  item_back before (source.ContextAt offset) h =
      let rows = none_broken C08 (misses_pattern before offset) [] h in
      pointing is_pattern_item is_matched matched before offset (not-false (points_to is_pattern_item before offset) rows.0)
  item_back before (source.Char c) h = tt
  item_back before (source.Dead name) h = tt
  item_back before (source.Any store) h = tt
  item_back before (source.NotAny store) h = tt
  item_back before (source.Equal store value) h = tt
  item_back before (source.Unequal store value) h = tt
  item_back before item h = tt

  offsets_from : (before items : List SrcItem) → context_code before items ≡ None → (place : ℕ) (d : Pat) → place < length items
      → PointsBack (map (file_pattern numbers) before ++ take place (map (file_pattern numbers) items)) (slice_index_or (map (file_pattern numbers) items) place d)
  offsets_from before [] h place d within = absurd (omega arith)
  offsets_from before (item ∷ items) h zero d within =
      subst (λ (ps : List Pat). PointsBack ps (file_pattern numbers item)) (sym (append-nil (map (file_pattern numbers) before)))
      (item_back before item (option_or-none (context_item_code before item) (context_code (before ++ item ∷ []) items) h).0)
  offsets_from before (item ∷ items) h (suc place) d within =
      subst (λ (ps : List Pat). PointsBack ps (slice_index_or (map (file_pattern numbers) items) place d))
      (ap (λ (ps : List Pat). ps ++ take place (map (file_pattern numbers) items)) (map-append (file_pattern numbers) before (item ∷ []))
      ∙ append_assoc (map (file_pattern numbers) before) (file_pattern numbers item ∷ []) (take place (map (file_pattern numbers) items)))
      (offsets_from (before ++ item ∷ []) items (option_or-none (context_item_code before item) (context_code (before ++ item ∷ []) items) h).1 place d (omega arith))

  -- the offsets of a context
  pub context_offsets : (context : List SrcItem) → context_code [] context ≡ None → (place : ℕ) (d : Pat) → place < length (map (file_pattern numbers) context)
      → PointsBack (take place (map (file_pattern numbers) context)) (slice_index_or (map (file_pattern numbers) context) place d)
  context_offsets context h place d within = offsets_from [] context h place d (omega (arith, length-map context (file_pattern numbers)))

  -- a condition that is read tests only a system option that a file can have
  system_id : (item : SrcItem) → IsReadItem item → has_system_id (file_pattern numbers item) ≡ true
  system_id (source.SystemEqual id value) is = is.0
  system_id (source.SystemUnequal id value) is = is.0
  system_id (source.Char c) is = refl
  system_id item is = refl

  system_ids : (context : List SrcItem) → All IsReadItem context → All (λ item. has_system_id item ≡ true) (map (file_pattern numbers) context)
  system_ids [] is = All-nil (λ item. has_system_id item ≡ true)
  system_ids (item ∷ items) is =
      All-cons (λ item. has_system_id item ≡ true) (file_pattern numbers item) (map (file_pattern numbers) items) (system_id item (All-head IsReadItem item items is)) (system_ids items (All-tail IsReadItem item items is))

-- an offset that points to an item is that of one
pub pointed : (test : SrcItem → Bool) (items : List SrcItem) (offset : ℕ) → points_to test items offset ≡ true → (0 < offset) × (offset ≤ length items)
pointed test items zero h = absurd (cc)
pointed test items (suc place) h = by (slice_get items place) refl h
  where
    by : (o : Option SrcItem) → slice_get items place ≡ o → passes test o ≡ true → (0 < suc place) × (suc place ≤ length items)
    by None is g = absurd (cc)
    by (Some item) is g = elim (slice_get_cases items place).1 [
      | inl found ↦ (omega arith, let below = found.1 in omega (arith, below))
      | inr past ↦ absurd (let none : slice_get items place ≡ None = past.1 in cc)
    ]

index_points : (before : List SrcItem) (store : List ℕ) (offset : ℕ) → context_item_code before (source.Index store offset) ≡ None → points_to is_pattern_item before offset ≡ true
index_points before store offset h = not-false (points_to is_pattern_item before offset) (none_broken C08 (misses_pattern before offset) ((C09, misses_any before offset) ∷ []) h).0

context_points : (before : List SrcItem) (offset : ℕ) → context_item_code before (source.ContextAt offset) ≡ None → points_to is_pattern_item before offset ≡ true
context_points before offset h = not-false (points_to is_pattern_item before offset) (none_broken C08 (misses_pattern before offset) [] h).0

-- the id of a system option, counted from 1, is an operand
option_fits : (id : ℕ) → (nat_eq id 31 || nat_eq id 33) ≡ true → IsOperand (id + 1)
option_fits id h = by (nat_eq id 31) refl h
  where
    by : (b : Bool) → nat_eq id 31 ≡ b → (b || nat_eq id 33) ≡ true → IsOperand (id + 1)
    by true is g = let same = eqb-true id 31 is in (omega arith, omega arith)
    by false is g = let same = eqb-true id 33 g in (omega arith, omega arith)

-- an item of a context that is written: it is spelled, and names stores of the file
pub record PatternIsWritten (store_count : ℕ) (item : Pat) : Type 0 where
  pub spelled : IsSpellable (unit_item_of_pattern item)
  pub stores : All (λ store. store < store_count) (stores_of_pattern item)

module _ (program : Program) (read : IsRead program) (whole : IsUnrefused program) where
  abbrev pub count : ℕ
  count = length (compiled_stores program)

  -- a number of a store, counted from 1, is an operand
  pub store_fits : (name : List ℕ) → is_store program name ≡ true → (number_of_store (numbers_of program) name < count) × IsOperand (number_of_store (numbers_of program) name + 1)
  store_fits name h =
      let lower = store_number program name h in
      let ends = stores_end program in
      let few = few_stores program read whole in
      (omega arith, (omega arith, omega arith))

  pub value_fits : (value : List ℕ) → is_value program value ≡ true → (number_of_value (numbers_of program) value < count) × IsOperand (number_of_value (numbers_of program) value + 1)
  value_fits value h =
      let lower = value_number program value h in
      let few = few_stores program read whole in
      (lower, (omega arith, omega arith))

  pub one_store : (n : ℕ) → n < count → All (λ store. store < count) (n ∷ [])
  one_store n h = All-cons (λ store. store < count) n [] h (All-nil (λ store. store < count))

  pub two_stores : (n m : ℕ) → n < count → m < count → All (λ store. store < count) (n ∷ (m ∷ []))
  two_stores n m h g = All-cons (λ store. store < count) n (m ∷ []) h (one_store m g)

  pub only_value : (value : List ℕ) → (is_value program value && true) ≡ true → is_value program value ≡ true
  only_value value h = (and_parts (is_value program value) true h).0

  pattern_written : (before : List SrcItem) (item : SrcItem) → length before ≤ CONTEXT_ITEMS → context_item_code before item ≡ None → IsReadItem item → is_known_pattern program item ≡ true → has_values program item ≡ true
      → PatternIsWritten count (file_pattern (numbers_of program) item)
  pattern_written before (source.Char c) short code is known values = record { spelled = (is.valid, is.not_first, is.not_last); stores = All-nil (λ store. store < count) }
  pattern_written before (source.Dead name) short code is known values = record { spelled = mark_operand program read whole name; stores = All-nil (λ store. store < count) }
  pattern_written before (source.Any store) short code is known values = let fits = store_fits store known in record { spelled = fits.1; stores = one_store _ fits.0 }
  pattern_written before (source.NotAny store) short code is known values = let fits = store_fits store known in record { spelled = fits.1; stores = one_store _ fits.0 }
  pattern_written before (source.Index store offset) short code is known values =
      let fits = store_fits store known in
      let place = pointed is_pattern_item before offset (index_points before store offset code) in
      record { spelled = (fits.1, (place.0, omega (arith, place.1))); stores = one_store _ fits.0 }
  pattern_written before (source.ContextAt offset) short code is known values =
      let place = pointed is_pattern_item before offset (context_points before offset code) in
      record { spelled = (place.0, omega (arith, place.1)); stores = All-nil (λ store. store < count) }
  pattern_written before (source.Equal store value) short code is known values =
      let fits = store_fits store known in
      let valued = value_fits value (only_value value values) in
      record { spelled = (fits.1, inr refl, valued.1); stores = two_stores _ _ fits.0 valued.0 }
  pattern_written before (source.Unequal store value) short code is known values =
      let fits = store_fits store known in
      let valued = value_fits value (only_value value values) in
      record { spelled = (fits.1, inl refl, valued.1); stores = two_stores _ _ fits.0 valued.0 }
  pattern_written before (source.SystemEqual id value) short code is known values =
      let valued = value_fits value (only_value value values) in
      record { spelled = (option_fits id is.0, inr refl, valued.1); stores = one_store _ valued.0 }
  pattern_written before (source.SystemUnequal id value) short code is known values =
      let valued = value_fits value (only_value value values) in
      record { spelled = (option_fits id is.0, inl refl, valued.1); stores = one_store _ valued.0 }
  pattern_written before item short code is known values = record { spelled = tt; stores = All-nil (λ store. store < count) }

  -- the items of a context
  record PatternsAreWritten (items : List Pat) : Type 0 where
    spelled : All (λ item. IsSpellable (unit_item_of_pattern item)) items
    stores : All (λ store. store < count) (flat_map stores_of_pattern items)

  patterns_written : (before items : List SrcItem) → length before + length items ≤ CONTEXT_ITEMS → context_code before items ≡ None → All IsReadItem items → list_all (is_known_pattern program) items ≡ true
      → list_all (has_values program) items ≡ true → PatternsAreWritten (map (file_pattern (numbers_of program)) items)
  patterns_written before [] short code is known values = record { spelled = All-nil (λ item. IsSpellable (unit_item_of_pattern item)); stores = All-nil (λ store. store < count) }
  patterns_written before (item ∷ items) short code is known values =
      let codes = option_or-none (context_item_code before item) (context_code (before ++ item ∷ []) items) code in
      let names = and_parts (is_known_pattern program item) (list_all (is_known_pattern program) items) known in
      let valued = and_parts (has_values program item) (list_all (has_values program) items) values in
      let here = pattern_written before item (omega arith) codes.0 (All-head IsReadItem item items is) names.0 valued.0 in
      let rest = patterns_written (before ++ item ∷ []) items (omega (arith, length-append before (item ∷ []))) codes.1 (All-tail IsReadItem item items is) names.1 valued.1 in
      record {
        spelled = All-cons (λ p. IsSpellable (unit_item_of_pattern p)) (file_pattern (numbers_of program) item) (map (file_pattern (numbers_of program)) items) here.spelled rest.spelled;
        stores = All-append (λ store. store < count) (stores_of_pattern (file_pattern (numbers_of program) item)) (flat_map stores_of_pattern (map (file_pattern (numbers_of program)) items)) here.stores rest.stores;
      }

  pub context_written : (context : List SrcItem) → length context ≤ CONTEXT_ITEMS → context_code [] context ≡ None → All IsReadItem context → list_all (is_known_pattern program) context ≡ true
      → list_all (has_values program) context ≡ true → IsWritableContext count (map (file_pattern (numbers_of program)) context)
  context_written context short code is known values =
      let written = patterns_written [] context (omega arith) code is known values in
      record {
        items = written.spelled;
        stores = written.stores;
        systems = system_ids (numbers_of program) context is;
        offsets = context_offsets (numbers_of program) context code;
        item_count = omega (arith, length-map context (file_pattern (numbers_of program)));
      }
