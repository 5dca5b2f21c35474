-- The walk over the statements finds the first refusal of a statement, given the statements up to it.
use Rattle.std.proofs.Common.{◌≡◌, ℕ, ◌+◌, ◌-◌, ◌<◌, min, Bool, true, false, List, [], ◌∷◌, ◌++◌, length, map, Option, Some, None, refl, sym, ap, ◌∙◌, arith, if◌then◌else◌, append-nil, length-append}
use Rattle.std.specs.Prelude.{nat_lt, flat_map, sum, ◌||◌}
use Rattle.std.specs.List.{list_any}
use Rattle.std.specs.Str.{bytes_eq}
use Rattle.std.proofs.lemmas.Bool.Decides.{nat_tests}
use Rattle.std.proofs.lemmas.List.{map-append, length-map}
use Rattle.std.proofs.lemmas.List.Concat.{flat_map-append}
use Rattle.std.proofs.lemmas.List.Folds.{list_any-append}
use Rattle.std.proofs.lemmas.List.Sums.{sum_by-append}
use Rattle.kmn_base.specs.declared.codes.Code.{Code}
use Rattle.kmn_base.specs.declared.codes.Code.TheVariants.{C16, C17, C18, C19, C21, C22}
use Rattle.kmn_base.specs.declared.limits.TheConstants.{CONTEXT_ITEMS, OUTPUT_ITEMS, STORE_ELEMENTS, ALL_ELEMENTS, STORES, RECORDS, DEADKEYS}
use Rattle.kmn_base.specs.declared.refusals.Refusal.{Refusal}
use Rattle.kmn_base.specs.Names.{same_name}
use Rattle.rule_model.specs.declared.program.SrcItem.{SrcItem}
use Rattle.rule_model.specs.declared.program.SrcItem.TheVariants as source
use Rattle.rule_model.specs.declared.program.RuleDef.{RuleDef}
use Rattle.rule_model.specs.declared.program.RuleKind.{RuleKind}
use Rattle.rule_model.specs.declared.program.RuleKind.TheVariants as kind
use Rattle.rule_model.specs.declared.program.StoreDef.{StoreDef}
use Rattle.rule_model.specs.declared.program.Program.{Program}
use Rattle.rule_model.specs.Tab.{distinct_onto}
use Rattle.rule_model.specs.Naming.{rule_items, is_dropped, all_rules, mark_names, key_names}
use Rattle.compile_laws.specs.Numbers.{item_values}
use Rattle.store_table.specs.First.{broken, at_line, earlier, first_of}
use Rattle.store_table.specs.Known.{Known, known, statement_elements}
use Rattle.store_table.proofs.Firsts.{earlier_later}
use Rattle.rule_checker.specs.declared.counting.StoreCounts.{StoreCounts}
use Rattle.rule_checker.specs.declared.totals.Totals.{Totals}
use Rattle.rule_checker.specs.declared.walking.Walk.{Walk}
use Rattle.rule_checker.specs.Limits.{Statement, OfStore, OfRule, in_line_order, line_of, items_of, values_of_statement, statement_size, store_size, record_count, records_of_statement, all_records, names_size, dictionary_size, sizes, have_many_elements, are_many_stores, have_many_marks, have_many_records, limit_code, statement_refusal, output_size}
use Rattle.rule_checker.specs.Cased.{codes_of_cased}
use Rattle.rule_checker.specs.Counting.{capped, total, count_of, output_count_of, with_stores, no_counts}
use Rattle.rule_checker.specs.Walking.{with_names, with_values, with_size, with_store_size, record_count_of, after_store, after_rule, store_count, passes_elements, totals_code, after_statement, walked, no_totals, no_walk}
use Rattle.rule_checker.proofs.Counted.{AreCounts, named_records, virtual_counted, items_count, output_counted, program_counts, one_more}
use Rattle.rule_checker.proofs.Gathered.{AreSums, Gains, gains_both, names_gain, values_gain, distinct_append, fold_push, any_push}

-- a walk that continues from the counts of earlier statements
module _ (counted : StoreCounts) (told : List Statement → Totals → Type 0) (code : List Statement → Statement → Option Code)
    (tells : (before : List Statement) (walk : Walk) (statement : Statement) → told before walk.totals
    → told (before ++ statement ∷ []) (after_statement counted walk statement).totals
    × ((after_statement counted walk statement).first ≡ earlier walk.first (at_line (line_of statement) (code (before ++ statement ∷ []) statement)))) where
  first_walked : (before : List Statement) (walk : Walk) (statements : List Statement) → told before walk.totals
      → (walked counted walk statements).first ≡ earlier walk.first (first_of (λ b s. at_line (line_of s) (code (b ++ s ∷ []) s)) before statements)
  first_walked before walk [] is = nothing walk.first
    where
      nothing : (o : Option Refusal) → o ≡ earlier o None
      nothing None = refl
      nothing (Some r) = refl
  first_walked before walk (s ∷ statements) is =
      let next = tells before walk s is in
      first_walked (before ++ s ∷ []) (after_statement counted walk s) statements next.0
      ∙ ap (λ first. earlier first (first_of (λ b t. at_line (line_of t) (code (b ++ t ∷ []) t)) (before ++ s ∷ []) statements)) next.1
      ∙ earlier_later walk.first (at_line (line_of s) (code (before ++ s ∷ []) s)) (first_of (λ b t. at_line (line_of t) (code (b ++ t ∷ []) t)) (before ++ s ∷ []) statements)

pub sum_append : (xs ys : List ℕ) → sum (xs ++ ys) ≡ sum xs + sum ys
sum_append xs ys = sum_by-append (λ x. x) xs ys

-- totals are the counts of the statements so far
pub record AreTotals (known : Known) (before : List Statement) (totals : Totals) : Type 0 where
  pub marks : totals.marks ≡ distinct_onto same_name [] (flat_map mark_names (flat_map items_of before))
  pub keys : totals.keys ≡ distinct_onto same_name [] (flat_map key_names (flat_map items_of before))
  pub values : totals.values ≡ distinct_onto bytes_eq [] (flat_map values_of_statement before)
  pub stores : totals.stores ≡ capped (length (flat_map (statement_size known) before))
  pub elements : totals.elements ≡ capped (sum (flat_map (statement_size known) before))
  pub has_large_store : totals.has_large_store ≡ list_any (nat_lt STORE_ELEMENTS) (flat_map (statement_size known) before)
  pub records : totals.records ≡ capped (all_records known before)
  pub sums : AreSums totals

pub flat_push : {X Y : Type 0} (f : X → List Y) (xs : List X) (x : X) → flat_map f (xs ++ x ∷ []) ≡ flat_map f xs ++ f x
flat_push f xs x = flat_map-append f xs (x ∷ []) ∙ ap (λ ys. flat_map f xs ++ ys) (append-nil (f x))

items_push : (f : SrcItem → List (List ℕ)) (before : List Statement) (statement : Statement)
    → flat_map f (flat_map items_of (before ++ statement ∷ [])) ≡ flat_map f (flat_map items_of before) ++ flat_map f (items_of statement)
items_push f before statement = ap (flat_map f) (flat_push items_of before statement) ∙ flat_map-append f (flat_map items_of before) (items_of statement)

more_seen : {X : Type 0} (same : X → X → Bool) (now seen all before here : List X) → now ≡ distinct_onto same seen here → seen ≡ distinct_onto same [] before → all ≡ before ++ here → now ≡ distinct_onto same [] all
more_seen same now seen all before here a b c = a ∙ ap (λ s. distinct_onto same s here) b ∙ sym (distinct_append same [] before here) ∙ ap (distinct_onto same []) (sym c)

module _ (known : Known) (counted : StoreCounts) (are : AreCounts counted known.cased known.stores) where
  records_of_key : (k : RuleKind) (key : Option SrcItem) → record_count_of counted k key ≡ capped (record_count known k key)
  records_of_key kind.Plain (Some (source.Key key)) = virtual_counted counted known.cased known.stores key key.code are refl
  records_of_key kind.Plain (Some (source.Any store)) = named_records counted known.cased known.stores store are
  records_of_key kind.Plain None = refl
  records_of_key kind.Plain (Some item) = refl
  records_of_key kind.OnMatch key = refl
  records_of_key kind.OnNoMatch key = refl

  records_push : (before : List Statement) (statement : Statement) → all_records known (before ++ statement ∷ []) ≡ all_records known before + records_of_statement known statement
  records_push before statement = ap sum (map-append (records_of_statement known) before (statement ∷ [])) ∙ fold_push 0 (map (records_of_statement known) before) (records_of_statement known statement)

  -- the names and the values of the items of a rule
  rule_gains : (totals : Totals) (rule : RuleDef) → Gains totals (with_values (with_names totals (rule_items rule)) (rule_items rule))
      (flat_map mark_names (rule_items rule) ++ []) (flat_map key_names (rule_items rule) ++ []) (flat_map item_values (rule_items rule))
  rule_gains totals rule =
      let named = with_names totals (rule_items rule) in
      gains_both totals named (with_values named (rule_items rule)) (flat_map mark_names (rule_items rule)) (flat_map key_names (rule_items rule)) [] [] [] (flat_map item_values (rule_items rule))
      (names_gain totals (rule_items rule)) (values_gain named (rule_items rule))

  pub totals_rule : (before : List Statement) (totals : Totals) (rule : RuleDef) → AreTotals known before totals → AreTotals known (before ++ OfRule rule ∷ []) (after_rule counted totals rule)
  totals_rule before totals rule told =
      let items = rule_items rule in
      let now = with_values (with_names totals items) items in
      let gains = rule_gains totals rule in
      let same : flat_map (statement_size known) (before ++ OfRule rule ∷ []) ≡ flat_map (statement_size known) before = flat_push (statement_size known) before (OfRule rule) ∙ append-nil (flat_map (statement_size known) before) in
      let marks : flat_map mark_names (flat_map items_of (before ++ OfRule rule ∷ [])) ≡ flat_map mark_names (flat_map items_of before) ++ (flat_map mark_names items ++ []) =
      items_push mark_names before (OfRule rule) ∙ ap (λ ns. flat_map mark_names (flat_map items_of before) ++ ns) (sym (append-nil (flat_map mark_names items))) in
      let keys : flat_map key_names (flat_map items_of (before ++ OfRule rule ∷ [])) ≡ flat_map key_names (flat_map items_of before) ++ (flat_map key_names items ++ []) =
      items_push key_names before (OfRule rule) ∙ ap (λ ns. flat_map key_names (flat_map items_of before) ++ ns) (sym (append-nil (flat_map key_names items))) in
      record {
        marks = more_seen same_name now.marks totals.marks _ (flat_map mark_names (flat_map items_of before)) (flat_map mark_names items ++ []) gains.marks told.marks marks;
        keys = more_seen same_name now.keys totals.keys _ (flat_map key_names (flat_map items_of before)) (flat_map key_names items ++ []) gains.keys told.keys keys;
        values = more_seen bytes_eq now.values totals.values _ (flat_map values_of_statement before) (flat_map item_values items) gains.values told.values (flat_push values_of_statement before (OfRule rule));
        stores = gains.stores ∙ told.stores ∙ ap (λ (ns : List ℕ). capped (length ns)) (sym same);
        elements = gains.elements ∙ told.elements ∙ ap (λ (ns : List ℕ). capped (sum ns)) (sym same);
        has_large_store = gains.has_large_store ∙ told.has_large_store ∙ ap (list_any (nat_lt STORE_ELEMENTS)) (sym same);
        records = (λ j. capped ((gains.records ∙ told.records) j + records_of_key rule.kind rule.key j)) ∙ one_more (all_records known before) (record_count known rule.kind rule.key) ∙ ap capped (sym (records_push before (OfRule rule)));
        sums = same_sums (gains.sums told.sums);
      }
    where
      same_sums : AreSums (with_values (with_names totals (rule_items rule)) (rule_items rule)) → AreSums (after_rule counted totals rule)
      same_sums h = record { key_characters = h.key_characters; value_elements = h.value_elements; has_large_value = h.has_large_value }

  -- the store of a statement
  record Sized (before : List Statement) (totals now : Totals) (more : List ℕ) : Type 0 where
    marks : now.marks ≡ totals.marks
    keys : now.keys ≡ totals.keys
    values : now.values ≡ totals.values
    records : now.records ≡ totals.records
    stores : now.stores ≡ capped (length (flat_map (statement_size known) before ++ more))
    elements : now.elements ≡ capped (sum (flat_map (statement_size known) before ++ more))
    has_large_store : now.has_large_store ≡ list_any (nat_lt STORE_ELEMENTS) (flat_map (statement_size known) before ++ more)
    sums : AreSums totals → AreSums now

  pub not_capped : (limit n : ℕ) → limit < 0xFFFF_FFFF → nat_lt limit (capped n) ≡ nat_lt limit n
  not_capped limit n h = grind (arith, nat_tests)

  sized : (before : List Statement) (totals : Totals) (count size : ℕ) → count ≡ capped size → AreTotals known before totals → (dropped : Bool)
      → Sized before totals (if dropped then totals else with_size totals count) (if dropped then [] else size ∷ [])
  sized before totals count size counts told true =
      let same : flat_map (statement_size known) before ≡ flat_map (statement_size known) before ++ [] = sym (append-nil (flat_map (statement_size known) before)) in
      record {
        marks = refl;
        keys = refl;
        values = refl;
        records = refl;
        stores = told.stores ∙ ap (λ (ns : List ℕ). capped (length ns)) same;
        elements = told.elements ∙ ap (λ (ns : List ℕ). capped (sum ns)) same;
        has_large_store = told.has_large_store ∙ ap (list_any (nat_lt STORE_ELEMENTS)) same;
        sums = λ h. h;
      }
  sized before totals count size counts told false =
      let stated = flat_map (statement_size known) before in
      record {
        marks = refl;
        keys = refl;
        values = refl;
        records = refl;
        stores = ap (λ n. capped (n + 1)) told.stores ∙ one_more (length stated) 1 ∙ ap capped (sym (length-append stated (size ∷ [])));
        elements = (λ j. capped (told.elements j + counts j)) ∙ one_more (sum stated) size ∙ ap capped (sym (fold_push 0 stated size));
        has_large_store = (λ j. told.has_large_store j || (ap (nat_lt STORE_ELEMENTS) counts ∙ not_capped STORE_ELEMENTS size (omega arith)) j) ∙ sym (any_push (nat_lt STORE_ELEMENTS) stated size);
        sums = λ h. record { key_characters = h.key_characters; value_elements = h.value_elements; has_large_value = h.has_large_value };
      }

  pub totals_store : (before : List Statement) (totals : Totals) (store : StoreDef) → AreTotals known before totals → AreTotals known (before ++ OfStore store ∷ []) (after_store counted totals store)
  totals_store before totals store told =
      let one = sized before totals (total (count_of counted) 0 store.items) (length (statement_elements known store))
      (items_count known.names counted known.cased known.stores are store.items) told (is_dropped store) in
      let first = with_store_size counted totals store in
      let now = after_store counted totals store in
      let gains = names_gain first store.items in
      let stated : flat_map (statement_size known) before ++ store_size known store ≡ flat_map (statement_size known) (before ++ OfStore store ∷ []) = sym (flat_push (statement_size known) before (OfStore store)) in
      record {
        marks = more_seen same_name now.marks first.marks _ (flat_map mark_names (flat_map items_of before)) (flat_map mark_names store.items) gains.marks (one.marks ∙ told.marks) (items_push mark_names before (OfStore store));
        keys = more_seen same_name now.keys first.keys _ (flat_map key_names (flat_map items_of before)) (flat_map key_names store.items) gains.keys (one.keys ∙ told.keys) (items_push key_names before (OfStore store));
        values = more_seen bytes_eq now.values first.values _ (flat_map values_of_statement before) [] gains.values (one.values ∙ told.values) (flat_push values_of_statement before (OfStore store));
        stores = gains.stores ∙ one.stores ∙ ap (λ (ns : List ℕ). capped (length ns)) stated;
        elements = gains.elements ∙ one.elements ∙ ap (λ (ns : List ℕ). capped (sum ns)) stated;
        has_large_store = gains.has_large_store ∙ one.has_large_store ∙ ap (list_any (nat_lt STORE_ELEMENTS)) stated;
        records = gains.records ∙ one.records ∙ told.records ∙ ap capped (sym (records_push before (OfStore store) ∙ add_zero (all_records known before)));
        sums = gains.sums (one.sums told.sums);
      }
    where
      add_zero : (n : ℕ) → n + 0 ≡ n
      add_zero n = omega arith

  -- the limits that are passed
  one_dictionary : (keys : List (List ℕ)) → length (dictionary_size keys) ≡ min 1 (length keys)
  one_dictionary [] = refl
  one_dictionary (name ∷ names) = omega arith

  any_dictionary : (keys : List (List ℕ)) → nat_lt STORE_ELEMENTS (capped (names_size keys) + capped (length keys - 1)) ≡ list_any (nat_lt STORE_ELEMENTS) (dictionary_size keys)
  any_dictionary [] = refl
  any_dictionary (name ∷ names) = large (names_size (name ∷ names)) (length names) (length (name ∷ names) - 1) (omega arith)
    where
      large : (a b c : ℕ) → c ≡ b → nat_lt STORE_ELEMENTS (capped a + capped c) ≡ (nat_lt STORE_ELEMENTS (a + b) || false)
      large a b c e = grind (arith, nat_tests)

  sum_dictionary : (keys : List (List ℕ)) → sum (dictionary_size keys) ≡ names_size keys + (length keys - 1)
  sum_dictionary [] = refl
  sum_dictionary (name ∷ names) = omega arith

  few_counted : (a k v : ℕ) → nat_lt STORES (capped a + min 1 k + capped v) ≡ nat_lt STORES (a + (min 1 k + v))
  few_counted a k v = grind (arith, nat_tests)

  much_counted : (a k n v : ℕ) → nat_lt ALL_ELEMENTS (capped a + (capped k + capped n) + capped v) ≡ nat_lt ALL_ELEMENTS (a + (k + n + v))
  much_counted a k n v = grind (arith, nat_tests)

  reordered : (ls lv d a : Bool) → (ls || (lv || (d || a))) ≡ ((ls || (d || lv)) || a)
  reordered true lv d a = refl
  reordered false true true a = refl
  reordered false true false a = refl
  reordered false false true a = refl
  reordered false false false a = refl

  module _ (through : List Statement) (totals : Totals) (told : AreTotals known through totals) where
    all_sizes : List ℕ
    all_sizes = flat_map (statement_size known) through ++ (dictionary_size totals.keys ++ map length totals.values)

    sizes_are : all_sizes ≡ sizes known through
    unfolding all_sizes
    sizes_are = λ j. flat_map (statement_size known) through ++ (dictionary_size (told.keys j) ++ map length (told.values j))

    pub few : nat_lt STORES (store_count totals) ≡ are_many_stores (sizes known through)
    unfolding all_sizes
    few =
        ap (λ n. nat_lt STORES (n + min 1 (length totals.keys) + capped (length totals.values))) told.stores
        ∙ few_counted (length (flat_map (statement_size known) through)) (length totals.keys) (length totals.values)
        ∙ ap (nat_lt STORES) (omega (
          arith,
          length-append (flat_map (statement_size known) through) (dictionary_size totals.keys ++ map length totals.values),
          length-append (dictionary_size totals.keys) (map length totals.values),
          length-map totals.values (length {A = ℕ}),
          one_dictionary totals.keys,
        )
        ∙ ap length sizes_are)

    pub much : passes_elements totals ≡ have_many_elements (sizes known through)
    unfolding all_sizes
    much =
        (λ j. told.has_large_store j || (told.sums.has_large_value j || (dictionary_large j || all_large j)))
        ∙ reordered (list_any (nat_lt STORE_ELEMENTS) (flat_map (statement_size known) through)) (list_any (nat_lt STORE_ELEMENTS) (map length totals.values))
        (list_any (nat_lt STORE_ELEMENTS) (dictionary_size totals.keys)) (nat_lt ALL_ELEMENTS (sum (flat_map (statement_size known) through ++ (dictionary_size totals.keys ++ map length totals.values))))
        ∙ ap (λ b. b || nat_lt ALL_ELEMENTS (sum (flat_map (statement_size known) through ++ (dictionary_size totals.keys ++ map length totals.values)))) (sym any_large)
        ∙ ap have_many_elements sizes_are
      where
        dictionary_large : nat_lt STORE_ELEMENTS (totals.key_characters + capped (length totals.keys - 1)) ≡ list_any (nat_lt STORE_ELEMENTS) (dictionary_size totals.keys)
        dictionary_large = ap (λ k. nat_lt STORE_ELEMENTS (k + capped (length totals.keys - 1))) told.sums.key_characters ∙ any_dictionary totals.keys

        all_large : nat_lt ALL_ELEMENTS (totals.elements + (totals.key_characters + capped (length totals.keys - 1)) + totals.value_elements)
            ≡ nat_lt ALL_ELEMENTS (sum (flat_map (statement_size known) through ++ (dictionary_size totals.keys ++ map length totals.values)))
        all_large =
            (λ j. nat_lt ALL_ELEMENTS (told.elements j + (told.sums.key_characters j + capped (length totals.keys - 1)) + told.sums.value_elements j))
            ∙ much_counted (sum (flat_map (statement_size known) through)) (names_size totals.keys) (length totals.keys - 1) (sum (map length totals.values))
            ∙ ap (nat_lt ALL_ELEMENTS) (sym (sum_append (flat_map (statement_size known) through) (dictionary_size totals.keys ++ map length totals.values)
            ∙ ap (λ n. sum (flat_map (statement_size known) through) + n) (sum_append (dictionary_size totals.keys) (map length totals.values) ∙ ap (λ n. n + sum (map length totals.values)) (sum_dictionary totals.keys))))

        any_large : list_any (nat_lt STORE_ELEMENTS) (flat_map (statement_size known) through ++ (dictionary_size totals.keys ++ map length totals.values))
            ≡ (list_any (nat_lt STORE_ELEMENTS) (flat_map (statement_size known) through) || (list_any (nat_lt STORE_ELEMENTS) (dictionary_size totals.keys) || list_any (nat_lt STORE_ELEMENTS) (map length totals.values)))
        any_large =
            list_any-append (nat_lt STORE_ELEMENTS) (flat_map (statement_size known) through) (dictionary_size totals.keys ++ map length totals.values)
            ∙ ap (λ b. list_any (nat_lt STORE_ELEMENTS) (flat_map (statement_size known) through) || b) (list_any-append (nat_lt STORE_ELEMENTS) (dictionary_size totals.keys) (map length totals.values))

    same_code : (context output : Bool) → totals_code totals context output
        ≡ broken ((C16, context) ∷ (C17, output) ∷ (C18, have_many_elements (sizes known through)) ∷ (C19, are_many_stores (sizes known through))
        ∷ (C21, have_many_marks through) ∷ (C22, have_many_records known through) ∷ [])
    same_code context output =
        λ j. broken ((C16, context) ∷ (C17, output) ∷ (C18, much j) ∷ (C19, few j) ∷ (C21, nat_lt DEADKEYS (length (told.marks j)))
        ∷ (C22, (ap (nat_lt RECORDS) told.records ∙ not_capped RECORDS (all_records known through) (omega arith)) j) ∷ [])

  tells : (before : List Statement) (walk : Walk) (statement : Statement) → AreTotals known before walk.totals
      → AreTotals known (before ++ statement ∷ []) (after_statement counted walk statement).totals
      × ((after_statement counted walk statement).first ≡ earlier walk.first (at_line (line_of statement) (limit_code known (before ++ statement ∷ []) statement)))
  tells before walk (OfStore store) told =
      let next = totals_store before walk.totals store told in
      (next, ap (λ code. earlier walk.first (at_line store.line code)) (same_code (before ++ OfStore store ∷ []) (after_store counted walk.totals store) next false false))
  tells before walk (OfRule rule) told =
      let next = totals_rule before walk.totals rule told in
      let context = nat_lt CONTEXT_ITEMS (length rule.context) in
      let size = output_size known.stores rule.output in
      let long : nat_lt OUTPUT_ITEMS (total (output_count_of counted) 0 rule.output) ≡ nat_lt OUTPUT_ITEMS size =
      ap (nat_lt OUTPUT_ITEMS) (output_counted counted known.cased known.stores are rule.output) ∙ not_capped OUTPUT_ITEMS size (omega arith) in (
        next,
        ap (λ output. earlier walk.first (at_line rule.line (totals_code (after_rule counted walk.totals rule) context output))) long
            ∙ ap (λ code. earlier walk.first (at_line rule.line code)) (same_code (before ++ OfRule rule ∷ []) (after_rule counted walk.totals rule) next context (nat_lt OUTPUT_ITEMS size)),
      )

  pub none_told : AreTotals known [] no_totals
  none_told = record { marks = refl; keys = refl; values = refl; stores = refl; elements = refl; has_large_store = refl; records = refl; sums = record { key_characters = refl; value_elements = refl; has_large_value = refl } }

  walk_finds_first : (statements : List Statement) → (walked counted no_walk statements).first ≡ first_of (statement_refusal known) [] statements
  walk_finds_first statements = first_walked counted (AreTotals known) (limit_code known) tells [] no_walk statements none_told

-- the walk over a program with the counts of its stores
pub first_passed : (program : Program) → (walked (with_stores (no_counts (codes_of_cased program.stores)) program.stores) no_walk (in_line_order program.stores (all_rules program))).first
    ≡ first_of (statement_refusal (known program)) [] (in_line_order program.stores (all_rules program))
unfolding known
first_passed program =
    walk_finds_first (known program) (with_stores (no_counts (codes_of_cased program.stores)) program.stores) (program_counts program) (in_line_order program.stores (all_rules program))
