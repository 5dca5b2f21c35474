-- A program and its tables have the same options.
use Rattle.std.proofs.Common.{◌≡◌, ℕ, suc, ◌+◌, ◌<◌, ◌≤◌, Bool, true, false, ◌&&◌, ◌||◌, List, [], ◌∷◌, ◌++◌, length, map, Option, Some, None, refl, ap, sym, ◌∙◌, arith, is_some, if◌then◌else◌, append-nil}
use Rattle.std.specs.Prelude.{nat_eq, find, filter, flat_map, option_to_list, position, unwrap_or}
use Rattle.std.specs.List.{list_all, list_any, AllZip, AllByRecursion}
use Rattle.std.proofs.lemmas.Bool.{and_parts, or_from, false≢true, ne_eqb, cond_both}
use Rattle.std.proofs.lemmas.List.{nil_from_length}
use Rattle.std.proofs.lemmas.List.Concat.{flat_map-append}
use Rattle.std.proofs.lemmas.List.Folds.{list_any-append}
use Rattle.std.proofs.lemmas.List.Sorted.{list_any-IsPermutation}
use Rattle.std.proofs.Math.Bool.{or-false}
use Rattle.kmn_base.specs.declared.items.Element.{Element}
use Rattle.kmn_base.specs.declared.items.Element.TheVariants as element
use Rattle.kmn_base.specs.declared.keys.RuleKey.{RuleKey}
use Rattle.kmn_base.specs.declared.keys.RuleKey.TheVariants as key
use Rattle.kmn_base.specs.Names.{same_name}
use Rattle.kmn_base.proofs.Elements.{any_flat_map}
use Rattle.rule_model.specs.declared.program.Program.{Program}
use Rattle.rule_model.specs.declared.program.GroupDef.{GroupDef}
use Rattle.rule_model.specs.declared.program.RuleDef.{RuleDef}
use Rattle.rule_model.specs.declared.program.SrcItem.{SrcItem}
use Rattle.rule_model.specs.declared.program.SrcItem.TheVariants as source
use Rattle.rule_model.specs.declared.tables.Out.{Out}
use Rattle.rule_model.specs.declared.tables.Rule.{Rule}
use Rattle.rule_model.specs.declared.tables.Store.{Store}
use Rattle.rule_model.specs.declared.tables.Group.{Group}
use Rattle.rule_model.specs.declared.tables.Tables.{Tables}
use Rattle.rule_model.specs.Match.{element_at}
use Rattle.rule_model.specs.Hold.{key_of_element}
use Rattle.rule_model.specs.Naming.{stores_of, elements_named, rule_items}
use Rattle.rule_model.specs.Tab.{pattern_options, output_options, rule_options, group_options, tab_options}
use Rattle.rule_model.specs.Src.{cased_keys, pattern_uses, output_uses, rule_uses, group_uses, numbers_named, src_options, is_plain, is_on_match, is_on_nomatch}
use Rattle.compile_laws.specs.Numbers.{numbers_of, number_of_store}
use Rattle.compile_laws.specs.Compiles.{Compiles, IsOrderedGroup, AreOrderedGroups, file_pattern, file_output, file_outputs, or_nul, element_outs, element_outs_if_any, has_halves, half_key, file_record, key_records, records_from, own_key, keyed_records, rule_records, statement_outputs, file_group}
use Rattle.compile_laws.specs.WellNamed.{IsWellNamed, is_known_pattern, is_known_output, is_known_key, is_known_group, is_fixed, are_keys}
use Rattle.compile_laws.proofs.Known.{KnownRule, KnownStatement, KnownGroup, group_known, has_values}
use Rattle.compile_laws.proofs.Values.{values_known}
use Rattle.compile_laws.proofs.PlacedItems.{first_place}

-- an optional number that is present, as a list
listed : (o : Option ℕ) → is_some o ≡ true → unwrap_or o 0 ∷ [] ≡ option_to_list o ++ []
listed None h = absurd (false≢true h)
listed (Some n) h = refl

element-options : (e : Option Element) → flat_map output_options (element_outs_if_any e) ≡ []
element-options None = refl
element-options (Some (element.Char c)) = refl
element-options (Some (element.Mark m)) = refl
element-options (Some (element.Key flags code)) = refl

elements-options : (es : List Element) → flat_map output_options (flat_map element_outs es) ≡ []
elements-options [] = refl
elements-options (element.Char c ∷ es) = elements-options es
elements-options (element.Mark m ∷ es) = elements-options es
elements-options (element.Key flags code ∷ es) = elements-options es

index-options : (b : Bool) (e : Option Element) (s k : ℕ) → flat_map output_options (if b then element_outs_if_any e else Out.Index s k ∷ []) ≡ []
index-options true e s k = element-options e
index-options false e s k = refl

nul-options : (outs : List Out) → flat_map output_options (or_nul outs) ≡ flat_map output_options outs
nul-options [] = refl
nul-options (out ∷ outs) = refl

module _ (p : Program) where
  -- the numbers of the stores with these names
  abbrev pub numbers : List (List ℕ) → List ℕ
  numbers names = flat_map (numbers_named (stores_of p)) names

  pattern-options : (x : SrcItem) → is_known_pattern p x ≡ true → pattern_options (file_pattern (numbers_of p) x) ≡ numbers (pattern_uses x)
  pattern-options (source.Equal s v) known = listed (position (λ (store : Store). same_name store.name s) (stores_of p)) known
  pattern-options (source.Unequal s v) known = listed (position (λ (store : Store). same_name store.name s) (stores_of p)) known
  pattern-options x known = refl

  context-options : (xs : List SrcItem) → list_all (is_known_pattern p) xs ≡ true → flat_map pattern_options (map (file_pattern (numbers_of p)) xs) ≡ numbers (flat_map pattern_uses xs)
  context-options [] known = refl
  context-options (x ∷ xs) known =
      let k = and_parts (is_known_pattern p x) (list_all (is_known_pattern p) xs) known in
      (λ i. pattern-options x k.0 i ++ context-options xs k.1 i) ∙ sym (flat_map-append (numbers_named (stores_of p)) (pattern_uses x) (flat_map pattern_uses xs))

  output-options : (n : ℕ) (place : Option ℕ) (x : SrcItem) → is_known_output p n x ≡ true → flat_map output_options (file_output (numbers_of p) n place x) ≡ numbers (output_uses x)
  output-options n place (source.Index s k) known = index-options (nat_eq k (n + 1)) (element_at (elements_named (stores_of p) s) place) (number_of_store (numbers_of p) s) k
  output-options n place (source.Outs s) known = elements-options (elements_named (stores_of p) s)
  output-options n place (source.Set s v) known = listed (position (λ (store : Store). same_name store.name s) (stores_of p)) known
  output-options n place (source.Save s) known = listed (position (λ (store : Store). same_name store.name s) (stores_of p)) known
  output-options n place (source.Reset s) known = listed (position (λ (store : Store). same_name store.name s) (stores_of p)) known
  output-options n place x known = refl

  items-options : (n : ℕ) (place : Option ℕ) (xs : List SrcItem) → list_all (is_known_output p n) xs ≡ true →
      flat_map output_options (flat_map (file_output (numbers_of p) n place) xs) ≡ numbers (flat_map output_uses xs)
  items-options n place [] known = refl
  items-options n place (x ∷ xs) known =
      let k = and_parts (is_known_output p n x) (list_all (is_known_output p n) xs) known in
      flat_map-append output_options (file_output (numbers_of p) n place x) (flat_map (file_output (numbers_of p) n place) xs)
      ∙ ((λ i. output-options n place x k.0 i ++ items-options n place xs k.1 i) ∙ sym (flat_map-append (numbers_named (stores_of p)) (output_uses x) (flat_map output_uses xs)))

  outputs-options : (n : ℕ) (place : Option ℕ) (xs : List SrcItem) → list_all (is_known_output p n) xs ≡ true → flat_map output_options (file_outputs (numbers_of p) n place xs) ≡ numbers (flat_map output_uses xs)
  outputs-options n place xs known = nul-options (flat_map (file_output (numbers_of p) n place) xs) ∙ items-options n place xs known

  record-options : (using_keys : Bool) (r : RuleDef) → KnownRule p using_keys r → (place : Option ℕ) (half : ℕ) (k : RuleKey) → rule_options (file_record (numbers_of p) r place half k) ≡ numbers (rule_uses r)
  record-options using_keys r known place half k =
      (λ i. context-options r.context known.context i ++ outputs-options (length r.context) place r.output known.output i)
      ∙ sym (flat_map-append (numbers_named (stores_of p)) (flat_map pattern_uses r.context) (flat_map output_uses r.output))

  module _ (q : ℕ → Bool) where
    again : (a : Bool) (xs : List ℕ) → list_any q xs ≡ a → (rest : Bool) → (a || rest) ≡ a → (a || (list_any q xs || rest)) ≡ a
    again true xs e rest h = refl
    again false xs e rest h = (λ i. e i || rest) ∙ h

    twice : (a : Bool) → (a || a) ≡ a
    twice true = refl
    twice false = refl

    -- each record of a key uses the rule's options
    key-options : (using_keys : Bool) (r : RuleDef) → KnownRule p using_keys r → (place : Option ℕ) (k : RuleKey) (rest : List Rule) →
        (list_any q (numbers (rule_uses r)) || list_any q (flat_map rule_options rest)) ≡ list_any q (numbers (rule_uses r)) →
        list_any q (flat_map rule_options (key_records (numbers_of p) r place k ++ rest)) ≡ list_any q (numbers (rule_uses r))
    key-options using_keys r known place k rest h =
        let uses : Bool = list_any q (numbers (rule_uses r)) in
        let x : Rule = file_record (numbers_of p) r place 0 (half_key 0 k) in
        let y : Rule = file_record (numbers_of p) r place 1 (half_key 1 k) in
        let z : Rule = file_record (numbers_of p) r place 0 k in
        cond_both (has_halves (cased_keys p) k) (x ∷ y ∷ []) (z ∷ []) (λ xs. list_any q (flat_map rule_options (xs ++ rest)) ≡ uses)
        (λ _. one 0 (half_key 0 k) (y ∷ rest) (also uses (list_any q (flat_map rule_options (y ∷ rest))) (one 1 (half_key 1 k) rest h)))
        (λ _. one 0 k rest h)
      where
        also : (a b : Bool) → b ≡ a → (a || b) ≡ a
        also true b e = refl
        also false b e = e

        one : (half : ℕ) (l : RuleKey) (more : List Rule) → (list_any q (numbers (rule_uses r)) || list_any q (flat_map rule_options more)) ≡ list_any q (numbers (rule_uses r)) →
            list_any q (flat_map rule_options (file_record (numbers_of p) r place half l ∷ more)) ≡ list_any q (numbers (rule_uses r))
        one half l more e =
            list_any-append q (rule_options (file_record (numbers_of p) r place half l)) (flat_map rule_options more)
            ∙ ((λ i. list_any q (record-options using_keys r known place half l i) || list_any q (flat_map rule_options more)) ∙ e)

    store-options : (using_keys : Bool) (r : RuleDef) → KnownRule p using_keys r → (n : ℕ) (es : List Element) →
        (list_any q (numbers (rule_uses r)) || list_any q (flat_map rule_options (records_from (numbers_of p) r n es))) ≡ list_any q (numbers (rule_uses r))
    store-options using_keys r known n [] = or-false (list_any q (numbers (rule_uses r)))
    store-options using_keys r known n (e ∷ es) =
        let k = unwrap_or (key_of_element e) key.Any in
        (λ i. list_any q (numbers (rule_uses r)) || key-options using_keys r known (Some n) k (records_from (numbers_of p) r (n + 1) es) (store-options using_keys r known (n + 1) es) i)
        ∙ twice (list_any q (numbers (rule_uses r)))

    first-options : (using_keys : Bool) (r : RuleDef) → KnownRule p using_keys r → (es : List Element) → are_keys es ≡ true →
        list_any q (flat_map rule_options (records_from (numbers_of p) r 0 es)) ≡ list_any q (numbers (rule_uses r))
    first-options using_keys r known [] keys = absurd (false≢true keys)
    first-options using_keys r known (e ∷ es) keys =
        key-options using_keys r known (Some 0) (unwrap_or (key_of_element e) key.Any) (records_from (numbers_of p) r (0 + 1) es) (store-options using_keys r known (0 + 1) es)

    keyed-options : (using_keys : Bool) (r : RuleDef) → KnownRule p using_keys r → (item : Option SrcItem) → is_known_key p using_keys item ≡ true →
        list_any q (flat_map rule_options (keyed_records (numbers_of p) r item)) ≡ list_any q (numbers (rule_uses r))
    keyed-options using_keys r known (Some (source.Any s)) keyed =
        let whole = and_parts using_keys (is_fixed p s && are_keys (elements_named (stores_of p) s)) keyed in
        first-options using_keys r known (elements_named (stores_of p) s) (and_parts (is_fixed p s) (are_keys (elements_named (stores_of p) s)) whole.1).1
    keyed-options using_keys r known item keyed =
        ap (λ xs. list_any q (flat_map rule_options xs)) (sym (append-nil (key_records (numbers_of p) r None (own_key (numbers_of p) item))))
        ∙ key-options using_keys r known None (own_key (numbers_of p) item) [] (or-false (list_any q (numbers (rule_uses r))))

    rules-options : (using_keys : Bool) (rs : List RuleDef) → AllByRecursion (KnownRule p using_keys) rs →
        list_any q (flat_map rule_options (flat_map (rule_records (numbers_of p)) rs)) ≡ list_any q (numbers (flat_map rule_uses rs))
    rules-options using_keys [] known = refl
    rules-options using_keys (r ∷ rs) known =
        ap (list_any q) (flat_map-append rule_options (rule_records (numbers_of p) r) (flat_map (rule_records (numbers_of p)) rs))
        ∙ (list_any-append q (flat_map rule_options (rule_records (numbers_of p) r)) (flat_map rule_options (flat_map (rule_records (numbers_of p)) rs))
        ∙ ((λ i. keyed-options using_keys r known.0 r.key known.0.key i || rules-options using_keys rs known.1 i)
        ∙ (sym (list_any-append q (numbers (rule_uses r)) (numbers (flat_map rule_uses rs)))
        ∙ ap (list_any q) (sym (flat_map-append (numbers_named (stores_of p)) (rule_uses r) (flat_map rule_uses rs))))))

    statement-options : (o : Option RuleDef) → KnownStatement p o → flat_map output_options (statement_outputs (numbers_of p) o) ≡ numbers (flat_map rule_uses (option_to_list o))
    statement-options None known = refl
    statement-options (Some r) known =
        let bare : rule_uses r ≡ flat_map output_uses r.output = λ i. flat_map pattern_uses (nil_from_length r.context known.2 i) ++ flat_map output_uses r.output in
        outputs-options 0 None r.output known.0 ∙ ap numbers (sym (append-nil (rule_uses r) ∙ bare))

    group-options : (g : GroupDef) → KnownGroup p g → (h : Group) → IsOrderedGroup (file_group (numbers_of p) g) h → list_any q (group_options h) ≡ list_any q (numbers (group_uses g))
    group-options g known h o =
        let plain = flat_map rule_uses (filter is_plain g.rules) in
        let on_match = flat_map rule_uses (option_to_list (find is_on_match g.rules)) in
        let on_nomatch = flat_map rule_uses (option_to_list (find is_on_nomatch g.rules)) in
        let records : list_any q (flat_map rule_options h.rules) ≡ list_any q (numbers plain) =
        any_flat_map q rule_options h.rules
        ∙ (sym (list_any-IsPermutation (λ x. list_any q (rule_options x)) (flat_map (rule_records (numbers_of p)) (filter is_plain g.rules)) h.rules o.records)
        ∙ (sym (any_flat_map q rule_options (flat_map (rule_records (numbers_of p)) (filter is_plain g.rules)))
        ∙ rules-options g.using_keys (filter is_plain g.rules) known.rules)) in
        let matched : flat_map output_options h.on_match ≡ numbers on_match = ap (flat_map output_options) o.on_match ∙ statement-options (find is_on_match g.rules) known.on_match in
        let unmatched : flat_map output_options h.on_nomatch ≡ numbers on_nomatch = ap (flat_map output_options) o.on_nomatch ∙ statement-options (find is_on_nomatch g.rules) known.on_nomatch in
        list_any-append q (flat_map rule_options h.rules) (flat_map output_options h.on_match ++ flat_map output_options h.on_nomatch)
        ∙ ((λ i. records i || list_any q (matched i ++ unmatched i))
        ∙ (sym (list_any-append q (numbers plain) (numbers on_match ++ numbers on_nomatch))
        ∙ ap (list_any q) (sym (flat_map-append (numbers_named (stores_of p)) plain (on_match ++ on_nomatch)
        ∙ ap (λ ns. numbers plain ++ ns) (flat_map-append (numbers_named (stores_of p)) on_match on_nomatch)))))

    groups-options : (gs : List GroupDef) → AllByRecursion (KnownGroup p) gs → (hs : List Group) → AllZip IsOrderedGroup (map (file_group (numbers_of p)) gs) hs →
        list_any q (flat_map group_options hs) ≡ list_any q (numbers (flat_map group_uses gs))
    groups-options [] known [] zip = refl
    groups-options [] known (h ∷ hs) zip = absurd zip
    groups-options (g ∷ gs) known [] zip = absurd zip
    groups-options (g ∷ gs) known (h ∷ hs) zip =
        list_any-append q (group_options h) (flat_map group_options hs)
        ∙ ((λ i. group-options g known.0 h zip.0 i || groups-options gs known.1 hs zip.1 i)
        ∙ (sym (list_any-append q (numbers (group_uses g)) (numbers (flat_map group_uses gs)))
        ∙ ap (list_any q) (sym (flat_map-append (numbers_named (stores_of p)) (group_uses g) (flat_map group_uses gs)))))

  -- there are no options past the stores
  named_within : (n : ℕ) (o : Option ℕ) → ((k : ℕ) → o ≡ Some k → k < n) → (m : ℕ) → n ≤ m → list_any (nat_eq m) (option_to_list o) ≡ false
  named_within n None below m past = refl
  named_within n (Some k) below m past =
      let less = below k refl in
      or_from (nat_eq m k) false (ne_eqb m k (λ e. omega arith)) refl

  numbers_within : (names : List (List ℕ)) (m : ℕ) → length (stores_of p) ≤ m → list_any (nat_eq m) (numbers names) ≡ false
  numbers_within [] m past = refl
  numbers_within (name ∷ names) m past =
      list_any-append (nat_eq m) (numbers_named (stores_of p) name) (numbers names)
      ∙ or_from _ _
      (named_within (length (stores_of p)) (position (λ (store : Store). same_name store.name name) (stores_of p))
      (λ k e. (first_place (λ (store : Store). same_name store.name name) (stores_of p) k e).within) m past)
      (numbers_within names m past)

  pub options-within : (m : ℕ) → length (stores_of p) ≤ m → list_any (nat_eq m) (src_options p) ≡ false
  unfolding src_options
  options-within m past = numbers_within (flat_map group_uses p.groups) m past

  groups_known : (gs : List GroupDef) → list_all (is_known_group p) gs ≡ true → list_all (λ (g : GroupDef). list_all (λ r. list_all (has_values p) (rule_items r)) g.rules) gs ≡ true → AllByRecursion (KnownGroup p) gs
  groups_known [] known valued = tt
  groups_known (g ∷ gs) known valued =
      let k = and_parts (is_known_group p g) (list_all (is_known_group p) gs) known in
      let v = and_parts (list_all (λ r. list_all (has_values p) (rule_items r)) g.rules) _ valued in
      (group_known p g k.0 v.0, groups_known gs k.1 v.1)

pub ordered_zip : (xs ys : List Group) → AreOrderedGroups xs ys → AllZip IsOrderedGroup xs ys
ordered_zip [] [] h = tt
ordered_zip [] (y ∷ ys) h = absurd (omega (arith, h.count))
ordered_zip (x ∷ xs) [] h = absurd (omega (arith, h.count))
ordered_zip (x ∷ xs) (y ∷ ys) h =
    (h.each 0 x (omega arith), ordered_zip xs ys (record { count = omega (arith, h.count); each = λ k d less. h.each (suc k) d (omega arith) }))

-- a number is an option of the tables exactly where it is one of the program
pub options-same : (p : Program) (t : Tables) → IsWellNamed p → Compiles p t → (q : ℕ → Bool) → list_any q (tab_options t) ≡ list_any q (src_options p)
unfolding src_options tab_options
options-same p t ok c q =
    groups-options p q p.groups (groups_known p p.groups ok.groups (values_known p)) t.groups (ordered_zip (map (file_group (numbers_of p)) p.groups) t.groups c.groups)
