-- If a program is accepted and was written as a source writes it, no part of a file that the program compiles to has a cause.
use Rattle.std.proofs.Common.{◌≡◌, ℕ, ◌+◌, ◌≤◌, Bool, true, false, not, ◌||◌, List, [], ◌∷◌, ◌++◌, length, map, Option, Some, None, refl, sym, ◌∙◌, ap, subst, arith}
use Rattle.std.specs.Prelude.{All, drop, flat_map, nat_eq, slice_get, take, unwrap_or}
use Rattle.std.specs.List.{list_all, list_any, AllByRecursion, join_with_byte}
use Rattle.std.specs.Str.{bytes_eq, chars, str_to_ascii_lowercase}
use Rattle.std.specs.Cmp.Lexicographic.{bytes_decides, nat_list_eq_equiv}
use Rattle.std.proofs.lemmas.Bool.{and_parts, or_parts, eqb-true, cond-true}
use Rattle.std.proofs.lemmas.List.{take-append-le}
use Rattle.std.proofs.lemmas.List.Elements.{All-nil, All-cons, All-head, All-tail, All-append}
use Rattle.std.proofs.lemmas.Option.{same_Some}
use Rattle.kmn_base.specs.declared.items.Element.TheVariants as element
use Rattle.kmn_base.specs.declared.limits.TheConstants.{FILE_BYTES}
use Rattle.kmn_base.specs.Names.{same_name}
use Rattle.kmn_base.proofs.Elements.{All-append_parts}
use Rattle.rule_model.specs.declared.program.RuleDef.{RuleDef}
use Rattle.rule_model.specs.declared.program.GroupDef.{GroupDef}
use Rattle.rule_model.specs.declared.program.Program.{Program}
use Rattle.rule_model.specs.declared.tables.Store.{Store}
use Rattle.rule_model.specs.declared.tables.Group.{Group}
use Rattle.rule_model.specs.declared.tables.Tables.{Tables}
use Rattle.rule_model.specs.Naming.{names_of, stores_of, rule_items, all_rules}
use Rattle.rule_model.specs.Tab.{tab_options, is_dictionary}
use Rattle.compile_laws.specs.Numbers.{values_of, value_store, dictionary_stores, numbers_of}
use Rattle.compile_laws.specs.Compiles.{Compiles, file_group}
use Rattle.compile_laws.specs.Ordered.{ordered_group, compiled_tables}
use Rattle.compile_laws.specs.WellNamed.{IsWellNamed, is_known_group, is_word}
use Rattle.compile_laws.proofs.PlacedItems.{first_place}
use Rattle.compile_laws.proofs.Options.{options-same}
use Rattle.compile_laws.proofs.Dictionary.{dictionary-same}
use Rattle.compile_laws.proofs.Keyboards.{tab_names, src_dictionary}
use Rattle.compile_laws.proofs.Known.{has_values, group_known}
use Rattle.compile_laws.proofs.Ordered.{tables_are_only_ones}
use Rattle.compile_laws.proofs.Stores.{linked}
use Rattle.compile_laws.proofs.Values.{values_known}
use Rattle.kmx_format.specs.File.{file_of}
use Rattle.kmx_format.specs.TablesOf.{tables_of, group_without_places, no_places}
use Rattle.kmx_format.proofs.FileLaw.{law}
use Rattle.store_table.specs.Known.{known}
use Rattle.item_checker.specs.Items.{is_option, rule_code, rule_refusal, rules_refusal}
use Rattle.rule_checker.specs.Refused.{IsRead, refused}
use Rattle.rule_checker.proofs.Unrefused.{none_at_line, Stands, none_first}
use Rattle.rule_checker.proofs.Lists.{all_true}
use Rattle.rule_checker.proofs.Accepted.{IsUnrefused, unrefused}
use Rattle.rule_checker.proofs.Named.{well_named}
use Rattle.rule_checker.proofs.Numbers.{has_keys, has_marks, keys_appear, marks_appear, rule_items_pass}
use Rattle.rule_checker.proofs.Reading.{AreReadItems, all_rules_read}
use Rattle.rule_checker.proofs.Written.{tables_written}
use Rattle.rule_checker.proofs.Placeless.{placeless_options}
use Rattle.decompile_program.specs.Items.{Names, store_called}
use Rattle.decompile_program.specs.Names.{named_stores}
use Rattle.decompile_program.specs.Back.{free_stores, mark_stores, key_stores, names_for}
use Rattle.decompile_program.proofs.Apart.{same-turned}
use Rattle.decompile_program.proofs.OptionNames.{option-named}
use Rattle.kmn_parser.specs.Names.{is_source_name}
use Rattle.kmn_items.specs.Words.{is_system_name}
use Rattle.rule_model.specs.declared.program.SrcItem.{SrcItem}
use Rattle.kmx_decompiler.specs.Causes.{is_dictionary_name, are_repeated, is_unspelled_element, is_first_dictionary, is_unspelled_dictionary, is_unspelled_option, is_unspelled_store}
use Rattle.kmx_decompiler.specs.Places.{cause_places}
use Rattle.kmx_decompiler.specs.Written.{IsWrittenRule, WasWritten}
use Rattle.kmx_decompiler.proofs.CompiledElements.{IsFineStore, characters_fine, stated_fine}
use Rattle.kmx_decompiler.proofs.CompiledRules.{AreNamesOf, IsSaidRule, group_fine}
use Rattle.kmx_decompiler.proofs.CompiledStores.{all_at, IsGoodStore, KeepsOwnName, keeps, no_elements, each_sayable, first_dictionary, stated_at, is_ordinary_store, at_first, named_ordinary}
use Rattle.kmx_decompiler.proofs.SourceWords.{names_apart, dictionary_fine, names_good}
use Rattle.kmx_decompiler.proofs.NoPlaces.{no_causes}
use Rattle.kmx_decompiler.proofs.Sayable.{IsSayableGroup, AreSayable}
use Rattle.kmx_decompiler.proofs.StatedStores.{IsStatedStore, all_stated, characters_alone, system_fine}
use Rattle.kmx_decompiler.proofs.UsedOptions.{option_used, none_before}
use Rattle.kmx_decompiler.proofs.Conjunctions.{fails-when}
use Rattle.kmx_decompiler.proofs.GroupRules.{rules_of}
use Rattle.kmn_lines.proofs.TextSizes.{clash}

module _ (program : Program) (read : IsRead program) (accepted : refused program ≡ None) (written : WasWritten program) (tables : Tables) (compiles : Compiles program tables) where
  abbrev whole : IsUnrefused program
  whole = unrefused program accepted

  abbrev named : IsWellNamed program
  named = well_named program read accepted

  abbrev placeless : Tables
  placeless = no_places tables

  abbrev names : Names
  names = names_for placeless

  keys : names.keys ≡ (names_of program).keys
  keys = sym (tab_names tables) ∙ (dictionary-same program tables named compiles ∙ src_dictionary program)

  -- ---- stores

  abbrev Good : Store → Type 0
  Good = IsGoodStore program names keys

  stated-good : (stores : List Store) → All (IsStatedStore (known program)) stores → All (IsFineStore program names keys) stores → list_any is_dictionary stores ≡ false → All Good stores
  stated-good [] stated fine none = All-nil Good
  stated-good (s ∷ stores) stated fine none =
      let parts = or_parts (is_dictionary s) (list_any is_dictionary stores) none in
      All-cons Good s stores
      (record {
        fine = All-head (IsFineStore program names keys) s stores fine;
        dictionary = λ e. clash (is_dictionary s) e parts.0;
        system = system_fine (known program) s (All-head (IsStatedStore (known program)) s stores stated);
      })
      (stated-good stores (All-tail (IsStatedStore (known program)) s stores stated) (All-tail (IsFineStore program names keys) s stores fine) parts.1)

  values-good : (values : List (List ℕ)) → All Good (map value_store values)
  values-good [] = All-nil Good
  values-good (value ∷ values) =
      All-cons Good (value_store value) (map value_store values)
      (record { fine = characters_fine program names keys value; dictionary = λ e. absurd (cc); system = refl }) (values-good values)

  dictionary-good : (own : List (List ℕ)) → list_all is_word own ≡ true → own ≡ (names_of program).keys → All Good (dictionary_stores own)
  dictionary-good [] w e = All-nil Good
  dictionary-good (name ∷ more) w e =
      All-cons Good (record { system = 34; name = []; elements = map element.Char (chars (join_with_byte 32 (name ∷ more))) }) []
      (record {
        fine = characters_fine program names keys (chars (join_with_byte 32 (name ∷ more)));
        dictionary = λ t. dictionary_fine name more w (ap (list_all is_dictionary_name) e ∙ names_good program written) (ap (are_repeated []) e ∙ names_apart program);
        system = refl;
      }) (All-nil Good)

  all-good : All Good tables.stores
  all-good =
      subst (All Good) (sym compiles.stores)
      (All-append Good (stores_of program) (dictionary_stores (names_of program).keys ++ map value_store (values_of program))
      (stated-good (stores_of program) (all_stated program read whole written) (stated_fine program names keys whole written) named.stores)
      (All-append Good (dictionary_stores (names_of program).keys) (map value_store (values_of program)) (dictionary-good (names_of program).keys named.words refl) (values-good (values_of program))))

  -- ---- options

  differing : (a : List ℕ) (s other : Store) → same_name s.name a ≡ true → same_name other.name a ≡ false → same_name s.name other.name ≡ false
  unfolding same_name
  differing a s other same apart =
      nat_list_eq_equiv.congr (str_to_ascii_lowercase s.name) (str_to_ascii_lowercase a) (str_to_ascii_lowercase other.name) same ∙ same-turned other.name a apart

  all-differ : (a : List ℕ) (s : Store) → same_name s.name a ≡ true → (stores : List Store) → AllByRecursion (λ (t : Store). same_name t.name a ≡ false) stores
      → AllByRecursion (λ (t : Store). same_name s.name t.name ≡ false) stores
  all-differ a s same [] h = tt
  all-differ a s same (t ∷ stores) h = (differing a s t same h.0, all-differ a s same stores h.1)

  option-fine : (n : ℕ) (s : Store) → slice_get tables.stores n ≡ Some s → list_any (nat_eq n) (tab_options placeless) ≡ true → is_unspelled_option names n s ≡ false
  option-fine n s at h =
      let mine : list_any (nat_eq n) (tab_options tables) ≡ true = ap (list_any (nat_eq n)) (sym (placeless_options tables)) ∙ h in
      let used = option_used program written n (sym (options-same program tables named compiles (nat_eq n)) ∙ mine) in
      let a : List ℕ = used.name in
      let more : List Store = dictionary_stores (names_of program).keys ++ map value_store (values_of program) in
      let first = first_place (λ (t : Store). same_name t.name a) (stores_of program) n used.first in
      let there = at_first program read whole written tables compiles.stores (λ (t : Store). same_name t.name a) n first in
      let item : first.item ≡ s = same_Some first.item s (sym there ∙ at) in
      let stated = subst (IsStatedStore (known program)) item (stated_at program read whole written n first.item first.reads) in
      let same = subst (λ (t : Store). same_name t.name a ≡ true) item first.passes in
      let system = is_ordinary_store program read whole written s stated a used.used.named same in
      let ordinary : s.system ≡ 0 = eqb-true s.system 0 system in
      let own = stated.written.name (sym stated.system ∙ ordinary) in
      let keeps_it : KeepsOwnName (named_stores placeless) n s =
      record {
        ordinary = ordinary;
        uses = option-named placeless n h;
        plain = ap is_system_name stated.name ∙ own.ordinary;
        source = ap is_source_name stated.name ∙ own.named.read;
      } in
      let within = first.within in
      let before : take n tables.stores ≡ take n (stores_of program) =
      ap (take n) compiles.stores ∙ take-append-le n (stores_of program) more (omega (arith, within)) in
      let apart : AllByRecursion (λ (t : Store). same_name s.name t.name ≡ false) (take n tables.stores) =
      subst (AllByRecursion (λ (t : Store). same_name s.name t.name ≡ false)) (sym before)
      (all-differ a s same (take n (stores_of program)) (none_before (λ (t : Store). same_name t.name a) (stores_of program) n used.first)) in
      let called : store_called names n ≡ s.name =
      ap (λ (o : Option (Option (List ℕ))). unwrap_or (unwrap_or o None) [])
      (keeps (named_stores placeless) s (drop (length (mark_stores placeless ++ key_stores placeless)) (free_stores placeless)) [] 0 tables.stores n n (omega arith) at keeps_it refl apart) in
      let kept : bytes_eq (store_called names n) s.name ≡ true = (bytes_decides (store_called names n) s.name).1 called in
      let zero_system : nat_eq stated.statement.system 0 ≡ true = ap (λ (m : ℕ). nat_eq m 0) (sym stated.system ∙ ordinary) in
      let want = cond-true (nat_eq stated.statement.system 0) _ _ zero_system ∙ (ap (is_option (known program)) (sym stated.name) ∙ used.used.option s.name same) in
      let alone = characters_alone (known program) s stated want in
      λ i. not (system i) || (not (kept i) || alone i)

  store-fine : (n : ℕ) (s : Store) → slice_get tables.stores n ≡ Some s → is_unspelled_store names (tab_options placeless) n s ≡ false
  store-fine n s at =
      let good = all_at Good tables.stores all-good n s at in
      λ i. no_elements (is_unspelled_element names) s.elements good.fine i
      || (fails-when (is_first_dictionary tables.stores n) (is_unspelled_dictionary s.elements) (λ e. good.dictionary (first_dictionary tables.stores n s at e)) i
      || (fails-when (list_any (nat_eq n) (tab_options placeless)) (is_unspelled_option names n s) (λ e. option-fine n s at e) i || good.system i))

  stores-sayable : AreSayable names (tab_options placeless) 0 tables.stores
  stores-sayable =
      each_sayable names (tab_options placeless) 0 tables.stores
      (λ n s at. let e : n ≡ 0 + n = omega arith in subst (λ (k : ℕ). is_unspelled_store names (tab_options placeless) k s ≡ false) e (store-fine n s at))

  -- ---- groups

  are-names : AreNamesOf program names
  are-names = record {
    keys = keys;
    ordinary = named_ordinary program read whole written tables compiles.stores;
    valued = (linked program tables named compiles).same_value;
    fine = stated_fine program names keys whole written;
  }

  abbrev Said : RuleDef → Type 0
  Said = IsSaidRule program read whole names are-names

  abbrev Passes : (SrcItem → Bool) → RuleDef → Type 0
  Passes test rule = list_all test (rule_items rule) ≡ true

  rules-said : (rules : List RuleDef) → All IsWrittenRule rules → All AreReadItems rules → All (Passes (has_keys program)) rules → All (Passes (has_marks program)) rules
      → AllByRecursion (Stands (rule_refusal (known program))) rules → AllByRecursion Said rules
  rules-said [] ok is keys_of marks_of codes = tt
  rules-said (rule ∷ rules) ok is keys_of marks_of codes = (
    record {
      written = All-head IsWrittenRule rule rules ok;
      items = All-head AreReadItems rule rules is;
      keys = All-head (Passes (has_keys program)) rule rules keys_of;
      marks = All-head (Passes (has_marks program)) rule rules marks_of;
      code = none_at_line rule.line (rule_code (known program) rule.kind rule) codes.0.1;
    },
    rules-said rules (All-tail IsWrittenRule rule rules ok) (All-tail AreReadItems rule rules is) (All-tail (Passes (has_keys program)) rule rules keys_of) (All-tail (Passes (has_marks program)) rule rules marks_of) codes.1,
  )

  abbrev made : GroupDef → Group
  made group = ordered_group (file_group (numbers_of program) group)

  groups-sayable : (groups : List GroupDef) → list_all (is_known_group program) groups ≡ true → list_all (λ (g : GroupDef). list_all (λ r. list_all (has_values program) (rule_items r)) g.rules) groups ≡ true
      → All IsWrittenRule (flat_map rules_of groups) → All AreReadItems (flat_map rules_of groups) → All (Passes (has_keys program)) (flat_map rules_of groups) → All (Passes (has_marks program)) (flat_map rules_of groups)
      → AllByRecursion (Stands (rules_refusal (known program))) groups → AllByRecursion (IsSayableGroup names) (map group_without_places (map made groups))
  groups-sayable [] stated values ok is keys_of marks_of codes = tt
  groups-sayable (group ∷ groups) stated values ok is keys_of marks_of codes =
      let s = and_parts (is_known_group program group) (list_all (is_known_group program) groups) stated in
      let v = and_parts (list_all (λ r. list_all (has_values program) (rule_items r)) group.rules) (list_all (λ (g : GroupDef). list_all (λ r. list_all (has_values program) (rule_items r)) g.rules) groups) values in
      let o = All-append_parts IsWrittenRule group.rules (flat_map rules_of groups) ok in
      let r = All-append_parts AreReadItems group.rules (flat_map rules_of groups) is in
      let k = All-append_parts (Passes (has_keys program)) group.rules (flat_map rules_of groups) keys_of in
      let m = All-append_parts (Passes (has_marks program)) group.rules (flat_map rules_of groups) marks_of in (
        group_fine program read whole names are-names group (group_known program group s.0 v.0)
            (rules-said group.rules o.0 r.0 k.0 m.0 (none_first (rule_refusal (known program)) [] group.rules codes.0.1)),
        groups-sayable groups s.1 v.1 o.1 r.1 k.1 m.1 codes.1,
      )

  compiled-sayable : AllByRecursion (IsSayableGroup names) (map group_without_places (map made program.groups))
  compiled-sayable =
      groups-sayable program.groups named.groups (values_known program) written.rules (all_rules_read program.groups read.statements.groups)
      (all_true (λ (rule : RuleDef). list_all (has_keys program) (rule_items rule)) (all_rules program) (rule_items_pass (has_keys program) program (keys_appear program)))
      (all_true (λ (rule : RuleDef). list_all (has_marks program) (rule_items rule)) (all_rules program) (rule_items_pass (has_marks program) program (marks_appear program)))
      (none_first (rules_refusal (known program)) [] program.groups whole.rule_items)

  groups-are : tables.groups ≡ map made program.groups
  unfolding compiled_tables
  groups-are = ap (λ (t : Tables). t.groups) (tables_are_only_ones program tables read.order.own compiles)

  tables-sayable : AllByRecursion (IsSayableGroup names) placeless.groups
  tables-sayable = subst (λ (groups : List Group). AllByRecursion (IsSayableGroup names) (map group_without_places groups)) (sym groups-are) compiled-sayable

  no-causes-in : (bytes : List ℕ) → tables_of bytes ≡ placeless → cause_places bytes ≡ []
  no-causes-in bytes is =
      no_causes bytes
      (subst (λ (t : Tables). AreSayable (names_for t) (tab_options t) 0 t.stores) (sym is) stores-sayable)
      (subst (λ (t : Tables). AllByRecursion (IsSayableGroup (names_for t)) t.groups) (sym is) tables-sayable)

pub no_causes_compiled : (program : Program) (tables : Tables) (picture : List ℕ) → IsRead program → refused program ≡ None → WasWritten program → Compiles program tables
    → length (file_of tables picture) ≤ FILE_BYTES → cause_places (file_of tables picture) ≡ []
no_causes_compiled program tables picture read accepted written compiles small =
    no-causes-in program read accepted written tables compiles (file_of tables picture) (law tables picture (tables_written program tables read accepted compiles) small)
