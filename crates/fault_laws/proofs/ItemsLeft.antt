-- In the program whose limits are checked, items refuse no further statement other than system stores.
use Rattle.std.proofs.Common.{◌≡◌, ℕ, ◌⊎◌, inl, inr, Bool, true, false, cond, List, [], ◌∷◌, ◌++◌, map, Option, Some, None, refl, sym, ap, subst, ◌∙◌, append_assoc}
use Rattle.std.specs.Prelude.{nat_eq, not, ◌&&◌, filter, flat_map, option_to_list}
use Rattle.std.specs.List.{list_any, AllByRecursion}
use Rattle.std.proofs.lemmas.List.Concat.{flat_map-append}
use Rattle.std.proofs.lemmas.List.Folds.{list_any-append}
use Rattle.std.proofs.lemmas.Option.{same_Some}
use Rattle.kmn_base.specs.declared.codes.Code.{Code}
use Rattle.kmn_base.specs.declared.codes.Code.TheVariants.{C03}
use Rattle.kmn_base.specs.declared.refusals.Refusal.{Refusal}
use Rattle.kmn_lines.proofs.TextSizes.{clash}
use Rattle.rule_model.specs.declared.program.SrcItem.{SrcItem}
use Rattle.rule_model.specs.declared.program.StoreDef.{StoreDef}
use Rattle.rule_model.specs.declared.program.RuleDef.{RuleDef}
use Rattle.rule_model.specs.declared.program.GroupDef.{GroupDef}
use Rattle.rule_model.specs.declared.program.Program.{Program}
use Rattle.rule_model.specs.Naming.{elements_named, names_of, stores_of}
use Rattle.store_table.specs.First.{at_line, all_of}
use Rattle.store_table.specs.Known.{known, rule_options}
use Rattle.store_table.specs.Names.{is_named}
use Rattle.item_checker.specs.Items.{is_option, brings_no_character, store_code, store_refusal, rule_code, rule_refusal, rules_refusals, items_refusals}
use Rattle.rule_checker.proofs.Lists.{all_parts}
use Rattle.source_names.specs.Telling.{names_lacked, reported_causes}
use Rattle.source_faults.specs.Reading.{read_all, read_refusals}
use Rattle.source_faults.specs.Stubs.{code_at, is_refused, stub_group, stub_name, stub_rule, stub_store, stubbed, with_words}
use Rattle.source_faults.specs.Faults.{further}
use Rattle.fault_laws.specs.Laws.{OnlySystemStoresAreLeft, defined_program, has_system, items_left, last_program, refused_to_names}
use Rattle.fault_laws.proofs.Counts.{same_numbers}
use Rattle.fault_laws.proofs.NameLists.{either, first_true, named_append, named_none, second_true}
use Rattle.fault_laws.proofs.CausesLeft.{joined}
use Rattle.fault_laws.proofs.CodesAt.{code_first, code_second, line_refused, no_code, on_line, same_line}
use Rattle.fault_laws.proofs.NamesLeft.{stub_name_is}
use Rattle.fault_laws.proofs.OwnCodes.{is_second_store}
use Rattle.fault_laws.proofs.ItemCodes.{OtherCode, items_other}
use Rattle.fault_laws.proofs.FittingElements.{Fits, item_fits, named_fits, stores_fit}
use Rattle.fault_laws.proofs.FittingCodes.{rule_none, store_none}

abbrev Refused : List Refusal → Refusal → Type 0
Refused refused found = is_refused refused found.line ≡ true

each_refused : (refused all before found : List Refusal) → all ≡ before ++ found → AllByRecursion (Refused (refused ++ further refused all)) found
each_refused refused all before [] split = tt
each_refused refused all before (first ∷ found) split = (
  line_refused refused all first.line
      (ap (list_any (on_line first.line)) split ∙ list_any-append (on_line first.line) before (first ∷ found)
      ∙ second_true (list_any (on_line first.line) before) (list_any (on_line first.line) (first ∷ found))
      (first_true (nat_eq first.line first.line) (list_any (on_line first.line) found) (same_line first.line))),
  each_refused refused all (before ++ first ∷ []) found (split ∙ sym (append_assoc before (first ∷ []) found)),
)

pub other_filter : (test : Refusal → Bool) (found : List Refusal) → AllByRecursion OtherCode found → AllByRecursion OtherCode (filter test found)
other_filter test [] all = tt
other_filter test (first ∷ found) (here, rest) = by (test first) (other_filter test found rest)
  where
    by : (t : Bool) → AllByRecursion OtherCode (filter test found) → AllByRecursion OtherCode (cond t (first ∷ filter test found) (filter test found))
    by true again = (here, again)
    by false again = again

other_code : (found : List Refusal) → AllByRecursion OtherCode found → (line : ℕ) (code : Code) → code_at found line ≡ Some code → is_second_store code ≡ false
other_code [] all line code is = absurd (cc)
other_code (first ∷ found) (here, rest) line code is = by (nat_eq first.line line) is (other_code found rest line code)
  where
    by : (t : Bool) → cond t (Some first.code) (code_at found line) ≡ Some code → (code_at found line ≡ Some code → is_second_store code ≡ false) → is_second_store code ≡ false
    by true is again = sym (ap is_second_store (same_Some first.code code is)) ∙ here
    by false is again = again is

-- stubs keep their names if they are replaced again
stub_name_twice : (code : Code) (name : List ℕ) → stub_name code (stub_name code name) ≡ stub_name code name
stub_name_twice C03 name = refl
stub_name_twice code name = refl

stub_keeps : (code : Option Code) (store : StoreDef) → ((c : Code) → code ≡ Some c → is_second_store c ≡ false) → (stub_store code store).name ≡ store.name
stub_keeps None store other = refl
stub_keeps (Some code) store other = by (stub_name_is code store.name)
  where
    by : (stub_name code store.name ≡ store.name) ⊎ (code ≡ C03) → stub_name code store.name ≡ store.name
    by (inl same) = same
    by (inr is) = let wrong : true ≡ false = sym (ap is_second_store is) ∙ other code refl in absurd (cc)

module _ (told : List Refusal) (items : List Refusal) (others : AllByRecursion OtherCode items) where
  keeps_one : (code : Option Code) (store : StoreDef) → code_at told store.line ≡ code
      → (stub_store (code_at (told ++ items) (stub_store code store).line) (stub_store code store)).name ≡ (stub_store code store).name
  keeps_one None store is = stub_keeps (code_at (told ++ items) store.line) store (λ c e. other_code items others store.line c (sym (code_second told items store.line is) ∙ e))
  keeps_one (Some code) store is =
      ap (λ found. (stub_store found (stub_store (Some code) store)).name) (code_first told items store.line code is) ∙ stub_name_twice code store.name

  pub keeps_all : (stores : List StoreDef) → AllByRecursion (λ (store : StoreDef). (stub_store (code_at (told ++ items) store.line) store).name ≡ store.name)
      (map (λ (store : StoreDef). stub_store (code_at told store.line) store) stores)
  keeps_all [] = tt
  keeps_all (store ∷ stores) = (keeps_one (code_at told store.line) store refl, keeps_all stores)

-- no more stores are options in a program whose rules are replaced
module _ (refused : List Refusal) where
  abbrev stub_at : RuleDef → RuleDef
  stub_at rule = stub_rule (code_at refused rule.line) rule

  abbrev options_of : List RuleDef → List (List ℕ)
  options_of rules = flat_map rule_options rules

  rule_options_left : (code : Option Code) (rule : RuleDef) (name : List ℕ) → is_named (rule_options (stub_rule code rule)) name ≡ true → is_named (rule_options rule) name ≡ true
  rule_options_left None rule name h = h
  rule_options_left (Some code) rule name h = clash (is_named [] name) h (named_none name)

  named_joined : (a b c d : List (List ℕ)) (name : List ℕ) → (is_named a name ≡ true → is_named b name ≡ true) → (is_named c name ≡ true → is_named d name ≡ true)
      → is_named (a ++ c) name ≡ true → is_named (b ++ d) name ≡ true
  named_joined a b c d name first rest h = by (either (is_named a name) (is_named c name) (sym (named_append a c name) ∙ h))
    where
      by : (is_named a name ≡ true) ⊎ (is_named c name ≡ true) → is_named (b ++ d) name ≡ true
      by (inl here) = named_append b d name ∙ first_true (is_named b name) (is_named d name) (first here)
      by (inr there) = named_append b d name ∙ second_true (is_named b name) (is_named d name) (rest there)

  rules_options_left : (rules : List RuleDef) (name : List ℕ) → is_named (options_of (map stub_at rules)) name ≡ true → is_named (options_of rules) name ≡ true
  rules_options_left [] name h = h
  rules_options_left (rule ∷ rules) name h =
      named_joined (rule_options (stub_at rule)) (rule_options rule) (options_of (map stub_at rules)) (options_of rules) name
      (rule_options_left (code_at refused rule.line) rule name) (rules_options_left rules name) h

  groups_options_left : (groups : List GroupDef) (name : List ℕ)
      → is_named (options_of (flat_map (λ (group : GroupDef). group.rules) (map (stub_group refused) groups))) name ≡ true → is_named (options_of (flat_map (λ (group : GroupDef). group.rules) groups)) name ≡ true
  groups_options_left [] name h = h
  groups_options_left (group ∷ groups) name h =
      let later = flat_map (λ (g : GroupDef). g.rules) groups in
      let later_stubs = flat_map (λ (g : GroupDef). g.rules) (map (stub_group refused) groups) in
      ap (λ names. is_named names name) (flat_map-append rule_options group.rules later)
      ∙ named_joined (options_of (map stub_at group.rules)) (options_of group.rules) (options_of later_stubs) (options_of later) name
      (rules_options_left group.rules name) (groups_options_left groups name)
      (sym (ap (λ names. is_named names name) (flat_map-append rule_options (map stub_at group.rules) later_stubs)) ∙ h)

-- what items refuse is at a refused line, or a system store is at the line
abbrev Left : List Refusal → Program → Refusal → Type 0
Left refused program found = (is_refused refused found.line ≡ true) ⊎ (has_system program found.line ≡ true)

module _ (refused : List Refusal) (old : Program)
    (each : AllByRecursion (Refused refused) (items_refusals old))
    (keeps : AllByRecursion (λ (store : StoreDef). (stub_store (code_at refused store.line) store).name ≡ store.name) old.stores) where
  abbrev new : Program
  new = stubbed refused old

  abbrev stub_of : StoreDef → StoreDef
  stub_of store = stub_store (code_at refused store.line) store

  abbrev rule_stub : RuleDef → RuleDef
  rule_stub rule = stub_rule (code_at refused rule.line) rule

  option_left : (name : List ℕ) → is_option (known new) name ≡ true → is_option (known old) name ≡ true
  unfolding known
  option_left name h = groups_options_left refused old.groups name h

  store_left : (name : List ℕ) → Fits (elements_named (known new).stores name) (elements_named (known old).stores name)
  unfolding known stores_of
  store_left name =
      named_fits (names_of new) (names_of old) (stores_of new) (stores_of old)
      (stores_fit (names_of new) (names_of old) (λ (store : StoreDef). code_at refused store.line) old.stores [] [] keeps tt) name

  brings_left : (item : SrcItem) → brings_no_character (known new) item ≡ true → brings_no_character (known old) item ≡ true
  brings_left item = (item_fits (known new).names (known old).names (known new).stores (known old).stores store_left item).other

  -- the refusal of a statement at its line
  one_left : (line : ℕ) (code : Option Code) → (code ≡ None) ⊎ ((is_refused refused line ≡ true) ⊎ (has_system new line ≡ true)) → AllByRecursion (Left refused new) (option_to_list (at_line line code))
  one_left line None why = tt
  one_left line (Some code) (inl none) = absurd (cc)
  one_left line (Some code) (inr left) = (left, tt)

  not_refused : (line : ℕ) (code : Option Code) → is_refused refused line ≡ false → AllByRecursion (Refused refused) (option_to_list (at_line line code)) → code ≡ None
  not_refused line None free all = refl
  not_refused line (Some code) free (here, rest) = clash (is_refused refused line) here free

  ordinary_or : (store : StoreDef) (stores : List StoreDef) (before : List StoreDef) → new.stores ≡ before ++ store ∷ stores → (store.system ≡ 0) ⊎ (has_system new store.line ≡ true)
  ordinary_or store stores before split = by (nat_eq store.system 0) refl
    where
      test : StoreDef → Bool
      test other = nat_eq other.line store.line && not (nat_eq other.system 0)

      by : (t : Bool) → nat_eq store.system 0 ≡ t → (store.system ≡ 0) ⊎ (has_system new store.line ≡ true)
      by true is = inl (same_numbers store.system 0 is)
      by false is =
          inr (ap (list_any test) split ∙ list_any-append test before (store ∷ stores)
          ∙ second_true (list_any test before) (list_any test (store ∷ stores))
          (first_true (test store) (list_any test stores) (λ j. same_line store.line j && not (is j))))

  stub_line : (code : Option Code) (store : StoreDef) → (stub_store code store).line ≡ store.line
  stub_line None store = refl
  stub_line (Some code) store = refl

  store_why : (store : StoreDef) (more before : List StoreDef) → new.stores ≡ before ++ stub_of store ∷ more
      → AllByRecursion (Refused refused) (option_to_list (at_line store.line (store_code (known old) store)))
      → (store_code (known new) (stub_of store) ≡ None) ⊎ ((is_refused refused (stub_of store).line ≡ true) ⊎ (has_system new (stub_of store).line ≡ true))
  store_why store more before split all = by (is_refused refused store.line) refl
    where
      free_why : is_refused refused store.line ≡ false → (store.system ≡ 0) ⊎ (has_system new store.line ≡ true)
          → (store_code (known new) store ≡ None) ⊎ ((is_refused refused store.line ≡ true) ⊎ (has_system new store.line ≡ true))
      free_why free (inl ordinary) =
          inl (store_none (known new) (known old) option_left store_left brings_left store ordinary (not_refused store.line (store_code (known old) store) free all))
      free_why free (inr system) = inr (inr system)

      by : (t : Bool) → is_refused refused store.line ≡ t
          → (store_code (known new) (stub_of store) ≡ None) ⊎ ((is_refused refused (stub_of store).line ≡ true) ⊎ (has_system new (stub_of store).line ≡ true))
      by true is = inr (inl (ap (is_refused refused) (stub_line (code_at refused store.line) store) ∙ is))
      by false free =
          subst (λ code. (store_code (known new) (stub_store code store) ≡ None) ⊎ ((is_refused refused (stub_store code store).line ≡ true) ⊎ (has_system new (stub_store code store).line ≡ true)))
          (sym (no_code refused store.line free))
          (free_why free (ordinary_or store more before (subst (λ code. new.stores ≡ before ++ stub_store code store ∷ more) (no_code refused store.line free) split)))

  stores_left : (before stores : List StoreDef) → new.stores ≡ before ++ map stub_of stores → (earlier : List StoreDef)
      → AllByRecursion (Refused refused) (all_of (store_refusal (known old)) earlier stores)
      → AllByRecursion (Left refused new) (all_of (store_refusal (known new)) before (map stub_of stores))
  stores_left before [] split earlier all = tt
  stores_left before (store ∷ stores) split earlier all =
      let parts = all_parts (Refused refused) (option_to_list (at_line store.line (store_code (known old) store))) (all_of (store_refusal (known old)) (earlier ++ store ∷ []) stores) all in
      joined (Left refused new) (option_to_list (at_line (stub_of store).line (store_code (known new) (stub_of store)))) (all_of (store_refusal (known new)) (before ++ stub_of store ∷ []) (map stub_of stores))
      (one_left (stub_of store).line (store_code (known new) (stub_of store)) (store_why store (map stub_of stores) before split parts.0))
      (stores_left (before ++ stub_of store ∷ []) stores (split ∙ sym (append_assoc before (stub_of store ∷ []) (map stub_of stores))) (earlier ++ store ∷ []) parts.1)

  rule_line : (code : Option Code) (rule : RuleDef) → (stub_rule code rule).line ≡ rule.line
  rule_line None rule = refl
  rule_line (Some code) rule = refl

  rule_why : (rule : RuleDef) → AllByRecursion (Refused refused) (option_to_list (at_line rule.line (rule_code (known old) rule.kind rule)))
      → (rule_code (known new) (rule_stub rule).kind (rule_stub rule) ≡ None) ⊎ ((is_refused refused (rule_stub rule).line ≡ true) ⊎ (has_system new (rule_stub rule).line ≡ true))
  rule_why rule all = by (is_refused refused rule.line) refl
    where
      by : (t : Bool) → is_refused refused rule.line ≡ t
          → (rule_code (known new) (rule_stub rule).kind (rule_stub rule) ≡ None) ⊎ ((is_refused refused (rule_stub rule).line ≡ true) ⊎ (has_system new (rule_stub rule).line ≡ true))
      by true is = inr (inl (ap (is_refused refused) (rule_line (code_at refused rule.line) rule) ∙ is))
      by false free =
          subst (λ code. (rule_code (known new) (stub_rule code rule).kind (stub_rule code rule) ≡ None) ⊎ ((is_refused refused (stub_rule code rule).line ≡ true) ⊎ (has_system new (stub_rule code rule).line ≡ true)))
          (sym (no_code refused rule.line free))
          (inl (rule_none (known new) (known old) option_left store_left rule.kind rule (not_refused rule.line (rule_code (known old) rule.kind rule) free all)))

  rules_left : (before earlier rules : List RuleDef) → AllByRecursion (Refused refused) (all_of (rule_refusal (known old)) earlier rules)
      → AllByRecursion (Left refused new) (all_of (rule_refusal (known new)) before (map rule_stub rules))
  rules_left before earlier [] all = tt
  rules_left before earlier (rule ∷ rules) all =
      let parts = all_parts (Refused refused) (option_to_list (at_line rule.line (rule_code (known old) rule.kind rule))) (all_of (rule_refusal (known old)) (earlier ++ rule ∷ []) rules) all in
      joined (Left refused new) (option_to_list (at_line (rule_stub rule).line (rule_code (known new) (rule_stub rule).kind (rule_stub rule)))) (all_of (rule_refusal (known new)) (before ++ rule_stub rule ∷ []) (map rule_stub rules))
      (one_left (rule_stub rule).line (rule_code (known new) (rule_stub rule).kind (rule_stub rule)) (rule_why rule parts.0))
      (rules_left (before ++ rule_stub rule ∷ []) (earlier ++ rule ∷ []) rules parts.1)

  groups_left : (groups : List GroupDef) → AllByRecursion (Refused refused) (flat_map (rules_refusals (known old)) groups)
      → AllByRecursion (Left refused new) (flat_map (rules_refusals (known new)) (map (stub_group refused) groups))
  groups_left [] all = tt
  groups_left (group ∷ groups) all =
      let parts = all_parts (Refused refused) (rules_refusals (known old) group) (flat_map (rules_refusals (known old)) groups) all in
      joined (Left refused new) (rules_refusals (known new) (stub_group refused group)) (flat_map (rules_refusals (known new)) (map (stub_group refused) groups))
      (rules_left [] [] group.rules parts.0) (groups_left groups parts.1)

  all_left : AllByRecursion (Left refused new) (items_refusals new)
  unfolding items_refusals
  all_left =
      let parts = all_parts (Refused refused) (all_of (store_refusal (known old)) [] old.stores) (flat_map (rules_refusals (known old)) old.groups) each in
      joined (Left refused new) (all_of (store_refusal (known new)) [] new.stores) (flat_map (rules_refusals (known new)) new.groups)
      (stores_left [] old.stores refl [] parts.0) (groups_left old.groups parts.1)

none_kept : (refused : List Refusal) (program : Program) (found : List Refusal) → AllByRecursion (Left refused program) found
    → filter (λ (r : Refusal). not (has_system program r.line)) (further refused found) ≡ []
none_kept refused program [] all = refl
none_kept refused program (first ∷ found) (here, rest) = by (is_refused refused first.line) refl here (none_kept refused program found rest)
  where
    test : Refusal → Bool
    test r = not (has_system program r.line)

    more : List Refusal
    more = further refused found

    by : (t : Bool) → is_refused refused first.line ≡ t → Left refused program first → filter test more ≡ [] → filter test (cond (not t) (first ∷ more) more) ≡ []
    by true is left again = again
    by false is (inl at) again = clash (is_refused refused first.line) at is
    by false is (inr system) again = ap (λ t. cond (not t) (first ∷ filter test more) (filter test more)) system ∙ again

items_done : (refused : List Refusal) (program : Program)
    → filter (λ (found : Refusal). not (has_system (last_program refused program) found.line)) (items_left refused program) ≡ []
items_done refused program =
    let told = refused_to_names refused program in
    let old = defined_program refused program in
    let items = further told (items_refusals old) in
    none_kept (told ++ items) (stubbed (told ++ items) old) (items_refusals (stubbed (told ++ items) old))
    (all_left (told ++ items) old (each_refused told (items_refusals old) [] (items_refusals old) refl)
    (keeps_all told items (other_filter (λ (found : Refusal). not (is_refused told found.line)) (items_refusals old) (items_other old)) (with_words program (names_lacked (reported_causes program))).stores))

pub only_system_stores_are_left : OnlySystemStoresAreLeft
only_system_stores_are_left source = items_done (read_refusals (read_all source)) (with_words (read_all source).program (read_all source).words)
