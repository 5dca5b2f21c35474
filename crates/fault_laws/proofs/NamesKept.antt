-- In the program whose limits are checked, names refuse no further statement.
use Rattle.std.proofs.Common.{◌≡◌, ℕ, zero, suc, ◌+◌, ◌<◌, ◌≤◌, ◌⊎◌, inl, inr, Bool, true, false, List, [], ◌∷◌, ◌++◌, map, Option, Some, None, refl, sym, ap, subst, ◌∙◌, if◌then◌else◌, append_assoc, arith}
use Rattle.std.specs.Prelude.{not, flat_map}
use Rattle.std.specs.List.{AllByRecursion}
use Rattle.std.proofs.lemmas.List.{map-append}
use Rattle.kmn_base.specs.Rising.{times}
use Rattle.kmn_base.specs.declared.codes.Code.{Code}
use Rattle.kmn_base.specs.declared.codes.Code.TheVariants.{C04}
use Rattle.kmn_base.specs.declared.refusals.Refusal.{Refusal}
use Rattle.kmn_lines.proofs.TextSizes.{clash}
use Rattle.rule_model.specs.declared.program.StoreDef.{StoreDef}
use Rattle.rule_model.specs.declared.program.GroupDef.{GroupDef}
use Rattle.rule_model.specs.declared.program.Program.{Program}
use Rattle.rule_model.specs.Naming.{is_dropped}
use Rattle.kmn_parser.specs.SourceLaws.{group_lines}
use Rattle.store_table.specs.Names.{is_named, kept_name, store_names, group_names}
use Rattle.item_checker.specs.Items.{items_refusals}
use Rattle.rule_checker.proofs.Lists.{all_parts}
use Rattle.source_names.specs.declared.causes.Cause.{Cause}
use Rattle.source_names.specs.declared.causes.Cause.TheVariants as because
use Rattle.source_names.specs.Causes.{broken_if, caused, store_causes, group_causes, each_of, begin_faults, store_faults, group_faults, rules_faults, name_causes}
use Rattle.source_names.specs.Telling.{is_lacked, names_lacked, reported_causes}
use Rattle.source_faults.specs.Stubs.{code_at, is_refused, stub_group, stub_group_name, stub_store, stubbed, with_words}
use Rattle.source_faults.specs.Faults.{further}
use Rattle.source_faults.specs.Reading.{read_all, read_refusals}
use Rattle.fault_laws.specs.Laws.{NamesStayDefined, defined_program, last_program, names_left_last, refused_to_names}
use Rattle.fault_laws.proofs.Counts.{count_at, count-filter, count-items-at, further_none, not_refused_before, stated_at, tick, times-append}
use Rattle.fault_laws.proofs.RefusedOnce.{quiet_causes, stated_stubbed, stated_words, stub_group_lines}
use Rattle.fault_laws.proofs.NameLists.{named_none}
use Rattle.fault_laws.proofs.CausesLeft.{At, Known, Follows, joined, store_on}
use Rattle.fault_laws.proofs.NamesLeft.{all_rules_at, group_pushed, store_pushed}
use Rattle.fault_laws.proofs.CodesAt.{code_first, code_second, no_code, no_code_at}
use Rattle.fault_laws.proofs.Reported.{mapped}
use Rattle.fault_laws.proofs.OwnCodes.{IsApart, here_once}
use Rattle.fault_laws.proofs.AllNamed.{HasOwnNames, at_refused, none_or_zero, nothing_left, read_ready}
use Rattle.fault_laws.proofs.ItemsLeft.{keeps_all, other_filter}
use Rattle.fault_laws.proofs.ItemCodes.{items_other}

-- nothing is lacked if nothing is reported
free_cause : (why : Cause) → is_lacked [] why ≡ false
free_cause (because.NoStore name) = named_none name
free_cause (because.NoGroup name) = named_none name
free_cause (because.Broken code) = refl

same_follows : (refused : List Refusal) (cause : Option Cause) → Follows refused [] cause cause
same_follows refused cause why is = (why, is, free_cause why)

still_refused : (refused more : List Refusal) (line : ℕ) → is_refused refused line ≡ true → is_refused (refused ++ more) line ≡ true
still_refused refused more line is = by (is_refused (refused ++ more) line) refl
  where
    by : (t : Bool) → is_refused (refused ++ more) line ≡ t → is_refused (refused ++ more) line ≡ true
    by true e = e
    by false e = clash (is_refused refused line) is (not_refused_before refused more line e)

module _ (refused : List Refusal) where
  abbrev stub_of : StoreDef → StoreDef
  stub_of store = stub_store (code_at refused store.line) store

  abbrev Keeps : StoreDef → Type 0
  Keeps store = (stub_of store).name ≡ store.name

  abbrev KeepsGroup : GroupDef → Type 0
  KeepsGroup group = stub_group_name (code_at refused group.line) group.name ≡ group.name

  abbrev Refused : ℕ → Type 0
  Refused line = is_refused refused line ≡ true

  dropped_same : (code : Option Code) (store : StoreDef) → is_dropped (stub_store code store) ≡ is_dropped store
  dropped_same None store = refl
  dropped_same (Some code) store = refl

  line_same : (code : Option Code) (store : StoreDef) → (stub_store code store).line ≡ store.line
  line_same None store = refl
  line_same (Some code) store = refl

  kept_same : (store : StoreDef) → Keeps store → kept_name (stub_of store) ≡ kept_name store
  kept_same store keep = λ j. if dropped_same (code_at refused store.line) store j then [] else keep j ∷ []

  stores_same : (stores : List StoreDef) → AllByRecursion Keeps stores → store_names (map stub_of stores) ≡ store_names stores
  stores_same [] keeps = refl
  stores_same (store ∷ stores) (keep, keeps) = λ j. kept_same store keep j ++ stores_same stores keeps j

  groups_same : (groups : List GroupDef) → AllByRecursion KeepsGroup groups → group_names (map (stub_group refused) groups) ≡ group_names groups
  groups_same [] keeps = refl
  groups_same (group ∷ groups) (keep, keeps) = λ j. keep j ∷ groups_same groups keeps j

  -- the causes of stores among the same names
  store_kept : (stores before after : List (List ℕ)) (store : StoreDef) (t : Bool) → is_refused refused store.line ≡ t → after ≡ before
      → AllByRecursion (At refused []) (store_causes stores before store) → AllByRecursion (At refused []) (store_causes stores after (stub_of store))
  store_kept stores before after store true at same all =
      store_on Refused stores after (stub_of store) (ap (is_refused refused) (line_same (code_at refused store.line) store) ∙ at)
  store_kept stores before after store false free same all =
      subst (λ code. AllByRecursion (At refused []) (store_causes stores after (stub_store code store))) (sym (no_code refused store.line free))
      (subst (λ names. AllByRecursion (At refused []) (store_causes stores names store)) (sym same) all)

  stores_kept : (names : List (List ℕ)) (before after stores : List StoreDef) → store_names after ≡ store_names before → AllByRecursion Keeps stores
      → AllByRecursion (At refused []) (each_of (store_faults names) before stores) → AllByRecursion (At refused []) (each_of (store_faults names) after (map stub_of stores))
  stores_kept names before after [] same keeps all = tt
  stores_kept names before after (store ∷ stores) same (keep, keeps) all =
      let parts = all_parts (At refused []) (store_causes names (store_names before) store) (each_of (store_faults names) (before ++ store ∷ []) stores) all in
      joined (At refused []) (store_causes names (store_names after) (stub_of store)) (each_of (store_faults names) (after ++ stub_of store ∷ []) (map stub_of stores))
      (store_kept names (store_names before) (store_names after) store (is_refused refused store.line) refl same parts.0)
      (stores_kept names (before ++ store ∷ []) (after ++ stub_of store ∷ []) stores
      (store_pushed after (stub_of store) ∙ (λ j. same j ++ kept_same store keep j) ∙ sym (store_pushed before store)) keeps parts.1)

  -- the causes of groups with the same names
  group_kept : (before after : List (List ℕ)) (group : GroupDef) → after ≡ before → KeepsGroup group
      → AllByRecursion (At refused []) (group_causes before group) → AllByRecursion (At refused []) (group_causes after (stub_group refused group))
  unfolding group_causes
  group_kept before after group same keep all =
      subst (AllByRecursion (At refused [])) (sym (λ j. caused group.line (broken_if (is_named (same j) (keep j)) C04))) all

  groups_kept : (before after groups : List GroupDef) → group_names after ≡ group_names before → AllByRecursion KeepsGroup groups
      → AllByRecursion (At refused []) (each_of group_faults before groups) → AllByRecursion (At refused []) (each_of group_faults after (map (stub_group refused) groups))
  groups_kept before after [] same keeps all = tt
  groups_kept before after (group ∷ groups) same (keep, keeps) all =
      let parts = all_parts (At refused []) (group_causes (group_names before) group) (each_of group_faults (before ++ group ∷ []) groups) all in
      joined (At refused []) (group_causes (group_names after) (stub_group refused group)) (each_of group_faults (after ++ stub_group refused group ∷ []) (map (stub_group refused) groups))
      (group_kept (group_names before) (group_names after) group same keep parts.0)
      (groups_kept (before ++ group ∷ []) (after ++ stub_group refused group ∷ []) groups
      (group_pushed after (stub_group refused group) ∙ (λ j. same j ++ keep j ∷ []) ∙ sym (group_pushed before group)) keeps parts.1)

  -- all causes of a program with these stubs
  pub kept_at : (old : Program) → AllByRecursion Keeps old.stores → AllByRecursion KeepsGroup old.groups
      → AllByRecursion (At refused []) (name_causes old) → AllByRecursion (At refused []) (name_causes (stubbed refused old))
  unfolding name_causes
  kept_at old keeps group_keeps all =
      let stores = store_names old.stores in
      let groups = group_names old.groups in
      let first = all_parts (At refused []) (each_of (begin_faults groups) [] old.begins)
      (each_of (store_faults stores) [] old.stores ++ (each_of group_faults [] old.groups ++ flat_map (rules_faults stores groups) old.groups)) all in
      let second = all_parts (At refused []) (each_of (store_faults stores) [] old.stores)
      (each_of group_faults [] old.groups ++ flat_map (rules_faults stores groups) old.groups) first.1 in
      let third = all_parts (At refused []) (each_of group_faults [] old.groups) (flat_map (rules_faults stores groups) old.groups) second.1 in
      let rules = all_rules_at refused [] stores stores groups groups (λ item. same_follows refused _) old.groups
      (mapped (At refused []) (Known refused []) (λ fault at. inl at) (flat_map (rules_faults stores groups) old.groups) third.1) in
      let whole = joined (At refused []) (each_of (begin_faults groups) [] old.begins)
      (each_of (store_faults stores) [] (map stub_of old.stores) ++ (each_of group_faults [] (map (stub_group refused) old.groups) ++ flat_map (rules_faults stores groups) (map (stub_group refused) old.groups))) first.0
      (joined (At refused []) (each_of (store_faults stores) [] (map stub_of old.stores))
      (each_of group_faults [] (map (stub_group refused) old.groups) ++ flat_map (rules_faults stores groups) (map (stub_group refused) old.groups)) (stores_kept stores [] [] old.stores refl keeps second.0)
      (joined (At refused []) (each_of group_faults [] (map (stub_group refused) old.groups)) (flat_map (rules_faults stores groups) (map (stub_group refused) old.groups))
      (groups_kept [] [] old.groups refl group_keeps third.0) rules)) in
      subst (λ names. AllByRecursion (At refused []) (each_of (begin_faults names) [] old.begins
      ++ (each_of (store_faults (store_names (map stub_of old.stores))) [] (map stub_of old.stores)
      ++ (each_of group_faults [] (map (stub_group refused) old.groups) ++ flat_map (rules_faults (store_names (map stub_of old.stores)) names) (map (stub_group refused) old.groups)))))
      (sym (groups_same old.groups group_keeps))
      (subst (λ names. AllByRecursion (At refused []) (each_of (begin_faults groups) [] old.begins
      ++ (each_of (store_faults names) [] (map stub_of old.stores)
      ++ (each_of group_faults [] (map (stub_group refused) old.groups) ++ flat_map (rules_faults names groups) (map (stub_group refused) old.groups)))))
      (sym (stores_same old.stores keeps)) whole)

-- groups that are replaced again keep their names, since no item is refused at the line of a group
group_kept_again : (told items : List Refusal) (group : GroupDef) → code_at items group.line ≡ None → KeepsGroup (told ++ items) (stub_group told group)
group_kept_again told items group free = by (code_at told group.line) refl
  where
    by : (code : Option Code) → code_at told group.line ≡ code
        → stub_group_name (code_at (told ++ items) group.line) (stub_group_name (code_at told group.line) group.name) ≡ stub_group_name (code_at told group.line) group.name
    by None is =
        ap (λ found. stub_group_name found (stub_group_name (code_at told group.line) group.name)) (code_second told items group.line is ∙ free)
    by (Some code) is =
        ap (λ found. stub_group_name found (stub_group_name (code_at told group.line) group.name)) (code_first told items group.line code is)
        ∙ sym (ap (λ found. stub_group_name found group.name) is)

groups_kept_again : (told items : List Refusal) (all before groups : List GroupDef) → all ≡ before ++ groups
    → ((line : ℕ) → 0 < times line (group_lines all) → code_at items line ≡ None) → AllByRecursion (KeepsGroup (told ++ items)) (map (stub_group told) groups)
groups_kept_again told items all before [] split free = tt
groups_kept_again told items all before (group ∷ groups) split free = (
  group_kept_again told items group (free group.line some),
  groups_kept_again told items all (before ++ group ∷ []) groups (split ∙ sym (append_assoc before (group ∷ []) groups)) free,
)
  where
    counted : times group.line (group_lines all) ≡ times group.line (group_lines before) + (tick group.line group.line + times group.line (group_lines groups))
    counted =
        ap (λ (whole : List GroupDef). times group.line (group_lines whole)) split
        ∙ ap (times group.line) (map-append (λ (g : GroupDef). g.line) before (group ∷ groups))
        ∙ times-append group.line (group_lines before) (group_lines (group ∷ groups))

    some : 0 < times group.line (group_lines all)
    some = omega (arith, counted, here_once group.line)

module _ (refused : List Refusal) (program : Program) (apart : IsApart refused program)
    (zero_free : code_at (refused_to_names refused program) 0 ≡ None) (named : HasOwnNames (refused_to_names refused program) program)
    (quiet_zero : refused_to_names refused program ≡ [] → stated_at 0 program ≡ 0) where
  abbrev told : List Refusal
  told = refused_to_names refused program

  abbrev old : Program
  old = defined_program refused program

  abbrev whole : Program
  whole = with_words program (names_lacked (reported_causes program))

  abbrev items : List Refusal
  items = further told (items_refusals old)

  fewer : (line : ℕ) → count_at line items ≤ count_at line (items_refusals old)
  fewer line = count-filter line (λ (found : Refusal). not (is_refused told found.line)) (items_refusals old)

  none_at_zero : code_at items 0 ≡ None
  none_at_zero = by (none_or_zero told)
    where
      by : (told ≡ []) ⊎ (is_refused told 0 ≡ true) → code_at items 0 ≡ None
      by (inr zero_told) = no_code_at items 0 (further_none told 0 zero_told (items_refusals old))
      by (inl none) =
          let same : stated_at 0 whole ≡ stated_at 0 program = ap (λ words. stated_at 0 (with_words program words)) (quiet_causes refused (reported_causes program) none) in
          no_code_at items 0 (omega (arith, fewer 0, count-items-at 0 old, stated_stubbed 0 told whole, same, quiet_zero none))

  none_at_group : (line : ℕ) → 0 < times line (group_lines whole.groups) → code_at items line ≡ None
  none_at_group zero some = none_at_zero
  none_at_group (suc n) some =
      no_code_at items (suc n)
      (omega (
        arith,
        fewer (suc n),
        count-items-at (suc n) old,
        ap (times (suc n)) (stub_group_lines told whole.groups),
        some,
        stated_stubbed (suc n) told whole,
        stated_words (suc n) (omega arith) program (names_lacked (reported_causes program)),
        apart.stated (suc n) (omega arith),
      ))

  pub names_kept : names_left_last refused program ≡ []
  names_kept =
      nothing_left (told ++ items) [] (name_causes (last_program refused program))
      (kept_at (told ++ items) old
      (keeps_all told items (other_filter (λ (found : Refusal). not (is_refused told found.line)) (items_refusals old) (items_other old)) whole.stores)
      (groups_kept_again told items whole.groups [] whole.groups refl none_at_group)
      (mapped (At told (reported_causes program)) (At (told ++ items) []) (λ fault at. still_refused told items fault.line at) (name_causes old)
      (at_refused refused program apart zero_free named)))

pub names_stay_defined : NamesStayDefined
names_stay_defined source short utf8 =
    let ready = read_ready source short utf8 in
    names_kept (read_refusals (read_all source)) (with_words (read_all source).program (read_all source).words) ready.apart ready.zero_free ready.named ready.still
