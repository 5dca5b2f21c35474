-- A store that has lost its name, or a group, is refused for its own statement: the name is there before.
use Rattle.std.proofs.Common.{◌≡◌, ℕ, zero, suc, ◌+◌, ◌<◌, ◌≤◌, Bool, true, false, List, [], ◌∷◌, ◌++◌, map, Option, Some, None, refl, sym, ap, subst, ◌∙◌, if◌then◌else◌, append_assoc, append-nil, arith}
use Rattle.std.specs.Prelude.{nat_eq, flat_map, is_some, slice_get}
use Rattle.std.specs.List.{AllByRecursion}
use Rattle.std.specs.Option.{option_or}
use Rattle.std.proofs.lemmas.Bool.{and_parts}
use Rattle.std.proofs.lemmas.Bool.Decides.{nat_tests}
use Rattle.std.proofs.lemmas.List.{map-append}
use Rattle.kmn_base.specs.Rising.{times}
use Rattle.kmn_base.specs.declared.codes.Code.{Code}
use Rattle.kmn_base.specs.declared.codes.Code.TheVariants.{C03, C04, C07}
use Rattle.kmn_base.specs.declared.refusals.Refusal.{Refusal}
use Rattle.kmn_lines.proofs.TextSizes.{clash}
use Rattle.rule_model.specs.declared.program.SrcItem.{SrcItem}
use Rattle.rule_model.specs.declared.program.StoreDef.{StoreDef}
use Rattle.rule_model.specs.declared.program.RuleDef.{RuleDef}
use Rattle.rule_model.specs.declared.program.GroupDef.{GroupDef}
use Rattle.rule_model.specs.declared.program.BeginDef.{BeginDef}
use Rattle.rule_model.specs.declared.program.Program.{Program}
use Rattle.kmn_parser.specs.SourceLaws.{store_lines, begin_lines, group_lines, lines_of_rules, rule_lines}
use Rattle.store_table.specs.Names.{is_named, store_names, group_names, is_begun, is_store_again, is_group_again, is_again, store_named, uses_later_store}
use Rattle.source_names.specs.declared.causes.Cause.TheVariants as because
use Rattle.source_names.specs.declared.causes.NameFault.{NameFault}
use Rattle.source_names.specs.Causes.{store_cause, broken_if, store_item_cause, caused, items_caused, store_causes, group_causes, each_of, begin_faults, store_faults, group_faults, rule_faults, rules_faults, name_causes}
use Rattle.source_names.specs.Telling.{reported_causes}
use Rattle.source_faults.specs.Stubs.{code_at}
use Rattle.fault_laws.specs.Laws.{refused_to_names}
use Rattle.fault_laws.proofs.Counts.{count_at, stated_at, tick, times-append}
use Rattle.fault_laws.proofs.ReadOnce.{begun_at}
use Rattle.fault_laws.proofs.CausesLeft.{joined, begin_on, store_on, group_on, rule_on}
use Rattle.fault_laws.proofs.Reported.{HasNone, code_is, mapped}

-- the causes of statements before others
pub split_each : {X : Type 0} (f : List X → X → List NameFault) (before xs ys : List X) → each_of f before (xs ++ ys) ≡ each_of f before xs ++ each_of f (before ++ xs) ys
split_each f before [] ys = ap (λ all. each_of f all ys) (sym (append-nil before))
split_each f before (x ∷ xs) ys =
    ap (λ rest. f before x ++ rest) (split_each f (before ++ x ∷ []) xs ys
    ∙ ap (λ all. each_of f (before ++ x ∷ []) xs ++ each_of f all ys) (append_assoc before (x ∷ []) xs))
    ∙ sym (append_assoc (f before x) (each_of f (before ++ x ∷ []) xs) (each_of f (before ++ x ∷ xs) ys))

-- a line other than those of statements
abbrev Other : ℕ → ℕ → Type 0
Other line other = nat_eq other line ≡ false

other_line : (line n : ℕ) → tick line n ≡ 0 → nat_eq n line ≡ false
other_line line n h = grind (arith, nat_tests)

pub here_once : (line : ℕ) → tick line line ≡ 1
here_once line = grind (arith, nat_tests)

elsewhere : {X : Type 0} (line_of : X → ℕ) (f : List X → X → List NameFault) (line : ℕ)
    → ((before : List X) (x : X) → Other line (line_of x) → AllByRecursion (λ (fault : NameFault). Other line fault.line) (f before x))
    → (before xs : List X) → times line (map line_of xs) ≡ 0 → AllByRecursion (λ (fault : NameFault). Other line fault.line) (each_of f before xs)
elsewhere line_of f line on before [] none = tt
elsewhere line_of f line on before (x ∷ xs) none =
    joined (λ (fault : NameFault). Other line fault.line) (f before x) (each_of f (before ++ x ∷ []) xs)
    (on before x (other_line line (line_of x) (omega (arith, none)))) (elsewhere line_of f line on (before ++ x ∷ []) xs (omega (arith, none)))

none_other : (test : Code → Bool) (line : ℕ) (faults : List NameFault) → AllByRecursion (λ (fault : NameFault). Other line fault.line) faults → AllByRecursion (HasNone test line) faults
none_other test line faults all =
    mapped (λ (fault : NameFault). Other line fault.line) (HasNone test line) (λ fault other at. clash (nat_eq fault.line line) at other) faults all

-- the causes of the statements of a program at a line, where its begins, stores, groups or rules have none
module _ (stores groups : List (List ℕ)) (test : Code → Bool) (line : ℕ) where
  pub no_begins : (begins : List BeginDef) → times line (begin_lines begins) ≡ 0 → AllByRecursion (HasNone test line) (each_of (begin_faults groups) [] begins)
  no_begins begins none =
      none_other test line (each_of (begin_faults groups) [] begins)
      (elsewhere (λ (start : BeginDef). start.line) (begin_faults groups) line (λ before start other. begin_on (Other line) groups (is_begun before start) start other) [] begins none)

  pub no_stores : (before more : List StoreDef) → times line (store_lines more) ≡ 0 → AllByRecursion (HasNone test line) (each_of (store_faults stores) before more)
  no_stores before more none =
      none_other test line (each_of (store_faults stores) before more)
      (elsewhere (λ (store : StoreDef). store.line) (store_faults stores) line (λ earlier store other. store_on (Other line) stores (store_names earlier) store other) before more none)

  pub no_groups : (before more : List GroupDef) → times line (group_lines more) ≡ 0 → AllByRecursion (HasNone test line) (each_of group_faults before more)
  no_groups before more none =
      none_other test line (each_of group_faults before more)
      (elsewhere (λ (group : GroupDef). group.line) group_faults line (λ earlier group other. group_on (Other line) (group_names earlier) group other) before more none)

  pub no_rules : (all : List GroupDef) → times line (rule_lines all) ≡ 0 → AllByRecursion (HasNone test line) (flat_map (rules_faults stores groups) all)
  no_rules [] none = tt
  no_rules (group ∷ all) none =
      let sum = times-append line (lines_of_rules group.rules) (rule_lines all) in
      joined (HasNone test line) (rules_faults stores groups group) (flat_map (rules_faults stores groups) all)
      (none_other test line (rules_faults stores groups group)
      (elsewhere (λ (rule : RuleDef). rule.line) (rule_faults stores groups) line (λ earlier rule other. rule_on (Other line) stores groups (is_again earlier rule) rule other) [] group.rules (omega (arith, none, sum))))
      (no_rules all (omega (arith, none, sum)))

abbrev pub is_second_store : Code → Bool
is_second_store C03 = true
is_second_store other = false

abbrev pub is_any_code : Code → Bool
is_any_code code = true

-- items of a store statement are not refused as a second store
item_none : (line at : ℕ) (stores : List (List ℕ)) (name : Option (List ℕ)) (later : Bool)
    → AllByRecursion (HasNone is_second_store line) (caused at (option_or (store_cause stores name) (broken_if later C07)))
item_none line at stores None true = (λ e. refl, tt)
item_none line at stores None false = tt
item_none line at stores (Some name) later = by (is_named stores name) later
  where
    by : (t later : Bool) → AllByRecursion (HasNone is_second_store line) (caused at (option_or (if t then None else Some (because.NoStore name)) (broken_if later C07)))
    by true true = (λ e. refl, tt)
    by true false = tt
    by false later = (λ e. refl, tt)

items_none : (line at : ℕ) (stores before : List (List ℕ)) (items : List SrcItem) → AllByRecursion (HasNone is_second_store line) (items_caused at (store_item_cause stores before) items)
items_none line at stores before [] = tt
items_none line at stores before (item ∷ items) =
    joined (HasNone is_second_store line) (caused at (store_item_cause stores before item)) (items_caused at (store_item_cause stores before) items)
    (item_none line at stores (slice_get (store_named item) 0) (uses_later_store before item)) (items_none line at stores before items)

first_store : (line : ℕ) (stores before : List (List ℕ)) (store : StoreDef) → is_store_again before store ≡ false → AllByRecursion (HasNone is_second_store line) (store_causes stores before store)
unfolding store_causes
first_store line stores before store first =
    joined (HasNone is_second_store line) (caused store.line (broken_if (is_store_again before store) C03)) (items_caused store.line (store_item_cause stores before) store.items)
    (subst (λ again. AllByRecursion (HasNone is_second_store line) (caused store.line (broken_if again C03))) (sym first) tt)
    (items_none line store.line stores before store.items)

first_group : (line : ℕ) (before : List (List ℕ)) (group : GroupDef) → is_group_again before group ≡ false → AllByRecursion (HasNone is_any_code line) (group_causes before group)
unfolding group_causes
first_group line before group first =
    subst (λ again. AllByRecursion (HasNone is_any_code line) (caused group.line (broken_if again C04))) (sym first) tt

-- no cause of a program, if none of its parts has one
pub all_causes : (program : Program) (test : Code → Bool) (line : ℕ)
    → AllByRecursion (HasNone test line) (each_of (begin_faults (group_names program.groups)) [] program.begins)
    → AllByRecursion (HasNone test line) (each_of (store_faults (store_names program.stores)) [] program.stores)
    → AllByRecursion (HasNone test line) (each_of group_faults [] program.groups)
    → AllByRecursion (HasNone test line) (flat_map (rules_faults (store_names program.stores) (group_names program.groups)) program.groups)
    → AllByRecursion (HasNone test line) (name_causes program)
unfolding name_causes
all_causes program test line begins stores groups rules =
    joined (HasNone test line) (each_of (begin_faults (group_names program.groups)) [] program.begins)
    (each_of (store_faults (store_names program.stores)) [] program.stores
    ++ (each_of group_faults [] program.groups ++ flat_map (rules_faults (store_names program.stores) (group_names program.groups)) program.groups)) begins
    (joined (HasNone test line) (each_of (store_faults (store_names program.stores)) [] program.stores)
    (each_of group_faults [] program.groups ++ flat_map (rules_faults (store_names program.stores) (group_names program.groups)) program.groups) stores
    (joined (HasNone test line) (each_of group_faults [] program.groups) (flat_map (rules_faults (store_names program.stores) (group_names program.groups)) program.groups) groups rules))

-- refusals of other lines than those of the statements of a program, each of which has its own line
pub record IsApart (refused : List Refusal) (program : Program) : Type 0 where
  pub free : (line : ℕ) → 0 < line → count_at line refused + stated_at line program ≤ 1
  pub stated : (line : ℕ) → 0 < line → stated_at line program + begun_at line program ≤ 1

module _ (refused : List Refusal) (program : Program) (apart : IsApart refused program) (none : code_at (refused_to_names refused program) 0 ≡ None) where
  abbrev stores : List (List ℕ)
  stores = store_names program.stores

  abbrev groups : List (List ℕ)
  groups = group_names program.groups

  own_code : (test : Code → Bool) (line : ℕ) → count_at line refused ≡ 0 → AllByRecursion (HasNone test line) (name_causes program)
      → (code : Code) → code_at (refused_to_names refused program) line ≡ Some code → test code ≡ false
  unfolding reported_causes
  own_code test line free all code is = code_is refused test line (name_causes program) free all code is

  -- a store that has lost its name
  pub store_again : (before : List StoreDef) (store : StoreDef) (more : List StoreDef) → program.stores ≡ before ++ store ∷ more
      → code_at (refused_to_names refused program) store.line ≡ Some C03 → is_named (store_names before) store.name ≡ true
  store_again before store more split is = by_line store.line refl
    where
      counted : (line : ℕ) → times line (store_lines program.stores) ≡ times line (store_lines before) + (tick line store.line + times line (store_lines more))
      counted line =
          ap (λ (all : List StoreDef). times line (store_lines all)) split
          ∙ ap (times line) (map-append (λ (s : StoreDef). s.line) before (store ∷ more))
          ∙ times-append line (store_lines before) (store_lines (store ∷ more))

      by : 0 < store.line → (t : Bool) → is_store_again (store_names before) store ≡ t → is_named (store_names before) store.name ≡ true
      by positive true again = (and_parts (nat_eq store.system 0) (is_named (store_names before) store.name) again).1
      by positive false first =
          let line = store.line in
          let total = counted line in
          let here = here_once line in
          let one = apart.stated line positive in
          let free = apart.free line positive in
          let own : AllByRecursion (HasNone is_second_store line) (each_of (store_faults stores) [] program.stores) =
          subst (λ all. AllByRecursion (HasNone is_second_store line) (each_of (store_faults stores) [] all)) (sym split)
          (subst (AllByRecursion (HasNone is_second_store line)) (sym (split_each (store_faults stores) [] before (store ∷ more)))
          (joined (HasNone is_second_store line) (each_of (store_faults stores) [] before) (each_of (store_faults stores) before (store ∷ more))
          (no_stores stores groups is_second_store line [] before (omega (arith, total, here, one)))
          (joined (HasNone is_second_store line) (store_causes stores (store_names before) store) (each_of (store_faults stores) (before ++ store ∷ []) more)
          (first_store line stores (store_names before) store first)
          (no_stores stores groups is_second_store line (before ++ store ∷ []) more (omega (arith, total, here, one)))))) in
          let wrong : true ≡ false = own_code is_second_store line (omega (arith, total, here, free))
          (all_causes program is_second_store line
          (no_begins stores groups is_second_store line program.begins (omega (arith, total, here, one))) own
          (no_groups stores groups is_second_store line [] program.groups (omega (arith, total, here, one)))
          (no_rules stores groups is_second_store line program.groups (omega (arith, total, here, one)))) C03 is in
          absurd (cc)

      by_line : (n : ℕ) → store.line ≡ n → is_named (store_names before) store.name ≡ true
      by_line zero at = let wrong : None ≡ Some C03 = sym none ∙ ap (code_at (refused_to_names refused program)) (sym at) ∙ is in absurd (cc)
      by_line (suc n) at = by (omega (arith, at)) (is_store_again (store_names before) store) refl

  -- a group that is refused
  pub group_again : (before : List GroupDef) (group : GroupDef) (more : List GroupDef) → program.groups ≡ before ++ group ∷ more
      → is_some (code_at (refused_to_names refused program) group.line) ≡ true → is_named (group_names before) group.name ≡ true
  group_again before group more split is = by_line group.line refl
    where
      counted : (line : ℕ) → times line (group_lines program.groups) ≡ times line (group_lines before) + (tick line group.line + times line (group_lines more))
      counted line =
          ap (λ (all : List GroupDef). times line (group_lines all)) split
          ∙ ap (times line) (map-append (λ (g : GroupDef). g.line) before (group ∷ more))
          ∙ times-append line (group_lines before) (group_lines (group ∷ more))

      some_code : (code : Option Code) → code_at (refused_to_names refused program) group.line ≡ code → is_some code ≡ true
          → ((c : Code) → code_at (refused_to_names refused program) group.line ≡ Some c → true ≡ false) → is_named (group_names before) group.name ≡ true
      some_code None e some wrong = absurd (cc)
      some_code (Some code) e some wrong = let w : true ≡ false = wrong code e in absurd (cc)

      by : 0 < group.line → (t : Bool) → is_group_again (group_names before) group ≡ t → is_named (group_names before) group.name ≡ true
      by positive true again = again
      by positive false first =
          let line = group.line in
          let total = counted line in
          let here = here_once line in
          let one = apart.stated line positive in
          let free = apart.free line positive in
          let own : AllByRecursion (HasNone is_any_code line) (each_of group_faults [] program.groups) =
          subst (λ all. AllByRecursion (HasNone is_any_code line) (each_of group_faults [] all)) (sym split)
          (subst (AllByRecursion (HasNone is_any_code line)) (sym (split_each group_faults [] before (group ∷ more)))
          (joined (HasNone is_any_code line) (each_of group_faults [] before) (each_of group_faults before (group ∷ more))
          (no_groups stores groups is_any_code line [] before (omega (arith, total, here, one)))
          (joined (HasNone is_any_code line) (group_causes (group_names before) group) (each_of group_faults (before ++ group ∷ []) more)
          (first_group line (group_names before) group first)
          (no_groups stores groups is_any_code line (before ++ group ∷ []) more (omega (arith, total, here, one)))))) in
          some_code (code_at (refused_to_names refused program) line) refl is
          (own_code is_any_code line (omega (arith, total, here, free))
          (all_causes program is_any_code line
          (no_begins stores groups is_any_code line program.begins (omega (arith, total, here, one)))
          (no_stores stores groups is_any_code line [] program.stores (omega (arith, total, here, one))) own
          (no_rules stores groups is_any_code line program.groups (omega (arith, total, here, one)))))

      by_line : (n : ℕ) → group.line ≡ n → is_named (group_names before) group.name ≡ true
      by_line zero at =
          let wrong : false ≡ true = ap (λ code. is_some code) (sym none) ∙ ap (λ line. is_some (code_at (refused_to_names refused program) line)) (sym at) ∙ is in absurd (cc)
      by_line (suc n) at = by (omega (arith, at)) (is_group_again (group_names before) group) refl
