-- A program that is accepted is well named.
use Rattle.std.proofs.Common.{◌≡◌, ℕ, suc, ◌+◌, Bool, true, false, not, List, [], ◌∷◌, ◌++◌, length, Option, Some, None, refl, sym, ap, ◌∙◌, arith, is_some, if◌then◌else◌, true≢false, inl, inr}
use Rattle.std.specs.Prelude.{find, ◌&&◌, ◌||◌, nat_eq, nat_lt, slice_get, option_to_list}
use Rattle.std.specs.List.{list_all, list_any, AllByRecursion}
use Rattle.std.specs.Option.{option_or}
use Rattle.std.proofs.lemmas.Bool.{and_parts, not-false, or_parts, or_right}
use Rattle.std.proofs.lemmas.Option.{slice_get_cases}
use Rattle.std.proofs.lemmas.List.Folds.{list_any-append}
use Rattle.kmn_base.specs.declared.codes.Code.TheVariants.{C02, C05, C06, C08, C09, C10, C12, C13, C15}
use Rattle.kmn_base.specs.declared.items.Element.{Element}
use Rattle.kmn_base.specs.declared.items.Element.TheVariants as element
use Rattle.kmn_base.proofs.Options.{option_or-none}
use Rattle.rule_model.specs.declared.program.SrcItem.{SrcItem}
use Rattle.rule_model.specs.declared.program.SrcItem.TheVariants as source
use Rattle.rule_model.specs.declared.program.BeginDef.{BeginDef}
use Rattle.rule_model.specs.declared.program.StoreDef.{StoreDef}
use Rattle.rule_model.specs.declared.program.RuleDef.{RuleDef}
use Rattle.rule_model.specs.declared.program.RuleKind.{RuleKind}
use Rattle.rule_model.specs.declared.program.RuleKind.TheVariants as kind
use Rattle.rule_model.specs.declared.program.GroupDef.{GroupDef}
use Rattle.rule_model.specs.declared.program.Program.{Program}
use Rattle.rule_model.specs.declared.tables.Store.{Store}
use Rattle.rule_model.specs.Hold.{key_of_element}
use Rattle.rule_model.specs.Naming.{SourceNames, names_of, rule_items, stores_of, stores_onto, store_of, is_dropped, elements_named}
use Rattle.rule_model.specs.Src.{is_unicode, is_plain, is_plain_kind, is_on_match, is_on_nomatch}
use Rattle.rule_model.specs.Tab.{is_dictionary}
use Rattle.compile_laws.specs.WellNamed.{IsWellNamed, is_known_start, is_known_pattern, is_known_output, is_known_key, is_known_rule, is_known_group, is_store, is_fixed, are_keys}
use Rattle.kmn_parser.specs.SourceLaws.{has_own_lines}
use Rattle.store_table.specs.First.{broken, first_code}
use Rattle.store_table.specs.declared.stating.Stated.{Stated}
use Rattle.store_table.specs.Names.{stated, is_named, is_begun, begin_refusal, begin_code, rules_refusal, rule_refusal, rule_code, rule_item_code, is_second, lacks, store_named, group_named, group_names, store_names}
use Rattle.store_table.specs.Known.{known}
use Rattle.item_checker.specs.Items.{is_option, passes, points_to, is_pattern_item, is_any_item, is_any_key, are_unfit_keys, is_unfit_key, context_code, key_code, rule_output_code, match_output_code, rule_code as items_rule_code, rules_refusal as items_rules_refusal, rule_refusal as items_rule_refusal}
use Rattle.rule_checker.specs.Refused.{IsRead, refused}
use Rattle.rule_checker.proofs.Unrefused.{none_at_line, none_broken, none_codes, Stands, none_first}
use Rattle.rule_checker.proofs.Accepted.{IsUnrefused, unrefused}
use Rattle.rule_checker.proofs.Stated.{group_there, store_there}
use Rattle.rule_checker.proofs.Reading.{has_parts, have_parts, all_have_parts, words_read, no_dictionary_read}
use Rattle.rule_checker.proofs.Options.{fixed}
use Rattle.rule_checker.proofs.Lists.{all_parts}

-- the start statement: there is one, and its group is stated
start_names_group : (names : Stated) (start : BeginDef) → Stands (begin_refusal names) start → is_named names.groups start.group ≡ true
start_names_group names start stands =
    let rows = none_broken C02 (is_begun stands.0 start) ((C06, not (is_named names.groups start.group)) ∷ []) (none_at_line start.line (begin_code names (is_begun stands.0 start) start) stands.1) in
    not-false (is_named names.groups start.group) (none_broken C06 (not (is_named names.groups start.group)) [] rows.1).0

first_start : (program : Program) (starts : List BeginDef) → AllByRecursion (Stands (begin_refusal (stated program))) starts → list_any is_unicode starts ≡ true → is_known_start program (find is_unicode starts) ≡ true
first_start program [] all h = absurd (cc)
first_start program (start ∷ starts) all h = by (is_unicode start) h (λ g. first_start program starts all.1 g)
  where
    by : (b : Bool) → (b || list_any is_unicode starts) ≡ true → (list_any is_unicode starts ≡ true → is_known_start program (find is_unicode starts) ≡ true)
        → is_known_start program (if b then Some start else find is_unicode starts) ≡ true
    by true g rest = group_there program start.group (start_names_group (stated program) start all.0)
    by false g rest = rest g

pub known_start : (program : Program) → IsUnrefused program → is_known_start program (find is_unicode program.begins) ≡ true
known_start program whole =
    first_start program program.begins (none_first (begin_refusal (stated program)) [] program.begins whole.begins) whole.start

-- an item of a context names a store that is stated
named_there : (program : Program) (name : List ℕ) → lacks (store_names program.stores) (name ∷ []) ≡ false → is_store program name ≡ true
named_there program name h = store_there program name (not-false (is_named (store_names program.stores) name) h)

store_is_named : (program : Program) (item : SrcItem) → rule_item_code (stated program) item ≡ None → lacks (store_names program.stores) (store_named item) ≡ false
store_is_named program item h = (none_broken C05 (lacks (store_names program.stores) (store_named item)) ((C06, lacks (group_names program.groups) (group_named item)) ∷ []) h).0

pub known_pattern : (program : Program) (item : SrcItem) → rule_item_code (stated program) item ≡ None → is_known_pattern program item ≡ true
known_pattern program (source.Any store) h = named_there program store (store_is_named program (source.Any store) h)
known_pattern program (source.NotAny store) h = named_there program store (store_is_named program (source.NotAny store) h)
known_pattern program (source.Index store offset) h = named_there program store (store_is_named program (source.Index store offset) h)
known_pattern program (source.Equal store value) h = named_there program store (store_is_named program (source.Equal store value) h)
known_pattern program (source.Unequal store value) h = named_there program store (store_is_named program (source.Unequal store value) h)
known_pattern program item h = refl

-- an item of an output
points_past : (test : SrcItem → Bool) (context : List SrcItem) → points_to test context (suc (length context)) ≡ false
points_past test context = by (slice_get context (length context)) refl
  where
    by : (o : Option SrcItem) → slice_get context (length context) ≡ o → passes test o ≡ false
    by None is = refl
    by (Some item) is = elim (slice_get_cases context (length context)).1 [
      | inl found ↦ absurd (omega (arith, found))
      | inr past ↦ absurd (let none : slice_get context (length context) ≡ None = past.1 in cc)
    ]

points_there : (test : SrcItem → Bool) (context : List SrcItem) (offset : ℕ) → offset ≡ suc (length context) → not (points_to test context offset) ≡ false → ⊥
points_there test context offset e h = true≢false (sym (not-false (points_to test context offset) h) ∙ ap (points_to test context) e ∙ points_past test context)

next_place : (offset count : ℕ) → nat_eq offset (count + 1) ≡ true → offset ≡ suc count
next_place offset count h = grind (arith, h)

index_fixed : (program : Program) (rule : RuleDef) (store : List ℕ) (offset : ℕ) → nat_eq offset (length rule.context + 1) ≡ true
    → rule_output_code (known program) rule (source.Index store offset) ≡ None → is_fixed program store ≡ true
index_fixed program rule store offset at h = chosen (is_some rule.key) (nat_eq offset (length rule.context + 1)) at h
  where
    chosen : (key place : Bool) → place ≡ true
        → (if key && place
        then broken ((C09, not (is_any_key rule.key)) ∷ (C13, is_option (known program) store) ∷ [])
        else broken ((C08, not (points_to is_pattern_item rule.context offset)) ∷ (C09, not (points_to is_any_item rule.context offset)) ∷ [])) ≡ None
        → is_fixed program store ≡ true
    chosen true true e g = fixed program store (none_broken C13 (is_option (known program) store) [] (none_broken C09 (not (is_any_key rule.key)) ((C13, is_option (known program) store) ∷ []) g).1).0
    chosen false true e g =
        absurd (points_there is_pattern_item rule.context offset (next_place offset (length rule.context) at)
        (none_broken C08 (not (points_to is_pattern_item rule.context offset)) ((C09, not (points_to is_any_item rule.context offset)) ∷ []) g).0)
    chosen key false e g = absurd (cc)

pub never_both : (a : Bool) → broken ((C08, a) ∷ (C12, true) ∷ []) ≡ None → ⊥
never_both true h = absurd (cc)
never_both false h = absurd (cc)

module _ (program : Program) (rule : RuleDef) where
  known_output : (item : SrcItem) → rule_item_code (stated program) item ≡ None → rule_output_code (known program) rule item ≡ None → is_known_output program (length rule.context) item ≡ true
  known_output (source.Index store offset) named h = by (nat_eq offset (length rule.context + 1)) refl
    where
      by : (b : Bool) → nat_eq offset (length rule.context + 1) ≡ b → (if b then is_fixed program store else is_store program store) ≡ true
      by true is = index_fixed program rule store offset is h
      by false is = named_there program store (store_is_named program (source.Index store offset) named)
  known_output (source.Enter group) named h =
      group_there program group (not-false (is_named (group_names program.groups) group)
      (none_broken C06 (lacks (group_names program.groups) (group ∷ [])) [] (none_broken C05 false ((C06, lacks (group_names program.groups) (group ∷ [])) ∷ []) named).1).0)
  known_output (source.Set store value) named h = named_there program store (store_is_named program (source.Set store value) named)
  known_output (source.Save store) named h = named_there program store (store_is_named program (source.Save store) named)
  known_output (source.Reset store) named h = named_there program store (store_is_named program (source.Reset store) named)
  known_output item named h = refl

  known_match_output : (item : SrcItem) → rule_item_code (stated program) item ≡ None → match_output_code (known program) item ≡ None → is_known_output program (length rule.context) item ≡ true
  known_match_output (source.Index store offset) named h = absurd (never_both (nat_eq offset 0) h)
  known_match_output (source.Enter group) named h =
      group_there program group (not-false (is_named (group_names program.groups) group)
      (none_broken C06 (lacks (group_names program.groups) (group ∷ [])) [] (none_broken C05 false ((C06, lacks (group_names program.groups) (group ∷ [])) ∷ []) named).1).0)
  known_match_output (source.Set store value) named h = named_there program store (store_is_named program (source.Set store value) named)
  known_match_output (source.Save store) named h = named_there program store (store_is_named program (source.Save store) named)
  known_match_output (source.Reset store) named h = named_there program store (store_is_named program (source.Reset store) named)
  known_match_output item named h = refl

all_known : {X : Type 0} (test : X → Bool) (P : X → Type 0) → ((x : X) → P x → test x ≡ true) → (xs : List X) → AllByRecursion P xs → list_all test xs ≡ true
all_known test P f [] h = refl
all_known test P f (x ∷ xs) h = rw (f x h.0) (all_known test P f xs h.1)

all_known_by_two : {X : Type 0} (test : X → Bool) (P Q : X → Type 0) → ((x : X) → P x → Q x → test x ≡ true) → (xs : List X) → AllByRecursion P xs → AllByRecursion Q xs → list_all test xs ≡ true
all_known_by_two test P Q f [] h k = refl
all_known_by_two test P Q f (x ∷ xs) h k = rw (f x h.0 k.0) (all_known_by_two test P Q f xs h.1 k.1)

-- the key of a rule
fit_keys : (elements : List Element) → list_any is_unfit_key elements ≡ false → list_all (λ e. is_some (key_of_element e)) elements ≡ true
fit_keys [] h = refl
fit_keys (element.Char c ∷ elements) h = fit_keys elements (second_false (nat_lt 0xFFFF c) (list_any is_unfit_key elements) h)
  where
    second_false : (a b : Bool) → (a || b) ≡ false → b ≡ false
    second_false true b g = absurd (cc)
    second_false false b g = g
fit_keys (element.Mark m ∷ elements) h = absurd (cc)
fit_keys (element.Key flags code ∷ elements) h = fit_keys elements h

fit_store : (elements : List Element) → are_unfit_keys elements ≡ false → are_keys elements ≡ true
fit_store [] h = absurd (cc)
fit_store (e ∷ elements) h = fit_keys (e ∷ elements) h

module _ (program : Program) (using_keys : Bool) where
  with_keys : (using : Bool) → (using || false) ≡ true → using ≡ true
  with_keys true h = refl
  with_keys false h = absurd (cc)

  known_key : (key : Option SrcItem) → (using_keys || not (is_some key)) ≡ true → key_code (known program) key ≡ None → is_known_key program using_keys key ≡ true
  unfolding known
  known_key None parts h = refl
  known_key (Some (source.Any store)) parts h =
      let rows = none_broken C10 (are_unfit_keys (elements_named (stores_of program) store)) ((C13, is_option (known program) store) ∷ []) h in
      let option = none_broken C13 (is_option (known program) store) [] rows.1 in
      rw (with_keys using_keys parts, fixed program store option.0, fit_store (elements_named (stores_of program) store) rows.0) refl
  known_key (Some item) parts h = with_keys using_keys parts

  no_key : (key : Option SrcItem) → not (is_some key) ≡ true → is_known_key program using_keys key ≡ true
  no_key None h = refl
  no_key (Some item) h = absurd (cc)

  abbrev IsNamed : SrcItem → Type 0
  IsNamed item = rule_item_code (stated program) item ≡ None

  named_items : (rule : RuleDef) → Stands (rule_refusal (stated program)) rule → AllByRecursion IsNamed (rule_items rule)
  named_items rule stands =
      let again = is_second (list_any is_on_match stands.0) (list_any is_on_nomatch stands.0) rule.kind in
      none_codes (rule_item_code (stated program)) (rule_items rule)
      (option_or-none (broken ((C15, again) ∷ [])) (first_code (rule_item_code (stated program)) (rule_items rule)) (none_at_line rule.line (rule_code (stated program) again rule) stands.1)).1

  known_rule : (rule : RuleDef) → Stands (rule_refusal (stated program)) rule → Stands (items_rule_refusal (known program)) rule → has_parts using_keys rule.kind rule ≡ true
      → is_known_rule program using_keys rule ≡ true
  known_rule rule named items parts = by rule.kind refl (none_at_line rule.line (items_rule_code (known program) rule.kind rule) items.1) parts
    where
      context : AllByRecursion IsNamed rule.context
      context = (all_parts IsNamed rule.context (option_to_list rule.key ++ rule.output) (named_items rule named)).0

      output : AllByRecursion IsNamed rule.output
      output = (all_parts IsNamed (option_to_list rule.key) rule.output (all_parts IsNamed rule.context (option_to_list rule.key ++ rule.output) (named_items rule named)).1).1

      patterns : list_all (is_known_pattern program) rule.context ≡ true
      patterns = all_known (is_known_pattern program) IsNamed (known_pattern program) rule.context context

      match_rule : (nat_eq (length rule.context) 0 && not (is_some rule.key)) ≡ true → first_code (match_output_code (known program)) rule.output ≡ None → is_known_rule program using_keys rule ≡ true
      match_rule fits codes =
          let both = and_parts (nat_eq (length rule.context) 0) (not (is_some rule.key)) fits in
          let outputs = all_known_by_two (is_known_output program (length rule.context)) IsNamed (λ item. match_output_code (known program) item ≡ None) (known_match_output program rule) rule.output output
          (none_codes (match_output_code (known program)) rule.output codes) in
          λ j. or_right (is_plain rule) (nat_eq (length rule.context) 0) both.0 j && (patterns j && (no_key rule.key both.1 j && outputs j))

      by : (k : RuleKind) → rule.kind ≡ k → items_rule_code (known program) k rule ≡ None → has_parts using_keys k rule ≡ true → is_known_rule program using_keys rule ≡ true
      by kind.Plain is codes fits =
          let one = option_or-none (context_code [] rule.context) (option_or (key_code (known program) rule.key) (first_code (rule_output_code (known program) rule) rule.output)) codes in
          let two = option_or-none (key_code (known program) rule.key) (first_code (rule_output_code (known program) rule) rule.output) one.1 in
          let outputs = all_known_by_two (is_known_output program (length rule.context)) IsNamed (λ item. rule_output_code (known program) rule item ≡ None) (known_output program rule) rule.output output
          (none_codes (rule_output_code (known program) rule) rule.output two.1) in
          λ j. (is_plain_kind (is j) || nat_eq (length rule.context) 0) && (patterns j && (known_key rule.key fits two.0 j && outputs j))
      by kind.OnMatch is codes fits = match_rule fits codes
      by kind.OnNoMatch is codes fits = match_rule fits codes

  known_rules : (rules : List RuleDef) → AllByRecursion (Stands (rule_refusal (stated program))) rules → AllByRecursion (Stands (items_rule_refusal (known program))) rules
      → list_all (λ (rule : RuleDef). has_parts using_keys rule.kind rule) rules ≡ true → list_all (is_known_rule program using_keys) rules ≡ true
  known_rules [] names items parts = refl
  known_rules (rule ∷ rules) names items parts =
      let both = and_parts (has_parts using_keys rule.kind rule) (list_all (λ (r : RuleDef). has_parts using_keys r.kind r) rules) parts in
      λ j. known_rule rule names.0 items.0 both.0 j && known_rules rules names.1 items.1 both.1 j

known_groups : (program : Program) (groups : List GroupDef) → AllByRecursion (Stands (rules_refusal (stated program))) groups → AllByRecursion (Stands (items_rules_refusal (known program))) groups
    → list_all has_own_lines groups ≡ true → list_all have_parts groups ≡ true → list_all (is_known_group program) groups ≡ true
known_groups program [] names items lines parts = refl
known_groups program (group ∷ groups) names items lines parts =
    let own = and_parts (has_own_lines group) (list_all has_own_lines groups) lines in
    let fits = and_parts (have_parts group) (list_all have_parts groups) parts in
    let rules = known_rules program group.using_keys group.rules (none_first (rule_refusal (stated program)) [] group.rules names.0.1)
    (none_first (items_rule_refusal (known program)) [] group.rules items.0.1) fits.0 in
    λ j. (own.0 j && rules j) && known_groups program groups names.1 items.1 own.1 fits.1 j

-- no store of a statement is a dictionary
no_dictionary : (names : SourceNames) (before : List Store) (stores : List StoreDef) → list_any is_dictionary before ≡ false → list_any (λ (store : StoreDef). nat_eq store.system 34) stores ≡ false
    → list_any is_dictionary (stores_onto names before stores) ≡ false
no_dictionary names before [] none h = none
no_dictionary names before (store ∷ stores) none h =
    let both = or_parts (nat_eq store.system 34) (list_any (λ (other : StoreDef). nat_eq other.system 34) stores) h in
    no_dictionary names (if is_dropped store then before else before ++ store_of names before store ∷ []) stores (kept (is_dropped store) both.0) both.1
  where
    kept : (b : Bool) → nat_eq store.system 34 ≡ false → list_any is_dictionary (if b then before else before ++ store_of names before store ∷ []) ≡ false
    kept true g = none
    kept false g = list_any-append is_dictionary before (store_of names before store ∷ []) ∙ (λ j. none j || (g j || false))

pub well_named : (program : Program) → IsRead program → refused program ≡ None → IsWellNamed program
unfolding stores_of
well_named program read h =
    let whole = unrefused program h in
    record {
      start = known_start program whole;
      groups = known_groups program program.groups (none_first (rules_refusal (stated program)) [] program.groups whole.rules)
          (none_first (items_rules_refusal (known program)) [] program.groups whole.rule_items) read.order.own (all_have_parts program.groups read.statements.groups);
      words = words_read program read.statements;
      stores = no_dictionary (names_of program) [] program.stores refl (no_dictionary_read program.stores read.statements.stores);
    }
