-- The causes of statements among names that count as defined are at refused lines.
use Rattle.std.proofs.Common.{◌≡◌, ℕ, ◌⊎◌, inl, inr, Bool, true, false, List, [], ◌∷◌, ◌++◌, map, Option, Some, None, refl, sym, ap, subst, ◌∙◌, if◌then◌else◌, append-nil}
use Rattle.std.specs.Prelude.{◌&&◌, ◌||◌, nat_eq, flat_map, is_some}
use Rattle.std.specs.List.{list_any, AllByRecursion}
use Rattle.std.proofs.lemmas.Bool.{and_parts}
use Rattle.std.proofs.lemmas.List.{map-append}
use Rattle.std.proofs.lemmas.List.Concat.{flat_map-append}
use Rattle.std.proofs.lemmas.List.Folds.{list_any-append}
use Rattle.kmn_base.specs.Names.{same_name}
use Rattle.kmn_base.specs.declared.codes.Code.{Code}
use Rattle.kmn_base.specs.declared.codes.Code.TheVariants.{C02, C03, C04, C15}
use Rattle.kmn_base.specs.declared.refusals.Refusal.{Refusal}
use Rattle.kmn_lines.proofs.TextSizes.{clash}
use Rattle.rule_model.specs.declared.program.SrcItem.{SrcItem}
use Rattle.rule_model.specs.declared.program.StoreDef.{StoreDef}
use Rattle.rule_model.specs.declared.program.RuleKind.{RuleKind}
use Rattle.rule_model.specs.declared.program.RuleDef.{RuleDef}
use Rattle.rule_model.specs.declared.program.GroupDef.{GroupDef}
use Rattle.rule_model.specs.declared.program.BeginDef.{BeginDef}
use Rattle.rule_model.specs.Naming.{is_dropped, rule_items}
use Rattle.rule_model.specs.Src.{is_match_kind, is_nomatch_kind, is_on_match, is_on_nomatch}
use Rattle.store_table.specs.Names.{is_named, kept_name, store_names, group_names, is_begun, is_store_again, is_second, is_again}
use Rattle.rule_checker.proofs.Lists.{all_parts}
use Rattle.source_names.specs.declared.causes.NameFault.{NameFault}
use Rattle.source_names.specs.Causes.{group_cause, broken_if, store_item_cause, rule_item_cause, caused, items_caused, begin_causes, store_causes, group_causes, rule_causes, each_of, begin_faults, store_faults, group_faults, rule_faults, rules_faults}
use Rattle.source_faults.specs.Stubs.{code_at, is_refused, stub_group, stub_group_name, stub_name, stub_rule, stub_store}
use Rattle.fault_laws.proofs.CodesAt.{no_code}
use Rattle.fault_laws.proofs.NameLists.{either, first_true, named_append, named_first, named_none, named_same}
use Rattle.fault_laws.proofs.CausesLeft.{At, Known, Follows, joined, store_on, group_on, rule_on, caused_at, items_at, broken_follows}

-- the names of stores and groups with another one
pub store_pushed : (stores : List StoreDef) (store : StoreDef) → store_names (stores ++ store ∷ []) ≡ store_names stores ++ kept_name store
store_pushed stores store =
    flat_map-append kept_name stores (store ∷ []) ∙ ap (λ names. store_names stores ++ names) (append-nil (kept_name store))

pub group_pushed : (groups : List GroupDef) (group : GroupDef) → group_names (groups ++ group ∷ []) ≡ group_names groups ++ group.name ∷ []
group_pushed groups group = map-append (λ (g : GroupDef). g.name) groups (group ∷ [])

-- only a second store of a name loses its name
pub stub_name_is : (code : Code) (name : List ℕ) → (stub_name code name ≡ name) ⊎ (code ≡ C03)
stub_name_is C03 name = inr refl
stub_name_is code name = inl refl

-- names before a statement: those that were there, new words, and empty ones
pub record Grown (words old new : List (List ℕ)) : Type 0 where
  pub kept : (name : List ℕ) → is_named old name ≡ true → is_named new name ≡ true
  pub added : (name : List ℕ) → is_named words name ≡ true → is_named new name ≡ true
  pub only : (name : List ℕ) → is_named new name ≡ true → (is_named old name ≡ true) ⊎ ((is_named words name ≡ true) ⊎ (same_name name [] ≡ true))

-- names that have grown have still grown with the same names after both
grown_same : (words old new : List (List ℕ)) (names : List (List ℕ)) → Grown words old new → Grown words (old ++ names) (new ++ names)
grown_same words old new names grown = record {
  kept = λ name there. elim (either (is_named old name) (is_named names name) (sym (named_append old names name) ∙ there)) [
    | inl before ↦ named_append new names name ∙ first_true (is_named new name) (is_named names name) (grown.kept name before)
    | inr here ↦ named_append new names name ∙ second (is_named new name) (is_named names name) here
  ];
  added = λ name there. named_append new names name ∙ first_true (is_named new name) (is_named names name) (grown.added name there);
  only = λ name there. elim (either (is_named new name) (is_named names name) (sym (named_append new names name) ∙ there)) [
    | inl before ↦ old_or name (grown.only name before)
    | inr here ↦ inl (named_append old names name ∙ second (is_named old name) (is_named names name) here)
  ];
}
  where
    second : (a b : Bool) → b ≡ true → (a || b) ≡ true
    second true b h = refl
    second false b h = h

    old_or : (name : List ℕ) → (is_named old name ≡ true) ⊎ ((is_named words name ≡ true) ⊎ (same_name name [] ≡ true))
        → (is_named (old ++ names) name ≡ true) ⊎ ((is_named words name ≡ true) ⊎ (same_name name [] ≡ true))
    old_or name (inl before) = inl (named_append old names name ∙ first_true (is_named old name) (is_named names name) before)
    old_or name (inr other) = inr other

-- a name that is there already may be empty in the grown names
grown_again : (words old new : List (List ℕ)) (again : List ℕ) → is_named old again ≡ true → Grown words old new → Grown words (old ++ again ∷ []) (new ++ [] ∷ [])
grown_again words old new again there grown = record {
  kept = λ name h. named_append new ([] ∷ []) name ∙ first_true (is_named new name) (is_named ([] ∷ []) name) (grown.kept name (in_old name h));
  added = λ name h. named_append new ([] ∷ []) name ∙ first_true (is_named new name) (is_named ([] ∷ []) name) (grown.added name h);
  only = λ name h. elim (either (is_named new name) (is_named ([] ∷ []) name) (sym (named_append new ([] ∷ []) name) ∙ h)) [
    | inl before ↦ old_or name (grown.only name before)
    | inr here ↦ inr (inr (empty name here))
  ];
}
  where
    one : (name other : List ℕ) → is_named (other ∷ []) name ≡ true → same_name name other ≡ true
    one name other h = elim (either (same_name name other) (is_named [] name) (sym (named_first other [] name) ∙ h)) [
      | inl same ↦ same
      | inr none ↦ clash (is_named [] name) none (named_none name)
    ]

    empty : (name : List ℕ) → is_named ([] ∷ []) name ≡ true → same_name name [] ≡ true
    empty name h = one name [] h

    in_old : (name : List ℕ) → is_named (old ++ again ∷ []) name ≡ true → is_named old name ≡ true
    in_old name h = elim (either (is_named old name) (is_named (again ∷ []) name) (sym (named_append old (again ∷ []) name) ∙ h)) [
      | inl before ↦ before
      | inr here ↦ named_same name again (one name again here) old ∙ there
    ]

    old_or : (name : List ℕ) → (is_named old name ≡ true) ⊎ ((is_named words name ≡ true) ⊎ (same_name name [] ≡ true))
        → (is_named (old ++ again ∷ []) name ≡ true) ⊎ ((is_named words name ≡ true) ⊎ (same_name name [] ≡ true))
    old_or name (inl before) = inl (named_append old (again ∷ []) name ∙ first_true (is_named old name) (is_named (again ∷ []) name) before)
    old_or name (inr other) = inr other

module _ (refused : List Refusal) (reported : List NameFault) where
  -- a line is refused
  abbrev Refused : ℕ → Type 0
  Refused line = is_refused refused line ≡ true

  -- begins
  module _ (old new : List (List ℕ)) (follows : (name : Option (List ℕ)) → Follows refused reported (group_cause old name) (group_cause new name)) where
    begin_at : (again : Bool) (start : BeginDef) → AllByRecursion (Known refused reported) (begin_causes old again start) → AllByRecursion (At refused reported) (begin_causes new again start)
    unfolding begin_causes
    begin_at again start known =
        let parts = all_parts (Known refused reported) (caused start.line (broken_if again C02)) (caused start.line (group_cause old (Some start.group))) known in
        joined (At refused reported) (caused start.line (broken_if again C02)) (caused start.line (group_cause new (Some start.group)))
        (caused_at refused reported start.line (broken_if again C02) (broken_if again C02) (broken_follows refused reported again again C02 (λ h. h)) parts.0)
        (caused_at refused reported start.line (group_cause old (Some start.group)) (group_cause new (Some start.group)) (follows (Some start.group)) parts.1)

    pub begins_at : (before begins : List BeginDef) → AllByRecursion (Known refused reported) (each_of (begin_faults old) before begins) → AllByRecursion (At refused reported) (each_of (begin_faults new) before begins)
    begins_at before [] known = tt
    begins_at before (start ∷ begins) known =
        let parts = all_parts (Known refused reported) (begin_causes old (is_begun before start) start) (each_of (begin_faults old) (before ++ start ∷ []) begins) known in
        joined (At refused reported) (begin_causes new (is_begun before start) start) (each_of (begin_faults new) (before ++ start ∷ []) begins)
        (begin_at (is_begun before start) start parts.0) (begins_at (before ++ start ∷ []) begins parts.1)

  -- what is known of a store after others: if it has lost its name, the name is there already; if it is not refused, its name is neither
  -- empty nor a new word
  pub record IsFitStore (words : List (List ℕ)) (before : List StoreDef) (store : StoreDef) : Type 0 where
    pub again : code_at refused store.line ≡ Some C03 → is_named (store_names before) store.name ≡ true
    pub named : is_refused refused store.line ≡ false → nat_eq store.system 0 ≡ true → same_name store.name [] ≡ false
    pub apart : nat_eq store.system 0 ≡ true → is_named words store.name ≡ false

  abbrev pub FitStores : List (List ℕ) → List StoreDef → List StoreDef → Type 0
  FitStores words before [] = Unit {0}
  FitStores words before (store ∷ stores) = IsFitStore words before store × FitStores words (before ++ store ∷ []) stores

  abbrev stub_of : StoreDef → StoreDef
  stub_of store = stub_store (code_at refused store.line) store

  -- the names with a stub
  kept_names : (words old new : List (List ℕ)) (name : List ℕ) (dropped : Bool) (other : List ℕ) → Grown words old new
      → ((other ≡ name) ⊎ ((other ≡ []) × (is_named old name ≡ true)))
      → Grown words (old ++ (if dropped then [] else name ∷ [])) (new ++ (if dropped then [] else other ∷ []))
  kept_names words old new name true other grown is = grown_same words old new [] grown
  kept_names words old new name false other grown (inl same) =
      subst (λ n. Grown words (old ++ name ∷ []) (new ++ n ∷ [])) (sym same) (grown_same words old new (name ∷ []) grown)
  kept_names words old new name false other grown (inr (empty, there)) =
      subst (λ n. Grown words (old ++ name ∷ []) (new ++ n ∷ [])) (sym empty) (grown_again words old new name there grown)

  stub_names : (words old new : List (List ℕ)) (store : StoreDef) (code : Option Code) → (code ≡ Some C03 → is_named old store.name ≡ true) → Grown words old new
      → Grown words (old ++ kept_name store) (new ++ kept_name (stub_store code store))
  stub_names words old new store None again grown = grown_same words old new (kept_name store) grown
  stub_names words old new store (Some code) again grown =
      kept_names words old new store.name (is_dropped store) (stub_name code store.name) grown (by (stub_name_is code store.name))
    where
      by : (stub_name code store.name ≡ store.name) ⊎ (code ≡ C03) → (stub_name code store.name ≡ store.name) ⊎ ((stub_name code store.name ≡ []) × (is_named old store.name ≡ true))
      by (inl same) = inl same
      by (inr is) = inr (ap (λ c. stub_name c store.name) is, again (ap (λ c. Some c) is))

  pub grown_store : (words : List (List ℕ)) (before after : List StoreDef) (store : StoreDef) → IsFitStore words before store → Grown words (store_names before) (store_names after)
      → Grown words (store_names (before ++ store ∷ [])) (store_names (after ++ stub_of store ∷ []))
  grown_store words before after store fit grown =
      subst (λ names. Grown words names (store_names (after ++ stub_of store ∷ []))) (sym (store_pushed before store))
      (subst (λ names. Grown words (store_names before ++ kept_name store) names) (sym (store_pushed after (stub_of store)))
      (stub_names words (store_names before) (store_names after) store (code_at refused store.line) fit.again grown))

  -- stores
  module _ (words old new : List (List ℕ))
      (follows : (before after : List (List ℕ)) → Grown words before after → (item : SrcItem) → Follows refused reported (store_item_cause old before item) (store_item_cause new after item)) where
    again_follows : (before after : List (List ℕ)) (store : StoreDef) → Grown words before after → (nat_eq store.system 0 ≡ true → same_name store.name [] ≡ false)
        → (nat_eq store.system 0 ≡ true → is_named words store.name ≡ false) → is_store_again after store ≡ true → is_store_again before store ≡ true
    again_follows before after store grown named apart again =
        let parts = and_parts (nat_eq store.system 0) (is_named after store.name) again in
        (λ j. parts.0 j && by parts.0 (grown.only store.name parts.1) j)
      where
        by : nat_eq store.system 0 ≡ true → (is_named before store.name ≡ true) ⊎ ((is_named words store.name ≡ true) ⊎ (same_name store.name [] ≡ true)) → is_named before store.name ≡ true
        by ordinary (inl there) = there
        by ordinary (inr (inl word)) = clash (is_named words store.name) word (apart ordinary)
        by ordinary (inr (inr empty)) = clash (same_name store.name []) empty (named ordinary)

    store_at : (before after : List (List ℕ)) (store : StoreDef) → Grown words before after → (nat_eq store.system 0 ≡ true → same_name store.name [] ≡ false)
        → (nat_eq store.system 0 ≡ true → is_named words store.name ≡ false)
        → AllByRecursion (Known refused reported) (store_causes old before store) → AllByRecursion (At refused reported) (store_causes new after store)
    unfolding store_causes
    store_at before after store grown named apart known =
        let parts = all_parts (Known refused reported) (caused store.line (broken_if (is_store_again before store) C03)) (items_caused store.line (store_item_cause old before) store.items) known in
        joined (At refused reported) (caused store.line (broken_if (is_store_again after store) C03)) (items_caused store.line (store_item_cause new after) store.items)
        (caused_at refused reported store.line (broken_if (is_store_again before store) C03) (broken_if (is_store_again after store) C03)
        (broken_follows refused reported (is_store_again before store) (is_store_again after store) C03 (again_follows before after store grown named apart)) parts.0)
        (items_at refused reported store.line (store_item_cause old before) (store_item_cause new after) (follows before after grown) store.items parts.1)

    stub_store_at : (before after : List (List ℕ)) (store : StoreDef) (t : Bool) → is_refused refused store.line ≡ t → Grown words before after
        → (is_refused refused store.line ≡ false → nat_eq store.system 0 ≡ true → same_name store.name [] ≡ false) → (nat_eq store.system 0 ≡ true → is_named words store.name ≡ false)
        → AllByRecursion (Known refused reported) (store_causes old before store) → AllByRecursion (At refused reported) (store_causes new after (stub_of store))
    stub_store_at before after store true at grown named apart known = store_on Refused new after (stub_of store) (ap (is_refused refused) (line_is (code_at refused store.line)) ∙ at)
      where
        line_is : (code : Option Code) → (stub_store code store).line ≡ store.line
        line_is None = refl
        line_is (Some code) = refl
    stub_store_at before after store false free grown named apart known =
        subst (λ code. AllByRecursion (At refused reported) (store_causes new after (stub_store code store))) (sym (no_code refused store.line free))
        (store_at before after store grown (named free) apart known)

    pub stores_at : (before after : List StoreDef) (stores : List StoreDef) → Grown words (store_names before) (store_names after) → FitStores words before stores
        → AllByRecursion (Known refused reported) (each_of (store_faults old) before stores) → AllByRecursion (At refused reported) (each_of (store_faults new) after (map stub_of stores))
    stores_at before after [] grown fit known = tt
    stores_at before after (store ∷ stores) grown (fit, rest) known =
        let parts = all_parts (Known refused reported) (store_causes old (store_names before) store) (each_of (store_faults old) (before ++ store ∷ []) stores) known in
        joined (At refused reported) (store_causes new (store_names after) (stub_of store)) (each_of (store_faults new) (after ++ stub_of store ∷ []) (map stub_of stores))
        (stub_store_at (store_names before) (store_names after) store (is_refused refused store.line) refl grown fit.named fit.apart parts.0)
        (stores_at (before ++ store ∷ []) (after ++ stub_of store ∷ []) stores (grown_store words before after store fit grown) rest parts.1)

  -- groups
  pub record IsFitGroup (words : List (List ℕ)) (before : List GroupDef) (group : GroupDef) : Type 0 where
    pub again : is_some (code_at refused group.line) ≡ true → is_named (group_names before) group.name ≡ true
    pub named : is_refused refused group.line ≡ false → same_name group.name [] ≡ false
    pub apart : is_named words group.name ≡ false

  abbrev pub FitGroups : List (List ℕ) → List GroupDef → List GroupDef → Type 0
  FitGroups words before [] = Unit {0}
  FitGroups words before (group ∷ groups) = IsFitGroup words before group × FitGroups words (before ++ group ∷ []) groups

  stub_group_names : (words old new : List (List ℕ)) (name : List ℕ) (code : Option Code) → (is_some code ≡ true → is_named old name ≡ true) → Grown words old new
      → Grown words (old ++ name ∷ []) (new ++ stub_group_name code name ∷ [])
  stub_group_names words old new name None again grown = grown_same words old new (name ∷ []) grown
  stub_group_names words old new name (Some code) again grown = grown_again words old new name (again refl) grown

  pub grown_group : (words : List (List ℕ)) (before after : List GroupDef) (group : GroupDef) → IsFitGroup words before group → Grown words (group_names before) (group_names after)
      → Grown words (group_names (before ++ group ∷ [])) (group_names (after ++ stub_group refused group ∷ []))
  grown_group words before after group fit grown =
      subst (λ names. Grown words names (group_names (after ++ stub_group refused group ∷ []))) (sym (group_pushed before group))
      (subst (λ names. Grown words (group_names before ++ group.name ∷ []) names) (sym (group_pushed after (stub_group refused group)))
      (stub_group_names words (group_names before) (group_names after) group.name (code_at refused group.line) fit.again grown))

  module _ (words : List (List ℕ)) where
    group_again : (before after : List (List ℕ)) (name : List ℕ) → Grown words before after → same_name name [] ≡ false → is_named words name ≡ false → is_named after name ≡ true → is_named before name ≡ true
    group_again before after name grown named apart again = by (grown.only name again)
      where
        by : (is_named before name ≡ true) ⊎ ((is_named words name ≡ true) ⊎ (same_name name [] ≡ true)) → is_named before name ≡ true
        by (inl there) = there
        by (inr (inl word)) = clash (is_named words name) word apart
        by (inr (inr empty)) = clash (same_name name []) empty named

    stub_group_at : (before after : List (List ℕ)) (group : GroupDef) (t : Bool) → is_refused refused group.line ≡ t → Grown words before after
        → (is_refused refused group.line ≡ false → same_name group.name [] ≡ false) → is_named words group.name ≡ false
        → AllByRecursion (Known refused reported) (group_causes before group) → AllByRecursion (At refused reported) (group_causes after (stub_group refused group))
    unfolding group_causes
    stub_group_at before after group true at grown named apart known = group_on Refused after (stub_group refused group) at
    stub_group_at before after group false free grown named apart known =
        caused_at refused reported group.line (broken_if (is_named before group.name) C04) (broken_if (is_named after (stub_group_name (code_at refused group.line) group.name)) C04)
        (subst (λ code. Follows refused reported (broken_if (is_named before group.name) C04) (broken_if (is_named after (stub_group_name code group.name)) C04)) (sym (no_code refused group.line free))
        (broken_follows refused reported (is_named before group.name) (is_named after group.name) C04 (group_again before after group.name grown (named free) apart)))
        known

    pub groups_at : (before after : List GroupDef) (groups : List GroupDef) → Grown words (group_names before) (group_names after) → FitGroups words before groups
        → AllByRecursion (Known refused reported) (each_of group_faults before groups) → AllByRecursion (At refused reported) (each_of group_faults after (map (stub_group refused) groups))
    groups_at before after [] grown fit known = tt
    groups_at before after (group ∷ groups) grown (fit, rest) known =
        let parts = all_parts (Known refused reported) (group_causes (group_names before) group) (each_of group_faults (before ++ group ∷ []) groups) known in
        joined (At refused reported) (group_causes (group_names after) (stub_group refused group)) (each_of group_faults (after ++ stub_group refused group ∷ []) (map (stub_group refused) groups))
        (stub_group_at (group_names before) (group_names after) group (is_refused refused group.line) refl grown fit.named fit.apart parts.0)
        (groups_at (before ++ group ∷ []) (after ++ stub_group refused group ∷ []) groups (grown_group words before after group fit grown) rest parts.1)

  -- rules: stubs have the kinds of the rules
  module _ (old new old_groups new_groups : List (List ℕ))
      (follows : (item : SrcItem) → Follows refused reported (rule_item_cause old old_groups item) (rule_item_cause new new_groups item)) where
    abbrev stub_at : RuleDef → RuleDef
    stub_at rule = stub_rule (code_at refused rule.line) rule

    kind_is : (code : Option Code) (rule : RuleDef) → (stub_rule code rule).kind ≡ rule.kind
    kind_is None rule = refl
    kind_is (Some code) rule = refl

    line_is : (code : Option Code) (rule : RuleDef) → (stub_rule code rule).line ≡ rule.line
    line_is None rule = refl
    line_is (Some code) rule = refl

    rule_at : (again : Bool) (rule : RuleDef) → AllByRecursion (Known refused reported) (rule_causes old old_groups again rule) → AllByRecursion (At refused reported) (rule_causes new new_groups again rule)
    unfolding rule_causes
    rule_at again rule known =
        let parts = all_parts (Known refused reported) (caused rule.line (broken_if again C15)) (items_caused rule.line (rule_item_cause old old_groups) (rule_items rule)) known in
        joined (At refused reported) (caused rule.line (broken_if again C15)) (items_caused rule.line (rule_item_cause new new_groups) (rule_items rule))
        (caused_at refused reported rule.line (broken_if again C15) (broken_if again C15) (broken_follows refused reported again again C15 (λ h. h)) parts.0)
        (items_at refused reported rule.line (rule_item_cause old old_groups) (rule_item_cause new new_groups) follows (rule_items rule) parts.1)

    stub_rule_at : (again more : Bool) (rule : RuleDef) (t : Bool) → is_refused refused rule.line ≡ t → more ≡ again
        → AllByRecursion (Known refused reported) (rule_causes old old_groups again rule) → AllByRecursion (At refused reported) (rule_causes new new_groups more (stub_at rule))
    stub_rule_at again more rule true at same known =
        rule_on Refused new new_groups more (stub_at rule) (ap (is_refused refused) (line_is (code_at refused rule.line) rule) ∙ at)
    stub_rule_at again more rule false free same known =
        subst (λ code. AllByRecursion (At refused reported) (rule_causes new new_groups more (stub_rule code rule))) (sym (no_code refused rule.line free))
        (subst (λ t. AllByRecursion (At refused reported) (rule_causes new new_groups t rule)) (sym same) (rule_at again rule known))

    -- whether some rule before is of a kind
    pushed_kinds : (test : RuleKind → Bool) (before after : List RuleDef) (rule : RuleDef) → list_any (λ (r : RuleDef). test r.kind) after ≡ list_any (λ (r : RuleDef). test r.kind) before
        → list_any (λ (r : RuleDef). test r.kind) (after ++ stub_at rule ∷ []) ≡ list_any (λ (r : RuleDef). test r.kind) (before ++ rule ∷ [])
    pushed_kinds test before after rule same =
        list_any-append (λ (r : RuleDef). test r.kind) after (stub_at rule ∷ [])
        ∙ (λ j. same j || (test (kind_is (code_at refused rule.line) rule j) || false))
        ∙ sym (list_any-append (λ (r : RuleDef). test r.kind) before (rule ∷ []))

    rules_at : (before after rules : List RuleDef) → (list_any is_on_match after ≡ list_any is_on_match before) → (list_any is_on_nomatch after ≡ list_any is_on_nomatch before)
        → AllByRecursion (Known refused reported) (each_of (rule_faults old old_groups) before rules)
        → AllByRecursion (At refused reported) (each_of (rule_faults new new_groups) after (map stub_at rules))
    rules_at before after [] matched unmatched known = tt
    rules_at before after (rule ∷ rules) matched unmatched known =
        let parts = all_parts (Known refused reported) (rule_causes old old_groups (is_again before rule) rule) (each_of (rule_faults old old_groups) (before ++ rule ∷ []) rules) known in
        let same : is_again after (stub_at rule) ≡ is_again before rule = λ j. is_second (matched j) (unmatched j) (kind_is (code_at refused rule.line) rule j) in
        joined (At refused reported) (rule_causes new new_groups (is_again after (stub_at rule)) (stub_at rule)) (each_of (rule_faults new new_groups) (after ++ stub_at rule ∷ []) (map stub_at rules))
        (stub_rule_at (is_again before rule) (is_again after (stub_at rule)) rule (is_refused refused rule.line) refl same parts.0)
        (rules_at (before ++ rule ∷ []) (after ++ stub_at rule ∷ []) rules (pushed_kinds is_match_kind before after rule matched) (pushed_kinds is_nomatch_kind before after rule unmatched) parts.1)

    pub all_rules_at : (groups : List GroupDef) → AllByRecursion (Known refused reported) (flat_map (rules_faults old old_groups) groups)
        → AllByRecursion (At refused reported) (flat_map (rules_faults new new_groups) (map (stub_group refused) groups))
    all_rules_at [] known = tt
    all_rules_at (group ∷ groups) known =
        let parts = all_parts (Known refused reported) (rules_faults old old_groups group) (flat_map (rules_faults old old_groups) groups) known in
        joined (At refused reported) (rules_faults new new_groups (stub_group refused group)) (flat_map (rules_faults new new_groups) (map (stub_group refused) groups))
        (rules_at [] [] group.rules refl refl parts.0) (all_rules_at groups parts.1)
