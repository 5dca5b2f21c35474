-- The causes of a statement among names that count as defined follow from those that it had before.
use Rattle.std.proofs.Common.{◌≡◌, ℕ, ◌⊎◌, inl, inr, Bool, true, false, List, [], ◌∷◌, ◌++◌, Option, Some, None, refl, sym, ap, subst, ◌∙◌, if◌then◌else◌}
use Rattle.std.specs.Prelude.{not, slice_get}
use Rattle.std.specs.List.{AllByRecursion}
use Rattle.std.specs.Option.{option_or}
use Rattle.std.proofs.lemmas.Option.{none-some}
use Rattle.kmn_base.specs.declared.codes.Code.{Code}
use Rattle.kmn_base.specs.declared.codes.Code.TheVariants.{C02, C03, C04, C07, C15}
use Rattle.kmn_base.specs.declared.refusals.Refusal.{Refusal}
use Rattle.kmn_lines.proofs.TextSizes.{clash}
use Rattle.rule_model.specs.declared.program.SrcItem.{SrcItem}
use Rattle.rule_model.specs.declared.program.SrcItem.TheVariants as source
use Rattle.rule_model.specs.declared.program.StoreDef.{StoreDef}
use Rattle.rule_model.specs.declared.program.RuleDef.{RuleDef}
use Rattle.rule_model.specs.declared.program.GroupDef.{GroupDef}
use Rattle.rule_model.specs.declared.program.BeginDef.{BeginDef}
use Rattle.rule_model.specs.Naming.{rule_items}
use Rattle.store_table.specs.Names.{is_named, store_named, store_put, group_named, lacks, is_store_again, is_group_again}
use Rattle.rule_checker.proofs.Lists.{all_parts}
use Rattle.source_names.specs.declared.causes.Cause.{Cause}
use Rattle.source_names.specs.declared.causes.Cause.TheVariants as because
use Rattle.source_names.specs.declared.causes.NameFault.{NameFault}
use Rattle.source_names.specs.Causes.{store_cause, no_store, group_cause, no_group, broken_if, store_item_cause, rule_item_cause, caused, items_caused, begin_causes, store_causes, group_causes, rule_causes}
use Rattle.source_names.specs.Telling.{is_lacked, stores_lacked, groups_lacked}
use Rattle.source_faults.specs.Stubs.{is_refused}

pub joined : {X : Type 0} (P : X → Type 0) (xs ys : List X) → AllByRecursion P xs → AllByRecursion P ys → AllByRecursion P (xs ++ ys)
joined P [] ys first rest = rest
joined P (x ∷ xs) ys (here, first) rest = (here, joined P xs ys first rest)

or_none : (found : Option Cause) → option_or found None ≡ found
or_none None = refl
or_none (Some cause) = refl

abbrev cause_in : Cause → Option Cause → Cause
cause_in other None = other
cause_in other (Some cause) = cause

pub false_if : (b : Bool) → (b ≡ true → b ≡ false) → b ≡ false
false_if true h = h refl
false_if false h = refl

-- the store that an item of a store statement puts is the one that it names
pub puts : (item : SrcItem) → (store_put item ≡ []) ⊎ (store_put item ≡ store_named item)
puts (source.Outs store) = inr refl
puts item = inl refl

-- an item names a store or a group, not both
pub names_one : (item : SrcItem) → (store_named item ≡ []) ⊎ (group_named item ≡ [])
names_one (source.Enter group) = inl refl
names_one item = inr refl

-- all causes of a statement are at its line
module _ (P : ℕ → Type 0) where
  abbrev pub IsOn : NameFault → Type 0
  IsOn fault = P fault.line

  caused_on : (line : ℕ) → P line → (cause : Option Cause) → AllByRecursion IsOn (caused line cause)
  caused_on line on None = tt
  caused_on line on (Some cause) = (on, tt)

  items_on : (line : ℕ) → P line → (cause : SrcItem → Option Cause) (items : List SrcItem) → AllByRecursion IsOn (items_caused line cause items)
  items_on line on cause [] = tt
  items_on line on cause (item ∷ items) =
      joined IsOn (caused line (cause item)) (items_caused line cause items) (caused_on line on (cause item)) (items_on line on cause items)

  pub begin_on : (groups : List (List ℕ)) (again : Bool) (start : BeginDef) → P start.line → AllByRecursion IsOn (begin_causes groups again start)
  unfolding begin_causes
  begin_on groups again start on =
      joined IsOn (caused start.line (broken_if again C02)) (caused start.line (group_cause groups (Some start.group)))
      (caused_on start.line on (broken_if again C02)) (caused_on start.line on (group_cause groups (Some start.group)))

  pub store_on : (stores before : List (List ℕ)) (store : StoreDef) → P store.line → AllByRecursion IsOn (store_causes stores before store)
  unfolding store_causes
  store_on stores before store on =
      joined IsOn (caused store.line (broken_if (is_store_again before store) C03)) (items_caused store.line (store_item_cause stores before) store.items)
      (caused_on store.line on (broken_if (is_store_again before store) C03)) (items_on store.line on (store_item_cause stores before) store.items)

  pub group_on : (before : List (List ℕ)) (group : GroupDef) → P group.line → AllByRecursion IsOn (group_causes before group)
  unfolding group_causes
  group_on before group on = caused_on group.line on (broken_if (is_group_again before group) C04)

  pub rule_on : (stores groups : List (List ℕ)) (again : Bool) (rule : RuleDef) → P rule.line → AllByRecursion IsOn (rule_causes stores groups again rule)
  unfolding rule_causes
  rule_on stores groups again rule on =
      joined IsOn (caused rule.line (broken_if again C15)) (items_caused rule.line (rule_item_cause stores groups) (rule_items rule))
      (caused_on rule.line on (broken_if again C15)) (items_on rule.line on (rule_item_cause stores groups) (rule_items rule))

module _ (refused : List Refusal) (reported : List NameFault) where
  -- a cause at a refused line, and one that is at such a line or that lacks a name that is reported
  abbrev pub At : NameFault → Type 0
  At fault = is_refused refused fault.line ≡ true

  abbrev pub Known : NameFault → Type 0
  Known fault = (is_refused refused fault.line ≡ true) ⊎ (is_lacked reported fault.cause ≡ true)

  -- if there is a cause, there was one before that lacks no name that is reported
  abbrev pub Follows : Option Cause → Option Cause → Type 0
  Follows old new = (cause : Cause) → new ≡ Some cause → (before : Cause) × (old ≡ Some before) × (is_lacked reported before ≡ false)

  known_at : (line : ℕ) (old : Option Cause) (before : Cause) → old ≡ Some before → is_lacked reported before ≡ false → AllByRecursion Known (caused line old) → is_refused refused line ≡ true
  known_at line None before is free known = absurd (none-some before is)
  known_at line (Some cause) before is free (inl at, rest) = at
  known_at line (Some cause) before is free (inr lacked, rest) =
      clash (is_lacked reported cause) lacked (ap (λ (found : Option Cause). is_lacked reported (cause_in cause found)) is ∙ free)

  pub caused_at : (line : ℕ) (old new : Option Cause) → Follows old new → AllByRecursion Known (caused line old) → AllByRecursion At (caused line new)
  caused_at line old None follows known = tt
  caused_at line old (Some cause) follows known =
      let first = follows cause refl in
      (known_at line old first.0 first.1 first.2 known, tt)

  pub items_at : (line : ℕ) (old new : SrcItem → Option Cause) → ((item : SrcItem) → Follows (old item) (new item)) → (items : List SrcItem)
      → AllByRecursion Known (items_caused line old items) → AllByRecursion At (items_caused line new items)
  items_at line old new follows [] known = tt
  items_at line old new follows (item ∷ items) known =
      let parts = all_parts Known (caused line (old item)) (items_caused line old items) known in
      joined At (caused line (new item)) (items_caused line new items)
      (caused_at line (old item) (new item) (follows item) parts.0) (items_at line old new follows items parts.1)

  -- a rule that is broken among the new names was broken before
  pub broken_follows : (old new : Bool) (code : Code) → (new ≡ true → old ≡ true) → Follows (broken_if old code) (broken_if new code)
  broken_follows old false code same cause is = absurd (none-some cause is)
  broken_follows true true code same cause is = (because.Broken code, refl, refl)
  broken_follows false true code same cause is = let h : false ≡ true = same refl in absurd (cc)

  -- a store that is not among the new names was not among the old ones, and it was not reported
  module _ (old new : List (List ℕ)) (kept : (name : List ℕ) → is_named old name ≡ true → is_named new name ≡ true) where
    pub group_follows : ((name : List ℕ) → is_named (groups_lacked reported) name ≡ true → is_named new name ≡ true) → (name : Option (List ℕ))
        → Follows (group_cause old name) (group_cause new name)
    group_follows defined None cause is = absurd (none-some cause is)
    group_follows defined (Some name) cause is = by (is_named new name) refl (is_named old name) refl is
      where
        by : (t : Bool) → is_named new name ≡ t → (u : Bool) → is_named old name ≡ u → (if t then None else Some (because.NoGroup name)) ≡ Some cause
            → (before : Cause) × ((if u then None else Some (because.NoGroup name)) ≡ Some before) × (is_lacked reported before ≡ false)
        by true e u f h = absurd (none-some cause h)
        by false e true f h = clash (is_named new name) (kept name f) e
        by false e false f h = (because.NoGroup name, refl, false_if (is_named (groups_lacked reported) name) (λ there. clash (is_named new name) (defined name there) e))

    module _ (defined : (name : List ℕ) → is_named (stores_lacked reported) name ≡ true → is_named new name ≡ true) where
      pub store_follows : (name : Option (List ℕ)) → Follows (store_cause old name) (store_cause new name)
      store_follows None cause is = absurd (none-some cause is)
      store_follows (Some name) cause is = by (is_named new name) refl (is_named old name) refl is
        where
          by : (t : Bool) → is_named new name ≡ t → (u : Bool) → is_named old name ≡ u → (if t then None else Some (because.NoStore name)) ≡ Some cause
              → (before : Cause) × ((if u then None else Some (because.NoStore name)) ≡ Some before) × (is_lacked reported before ≡ false)
          by true e u f h = absurd (none-some cause h)
          by false e true f h = clash (is_named new name) (kept name f) e
          by false e false f h = (because.NoStore name, refl, false_if (is_named (stores_lacked reported) name) (λ there. clash (is_named new name) (defined name there) e))

      -- the same with the stores before a statement
      module _ (before after : List (List ℕ)) (kept_before : (name : List ℕ) → is_named before name ≡ true → is_named after name ≡ true)
          (defined_before : (name : List ℕ) → is_named old name ≡ false → is_named (stores_lacked reported) name ≡ true → is_named after name ≡ true) where
        put_follows : (names : List (List ℕ))
            → Follows (option_or (store_cause old (slice_get names 0)) (broken_if (lacks before names) C07)) (option_or (store_cause new (slice_get names 0)) (broken_if (lacks after names) C07))
        put_follows [] cause is = absurd (none-some cause is)
        put_follows (name ∷ names) cause is = by (is_named new name) refl (is_named old name) refl (is_named after name) refl (is_named before name) refl is
          where
            by : (t : Bool) → is_named new name ≡ t → (u : Bool) → is_named old name ≡ u → (v : Bool) → is_named after name ≡ v → (w : Bool) → is_named before name ≡ w
                → option_or (if t then None else Some (because.NoStore name)) (broken_if (not v) C07) ≡ Some cause
                → (first : Cause) × (option_or (if u then None else Some (because.NoStore name)) (broken_if (not w) C07) ≡ Some first) × (is_lacked reported first ≡ false)
            by false e true f v g w k h = clash (is_named new name) (kept name f) e
            by false e false f v g w k h = (because.NoStore name, refl, false_if (is_named (stores_lacked reported) name) (λ there. clash (is_named new name) (defined name there) e))
            by true e u f true g w k h = absurd (none-some cause h)
            by true e u f false g true k h = clash (is_named after name) (kept_before name k) g
            by true e true f false g false k h = (because.Broken C07, refl, refl)
            by true e false f false g false k h =
                (because.NoStore name, refl, false_if (is_named (stores_lacked reported) name) (λ there. clash (is_named after name) (defined_before name f there) g))

        pub store_item_follows : (item : SrcItem) → Follows (store_item_cause old before item) (store_item_cause new after item)
        store_item_follows item = by (puts item)
          where
            by : (store_put item ≡ []) ⊎ (store_put item ≡ store_named item) → Follows (store_item_cause old before item) (store_item_cause new after item)
            by (inr same) =
                subst (λ names. Follows (option_or (no_store old item) (broken_if (lacks before names) C07)) (option_or (no_store new item) (broken_if (lacks after names) C07)))
                (sym same) (put_follows (store_named item))
            by (inl none) =
                subst (λ names. Follows (option_or (no_store old item) (broken_if (lacks before names) C07)) (option_or (no_store new item) (broken_if (lacks after names) C07)))
                (sym none)
                (λ cause is.
                let found = store_follows (slice_get (store_named item) 0) cause (sym (or_none (no_store new item)) ∙ is) in
                (found.0, or_none (no_store old item) ∙ found.1, found.2))

      -- an item of a rule names a store or a group
      pub rule_item_follows : (groups more : List (List ℕ)) → ((name : Option (List ℕ)) → Follows (group_cause groups name) (group_cause more name)) → (item : SrcItem)
          → Follows (rule_item_cause old groups item) (rule_item_cause new more item)
      rule_item_follows groups more follows item = by (names_one item)
        where
          by : (store_named item ≡ []) ⊎ (group_named item ≡ []) → Follows (rule_item_cause old groups item) (rule_item_cause new more item)
          by (inl none) =
              subst (λ names. Follows (option_or (store_cause old (slice_get names 0)) (no_group groups item)) (option_or (store_cause new (slice_get names 0)) (no_group more item)))
              (sym none) (follows (slice_get (group_named item) 0))
          by (inr none) =
              subst (λ names. Follows (option_or (no_store old item) (group_cause groups (slice_get names 0))) (option_or (no_store new item) (group_cause more (slice_get names 0))))
              (sym none)
              (λ cause is.
              let found = store_follows (slice_get (store_named item) 0) cause (sym (or_none (no_store new item)) ∙ is) in
              (found.0, or_none (no_store old item) ∙ found.1, found.2))
