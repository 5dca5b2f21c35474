-- No item is refused as a second store.
use Rattle.std.proofs.Common.{◌≡◌, ℕ, Bool, true, false, List, [], ◌∷◌, ◌++◌, Option, Some, None, refl, if◌then◌else◌}
use Rattle.std.specs.Prelude.{nat_eq, not, ◌&&◌, flat_map, option_to_list}
use Rattle.std.specs.List.{AllByRecursion}
use Rattle.std.specs.Option.{option_or}
use Rattle.kmn_base.specs.declared.codes.Code.{Code}
use Rattle.kmn_base.specs.declared.codes.Code.TheVariants.{C08, C09, C10, C12, C13, C14, C25}
use Rattle.kmn_base.specs.declared.refusals.Refusal.{Refusal}
use Rattle.rule_model.specs.declared.program.SrcItem.{SrcItem}
use Rattle.rule_model.specs.declared.program.SrcItem.TheVariants as source
use Rattle.rule_model.specs.declared.program.StoreDef.{StoreDef}
use Rattle.rule_model.specs.declared.program.RuleKind.{RuleKind}
use Rattle.rule_model.specs.declared.program.RuleKind.TheVariants as kind
use Rattle.rule_model.specs.declared.program.RuleDef.{RuleDef}
use Rattle.rule_model.specs.declared.program.GroupDef.{GroupDef}
use Rattle.rule_model.specs.declared.program.Program.{Program}
use Rattle.store_table.specs.First.{broken, first_code, at_line, all_of}
use Rattle.store_table.specs.Known.{Known, known}
use Rattle.item_checker.specs.Items.{is_option, is_far, is_unfit_store, has_virtual_key, is_left_out, is_other_text, misses_pattern, misses_any, uses_option, needs_characters, needs_plain_keys, brings_no_character, brings_no_plain_key, is_key_place, is_any_key, store_item_code, store_head_code, store_code, index_code, context_at_code, context_item_code, context_code, key_code, output_code, key_index_code, rule_output_code, offset_code, match_output_code, rule_code, rules_refusals, items_refusals}
use Rattle.fault_laws.proofs.CausesLeft.{joined}
use Rattle.fault_laws.proofs.OwnCodes.{is_second_store}

-- another code than that of a second store, if any
abbrev pub IsOther : Option Code → Type 0
IsOther None = Unit {0}
IsOther (Some code) = is_second_store code ≡ false

row_other : (code : Code) (holds : Bool) (rows : List (Code × Bool)) → is_second_store code ≡ false → IsOther (broken rows) → IsOther (broken ((code, holds) ∷ rows))
row_other code true rows other rest = other
row_other code false rows other rest = rest

or_other : (a b : Option Code) → IsOther a → IsOther b → IsOther (option_or a b)
or_other None b first rest = rest
or_other (Some code) b first rest = first

first_other : (code : SrcItem → Option Code) → ((item : SrcItem) → IsOther (code item)) → (items : List SrcItem) → IsOther (first_code code items)
first_other code each [] = tt
first_other code each (item ∷ items) = or_other (code item) (first_code code items) (each item) (first_other code each items)

index_other : (items : List SrcItem) (offset : ℕ) → IsOther (index_code items offset)
index_other items offset = row_other C08 (misses_pattern items offset) ((C09, misses_any items offset) ∷ []) refl (row_other C09 (misses_any items offset) [] refl tt)

context_at_other : (items : List SrcItem) (offset : ℕ) → IsOther (context_at_code items offset)
context_at_other items offset = row_other C08 (misses_pattern items offset) [] refl tt

context_item_other : (before : List SrcItem) (item : SrcItem) → IsOther (context_item_code before item)
context_item_other before (source.Index store offset) = index_other before offset
context_item_other before (source.ContextAt offset) = context_at_other before offset
context_item_other before source.OutOfProfile = refl
context_item_other before item = tt

context_other : (before items : List SrcItem) → IsOther (context_code before items)
context_other before [] = tt
context_other before (item ∷ items) =
    or_other (context_item_code before item) (context_code (before ++ item ∷ []) items) (context_item_other before item) (context_other (before ++ item ∷ []) items)

module _ (facts : Known) where
  key_other : (key : Option SrcItem) → IsOther (key_code facts key)
  key_other None = tt
  key_other (Some (source.Char c)) = row_other C10 (is_far c) [] refl tt
  key_other (Some (source.Any store)) =
      row_other C10 (is_unfit_store facts store) ((C13, is_option facts store) ∷ []) refl (row_other C13 (is_option facts store) [] refl tt)
  key_other (Some item) = tt

  output_other : (item : SrcItem) → IsOther (output_code facts item)
  output_other (source.Call text) = refl
  output_other source.OutOfProfile = refl
  output_other (source.Outs store) =
      row_other C12 (has_virtual_key facts store) ((C13, is_option facts store) ∷ []) refl (row_other C13 (is_option facts store) [] refl tt)
  output_other item = tt

  if_other : (test : Bool) (a b : Option Code) → IsOther a → IsOther b → IsOther (if test then a else b)
  if_other true a b first rest = first
  if_other false a b first rest = rest

  rule_output_other : (rule : RuleDef) (item : SrcItem) → IsOther (rule_output_code facts rule item)
  rule_output_other rule (source.Index store offset) =
      if_other (is_key_place rule offset) (key_index_code facts rule store) (index_code rule.context offset)
      (row_other C09 (not (is_any_key rule.key)) ((C13, is_option facts store) ∷ []) refl (row_other C13 (is_option facts store) [] refl tt))
      (index_other rule.context offset)
  rule_output_other rule (source.ContextAt offset) = context_at_other rule.context offset
  rule_output_other rule item = output_other item

  offset_other : (offset : ℕ) → IsOther (offset_code offset)
  offset_other offset = row_other C08 (nat_eq offset 0) ((C12, true) ∷ []) refl refl

  match_output_other : (item : SrcItem) → IsOther (match_output_code facts item)
  match_output_other (source.Index store offset) = offset_other offset
  match_output_other (source.ContextAt offset) = offset_other offset
  match_output_other source.Context = refl
  match_output_other item = output_other item

  rule_other : (how : RuleKind) (rule : RuleDef) → IsOther (rule_code facts how rule)
  rule_other kind.Plain rule =
      or_other (context_code [] rule.context) (option_or (key_code facts rule.key) (first_code (rule_output_code facts rule) rule.output)) (context_other [] rule.context)
      (or_other (key_code facts rule.key) (first_code (rule_output_code facts rule) rule.output) (key_other rule.key) (first_other (rule_output_code facts rule) (rule_output_other rule) rule.output))
  rule_other kind.OnMatch rule = first_other (match_output_code facts) match_output_other rule.output
  rule_other kind.OnNoMatch rule = first_other (match_output_code facts) match_output_other rule.output

  store_item_other : (characters keys : Bool) (item : SrcItem) → IsOther (store_item_code facts characters keys item)
  store_item_other characters keys item =
      row_other C13 (uses_option facts item) ((C14, characters && brings_no_character facts item) ∷ (C25, keys && brings_no_plain_key facts item) ∷ []) refl
      (row_other C14 (characters && brings_no_character facts item) ((C25, keys && brings_no_plain_key facts item) ∷ []) refl
      (row_other C25 (keys && brings_no_plain_key facts item) [] refl tt))

  store_other : (store : StoreDef) → IsOther (store_code facts store)
  store_other store =
      or_other (store_head_code facts store) (first_code (store_item_code facts (needs_characters facts store) (needs_plain_keys store)) store.items)
      (row_other C12 (is_left_out store) ((C12, is_other_text facts store) ∷ []) refl (row_other C12 (is_other_text facts store) [] refl tt))
      (first_other (store_item_code facts (needs_characters facts store) (needs_plain_keys store)) (store_item_other (needs_characters facts store) (needs_plain_keys store)) store.items)

abbrev pub OtherCode : Refusal → Type 0
OtherCode found = is_second_store found.code ≡ false

each_other : {X : Type 0} (line_of : X → ℕ) (code : X → Option Code) → ((x : X) → IsOther (code x)) → (before xs : List X)
    → AllByRecursion OtherCode (all_of (λ (earlier : List X) (x : X). at_line (line_of x) (code x)) before xs)
each_other {X = X} line_of code each before [] = tt
each_other {X = X} line_of code each before (x ∷ xs) = by (code x) (each x) (each_other line_of code each (before ++ x ∷ []) xs)
  where
    by : (c : Option Code) → IsOther c → AllByRecursion OtherCode (all_of (λ (earlier : List X) (y : X). at_line (line_of y) (code y)) (before ++ x ∷ []) xs)
        → AllByRecursion OtherCode (option_to_list (at_line (line_of x) c) ++ all_of (λ (earlier : List X) (y : X). at_line (line_of y) (code y)) (before ++ x ∷ []) xs)
    by None other rest = rest
    by (Some c) other rest = (other, rest)

rules_other : (facts : Known) (groups : List GroupDef) → AllByRecursion OtherCode (flat_map (rules_refusals facts) groups)
rules_other facts [] = tt
rules_other facts (group ∷ groups) =
    joined OtherCode (rules_refusals facts group) (flat_map (rules_refusals facts) groups)
    (each_other (λ (rule : RuleDef). rule.line) (λ (rule : RuleDef). rule_code facts rule.kind rule) (λ rule. rule_other facts rule.kind rule) [] group.rules)
    (rules_other facts groups)

pub items_other : (program : Program) → AllByRecursion OtherCode (items_refusals program)
unfolding items_refusals
items_other program =
    joined OtherCode (all_of (λ (earlier : List StoreDef) (store : StoreDef). at_line store.line (store_code (known program) store)) [] program.stores) (flat_map (rules_refusals (known program)) program.groups)
    (each_other (λ (store : StoreDef). store.line) (store_code (known program)) (store_other (known program)) [] program.stores)
    (rules_other (known program) program.groups)
