-- An item that is not refused is not refused where the stores that it uses fit as well and no more stores are options.
use Rattle.std.proofs.Common.{◌≡◌, ℕ, Bool, true, false, List, [], ◌∷◌, Option, Some, None, refl, sym, ap, ◌∙◌, if◌then◌else◌}
use Rattle.std.specs.Prelude.{nat_eq, not, ◌&&◌}
use Rattle.std.specs.List.{list_any}
use Rattle.std.specs.Option.{option_or}
use Rattle.kmn_base.proofs.Options.{option_or-none}
use Rattle.kmn_base.specs.declared.codes.Code.{Code}
use Rattle.kmn_base.specs.declared.codes.Code.TheVariants.{C09, C10, C12, C13, C14, C25}
use Rattle.kmn_base.specs.declared.items.Element.{Element}
use Rattle.rule_model.specs.declared.program.SrcItem.{SrcItem}
use Rattle.rule_model.specs.declared.program.SrcItem.TheVariants as source
use Rattle.rule_model.specs.declared.program.StoreDef.{StoreDef}
use Rattle.rule_model.specs.declared.program.RuleKind.{RuleKind}
use Rattle.rule_model.specs.declared.program.RuleKind.TheVariants as kind
use Rattle.rule_model.specs.declared.program.RuleDef.{RuleDef}
use Rattle.rule_model.specs.Naming.{elements_named}
use Rattle.rule_model.specs.declared.system.TheConstants.{BITMAP, CASED_KEYS, LEFT_OUT, MNEMONIC_LAYOUT, VERSION}
use Rattle.store_table.specs.First.{broken, first_code}
use Rattle.store_table.specs.Known.{Known, statement_elements}
use Rattle.item_checker.specs.Items.{is_option, are_unfit_keys, is_unfit_store, has_virtual_key, is_no_character, is_left_out, is_other_text, is_system_text, uses_option, needs_characters, needs_plain_keys, brings_no_character, brings_no_plain_key, is_key_place, is_any_key, store_item_code, store_head_code, store_code, index_code, context_code, key_code, output_code, key_index_code, rule_output_code, match_output_code, plain_code, rule_code}
use Rattle.rule_checker.proofs.Unrefused.{none_broken}
use Rattle.fault_laws.proofs.FittingElements.{Fits}

-- a test that is true only if another is stays false
stays_false : (new old : Bool) → (new ≡ true → old ≡ true) → old ≡ false → new ≡ false
stays_false true old only free = let h : true ≡ false = sym (only refl) ∙ free in absurd (cc)
stays_false false old only free = refl

none_row : (code : Code) (holds : Bool) (rows : List (Code × Bool)) → holds ≡ false → broken rows ≡ None → broken ((code, holds) ∷ rows) ≡ None
none_row code true rows free rest = absurd (cc)
none_row code false rows free rest = rest

none_either : (a b : Option Code) → a ≡ None → b ≡ None → option_or a b ≡ None
none_either None b first rest = rest
none_either (Some code) b first rest = absurd (cc)

unfit_keys : (new old : List Element) → Fits new old → are_unfit_keys new ≡ true → are_unfit_keys old ≡ true
unfit_keys [] [] fits h = refl
unfit_keys [] (e ∷ old) fits h = let wrong : false ≡ true = fits.some refl in absurd (cc)
unfit_keys (e ∷ new) [] fits h = refl
unfit_keys (e ∷ new) (f ∷ old) fits h = fits.unfit h

module _ (new old : Known) (option : (name : List ℕ) → is_option new name ≡ true → is_option old name ≡ true)
    (fits : (name : List ℕ) → Fits (elements_named new.stores name) (elements_named old.stores name)) where
  no_option : (name : List ℕ) → is_option old name ≡ false → is_option new name ≡ false
  no_option name free = stays_false (is_option new name) (is_option old name) (option name) free

  fit_keys : (name : List ℕ) → is_unfit_store old name ≡ false → is_unfit_store new name ≡ false
  fit_keys name free = stays_false (is_unfit_store new name) (is_unfit_store old name) (unfit_keys (elements_named new.stores name) (elements_named old.stores name) (fits name)) free

  no_key : (name : List ℕ) → has_virtual_key old name ≡ false → has_virtual_key new name ≡ false
  no_key name free = stays_false (has_virtual_key new name) (has_virtual_key old name) (fits name).key free

  key_none : (key : Option SrcItem) → key_code old key ≡ None → key_code new key ≡ None
  key_none None h = refl
  key_none (Some (source.Char c)) h = h
  key_none (Some (source.Any store)) h =
      let first = none_broken C10 (is_unfit_store old store) ((C13, is_option old store) ∷ []) h in
      let second = none_broken C13 (is_option old store) [] first.1 in
      none_row C10 (is_unfit_store new store) ((C13, is_option new store) ∷ []) (fit_keys store first.0) (none_row C13 (is_option new store) [] (no_option store second.0) refl)
  key_none (Some item) h = refl

  output_none : (item : SrcItem) → output_code old item ≡ None → output_code new item ≡ None
  output_none (source.Call text) h = h
  output_none source.OutOfProfile h = h
  output_none (source.Outs store) h =
      let first = none_broken C12 (has_virtual_key old store) ((C13, is_option old store) ∷ []) h in
      let second = none_broken C13 (is_option old store) [] first.1 in
      none_row C12 (has_virtual_key new store) ((C13, is_option new store) ∷ []) (no_key store first.0) (none_row C13 (is_option new store) [] (no_option store second.0) refl)
  output_none item h = refl

  key_index_none : (rule : RuleDef) (store : List ℕ) → key_index_code old rule store ≡ None → key_index_code new rule store ≡ None
  key_index_none rule store h =
      let first = none_broken C09 (not (is_any_key rule.key)) ((C13, is_option old store) ∷ []) h in
      let second = none_broken C13 (is_option old store) [] first.1 in
      none_row C09 (not (is_any_key rule.key)) ((C13, is_option new store) ∷ []) first.0 (none_row C13 (is_option new store) [] (no_option store second.0) refl)

  index_none : (at_key : Bool) (rule : RuleDef) (store : List ℕ) (offset : ℕ)
      → (if at_key then key_index_code old rule store else index_code rule.context offset) ≡ None → (if at_key then key_index_code new rule store else index_code rule.context offset) ≡ None
  index_none true rule store offset h = key_index_none rule store h
  index_none false rule store offset h = h

  rule_output_none : (rule : RuleDef) (item : SrcItem) → rule_output_code old rule item ≡ None → rule_output_code new rule item ≡ None
  rule_output_none rule (source.Index store offset) h = index_none (is_key_place rule offset) rule store offset h
  rule_output_none rule (source.ContextAt offset) h = h
  rule_output_none rule item h = output_none item h

  match_output_none : (item : SrcItem) → match_output_code old item ≡ None → match_output_code new item ≡ None
  match_output_none (source.Index store offset) h = h
  match_output_none (source.ContextAt offset) h = h
  match_output_none source.Context h = h
  match_output_none item h = output_none item h

  first_none : (new_code old_code : SrcItem → Option Code) → ((item : SrcItem) → old_code item ≡ None → new_code item ≡ None) → (items : List SrcItem)
      → first_code old_code items ≡ None → first_code new_code items ≡ None
  first_none new_code old_code each [] h = refl
  first_none new_code old_code each (item ∷ items) h =
      let both = option_or-none (old_code item) (first_code old_code items) h in
      none_either (new_code item) (first_code new_code items) (each item both.0) (first_none new_code old_code each items both.1)

  plain_none : (rule : RuleDef) → plain_code old rule ≡ None → plain_code new rule ≡ None
  plain_none rule h =
      let first = option_or-none (context_code [] rule.context) (option_or (key_code old rule.key) (first_code (rule_output_code old rule) rule.output)) h in
      let second = option_or-none (key_code old rule.key) (first_code (rule_output_code old rule) rule.output) first.1 in
      none_either (context_code [] rule.context) (option_or (key_code new rule.key) (first_code (rule_output_code new rule) rule.output)) first.0
      (none_either (key_code new rule.key) (first_code (rule_output_code new rule) rule.output) (key_none rule.key second.0)
      (first_none (rule_output_code new rule) (rule_output_code old rule) (rule_output_none rule) rule.output second.1))

  pub rule_none : (how : RuleKind) (rule : RuleDef) → rule_code old how rule ≡ None → rule_code new how rule ≡ None
  rule_none kind.Plain rule h = plain_none rule h
  rule_none kind.OnMatch rule h = first_none (match_output_code new) (match_output_code old) match_output_none rule.output h
  rule_none kind.OnNoMatch rule h = first_none (match_output_code new) (match_output_code old) match_output_none rule.output h

  -- an ordinary store
  module _ (brings : (item : SrcItem) → brings_no_character new item ≡ true → brings_no_character old item ≡ true) where
    uses_none : (item : SrcItem) → uses_option old item ≡ false → uses_option new item ≡ false
    uses_none (source.Outs store) h = no_option store h
    uses_none item h = refl

    both_true : (a b c d : Bool) → (a ≡ true → c ≡ true) → (b ≡ true → d ≡ true) → (a && b) ≡ true → (c && d) ≡ true
    both_true true b c d first rest h = λ j. first refl j && rest h j
    both_true false b c d first rest h = absurd (cc)

    store_item_none : (characters more keys : Bool) → (characters ≡ true → more ≡ true) → keys ≡ false → (item : SrcItem) → store_item_code old more keys item ≡ None → store_item_code new characters keys item ≡ None
    store_item_none characters more keys only none item h =
        let first = none_broken C13 (uses_option old item) ((C14, more && brings_no_character old item) ∷ (C25, keys && brings_no_plain_key old item) ∷ []) h in
        let second = none_broken C14 (more && brings_no_character old item) ((C25, keys && brings_no_plain_key old item) ∷ []) first.1 in
        none_row C13 (uses_option new item) ((C14, characters && brings_no_character new item) ∷ (C25, keys && brings_no_plain_key new item) ∷ []) (uses_none item first.0)
        (none_row C14 (characters && brings_no_character new item) ((C25, keys && brings_no_plain_key new item) ∷ [])
        (stays_false (characters && brings_no_character new item) (more && brings_no_character old item) (both_true characters (brings_no_character new item) more (brings_no_character old item) only (brings item)) second.0)
        (none_row C25 (keys && brings_no_plain_key new item) [] (λ j. none j && brings_no_plain_key new item) refl))

    -- a store without a system id has no text that is checked, and its elements are checked only if it is an option
    no_more : (t : Bool) → (t && false) ≡ false
    no_more true = refl
    no_more false = refl

    no_text : (known : Known) (store : StoreDef) → store.system ≡ 0 → is_other_text known store ≡ false
    no_text known store ordinary =
        ap (λ system. not (list_any is_no_character (statement_elements known store)) && not (is_system_text system (statement_elements known store))) ordinary
        ∙ no_more (not (list_any is_no_character (statement_elements known store)))

    needs : (known : Known) (store : StoreDef) → store.system ≡ 0 → needs_characters known store ≡ is_option known store.name
    needs known store ordinary =
        ap (λ system. if nat_eq system 0 then is_option known store.name else list_any (nat_eq system) (BITMAP ∷ VERSION ∷ MNEMONIC_LAYOUT ∷ [])) ordinary

    pub store_none : (store : StoreDef) → store.system ≡ 0 → store_code old store ≡ None → store_code new store ≡ None
    store_none store ordinary h =
        let parts = option_or-none (store_head_code old store) (first_code (store_item_code old (needs_characters old store) (needs_plain_keys store)) store.items) h in
        let left : is_left_out store ≡ false = ap (λ system. nat_eq system LEFT_OUT) ordinary in
        let plain : needs_plain_keys store ≡ false = ap (λ system. nat_eq system CASED_KEYS) ordinary in
        none_either (store_head_code new store) (first_code (store_item_code new (needs_characters new store) (needs_plain_keys store)) store.items)
        (none_row C12 (is_left_out store) ((C12, is_other_text new store) ∷ []) left (none_row C12 (is_other_text new store) [] (no_text new store ordinary) refl))
        (first_none (store_item_code new (needs_characters new store) (needs_plain_keys store)) (store_item_code old (needs_characters old store) (needs_plain_keys store))
        (store_item_none (needs_characters new store) (needs_characters old store) (needs_plain_keys store)
        (λ used. needs old store ordinary ∙ option store.name (sym (needs new store ordinary) ∙ used)) plain) store.items parts.1)
