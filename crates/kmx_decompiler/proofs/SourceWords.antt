-- The store of a program's key names has no cause: the names are words that a source can have, each once.
use Rattle.std.proofs.Common.{◌≡◌, ℕ, Bool, true, false, not, ◌&&◌, ◌||◌, List, [], ◌∷◌, ◌++◌, map, refl, sym, ◌∙◌, ap, if◌then◌else◌, append_assoc, append-nil}
use Rattle.std.specs.Prelude.{All, nat_eq, nat_lt, filter_map, flat_map, encode_utf8_all}
use Rattle.std.specs.List.{list_all, list_any, join_with_byte, prefix_len}
use Rattle.std.specs.Str.{chars}
use Rattle.std.proofs.lemmas.Bool.{or_parts, eqb-true}
use Rattle.std.proofs.lemmas.List.Elements.{All-nil, All-cons, All-head, All-tail, All-append, All-take, All-drop}
use Rattle.kmn_base.specs.declared.items.Element.TheVariants as element
use Rattle.kmn_base.specs.Names.{same_name}
use Rattle.rule_model.specs.declared.program.SrcItem.{SrcItem}
use Rattle.rule_model.specs.declared.program.SrcItem.TheVariants as source
use Rattle.rule_model.specs.declared.program.StoreDef.{StoreDef}
use Rattle.rule_model.specs.declared.program.RuleDef.{RuleDef}
use Rattle.rule_model.specs.declared.program.Program.{Program}
use Rattle.rule_model.specs.Naming.{names_of, rule_items, all_rules, store_items, stores_before, stores_after, items_from, source_items, key_names}
use Rattle.rule_model.specs.Tab.{distinct_onto, element_char, words}
use Rattle.compile_laws.specs.WellNamed.{is_word}
use Rattle.compile_laws.proofs.Dictionary.{read_chars, words_again}
use Rattle.rule_checker.proofs.Lists.{All-flat_map, All-distinct, all_pass}
use Rattle.kmx_decompiler.specs.Causes.{is_dictionary_name, are_repeated, is_unspelled_dictionary}
use Rattle.kmx_decompiler.specs.Written.{IsWrittenItem, IsWrittenStore, IsWrittenRule, WasWritten}
use Rattle.kmx_decompiler.proofs.SpelledKeys.{IsKeyName}

-- ---- names that are collected once each are not repeated

more-apart : (before names : List (List ℕ)) (x : List ℕ) → are_repeated before names ≡ false → list_any (λ known. same_name known x) (before ++ names) ≡ false
    → are_repeated before (names ++ x ∷ []) ≡ false
more-apart before [] x h new = λ i. (ap (list_any (λ known. same_name known x)) (sym (append-nil before)) ∙ new) i || false
more-apart before (name ∷ names) x h new =
    let parts = or_parts (list_any (λ known. same_name known name) before) (are_repeated (before ++ name ∷ []) names) h in
    let later : list_any (λ known. same_name known x) ((before ++ name ∷ []) ++ names) ≡ false = ap (list_any (λ known. same_name known x)) (append_assoc before (name ∷ []) names) ∙ new in
    λ i. parts.0 i || more-apart (before ++ name ∷ []) names x parts.1 later i

distinct-apart : (seen xs : List (List ℕ)) → are_repeated [] seen ≡ false → are_repeated [] (distinct_onto same_name seen xs) ≡ false
distinct-apart seen [] h = h
distinct-apart seen (x ∷ xs) h =
    distinct-apart (if list_any (λ known. same_name known x) seen then seen else seen ++ x ∷ []) xs (by (list_any (λ known. same_name known x) seen) refl)
  where
    by : (b : Bool) → list_any (λ known. same_name known x) seen ≡ b → are_repeated [] (if b then seen else seen ++ x ∷ []) ≡ false
    by true is = h
    by false is = more-apart [] seen x h is

pub names_apart : (program : Program) → are_repeated [] (names_of program).keys ≡ false
unfolding names_of
names_apart program = distinct-apart [] (flat_map key_names (source_items program)) refl

pub dictionary_fine : (name : List ℕ) (names : List (List ℕ)) → list_all is_word (name ∷ names) ≡ true → list_all is_dictionary_name (name ∷ names) ≡ true → are_repeated [] (name ∷ names) ≡ false
    → is_unspelled_dictionary (map element.Char (chars (join_with_byte 32 (name ∷ names)))) ≡ false
dictionary_fine name names w good apart =
    let cs : List ℕ = chars (join_with_byte 32 (name ∷ names)) in
    let again : words (encode_utf8_all (filter_map element_char (map element.Char cs))) ≡ name ∷ names = ap (λ (read : List ℕ). words (encode_utf8_all read)) (read_chars cs) ∙ words_again (name ∷ names) w in
    (λ i. not (list_all is_dictionary_name (again i)) || are_repeated [] (again i)) ∙ (λ i. not (good i) || apart i)

-- ---- the names of a program's custom keys

module _ (program : Program) (written : WasWritten program) where
  store-items-written : (stores : List StoreDef) → All IsWrittenStore stores → All IsWrittenItem (store_items stores)
  store-items-written stores ok = All-flat_map IsWrittenStore IsWrittenItem (λ (store : StoreDef). store.items) (λ store is. is.items) stores ok

  items-written : (stores : List StoreDef) (rules : List RuleDef) → All IsWrittenStore stores → All IsWrittenRule rules → All IsWrittenItem (items_from stores rules)
  items-written stores [] ok items = store-items-written stores ok
  items-written stores (rule ∷ rules) ok items =
      let count = prefix_len (λ (store : StoreDef). nat_lt store.line rule.line) stores in
      All-append IsWrittenItem (store_items (stores_before rule.line stores)) (rule_items rule ++ items_from (stores_after rule.line stores) rules)
      (store-items-written (stores_before rule.line stores) (All-take IsWrittenStore count stores ok))
      (All-append IsWrittenItem (rule_items rule) (items_from (stores_after rule.line stores) rules) (All-head IsWrittenRule rule rules items).items
      (items-written (stores_after rule.line stores) rules (All-drop IsWrittenStore count stores ok) (All-tail IsWrittenRule rule rules items)))

  key-named : (item : SrcItem) → IsWrittenItem item → All IsKeyName (key_names item)
  key-named (source.Key key) ok = by (nat_eq key.code 0) refl
    where
      by : (b : Bool) → nat_eq key.code 0 ≡ b → All IsKeyName (if b then key.name ∷ [] else [])
      by true e =
          let own = ok.own (eqb-true key.code 0 e) in
          All-cons IsKeyName key.name [] (λ i. own.0 i && (own.1.read i && own.1.utf8 i)) (All-nil IsKeyName)
      by false e = All-nil IsKeyName
  key-named item ok = All-nil IsKeyName

  pub names_good : list_all is_dictionary_name (names_of program).keys ≡ true
  unfolding names_of
  names_good =
      all_pass IsKeyName is_dictionary_name (λ name h. h) (distinct_onto same_name [] (flat_map key_names (source_items program)))
      (All-distinct IsKeyName same_name [] (flat_map key_names (source_items program)) (All-nil IsKeyName)
      (All-flat_map IsWrittenItem IsKeyName key_names key-named (source_items program) (items-written program.stores (all_rules program) written.stores written.rules)))
