-- The records of a file are read as the stores, groups and rules that were written.
use Rattle.std.proofs.Common.{◌≡◌, ℕ, ◌+◌, ◌*◌, ◌^◌, ◌<◌, ◌≤◌, Bool, true, false, List, [], ◌∷◌, ◌++◌, length, map, refl, sym, ap, ap₂, ◌∙◌, append_assoc, length-append, arith, ne_eqb, lit<}
use Rattle.std.specs.List.{All, flat_map}
use Rattle.std.proofs.lemmas.List.Elements.{All-head, All-tail}
use Rattle.std.proofs.lemmas.Nat.{and_le_r}
use Rattle.kmn_base.specs.declared.keys.RuleKey.{RuleKey}
use Rattle.kmn_base.specs.declared.keys.RuleKey.TheVariants.{Any, Char, Virtual}
use Rattle.rule_model.specs.declared.tables.Rule.{Rule}
use Rattle.rule_model.specs.declared.tables.Store.{Store}
use Rattle.kmx_format.specs.FileUnits.{element_units, pattern_units, output_units, name_units}
use Rattle.kmx_format.specs.File.{half, words, string, offset_of, store_strings, rule_strings, store_record, store_records, key_code, key_flags, rule_record, rule_records}
use Rattle.kmx_format.specs.TablesOf.{half_at, word_at, name_at, elements_at, patterns_at, outputs_at, store_at, stores_from, key_of, rule_at, rules_from, rule_without_place}
use Rattle.kmx_format.specs.Writable.{IsWritableStore, IsWritableKey, IsWritableRule}
use Rattle.kmn_base.specs.declared.keys.TheConstants.{SHIFT_FLAGS}
use Rattle.kmx_format.proofs.FileStands.{StandsAt, front, back, same_place, length-half, length-words, half_at-stands, first_word_at, nth_word_at}
use Rattle.kmx_format.proofs.FileContents.{elements_at-stands, patterns_at-stands, outputs_at-stands, name_at-stands}

pub offset_of-le : {X : Type 0} (xs : List X) (place limit : ℕ) → place ≤ limit → offset_of xs place ≤ limit
offset_of-le [] place limit h = omega arith
offset_of-le (x ∷ xs) place limit h = h

pub length-store_record : (place : ℕ) (store : Store) → length (store_record place store) ≡ 12
length-store_record place store = length-words (store.system ∷ offset_of (name_units store.name) place ∷ offset_of (element_units store.elements) (place + length (string (name_units store.name))) ∷ [])

module _ (bytes : List ℕ) (small : length bytes < 2 ^ 32) where
  store_at-stands : (at place : ℕ) (store : Store) → 0 < place → IsWritableStore store
      → StandsAt bytes at (store_record place store) → StandsAt bytes place (store_strings store) → store_at bytes at ≡ store
  store_at-stands at place store positive writable fields strings =
      let name : List ℕ = name_units store.name in
      let elements : List ℕ = element_units store.elements in
      let second : ℕ = place + length (string name) in
      let fields_are : List ℕ = store.system ∷ offset_of name place ∷ offset_of elements second ∷ [] in
      let name_string : StandsAt bytes place (string name) = front bytes place (string name) (string elements) strings in
      let elements_string : StandsAt bytes second (string elements) = back bytes place (string name) (string elements) strings in
      let system_is : word_at bytes at ≡ store.system = first_word_at bytes at store.system (offset_of name place ∷ offset_of elements second ∷ []) writable.system fields in
      let name_is : name_at bytes (word_at bytes (at + 4)) ≡ store.name =
      ap (name_at bytes) (nth_word_at bytes at fields_are 1 (lit< tt) (omega (arith, offset_of-le name place (length bytes) name_string.within)) fields)
      ∙ name_at-stands bytes place store.name positive writable.name name_string in
      let elements_are : elements_at bytes (word_at bytes (at + 8)) ≡ store.elements =
      ap (elements_at bytes) (nth_word_at bytes at fields_are 2 (lit< tt) (omega (arith, offset_of-le elements second (length bytes) elements_string.within)) fields)
      ∙ elements_at-stands bytes second store.elements (omega arith) writable.elements elements_string in
      λ i. record { system = system_is i; name = name_is i; elements = elements_are i }

  pub stores_from-stands : (at place : ℕ) (stores : List Store) → 0 < place → All IsWritableStore stores
      → StandsAt bytes at (store_records place stores) → StandsAt bytes place (flat_map store_strings stores) → stores_from bytes at (length stores) ≡ stores
  stores_from-stands at place [] positive writable fields strings = refl
  stores_from-stands at place (store ∷ stores) positive writable fields strings =
      let behind : ℕ = place + length (store_strings store) in
      let first : store_at bytes at ≡ store =
      store_at-stands at place store positive (All-head IsWritableStore store stores writable)
      (front bytes at (store_record place store) (store_records behind stores) fields)
      (front bytes place (store_strings store) (flat_map store_strings stores) strings) in
      let others_fields : StandsAt bytes (at + 12) (store_records behind stores) =
      same_place bytes (at + length (store_record place store)) (at + 12) (store_records behind stores) (ap (λ n. at + n) (length-store_record place store))
      (back bytes at (store_record place store) (store_records behind stores) fields) in
      let others : stores_from bytes (at + 12) (length stores) ≡ stores =
      stores_from-stands (at + 12) behind stores (omega arith) (All-tail IsWritableStore store stores writable) others_fields
      (back bytes place (store_strings store) (flat_map store_strings stores) strings) in
      λ i. first i ∷ others i

-- ---- key records

key_of-written : (using_keys : Bool) (key : RuleKey) → IsWritableKey using_keys key → key_of using_keys (key_code key) (key_flags key) ≡ key
key_of-written false Any h = refl
key_of-written false (Char unit) h = absurd h
key_of-written false (Virtual flags code) h = absurd h
key_of-written true Any h = absurd h
key_of-written true (Char unit) h = refl
key_of-written true (Virtual flags code) h = rw (ne_eqb flags 0 h.0)

key_code-small : (using_keys : Bool) (key : RuleKey) → IsWritableKey using_keys key → key_code key < 2 ^ 16
key_code-small false Any h = lit< tt
key_code-small false (Char unit) h = absurd h
key_code-small false (Virtual flags code) h = absurd h
key_code-small true Any h = absurd h
key_code-small true (Char unit) h = h
key_code-small true (Virtual flags code) h = h.2

pub key_flags-small : (using_keys : Bool) (key : RuleKey) → IsWritableKey using_keys key → key_flags key < 2 ^ 32
key_flags-small false Any h = lit< tt
key_flags-small false (Char unit) h = absurd h
key_flags-small false (Virtual flags code) h = absurd h
key_flags-small true Any h = absurd h
key_flags-small true (Char unit) h = lit< tt
key_flags-small true (Virtual flags code) h = omega (arith, and_le_r flags SHIFT_FLAGS, h.1)

pub length-rule_record : (place : ℕ) (rule : Rule) → length (rule_record place rule) ≡ 20
length-rule_record place rule =
    let context : List ℕ = pattern_units rule.context in
    let ns : List ℕ = rule.line ∷ key_flags rule.key ∷ offset_of (output_units rule.output) (place + length (string context)) ∷ offset_of context place ∷ [] in
    omega (arith, length-append (half (key_code rule.key) ++ half 0) (words ns), length-append (half (key_code rule.key)) (half 0), length-half (key_code rule.key), length-half 0, length-words ns)

pub length-rule_records : (place : ℕ) (rules : List Rule) → length (rule_records place rules) ≡ 20 * length rules
length-rule_records place [] = refl
length-rule_records place (rule ∷ rules) =
    let behind : ℕ = place + length (rule_strings rule) in
    omega (arith, length-append (rule_record place rule) (rule_records behind rules), length-rule_record place rule, length-rule_records behind rules)

pub rule_records-append : (place : ℕ) (xs ys : List Rule) → rule_records place (xs ++ ys) ≡ rule_records place xs ++ rule_records (place + length (flat_map rule_strings xs)) ys
rule_records-append place [] ys = ap (λ p. rule_records p ys) (omega arith)
rule_records-append place (x ∷ xs) ys =
    let behind : ℕ = place + length (rule_strings x) in
    let places : behind + length (flat_map rule_strings xs) ≡ place + length (rule_strings x ++ flat_map rule_strings xs) =
    omega (arith, length-append (rule_strings x) (flat_map rule_strings xs)) in
    ap (λ (r : List ℕ). rule_record place x ++ r) (rule_records-append behind xs ys ∙ ap (λ p. rule_records behind xs ++ rule_records p ys) places)
    ∙ sym (append_assoc (rule_record place x) (rule_records behind xs) (rule_records (place + length (rule_strings x ++ flat_map rule_strings xs)) ys))

module _ (bytes : List ℕ) (small : length bytes < 2 ^ 32) (store_count group_count : ℕ) where
  rule_at-stands : (using_keys : Bool) (at place : ℕ) (rule : Rule) → 0 < place → IsWritableRule store_count group_count using_keys rule
      → StandsAt bytes at (rule_record place rule) → StandsAt bytes place (rule_strings rule) → rule_at bytes using_keys at ≡ rule_without_place rule
  rule_at-stands using_keys at place rule positive writable fields strings =
      let context : List ℕ = pattern_units rule.context in
      let output : List ℕ = output_units rule.output in
      let second : ℕ = place + length (string context) in
      let code : ℕ = key_code rule.key in
      let ns : List ℕ = rule.line ∷ key_flags rule.key ∷ offset_of output second ∷ offset_of context place ∷ [] in
      let context_string : StandsAt bytes place (string context) = front bytes place (string context) (string output) strings in
      let output_string : StandsAt bytes second (string output) = back bytes place (string context) (string output) strings in
      let head : StandsAt bytes at (half code ++ half 0) = front bytes at (half code ++ half 0) (words ns) fields in
      let code_is : half_at bytes at ≡ code =
      half_at-stands bytes at code (key_code-small using_keys rule.key writable.key) (front bytes at (half code) (half 0) head) in
      let others : StandsAt bytes (at + 4) (words ns) =
      same_place bytes (at + length (half code ++ half 0)) (at + 4) (words ns)
      (omega (arith, length-append (half code) (half 0), length-half code, length-half 0))
      (back bytes at (half code ++ half 0) (words ns) fields) in
      let line_is : word_at bytes (at + 4) ≡ rule.line =
      first_word_at bytes (at + 4) rule.line (key_flags rule.key ∷ offset_of output second ∷ offset_of context place ∷ []) writable.line others in
      let flags_are : word_at bytes (at + 8) ≡ key_flags rule.key =
      ap (word_at bytes) (omega arith) ∙ nth_word_at bytes (at + 4) ns 1 (lit< tt) (key_flags-small using_keys rule.key writable.key) others in
      let output_offset : word_at bytes (at + 12) ≡ offset_of output second =
      ap (word_at bytes) (omega arith) ∙ nth_word_at bytes (at + 4) ns 2 (lit< tt) (omega (arith, offset_of-le output second (length bytes) output_string.within)) others in
      let context_offset : word_at bytes (at + 16) ≡ offset_of context place =
      ap (word_at bytes) (omega arith) ∙ nth_word_at bytes (at + 4) ns 3 (lit< tt) (omega (arith, offset_of-le context place (length bytes) context_string.within)) others in
      let key_is : key_of using_keys (half_at bytes at) (word_at bytes (at + 8)) ≡ rule.key =
      ap₂ (key_of using_keys) code_is flags_are ∙ key_of-written using_keys rule.key writable.key in
      let context_is : patterns_at bytes (word_at bytes (at + 16)) ≡ rule.context =
      ap (patterns_at bytes) context_offset ∙ patterns_at-stands bytes place rule.context positive writable.context.items context_string in
      let output_is : outputs_at bytes (word_at bytes (at + 12)) ≡ rule.output =
      ap (outputs_at bytes) output_offset ∙ outputs_at-stands bytes second rule.output (omega arith) writable.output.items output_string in
      λ i. record { line = line_is i; place = 0; key = key_is i; context = context_is i; output = output_is i }

  pub rules_from-stands : (using_keys : Bool) (at place : ℕ) (rules : List Rule) → 0 < place → All (IsWritableRule store_count group_count using_keys) rules
      → StandsAt bytes at (rule_records place rules) → StandsAt bytes place (flat_map rule_strings rules)
      → rules_from bytes using_keys at (length rules) ≡ map rule_without_place rules
  rules_from-stands using_keys at place [] positive writable fields strings = refl
  rules_from-stands using_keys at place (rule ∷ rules) positive writable fields strings =
      let behind : ℕ = place + length (rule_strings rule) in
      let first : rule_at bytes using_keys at ≡ rule_without_place rule =
      rule_at-stands using_keys at place rule positive (All-head (IsWritableRule store_count group_count using_keys) rule rules writable)
      (front bytes at (rule_record place rule) (rule_records behind rules) fields)
      (front bytes place (rule_strings rule) (flat_map rule_strings rules) strings) in
      let others_fields : StandsAt bytes (at + 20) (rule_records behind rules) =
      same_place bytes (at + length (rule_record place rule)) (at + 20) (rule_records behind rules) (ap (λ n. at + n) (length-rule_record place rule))
      (back bytes at (rule_record place rule) (rule_records behind rules) fields) in
      let others : rules_from bytes using_keys (at + 20) (length rules) ≡ map rule_without_place rules =
      rules_from-stands using_keys (at + 20) behind rules (omega arith) (All-tail (IsWritableRule store_count group_count using_keys) rule rules writable) others_fields
      (back bytes place (rule_strings rule) (flat_map rule_strings rules) strings) in
      λ i. first i ∷ others i
