-- If tables have no cause, their virtual keys have names that a source reads.
use Rattle.std.proofs.Common.{◌≡◌, ℕ, zero, suc, ◌-◌, Bool, true, false, not, ◌&&◌, List, [], ◌∷◌, length, Option, None, Some, is_some, refl, sym, ◌∙◌, ap, subst, arith, if◌then◌else◌}
use Rattle.std.specs.Prelude.{All, nat_eq, nat_lt, bit_and, bit_or, slice_get, unwrap_or, option_map, position, find, filter, filter_map, encode_utf8_all}
use Rattle.std.specs.List.{list_all}
use Rattle.std.specs.Str.{is_utf8}
use Rattle.std.proofs.lemmas.Bool.{and_parts, not-false, eq-eqb, or_parts, cond-true, cond-false}
use Rattle.std.proofs.lemmas.Nat.{and_or_self}
use Rattle.std.proofs.lemmas.List.Elements.{All-nil, All-head, All-tail}
use Rattle.std.proofs.lemmas.List.Splits.{slice_split_none}
use Rattle.std.proofs.lemmas.Option.{none-some}
use Rattle.kmn_base.specs.declared.keys.TheConstants.{SHIFT_FLAGS}
use Rattle.kmn_base.specs.Names.{same_name}
use Rattle.virtual_keys.specs.Dictionary.{name_in}
use Rattle.virtual_keys.specs.Keys.{key_name}
use Rattle.kmn_items.specs.Words.{is_own_key}
use Rattle.kmn_parser.proofs.SoundKeys.{or-within}
use Rattle.rule_model.specs.declared.program.KeyName.{KeyName}
use Rattle.rule_model.specs.declared.tables.Store.{Store}
use Rattle.rule_model.specs.declared.tables.Tables.{Tables}
use Rattle.rule_model.specs.Tab.{words, element_char, store_elements, is_dictionary, tab_dictionary, tab_options}
use Rattle.virtual_keys.proofs.NamePlaces.{position_cons}
use Rattle.rule_checker.proofs.Lists.{All-distinct, all_true}
use Rattle.kmn_parser.specs.Names.{is_source_name}
use Rattle.kmn_parser.specs.Spelled.{IsSpelledName, IsSpelledKey}
use Rattle.decompile_program.specs.Items.{Names, key_called}
use Rattle.decompile_program.specs.Back.{names_for}
use Rattle.decompile_program.specs.WrittenOut.{has_key_name}
use Rattle.decompile_program.proofs.Known.{no-zero}
use Rattle.kmx_decompiler.specs.Causes.{is_dictionary_name, dictionary_words, are_repeated, is_unspelled_dictionary, is_number, is_first_dictionary}
use Rattle.kmx_decompiler.proofs.Sayable.{sayable-at, HasNoCause, IsSayable, without_cause}
use Rattle.kmx_decompiler.proofs.WrittenOut.{store-parts}
use Rattle.kmx_decompiler.proofs.Conjunctions.{second-fails}
use Rattle.kmn_lines.proofs.TextSizes.{clash}

abbrev pub IsKeyName : List ℕ → Type 0
IsKeyName name = is_dictionary_name name ≡ true

-- a store is the first dictionary, at some place
record FoundAt (stores : List Store) (store : Store) : Type 0 where
  place : ℕ
  found : position is_dictionary stores ≡ Some place
  at : slice_get stores place ≡ Some store

found-at : (stores : List Store) (store : Store) → find is_dictionary stores ≡ Some store → FoundAt stores store
found-at [] store h = absurd (none-some store h)
found-at (x ∷ stores) store h = by (is_dictionary x) refl h (λ g. found-at stores store g)
  where
    by : (b : Bool) → is_dictionary x ≡ b → (if b then Some x else find is_dictionary stores) ≡ Some store → (find is_dictionary stores ≡ Some store → FoundAt stores store) → FoundAt (x ∷ stores) store
    by true e g rest = record { place = 0; found = position_cons is_dictionary x stores ∙ cond-true (is_dictionary x) (Some 0) (option_map suc (position is_dictionary stores)) e; at = g }
    by false e g rest =
        let more = rest g in
        record {
          place = suc more.place;
          found = position_cons is_dictionary x stores ∙ cond-false (is_dictionary x) (Some 0) (option_map suc (position is_dictionary stores)) e ∙ ap (option_map suc) more.found;
          at = more.at;
        }

no-words : words (encode_utf8_all []) ≡ []
no-words = ap (filter (λ (word : List ℕ). not (nat_eq (length word) 0))) (slice_split_none (nat_eq 32) [] (All-nil (λ b. nat_eq 32 b ≡ false)))

module _ (tables : Tables) (said : HasNoCause tables) where
  words-of : (o : Option Store) → find is_dictionary tables.stores ≡ o → All IsKeyName (words (encode_utf8_all (filter_map element_char (store_elements o))))
  words-of None e = subst (All IsKeyName) (sym no-words) (All-nil IsKeyName)
  words-of (Some store) e =
      let f = found-at tables.stores store e in
      let parts = store-parts tables f.place store (sayable-at (names_for tables) (tab_options tables) 0 tables.stores said.stores f.place f.place store (omega arith) f.at) in
      let first : is_first_dictionary tables.stores f.place ≡ true = ap (is_number f.place) f.found ∙ eq-eqb f.place f.place refl in
      let good = second-fails (is_first_dictionary tables.stores f.place) (is_unspelled_dictionary store.elements) first parts.dictionary in
      let named : not (list_all is_dictionary_name (dictionary_words store.elements)) ≡ false = (or_parts (not (list_all is_dictionary_name (dictionary_words store.elements))) (are_repeated [] (dictionary_words store.elements)) good).0 in
      all_true is_dictionary_name (dictionary_words store.elements) (not-false (list_all is_dictionary_name (dictionary_words store.elements)) named)

  -- each name of the dictionary is a key name
  pub no_cause_keys : All IsKeyName (tab_dictionary tables.stores)
  unfolding tab_dictionary
  no_cause_keys =
      All-distinct IsKeyName same_name [] (words (encode_utf8_all (filter_map element_char (store_elements (find is_dictionary tables.stores))))) (All-nil IsKeyName)
      (words-of (find is_dictionary tables.stores) refl)

pub keys_named : (tables : Tables) → IsSayable tables → All IsKeyName (tab_dictionary tables.stores)
keys_named tables said = no_cause_keys tables (without_cause tables said)

pub own_name : (name : List ℕ) → IsKeyName name → (is_own_key name ≡ true) × IsSpelledName name
own_name name h =
    let one = and_parts (is_own_key name) (is_source_name name && is_utf8 name) h in
    let two = and_parts (is_source_name name) (is_utf8 name) one.1 in
    (one.0, record { utf8 = two.1; read = two.0 })

at-name : (keys : List (List ℕ)) (i : ℕ) → All IsKeyName keys → is_some (slice_get keys i) ≡ true → IsKeyName (unwrap_or (slice_get keys i) [])
at-name [] i good h = absurd (cc)
at-name (k ∷ keys) zero good h = All-head IsKeyName k keys good
at-name (k ∷ keys) (suc i) good h = at-name keys i (All-tail IsKeyName k keys good) h

named-key : (keys : List (List ℕ)) (code : ℕ) → All IsKeyName keys → is_some (name_in keys code) ≡ true → IsKeyName (unwrap_or (name_in keys code) [])
named-key keys code good h = by (nat_lt code 256) h
  where
    by : (b : Bool) → is_some (if b then None else slice_get keys (code - 256)) ≡ true → IsKeyName (unwrap_or (if b then None else slice_get keys (code - 256)) [])
    by true g = absurd (cc)
    by false g = at-name keys (code - 256) good g

abbrev coded : ℕ → ℕ → KeyName
coded flags code = record { flags = bit_or flags 0x4000; code = code; name = [] }

abbrev called : List ℕ → ℕ → KeyName
called name flags = record { flags = bit_or flags 0x4000; code = 0; name = name }

-- if a virtual key has a name, it can be written
pub key_spelled : (names : Names) (flags code : ℕ) → All IsKeyName names.keys → has_key_name names.keys code ≡ true → bit_and flags SHIFT_FLAGS ≡ flags → IsSpelledKey (key_called names flags code)
key_spelled names flags code good has known = by (nat_lt code 256) has
  where
    by : (b : Bool) → is_some (if b then key_name code else name_in names.keys code) ≡ true
        → IsSpelledKey (if b then coded flags code else called (unwrap_or (name_in names.keys code) []) flags)
    by true h = record {
      virtual = and_or_self 0x4000 flags;
      flags = or-within flags 0x4000 SHIFT_FLAGS known refl;
      own = λ e. clash (is_some (key_name 0)) (subst (λ (c : ℕ). is_some (key_name c) ≡ true) e h) no-zero;
      known = λ e. (h, refl);
    }
    by false h = record {
      virtual = and_or_self 0x4000 flags;
      flags = or-within flags 0x4000 SHIFT_FLAGS known refl;
      own = λ e. own_name (unwrap_or (name_in names.keys code) []) (named-key names.keys code good h);
      known = λ e. absurd (e refl);
    }
