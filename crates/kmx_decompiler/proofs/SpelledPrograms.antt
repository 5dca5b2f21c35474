-- If tables have no cause, a text can express their program.
use Rattle.std.proofs.Common.{◌≡◌, ℕ, zero, suc, ◌+◌, ◌<◌, ◌≤◌, ◌⊎◌, inl, inr, Bool, true, false, ◌||◌, List, [], ◌∷◌, ◌++◌, length, map, Option, None, Some, refl, ◌∙◌, ap, subst, arith, if◌then◌else◌}
use Rattle.std.specs.Prelude.{All, nat_eq, slice_get, unwrap_or, option_map, find, flat_map, fold, max, not, ◌&&◌}
use Rattle.std.specs.List.{list_any, list_all, AllByRecursion}
use Rattle.std.proofs.lemmas.Bool.{or_parts, and_parts, eqb-true, ne_eqb, not-true, eq-eqb, ltb-false}
use Rattle.std.proofs.lemmas.List.Elements.{All-nil, All-cons, All-head, All-tail, All-append}
use Rattle.kmn_base.specs.declared.limits.TheConstants.{DEADKEYS}
use Rattle.kmn_base.specs.declared.items.Element.{Element}
use Rattle.kmn_base.specs.declared.items.Element.TheVariants as element
use Rattle.kmn_items.specs.declared.syntax.Where.TheVariants as section
use Rattle.kmn_items.specs.declared.syntax.Seen.{Seen}
use Rattle.kmn_items.specs.Item.{unseen}
use Rattle.kmn_parser.specs.Line.{system_stores}
use Rattle.rule_model.specs.declared.program.StoreDef.{StoreDef}
use Rattle.rule_model.specs.declared.program.BeginDef.{BeginDef}
use Rattle.rule_model.specs.declared.tables.Pat.{Pat}
use Rattle.rule_model.specs.declared.tables.Pat.TheVariants as pattern
use Rattle.rule_model.specs.declared.tables.Out.{Out}
use Rattle.rule_model.specs.declared.tables.Out.TheVariants as output
use Rattle.rule_model.specs.declared.tables.Rule.{Rule}
use Rattle.rule_model.specs.declared.tables.Store.{Store}
use Rattle.rule_model.specs.declared.tables.Group.{Group}
use Rattle.rule_model.specs.declared.tables.Tables.{Tables}
use Rattle.rule_model.specs.Tab.{tab_dictionary, tab_options}
use Rattle.kmx_format.specs.TablesOf.{tables_of}
use Rattle.kmx_format.specs.Playable.{IsPlayable, IsPlayableStore}
use Rattle.kmn_parser.specs.Spelled.{IsStoreName, IsSpelledValue, is_system_id, IsSpelledStore, AreSpelled, AreSpelledBegins, AreSpelledStores, IsSpelled, seen_lead, item_lead}
use Rattle.decompile_program.specs.Names.{written_ids, named_stores}
use Rattle.decompile_program.specs.Marks.{element_marks, pattern_marks, output_marks, rule_marks, group_marks, store_marks, table_marks, greatest_mark}
use Rattle.decompile_program.specs.Items.{Names, group_called, back_element}
use Rattle.kmx_format.specs.Versions.{file_versions, version_text}
use Rattle.virtual_keys.specs.Dictionary.{is_nameable}
use Rattle.kmn_parser.specs.ProgramLaws.{IsCharacter}
use Rattle.kmn_parser.specs.Names.{is_inner}
use Rattle.decompile_program.specs.Back.{back_stores, numbered, stated_marks, stated_key, mark_store, key_store, version_store, back_begins, free_stores, mark_stores, key_stores, front_stores, names_for, written_stores, written_begins, back}
use Rattle.decompile_program.specs.WrittenOut.{CanBeWrittenOut}
use Rattle.decompile_program.proofs.Lines.{numbered-length}
use Rattle.decompile_program.proofs.FrontCounts.{free-size, marks-few}
use Rattle.kmx_decompiler.specs.Causes.{have_both_quotes, is_unspelled_element, is_unspelled_pattern, is_unspelled_output}
use Rattle.kmx_decompiler.specs.Excess.{text_size}
use Rattle.kmx_decompiler.specs.Laws.{HasTextNames}
use Rattle.kmx_decompiler.specs.Unspelled.{unspelled}
use Rattle.kmx_decompiler.proofs.Sayable.{IsSayableRule, IsSayableGroup, AreSayable, IsSayable, sayable}
use Rattle.kmx_decompiler.proofs.WrittenOut.{tested, joined, pattern-parts, output-parts, store-parts, written_out}
use Rattle.kmx_decompiler.proofs.CalledNames.{AreNamed}
use Rattle.kmx_decompiler.proofs.SpelledKeys.{IsKeyName, keys_named, own_name}
use Rattle.kmx_decompiler.proofs.SpelledItems.{unit_character, elements_spelled, marks_spelled}
use Rattle.kmx_decompiler.proofs.SpelledRules.{free_all, calls_named, group_name, all_groups_spelled}
use Rattle.kmn_lines.proofs.TextSizes.{clash}

abbrev ansi_begin : Names → ℕ → Tables → BeginDef
ansi_begin names line tables = record { line = line; unicode = false; group = group_called names tables.start_ansi }

-- a deadkey has a number that a source can have
abbrev IsNear : ℕ → Type 0
IsNear m = m ≤ DEADKEYS

greatest-within : (xs : List ℕ) (a : ℕ) → a ≤ DEADKEYS → All IsNear xs → fold max a xs ≤ DEADKEYS
greatest-within [] a h all = h
greatest-within (x ∷ xs) a h all = let here = All-head IsNear x xs all in greatest-within xs (max a x) (omega (arith, here)) (All-tail IsNear x xs all)

module _ (tables : Tables) (said : IsSayable tables) where
  abbrev names : Names
  names = names_for tables

  near-element : (e : Element) → is_unspelled_element names e ≡ false → All IsNear (element_marks e)
  near-element (element.Mark m) h = All-cons IsNear m [] (ltb-false DEADKEYS m h) (All-nil IsNear)
  near-element (element.Char c) h = All-nil IsNear
  near-element (element.Key flags code) h = All-nil IsNear

  near-pattern : (p : Pat) → is_unspelled_pattern names p ≡ false → All IsNear (pattern_marks p)
  near-pattern (pattern.Mark m) h = All-cons IsNear m [] (ltb-false DEADKEYS m (pattern-parts tables (pattern.Mark m) h).0) (All-nil IsNear)
  near-pattern p h = All-nil IsNear

  near-output : (o : Out) → is_unspelled_output names o ≡ false → All IsNear (output_marks o)
  near-output (output.Mark m) h = All-cons IsNear m [] (ltb-false DEADKEYS m (output-parts tables (output.Mark m) h).0) (All-nil IsNear)
  near-output o h = All-nil IsNear

  near-rule : (rule : Rule) → IsSayableRule names rule → All IsNear (rule_marks rule)
  near-rule rule h =
      All-append IsNear (flat_map pattern_marks rule.context) (flat_map output_marks rule.output)
      (tested (is_unspelled_pattern names) pattern_marks IsNear near-pattern rule.context (or_parts (list_any (is_unspelled_pattern names) rule.context) _ h.context).0)
      (tested (is_unspelled_output names) output_marks IsNear near-output rule.output h.output)

  near-group : (group : Group) → IsSayableGroup names group → All IsNear (group_marks group)
  near-group group h =
      All-append IsNear (flat_map rule_marks group.rules) (flat_map output_marks group.on_match ++ flat_map output_marks group.on_nomatch)
      (joined (IsSayableRule names) IsNear rule_marks near-rule group.rules h.rules)
      (All-append IsNear (flat_map output_marks group.on_match) (flat_map output_marks group.on_nomatch)
      (tested (is_unspelled_output names) output_marks IsNear near-output group.on_match h.on_match)
      (tested (is_unspelled_output names) output_marks IsNear near-output group.on_nomatch h.on_nomatch))

  near-stores : (k : ℕ) (stores : List Store) → AreSayable names (tab_options tables) k stores → All IsNear (flat_map store_marks stores)
  near-stores k [] h = All-nil IsNear
  near-stores k (store ∷ stores) h =
      All-append IsNear (store_marks store) (flat_map store_marks stores)
      (tested (is_unspelled_element names) element_marks IsNear near-element store.elements (store-parts tables k store h.0).elements) (near-stores (k + 1) stores h.1)

  pub greatest_near : greatest_mark tables ≤ DEADKEYS
  unfolding table_marks
  greatest_near =
      greatest-within (flat_map store_marks tables.stores ++ flat_map group_marks tables.groups) 0 (omega arith)
      (All-append IsNear (flat_map store_marks tables.stores) (flat_map group_marks tables.groups)
      (near-stores 0 tables.stores said.stores) (joined (IsSayableGroup names) IsNear group_marks near-group tables.groups said.groups))

-- each system store that is written has a name
ids-known : (n : ℕ) (ids : List ℕ) → list_all is_system_id ids ≡ true → list_any (nat_eq n) ids ≡ true → is_system_id n ≡ true
ids-known n [] known h = absurd (cc)
ids-known n (id ∷ ids) known h = by (nat_eq n id) refl h (λ g. ids-known n ids (and_parts (is_system_id id) (list_all is_system_id ids) known).1 g)
  where
    by : (b : Bool) → nat_eq n id ≡ b → (b || list_any (nat_eq n) ids) ≡ true → (list_any (nat_eq n) ids ≡ true → is_system_id n ≡ true) → is_system_id n ≡ true
    by true e g rest = ap is_system_id (eqb-true n id e) ∙ (and_parts (is_system_id id) (list_all is_system_id ids) known).0
    by false e g rest = rest g

written-known : list_all is_system_id written_ids ≡ true
unfolding system_stores
written-known = refl

no-version : list_any (nat_eq 8) written_ids ≡ false
no-version = refl

module _ (names : Names) (keys : All IsKeyName names.keys) (options : List ℕ) where
  store-spelled : (line : ℕ) (name : List ℕ) (store : Store)
      → (nat_eq store.system 0 ≡ true → IsStoreName name) → (nat_eq store.system 0 ≡ false → (name ≡ []) × (list_any (nat_eq store.system) written_ids ≡ true))
      → AreSpelled section.Store unseen (map (back_element names) store.elements)
      → IsSpelledStore (record { line = line; system = store.system; name = name; items = map (back_element names) store.elements })
  store-spelled line name store ordinary system content = record {
    ordinary = λ e. ordinary (eq-eqb store.system 0 e);
    system = λ e. let s = system (ne_eqb store.system 0 e) in (ids-known store.system written_ids written-known s.1, s.0);
    version = λ e.
        let s = system (ap (λ n. nat_eq n 0) e) in
        clash (list_any (nat_eq 8) written_ids) (subst (λ n. list_any (nat_eq n) written_ids ≡ true) e s.1) no-version;
    content = λ e. content;
  }

  -- a store after the front stores has content that can be written
  abbrev IsContent : Store → Type 0
  IsContent store = AreSpelled section.Store unseen (map (back_element names) store.elements)

  stores-spelled : (named : List ℕ) (k line : ℕ) (calls : List (Option (List ℕ))) (stores : List Store) → AreNamed named k calls stores → AllByRecursion IsContent stores
      → AreSpelledStores line (back_stores names line calls stores)
  stores-spelled named k line [] stores h c = tt
  stores-spelled named k line (None ∷ calls) [] h c = tt
  stores-spelled named k line (Some name ∷ calls) [] h c = tt
  stores-spelled named k line (None ∷ calls) (store ∷ stores) h c = stores-spelled named (k + 1) line calls stores h.1 c.1
  stores-spelled named k line (Some name ∷ calls) (store ∷ stores) h c =
      (refl, store-spelled line name store h.0 h.1 c.0, stores-spelled named (k + 1) (line + 1) calls stores h.2 c.1)

  -- a front store that can be written
  abbrev IsFront : (ℕ → StoreDef) → Type 0
  IsFront store = (line : ℕ) → ((store line).line ≡ line) × IsSpelledStore (store line)

  front-spelled : (line : ℕ) (front : List (ℕ → StoreDef)) → AllByRecursion IsFront front → AreSpelledStores line (numbered line front)
  front-spelled line [] h = tt
  front-spelled line (store ∷ front) h = let here = h.0 line in (here.0, here.1, front-spelled (line + 1) front h.1)

  key-items : (seen : Seen) (own : List (List ℕ)) → All IsKeyName own → AreSpelled section.Store seen (map stated_key own)
  key-items seen [] h = tt
  key-items seen (name ∷ own) h = (
    (
      refl,
      record { virtual = refl; flags = refl; own = λ e. own_name name (All-head IsKeyName name own h); known = λ e. absurd (e refl) },
    ),
    refl,
    key-items (seen_lead seen (item_lead (stated_key name))) own (All-tail IsKeyName name own h),
  )

  key-front : (name : List ℕ) (own : List (List ℕ)) → IsStoreName name → All IsKeyName own → AllByRecursion IsFront (key_store name own)
  key-front name [] ok h = tt
  key-front name (k ∷ own) ok h = (
    (λ line. (
      refl,
      record { ordinary = λ e. ok; system = λ e. absurd (e refl); version = λ e. absurd (omega arith); content = λ e. key-items unseen (k ∷ own) h },
    )),
    tt,
  )

  mark-front : (name : List ℕ) (count : ℕ) → IsStoreName name → count ≤ DEADKEYS → AllByRecursion IsFront (mark_store name count)
  mark-front name count ok few = by (nat_eq count 0)
    where
      by : (b : Bool) → AllByRecursion IsFront (if b then [] else stated_marks name count ∷ [])
      by true = tt
      by false = (
        (λ line. (
          refl,
          record { ordinary = λ e. ok; system = λ e. absurd (e refl); version = λ e. absurd (omega arith); content = λ e. marks_spelled unseen 1 count (omega arith) },
        )),
        tt,
      )

-- the texts of versions can be quoted
nameable-all : (cs : List ℕ) → list_all is_nameable cs ≡ true → All IsCharacter cs
nameable-all [] h = All-nil IsCharacter
nameable-all (c ∷ cs) h =
    let both = and_parts (is_nameable c) (list_all is_nameable cs) h in All-cons IsCharacter c cs (unit_character c both.0) (nameable-all cs both.1)

abbrev is_value : List ℕ → Bool
is_value cs = list_all is_nameable cs && (list_all is_inner cs && not (have_both_quotes cs))

a-value : (cs : List ℕ) → is_value cs ≡ true → IsSpelledValue cs
a-value cs h =
    let one = and_parts (list_all is_nameable cs) (list_all is_inner cs && not (have_both_quotes cs)) h in
    let two = and_parts (list_all is_inner cs) (not (have_both_quotes cs)) one.1 in
    record { characters = nameable-all cs one.0; in_line = two.0; one_quote = not-true (have_both_quotes cs) two.1 }

version-found : (version : ℕ) (rows : List (List ℕ × ℕ)) → list_all (λ (row : List ℕ × ℕ). is_value row.0) rows ≡ true
    → is_value (unwrap_or (option_map (λ (row : List ℕ × ℕ). row.0) (find (λ (row : List ℕ × ℕ). nat_eq row.1 version) rows)) []) ≡ true
version-found version [] h = refl
version-found version (row ∷ rows) h =
    let both = and_parts (is_value row.0) (list_all (λ (row : List ℕ × ℕ). is_value row.0) rows) h in by (nat_eq row.1 version) both.0 (version-found version rows both.1)
  where
    by : (b : Bool) → is_value row.0 ≡ true → is_value (unwrap_or (option_map (λ (row : List ℕ × ℕ). row.0) (find (λ (row : List ℕ × ℕ). nat_eq row.1 version) rows)) []) ≡ true
        → is_value (unwrap_or (option_map (λ (row : List ℕ × ℕ). row.0) (if b then Some row else find (λ (row : List ℕ × ℕ). nat_eq row.1 version) rows)) []) ≡ true
    by true here rest = here
    by false here rest = rest

versions-spelled : list_all (λ (row : List ℕ × ℕ). is_value row.0) file_versions ≡ true
versions-spelled = refl

version-id : is_system_id 8 ≡ true
unfolding system_stores
version-id = refl

version-front : (version line : ℕ) → IsSpelledStore (version_store version line)
version-front version line = record {
  ordinary = λ e. absurd (omega arith);
  system = λ e. (version-id, refl);
  version = λ e. (version_text version, refl, a-value (version_text version) (version-found version file_versions versions-spelled));
  content = λ e. absurd (e refl);
}

free-at : (names : List (List ℕ)) (n : ℕ) → n < length names → AllByRecursion IsStoreName names → IsStoreName (unwrap_or (slice_get names n) [])
free-at [] n less h = absurd (omega arith)
free-at (name ∷ names) zero less h = h.0
free-at (name ∷ names) (suc n) less h = free-at names n (omega arith) h.1

stores-append : (line n : ℕ) (xs ys : List StoreDef) → n ≡ line + length xs → AreSpelledStores line xs → AreSpelledStores n ys → AreSpelledStores line (xs ++ ys)
stores-append line n [] ys e h k = let same : n ≡ line = omega (arith, e) in subst (λ m. AreSpelledStores m ys) same k
stores-append line n (x ∷ xs) ys e h k = (h.0, h.1, stores-append (line + 1) n xs ys (omega (arith, e)) h.2 k)

front-append : (called : Names) (keys : All IsKeyName called.keys) (options : List ℕ) (xs ys : List (ℕ → StoreDef))
    → AllByRecursion (IsFront called keys options) xs → AllByRecursion (IsFront called keys options) ys → AllByRecursion (IsFront called keys options) (xs ++ ys)
front-append called keys options [] ys h k = k
front-append called keys options (x ∷ xs) ys h k = (h.0, front-append called keys options xs ys h.1 k)

module _ (tables : Tables) (can : IsPlayable tables) (said : IsSayable tables) (written : CanBeWrittenOut tables) (texts : HasTextNames tables) where
  abbrev called : Names
  called = names_for tables

  abbrev own : All IsKeyName called.keys
  own = keys_named tables said

  contents : (k : ℕ) (stores : List Store) → AreSayable called (tab_options tables) k stores → All IsPlayableStore stores
      → AllByRecursion (λ (store : Store). AreSpelled section.Store unseen (map (back_element called) store.elements)) stores
  contents k [] h s = tt
  contents k (store ∷ stores) h s = (
    elements_spelled called own unseen store.elements (store-parts tables k store h.0).elements (All-head IsPlayableStore store stores s).elements,
    contents (k + 1) stores h.1 (All-tail IsPlayableStore store stores s),
  )

  all-stores : AreSpelledStores 1 (written_stores tables)
  all-stores =
      let some = free-size tables can in
      let free = free_all tables can said written texts in
      let marks = marks-few tables in
      let along = numbered-length 1 (front_stores tables) in
      stores-append 1 (1 + length (front_stores tables)) (numbered 1 (front_stores tables)) (back_stores called (1 + length (front_stores tables)) called.stores tables.stores) (omega (arith, along))
      (front-spelled called own (tab_options tables) 1 (front_stores tables) (
        (λ line. (refl, version-front tables.version line)),
        front-append called own (tab_options tables) (mark_stores tables) (key_stores tables)
            (mark-front called own (tab_options tables) (unwrap_or (slice_get (free_stores tables) 0) []) (greatest_mark tables) (free-at (free_stores tables) 0 (omega (arith, some)) free) (greatest_near tables said))
            (key-front called own (tab_options tables) (unwrap_or (slice_get (free_stores tables) (length (mark_stores tables))) []) (tab_dictionary tables.stores)
            (free-at (free_stores tables) (length (mark_stores tables)) (omega (arith, some, marks)) free) own),
      ))
      (stores-spelled called own (tab_options tables) (named_stores tables) 0 (1 + length (front_stores tables)) called.stores tables.stores
      (calls_named tables can said written texts) (contents 0 tables.stores said.stores can.stores))

  ansi-spelled : (line : ℕ) → AreSpelledBegins line (if nat_eq tables.start_ansi 0xFFFF_FFFF then [] else ansi_begin called line tables ∷ [])
  ansi-spelled line = by (nat_eq tables.start_ansi 0xFFFF_FFFF) refl
    where
      within : tables.start_ansi < length tables.groups ⊎ (tables.start_ansi ≡ 0xFFFF_FFFF) → nat_eq tables.start_ansi 0xFFFF_FFFF ≡ false → tables.start_ansi < length tables.groups
      within (inl less) e = less
      within (inr is) e = clash (nat_eq tables.start_ansi 0xFFFF_FFFF) (eq-eqb tables.start_ansi 0xFFFF_FFFF is) e

      by : (b : Bool) → nat_eq tables.start_ansi 0xFFFF_FFFF ≡ b → AreSpelledBegins line (if b then [] else ansi_begin called line tables ∷ [])
      by true e = tt
      by false e = (refl, group_name tables can said written texts tables.start_ansi (within can.start_ansi e), tt)

  all-begins : (line : ℕ) → AreSpelledBegins line (back_begins called line tables)
  all-begins line = (refl, group_name tables can said written texts tables.start_unicode can.start_unicode, ansi-spelled (line + 1))

  pub program_spelled : IsSpelled (back tables)
  unfolding back text_size
  program_spelled = record {
    stores = all-stores;
    begins = all-begins (1 + length (written_stores tables));
    groups = all_groups_spelled tables can said written texts (1 + length (written_stores tables) + length (written_begins tables));
    short = said.small.text;
  }

pub spelled_is_spelled : (bytes : List ℕ) → IsPlayable (tables_of bytes) → HasTextNames (tables_of bytes) → unspelled bytes ≡ None → IsSpelled (back (tables_of bytes))
spelled_is_spelled bytes can texts h =
    let said = sayable bytes h in program_spelled (tables_of bytes) can said (written_out (tables_of bytes) said can) texts
