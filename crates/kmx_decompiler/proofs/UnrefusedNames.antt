-- No name of the program that is written out of tables is refused.
use Rattle.std.proofs.Common.{◌≡◌, ℕ, zero, suc, ◌+◌, ◌<◌, ◌⊎◌, inl, inr, Bool, true, false, ◌&&◌, List, [], ◌∷◌, ◌++◌, length, drop, map, Option, None, Some, refl, sym, ◌∙◌, ap, subst, arith, append-nil, append_assoc, if◌then◌else◌}
use Rattle.std.specs.Prelude.{nat_eq, slice_get, unwrap_or}
use Rattle.std.specs.List.{AllByRecursion, range_with_len}
use Rattle.std.specs.Fmt.{decimal}
use Rattle.std.proofs.lemmas.Bool.{not_from_true, eq-eqb, or_from}
use Rattle.std.proofs.lemmas.List.{length-map}
use Rattle.std.proofs.lemmas.List.Concat.{flat_map-append}
use Rattle.kmn_base.specs.declared.codes.Code.TheVariants.{C02, C03, C06}
use Rattle.kmn_base.specs.Names.{same_name}
use Rattle.rule_model.specs.declared.program.SrcItem.TheVariants as source
use Rattle.rule_model.specs.declared.program.StoreDef.{StoreDef}
use Rattle.rule_model.specs.declared.program.BeginDef.{BeginDef}
use Rattle.rule_model.specs.declared.tables.Store.{Store}
use Rattle.rule_model.specs.declared.tables.Group.{Group}
use Rattle.rule_model.specs.declared.tables.Tables.{Tables}
use Rattle.rule_model.specs.Tab.{tab_dictionary}
use Rattle.kmx_format.specs.TablesOf.{tables_of}
use Rattle.kmx_format.specs.Playable.{IsPlayable}
use Rattle.store_table.specs.declared.stating.Stated.{Stated}
use Rattle.store_table.specs.First.{broken, first_code, first_of}
use Rattle.store_table.specs.Names.{is_named, kept_name, store_names, group_names, stated, is_begun, begins_no_group, is_store_again, begin_code, begin_refusal, store_item_code, store_code, store_refusal, group_refusal, names_refusal}
use Rattle.decompile_program.specs.Names.{named_stores, free_names}
use Rattle.decompile_program.specs.Marks.{greatest_mark}
use Rattle.decompile_program.specs.Items.{Names, store_called, group_called}
use Rattle.kmx_format.specs.Versions.{version_text}
use Rattle.decompile_program.specs.Back.{back_stores, back_groups, back_begins, numbered, stated_marks, stated_key, mark_store, key_store, mark_stores, key_stores, front_stores, free_stores, names_for, written_stores, written_begins, written_groups, back}
use Rattle.decompile_program.specs.WrittenOut.{is_ordinary, CanBeWrittenOut}
use Rattle.decompile_program.proofs.Apart.{Differs, AreFree, AreApart, own_name, later, free-differs, names_apart, same-turned, source-some}
use Rattle.virtual_keys.proofs.NamePlaces.{same_name-self}
use Rattle.decompile_program.proofs.Free.{AreDistinct, free_names-free, free_names-count}
use Rattle.decompile_program.proofs.Groups.{group_name, groups_apart, names_taken, group_count}
use Rattle.decompile_program.proofs.Good.{IsNamed, groups_good}
use Rattle.decompile_program.proofs.Choosing.{all_join}
use Rattle.decompile_program.proofs.FreshNames.{all-taken, drop-free, fresh-at}
use Rattle.decompile_program.proofs.FrontCounts.{marks-few, front-size, front-few, free-all, free-size, behind-size}
use Rattle.kmx_decompiler.specs.Laws.{HasTextNames}
use Rattle.kmx_decompiler.specs.Unspelled.{unspelled}
use Rattle.kmx_decompiler.proofs.Sayable.{IsSayable, sayable}
use Rattle.kmx_decompiler.proofs.WrittenOut.{written_out}
use Rattle.kmx_decompiler.proofs.CalledNames.{AreNamed}
use Rattle.kmx_decompiler.proofs.SpelledRules.{calls_named, all-at}
use Rattle.kmx_decompiler.proofs.StatedNames.{named-cons, named-behind, named_at, groups_stated, store_stated}
use Rattle.kmx_decompiler.proofs.ApartNames.{Later, HaveNames, named-none, stores_apart, ApartFrom, groups_apart_refused}
use Rattle.kmx_decompiler.proofs.KnownNames.{no_rule_unknown}
use Rattle.kmx_decompiler.proofs.UnrefusedRules.{no-else, no-earlier, no-line, no-broken}
use Rattle.kmn_lines.proofs.TextSizes.{clash}

-- free names are not empty, and the first two differ
pub some-at : (taken : List (List ℕ)) (i : ℕ) (names : List (List ℕ)) → AreFree taken names → i < length names → same_name (unwrap_or (slice_get names i) []) [] ≡ false
some-at taken i [] f less = absurd (omega arith)
some-at taken zero (name ∷ names) f less = f.0.some
some-at taken (suc i) (name ∷ names) f less = some-at taken i names f.2 (omega arith)

second-differs : (taken names : List (List ℕ)) → AreFree taken names → 1 < length names → same_name (unwrap_or (slice_get names 1) []) (unwrap_or (slice_get names 0) []) ≡ false
second-differs taken [] f less = absurd (omega arith)
second-differs taken (x ∷ []) f less = absurd (omega arith)
second-differs taken (x ∷ y ∷ names) f less = same-turned x y f.1.0

have-names : (named : List ℕ) (k : ℕ) (calls : List (Option (List ℕ))) (stores : List Store) → AreNamed named k calls stores → HaveNames calls stores
have-names named k [] stores h = tt
have-names named k (None ∷ calls) [] h = tt
have-names named k (Some name ∷ calls) [] h = tt
have-names named k (None ∷ calls) (store ∷ stores) h = have-names named (k + 1) calls stores h.1
have-names named k (Some name ∷ calls) (store ∷ stores) h = ((λ o. source-some name (h.0 o).named.read), have-names named (k + 1) calls stores h.2)

-- stores before others, none of which is refused for its name after stores with these names
abbrev HasNoFault : Stated → StoreDef → Type 0
HasNoFault stated store = (before : List (List ℕ)) → first_code (store_item_code stated before) store.items ≡ None

abbrev AreFine : Stated → List (List ℕ) → List StoreDef → Type 0
AreFine stated names [] = Unit {0}
AreFine stated names (store ∷ stores) =
    ((nat_eq store.system 0 && is_named names store.name) ≡ false) × HasNoFault stated store × AreFine stated (names ++ kept_name store) stores

front-fine : (stated : Stated) (before front rest : List StoreDef) → AreFine stated (store_names before) front → first_of (store_refusal stated) (before ++ front) rest ≡ None
    → first_of (store_refusal stated) before (front ++ rest) ≡ None
front-fine stated before [] rest fine h = subst (λ (b : List StoreDef). first_of (store_refusal stated) b rest ≡ None) (append-nil before) h
front-fine stated before (store ∷ front) rest fine h =
    no-earlier (store_refusal stated before store) (first_of (store_refusal stated) (before ++ store ∷ []) (front ++ rest))
    (no-line store.line (store_code stated (store_names before) store)
    (no-else (broken ((C03, is_store_again (store_names before) store) ∷ [])) (first_code (store_item_code stated (store_names before)) store.items)
    (no-broken C03 (is_store_again (store_names before) store) [] fine.0 refl) (fine.1 (store_names before))))
    (front-fine stated (before ++ store ∷ []) front rest
    (subst (λ (names : List (List ℕ)). AreFine stated names front)
    (sym (flat_map-append kept_name before (store ∷ []) ∙ ap (λ (xs : List (List ℕ)). store_names before ++ xs) (append-nil (kept_name store)))) fine.2)
    (subst (λ (b : List StoreDef). first_of (store_refusal stated) b rest ≡ None) (sym (append_assoc before (store ∷ []) front)) h))

chars-fine : (stated : Stated) (before : List (List ℕ)) (cs : List ℕ) → first_code (store_item_code stated before) (map source.Char cs) ≡ None
chars-fine stated before [] = refl
chars-fine stated before (c ∷ cs) = chars-fine stated before cs

marks-fine : (stated : Stated) (before : List (List ℕ)) (ms : List ℕ) → first_code (store_item_code stated before) (map (λ m. source.Dead (decimal m)) ms) ≡ None
marks-fine stated before [] = refl
marks-fine stated before (m ∷ ms) = marks-fine stated before ms

keys-fine : (stated : Stated) (before names : List (List ℕ)) → first_code (store_item_code stated before) (map stated_key names) ≡ None
keys-fine stated before [] = refl
keys-fine stated before (name ∷ names) = keys-fine stated before names

no-empty : (x : List ℕ) → same_name x [] ≡ false → is_named ([] ∷ []) x ≡ false
no-empty x some = named-cons [] [] x ∙ or_from (same_name x []) (is_named [] x) some (named-none x)

no-other : (a x : List ℕ) → same_name x [] ≡ false → same_name x a ≡ false → is_named ([] ∷ a ∷ []) x ≡ false
no-other a x some other =
    named-cons [] (a ∷ []) x ∙ or_from (same_name x []) (is_named (a ∷ []) x) some (named-cons a [] x ∙ or_from (same_name x a) (is_named [] x) other (named-none x))

-- the stores of deadkeys and keys after the version are not refused, and their names differ from the names that come later
abbrev IsFront : Stated → List (Option (List ℕ)) → List (List ℕ) → List StoreDef → Type 0
IsFront stated calls names front = AreFine stated names front × AllByRecursion (Later calls) (store_names front)

key-front : (stated : Stated) (calls : List (Option (List ℕ))) (names : List (List ℕ)) (line : ℕ) (b : List ℕ) (keys : List (List ℕ)) → is_named names b ≡ false
    → (0 < length (key_store b keys) → Later calls b) → IsFront stated calls names (numbered line (key_store b keys))
key-front stated calls names line b [] apart l = (tt, tt)
key-front stated calls names line b (k ∷ keys) apart l = ((apart, (λ before. keys-fine stated before (k ∷ keys)), tt), (l (omega arith), tt))

mark-front : (stated : Stated) (calls : List (Option (List ℕ))) (line count : ℕ) (a b : List ℕ) (keys : List (List ℕ)) → same_name b [] ≡ false → (0 < length (key_store b keys) → Later calls b)
    → (nat_eq count 0 ≡ false → (same_name a [] ≡ false) × (same_name b a ≡ false) × Later calls a)
    → IsFront stated calls ([] ∷ []) (numbered line (mark_store a count ++ key_store b keys))
mark-front stated calls line count a b keys some l marked = by (nat_eq count 0) marked
  where
    by : (t : Bool) → (t ≡ false → (same_name a [] ≡ false) × (same_name b a ≡ false) × Later calls a)
        → IsFront stated calls ([] ∷ []) (numbered line ((if t then [] else stated_marks a count ∷ []) ++ key_store b keys))
    by true m = key-front stated calls ([] ∷ []) line b keys (no-empty b some) l
    by false m =
        let parts = m refl in
        let rest = key-front stated calls ([] ∷ a ∷ []) (line + 1) b keys (no-other a b some parts.1) l in
        ((no-empty a parts.0, (λ before. marks-fine stated before (range_with_len 1 count)), rest.0), (parts.2, rest.1))

-- if names are distinct and differ from the names before them, each of them differs from all names before it
apart-from : (before names : List (List ℕ)) → AreDistinct names → AllByRecursion (λ b. Differs b names) before → ApartFrom before names
apart-from before [] d h = tt
apart-from before (x ∷ names) d h = (none-before before h, apart-from (before ++ x ∷ []) names d.1 (all_join (λ b. Differs b names) before (x ∷ []) (tails before h) (d.0, tt)))
  where
    none-before : (bs : List (List ℕ)) → AllByRecursion (λ b. Differs b (x ∷ names)) bs → is_named bs x ≡ false
    none-before [] h = named-none x
    none-before (b ∷ bs) h = named-cons b bs x ∙ or_from (same_name x b) (is_named bs x) (same-turned b x h.0.0) (none-before bs h.1)

    tails : (bs : List (List ℕ)) → AllByRecursion (λ b. Differs b (x ∷ names)) bs → AllByRecursion (λ b. Differs b names) bs
    tails [] h = tt
    tails (b ∷ bs) h = (h.0.1, tails bs h.1)

module _ (tables : Tables) (can : IsPlayable tables) (said : IsSayable tables) (written : CanBeWrittenOut tables) (texts : HasTextNames tables) where
  abbrev pub names : Names
  names = names_for tables

  abbrev pub taken : List (List ℕ)
  taken = map own_name tables.stores

  abbrev pub front_count : ℕ
  front_count = length (mark_stores tables ++ key_stores tables)

  pub apart : AreApart names.stores
  apart = names_apart (named_stores tables) taken (drop front_count (free_stores tables)) [] 0 tables.stores (drop-free taken front_count (free_stores tables) (free-all tables can)) (behind-size tables can) (all-taken tables.stores)

  -- a free name that a front store uses differs from the names of the stores after it
  pub fresh-later : (i : ℕ) → i < front_count → Later names.stores (unwrap_or (slice_get (free_stores tables) i) [])
  fresh-later i less some =
      let fresh = fresh-at taken i front_count (free_stores tables) (free-all tables can) (let size = free-size tables can in let few = front-few tables in omega (arith, size, few, less)) less in
      later (unwrap_or (slice_get (free_stores tables) i) []) (named_stores tables) (drop front_count (free_stores tables)) [] 0 tables.stores fresh.some fresh.others
      (inr (free-differs taken (unwrap_or (slice_get (free_stores tables) i) []) tables.stores fresh.free (all-taken tables.stores)))

  pub one-mark : (name : List ℕ) (count : ℕ) → nat_eq count 0 ≡ false → length (mark_store name count) ≡ 1
  one-mark name count e = ap (λ (t : Bool). length (if t then [] else stated_marks name count ∷ [])) e

  abbrev pub mark_name : List ℕ
  mark_name = unwrap_or (slice_get (free_stores tables) 0) []

  abbrev pub key_name : List ℕ
  key_name = unwrap_or (slice_get (free_stores tables) (length (mark_stores tables))) []

  front-names : (stated : Stated) → IsFront stated names.stores ([] ∷ []) (numbered 2 (mark_stores tables ++ key_stores tables))
  front-names stated =
      mark-front stated names.stores 2 (greatest_mark tables) mark_name key_name (tab_dictionary tables.stores)
      (some-at taken (length (mark_stores tables)) (free_stores tables) (free-all tables can) (let size = free-size tables can in let few = marks-few tables in omega (arith, size, few)))
      (λ some. fresh-later (length (mark_stores tables)) (let join = front-size tables in omega (arith, join, some)))
      (λ e.
      let one = one-mark mark_name (greatest_mark tables) e in (
        some-at taken 0 (free_stores tables) (free-all tables can) (let size = free-size tables can in omega (arith, size)),
        subst (λ (k : ℕ). same_name (unwrap_or (slice_get (free_stores tables) k) []) mark_name ≡ false) (sym one)
            (second-differs taken (free_stores tables) (free-all tables can) (let size = free-size tables can in omega (arith, size))),
        fresh-later 0 (let join = front-size tables in omega (arith, join, one)),
      ))

  abbrev front : List StoreDef
  front = numbered 1 (front_stores tables)

  abbrev behind : List StoreDef
  behind = back_stores names (1 + length (front_stores tables)) names.stores tables.stores

  pub calls : AreNamed (named_stores tables) 0 names.stores tables.stores
  calls = calls_named tables can said written texts

  no-store-refused : (stated : Stated) → first_of (store_refusal stated) [] (written_stores tables) ≡ None
  no-store-refused stated =
      let more = front-names stated in
      front-fine stated [] front behind (refl, (λ before. chars-fine stated before (version_text tables.version)), more.0)
      (stores_apart stated names (1 + length (front_stores tables)) front names.stores tables.stores (have-names (named_stores tables) 0 names.stores tables.stores calls) apart
      ((λ some. clash (same_name [] []) (same_name-self []) some), more.1))

  -- the program states each store that an item names
  store-known : (n : ℕ) → IsNamed tables n → is_named (store_names (written_stores tables)) (store_called names n) ≡ true
  store-known n a =
      ap (λ (all : List (List ℕ)). is_named all (store_called names n)) (flat_map-append kept_name front behind)
      ∙ named-behind (store_names front) (store_names behind) (store_called names n)
      (store_stated names (named_stores tables) 0 (1 + length (front_stores tables)) names.stores tables.stores n n calls (omega arith)
      (all-at (λ m. is_ordinary (slice_get tables.stores m) ≡ true) (named_stores tables) n written.named a) a)

  groups-count : length names.groups ≡ length tables.groups
  groups-count = group_count (free_names (103 ∷ []) (map (λ (group : Group). group.name) tables.groups) (length tables.groups)) [] tables.groups

  groups-are : (line : ℕ) → group_names (back_groups names line names.groups tables.groups) ≡ names.groups
  groups-are line = groups_stated names line names.groups tables.groups groups-count

  group-known : (line g : ℕ) → g < length tables.groups → is_named (group_names (back_groups names line names.groups tables.groups)) (group_called names g) ≡ true
  group-known line g less =
      ap (λ (all : List (List ℕ)). is_named all (group_called names g)) (groups-are line)
      ∙ named_at names.groups g (let count = groups-count in omega (arith, count, less))

  groups-distinct : AreDistinct names.groups
  groups-distinct =
      let l = length-map tables.groups group_name in
      let few = can.group_count in
      groups_apart (map group_name tables.groups) (free_names (103 ∷ []) (map group_name tables.groups) (length tables.groups)) [] tables.groups
      (free_names-free 103 [] (map group_name tables.groups) (length tables.groups) (omega (arith, l, few)))
      (let c = free_names-count (103 ∷ []) (map group_name tables.groups) (length tables.groups) (omega (arith, l, few)) in omega (arith, c)) (names_taken tables.groups)

  -- the begin statements
  abbrev unicode_begin : ℕ → BeginDef
  unicode_begin line = record { line = line; unicode = true; group = group_called names tables.start_unicode }

  abbrev ansi_begin : ℕ → BeginDef
  ansi_begin line = record { line = line; unicode = false; group = group_called names tables.start_ansi }

  ansi-within : (tables.start_ansi < length tables.groups) ⊎ (tables.start_ansi ≡ 0xFFFF_FFFF) → nat_eq tables.start_ansi 0xFFFF_FFFF ≡ false → tables.start_ansi < length tables.groups
  ansi-within (inl less) e = less
  ansi-within (inr is) e = clash (nat_eq tables.start_ansi 0xFFFF_FFFF) (eq-eqb tables.start_ansi 0xFFFF_FFFF is) e

  begin-fine : (stated : Stated) (before : List BeginDef) (start : BeginDef) → is_begun before start ≡ false → is_named stated.groups start.group ≡ true → begin_refusal stated before start ≡ None
  begin-fine stated before start first known =
      no-line start.line (begin_code stated (is_begun before start) start)
      (no-broken C02 (is_begun before start) ((C06, begins_no_group stated start) ∷ []) first
      (no-broken C06 (begins_no_group stated start) [] (not_from_true (is_named stated.groups start.group) known) refl))

  ansi-fine : (stated : Stated) (line : ℕ) (t : Bool) → nat_eq tables.start_ansi 0xFFFF_FFFF ≡ t → ((g : ℕ) → g < length tables.groups → is_named stated.groups (group_called names g) ≡ true)
      → first_of (begin_refusal stated) (unicode_begin line ∷ []) (if t then [] else ansi_begin (line + 1) ∷ []) ≡ None
  ansi-fine stated line true e known = refl
  ansi-fine stated line false e known =
      no-earlier (begin_refusal stated (unicode_begin line ∷ []) (ansi_begin (line + 1))) None
      (begin-fine stated (unicode_begin line ∷ []) (ansi_begin (line + 1)) refl (known tables.start_ansi (ansi-within can.start_ansi e))) refl

  begins-fine : (stated : Stated) (line : ℕ) → ((g : ℕ) → g < length tables.groups → is_named stated.groups (group_called names g) ≡ true)
      → first_of (begin_refusal stated) [] (back_begins names line tables) ≡ None
  begins-fine stated line known =
      no-earlier (begin_refusal stated [] (unicode_begin line)) (first_of (begin_refusal stated) (unicode_begin line ∷ []) (if nat_eq tables.start_ansi 0xFFFF_FFFF then [] else ansi_begin (line + 1) ∷ []))
      (begin-fine stated [] (unicode_begin line) refl (known tables.start_unicode can.start_unicode))
      (ansi-fine stated line (nat_eq tables.start_ansi 0xFFFF_FFFF) refl known)

  -- no name of the program is refused
  pub no_name_refused : names_refusal (back tables) ≡ None
  unfolding names_refusal back
  no_name_refused =
      let line : ℕ = 1 + length (written_stores tables) + length (written_begins tables) in
      let of : Stated = stated (back tables) in
      no-earlier (first_of (begin_refusal of) [] (written_begins tables)) _ (begins-fine of (1 + length (written_stores tables)) (group-known line))
      (no-earlier (first_of (store_refusal of) [] (written_stores tables)) _ (no-store-refused of)
      (no-earlier (first_of group_refusal [] (written_groups tables)) _ (groups_apart_refused names line [] names.groups tables.groups groups-count (apart-from [] names.groups groups-distinct tt))
      (no_rule_unknown of tables names store-known (group-known line) [] line names.groups tables.groups (groups_good tables can written))))

pub spelled_names_stand : (bytes : List ℕ) → IsPlayable (tables_of bytes) → HasTextNames (tables_of bytes) → unspelled bytes ≡ None → names_refusal (back (tables_of bytes)) ≡ None
spelled_names_stand bytes can texts h =
    let said = sayable bytes h in no_name_refused (tables_of bytes) can said (written_out (tables_of bytes) said can) texts
