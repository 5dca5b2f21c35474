-- No store that is written out of tables is refused, as a whole or for an item.
use Rattle.std.proofs.Common.{◌≡◌, ℕ, zero, suc, ◌+◌, ◌<◌, Bool, true, false, List, [], ◌∷◌, length, Option, None, Some, refl, sym, ap, subst, arith}
use Rattle.std.specs.Prelude.{nat_eq, slice_get, unwrap_or}
use Rattle.std.specs.List.{list_any, AllByRecursion}
use Rattle.std.proofs.lemmas.Bool.{eqb-true, false_from_ne_true}
use Rattle.std.proofs.lemmas.Bool.Decides.{nat_tests}
use Rattle.std.proofs.lemmas.Option.{same_Some}
use Rattle.kmn_base.specs.Names.{same_name}
use Rattle.rule_model.specs.declared.program.StoreDef.{StoreDef}
use Rattle.rule_model.specs.declared.tables.Store.{Store}
use Rattle.rule_model.specs.declared.tables.Tables.{Tables}
use Rattle.rule_model.specs.Tab.{tab_dictionary, tab_options}
use Rattle.kmx_format.specs.TablesOf.{tables_of}
use Rattle.kmx_format.specs.Playable.{IsPlayable}
use Rattle.kmn_parser.specs.Spelled.{IsStoreName}
use Rattle.store_table.specs.First.{first_of}
use Rattle.store_table.specs.Known.{Known, known}
use Rattle.item_checker.specs.Items.{is_option, is_no_character, store_code, store_refusal, items_refusal}
use Rattle.decompile_program.specs.Names.{named_stores, written_ids}
use Rattle.decompile_program.specs.Marks.{greatest_mark}
use Rattle.decompile_program.specs.Items.{Names}
use Rattle.decompile_program.specs.Back.{back_stores, numbered, mark_stores, key_stores, front_stores, free_stores, names_for, written_stores, back}
use Rattle.decompile_program.specs.WrittenOut.{CanBeWrittenOut}
use Rattle.decompile_program.proofs.Apart.{EachApart, AreApart, filled, same-turned, source-some}
use Rattle.decompile_program.proofs.Choosing.{all_join}
use Rattle.decompile_program.proofs.Good.{IsOption}
use Rattle.decompile_program.proofs.FrontCounts.{front-size, free-size, free-all, marks-few}
use Rattle.kmx_decompiler.specs.Laws.{HasTextNames}
use Rattle.kmx_decompiler.specs.Unspelled.{unspelled}
use Rattle.kmx_decompiler.proofs.Sayable.{IsSayable, sayable, sayable-at}
use Rattle.kmx_decompiler.proofs.WrittenOut.{store-parts, option-parts, written_out}
use Rattle.kmx_decompiler.proofs.CalledNames.{AreNamed}
use Rattle.kmx_decompiler.proofs.CalledOptions.{not_option}
use Rattle.kmx_decompiler.proofs.SpelledRules.{calls_named}
use Rattle.kmx_decompiler.proofs.StoreCodes.{IsFineStore, written, version_fine, front_fine, ordinary_fine, system_fine}
use Rattle.kmx_decompiler.proofs.UnrefusedNames.{apart, fresh-later, one-mark, mark_name, key_name, taken, some-at}
use Rattle.kmx_decompiler.proofs.UnrefusedRules.{no-earlier, no-line, none_of_all, spelled_rules_stand}
use Rattle.kmn_lines.proofs.TextSizes.{clash}

-- the name at a number in a list of calls
abbrev called_at : List (Option (List ℕ)) → ℕ → List ℕ
called_at calls n = unwrap_or (unwrap_or (slice_get calls n) None) []

each-at : (x : List ℕ) (calls : List (Option (List ℕ))) (n : ℕ) → same_name x [] ≡ false → EachApart x calls → same_name x (called_at calls n) ≡ false
each-at x [] n some h = some
each-at x (None ∷ calls) zero some h = some
each-at x (Some y ∷ calls) zero some h = h.0
each-at x (None ∷ calls) (suc n) some h = each-at x calls n some h
each-at x (Some y ∷ calls) (suc n) some h = each-at x calls n some h.1

-- if names are distinct, the names at two different numbers differ
apart-behind : (y x : List ℕ) (calls : List (Option (List ℕ))) (i : ℕ) → (same_name y [] ≡ false → EachApart y calls) → slice_get calls i ≡ Some (Some x) → same_name x [] ≡ false
    → same_name x y ≡ false
apart-behind [] x calls i h at some = some
apart-behind (b ∷ bytes) x calls i h at some =
    let is : called_at calls i ≡ x = ap (λ (o : Option (Option (List ℕ))). unwrap_or (unwrap_or o None) []) at in
    same-turned (b ∷ bytes) x (subst (λ (z : List ℕ). same_name (b ∷ bytes) z ≡ false) is (each-at (b ∷ bytes) calls i (filled b bytes) (h (filled b bytes))))

apart-before : (y x : List ℕ) (calls : List (Option (List ℕ))) (j : ℕ) → (same_name y [] ≡ false → EachApart y calls) → y ≡ x → same_name x [] ≡ false
    → same_name x (called_at calls j) ≡ false
apart-before y x calls j h is some =
    let here : same_name y [] ≡ false = subst (λ (z : List ℕ). same_name z [] ≡ false) (sym is) some in
    subst (λ (z : List ℕ). same_name z (called_at calls j) ≡ false) is (each-at y calls j here (h here))

one-less : (i j : ℕ) → nat_eq (suc i) (suc j) ≡ false → nat_eq i j ≡ false
one-less i j h = grind (arith, nat_tests, h)

apart-at : (calls : List (Option (List ℕ))) (i j : ℕ) (x : List ℕ) → AreApart calls → slice_get calls i ≡ Some (Some x) → same_name x [] ≡ false → nat_eq i j ≡ false
    → same_name x (called_at calls j) ≡ false
apart-at [] i j x h at some e = some
apart-at (c ∷ calls) zero zero x h at some e = absurd (cc)
apart-at (None ∷ calls) zero (suc j) x h at some e = absurd (none-is x (same_Some None (Some x) at))
  where
    none-is : (x : List ℕ) → None ≡ Some x → ⊥
    none-is x h = absurd (cc)
apart-at (Some y ∷ calls) zero (suc j) x h at some e = apart-before y x calls j h.0 (same_Some y x (same_Some (Some y) (Some x) at)) some
apart-at (None ∷ calls) (suc i) zero x h at some e = some
apart-at (Some y ∷ calls) (suc i) zero x h at some e = apart-behind y x calls i h.0 at some
apart-at (None ∷ calls) (suc i) (suc j) x h at some e = apart-at calls i j x h at some (one-less i j e)
apart-at (Some y ∷ calls) (suc i) (suc j) x h at some e = apart-at calls i j x h.1 at some (one-less i j e)

-- if no written store is refused on any line, none of the store statements is refused
module _ (known : Known) (names : Names) where
  abbrev FineCall : List ℕ → Store → Type 0
  FineCall name store =
      (nat_eq store.system 0 ≡ true → IsStoreName name) → (nat_eq store.system 0 ≡ false → (name ≡ []) × (list_any (nat_eq store.system) written_ids ≡ true))
      → (line : ℕ) → IsFineStore known (written known names line store.system name store.elements)

  calls-fine : (named : List ℕ) (k line : ℕ) (calls : List (Option (List ℕ))) (stores : List Store) → AreNamed named k calls stores
      → ((i : ℕ) (name : List ℕ) (store : Store) → slice_get calls i ≡ Some (Some name) → slice_get stores i ≡ Some store → FineCall name store)
      → AllByRecursion (IsFineStore known) (back_stores names line calls stores)
  calls-fine named k line [] stores h each = tt
  calls-fine named k line (None ∷ calls) [] h each = tt
  calls-fine named k line (Some name ∷ calls) [] h each = tt
  calls-fine named k line (None ∷ calls) (store ∷ stores) h each =
      calls-fine named (k + 1) line calls stores h.1 (λ i name s at there. each (suc i) name s at there)
  calls-fine named k line (Some name ∷ calls) (store ∷ stores) h each =
      (each 0 name store refl refl h.0 h.1 line, calls-fine named (k + 1) (line + 1) calls stores h.2 (λ i name s at there. each (suc i) name s at there))

module _ (tables : Tables) (can : IsPlayable tables) (said : IsSayable tables) (out : CanBeWrittenOut tables) (texts : HasTextNames tables) where
  abbrev all : Known
  all = known (back tables)

  abbrev called : Names
  called = names_for tables

  -- if a name differs from all names of stores, it is not the name of an option, so front stores are not options
  front-apart : (x : List ℕ) → same_name x [] ≡ false → EachApart x called.stores → is_option all x ≡ false
  front-apart x some h = not_option tables x (λ n option. each-at x called.stores n some h)

  mark-apart : nat_eq (greatest_mark tables) 0 ≡ false → is_option all (mark_name tables can said out texts) ≡ false
  mark-apart e =
      let name : List ℕ = mark_name tables can said out texts in
      let some : same_name name [] ≡ false =
      some-at (taken tables can said out texts) 0 (free_stores tables) (free-all tables can) (let size = free-size tables can in omega (arith, size)) in
      let one = one-mark tables can said out texts name (greatest_mark tables) e in
      let join = front-size tables in
      front-apart name some (fresh-later tables can said out texts 0 (omega (arith, join, one)) some)

  key-apart : 0 < length (key_stores tables) → is_option all (key_name tables can said out texts) ≡ false
  key-apart more =
      let name : List ℕ = key_name tables can said out texts in
      let few = marks-few tables in
      let size = free-size tables can in
      let some : same_name name [] ≡ false =
      some-at (taken tables can said out texts) (length (mark_stores tables)) (free_stores tables) (free-all tables can) (omega (arith, few, size)) in
      let join = front-size tables in
      front-apart name some (fresh-later tables can said out texts (length (mark_stores tables)) (omega (arith, join, more)) some)

  -- a store that is used as an option has only characters
  option-fine : (n : ℕ) (name : List ℕ) (store : Store) → slice_get called.stores n ≡ Some (Some name) → slice_get tables.stores n ≡ Some store → same_name name [] ≡ false
      → is_option all name ≡ true → list_any is_no_character store.elements ≡ false
  option-fine n name store at there some used = by (list_any (nat_eq n) (tab_options tables)) refl
    where
      other : list_any (nat_eq n) (tab_options tables) ≡ false → (m : ℕ) → IsOption tables m → nat_eq n m ≡ false
      other none m option =
          false_from_ne_true (nat_eq n m)
          (λ e. clash (list_any (nat_eq n) (tab_options tables)) (subst (λ (k : ℕ). list_any (nat_eq k) (tab_options tables) ≡ true) (sym (eqb-true n m e)) option) none)

      by : (b : Bool) → list_any (nat_eq n) (tab_options tables) ≡ b → list_any is_no_character store.elements ≡ false
      by true among = (option-parts tables said n store among there).2
      by false none =
          clash (is_option all name) used
          (not_option tables name (λ m option. apart-at called.stores n m name (apart tables can said out texts) at some (other none m option)))

  each-fine : (n : ℕ) (name : List ℕ) (store : Store) → slice_get called.stores n ≡ Some (Some name) → slice_get tables.stores n ≡ Some store → FineCall all called name store
  each-fine n name store at there ordinary system line = by (nat_eq store.system 0) refl
    where
      by : (b : Bool) → nat_eq store.system 0 ≡ b → IsFineStore all (written all called line store.system name store.elements)
      by true e =
          subst (λ (s : ℕ). IsFineStore all (written all called line s name store.elements)) (sym (eqb-true store.system 0 e))
          (ordinary_fine all called line name store.elements (option-fine n name store at there (source-some name (ordinary e).named.read)))
      by false e =
          system_fine all called store.system name store.elements (system e).1 line
          (store-parts tables n store (sayable-at called (tab_options tables) 0 tables.stores said.stores n n store (omega arith) there)).system

  pub no_store_refused : first_of (store_refusal all) [] (written_stores tables) ≡ None
  no_store_refused =
      none_of_all (store_refusal all) (IsFineStore all) (λ (before : List StoreDef) (store : StoreDef) e. no-line store.line (store_code all store) e) [] (written_stores tables)
      (all_join (IsFineStore all) (numbered 1 (front_stores tables)) (back_stores called (1 + length (front_stores tables)) called.stores tables.stores) (
        version_fine all tables.version 1 can.version,
        front_fine all 2 (greatest_mark tables) (mark_name tables can said out texts) (key_name tables can said out texts) (tab_dictionary tables.stores) mark-apart key-apart,
      )
      (calls-fine all called (named_stores tables) 0 (1 + length (front_stores tables)) called.stores tables.stores (calls_named tables can said out texts) each-fine))

pub spelled_items_stand : (bytes : List ℕ) → IsPlayable (tables_of bytes) → HasTextNames (tables_of bytes) → unspelled bytes ≡ None → items_refusal (back (tables_of bytes)) ≡ None
unfolding items_refusal back
spelled_items_stand bytes can texts h =
    let tables : Tables = tables_of bytes in
    let said = sayable bytes h in
    no-earlier (first_of (store_refusal (known (back tables))) [] (written_stores tables)) _ (no_store_refused tables can said (written_out tables said can) texts)
    (spelled_rules_stand bytes can)
