-- The stores of a text correspond to those of the file.
use Rattle.std.proofs.Common.{◌≡◌, ℕ, ◌+◌, ◌<◌, inr, true, false, List, [], ◌∷◌, ◌++◌, length, drop, map, Option, None, Some, is_some, refl, sym, ◌∙◌, ap, subst, arith, append_assoc, if◌then◌else◌}
use Rattle.std.specs.Prelude.{slice_get, position, unwrap_or, nat_eq, flat_map, bit_or}
use Rattle.std.specs.List.{list_any, list_all, AllByRecursion}
use Rattle.std.proofs.lemmas.List.{map-append}
use Rattle.std.proofs.lemmas.List.Elements.{recursion_from_All}
use Rattle.std.proofs.lemmas.Option.{same_Some}
use Rattle.kmn_base.specs.declared.items.Element.{Element}
use Rattle.kmn_base.specs.declared.items.Element.TheVariants as element
use Rattle.kmn_base.specs.Names.{same_name}
use Rattle.kmn_base.proofs.StandingItems.{listed}
use Rattle.rule_model.specs.declared.program.StoreDef.{StoreDef}
use Rattle.rule_model.specs.declared.tables.Store.{Store}
use Rattle.rule_model.specs.declared.tables.Tables.{Tables}
use Rattle.rule_model.specs.Keyboard.{StoreMeaning}
use Rattle.rule_model.specs.Naming.{SourceNames, names_of, stores_of, store_of}
use Rattle.rule_model.specs.Src.{src, src_options, numbers_named}
use Rattle.rule_model.specs.System.{system_options}
use Rattle.rule_model.specs.Tab.{tab, tab_options, with_options, elements_of, store_elements, element_char, tab_dictionary}
use Rattle.compile_laws.proofs.Keyboards.{src_stores, tab_stores}
use Rattle.kmx_format.specs.Playable.{IsPlayable}
use Rattle.decompile_program.specs.Names.{named_stores}
use Rattle.decompile_program.specs.Marks.{greatest_mark}
use Rattle.decompile_program.specs.Items.{store_called}
use Rattle.decompile_program.specs.Back.{back_stores, numbered, mark_store, key_store, stated_marks, mark_stores, key_stores, front_stores, free_stores, names_for, written_stores, written_begins, back}
use Rattle.decompile_program.specs.WrittenOut.{is_ordinary, has_characters, KeepsName, CanBeWrittenOut}
use Rattle.decompile_program.proofs.Apart.{StandsFirst, AreFree, own_name, later, each-at, free-differs, names_apart, stands_first, same-turned}
use Rattle.decompile_program.proofs.Good.{IsNamed, IsOption, GoodElement, members, stores_good}
use Rattle.decompile_program.proofs.Thin.{thin, KeepsOptions, Stands, stands, behind}
use Rattle.compile_laws.proofs.Stores.{with_options-append}
use Rattle.decompile_program.proofs.Linking.{thin_stores, IsSimple, stores-mapped, GoesBack, stores-back, written_before, Written, first-written, meanings-thin, options-placed, flags_agree, found-behind, front-fixed, front-other}
use Rattle.decompile_program.proofs.BackCalls.{AreCalls, are_calls, calls-along, called-at, keeps_options, back-simple}
use Rattle.decompile_program.proofs.Numbering.{mark-number, key-number}
use Rattle.decompile_program.proofs.Renamed.{same_flags}
use Rattle.decompile_program.proofs.Uses.{groups_uses}
use Rattle.decompile_program.proofs.Choosing.{all_join, all_weaker}
use Rattle.decompile_program.proofs.OptionNames.{option-named}
use Rattle.decompile_program.proofs.FreshNames.{IsFresh, fresh-at, drop-free, all-taken}
use Rattle.decompile_program.proofs.FrontStores.{front-simple, numbered-simple}
use Rattle.decompile_program.proofs.FrontCounts.{marks-few, front-size, free-all, free-size, behind-size}

-- an element as a text spells it
abbrev pub spelled : Element → Element
spelled (element.Char c) = element.Char c
spelled (element.Mark m) = element.Mark m
spelled (element.Key flags code) = element.Key (bit_or flags 0x4000) code

module _ (t : Tables) (p : IsPlayable t) (c : CanBeWrittenOut t) where
  abbrev taken : List (List ℕ)
  taken = map own_name t.stores

  abbrev front_count : ℕ
  front_count = length (mark_stores t ++ key_stores t)

  abbrev free_behind : List (List ℕ)
  free_behind = drop front_count (free_stores t)

  abbrev pub calls : List (Option (List ℕ))
  calls = (names_for t).stores

  behind-free : AreFree taken free_behind
  behind-free = drop-free taken front_count (free_stores t) (free-all t p)

  pub the-calls : AreCalls (named_stores t) 0 calls t.stores
  the-calls = are_calls (named_stores t) taken free_behind [] 0 t.stores behind-free (behind-size t p)

  pub along : length calls ≡ length t.stores
  along = calls-along (named_stores t) 0 calls t.stores the-calls

  -- the properties of a store that an item names
  pub record Ready (n : ℕ) : Type 0 where
    pub name : List ℕ
    pub at : slice_get calls n ≡ Some (Some name)
    pub some : same_name name [] ≡ false
    pub first : StandsFirst name n calls
    pub called : store_called (names_for t) n ≡ name

  ordinary : (o : Option Store) → is_ordinary o ≡ true → (store : Store) × (o ≡ Some store) × (nat_eq store.system 0 ≡ true)
  ordinary None e = let bad : false ≡ true = e in absurd cc
  ordinary (Some store) e = (store, refl, e)

  pub ready : (n : ℕ) → IsNamed t n → Ready n
  ready n named =
      let found = ordinary (slice_get t.stores n) (listed (λ n. is_ordinary (slice_get t.stores n) ≡ true) (named_stores t) n (recursion_from_All (λ n. is_ordinary (slice_get t.stores n) ≡ true) (named_stores t) c.named) named) in
      let zero_more : 0 + n ≡ n = omega arith in
      let called = called-at (named_stores t) 0 n calls t.stores found.0 the-calls found.1 found.2 (ap (λ (k : ℕ). list_any (nat_eq k) (named_stores t)) zero_more ∙ named) in
      record {
        name = called.name;
        at = called.at;
        some = called.some;
        first = stands_first called.name n calls called.some (names_apart (named_stores t) taken free_behind [] 0 t.stores behind-free (behind-size t p) (all-taken t.stores)) called.at;
        called = ap (λ (o : Option (Option (List ℕ))). unwrap_or (unwrap_or o None) []) called.at;
      }

  -- a store in front has another name
  abbrev Other : List ℕ → (ℕ → StoreDef) → Type 0
  Other x f = (n : ℕ) → same_name (f n).name x ≡ false

  fresh-other : (y x : List ℕ) (n : ℕ) → IsFresh taken free_behind y → slice_get calls n ≡ Some (Some x) → same_name y x ≡ false
  fresh-other y x n fresh at =
      each-at y x n calls (later y (named_stores t) free_behind [] 0 t.stores fresh.some fresh.others (inr (free-differs taken y t.stores fresh.free (all-taken t.stores)))) at

  mark-other : (x name : List ℕ) (count : ℕ) → (0 < length (mark_store name count) → same_name name x ≡ false) → AllByRecursion (Other x) (mark_store name count)
  mark-other x name count h =
      elim (nat_eq count 0) as (λ b. (0 < length (if b then [] else stated_marks name count ∷ []) → same_name name x ≡ false) → AllByRecursion (Other x) (if b then [] else stated_marks name count ∷ [])) [
        | true ↦ λ h. tt
        | false ↦ λ h. (λ n. h (omega arith), tt)
      ] h

  key-other : (x name : List ℕ) (keys : List (List ℕ)) → (0 < length (key_store name keys) → same_name name x ≡ false) → AllByRecursion (Other x) (key_store name keys)
  key-other x name [] h = tt
  key-other x name (k ∷ keys) h = (λ n. h (omega arith), tt)

  front-others : (n : ℕ) (r : Ready n) → AllByRecursion (Other r.name) (front_stores t)
  front-others n r =
      let size = front-size t in
      let all = free-size t p in
      let one = marks-few t in (
        λ k. same-turned r.name [] r.some,
        all_join (Other r.name) (mark_stores t) (key_stores t)
            (mark-other r.name (unwrap_or (slice_get (free_stores t) 0) []) (greatest_mark t)
            (λ some. fresh-other (unwrap_or (slice_get (free_stores t) 0) []) r.name n (fresh-at taken 0 front_count (free_stores t) (free-all t p) (omega (arith, all)) (omega (arith, size, some))) r.at))
            (key-other r.name (unwrap_or (slice_get (free_stores t) (length (mark_stores t))) []) (tab_dictionary t.stores)
            (λ some. fresh-other (unwrap_or (slice_get (free_stores t) (length (mark_stores t))) []) r.name n
            (fresh-at taken (length (mark_stores t)) front_count (free_stores t) (free-all t p) (omega (arith, all, one)) (omega (arith, size, some))) r.at)),
      )

  -- the stores of the text
  abbrev pub names : SourceNames
  names = names_of (back t)

  abbrev pub front_file : List Store
  front_file = map (store_of names []) (numbered 1 (front_stores t))

  other-stores : (x : List ℕ) (line : ℕ) (fs : List (ℕ → StoreDef)) → AllByRecursion (Other x) fs → AllByRecursion (λ (s : Store). same_name s.name x ≡ false) (map (store_of names []) (numbered line fs))
  other-stores x line [] h = tt
  other-stores x line (f ∷ fs) h = (h.0 line, other-stores x (line + 1) fs h.1)

  goes-back : (e : Element) → GoodElement t e → GoesBack names (names_for t) spelled e
  goes-back (element.Char d) ok = refl
  goes-back (element.Mark m) ok = λ i. element.Mark (mark-number t p c m ok.marks.0 i) ∷ []
  goes-back (element.Key flags code) ok = λ i. element.Key (same_flags (names_for t) flags code i) (key-number t p c flags code ok.keys.0 i) ∷ []

  go-back : (stores : List Store) → AllByRecursion (λ (s : Store). AllByRecursion (GoodElement t) s.elements) stores → AllByRecursion (λ (s : Store). AllByRecursion (GoesBack names (names_for t) spelled) s.elements) stores
  go-back [] ok = tt
  go-back (s ∷ stores) ok = (all_weaker (GoodElement t) (GoesBack names (names_for t) spelled) goes-back s.elements ok.0, go-back stores ok.1)

  pub stores-are : stores_of (back t) ≡ front_file ++ thin_stores spelled calls t.stores
  unfolding stores_of back
  stores-are =
      let front = numbered 1 (front_stores t) in
      let behind_front = back_stores (names_for t) (1 + length (front_stores t)) calls t.stores in
      stores-mapped names [] (written_stores t)
      (all_join (IsSimple names) front behind_front (numbered-simple names 1 (front_stores t) (front-simple names t)) (back-simple names (names_for t) (named_stores t) (1 + length (front_stores t)) 0 calls t.stores the-calls))
      ∙ (map-append (store_of names []) front behind_front
      ∙ ap (λ (ss : List Store). front_file ++ ss) (stores-back names (names_for t) spelled (1 + length (front_stores t)) calls t.stores (go-back t.stores (stores_good t p c))))

  -- the place of a store in the text
  abbrev pub place : ℕ → ℕ
  place n = length front_file + written_before n calls

  placed : (n : ℕ) → IsOption t n → position (λ (s : Store). same_name s.name (store_called (names_for t) n)) (stores_of (back t)) ≡ Some (place n)
  placed n option =
      let r = ready n (option-named t n option) in
      ap (λ (x : List ℕ). position (λ (s : Store). same_name s.name x) (stores_of (back t))) r.called
      ∙ (ap (position (λ (s : Store). same_name s.name r.name)) stores-are
      ∙ found-behind front_file n calls t.stores spelled r.name (other-stores r.name 1 (front_stores t) (front-others n r)) r.first along)

  options-are : src_options (back t) ≡ map place (tab_options t)
  unfolding src_options back tab_options
  options-are =
      ap (flat_map (numbers_named (stores_of (back t)))) (groups_uses (names_for t) (1 + length (written_stores t) + length (written_begins t)) (names_for t).groups t.groups)
      ∙ options-placed (stores_of (back t)) (store_called (names_for t)) place (tab_options t)
      (all_weaker (IsOption t) (λ n. position (λ (s : Store). same_name s.name (store_called (names_for t) n)) (stores_of (back t)) ≡ Some (place n)) placed (tab_options t) (members (tab_options t)))

  -- the meaning of the stores in front
  abbrev pub front_meanings : List StoreMeaning
  front_meanings = with_options (map place (tab_options t)) 0 front_file

  pub front-plain : AllByRecursion (λ (s : StoreMeaning). s.is_option ≡ false) front_meanings
  front-plain = front-fixed (length front_file) calls (tab_options t) 0 front_file (omega arith)

  -- the meaning of the stores of the file
  abbrev pub own_meanings : List StoreMeaning
  own_meanings = with_options (tab_options t) 0 t.stores

  pub meanings-are : (src (back t)).stores ≡ front_meanings ++ (thin spelled calls own_meanings ++ system_options)
  meanings-are =
      src_stores (back t)
      ∙ (ap (λ (ss : List StoreMeaning). ss ++ system_options)
      ((λ i. with_options (options-are i) 0 (stores-are i))
      ∙ (with_options-append (map place (tab_options t)) 0 front_file (thin_stores spelled calls t.stores)
      ∙ ((let e : 0 + length front_file ≡ length front_file = omega arith in ap (λ (k : ℕ). front_meanings ++ with_options (map place (tab_options t)) k (thin_stores spelled calls t.stores)) e)
      ∙ (ap (λ (ss : List StoreMeaning). front_meanings ++ ss)
      (meanings-thin spelled (map place (tab_options t)) (tab_options t) (length front_file) 0 calls t.stores
      (flags_agree (length front_file) calls (tab_options t)
      (all_weaker (IsOption t) (λ n. Written n calls) (λ n option. let r = ready n (option-named t n option) in first-written r.name n calls r.first) (tab_options t) (members (tab_options t)))))))))
      ∙ append_assoc front_meanings (thin spelled calls own_meanings) system_options)

  -- options keep their names and elements
  same-characters : (es : List Element) → list_all (λ (e : Element). is_some (element_char e)) es ≡ true → map spelled es ≡ es
  same-characters [] h = refl
  same-characters (element.Char d ∷ es) h = ap (λ (rest : List Element). element.Char d ∷ rest) (same-characters es h)
  same-characters (element.Mark m ∷ es) h = let bad : false ≡ true = h in absurd cc
  same-characters (element.Key flags code ∷ es) h = let bad : false ≡ true = h in absurd cc

  kept : (n : ℕ) (store : Store) (call : Option (List ℕ)) → slice_get t.stores n ≡ Some store → slice_get calls n ≡ Some call → list_any (nat_eq (0 + n)) (tab_options t) ≡ true
      → (call ≡ Some store.name) × (map spelled store.elements ≡ store.elements)
  kept n store call at call_at option_here =
      let zero_more : n ≡ 0 + n = omega arith in
      let option : IsOption t n = ap (λ (k : ℕ). list_any (nat_eq k) (tab_options t)) zero_more ∙ option_here in
      let r = ready n (option-named t n option) in
      let own : KeepsName t n = listed (KeepsName t) (tab_options t) n (recursion_from_All (KeepsName t) (tab_options t) c.options) option in
      let chars : has_characters t n ≡ true = listed (λ n. has_characters t n ≡ true) (tab_options t) n (recursion_from_All (λ n. has_characters t n ≡ true) (tab_options t) c.option_elements) option in
      let elements : elements_of t.stores n ≡ store.elements = ap store_elements at in (
        same_Some call (Some r.name) (sym call_at ∙ r.at) ∙ ap (λ (x : List ℕ). Some x) (sym r.called ∙ own store at),
        same-characters store.elements (ap (list_all (λ (e : Element). is_some (element_char e))) (sym elements) ∙ chars),
      )

  pub keeps : KeepsOptions spelled calls own_meanings
  keeps = keeps_options spelled (named_stores t) (tab_options t) 0 calls t.stores the-calls kept

  -- each store that an item names is found after the stores in front
  pub stands-there : (n : ℕ) (r : Ready n) → Stands spelled r.name n (src (back t)).stores (tab t).stores
  stands-there n r =
      subst (λ (ss : List StoreMeaning). Stands spelled r.name n ss (tab t).stores) (sym meanings-are)
      (subst (Stands spelled r.name n (front_meanings ++ (thin spelled calls own_meanings ++ system_options))) (sym (tab_stores t))
      (behind spelled r.name n front_meanings (thin spelled calls own_meanings ++ system_options) (own_meanings ++ system_options)
      (front-other (map place (tab_options t)) r.name 0 front_file (other-stores r.name 1 (front_stores t) (front-others n r)))
      front-plain (stands spelled r.name n calls own_meanings system_options r.first keeps)))
