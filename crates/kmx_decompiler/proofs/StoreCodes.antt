-- The conditions under which no part of a store statement that is written out of tables is refused.
use Rattle.std.proofs.Common.{◌≡◌, ℕ, ◌+◌, ◌<◌, Bool, true, false, not, ◌&&◌, List, [], ◌∷◌, ◌++◌, length, map, None, refl, sym, subst, arith, if◌then◌else◌}
use Rattle.std.specs.Prelude.{flat_map, nat_eq}
use Rattle.std.specs.List.{list_any, AllByRecursion, range_with_len}
use Rattle.std.specs.Fmt.{decimal}
use Rattle.std.proofs.lemmas.Bool.{or_parts, not-false, not_from_true, and_right}
use Rattle.kmn_base.specs.declared.codes.Code.TheVariants.{C12, C13, C14, C25}
use Rattle.kmn_base.specs.declared.items.Element.{Element}
use Rattle.kmn_base.specs.declared.items.Element.TheVariants as element
use Rattle.kmn_base.proofs.StandingItems.{listed}
use Rattle.rule_model.specs.declared.program.SrcItem.{SrcItem}
use Rattle.rule_model.specs.declared.program.SrcItem.TheVariants as source
use Rattle.rule_model.specs.declared.program.StoreDef.{StoreDef}
use Rattle.kmx_format.specs.Versions.{is_version, version_numbers}
use Rattle.store_table.specs.First.{first_code}
use Rattle.store_table.specs.Known.{Known, brought, statement_elements}
use Rattle.item_checker.specs.Items.{is_option, is_no_character, is_left_out, is_layout_text, is_system_text, is_other_text, uses_option, needs_characters, needs_plain_keys, brings_no_character, brings_no_plain_key, store_item_code, store_head_code, store_code}
use Rattle.decompile_program.specs.Items.{Names, back_element}
use Rattle.decompile_program.specs.Names.{written_ids}
use Rattle.decompile_program.specs.Back.{numbered, stated_marks, stated_key, mark_store, key_store, version_store}
use Rattle.kmx_decompiler.specs.Causes.{is_unspelled_system}
use Rattle.kmx_decompiler.proofs.UnrefusedRules.{no-else, no-broken}

module _ (known : Known) where
  -- no part of a store statement is refused
  abbrev pub IsFineStore : StoreDef → Type 0
  IsFineStore store = store_code known store ≡ None

  code-fine : (store : StoreDef) → is_left_out store ≡ false → is_system_text store.system (statement_elements known store) ≡ true
      → first_code (store_item_code known (needs_characters known store) (needs_plain_keys store)) store.items ≡ None → IsFineStore store
  code-fine store kept text items =
      no-else (store_head_code known store) (first_code (store_item_code known (needs_characters known store) (needs_plain_keys store)) store.items)
      (no-broken C12 (is_left_out store) ((C12, is_other_text known store) ∷ []) kept
      (no-broken C12 (is_other_text known store) []
      (and_right (not (list_any is_no_character (statement_elements known store))) (not (is_system_text store.system (statement_elements known store)))
      (not_from_true (is_system_text store.system (statement_elements known store)) text)) refl)) items

  -- if the version of a file is valid, a source can state it
  pub version_fine : (version line : ℕ) → is_version version ≡ true → IsFineStore (version_store version line)
  version_fine version line is =
      listed (λ (v : ℕ). IsFineStore (version_store v line))
      version_numbers version
      (refl, (refl, (refl, (refl, (refl, (refl, (refl, (refl, (refl, tt))))))))) is

  -- no item of the stores of deadkeys and keys is refused if these stores are not options
  marks-fine : (ms : List ℕ) → first_code (store_item_code known false false) (map (λ m. source.Dead (decimal m)) ms) ≡ None
  marks-fine [] = refl
  marks-fine (m ∷ ms) = marks-fine ms

  keys-fine : (keys : List (List ℕ)) → first_code (store_item_code known false false) (map stated_key keys) ≡ None
  keys-fine [] = refl
  keys-fine (key ∷ keys) = keys-fine keys

  stated-fine : (line : ℕ) (name : List ℕ) (items : List SrcItem) → is_option known name ≡ false → first_code (store_item_code known false false) items ≡ None
      → IsFineStore (record { line = line; system = 0; name = name; items = items })
  stated-fine line name items e h =
      code-fine (record { line = line; system = 0; name = name; items = items }) refl refl
      (subst (λ (c : Bool). first_code (store_item_code known c false) items ≡ None) (sym e) h)

  key-front : (line : ℕ) (b : List ℕ) (keys : List (List ℕ)) → (0 < length (key_store b keys) → is_option known b ≡ false)
      → AllByRecursion IsFineStore (numbered line (key_store b keys))
  key-front line b [] h = tt
  key-front line b (key ∷ keys) h = (stated-fine line b (map stated_key (key ∷ keys)) (h (omega arith)) (keys-fine (key ∷ keys)), tt)

  pub front_fine : (line count : ℕ) (a b : List ℕ) (keys : List (List ℕ)) → (nat_eq count 0 ≡ false → is_option known a ≡ false)
      → (0 < length (key_store b keys) → is_option known b ≡ false) → AllByRecursion IsFineStore (numbered line (mark_store a count ++ key_store b keys))
  front_fine line count a b keys marks h = by (nat_eq count 0) marks
    where
      by : (t : Bool) → (t ≡ false → is_option known a ≡ false)
          → AllByRecursion IsFineStore (numbered line ((if t then [] else stated_marks a count ∷ []) ++ key_store b keys))
      by true m = key-front line b keys h
      by false m = (
        stated-fine line a (map (λ m. source.Dead (decimal m)) (range_with_len 1 count)) (m refl) (marks-fine (range_with_len 1 count)),
        key-front (line + 1) b keys h,
      )

  module _ (names : Names) where
    puts-none : (e : Element) → uses_option known (back_element names e) ≡ false
    puts-none (element.Char c) = refl
    puts-none (element.Mark m) = refl
    puts-none (element.Key flags code) = refl

    brings-none : (characters : Bool) (e : Element) → (characters ≡ true → is_no_character e ≡ false) → (characters && brings_no_character known (back_element names e)) ≡ false
    brings-none false e h = refl
    brings-none true (element.Char c) h = refl
    brings-none true (element.Mark m) h = h refl
    brings-none true (element.Key flags code) h = h refl

    items-fine : (characters : Bool) (es : List Element) → (characters ≡ true → list_any is_no_character es ≡ false)
        → first_code (store_item_code known characters false) (map (back_element names) es) ≡ None
    items-fine characters [] h = refl
    items-fine characters (e ∷ es) h =
        no-else (store_item_code known characters false (back_element names e)) (first_code (store_item_code known characters false) (map (back_element names) es))
        (no-broken C13 (uses_option known (back_element names e)) ((C14, characters && brings_no_character known (back_element names e)) ∷ (C25, false && brings_no_plain_key known (back_element names e)) ∷ []) (puts-none e)
        (no-broken C14 (characters && brings_no_character known (back_element names e)) ((C25, false && brings_no_plain_key known (back_element names e)) ∷ [])
        (brings-none characters e (λ t. (or_parts (is_no_character e) (list_any is_no_character es) (h t)).0)) refl))
        (items-fine characters es (λ t. (or_parts (is_no_character e) (list_any is_no_character es) (h t)).1))

    abbrev pub written : ℕ → ℕ → List ℕ → List Element → StoreDef
    written line system name es = record { line = line; system = system; name = name; items = map (back_element names) es }

    back-fine : (line system : ℕ) (name : List ℕ) (es : List Element) → nat_eq system 39 ≡ false → is_left_out (written line system name es) ≡ false
        → is_system_text system (statement_elements known (written line system name es)) ≡ true
        → (needs_characters known (written line system name es) ≡ true → list_any is_no_character es ≡ false) → IsFineStore (written line system name es)
    back-fine line system name es uncased kept text h =
        let wants : Bool = needs_characters known (written line system name es) in
        code-fine (written line system name es) kept text
        (subst (λ (keys : Bool). first_code (store_item_code known wants keys) (map (back_element names) es) ≡ None) (sym uncased) (items-fine wants es h))

    pub ordinary_fine : (line : ℕ) (name : List ℕ) (es : List Element) → (is_option known name ≡ true → list_any is_no_character es ≡ false)
        → IsFineStore (written line 0 name es)
    ordinary_fine line name es h = back-fine line 0 name es refl refl refl h

    no-layout : (a : Bool) → (a && false) ≡ true → false ≡ true
    no-layout true h = h
    no-layout false h = h

    layout-text : (es : List Element) → is_layout_text es ≡ true → (is_layout_text (flat_map (brought known) (map (back_element names) es)) ≡ true) × (list_any is_no_character es ≡ false)
    layout-text [] h = absurd (cc)
    layout-text (element.Char c ∷ []) h = (h, refl)
    layout-text (element.Char c ∷ e ∷ es) h = let bad = no-layout (nat_eq 48 c) h in absurd (cc)
    layout-text (element.Mark m ∷ es) h = absurd (cc)
    layout-text (element.Key flags code ∷ es) h = absurd (cc)

    layout-fine : (line : ℕ) (name : List ℕ) (es : List Element) → is_layout_text es ≡ true → IsFineStore (written line 17 name es)
    layout-fine line name es h = let layout = layout-text es h in back-fine line 17 name es refl refl layout.0 (λ t. layout.1)

    -- if a system store has no cause, no part of its statement is refused
    abbrev SystemFine : List ℕ → List Element → ℕ → Type 0
    SystemFine name es system = (line : ℕ) → is_unspelled_system (record { system = system; name = name; elements = es }) ≡ false → IsFineStore (written line system name es)

    unwanted : {X : Type 0} → false ≡ true → X
    unwanted h = absurd (cc)

    pub system_fine : (system : ℕ) (name : List ℕ) (es : List Element) → list_any (nat_eq system) written_ids ≡ true → SystemFine name es system
    system_fine system name es is =
        listed (SystemFine name es) written_ids system (
          (λ line h. back-fine line 1 name es refl refl refl (λ t. (or_parts (list_any is_no_character es) false h).0)),
          (
            (λ line h. back-fine line 2 name es refl refl refl (λ t. unwanted t)),
            (
              (λ line h. back-fine line 3 name es refl refl refl (λ t. unwanted t)),
              (
                (λ line h. back-fine line 6 name es refl refl refl (λ t. unwanted t)),
                (
                  (λ line h. back-fine line 7 name es refl refl refl (λ t. unwanted t)),
                  (
                    (λ line h. layout-fine line name es (not-false (is_layout_text es) h)),
                    (
                      (λ line h. back-fine line 24 name es refl refl refl (λ t. unwanted t)),
                      (
                        (λ line h. back-fine line 35 name es refl refl refl (λ t. unwanted t)),
                        (
                          (λ line h. back-fine line 36 name es refl refl refl (λ t. unwanted t)),
                          ((λ line h. back-fine line 38 name es refl refl refl (λ t. unwanted t)), tt),
                        ),
                      ),
                    ),
                  ),
                ),
              ),
            ),
          ),
        )
        is
