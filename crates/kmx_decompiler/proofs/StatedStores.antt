-- Each store of an accepted program is built from a statement: it has the elements of the statement's items, and no part of the
-- statement is refused.
use Rattle.std.proofs.Common.{◌≡◌, ℕ, Bool, true, false, not, ◌&&◌, ◌||◌, List, [], ◌∷◌, ◌++◌, map, None, refl, sym, ◌∙◌, ap, subst, if◌then◌else◌, append-nil, append_assoc}
use Rattle.std.specs.Prelude.{All, flat_map, nat_eq}
use Rattle.std.specs.List.{list_any, AllByRecursion}
use Rattle.std.proofs.lemmas.Bool.{eqb-true}
use Rattle.std.proofs.lemmas.List.{map-append}
use Rattle.std.proofs.lemmas.List.Elements.{All-nil, All-cons, All-head, All-tail, All-append}
use Rattle.std.proofs.lemmas.List.Folds.{list_any-append}
use Rattle.kmn_base.specs.declared.codes.Code.TheVariants.{C03, C12, C13, C14, C25}
use Rattle.kmn_base.specs.declared.items.Element.{Element}
use Rattle.kmn_base.proofs.Options.{option_or-none}
use Rattle.rule_model.specs.declared.program.SrcItem.{SrcItem}
use Rattle.rule_model.specs.declared.program.StoreDef.{StoreDef}
use Rattle.rule_model.specs.declared.program.Program.{Program}
use Rattle.rule_model.specs.declared.tables.Store.{Store}
use Rattle.rule_model.specs.Naming.{stores_of, stores_onto, store_of, is_dropped}
use Rattle.kmn_parser.specs.ProgramLaws.{IsReadStore}
use Rattle.store_table.specs.First.{broken, first_code, first_of}
use Rattle.store_table.specs.declared.stating.Stated.{Stated}
use Rattle.store_table.specs.Names.{stated, is_named, kept_name, store_names, is_store_again}
use Rattle.store_table.specs.Names.{store_refusal as name_refusal, store_item_code as name_item_code, store_code as name_code}
use Rattle.store_table.specs.Known.{Known, known, brought, statement_elements}
use Rattle.item_checker.specs.Items.{is_no_character, is_left_out, is_layout_text, is_system_text, is_other_text, uses_option, needs_characters, needs_plain_keys, brings_no_character, brings_no_plain_key, store_item_code, store_head_code, store_code, store_refusal}
use Rattle.rule_checker.specs.Refused.{IsRead}
use Rattle.rule_checker.proofs.Unrefused.{none_earlier, none_at_line, none_broken, Stands, none_first}
use Rattle.rule_checker.proofs.Accepted.{IsUnrefused}
use Rattle.rule_checker.proofs.Sizes.{items_before, onto, names_next}
use Rattle.kmx_decompiler.specs.Causes.{is_unspelled_system}
use Rattle.kmx_decompiler.specs.Written.{IsWrittenStore, WasWritten}
use Rattle.kmx_decompiler.proofs.Conjunctions.{fails-when, second-fails}

-- a store of the file and the statement from which it is built
pub record IsStatedStore (facts : Known) (s : Store) : Type 0 where
  pub statement : StoreDef
  pub system : s.system ≡ statement.system
  pub name : s.name ≡ statement.name
  pub elements : s.elements ≡ statement_elements facts statement
  pub read : IsReadStore statement
  pub written : IsWrittenStore statement
  pub code : store_code facts statement ≡ None

module _ (facts : Known) (names_stated : Stated) where
  abbrev IsUnrefusedStore : StoreDef → Type 0
  IsUnrefusedStore store = store_code facts store ≡ None

  stores-stated : (before : List Store) (defined stores : List StoreDef) → map (λ (s : Store). s.name) before ≡ store_names defined
      → first_of (name_refusal names_stated) defined stores ≡ None → facts.stores ≡ stores_onto facts.names before stores
      → All IsReadStore stores → All IsWrittenStore stores → AllByRecursion IsUnrefusedStore stores → All (IsStatedStore facts) before
      → All (IsStatedStore facts) (stores_onto facts.names before stores)
  stores-stated before defined [] names h all is ok codes done = done
  stores-stated before defined (store ∷ stores) names h all is ok codes done =
      let both = none_earlier (name_refusal names_stated defined store) (first_of (name_refusal names_stated) (defined ++ store ∷ []) stores) h in
      let parts = option_or-none (broken ((C03, is_store_again (store_names defined) store) ∷ [])) (first_code (name_item_code names_stated (store_names defined)) store.items)
      (none_at_line store.line (name_code names_stated (store_names defined) store) both.0) in
      let items = subst (λ (ns : List (List ℕ)). first_code (name_item_code names_stated ns) store.items ≡ None) (sym names) parts.1 in
      by (is_dropped store) refl items all
      (λ next same at more. stores-stated next (defined ++ store ∷ []) stores same both.1 at (All-tail IsReadStore store stores is) (All-tail IsWrittenStore store stores ok) codes.1 more)
    where
      kept : (b : Bool) → is_dropped store ≡ b → map (λ (s : Store). s.name) before ++ kept_name store ≡ map (λ (s : Store). s.name) before ++ (if b then [] else store.name ∷ [])
      kept b drop = ap (λ (c : Bool). map (λ (s : Store). s.name) before ++ (if c then [] else store.name ∷ [])) drop

      by : (b : Bool) → is_dropped store ≡ b → first_code (name_item_code names_stated (map (λ (s : Store). s.name) before)) store.items ≡ None
          → facts.stores ≡ stores_onto facts.names (if b then before else before ++ store_of facts.names before store ∷ []) stores
          → ((next : List Store) → map (λ (s : Store). s.name) next ≡ store_names (defined ++ store ∷ []) → facts.stores ≡ stores_onto facts.names next stores
          → All (IsStatedStore facts) next → All (IsStatedStore facts) (stores_onto facts.names next stores))
          → All (IsStatedStore facts) (stores_onto facts.names (if b then before else before ++ store_of facts.names before store ∷ []) stores)
      by true drop items at rest =
          rest before
          (sym (append-nil (map (λ (s : Store). s.name) before)) ∙ sym (kept true drop) ∙ names_next facts names_stated defined store (map (λ (s : Store). s.name) before) names) at done
      by false drop items at rest =
          let next = before ++ store_of facts.names before store ∷ [] in
          let behind = onto facts names_stated next stores in
          let all_before : facts.stores ≡ before ++ (store_of facts.names before store ∷ behind.more) = at ∙ behind.is ∙ append_assoc before (store_of facts.names before store ∷ []) behind.more in
          rest next
          (map-append (λ (s : Store). s.name) before (store_of facts.names before store ∷ [])
          ∙ sym (kept false drop) ∙ names_next facts names_stated defined store (map (λ (s : Store). s.name) before) names) at
          (All-append (IsStatedStore facts) before (store_of facts.names before store ∷ []) done
          (All-cons (IsStatedStore facts) (store_of facts.names before store) []
          (record {
            statement = store;
            system = refl;
            name = refl;
            elements = sym (items_before facts names_stated before (store_of facts.names before store ∷ behind.more) store.items all_before items);
            read = All-head IsReadStore store stores is;
            written = All-head IsWrittenStore store stores ok;
            code = codes.0;
          }) (All-nil (IsStatedStore facts))))

codes-none : (facts : Known) (stores : List StoreDef) → AllByRecursion (Stands (store_refusal facts)) stores → AllByRecursion (λ (store : StoreDef). store_code facts store ≡ None) stores
codes-none facts [] h = tt
codes-none facts (store ∷ stores) h = (none_at_line store.line (store_code facts store) h.0.1, codes-none facts stores h.1)

-- if a program is accepted and was written as a source writes it, each of its stores is built from a statement
pub all_stated : (program : Program) → IsRead program → IsUnrefused program → WasWritten program → All (IsStatedStore (known program)) (stores_of program)
unfolding known stores_of
all_stated program read whole written =
    stores-stated (known program) (stated program) [] [] program.stores refl whole.stores refl read.statements.stores written.stores
    (codes-none (known program) program.stores (none_first (store_refusal (known program)) [] program.stores whole.store_items)) (All-nil (IsStatedStore (known program)))

-- if a statement must have only characters, its store has only characters
module _ (facts : Known) (s : Store) (stated : IsStatedStore facts s) where
  abbrev def : StoreDef
  def = stated.statement

  abbrev wants : Bool
  wants = needs_characters facts def

  abbrev keys : Bool
  keys = needs_plain_keys def

  code_parts : (store_head_code facts def ≡ None) × (first_code (store_item_code facts wants keys) def.items ≡ None)
  code_parts = option_or-none (store_head_code facts def) (first_code (store_item_code facts wants keys) def.items) stated.code

  items-alone : (items : List SrcItem) → wants ≡ true → first_code (store_item_code facts wants keys) items ≡ None → list_any is_no_character (flat_map (brought facts) items) ≡ false
  items-alone [] want h = refl
  items-alone (item ∷ items) want h =
      let both = option_or-none (store_item_code facts wants keys item) (first_code (store_item_code facts wants keys) items) h in
      let one = none_broken C13 (uses_option facts item) ((C14, wants && brings_no_character facts item) ∷ (C25, keys && brings_no_plain_key facts item) ∷ []) both.0 in
      let two = none_broken C14 (wants && brings_no_character facts item) ((C25, keys && brings_no_plain_key facts item) ∷ []) one.1 in
      list_any-append is_no_character (brought facts item) (flat_map (brought facts) items)
      ∙ (λ i. second-fails wants (brings_no_character facts item) want two.0 i || items-alone items want both.1 i)

  pub characters_alone : wants ≡ true → list_any is_no_character s.elements ≡ false
  characters_alone want = ap (list_any is_no_character) stated.elements ∙ items-alone def.items want code_parts.1

  -- a system store has no cause
  layout : (system : ℕ) → system ≡ 17 → (not (list_any is_no_character s.elements) && not (is_system_text system s.elements)) ≡ false → list_any is_no_character s.elements ≡ false → not (is_layout_text s.elements) ≡ false
  layout system e other alone =
      second-fails (not (list_any is_no_character s.elements)) (not (is_layout_text s.elements)) (λ i. not (alone i))
      (subst (λ (n : ℕ). (not (list_any is_no_character s.elements) && not (is_system_text n s.elements)) ≡ false) e other)

  wants-system : (system : ℕ) → def.system ≡ system → (if nat_eq system 0 then is_named facts.options def.name else list_any (nat_eq system) (1 ∷ 8 ∷ 17 ∷ [])) ≡ true → wants ≡ true
  wants-system system e h = ap (λ (n : ℕ). if nat_eq n 0 then is_named facts.options def.name else list_any (nat_eq n) (1 ∷ 8 ∷ 17 ∷ [])) e ∙ h

  pub system_fine : is_unspelled_system s ≡ false
  system_fine =
      let head = none_broken C12 (is_left_out def) ((C12, is_other_text facts def) ∷ []) code_parts.0 in
      let text = none_broken C12 (is_other_text facts def) [] head.1 in
      let other : (not (list_any is_no_character s.elements) && not (is_system_text def.system s.elements)) ≡ false =
      ap (λ (es : List Element). not (list_any is_no_character es) && not (is_system_text def.system es)) stated.elements ∙ text.0 in
      λ i. fails-when (nat_eq s.system 1) (list_any is_no_character s.elements)
      (λ e. characters_alone (wants-system 1 (sym stated.system ∙ eqb-true s.system 1 e) refl)) i
      || fails-when (nat_eq s.system 17) (not (is_layout_text s.elements))
      (λ e.
      let is : def.system ≡ 17 = sym stated.system ∙ eqb-true s.system 17 e in
      layout def.system is other (characters_alone (wants-system 17 is refl))) i
