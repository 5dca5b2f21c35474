-- An output of a program has the same effect as the output that it compiles to.
use Rattle.std.proofs.Common.{◌≡◌, ℕ, ◌+◌, Bool, true, false, List, [], ◌∷◌, ◌++◌, length, map, Option, Some, None, refl, ap, sym, ◌∙◌, if◌then◌else◌}
use Rattle.std.specs.Prelude.{nat_eq, nat_le, filter_map, flat_map}
use Rattle.std.specs.List.{list_all}
use Rattle.std.proofs.lemmas.List.{map-append}
use Rattle.std.proofs.lemmas.Bool.{and_parts, cond-true}
use Rattle.kmn_base.specs.declared.items.Item.{Item}
use Rattle.kmn_base.specs.declared.items.Item.TheVariants as item
use Rattle.kmn_base.specs.declared.items.Element.{Element}
use Rattle.kmn_base.specs.declared.items.Element.TheVariants as element
use Rattle.rule_model.specs.declared.event_state.Caught.{Caught}
use Rattle.rule_model.specs.declared.event_state.EventState.{EventState}
use Rattle.rule_model.specs.declared.program.Program.{Program}
use Rattle.rule_model.specs.declared.program.SrcItem.{SrcItem}
use Rattle.rule_model.specs.declared.program.SrcItem.TheVariants as source
use Rattle.rule_model.specs.declared.tables.Out.{Out}
use Rattle.rule_model.specs.declared.tables.Out.TheVariants as output
use Rattle.rule_model.specs.declared.tables.Store.{Store}
use Rattle.rule_model.specs.declared.tables.Tables.{Tables}
use Rattle.rule_model.specs.Keyboard.{Ref, Named, Numbered, Keyboard, Output}
use Rattle.rule_model.specs.Content.{elements_at, store_number}
use Rattle.rule_model.specs.Match.{item_of, element_at, place_caught}
use Rattle.rule_model.specs.Act.{act, act_one, put_item, put_items, put_element, item_list, content_now, place_for_index, set_current, save_current, reset_current}
use Rattle.rule_model.specs.Naming.{names_of, stores_of, elements_named}
use Rattle.rule_model.specs.Tab.{tab, tab_output}
use Rattle.rule_model.specs.Src.{src, src_output}
use Rattle.compile_laws.specs.Numbers.{numbers_of, item_values, number_of_store, number_of_group}
use Rattle.compile_laws.specs.Compiles.{file_output, file_outputs, or_nul, element_outs, element_outs_if_any}
use Rattle.compile_laws.specs.WellNamed.{is_known_output, is_group, is_store, is_fixed}
use Rattle.compile_laws.proofs.Linked.{Linked, is_value}

-- a record of a key store catches what the rule catches, except the position in the key store
abbrev pub lost : Caught → Caught
lost c = record c { key_place = None }

-- entering a group by its name and by its number has the same effect
abbrev pub SameEntry : Program → (Ref → EventState → EventState) → (Ref → EventState → EventState) → Type 0
SameEntry p enter_named enter_numbered =
    (g : List ℕ) → is_group p g ≡ true → (s : EventState) → enter_numbered (Numbered (number_of_group (numbers_of p) g)) s ≡ enter_named (Named g) s

module _ (kb : Keyboard) (enter : Ref → EventState → EventState) (c : Caught) where
  pub act-append : (xs ys : List Output) (s : EventState) → act kb enter c (xs ++ ys) s ≡ act kb enter c ys (act kb enter c xs s)
  act-append [] ys s = refl
  act-append (x ∷ xs) ys s = act-append xs ys (if s.stopped then s else act_one kb enter c x s)

stopped-put : (x : Item) (s : EventState) → s.stopped ≡ true → put_item x s ≡ s
stopped-put x s h = cond-true s.stopped s _ h

stopped-puts : (xs : List Item) (s : EventState) → s.stopped ≡ true → put_items xs s ≡ s
stopped-puts [] s h = refl
stopped-puts (x ∷ xs) s h = ap (put_items xs) (stopped-put x s h) ∙ stopped-puts xs s h

-- a stopped event puts no items
unless_stopped : (b : Bool) (xs : List Item) (s : EventState) → s.stopped ≡ b → put_items xs s ≡ (if b then s else put_items xs s)
unless_stopped true xs s h = stopped-puts xs s h
unless_stopped false xs s h = refl

puts-unless : (xs : List Item) (s : EventState) → (if s.stopped then s else put_items xs s) ≡ put_items xs s
puts-unless xs s = sym (unless_stopped s.stopped xs s refl)

nothing_done : (b : Bool) (s : EventState) → (if b then s else s) ≡ s
nothing_done true s = refl
nothing_done false s = refl

put-unless : (e : Option Element) (s : EventState) → (if s.stopped then s else put_element e s) ≡ put_element e s
put-unless None s = nothing_done s.stopped s
put-unless (Some e) s = puts-unless (item_list (item_of e)) s

module _ (stores : List Store) (kb : Keyboard) (enter : Ref → EventState → EventState) (c : Caught) where
  -- elements as outputs put their items
  elements-act : (es : List Element) (s : EventState) → act kb enter c (map (tab_output stores) (flat_map element_outs es)) s ≡ put_items (filter_map item_of es) s
  elements-act [] s = refl
  elements-act (element.Char x ∷ es) s = ap (act kb enter c (map (tab_output stores) (flat_map element_outs es))) (puts-unless (item.Char x ∷ []) s) ∙ elements-act es (put_item (item.Char x) s)
  elements-act (element.Mark m ∷ es) s = ap (act kb enter c (map (tab_output stores) (flat_map element_outs es))) (puts-unless (item.Mark m ∷ []) s) ∙ elements-act es (put_item (item.Mark m) s)
  elements-act (element.Key flags code ∷ es) s = elements-act es s

  element-act : (e : Option Element) (s : EventState) → act kb enter c (map (tab_output stores) (element_outs_if_any e)) s ≡ put_element e s
  element-act None s = refl
  element-act (Some (element.Char x)) s = puts-unless (item.Char x ∷ []) s
  element-act (Some (element.Mark m)) s = puts-unless (item.Mark m ∷ []) s
  element-act (Some (element.Key flags code)) s = refl

nul-act : (stores : List Store) (kb : Keyboard) (enter : Ref → EventState → EventState) (c : Caught) (outs : List Out) (s : EventState) →
    act kb enter c (map (tab_output stores) (or_nul outs)) s ≡ act kb enter c (map (tab_output stores) outs) s
nul-act stores kb enter c [] s = nothing_done s.stopped s
nul-act stores kb enter c (out ∷ outs) s = refl

module _ (p : Program) (t : Tables) (l : Linked p t) (e f : Ref → EventState → EventState) (same : SameEntry p e f) (c : Caught) (n : ℕ) (count : length c.catches ≡ n) where
  -- `index` puts the element of the key's position, or acts as in the source
  index-act : (store : List ℕ) (offset : ℕ) (b : Bool) → nat_eq offset (n + 1) ≡ b → (if b then is_fixed p store else is_store p store) ≡ true → (s : EventState) →
      act (tab t) f (lost c) (map (tab_output t.stores) (if b then element_outs_if_any (element_at (elements_named (stores_of p) store) c.key_place) else output.Index (number_of_store (numbers_of p) store) offset ∷ [])) s
      ≡ (if s.stopped then s else put_element (element_at (content_now (src p) s (Named store)) (place_for_index c offset)) s)
  index-act store offset true at_key known s =
      let here : place_for_index c offset ≡ c.key_place = λ i. if (ap (λ m. nat_eq offset (m + 1)) count ∙ at_key) i then c.key_place else place_caught c.catches offset in
      element-act t.stores (tab t) f (lost c) (element_at (elements_named (stores_of p) store) c.key_place) s
      ∙ (sym (put-unless (element_at (elements_named (stores_of p) store) c.key_place) s)
      ∙ (λ i. if s.stopped then s else put_element (element_at (sym (l.fixed store s.current known) i) (sym here i)) s))
  index-act store offset false elsewhere known s =
      let there : nat_eq offset (length c.catches + 1) ≡ false = ap (λ m. nat_eq offset (m + 1)) count ∙ elsewhere in
      let places : place_for_index (lost c) offset ≡ place_for_index c offset =
      (λ i. if there i then None else place_caught c.catches offset) ∙ sym (λ i. if there i then c.key_place else place_caught c.catches offset) in
      λ i. if s.stopped then s else put_element (element_at (l.same_content store s.current known i) (places i)) s

  -- an item has the same effect as the items that it compiles to
  pub one-same : (x : SrcItem) → is_known_output p n x ≡ true → list_all (is_value p) (item_values x) ≡ true → (s : EventState) →
      act (tab t) f (lost c) (map (tab_output t.stores) (file_output (numbers_of p) n c.key_place x)) s
      ≡ (if s.stopped then s else act_one (src p) e c (src_output (names_of p) x) s)
  one-same (source.Index store offset) known valued s = index-act store offset (nat_eq offset (n + 1)) refl known s
  one-same (source.Outs store) known valued s =
      elements-act t.stores (tab t) f (lost c) (elements_named (stores_of p) store) s
      ∙ ((λ i. put_items (filter_map item_of (sym (l.named_elements store) i)) s)
      ∙ sym (puts-unless (filter_map item_of (elements_at (src p).stores (store_number (src p).stores (Named store)))) s))
  one-same (source.Enter group) known valued s = λ i. if s.stopped then s else (if nat_le 50 s.entered then record s { stopped = true } else same group known s i)
  one-same (source.Set store value) known valued s =
      λ i. if s.stopped then s else set_current (l.same_option store known i) (l.same_value value (and_parts (is_value p value) true valued).0 i) s
  one-same (source.SetSystem id value) known valued s =
      λ i. if s.stopped then s else set_current (l.same_system_option id i) (l.same_value value (and_parts (is_value p value) true valued).0 i) s
  one-same (source.Save store) known valued s = λ i. if s.stopped then s else save_current (l.same_option store known i) s
  one-same (source.Reset store) known valued s = λ i. if s.stopped then s else reset_current (l.same_option store known i) (l.same_elements store known i) s
  one-same x known valued s = refl

  outputs-act : (xs : List SrcItem) → list_all (is_known_output p n) xs ≡ true → list_all (λ x. list_all (is_value p) (item_values x)) xs ≡ true → (s : EventState) →
      act (tab t) f (lost c) (map (tab_output t.stores) (flat_map (file_output (numbers_of p) n c.key_place) xs)) s
      ≡ act (src p) e c (map (src_output (names_of p)) xs) s
  outputs-act [] known valued s = refl
  outputs-act (x ∷ xs) known valued s =
      let k = and_parts (is_known_output p n x) (list_all (is_known_output p n) xs) known in
      let v = and_parts (list_all (is_value p) (item_values x)) (list_all (λ x. list_all (is_value p) (item_values x)) xs) valued in
      ap (λ os. act (tab t) f (lost c) os s) (map-append (tab_output t.stores) (file_output (numbers_of p) n c.key_place x) (flat_map (file_output (numbers_of p) n c.key_place) xs))
      ∙ (act-append (tab t) f (lost c) (map (tab_output t.stores) (file_output (numbers_of p) n c.key_place x)) (map (tab_output t.stores) (flat_map (file_output (numbers_of p) n c.key_place) xs)) s
      ∙ (ap (act (tab t) f (lost c) (map (tab_output t.stores) (flat_map (file_output (numbers_of p) n c.key_place) xs))) (one-same x k.0 v.0 s)
      ∙ outputs-act xs k.1 v.1 (if s.stopped then s else act_one (src p) e c (src_output (names_of p) x) s)))

  pub outputs-same : (xs : List SrcItem) → list_all (is_known_output p n) xs ≡ true → list_all (λ x. list_all (is_value p) (item_values x)) xs ≡ true → (s : EventState) →
      act (tab t) f (lost c) (map (tab_output t.stores) (file_outputs (numbers_of p) n c.key_place xs)) s
      ≡ act (src p) e c (map (src_output (names_of p)) xs) s
  outputs-same xs known valued s = nul-act t.stores (tab t) f (lost c) (flat_map (file_output (numbers_of p) n c.key_place) xs) s ∙ outputs-act xs known valued s
