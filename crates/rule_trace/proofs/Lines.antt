-- The lines that a program chooses are the lines that its tables choose.
use Rattle.std.proofs.Common.{◌≡◌, ℕ, zero, suc, ◌+◌, Bool, true, false, List, [], ◌∷◌, ◌++◌, length, map, Option, Some, None, refl, sym, ap, ◌∙◌, if◌then◌else◌}
use Rattle.std.specs.Prelude.{filter, find, flat_map, nat_eq, nat_le, option_map}
use Rattle.std.specs.List.{list_all}
use Rattle.std.proofs.lemmas.Bool.{and_parts, false≢true}
use Rattle.std.proofs.lemmas.List.{map-append}
use Rattle.kmn_base.specs.declared.limits.TheConstants.{EVENT_ENTRIES}
use Rattle.kmn_base.specs.declared.items.Element.{Element}
use Rattle.kmn_base.specs.declared.items.Element.TheVariants as element
use Rattle.kmn_base.specs.declared.keys.KeyPress.{KeyPress}
use Rattle.kmn_base.specs.declared.events.Event.TheVariants as event
use Rattle.kmn_base.specs.Lists.{without_last}
use Rattle.rule_model.specs.declared.event_state.Caught.{Caught}
use Rattle.rule_model.specs.declared.event_state.EventState.{EventState}
use Rattle.rule_model.specs.declared.program.Program.{Program}
use Rattle.rule_model.specs.declared.program.SrcItem.{SrcItem}
use Rattle.rule_model.specs.declared.program.SrcItem.TheVariants as source
use Rattle.rule_model.specs.declared.program.GroupDef.{GroupDef}
use Rattle.rule_model.specs.declared.program.RuleDef.{RuleDef}
use Rattle.rule_model.specs.declared.program.BeginDef.{BeginDef}
use Rattle.rule_model.specs.declared.tables.Out.{Out}
use Rattle.rule_model.specs.declared.tables.Out.TheVariants as output
use Rattle.rule_model.specs.declared.tables.Rule.{Rule}
use Rattle.rule_model.specs.declared.tables.Group.{Group}
use Rattle.rule_model.specs.declared.tables.Store.{Store}
use Rattle.rule_model.specs.declared.tables.Tables.{Tables}
use Rattle.rule_model.specs.Keyboard.{Ref, Named, Numbered, Keyboard, Output}
use Rattle.rule_model.specs.Match.{element_at}
use Rattle.rule_model.specs.Act.{act, act_one, items_caught}
use Rattle.rule_model.specs.Enter.{nothing, chosen_in, enter_group}
use Rattle.rule_model.specs.KeyEvent.{begin_event}
use Rattle.rule_model.specs.Naming.{names_of, stores_of, elements_named}
use Rattle.rule_model.specs.Tab.{tab, tab_group, tab_output, output_if_any}
use Rattle.rule_model.specs.Src.{src, src_group, src_output, src_outputs, is_plain, is_on_match, is_on_nomatch, is_unicode, start_named}
use Rattle.compile_laws.specs.Numbers.{numbers_of, item_values, number_of_store, number_of_group, number_of_start}
use Rattle.compile_laws.specs.Compiles.{Compiles, IsOrderedGroup, file_group, file_output, file_outputs, statement_outputs, or_nul, element_outs, element_outs_if_any}
use Rattle.compile_laws.specs.WellNamed.{IsWellNamed, is_group, is_known_start, is_known_output}
use Rattle.compile_laws.proofs.Keyboards.{src_start, tab_start}
use Rattle.compile_laws.proofs.Linked.{Linked, is_value}
use Rattle.compile_laws.proofs.Known.{KnownGroup, KnownStatement}
use Rattle.compile_laws.proofs.Outputs.{SameEntry, lost, one-same, outputs-same}
use Rattle.compile_laws.proofs.Choices.{ChosenRule, best_now, best_known, BestKnown, src_chosen, tab_chosen}
use Rattle.compile_laws.proofs.Groups.{some_output, with_table, ordered_group, chosen_src, chosen_tab, group_place, level-same}
use Rattle.compile_laws.proofs.Stores.{linked}
use Rattle.compile_laws.proofs.Dictionary.{dictionary-same}
use Rattle.rule_model.specs.ChosenLines.{Adding, lines_of_one, lines_of, lines_if_any, lines_of_group, lines_in_group, add_lines, lines_of_press}
use Rattle.rule_trace.specs.Laws.{ChoiceIsKept}

-- entering a group adds the same lines by its name and by its number
abbrev SameLines : Program → Adding → Adding → Type 0
SameLines p adding_named adding_numbered =
    (g : List ℕ) → is_group p g ≡ true → (s : EventState) (lines : List ℕ) → adding_numbered (Numbered (number_of_group (numbers_of p) g)) s lines ≡ adding_named (Named g) s lines

module _ (kb : Keyboard) (enter : Ref → EventState → EventState) (adding : Adding) (c : Caught) where
  lines-append : (xs ys : List Output) (s : EventState) (lines : List ℕ) →
      lines_of kb enter adding c (xs ++ ys) s lines ≡ lines_of kb enter adding c ys (act kb enter c xs s) (lines_of kb enter adding c xs s lines)
  lines-append [] ys s lines = refl
  lines-append (x ∷ xs) ys s lines =
      lines-append xs ys (if s.stopped then s else act_one kb enter c x s) (if s.stopped then lines else lines_of_one adding x s lines)

nothing_added : (b : Bool) (lines : List ℕ) → (if b then lines else lines) ≡ lines
nothing_added true lines = refl
nothing_added false lines = refl

module _ (stores : List Store) (kb : Keyboard) (enter : Ref → EventState → EventState) (adding : Adding) (c : Caught) where
  -- elements as outputs add no lines
  elements-lines : (es : List Element) (s : EventState) (lines : List ℕ) → lines_of kb enter adding c (map (tab_output stores) (flat_map element_outs es)) s lines ≡ lines
  elements-lines [] s lines = refl
  elements-lines (element.Char x ∷ es) s lines = elements-lines es _ _ ∙ nothing_added s.stopped lines
  elements-lines (element.Mark m ∷ es) s lines = elements-lines es _ _ ∙ nothing_added s.stopped lines
  elements-lines (element.Key flags code ∷ es) s lines = elements-lines es s lines

  element-lines : (e : Option Element) (s : EventState) (lines : List ℕ) → lines_of kb enter adding c (map (tab_output stores) (element_outs_if_any e)) s lines ≡ lines
  element-lines None s lines = refl
  element-lines (Some (element.Char x)) s lines = nothing_added s.stopped lines
  element-lines (Some (element.Mark m)) s lines = nothing_added s.stopped lines
  element-lines (Some (element.Key flags code)) s lines = refl

  -- the `nul` that stands for an empty output adds no lines
  nul-lines : (outs : List Out) (s : EventState) (lines : List ℕ) →
      lines_of kb enter adding c (map (tab_output stores) (or_nul outs)) s lines ≡ lines_of kb enter adding c (map (tab_output stores) outs) s lines
  nul-lines [] s lines = nothing_added s.stopped lines
  nul-lines (out ∷ outs) s lines = refl

module _ (p : Program) (t : Tables) (l : Linked p t) (e f : Ref → EventState → EventState) (same : SameEntry p e f)
    (d h : Adding) (same_lines : SameLines p d h) (c : Caught) (n : ℕ) (count : length c.catches ≡ n) where
  index-lines : (store : List ℕ) (offset : ℕ) (b : Bool) (s : EventState) (lines : List ℕ) →
      lines_of (tab t) f h (lost c) (map (tab_output t.stores) (if b then element_outs_if_any (element_at (elements_named (stores_of p) store) c.key_place) else output.Index (number_of_store (numbers_of p) store) offset ∷ [])) s lines
      ≡ (if s.stopped then lines else lines)
  index-lines store offset true s lines = element-lines t.stores (tab t) f h (lost c) (element_at (elements_named (stores_of p) store) c.key_place) s lines ∙ sym (nothing_added s.stopped lines)
  index-lines store offset false s lines = refl

  -- an item adds the same lines as the outputs to which it compiles
  one-lines : (x : SrcItem) → is_known_output p n x ≡ true → (s : EventState) (lines : List ℕ) →
      lines_of (tab t) f h (lost c) (map (tab_output t.stores) (file_output (numbers_of p) n c.key_place x)) s lines
      ≡ (if s.stopped then lines else lines_of_one d (src_output (names_of p) x) s lines)
  one-lines (source.Index store offset) known s lines = index-lines store offset (nat_eq offset (n + 1)) s lines
  one-lines (source.Outs store) known s lines = elements-lines t.stores (tab t) f h (lost c) (elements_named (stores_of p) store) s lines ∙ sym (nothing_added s.stopped lines)
  one-lines (source.Enter group) known s lines = λ i. if s.stopped then lines else (if nat_le EVENT_ENTRIES s.entered then lines else same_lines group known s lines i)
  one-lines x known s lines = refl

  outputs-lines : (xs : List SrcItem) → list_all (is_known_output p n) xs ≡ true → list_all (λ x. list_all (is_value p) (item_values x)) xs ≡ true → (s : EventState) (lines : List ℕ) →
      lines_of (tab t) f h (lost c) (map (tab_output t.stores) (flat_map (file_output (numbers_of p) n c.key_place) xs)) s lines
      ≡ lines_of (src p) e d c (map (src_output (names_of p)) xs) s lines
  outputs-lines [] known valued s lines = refl
  outputs-lines (x ∷ xs) known valued s lines =
      let k = and_parts (is_known_output p n x) (list_all (is_known_output p n) xs) known in
      let v = and_parts (list_all (is_value p) (item_values x)) (list_all (λ x. list_all (is_value p) (item_values x)) xs) valued in
      let head = map (tab_output t.stores) (file_output (numbers_of p) n c.key_place x) in
      let tail = map (tab_output t.stores) (flat_map (file_output (numbers_of p) n c.key_place) xs) in
      ap (λ os. lines_of (tab t) f h (lost c) os s lines) (map-append (tab_output t.stores) (file_output (numbers_of p) n c.key_place x) (flat_map (file_output (numbers_of p) n c.key_place) xs))
      ∙ (lines-append (tab t) f h (lost c) head tail s lines
      ∙ ((λ i. lines_of (tab t) f h (lost c) tail (one-same p t l e f same c n count x k.0 v.0 s i) (one-lines x k.0 s lines i))
      ∙ outputs-lines xs k.1 v.1 (if s.stopped then s else act_one (src p) e c (src_output (names_of p) x) s) (if s.stopped then lines else lines_of_one d (src_output (names_of p) x) s lines)))

  file-lines : (xs : List SrcItem) → list_all (is_known_output p n) xs ≡ true → list_all (λ x. list_all (is_value p) (item_values x)) xs ≡ true → (s : EventState) (lines : List ℕ) →
      lines_of (tab t) f h (lost c) (map (tab_output t.stores) (file_outputs (numbers_of p) n c.key_place xs)) s lines
      ≡ lines_of (src p) e d c (map (src_output (names_of p)) xs) s lines
  file-lines xs known valued s lines = nul-lines t.stores (tab t) f h (lost c) (flat_map (file_output (numbers_of p) n c.key_place) xs) s lines ∙ outputs-lines xs known valued s lines

module _ (p : Program) (t : Tables) (l : Linked p t) (named : (tab t).dictionary ≡ (src p).dictionary) (press : KeyPress) (e f : Ref → EventState → EventState) (same : SameEntry p e f) (d h : Adding) (same_lines : SameLines p d h) where
  statement-lines : (o : Option RuleDef) → KnownStatement p o → (s : EventState) (lines : List ℕ) →
      lines_if_any (tab t) f h (output_if_any (map (tab_output t.stores) (statement_outputs (numbers_of p) o))) s lines
      ≡ lines_if_any (src p) e d (option_map (src_outputs (names_of p)) o) s lines
  statement-lines None known s lines = refl
  statement-lines (Some r) known s lines =
      ap (λ o. lines_if_any (tab t) f h o s lines) (some_output (tab_output t.stores) (flat_map (file_output (numbers_of p) 0 None) r.output))
      ∙ file-lines p t l e f same d h same_lines nothing 0 refl r.output known.0 known.1 s lines

  module _ (g : GroupDef) (known : KnownGroup p g) (table : List Rule) where
    do_lines : (s : EventState) (o : Option ChosenRule) → ((x : ChosenRule) → o ≡ Some x → BestKnown p t l s.current s.left press g.using_keys x) → (lines : List ℕ) →
        lines_of_group (tab t) f h (tab_group t.stores (with_table p g table)) (option_map (tab_chosen p t l s.current s.left press g.using_keys) o) s lines
        ≡ lines_of_group (src p) e d (src_group (names_of p) g) (option_map (src_chosen (names_of p)) o) s lines
    do_lines s None b lines = statement-lines (find is_on_nomatch g.rules) known.on_nomatch s lines
    do_lines s (Some x) b lines =
        let k = b x refl in
        let taken : EventState = record s { left = without_last (length (items_caught x.1)) s.left } in
        (λ i. lines_if_any (tab t) f h (output_if_any (map (tab_output t.stores) (statement_outputs (numbers_of p) (find is_on_match g.rules))))
        (outputs-same p t l e f same x.1 (length x.0.context) k.count x.0.output k.known.output k.known.output_values taken i)
        (file-lines p t l e f same d h same_lines x.1 (length x.0.context) k.count x.0.output k.known.output k.known.output_values taken (lines ++ x.0.line ∷ []) i))
        ∙ statement-lines (find is_on_match g.rules) known.on_match _ _

  group-lines : (g : GroupDef) → KnownGroup p g → (k : Group) → IsOrderedGroup (file_group (numbers_of p) g) k → (s : EventState) (lines : List ℕ) →
      lines_in_group (tab t) f h press (Some (tab_group t.stores k)) s lines ≡ lines_in_group (src p) e d press (Some (src_group (names_of p) g)) s lines
  group-lines g known k o s lines =
      let best = best_now p t l s.current s.left press g.using_keys (filter is_plain g.rules) in
      let is = ordered_group p g k o in
      (λ i. lines_of_group (tab t) f h (tab_group t.stores (is i)) (chosen_in (tab t) press (tab_group t.stores (is i)) s) s lines)
      ∙ (ap (λ c. lines_of_group (tab t) f h (tab_group t.stores (with_table p g k.rules)) c s lines) (chosen_tab p t l named press e f same g known k o s)
      ∙ (do_lines g known k.rules s best (best_known p t l s.current s.left press g.using_keys (filter is_plain g.rules) known.rules) lines
      ∙ sym (ap (λ c. lines_of_group (src p) e d (src_group (names_of p) g) c s lines) (chosen_src p t l named press e f same g s))))

-- on each level of nested entries, a group adds the same lines by its name and by its number
level-lines : (p : Program) (t : Tables) → IsWellNamed p → Compiles p t → (press : KeyPress) (n : ℕ) → SameLines p (add_lines n (src p) press) (add_lines n (tab t) press)
level-lines p t ok c press zero name h s lines = refl
level-lines p t ok c press (suc n) name h s lines =
    let place = group_place p t ok c name h in
    let l = linked p t ok c in
    let entered : EventState = record s { entered = s.entered + 1 } in
    ap (λ o. lines_in_group (tab t) (enter_group n (tab t) press) (add_lines n (tab t) press) press o entered lines) place.numbered
    ∙ (group-lines p t l (dictionary-same p t ok c) press (enter_group n (src p) press) (enter_group n (tab t) press) (level-same p t ok c l (dictionary-same p t ok c) press n)
    (add_lines n (src p) press) (add_lines n (tab t) press) (level-lines p t ok c press n) place.stated place.known place.compiled place.ordered entered lines
    ∙ sym (ap (λ o. lines_in_group (src p) (enter_group n (src p) press) (add_lines n (src p) press) press o entered lines) place.named))

start-lines : (p : Program) (t : Tables) → IsWellNamed p → Compiles p t → (n : ℕ) (press : KeyPress) (s : EventState) (o : Option BeginDef) → is_known_start p o ≡ true →
    add_lines n (src p) press (start_named o) s [] ≡ add_lines n (tab t) press (Numbered (number_of_start (numbers_of p) o)) s []
start-lines p t ok c n press s None h = absurd (false≢true h)
start-lines p t ok c n press s (Some start) h = sym (level-lines p t ok c press n start.group h s [])

pub press-adds : (kb : Keyboard) (press : KeyPress) (s : EventState) → lines_of_press kb press s ≡ add_lines EVENT_ENTRIES kb press kb.start s []
unfolding lines_of_press
press-adds kb press s = refl

press-lines : (p : Program) (t : Tables) → IsWellNamed p → Compiles p t → (press : KeyPress) (s : EventState) → lines_of_press (src p) press s ≡ lines_of_press (tab t) press s
press-lines p t ok c press s =
    press-adds (src p) press s
    ∙ (ap (λ r. add_lines EVENT_ENTRIES (src p) press r s []) (src_start p)
    ∙ (start-lines p t ok c EVENT_ENTRIES press s (find is_unicode p.begins) ok.start
    ∙ (ap (λ r. add_lines EVENT_ENTRIES (tab t) press r s []) (ap Numbered (sym c.start_unicode) ∙ sym (tab_start t))
    ∙ sym (press-adds (tab t) press s))))

pub choice_kept : ChoiceIsKept
choice_kept p t ok c state (event.Key press) = press-lines p t ok c press (begin_event state.left state.current state.saved)
choice_kept p t ok c state event = refl
