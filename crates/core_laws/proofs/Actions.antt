-- Each item of an output of which nothing is reported does the same in Keyman's own engine and in this product.
use Rattle.std.specs.Prelude.{◌≡◌, ℕ, suc, ◌+◌, ◌-◌, ◌<◌, ◌≤◌, Bool, true, false, ◌||◌, nat_eq, nat_le, if◌then◌else◌, List, [], ◌∷◌, ◌++◌, length, slice_get, slice_set, sum_by, unwrap_or, option_and_then, Option, Some, None}
use Rattle.std.specs.List.{list_any, cons_option}
use Rattle.std.proofs.Common.{refl, sym, ap, ◌∙◌, arith, inl, inr}
use Rattle.std.proofs.Math.Path.{subst}
use Rattle.std.proofs.lemmas.Bool.{or_parts}
use Rattle.std.proofs.lemmas.Bool.Decides.{leb_tells}
use Rattle.std.proofs.lemmas.List.Elements.{All-head, All-tail}
use Rattle.std.proofs.lemmas.Option.{none-some}
use Rattle.kmn_base.specs.declared.items.Item.{Item}
use Rattle.kmn_base.specs.declared.items.Item.TheVariants as item
use Rattle.kmn_base.specs.declared.items.Element.{Element}
use Rattle.kmn_base.specs.Lists.{is_mark}
use Rattle.kmn_base.specs.Rising.{is_among}
use Rattle.rule_model.specs.declared.event_state.Caught.{Caught}
use Rattle.rule_model.specs.declared.event_state.EventState.{EventState}
use Rattle.rule_model.specs.declared.tables.Pat.{Pat}
use Rattle.rule_model.specs.declared.tables.Out.{Out}
use Rattle.rule_model.specs.declared.tables.Out.TheVariants as output
use Rattle.rule_model.specs.declared.tables.Tables.{Tables}
use Rattle.rule_model.specs.Keyboard.{Ref, Numbered}
use Rattle.rule_model.specs.Content.{content, option_number, elements_at}
use Rattle.rule_model.specs.Match.{item_of, item_caught, element_at}
use Rattle.rule_model.specs.Act.{one_more, put_item, put_items, item_list, put_element, items_caught, place_for_index, set_current, save_current, value_to_reset, reset_current, act_one}
use Rattle.rule_model.specs.Tab.{elements_of, tab_options, tab_output}
use Rattle.core_meaning.specs.Events.{CoreVersion, LastMatch, CoreEvent, weight, units, core_queue, put_at_end, core_put, core_put_all}
use Rattle.core_meaning.specs.Contexts.{place_found}
use Rattle.core_meaning.specs.Options.{is_named, saved_under, saved_value, core_save_all, note_save, core_reset}
use Rattle.core_meaning.specs.Outputs.{with_event, put_elements, element_list, core_act_one}
use Rattle.core_constructs.specs.Outputs.{is_use, is_return}
use Rattle.core_constructs.specs.Changes.{changes_option, is_saved_early}
use Rattle.core_constructs.specs.Queued.{item_effects}
use Rattle.core_constructs.specs.Spent.{least_width, put_units}
use Rattle.core_laws.proofs.Marks.{IsUnmarked, Unmarked, put_unmarked, unmarked_push}
use Rattle.core_laws.proofs.Alike.{stores_in, core_of, own_of, NoMarks, plain_element, IsGoing, going_more, sound_set, sound_save}
use Rattle.core_laws.proofs.Rising.{among_both, equal_numbers, false_true, same_number}
use Rattle.core_laws.proofs.Saves.{IsNoted, save_behind, save_noted, saves_current, set_before_saves, not_saved, same_saves}
use Rattle.core_laws.proofs.Values.{content_of_plain, elements_of_own, same_option}
use Rattle.core_laws.proofs.Windows.{queued_effect, seen_more, seen_put}

true_false : true ≡ false → ⊥
true_false e = grind arith

module _ (version : CoreVersion) (tables : Tables) (puts : List ℕ) (changes : List (List ℕ)) (last : LastMatch) where
  abbrev Going : (spent used : ℕ) → List Out → CoreEvent → EventState → Type 0
  Going spent used rest c s = IsGoing tables puts changes spent used rest last c s

  abbrev number : ℕ → Option ℕ
  number n = option_number (stores_in tables) (Numbered n)

  -- ---- puts

  put_step : (spent used : ℕ) (rest : List Out) (x : Item) (c : CoreEvent) (s : EventState) → used < 1024 → IsUnmarked x → Going spent used rest c s
      → Going (spent - weight x) (used + 1) rest (core_put x c) (put_item x s)
  put_step spent used rest x c s room plain h =
      subst (λ (d : CoreEvent). Going (spent - weight x) (used + 1) rest d (put_item x s)) (sym core_is)
      (subst (λ (t : EventState). Going (spent - weight x) (used + 1) rest (put_at_end x (record c { queued = c.queued + 1 })) t) (sym own_is)
      (record {
        alike = record {
          left = ap (λ (xs : List Item). xs ++ x ∷ []) h.alike.left;
          current = h.alike.current;
          saved = same_saves (stores_in tables) c.to_save (record (c.event) { left = c.event.left ++ x ∷ [] }) c.event refl refl ∙ h.alike.saved;
          pass = h.alike.pass;
          plain = unmarked_push s.left x h.alike.plain plain;
          sound = h.alike.sound;
        };
        going = h.going;
        entered = h.entered;
        seen = seen_put spent c.event.left c.window x h.seen;
        queued = omega (arith, h.queued);
        put = omega (arith, h.put);
        remembered = h.remembered;
        noted = h.noted;
        pending = h.pending;
      }))
    where
      core_is : core_put x c ≡ put_at_end x (record c { queued = c.queued + 1 })
      core_is = queued_effect (put_at_end x) c (omega (arith, room, h.queued))

      few : nat_le 4096 s.put ≡ false
      few = under s.put (omega (arith, room, h.put))
        where
          under : (n : ℕ) → n < 4096 → nat_le 4096 n ≡ false
          under n less = grind (arith, leb_tells)

      own_is : put_item x s ≡ record s { left = s.left ++ x ∷ []; put = s.put + 1 }
      own_is = λ i. if h.going i then s else (if few i then record s { stopped = true } else record s { left = put_unmarked s.left x h.alike.plain plain i; put = s.put + 1 })

  pub put_all_step : (spent used : ℕ) (rest : List Out) (xs : List Item) (c : CoreEvent) (s : EventState) → used + length xs ≤ 1024 → Unmarked xs → Going spent used rest c s
      → Going (spent - units xs) (used + length xs) rest (core_put_all xs c) (put_items xs s)
  put_all_step spent used rest [] c s room plain h = going_more tables puts changes spent (spent - 0) used (used + 0) rest last c s (omega arith) (omega arith) h
  put_all_step spent used rest (x ∷ xs) c s room plain h =
      going_more tables puts changes (spent - weight x - units xs) (spent - (weight x + units xs)) (used + 1 + length xs) (used + suc (length xs)) rest last (core_put_all xs (core_put x c)) (put_items xs (put_item x s)) (omega arith) (omega arith)
      (put_all_step (spent - weight x) (used + 1) rest xs (core_put x c) (put_item x s) (omega (arith, room)) (All-tail (λ item. is_mark item ≡ false) x xs plain)
      (put_step spent used rest x c s (omega (arith, room)) (All-head (λ item. is_mark item ≡ false) x xs plain) h))

  pub one_put_step : (spent used : ℕ) (rest : List Out) (x : Item) (c : CoreEvent) (s : EventState) → used + 1 ≤ 1024 → IsUnmarked x → Going spent used rest c s
      → Going (spent - weight x) (used + 1) rest (core_put x c) (put_item x s)
  one_put_step spent used rest x c s room plain h = put_step spent used rest x c s (omega (arith, room)) plain h

  -- an element of a store without marks
  put_element_step : (spent used : ℕ) (rest : List Out) (value : List Element) (place : ℕ) (o : Option Element) (c : CoreEvent) (s : EventState) → slice_get value place ≡ o → NoMarks value → used + 1 ≤ 1024 → Going spent used rest c s
      → Going spent (used + 1) rest (put_elements (element_list o) c) (put_element o s)
  put_element_step spent used rest value place None c s listed none room h = going_more tables puts changes spent spent used (used + 1) rest last c s (omega arith) (omega arith) h
  put_element_step spent used rest value place (Some e) c s listed none room h = by_item (item_of e) refl
    where
      by_item : (o : Option Item) → item_of e ≡ o → Going spent (used + 1) rest (core_put_all (cons_option o []) c) (put_items (item_list o) s)
      by_item None is = going_more tables puts changes spent spent used (used + 1) rest last c s (omega arith) (omega arith) h
      by_item (Some x) is =
          going_more tables puts changes (spent - weight x) spent (used + 1) (used + 1) rest last (core_put x c) (put_item x s) (omega arith) (omega arith)
          (put_step spent used rest x c s (omega (arith, room)) (plain_element value place e x none listed is) h)

  -- ---- changes of options

  change_step : (spent used : ℕ) (rest : List Out) (store option : ℕ) (value : List Element) (c : CoreEvent) (s : EventState) → store < length tables.stores → number store ≡ Some option
      → ((n : ℕ) → is_among n c.to_save ≡ true → n ≡ store → ⊥) → (is_among store puts ≡ true → NoMarks value) → Going spent used rest c s
      → Going spent used rest (with_event (record (c.event) { current = slice_set c.event.current option value }) c) (record s { current = slice_set s.current option value })
  change_step spent used rest store option value c s below is apart clean h =
      record {
        alike = record {
          left = h.alike.left;
          current = ap (λ (values : List (List Element)). slice_set values option value) h.alike.current;
          saved = set_before_saves (stores_in tables) c.to_save option value c.event others ∙ h.alike.saved;
          pass = h.alike.pass;
          plain = h.alike.plain;
          sound = sound_set tables puts store option value s.current s.saved below is clean h.alike.sound;
        };
        going = h.going;
        entered = h.entered;
        seen = h.seen;
        queued = h.queued;
        put = h.put;
        remembered = h.remembered;
        noted = h.noted;
        pending = h.pending;
      }
    where
      others : (n : ℕ) → is_among n c.to_save ≡ true → (other : ℕ) → number n ≡ Some other → other ≡ option → ⊥
      others n among other there same = apart n among (same_option (stores_in tables) n store option (there ∙ ap Some same) is)

  set_step : (spent used : ℕ) (rest : List Out) (store value : ℕ) (c : CoreEvent) (s : EventState) → store < length tables.stores → value < length tables.stores → is_among value (tab_options tables) ≡ false
      → ((n : ℕ) → is_among n c.to_save ≡ true → n ≡ store → ⊥) → (is_among store puts ≡ true → NoMarks (elements_of tables.stores value)) → Going spent used rest c s
      → Going spent used rest (with_event (set_current (number store) (content (stores_in tables) c.event.current (Numbered value)) c.event) c) (set_current (number store) (elements_of tables.stores value) s)
  set_step spent used rest store value c s below value_below other apart clean h =
      subst (λ (v : List Element). Going spent used rest (with_event (set_current (number store) v c.event) c) (set_current (number store) (elements_of tables.stores value) s))
      (sym (content_of_plain (tab_options tables) tables.stores c.event.current value value_below other)) (by_number (number store) refl)
    where
      by_number : (o : Option ℕ) → number store ≡ o → Going spent used rest (with_event (set_current o (elements_of tables.stores value) c.event) c) (set_current o (elements_of tables.stores value) s)
      by_number None is = h
      by_number (Some option) is = change_step spent used rest store option (elements_of tables.stores value) c s below is apart clean h

  reset_step : (spent used : ℕ) (rest : List Out) (store : ℕ) (c : CoreEvent) (s : EventState) → store < length tables.stores → IsNoted (stores_in tables) store
      → ((n : ℕ) → is_among n c.to_save ≡ true → n ≡ store → ⊥) → (is_among store puts ≡ true → NoMarks (elements_of tables.stores store)) → Going spent used rest c s
      → Going spent used rest (with_event (core_reset (core_of version tables) store c.event) c) (reset_current (number store) (elements_at (stores_in tables) (Some store)) s)
  reset_step spent used rest store c s below noted apart clean h = by_number (number store) refl noted
    where
      by_number : (o : Option ℕ) → number store ≡ o → IsNoted (stores_in tables) store
          → Going spent used rest (with_event (set_current o (saved_value (core_of version tables) (saved_under (stores_in tables) store) c.event) c.event) c) (reset_current o (elements_at (stores_in tables) (Some store)) s)
      by_number None is noted = h
      by_number (Some option) is (inl none) = absurd (none-some option (sym none ∙ is))
      by_number (Some option) is (inr itself) =
          subst (λ (v : List Element). Going spent used rest (with_event (record (c.event) { current = slice_set c.event.current option v }) c) (record s { current = slice_set s.current option value })) (sym value_there)
          (change_step spent used rest store option value c s below is apart clean_value h)
        where
          value : List Element
          value = value_to_reset (slice_get s.saved option) (elements_at (stores_in tables) (Some store))

          others : (n : ℕ) → is_among n c.to_save ≡ true → (other : ℕ) → number n ≡ Some other → other ≡ option → ⊥
          others n among other there same = apart n among (same_option (stores_in tables) n store option (there ∙ ap Some same) is)

          saved_same : slice_get c.event.saved option ≡ slice_get s.saved option
          saved_same = sym (not_saved (stores_in tables) c.to_save option c.event h.noted others) ∙ ap (λ (values : List (Option (List Element))). slice_get values option) h.alike.saved

          value_there : saved_value (core_of version tables) (saved_under (stores_in tables) store) c.event ≡ value
          value_there =
              ap (λ (n : ℕ). saved_value (core_of version tables) n c.event) itself
              ∙ ap (λ (o : Option ℕ). value_to_reset (option_and_then (slice_get c.event.saved) o) (elements_of tables.stores store)) is
              ∙ (λ i. value_to_reset (saved_same i) (sym (elements_of_own (tab_options tables) tables.stores store below) i))

          clean_value : is_among store puts ≡ true → NoMarks value
          clean_value among = by_saved (slice_get s.saved option) refl
            where
              by_saved : (o : Option (Option (List Element))) → slice_get s.saved option ≡ o → NoMarks (value_to_reset o (elements_at (stores_in tables) (Some store)))
              by_saved None found = subst NoMarks (sym (elements_of_own (tab_options tables) tables.stores store below)) (clean among)
              by_saved (Some None) found = subst NoMarks (sym (elements_of_own (tab_options tables) tables.stores store below)) (clean among)
              by_saved (Some (Some v)) found = h.alike.sound.kept store option v among is found

  save_step : (spent used : ℕ) (rest : List Out) (store : ℕ) (c : CoreEvent) (s : EventState) → is_named (stores_in tables) store ≡ true → IsNoted (stores_in tables) store → used + 1 ≤ 1024
      → list_any (changes_option changes store) rest ≡ false → Going spent used rest c s → Going spent (used + 1) rest (note_save (stores_in tables) store c) (save_current (number store) s)
  save_step spent used rest store c s named noted room unchanged h =
      subst (λ (d : CoreEvent). Going spent (used + 1) rest d (save_current (number store) s)) (sym core_is) (by_number (number store) refl)
    where
      after : CoreEvent
      after = record c { queued = c.queued + 1; to_save = c.to_save ++ store ∷ [] }

      core_is : note_save (stores_in tables) store c ≡ after
      core_is =
          ap (λ (b : Bool). (if b then core_queue (λ (c : CoreEvent). record c { to_save = c.to_save ++ store ∷ [] }) else (λ (c : CoreEvent). c)) c) named
          ∙ queued_effect (λ (c : CoreEvent). record c { to_save = c.to_save ++ store ∷ [] }) c (omega (arith, room, h.queued))

      saved_there : (core_save_all (stores_in tables) (c.to_save ++ store ∷ []) c.event).saved ≡ (save_current (number store) (core_save_all (stores_in tables) c.to_save c.event)).saved
      saved_there =
          ap (λ (t : EventState). t.saved) (save_behind (stores_in tables) c.to_save store c.event ∙ save_noted (stores_in tables) store (core_save_all (stores_in tables) c.to_save c.event) noted)

      current_there : (core_save_all (stores_in tables) c.to_save c.event).current ≡ s.current
      current_there = saves_current (stores_in tables) c.to_save c.event ∙ h.alike.current

      known : (n : ℕ) (P : ℕ → Type 0) → ((m : ℕ) → is_among m c.to_save ≡ true → P m) → P store → is_among n (c.to_save ++ store ∷ []) ≡ true → P n
      known n P before here among = by_test (is_among n c.to_save) refl (sym (among_both n c.to_save (store ∷ [])) ∙ among)
        where
          by_number : (b : Bool) → nat_eq n store ≡ b → (b || false) ≡ true → P n
          by_number true is told = subst P (sym (equal_numbers n store is)) here
          by_number false is told = absurd (false_true told)

          by_test : (b : Bool) → is_among n c.to_save ≡ b → (b || is_among n (store ∷ [])) ≡ true → P n
          by_test true is told = before n is
          by_test false is told = by_number (nat_eq n store) refl told

      by_number : (o : Option ℕ) → number store ≡ o → Going spent (used + 1) rest after (save_current o s)
      by_number None is =
          record {
            alike = record {
              left = h.alike.left;
              current = h.alike.current;
              saved = saved_there ∙ ap (λ (o : Option ℕ). (save_current o (core_save_all (stores_in tables) c.to_save c.event)).saved) is ∙ h.alike.saved;
              pass = h.alike.pass;
              plain = h.alike.plain;
              sound = h.alike.sound;
            };
            going = h.going;
            entered = h.entered;
            seen = h.seen;
            queued = omega (arith, h.queued);
            put = omega (arith, h.put);
            remembered = h.remembered;
            noted = λ n. known n (IsNoted (stores_in tables)) h.noted noted;
            pending = λ n. known n (λ (m : ℕ). list_any (changes_option changes m) rest ≡ false) h.pending unchanged;
          }
      by_number (Some option) is =
          record {
            alike = record {
              left = h.alike.left;
              current = h.alike.current;
              saved =
                  saved_there ∙ ap (λ (o : Option ℕ). (save_current o (core_save_all (stores_in tables) c.to_save c.event)).saved) is
                  ∙ (λ i. slice_set (h.alike.saved i) option (Some (unwrap_or (slice_get (current_there i) option) [])));
              pass = h.alike.pass;
              plain = h.alike.plain;
              sound = sound_save tables puts store option s.current s.saved is h.alike.sound;
            };
            going = h.going;
            entered = h.entered;
            seen = h.seen;
            queued = omega (arith, h.queued);
            put = omega (arith, h.put);
            remembered = h.remembered;
            noted = λ n. known n (IsNoted (stores_in tables)) h.noted noted;
            pending = λ n. known n (λ (m : ℕ). list_any (changes_option changes m) rest ≡ false) h.pending unchanged;
          }

-- ---- items

-- an `index` puts an element of a store without marks, at a place that both found
pub record IsFairIndex (puts : List ℕ) (caught : Caught) (last : LastMatch) (store offset : ℕ) : Type 0 where
  pub among : is_among store puts ≡ true
  pub place : ℕ
  pub here : place_for_index caught offset ≡ Some place
  pub there : place_found last.places offset ≡ place

-- `context` puts what was matched, at least the given number of units, and not more items than the context has
pub record IsFairContext (context : List Pat) (caught : Caught) (last : LastMatch) : Type 0 where
  pub kept : last.kept ≡ items_caught caught
  pub plain : Unmarked last.kept
  pub count : length last.kept ≤ length context
  pub least : sum_by least_width context ≤ units last.kept

-- `context(k)` puts an item that was matched
pub record IsFairContextAt (context : List Pat) (caught : Caught) (last : LastMatch) (offset : ℕ) : Type 0 where
  pub item : Item
  pub here : item_caught caught.catches offset ≡ Some item
  pub there : slice_get last.kept (offset - 1 - last.skipped) ≡ Some item
  pub plain : IsUnmarked item
  pub least : put_units context (output.ContextAt offset) ≤ weight item

-- `set` sets a store of the tables to the elements of one that is not an option, without marks where elements of it are put
pub record IsFairSet (tables : Tables) (puts : List ℕ) (store value : ℕ) : Type 0 where
  pub below : store < length tables.stores
  pub value_below : value < length tables.stores
  pub other : is_among value (tab_options tables) ≡ false
  pub clean : is_among store puts ≡ true → NoMarks (elements_of tables.stores value)

pub record IsFairSave (tables : Tables) (store : ℕ) : Type 0 where
  pub named : is_named (stores_in tables) store ≡ true
  pub noted : IsNoted (stores_in tables) store

pub record IsFairReset (tables : Tables) (puts : List ℕ) (store : ℕ) : Type 0 where
  pub below : store < length tables.stores
  pub noted : IsNoted (stores_in tables) store
  pub clean : is_among store puts ≡ true → NoMarks (elements_of tables.stores store)

abbrev pub IsFairItem : Tables → (puts : List ℕ) → List Pat → Caught → LastMatch → Out → Type 0
IsFairItem tables puts context caught last (output.Mark m) = ⊥
IsFairItem tables puts context caught last (output.Index store offset) = IsFairIndex puts caught last store offset
IsFairItem tables puts context caught last output.Context = IsFairContext context caught last
IsFairItem tables puts context caught last (output.ContextAt offset) = IsFairContextAt context caught last offset
IsFairItem tables puts context caught last (output.Set store value) = IsFairSet tables puts store value
IsFairItem tables puts context caught last (output.SetSystem id value) = ⊥
IsFairItem tables puts context caught last (output.Save store) = IsFairSave tables store
IsFairItem tables puts context caught last (output.Reset store) = IsFairReset tables puts store
IsFairItem tables puts context caught last _ = Unit {0}

module _ (version : CoreVersion) (tables : Tables) (puts : List ℕ) (changes : List (List ℕ)) (context : List Pat) (caught : Caught) (last : LastMatch) (enter : Ref → EventState → EventState) where
  abbrev On : (spent used : ℕ) → List Out → CoreEvent → EventState → Type 0
  On spent used rest c s = IsGoing tables puts changes spent used rest last c s

  on_behind : (spent used : ℕ) (item : Out) (rest : List Out) (c : CoreEvent) (s : EventState) → On spent used (item ∷ rest) c s → On spent used rest c s
  on_behind spent used item rest c s h =
      record {
        alike = h.alike;
        going = h.going;
        entered = h.entered;
        seen = h.seen;
        queued = h.queued;
        put = h.put;
        remembered = h.remembered;
        noted = h.noted;
        pending = λ n among. (or_parts (changes_option changes n item) (list_any (changes_option changes n) rest) (h.pending n among)).1;
      }

  -- a store that an item changes is not noted to be saved
  not_noted : (spent used store : ℕ) (item : Out) (rest : List Out) (c : CoreEvent) (s : EventState) → ((n : ℕ) → changes_option changes n item ≡ is_among n (store ∷ [])) → On spent used (item ∷ rest) c s
      → (n : ℕ) → is_among n c.to_save ≡ true → n ≡ store → ⊥
  not_noted spent used store item rest c s changed h n among same =
      true_false (sym (ap (λ (m : ℕ). nat_eq n m || false) (sym same) ∙ (λ i. same_number n i || false)) ∙ sym (changed n) ∙ (or_parts (changes_option changes n item) (list_any (changes_option changes n) rest) (h.pending n among)).0)

  -- an item that neither enters a group nor ends the output
  pub act_step : (spent used : ℕ) (item : Out) (rest : List Out) (c : CoreEvent) (s : EventState) → is_use item ≡ false → is_return item ≡ false → IsFairItem tables puts context caught last item
      → used + item_effects (length context) item ≤ 1024 → is_saved_early changes item rest ≡ false → On spent used (item ∷ rest) c s
      → On (spent - put_units context item) (used + item_effects (length context) item) rest (core_act_one (core_of version tables) item c) (act_one (own_of tables) enter caught (tab_output tables.stores item) s)
  act_step spent used (output.Char x) rest c s no_use no_return fair room early h =
      one_put_step version tables puts changes last spent used rest (item.Char x) c s room refl (on_behind spent used (output.Char x) rest c s h)
  act_step spent used (output.Mark m) rest c s no_use no_return fair room early h = absurd fair
  act_step spent used (output.Index store offset) rest c s no_use no_return fair room early h =
      subst (λ (o : Option Element). On (spent - 0) (used + 1) rest (put_elements (element_list o) c) (put_element (element_at (content (stores_in tables) s.current (Numbered store)) (place_for_index caught offset)) s)) (sym there)
      (subst (λ (p : Option ℕ). On (spent - 0) (used + 1) rest (put_elements (element_list element) c) (put_element (element_at (content (stores_in tables) s.current (Numbered store)) p) s)) (sym fair.here)
      (going_more tables puts changes spent (spent - 0) (used + 1) (used + 1) rest last (put_elements (element_list element) c) (put_element element s) (omega arith) (omega arith)
      (put_element_step version tables puts changes last spent used rest (content (stores_in tables) s.current (Numbered store)) fair.place element c s refl (h.alike.sound.values store fair.among) room (on_behind spent used (output.Index store offset) rest c s h))))
    where
      element : Option Element
      element = slice_get (content (stores_in tables) s.current (Numbered store)) fair.place

      there : slice_get (content (stores_in tables) c.event.current (Numbered store)) (place_found c.last.places offset) ≡ element
      there = λ i. slice_get (content (stores_in tables) (h.alike.current i) (Numbered store)) ((ap (λ (l : LastMatch). place_found l.places offset) h.remembered ∙ fair.there) i)
  act_step spent used output.Context rest c s no_use no_return fair room early h =
      subst (λ (xs : List Item). On (spent - sum_by least_width context) (used + length context) rest (core_put_all xs c) (put_items (items_caught caught) s)) (sym (ap (λ (l : LastMatch). l.kept) h.remembered))
      (subst (λ (xs : List Item). On (spent - sum_by least_width context) (used + length context) rest (core_put_all last.kept c) (put_items xs s)) fair.kept
      (going_more tables puts changes (spent - units last.kept) (spent - sum_by least_width context) (used + length last.kept) (used + length context) rest last (core_put_all last.kept c) (put_items last.kept s) (omega (arith, fair.least)) (omega (arith, fair.count))
      (put_all_step version tables puts changes last spent used rest last.kept c s (omega (arith, room, fair.count)) fair.plain (on_behind spent used output.Context rest c s h))))
  act_step spent used (output.ContextAt offset) rest c s no_use no_return fair room early h =
      subst (λ (o : Option Item). On (spent - put_units context (output.ContextAt offset)) (used + 1) rest (core_put_all (item_list o) c) (put_items (item_list (item_caught caught.catches offset)) s)) (sym (ap (λ (l : LastMatch). slice_get l.kept (offset - 1 - l.skipped)) h.remembered ∙ fair.there))
      (subst (λ (o : Option Item). On (spent - put_units context (output.ContextAt offset)) (used + 1) rest (core_put fair.item c) (put_items (item_list o) s)) (sym fair.here)
      (going_more tables puts changes (spent - weight fair.item) (spent - put_units context (output.ContextAt offset)) (used + 1) (used + 1) rest last (core_put fair.item c) (put_item fair.item s) (omega (arith, fair.least)) (omega arith)
      (one_put_step version tables puts changes last spent used rest fair.item c s room fair.plain (on_behind spent used (output.ContextAt offset) rest c s h))))
  act_step spent used (output.Enter g) rest c s no_use no_return fair room early h = absurd (true_false no_use)
  act_step spent used (output.Set store value) rest c s no_use no_return fair room early h =
      going_more tables puts changes spent (spent - 0) used (used + 0) rest last _ _ (omega arith) (omega arith)
      (set_step version tables puts changes last spent used rest store value c s fair.below fair.value_below fair.other (not_noted spent used store (output.Set store value) rest c s (λ n. refl) h) fair.clean (on_behind spent used (output.Set store value) rest c s h))
  act_step spent used (output.SetSystem id value) rest c s no_use no_return fair room early h = absurd fair
  act_step spent used (output.Save store) rest c s no_use no_return fair room early h =
      going_more tables puts changes spent (spent - 0) (used + 1) (used + 1) rest last _ _ (omega arith) (omega arith)
      (save_step version tables puts changes last spent used rest store c s fair.named fair.noted room early (on_behind spent used (output.Save store) rest c s h))
  act_step spent used (output.Reset store) rest c s no_use no_return fair room early h =
      going_more tables puts changes spent (spent - 0) used (used + 0) rest last _ _ (omega arith) (omega arith)
      (reset_step version tables puts changes last spent used rest store c s fair.below fair.noted (not_noted spent used store (output.Reset store) rest c s (λ n. refl) h) fair.clean (on_behind spent used (output.Reset store) rest c s h))
  act_step spent used output.Nul rest c s no_use no_return fair room early h =
      going_more tables puts changes spent (spent - 0) used (used + 0) rest last c s (omega arith) (omega arith) (on_behind spent used output.Nul rest c s h)
  act_step spent used output.Beep rest c s no_use no_return fair room early h =
      subst (λ (d : CoreEvent). On (spent - 0) (used + 1) rest d (record s { beeps = one_more s.beeps })) (sym (queued_effect (λ (c : CoreEvent). record c { event = record (c.event) { beeps = one_more c.event.beeps } }) c (omega (arith, room, h.queued))))
      (record {
        alike = record {
          left = h.alike.left;
          current = h.alike.current;
          saved = same_saves (stores_in tables) c.to_save (record (c.event) { beeps = one_more c.event.beeps }) c.event refl refl ∙ h.alike.saved;
          pass = h.alike.pass;
          plain = h.alike.plain;
          sound = h.alike.sound;
        };
        going = h.going;
        entered = h.entered;
        seen = seen_more spent (spent - 0) c.event.left c.window (omega arith) h.seen;
        queued = omega (arith, h.queued);
        put = omega (arith, h.put);
        remembered = h.remembered;
        noted = h.noted;
        pending = (on_behind spent used output.Beep rest c s h).pending;
      })
  act_step spent used output.Stop rest c s no_use no_return fair room early h = absurd (true_false no_return)
