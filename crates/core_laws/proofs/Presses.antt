-- A keyboard of which nothing is reported types the same in both engines, press by press.
use Rattle.std.specs.Prelude.{◌≡◌, ℕ, zero, suc, ◌+◌, ◌-◌, ◌<◌, ◌≤◌, Bool, true, false, ◌&&◌, nat_lt, if◌then◌else◌, List, [], ◌∷◌, length, map, slice_get, option_map, Option, Some, None}
use Rattle.std.specs.List.{All}
use Rattle.std.proofs.Common.{refl, sym, ap, ◌∙◌, arith}
use Rattle.std.proofs.Math.Path.{subst}
use Rattle.std.proofs.lemmas.Bool.Decides.{nat_tests}
use Rattle.std.proofs.lemmas.List.Elements.{All-head, All-tail}
use Rattle.std.proofs.lemmas.Option.{none-some, same_Some, slice_get-map}
use Rattle.kmn_base.specs.declared.items.Item.{Item}
use Rattle.kmn_base.specs.declared.items.Item.TheVariants as item
use Rattle.kmn_base.specs.declared.items.Element.{Element}
use Rattle.kmn_base.specs.declared.keys.KeyPress.{KeyPress}
use Rattle.kmn_base.specs.Lists.{characters}
use Rattle.kmn_base.specs.Rising.{is_among}
use Rattle.kmn_base.proofs.Lists.{map-characters, unmarked}
use Rattle.rule_model.specs.declared.event_state.EventState.{EventState}
use Rattle.rule_model.specs.declared.tables.Tables.{Tables}
use Rattle.rule_model.specs.Keyboard.{Keyboard, StoreMeaning}
use Rattle.rule_model.specs.Content.{elements_of_store}
use Rattle.rule_model.specs.KeyEvent.{begin_event, after_key}
use Rattle.rule_model.specs.System.{system_options}
use Rattle.rule_model.specs.Tab.{tab, tab_options, with_options}
use Rattle.rule_model.specs.Trace.{none_saved, options_of}
use Rattle.rule_model.proofs.PlainOptions.{length-with_options}
use Rattle.rule_model.proofs.SystemOptions.{at_behind, own_elements}
use Rattle.kmx_format.specs.Playable.{IsPlayable}
use Rattle.core_meaning.specs.Events.{CoreVersion, is_18, CoreKeyboard, core_keyboard, CoreState, CoreEvent}
use Rattle.core_meaning.specs.Laws.{IsCommonPress}
use Rattle.core_meaning.specs.Options.{core_save_all}
use Rattle.core_meaning.specs.Steps.{core_begin, core_end, core_first, core_press, core_texts, core_texts_from, left_after, resets_context}
use Rattle.core_constructs.specs.Facts.{facts_of}
use Rattle.core_constructs.specs.Spent.{spent_within}
use Rattle.core_laws.specs.Laws.{own_first, own_texts, own_texts_from, TypesAlike}
use Rattle.core_laws.proofs.Alike.{stores_in, core_of, own_of, NoMarks, IsSound, IsAlike}
use Rattle.core_laws.proofs.Budget.{number_at}
use Rattle.core_laws.proofs.Depths.{reached_start}
use Rattle.core_laws.proofs.Groups.{enters_within}
use Rattle.core_laws.proofs.Marks.{Unmarked}
use Rattle.core_laws.proofs.Rising.{false_true}
use Rattle.core_laws.proofs.Saves.{saves_current, saves_left}
use Rattle.core_laws.proofs.Values.{first_content, first_platform}
use Rattle.core_laws.proofs.Whole.{IsWhole, puts_of}
use Rattle.core_laws.proofs.Windows.{seen_first, seen_more}

own_is : (tables : Tables) → tab tables ≡ own_of tables
unfolding tab
own_is tables = refl

core_is : (version : CoreVersion) (tables : Tables) → core_keyboard version tables ≡ core_of version tables
unfolding tab
core_is version tables = refl

module _ (version : CoreVersion) (tables : Tables) (playable : IsPlayable tables) (whole : IsWhole tables) where
  -- between two presses, both have the same text, values and saved values
  record IsBetween (state : CoreState) (s : EventState) : Type 0 where
    left : state.left ≡ s.left
    current : state.current ≡ s.current
    saved : state.saved ≡ s.saved
    plain : Unmarked s.left
    sound : IsSound tables (puts_of tables) s.current s.saved

  abbrev begun : EventState → EventState
  begun s = begin_event s.left s.current s.saved

  press_alike : (press : KeyPress) → IsCommonPress press → (state : CoreState) (s : EventState) → IsBetween state s → IsAlike tables (puts_of tables) (core_press (core_of version tables) press state) (after_key (own_of tables) press (begun s))
  unfolding after_key
  press_alike press common state s between =
      enters_within version tables playable whole press common 50 0 (omega arith) tables.start_unicode (reached_start tables.groups tables.start_unicode) playable.start_unicode 0 (omega (arith, whole.budget)) (core_begin state) (begun s) state.last
      (record {
        alike = record { left = between.left; current = between.current; saved = between.saved; pass = refl; plain = between.plain; sound = between.sound };
        going = refl;
        entered = refl;
        seen = seen_more 0 (number_at (spent_within 0 (facts_of tables) tables.groups) tables.start_unicode) state.left (core_begin state).window (omega arith) (seen_first state.left);
        queued = omega arith;
        put = omega arith;
        remembered = refl;
        noted = λ n among. absurd (false_true among);
        pending = λ n among. absurd (false_true among);
      })

  -- without marks, the text stays at the end of the event
  same_left : (press : KeyPress) (s : EventState) (left : List Item) → s.left ≡ left → Unmarked left → left_after version press s ≡ left
  same_left press s left is plain = by_test (is_18 version && s.pass && resets_context press)
    where
      by_test : (b : Bool) → (if b then map item.Char (characters s.left) else s.left) ≡ left
      by_test true = ap (λ (xs : List Item). map item.Char (characters xs)) is ∙ map-characters left plain
      by_test false = is

  end_alike : (press : KeyPress) (c : CoreEvent) (s : EventState) → IsAlike tables (puts_of tables) c s → IsBetween (core_end (core_of version tables) press c) s
  end_alike press c s alike =
      record {
        left = same_left press (core_save_all (stores_in tables) c.to_save c.event) s.left (saves_left (stores_in tables) c.to_save c.event ∙ alike.left) alike.plain;
        current = saves_current (stores_in tables) c.to_save c.event ∙ alike.current;
        saved = alike.saved;
        plain = alike.plain;
        sound = alike.sound;
      }

  presses_alike : (presses : List KeyPress) → All IsCommonPress presses → (state : CoreState) (s : EventState) → IsBetween state s → core_texts_from (core_of version tables) presses state ≡ own_texts_from (own_of tables) presses s
  presses_alike [] common state s between = refl
  presses_alike (press ∷ presses) common state s between =
      let alike = press_alike press (All-head IsCommonPress press presses common) state s between in
      let after = end_alike press (core_press (core_of version tables) press state) (after_key (own_of tables) press (begun s)) alike in
      let rest = presses_alike presses (All-tail IsCommonPress press presses common) (core_end (core_of version tables) press (core_press (core_of version tables) press state)) (after_key (own_of tables) press (begun s)) after in
      λ i. (characters (after.left i), alike.pass i) ∷ rest i

  -- ---- at first

  no_marks_at : (n : ℕ) → is_among n (puts_of tables) ≡ true → NoMarks (elements_of_store (slice_get (stores_in tables) n))
  no_marks_at n among = by_place (nat_lt n (length tables.stores)) refl
    where
      own : List StoreMeaning
      own = with_options (tab_options tables) 0 tables.stores

      system_clean : (k : ℕ) → NoMarks (elements_of_store (slice_get system_options k))
      system_clean zero = refl
      system_clean (suc zero) = refl
      system_clean (suc (suc k)) = refl

      by_place : (b : Bool) → nat_lt n (length tables.stores) ≡ b → NoMarks (elements_of_store (slice_get (stores_in tables) n))
      by_place true told = subst NoMarks (sym (own_elements (tab_options tables) 0 n tables.stores (less n (length tables.stores) told))) (whole.clean n among)
        where
          less : (a b : ℕ) → nat_lt a b ≡ true → a < b
          less a b e = grind (arith, nat_tests)
      by_place false told = subst (λ (m : ℕ). NoMarks (elements_of_store (slice_get (stores_in tables) m))) place (subst (λ (o : Option StoreMeaning). NoMarks (elements_of_store o)) (sym (at_behind own system_options (n - length own))) (system_clean (n - length own)))
        where
          more : (a b : ℕ) → nat_lt a b ≡ false → b ≤ a
          more a b e = grind (arith, nat_tests)

          place : length own + (n - length own) ≡ n
          place = omega (arith, more n (length tables.stores) told, length-with_options (tab_options tables) 0 tables.stores)

  first_between : (ended : Bool) (text : List ℕ) → IsBetween (core_first (stores_in tables) ended text) (own_first (own_of tables) text)
  first_between ended text =
      record {
        left = refl;
        current = refl;
        saved = refl;
        plain = unmarked text;
        sound = record {
          unset = first_platform (tab_options tables) tables.stores;
          values = λ n among. subst NoMarks (sym (first_content (stores_in tables) n)) (no_marks_at n among);
          kept = λ n option value among there found. not_saved option value found;
        };
      }
    where
      not_saved : (option : ℕ) (value : List Element) → slice_get (map none_saved (options_of (stores_in tables))) option ≡ Some (Some value) → NoMarks value
      not_saved option value found = by_store (slice_get (options_of (stores_in tables)) option) (sym (slice_get-map none_saved (options_of (stores_in tables)) option) ∙ found)
        where
          by_store : (o : Option StoreMeaning) → option_map none_saved o ≡ Some (Some value) → NoMarks value
          by_store None e = absurd (none-some (Some value) e)
          by_store (Some store) e = absurd (none-some value (same_Some None (Some value) e))

pub whole_types_alike : (tables : Tables) → IsPlayable tables → IsWhole tables → TypesAlike tables
unfolding core_texts own_texts
whole_types_alike tables playable whole version ended text presses common =
    ap (λ (kb : CoreKeyboard). core_texts_from kb presses (core_first kb.stores ended text)) (core_is version tables)
    ∙ presses_alike version tables playable whole presses common (core_first (stores_in tables) ended text) (own_first (own_of tables) text) (first_between version tables playable whole ended text)
    ∙ ap (λ (kb : Keyboard). own_texts_from kb presses (own_first kb text)) (sym (own_is tables))
