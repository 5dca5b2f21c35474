-- A press for which a group has no record does the same in both engines, if the window has the character before the caret.
use Rattle.std.specs.Prelude.{◌≡◌, ℕ, ◌+◌, ◌-◌, ◌<◌, ◌≤◌, ◌⊎◌, Bool, true, false, not, ◌&&◌, nat_eq, nat_lt, if◌then◌else◌, List, [], ◌∷◌, length, is_some, slice_get, Option, Some, None}
use Rattle.std.proofs.Common.{refl, sym, ap, ◌∙◌, arith, inl, inr, length-append}
use Rattle.std.proofs.Math.Path.{subst}
use Rattle.std.proofs.lemmas.Bool.Decides.{nat_tests}
use Rattle.std.proofs.lemmas.List.{length-map}
use Rattle.kmn_base.specs.declared.items.Item.{Item}
use Rattle.kmn_base.specs.declared.items.Item.TheVariants as item
use Rattle.kmn_base.specs.declared.keys.KeyPress.{KeyPress}
use Rattle.kmn_base.specs.Lists.{characters, without_last}
use Rattle.kmn_base.proofs.Lists.{map-characters}
use Rattle.virtual_keys.specs.declared.codes.TheConstants.{K_BKSP}
use Rattle.virtual_keys.specs.Dictionary.{name_in}
use Rattle.virtual_keys.specs.Fits.{is_plain, char_of_press}
use Rattle.rule_model.specs.declared.event_state.EventState.{EventState}
use Rattle.rule_model.specs.declared.tables.Out.{Out}
use Rattle.rule_model.specs.declared.tables.Tables.{Tables}
use Rattle.rule_model.specs.Enter.{without_end_marks, without_last_character, delete_or_pass, default_of, by_default}
use Rattle.rule_model.specs.Enter as own
use Rattle.rule_model.specs.Tab.{tab_dictionary}
use Rattle.core_meaning.specs.Events.{CoreVersion, LastMatch, CoreEvent, units, core_back, core_back_marks}
use Rattle.core_meaning.specs.Keys.{core_char}
use Rattle.core_meaning.specs.Laws.{IsCommonPress}
use Rattle.core_meaning.specs.Steps.{pass_on, delete_character, core_default, put_press}
use Rattle.core_laws.proofs.Actions.{one_put_step}
use Rattle.core_laws.proofs.Alike.{stores_in, own_of, IsAlike, IsGoing}
use Rattle.core_laws.proofs.Marks.{Unmarked, light, no_marks_behind, unmarked_at, unmarked_without}
use Rattle.core_laws.proofs.Saves.{same_saves}
use Rattle.core_laws.proofs.Windows.{HasLast, back_is, backed, last_of, without_none}

-- without marks at the end, nothing is deleted there
no_end_marks : (items : List Item) → Unmarked items → without_end_marks items ≡ items
no_end_marks items plain = ap (λ (n : ℕ). without_last n items) (no_marks_behind items plain) ∙ without_none items

last_deleted : (items : List Item) → Unmarked items → without_last_character items ≡ without_last 1 items
last_deleted items plain =
    ap (λ (xs : List Item). without_end_marks (without_last 1 xs)) (no_end_marks items plain)
    ∙ no_end_marks (without_last 1 items) (unmarked_without 1 items plain)

characters_count : (items : List Item) → Unmarked items → length (characters items) ≡ length items
characters_count items plain = sym (length-map (characters items) item.Char) ∙ ap length (map-characters items plain)

module _ (version : CoreVersion) (tables : Tables) (puts : List ℕ) (changes : List (List ℕ)) (last : LastMatch) (press : KeyPress) (spent used : ℕ) (near : spent ≤ 61) (room : used + 1 ≤ 1024) (rest : List Out)
    (c : CoreEvent) (s : EventState) (going : IsGoing tables puts changes spent used rest last c s) (plain_window : Unmarked c.window) where
  passed_alike : IsAlike tables puts (pass_on c) (record s { pass = true })
  passed_alike =
      record {
        left = going.alike.left;
        current = going.alike.current;
        saved = same_saves (stores_in tables) c.to_save (record (c.event) { pass = true }) c.event refl refl ∙ going.alike.saved;
        pass = refl;
        plain = going.alike.plain;
        sound = going.alike.sound;
      }

  no_marks_first : core_back_marks c ≡ c
  no_marks_first = ap (λ (n : ℕ). core_back n c) (no_marks_behind c.window plain_window)

  deleted_there : core_back_marks (core_back 1 c) ≡ backed 1 c
  deleted_there =
      ap core_back_marks (back_is 1 c (omega (arith, room, going.queued)))
      ∙ ap (λ (n : ℕ). core_back n (backed 1 c)) (no_marks_behind (without_last 1 c.window) (unmarked_without 1 c.window plain_window))

  deleted_alike : IsAlike tables puts (backed 1 c) (record s { left = without_last_character s.left })
  deleted_alike =
      record {
        left = ap (without_last 1) going.alike.left ∙ sym (last_deleted s.left going.alike.plain);
        current = going.alike.current;
        saved = same_saves (stores_in tables) c.to_save (record (c.event) { left = without_last 1 c.event.left }) c.event refl refl ∙ going.alike.saved;
        pass = going.alike.pass;
        plain = subst Unmarked (sym (last_deleted s.left going.alike.plain)) (unmarked_without 1 s.left going.alike.plain);
        sound = going.alike.sound;
      }

  -- the window is empty if and only if the text is
  empty_text : length c.window ≡ 0 → length c.event.left ≡ 0
  empty_text none = by_last (last_of c.event.left)
    where
      by_last : (c.event.left ≡ []) ⊎ HasLast c.event.left → length c.event.left ≡ 0
      by_last (inl nothing) = ap length nothing
      by_last (inr some) = absurd (omega (arith, none, going.seen.reaches some.front (some.last ∷ []) some.parts few))
        where
          few : units (some.last ∷ []) + spent ≤ 63
          few = omega (arith, near, light some.last (unmarked_at some.front some.last [] (subst Unmarked (sym going.alike.left ∙ some.parts) going.alike.plain)))

  some_text : 0 < length c.window → 0 < length s.left
  some_text some = omega (arith, some, ap length going.seen.parts, length-append going.seen.before c.window, ap length going.alike.left)

  grouped : (a b d : Bool) → (a && b && d) ≡ ((a && b) && d)
  grouped true true d = refl
  grouped true false d = refl
  grouped false b d = refl

  delete_alike : (test : Bool) → IsAlike tables puts ((if test then (λ (c : CoreEvent). delete_character (core_back_marks c)) else pass_on) c)
      (if test && nat_lt 0 (length (characters s.left)) then record s { left = without_last_character s.left } else record s { pass = true })
  delete_alike false = passed_alike
  delete_alike true =
      subst (λ (d : CoreEvent). IsAlike tables puts (delete_character d) (if nat_lt 0 (length (characters s.left)) then record s { left = without_last_character s.left } else record s { pass = true })) (sym no_marks_first)
      (by_window (nat_eq (length c.window) 0) refl)
    where
      by_window : (b : Bool) → nat_eq (length c.window) 0 ≡ b
          → IsAlike tables puts ((if b then pass_on else (λ (c : CoreEvent). core_back_marks (core_back 1 c))) c) (if nat_lt 0 (length (characters s.left)) then record s { left = without_last_character s.left } else record s { pass = true })
      by_window true is =
          subst (λ (b : Bool). IsAlike tables puts (pass_on c) (if b then record s { left = without_last_character s.left } else record s { pass = true })) (sym no_characters) passed_alike
        where
          zero_of : (n : ℕ) → nat_eq n 0 ≡ true → n ≡ 0
          zero_of n e = grind (arith, nat_tests)

          no_characters : nat_lt 0 (length (characters s.left)) ≡ false
          no_characters = none (length (characters s.left)) (characters_count s.left going.alike.plain ∙ ap length (sym going.alike.left) ∙ empty_text (zero_of (length c.window) is))
            where
              none : (n : ℕ) → n ≡ 0 → nat_lt 0 n ≡ false
              none n e = grind (arith, nat_tests)
      by_window false is =
          subst (λ (b : Bool). IsAlike tables puts (core_back_marks (core_back 1 c)) (if b then record s { left = without_last_character s.left } else record s { pass = true })) (sym some_characters)
          (subst (λ (d : CoreEvent). IsAlike tables puts d (record s { left = without_last_character s.left })) (sym deleted_there) deleted_alike)
        where
          more_of : (n : ℕ) → nat_eq n 0 ≡ false → 0 < n
          more_of n e = grind (arith, nat_tests)

          some_characters : nat_lt 0 (length (characters s.left)) ≡ true
          some_characters = some (length (characters s.left)) (omega (arith, characters_count s.left going.alike.plain, some_text (more_of (length c.window) is)))
            where
              some : (n : ℕ) → 0 < n → nat_lt 0 n ≡ true
              some n less = grind (arith, nat_tests)

  default_alike : IsAlike tables puts (core_default press c) (delete_or_pass press s)
  default_alike =
      subst (λ (b : Bool). IsAlike tables puts (core_default press c) (if b then record s { left = without_last_character s.left } else record s { pass = true })) (sym (grouped (nat_eq press.code K_BKSP) (is_plain press) (nat_lt 0 (length (characters s.left)))))
      (delete_alike (nat_eq press.code K_BKSP && is_plain press))

  -- the default of a group with keys
  abbrev by_core : Option ℕ → CoreEvent
  by_core char = (if not (is_some char) then core_default press else put_press char) c

  press_alike : (char : Option ℕ) → IsAlike tables puts (by_core char) (own.put_press press char s)
  press_alike None = default_alike
  press_alike (Some x) = (one_put_step version tables puts changes last spent used rest (item.Char x) c s room refl going).alike

  no_name : (code : ℕ) → name_in [] code ≡ None
  no_name code = by_test (nat_lt code 256)
    where
      by_test : (b : Bool) → (if b then None else slice_get {X = List ℕ} [] (code - 256)) ≡ None
      by_test true = refl
      by_test false = refl

  pub keys_alike : IsCommonPress press → tab_dictionary tables.stores ≡ [] → IsAlike tables puts (by_core (core_char press)) (by_default (own_of tables) press s)
  unfolding by_default
  keys_alike common dictionary =
      subst (λ (char : Option ℕ). IsAlike tables puts (by_core char) (default_of press (name_in (tab_dictionary tables.stores) press.code) s)) (sym (λ i. if common.no_keypad i then None else char_of_press press))
      (subst (λ (name : Option (List ℕ)). IsAlike tables puts (by_core (char_of_press press)) (default_of press name s)) (sym (ap (λ (names : List (List ℕ)). name_in names press.code) dictionary ∙ no_name press.code))
      (press_alike (char_of_press press)))
