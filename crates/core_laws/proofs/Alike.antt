-- The state of an event in Keyman's own engine and in this product: what is equal in both, and what each state keeps.
use Rattle.std.specs.Prelude.{◌≡◌, ℕ, zero, suc, ◌<◌, ◌≤◌, Bool, true, false, nat_eq, List, [], ◌∷◌, flat_map, length, map, slice_get, slice_set, unwrap_or, Option, Some, None, ◌⊎◌}
use Rattle.std.specs.List.{list_any}
use Rattle.std.proofs.Common.{refl, sym, ap, ◌∙◌, arith, inl, inr}
use Rattle.std.proofs.Math.Path.{subst}
use Rattle.std.proofs.lemmas.Option.{none-some, same_Some}
use Rattle.kmn_base.specs.declared.items.Item.{Item}
use Rattle.kmn_base.specs.declared.items.Item.TheVariants as item
use Rattle.kmn_base.specs.declared.items.Element.{Element}
use Rattle.kmn_base.specs.declared.items.Element.TheVariants as element
use Rattle.kmn_base.specs.Lists.{is_mark}
use Rattle.kmn_base.specs.Rising.{is_among}
use Rattle.rule_model.specs.declared.event_state.EventState.{EventState}
use Rattle.rule_model.specs.declared.tables.Out.{Out}
use Rattle.rule_model.specs.declared.tables.Tables.{Tables}
use Rattle.rule_model.specs.Keyboard.{Ref, Numbered, Platform, StoreMeaning, Keyboard, First}
use Rattle.rule_model.specs.Content.{content, option_number}
use Rattle.rule_model.specs.Match.{item_of}
use Rattle.rule_model.specs.Tab.{tab_options, tab_group, tab_dictionary}
use Rattle.rule_model.proofs.SystemOptions.{content_by_option}
use Rattle.core_meaning.specs.Events.{CoreVersion, CoreKeyboard, LastMatch, CoreEvent}
use Rattle.core_meaning.specs.Options.{core_save_all}
use Rattle.core_meaning.specs.ContextLaws.{stated_platform}
use Rattle.core_constructs.specs.Marks.{element_marks}
use Rattle.core_constructs.specs.Changes.{changes_option}
use Rattle.core_laws.proofs.Marks.{IsUnmarked, Unmarked}
use Rattle.core_laws.proofs.Rising.{equal_numbers, false_true, same_number}
use Rattle.core_laws.proofs.Saves.{IsNoted}
use Rattle.core_laws.proofs.Values.{all_stores, content_kept, get_set_same, get_set_other, not_platform, same_option}
use Rattle.core_laws.proofs.Windows.{Seen, seen_more}

-- ---- keyboards

abbrev pub stores_in : Tables → List StoreMeaning
stores_in tables = all_stores (tab_options tables) tables.stores

abbrev pub core_of : CoreVersion → Tables → CoreKeyboard
core_of version tables = record { version = version; tables = tables; stores = stores_in tables }

abbrev pub own_of : Tables → Keyboard
own_of tables =
    record {
      start = Numbered tables.start_unicode;
      stores = stores_in tables;
      groups = map (tab_group tables.stores) tables.groups;
      dictionary = tab_dictionary tables.stores;
      cased = [];
      choice = First;
    }

-- ---- values

-- a value has no mark
abbrev pub NoMarks : List Element → Type 0
NoMarks value = flat_map element_marks value ≡ []

-- an item that stands for an element of such a value is none
pub plain_element : (value : List Element) (place : ℕ) (e : Element) (x : Item) → NoMarks value → slice_get value place ≡ Some e → item_of e ≡ Some x → IsUnmarked x
plain_element [] place e x none listed is = absurd (none-some e listed)
plain_element (element.Char c ∷ value) zero e x none listed is = ap is_mark (sym (same_Some (item.Char c) x (ap item_of (same_Some (element.Char c) e listed) ∙ is)))
plain_element (element.Mark m ∷ value) place e x none listed is = absurd (omega (arith, ap length none))
plain_element (element.Key flags code ∷ value) zero e x none listed is = absurd (none-some x (ap item_of (same_Some (element.Key flags code) e listed) ∙ is))
plain_element (element.Char c ∷ value) (suc place) e x none listed is = plain_element value place e x none listed is
plain_element (element.Key flags code ∷ value) (suc place) e x none listed is = plain_element value place e x none listed is

module _ (tables : Tables) (puts : List ℕ) where
  abbrev number : Ref → Option ℕ
  number ref = option_number (stores_in tables) ref

  -- the platform is the one at first, and no store of which outputs put elements has a mark, nor a saved value of one
  pub record IsSound (current : List (List Element)) (saved : List (Option (List Element))) : Type 0 where
    pub unset : content (stores_in tables) current Platform ≡ stated_platform
    pub values : (n : ℕ) → is_among n puts ≡ true → NoMarks (content (stores_in tables) current (Numbered n))
    pub kept : (n option : ℕ) (value : List Element) → is_among n puts ≡ true → number (Numbered n) ≡ Some option → slice_get saved option ≡ Some (Some value) → NoMarks value

  -- a value that is set
  pub sound_set : (store option : ℕ) (value : List Element) (current : List (List Element)) (saved : List (Option (List Element))) → store < length tables.stores → number (Numbered store) ≡ Some option
      → (is_among store puts ≡ true → NoMarks value) → IsSound current saved → IsSound (slice_set current option value) saved
  sound_set store option value current saved below is clean sound =
      record {
        unset = content_kept (tab_options tables) tables.stores current Platform option value (λ other there. not_platform (tab_options tables) tables.stores store option other below is there) ∙ sound.unset;
        values = λ n among. by_number n among (number (Numbered n)) refl;
        kept = sound.kept;
      }
    where
      here : (n : ℕ) → is_among n puts ≡ true → number (Numbered n) ≡ Some option → NoMarks (content (stores_in tables) (slice_set current option value) (Numbered n))
      here n among there = subst NoMarks (sym (content_by_option (stores_in tables) (slice_set current option value) (Numbered n) option there)) (by_value (get_set_same current option value))
        where
          same : n ≡ store
          same = same_option (stores_in tables) n store option there is

          by_value : (slice_get (slice_set current option value) option ≡ Some value) ⊎ (slice_get (slice_set current option value) option ≡ None) → NoMarks (unwrap_or (slice_get (slice_set current option value) option) [])
          by_value (inl found) = subst (λ (o : Option (List Element)). NoMarks (unwrap_or o [])) (sym found) (clean (ap (λ (m : ℕ). is_among m puts) (sym same) ∙ among))
          by_value (inr none) = subst (λ (o : Option (List Element)). NoMarks (unwrap_or o [])) (sym none) refl

      elsewhere : (n : ℕ) → is_among n puts ≡ true → ((other : ℕ) → number (Numbered n) ≡ Some other → option ≡ other → ⊥) → NoMarks (content (stores_in tables) (slice_set current option value) (Numbered n))
      elsewhere n among apart = subst NoMarks (sym (content_kept (tab_options tables) tables.stores current (Numbered n) option value apart)) (sound.values n among)

      by_number : (n : ℕ) → is_among n puts ≡ true → (o : Option ℕ) → number (Numbered n) ≡ o → NoMarks (content (stores_in tables) (slice_set current option value) (Numbered n))
      by_number n among None there = elsewhere n among (λ other found same. none-some other (sym there ∙ found))
      by_number n among (Some other) there = by_test (nat_eq other option) refl
        where
          by_test : (b : Bool) → nat_eq other option ≡ b → NoMarks (content (stores_in tables) (slice_set current option value) (Numbered n))
          by_test true told = here n among (there ∙ ap Some (equal_numbers other option told))
          by_test false told = elsewhere n among (λ found is_found same. apart (same_Some other found (sym there ∙ is_found)) same)
            where
              apart : {found : ℕ} → other ≡ found → option ≡ found → ⊥
              apart e same = false_true (sym told ∙ ap (λ (m : ℕ). nat_eq other m) (same ∙ sym e) ∙ same_number other)

  -- a value that is saved
  pub sound_save : (store option : ℕ) (current : List (List Element)) (saved : List (Option (List Element))) → number (Numbered store) ≡ Some option → IsSound current saved
      → IsSound current (slice_set saved option (Some (unwrap_or (slice_get current option) [])))
  sound_save store option current saved is sound =
      record { unset = sound.unset; values = sound.values; kept = kept }
    where
      value : List Element
      value = unwrap_or (slice_get current option) []

      kept : (n other : ℕ) (v : List Element) → is_among n puts ≡ true → number (Numbered n) ≡ Some other → slice_get (slice_set saved option (Some value)) other ≡ Some (Some v) → NoMarks v
      kept n other v among there found = by_test (nat_eq option other) refl
        where
          by_test : (b : Bool) → nat_eq option other ≡ b → NoMarks v
          by_test true told = by_value (get_set_same saved option (Some value))
            where
              same : option ≡ other
              same = equal_numbers option other told

              found_here : slice_get (slice_set saved option (Some value)) option ≡ Some (Some v)
              found_here = ap (slice_get (slice_set saved option (Some value))) same ∙ found

              clean : NoMarks value
              clean = subst NoMarks (content_by_option (stores_in tables) current (Numbered n) option (there ∙ ap Some (sym same))) (sound.values n among)

              by_value : (slice_get (slice_set saved option (Some value)) option ≡ Some (Some value)) ⊎ (slice_get (slice_set saved option (Some value)) option ≡ None) → NoMarks v
              by_value (inl some) = subst NoMarks (same_Some value v (same_Some (Some value) (Some v) (sym some ∙ found_here))) clean
              by_value (inr none) = absurd (none-some (Some v) (sym none ∙ found_here))
          by_test false told = sound.kept n other v among there (sym (get_set_other saved option other (Some value) apart) ∙ found)
            where
              apart : option ≡ other → ⊥
              apart same = false_true (sym told ∙ ap (nat_eq option) (sym same) ∙ same_number option)

  -- ---- states

  -- both states have the same text, values and saved values at the end of the event, and no marks
  pub record IsAlike (c : CoreEvent) (s : EventState) : Type 0 where
    pub left : c.event.left ≡ s.left
    pub current : c.event.current ≡ s.current
    pub saved : (core_save_all (stores_in tables) c.to_save c.event).saved ≡ s.saved
    pub pass : c.event.pass ≡ s.pass
    pub plain : Unmarked s.left
    pub sound : IsSound s.current s.saved

  -- the event goes on: `spent` units are spent, at most `used` effects were queued and items put, and none of the stores that are noted
  -- to be saved is changed by the rest
  pub record IsGoing (changes : List (List ℕ)) (spent used : ℕ) (rest : List Out) (last : LastMatch) (c : CoreEvent) (s : EventState) : Type 0 where
    pub alike : IsAlike c s
    pub going : s.stopped ≡ false
    pub entered : c.event.entered ≡ s.entered
    pub seen : Seen spent c.event.left c.window
    pub queued : c.queued ≤ used
    pub put : s.put ≤ used
    pub remembered : c.last ≡ last
    pub noted : (n : ℕ) → is_among n c.to_save ≡ true → IsNoted (stores_in tables) n
    pub pending : (n : ℕ) → is_among n c.to_save ≡ true → list_any (changes_option changes n) rest ≡ false

  pub going_more : (changes : List (List ℕ)) (spent more used greater : ℕ) (rest : List Out) (last : LastMatch) (c : CoreEvent) (s : EventState) → spent ≤ more → used ≤ greater
      → IsGoing changes spent used rest last c s → IsGoing changes more greater rest last c s
  going_more changes spent more used greater rest last c s few less going =
      record {
        alike = going.alike;
        going = going.going;
        entered = going.entered;
        seen = seen_more spent more c.event.left c.window few going.seen;
        queued = omega (arith, going.queued, less);
        put = omega (arith, going.put, less);
        remembered = going.remembered;
        noted = going.noted;
        pending = going.pending;
      }
