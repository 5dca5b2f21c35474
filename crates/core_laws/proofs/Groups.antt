-- A group of which nothing is reported does the same in both engines, if the groups that it enters do.
use Rattle.std.specs.Prelude.{◌≡◌, ℕ, zero, suc, ◌+◌, ◌-◌, ◌<◌, ◌≤◌, min, Bool, true, false, not, ◌&&◌, ◌||◌, nat_eq, nat_le, nat_lt, if◌then◌else◌, List, [], ◌∷◌, ◌++◌, flat_map, length, map, take, drop, slice_get, sum_by, is_some, option_map, Option, Some, None}
use Rattle.std.specs.List.{list_any, list_all}
use Rattle.std.proofs.Common.{refl, sym, ap, ◌∙◌, arith, inl, inr, append_assoc, append-nil, length-drop}
use Rattle.std.proofs.Math.Path.{subst}
use Rattle.std.proofs.lemmas.Bool.{or_parts, and_parts}
use Rattle.std.proofs.lemmas.Bool.Decides.{leb_tells, nat_tests}
use Rattle.std.proofs.lemmas.List.{take-append-drop}
use Rattle.std.proofs.lemmas.List.Elements.{All-drop, All-head, All-tail}
use Rattle.std.proofs.lemmas.List.Sums.{sum_by-cons, count_by-le-length}
use Rattle.std.proofs.lemmas.Option.{slice_get-map, slice_get_past}
use Rattle.kmn_base.specs.declared.items.Item.{Item}
use Rattle.kmn_base.specs.declared.keys.KeyPress.{KeyPress}
use Rattle.kmn_base.specs.Lists.{is_mark, without_last}
use Rattle.kmn_base.specs.Rising.{is_among}
use Rattle.rule_model.specs.declared.event_state.Catch.{Catch}
use Rattle.rule_model.specs.declared.event_state.EventState.{EventState}
use Rattle.rule_model.specs.declared.tables.Out.{Out}
use Rattle.rule_model.specs.declared.tables.Out.TheVariants as output
use Rattle.rule_model.specs.declared.tables.Rule.{Rule}
use Rattle.rule_model.specs.declared.tables.Group.{Group}
use Rattle.rule_model.specs.declared.tables.Tables.{Tables}
use Rattle.rule_model.specs.Keyboard.{Ref, Numbered, GroupMeaning}
use Rattle.rule_model.specs.Content.{content}
use Rattle.rule_model.specs.Act.{act, put_item, put_items}
use Rattle.rule_model.specs.Choose.{Chosen, first}
use Rattle.rule_model.specs.Hold.{holds_with}
use Rattle.rule_model.specs.Enter.{nothing, act_if_any, do_chosen, do_unmatched, do_group, in_group, enter_group}
use Rattle.rule_model.specs.Patterns.{is_matched}
use Rattle.rule_model.specs.Tab.{output_if_any, tab_group, tab_output, tab_rule}
use Rattle.kmx_format.specs.Playable.{IsPlayable, IsPlayableGroup}
use Rattle.kmx_format.specs.Writable.{IsWritableRule, IsWritableMatchOutput}
use Rattle.core_meaning.specs.Events.{CoreVersion, LastMatch, CoreEvent, units, last_items, core_back}
use Rattle.core_meaning.specs.Keys.{core_char}
use Rattle.core_meaning.specs.Laws.{IsCommonPress}
use Rattle.core_meaning.specs.Contexts.{Tried, Taken, core_choose, core_holds, core_takes, compared_count}
use Rattle.core_meaning.specs.Outputs.{core_act, core_act_alone, core_done, core_output, skipped_count, then_match, with_match}
use Rattle.core_meaning.specs.Steps.{core_default, core_enter, core_in_group, core_unmatched, do_taken_with, one_more_entered, put_press, with_places, do_taken}
use Rattle.core_constructs.specs.declared.construct.Construct.TheVariants as construct
use Rattle.core_constructs.specs.declared.construct.GroupConstruct.TheVariants as group_construct
use Rattle.core_constructs.specs.declared.facts.Facts.{Facts}
use Rattle.core_constructs.specs.declared.facts.GroupFacts.{GroupFacts}
use Rattle.core_constructs.specs.Changes.{changes_option, changes_within, saves_early}
use Rattle.core_constructs.specs.Contexts.{asks_from_option, asks_layer, counts_differently, has_late_nul}
use Rattle.core_constructs.specs.Empty.{fits_nomatch, has_empty_context, is_nomatch_for, same_outputs, from_empty}
use Rattle.core_constructs.specs.Facts.{facts_of}
use Rattle.core_constructs.specs.Marks.{group_items, rule_items}
use Rattle.core_constructs.specs.Outputs.{acts, acts_after_use, ends, is_use, live, puts_match, sets_from_option, sets_layer}
use Rattle.core_constructs.specs.Queued.{effects_within, entered_effects, group_effects, item_effects}
use Rattle.core_constructs.specs.Reached.{entered, group_entered, played, reached_within}
use Rattle.core_constructs.specs.Records.{has_construct}
use Rattle.core_constructs.specs.Spent.{spent_after, spent_by, spent_within}
use Rattle.core_constructs.specs.Widths.{with_context}
use Rattle.core_constructs.proofs.Live.{played_ended, played_on}
use Rattle.core_laws.specs.Laws.{known_at}
use Rattle.core_laws.proofs.Alike.{stores_in, core_of, own_of, IsAlike, IsGoing, going_more}
use Rattle.core_laws.proofs.Budget.{Chain, Enters, chain_of, entered_most, nomatch_fits, number_at, rule_fits, spent_next, spent_size, spent_up}
use Rattle.core_laws.proofs.Caught.{caught_count, items_in, units_most}
use Rattle.core_laws.proofs.Choice.{IsUntold, ChosenAlike, NoneChosen, BothChosen, HereChosen, chosen_alike, plainly}
use Rattle.core_laws.proofs.Defaults.{keys_alike}
use Rattle.core_laws.proofs.Depths.{early_below, enters_match, enters_nomatch, enters_output, items_unchanged, none_of_all, reached_next, reached_up}
use Rattle.core_laws.proofs.Holds.{CatchesAlike, last_of_text}
use Rattle.core_laws.proofs.Items.{AllOf, all_at, all_first, all_joined, all_second, IsPlainItem, alone_matched, live_fair, matched_fair}
use Rattle.core_laws.proofs.Marks.{Unmarked, put_unmarked, unmarked_push, unmarked_without}
use Rattle.core_laws.proofs.Outputs.{AreFairItems, EntersAlike, Ends, GoesOn, Over, IsReady, alike_remembering, behind, ends_alike, if_any, output_alike, quiet_here, stopped_stays, then_alike}
use Rattle.core_laws.proofs.SameOutputs.{equal_outputs}
use Rattle.core_laws.proofs.Saves.{same_saves}
use Rattle.core_laws.proofs.Whole.{IsWhole, all_listed, puts_of, values_hold, widths_hold}
use Rattle.core_laws.proofs.Windows.{Seen, back_is, seen_back, seen_capped, seen_more, without_none}
use Rattle.kmn_base.specs.declared.items.Element.{Element}
use Rattle.rule_model.specs.Match.{Content}

true_false : true ≡ false → ⊥
true_false e = grind arith

false_true : false ≡ true → ⊥
false_true e = grind arith

module _ (version : CoreVersion) (tables : Tables) (playable : IsPlayable tables) (whole : IsWhole tables) (press : KeyPress) (common : IsCommonPress press) where
  abbrev facts : Facts
  facts = facts_of tables

  abbrev puts : List ℕ
  puts = puts_of tables

  abbrev spent_at : ℕ → ℕ → ℕ
  spent_at k g = number_at (spent_within k facts tables.groups) g

  abbrev effects_at : ℕ → ℕ → ℕ
  effects_at d g = number_at (effects_within d tables.groups) g

  abbrev enter_there : ℕ → ℕ → CoreEvent → CoreEvent
  enter_there d = core_enter d (core_of version tables) press

  abbrev enter_here : ℕ → Ref → EventState → EventState
  enter_here d = enter_group d (own_of tables) press

  entered_alike : (c : CoreEvent) (s : EventState) → IsAlike tables puts c s → IsAlike tables puts (one_more_entered c) (record s { entered = s.entered + 1 })
  entered_alike c s alike =
      record {
        left = alike.left;
        current = alike.current;
        saved = same_saves (stores_in tables) c.to_save (record (c.event) { entered = c.event.entered + 1 }) c.event refl refl ∙ alike.saved;
        pass = alike.pass;
        plain = alike.plain;
        sound = alike.sound;
      }

  -- the group of a number in this product
  own_group : (g : ℕ) (o : Option Group) → slice_get tables.groups g ≡ o → slice_get (map (tab_group tables.stores) tables.groups) g ≡ option_map (tab_group tables.stores) o
  own_group g o listed = slice_get-map (tab_group tables.stores) tables.groups g ∙ ap (option_map (tab_group tables.stores)) listed

  -- a group that the tables don't have does nothing
  missing_alike : (d g : ℕ) (c : CoreEvent) (s : EventState) → slice_get tables.groups g ≡ None → IsAlike tables puts c s → IsAlike tables puts (enter_there d g c) (enter_here d (Numbered g) s)
  missing_alike zero g c s none alike = record { left = alike.left; current = alike.current; saved = alike.saved; pass = alike.pass; plain = alike.plain; sound = alike.sound }
  missing_alike (suc d) g c s none alike =
      subst (λ (o : Option Group). IsAlike tables puts (core_in_group (core_of version tables) (enter_there d) press o (one_more_entered c)) (in_group (own_of tables) (enter_here d) press (slice_get (map (tab_group tables.stores) tables.groups) g) (record s { entered = s.entered + 1 }))) (sym none)
      (subst (λ (o : Option GroupMeaning). IsAlike tables puts (one_more_entered c) (in_group (own_of tables) (enter_here d) press o (record s { entered = s.entered + 1 }))) (sym (own_group g None none))
      (entered_alike c s alike))

  -- groups that are entered with less depth do the same in both
  abbrev pub EntersWithin : (d k : ℕ) → Type 0
  EntersWithin d k =
      (h : ℕ) → is_among h (reached_within k tables.groups tables.start_unicode) ≡ true → h < length tables.groups → (used : ℕ) → used + effects_at d h ≤ 1024 → (c : CoreEvent) (s : EventState) (known : LastMatch)
      → IsGoing tables puts (changes_within d tables.groups) (spent_at k h) used (output.Enter h ∷ []) known c s → IsAlike tables puts (enter_there d h c) (enter_here d (Numbered h) s)

  module _ (d k : ℕ) (depth : k + (d + 1) ≡ 50) (inner : EntersWithin d (k + 1)) (g : ℕ) (group : Group) (among : is_among g (reached_within k tables.groups tables.start_unicode) ≡ true) (listed : slice_get tables.groups g ≡ Some group) where
    abbrev known : GroupFacts
    known = known_at tables g group

    abbrev changes : List (List ℕ)
    changes = changes_within d tables.groups

    reached : is_among g facts.reached ≡ true
    reached = ap (λ (n : ℕ). is_among g (reached_within n tables.groups tables.start_unicode)) (sym depth) ∙ reached_up (d + 1) k tables.groups tables.start_unicode g among

    spent_known : spent_at k g ≤ known.spent
    spent_known = subst (λ (n : ℕ). spent_at k g ≤ number_at (spent_within n facts tables.groups) g) depth ((spent_up (d + 1) k facts tables.groups).more g)

    enters : Enters facts (spent_at k g) group (spent_within (k + 1) facts tables.groups)
    enters = spent_next k facts tables.groups g group reached listed

    group_playable : IsPlayableGroup (length tables.stores) (length tables.groups) group
    group_playable = all_listed (IsPlayableGroup (length tables.stores) (length tables.groups)) tables.groups g group playable.groups listed

    plain_items : AllOf (IsPlainItem tables.stores puts) (group_items group)
    plain_items = all_at (IsPlainItem tables.stores puts) group_items tables.groups g group whole.plain listed

    -- ---- parts of what all items of the group have

    output_part : (P : Out → Type 0) → AllOf P (group_items group) → (place : ℕ) (rule : Rule) → slice_get group.rules place ≡ Some rule → AllOf P (live rule.output)
    output_part P all place rule at =
        all_at P rule_items group.rules place rule (all_first P (flat_map rule_items group.rules) (live group.on_match) (all_first P (flat_map rule_items group.rules ++ live group.on_match) (live group.on_nomatch) all)) at

    match_part : (P : Out → Type 0) → AllOf P (group_items group) → AllOf P (live group.on_match)
    match_part P all = all_second P (flat_map rule_items group.rules) (live group.on_match) (all_first P (flat_map rule_items group.rules ++ live group.on_match) (live group.on_nomatch) all)

    nomatch_part : (P : Out → Type 0) → AllOf P (group_items group) → AllOf P (live group.on_nomatch)
    nomatch_part P all = all_second P (flat_map rule_items group.rules ++ live group.on_match) (live group.on_nomatch) all

    -- a group that is entered with at most these units and effects
    group_enters : (most least : ℕ) (h : ℕ) → is_among h (group_entered group) ≡ true → (h < length tables.groups → most ≤ spent_at (k + 1) h) → least + effects_at d h ≤ 1024
        → (c : CoreEvent) (s : EventState) (last : LastMatch) → IsGoing tables puts changes most least (output.Enter h ∷ []) last c s → IsAlike tables puts (enter_there d h c) (enter_here d (Numbered h) s)
    group_enters most least h enters_h bound room c s last going = by_number (nat_lt h (length tables.groups)) refl
      where
        by_number : (b : Bool) → nat_lt h (length tables.groups) ≡ b → IsAlike tables puts (enter_there d h c) (enter_here d (Numbered h) s)
        by_number true told =
            inner h (reached_next k tables.groups tables.start_unicode g h group among listed enters_h) less least room c s last
            (going_more tables puts changes most (spent_at (k + 1) h) least least (output.Enter h ∷ []) last c s (bound less) (omega arith) going)
          where
            less_of : (n m : ℕ) → nat_lt n m ≡ true → n < m
            less_of n m e = grind (arith, nat_tests)

            less : h < length tables.groups
            less = less_of h (length tables.groups) told
        by_number false told = missing_alike d h c s (slice_get_past tables.groups h (more_of h (length tables.groups) told)) going.alike
          where
            more_of : (n m : ℕ) → nat_lt n m ≡ false → m ≤ n
            more_of n m e = grind (arith, nat_tests)

    inside : (h : ℕ) → h < length tables.groups → h < length (spent_within (k + 1) facts tables.groups)
    inside h less = omega (arith, less, spent_size (k + 1) facts tables.groups)

    -- ---- the match output and the nomatch output

    module _ (queued : ℕ) (chain : Chain queued d tables.groups group) (last : LastMatch) where
      abbrev Going : (spent used : ℕ) → List Out → CoreEvent → EventState → Type 0
      Going spent used rest c s = IsGoing tables puts changes spent used rest last c s

      own_values : (list_any (sets_from_option facts.options) (live group.on_match) ≡ false) × (list_any (sets_from_option facts.options) (live group.on_nomatch) ≡ false)
      own_values = or_parts (list_any (sets_from_option facts.options) (live group.on_match)) (list_any (sets_from_option facts.options) (live group.on_nomatch)) (whole.values g group (reached, listed))

      own_layers : (list_any sets_layer (live group.on_match) ≡ false) × (list_any sets_layer (live group.on_nomatch) ≡ false)
      own_layers = or_parts (list_any sets_layer (live group.on_match)) (list_any sets_layer (live group.on_nomatch)) (whole.groups g group (reached, listed) group_construct.Layer)

      own_uses : (acts_after_use (live group.on_match) ≡ false) × (acts_after_use (live group.on_nomatch) ≡ false)
      own_uses = or_parts (acts_after_use (live group.on_match)) (acts_after_use (live group.on_nomatch)) (whole.groups g group (reached, listed) group_construct.Use)

      own_saves : (saves_early facts.changes (live group.on_match) ≡ false) × (saves_early facts.changes (live group.on_nomatch) ≡ false)
      own_saves = or_parts (saves_early facts.changes (live group.on_match)) (saves_early facts.changes (live group.on_nomatch)) (whole.groups g group (reached, listed) group_construct.Save)

      early_here : (items : List Out) → saves_early facts.changes items ≡ false → saves_early changes items ≡ false
      early_here items none = early_below (k + 1) d tables.groups items (ap (λ (n : ℕ). saves_early (changes_within n tables.groups) items) all_depth ∙ none)
        where
          all_depth : d + (k + 1) ≡ 50
          all_depth = omega (arith, depth)

      alone_fair : (outputs : List Out) → AllOf (IsPlainItem tables.stores puts) (live outputs) → IsWritableMatchOutput (length tables.stores) (length tables.groups) outputs → list_any (sets_from_option facts.options) (live outputs) ≡ false → list_any sets_layer (live outputs) ≡ false
          → AreFairItems tables puts [] nothing last (live outputs)
      alone_fair outputs plain writable value layer =
          live_fair tables puts whole.clean whole.alone [] nothing last outputs plain writable.itself.stores value layer (alone_matched tables puts whole.clean whole.alone last outputs writable.no_context)

      match_ready : (place : ℕ) (rule : Rule) → slice_get group.rules place ≡ Some rule → ends rule.output ≡ false → (used : ℕ) (few : used + sum_by (item_effects 0) (live group.on_match) ≤ 1024) → used + sum_by (item_effects 0) (live group.on_match) ≤ queued + group_effects group
          → IsReady version tables puts (enter_there d) (enter_here d) changes [] nothing last (spent_after [] (live group.on_match) (spent_by facts rule.context (live rule.output) (spent_at k g))) (used + sum_by (item_effects 0) (live group.on_match)) few
          (spent_by facts rule.context (live rule.output) (spent_at k g)) used group.on_match []
      match_ready place rule at runs_on used few room =
          record {
            quiet = own_uses.0;
            fair = alone_fair group.on_match (match_part (IsPlainItem tables.stores puts) plain_items) group_playable.on_match own_values.0 own_layers.0;
            early = ap (saves_early changes) (append-nil (live group.on_match)) ∙ early_here (live group.on_match) own_saves.0;
            bound = omega arith;
            room = omega arith;
            enters = λ h in_match c s recalled.
                group_enters (spent_after [] (live group.on_match) (spent_by facts rule.context (live rule.output) (spent_at k g))) (used + sum_by (item_effects 0) (live group.on_match)) h (enters_match group place rule h at runs_on in_match)
                (λ less. enters.by_match place rule h at runs_on in_match (inside h less))
                (omega (arith, room, chain.fits, entered_most (effects_within d tables.groups) chain.most h (live group.on_match) (match_part (λ (item : Out). entered_effects (effects_within d tables.groups) item ≤ chain.most) chain.entered) in_match)) c s recalled;
          }

      nomatch_room : queued + sum_by (item_effects 0) (live group.on_nomatch) ≤ queued + group_effects group
      nomatch_room = (nomatch_fits group queued (omega (arith, chain.fits))).0

      nomatch_few : queued + sum_by (item_effects 0) (live group.on_nomatch) ≤ 1024
      nomatch_few = omega (arith, nomatch_room, chain.fits)

      nomatch_ready : IsReady version tables puts (enter_there d) (enter_here d) changes [] nothing last (spent_after [] (live group.on_nomatch) (spent_at k g)) (queued + sum_by (item_effects 0) (live group.on_nomatch)) nomatch_few (spent_at k g) queued group.on_nomatch []
      nomatch_ready =
          record {
            quiet = own_uses.1;
            fair = alone_fair group.on_nomatch (nomatch_part (IsPlainItem tables.stores puts) plain_items) group_playable.on_nomatch own_values.1 own_layers.1;
            early = ap (saves_early changes) (append-nil (live group.on_nomatch)) ∙ early_here (live group.on_nomatch) own_saves.1;
            bound = omega arith;
            room = omega arith;
            enters = λ h in_nomatch c s recalled.
                group_enters (spent_after [] (live group.on_nomatch) (spent_at k g)) (queued + sum_by (item_effects 0) (live group.on_nomatch)) h (enters_nomatch group h in_nomatch)
                (λ less. enters.by_nomatch h in_nomatch (inside h less))
                (omega (arith, nomatch_room, chain.fits, entered_most (effects_within d tables.groups) chain.most h (live group.on_nomatch) (nomatch_part (λ (item : Out). entered_effects (effects_within d tables.groups) item ≤ chain.most) chain.entered) in_nomatch)) c s recalled;
          }

      -- however the nomatch output ends
      nomatch_ends : (c : CoreEvent) (s : EventState) → Going (spent_at k g) queued (live group.on_nomatch) c s
          → Ends version tables puts (enter_there d) (enter_here d) changes [] nothing last (spent_after [] (live group.on_nomatch) (spent_at k g)) (queued + sum_by (item_effects 0) (live group.on_nomatch)) nomatch_few
          (spent_after [] (live group.on_nomatch) (spent_at k g)) (queued + sum_by (item_effects 0) (live group.on_nomatch)) group.on_nomatch []
          (core_act (core_of version tables) (enter_there d) group.on_nomatch false c) (act (own_of tables) (enter_here d) nothing (map (tab_output tables.stores) group.on_nomatch) s)
      nomatch_ends c s going =
          output_alike version tables puts (enter_there d) (enter_here d) changes [] nothing last (spent_after [] (live group.on_nomatch) (spent_at k g)) (queued + sum_by (item_effects 0) (live group.on_nomatch)) nomatch_few group.on_nomatch [] (spent_at k g) queued c s nomatch_ready
          (subst (λ (items : List Out). Going (spent_at k g) queued items c s) (sym (append-nil (live group.on_nomatch))) going)

      nomatch_alike : (c : CoreEvent) (s : EventState) → Going (spent_at k g) queued (live group.on_nomatch) c s
          → IsAlike tables puts (core_act_alone (core_of version tables) (enter_there d) group.on_nomatch c) (act (own_of tables) (enter_here d) nothing (map (tab_output tables.stores) group.on_nomatch) s)
      nomatch_alike c s going =
          ends_alike version tables puts (enter_there d) (enter_here d) changes [] nothing last (spent_after [] (live group.on_nomatch) (spent_at k g)) (queued + sum_by (item_effects 0) (live group.on_nomatch)) nomatch_few
          (spent_after [] (live group.on_nomatch) (spent_at k g)) (queued + sum_by (item_effects 0) (live group.on_nomatch)) group.on_nomatch [] (core_act (core_of version tables) (enter_there d) group.on_nomatch false c)
          (act (own_of tables) (enter_here d) nothing (map (tab_output tables.stores) group.on_nomatch) s) (nomatch_ends c s going)

    -- ---- an event in the group

    module _ (queued : ℕ) (chain : Chain queued d tables.groups group) (c : CoreEvent) (s : EventState) (going : IsGoing tables puts changes (spent_at k g) queued [] c.last c s)
        (pending : (n : ℕ) → is_among n c.to_save ≡ true → AllOf (λ (item : Out). changes_option changes n item ≡ false) (group_items group)) where
      with_rest : (rest : List Out) → ((n : ℕ) → is_among n c.to_save ≡ true → list_any (changes_option changes n) rest ≡ false) → IsGoing tables puts changes (spent_at k g) queued rest c.last c s
      with_rest rest unchanged =
          record {
            alike = going.alike;
            going = going.going;
            entered = going.entered;
            seen = going.seen;
            queued = going.queued;
            put = going.put;
            remembered = going.remembered;
            noted = going.noted;
            pending = unchanged;
          }

      nomatch_going : IsGoing tables puts changes (spent_at k g) queued (live group.on_nomatch) c.last c s
      nomatch_going = with_rest (live group.on_nomatch) (λ n noted. none_of_all (changes_option changes n) (live group.on_nomatch) (nomatch_part (λ (item : Out). changes_option changes n item ≡ false) (pending n noted)))

      plain_window : Unmarked c.window
      plain_window =
          subst Unmarked (ap (λ (xs : List Item). drop (length going.seen.before) xs) (sym going.alike.left ∙ going.seen.parts) ∙ drop_front going.seen.before c.window)
          (All-drop (λ item. is_mark item ≡ false) (length going.seen.before) s.left going.alike.plain)
        where
          drop_front : (xs ys : List Item) → drop (length xs) (xs ++ ys) ≡ ys
          drop_front [] ys = refl
          drop_front (x ∷ xs) ys = drop_front xs ys

      -- ---- no record is used

      abbrev core_none : Bool → List Out → CoreEvent
      core_none uses nomatch =
          (if uses && not (is_some (core_char press)) then core_default press
          else if not (nat_eq (length nomatch) 0) then core_act_alone (core_of version tables) (enter_there d) nomatch
          else if uses then put_press (core_char press)
          else (λ c. c))
          c

      abbrev own_none : Bool → List Out → EventState
      own_none uses nomatch = do_unmatched (own_of tables) (enter_here d) press (output_if_any (map (tab_output tables.stores) nomatch)) uses s

      no_items : (items : List Out) → nat_eq (length items) 0 ≡ true → items ≡ []
      no_items [] none = refl
      no_items (x ∷ items) none = absurd (none_left (length (x ∷ items)) none (omega arith))
        where
          none_left : (n : ℕ) → nat_eq n 0 ≡ true → 0 < n → ⊥
          none_left n e less = grind (arith, nat_tests)

      -- a nomatch output that has items acts
      some_nomatch : (nomatch : List Out) (uses : Bool) → nat_eq (length nomatch) 0 ≡ false → own_none uses nomatch ≡ act (own_of tables) (enter_here d) nothing (map (tab_output tables.stores) nomatch) s
      some_nomatch [] uses some = absurd (true_false some)
      some_nomatch (x ∷ nomatch) uses some = refl

      keys_none : group.using_keys ≡ true → IsAlike tables puts (core_none true group.on_nomatch) (own_none true group.on_nomatch)
      keys_none uses =
          subst (λ (nomatch : List Out). IsAlike tables puts (core_none true nomatch) (own_none true nomatch)) (sym (no_items group.on_nomatch (by_test (nat_eq (length group.on_nomatch) 0) told)))
          (keys_alike version tables puts changes c.last press (spent_at k g) queued (omega (arith, spent_known, near)) (omega (arith, (nomatch_fits group queued (omega (arith, chain.fits))).1, chain.fits)) [] c s going plain_window common whole.dictionary)
        where
          told : not (nat_eq (length group.on_nomatch) 0) ≡ false
          told = (λ i. sym uses i && not (nat_eq (length group.on_nomatch) 0)) ∙ whole.groups g group (reached, listed) group_construct.Nomatch

          by_test : (b : Bool) → not b ≡ false → b ≡ true
          by_test true told = refl
          by_test false told = absurd (true_false told)

          near : known.spent ≤ 61
          near = at_most known.spent ((λ i. sym uses i && nat_lt 61 known.spent) ∙ whole.characters g group (reached, listed))
            where
              at_most : (n : ℕ) → nat_lt 61 n ≡ false → n ≤ 61
              at_most n e = grind (arith, nat_tests)

      alone_none : IsAlike tables puts (core_none false group.on_nomatch) (own_none false group.on_nomatch)
      alone_none = by_test (nat_eq (length group.on_nomatch) 0) refl
        where
          by_test : (b : Bool) → nat_eq (length group.on_nomatch) 0 ≡ b → IsAlike tables puts ((if not b then core_act_alone (core_of version tables) (enter_there d) group.on_nomatch else (λ c. c)) c) (own_none false group.on_nomatch)
          by_test true none = subst (λ (nomatch : List Out). IsAlike tables puts c (own_none false nomatch)) (sym (no_items group.on_nomatch none)) going.alike
          by_test false some =
              subst (λ (t : EventState). IsAlike tables puts (core_act_alone (core_of version tables) (enter_there d) group.on_nomatch c) t) (sym (some_nomatch group.on_nomatch false some))
              (nomatch_alike queued chain c.last c s nomatch_going)

      none_alike : IsAlike tables puts (core_unmatched (core_of version tables) (enter_there d) press group c) (own_none group.using_keys group.on_nomatch)
      none_alike = by_keys group.using_keys refl
        where
          by_keys : (b : Bool) → group.using_keys ≡ b → IsAlike tables puts (core_none b group.on_nomatch) (own_none b group.on_nomatch)
          by_keys true uses = keys_none uses
          by_keys false uses = alone_none

      -- ---- a record with an empty context is used here, and the nomatch output there

      abbrev own_chosen : Chosen → EventState
      own_chosen chosen = do_chosen (own_of tables) (enter_here d) (tab_group tables.stores group) chosen s

      empty_alike : (rule : Rule) (rest : List Rule) → group.using_keys ≡ false → is_nomatch_for group (rule ∷ rest) ≡ true
          → IsAlike tables puts (core_unmatched (core_of version tables) (enter_there d) press group c) (own_chosen (tab_rule tables.stores group.using_keys rule, nothing))
      empty_alike rule rest uses converted =
          subst (λ (b : Bool). IsAlike tables puts (core_none b group.on_nomatch) (own_chosen (tab_rule tables.stores group.using_keys rule, nothing))) (sym uses)
          (subst (λ (b : Bool). IsAlike tables puts ((if not b then core_act_alone (core_of version tables) (enter_there d) group.on_nomatch else (λ c. c)) c) (own_chosen (tab_rule tables.stores group.using_keys rule, nothing))) (sym some)
          (subst (λ (t : EventState). IsAlike tables puts (core_act_alone (core_of version tables) (enter_there d) group.on_nomatch c) t) (sym (if_any tables (enter_here d) group.on_match after))
          (subst (λ (t : EventState). IsAlike tables puts (core_act_alone (core_of version tables) (enter_there d) group.on_nomatch c) (act (own_of tables) (enter_here d) nothing (map (tab_output tables.stores) group.on_match) t)) (sym after_is)
          (by_end (nomatch_ends queued chain c.last c s nomatch_going)))))
        where
          tests : ((list_all has_empty_context rest && fits_nomatch group rule.output) ≡ true) × (same_outputs group.on_nomatch rule.output ≡ true)
          tests = and_parts (list_all has_empty_context rest && fits_nomatch group rule.output) (same_outputs group.on_nomatch rule.output) converted

          fits : fits_nomatch group rule.output ≡ true
          fits = (and_parts (list_all has_empty_context rest) (fits_nomatch group rule.output) tests.0).1

          same : group.on_nomatch ≡ rule.output
          same = equal_outputs group.on_nomatch rule.output tests.1

          parts : ((not (nat_eq (length rule.output) 0) && not (list_any puts_match rule.output)) ≡ true) × ((not (acts group.on_match) || ends rule.output) ≡ true)
          parts = and_parts (not (nat_eq (length rule.output) 0) && not (list_any puts_match rule.output)) (not (acts group.on_match) || ends rule.output) fits

          some : nat_eq (length group.on_nomatch) 0 ≡ false
          some = by_test (nat_eq (length rule.output) 0) (ap (λ (items : List Out). nat_eq (length items) 0) same) (and_parts (not (nat_eq (length rule.output) 0)) (not (list_any puts_match rule.output)) parts.0).0
            where
              by_test : (b : Bool) → nat_eq (length group.on_nomatch) 0 ≡ b → not b ≡ true → nat_eq (length group.on_nomatch) 0 ≡ false
              by_test false is told = is
              by_test true is told = absurd (false_true told)

          after : EventState
          after = act (own_of tables) (enter_here d) nothing (map (tab_output tables.stores) rule.output) (record s { left = without_last 0 s.left })

          after_is : after ≡ act (own_of tables) (enter_here d) nothing (map (tab_output tables.stores) group.on_nomatch) s
          after_is = λ i. act (own_of tables) (enter_here d) nothing (map (tab_output tables.stores) (sym same i)) (record s { left = without_none s.left i })

          by_match : (t : EventState) → IsAlike tables puts (core_act_alone (core_of version tables) (enter_there d) group.on_nomatch c) t → (ends group.on_nomatch ≡ true → t.stopped ≡ true) → IsAlike tables puts (core_act_alone (core_of version tables) (enter_there d) group.on_nomatch c) (act (own_of tables) (enter_here d) nothing (map (tab_output tables.stores) group.on_match) t)
          by_match t alike stops = by_acts (acts group.on_match) refl
            where
              by_acts : (b : Bool) → acts group.on_match ≡ b → IsAlike tables puts (core_act_alone (core_of version tables) (enter_there d) group.on_nomatch c) (act (own_of tables) (enter_here d) nothing (map (tab_output tables.stores) group.on_match) t)
              by_acts false quiet = (quiet_here version tables puts (enter_there d) (enter_here d) nothing group.on_match quiet (core_act_alone (core_of version tables) (enter_there d) group.on_nomatch c) t alike).alike
              by_acts true loud =
                  subst (λ (u : EventState). IsAlike tables puts (core_act_alone (core_of version tables) (enter_there d) group.on_nomatch c) u)
                  (sym (stopped_stays version tables puts (enter_there d) (enter_here d) nothing group.on_match t (stops (ap ends same ∙ ended (acts group.on_match) (ends rule.output) parts.1 loud)))) alike
                where
                  ended : (a b : Bool) → (not a || b) ≡ true → a ≡ true → b ≡ true
                  ended true b told loud = told
                  ended false b told loud = absurd (false_true loud)

          by_end : Ends version tables puts (enter_there d) (enter_here d) changes [] nothing c.last (spent_after [] (live group.on_nomatch) (spent_at k g)) (queued + sum_by (item_effects 0) (live group.on_nomatch)) (nomatch_few queued chain c.last)
              (spent_after [] (live group.on_nomatch) (spent_at k g)) (queued + sum_by (item_effects 0) (live group.on_nomatch)) group.on_nomatch []
              (core_act (core_of version tables) (enter_there d) group.on_nomatch false c) (act (own_of tables) (enter_here d) nothing (map (tab_output tables.stores) group.on_nomatch) s)
              → IsAlike tables puts (core_act_alone (core_of version tables) (enter_there d) group.on_nomatch c) (act (own_of tables) (enter_here d) nothing (map (tab_output tables.stores) group.on_match) (act (own_of tables) (enter_here d) nothing (map (tab_output tables.stores) group.on_nomatch) s))
          by_end (GoesOn alone runs_on on) = by_match (act (own_of tables) (enter_here d) nothing (map (tab_output tables.stores) group.on_nomatch) s) on.alike (λ told. absurd (true_false (sym told ∙ runs_on)))
          by_end (Over alone alike (inl stopped)) = by_match (act (own_of tables) (enter_here d) nothing (map (tab_output tables.stores) group.on_nomatch) s) alike (λ told. stopped)
          by_end (Over alone alike (inr used)) = by_match (act (own_of tables) (enter_here d) nothing (map (tab_output tables.stores) group.on_nomatch) s) alike (λ told. absurd (true_false (sym told ∙ used.1)))

      -- ---- a record is used in both

      module _ (rule : Rule) (place : ℕ) (at : slice_get group.rules place ≡ Some rule) (catches : List Catch) (tried : Tried) (held : CatchesAlike facts c.window rule.context catches tried)
          (untold : IsUntold tables facts known group rule) (found : c.last.places ≡ tried.1) where
        abbrev recalled : LastMatch
        recalled = record { kept = last_items (compared_count rule.context) c.window; skipped = skipped_count version rule.context; places = tried.1 }

        abbrev taken_count : ℕ
        taken_count = compared_count rule.context

        abbrev matched : CoreEvent
        matched = with_match version rule c

        abbrev deleted : EventState
        deleted = record s { left = without_last (length (items_in catches)) s.left }

        writable : IsWritableRule (length tables.stores) (length tables.groups) group.using_keys rule
        writable = all_listed (IsWritableRule (length tables.stores) (length tables.groups) group.using_keys) group.rules place rule group_playable.rules at

        late : has_late_nul rule.context ≡ false
        unfolding has_construct
        late = untold construct.Nul

        offsets : counts_differently rule.context (live rule.output) ≡ false
        unfolding has_construct
        offsets = untold construct.Offset

        values : list_any (sets_from_option facts.options) (live rule.output) ≡ false
        unfolding has_construct
        values = (or_parts (list_any (asks_from_option facts.options) rule.context) (list_any (sets_from_option facts.options) (live rule.output)) (untold construct.Value)).1

        layers : list_any sets_layer (live rule.output) ≡ false
        unfolding has_construct
        layers = (or_parts (list_any asks_layer rule.context) (list_any sets_layer (live rule.output)) (untold construct.Layer)).1

        uses_told : acts_after_use (live rule.output) ≡ false
        unfolding has_construct
        uses_told = untold construct.Use

        match_told_so : ((list_any is_use (live rule.output) && not (ends rule.output)) && acts group.on_match) ≡ false
        unfolding has_construct
        match_told_so = untold construct.Match

        save_told : saves_early facts.changes (played group rule) ≡ false
        unfolding has_construct
        save_told = untold construct.Save

        plain_output : AllOf (IsPlainItem tables.stores puts) (live rule.output)
        plain_output = output_part (IsPlainItem tables.stores puts) plain_items place rule at

        fair_output : AreFairItems tables puts rule.context (plainly catches) recalled (live rule.output)
        fair_output =
            live_fair tables puts whole.clean whole.alone rule.context (plainly catches) recalled rule.output plain_output writable.output.stores values layers
            (matched_fair version tables puts facts rule.context rule.output c.window catches tried late offsets held plain_window writable.offsets plain_output)

        played_is : (b : Bool) → ends rule.output ≡ b → played group rule ≡ live rule.output ++ (if b then [] else live group.on_match)
        played_is true is = played_ended rule.output group.on_match is
        played_is false is = played_on rule.output group.on_match is

        early_output : saves_early changes (live rule.output ++ behind rule.output group.on_match) ≡ false
        early_output = early_here queued chain recalled (live rule.output ++ behind rule.output group.on_match) (ap (saves_early facts.changes) (sym (played_is (ends rule.output) refl)) ∙ save_told)

        behind_part : (P : Out → Type 0) → AllOf P (group_items group) → AllOf P (behind rule.output group.on_match)
        behind_part P all = by_end (ends rule.output)
          where
            by_end : (b : Bool) → AllOf P (if b then [] else live group.on_match)
            by_end true = tt
            by_end false = match_part P all

        unchanged : (n : ℕ) → is_among n c.to_save ≡ true → list_any (changes_option changes n) (live rule.output ++ behind rule.output group.on_match) ≡ false
        unchanged n noted =
            none_of_all (changes_option changes n) (live rule.output ++ behind rule.output group.on_match)
            (all_joined (λ (item : Out). changes_option changes n item ≡ false) (live rule.output) (behind rule.output group.on_match)
            (output_part (λ (item : Out). changes_option changes n item ≡ false) (pending n noted) place rule at) (behind_part (λ (item : Out). changes_option changes n item ≡ false) (pending n noted)))

        room : queued + length rule.context + sum_by (item_effects (length rule.context)) (live rule.output) + sum_by (item_effects 0) (live group.on_match) ≤ queued + group_effects group
        room = rule_fits group place rule queued at (omega (arith, chain.fits))

        abbrev most : ℕ
        most = spent_by facts rule.context (live rule.output) (spent_at k g)

        abbrev least : ℕ
        least = queued + length rule.context + sum_by (item_effects (length rule.context)) (live rule.output)

        few : least ≤ 1024
        few = omega (arith, room, chain.fits)

        match_few : least + sum_by (item_effects 0) (live group.on_match) ≤ 1024
        match_few = omega (arith, room, chain.fits)

        match_for : ends rule.output ≡ false → IsReady version tables puts (enter_there d) (enter_here d) changes [] nothing recalled (spent_after [] (live group.on_match) most) (least + sum_by (item_effects 0) (live group.on_match)) match_few most least group.on_match []
        match_for runs_on = match_ready queued chain recalled place rule at runs_on least match_few (omega (arith, room))

        enters_for : (h : ℕ) → is_among h (flat_map entered (live rule.output)) ≡ true → EntersAlike version tables puts (enter_there d) (enter_here d) changes rule.context (plainly catches) recalled most least few h
        enters_for h in_output e t remembered =
            group_enters most least h (enters_output group place rule h at in_output) (λ less. enters.by_output place rule h at in_output (inside h less))
            (omega (arith, room, chain.fits, entered_most (effects_within d tables.groups) chain.most h (live rule.output) (output_part (λ (item : Out). entered_effects (effects_within d tables.groups) item ≤ chain.most) chain.entered place rule at) in_output)) e t remembered

        kept_size : length (items_in catches) ≡ taken_count
        kept_size =
            ap length held.kept ∙ length-drop (length c.window - taken_count) c.window ∙ back (length c.window) held.inside
          where
            back : (n : ℕ) → taken_count ≤ n → n - (n - taken_count) ≡ taken_count
            back n h = omega arith

        count_fits : taken_count ≤ length rule.context
        count_fits = omega (arith, kept_size, caught_count facts rule.context rule.context catches held.caught, count_by-le-length is_matched rule.context)

        recalled_is : matched.last ≡ recalled
        recalled_is = λ i. record { kept = last_items taken_count c.window; skipped = skipped_count version rule.context; places = found i }

        -- the state after the matched items are deleted
        deleted_going : IsGoing tables puts changes (with_context facts rule.context (spent_at k g)) (queued + length rule.context) (live rule.output ++ behind rule.output group.on_match) recalled (core_back taken_count matched) deleted
        deleted_going =
            subst (λ (e : CoreEvent). IsGoing tables puts changes (with_context facts rule.context (spent_at k g)) (queued + length rule.context) (live rule.output ++ behind rule.output group.on_match) recalled e deleted)
            (sym (back_is taken_count matched (omega (arith, going.queued, count_fits, room, chain.fits))))
            (record {
              alike = record {
                left = (λ i. without_last (sym kept_size i) (going.alike.left i));
                current = going.alike.current;
                saved = same_saves (stores_in tables) c.to_save (record (c.event) { left = without_last taken_count c.event.left }) c.event refl refl ∙ going.alike.saved;
                pass = going.alike.pass;
                plain = unmarked_without (length (items_in catches)) s.left going.alike.plain;
                sound = going.alike.sound;
              };
              going = going.going;
              entered = going.entered;
              seen = seen_now;
              queued = omega (arith, going.queued, count_fits);
              put = omega (arith, going.put);
              remembered = recalled_is;
              noted = going.noted;
              pending = unchanged;
            })
          where
            parts : c.window ≡ take (length c.window - taken_count) c.window ++ items_in catches
            parts = sym (take-append-drop (length c.window - taken_count) c.window) ∙ ap (λ (xs : List Item). take (length c.window - taken_count) c.window ++ xs) (sym held.kept)

            seen_now : Seen (with_context facts rule.context (spent_at k g)) (without_last taken_count c.event.left) (without_last taken_count c.window)
            seen_now =
                subst (λ (n : ℕ). Seen (with_context facts rule.context (spent_at k g)) (without_last n c.event.left) (without_last n c.window)) kept_size
                (seen_more (min 64 (spent_at k g + units (items_in catches))) (with_context facts rule.context (spent_at k g)) (without_last (length (items_in catches)) c.event.left) (without_last (length (items_in catches)) c.window)
                (omega (arith, units_most facts rule.context rule.context catches held.caught))
                (seen_capped (spent_at k g + units (items_in catches)) (without_last (length (items_in catches)) c.event.left) (without_last (length (items_in catches)) c.window)
                (seen_back (spent_at k g) c.event.left c.window (take (length c.window - taken_count) c.window) (items_in catches) parts going.seen)))

        abbrev Done : List Out → Type 0
        Done outputs =
            IsAlike tables puts (then_match (core_of version tables) (enter_there d) group.on_match (core_output (core_of version tables) (enter_there d) outputs taken_count matched))
            (act_if_any (own_of tables) (enter_here d) (output_if_any (map (tab_output tables.stores) group.on_match)) (act (own_of tables) (enter_here d) (plainly catches) (map (tab_output tables.stores) outputs) deleted))

        -- an output that doesn't begin with `context`
        deleting : most ≡ spent_after rule.context (live rule.output) (with_context facts rule.context (spent_at k g))
            → IsAlike tables puts (then_match (core_of version tables) (enter_there d) group.on_match (core_act (core_of version tables) (enter_there d) rule.output false (core_back taken_count matched)))
            (act_if_any (own_of tables) (enter_here d) (output_if_any (map (tab_output tables.stores) group.on_match)) (act (own_of tables) (enter_here d) (plainly catches) (map (tab_output tables.stores) rule.output) deleted))
        deleting spent_is =
            then_alike version tables puts (enter_there d) (enter_here d) changes recalled rule.context (plainly catches) most least few (spent_after [] (live group.on_match) most) (least + sum_by (item_effects 0) (live group.on_match)) match_few
            rule.output group.on_match (with_context facts rule.context (spent_at k g)) (queued + length rule.context) (core_back taken_count matched) deleted
            (record { quiet = uses_told; fair = fair_output; early = early_output; bound = omega (arith, spent_is); room = omega arith; enters = enters_for })
            (λ runs_on. subst (λ (n : ℕ). IsReady version tables puts (enter_there d) (enter_here d) changes [] nothing recalled (spent_after [] (live group.on_match) most) (least + sum_by (item_effects 0) (live group.on_match)) match_few n least group.on_match []) spent_is (match_for runs_on))
            match_told_so deleted_going

        -- items that are put again
        put_again : (items : List Item) (t : EventState) → t.stopped ≡ false → t.put + length items ≤ 1024 → Unmarked t.left → Unmarked items → put_items items t ≡ record t { left = t.left ++ items; put = t.put + length items }
        put_again [] t on few_put plain plain_items_too =
            let same : t.put ≡ t.put + 0 = omega arith in
            λ i. record t { left = sym (append-nil t.left) i; put = same i }
        put_again (x ∷ items) t on few_put plain plain_items_too =
            ap (put_items items) one
            ∙ put_again items (record t { left = t.left ++ x ∷ []; put = t.put + 1 }) on (omega (arith, few_put)) (unmarked_push t.left x plain plain_x) (All-tail (λ item. is_mark item ≡ false) x items plain_items_too)
            ∙ (λ i. record t { left = append_assoc t.left (x ∷ []) items i; put = count i })
          where
            plain_x : is_mark x ≡ false
            plain_x = All-head (λ item. is_mark item ≡ false) x items plain_items_too

            under : (n : ℕ) → n < 4096 → nat_le 4096 n ≡ false
            under n less = grind (arith, leb_tells)

            one : put_item x t ≡ record t { left = t.left ++ x ∷ []; put = t.put + 1 }
            one = λ i. if on i then t else (if under t.put (omega (arith, few_put)) i then record t { stopped = true } else record t { left = put_unmarked t.left x plain plain_x i; put = t.put + 1 })

            count : t.put + 1 + length items ≡ t.put + suc (length items)
            count = omega arith

        plain_kept : Unmarked (items_in catches)
        plain_kept = subst Unmarked (sym held.kept) (All-drop (λ item. is_mark item ≡ false) (length c.window - taken_count) c.window plain_window)

        -- the matched items are the last of the text
        last_is : without_last (length (items_in catches)) s.left ++ items_in catches ≡ s.left
        last_is =
            ap (λ (xs : List Item). without_last (length (items_in catches)) s.left ++ xs) end_is
            ∙ take-append-drop (length s.left - length (items_in catches)) s.left
          where
            end_is : items_in catches ≡ drop (length s.left - length (items_in catches)) s.left
            end_is =
                held.kept
                ∙ sym (last_of_text taken_count going.seen.before c.window held.inside)
                ∙ (λ i. drop (length ((sym going.seen.parts ∙ going.alike.left) i) - sym kept_size i) ((sym going.seen.parts ∙ going.alike.left) i))

        put_back_is : put_items (items_in catches) deleted ≡ record s { put = s.put + length (items_in catches) }
        put_back_is =
            put_again (items_in catches) deleted going.going (omega (arith, going.put, kept_size, count_fits, room, chain.fits)) (unmarked_without (length (items_in catches)) s.left going.alike.plain) plain_kept
            ∙ (λ i. record s { left = last_is i; put = s.put + length (items_in catches) })

        again_going : (rest : List Out) → ((n : ℕ) → is_among n c.to_save ≡ true → list_any (changes_option changes n) rest ≡ false)
            → IsGoing tables puts changes (spent_at k g) (queued + length rule.context) rest recalled matched (record s { put = s.put + length (items_in catches) })
        again_going rest none =
            record {
              alike = record { left = going.alike.left; current = going.alike.current; saved = going.alike.saved; pass = going.alike.pass; plain = going.alike.plain; sound = going.alike.sound };
              going = going.going;
              entered = going.entered;
              seen = going.seen;
              queued = omega (arith, going.queued);
              put = omega (arith, going.put, kept_size, count_fits);
              remembered = recalled_is;
              noted = going.noted;
              pending = none;
            }

        -- an output that begins with `context`, which leaves what was matched
        leaving : (rest : List Out) → rule.output ≡ output.Context ∷ rest → Done (output.Context ∷ rest)
        leaving rest is =
            subst (λ (b : Bool). IsAlike tables puts (then_match (core_of version tables) (enter_there d) group.on_match (core_act (core_of version tables) (enter_there d) rest false matched))
            (act_if_any (own_of tables) (enter_here d) (output_if_any (map (tab_output tables.stores) group.on_match)) (act (own_of tables) (enter_here d) (plainly catches) (map (tab_output tables.stores) rest) (if b then deleted else put_items (items_in catches) deleted)))) (sym going.going)
            (subst (λ (t : EventState). IsAlike tables puts (then_match (core_of version tables) (enter_there d) group.on_match (core_act (core_of version tables) (enter_there d) rest false matched))
            (act_if_any (own_of tables) (enter_here d) (output_if_any (map (tab_output tables.stores) group.on_match)) (act (own_of tables) (enter_here d) (plainly catches) (map (tab_output tables.stores) rest) t))) (sym put_back_is)
            (then_alike version tables puts (enter_there d) (enter_here d) changes recalled rule.context (plainly catches) most least few (spent_after [] (live group.on_match) most) (least + sum_by (item_effects 0) (live group.on_match)) match_few
            rest group.on_match (spent_at k g) (queued + length rule.context) matched (record s { put = s.put + length (items_in catches) })
            (record {
              quiet = ap (λ (items : List Out). acts_after_use (live items)) (sym is) ∙ uses_told;
              fair = (subst (λ (items : List Out). AreFairItems tables puts rule.context (plainly catches) recalled (live items)) is fair_output).1;
              early = ap (λ (items : List Out). saves_early changes (live items ++ behind items group.on_match)) (sym is) ∙ early_output;
              bound = omega (arith, most_is);
              room = omega (arith, least_is, sum_is);
              enters = λ h in_output. enters_for h (ap (λ (items : List Out). is_among h (flat_map entered (live items))) is ∙ in_output);
            })
            (λ runs_on. match_less (match_for (ap ends is ∙ runs_on)))
            (ap (λ (items : List Out). (list_any is_use (live items) && not (ends items)) && acts group.on_match) (sym is) ∙ match_told_so)
            (again_going (live rest ++ behind rest group.on_match) (λ n noted. ap (λ (items : List Out). list_any (changes_option changes n) (live items ++ behind items group.on_match)) (sym is) ∙ unchanged n noted))))
          where
            most_is : most ≡ spent_after rule.context (live rest) (spent_at k g)
            most_is = ap (λ (items : List Out). spent_by facts rule.context (live items) (spent_at k g)) is

            least_is : least ≡ queued + length rule.context + sum_by (item_effects (length rule.context)) (output.Context ∷ live rest)
            least_is = ap (λ (items : List Out). queued + length rule.context + sum_by (item_effects (length rule.context)) (live items)) is

            sum_is : sum_by (item_effects (length rule.context)) (output.Context ∷ live rest) ≡ length rule.context + sum_by (item_effects (length rule.context)) (live rest)
            sum_is = sum_by-cons (item_effects (length rule.context)) output.Context (live rest)

            -- fewer effects are queued before the match output
            match_less : IsReady version tables puts (enter_there d) (enter_here d) changes [] nothing recalled (spent_after [] (live group.on_match) most) (least + sum_by (item_effects 0) (live group.on_match)) match_few most least group.on_match []
                → IsReady version tables puts (enter_there d) (enter_here d) changes [] nothing recalled (spent_after [] (live group.on_match) most) (least + sum_by (item_effects 0) (live group.on_match)) match_few
                (spent_after rule.context (live rest) (spent_at k g)) (queued + length rule.context + sum_by (item_effects (length rule.context)) (live rest)) group.on_match []
            match_less ready =
                record {
                  quiet = ready.quiet;
                  fair = ready.fair;
                  early = ready.early;
                  bound = subst (λ (n : ℕ). spent_after [] (live group.on_match) n ≤ spent_after [] (live group.on_match) most) most_is ready.bound;
                  room = omega (arith, ready.room, least_is, sum_is);
                  enters = ready.enters;
                }

        by_output : (outputs : List Out) → rule.output ≡ outputs → Done outputs
        by_output [] is = subst (λ (outputs : List Out). IsAlike tables puts (then_match (core_of version tables) (enter_there d) group.on_match (core_act (core_of version tables) (enter_there d) outputs false (core_back taken_count matched)))
            (act_if_any (own_of tables) (enter_here d) (output_if_any (map (tab_output tables.stores) group.on_match)) (act (own_of tables) (enter_here d) (plainly catches) (map (tab_output tables.stores) outputs) deleted))) is
            (deleting (ap (λ (items : List Out). spent_by facts rule.context (live items) (spent_at k g)) is ∙ ap (λ (items : List Out). spent_after rule.context (live items) (with_context facts rule.context (spent_at k g))) (sym is)))
        by_output (output.Context ∷ rest) is = leaving rest is
        by_output (item ∷ rest) is = subst (λ (outputs : List Out). IsAlike tables puts (then_match (core_of version tables) (enter_there d) group.on_match (core_act (core_of version tables) (enter_there d) outputs false (core_back taken_count matched)))
            (act_if_any (own_of tables) (enter_here d) (output_if_any (map (tab_output tables.stores) group.on_match)) (act (own_of tables) (enter_here d) (plainly catches) (map (tab_output tables.stores) outputs) deleted))) is
            (deleting (ap (λ (items : List Out). spent_by facts rule.context (live items) (spent_at k g)) is ∙ ap (λ (items : List Out). spent_after rule.context (live items) (with_context facts rule.context (spent_at k g))) (sym is)))

        record_alike : IsAlike tables puts (core_done (core_of version tables) (enter_there d) group.on_match rule c) (own_chosen (tab_rule tables.stores group.using_keys rule, plainly catches))
        record_alike = by_output rule.output refl

    -- ---- the group

    -- what an event has when the group is entered
    module _ (queued : ℕ) (room : queued + effects_at (d + 1) g ≤ 1024) (c : CoreEvent) (s : EventState) (known_last : LastMatch)
        (going : IsGoing tables puts (changes_within (d + 1) tables.groups) (spent_at k g) queued (output.Enter g ∷ []) known_last c s) where
      chain_here : Chain queued d tables.groups group
      chain_here = chain_of queued d tables.groups g group listed room

      abbrev now : CoreEvent
      now = one_more_entered c

      abbrev own_now : EventState
      own_now = record s { entered = s.entered + 1 }

      pending_here : (n : ℕ) → is_among n c.to_save ≡ true → AllOf (λ (item : Out). changes_option changes n item ≡ false) (group_items group)
      pending_here n noted = items_unchanged d tables.groups g n group listed (or_parts (changes_option (changes_within (d + 1) tables.groups) n (output.Enter g)) false (going.pending n noted)).0

      entered_going : (last : LastMatch) → IsGoing tables puts changes (spent_at k g) queued [] last (record now { last = last }) own_now
      entered_going last =
          record {
            alike = alike_remembering tables puts now own_now (entered_alike c s going.alike) last;
            going = going.going;
            entered = ap (λ (n : ℕ). n + 1) going.entered;
            seen = going.seen;
            queued = going.queued;
            put = going.put;
            remembered = refl;
            noted = going.noted;
            pending = λ n noted. refl;
          }

      abbrev with_taken : Taken → CoreEvent
      with_taken taken = do_taken_with (core_of version tables) (enter_there d) press group taken now

      abbrev own_with : Option Chosen → EventState
      own_with chosen = do_group (own_of tables) (enter_here d) press (tab_group tables.stores group) chosen own_now

      abbrev now_content : Content
      now_content = content (stores_in tables) s.current

      by_chosen : (own : Option Chosen) (taken : Taken)
          → ChosenAlike (core_of version tables) tables facts whole.marks now_content (widths_hold tables s.current) (values_hold tables s.current) going.alike.sound.unset known group (length tables.groups) s.left c.window going.alike.plain
          (subst (λ (xs : List Item). Seen known.spent xs c.window) going.alike.left (seen_more (spent_at k g) known.spent c.event.left c.window spent_known going.seen)) press common group.rules own taken
          → IsAlike tables puts (with_taken taken) (own_with own)
      by_chosen own taken (NoneChosen no_own no_taken) =
          subst (λ (o : Option Chosen). IsAlike tables puts (with_taken taken) (own_with o)) (sym no_own)
          (subst (λ (o : Option Rule). IsAlike tables puts (do_taken (core_of version tables) (enter_there d) press group o (with_places taken.1 now)) (own_with None)) (sym no_taken)
          (none_alike queued chain_here (with_places taken.1 now) own_now (entered_going (record (c.last) { places = taken.1 })) pending_here))
      by_chosen own taken (HereChosen rule rest is_own no_taken empties uses converted) =
          subst (λ (o : Option Chosen). IsAlike tables puts (with_taken taken) (own_with o)) (sym is_own)
          (subst (λ (o : Option Rule). IsAlike tables puts (do_taken (core_of version tables) (enter_there d) press group o (with_places taken.1 now)) (own_with (Some (tab_rule tables.stores group.using_keys rule, nothing)))) (sym no_taken)
          (empty_alike queued chain_here (with_places taken.1 now) own_now (entered_going (record (c.last) { places = taken.1 })) pending_here rule rest uses converted))
      by_chosen own taken (BothChosen rule place catches at is_own is_taken held untold) =
          subst (λ (o : Option Chosen). IsAlike tables puts (with_taken taken) (own_with o)) (sym is_own)
          (subst (λ (t : Taken). IsAlike tables puts (with_taken t) (own_with (Some (tab_rule tables.stores group.using_keys rule, plainly catches)))) (sym is_taken)
          (record_alike queued chain_here (with_places (core_holds (core_of version tables) now_content c.window rule.context).1 now) own_now (entered_going (record (c.last) { places = (core_holds (core_of version tables) now_content c.window rule.context).1 })) pending_here
          rule place at catches (core_holds (core_of version tables) now_content c.window rule.context) held untold refl))

      converted_here : group.using_keys ≡ false → known.converted ≡ true → is_nomatch_for group (from_empty group.rules) ≡ true
      converted_here uses told = told

      pub group_alike : IsAlike tables puts (core_in_group (core_of version tables) (enter_there d) press (Some group) now) (in_group (own_of tables) (enter_here d) press (Some (tab_group tables.stores group)) own_now)
      group_alike =
          subst (λ (values : List (List Element)). IsAlike tables puts
          (with_taken (core_choose (λ (rule : Rule). core_holds (core_of version tables) (content (stores_in tables) values) c.window rule.context) (core_takes group press) group.rules c.last.places))
          (own_with (first (holds_with [] now_content s.left press) (map (tab_rule tables.stores group.using_keys) group.rules)))) (sym going.alike.current)
          (by_chosen (first (holds_with [] now_content s.left press) (map (tab_rule tables.stores group.using_keys) group.rules))
          (core_choose (λ (rule : Rule). core_holds (core_of version tables) now_content c.window rule.context) (core_takes group press) group.rules c.last.places)
          (chosen_alike (core_of version tables) tables facts whole.marks now_content (widths_hold tables s.current) (values_hold tables s.current) going.alike.sound.unset known group (length tables.groups) s.left c.window going.alike.plain
          (subst (λ (xs : List Item). Seen known.spent xs c.window) going.alike.left (seen_more (spent_at k g) known.spent c.event.left c.window spent_known going.seen)) press common group.rules c.last.places (whole.rules g group (reached, listed)) group_playable.rules converted_here))

  -- ---- all groups

  pub enters_within : (d k : ℕ) → k + d ≡ 50 → EntersWithin d k
  enters_within zero k depth h among less used room c s known_last going =
      record { left = going.alike.left; current = going.alike.current; saved = going.alike.saved; pass = going.alike.pass; plain = going.alike.plain; sound = going.alike.sound }
  enters_within (suc d) k depth h among less used room c s known_last going = by_group (slice_get tables.groups h) refl (enters_within d (k + 1))
    where
      next : suc d ≡ d + 1
      next = omega arith

      by_group : (o : Option Group) → slice_get tables.groups h ≡ o → (k + 1 + d ≡ 50 → EntersWithin d (k + 1)) → IsAlike tables puts (enter_there (suc d) h c) (enter_here (suc d) (Numbered h) s)
      by_group None none rest = missing_alike (suc d) h c s none going.alike
      by_group (Some group) listed rest =
          subst (λ (o : Option Group). IsAlike tables puts (core_in_group (core_of version tables) (enter_there d) press o (one_more_entered c)) (in_group (own_of tables) (enter_here d) press (slice_get (map (tab_group tables.stores) tables.groups) h) (record s { entered = s.entered + 1 }))) (sym listed)
          (subst (λ (o : Option GroupMeaning). IsAlike tables puts (core_in_group (core_of version tables) (enter_there d) press (Some group) (one_more_entered c)) (in_group (own_of tables) (enter_here d) press o (record s { entered = s.entered + 1 }))) (sym (own_group h (Some group) listed))
          (group_alike d k (omega (arith, depth)) (rest (omega (arith, depth))) h group among listed used (subst (λ (n : ℕ). used + effects_at n h ≤ 1024) next room) c s known_last
          (subst (λ (n : ℕ). IsGoing tables puts (changes_within n tables.groups) (spent_at k h) used (output.Enter h ∷ []) known_last c s) next going)))
