-- An output of which nothing is reported does the same in Keyman's own engine and in this product, if the groups that it enters do.
use Rattle.std.specs.Prelude.{◌≡◌, ℕ, ◌+◌, ◌-◌, ◌≤◌, ◌⊎◌, Bool, true, false, not, ◌&&◌, ◌||◌, nat_le, if◌then◌else◌, List, [], ◌∷◌, ◌++◌, flat_map, length, map, sum_by}
use Rattle.std.specs.List.{list_any}
use Rattle.std.proofs.Common.{refl, sym, ap, ◌∙◌, arith, inl, inr, append-nil}
use Rattle.std.proofs.Math.Path.{subst}
use Rattle.std.proofs.lemmas.Bool.{or_parts}
use Rattle.std.proofs.lemmas.List.Sums.{sum_by-cons}
use Rattle.kmn_base.specs.Rising.{is_among}
use Rattle.rule_model.specs.declared.event_state.Caught.{Caught}
use Rattle.rule_model.specs.declared.event_state.EventState.{EventState}
use Rattle.rule_model.specs.declared.tables.Pat.{Pat}
use Rattle.rule_model.specs.declared.tables.Out.{Out}
use Rattle.rule_model.specs.declared.tables.Out.TheVariants as output
use Rattle.rule_model.specs.declared.tables.Tables.{Tables}
use Rattle.rule_model.specs.Keyboard.{Ref, Numbered}
use Rattle.rule_model.specs.Act.{enter_if_allowed, act_one, act}
use Rattle.rule_model.specs.Enter.{nothing, act_if_any}
use Rattle.rule_model.specs.Tab.{output_if_any, tab_output}
use Rattle.core_meaning.specs.Events.{CoreVersion, LastMatch, CoreEvent}
use Rattle.core_meaning.specs.Outputs.{Entering, Acted, end_output, core_use, behind_use, without_match, core_act_one, core_act, core_act_alone, then_match}
use Rattle.core_constructs.specs.Changes.{changes_option, is_saved_early, saves_early}
use Rattle.core_constructs.specs.Outputs.{acts_after_use, does_something, ends, is_return, is_use, live}
use Rattle.core_constructs.specs.Queued.{item_effects}
use Rattle.core_constructs.specs.Reached.{entered}
use Rattle.core_constructs.specs.Spent.{put_units, spent_after}
use Rattle.core_laws.proofs.Actions.{IsFairItem, act_step}
use Rattle.core_laws.proofs.Alike.{core_of, own_of, IsAlike, IsGoing, going_more}
use Rattle.core_laws.proofs.Rising.{among_left, same_number}

true_false : true ≡ false → ⊥
true_false e = grind arith

false_true : false ≡ true → ⊥
false_true e = grind arith

module _ (tables : Tables) (puts : List ℕ) (c : CoreEvent) (s : EventState) (alike : IsAlike tables puts c s) where
  pub alike_ended : IsAlike tables puts (end_output c) s
  alike_ended = record { left = alike.left; current = alike.current; saved = alike.saved; pass = alike.pass; plain = alike.plain; sound = alike.sound }

  pub alike_stopped : IsAlike tables puts c (record s { stopped = true })
  alike_stopped = record { left = alike.left; current = alike.current; saved = alike.saved; pass = alike.pass; plain = alike.plain; sound = alike.sound }

  pub alike_remembering : (last : LastMatch) → IsAlike tables puts (record c { last = last }) s
  alike_remembering last = record { left = alike.left; current = alike.current; saved = alike.saved; pass = alike.pass; plain = alike.plain; sound = alike.sound }

-- each of these items is fair
abbrev pub AreFairItems : Tables → (puts : List ℕ) → List Pat → Caught → LastMatch → List Out → Type 0
AreFairItems tables puts context caught last [] = Unit {0}
AreFairItems tables puts context caught last (item ∷ items) = IsFairItem tables puts context caught last item × AreFairItems tables puts context caught last items

module _ (version : CoreVersion) (tables : Tables) (puts : List ℕ) (enter_there : Entering) (enter_here : Ref → EventState → EventState) where
  -- ---- outputs that do nothing more

  module _ (caught : Caught) where
    -- a stopped event does nothing more
    pub stopped_stays : (outputs : List Out) (s : EventState) → s.stopped ≡ true → act (own_of tables) enter_here caught (map (tab_output tables.stores) outputs) s ≡ s
    stopped_stays [] s stopped = refl
    stopped_stays (item ∷ outputs) s stopped =
        ap (λ (b : Bool). act (own_of tables) enter_here caught (map (tab_output tables.stores) outputs) (if b then s else act_one (own_of tables) enter_here caught (tab_output tables.stores item) s)) stopped
        ∙ stopped_stays outputs s stopped

    -- both states stay the same, and the event is stopped if the output has a `return`
    pub record StaysAlike (c : CoreEvent) (t : EventState) (ended : Bool) : Type 0 where
      pub alike : IsAlike tables puts c t
      pub stopped : ended ≡ true → t.stopped ≡ true

    after_stop : (outputs : List Out) (c : CoreEvent) (s : EventState) (ended : Bool) → s.stopped ≡ true → IsAlike tables puts c s → StaysAlike c (act (own_of tables) enter_here caught (map (tab_output tables.stores) outputs) s) ended
    after_stop outputs c s ended stopped alike =
        subst (λ (t : EventState). StaysAlike c t ended) (sym (stopped_stays outputs s stopped)) (record { alike = alike; stopped = λ told. stopped })

    pub quiet_here : (outputs : List Out) → list_any does_something (live outputs) ≡ false → (c : CoreEvent) (s : EventState) → IsAlike tables puts c s → StaysAlike c (act (own_of tables) enter_here caught (map (tab_output tables.stores) outputs) s) (ends outputs)
    quiet_here outputs quiet c s alike = by_test s.stopped refl
      where
        going : (outputs : List Out) → list_any does_something (live outputs) ≡ false → s.stopped ≡ false → StaysAlike c (act (own_of tables) enter_here caught (map (tab_output tables.stores) outputs) s) (ends outputs)
        going [] quiet on = record { alike = alike; stopped = λ told. absurd (false_true told) }
        going (output.Nul ∷ outputs) quiet on =
            subst (λ (t : EventState). StaysAlike c (act (own_of tables) enter_here caught (map (tab_output tables.stores) outputs) t) (ends outputs)) (sym (ap (λ (b : Bool). if b then s else s) on)) (going outputs quiet on)
        going (output.Stop ∷ outputs) quiet on =
            subst (λ (t : EventState). StaysAlike c (act (own_of tables) enter_here caught (map (tab_output tables.stores) outputs) t) true) (sym (ap (λ (b : Bool). if b then s else record s { stopped = true }) on))
            (after_stop outputs c (record s { stopped = true }) true refl (alike_stopped tables puts c s alike))
        going (item ∷ outputs) quiet on = absurd (true_false quiet)

        by_test : (b : Bool) → s.stopped ≡ b → StaysAlike c (act (own_of tables) enter_here caught (map (tab_output tables.stores) outputs) s) (ends outputs)
        by_test true on = after_stop outputs c s (ends outputs) on alike
        by_test false on = going outputs quiet on

  pub record IsQuiet (acted : Acted) (s : EventState) : Type 0 where
    pub alike : IsAlike tables puts acted.0 s
    pub alone : acted.1 ≡ false

  quiet_there : (outputs : List Out) → list_any does_something (live outputs) ≡ false → (c : CoreEvent) (s : EventState) → IsAlike tables puts c s → IsQuiet (core_act (core_of version tables) enter_there outputs true c) s
  quiet_there [] quiet c s alike = record { alike = alike; alone = refl }
  quiet_there (output.Nul ∷ outputs) quiet c s alike = quiet_there outputs quiet c s alike
  quiet_there (output.Stop ∷ outputs) quiet c s alike = record { alike = alike_ended tables puts c s alike; alone = refl }
  quiet_there (item ∷ outputs) quiet c s alike = absurd (true_false quiet)

  -- the rest of an output after a `use`, which does nothing
  behind_quiet : (outputs : List Out) → list_any does_something (live outputs) ≡ false → (c : CoreEvent) (s : EventState) → IsAlike tables puts c s → IsQuiet (behind_use (core_act (core_of version tables) enter_there outputs true) c) s
  behind_quiet outputs quiet c s alike = by_test c.ended
    where
      by_test : (b : Bool) → IsQuiet ((if b then without_match else core_act (core_of version tables) enter_there outputs true) c) s
      by_test true = record { alike = alike; alone = refl }
      by_test false = quiet_there outputs quiet c s alike

  -- ---- outputs

  module _ (changes : List (List ℕ)) (context : List Pat) (caught : Caught) (last : LastMatch) (most least : ℕ) (few : least ≤ 1024) where
    -- a group that is entered when at most these units are spent and these effects were queued
    abbrev pub EntersAlike : ℕ → Type 0
    EntersAlike g = (c : CoreEvent) (s : EventState) (known : LastMatch) → IsGoing tables puts changes most least (output.Enter g ∷ []) known c s → IsAlike tables puts (enter_there g c) (enter_here (Numbered g) s)

    abbrev pub AllEnterAlike : List ℕ → Type 0
    AllEnterAlike groups = (g : ℕ) → is_among g groups ≡ true → EntersAlike g

    -- why the match output has no effect in this product
    abbrev pub NoMatch : List Out → EventState → Type 0
    NoMatch outputs s = (s.stopped ≡ true) ⊎ ((list_any is_use (live outputs) ≡ true) × (ends outputs ≡ false))

    -- how an output ends: it goes on to the match output, or does nothing more
    pub data Ends (spent used : ℕ) (outputs more : List Out) (acted : Acted) (s : EventState) : Type 0 where
      GoesOn : acted.1 ≡ true → ends outputs ≡ false → IsGoing tables puts changes spent used more last acted.0 s → Ends spent used outputs more acted s
      Over : acted.1 ≡ false → IsAlike tables puts acted.0 s → NoMatch outputs s → Ends spent used outputs more acted s

    -- what is known of an output before it runs
    pub record IsReady (spent used : ℕ) (outputs more : List Out) : Type 0 where
      pub quiet : acts_after_use (live outputs) ≡ false
      pub fair : AreFairItems tables puts context caught last (live outputs)
      pub early : saves_early changes (live outputs ++ more) ≡ false
      pub bound : spent_after context (live outputs) spent ≤ most
      pub room : used + sum_by (item_effects (length context)) (live outputs) ≤ least
      pub enters : AllEnterAlike (flat_map entered (live outputs))

    abbrev Alike : (spent used : ℕ) → (outputs more : List Out) → CoreEvent → EventState → Type 0
    Alike spent used outputs more c s =
        Ends (spent_after context (live outputs) spent) (used + sum_by (item_effects (length context)) (live outputs)) outputs more
        (core_act (core_of version tables) enter_there outputs false c) (act (own_of tables) enter_here caught (map (tab_output tables.stores) outputs) s)

    later_use : (item : Out) (outputs : List Out) (s : EventState) → is_return item ≡ false → NoMatch outputs s → NoMatch (item ∷ outputs) s
    later_use item outputs s stays (inl stopped) = inl stopped
    later_use item outputs s stays (inr used) = inr (by_return (is_return item) stays, λ i. stays i || used.1 i)
      where
        by_return : (b : Bool) → b ≡ false → list_any is_use (if b then item ∷ [] else item ∷ live outputs) ≡ true
        by_return false told = by_use (is_use item)
          where
            by_use : (b : Bool) → (b || list_any is_use (live outputs)) ≡ true
            by_use true = refl
            by_use false = used.0
        by_return true told = absurd (true_false told)

    ends_behind : (item : Out) (outputs more : List Out) (spent used : ℕ) (acted : Acted) (s : EventState) → is_return item ≡ false → Ends spent used outputs more acted s → Ends spent used (item ∷ outputs) more acted s
    ends_behind item outputs more spent used acted s stays (GoesOn alone runs_on going) = GoesOn alone (λ i. stays i || runs_on i) going
    ends_behind item outputs more spent used acted s stays (Over alone alike none) = Over alone alike (later_use item outputs s stays none)

    -- an item that neither enters a group nor ends the output, and the rest
    next : (item : Out) (outputs more : List Out) → is_use item ≡ false → is_return item ≡ false
        → ((spent used : ℕ) (c : CoreEvent) (s : EventState) → IsReady spent used outputs more → IsGoing tables puts changes spent used (live outputs ++ more) last c s → Alike spent used outputs more c s)
        → (spent used : ℕ) (c : CoreEvent) (s : EventState) → IsFairItem tables puts context caught last item → AreFairItems tables puts context caught last (live outputs)
        → acts_after_use (live outputs) ≡ false → (is_saved_early changes item (live outputs ++ more) || saves_early changes (live outputs ++ more)) ≡ false
        → spent_after context (live outputs) (spent - put_units context item) ≤ most → used + sum_by (item_effects (length context)) (item ∷ live outputs) ≤ least → AllEnterAlike (flat_map entered (live outputs))
        → IsGoing tables puts changes spent used (item ∷ (live outputs ++ more)) last c s
        → Ends (spent_after context (live outputs) (spent - put_units context item)) (used + sum_by (item_effects (length context)) (item ∷ live outputs)) outputs more
        (core_act (core_of version tables) enter_there outputs false (core_act_one (core_of version tables) item c))
        (act (own_of tables) enter_here caught (map (tab_output tables.stores) outputs) (if s.stopped then s else act_one (own_of tables) enter_here caught (tab_output tables.stores item) s))
    next item outputs more no_use no_return rest spent used c s fair fair_rest quiet early bound room enters going =
        subst (λ (b : Bool). Ends (spent_after context (live outputs) (spent - put_units context item)) (used + sum_by (item_effects (length context)) (item ∷ live outputs)) outputs more
        (core_act (core_of version tables) enter_there outputs false (core_act_one (core_of version tables) item c))
        (act (own_of tables) enter_here caught (map (tab_output tables.stores) outputs) (if b then s else act_one (own_of tables) enter_here caught (tab_output tables.stores item) s))) (sym going.going)
        (subst (λ (n : ℕ). Ends (spent_after context (live outputs) (spent - put_units context item)) n outputs more
        (core_act (core_of version tables) enter_there outputs false (core_act_one (core_of version tables) item c))
        (act (own_of tables) enter_here caught (map (tab_output tables.stores) outputs) (act_one (own_of tables) enter_here caught (tab_output tables.stores item) s))) count
        (rest (spent - put_units context item) (used + item_effects (length context) item) (core_act_one (core_of version tables) item c) (act_one (own_of tables) enter_here caught (tab_output tables.stores item) s)
        (record { quiet = quiet; fair = fair_rest; early = parts.1; bound = bound; room = omega (arith, room, sums); enters = enters })
        (act_step version tables puts changes context caught last enter_here spent used item (live outputs ++ more) c s no_use no_return fair (omega (arith, room, sums, few)) parts.0 going)))
      where
        sums : sum_by (item_effects (length context)) (item ∷ live outputs) ≡ item_effects (length context) item + sum_by (item_effects (length context)) (live outputs)
        sums = sum_by-cons (item_effects (length context)) item (live outputs)

        count : used + item_effects (length context) item + sum_by (item_effects (length context)) (live outputs) ≡ used + sum_by (item_effects (length context)) (item ∷ live outputs)
        count = omega (arith, sums)

        parts : (is_saved_early changes item (live outputs ++ more) ≡ false) × (saves_early changes (live outputs ++ more) ≡ false)
        parts = or_parts (is_saved_early changes item (live outputs ++ more)) (saves_early changes (live outputs ++ more)) early

    -- a group is entered
    used_alike : (g : ℕ) (spent used : ℕ) (rest : List Out) (c : CoreEvent) (s : EventState) → spent ≤ most → used ≤ least → EntersAlike g → IsGoing tables puts changes spent used (output.Enter g ∷ rest) last c s
        → IsAlike tables puts (core_use enter_there g c) (enter_if_allowed enter_here (Numbered g) s)
    used_alike g spent used rest c s bound room enters going =
        subst (λ (n : ℕ). IsAlike tables puts ((if nat_le 50 n then end_output else enter_there g) c) (enter_if_allowed enter_here (Numbered g) s)) (sym going.entered) (by_test (nat_le 50 s.entered))
      where
        alone : IsGoing tables puts changes spent used (output.Enter g ∷ []) last c s
        alone =
            record {
              alike = going.alike;
              going = going.going;
              entered = going.entered;
              seen = going.seen;
              queued = going.queued;
              put = going.put;
              remembered = going.remembered;
              noted = going.noted;
              pending = λ n among. λ i. (or_parts (changes_option changes n (output.Enter g)) (list_any (changes_option changes n) rest) (going.pending n among)).0 i || false;
            }

        by_test : (b : Bool) → IsAlike tables puts ((if b then end_output else enter_there g) c) (if b then record s { stopped = true } else enter_here (Numbered g) s)
        by_test true = alike_ended tables puts c (record s { stopped = true }) (alike_stopped tables puts c s going.alike)
        by_test false = enters c s last (going_more tables puts changes spent most used least (output.Enter g ∷ []) last c s bound room alone)

    use_ends : (g : ℕ) (outputs more : List Out) (spent used : ℕ) (c : CoreEvent) (s : EventState) → IsReady spent used (output.Enter g ∷ outputs) more → IsGoing tables puts changes spent used (output.Enter g ∷ (live outputs ++ more)) last c s
        → Alike spent used (output.Enter g ∷ outputs) more c s
    use_ends g outputs more spent used c s ready going =
        subst (λ (b : Bool). Ends spent (used + sum_by (item_effects (length context)) (output.Enter g ∷ live outputs)) (output.Enter g ∷ outputs) more
        (behind_use (core_act (core_of version tables) enter_there outputs true) (core_use enter_there g c))
        (act (own_of tables) enter_here caught (map (tab_output tables.stores) outputs) (if b then s else enter_if_allowed enter_here (Numbered g) s))) (sym going.going)
        (Over there.alone here.alike (by_end (ends outputs) refl))
      where
        parts : (list_any does_something (live outputs) ≡ false) × (acts_after_use (live outputs) ≡ false)
        parts = or_parts (list_any does_something (live outputs)) (acts_after_use (live outputs)) ready.quiet

        entered_now : IsAlike tables puts (core_use enter_there g c) (enter_if_allowed enter_here (Numbered g) s)
        entered_now =
            used_alike g spent used (live outputs ++ more) c s ready.bound (omega (arith, ready.room)) (ready.enters g (among_left g (g ∷ []) (flat_map entered (live outputs)) (λ i. same_number g i || false))) going

        there : IsQuiet (behind_use (core_act (core_of version tables) enter_there outputs true) (core_use enter_there g c)) (enter_if_allowed enter_here (Numbered g) s)
        there = behind_quiet outputs parts.0 (core_use enter_there g c) (enter_if_allowed enter_here (Numbered g) s) entered_now

        here : StaysAlike caught (behind_use (core_act (core_of version tables) enter_there outputs true) (core_use enter_there g c)).0 (act (own_of tables) enter_here caught (map (tab_output tables.stores) outputs) (enter_if_allowed enter_here (Numbered g) s)) (ends outputs)
        here = quiet_here caught outputs parts.0 (behind_use (core_act (core_of version tables) enter_there outputs true) (core_use enter_there g c)).0 (enter_if_allowed enter_here (Numbered g) s) there.alike

        by_end : (b : Bool) → ends outputs ≡ b → NoMatch (output.Enter g ∷ outputs) (act (own_of tables) enter_here caught (map (tab_output tables.stores) outputs) (enter_if_allowed enter_here (Numbered g) s))
        by_end true is = inl (here.stopped is)
        by_end false is = inr (refl, is)

    pub output_alike : (outputs more : List Out) (spent used : ℕ) (c : CoreEvent) (s : EventState) → IsReady spent used outputs more → IsGoing tables puts changes spent used (live outputs ++ more) last c s → Alike spent used outputs more c s
    output_alike [] more spent used c s ready going = GoesOn refl refl (going_more tables puts changes spent spent used (used + 0) more last c s (omega arith) (omega arith) going)
    output_alike (output.Stop ∷ outputs) more spent used c s ready going =
        subst (λ (b : Bool). Ends (spent - 0) (used + sum_by (item_effects (length context)) (output.Stop ∷ [])) (output.Stop ∷ outputs) more (without_match (end_output c))
        (act (own_of tables) enter_here caught (map (tab_output tables.stores) outputs) (if b then s else record s { stopped = true }))) (sym going.going)
        (subst (λ (t : EventState). Ends (spent - 0) (used + sum_by (item_effects (length context)) (output.Stop ∷ [])) (output.Stop ∷ outputs) more (without_match (end_output c)) t)
        (sym (stopped_stays caught outputs (record s { stopped = true }) refl))
        (Over refl (alike_ended tables puts c (record s { stopped = true }) (alike_stopped tables puts c s going.alike)) (inl refl)))
    output_alike (output.Enter g ∷ outputs) more spent used c s ready going = use_ends g outputs more spent used c s ready going
    output_alike (item ∷ outputs) more spent used c s ready going =
        ends_behind item outputs more (spent_after context (live outputs) (spent - put_units context item)) (used + sum_by (item_effects (length context)) (item ∷ live outputs)) _ _ refl
        (next item outputs more refl refl (output_alike outputs more) spent used c s ready.fair.0 ready.fair.1 ready.quiet ready.early ready.bound ready.room ready.enters going)

    -- however an output ends, both states are the same
    pub ends_alike : (spent used : ℕ) (outputs more : List Out) (acted : Acted) (s : EventState) → Ends spent used outputs more acted s → IsAlike tables puts acted.0 s
    ends_alike spent used outputs more acted s (GoesOn alone runs_on going) = going.alike
    ends_alike spent used outputs more acted s (Over alone alike none) = alike

-- ---- an output and the match output after it

-- the items of the match output that run after an output
abbrev pub behind : List Out → List Out → List Out
behind outputs on_match = if ends outputs then [] else live on_match

pub if_any : (tables : Tables) (enter : Ref → EventState → EventState) (outputs : List Out) (s : EventState)
    → act_if_any (own_of tables) enter (output_if_any (map (tab_output tables.stores) outputs)) s ≡ act (own_of tables) enter nothing (map (tab_output tables.stores) outputs) s
if_any tables enter [] s = refl
if_any tables enter (item ∷ outputs) s = refl

module _ (version : CoreVersion) (tables : Tables) (puts : List ℕ) (enter_there : Entering) (enter_here : Ref → EventState → EventState) (changes : List (List ℕ)) (last : LastMatch) where
  -- what is known of a match output, given the units that are spent and the effects that are queued before it
  abbrev pub IsMatchReady : (most least spent used : ℕ) → least ≤ 1024 → List Out → Type 0
  IsMatchReady most least spent used few on_match = IsReady version tables puts enter_there enter_here changes [] nothing last most least few spent used on_match []

  abbrev on_match_alone : List Out → EventState → EventState
  on_match_alone on_match s = act_if_any (own_of tables) enter_here (output_if_any (map (tab_output tables.stores) on_match)) s

  -- an output without the context of a record
  pub alone_alike : (most least spent used : ℕ) (few : least ≤ 1024) (outputs : List Out) (c : CoreEvent) (s : EventState) → IsMatchReady most least spent used few outputs → IsGoing tables puts changes spent used (live outputs) last c s
      → IsAlike tables puts (core_act_alone (core_of version tables) enter_there outputs c) (act (own_of tables) enter_here nothing (map (tab_output tables.stores) outputs) s)
  alone_alike most least spent used few outputs c s ready going =
      ends_alike version tables puts enter_there enter_here changes [] nothing last most least few (spent_after [] (live outputs) spent) (used + sum_by (item_effects 0) (live outputs)) outputs [] _ _
      (output_alike version tables puts enter_there enter_here changes [] nothing last most least few outputs [] spent used c s ready
      (subst (λ (items : List Out). IsGoing tables puts changes spent used items last c s) (sym (append-nil (live outputs))) going))

  module _ (context : List Pat) (caught : Caught) (most least : ℕ) (few : least ≤ 1024) (match_most match_least : ℕ) (match_few : match_least ≤ 1024) where
    pub then_alike : (outputs on_match : List Out) (spent used : ℕ) (c : CoreEvent) (s : EventState)
        → IsReady version tables puts enter_there enter_here changes context caught last most least few spent used outputs (behind outputs on_match)
        → (ends outputs ≡ false → IsMatchReady match_most match_least (spent_after context (live outputs) spent) (used + sum_by (item_effects (length context)) (live outputs)) match_few on_match)
        → ((list_any is_use (live outputs) && not (ends outputs)) && list_any does_something (live on_match)) ≡ false
        → IsGoing tables puts changes spent used (live outputs ++ behind outputs on_match) last c s
        → IsAlike tables puts (then_match (core_of version tables) enter_there on_match (core_act (core_of version tables) enter_there outputs false c))
        (on_match_alone on_match (act (own_of tables) enter_here caught (map (tab_output tables.stores) outputs) s))
    then_alike outputs on_match spent used c s ready match_ready unmatched going =
        subst (λ (t : EventState). IsAlike tables puts (then_match (core_of version tables) enter_there on_match (core_act (core_of version tables) enter_there outputs false c)) t)
        (sym (if_any tables enter_here on_match (act (own_of tables) enter_here caught (map (tab_output tables.stores) outputs) s)))
        (by_end (core_act (core_of version tables) enter_there outputs false c) (act (own_of tables) enter_here caught (map (tab_output tables.stores) outputs) s)
        (output_alike version tables puts enter_there enter_here changes context caught last most least few outputs (behind outputs on_match) spent used c s ready going))
      where
        by_end : (acted : Acted) (t : EventState)
            → Ends version tables puts enter_there enter_here changes context caught last most least few (spent_after context (live outputs) spent) (used + sum_by (item_effects (length context)) (live outputs)) outputs (behind outputs on_match) acted t
            → IsAlike tables puts (then_match (core_of version tables) enter_there on_match acted) (act (own_of tables) enter_here nothing (map (tab_output tables.stores) on_match) t)
        by_end acted t (GoesOn alone runs_on on) =
            subst (λ (b : Bool). IsAlike tables puts ((if b then core_act_alone (core_of version tables) enter_there on_match else (λ (c : CoreEvent). c)) acted.0) (act (own_of tables) enter_here nothing (map (tab_output tables.stores) on_match) t)) (sym alone)
            (alone_alike match_most match_least (spent_after context (live outputs) spent) (used + sum_by (item_effects (length context)) (live outputs)) match_few on_match acted.0 t (match_ready runs_on)
            (subst (λ (b : Bool). IsGoing tables puts changes (spent_after context (live outputs) spent) (used + sum_by (item_effects (length context)) (live outputs)) (if b then [] else live on_match) last acted.0 t) runs_on on))
        by_end acted t (Over alone alike none) =
            subst (λ (b : Bool). IsAlike tables puts ((if b then core_act_alone (core_of version tables) enter_there on_match else (λ (c : CoreEvent). c)) acted.0) (act (own_of tables) enter_here nothing (map (tab_output tables.stores) on_match) t)) (sym alone)
            (by_reason none)
          where
            quiet : (a b d : Bool) → ((a && not b) && d) ≡ false → a ≡ true → b ≡ false → d ≡ false
            quiet true false d told used runs_on = told
            quiet true true d told used runs_on = absurd (true_false runs_on)
            quiet false b d told used runs_on = absurd (false_true used)

            by_reason : (t.stopped ≡ true) ⊎ ((list_any is_use (live outputs) ≡ true) × (ends outputs ≡ false)) → IsAlike tables puts acted.0 (act (own_of tables) enter_here nothing (map (tab_output tables.stores) on_match) t)
            by_reason (inl stopped) = subst (λ (u : EventState). IsAlike tables puts acted.0 u) (sym (stopped_stays version tables puts enter_there enter_here nothing on_match t stopped)) alike
            by_reason (inr used) =
                (quiet_here version tables puts enter_there enter_here nothing on_match (quiet (list_any is_use (live outputs)) (ends outputs) (list_any does_something (live on_match)) unmatched used.0 used.1) acted.0 t alike).alike
