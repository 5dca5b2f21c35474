-- Keyman's own engine and this product use the same record of a group of which nothing is reported.
use Rattle.std.specs.Prelude.{◌≡◌, ℕ, suc, ◌-◌, ◌<◌, Bool, true, false, not, ◌&&◌, ◌||◌, nat_eq, nat_le, slice_get, if◌then◌else◌, List, [], ◌∷◌, length, map, drop, Option, Some, None}
use Rattle.std.specs.List.{All, list_all, list_any}
use Rattle.std.proofs.Common.{refl, sym, ap, ◌∙◌, arith}
use Rattle.std.proofs.Math.Path.{subst}
use Rattle.std.proofs.lemmas.Bool.{or_parts, and_parts}
use Rattle.std.proofs.lemmas.Bool.Decides.{leb_tells, nat_tests}
use Rattle.std.proofs.lemmas.List.{drop_all}
use Rattle.std.proofs.lemmas.List.Elements.{All-head, All-tail}
use Rattle.kmn_base.specs.declared.items.Item.{Item}
use Rattle.kmn_base.specs.declared.keys.KeyPress.{KeyPress}
use Rattle.kmn_base.specs.declared.keys.RuleKey.{RuleKey}
use Rattle.kmn_base.specs.declared.keys.RuleKey.TheVariants as key
use Rattle.virtual_keys.specs.Fits.{has, has_either, left_control, right_control, either_control, left_alt, right_alt, either_alt, shift, key_fits}
use Rattle.rule_model.specs.declared.event_state.Catch.{Catch}
use Rattle.rule_model.specs.declared.event_state.Caught.{Caught}
use Rattle.rule_model.specs.declared.tables.Pat.{Pat}
use Rattle.rule_model.specs.declared.tables.Group.{Group}
use Rattle.rule_model.specs.declared.tables.Rule.{Rule}
use Rattle.rule_model.specs.declared.tables.Tables.{Tables}
use Rattle.rule_model.specs.Keyboard.{Platform}
use Rattle.rule_model.specs.Match.{Content, catches_from}
use Rattle.rule_model.specs.Hold.{is_true, has_room, pattern_count, caught_by, holds_with}
use Rattle.rule_model.specs.Choose.{Chosen, first_with, first}
use Rattle.rule_model.specs.Enter.{nothing}
use Rattle.rule_model.specs.Tab.{tab_pattern, tab_rule}
use Rattle.kmx_format.specs.Writable.{IsWritableRule}
use Rattle.core_meaning.specs.Events.{CoreKeyboard}
use Rattle.core_meaning.specs.Keys.{core_key_fits}
use Rattle.core_meaning.specs.Laws.{IsCommonKey, IsCommonPress}
use Rattle.core_meaning.specs.Contexts.{Tried, Taken, core_holds, core_takes, core_choose}
use Rattle.core_meaning.specs.ContextLaws.{stated_platform, caught_of}
use Rattle.core_meaning.proofs.KeysAlike.{common_keys_fit_alike}
use Rattle.core_constructs.specs.declared.construct.Construct.{Construct}
use Rattle.core_constructs.specs.declared.construct.Construct.TheVariants as construct
use Rattle.core_constructs.specs.declared.facts.Facts.{Facts}
use Rattle.core_constructs.specs.declared.facts.GroupFacts.{GroupFacts}
use Rattle.core_constructs.specs.Contexts.{asks_from_option, asks_layer, asks_unput}
use Rattle.core_constructs.specs.Empty.{from_empty, has_empty_context, is_nomatch_for}
use Rattle.core_constructs.specs.Keys.{has_both_sides, is_alt_graph}
use Rattle.core_constructs.specs.Outputs.{live, sets_from_option, sets_layer}
use Rattle.core_constructs.specs.Records.{has_construct, is_passed_over}
use Rattle.core_laws.proofs.Caught.{HasWidths}
use Rattle.core_laws.proofs.Contexts.{HasValues}
use Rattle.core_laws.proofs.Holds.{IsFairContext, CatchesAlike, HeldAlike, held_alike, unput_not_caught}
use Rattle.core_laws.proofs.Marks.{Unmarked}
use Rattle.core_laws.proofs.Windows.{Seen}

true_false : true ≡ false → ⊥
true_false e = grind arith

false_true : false ≡ true → ⊥
false_true e = grind arith

-- ---- records of which nothing is reported

-- a record has no construct
abbrev pub IsUntold : Tables → Facts → GroupFacts → Group → Rule → Type 0
IsUntold tables facts known group rule = (told : Construct) → has_construct told tables facts known group rule ≡ false

-- the same of a record that can match
abbrev pub IsFairRule : Tables → Facts → GroupFacts → Group → Rule → Type 0
IsFairRule tables facts known group rule = list_any (asks_unput facts.marks) rule.context ≡ false → IsUntold tables facts known group rule

abbrev pub AreFairRules : Tables → Facts → GroupFacts → Group → List Rule → Type 0
AreFairRules tables facts known group [] = Unit {0}
AreFairRules tables facts known group (rule ∷ rules) = IsFairRule tables facts known group rule × AreFairRules tables facts known group rules

module _ (tables : Tables) (facts : Facts) (known : GroupFacts) (group : Group) (rule : Rule) (untold : IsUntold tables facts known group rule) where
  pub untold_context : (groups : ℕ) → IsWritableRule (length tables.stores) groups group.using_keys rule → IsFairContext facts tables.stores (length tables.stores) known.spent (live rule.output) rule.context
  unfolding has_construct
  untold_context groups writable =
      record {
        late = untold construct.Nul;
        offsets = untold construct.Offset;
        short = untold construct.Long;
        layer = (or_parts (list_any asks_layer rule.context) (list_any sets_layer (live rule.output)) (untold construct.Layer)).0;
        platform = untold construct.Platform;
        value = (or_parts (list_any (asks_from_option facts.options) rule.context) (list_any (sets_from_option facts.options) (live rule.output)) (untold construct.Value)).0;
        writable = writable.context;
      }

  -- LCTRL RALT without SHIFT is reported, or has CTRL or ALT too, which is reported with a side
  alt_gr : (lc ra rc la sh either : Bool) → (either && ((lc || rc) || (la || ra))) ≡ false → (((lc && ra) && not (rc || la)) && not (sh || either)) ≡ false → (lc && ra && not rc && not la && not sh) ≡ false
  alt_gr false ra rc la sh either sides right = refl
  alt_gr true false rc la sh either sides right = refl
  alt_gr true true true la sh either sides right = refl
  alt_gr true true false true sh either sides right = refl
  alt_gr true true false false true either sides right = refl
  alt_gr true true false false false true sides right = absurd (true_false sides)
  alt_gr true true false false false false sides right = absurd (true_false right)

  common_key : (wanted : RuleKey) → has_both_sides wanted ≡ false → is_alt_graph wanted ≡ false → IsCommonKey wanted
  common_key key.Any sides right = tt
  common_key (key.Char c) sides right = tt
  common_key (key.Virtual flags code) sides right =
      record {
        sides = sides;
        right = alt_gr (has flags left_control) (has flags right_alt) (has flags right_control) (has flags left_alt) (has flags shift) (has_either flags either_control either_alt) sides right;
      }

  pub untold_key : IsCommonKey rule.key
  unfolding has_construct
  untold_key = common_key rule.key (untold construct.Sides) (untold construct.Right)

  pub untold_empty : is_passed_over known.converted group rule ≡ false
  unfolding has_construct
  untold_empty = untold construct.Empty

and_false : (a : Bool) → (a && false) ≡ false
and_false true = refl
and_false false = refl

-- ---- one record

abbrev pub plainly : List Catch → Caught
plainly catches = record { catches = catches; key_place = None }

module _ (kb : CoreKeyboard) (tables : Tables) (facts : Facts) (marks : facts.marks ≡ []) (content : Content) (widths : HasWidths facts (length tables.stores) content)
    (values : HasValues facts.options (length tables.stores) tables.stores content) (unset : content Platform ≡ stated_platform)
    (known : GroupFacts) (group : Group) (group_count : ℕ) (left window : List Item) (plain : Unmarked left) (seen : Seen known.spent left window) (press : KeyPress) (common : IsCommonPress press) where
  abbrev here : Rule → Option Caught
  here rule = holds_with [] content left press (tab_rule tables.stores group.using_keys rule)

  abbrev there : Rule → Tried
  there rule = core_holds kb content window rule.context

  -- a record holds in none of both, or in both, with the same catches; or only here, with an empty context in a group without keys
  pub data RuleAlike (rule : Rule) (o : Option Caught) : Type 0 where
    Neither : o ≡ None → ((there rule).0 && core_takes group press rule) ≡ false → (group.using_keys ≡ false → has_empty_context rule ≡ false) → RuleAlike rule o
    Both : (catches : List Catch) → o ≡ Some (plainly catches) → CatchesAlike facts window rule.context catches (there rule) → core_takes group press rule ≡ true → IsUntold tables facts known group rule → RuleAlike rule o
    Here : o ≡ Some nothing → group.using_keys ≡ false → has_empty_context rule ≡ true → core_takes group press rule ≡ false → IsUntold tables facts known group rule → RuleAlike rule o

  any_fits : key_fits key.Any press ≡ true
  unfolding key_fits
  any_fits = refl

  abbrev wanted : Rule → RuleKey
  wanted rule = if group.using_keys then rule.key else key.Any

  by_parts : (b : Bool) (o : Option (List Catch)) (place : Option (Option ℕ)) → (if b then caught_by o place else None) ≡ caught_by (if b then o else None) place
  by_parts true o place = refl
  by_parts false o place = refl

  -- what is caught here, by the context and the key
  abbrev caught_with : Option (List Catch) → Bool → Option Caught
  caught_with o fits = caught_by o (if fits then Some None else None)

  here_is : (rule : Rule) → here rule ≡ caught_with (caught_of content (map (tab_pattern tables.stores) rule.context) left) (key_fits (wanted rule) press)
  here_is rule =
      by_parts (list_all (is_true content) (map (tab_pattern tables.stores) rule.context) && has_room (map (tab_pattern tables.stores) rule.context) left)
      (catches_from content [] (map (tab_pattern tables.stores) rule.context) (drop (length left - pattern_count (map (tab_pattern tables.stores) rule.context)) left))
      (if key_fits (wanted rule) press then Some None else None)

  -- a record that is taken where its key fits
  by_key : (rule : Rule) → IsUntold tables facts known group rule → (group.using_keys ≡ false → has_empty_context rule ≡ false) → (fits : Bool) → core_takes group press rule ≡ fits → (o : Option (List Catch)) → HeldAlike facts window rule.context o (there rule) → RuleAlike rule (caught_with o fits)
  by_key rule untold some fits takes None held = Neither refl (λ i. held i && core_takes group press rule) some
  by_key rule untold some true takes (Some catches) held = Both catches refl held takes untold
  by_key rule untold some false takes (Some catches) held = Neither refl (ap (λ (b : Bool). (there rule).0 && b) takes ∙ and_false (there rule).0) some

  no_items : (ps : List Pat) → nat_eq (length ps) 0 ≡ true → ps ≡ []
  no_items [] none = refl
  no_items (p ∷ ps) none = absurd (none_left (length (p ∷ ps)) none (omega arith))
    where
      none_left : (n : ℕ) → nat_eq n 0 ≡ true → 0 < n → ⊥
      none_left n e less = grind (arith, nat_tests)

  -- an empty context catches nothing
  caught_nothing : (context : List Pat) → context ≡ [] → caught_of content (map (tab_pattern tables.stores) context) left ≡ Some []
  caught_nothing context none =
      ap (λ (ps : List Pat). caught_of content (map (tab_pattern tables.stores) ps) left) none
      ∙ (λ i. if at_least (length left) i then catches_from content [] [] (drop_all (length left - 0) left (omega arith) i) else None)
    where
      at_least : (n : ℕ) → nat_le 0 n ≡ true
      at_least n = grind (arith, leb_tells)

  with_keys : (rule : Rule) → IsUntold tables facts known group rule → (o : Option (List Catch)) → caught_of content (map (tab_pattern tables.stores) rule.context) left ≡ o → HeldAlike facts window rule.context o (there rule)
      → (keys : Bool) → group.using_keys ≡ keys → RuleAlike rule (caught_with o (key_fits (if keys then rule.key else key.Any) press))
  with_keys rule untold o is_caught held true uses =
      by_key rule untold (λ told. absurd (true_false (sym uses ∙ told))) (key_fits rule.key press)
      (ap (λ (b : Bool). if b then core_key_fits rule.key press else not (nat_eq (length rule.context) 0)) uses ∙ common_keys_fit_alike rule.key press (untold_key tables facts known group rule untold) common) o held
  with_keys rule untold o is_caught held false uses =
      subst (λ (b : Bool). RuleAlike rule (caught_with o b)) (sym any_fits) (by_empty (has_empty_context rule) refl)
    where
      takes : core_takes group press rule ≡ not (has_empty_context rule)
      takes = ap (λ (b : Bool). if b then core_key_fits rule.key press else not (nat_eq (length rule.context) 0)) uses

      by_empty : (b : Bool) → has_empty_context rule ≡ b → RuleAlike rule (caught_with o true)
      by_empty false is = by_key rule untold (λ told. is) true (takes ∙ (λ i. not (is i))) o held
      by_empty true is = Here (ap (λ (o : Option (List Catch)). caught_with o true) (sym is_caught ∙ caught_nothing rule.context (no_items rule.context is))) uses is (takes ∙ (λ i. not (is i))) untold

  rule_alike : (rule : Rule) → IsFairRule tables facts known group rule → IsWritableRule (length tables.stores) group_count group.using_keys rule → RuleAlike rule (here rule)
  rule_alike rule fair writable = subst (RuleAlike rule) (sym (here_is rule)) (by_test (list_any (asks_unput facts.marks) rule.context) refl)
    where
      caught : Option (List Catch)
      caught = caught_of content (map (tab_pattern tables.stores) rule.context) left

      held : HeldAlike facts window rule.context caught (there rule)
      held =
          held_alike kb facts marks tables.stores (length tables.stores) content widths values unset known.spent (live rule.output) left window plain seen rule.context writable.context.stores
          (λ told. untold_context tables facts known group rule (fair told) group_count writable)

      some_item : (ps : List Pat) → list_any (asks_unput facts.marks) ps ≡ true → nat_eq (length ps) 0 ≡ false
      some_item [] some = absurd (false_true some)
      some_item (p ∷ ps) some = more (length ps)
        where
          more : (n : ℕ) → nat_eq (suc n) 0 ≡ false
          more n = grind (arith, nat_tests)

      unput : list_any (asks_unput facts.marks) rule.context ≡ true → (o : Option (List Catch)) → caught ≡ o → HeldAlike facts window rule.context o (there rule) → RuleAlike rule (caught_with o (key_fits (wanted rule) press))
      unput told None is held = Neither refl (λ i. held i && core_takes group press rule) (λ keys. some_item rule.context told)
      unput told (Some catches) is held =
          absurd (unput_not_caught kb facts tables.stores (length tables.stores) content widths rule.context writable.context.stores (ap (λ (ms : List ℕ). list_any (asks_unput ms) rule.context) (sym marks) ∙ told) known.spent left window plain seen catches is)

      by_test : (b : Bool) → list_any (asks_unput facts.marks) rule.context ≡ b → RuleAlike rule (caught_with caught (key_fits (wanted rule) press))
      by_test true told = unput told caught refl held
      by_test false told = with_keys rule (fair told) caught refl held group.using_keys refl

  -- ---- the record that is used

  -- none is used in both, or the same; or one only here, with an empty context, after which all contexts are empty
  pub data ChosenAlike (rules : List Rule) (own : Option Chosen) (taken : Taken) : Type 0 where
    NoneChosen : own ≡ None → taken.0 ≡ None → ChosenAlike rules own taken
    BothChosen : (rule : Rule) (place : ℕ) (catches : List Catch) → slice_get rules place ≡ Some rule → own ≡ Some (tab_rule tables.stores group.using_keys rule, plainly catches) → taken ≡ (Some rule, (there rule).1)
        → CatchesAlike facts window rule.context catches (there rule) → IsUntold tables facts known group rule → ChosenAlike rules own taken
    HereChosen : (rule : Rule) (rest : List Rule) → own ≡ Some (tab_rule tables.stores group.using_keys rule, nothing) → taken.0 ≡ None → from_empty rules ≡ rule ∷ rest → group.using_keys ≡ false
        → is_nomatch_for group (rule ∷ rest) ≡ true → ChosenAlike rules own taken

  abbrev own_first : List Rule → Option Chosen
  own_first rules = first (holds_with [] content left press) (map (tab_rule tables.stores group.using_keys) rules)

  abbrev core_first : List Rule → List ℕ → Taken
  core_first rules places = core_choose there (core_takes group press) rules places

  -- records with an empty context are never taken without keys
  none_taken : (rules : List Rule) (places : List ℕ) → group.using_keys ≡ false → list_all has_empty_context rules ≡ true → (core_first rules places).0 ≡ None
  none_taken [] places keys empty = refl
  none_taken (rule ∷ rules) places keys empty =
      ap (λ (b : Bool). ((if b then (λ (places : List ℕ). (Some rule, places)) else core_choose there (core_takes group press) rules) (there rule).1).0) test
      ∙ none_taken rules (there rule).1 keys parts.1
    where
      parts : (has_empty_context rule ≡ true) × (list_all has_empty_context rules ≡ true)
      parts = and_parts (has_empty_context rule) (list_all has_empty_context rules) empty

      test : ((there rule).0 && core_takes group press rule) ≡ false
      test = ap (λ (b : Bool). (there rule).0 && b) (ap (λ (b : Bool). if b then core_key_fits rule.key press else not (nat_eq (length rule.context) 0)) keys ∙ (λ i. not (parts.0 i))) ∙ and_false (there rule).0

  -- where records with an empty context are not passed over, the nomatch output does what the first of them does
  abbrev IsConverted : List Rule → Type 0
  IsConverted rules = group.using_keys ≡ false → known.converted ≡ true → is_nomatch_for group (from_empty rules) ≡ true

  behind_rule : (rule : Rule) (rules : List Rule) (own : Option Chosen) (taken : Taken) → (group.using_keys ≡ false → has_empty_context rule ≡ false) → ChosenAlike rules own taken → ChosenAlike (rule ∷ rules) own taken
  behind_rule rule rules own taken some (NoneChosen here_none there_none) = NoneChosen here_none there_none
  behind_rule rule rules own taken some (BothChosen chosen place catches listed is_own is_taken alike untold) = BothChosen chosen (suc place) catches listed is_own is_taken alike untold
  behind_rule rule rules own taken some (HereChosen chosen rest is_own is_taken empties keys converted) =
      HereChosen chosen rest is_own is_taken ((λ i. if some keys i then rule ∷ rules else from_empty rules) ∙ empties) keys converted

  pub chosen_alike : (rules : List Rule) (places : List ℕ) → AreFairRules tables facts known group rules → All (IsWritableRule (length tables.stores) group_count group.using_keys) rules → IsConverted rules
      → ChosenAlike rules (own_first rules) (core_first rules places)
  chosen_alike [] places fair writable converted = NoneChosen refl refl
  chosen_alike (rule ∷ rules) places fair writable converted =
      by_rule (here rule) (rule_alike rule fair.0 (All-head (IsWritableRule (length tables.stores) group_count group.using_keys) rule rules writable))
      (λ later. chosen_alike rules (there rule).1 fair.1 (All-tail (IsWritableRule (length tables.stores) group_count group.using_keys) rule rules writable) later)
    where
      by_rule : (o : Option Caught) → RuleAlike rule o → (IsConverted rules → ChosenAlike rules (own_first rules) (core_first rules (there rule).1))
          → ChosenAlike (rule ∷ rules) (first_with (tab_rule tables.stores group.using_keys rule) o (own_first rules)) (core_first (rule ∷ rules) places)
      by_rule o (Neither none test some) rest =
          subst (λ (o : Option Caught). ChosenAlike (rule ∷ rules) (first_with (tab_rule tables.stores group.using_keys rule) o (own_first rules)) (core_first (rule ∷ rules) places)) (sym none)
          (subst (λ (b : Bool). ChosenAlike (rule ∷ rules) (own_first rules) ((if b then (λ (places : List ℕ). (Some rule, places)) else core_choose there (core_takes group press) rules) (there rule).1)) (sym test)
          (behind_rule rule rules (own_first rules) (core_first rules (there rule).1) some
          (rest (λ keys told. ap (λ (rs : List Rule). is_nomatch_for group rs) (sym (λ i. if some keys i then rule ∷ rules else from_empty rules)) ∙ converted keys told))))
      by_rule o (Both catches is held takes untold) rest =
          BothChosen rule 0 catches refl (ap (λ (o : Option Caught). first_with (tab_rule tables.stores group.using_keys rule) o (own_first rules)) is)
          (ap (λ (b : Bool). (if b then (λ (places : List ℕ). (Some rule, places)) else core_choose there (core_takes group press) rules) (there rule).1) (λ i. held.held i && takes i)) held untold
      by_rule o (Here is keys empty takes untold) rest =
          HereChosen rule rules (ap (λ (o : Option Caught). first_with (tab_rule tables.stores group.using_keys rule) o (own_first rules)) is)
          (ap (λ (b : Bool). ((if b then (λ (places : List ℕ). (Some rule, places)) else core_choose there (core_takes group press) rules) (there rule).1).0) (ap (λ (b : Bool). (there rule).0 && b) takes ∙ and_false (there rule).0)
          ∙ none_taken rules (there rule).1 keys all_empty)
          empties keys nomatch
        where
          empties : from_empty (rule ∷ rules) ≡ rule ∷ rules
          empties = λ i. if empty i then rule ∷ rules else from_empty rules

          is_converted : known.converted ≡ true
          is_converted = by_tests group.using_keys (has_empty_context rule) known.converted (untold_empty tables facts known group rule untold) keys empty
            where
              by_tests : (a b d : Bool) → ((not a && b) && not d) ≡ false → a ≡ false → b ≡ true → d ≡ true
              by_tests false true true told one two = refl
              by_tests false true false told one two = absurd (true_false told)
              by_tests false false d told one two = absurd (false_true two)
              by_tests true b d told one two = absurd (true_false one)

          nomatch : is_nomatch_for group (rule ∷ rules) ≡ true
          nomatch = ap (is_nomatch_for group) (sym empties) ∙ converted keys is_converted

          all_empty : list_all has_empty_context rules ≡ true
          all_empty = first_of_three (list_all has_empty_context rules) _ _ nomatch
            where
              first_of_three : (a b d : Bool) → ((a && b) && d) ≡ true → a ≡ true
              first_of_three true b d told = refl
              first_of_three false b d told = told
