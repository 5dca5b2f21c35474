-- The rule whose output becomes the nomatch output of its group.
use Rattle.std.proofs.Common.{◌≡◌, ℕ, suc, ◌+◌, ◌-◌, ◌<◌, Bool, true, false, not, ◌&&◌, List, [], ◌∷◌, length, drop, Option, None, Some, refl, sym, ap, ◌∙◌, arith, if◌then◌else◌}
use Rattle.std.specs.Prelude.{nat_eq, slice_index_or, unwrap_or}
use Rattle.std.specs.List.{position_or_len}
use Rattle.std.proofs.lemmas.Bool.{false≢true}
use Rattle.std.proofs.lemmas.Option.{none-some}
use Rattle.std.proofs.lemmas.List.{get_or-drop, length-drop}
use Rattle.rule_model.specs.declared.tables.Out.{Out}
use Rattle.rule_model.specs.declared.tables.Rule.{Rule}
use Rattle.rule_model.specs.declared.tables.Group.{Group}
use Rattle.core_conversions.specs.Conversions.{has_empty_context, from_empty_context, nomatch_with, nomatch_of, can_have_nomatch, nomatch_rule, group_with_nomatch}

-- the rules from the first one with an empty context on
from_is_drop : (rules : List Rule) → from_empty_context rules ≡ drop (position_or_len has_empty_context rules) rules
from_is_drop [] = refl
from_is_drop (rule ∷ rules) = by (has_empty_context rule) (from_is_drop rules)
  where
    by : (b : Bool) → from_empty_context rules ≡ drop (position_or_len has_empty_context rules) rules
        → (if b then rule ∷ rules else from_empty_context rules) ≡ drop (if not b then 1 + position_or_len has_empty_context rules else 0) (rule ∷ rules)
    by true rest = refl
    by false rest =
        let next : suc (position_or_len has_empty_context rules) ≡ 1 + position_or_len has_empty_context rules = omega arith in
        rest ∙ ap (λ (k : ℕ). drop k (rule ∷ rules)) next

-- the first of these rules, and that the nomatch output is its output
record Gives (group : Group) (rest : List Rule) : Type 0 where
  rule : Rule
  later : List Rule
  is : rest ≡ rule ∷ later
  gives : nomatch_with group rest ≡ rule.output

gives_output : (group : Group) (rest : List Rule) → can_have_nomatch group.on_match rest ≡ true → Gives group rest
gives_output group [] able = absurd (false≢true able)
gives_output group (rule ∷ later) able =
    record { rule = rule; later = later; is = refl; gives = ap (λ b. if b then rule.output else group.on_nomatch) able }

gives_none : (group : Group) (rest : List Rule) → can_have_nomatch group.on_match rest ≡ false → nomatch_with group rest ≡ group.on_nomatch
gives_none group [] unable = refl
gives_none group (rule ∷ later) unable = ap (λ b. if b then rule.output else group.on_nomatch) unable

same_number : (a b : ℕ) → Some a ≡ Some b → a ≡ b
same_number a b e = ap (λ (o : Option ℕ). unwrap_or o a) e

module _ (group : Group) where
  abbrev first : ℕ
  first = position_or_len has_empty_context group.rules

  abbrev quiet : Bool
  quiet = not group.using_keys && nat_eq (length group.on_nomatch) 0

  -- a rule that is found
  record Found (number : ℕ) : Type 0 where
    pub within : number < length group.rules
    pub output : (d : Rule) → (slice_index_or group.rules number d).output ≡ nomatch_of group

  found_by : (still able : Bool) (number : ℕ) → quiet ≡ still → can_have_nomatch group.on_match (drop first group.rules) ≡ able
      → (if still && able then Some first else None) ≡ Some number → Found number
  found_by true true number silent able found =
      let given : Gives group (drop first group.rules) = gives_output group (drop first group.rules) able in
      let here : first ≡ number = same_number first number found in
      let many : length group.rules - first ≡ suc (length given.later) = sym (length-drop first group.rules) ∙ ap length given.is in
      record {
        within = omega (arith, here, many);
        output = λ d.
            ap (λ (n : ℕ). (slice_index_or group.rules n d).output) (sym here ∙ omega arith)
            ∙ ap (λ (rule : Rule). rule.output) (sym (get_or-drop first group.rules 0 d) ∙ ap (λ (rules : List Rule). slice_index_or rules 0 d) given.is)
            ∙ sym (ap (λ b. if b then nomatch_with group (from_empty_context group.rules) else group.on_nomatch) silent
            ∙ ap (nomatch_with group) (from_is_drop group.rules) ∙ given.gives);
      }
  found_by true false number silent able found = absurd (none-some number found)
  found_by false able number silent is found = absurd (none-some number found)

  none_by : (still able : Bool) → quiet ≡ still → can_have_nomatch group.on_match (drop first group.rules) ≡ able
      → (if still && able then Some first else None) ≡ None → nomatch_of group ≡ group.on_nomatch
  none_by true true silent able none = absurd (none-some first (sym none))
  none_by true false silent able none =
      ap (λ b. if b then nomatch_with group (from_empty_context group.rules) else group.on_nomatch) silent
      ∙ ap (nomatch_with group) (from_is_drop group.rules) ∙ gives_none group (drop first group.rules) able
  none_by false able silent is none = ap (λ b. if b then nomatch_with group (from_empty_context group.rules) else group.on_nomatch) silent

pub found_within : (group : Group) (number : ℕ) → nomatch_rule group ≡ Some number → number < length group.rules
found_within group number found = (found_by group (quiet group) (can_have_nomatch group.on_match (drop (first group) group.rules)) number refl refl found).within

pub found_output : (group : Group) (number : ℕ) (d : Rule) → nomatch_rule group ≡ Some number → (slice_index_or group.rules number d).output ≡ nomatch_of group
found_output group number d found = (found_by group (quiet group) (can_have_nomatch group.on_match (drop (first group) group.rules)) number refl refl found).output d

none_found : (group : Group) → nomatch_rule group ≡ None → nomatch_of group ≡ group.on_nomatch
none_found group none = none_by group (quiet group) (can_have_nomatch group.on_match (drop (first group) group.rules)) refl refl none

-- without such a rule, the group is unchanged
own_nomatch : (group : Group) → group ≡ (record group { on_nomatch = group.on_nomatch })
own_nomatch group = refl

pub unchanged : (group : Group) → nomatch_rule group ≡ None → group ≡ group_with_nomatch group
unchanged group none = own_nomatch group ∙ ap (λ (outputs : List Out). record group { on_nomatch = outputs }) (sym (none_found group none))
