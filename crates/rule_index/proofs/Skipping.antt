-- A record without a matching class does not hold, so the first record that holds is a candidate.
use Rattle.std.proofs.Common.{◌≢◌, cond, zero, suc, [], ◌∷◌, map, Some, None, Option, ◌≡◌, ◌<◌, ℕ, Bool, List, slice_index_or, refl, ◌∙◌, ap, arith}
use Rattle.kmn_base.specs.declared.items.Item.{Item}
use Rattle.kmn_base.specs.declared.keys.KeyPress.{KeyPress}
use Rattle.rule_model.specs.declared.event_state.Caught.{Caught}
use Rattle.rule_model.specs.declared.tables.Pat.{Pat}
use Rattle.rule_model.specs.declared.tables.Pat.TheVariants as pattern
use Rattle.rule_model.specs.declared.tables.Rule.{Rule}
use Rattle.rule_model.specs.declared.tables.Store.{Store}
use Rattle.rule_model.specs.Match.{Content, takes_item}
use Rattle.rule_model.specs.Hold.{holds}
use Rattle.rule_model.specs.Choose.{Chosen, first_with}
use Rattle.rule_model.specs.Tab.{tab_pattern, tab_rule}
use Rattle.rule_index.specs.Classes.{key_part, pattern_class, last_class, class_of, rule_class, matching_classes}
use Rattle.rule_index.specs.Laws.{ClassIsOfTheRecord, FirstIsCandidate}
use Rattle.rule_index.proofs.Meeting.{holding_is_wanted}

-- the part of a pattern with these stores, or the part before it if the pattern takes no item
abbrev after : List Store → ℕ → Pat → ℕ
after stores before p = cond (takes_item (tab_pattern stores p)) (pattern_class (tab_pattern stores p)) before

same_after : (stores : List Store) (before : ℕ) (p : Pat) → after [] before p ≡ after stores before p
same_after stores before (pattern.Char c) = refl
same_after stores before (pattern.Mark m) = refl
same_after stores before (pattern.Any s) = refl
same_after stores before (pattern.NotAny s) = refl
same_after stores before (pattern.Index s offset) = refl
same_after stores before (pattern.ContextAt offset) = refl
same_after stores before (pattern.Equal s value) = refl
same_after stores before (pattern.Unequal s value) = refl
same_after stores before (pattern.SystemEqual id value) = refl
same_after stores before (pattern.SystemUnequal id value) = refl
same_after stores before pattern.Nul = refl

same_last : (stores : List Store) (before : ℕ) (context : List Pat) → last_class before (map (tab_pattern []) context) ≡ last_class before (map (tab_pattern stores) context)
same_last stores before [] = refl
same_last stores before (p ∷ context) =
    ap (λ (k : ℕ). last_class k (map (tab_pattern []) context)) (same_after stores before p) ∙ same_last stores (after stores before p) context

pub class_is_of_the_record : ClassIsOfTheRecord
class_is_of_the_record stores using_keys rule =
    ap (λ (k : ℕ). class_of (key_part (tab_rule [] using_keys rule).key) k) (same_last stores 0 rule.context)

-- if a record has no matching class, it does not hold
not_wanted : (content : Content) (left : List Item) (press : KeyPress) (stores : List Store) (using_keys : Bool) (rule : Rule)
    → ((j : ℕ) → j < 6 → rule_class (tab_rule [] using_keys rule) ≢ slice_index_or (matching_classes press left) j 0)
    → (o : Option Caught) → holds content left press (tab_rule stores using_keys rule) ≡ o → (others : Option Chosen)
    → first_with (tab_rule stores using_keys rule) o others ≡ others
not_wanted content left press stores using_keys rule none None e others = refl
not_wanted content left press stores using_keys rule none (Some caught) e others =
    let wanted = holding_is_wanted content left press (tab_rule stores using_keys rule) caught e in
    absurd (none wanted.0 wanted.1 (class_is_of_the_record stores using_keys rule ∙ wanted.2))

pub first_is_candidate : FirstIsCandidate
first_is_candidate content left press stores using_keys [] zero zero up none = refl
first_is_candidate content left press stores using_keys [] zero (suc to) up none = refl
first_is_candidate content left press stores using_keys [] (suc from) zero up none = refl
first_is_candidate content left press stores using_keys [] (suc from) (suc to) up none = refl
first_is_candidate content left press stores using_keys (rule ∷ rules) zero zero up none = refl
first_is_candidate content left press stores using_keys (rule ∷ rules) zero (suc to) up none =
    not_wanted content left press stores using_keys rule (λ j h. none 0 j (omega arith) (omega arith) (omega arith) h) _ refl _
    ∙ first_is_candidate content left press stores using_keys rules zero to (omega arith) (λ n j a b c h. none (suc n) j (omega arith) (omega arith) (omega arith) h)
first_is_candidate content left press stores using_keys (rule ∷ rules) (suc from) zero up none = absurd (omega arith)
first_is_candidate content left press stores using_keys (rule ∷ rules) (suc from) (suc to) up none =
    first_is_candidate content left press stores using_keys rules from to (omega arith) (λ n j a b c h. none (suc n) j (omega arith) (omega arith) (omega arith) h)
