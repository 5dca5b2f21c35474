-- If a group has short contexts, each of its records has a short context.
use Rattle.std.proofs.Common.{◌≡◌, ℕ, zero, suc, ◌≤◌, List, [], ◌∷◌, length, Some, subst}
use Rattle.std.specs.Prelude.{slice_get}
use Rattle.std.proofs.lemmas.List.Elements.{All-head, All-tail}
use Rattle.kmn_base.specs.declared.limits.TheConstants.{CONTEXT_ITEMS}
use Rattle.rule_model.specs.declared.tables.Rule.{Rule}
use Rattle.rule_matching.specs.MatchState.{AreShort}

pub short_in_rules : (rules : List Rule) (n : ℕ) (rule : Rule) → AreShort rules → slice_get rules n ≡ Some rule → length rule.context ≤ CONTEXT_ITEMS
short_in_rules [] n rule short is = absurd (cc)
short_in_rules (r ∷ rules) zero rule short is =
    let same : r ≡ rule = cc in
    subst (λ (x : Rule). length x.context ≤ CONTEXT_ITEMS) same (All-head (λ (x : Rule). length x.context ≤ CONTEXT_ITEMS) r rules short)
short_in_rules (r ∷ rules) (suc n) rule short is = short_in_rules rules n rule (All-tail (λ (x : Rule). length x.context ≤ CONTEXT_ITEMS) r rules short) is
