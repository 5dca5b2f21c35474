-- Items of an output that do not refer to the context, as they are checked in a rule, in match and in nomatch.
use Rattle.std.proofs.Common.{◌≡◌, ℕ, List, refl}
use Rattle.rule_model.specs.declared.program.SrcItem.{SrcItem}
use Rattle.rule_model.specs.declared.program.SrcItem.TheVariants as source
use Rattle.rule_model.specs.declared.program.RuleDef.{RuleDef}
use Rattle.store_table.specs.Known.{Known}
use Rattle.item_checker.specs.Items.{match_output_code, output_code, rule_output_code}

-- in a rule
pub in_rules : (known : Known) (rule : RuleDef) (item : SrcItem) → ((store : List ℕ) (offset : ℕ) → item ≡ source.Index store offset → ⊥)
    → ((offset : ℕ) → item ≡ source.ContextAt offset → ⊥) → output_code known item ≡ rule_output_code known rule item
in_rules known rule (source.Index store offset) a b = absurd (a store offset refl)
in_rules known rule (source.ContextAt offset) a b = absurd (b offset refl)
in_rules known rule item a b = refl

-- in match and nomatch
pub in_matches : (known : Known) (item : SrcItem) → ((store : List ℕ) (offset : ℕ) → item ≡ source.Index store offset → ⊥)
    → ((offset : ℕ) → item ≡ source.ContextAt offset → ⊥) → (item ≡ source.Context → ⊥) → output_code known item ≡ match_output_code known item
in_matches known (source.Index store offset) a b c = absurd (a store offset refl)
in_matches known (source.ContextAt offset) a b c = absurd (b offset refl)
in_matches known source.Context a b c = absurd (c refl)
in_matches known item a b c = refl
