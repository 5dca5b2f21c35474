use Rattle.std.proofs.Common.{◌≡◌, ℕ, ◌-◌, ◌++◌, List, take, drop, refl, sym, subst, ◌∙◌, arith}
use Rattle.std.specs.Prelude.{slice_index_or}
use Rattle.std.specs.List.{position_or_len, prefix_len}
use Rattle.std.proofs.lemmas.List.{get_or_default}
use Rattle.rule_model.specs.Patterns.{is_matched, is_nul}
use Rattle.rule_model.specs.declared.tables.Pat.{Pat}
use Rattle.rule_model.specs.declared.tables.Pat.TheVariants as pattern
use Rattle.core_conversions.specs.Conversions.{context_with_nul_first}
use Rattle.core_conversions.proofs.NulMoved.{begins, begins_without, down_condition}
use Rattle.core_conversions.proofs.nul.convert_context.Goals as goal

pub loop-i-init : goal.loop-i-init
loop-i-init c =
    let xs : List Pat = c.args.context.now in
    let count : c.unmatched_count-i.result ≡ position_or_len is_matched xs = c.unmatched_count-i.ensures.count in (
      refl,
      omega (arith, c.unmatched_count-i.ensures.few),
      omega (arith, count),
      subst (λ (k : ℕ). xs ≡ take k xs ++ context_with_nul_first (drop k xs)) (sym count) (begins xs),
      subst (λ (k : ℕ). 0 ≡ prefix_len is_nul (context_with_nul_first (drop k xs))) (sym count) (begins_without xs),
    )

pub loop-i-preserved : goal.loop-i-preserved
loop-i-preserved c =
    let ys : List Pat = c.loop-i.context in
    let i : ℕ = c.loop-i.i in
    let item : Pat = slice_index_or ys (i - 1) (pattern.Char 0) in
    down_condition c.args.context.now ys c.swap.new.self i c.loop-i.nuls item c.loop-i-test.true c.loop-i.invariant
    (get_or_default ys (i - 1) (pattern.Char 0) item (omega (arith, c.loop-i-test.true, c.loop-i.invariant.0, c.loop-i.invariant.1)))
    (sym c.is_nul.ensures ∙ c.if-is_nul.false) c.swap.ensures.after c.swap.ensures.len
