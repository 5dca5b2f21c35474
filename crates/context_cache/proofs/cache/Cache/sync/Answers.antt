use Rattle.std.proofs.Common.{◌≡◌, ◌-◌, List, ℕ, drop, length, map, arith, sym, ◌∙◌, ap, false}
use Rattle.std.proofs.lemmas.Grind.{common_steps}
use Rattle.kmn_base.specs.declared.items.Item.{Item}
use Rattle.kmn_base.specs.declared.items.Item.TheVariants.{Char}
use Rattle.kmn_base.specs.Lists.{window, is_still_suffix, read_again}
use Rattle.context_cache.proofs.Windows.{read_anew, still_the_same}
use Rattle.context_cache.proofs.cache.Cache.sync.Goals as goal

pub returns : goal.returns
returns c =
    let items : List Item = c.loop-c.self-inside.items.items in
    let old : List Item = c.self.inside.items.items in
    let text : List ℕ = c.args.left.now in
    let lost : is_still_suffix old text ≡ false = ap (λ (xs : List Item). is_still_suffix xs text) (sym c.as_slice.ensures.value) ∙ sym c.is_still_suffix.ensures ∙ c.if-is_still_suffix.false in
    let last : items ≡ map Char (drop (length text - 64) text) = grind (arith, common_steps) in
    let anew : items ≡ window (read_again old text) = read_anew old items text c.self.invariant lost last in
    cc

pub returns-then-is_still_suffix : goal.returns-then-is_still_suffix
returns-then-is_still_suffix c = grind (arith, still_the_same, read_anew)

pub loop-c-preserved : goal.loop-c-preserved
loop-c-preserved c = grind (arith, common_steps)
