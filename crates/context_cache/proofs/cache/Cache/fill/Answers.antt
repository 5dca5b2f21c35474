use Rattle.std.proofs.Common.{ℕ, List, ◌≡◌, ◌+◌, ◌-◌, ◌++◌, ◌∙◌, ap, sym, length, min, map, take, drop, arith}
use Rattle.std.proofs.lemmas.Grind.{common_steps}
use Rattle.kmn_base.specs.declared.items.Item.{Item}
use Rattle.kmn_base.specs.declared.items.Item.TheVariants.{Char}
use Rattle.kmn_base.specs.Lists.{characters}
use Rattle.context_cache.specs.Cached.{filled}
use Rattle.context_cache.proofs.Windows.{rotated_in, all_written}
use Rattle.context_cache.proofs.cache.Cache.fill.Goals as goal

pub returns : goal.returns
returns c =
    let text : List ℕ = c.args.older.now ++ c.args.newer.now in
    let old : List Item = c.args.self.now in
    let before : ℕ = length c.args.older.now + length c.args.newer.now - c.character_count.result in
    let missing : ℕ = c.missing-missing.result in
    let at : before ≡ length text - length (characters old) = grind (arith, common_steps) in
    let is : missing ≡ min before (64 - length old) = grind (arith, common_steps) in
    let more : List Item = map Char (take missing (drop (before - missing) text)) in
    let pushed : c.push_characters.new.items.items ≡ old ++ more = c.push_characters.ensures.items ∙ ap (λ xs. xs ++ more) c.self.view_is in
    let lent : c.as_mut_slice.result.now ≡ old ++ more = c.as_mut_slice.ensures.value ∙ pushed in
    let many : length c.as_mut_slice.result.now ≡ length c.push_characters.new.items.items = ap length c.as_mut_slice.ensures.value in
    let start : length c.self.inside.items.items ≡ length old = ap length c.self.view_is in
    let count : length c.as_mut_slice.result.now - missing ≡ length old = omega (arith, many, start, c.push_characters.ensures.count) in
    let rotated : c.rotate_right.new.self ≡ filled text old
    = c.rotate_right.ensures.after
    ∙ (ap (λ xs. drop (length c.as_mut_slice.result.now - missing) xs ++ take (length c.as_mut_slice.result.now - missing) xs) lent
    ∙ rotated_in text old before missing _ c.requires.stands.few at is count) in
    all_written _ _ c.rotate_right.new.self (sym (c.rotate_right.ensures.len ∙ many)) ∙ rotated
