use Rattle.std.proofs.Common.{ℕ, List, ◌≡◌, ◌<◌, ◌≤◌, length, ◌+◌, ◌-◌, ◌++◌, ◌∙◌, ap, arith, map, take, drop, length-append}
use Rattle.kmn_base.specs.declared.items.Item.TheVariants.{Char}
use Rattle.context_cache.proofs.Windows.{characters_pushed}
use Rattle.context_cache.proofs.texts.push_characters.Goals as goal

pub loop-place-preserved : goal.loop-place-preserved
loop-place-preserved c =
    let text : List ℕ = c.args.older.now ++ c.args.newer.now in
    let place : ℕ = c.loop-place.place in
    let end : ℕ = c.args.from + c.args.count in
    let inside : place < length text = omega (arith, length-append c.args.older.now c.args.newer.now, c.loop-place-test.true, c.requires.within) in
    let within : (c.args.from ≤ place + 1) × (place + 1 ≤ end) = ((omega (arith, c.loop-place.invariant.within.0)), (omega (arith, c.loop-place-test.true))) in
    let count : length c.push.new.self.items ≡ length c.args.items.now.items + (place + 1 - c.args.from) = omega (arith, c.push.ensures.len, c.loop-place.invariant.count, c.loop-place.invariant.within.0) in
    record {
      within = within;
      count = count;
      same = ap (λ xs. xs ++ map Char (take (end - (place + 1)) (drop (place + 1) text))) c.push.ensures.items
          ∙ (characters_pushed c.loop-place.items.items text place end (Char c.char_at.result) inside c.loop-place-test.true (ap Char c.char_at.ensures)
          ∙ c.loop-place.invariant.same);
    }
