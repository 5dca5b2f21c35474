use Rattle.std.proofs.Common.{◌≡◌, ◌+◌, ◌<◌, ◌≤◌, length}
use Rattle.kmn_items.specs.TokenTexts.{texts}
use Rattle.kmn_items.specs.Item.{unseen, prepend, read_items}
use Rattle.kmn_items.proofs.items.read_items.Given as goal

abbrev pub invariant-items : goal.invariant-items
invariant-items l = record {
  read : prepend l.items (read_items l.place l.seen l.last 0 l.next (texts l.rest)) ≡ read_items l.place unseen l.last 0 l.at (texts l.tokens);
  few : 0 < length (texts l.rest) → l.next + length (texts l.rest) ≤ l.at + length (texts l.tokens);
}

abbrev pub decreases-items : goal.decreases-items
decreases-items l = length (texts l.rest)
