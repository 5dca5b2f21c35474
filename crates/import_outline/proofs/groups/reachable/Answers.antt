use Rattle.std.proofs.Common.{◌≡◌, [], sym, ◌∙◌, ap}
use Rattle.import_outline.specs.Outline.{new_uses}
use Rattle.import_outline.proofs.UsedGroups.{no_name, used_up}
use Rattle.import_outline.proofs.groups.reachable.Goals as goal

pub returns-then-is_empty : goal.returns-then-is_empty
returns-then-is_empty c =
    let none : new_uses c.args.uses.now c.loop-left.all ≡ [] =
    ap (new_uses c.args.uses.now) (sym c.as_slice.ensures) ∙ sym c.in_ok-more.ensures ∙ no_name c.in_ok-more.more c.if-is_empty.ensures in
    sym (used_up c.loop-left.left c.args.uses.now c.loop-left.all none) ∙ c.loop-left.invariant
