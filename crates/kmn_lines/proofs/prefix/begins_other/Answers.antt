use Rattle.std.proofs.Common.{◌≡◌, Bool, true, false, ◌||◌, codes, sym, ◌∙◌}
use Rattle.kmn_lines.specs.Lines.{begins_with}
use Rattle.kmn_lines.proofs.prefix.begins_other.Goals as goal

either : (a b r : Bool) → a ≡ false → r ≡ b → r ≡ (a || b)
either true b r e f = cc
either false b r e f = f

pub returns-else-begins_with : goal.returns-else-begins_with
returns-else-begins_with c =
    either (begins_with c.args.words.now (codes "$keymanweb:")) _ _
    (sym c.begins_with.ensures ∙ c.if-begins_with.false) c.begins_with-else-begins_with.ensures
