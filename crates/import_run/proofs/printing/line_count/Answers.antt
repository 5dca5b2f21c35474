use Rattle.std.proofs.Common.{◌+◌, ℕ, ap, sym, ◌∙◌}
use Rattle.import_run.proofs.Counted.{one_byte_is_a_line}
use Rattle.import_run.proofs.printing.line_count.Goals as goal

pub returns-in-len1-up : goal.returns-in-len1-up
returns-in-len1-up c =
    ap (λ (left : ℕ). c.loop-rest.count + left) (sym (one_byte_is_a_line c.loop-rest.rest.now c.in-len1-up.len_at_least c.in_default.len_below)) ∙ c.loop-rest.invariant.count
