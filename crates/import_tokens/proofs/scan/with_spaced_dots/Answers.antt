use Rattle.std.proofs.Common.{sym}
use Rattle.import_tokens.specs.Scan.{scan_start, with_spaced_dots}
use Rattle.import_tokens.proofs.SpacedDots.{dots_step, byte_step}
use Rattle.import_tokens.proofs.scan.with_spaced_dots.Goals as goal

pub loop-rest-preserved-then-is_dots : goal.loop-rest-preserved-then-is_dots
loop-rest-preserved-then-is_dots c =
    dots_step c.loop-rest.spaced c.extend_from_slice.new.self c.loop-rest.rest.now c.behind-rest.result.now (with_spaced_dots scan_start c.args.text.now) c.loop-rest.state
    c.in-len2-up.len_at_least (sym c.if-is_dots.ensures) c.in_ok-extend_from_slice.ensures c.behind-rest.ensures c.loop-rest.invariant

pub loop-rest-preserved : goal.loop-rest-preserved
loop-rest-preserved c =
    byte_step c.loop-rest.spaced c.add.new.self c.loop-rest.rest.now c.behind-rest-in-len2-up.result.now (with_spaced_dots scan_start c.args.text.now) c.loop-rest.state c.scan_after-state.result
    c.in-len2-up.len_at_least (sym c.if-is_dots.ensures) c.in_ok-add.ensures c.scan_after-state.ensures c.behind-rest-in-len2-up.ensures c.loop-rest.invariant
