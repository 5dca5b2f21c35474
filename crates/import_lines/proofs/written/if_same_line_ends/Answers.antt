use Rattle.std.proofs.Common.{◌≡◌, IfOk, subst}
use Rattle.import_lines.specs.Written.{line_bytes}
use Rattle.import_lines.specs.declared.rewrite.WrittenLine.{WrittenLine}
use Rattle.import_lines.proofs.Replacing.{kept_without_change, kept_other, replaced}
use Rattle.import_lines.proofs.written.if_same_line_ends.Goals as goal

pub returns-then-is_empty : goal.returns-then-is_empty
returns-then-is_empty c =
    subst (λ (kept : WrittenLine). IfOk c.unchanged_line.result (λ (line : WrittenLine). line ≡ kept))
    (kept_without_change (line_bytes c.args.source.now c.args.logical) c.args.new c.args.kinds c.if-is_empty.ensures) c.unchanged_line.ensures

pub returns-then-not-can_replace : goal.returns-then-not-can_replace
returns-then-not-can_replace c =
    subst (λ (kept : WrittenLine). IfOk c.unchanged_line-then-not-can_replace.result (λ (line : WrittenLine). line ≡ kept))
    (kept_other (line_bytes c.args.source.now c.args.logical) c.args.new c.as_slice.result.now c.args.kinds c.can_replace.result c.if-not-can_replace.true c.can_replace.ensures
    c.as_slice.ensures) c.unchanged_line-then-not-can_replace.ensures

pub returns : goal.returns
returns c =
    replaced (line_bytes c.args.source.now c.args.logical) c.args.new c.as_slice.result.now c.args.kinds c.can_replace.result c.if-is_empty.ensures c.if-not-can_replace.false
    c.can_replace.ensures c.as_slice.ensures
