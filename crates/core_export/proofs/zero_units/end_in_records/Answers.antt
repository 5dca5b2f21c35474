use Rattle.std.proofs.Common.{◌+◌, ◌*◌, sym, ◌∙◌, ap, ap₂}
use Rattle.std.specs.Option.{option_or}
use Rattle.kmx_format.specs.TablesOf.{word_at}
use Rattle.file_conversions.proofs.Steps.{one_more}
use Rattle.core_export.specs.Export.{end_of, end_in_records}
use Rattle.core_export.proofs.Steps.{none_first}
use Rattle.core_export.proofs.zero_units.end_in_records.Goals as goal

pub loop-i-preserved : goal.loop-i-preserved
loop-i-preserved c =
    let bytes = c.args.bytes.now in
    let here = c.args.place + 20 * c.loop-i.i in
    one_more 20 (end_in_records bytes) (end_in_records bytes) c.args.place c.args.count c.loop-i.i _ c.loop-i-test.true
    (λ rest. none_first (option_or (end_of bytes (word_at bytes (here + 12))) (end_of bytes (word_at bytes (here + 16)))) c.or-found.result _
    (c.or-found.ensures ∙ ap₂ option_or (c.end_of-output.ensures ∙ ap (end_of bytes) c.word_at.ensures) (c.end_of.ensures ∙ ap (end_of bytes) c.word_at-in-loop-i.ensures))
    (sym c.is_some.ensures ∙ c.if-is_some.false))
    c.loop-i.invariant
