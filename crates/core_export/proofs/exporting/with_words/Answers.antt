use Rattle.core_export.proofs.Made.{is_made}
use Rattle.core_export.proofs.exporting.with_words.Goals as goal

pub returns : goal.returns
returns c =
    is_made c.args.file.now c.view.result.bytes.now c.in_ok-out.out c.as_slice.result.now c.in-Some.unit c.view.ensures.value
    c.in-Some.ensures c.in_ok-out.ensures.exported c.in_ok-out.ensures.right c.as_slice.ensures c.in_ok-check.ensures
