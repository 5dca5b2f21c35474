use Rattle.std.proofs.Common.{List, ℕ, Option, subst}
use Rattle.core_export.specs.Export.{IsConvertedExport, FindsConverted}
use Rattle.core_export.proofs.ConvertedExports.{after_converted, exports_converted}
use Rattle.core_export.proofs.converting.converted.Goals as goal

pub returns-in-Some : goal.returns-in-Some
returns-in-Some c =
    let bytes : List ℕ = c.args.bytes.now in
    let after : List ℕ = c.in_ok-after.after in
    let slice : List ℕ = c.as_slice-2.result.now in
    let found : IsConvertedExport c.args.how bytes slice c.in-Some.out =
    subst (λ (found : Option (List ℕ)). FindsConverted c.args.how bytes slice found) c.in-Some.is c.in_ok-out.ensures in (
      exports_converted c.args.how bytes after slice c.in-Some.out c.as_slice-2.ensures found,
      after_converted c.args.how bytes after slice c.in-Some.out c.in_ok-after.ensures c.as_slice-2.ensures found,
    )
