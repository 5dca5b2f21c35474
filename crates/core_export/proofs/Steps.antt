-- Zero units of records, as a loop visits the records.
use Rattle.std.proofs.Common.{◌≡◌, ◌≢◌, ℕ, ◌+◌, ◌*◌, true, false, nat_eq, List, length, Option, Some, None, ne_eqb, refl, sym, ◌∙◌, ap}
use Rattle.std.specs.Option.{is_some, option_or}
use Rattle.std.proofs.lemmas.Bool.{cond-false}
use Rattle.kmn_base.specs.Spelling.{unit_bytes}
use Rattle.kmx_format.specs.TablesOf.{string_at}
use Rattle.kmx_format.proofs.FileSize.{length-unit_bytes}
use Rattle.core_export.specs.Export.{end_of}

-- if there is no first value, the result is the one after it
pub none_first : (first found after : Option ℕ) → found ≡ first → is_some found ≡ false → option_or first after ≡ after
none_first None found after is none = refl
none_first (Some x) found after is none = let apart : true ≡ false = sym (ap is_some is) ∙ none in absurd (cc)

-- if a string has an offset other than 0, its zero unit comes after its bytes
pub ends_behind : (bytes string : List ℕ) (offset : ℕ) → offset ≢ 0 → string ≡ unit_bytes (string_at bytes offset) → Some (offset + length string) ≡ end_of bytes offset
ends_behind bytes string offset some is =
    ap (λ n. Some (offset + n)) (ap length is ∙ length-unit_bytes (string_at bytes offset))
    ∙ sym (cond-false (nat_eq offset 0) None (Some (offset + 2 * length (string_at bytes offset))) (ne_eqb offset 0 some))
