use Rattle.std.proofs.Common.{◌≡◌, ◌+◌, ◌*◌, ◌<◌, ◌^◌, drop}
use Rattle.std.specs.List.{fold, list_all}
use Rattle.std.specs.Option.{unwrap_or}
use Rattle.kmn_base.specs.Bytes.{hex_digit}
use Rattle.virtual_keys.specs.Dictionary.{is_hex_digit, hex_value}
use Rattle.virtual_keys.proofs.unicode_names.hex_value.Given as goal

abbrev pub invariant-loop-digit : goal.invariant-loop-digit
invariant-loop-digit l = record {
  digits : list_all is_hex_digit (drop l.digit-index l.digits) ≡ list_all is_hex_digit l.digits;
  value : fold (λ value digit. 16 * value + unwrap_or (hex_digit digit) 0) l.value (drop l.digit-index l.digits) ≡ hex_value l.digits;
  bound : l.value < 16 ^ l.digit-index;
}
