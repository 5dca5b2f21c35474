use Rattle.std.proofs.Common.{◌≡◌, ◌<◌, [], ◌∷◌, length, map, sym, ◌∙◌, append-nil, append_assoc, arith, eqb-true}
use Rattle.std.proofs.lemmas.Bool.{eqb-false}
use Rattle.kmn_base.specs.Spelling.{unit_bytes}
use Rattle.kmx_format.specs.FileUnits.{item_units}
use Rattle.kmx_writer.proofs.Strings.{string_units, has_units, no_units}
use Rattle.kmx_writer.proofs.spelled.put_string.Goals as goal

pub returns-then-is_empty : goal.returns-then-is_empty
returns-then-is_empty g c =
    let none : length c.args.items.now ≡ 0 = eqb-true _ _ (sym c.is_empty.ensures ∙ c.if-is_empty.true) in
    rw (no_units g.T.Spelled.spelled c.args.items.now none) (sym (append-nil c.args.out.now))

pub returns : goal.returns
returns g c =
    let some : 0 < length c.args.items.now = omega (arith, eqb-false _ _ (sym c.is_empty.ensures ∙ c.if-is_empty.false)) in
    let us = item_units (map g.T.Spelled.spelled c.args.items.now) in
    rw (string_units us (has_units g.T.Spelled.spelled c.args.items.now some), ← append_assoc c.args.out.now (unit_bytes us) (unit_bytes (0 ∷ [])), ← c.in_ok-put_items.ensures)
    c.put_units.ensures
