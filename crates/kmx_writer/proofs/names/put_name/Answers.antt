use Rattle.std.proofs.Common.{◌≡◌, ◌<◌, [], ◌∷◌, length, sym, ◌∙◌, append-nil, append_assoc, arith, eqb-true}
use Rattle.std.proofs.lemmas.Bool.{eqb-false}
use Rattle.kmn_base.specs.Spelling.{unit_bytes}
use Rattle.kmx_format.specs.FileUnits.{name_units}
use Rattle.kmx_writer.proofs.Strings.{string_units}
use Rattle.kmx_writer.proofs.TextSteps.{has_units, no_units}
use Rattle.kmx_writer.proofs.names.put_name.Goals as goal

pub returns-then-is_empty : goal.returns-then-is_empty
returns-then-is_empty c =
    let none : length c.args.name.now ≡ 0 = eqb-true _ _ (sym c.is_empty.ensures ∙ c.if-is_empty.true) in
    rw (no_units c.args.name.now none) (sym (append-nil c.args.out.now))

pub returns : goal.returns
returns c =
    let some : 0 < length c.args.name.now = omega (arith, eqb-false _ _ (sym c.is_empty.ensures ∙ c.if-is_empty.false)) in
    let us = name_units c.args.name.now in
    rw (string_units us (has_units c.args.name.now c.requires some), ← append_assoc c.args.out.now (unit_bytes us) (unit_bytes (0 ∷ [])), ← c.in_ok-put_name_units.ensures)
    c.put_units.ensures
