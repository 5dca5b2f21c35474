use Rattle.std.proofs.Common.{arith}
use Rattle.kmx_writer.proofs.Whole.{spellable, excess_of_file, no_excess, is_file}
use Rattle.kmx_writer.proofs.file.write.Goals as goal

pub places_of-places-requires : goal.places_of-places-requires
places_of-places-requires c = spellable c.args.tables.now c.requires

pub overflow_add-size : goal.overflow_add-size
overflow_add-size c = omega (arith, c.places_of-places.ensures.picture, (spellable c.args.tables.now c.requires).small)

pub returns-then-size-clause-refused : goal.returns-then-size-clause-refused
returns-then-size-clause-refused c =
    rw c.places_of-places.ensures.picture (excess_of_file c.args.tables.now c.args.picture.now (omega arith) (omega (arith, c.places_of-places.ensures.picture)))

pub file-requires-clause-spellable : goal.file-requires-clause-spellable
file-requires-clause-spellable c = spellable c.args.tables.now c.requires

pub returns-clause-file : goal.returns-clause-file
returns-clause-file c =
    is_file c.args.tables.now c.args.picture.now _ c.requires (omega arith) (omega (arith, c.places_of-places.ensures.picture)) c.in_ok-file.ensures

pub returns-clause-within : goal.returns-clause-within
returns-clause-within c = no_excess c.args.tables.now c.args.picture.now (omega arith) (omega (arith, c.places_of-places.ensures.picture))
