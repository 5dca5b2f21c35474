use Rattle.std.proofs.Common.{ap, length, arith}
use Rattle.std.specs.Str.Iter.{chars_rest}
use Rattle.kmx_format.specs.FileUnits.{name_units}
use Rattle.kmx_writer.proofs.TextSteps.{steps_over, units_step, no_text}
use Rattle.kmx_writer.proofs.names.name_unit_count.Goals as goal

pub overflow_add-count : goal.overflow_add-count
unfolding name_units
overflow_add-count c =
    omega (
      arith,
      units_step (chars_rest c.loop-c.c-iterator) (chars_rest c.next.new.self) c.in-Some.c c.loop-c.invariant.0 c.in-Some.ensures.steps.0,
      c.loop-c.invariant.1,
      c.requires.fits,
      c.from-count.ensures,
      c.char_unit_count.ensures.units,
    )

pub loop-c-preserved : goal.loop-c-preserved
loop-c-preserved c =
    let step = steps_over (chars_rest c.loop-c.c-iterator) (chars_rest c.next.new.self) c.in-Some.c c.loop-c.invariant.0 c.in-Some.ensures.steps.0 in (
      step.utf8,
      omega (
        arith,
        units_step (chars_rest c.loop-c.c-iterator) (chars_rest c.next.new.self) c.in-Some.c c.loop-c.invariant.0 c.in-Some.ensures.steps.0,
        c.loop-c.invariant.1,
        c.from-count.ensures,
        c.char_unit_count.ensures.units,
      ),
    )

pub returns : goal.returns
unfolding name_units
returns c = omega (arith, c.loop-c.invariant.1, ap length (no_text (chars_rest c.loop-c.c-iterator) c.in-None.ensures.steps.0.0))
