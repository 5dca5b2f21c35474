use Rattle.std.specs.Str.Iter.{chars_rest}
use Rattle.kmx_format.specs.FileUnits.{name_units}
use Rattle.kmx_writer.proofs.TextSteps.{steps_over, put_more, put_all}
use Rattle.kmx_writer.proofs.names.put_name_units.Goals as goal

pub loop-c-preserved : goal.loop-c-preserved
loop-c-preserved c =
    let before = chars_rest c.loop-c.c-iterator in
    let after = chars_rest c.next.new.self in (
      (steps_over before after c.in-Some.c c.loop-c.invariant.0 c.in-Some.ensures.steps.0).utf8,
      rw c.in_ok-put_char.ensures (put_more c.loop-c.out c.args.out.now before after c.in-Some.c _ c.loop-c.invariant.0 c.in-Some.ensures.steps.0 c.loop-c.invariant.1),
    )

pub returns : goal.returns
unfolding name_units
returns c = put_all c.loop-c.out c.args.out.now (chars_rest c.loop-c.c-iterator) _ c.in-None.ensures.steps.0.0 c.loop-c.invariant.1
