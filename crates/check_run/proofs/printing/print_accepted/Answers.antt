use Rattle.check_run.proofs.Endings.{broken_tells, sound_tells}
use Rattle.check_run.proofs.printing.print_accepted.Goals as goal

pub returns-then-is_sound : goal.returns-then-is_sound
returns-then-is_sound g c =
    sound_tells _ c.args.inputs.now c.is_sound.result c.accepted_text-text.result g.S.Sink _ _ _ c.is_sound.ensures c.if-is_sound.true c.print_result.ensures c.accepted_text-text.ensures

pub returns-else-is_sound : goal.returns-else-is_sound
returns-else-is_sound g c =
    broken_tells _ c.args.inputs.now c.is_sound.result c.accepted_text-text.result g.S.Sink _ _ _ c.is_sound.ensures c.if-is_sound.false c.print_result-else-is_sound.ensures c.accepted_text-text.ensures
