use Rattle.serde_json.specs.View.{view}
use Rattle.touch_board.proofs.Values.{value_in, no_value}
use Rattle.touch_board.proofs.reading.read_value.Goals as goal

pub returns-in_default : goal.returns-in_default
returns-in_default c = no_value c.args.bytes.now c.in_default.ensures.cases.0

pub returns-in-Ok-from_str : goal.returns-in-Ok-from_str
returns-in-Ok-from_str c = value_in c.args.bytes.now c.in-Ok.text.now (view c.in-Ok-from_str.value) c.in-Ok.ensures.cases.1 c.in-Ok.ensures.cases.0 c.in-Ok-from_str.ensures.ok
