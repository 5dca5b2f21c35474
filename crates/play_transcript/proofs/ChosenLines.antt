-- A coverage contains each line that an event can choose.
use Rattle.std.proofs.Common.{List, get_or}
use Rattle.rule_model.specs.declared.tables.Tables.{Tables}
use Rattle.rule_model.specs.ChosenLines.{chosen}
use Rattle.rule_model.specs.Tab.{tab}
use Rattle.rule_trace.specs.declared.coverage.Hit.{Hit}
use Rattle.rule_trace.specs.Coverage.{hit_lines, AreLinesOf}
use Rattle.rule_trace.proofs.Among.{chosen_are_lines}
use Rattle.rule_trace.proofs.Counting.{lines_are_covered}
use Rattle.play_transcript.specs.TraceEntry.{Covers}

-- if a coverage has the lines of the records of tables, it contains each line that an event can choose with them
pub lines_cover : (tables : Tables) (hits : List Hit) → AreLinesOf tables hits → Covers tables (hit_lines hits)
lines_cover tables hits are state event = λ k d within. lines_are_covered tables hits (get_or (chosen (tab tables) state event) k d) are (chosen_are_lines tables state event k d within)
