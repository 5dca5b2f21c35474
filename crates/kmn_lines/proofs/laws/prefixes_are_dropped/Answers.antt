use Rattle.kmn_lines.proofs.Prefixes.{prefixes_are_dropped}
use Rattle.kmn_lines.proofs.laws.prefixes_are_dropped.Goals as goal

pub returns : goal.returns
returns c = prefixes_are_dropped
