use Rattle.kmn_parser.proofs.SourceLines.{statements_in_order}
use Rattle.kmn_parser.proofs.laws.statements_are_in_order.Goals as goal

pub returns : goal.returns
returns c = statements_in_order
