use Rattle.std.proofs.Common.{List, map}
use Rattle.kmn_base.specs.declared.items.Element.{Element}
use Rattle.rule_index.specs.Elements.{element_number}
use Rattle.rule_index.specs.Holdings.{content_at, AreGathered}
use Rattle.rule_index.specs.Rows.{IsIndexOf}
use Rattle.rule_index.proofs.Gathering.{ArePassed}
use Rattle.rule_index.proofs.holdings.put_firsts.Given as goal

abbrev pub invariant-loop-row : goal.invariant-loop-row
invariant-loop-row l =
    (stores : List (List Element)) → IsIndexOf (map element_number (content_at stores l.store)) l.places → AreGathered stores l.fn.rows.items l.store
    → ArePassed stores l.store l.places l.rows.items l.row-index l.last
