-- `==` decides whether two items of tables are equal.
use Rattle.std.proofs.Common.{◌≡◌, rules}
use Rattle.std.specs.Bool.{Decides}
use Rattle.kmn_base.specs.declared.items.Element.{Element}
use Rattle.kmn_base.specs.contracts.items.ElementPartialEq.TheImpl as ElementPartialEq
use Rattle.rule_model.specs.declared.tables.Pat.{Pat}
use Rattle.rule_model.specs.contracts.tables.PatPartialEq.TheImpl as PatPartialEq
use Rattle.rule_model.specs.declared.tables.Out.{Out}
use Rattle.rule_model.specs.contracts.tables.OutPartialEq.TheImpl as OutPartialEq

pub element_equal : (a b : Element) → Decides (ElementPartialEq.eq-value.it a b) (a ≡ b)
element_equal a b = search rules

pub pattern_equal : (a b : Pat) → Decides (PatPartialEq.eq-value.it a b) (a ≡ b)
pattern_equal a b = search rules

pub output_equal : (a b : Out) → Decides (OutPartialEq.eq-value.it a b) (a ≡ b)
output_equal a b = search rules
