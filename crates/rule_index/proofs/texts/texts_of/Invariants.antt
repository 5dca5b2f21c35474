use Rattle.rule_index.specs.Texts.{AreTexts}
use Rattle.rule_index.proofs.texts.texts_of.Given as goal

abbrev pub invariant-loop-store : goal.invariant-loop-store
invariant-loop-store l = AreTexts l.stores l.store l.texts.entries
