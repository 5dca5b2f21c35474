use Rattle.std.proofs.Common.{◌∙◌, sym, subst, arith}
use Rattle.std.specs.Prelude.{All}
use Rattle.std.specs.List.{Contains}
use Rattle.rule_trace.specs.Coverage.{hit_lines}
use Rattle.std.proofs.lemmas.Grind.{common_steps}
use Rattle.rule_trace.proofs.coverage.Coverage.add.Goals as goal

pub add_all-requires-clause-among : goal.add_all-requires-clause-among
add_all-requires-clause-among c = subst (λ hits. All (Contains (hit_lines hits)) c.args.lines.now) (sym (c.as_mut_slice.ensures.value ∙ c.self.view_is)) c.requires

pub invariant_of-self : goal.invariant_of-self
invariant_of-self c = grind (arith, common_steps)

pub returns-clause-counts : goal.returns-clause-counts
returns-clause-counts c = grind (arith, common_steps)

pub returns-clause-lines : goal.returns-clause-lines
returns-clause-lines c = grind (arith, common_steps)
