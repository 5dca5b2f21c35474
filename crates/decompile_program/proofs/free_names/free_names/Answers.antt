use Rattle.std.proofs.Common.{◌++◌, List, ℕ, ap, ◌∙◌, arith}
use Rattle.std.proofs.lemmas.Grind.{common_steps}
use Rattle.decompile_program.specs.Free.{one_if_free}
use Rattle.decompile_program.proofs.FreeNames.{next_step, none_free, enough_free, all_taken}
use Rattle.decompile_program.specs.Names.{free_names}
use Rattle.decompile_program.proofs.free_names.free_names.Goals as goal

pub loop-before-preserved : goal.loop-before-preserved
loop-before-preserved c = (
  grind (arith, common_steps),
  next_step c.args.letter.now c.args.taken.now c.loop-before.free.items c.add_free.new.free.items _ c.loop-before.before c.args.tries c.loop-before-test.true
      (c.in_ok-add_free.ensures.names ∙ ap (λ (name : List ℕ). c.loop-before.free.items ++ one_if_free c.args.taken.now name) c.in_ok-name.ensures)
      c.loop-before.invariant.1,
)

pub overflow_add-before : goal.overflow_add-before
unfolding free_names
overflow_add-before c = grind (arith, none_free, enough_free, all_taken)

pub returns : goal.returns
unfolding free_names
returns c = grind (arith, none_free, enough_free, all_taken)
