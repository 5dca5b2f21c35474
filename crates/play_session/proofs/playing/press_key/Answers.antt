use Rattle.std.proofs.Common.{◌≡◌, ℕ, List, ◌++◌, ◌∙◌, ap}
use Rattle.kmn_base.specs.Lists.{without_last}
use Rattle.play_session.proofs.Presses.{press_is_done, press_is_edited}
use Rattle.play_session.proofs.playing.press_key.Goals as goal

pub apply-requires-clause-characters : goal.apply-requires-clause-characters
apply-requires-clause-characters c =
    (press_is_done c.args.engine.now c.args.editor.now c.args.press c.key-outcome.result c.key-outcome.new.self c.left.result.now c.requires.together c.left.ensures c.key-outcome.ensures.outcome c.key-outcome.ensures.engine).deletes

pub returns-clause-together : goal.returns-clause-together
returns-clause-together c =
    let p = press_is_done c.args.engine.now c.args.editor.now c.args.press c.key-outcome.result c.key-outcome.new.self c.left.result.now c.requires.together c.left.ensures c.key-outcome.ensures.outcome c.key-outcome.ensures.engine in
    let lefts : c.apply.new.self.left ≡ without_last c.key-outcome.result.delete c.args.editor.now.left ++ c.key-outcome.new.self.inserted
    = c.apply.ensures.left ∙ ap (λ (t : List ℕ). without_last c.key-outcome.result.delete c.args.editor.now.left ++ t) c.inserted.ensures.value in
    (press_is_edited c.args.engine.now c.args.editor.now c.args.press c.key-outcome.result c.key-outcome.new.self c.apply.new.self p lefts c.apply.ensures.right).together

pub returns-clause-outcome : goal.returns-clause-outcome
returns-clause-outcome c =
    (press_is_done c.args.engine.now c.args.editor.now c.args.press c.key-outcome.result c.key-outcome.new.self c.left.result.now c.requires.together c.left.ensures c.key-outcome.ensures.outcome c.key-outcome.ensures.engine).tells

pub returns-clause-state : goal.returns-clause-state
returns-clause-state c =
    let p = press_is_done c.args.engine.now c.args.editor.now c.args.press c.key-outcome.result c.key-outcome.new.self c.left.result.now c.requires.together c.left.ensures c.key-outcome.ensures.outcome c.key-outcome.ensures.engine in
    let lefts : c.apply.new.self.left ≡ without_last c.key-outcome.result.delete c.args.editor.now.left ++ c.key-outcome.new.self.inserted
    = c.apply.ensures.left ∙ ap (λ (t : List ℕ). without_last c.key-outcome.result.delete c.args.editor.now.left ++ t) c.inserted.ensures.value in
    (press_is_edited c.args.engine.now c.args.editor.now c.args.press c.key-outcome.result c.key-outcome.new.self c.apply.new.self p lefts c.apply.ensures.right).state

pub returns-clause-inserted : goal.returns-clause-inserted
returns-clause-inserted c =
    (press_is_done c.args.engine.now c.args.editor.now c.args.press c.key-outcome.result c.key-outcome.new.self c.left.result.now c.requires.together c.left.ensures c.key-outcome.ensures.outcome c.key-outcome.ensures.engine).inserts

pub returns-clause-chosen : goal.returns-clause-chosen
returns-clause-chosen c =
    (press_is_done c.args.engine.now c.args.editor.now c.args.press c.key-outcome.result c.key-outcome.new.self c.left.result.now c.requires.together c.left.ensures c.key-outcome.ensures.outcome c.key-outcome.ensures.engine).chooses
