use Rattle.std.proofs.Common.{◌≡◌, ℕ, ◌+◌, ◌≤◌, List, length, sym, ◌∙◌, ap, subst, arith, length-append}
use Rattle.rule_engine.specs.Engine.{EngineState, synced}
use Rattle.play_session.specs.Session.{AreTogether, stands_for}
use Rattle.play_session.proofs.Moves.{edit_done, edit_steps}
use Rattle.play_session.proofs.Readings.{is_read}
use Rattle.play_session.proofs.playing.edit_event.Goals as goal

pub returns-clause-together : goal.returns-clause-together
returns-clause-together c =
    let done = edit_done c.args.engine.now c.args.editor.now c.edit.new.self c.args.places.from c.args.places.to c.args.text.now c.requires.together c.in_ok-edit.ensures.answer c.in_ok-edit.ensures.becomes in
    let read : c.sync.new.self ≡ synced c.edit.new.self.left c.args.engine.now
    = c.sync.ensures ∙ ap (λ (t : List ℕ). synced t c.args.engine.now) c.left.ensures in
    let few : length c.edit.new.self.left + length c.edit.new.self.right ≤ 1_000_000
    = omega (arith, done.few, length-append c.edit.new.self.left c.edit.new.self.right) in
    let is = is_read 1_000_000 1_000_000 c.args.engine.now c.args.editor.now c.edit.new.self c.requires.together few in
    subst (λ (e : EngineState). AreTogether 1_000_000 e c.edit.new.self) (sym read) is.together

pub returns-clause-state : goal.returns-clause-state
returns-clause-state c =
    let done = edit_done c.args.engine.now c.args.editor.now c.edit.new.self c.args.places.from c.args.places.to c.args.text.now c.requires.together c.in_ok-edit.ensures.answer c.in_ok-edit.ensures.becomes in
    let read : c.sync.new.self ≡ synced c.edit.new.self.left c.args.engine.now
    = c.sync.ensures ∙ ap (λ (t : List ℕ). synced t c.args.engine.now) c.left.ensures in
    let few : length c.edit.new.self.left + length c.edit.new.self.right ≤ 1_000_000
    = omega (arith, done.few, length-append c.edit.new.self.left c.edit.new.self.right) in
    let is = is_read 1_000_000 1_000_000 c.args.engine.now c.args.editor.now c.edit.new.self c.requires.together few in
    ap (λ (e : EngineState). stands_for e c.edit.new.self) read ∙ (is.state ∙ done.state)

pub returns-clause-tables : goal.returns-clause-tables
returns-clause-tables c = grind (arith, edit_steps)

pub returns-clause-happens : goal.returns-clause-happens
returns-clause-happens c = grind (arith, edit_steps)

pub returns-clause-refused : goal.returns-clause-refused
returns-clause-refused c = grind (arith, edit_steps)

pub returns-clause-unchanged : goal.returns-clause-unchanged
returns-clause-unchanged c = grind (arith, edit_steps)

pub returns-clause-inserted : goal.returns-clause-inserted
returns-clause-inserted c = grind (arith, edit_steps)

pub returns-clause-chosen : goal.returns-clause-chosen
returns-clause-chosen c = grind (arith, edit_steps)
