use Rattle.std.proofs.Common.{◌≡◌, ℕ, ◌+◌, ◌≤◌, List, length, sym, ◌∙◌, ap, subst, arith, length-append}
use Rattle.rule_engine.specs.Engine.{EngineState, synced}
use Rattle.play_session.specs.Session.{AreTogether, stands_for}
use Rattle.play_session.proofs.Moves.{caret_moved}
use Rattle.play_session.proofs.Readings.{is_read}
use Rattle.play_session.proofs.playing.caret_event.Goals as goal

pub returns-clause-together : goal.returns-clause-together
returns-clause-together c =
    let done = caret_moved c.args.engine.now c.args.editor.now c.caret.new.self c.args.place c.requires.together c.in_ok-caret.ensures.becomes in
    let read : c.sync.new.self ≡ synced c.caret.new.self.left c.args.engine.now
    = c.sync.ensures ∙ ap (λ (t : List ℕ). synced t c.args.engine.now) c.left.ensures in
    let few : length c.caret.new.self.left + length c.caret.new.self.right ≤ 1_000_000
    = omega (arith, done.few, length-append c.caret.new.self.left c.caret.new.self.right) in
    let is = is_read 1_000_000 1_000_000 c.args.engine.now c.args.editor.now c.caret.new.self c.requires.together few in
    subst (λ (e : EngineState). AreTogether 1_000_000 e c.caret.new.self) (sym read) is.together

pub returns-clause-state : goal.returns-clause-state
returns-clause-state c =
    let done = caret_moved c.args.engine.now c.args.editor.now c.caret.new.self c.args.place c.requires.together c.in_ok-caret.ensures.becomes in
    let read : c.sync.new.self ≡ synced c.caret.new.self.left c.args.engine.now
    = c.sync.ensures ∙ ap (λ (t : List ℕ). synced t c.args.engine.now) c.left.ensures in
    let few : length c.caret.new.self.left + length c.caret.new.self.right ≤ 1_000_000
    = omega (arith, done.few, length-append c.caret.new.self.left c.caret.new.self.right) in
    let is = is_read 1_000_000 1_000_000 c.args.engine.now c.args.editor.now c.caret.new.self c.requires.together few in
    ap (λ (e : EngineState). stands_for e c.caret.new.self) read ∙ (is.state ∙ done.state)
