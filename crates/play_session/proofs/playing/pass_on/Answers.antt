use Rattle.std.proofs.Common.{◌≡◌, ℕ, List, sym, ◌∙◌, ap, subst}
use Rattle.rule_engine.specs.Engine.{EngineState, synced}
use Rattle.play_session.specs.Session.{AreTogether, stands_for}
use Rattle.play_session.proofs.Presses.{default_is_done}
use Rattle.play_session.proofs.playing.pass_on.Goals as goal

pub returns-clause-together : goal.returns-clause-together
returns-clause-together c =
    let read : c.sync.new.self ≡ synced c.passed.new.self.left c.args.engine.now
    = c.sync.ensures ∙ ap (λ (t : List ℕ). synced t c.args.engine.now) c.left.ensures in
    subst (λ (e : EngineState). AreTogether 1_000_000 e c.passed.new.self) (sym read)
    (default_is_done c.args.engine.now c.args.editor.now c.passed.new.self c.args.press c.requires.together c.passed.ensures.left c.passed.ensures.right).together

pub returns-clause-state : goal.returns-clause-state
returns-clause-state c =
    let read : c.sync.new.self ≡ synced c.passed.new.self.left c.args.engine.now
    = c.sync.ensures ∙ ap (λ (t : List ℕ). synced t c.args.engine.now) c.left.ensures in
    ap (λ (e : EngineState). stands_for e c.passed.new.self) read
    ∙ (default_is_done c.args.engine.now c.args.editor.now c.passed.new.self c.args.press c.requires.together c.passed.ensures.left c.passed.ensures.right).state
