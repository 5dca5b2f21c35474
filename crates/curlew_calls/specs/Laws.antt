-- The law of a new position.
use Rattle.std.specs.Prelude.{◌≡◌, ◌≢◌, ◌<◌, ◌⊎◌, [], length}
use Rattle.kmn_base.specs.declared.limits.TheConstants.{WINDOW_ITEMS}
use Rattle.kmn_base.specs.Lists.{characters, window}
use Rattle.play_session.specs.Session.{SessionState}
use Rattle.curlew_calls.specs.Calls.{with_text_before}

-- if the text before the caret is set to no characters, neither a character nor a mark remains before it, unless all 64 items of the
-- window were marks
abbrev pub NoneToldLeavesNone : Type 0
NoneToldLeavesNone =
    (session : SessionState) → (0 < length (characters (window session.state.left))) ⊎ (length (window session.state.left) ≢ WINDOW_ITEMS) →
    (with_text_before [] session).state.left ≡ []
