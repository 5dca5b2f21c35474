-- The sessions of a host's fields.
use Rattle.std.proofs.Common.{◌≡◌, List, [], ◌∷◌, ◌++◌, refl}
use Rattle.std.proofs.lemmas.List.Elements.{All-append, All-cons, All-nil}
use Rattle.rule_model.specs.declared.tables.Tables.{Tables}
use Rattle.play_session.specs.Session.{SessionState, first_session}
use Rattle.text_host.specs.Host.{AreOver}

-- if all sessions have the same tables, they still do after a first session over these tables is added
pub one_more : (tables : Tables) (sessions : List SessionState) → AreOver tables sessions → AreOver tables (sessions ++ first_session tables ∷ [])
one_more tables sessions over =
    All-append (λ (session : SessionState). session.tables ≡ tables) sessions (first_session tables ∷ []) over
    (All-cons (λ (session : SessionState). session.tables ≡ tables) (first_session tables) [] refl (All-nil (λ (session : SessionState). session.tables ≡ tables)))
