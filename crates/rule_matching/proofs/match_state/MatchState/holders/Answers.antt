use Rattle.std.proofs.Common.{Some, subst}
use Rattle.rule_model.specs.Content.{elements_at}
use Rattle.rule_model.specs.Tab.{tab}
use Rattle.rule_index.specs.Holdings.{AreHoldersOf}
use Rattle.rule_matching.specs.MatchState.{MatchStateValue}
use Rattle.rule_matching.proofs.match_state.MatchState.holders.Goals as goal

pub returns : goal.returns
returns c =
    subst (λ (m : MatchStateValue). AreHoldersOf c.args.item (λ store. elements_at (tab m.tables).stores (Some store)) c.holders.result.now) c.self.view_is
    c.holders.ensures
