-- Visiting the groups at further places.
use Rattle.std.proofs.Common.{◌≡◌, ℕ, ◌+◌, List, refl, ap, add-one}
use Rattle.rule_model.specs.declared.program.GroupDef.{GroupDef}
use Rattle.name_warnings.specs.Groups.{reached_after, visited}

pub reached_none : (names : List (List ℕ)) (groups : List GroupDef) (start : List ℕ) → reached_after names groups 0 start ≡ start
unfolding reached_after
reached_none names groups start = refl

pub reached_more : (names : List (List ℕ)) (groups : List GroupDef) (places : ℕ) (start : List ℕ) → reached_after names groups (places + 1) start ≡ visited names groups places (reached_after names groups places start)
unfolding reached_after
reached_more names groups places start = ap (λ count. reached_after names groups count start) (add-one places)
