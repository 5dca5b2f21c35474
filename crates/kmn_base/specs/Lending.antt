use Rattle.std.specs.Prelude.{List, length, take, drop, ◌++◌}
use Rattle.std.specs.Borrow.{MutBor, Lends, Array, RattleType, Fml}
use Rattle.kmn_base.specs.contracts.sequence.Seq.{the_row}

-- the list after a borrower has written these items to its slice, which keeps its length
abbrev pub written : {X : Type 0} → List X → List X → List X
written xs ws = take (length xs) (ws ++ drop (length ws) xs)

-- a list is borrowed as a slice of its items
module _ (T : RattleType) where
  abbrev pub LendsItems : MutBor (List T.Denot) → MutBor (List T.Denot) → Fml
  LendsItems s r = Lends (the_row T) (Array T 0) s r (written s.now)
