-- If the numbers or the stores end, no store is found.
use Rattle.std.proofs.Common.{◌≡◌, ℕ, ◌≤◌, min, ◌⊎◌, inl, inr, List, [], ◌∷◌, length, drop, Option, None, refl, ap, ◌∙◌, arith}
use Rattle.std.proofs.lemmas.Bool.{cases_lt}
use Rattle.std.proofs.lemmas.List.{drop_all}
use Rattle.rule_model.specs.declared.tables.Store.{Store}
use Rattle.rule_model.specs.Plain.{option_named}

-- the end of the shorter of two lists is the end of one of them
pub either_ended : (a b n : ℕ) → min a b ≤ n → (a ≤ n) ⊎ (b ≤ n)
either_ended a b n e = elim (cases_lt n a) [
  | inr h ↦ inl h
  | inl h ↦ inr (omega arith)
]

nothing_named : (name : List ℕ) (numbers : List (Option ℕ)) → option_named name numbers [] ≡ None
nothing_named name [] = refl
nothing_named name (n ∷ ns) = refl

-- so no name is found there
pub named_ended : (name : List ℕ) (numbers : List (Option ℕ)) (stores : List Store) (n : ℕ) → min (length numbers) (length stores) ≤ n → option_named name (drop n numbers) (drop n stores) ≡ None
named_ended name numbers stores n ended = elim (either_ended (length numbers) (length stores) n ended) [
  | inl e ↦ ap (λ l. option_named name l (drop n stores)) (drop_all n numbers e)
  | inr e ↦ ap (option_named name (drop n numbers)) (drop_all n stores e) ∙ nothing_named name (drop n numbers)
]
