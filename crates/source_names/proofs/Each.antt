-- The causes of statements, one after the other.
use Rattle.std.proofs.Common.{◌≡◌, ℕ, ◌+◌, ◌<◌, List, [], ◌∷◌, ◌++◌, take, drop, length, get_or, Option, sym, ap, ◌∙◌}
use Rattle.std.proofs.lemmas.List.{drop_more, append_assoc}
use Rattle.std.proofs.lemmas.List.Concat.{flat_map-append}
use Rattle.rule_model.specs.declared.program.SrcItem.{SrcItem}
use Rattle.store_table.proofs.Firsts.{take_next}
use Rattle.source_names.specs.declared.causes.Cause.{Cause}
use Rattle.source_names.specs.declared.causes.NameFault.{NameFault}
use Rattle.source_names.specs.Causes.{caused, each_of, items_caused}

-- the causes so far with those of another statement
pub each_kept : {X : Type 0} (f : List X → X → List NameFault) (xs : List X) (i : ℕ) (x : X) (causes found : List NameFault) → i < length xs → x ≡ get_or xs i x → found ≡ f (take i xs) x
    → (causes ++ found) ++ each_of f (take (i + 1) xs) (drop (i + 1) xs) ≡ causes ++ each_of f (take i xs) (drop i xs)
each_kept f xs i x causes found h e is =
    append_assoc causes found (each_of f (take (i + 1) xs) (drop (i + 1) xs))
    ∙ ap (λ r. causes ++ (r ++ each_of f (take (i + 1) xs) (drop (i + 1) xs))) is
    ∙ ap (λ before. causes ++ (f (take i xs) x ++ each_of f before (drop (i + 1) xs))) (take_next xs i x h e)
    ∙ sym (ap (λ left. causes ++ each_of f (take i xs) left) (drop_more xs i x h ∙ ap (λ y. y ∷ drop (i + 1) xs) (sym e)))

-- the causes of items before others
pub items_append : (line : ℕ) (cause : SrcItem → Option Cause) (xs ys : List SrcItem) → items_caused line cause (xs ++ ys) ≡ items_caused line cause xs ++ items_caused line cause ys
items_append line cause xs ys = flat_map-append (λ (item : SrcItem). caused line (cause item)) xs ys
