-- Outputs whose items have the same numbers are equal.
use Rattle.std.specs.Prelude.{◌≡◌, ℕ, true, false, ◌&&◌, nat_eq, if◌then◌else◌, List, [], ◌∷◌}
use Rattle.std.proofs.Common.{refl, sym, ◌∙◌, arith}
use Rattle.std.proofs.lemmas.Bool.{and_parts}
use Rattle.rule_model.specs.declared.tables.Out.{Out}
use Rattle.rule_model.specs.declared.tables.Out.TheVariants as output
use Rattle.core_constructs.specs.Empty.{item_numbers, same_item, same_outputs}
use Rattle.core_laws.proofs.Rising.{equal_numbers}

false_true : false ≡ true → ⊥
false_true e = grind arith

-- the item with three numbers
item_of_numbers : ℕ → ℕ → ℕ → Out
item_of_numbers kind a b =
    if nat_eq kind 0 then output.Char a
    else if nat_eq kind 1 then output.Mark a
    else if nat_eq kind 2 then output.Index a b
    else if nat_eq kind 3 then output.Context
    else if nat_eq kind 4 then output.ContextAt a
    else if nat_eq kind 5 then output.Enter a
    else if nat_eq kind 6 then output.Set a b
    else if nat_eq kind 7 then output.SetSystem a b
    else if nat_eq kind 8 then output.Save a
    else if nat_eq kind 9 then output.Reset a
    else if nat_eq kind 10 then output.Nul
    else if nat_eq kind 11 then output.Beep
    else output.Stop

read_back : (item : Out) → item_of_numbers (item_numbers item).0 (item_numbers item).1 (item_numbers item).2 ≡ item
unfolding item_of_numbers
read_back (output.Char c) = refl
read_back (output.Mark m) = refl
read_back (output.Index s k) = refl
read_back output.Context = refl
read_back (output.ContextAt k) = refl
read_back (output.Enter g) = refl
read_back (output.Set s v) = refl
read_back (output.SetSystem s v) = refl
read_back (output.Save s) = refl
read_back (output.Reset s) = refl
read_back output.Nul = refl
read_back output.Beep = refl
read_back output.Stop = refl

equal_items : (a b : Out) → same_item a b ≡ true → a ≡ b
equal_items a b same =
    let two = and_parts (nat_eq (item_numbers a).0 (item_numbers b).0 && nat_eq (item_numbers a).1 (item_numbers b).1) (nat_eq (item_numbers a).2 (item_numbers b).2) same in
    let one = and_parts (nat_eq (item_numbers a).0 (item_numbers b).0) (nat_eq (item_numbers a).1 (item_numbers b).1) two.0 in
    sym (read_back a)
    ∙ (λ i. item_of_numbers (equal_numbers (item_numbers a).0 (item_numbers b).0 one.0 i) (equal_numbers (item_numbers a).1 (item_numbers b).1 one.1 i) (equal_numbers (item_numbers a).2 (item_numbers b).2 two.1 i))
    ∙ read_back b

pub equal_outputs : (xs ys : List Out) → same_outputs xs ys ≡ true → xs ≡ ys
equal_outputs [] [] same = refl
equal_outputs [] (y ∷ ys) same = absurd (false_true same)
equal_outputs (x ∷ xs) [] same = absurd (false_true same)
equal_outputs (x ∷ xs) (y ∷ ys) same =
    let parts = and_parts (same_item x y) (same_outputs xs ys) same in
    λ i. equal_items x y parts.0 i ∷ equal_outputs xs ys parts.1 i
