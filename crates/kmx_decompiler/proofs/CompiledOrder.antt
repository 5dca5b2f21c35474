-- The records of a file that a program compiles to are sorted by the length of their contexts, longest first.
use Rattle.std.proofs.Common.{◌≡◌, ℕ, suc, ◌+◌, ◌<◌, Bool, true, false, List, [], ◌∷◌, length, map, None, refl, ◌∙◌, ap, subst, arith, cond, Less, Equal, Greater}
use Rattle.std.specs.Prelude.{nat_lt, slice_index_or, option_map, ◌==◌}
use Rattle.std.specs.List.Sorted.{IsSortedBy}
use Rattle.std.specs.Ordering.{is_lt, ordering_then, nat_cmp}
use Rattle.std.specs.Option.{option_or}
use Rattle.std.proofs.lemmas.Bool.{cond-false}
use Rattle.rule_model.specs.declared.program.Program.{Program}
use Rattle.rule_model.specs.declared.tables.Rule.{Rule}
use Rattle.rule_model.specs.declared.tables.Group.{Group}
use Rattle.rule_model.specs.declared.tables.Tables.{Tables}
use Rattle.kmx_format.specs.TablesOf.{rule_without_place, group_without_places, no_places}
use Rattle.kmx_format.proofs.FileLaw.{law}
use Rattle.compile_laws.specs.Compiles.{precedes, Compiles}
use Rattle.kmx_decompiler.specs.declared.no_spelling.NoSpelling.TheVariants.{Order}
use Rattle.kmx_decompiler.specs.Unspelled.{longer_behind, first_longer, disorder}
use Rattle.kmx_decompiler.specs.Laws.{CompiledIsInOrder}

-- if a record does not come before another, its context is not longer
not-longer : (a b : Rule) → precedes a b ≡ false → nat_lt (length b.context) (length a.context) ≡ false
not-longer a b h = by (nat_lt (length b.context) (length a.context)) h
  where
    by : (t : Bool)
        → is_lt (ordering_then (ordering_then (cond t Less (cond (length b.context == length a.context) Equal Greater)) (nat_cmp a.line b.line)) (nat_cmp a.place b.place)) ≡ false
        → t ≡ false
    by true h = absurd (cc)
    by false h = refl

none-longer : (n : ℕ) (before : Rule) (rules : List Rule) → IsSortedBy precedes (before ∷ rules) → longer_behind n (length before.context) (map rule_without_place rules) ≡ None
none-longer n before [] up = refl
none-longer n before (rule ∷ rules) up =
    cond-false (nat_lt (length before.context) (length rule.context)) _ _ (not-longer rule before (up 0 before (omega arith) (omega arith)))
    ∙ none-longer (n + 1) rule rules
    (λ k d low less.
    let e : suc k + 1 ≡ suc (k + 1) = omega arith in
    subst (λ (j : ℕ). precedes (slice_index_or (before ∷ rule ∷ rules) j d) (slice_index_or (rule ∷ rules) k d) ≡ false) e (up (suc k) d (omega arith) (omega arith)))

group-in-order : (rules : List Rule) → IsSortedBy precedes rules → first_longer (map rule_without_place rules) ≡ None
group-in-order [] up = refl
group-in-order (rule ∷ rules) up = none-longer 1 rule rules up

none-else : (g : ℕ) (group : Group) (groups : List Group) → first_longer (group_without_places group).rules ≡ None → disorder (g + 1) (map group_without_places groups) ≡ None
    → disorder g (map group_without_places (group ∷ groups)) ≡ None
none-else g group groups e f = (λ i. option_or (option_map (λ (rule : ℕ). Order g rule) (e i)) (disorder (g + 1) (map group_without_places groups))) ∙ f

in-order : (g : ℕ) (groups : List Group) → ((k : ℕ) (d : Group) → k < length groups → IsSortedBy precedes (slice_index_or groups k d).rules) → disorder g (map group_without_places groups) ≡ None
in-order g [] up = refl
in-order g (group ∷ groups) up =
    none-else g group groups (group-in-order group.rules (up 0 group (omega arith))) (in-order (g + 1) groups (λ k d less. up (suc k) d (omega arith)))

compiled-in-order : (program : Program) (tables : Tables) → Compiles program tables → disorder 0 (no_places tables).groups ≡ None
compiled-in-order program tables c =
    in-order 0 tables.groups
    (λ k d less. let count = c.groups.count in (c.groups.each k d (omega (arith, count, less))).in_order)

pub compiled_is_in_order : CompiledIsInOrder
compiled_is_in_order program tables picture c can small =
    ap (λ (read : Tables). disorder 0 read.groups) (law tables picture can small) ∙ compiled-in-order program tables c
