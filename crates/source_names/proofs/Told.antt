-- The causes that are reported, one after the other.
use Rattle.std.proofs.Common.{◌≡◌, ℕ, ◌+◌, ◌<◌, Bool, true, false, List, [], ◌∷◌, ◌++◌, drop, length, get_or, refl, sym, ap, ◌∙◌}
use Rattle.std.specs.Prelude.{if◌then◌else◌}
use Rattle.std.proofs.lemmas.List.{drop_more, append_assoc}
use Rattle.std.proofs.lemmas.List.Concat.{flat_map-append}
use Rattle.source_names.specs.declared.causes.NameFault.{NameFault}
use Rattle.source_names.specs.Telling.{group_lacked, groups_lacked, is_new, new_after, store_lacked, stores_lacked}

new_step : (told causes : List NameFault) (i : ℕ) (x : NameFault) → i < length causes → x ≡ get_or causes i x
    → new_after told (drop i causes) ≡ (if is_new told x then x ∷ new_after (told ++ x ∷ []) (drop (i + 1) causes) else new_after told (drop (i + 1) causes))
new_step told causes i x h e = ap (new_after told) (drop_more causes i x h ∙ ap (λ y. y ∷ drop (i + 1) causes) (sym e))

-- the causes so far with another one that is reported, and with one that is not
pub new_kept : (told causes : List NameFault) (i : ℕ) (x : NameFault) → i < length causes → x ≡ get_or causes i x → is_new told x ≡ true
    → (told ++ x ∷ []) ++ new_after (told ++ x ∷ []) (drop (i + 1) causes) ≡ told ++ new_after told (drop i causes)
new_kept told causes i x h e is =
    append_assoc told (x ∷ []) (new_after (told ++ x ∷ []) (drop (i + 1) causes))
    ∙ sym (ap (λ left. told ++ left) (new_step told causes i x h e
    ∙ ap (λ t. if t then x ∷ new_after (told ++ x ∷ []) (drop (i + 1) causes) else new_after told (drop (i + 1) causes)) is))

pub new_passed : (told causes : List NameFault) (i : ℕ) (x : NameFault) → i < length causes → x ≡ get_or causes i x → is_new told x ≡ false
    → told ++ new_after told (drop (i + 1) causes) ≡ told ++ new_after told (drop i causes)
new_passed told causes i x h e is =
    sym (ap (λ left. told ++ left) (new_step told causes i x h e
    ∙ ap (λ t. if t then x ∷ new_after (told ++ x ∷ []) (drop (i + 1) causes) else new_after told (drop (i + 1) causes)) is))

-- the names that causes lack with those of another
nothing_behind : {X : Type 0} (xs : List X) → xs ++ [] ≡ xs
nothing_behind [] = refl
nothing_behind (x ∷ xs) = ap (λ ys. x ∷ ys) (nothing_behind xs)

pub stores_push : (told : List NameFault) (x : NameFault) → stores_lacked (told ++ x ∷ []) ≡ stores_lacked told ++ store_lacked x.cause
stores_push told x =
    flat_map-append (λ (fault : NameFault). store_lacked fault.cause) told (x ∷ [])
    ∙ ap (λ names. stores_lacked told ++ names) (nothing_behind (store_lacked x.cause))

pub groups_push : (told : List NameFault) (x : NameFault) → groups_lacked (told ++ x ∷ []) ≡ groups_lacked told ++ group_lacked x.cause
groups_push told x =
    flat_map-append (λ (fault : NameFault). group_lacked fault.cause) told (x ∷ [])
    ∙ ap (λ names. groups_lacked told ++ names) (nothing_behind (group_lacked x.cause))
