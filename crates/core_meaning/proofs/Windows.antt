-- The window is the longest end of at most 63 units.
use Rattle.std.specs.Prelude.{◌≡◌, ℕ, zero, suc, ◌+◌, ◌-◌, ◌<◌, ◌≤◌, Bool, true, false, nat_le, if◌then◌else◌, List, [], ◌∷◌, ◌++◌, drop, ◌⊎◌}
use Rattle.std.proofs.Common.{refl, arith, ap, sym, ◌∙◌, inl, inr}
use Rattle.std.proofs.lemmas.Bool.Decides.{leb_tells}
use Rattle.kmn_base.specs.declared.items.Item.{Item}
use Rattle.core_meaning.specs.Events.{weight, units, seen_end, window_of}
use Rattle.core_meaning.specs.Laws.{IsLongestEnd, WindowIsLongestEnd, WindowOfPut, IsSeenWhole, ShortEndsAreSeen}

-- items of at most 63 units are their own longest end
whole_end : (items : List Item) → units items ≤ 63 → IsLongestEnd items items
whole_end items fits = record { cut = 0; is_end = refl; fits = fits; longest = λ fewer less. absurd (none_less fewer less) }
  where
    none_less : (n : ℕ) → n < 0 → ⊥
    none_less n less = omega arith

-- if items have more than 63 units, the longest end of the items after the first is theirs
longer_end : (x : Item) (items window : List Item) → 63 < units (x ∷ items) → IsLongestEnd items window → IsLongestEnd (x ∷ items) window
longer_end x items window more rest =
    record { cut = suc rest.cut; is_end = rest.is_end; fits = rest.fits; longest = each }
  where
    each : (fewer : ℕ) → fewer < suc rest.cut → 63 < units (drop fewer (x ∷ items))
    each zero less = more
    each (suc fewer) less = rest.longest fewer (omega arith)

rest_units : (a b c : ℕ) → a ≡ b + c → a - b ≡ c
rest_units a b c same = omega arith

-- the longest end of items is all of them, or that of the items after the first
end_by_test : (x : Item) (items window : List Item) (total : ℕ) → total ≡ units (x ∷ items) → IsLongestEnd items window → (test : Bool) → nat_le total 63 ≡ test → IsLongestEnd (x ∷ items) (if test then x ∷ items else window)
end_by_test x items window total same rest true told = whole_end (x ∷ items) (grind (arith, leb_tells))
end_by_test x items window total same rest false told = longer_end x items window (grind (arith, leb_tells)) rest

seen_end_is_longest : (items : List Item) (total : ℕ) → total ≡ units items → IsLongestEnd items (seen_end total items)
seen_end_is_longest [] total same = whole_end [] (omega arith)
seen_end_is_longest (x ∷ items) total same =
    end_by_test x items (seen_end (total - weight x) items) total same
    (seen_end_is_longest items (total - weight x) (rest_units total (weight x) (units items) same)) (nat_le total 63) refl

-- if items have more than 63 units, their window is that of the items after the first
seen_by_test : (x : Item) (items : List Item) (test : Bool) → test ≡ false → (if test then x ∷ items else seen_end (weight x + units items - weight x) items) ≡ window_of items
seen_by_test x items true told = absurd (not_false told)
  where
    not_false : true ≡ false → ⊥
    not_false e = grind arith
seen_by_test x items false told = ap (λ (n : ℕ). seen_end n items) (rest_units (weight x + units items) (weight x) (units items) refl)

over_test : (total : ℕ) → 63 < total → nat_le total 63 ≡ false
over_test total more = grind (arith, leb_tells)

first_unseen : (x : Item) (items : List Item) → 63 < units (x ∷ items) → window_of (x ∷ items) ≡ window_of items
first_unseen x items more = seen_by_test x items (nat_le (units (x ∷ items)) 63) (over_test (units (x ∷ items)) more)

within_test : (total : ℕ) → total ≤ 63 → nat_le total 63 ≡ true
within_test total fits = grind (arith, leb_tells)

all_seen : (items : List Item) → units items ≤ 63 → window_of items ≡ items
all_seen [] fits = refl
all_seen (x ∷ items) fits = ap (λ (test : Bool). if test then x ∷ items else seen_end (weight x + units items - weight x) items) (within_test (units (x ∷ items)) fits)

-- the window of items is all of them, or they have more than 63 units
seen_or_whole : (x : Item) (items : List Item) → (window_of (x ∷ items) ≡ x ∷ items) ⊎ (63 < units (x ∷ items))
seen_or_whole x items = by_test (nat_le (units (x ∷ items)) 63) refl
  where
    by_test : (test : Bool) → nat_le (units (x ∷ items)) 63 ≡ test → (window_of (x ∷ items) ≡ x ∷ items) ⊎ (63 < units (x ∷ items))
    by_test true told = inl (all_seen (x ∷ items) (grind (arith, leb_tells)))
    by_test false told = inr (grind (arith, leb_tells))

units_of_both : (items others : List Item) → units (items ++ others) ≡ units items + units others
units_of_both [] others = omega arith
units_of_both (x ∷ items) others = rw (units_of_both items others) (omega arith)

more_with_others : (x : Item) (items others : List Item) → 63 < units (x ∷ items) → 63 < units (x ∷ (items ++ others))
more_with_others x items others more = rw (units_of_both items others) (omega arith)

pub window_of_put : WindowOfPut
window_of_put [] x = refl
window_of_put (y ∷ items) x = by_parts (seen_or_whole y items) (window_of_put items x)
  where
    by_parts : (window_of (y ∷ items) ≡ y ∷ items) ⊎ (63 < units (y ∷ items)) → window_of (window_of items ++ x ∷ []) ≡ window_of (items ++ x ∷ []) → window_of (window_of (y ∷ items) ++ x ∷ []) ≡ window_of (y ∷ (items ++ x ∷ []))
    by_parts (inl whole) rest = ap (λ (window : List Item). window_of (window ++ x ∷ [])) whole
    by_parts (inr more) rest =
        ap (λ (window : List Item). window_of (window ++ x ∷ [])) (first_unseen y items more)
        ∙ rest ∙ sym (first_unseen y (items ++ x ∷ []) (more_with_others y items (x ∷ []) more))

pub short_ends_are_seen : ShortEndsAreSeen
short_ends_are_seen [] end fits = record { before = []; parts = all_seen end fits }
short_ends_are_seen (y ∷ items) end fits = by_parts (seen_or_whole y (items ++ end)) (short_ends_are_seen items end fits)
  where
    by_parts : (window_of (y ∷ (items ++ end)) ≡ y ∷ (items ++ end)) ⊎ (63 < units (y ∷ (items ++ end))) → IsSeenWhole items end → IsSeenWhole (y ∷ items) end
    by_parts (inl whole) rest = record { before = y ∷ items; parts = whole }
    by_parts (inr more) rest = record { before = rest.before; parts = first_unseen y (items ++ end) more ∙ rest.parts }

pub window_is_longest_end : WindowIsLongestEnd
window_is_longest_end items = seen_end_is_longest items (units items) refl
