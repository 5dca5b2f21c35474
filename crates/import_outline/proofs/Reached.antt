-- What names reach is closed: with a group it has each one that it enters.
use Rattle.std.proofs.Common.{◌≡◌, ℕ, zero, suc, ◌+◌, ◌≤◌, ◌<◌, Bool, true, false, not, ◌&&◌, List, [], ◌∷◌, ◌++◌, length, map, refl, sym, ◌∙◌, ap, subst, arith, append-nil, if◌then◌else◌}
use Rattle.std.specs.Prelude.{filter, ◌||◌}
use Rattle.std.specs.List.{list_all}
use Rattle.std.proofs.lemmas.Bool.{and_parts, false≢true}
use Rattle.kmn_base.specs.Names.{same_name}
use Rattle.virtual_keys.proofs.NamePlaces.{same_name-self}
use Rattle.import_outline.specs.Names.{has_name}
use Rattle.import_outline.specs.Outline.{with_used, with_used_times}
use Rattle.import_outline.specs.declared.outline.GroupUse.{GroupUse}
use Rattle.import_outline.specs.Laws.{is_closed_use, ReachableIsClosed}

abbrev goes_on : List (List ℕ) → GroupUse → Bool
goes_on names entry = has_name names entry.user && not (has_name names entry.used)

abbrev ends : List GroupUse → List (List ℕ)
ends us = map (λ (entry : GroupUse). entry.used) us

-- how many uses end outside names
missing : List (List ℕ) → List GroupUse → ℕ
missing names [] = 0
missing names (u ∷ us) = if has_name names u.used then missing names us else 1 + missing names us

has_either : (names more : List (List ℕ)) (name : List ℕ) → has_name (names ++ more) name ≡ (has_name names name || has_name more name)
has_either [] more name = refl
has_either (n ∷ names) more name = ap (λ b. same_name name n || b) (has_either names more name) ∙ or_assoc (same_name name n) (has_name names name) (has_name more name)
  where
    or_assoc : (a b c : Bool) → (a || (b || c)) ≡ ((a || b) || c)
    or_assoc true b c = refl
    or_assoc false b c = refl

-- each use that goes on ends among more names
abbrev Covered : List (List ℕ) → List (List ℕ) → List GroupUse → Type 0
Covered names more [] = Unit {0}
Covered names more (u ∷ us) = (goes_on names u ≡ true → has_name more u.used ≡ true) × Covered names more us

or_right : (a b : Bool) → b ≡ true → (a || b) ≡ true
or_right true b e = refl
or_right false b e = e

covered_more : (names more : List (List ℕ)) (name : List ℕ) (us : List GroupUse) → Covered names more us → Covered names (name ∷ more) us
covered_more names more name [] h = tt
covered_more names more name (u ∷ us) h = ((λ e. or_right (same_name u.used name) (has_name more u.used) (h.0 e)), covered_more names more name us h.1)

covered : (names : List (List ℕ)) (us : List GroupUse) → Covered names (ends (filter (goes_on names) us)) us
covered names [] = tt
covered names (u ∷ us) =
    elim (goes_on names u) as (λ (b : Bool). (b ≡ true → has_name (ends (if b then u ∷ filter (goes_on names) us else filter (goes_on names) us)) u.used ≡ true) × Covered names (ends (if b then u ∷ filter (goes_on names) us else filter (goes_on names) us)) us) [
      | true ↦ ((λ e. ap (λ b. b || has_name (ends (filter (goes_on names) us)) u.used) (same_name-self u.used)), covered_more names (ends (filter (goes_on names) us)) u.used us (covered names us))
      | false ↦ ((λ e. absurd (false≢true e)), covered names us)
    ]

-- with more names no more is missing
no_more : (names more : List (List ℕ)) (us : List GroupUse) → missing (names ++ more) us ≤ missing names us
unfolding missing
no_more names more [] = omega arith
no_more names more (u ∷ us) =
    let rest = no_more names more us in
    subst (λ (b : Bool). (if b then missing (names ++ more) us else 1 + missing (names ++ more) us) ≤ (if has_name names u.used then missing names us else 1 + missing names us)) (sym (has_either names more u.used))
    (by (has_name names u.used) (has_name more u.used) (missing (names ++ more) us) (missing names us) rest)
  where
    by : (a b : Bool) (m n : ℕ) → m ≤ n → (if a || b then m else 1 + m) ≤ (if a then n else 1 + n)
    by true b m n h = h
    by false true m n h = omega arith
    by false false m n h = omega arith

-- and less where a use went on
fewer : (names more : List (List ℕ)) (us : List GroupUse) → Covered names more us → list_all (is_closed_use names) us ≡ false → missing (names ++ more) us < missing names us
unfolding missing
fewer names more [] h e = absurd (false≢true (sym e))
fewer names more (u ∷ us) h e =
    subst (λ (b : Bool). (if b then missing (names ++ more) us else 1 + missing (names ++ more) us) < (if has_name names u.used then missing names us else 1 + missing names us)) (sym (has_either names more u.used))
    (by (has_name names u.user) (has_name names u.used) (has_name more u.used) (list_all (is_closed_use names) us) (missing (names ++ more) us) (missing names us) h.0 (no_more names more us) (fewer names more us h.1) e)
  where
    by : (from a b rest : Bool) (m n : ℕ) → ((from && not a) ≡ true → b ≡ true) → m ≤ n → (rest ≡ false → m < n) → ((not from || a) && rest) ≡ false → (if a || b then m else 1 + m) < (if a then n else 1 + n)
    by from true b rest m n cover less more e = more (only from rest e)
      where
        only : (from rest : Bool) → ((not from || true) && rest) ≡ false → rest ≡ false
        only true rest e = e
        only false rest e = e
    by true false true rest m n cover less more e = omega arith
    by true false false rest m n cover less more e = absurd (false≢true (cover refl))
    by false false true rest m n cover less more e = omega arith
    by false false false rest m n cover less more e = let h : m < n = more e in omega arith

-- where nothing is missing all uses are shut
none_missing : (names : List (List ℕ)) (us : List GroupUse) → missing names us ≤ 0 → list_all (is_closed_use names) us ≡ true
unfolding missing
none_missing names [] h = refl
none_missing names (u ∷ us) h = by (has_name names u.user) (has_name names u.used) (missing names us) h (none_missing names us)
  where
    by : (from a : Bool) (m : ℕ) → (if a then m else 1 + m) ≤ 0 → (m ≤ 0 → list_all (is_closed_use names) us ≡ true) → ((not from || a) && list_all (is_closed_use names) us) ≡ true
    by true true m h rest = rest h
    by false true m h rest = rest h
    by from false m h rest = absurd (omega arith)

-- where all are shut nothing is added
nothing_added : (names : List (List ℕ)) (us : List GroupUse) → list_all (is_closed_use names) us ≡ true → filter (goes_on names) us ≡ []
nothing_added names [] h = refl
nothing_added names (u ∷ us) h =
    let parts = and_parts (is_closed_use names u) (list_all (is_closed_use names) us) h in
    ap (λ (b : Bool). if b then u ∷ filter (goes_on names) us else filter (goes_on names) us) (by (has_name names u.user) (has_name names u.used) parts.0) ∙ nothing_added names us parts.1
  where
    by : (from a : Bool) → (not from || a) ≡ true → (from && not a) ≡ false
    by true true e = refl
    by true false e = absurd (false≢true e)
    by false a e = refl

stays_shut : (n : ℕ) (us : List GroupUse) (names : List (List ℕ)) → list_all (is_closed_use names) us ≡ true → list_all (is_closed_use (with_used_times n us names)) us ≡ true
stays_shut zero us names h = h
stays_shut (suc n) us names h =
    let same : with_used us names ≡ names = ap (λ (more : List GroupUse). names ++ ends more) (nothing_added names us h) ∙ append-nil names in
    ap (λ (ns : List (List ℕ)). list_all (is_closed_use (with_used_times n us ns)) us) same ∙ stays_shut n us names h

shut_by : (n : ℕ) (us : List GroupUse) (names : List (List ℕ)) → missing names us ≤ n → list_all (is_closed_use (with_used_times n us names)) us ≡ true
shut_by zero us names h = none_missing names us h
shut_by (suc n) us names h =
    elim (list_all (is_closed_use names) us) as (λ (b : Bool). list_all (is_closed_use names) us ≡ b → list_all (is_closed_use (with_used_times n us (with_used us names))) us ≡ true) [
      | true ↦ λ e. stays_shut (suc n) us names e
      | false ↦ λ e. let less = fewer names (ends (filter (goes_on names) us)) us (covered names us) e in shut_by n us (with_used us names) (omega arith)
    ] refl

at_most : (names : List (List ℕ)) (us : List GroupUse) → missing names us ≤ length us
unfolding missing
at_most names [] = omega arith
at_most names (u ∷ us) =
    let rest = at_most names us in
    elim (has_name names u.used) as (λ (b : Bool). (if b then missing names us else 1 + missing names us) ≤ suc (length us)) [ true ↦ omega arith | false ↦ omega arith ]

pub reachable_is_closed : ReachableIsClosed
reachable_is_closed uses names = shut_by (length uses) uses names (at_most names uses)
