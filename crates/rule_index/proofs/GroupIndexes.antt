-- Groups are indexed one after the other.
use Rattle.std.proofs.Common.{◌≡◌, ℕ, zero, suc, ◌+◌, ◌<◌, ◌≤◌, List, [], ◌∷◌, ◌++◌, length, drop, slice_index_or, Some, refl, sym, ◌∙◌, ap, subst, inl, inr, arith, length-append}
use Rattle.std.specs.Prelude.{All, slice_get}
use Rattle.std.proofs.lemmas.Bool.{cases_lt}
use Rattle.std.proofs.lemmas.List.{get_or_append_left}
use Rattle.std.proofs.lemmas.Option.{slice_get_within, get_or_from_slice_get}
use Rattle.std.proofs.Math.Seq.{get_or-append_seam}
use Rattle.kmn_base.specs.declared.limits.TheConstants.{RECORDS}
use Rattle.rule_model.specs.declared.tables.Group.{Group}
use Rattle.rule_index.specs.Groups.{RuleIndexValue, AreIndexesOf, IsRuleIndexOf}

-- each group before the remaining groups has its index
pub record AreIndexed (groups : List Group) (indexes : List RuleIndexValue) (left : List Group) : Type 0 where
  pub behind : drop (length indexes) groups ≡ left
  pub count : length indexes + length left ≡ length groups
  pub right : (k : ℕ) (group : Group) (d : RuleIndexValue) → k < length indexes → slice_get groups k ≡ Some group → IsRuleIndexOf group (slice_index_or indexes k d)

all_left : (groups : List Group) → drop 0 groups ≡ groups
all_left [] = refl
all_left (group ∷ groups) = refl

pub none_indexed : (groups : List Group) → AreIndexed groups [] groups
none_indexed groups = record {
  behind = all_left groups;
  count = omega arith;
  right = λ k group d below got. absurd (omega arith);
}

-- the first remaining group is the group at this number, and the other groups remain after it
group_here : (groups : List Group) (n : ℕ) (here : Group) (left : List Group) → drop n groups ≡ here ∷ left → slice_get groups n ≡ Some here
group_here [] zero here left e = absurd (cc)
group_here [] (suc n) here left e = absurd (cc)
group_here (group ∷ groups) zero here left e = cc
group_here (group ∷ groups) (suc n) here left e = group_here groups n here left e

groups_behind : (groups : List Group) (n : ℕ) (here : Group) (left : List Group) → drop n groups ≡ here ∷ left → drop (suc n) groups ≡ left
groups_behind [] zero here left e = absurd (cc)
groups_behind [] (suc n) here left e = absurd (cc)
groups_behind (group ∷ groups) zero here left e =
    let same : groups ≡ left = cc in
    all_left groups ∙ same
groups_behind (group ∷ groups) (suc n) here left e = groups_behind groups n here left e

-- if the index of the next group is appended, one more group is indexed
pub one_indexed : (groups : List Group) (indexes : List RuleIndexValue) (here : Group) (left : List Group) (index : RuleIndexValue)
    → AreIndexed groups indexes (here ∷ left) → IsRuleIndexOf here index → AreIndexed groups (indexes ++ index ∷ []) left
one_indexed groups indexes here left index h is =
    let more : length (indexes ++ index ∷ []) ≡ length indexes + 1 = length-append indexes (index ∷ []) in
    let next : length (indexes ++ index ∷ []) ≡ suc (length indexes) = omega (arith, more) in
    let at : slice_get groups (length indexes) ≡ Some here = group_here groups (length indexes) here left h.behind in
    record {
      behind = ap (λ (n : ℕ). drop n groups) next ∙ groups_behind groups (length indexes) here left h.behind;
      count = omega (arith, more, h.count);
      right = λ k group d below got. elim (cases_lt k (length indexes)) [
        | inl old ↦ subst (IsRuleIndexOf group) (sym (get_or_append_left indexes (index ∷ []) d k old)) (h.right k group d old got)
        | inr new ↦
            let place : k ≡ length indexes = omega (arith, more) in
            let last : slice_index_or (indexes ++ index ∷ []) k d ≡ index
            = ap (λ (j : ℕ). slice_index_or (indexes ++ index ∷ []) j d) place ∙ get_or-append_seam indexes index [] d in
            let both : Some here ≡ Some group = sym at ∙ (ap (slice_get groups) (sym place) ∙ got) in
            let same : here ≡ group = cc in
            subst (IsRuleIndexOf group) (sym last) (subst (λ (g : Group). IsRuleIndexOf g index) same is)
      ];
    }

-- if no group remains, each group has its index
pub all_indexed : (groups : List Group) (indexes : List RuleIndexValue) → AreIndexed groups indexes [] → AreIndexesOf groups indexes
all_indexed groups indexes h = record {
  count = omega (arith, h.count);
  right = λ k group d got. h.right k group d (omega (arith, h.count, slice_get_within groups k group got)) got;
}

-- if all groups have few records, the next group has few records
pub group_few : (groups : List Group) (indexes : List RuleIndexValue) (here : Group) (left : List Group)
    → All (λ group. length group.rules ≤ RECORDS) groups → AreIndexed groups indexes (here ∷ left) → length here.rules ≤ RECORDS
group_few groups indexes here left few h =
    let at : slice_get groups (length indexes) ≡ Some here = group_here groups (length indexes) here left h.behind in
    subst (λ (g : Group). length g.rules ≤ RECORDS) (get_or_from_slice_get groups (length indexes) here here at)
    (few (length indexes) here (slice_get_within groups (length indexes) here at))

-- the index that is found at a group's number is the index of the group
pub index_within : (groups : List Group) (indexes : List RuleIndexValue) (n : ℕ) (group : Group) → AreIndexesOf groups indexes → slice_get groups n ≡ Some group → n < length indexes
index_within groups indexes n group h at = omega (arith, h.count, slice_get_within groups n group at)

pub index_found : (groups : List Group) (indexes : List RuleIndexValue) (n : ℕ) (group : Group) (index : RuleIndexValue) → AreIndexesOf groups indexes
    → slice_get groups n ≡ Some group → index ≡ slice_index_or indexes n index → IsRuleIndexOf group index
index_found groups indexes n group index h at is = subst (IsRuleIndexOf group) (sym is) (h.right n group index at)
