-- What stays unchanged if words are replaced: the bytes before one place and from another on, and the numbers there.
use Rattle.std.proofs.Common.{◌≡◌, ◌≢◌, ℕ, zero, suc, ◌+◌, ◌-◌, ◌*◌, ◌^◌, ◌<◌, ◌≤◌, ◌⊎◌, Bool, true, false, nat_eq, List, length, take, drop, refl, sym, ap, ap₂, subst, ◌∙◌, inl, inr, arith}
use Rattle.std.specs.Prelude.{nat_le, if◌then◌else◌}
use Rattle.std.specs.Int.{w16, from_le_bytes}
use Rattle.std.proofs.lemmas.Bool.Decides.{eqb_tells}
use Rattle.std.proofs.lemmas.List.{drop-drop, drop-take, take-take}
use Rattle.kmx_format.specs.TablesOf.{half_at, word_at}
use Rattle.file_conversions.specs.Words.{with_word}
use Rattle.file_conversions.proofs.ReplacedWords.{length-with_word, before_same, behind_same, read_there, same_words}
use Rattle.core_export.specs.Export.{pointed, pointed_stores, pointed_record, pointed_records, pointed_groups}

-- ---- equal bytes

-- two lists of bytes have one length and are equal before one place and from another on
pub record Outside (low high : ℕ) (xs ys : List ℕ) : Type 0 where
  pub size : length xs ≡ length ys
  pub before : take low xs ≡ take low ys
  pub behind : drop high xs ≡ drop high ys

pub unchanged : (low high : ℕ) (xs : List ℕ) → Outside low high xs xs
unchanged low high xs = record { size = refl; before = refl; behind = refl }

pub after : (low high : ℕ) (xs ys zs : List ℕ) → Outside low high xs ys → Outside low high ys zs → Outside low high xs zs
after low high xs ys zs h g = record { size = h.size ∙ g.size; before = h.before ∙ g.before; behind = h.behind ∙ g.behind }

-- if two lists are equal from a place on, they are equal from a later place on
pub later : (high more : ℕ) (xs ys : List ℕ) → high ≤ more → drop high xs ≡ drop high ys → drop more xs ≡ drop more ys
later high more xs ys h same =
    let split : high + (more - high) ≡ more = omega (arith, h) in
    let part : (zs : List ℕ) → drop more zs ≡ drop (more - high) (drop high zs) = λ zs. ap (λ n. drop n zs) (sym split) ∙ sym (drop-drop (more - high) high zs) in
    part xs ∙ ap (drop (more - high)) same ∙ sym (part ys)

pub wider : (low high less more : ℕ) (xs ys : List ℕ) → less ≤ low → high ≤ more → Outside low high xs ys → Outside less more xs ys
wider low high less more xs ys h g outside = record {
  size = outside.size;
  before = sym (take-take less low xs h) ∙ ap (take less) outside.before ∙ take-take less low ys h;
  behind = later high more xs ys g outside.behind;
}

pub word_outside : (place number : ℕ) (xs : List ℕ) → Outside place (place + 4) xs (with_word place number xs)
word_outside place number xs = record {
  size = sym (length-with_word place number xs);
  before = sym (before_same place number place xs (omega arith));
  behind = sym (behind_same place number (place + 4) xs (omega arith));
}

-- ---- equal numbers

-- all words between two places are equal
pub record SameWithin (low high : ℕ) (xs ys : List ℕ) : Type 0 where
  pub words : (at : ℕ) → low ≤ at → at + 4 ≤ high → word_at xs at ≡ word_at ys at
  pub halves : (at : ℕ) → low ≤ at → at + 2 ≤ high → half_at xs at ≡ half_at ys at

same_halves : (xs ys : List ℕ) (place : ℕ) → length xs ≡ length ys → take 2 (drop place xs) ≡ take 2 (drop place ys) → half_at xs place ≡ half_at ys place
unfolding half_at
same_halves xs ys place sizes same = ap₂ (λ (n : ℕ) (zs : List ℕ). if nat_le (place + 2) n then from_le_bytes w16 zs else 0) sizes same

pub tail_same : (place limit : ℕ) (xs ys : List ℕ) → length xs ≡ length ys → drop place xs ≡ drop place ys → SameWithin place limit xs ys
tail_same place limit xs ys sizes same = record {
  words = λ at h g. same_words xs ys at sizes (ap (take 4) (later place at xs ys h same));
  halves = λ at h g. same_halves xs ys at sizes (ap (take 2) (later place at xs ys h same));
}

pub back_same : (low high limit : ℕ) (xs ys : List ℕ) → Outside low high xs ys → SameWithin high limit xs ys
back_same low high limit xs ys h = tail_same high limit xs ys h.size h.behind

head_part : (low at size : ℕ) (xs ys : List ℕ) → at + size ≤ low → take low xs ≡ take low ys → take size (drop at xs) ≡ take size (drop at ys)
head_part low at size xs ys h same =
    let part : (zs : List ℕ) → take size (drop at zs) ≡ drop at (take (at + size) (take low zs)) = λ zs. sym (drop-take at size zs) ∙ ap (drop at) (sym (take-take (at + size) low zs h)) in
    part xs ∙ ap (λ (zs : List ℕ). drop at (take (at + size) zs)) same ∙ sym (part ys)

pub front_same : (low high : ℕ) (xs ys : List ℕ) → Outside low high xs ys → SameWithin 0 low xs ys
front_same low high xs ys outside = record {
  words = λ at h g. same_words xs ys at outside.size (head_part low at 4 xs ys g outside.before);
  halves = λ at h g. same_halves xs ys at outside.size (head_part low at 2 xs ys g outside.before);
}

pub joined : (low high : ℕ) (xs ys zs : List ℕ) → SameWithin low high xs ys → SameWithin low high ys zs → SameWithin low high xs zs
joined low high xs ys zs h g = record {
  words = λ at a b. h.words at a b ∙ g.words at a b;
  halves = λ at a b. h.halves at a b ∙ g.halves at a b;
}

pub narrower : (low high more less : ℕ) (xs ys : List ℕ) → low ≤ more → less ≤ high → SameWithin low high xs ys → SameWithin more less xs ys
narrower low high more less xs ys h g same = record {
  words = λ at a b. same.words at (omega (arith, h, a)) (omega (arith, g, b));
  halves = λ at a b. same.halves at (omega (arith, h, a)) (omega (arith, g, b));
}

-- ---- words replaced one after the other

module _ (bytes : List ℕ) (unit : ℕ) where
  pub pointed_outside : (place : ℕ) (out : List ℕ) → Outside place (place + 4) out (pointed bytes unit place out)
  pointed_outside place out = by_test (nat_eq (word_at bytes place) 0)
    where
      by_test : (b : Bool) → Outside place (place + 4) out (if b then with_word place unit out else out)
      by_test true = word_outside place unit out
      by_test false = unchanged place (place + 4) out

  pub stores_outside : (place count : ℕ) (out : List ℕ) → Outside place (place + 12 * count) out (pointed_stores bytes unit place count out)
  stores_outside place zero out = unchanged place (place + 12 * 0) out
  stores_outside place (suc count) out =
      let first : List ℕ = pointed bytes unit (place + 8) out in
      let rest : List ℕ = pointed_stores bytes unit (place + 12) count first in
      after place (place + 12 * suc count) out first rest
      (wider (place + 8) (place + 8 + 4) place (place + 12 * suc count) out first (omega arith) (omega arith) (pointed_outside (place + 8) out))
      (wider (place + 12) (place + 12 + 12 * count) place (place + 12 * suc count) first rest (omega arith) (omega arith) (stores_outside (place + 12) count first))

  pub record_outside : (place : ℕ) (out : List ℕ) → Outside (place + 12) (place + 20) out (pointed_record bytes unit place out)
  record_outside place out =
      let half : List ℕ = pointed bytes unit (place + 12) out in
      after (place + 12) (place + 20) out half (pointed bytes unit (place + 16) half)
      (wider (place + 12) (place + 12 + 4) (place + 12) (place + 20) out half (omega arith) (omega arith) (pointed_outside (place + 12) out))
      (wider (place + 16) (place + 16 + 4) (place + 12) (place + 20) half (pointed bytes unit (place + 16) half) (omega arith) (omega arith) (pointed_outside (place + 16) half))

  pub records_outside : (place count : ℕ) (out : List ℕ) → Outside place (place + 20 * count) out (pointed_records bytes unit place count out)
  records_outside place zero out = unchanged place (place + 20 * 0) out
  records_outside place (suc count) out =
      let first : List ℕ = pointed_record bytes unit place out in
      let rest : List ℕ = pointed_records bytes unit (place + 20) count first in
      after place (place + 20 * suc count) out first rest
      (wider (place + 12) (place + 20) place (place + 20 * suc count) out first (omega arith) (omega arith) (record_outside place out))
      (wider (place + 20) (place + 20 + 20 * count) place (place + 20 * suc count) first rest (omega arith) (omega arith) (records_outside (place + 20) count first))

  -- the key records of a number of groups are between two places, in the order of the groups
  abbrev pub GroupsLaid : ℕ → ℕ → ℕ → ℕ → Type 0
  GroupsLaid high low place zero = low ≤ high
  GroupsLaid high low place (suc count) =
      (next : ℕ) × (low ≤ next) × (next ≤ high) × ((word_at bytes (place + 16) ≡ 0) ⊎ ((low ≤ word_at bytes (place + 4)) × (word_at bytes (place + 4) + 20 * word_at bytes (place + 16) ≤ next)))
      × GroupsLaid high next (place + 24) count

  few_outside : (keys count low next : ℕ) (out : List ℕ) → low ≤ next → (count ≡ 0) ⊎ ((low ≤ keys) × (keys + 20 * count ≤ next)) → Outside low next out (pointed_records bytes unit keys count out)
  few_outside keys count low next out h (inl none) = subst (λ (n : ℕ). Outside low next out (pointed_records bytes unit keys n out)) (sym none) (unchanged low next out)
  few_outside keys count low next out h (inr there) =
      wider keys (keys + 20 * count) low next out (pointed_records bytes unit keys count out) there.0 there.1 (records_outside keys count out)

  pub groups_outside : (high low place count : ℕ) (out : List ℕ) → GroupsLaid high low place count → Outside low high out (pointed_groups bytes unit place count out)
  groups_outside high low place zero out h = unchanged low high out
  groups_outside high low place (suc count) out h =
      let first : List ℕ = pointed_records bytes unit (word_at bytes (place + 4)) (word_at bytes (place + 16)) out in
      let rest : List ℕ = pointed_groups bytes unit (place + 24) count first in
      after low high out first rest
      (wider low h.0 low high out first (omega arith) h.2 (few_outside (word_at bytes (place + 4)) (word_at bytes (place + 16)) low h.0 out h.1 h.3))
      (wider h.0 high low high first rest h.1 (omega arith) (groups_outside high h.0 (place + 24) count first h.4))

  -- ---- the words of the file afterwards

  module _ (fin : List ℕ) (small : unit < 2 ^ 32) where
    -- a word stays the same, or is an offset 0 that is pointed to the zero unit
    abbrev pub Refilled : ℕ → Type 0
    Refilled place = ((word_at bytes place ≢ 0) × (word_at fin place ≡ word_at bytes place)) ⊎ ((word_at bytes place ≡ 0) × (word_at fin place ≡ unit))

    abbrev pub Stays : ℕ → Type 0
    Stays place = word_at fin place ≡ word_at bytes place

    abbrev pub StoresKept : ℕ → ℕ → Type 0
    StoresKept place zero = Unit {0}
    StoresKept place (suc count) = Stays place × Stays (place + 4) × Refilled (place + 8) × StoresKept (place + 12) count

    abbrev pub RecordsKept : ℕ → ℕ → Type 0
    RecordsKept place zero = Unit {0}
    RecordsKept place (suc count) =
        (half_at fin place ≡ half_at bytes place) × Stays (place + 4) × Stays (place + 8) × Refilled (place + 12) × Refilled (place + 16) × RecordsKept (place + 20) count

    abbrev pub GroupsKept : ℕ → ℕ → Type 0
    GroupsKept place zero = Unit {0}
    GroupsKept place (suc count) =
        Stays place × Stays (place + 4) × Stays (place + 8) × Stays (place + 12) × Stays (place + 16) × Stays (place + 20)
        × RecordsKept (word_at bytes (place + 4)) (word_at bytes (place + 16)) × GroupsKept (place + 24) count

    refilled : (place : ℕ) (out : List ℕ) → word_at out place ≡ word_at bytes place → place + 4 ≤ length out → word_at fin place ≡ word_at (pointed bytes unit place out) place → Refilled place
    refilled place out same within is =
        elim (eqb_tells (word_at bytes place) 0) [
          | inl none ↦ inr (none.1, is ∙ ap (λ b. word_at (if b then with_word place unit out else out) place) none.0 ∙ read_there place unit out small within)
          | inr some ↦ inl (some.1, is ∙ ap (λ b. word_at (if b then with_word place unit out else out) place) some.0 ∙ same)
        ]

    pub stores_kept : (place count : ℕ) (out : List ℕ) → length out ≡ length bytes → drop place out ≡ drop place bytes → place + 12 * count ≤ length bytes
        → SameWithin place (place + 12 * count) (pointed_stores bytes unit place count out) fin → StoresKept place count
    stores_kept place zero out sizes same within h = tt
    stores_kept place (suc count) out sizes same within h =
        let first : List ℕ = pointed bytes unit (place + 8) out in
        let rest : List ℕ = pointed_stores bytes unit (place + 12) count first in
        let high : ℕ = place + 12 * suc count in
        let outside : Outside (place + 8) (place + 12) out first = wider (place + 8) (place + 8 + 4) (place + 8) (place + 12) out first (omega arith) (omega arith) (pointed_outside (place + 8) out) in
        let onward : SameWithin 0 (place + 12) first rest = front_same (place + 12) (place + 12 + 12 * count) first rest (stores_outside (place + 12) count first) in
        let ahead : SameWithin 0 (place + 8) out first = front_same (place + 8) (place + 12) out first outside in
        let read : SameWithin place high out bytes = tail_same place high out bytes sizes same in
        let stays : (at : ℕ) → place ≤ at → at + 4 ≤ place + 8 → Stays at = λ at a b.
        sym (h.words at a (omega (arith, b))) ∙ sym (onward.words at (omega arith) (omega (arith, b))) ∙ sym (ahead.words at (omega arith) b) ∙ read.words at a (omega (arith, b)) in (
          stays place (omega arith) (omega arith),
          stays (place + 4) (omega arith) (omega arith),
          refilled (place + 8) out (read.words (place + 8) (omega arith) (omega arith)) (omega (arith, sizes, within))
              (sym (h.words (place + 8) (omega arith) (omega arith)) ∙ sym (onward.words (place + 8) (omega arith) (omega arith))),
          stores_kept (place + 12) count first (sym outside.size ∙ sizes) (sym outside.behind ∙ later place (place + 12) out bytes (omega arith) same) (omega (arith, within))
              (narrower place high (place + 12) (place + 12 + 12 * count) rest fin (omega arith) (omega arith) h),
        )

    pub records_kept : (place count : ℕ) (out : List ℕ) → length out ≡ length bytes → drop place out ≡ drop place bytes → place + 20 * count ≤ length bytes
        → SameWithin place (place + 20 * count) (pointed_records bytes unit place count out) fin → RecordsKept place count
    records_kept place zero out sizes same within h = tt
    records_kept place (suc count) out sizes same within h =
        let half : List ℕ = pointed bytes unit (place + 12) out in
        let first : List ℕ = pointed_record bytes unit place out in
        let rest : List ℕ = pointed_records bytes unit (place + 20) count first in
        let high : ℕ = place + 20 * suc count in
        let outside : Outside (place + 12) (place + 20) out first = record_outside place out in
        let context : Outside (place + 16) (place + 16 + 4) half first = pointed_outside (place + 16) half in
        let output : Outside (place + 12) (place + 12 + 4) out half = pointed_outside (place + 12) out in
        let onward : SameWithin 0 (place + 20) first rest = front_same (place + 20) (place + 20 + 20 * count) first rest (records_outside (place + 20) count first) in
        let ahead : SameWithin 0 (place + 12) out first = front_same (place + 12) (place + 20) out first outside in
        let before : SameWithin 0 (place + 16) half first = front_same (place + 16) (place + 16 + 4) half first context in
        let past : SameWithin (place + 12 + 4) high out half = back_same (place + 12) (place + 12 + 4) high out half output in
        let read : SameWithin place high out bytes = tail_same place high out bytes sizes same in
        let now : (at : ℕ) → place ≤ at → at + 4 ≤ place + 20 → word_at fin at ≡ word_at first at = λ at a b.
        sym (h.words at a (omega (arith, b))) ∙ sym (onward.words at (omega arith) (omega (arith, b))) in
        let stays : (at : ℕ) → place ≤ at → at + 4 ≤ place + 12 → Stays at = λ at a b.
        sym (h.words at a (omega (arith, b))) ∙ sym (onward.words at (omega arith) (omega (arith, b))) ∙ sym (ahead.words at (omega arith) b) ∙ read.words at a (omega (arith, b)) in (
          sym (h.halves place (omega arith) (omega arith)) ∙ sym (onward.halves place (omega arith) (omega arith)) ∙ sym (ahead.halves place (omega arith) (omega arith)) ∙ read.halves place (omega arith) (omega arith),
          stays (place + 4) (omega arith) (omega arith),
          stays (place + 8) (omega arith) (omega arith),
          refilled (place + 12) out (read.words (place + 12) (omega arith) (omega arith)) (omega (arith, sizes, within))
              (now (place + 12) (omega arith) (omega arith) ∙ sym (before.words (place + 12) (omega arith) (omega arith))),
          refilled (place + 16) half (sym (past.words (place + 16) (omega arith) (omega arith)) ∙ read.words (place + 16) (omega arith) (omega arith)) (omega (arith, sizes, within, output.size))
              (now (place + 16) (omega arith) (omega arith)),
          records_kept (place + 20) count first (sym outside.size ∙ sizes) (sym outside.behind ∙ later place (place + 20) out bytes (omega arith) same) (omega (arith, within))
              (narrower place high (place + 20) (place + 20 + 20 * count) rest fin (omega arith) (omega arith) h),
        )

    few_kept : (keys count low next : ℕ) (out : List ℕ) → length out ≡ length bytes → drop low out ≡ drop low bytes → next ≤ length bytes
        → (count ≡ 0) ⊎ ((low ≤ keys) × (keys + 20 * count ≤ next)) → SameWithin low next (pointed_records bytes unit keys count out) fin → RecordsKept keys count
    few_kept keys count low next out sizes same within (inl none) h = subst (RecordsKept keys) (sym none) tt
    few_kept keys count low next out sizes same within (inr there) h =
        records_kept keys count out sizes (later low keys out bytes there.0 same) (omega (arith, there.1, within))
        (narrower low next keys (keys + 20 * count) (pointed_records bytes unit keys count out) fin there.0 there.1 h)

    pub groups_kept : (high low place count : ℕ) (out : List ℕ) → GroupsLaid high low place count → high ≤ length bytes → length out ≡ length bytes → drop low out ≡ drop low bytes
        → SameWithin place (place + 24 * count) bytes fin → SameWithin low high (pointed_groups bytes unit place count out) fin → GroupsKept place count
    groups_kept high low place zero out laid within sizes same array h = tt
    groups_kept high low place (suc count) out laid within sizes same array h =
        let first : List ℕ = pointed_records bytes unit (word_at bytes (place + 4)) (word_at bytes (place + 16)) out in
        let rest : List ℕ = pointed_groups bytes unit (place + 24) count first in
        let next : ℕ = laid.0 in
        let outside : Outside low next out first = few_outside (word_at bytes (place + 4)) (word_at bytes (place + 16)) low next out laid.1 laid.3 in
        let onward : SameWithin 0 next first rest = front_same next high first rest (groups_outside high next (place + 24) count first laid.4) in
        let records : SameWithin low next first fin =
        joined low next first rest fin (narrower 0 next low next first rest (omega arith) (omega arith) onward) (narrower low high low next rest fin (omega arith) laid.2 h) in
        let stays : (at : ℕ) → place ≤ at → at + 4 ≤ place + 24 → Stays at = λ at a b. sym (array.words at a (omega (arith, b))) in (
          stays place (omega arith) (omega arith),
          stays (place + 4) (omega arith) (omega arith),
          stays (place + 8) (omega arith) (omega arith),
          stays (place + 12) (omega arith) (omega arith),
          stays (place + 16) (omega arith) (omega arith),
          stays (place + 20) (omega arith) (omega arith),
          few_kept (word_at bytes (place + 4)) (word_at bytes (place + 16)) low next out sizes same (omega (arith, laid.2, within)) laid.3 records,
          groups_kept high next (place + 24) count first laid.4 within (sym outside.size ∙ sizes) (sym outside.behind ∙ later low next out bytes laid.1 same)
              (narrower place (place + 24 * suc count) (place + 24) (place + 24 + 24 * count) bytes fin (omega arith) (omega arith) array)
              (narrower low high next high rest fin laid.1 (omega arith) h),
        )
