-- A cursor moves row by row to the start of its rows, and the least number at the cursors is the next candidate.
use Rattle.std.proofs.Common.{◌<◌, ◌≤◌, ◌+◌, ◌≡◌, ◌∙◌, ℕ, List, [], ◌∷◌, Option, Some, None, map, slice_get, slice_index_or, length, inl, inr, refl, sym, ap, subst, eqb, arith}
use Rattle.std.specs.Prelude.{slice_set, unwrap_or}
use Rattle.std.specs.List.Sorted.{IsNonDecreasingBy}
use Rattle.std.proofs.Math.Seq.{map-set_same}
use Rattle.std.proofs.lemmas.Bool.{cases_lt, cases_Bool, eqb-true, cond-true, cond-false}
use Rattle.std.proofs.lemmas.List.{get_or-map, length-map}
use Rattle.std.proofs.lemmas.List.Elements.{All-nil, All-cons, All-set}
use Rattle.std.proofs.lemmas.Option.{get_or_from_slice_get}
use Rattle.rule_index.specs.declared.cursor.Cursor.{Cursor}
use Rattle.rule_index.specs.declared.current_run.CurrentRun.{CurrentRun}
use Rattle.rule_index.specs.declared.row.Row.{Row}
use Rattle.rule_index.specs.Next.{IsNext, IsTheNext}
use Rattle.rule_index.specs.Rows.{rank, ranked, number_if, AreBefore, IsIndexOf, StartsAt}
use Rattle.rule_index.specs.Walk.{CursorIsValid, CursorsAreValid, RunIsValid}
use Rattle.rule_index.proofs.Finding.{first_found}
use Rattle.rule_index.proofs.Next.{IsLeast, IsFirstNumber, first_number, next_behind, none_yet, goes_first, goes_second, goes_last, least_is_next, none_is_next}

-- the rows from one place to another have ranks less than a start
abbrev pub AreLess : ℕ → List Row → ℕ → ℕ → Type 0
AreLess start rows passed place = (k : ℕ) (d : Row) → passed ≤ k → k < place → k < length rows → rank (slice_index_or rows k d) < start

both : (start passed place : ℕ) (rows : List Row) → AreBefore start rows passed → AreLess start rows passed place → AreBefore start rows place
both start passed place rows before less k d below within = elim (cases_lt k passed) [
  | inl early ↦ before k d early within
  | inr late ↦ less k d late below within
]

-- if the row at a place is the first whose rank is at least a start, the rows start there
pub starts_at_row : (start passed place : ℕ) (rows : List Row) (row : Row) → IsNonDecreasingBy rank rows → AreBefore start rows passed → AreLess start rows passed place
    → ((d : Row) → slice_index_or rows place d ≡ row) → start ≤ rank row → StartsAt start rows place
starts_at_row start passed place rows row sorted before less at high = record {
  before = both start passed place rows before less;
  behind = λ k d up within.
      let low : start ≤ rank (slice_index_or rows place d) = subst (λ (r : Row). start ≤ rank r) (sym (at d)) high in
      let rise : rank (slice_index_or rows place d) ≤ rank (slice_index_or rows k d) = sorted place k d up within in
      omega (arith, low, rise);
}

-- if all rows have lower ranks, the rows start at the end
pub starts_at_end : (start passed place : ℕ) (rows : List Row) → AreBefore start rows passed → AreLess start rows passed place
    → length rows ≤ place → StartsAt start rows place
starts_at_end start passed place rows before less past = record {
  before = both start passed place rows before less;
  behind = λ k d up within. absurd (omega arith);
}

-- the row where the number of a class was found
row_found : (class number : ℕ) (o : Option Row) → unwrap_or (number_if class o) 131072 ≡ number → number < 131072
    → (row : Row) × (o ≡ Some row) × (row.class ≡ class) × (row.number ≡ number)
row_found class number None is less = absurd (omega (arith, is))
row_found class number (Some row) is less = elim (cases_Bool (eqb row.class class)) [
  | inl same ↦ (row, refl, eqb-true row.class class same, ap (λ (o : Option ℕ). unwrap_or o 131072) (sym (cond-true (eqb row.class class) (Some row.number) None same)) ∙ is)
  | inr differs ↦
      let none : 131072 ≡ number = ap (λ (o : Option ℕ). unwrap_or o 131072) (sym (cond-false (eqb row.class class) (Some row.number) None differs)) ∙ is in
      absurd (omega (arith, none))
]

-- the rows up to the row with a number have lower ranks than the next number
passed_one : (class from place number : ℕ) (rows : List Row) → AreBefore (ranked class from) rows place
    → unwrap_or (number_if class (slice_get rows place)) 131072 ≡ number → from ≤ number → number < 131072 → AreBefore (ranked class (number + 1)) rows (place + 1)
passed_one class from place number rows before is up small k d below within = elim (cases_lt k place) [
  | inl early ↦ let less : rank (slice_index_or rows k d) < ranked class from = before k d early within in omega (arith, less, up)
  | inr late ↦
      let found = row_found class number (slice_get rows place) is small in
      let row : Row = found.0 in
      let here : k ≡ place = omega arith in
      let at : slice_index_or rows k d ≡ row = ap (λ (n : ℕ). slice_index_or rows n d) here ∙ get_or_from_slice_get rows place row d found.1 in
      let last : rank (slice_index_or rows k d) ≡ rank row = ap rank at in
      omega (arith, last, found.2, found.3)
]

-- the number at the start of the rows of a class is its first number
first_at : (class from place : ℕ) (rows : List Row) (classes : List ℕ) → StartsAt (ranked class from) rows place → IsIndexOf classes rows
    → IsFirstNumber class classes from (unwrap_or (number_if class (slice_get rows place)) 131072)
first_at class from place rows classes starts index =
    first_number class from classes (number_if class (slice_get rows place)) (omega (arith, index.few)) (first_found class from place rows classes starts index)

-- if a lead finds a number below its limit, the number is the next candidate
pub led_is_next : (rows : List Row) (wanted classes : List ℕ) (from number : ℕ) (lead : CurrentRun) → IsIndexOf classes rows → RunIsValid rows wanted from lead
    → unwrap_or (number_if lead.head.class (slice_get rows lead.head.place)) 131072 ≡ number → from ≤ number → number < lead.limit
    → IsNext wanted (length wanted) classes from (Some number)
led_is_next rows wanted classes from number lead index stands is up below =
    let small : number < 131072 = omega (arith, below, lead.small) in
    let class : ℕ = lead.head.class in
    let place : ℕ = lead.head.place in
    let found = row_found class number (slice_get rows place) is small in
    let starts : StartsAt (ranked class from) rows place
    = starts_at_row (ranked class from) place place rows found.0 index.sorted (stands.stands classes index) (λ k d a b w. absurd (omega arith)) (λ d. get_or_from_slice_get rows place found.0 d found.1)
    (let same = found.2 in let at = found.3 in omega (arith, same, at, up)) in
    let first : IsFirstNumber class classes from number = subst (IsFirstNumber class classes from) is (first_at class from place rows classes starts index) in
    let at = first.found small in
    let one = stands.among in
    IsTheNext number up at.1 (one.0, one.1, at.2 ∙ one.2) (λ n j a b h e. first.skipped n a b (omega (arith, at.1)) (stands.alone classes index n j a (omega arith) (omega (arith, at.1)) h e))

-- if each of six cursors is valid from number 0 on, all of them are
pub six_stand : (rows : List Row) (a b c d e f : Cursor) → CursorIsValid rows 0 a → CursorIsValid rows 0 b → CursorIsValid rows 0 c → CursorIsValid rows 0 d → CursorIsValid rows 0 e
    → CursorIsValid rows 0 f → CursorsAreValid rows 0 (a ∷ b ∷ c ∷ d ∷ e ∷ f ∷ [])
six_stand rows a b c d e f ha hb hc hd he hf =
    let one = All-cons (CursorIsValid rows 0) in
    one a (b ∷ c ∷ d ∷ e ∷ f ∷ []) ha (one b (c ∷ d ∷ e ∷ f ∷ []) hb (one c (d ∷ e ∷ f ∷ []) hc (one d (e ∷ f ∷ []) hd (one e (f ∷ []) he (one f [] hf (All-nil (CursorIsValid rows 0)))))))

-- if cursors are valid from a number on, they are valid after the next candidate
pub heads_behind : (rows : List Row) (wanted : List ℕ) (from count number : ℕ) (heads : List Cursor) → CursorsAreValid rows from heads
    → ((classes : List ℕ) → IsIndexOf classes rows → IsNext wanted count classes from (Some number)) → CursorsAreValid rows (number + 1) heads
heads_behind rows wanted from count number heads stand next k d within classes index place row below inside =
    let up : from ≤ number = next_behind wanted classes from count number (next classes index) in
    let less = stand k d within classes index place row below inside in
    omega (arith, less, up)

-- the class of a cursor
abbrev pub class_of_head : Cursor → ℕ
class_of_head head = head.class

-- one more cursor moves to its first row from a number on, and finds a number there
pub record GoesOn (rows : List Row) (from k number : ℕ) (olds heads : List Cursor) (d moved : Cursor) : Type 0 where
  pub within : k < length heads
  pub same : map class_of_head heads ≡ map class_of_head olds
  pub stand : CursorsAreValid rows from olds → CursorsAreValid rows from heads
  pub class : moved.class ≡ (slice_index_or heads k d).class
  pub starts : (classes : List ℕ) → IsIndexOf classes rows → CursorIsValid rows from (slice_index_or heads k d)
      → StartsAt (ranked (slice_index_or heads k d).class from) rows moved.place
  pub found : number ≡ unwrap_or (number_if moved.class (slice_get rows moved.place)) 131072
  pub small : number ≤ 131072
  pub inside : number < 131072 → moved.place < length rows

-- of the first `count` cursors, `first` has the least number, and those of another class have no number below the limit
pub record IsFirst (rows : List Row) (olds : List Cursor) (from count least limit : ℕ) (first : Cursor) : Type 0 where
  pub few : (least ≤ 131072) × (limit ≤ 131072)
  pub leads : (classes : List ℕ) → IsIndexOf classes rows → CursorsAreValid rows from olds
      → IsLeast (map class_of_head olds) classes from count least first.class limit
  pub among : least < 131072 → (j : ℕ) × (j < count) × (first.class ≡ slice_index_or (map class_of_head olds) j 0)
  pub passed : least < 131072 → CursorsAreValid rows from olds → (classes : List ℕ) → IsIndexOf classes rows
      → AreBefore (ranked first.class (least + 1)) rows (first.place + 1)
  pub within : least < 131072 → first.place < length rows

pub no_first : (rows : List Row) (olds : List Cursor) (from : ℕ) (first : Cursor) → IsFirst rows olds from 0 131072 131072 first
no_first rows olds from first = record {
  few = (omega arith, omega arith);
  leads = λ classes index stand. none_yet (map class_of_head olds) classes from first.class;
  among = λ h. absurd (omega arith);
  passed = λ h. absurd (omega arith);
  within = λ h. absurd (omega arith);
}

module _ (rows : List Row) (from k number : ℕ) (olds heads : List Cursor) (d moved : Cursor) (step : GoesOn rows from k number olds heads d moved) where
  pub wanted_after : map class_of_head (slice_set heads k moved) ≡ map class_of_head olds
  wanted_after = map-set_same class_of_head heads k moved d step.class ∙ step.same

  starts_moved : CursorsAreValid rows from olds → (classes : List ℕ) → IsIndexOf classes rows → StartsAt (ranked moved.class from) rows moved.place
  starts_moved before classes index =
      subst (λ (n : ℕ). StartsAt (ranked n from) rows moved.place) (sym step.class) (step.starts classes index (step.stand before k d step.within))

  pub stand_after : CursorsAreValid rows from olds → CursorsAreValid rows from (slice_set heads k moved)
  stand_after before = All-set (CursorIsValid rows from) heads k moved (λ classes index. (starts_moved before classes index).before) (step.stand before)

  found_first : CursorsAreValid rows from olds → (classes : List ℕ) → IsIndexOf classes rows → IsFirstNumber moved.class classes from number
  found_first before classes index = subst (IsFirstNumber moved.class classes from) (sym step.found)
      (first_at moved.class from moved.place rows classes (starts_moved before classes index) index)

  wanted_there : moved.class ≡ slice_index_or (map class_of_head olds) k 0
  wanted_there = step.class ∙ (sym (get_or-map class_of_head heads k d 0 step.within) ∙ ap (λ (classes : List ℕ). slice_index_or classes k 0) step.same)

  module _ (least limit : ℕ) (first : Cursor) (so_far : IsFirst rows olds from k least limit first) where
    pub first_is_moved : number < least → IsFirst rows olds from (k + 1) number least moved
    first_is_moved less = record {
      few = (step.small, so_far.few.0);
      leads = λ classes index stand. goes_first (map class_of_head olds) classes from k least limit first.class moved.class number wanted_there
          (so_far.leads classes index stand) (found_first stand classes index) less;
      among = λ h. (k, omega arith, wanted_there);
      passed = λ h stand classes index. passed_one moved.class from moved.place number rows (starts_moved stand classes index).before (sym step.found)
          ((found_first stand classes index).found h).0 h;
      within = step.inside;
    }

    stays : (bound : ℕ) → bound ≤ 131072 → ((classes : List ℕ) → IsIndexOf classes rows → CursorsAreValid rows from olds
        → IsLeast (map class_of_head olds) classes from (k + 1) least first.class bound) → IsFirst rows olds from (k + 1) least bound first
    stays bound few leads = record {
      few = (so_far.few.0, few);
      leads = leads;
      among = λ h. let j = so_far.among h in (j.0, omega (arith, j.1), j.2);
      passed = so_far.passed;
      within = so_far.within;
    }

    pub moved_limits : least < number → number < limit → IsFirst rows olds from (k + 1) least number first
    moved_limits less below = stays number step.small (λ classes index stand.
        goes_second (map class_of_head olds) classes from k least limit first.class moved.class number wanted_there (so_far.leads classes index stand)
        (found_first stand classes index) less below)

    pub moved_behind : least ≤ number → (least < number → limit ≤ number) → IsFirst rows olds from (k + 1) least limit first
    moved_behind behind beyond = stays limit so_far.few.1 (λ classes index stand.
        goes_last (map class_of_head olds) classes from k least limit first.class moved.class number wanted_there (so_far.leads classes index stand)
        (found_first stand classes index) behind beyond (omega (arith, index.few)))

-- the first of all cursors is at the next candidate, and the lead is the cursor after it
module _ (rows : List Row) (olds : List Cursor) (from least limit : ℕ) (first : Cursor) (is : IsFirst rows olds from (length olds) least limit first)
    (stand : CursorsAreValid rows from olds) where
  pub first_is_next : least < 131072 → (classes : List ℕ) → IsIndexOf classes rows → IsNext (map class_of_head olds) (length olds) classes from (Some least)
  first_is_next less classes index =
      least_is_next (map class_of_head olds) classes from (length olds) least first.class limit (is.leads classes index stand) (is.among less) less

  pub first_is_none : least ≡ 131072 → (classes : List ℕ) → IsIndexOf classes rows → IsNext (map class_of_head olds) (length olds) classes from None
  first_is_none none classes index =
      none_is_next (map class_of_head olds) classes from (length olds) least first.class limit (omega (arith, index.few)) (is.leads classes index stand) (omega arith)

  pub lead_stands : (lead : CurrentRun) → lead.head.class ≡ first.class → lead.head.place ≡ first.place + 1 → lead.limit ≡ limit → least < 131072
      → RunIsValid rows (map class_of_head olds) (least + 1) lead
  lead_stands lead class_is place_is limit_is less = record {
    among = let j = is.among less in (j.0, rw (length-map olds class_of_head) j.1, class_is ∙ j.2);
    stands = λ classes index. rw class_is (rw place_is (is.passed less stand classes index));
    alone = λ classes index n j a b w h e.
        let leads = is.leads classes index stand in
        leads.alone n j (omega (arith, (leads.found less).0, a)) (omega (arith, limit_is, b)) w (omega (arith, length-map olds class_of_head, h)) e ∙ sym class_is;
  }
