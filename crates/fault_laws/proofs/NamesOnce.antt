-- Of the causes that are reported for names, no two are at one line.
use Rattle.std.proofs.Common.{◌≡◌, ℕ, ◌+◌, ◌-◌, ◌<◌, ◌≤◌, inl, inr, Bool, true, false, List, [], ◌∷◌, ◌++◌, length, map, Option, Some, refl, sym, ap, subst, ◌∙◌, if◌then◌else◌, arith}
use Rattle.std.specs.Prelude.{nat_eq, nat_lt, not, ◌&&◌, slice_get}
use Rattle.std.proofs.lemmas.Bool.Decides.{eqb_tells, nat_tests}
use Rattle.std.proofs.lemmas.List.{get_or_push, length-append}
use Rattle.std.proofs.lemmas.Option.{slice_get_read}
use Rattle.rule_model.specs.declared.program.Program.{Program}
use Rattle.source_names.specs.declared.causes.NameFault.{NameFault}
use Rattle.source_names.specs.Causes.{cause_refusal, name_causes}
use Rattle.source_names.specs.Telling.{inserted, in_lines, is_at, is_lacked, is_new, new_after, reported_causes}
use Rattle.fault_laws.proofs.Counts.{count_at, tick}

-- the number of causes at a line
abbrev caused_at : ℕ → List NameFault → ℕ
caused_at line faults = count_at line (map cause_refusal faults)

-- causes that are not before a line, and causes in the order of lines
abbrev AllFrom : ℕ → List NameFault → Type 0
AllFrom low [] = Unit {0}
AllFrom low (fault ∷ faults) = (low ≤ fault.line) × AllFrom low faults

abbrev Climbs : List NameFault → Type 0
Climbs [] = Unit {0}
Climbs (fault ∷ faults) = AllFrom fault.line faults × Climbs faults

from_lower : (low high : ℕ) (faults : List NameFault) → low ≤ high → AllFrom high faults → AllFrom low faults
from_lower low high [] less from = tt
from_lower low high (fault ∷ faults) less (here, rest) = (omega (arith, less, here), from_lower low high faults less rest)

less_is : (a b : ℕ) → nat_lt a b ≡ true → a ≤ b
less_is a b h = grind (arith, nat_tests)

not_less_is : (a b : ℕ) → nat_lt a b ≡ false → b ≤ a
not_less_is a b h = grind (arith, nat_tests)

inserted_from : (low : ℕ) (found : NameFault) (faults : List NameFault) → low ≤ found.line → AllFrom low faults → AllFrom low (inserted found faults)
inserted_from low found [] here from = (here, tt)
inserted_from low found (next ∷ faults) here (first, rest) = by (nat_lt next.line found.line) (inserted_from low found faults here rest)
  where
    by : (t : Bool) → AllFrom low (inserted found faults) → AllFrom low (if t then next ∷ inserted found faults else found ∷ next ∷ faults)
    by true again = (first, again)
    by false again = (here, (first, rest))

inserted_climbs : (found : NameFault) (faults : List NameFault) → Climbs faults → Climbs (inserted found faults)
inserted_climbs found [] climbs = (tt, tt)
inserted_climbs found (next ∷ faults) (from, climbs) = by (nat_lt next.line found.line) refl (inserted_climbs found faults climbs)
  where
    by : (t : Bool) → nat_lt next.line found.line ≡ t → Climbs (inserted found faults) → Climbs (if t then next ∷ inserted found faults else found ∷ next ∷ faults)
    by true less again = (inserted_from next.line found faults (less_is next.line found.line less) from, again)
    by false less again =
        let lower = not_less_is next.line found.line less in
        ((lower, from_lower found.line next.line faults lower from), (from, climbs))

in_lines_climb : (faults : List NameFault) → Climbs (in_lines faults)
in_lines_climb [] = tt
in_lines_climb (found ∷ faults) = inserted_climbs found (in_lines faults) (in_lines_climb faults)

-- what is reported is among the causes
fewer : (line : ℕ) (before faults : List NameFault) → caused_at line (new_after before faults) ≤ caused_at line faults
fewer line before [] = omega arith
fewer line before (fault ∷ faults) = by (is_new before fault) (fewer line (before ++ fault ∷ []) faults) (fewer line before faults)
  where
    by : (t : Bool) → caused_at line (new_after (before ++ fault ∷ []) faults) ≤ caused_at line faults → caused_at line (new_after before faults) ≤ caused_at line faults
        → caused_at line (if t then fault ∷ new_after (before ++ fault ∷ []) faults else new_after before faults) ≤ caused_at line (fault ∷ faults)
    by true with_it without = omega (arith, with_it)
    by false with_it without = omega (arith, without)

other_tick : (line n : ℕ) → (line ≡ n → ⊥) → tick line n ≡ 0
other_tick line n other =
    elim (eqb_tells line n) [
      | inl (same, e) ↦ absurd (other e)
      | inr (differs, e) ↦ ap (λ t. if t then 1 else 0) differs
    ]

none_from : (line low : ℕ) (faults : List NameFault) → line < low → AllFrom low faults → caused_at line faults ≡ 0
none_from line low [] less from = refl
none_from line low (fault ∷ faults) less (here, rest) =
    let none = other_tick line fault.line (λ e. omega (arith, e, less, here)) in
    let again = none_from line low faults less rest in
    omega (arith, none, again)

-- the last cause, and a cause that is reported after another line
last_pushed : (before : List NameFault) (fault : NameFault) → slice_get (before ++ fault ∷ []) (length (before ++ fault ∷ []) - 1) ≡ Some fault
last_pushed before fault =
    let size : length (before ++ fault ∷ []) ≡ length before + 1 = length-append before (fault ∷ []) in
    let place : length before ≡ length (before ++ fault ∷ []) - 1 = omega (arith, size) in
    slice_get_read (before ++ fault ∷ []) (length (before ++ fault ∷ [])) (length (before ++ fault ∷ []) - 1) fault refl (omega (arith, size))
    (sym (get_or_push before fault fault (length (before ++ fault ∷ []) - 1) place))

elsewhere : (here lacked : Bool) → (not here && not lacked) ≡ true → here ≡ false
elsewhere true lacked is = absurd (cc)
elsewhere false lacked is = refl

at_itself : (line n : ℕ) → line ≡ n → nat_eq n line ≡ true
at_itself line n h = grind (arith, nat_tests)

-- a line is reported at most once, and not at all after it was reported last
abbrev AreOnce : ℕ → List NameFault → List NameFault → Type 0
AreOnce line before faults =
    (is_at line (slice_get before (length before - 1)) ≡ true → AllFrom line faults → caused_at line (new_after before faults) ≡ 0)
    × (caused_at line (new_after before faults) ≤ 1)

once_after : (line : ℕ) (before faults : List NameFault) → Climbs faults → AreOnce line before faults
once_after line before [] climbs = (λ h from. refl, omega arith)
once_after line before (fault ∷ faults) (from, climbs) =
    by (is_new before fault) refl (once_after line (before ++ fault ∷ []) faults climbs) (once_after line before faults climbs)
  where
    last : Option NameFault
    last = slice_get before (length before - 1)

    not_here : is_new before fault ≡ true → is_at line last ≡ true → line ≡ fault.line → ⊥
    not_here is here same =
        let not_at : is_at fault.line last ≡ false = elsewhere (is_at fault.line last) (is_lacked before fault.cause) is in
        let both : true ≡ false = sym here ∙ ap (λ n. is_at n last) same ∙ not_at in
        absurd (cc)

    none : is_new before fault ≡ true → is_at line last ≡ true → line ≤ fault.line → caused_at line (fault ∷ new_after (before ++ fault ∷ []) faults) ≡ 0
    none is here le =
        let other = not_here is here in
        let zero = other_tick line fault.line other in
        let less : line < fault.line = elim (eqb_tells line fault.line) [ inl (same, e) ↦ absurd (other e) | inr (differs, e) ↦ grind (arith, le, e) ] in
        let rest = none_from line fault.line faults less from in
        let few = fewer line (before ++ fault ∷ []) faults in
        omega (arith, zero, rest, few)

    one : AreOnce line (before ++ fault ∷ []) faults → caused_at line (fault ∷ new_after (before ++ fault ∷ []) faults) ≤ 1
    one again =
        elim (eqb_tells line fault.line) [
          | inl (same, e) ↦
              let here : is_at line (slice_get (before ++ fault ∷ []) (length (before ++ fault ∷ []) - 1)) ≡ true =
              ap (is_at line) (last_pushed before fault) ∙ at_itself line fault.line e in
              let zero = again.0 here (subst (λ n. AllFrom n faults) (sym e) from) in
              let tick_is : tick line fault.line ≡ 1 = ap (λ t. if t then 1 else 0) same in
              omega (arith, zero, tick_is)
          | inr (differs, e) ↦
              let zero = other_tick line fault.line e in
              let most = again.1 in
              omega (arith, zero, most)
        ]

    by : (t : Bool) → is_new before fault ≡ t → AreOnce line (before ++ fault ∷ []) faults → AreOnce line before faults
        → (is_at line last ≡ true → AllFrom line (fault ∷ faults) → caused_at line (if t then fault ∷ new_after (before ++ fault ∷ []) faults else new_after before faults) ≡ 0)
        × (caused_at line (if t then fault ∷ new_after (before ++ fault ∷ []) faults else new_after before faults) ≤ 1)
    by true is with_it without = (λ here all. none is here all.0, one with_it)
    by false is with_it without = (λ here all. without.0 here all.1, without.1)

pub names_once : (program : Program) (line : ℕ) → count_at line (map cause_refusal (reported_causes program)) ≤ 1
unfolding reported_causes
names_once program line = (once_after line [] (in_lines (name_causes program)) (in_lines_climb (name_causes program))).1
