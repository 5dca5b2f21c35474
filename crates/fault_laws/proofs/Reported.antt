-- Each cause of a program is at a refused line, or it lacks a name that is reported.
use Rattle.std.proofs.Common.{◌≡◌, ℕ, zero, suc, ◌-◌, ◌⊎◌, inl, inr, Bool, true, false, cond, List, [], ◌∷◌, ◌++◌, length, map, Option, Some, refl, sym, ap, subst, ◌∙◌, if◌then◌else◌, append_assoc}
use Rattle.std.specs.Prelude.{nat_eq, nat_lt, not, ◌&&◌, ◌||◌, slice_get}
use Rattle.std.specs.List.{list_any, AllByRecursion}
use Rattle.std.proofs.lemmas.List.Concat.{flat_map-append}
use Rattle.std.proofs.lemmas.List.Folds.{list_any-append}
use Rattle.std.proofs.lemmas.Option.{same_Some}
use Rattle.kmn_base.specs.declared.codes.Code.{Code}
use Rattle.kmn_base.specs.declared.refusals.Refusal.{Refusal}
use Rattle.store_table.specs.Names.{is_named}
use Rattle.source_names.specs.declared.causes.Cause.{Cause}
use Rattle.source_names.specs.declared.causes.Cause.TheVariants as because
use Rattle.source_names.specs.declared.causes.NameFault.{NameFault}
use Rattle.source_names.specs.Causes.{code_of, cause_refusal}
use Rattle.source_names.specs.Telling.{inserted, in_lines, store_lacked, group_lacked, stores_lacked, groups_lacked, is_at, is_lacked, is_new, new_after}
use Rattle.source_faults.specs.Stubs.{code_at, is_refused}
use Rattle.source_faults.specs.Faults.{further}
use Rattle.fault_laws.proofs.Counts.{count_at}
use Rattle.fault_laws.proofs.CodesAt.{code_after, line_refused, on_line, same_line}
use Rattle.fault_laws.proofs.NameLists.{first_true, second_true, named_append}
use Rattle.fault_laws.proofs.CausesLeft.{Known}

-- whether some cause is at a line
abbrev at_line : ℕ → NameFault → Bool
at_line line fault = nat_eq fault.line line

abbrev some_at : ℕ → List NameFault → Bool
some_at line faults = list_any (at_line line) faults

last_some : (line : ℕ) (faults : List NameFault) (i : ℕ) → is_at line (slice_get faults i) ≡ true → some_at line faults ≡ true
last_some line [] i h = absurd (cc)
last_some line (fault ∷ faults) zero h = first_true (nat_eq fault.line line) (some_at line faults) h
last_some line (fault ∷ faults) (suc i) h = second_true (nat_eq fault.line line) (some_at line faults) (last_some line faults i h)

-- a name that causes lack is also lacked by more causes
lacked_more : (before more : List NameFault) (why : Cause) → is_lacked before why ≡ true → is_lacked (before ++ more) why ≡ true
lacked_more before more (because.NoStore name) h =
    ap (λ names. is_named names name) (flat_map-append (λ (fault : NameFault). store_lacked fault.cause) before more)
    ∙ named_append (stores_lacked before) (stores_lacked more) name ∙ first_true (is_named (stores_lacked before) name) (is_named (stores_lacked more) name) h
lacked_more before more (because.NoGroup name) h =
    ap (λ names. is_named names name) (flat_map-append (λ (fault : NameFault). group_lacked fault.cause) before more)
    ∙ named_append (groups_lacked before) (groups_lacked more) name ∙ first_true (is_named (groups_lacked before) name) (is_named (groups_lacked more) name) h
lacked_more before more (because.Broken code) h = h

-- a cause is at the line of a reported one, or it lacks a name of one
abbrev Seen : List NameFault → NameFault → Type 0
Seen reported fault = (some_at fault.line reported ≡ true) ⊎ (is_lacked reported fault.cause ≡ true)

not_new : (here lacked : Bool) → (not here && not lacked) ≡ false → (here ≡ true) ⊎ (lacked ≡ true)
not_new true lacked h = inl refl
not_new false true h = inr refl
not_new false false h = absurd (cc)

all_seen : (before faults : List NameFault) → AllByRecursion (Seen (before ++ new_after before faults)) faults
all_seen before [] = tt
all_seen before (fault ∷ faults) = by (is_new before fault) refl (all_seen (before ++ fault ∷ []) faults) (all_seen before faults)
  where
    last : Option NameFault
    last = slice_get before (length before - 1)

    by : (t : Bool) → is_new before fault ≡ t
        → AllByRecursion (Seen ((before ++ fault ∷ []) ++ new_after (before ++ fault ∷ []) faults)) faults
        → AllByRecursion (Seen (before ++ new_after before faults)) faults
        → AllByRecursion (Seen (before ++ (if t then fault ∷ new_after (before ++ fault ∷ []) faults else new_after before faults))) (fault ∷ faults)
    by true is with_it without = (
      inl (list_any-append (at_line fault.line) before (fault ∷ new_after (before ++ fault ∷ []) faults)
          ∙ second_true (some_at fault.line before) (nat_eq fault.line fault.line || some_at fault.line (new_after (before ++ fault ∷ []) faults))
          (first_true (nat_eq fault.line fault.line) (some_at fault.line (new_after (before ++ fault ∷ []) faults)) (same_line fault.line))),
      subst (λ all. AllByRecursion (Seen all) faults) (append_assoc before (fault ∷ []) (new_after (before ++ fault ∷ []) faults)) with_it,
    )
    by false is with_it without = (seen (not_new (is_at fault.line last) (is_lacked before fault.cause) is), without)
      where
        seen : (is_at fault.line last ≡ true) ⊎ (is_lacked before fault.cause ≡ true) → Seen (before ++ new_after before faults) fault
        seen (inl here) =
            inl (list_any-append (at_line fault.line) before (new_after before faults)
            ∙ first_true (some_at fault.line before) (some_at fault.line (new_after before faults)) (last_some fault.line before (length before - 1) here))
        seen (inr lacked) = inr (lacked_more before (new_after before faults) fault.cause lacked)

-- a property of all causes in the order of lines is one of all causes, and the other way round
module _ (P : NameFault → Type 0) where
  from_inserted : (found : NameFault) (faults : List NameFault) → AllByRecursion P (inserted found faults) → AllByRecursion P (found ∷ faults)
  from_inserted found [] all = all
  from_inserted found (next ∷ faults) all = by (nat_lt next.line found.line) all (from_inserted found faults)
    where
      by : (t : Bool) → AllByRecursion P (if t then next ∷ inserted found faults else found ∷ next ∷ faults)
          → (AllByRecursion P (inserted found faults) → AllByRecursion P (found ∷ faults)) → AllByRecursion P (found ∷ next ∷ faults)
      by true (first, rest) again = let both = again rest in (both.0, (first, both.1))
      by false all again = all

  pub from_in_lines : (faults : List NameFault) → AllByRecursion P (in_lines faults) → AllByRecursion P faults
  from_in_lines [] all = tt
  from_in_lines (found ∷ faults) all = let both = from_inserted found (in_lines faults) all in (both.0, from_in_lines faults both.1)

  to_inserted : (found : NameFault) (faults : List NameFault) → P found → AllByRecursion P faults → AllByRecursion P (inserted found faults)
  to_inserted found [] here all = (here, tt)
  to_inserted found (next ∷ faults) here (first, rest) = by (nat_lt next.line found.line) (to_inserted found faults here rest)
    where
      by : (t : Bool) → AllByRecursion P (inserted found faults) → AllByRecursion P (if t then next ∷ inserted found faults else found ∷ next ∷ faults)
      by true again = (first, again)
      by false again = (here, (first, rest))

  to_in_lines : (faults : List NameFault) → AllByRecursion P faults → AllByRecursion P (in_lines faults)
  to_in_lines [] all = tt
  to_in_lines (found ∷ faults) (here, rest) = to_inserted found (in_lines faults) here (to_in_lines faults rest)

  to_new : (before faults : List NameFault) → AllByRecursion P faults → AllByRecursion P (new_after before faults)
  to_new before [] all = tt
  to_new before (fault ∷ faults) (here, rest) = by (is_new before fault) (to_new (before ++ fault ∷ []) faults rest) (to_new before faults rest)
    where
      by : (t : Bool) → AllByRecursion P (new_after (before ++ fault ∷ []) faults) → AllByRecursion P (new_after before faults)
          → AllByRecursion P (if t then fault ∷ new_after (before ++ fault ∷ []) faults else new_after before faults)
      by true with_it without = (here, with_it)
      by false with_it without = without

  pub to_reported : (faults : List NameFault) → AllByRecursion P faults → AllByRecursion P (new_after [] (in_lines faults))
  to_reported faults all = to_new [] (in_lines faults) (to_in_lines faults all)

pub mapped : (P Q : NameFault → Type 0) → ((fault : NameFault) → P fault → Q fault) → (faults : List NameFault) → AllByRecursion P faults → AllByRecursion Q faults
mapped P Q f [] all = tt
mapped P Q f (fault ∷ faults) (here, rest) = (f fault here, mapped P Q f faults rest)

-- a line of a reported cause is refused
some_mapped : (line : ℕ) (faults : List NameFault) → list_any (on_line line) (map cause_refusal faults) ≡ some_at line faults
some_mapped line [] = refl
some_mapped line (fault ∷ faults) = λ j. nat_eq fault.line line || some_mapped line faults j

-- each cause is at a refused line, or it lacks a name that is reported
pub all_known : (refused : List Refusal) (faults : List NameFault)
    → AllByRecursion (Known (refused ++ further refused (map cause_refusal (new_after [] (in_lines faults)))) (new_after [] (in_lines faults))) faults
all_known refused faults =
    mapped (Seen reported) (Known (refused ++ further refused (map cause_refusal reported)) reported) known faults (from_in_lines (Seen reported) faults (all_seen [] (in_lines faults)))
  where
    reported : List NameFault
    reported = new_after [] (in_lines faults)

    known : (fault : NameFault) → Seen reported fault → Known (refused ++ further refused (map cause_refusal reported)) reported fault
    known fault (inl here) = inl (line_refused refused (map cause_refusal reported) fault.line (some_mapped fault.line reported ∙ here))
    known fault (inr lacked) = inr lacked

abbrev pub HasNone : (Code → Bool) → ℕ → NameFault → Type 0
HasNone test line fault = nat_eq fault.line line ≡ true → test (code_of fault.cause) ≡ false

further_code : (refused : List Refusal) (test : Code → Bool) (line : ℕ) (faults : List NameFault) → AllByRecursion (HasNone test line) faults
    → (code : Code) → code_at (further refused (map cause_refusal faults)) line ≡ Some code → test code ≡ false
further_code refused test line [] none code is = absurd (cc)
further_code refused test line (fault ∷ faults) (here, rest) code is =
    by (is_refused refused fault.line) (nat_eq fault.line line) refl is (further_code refused test line faults rest code)
  where
    others : List Refusal
    others = further refused (map cause_refusal faults)

    by : (t here_too : Bool) → nat_eq fault.line line ≡ here_too
        → code_at (cond (not t) (cause_refusal fault ∷ others) others) line ≡ Some code
        → (code_at others line ≡ Some code → test code ≡ false) → test code ≡ false
    by true here_too e h again = again h
    by false true e h again =
        let same : code_of fault.cause ≡ code =
        same_Some (code_of fault.cause) code (sym (ap (λ t. cond t (Some (code_of fault.cause)) (code_at others line)) e) ∙ h) in
        sym (ap test same) ∙ here e
    by false false e h again = again (sym (ap (λ t. cond t (Some (code_of fault.cause)) (code_at others line)) e) ∙ h)

pub code_is : (refused : List Refusal) (test : Code → Bool) (line : ℕ) (faults : List NameFault) → count_at line refused ≡ 0 → AllByRecursion (HasNone test line) faults
    → (code : Code) → code_at (refused ++ further refused (map cause_refusal (new_after [] (in_lines faults)))) line ≡ Some code → test code ≡ false
code_is refused test line faults free none code is =
    further_code refused test line (new_after [] (in_lines faults)) (to_reported (HasNone test line) faults none) code
    (sym (code_after refused (further refused (map cause_refusal (new_after [] (in_lines faults)))) line free) ∙ is)
