-- The first of the reported causes is the first refusal for names, and no name is reported twice.
use Rattle.std.proofs.Common.{◌≡◌, ℕ, Bool, true, false, List, [], ◌∷◌, ◌++◌, map, Option, Some, None, refl, sym, ap, ◌∙◌}
use Rattle.std.specs.Prelude.{nat_lt, not, ◌&&◌, ◌-◌, length, slice_get, if◌then◌else◌}
use Rattle.kmn_base.specs.declared.refusals.Refusal.{Refusal}
use Rattle.store_table.specs.First.{earlier, first_among}
use Rattle.store_table.specs.Names.{is_named}
use Rattle.source_names.specs.declared.causes.Cause.{Cause}
use Rattle.source_names.specs.declared.causes.Cause.TheVariants as because
use Rattle.source_names.specs.declared.causes.NameFault.{NameFault}
use Rattle.source_names.specs.Causes.{cause_refusal, name_causes}
use Rattle.source_names.specs.Telling.{inserted, in_lines, is_at, is_lacked, is_new, new_after, reported_causes, first_refusal}
use Rattle.source_names.specs.Laws.{FirstIsReported, ToldOnce, AllNew}
use Rattle.source_names.proofs.FirstCauses.{first_causes}

-- the first in the order of lines is the first among refusals
first_inserted : (found : NameFault) (faults : List NameFault) → first_refusal (inserted found faults) ≡ earlier (Some (cause_refusal found)) (first_refusal faults)
first_inserted found [] = refl
first_inserted found (next ∷ faults) = by (nat_lt next.line found.line)
  where
    by : (t : Bool) → first_refusal (if t then next ∷ inserted found faults else found ∷ next ∷ faults) ≡ (if t then Some (cause_refusal next) else Some (cause_refusal found))
    by true = refl
    by false = refl

first_in_lines : (faults : List NameFault) → first_refusal (in_lines faults) ≡ first_among (map cause_refusal faults)
first_in_lines [] = refl
first_in_lines (found ∷ faults) = first_inserted found (in_lines faults) ∙ ap (earlier (Some (cause_refusal found))) (first_in_lines faults)

-- the first cause is always reported
none_named : (name : List ℕ) → is_named [] name ≡ false
unfolding is_named
none_named name = refl

none_lacked : (why : Cause) → is_lacked [] why ≡ false
none_lacked (because.NoStore name) = none_named name
none_lacked (because.NoGroup name) = none_named name
none_lacked (because.Broken code) = refl

first_new : (faults : List NameFault) → first_refusal (new_after [] faults) ≡ first_refusal faults
first_new [] = refl
first_new (fault ∷ faults) =
    ap (λ t. first_refusal (if not t then fault ∷ new_after (fault ∷ []) faults else new_after [] faults)) (none_lacked fault.cause)

pub first_reported : FirstIsReported
unfolding reported_causes
first_reported program = first_new (in_lines (name_causes program)) ∙ first_in_lines (name_causes program) ∙ first_causes program

-- a cause that is reported lacks no name of another
new_lacks : (here lacked : Bool) → (not here && not lacked) ≡ true → lacked ≡ false
new_lacks here true is = by here is
  where
    by : (here : Bool) → (not here && false) ≡ true → true ≡ false
    by true e = absurd (cc)
    by false e = absurd (cc)
new_lacks here false is = refl

all_new : (before faults : List NameFault) → AllNew before (new_after before faults)
all_new before [] = tt
all_new before (fault ∷ faults) = by (is_new before fault) refl (all_new (before ++ fault ∷ []) faults) (all_new before faults)
  where
    by : (t : Bool) → is_new before fault ≡ t → AllNew (before ++ fault ∷ []) (new_after (before ++ fault ∷ []) faults) → AllNew before (new_after before faults)
        → AllNew before (if t then fault ∷ new_after (before ++ fault ∷ []) faults else new_after before faults)
    by true is with_it without =
        (new_lacks (is_at fault.line (slice_get before (length before - 1))) (is_lacked before fault.cause) is, with_it)
    by false is with_it without = without

pub reported_once : ToldOnce
unfolding reported_causes
reported_once program = all_new [] (in_lines (name_causes program))
