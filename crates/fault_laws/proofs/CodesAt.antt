-- The codes of lines that one pass or two passes refuse.
use Rattle.std.proofs.Common.{◌≡◌, ℕ, ◌⊎◌, inl, inr, Bool, true, false, cond, List, [], ◌∷◌, ◌++◌, Option, Some, None, refl, sym, ap, ◌∙◌, append-nil, arith}
use Rattle.std.specs.Prelude.{nat_eq, not, ◌||◌, is_some}
use Rattle.std.specs.List.{list_any}
use Rattle.std.proofs.lemmas.Bool.Decides.{nat_tests}
use Rattle.kmn_base.specs.declared.codes.Code.{Code}
use Rattle.kmn_base.specs.declared.refusals.Refusal.{Refusal}
use Rattle.kmn_lines.proofs.TextSizes.{clash}
use Rattle.source_faults.specs.Stubs.{code_at, is_refused}
use Rattle.source_faults.specs.Faults.{further}
use Rattle.fault_laws.proofs.Counts.{count_at, not_refused_before, same_numbers, tick}
use Rattle.fault_laws.proofs.NameLists.{either, second_true}

-- a line that is not refused has no code
pub no_code : (refused : List Refusal) (line : ℕ) → is_refused refused line ≡ false → code_at refused line ≡ None
no_code [] line free = refl
no_code (found ∷ refused) line free = by (nat_eq line 0) (code_at (found ∷ refused) line) refl free
  where
    by : (zero : Bool) (code : Option Code) → code_at (found ∷ refused) line ≡ code → (zero || is_some code) ≡ false → code_at (found ∷ refused) line ≡ None
    by zero None is h = is
    by true (Some code) is h = absurd (cc)
    by false (Some code) is h = absurd (cc)

-- a line with a code is refused
some_refused : (refused : List Refusal) (line : ℕ) → is_some (code_at refused line) ≡ true → is_refused refused line ≡ true
some_refused [] line h = absurd (cc)
some_refused (found ∷ refused) line h = second_true (nat_eq line 0) (is_some (code_at (found ∷ refused) line)) h

code_behind : (refused more : List Refusal) (line : ℕ) → is_some (code_at more line) ≡ true → is_some (code_at (refused ++ more) line) ≡ true
code_behind [] more line h = h
code_behind (found ∷ refused) more line h = by (nat_eq found.line line) (code_behind refused more line h)
  where
    by : (t : Bool) → is_some (code_at (refused ++ more) line) ≡ true → is_some (cond t (Some found.code) (code_at (refused ++ more) line)) ≡ true
    by true again = refl
    by false again = again

-- the line of each refusal of a pass is refused after the pass
abbrev pub on_line : ℕ → Refusal → Bool
on_line line found = nat_eq found.line line

pub same_line : (line : ℕ) → nat_eq line line ≡ true
same_line line = grind (arith, nat_tests)

further_some : (refused : List Refusal) (line : ℕ) → is_refused refused line ≡ false → (found : List Refusal) → list_any (on_line line) found ≡ true
    → is_some (code_at (further refused found) line) ≡ true
further_some refused line free [] h = absurd (cc)
further_some refused line free (first ∷ found) h =
    by (nat_eq first.line line) refl (is_refused refused first.line) refl (either (nat_eq first.line line) (list_any (on_line line) found) h) (further_some refused line free found)
  where
    rest : List Refusal
    rest = further refused found

    by : (here : Bool) → nat_eq first.line line ≡ here → (t : Bool) → is_refused refused first.line ≡ t → (nat_eq first.line line ≡ true) ⊎ (list_any (on_line line) found ≡ true)
        → (list_any (on_line line) found ≡ true → is_some (code_at rest line) ≡ true)
        → is_some (code_at (cond (not t) (first ∷ rest) rest) line) ≡ true
    by here e true is (inl at) again = clash (is_refused refused first.line) is (ap (is_refused refused) (same_numbers first.line line at) ∙ free)
    by here e true is (inr later) again = again later
    by true e false is one again = ap (λ t. is_some (cond t (Some first.code) (code_at rest line))) e
    by false e false is (inl at) again = clash (nat_eq first.line line) at e
    by false e false is (inr later) again = ap (λ t. is_some (cond t (Some first.code) (code_at rest line))) e ∙ again later

pub line_refused : (refused found : List Refusal) (line : ℕ) → list_any (on_line line) found ≡ true → is_refused (refused ++ further refused found) line ≡ true
line_refused refused found line h = by (is_refused refused line) refl
  where
    more : List Refusal
    more = further refused found

    still : (t : Bool) → is_refused (refused ++ more) line ≡ t → is_refused refused line ≡ true → is_refused (refused ++ more) line ≡ true
    still true e is = e
    still false e is = clash (is_refused refused line) is (not_refused_before refused more line e)

    by : (t : Bool) → is_refused refused line ≡ t → is_refused (refused ++ more) line ≡ true
    by true is = still (is_refused (refused ++ more) line) refl is
    by false free = some_refused (refused ++ more) line (code_behind refused more line (further_some refused line free found h))

-- the code of a line after two passes
pub code_first : (refused more : List Refusal) (line : ℕ) (code : Code) → code_at refused line ≡ Some code → code_at (refused ++ more) line ≡ Some code
code_first [] more line code is = absurd (cc)
code_first (found ∷ refused) more line code is = by (nat_eq found.line line) is (code_first refused more line code)
  where
    by : (t : Bool) → cond t (Some found.code) (code_at refused line) ≡ Some code → (code_at refused line ≡ Some code → code_at (refused ++ more) line ≡ Some code)
        → cond t (Some found.code) (code_at (refused ++ more) line) ≡ Some code
    by true is again = is
    by false is again = again is

pub code_second : (refused more : List Refusal) (line : ℕ) → code_at refused line ≡ None → code_at (refused ++ more) line ≡ code_at more line
code_second [] more line none = refl
code_second (found ∷ refused) more line none = by (nat_eq found.line line) none (code_second refused more line)
  where
    by : (t : Bool) → cond t (Some found.code) (code_at refused line) ≡ None → (code_at refused line ≡ None → code_at (refused ++ more) line ≡ code_at more line)
        → cond t (Some found.code) (code_at (refused ++ more) line) ≡ code_at more line
    by true none again = absurd (cc)
    by false none again = again none

-- the code of a line that the first of two passes does not refuse
pub code_after : (refused more : List Refusal) (line : ℕ) → count_at line refused ≡ 0 → code_at (refused ++ more) line ≡ code_at more line
code_after [] more line none = refl
code_after (found ∷ refused) more line none = by (nat_eq found.line line) refl (code_after refused more line)
  where
    counted : (a b : ℕ) → nat_eq a b ≡ true → tick b a ≡ 1
    counted a b h = grind (arith, nat_tests)

    by : (t : Bool) → nat_eq found.line line ≡ t → (count_at line refused ≡ 0 → code_at (refused ++ more) line ≡ code_at more line)
        → cond t (Some found.code) (code_at (refused ++ more) line) ≡ code_at more line
    by true same again = let one = counted found.line line same in absurd (omega (arith, one, none))
    by false other again = again (omega (arith, none))

-- a line at which nothing is refused has no code
pub no_code_at : (refused : List Refusal) (line : ℕ) → count_at line refused ≡ 0 → code_at refused line ≡ None
no_code_at refused line none = ap (λ all. code_at all line) (sym (append-nil refused)) ∙ code_after refused [] line none
