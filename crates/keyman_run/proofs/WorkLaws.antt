-- Work in steps: the reads and the result of work that is followed by more work.
use Rattle.std.proofs.Common.{◌≡◌, ℕ, ◌+◌, ◌<◌, ◌≤◌, nat_lt, Bool, true, false, if◌then◌else◌, length, List, [], ◌∷◌, ◌++◌, Option, Some, None, Result, Ok, Err, refl, ◌∙◌, ap, subst, append-nil, arith}
use Rattle.std.specs.Prelude.{option_and_then}
use Rattle.std.specs.Option.{option_map_or}
use Rattle.std.proofs.lemmas.Bool.Decides.{nat_tests}
use Rattle.kmn_outside.specs.Outside.{Files}
use Rattle.keyman_words.specs.declared.reason.Reason.{Reason}
use Rattle.keyman_run.specs.Asked.{Ask, read_of}
use Rattle.keyman_run.specs.Work.{Reading, Work, given, and_then, reading_of, reads, comes_to}
use Rattle.keyman_run.specs.Work.Reading.{Bytes, Over}
use Rattle.keyman_run.specs.Work.Work.{Give, Refuse, Read}

-- the reads of the work that follows a result, and the result of that work
abbrev pub reads_behind : {A B : Type 0} → Files → (A → Work B) → Option (Result A Reason) → List Ask
reads_behind files more None = []
reads_behind files more (Some (Err why)) = []
reads_behind files more (Some (Ok value)) = reads files (more value)

abbrev pub comes_behind : {A B : Type 0} → Files → (A → Work B) → Option (Result A Reason) → Option (Result B Reason)
comes_behind files more None = None
comes_behind files more (Some (Err why)) = Some (Err why)
comes_behind files more (Some (Ok value)) = comes_to files (more value)

module _ {A B : Type 0} (files : Files) (more : A → Work B) where
  found_reads : (limit : ℕ) (next : Reading → Work A) (found : Option (List ℕ))
      → ((reading : Reading) → reads files (and_then (next reading) more) ≡ reads files (next reading) ++ reads_behind files more (comes_to files (next reading)))
      → option_map_or (λ bytes. reads files (and_then (next (reading_of limit bytes)) more)) found []
      ≡ option_map_or (λ bytes. reads files (next (reading_of limit bytes))) found []
      ++ reads_behind files more (option_and_then (λ bytes. comes_to files (next (reading_of limit bytes))) found)
  found_reads limit next None all = refl
  found_reads limit next (Some bytes) all = all (reading_of limit bytes)

  pub reads_and_then : (part : Work A) → reads files (and_then part more) ≡ reads files part ++ reads_behind files more (comes_to files part)
  reads_and_then (Give value) = refl
  reads_and_then (Refuse why) = refl
  reads_and_then (Read name limit next) = ap (λ asks. read_of name ∷ asks) (found_reads limit next (files name) (λ reading. reads_and_then (next reading)))

  found_comes : (limit : ℕ) (next : Reading → Work A) (found : Option (List ℕ))
      → ((reading : Reading) → comes_to files (and_then (next reading) more) ≡ comes_behind files more (comes_to files (next reading)))
      → option_and_then (λ bytes. comes_to files (and_then (next (reading_of limit bytes)) more)) found
      ≡ comes_behind files more (option_and_then (λ bytes. comes_to files (next (reading_of limit bytes))) found)
  found_comes limit next None all = refl
  found_comes limit next (Some bytes) all = all (reading_of limit bytes)

  pub comes_and_then : (part : Work A) → comes_to files (and_then part more) ≡ comes_behind files more (comes_to files part)
  comes_and_then (Give value) = refl
  comes_and_then (Refuse why) = refl
  comes_and_then (Read name limit next) = found_comes limit next (files name) (λ reading. comes_and_then (next reading))

  -- if the first part has a value, the work continues with it; if the first part is refused, the whole work is refused
  pub reads_on : (part : Work A) (value : A) → comes_to files part ≡ Some (Ok value) → reads files (and_then part more) ≡ reads files part ++ reads files (more value)
  reads_on part value is = reads_and_then part ∙ ap (λ end. reads files part ++ reads_behind files more end) is

  pub comes_on : (part : Work A) (value : A) → comes_to files part ≡ Some (Ok value) → comes_to files (and_then part more) ≡ comes_to files (more value)
  comes_on part value is = comes_and_then part ∙ ap (comes_behind files more) is

  pub reads_refused : (part : Work A) (why : Reason) → comes_to files part ≡ Some (Err why) → reads files (and_then part more) ≡ reads files part
  reads_refused part why is = reads_and_then part ∙ ap (λ end. reads files part ++ reads_behind files more end) is ∙ append-nil (reads files part)

  pub comes_refused : (part : Work A) (why : Reason) → comes_to files part ≡ Some (Err why) → comes_to files (and_then part more) ≡ Some (Err why)
  comes_refused part why is = comes_and_then part ∙ ap (comes_behind files more) is

-- `and_then` is associative
pub and_then_assoc : {A B C : Type 0} (part : Work A) (more : A → Work B) (last : B → Work C)
    → and_then (and_then part more) last ≡ and_then part (λ value. and_then (more value) last)
and_then_assoc (Give value) more last = refl
and_then_assoc (Refuse why) more last = refl
and_then_assoc (Read name limit next) more last = λ i. Read name limit (λ reading. and_then_assoc (next reading) more last i)

-- the result of the work of a value or a reason is this value or reason
pub comes_given : {A : Type 0} (files : Files) (read : Result A Reason) → comes_to files (given read) ≡ Some read
comes_given files (Ok value) = refl
comes_given files (Err why) = refl

-- a condition holds for every value that work can produce
abbrev pub AllGive : {A : Type 0} → (A → Type 0) → Work A → Type 0
AllGive holds (Give value) = holds value
AllGive holds (Refuse why) = Unit {0}
AllGive holds (Read name limit next) = (reading : Reading) → AllGive holds (next reading)

pub all_given : {A : Type 0} (holds : A → Type 0) (read : Result A Reason) → ((value : A) → read ≡ Ok value → holds value) → AllGive holds (given read)
all_given holds (Ok value) all = all value refl
all_given holds (Err why) all = tt

pub all_behind_all : {A B : Type 0} (holds : A → Type 0) (holds_more : B → Type 0) (part : Work A) (more : A → Work B) → AllGive holds part
    → ((value : A) → holds value → AllGive holds_more (more value)) → AllGive holds_more (and_then part more)
all_behind_all holds holds_more (Give value) more all then_all = then_all value all
all_behind_all holds holds_more (Refuse why) more all then_all = tt
all_behind_all holds holds_more (Read name limit next) more all then_all = λ reading. all_behind_all holds holds_more (next reading) more (all reading) then_all

-- if two kinds of further work are equal for each value that work can produce, the work followed by either is equal
pub same_behind_all : {A B : Type 0} (holds : A → Type 0) (part : Work A) (more other : A → Work B) → AllGive holds part → ((value : A) → holds value → more value ≡ other value)
    → and_then part more ≡ and_then part other
same_behind_all holds (Give value) more other all same = same value all
same_behind_all holds (Refuse why) more other all same = refl
same_behind_all holds (Read name limit next) more other all same = λ i. Read name limit (λ reading. same_behind_all holds (next reading) more other (all reading) same i)

found_holds : {A : Type 0} (holds : A → Type 0) (files : Files) (limit : ℕ) (next : Reading → Work A) (found : Option (List ℕ)) (value : A)
    → ((reading : Reading) → comes_to files (next reading) ≡ Some (Ok value) → holds value)
    → option_and_then (λ bytes. comes_to files (next (reading_of limit bytes))) found ≡ Some (Ok value) → holds value
found_holds holds files limit next None value all is = absurd (cc)
found_holds holds files limit next (Some bytes) value all is = all (reading_of limit bytes) is

-- if a condition holds for every value that work can produce, it holds for the value of its result
pub comes_to_all : {A : Type 0} (holds : A → Type 0) (files : Files) (work : Work A) (value : A) → AllGive holds work → comes_to files work ≡ Some (Ok value) → holds value
comes_to_all holds files (Give found) value all is =
    let e : found ≡ value = cc in
    subst holds e all
comes_to_all holds files (Refuse why) value all is = absurd (cc)
comes_to_all holds files (Read name limit next) value all is =
    found_holds holds files limit next (files name) value (λ reading come. comes_to_all holds files (next reading) value (all reading) come) is

-- if a file keeps the limit, it is read whole; if it is longer, the result is `Over`
pub reading_within : (limit : ℕ) (bytes : List ℕ) → length bytes ≤ limit → reading_of limit bytes ≡ Bytes bytes
reading_within limit bytes within = by_test (nat_lt limit (length bytes)) (grind (arith, nat_tests))
  where
    by_test : (over : Bool) → over ≡ false → (if over then Over (limit + 1) else Bytes bytes) ≡ Bytes bytes
    by_test true is = absurd (cc)
    by_test false is = refl

pub reading_over : (limit : ℕ) (bytes : List ℕ) → limit < length bytes → reading_of limit bytes ≡ Over (limit + 1)
reading_over limit bytes over = by_test (nat_lt limit (length bytes)) (grind (arith, nat_tests))
  where
    by_test : (over : Bool) → over ≡ true → (if over then Over (limit + 1) else Bytes bytes) ≡ Over (limit + 1)
    by_test true is = refl
    by_test false is = absurd (cc)

module _ {A : Type 0} (files : Files) (name : List ℕ) (limit : ℕ) (next : Reading → Work A) (bytes : List ℕ) (is : files name ≡ Some bytes) where
  -- if a file is found, work that reads it makes this read, and then continues with what was read
  pub reads_found : (reading : Reading) → reading_of limit bytes ≡ reading → reads files (Read name limit next) ≡ read_of name ∷ reads files (next reading)
  reads_found reading at =
      ap (λ (found : Option (List ℕ)). read_of name ∷ option_map_or (λ b. reads files (next (reading_of limit b))) found []) is
      ∙ ap (λ (r : Reading). read_of name ∷ reads files (next r)) at

  pub comes_found : (reading : Reading) → reading_of limit bytes ≡ reading → comes_to files (Read name limit next) ≡ comes_to files (next reading)
  comes_found reading at =
      ap (λ (found : Option (List ℕ)). option_and_then (λ b. comes_to files (next (reading_of limit b))) found) is
      ∙ ap (λ (r : Reading). comes_to files (next r)) at
