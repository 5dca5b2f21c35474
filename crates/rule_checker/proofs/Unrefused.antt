-- If nothing is refused, no condition for a refusal is true.
use Rattle.std.proofs.Common.{◌≡◌, ℕ, Bool, true, false, nat_lt, List, [], ◌∷◌, ◌++◌, Option, Some, None, refl, if◌then◌else◌}
use Rattle.std.specs.List.{AllByRecursion}
use Rattle.kmn_base.specs.declared.codes.Code.{Code}
use Rattle.kmn_base.specs.declared.refusals.Refusal.{Refusal}
use Rattle.kmn_base.proofs.Options.{option_or-none}
use Rattle.store_table.specs.First.{broken, first_code, at_line, earlier, first_of}

some_either : (t : Bool) (a b : Refusal) → (if t then Some b else Some a) ≡ None → ⊥
some_either true a b h = absurd (cc)
some_either false a b h = absurd (cc)

pub none_earlier : (a b : Option Refusal) → earlier a b ≡ None → (a ≡ None) × (b ≡ None)
none_earlier None b h = (refl, h)
none_earlier (Some a) None h = absurd (cc)
none_earlier (Some a) (Some b) h = absurd (some_either (nat_lt b.line a.line) a b h)

pub none_at_line : (line : ℕ) (code : Option Code) → at_line line code ≡ None → code ≡ None
none_at_line line None h = refl
none_at_line line (Some code) h = absurd (cc)

pub none_broken : (code : Code) (holds : Bool) (rows : List (Code × Bool)) → broken ((code, holds) ∷ rows) ≡ None → (holds ≡ false) × (broken rows ≡ None)
none_broken code true rows h = absurd (cc)
none_broken code false rows h = (refl, h)

pub none_codes : {X : Type 0} (code : X → Option Code) (xs : List X) → first_code code xs ≡ None → AllByRecursion (λ x. code x ≡ None) xs
none_codes code [] h = tt
none_codes code (x ∷ xs) h =
    let both : (code x ≡ None) × (first_code code xs ≡ None) = option_or-none (code x) (first_code code xs) h in
    (both.0, none_codes code xs both.1)

-- a statement that isn't refused after some statements before it
abbrev pub Stands : {X : Type 0} → (List X → X → Option Refusal) → X → Type 0
Stands {X} refusal x = (before : List X) × (refusal before x ≡ None)

pub none_first : {X : Type 0} (refusal : List X → X → Option Refusal) (before xs : List X) → first_of refusal before xs ≡ None → AllByRecursion (Stands refusal) xs
none_first refusal before [] h = tt
none_first refusal before (x ∷ xs) h =
    let both : (refusal before x ≡ None) × (first_of refusal (before ++ x ∷ []) xs ≡ None) = none_earlier (refusal before x) (first_of refusal (before ++ x ∷ []) xs) h in
    ((before, both.0), none_first refusal (before ++ x ∷ []) xs both.1)
