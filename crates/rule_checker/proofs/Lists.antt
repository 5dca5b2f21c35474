-- Properties of each item of lists that are gathered, and tests of lists.
use Rattle.std.proofs.Common.{◌≡◌, Bool, true, false, List, [], ◌∷◌, ◌++◌, refl, if◌then◌else◌}
use Rattle.std.specs.Prelude.{flat_map, All}
use Rattle.std.specs.List.{list_all, list_any, AllByRecursion}
use Rattle.std.proofs.lemmas.Bool.{and_parts}
use Rattle.std.proofs.lemmas.List.Elements.{All-nil, All-cons, All-head, All-tail, All-append}
use Rattle.rule_model.specs.Tab.{distinct_onto}

-- if each item with a property passes a test, a list of such items passes it
pub all_pass : {X : Type 0} (P : X → Type 0) (test : X → Bool) → ((x : X) → P x → test x ≡ true) → (xs : List X) → All P xs → list_all test xs ≡ true
all_pass P test f [] h = refl
all_pass P test f (x ∷ xs) h = rw (f x (All-head P x xs h)) (all_pass P test f xs (All-tail P x xs h))

pub none_passes : {X : Type 0} (P : X → Type 0) (test : X → Bool) → ((x : X) → P x → test x ≡ false) → (xs : List X) → All P xs → list_any test xs ≡ false
none_passes P test f [] h = refl
none_passes P test f (x ∷ xs) h = rw (f x (All-head P x xs h)) (none_passes P test f xs (All-tail P x xs h))

-- if each item of a list is mapped to items with a property, all items of the concatenation have the property
pub All-flat_map : {X Y : Type 0} (P : X → Type 0) (Q : Y → Type 0) (f : X → List Y) → ((x : X) → P x → All Q (f x)) → (xs : List X) → All P xs → All Q (flat_map f xs)
All-flat_map P Q f each [] h = All-nil Q
All-flat_map P Q f each (x ∷ xs) h = All-append Q (f x) (flat_map f xs) (each x (All-head P x xs h)) (All-flat_map P Q f each xs (All-tail P x xs h))

-- if all items of two lists have a property, so have the distinct ones
pub All-distinct : {X : Type 0} (P : X → Type 0) (same : X → X → Bool) (seen xs : List X) → All P seen → All P xs → All P (distinct_onto same seen xs)
All-distinct P same seen [] before h = before
All-distinct P same seen (x ∷ xs) before h = All-distinct P same _ xs (by (list_any (λ y. same y x) seen)) (All-tail P x xs h)
  where
    by : (b : Bool) → All P (if b then seen else seen ++ x ∷ [])
    by true = before
    by false = All-append P seen (x ∷ []) before (All-cons P x [] (All-head P x xs h) (All-nil P))

pub all_parts : {X : Type 0} (P : X → Type 0) (xs ys : List X) → AllByRecursion P (xs ++ ys) → AllByRecursion P xs × AllByRecursion P ys
all_parts P [] ys h = (tt, h)
all_parts P (x ∷ xs) ys h = let rest = all_parts P xs ys h.1 in ((h.0, rest.0), rest.1)

pub all_of : {X : Type 0} (P : X → Type 0) (xs : List X) → AllByRecursion P xs → All P xs
all_of P [] h = All-nil P
all_of P (x ∷ xs) h = All-cons P x xs h.0 (all_of P xs h.1)

pub all_true : {X : Type 0} (test : X → Bool) (xs : List X) → list_all test xs ≡ true → All (λ x. test x ≡ true) xs
all_true test [] h = All-nil (λ x. test x ≡ true)
all_true test (x ∷ xs) h = let both = and_parts (test x) (list_all test xs) h in All-cons (λ y. test y ≡ true) x xs both.0 (all_true test xs both.1)
