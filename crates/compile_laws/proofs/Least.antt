-- The first of the elements that pass a test, in an order: of a list's parts, of a permutation, and of a sorted list.
use Rattle.std.proofs.Common.{◌≡◌, ℕ, zero, suc, ◌+◌, ◌<◌, Bool, true, false, List, [], ◌∷◌, ◌++◌, length, get_or, Option, Some, None, refl, ap, sym, ◌∙◌, arith, if◌then◌else◌, cond, ◌⊎◌, inl, inr}
use Rattle.std.specs.Prelude.{All, Contains, find}
use Rattle.std.specs.Cmp.{IsStrictWeakOrder}
use Rattle.std.specs.List.Sorted.{IsPermutation, IsSortedBy}
use Rattle.std.proofs.lemmas.Bool.{both_ways}
use Rattle.std.proofs.lemmas.List.Elements.{All-nil, All-cons, All-head, All-tail, All-append, All-weaker, All-contains, Contains-append_left, Contains-append_right}
use Rattle.std.proofs.lemmas.List.Sorted.{All-permutation, Contains-permutation, sorted_far}

-- an element that passes is x or comes after it
abbrev pub Follows : {X : Type 0} → (X → X → Bool) → (X → Bool) → X → X → Type 0
Follows lt p x y = p y ≡ true → (y ≡ x) ⊎ (lt x y ≡ true)

-- an element that passes and precedes each other element that does
pub record IsFirst {X : Type 0} (lt : X → X → Bool) (p : X → Bool) (xs : List X) (x : X) : Type 0 where
  pub among : Contains xs x
  pub passes : p x ≡ true
  pub before : All (Follows lt p x) xs

-- the first element that passes; or no element passes
abbrev pub FirstIfAny : {X : Type 0} → (X → X → Bool) → (X → Bool) → List X → Option X → Type 0
FirstIfAny lt p xs None = All (λ y. p y ≡ false) xs
FirstIfAny lt p xs (Some x) = IsFirst lt p xs x

-- each element precedes all elements after it; or none of these precedes it
abbrev pub Ascending : {X : Type 0} → (X → X → Bool) → List X → Type 0
Ascending lt [] = Unit {0}
Ascending lt (x ∷ xs) = All (λ y. lt x y ≡ true) xs × Ascending lt xs

abbrev pub Rising : {X : Type 0} → (X → X → Bool) → List X → Type 0
Rising lt [] = Unit {0}
Rising lt (x ∷ xs) = All (λ y. lt y x ≡ false) xs × Rising lt xs

-- the earlier of two optional elements
abbrev pub prefer : {X : Type 0} → (X → X → Bool) → Option X → Option X → Option X
prefer lt None b = b
prefer lt (Some x) None = Some x
prefer lt (Some x) (Some y) = if lt y x then Some y else Some x

none_among : {X : Type 0} (x : X) → Contains [] x → ⊥
none_among x c = omega arith

-- an element of a list with a head is the head or in the rest
pub among_cons : {X : Type 0} (y : X) (ys : List X) (x : X) → Contains (y ∷ ys) x → (y ≡ x) ⊎ Contains ys x
among_cons y ys x h = go h.0 h.1 h.2
  where
    go : (k : ℕ) → k < suc (length ys) → get_or (y ∷ ys) k x ≡ x → (y ≡ x) ⊎ Contains ys x
    go zero l e = inl e
    go (suc k) l e = inr (k, omega arith, e)

module _ {X : Type 0} (lt : X → X → Bool) (p : X → Bool) where
  find_none : (xs : List X) → All (λ y. p y ≡ false) xs → find p xs ≡ None
  find_none [] h = refl
  find_none (x ∷ xs) h = (λ i. cond (All-head (λ y. p y ≡ false) x xs h i) (Some x) (find p xs)) ∙ find_none xs (All-tail (λ y. p y ≡ false) x xs h)

  behind : (y : X) (ys : List X) → All (λ z. lt z y ≡ false) ys → (x : X) → (y ≡ x) ⊎ Contains ys x → (y ≡ x) ⊎ (lt x y ≡ true) → y ≡ x
  behind y ys low x (inl e) h = e
  behind y ys low x (inr c) (inl f) = f
  behind y ys low x (inr c) (inr f) = absurd (both_ways (lt x y) (All-contains (λ z. lt z y ≡ false) ys x low c) f)

  later : (y : X) (ys : List X) (x : X) → p y ≡ false → p x ≡ true → (y ≡ x) ⊎ Contains ys x → Contains ys x
  later y ys x fails passed (inl e) = absurd (both_ways (p x) (ap p (sym e) ∙ fails) passed)
  later y ys x fails passed (inr c) = c

  choose_head : (b : Bool) (y : X) (ys : List X) (x : X) → p y ≡ b → (b ≡ true → y ≡ x) → (b ≡ false → find p ys ≡ Some x) → find p (y ∷ ys) ≡ Some x
  choose_head true y ys x e here there = (λ i. cond (e i) (Some y) (find p ys)) ∙ ap Some (here refl)
  choose_head false y ys x e here there = (λ i. cond (e i) (Some y) (find p ys)) ∙ there refl

  find_some : (xs : List X) → Rising lt xs → (x : X) → IsFirst lt p xs x → find p xs ≡ Some x
  find_some [] up x f = absurd (none_among x f.among)
  find_some (y ∷ ys) up x f =
      choose_head (p y) y ys x refl
      (λ e. behind y ys up.0 x (among_cons y ys x f.among) (All-head (Follows lt p x) y ys f.before e))
      (λ e. find_some ys up.1 x (record {
        among = later y ys x e f.passes (among_cons y ys x f.among);
        passes = f.passes;
        before = All-tail (Follows lt p x) y ys f.before;
      }))

  -- in a list in order, the first element that passes is found
  pub found_first : (xs : List X) → Rising lt xs → (o : Option X) → FirstIfAny lt p xs o → find p xs ≡ o
  found_first xs up None h = find_none xs h
  found_first xs up (Some x) h = find_some xs up x h

  skip : (y : X) (ys : List X) → p y ≡ false → (o : Option X) → FirstIfAny lt p ys o → FirstIfAny lt p (y ∷ ys) o
  skip y ys fails None h = All-cons (λ y. p y ≡ false) y ys fails h
  skip y ys fails (Some x) h =
      record {
        among = Contains-append_right (y ∷ []) ys x h.among;
        passes = h.passes;
        before = All-cons (Follows lt p x) y ys (λ passed. absurd (both_ways (p y) fails passed)) h.before;
      }

  head_first : (b : Bool) (y : X) (ys : List X) → p y ≡ b → All (λ z. lt y z ≡ true) ys → FirstIfAny lt p ys (find p ys) → FirstIfAny lt p (y ∷ ys) (cond b (Some y) (find p ys))
  head_first true y ys e up h =
      record {
        among = (0, omega arith, refl);
        passes = e;
        before = All-cons (Follows lt p y) y ys (λ passed. inl refl) (All-weaker (λ z. lt y z ≡ true) (Follows lt p y) (λ z less passed. inr less) ys up);
      }
  head_first false y ys e up h = skip y ys e (find p ys) h

  -- if each element precedes all elements after it, the found element is the first
  pub first_found : (xs : List X) → Ascending lt xs → FirstIfAny lt p xs (find p xs)
  first_found [] up = All-nil (λ y. p y ≡ false)
  first_found (x ∷ xs) up = head_first (p x) x xs refl up.0 (first_found xs up.1)

  pub FirstIfAny-permutation : (xs ys : List X) → IsPermutation xs ys → (o : Option X) → FirstIfAny lt p xs o → FirstIfAny lt p ys o
  FirstIfAny-permutation xs ys same None h = All-permutation (λ y. p y ≡ false) xs ys same h
  FirstIfAny-permutation xs ys same (Some x) h =
      record {
        among = Contains-permutation xs ys x same h.among;
        passes = h.passes;
        before = All-permutation (Follows lt p x) xs ys same h.before;
      }

module _ {X : Type 0} (lt : X → X → Bool) (p : X → Bool) (trans : (x y z : X) → lt x y ≡ true → lt y z ≡ true → lt x z ≡ true) where
  -- what comes after y also comes after x, if x precedes y
  follows : (x y z : X) → lt x y ≡ true → Follows lt p y z → Follows lt p x z
  follows x y z less f passed = go (f passed)
    where
      go : (z ≡ y) ⊎ (lt y z ≡ true) → (z ≡ x) ⊎ (lt x z ≡ true)
      go (inl e) = inr (ap (lt x) e ∙ less)
      go (inr more) = inr (trans x y z less more)

  first_of_two : (xs ys : List X) (x y : X) → IsFirst lt p xs x → IsFirst lt p ys y → (b : Bool) → lt y x ≡ b → (b ≡ false → lt x y ≡ true) → FirstIfAny lt p (xs ++ ys) (if b then Some y else Some x)
  first_of_two xs ys x y h k true less apart =
      record {
        among = Contains-append_right xs ys y k.among;
        passes = k.passes;
        before = All-append (Follows lt p y) xs ys (All-weaker (Follows lt p x) (Follows lt p y) (λ z. follows y x z less) xs h.before) k.before;
      }
  first_of_two xs ys x y h k false fails apart =
      record {
        among = Contains-append_left xs ys x h.among;
        passes = h.passes;
        before = All-append (Follows lt p x) xs ys h.before (All-weaker (Follows lt p y) (Follows lt p x) (λ z. follows x y z (apart refl)) ys k.before);
      }

  none_passes : (x y : X) → p y ≡ false → Follows lt p x y
  none_passes x y fails passed = absurd (both_ways (p y) fails passed)

  -- the first of two lists is the earlier of their first elements
  pub FirstIfAny-append : (xs ys : List X) (a b : Option X) → FirstIfAny lt p xs a → FirstIfAny lt p ys b →
      ((x y : X) → a ≡ Some x → b ≡ Some y → lt y x ≡ false → lt x y ≡ true) → FirstIfAny lt p (xs ++ ys) (prefer lt a b)
  FirstIfAny-append xs ys None None h k apart = All-append (λ y. p y ≡ false) xs ys h k
  FirstIfAny-append xs ys None (Some y) h k apart =
      record {
        among = Contains-append_right xs ys y k.among;
        passes = k.passes;
        before = All-append (Follows lt p y) xs ys (All-weaker (λ z. p z ≡ false) (Follows lt p y) (none_passes y) xs h) k.before;
      }
  FirstIfAny-append xs ys (Some x) None h k apart =
      record {
        among = Contains-append_left xs ys x h.among;
        passes = h.passes;
        before = All-append (Follows lt p x) xs ys h.before (All-weaker (λ z. p z ≡ false) (Follows lt p x) (none_passes x) ys k);
      }
  FirstIfAny-append xs ys (Some x) (Some y) h k apart = first_of_two xs ys x y h k (lt y x) refl (apart x y refl refl)

-- a sorted list rises
pub rising : {X : Type 0} (lt : X → X → Bool) → IsStrictWeakOrder lt → (xs : List X) → IsSortedBy lt xs → Rising lt xs
rising lt o [] up = tt
rising lt o (x ∷ xs) up = (
  λ k d less. sorted_far lt o (x ∷ xs) up 0 (suc k) d (omega arith) (omega arith),
  rising lt o xs (λ k d low less.
      let e : suc k + 1 ≡ suc (k + 1) = omega arith in
      ap (λ m. lt (get_or (x ∷ xs) m d) (get_or xs k d)) (sym e) ∙ up (suc k) d (omega arith) (omega arith)),
)

-- an order is transitive
pub less_trans : {X : Type 0} (lt : X → X → Bool) → IsStrictWeakOrder lt → (x y z : X) → lt x y ≡ true → lt y z ≡ true → lt x z ≡ true
less_trans lt o x y z a b = go (lt x z) refl
  where
    go : (c : Bool) → lt x z ≡ c → lt x z ≡ true
    go true e = e
    go false e = absurd (both_ways (lt x y) (o.chain x z y e (o.one_way y z b)) a)
