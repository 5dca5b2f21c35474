-- The stores of the program that tables decompile to, in its meaning.
use Rattle.std.proofs.Common.{◌≡◌, ℕ, zero, suc, ◌+◌, ◌<◌, ◌≤◌, true, false, ◌||◌, List, [], ◌∷◌, ◌++◌, length, map, Option, None, Some, refl, sym, ◌∙◌, ap, arith, append_assoc, append-nil}
use Rattle.std.specs.Prelude.{nat_eq, flat_map, position, slice_get, option_map, option_to_list}
use Rattle.std.specs.List.{list_any, AllByRecursion}
use Rattle.std.proofs.lemmas.Bool.{eq-eqb, ne_eqb, eqb-true, eqb-false, cond-true, cond-false}
use Rattle.std.proofs.lemmas.Option.{none-some, same_Some}
use Rattle.kmn_base.specs.declared.items.Element.{Element}
use Rattle.kmn_base.specs.Names.{same_name}
use Rattle.rule_model.specs.declared.tables.Store.{Store}
use Rattle.rule_model.specs.declared.program.StoreDef.{StoreDef}
use Rattle.rule_model.specs.Keyboard.{StoreMeaning}
use Rattle.rule_model.specs.Naming.{SourceNames, store_of, stores_onto, is_dropped, item_elements}
use Rattle.rule_model.specs.Src.{numbers_named}
use Rattle.rule_model.specs.System.{system_options}
use Rattle.rule_model.specs.Tab.{with_options}
use Rattle.virtual_keys.proofs.NamePlaces.{position_cons}
use Rattle.compile_laws.proofs.Stores.{is_called}
use Rattle.decompile_program.specs.Items.{Names, back_element}
use Rattle.decompile_program.specs.Back.{back_stores}
use Rattle.decompile_program.proofs.Apart.{StandsFirst}
use Rattle.decompile_program.proofs.Thin.{thin}

-- the stores of a file that have a name in the text, under that name
abbrev pub thin_stores : (Element → Element) → List (Option (List ℕ)) → List Store → List Store
thin_stores f [] stores = []
thin_stores f (call ∷ calls) [] = []
thin_stores f (None ∷ calls) (store ∷ stores) = thin_stores f calls stores
thin_stores f (Some name ∷ calls) (store ∷ stores) = record { system = store.system; name = name; elements = map f store.elements } ∷ thin_stores f calls stores

-- a store statement is kept and does not depend on earlier stores
abbrev pub IsSimple : SourceNames → StoreDef → Type 0
IsSimple names s = (is_dropped s ≡ false) × ((before : List Store) → store_of names before s ≡ store_of names [] s)

pub stores-mapped : (names : SourceNames) (before : List Store) (stores : List StoreDef) → AllByRecursion (IsSimple names) stores → stores_onto names before stores ≡ before ++ map (store_of names []) stores
stores-mapped names before [] simple = sym (append-nil before)
stores-mapped names before (s ∷ stores) simple =
    ap (λ (b : List Store). stores_onto names b stores) (cond-false (is_dropped s) _ _ simple.0.0 ∙ ap (λ k. before ++ k ∷ []) (simple.0.1 before))
    ∙ stores-mapped names (before ++ store_of names [] s ∷ []) stores simple.1
    ∙ append_assoc before (store_of names [] s ∷ []) (map (store_of names []) stores)

-- an element decompiles to an item that denotes the changed element
abbrev pub GoesBack : SourceNames → Names → (Element → Element) → Element → Type 0
GoesBack names called f e = item_elements names [] (back_element called e) ≡ f e ∷ []

elements-back : (names : SourceNames) (called : Names) (f : Element → Element) (es : List Element) → AllByRecursion (GoesBack names called f) es → flat_map (item_elements names []) (map (back_element called) es) ≡ map f es
elements-back names called f [] each = refl
elements-back names called f (e ∷ es) each = λ i. each.0 i ++ elements-back names called f es each.1 i

-- if each element decompiles to its changed form, the stores of the text are the thinned stores of the file
pub stores-back : (names : SourceNames) (called : Names) (f : Element → Element) (line : ℕ) (calls : List (Option (List ℕ))) (stores : List Store)
    → AllByRecursion (λ (store : Store). AllByRecursion (GoesBack names called f) store.elements) stores
    → map (store_of names []) (back_stores called line calls stores) ≡ thin_stores f calls stores
stores-back names called f line [] stores each = refl
stores-back names called f line (call ∷ calls) [] each = refl
stores-back names called f line (None ∷ calls) (store ∷ stores) each = stores-back names called f line calls stores each.1
stores-back names called f line (Some name ∷ calls) (store ∷ stores) each =
    λ i. record { system = store.system; name = name; elements = elements-back names called f store.elements each.0 i } ∷ stores-back names called f (line + 1) calls stores each.1 i

-- how many of the first n stores are written
abbrev pub written_before : ℕ → List (Option (List ℕ)) → ℕ
written_before n [] = 0
written_before zero (call ∷ calls) = 0
written_before (suc n) (None ∷ calls) = written_before n calls
written_before (suc n) (Some name ∷ calls) = 1 + written_before n calls

abbrev pub Written : ℕ → List (Option (List ℕ)) → Type 0
Written n [] = ⊥
Written zero (None ∷ calls) = ⊥
Written zero (Some name ∷ calls) = Unit {0}
Written (suc n) (None ∷ calls) = Written n calls
Written (suc n) (Some name ∷ calls) = Written n calls

pub first-written : (name : List ℕ) (n : ℕ) (calls : List (Option (List ℕ))) → StandsFirst name n calls → Written n calls
first-written name n [] first = absurd first
first-written name zero (None ∷ calls) first = absurd first
first-written name zero (Some other ∷ calls) first = tt
first-written name (suc n) (None ∷ calls) first = first-written name n calls first
first-written name (suc n) (Some other ∷ calls) first = first-written name n calls first.1

one-place : (n m : ℕ) (calls : List (Option (List ℕ))) → Written n calls → Written m calls → written_before n calls ≡ written_before m calls → n ≡ m
one-place n m [] a b e = absurd a
one-place zero m (None ∷ calls) a b e = absurd a
one-place (suc n) zero (None ∷ calls) a b e = absurd b
one-place (suc n) (suc m) (None ∷ calls) a b e = ap suc (one-place n m calls a b e)
one-place zero zero (Some name ∷ calls) a b e = refl
one-place zero (suc m) (Some name ∷ calls) a b e = absurd (omega (arith, e))
one-place (suc n) zero (Some name ∷ calls) a b e = absurd (omega (arith, e))
one-place (suc n) (suc m) (Some name ∷ calls) a b e = ap suc (one-place n m calls a b (omega (arith, e)))

-- the flags of the text and the file agree for each written store
abbrev pub FlagsAgree : List ℕ → List ℕ → ℕ → ℕ → List (Option (List ℕ)) → Type 0
FlagsAgree new old j n calls = (i : ℕ) → Written i calls → list_any (nat_eq (j + written_before i calls)) new ≡ list_any (nat_eq (n + i)) old

pub meanings-thin : (f : Element → Element) (new old : List ℕ) (j n : ℕ) (calls : List (Option (List ℕ))) (stores : List Store) → FlagsAgree new old j n calls
    → with_options new j (thin_stores f calls stores) ≡ thin f calls (with_options old n stores)
meanings-thin f new old j n [] stores agree = refl
meanings-thin f new old j n (call ∷ calls) [] agree = refl
meanings-thin f new old j n (None ∷ calls) (store ∷ stores) agree =
    meanings-thin f new old j (n + 1) calls stores (λ i w. agree (suc i) w ∙ (let e : n + suc i ≡ n + 1 + i = omega arith in ap (λ (k : ℕ). list_any (nat_eq k) old) e))
meanings-thin f new old j n (Some name ∷ calls) (store ∷ stores) agree =
    let here : list_any (nat_eq j) new ≡ list_any (nat_eq n) old =
    (let e : j ≡ j + 0 = omega arith in ap (λ (k : ℕ). list_any (nat_eq k) new) e) ∙ agree 0 tt ∙ (let e : n + 0 ≡ n = omega arith in ap (λ (k : ℕ). list_any (nat_eq k) old) e) in
    let rest = meanings-thin f new old (j + 1) (n + 1) calls stores
    (λ i w. (let e : j + 1 + written_before i calls ≡ j + (1 + written_before i calls) = omega arith in ap (λ (k : ℕ). list_any (nat_eq k) new) e) ∙ agree (suc i) w ∙ (let e : n + suc i ≡ n + 1 + i = omega arith in ap (λ (k : ℕ). list_any (nat_eq k) old) e)) in
    λ i. record { name = name; elements = map f store.elements; is_option = here i; is_system = false } ∷ rest i

-- if each option is found at a place, the options of a text are these places
pub options-placed : (stores : List Store) (called : ℕ → List ℕ) (place : ℕ → ℕ) (opts : List ℕ)
    → AllByRecursion (λ m. position (λ (store : Store). same_name store.name (called m)) stores ≡ Some (place m)) opts
    → flat_map (numbers_named stores) (map called opts) ≡ map place opts
options-placed stores called place [] all = refl
options-placed stores called place (m ∷ opts) all = λ i. option_to_list (all.0 i) ++ options-placed stores called place opts all.1 i

same-flags : (place : ℕ → ℕ) (j n : ℕ) (opts : List ℕ) → AllByRecursion (λ m. nat_eq j (place m) ≡ nat_eq n m) opts → list_any (nat_eq j) (map place opts) ≡ list_any (nat_eq n) opts
same-flags place j n [] all = refl
same-flags place j n (m ∷ opts) all = λ i. all.0 i || same-flags place j n opts all.1 i

same-test : (front n m : ℕ) (calls : List (Option (List ℕ))) → Written n calls → Written m calls → nat_eq (front + written_before n calls) (front + written_before m calls) ≡ nat_eq n m
same-test front n m calls a b =
    elim (nat_eq n m) as (λ k. nat_eq n m ≡ k → nat_eq (front + written_before n calls) (front + written_before m calls) ≡ k) [
      | true ↦ λ e. eq-eqb _ _ (let same : n ≡ m = eqb-true n m e in ap (λ (k : ℕ). front + written_before k calls) same)
      | false ↦ λ e. ne_eqb _ _ (λ same. eqb-false n m e (one-place n m calls a b (omega (arith, same))))
    ] refl

-- if each option is written, the flags agree
pub flags_agree : (front : ℕ) (calls : List (Option (List ℕ))) (opts : List ℕ) → AllByRecursion (λ m. Written m calls) opts
    → FlagsAgree (map (λ k. front + written_before k calls) opts) opts front 0 calls
flags_agree front calls opts all i w =
    same-flags (λ k. front + written_before k calls) (front + written_before i calls) i opts (tests opts all)
    ∙ (let e : i ≡ 0 + i = omega arith in ap (λ (k : ℕ). list_any (nat_eq k) opts) e)
  where
    tests : (opts : List ℕ) → AllByRecursion (λ m. Written m calls) opts → AllByRecursion (λ m. nat_eq (front + written_before i calls) (front + written_before m calls) ≡ nat_eq i m) opts
    tests [] all = tt
    tests (m ∷ opts) all = (same-test front i m calls w all.0, tests opts all.1)

-- a store is found after the stores in front and the stores written before it
within : (n : ℕ) (calls : List (Option (List ℕ))) (stores : List Store) (f : Element → Element) (name : List ℕ) → StandsFirst name n calls → length calls ≡ length stores
    → position (λ (store : Store). same_name store.name name) (thin_stores f calls stores) ≡ Some (written_before n calls)
within n [] stores f name first along = absurd first
within n (call ∷ calls) [] f name first along = absurd (omega (arith, along))
within zero (None ∷ calls) (store ∷ stores) f name first along = absurd first
within zero (Some other ∷ calls) (store ∷ stores) f name (is, same) along =
    position_cons (λ (store : Store). same_name store.name name) (record { system = store.system; name = other; elements = map f store.elements }) (thin_stores f calls stores)
    ∙ cond-true (same_name other name) _ _ (ap (λ k. same_name k name) is ∙ same)
within (suc n) (None ∷ calls) (store ∷ stores) f name first along = within n calls stores f name first (omega (arith, along))
within (suc n) (Some other ∷ calls) (store ∷ stores) f name (apart, first) along =
    position_cons (λ (store : Store). same_name store.name name) (record { system = store.system; name = other; elements = map f store.elements }) (thin_stores f calls stores)
    ∙ (cond-false (same_name other name) _ _ apart ∙ (ap (option_map suc) (within n calls stores f name first (omega (arith, along)))
    ∙ (let e : suc (written_before n calls) ≡ 1 + written_before n calls = omega arith in ap (λ (k : ℕ). Some k) e)))

pub found-behind : (front : List Store) (n : ℕ) (calls : List (Option (List ℕ))) (stores : List Store) (f : Element → Element) (name : List ℕ)
    → AllByRecursion (λ (store : Store). same_name store.name name ≡ false) front → StandsFirst name n calls → length calls ≡ length stores
    → position (λ (store : Store). same_name store.name name) (front ++ thin_stores f calls stores) ≡ Some (length front + written_before n calls)
found-behind [] n calls stores f name other first along =
    within n calls stores f name first along ∙ (let e : written_before n calls ≡ 0 + written_before n calls = omega arith in ap (λ (k : ℕ). Some k) e)
found-behind (x ∷ front) n calls stores f name (apart, other) first along =
    position_cons (λ (store : Store). same_name store.name name) x (front ++ thin_stores f calls stores)
    ∙ (cond-false (same_name x.name name) _ _ apart ∙ (ap (option_map suc) (found-behind front n calls stores f name other first along)
    ∙ (let e : suc (length front + written_before n calls) ≡ suc (length front) + written_before n calls = omega arith in ap (λ (k : ℕ). Some k) e)))

none-below : (n front : ℕ) (calls : List (Option (List ℕ))) (opts : List ℕ) → n < front → list_any (nat_eq n) (map (λ k. front + written_before k calls) opts) ≡ false
none-below n front calls [] less = refl
none-below n front calls (m ∷ opts) less =
    ap (λ b. b || list_any (nat_eq n) (map (λ k. front + written_before k calls) opts)) (ne_eqb n (front + written_before m calls) (omega arith)) ∙ none-below n front calls opts less

-- stores in front are not options
pub front-fixed : (front : ℕ) (calls : List (Option (List ℕ))) (opts : List ℕ) (n : ℕ) (xs : List Store) → n + length xs ≤ front
    → AllByRecursion (λ (store : StoreMeaning). store.is_option ≡ false) (with_options (map (λ k. front + written_before k calls) opts) n xs)
front-fixed front calls opts n [] less = tt
front-fixed front calls opts n (x ∷ xs) less = (none-below n front calls opts (omega arith), front-fixed front calls opts (n + 1) xs (omega arith))

pub front-other : (opts : List ℕ) (name : List ℕ) (n : ℕ) (xs : List Store) → AllByRecursion (λ (store : Store). same_name store.name name ≡ false) xs
    → AllByRecursion (λ (store : StoreMeaning). is_called name store ≡ false) (with_options opts n xs)
front-other opts name n [] other = tt
front-other opts name n (x ∷ xs) other = (other.0, front-other opts name (n + 1) xs other.1)

-- if the number of a store or of a system option is among the options, it is an option
pub option-flag : (opts : List ℕ) (j n : ℕ) (stores : List Store) (store : StoreMeaning) → slice_get (with_options opts j stores ++ system_options) n ≡ Some store
    → list_any (nat_eq (j + n)) opts ≡ true → store.is_option ≡ true
option-flag opts j zero [] store at is = ap (λ (k : StoreMeaning). k.is_option) (sym (same_Some _ store at))
option-flag opts j (suc zero) [] store at is = ap (λ (k : StoreMeaning). k.is_option) (sym (same_Some _ store at))
option-flag opts j (suc (suc n)) [] store at is = absurd (none-some store at)
option-flag opts j zero (s ∷ stores) store at is =
    let e : j ≡ j + 0 = omega arith in
    ap (λ (k : StoreMeaning). k.is_option) (sym (same_Some _ store at)) ∙ ap (λ (k : ℕ). list_any (nat_eq k) opts) e ∙ is
option-flag opts j (suc n) (s ∷ stores) store at is =
    let e : j + 1 + n ≡ j + suc n = omega arith in option-flag opts (j + 1) n stores store at (ap (λ (k : ℕ). list_any (nat_eq k) opts) e ∙ is)
