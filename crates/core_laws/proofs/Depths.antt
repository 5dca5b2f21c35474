-- What is found by a depth of groups, for a group and for the groups that it enters.
use Rattle.std.specs.Prelude.{◌≡◌, ℕ, zero, suc, ◌+◌, Bool, true, false, ◌||◌, nat_eq, List, [], ◌∷◌, ◌++◌, flat_map, slice_get, unwrap_or, option_map, Option, Some, None}
use Rattle.std.specs.List.{fold, list_any}
use Rattle.std.specs.Ordering.{nat_cmp, match_ordering}
use Rattle.std.specs.BTreeSet.{insert_key}
use Rattle.std.proofs.Common.{refl, sym, ap, ◌∙◌, arith, Ordering, Less, Equal, Greater}
use Rattle.std.proofs.lemmas.Bool.{or_parts}
use Rattle.std.proofs.lemmas.Option.{none-some, same_Some, slice_get-map}
use Rattle.kmn_base.specs.Rising.{is_among, rising}
use Rattle.rule_model.specs.declared.tables.Out.{Out}
use Rattle.rule_model.specs.declared.tables.Out.TheVariants as output
use Rattle.rule_model.specs.declared.tables.Rule.{Rule}
use Rattle.rule_model.specs.declared.tables.Group.{Group}
use Rattle.core_constructs.specs.Changes.{changes_option, changes_within, group_changes, is_saved_early, item_changes, saves_early}
use Rattle.core_constructs.specs.Marks.{group_items}
use Rattle.core_constructs.specs.Outputs.{ends, live}
use Rattle.core_constructs.specs.Reached.{entered, entered_from, entered_in, group_entered, played, reached_within, rule_entered}
use Rattle.core_constructs.proofs.Depths.{reached_none, reached_more, changes_none, changes_more}
use Rattle.core_constructs.proofs.Live.{played_ended, played_on}
use Rattle.core_laws.proofs.Items.{AllOf}
use Rattle.core_laws.proofs.Rising.{among_both, among_left, among_right, equal_numbers, in_fold, in_rising, not_in_rising, same_number, stays_in_fold}

true_false : true ≡ false → ⊥
true_false e = grind arith

false_true : false ≡ true → ⊥
false_true e = grind arith

-- ---- members

pub among_at : {A : Type 0} (f : A → List ℕ) (xs : List A) (place : ℕ) (x : A) (n : ℕ) → slice_get xs place ≡ Some x → is_among n (f x) ≡ true → is_among n (flat_map f xs) ≡ true
among_at f [] place x n listed among = absurd (none-some x listed)
among_at f (y ∷ xs) zero x n listed among = among_left n (f y) (flat_map f xs) (ap (λ z. is_among n (f z)) (same_Some y x listed) ∙ among)
among_at f (y ∷ xs) (suc place) x n listed among = among_right n (f y) (flat_map f xs) (among_at f xs place x n listed among)

among_each : (f : ℕ → List ℕ) (xs : List ℕ) (g n : ℕ) → is_among g xs ≡ true → is_among n (f g) ≡ true → is_among n (flat_map f xs) ≡ true
among_each f [] g n here among = absurd (false_true here)
among_each f (x ∷ xs) g n here among = by_test (nat_eq g x) refl here (λ rest. among_each f xs g n rest among)
  where
    by_test : (b : Bool) → nat_eq g x ≡ b → (b || is_among g xs) ≡ true → (is_among g xs ≡ true → is_among n (flat_map f xs) ≡ true) → is_among n (f x ++ flat_map f xs) ≡ true
    by_test true is here rest = among_left n (f x) (flat_map f xs) (ap (λ (m : ℕ). is_among n (f m)) (sym (equal_numbers g x is)) ∙ among)
    by_test false is here rest = among_right n (f x) (flat_map f xs) (rest here)

from_insert : (k n : ℕ) (ns : List ℕ) → is_among k (insert_key nat_cmp ns n) ≡ true → (nat_eq k n || is_among k ns) ≡ true
from_insert k n [] among = among
from_insert k n (m ∷ ns) among = by (nat_cmp n m) (from_insert k n ns) among
  where
    later : (a b d e : Bool) → (e ≡ true → (a || d) ≡ true) → (b || e) ≡ true → (a || (b || d)) ≡ true
    later true b d e rest told = refl
    later false true d e rest told = refl
    later false false d e rest told = rest told

    behind : (a b : Bool) → b ≡ true → (a || b) ≡ true
    behind true b told = refl
    behind false b told = told

    by : (o : Ordering) → (is_among k (insert_key nat_cmp ns n) ≡ true → (nat_eq k n || is_among k ns) ≡ true) → is_among k (match_ordering o (n ∷ m ∷ ns) (m ∷ ns) (m ∷ insert_key nat_cmp ns n)) ≡ true → (nat_eq k n || is_among k (m ∷ ns)) ≡ true
    by Less rest told = told
    by Equal rest told = behind (nat_eq k n) (is_among k (m ∷ ns)) told
    by Greater rest told = later (nat_eq k n) (nat_eq k m) (is_among k ns) (is_among k (insert_key nat_cmp ns n)) rest told

from_fold : (k : ℕ) (kept ns : List ℕ) → is_among k (fold (insert_key nat_cmp) kept ns) ≡ true → (is_among k ns || is_among k kept) ≡ true
from_fold k kept [] among = among
from_fold k kept (n ∷ ns) among = by_tests (is_among k ns) (nat_eq k n) (is_among k kept) (is_among k (insert_key nat_cmp kept n)) (from_fold k (insert_key nat_cmp kept n) ns among) (from_insert k n kept)
  where
    by_tests : (a b d e : Bool) → (a || e) ≡ true → (e ≡ true → (b || d) ≡ true) → ((b || a) || d) ≡ true
    by_tests true true d e one rest = refl
    by_tests true false d e one rest = refl
    by_tests false true d e one rest = refl
    by_tests false false d e one rest = rest one

from_rising : (k : ℕ) (ns : List ℕ) → is_among k (rising ns) ≡ true → is_among k ns ≡ true
from_rising k ns among = by_test (is_among k ns) (from_fold k [] ns among)
  where
    by_test : (a : Bool) → (a || false) ≡ true → a ≡ true
    by_test true told = refl
    by_test false told = told

-- ---- the groups that are reached

pub reached_up : (m k : ℕ) (groups : List Group) (start g : ℕ) → is_among g (reached_within k groups start) ≡ true → is_among g (reached_within (k + m) groups start) ≡ true
reached_up zero k groups start g among = let same : k + 0 ≡ k = omega arith in ap (λ (n : ℕ). is_among g (reached_within n groups start)) same ∙ among
reached_up (suc m) k groups start g among =
    let next : k + suc m ≡ k + m + 1 = omega arith in
    ap (λ (n : ℕ). is_among g (reached_within n groups start)) next
    ∙ ap (is_among g) (reached_more (k + m) groups start)
    ∙ stays_in_fold g (reached_within (k + m) groups start) (flat_map (entered_from groups) (reached_within (k + m) groups start)) (reached_up m k groups start g among)

pub reached_next : (k : ℕ) (groups : List Group) (start g h : ℕ) (group : Group) → is_among g (reached_within k groups start) ≡ true → slice_get groups g ≡ Some group → is_among h (group_entered group) ≡ true
    → is_among h (reached_within (k + 1) groups start) ≡ true
reached_next k groups start g h group among listed enters =
    ap (is_among h) (reached_more k groups start)
    ∙ in_fold h (reached_within k groups start) (flat_map (entered_from groups) (reached_within k groups start))
    (among_each (entered_from groups) (reached_within k groups start) g h among (ap (λ (o : Option Group). is_among h (entered_in o)) listed ∙ enters))

pub reached_start : (groups : List Group) (start : ℕ) → is_among start (reached_within 0 groups start) ≡ true
reached_start groups start = ap (is_among start) (reached_none groups start) ∙ in_rising start (start ∷ []) (λ i. same_number start i || false)

flat_both : (h : ℕ) (xs ys : List Out) → is_among h (flat_map entered xs) ≡ true → is_among h (flat_map entered (xs ++ ys)) ≡ true
flat_both h [] ys among = absurd (false_true among)
flat_both h (x ∷ xs) ys among = by_test (is_among h (entered x)) refl (flat_both h xs ys)
  where
    by_test : (b : Bool) → is_among h (entered x) ≡ b → (is_among h (flat_map entered xs) ≡ true → is_among h (flat_map entered (xs ++ ys)) ≡ true) → is_among h (entered x ++ flat_map entered (xs ++ ys)) ≡ true
    by_test true is rest = among_left h (entered x) (flat_map entered (xs ++ ys)) is
    by_test false is rest = among_right h (entered x) (flat_map entered (xs ++ ys)) (rest ((λ i. sym is i || is_among h (flat_map entered xs)) ∙ sym (among_both h (entered x) (flat_map entered xs)) ∙ among))

flat_second : (h : ℕ) (xs ys : List Out) → is_among h (flat_map entered ys) ≡ true → is_among h (flat_map entered (xs ++ ys)) ≡ true
flat_second h [] ys among = among
flat_second h (x ∷ xs) ys among = among_right h (entered x) (flat_map entered (xs ++ ys)) (flat_second h xs ys among)

-- the groups that a record's output, the match output after it, and the nomatch output enter
pub enters_output : (group : Group) (place : ℕ) (rule : Rule) (h : ℕ) → slice_get group.rules place ≡ Some rule → is_among h (flat_map entered (live rule.output)) ≡ true → is_among h (group_entered group) ≡ true
enters_output group place rule h listed among =
    among_left h (flat_map (rule_entered group) group.rules) (flat_map entered (live group.on_nomatch)) (among_at (rule_entered group) group.rules place rule h listed (by_end (ends rule.output) refl))
  where
    by_end : (b : Bool) → ends rule.output ≡ b → is_among h (flat_map entered (played group rule)) ≡ true
    by_end true is = ap (λ (items : List Out). is_among h (flat_map entered items)) (played_ended rule.output group.on_match is) ∙ flat_both h (live rule.output) [] among
    by_end false is = ap (λ (items : List Out). is_among h (flat_map entered items)) (played_on rule.output group.on_match is) ∙ flat_both h (live rule.output) (live group.on_match) among

pub enters_match : (group : Group) (place : ℕ) (rule : Rule) (h : ℕ) → slice_get group.rules place ≡ Some rule → ends rule.output ≡ false → is_among h (flat_map entered (live group.on_match)) ≡ true → is_among h (group_entered group) ≡ true
enters_match group place rule h listed is among =
    among_left h (flat_map (rule_entered group) group.rules) (flat_map entered (live group.on_nomatch))
    (among_at (rule_entered group) group.rules place rule h listed
    (ap (λ (items : List Out). is_among h (flat_map entered items)) (played_on rule.output group.on_match is) ∙ flat_second h (live rule.output) (live group.on_match) among))

pub enters_nomatch : (group : Group) (h : ℕ) → is_among h (flat_map entered (live group.on_nomatch)) ≡ true → is_among h (group_entered group) ≡ true
enters_nomatch group h among = among_right h (flat_map (rule_entered group) group.rules) (flat_map entered (live group.on_nomatch)) among

-- ---- the options that may change

abbrev changes_at : List (List ℕ) → ℕ → List ℕ
changes_at changes g = unwrap_or (slice_get changes g) []

-- what a group may change at one more depth is what its items may change
group_at_depth : (d : ℕ) (groups : List Group) (g : ℕ) (group : Group) → slice_get groups g ≡ Some group → changes_at (changes_within (d + 1) groups) g ≡ group_changes (changes_within d groups) group
group_at_depth d groups g group listed =
    ap (λ (all : List (List ℕ)). changes_at all g) (changes_more d groups)
    ∙ ap (λ (o : Option (List ℕ)). unwrap_or o []) (slice_get-map (group_changes (changes_within d groups)) groups g ∙ ap (option_map (group_changes (changes_within d groups))) listed)

not_changed : (f : Out → List ℕ) (n : ℕ) (items : List Out) → is_among n (flat_map f items) ≡ false → AllOf (λ (item : Out). is_among n (f item) ≡ false) items
not_changed f n [] none = tt
not_changed f n (item ∷ items) none =
    let parts = or_parts (is_among n (f item)) (is_among n (flat_map f items)) (sym (among_both n (f item) (flat_map f items)) ∙ none) in
    (parts.0, not_changed f n items parts.1)

-- a store that entering a group doesn't change is changed by none of its items
pub items_unchanged : (d : ℕ) (groups : List Group) (g n : ℕ) (group : Group) → slice_get groups g ≡ Some group → is_among n (changes_at (changes_within (d + 1) groups) g) ≡ false
    → AllOf (λ (item : Out). changes_option (changes_within d groups) n item ≡ false) (group_items group)
items_unchanged d groups g n group listed none =
    not_changed (item_changes (changes_within d groups)) n (group_items group)
    (not_in_rising n (flat_map (item_changes (changes_within d groups)) (group_items group)) (ap (is_among n) (sym (group_at_depth d groups g group listed)) ∙ none))

pub none_of_all : (test : Out → Bool) (items : List Out) → AllOf (λ (item : Out). test item ≡ false) items → list_any test items ≡ false
none_of_all test [] all = refl
none_of_all test (item ∷ items) all = λ i. all.0 i || none_of_all test items all.1 i

-- at more depth, as many options or more may change
abbrev IsWithin : List (List ℕ) → List (List ℕ) → Type 0
IsWithin few many = (g n : ℕ) → is_among n (changes_at few g) ≡ true → is_among n (changes_at many g) ≡ true

within_item : (few many : List (List ℕ)) → IsWithin few many → (item : Out) (n : ℕ) → is_among n (item_changes few item) ≡ true → is_among n (item_changes many item) ≡ true
within_item few many within (output.Enter g) n among = within g n among
within_item few many within (output.Set s v) n among = among
within_item few many within (output.Reset s) n among = among
within_item few many within (output.Char c) n among = among
within_item few many within (output.Mark m) n among = among
within_item few many within (output.Index s k) n among = among
within_item few many within output.Context n among = among
within_item few many within (output.ContextAt k) n among = among
within_item few many within (output.SetSystem s v) n among = among
within_item few many within (output.Save s) n among = among
within_item few many within output.Nul n among = among
within_item few many within output.Beep n among = among
within_item few many within output.Stop n among = among

within_items : (few many : List (List ℕ)) → IsWithin few many → (items : List Out) (n : ℕ) → is_among n (flat_map (item_changes few) items) ≡ true → is_among n (flat_map (item_changes many) items) ≡ true
within_items few many within [] n among = among
within_items few many within (item ∷ items) n among = by_test (is_among n (item_changes few item)) refl (within_items few many within items n)
  where
    by_test : (b : Bool) → is_among n (item_changes few item) ≡ b → (is_among n (flat_map (item_changes few) items) ≡ true → is_among n (flat_map (item_changes many) items) ≡ true)
        → is_among n (item_changes many item ++ flat_map (item_changes many) items) ≡ true
    by_test true is rest = among_left n (item_changes many item) (flat_map (item_changes many) items) (within_item few many within item n is)
    by_test false is rest =
        among_right n (item_changes many item) (flat_map (item_changes many) items)
        (rest ((λ i. sym is i || is_among n (flat_map (item_changes few) items)) ∙ sym (among_both n (item_changes few item) (flat_map (item_changes few) items)) ∙ among))

within_more : (d : ℕ) (groups : List Group) → IsWithin (changes_within d groups) (changes_within (d + 1) groups)
within_more zero groups g n among = absurd (false_true (sym (ap (λ (all : List (List ℕ)). is_among n (changes_at all g)) (changes_none groups)) ∙ among))
within_more (suc d) groups g n among = by_group (slice_get groups g) refl (within_more d groups)
  where
    less : suc d ≡ d + 1
    less = omega arith

    among_less : is_among n (changes_at (changes_within (d + 1) groups) g) ≡ true
    among_less = ap (λ (m : ℕ). is_among n (changes_at (changes_within m groups) g)) (sym less) ∙ among

    by_group : (o : Option Group) → slice_get groups g ≡ o → IsWithin (changes_within d groups) (changes_within (d + 1) groups) → is_among n (changes_at (changes_within (suc d + 1) groups) g) ≡ true
    by_group None listed rest =
        absurd (false_true (sym (ap (λ (all : List (List ℕ)). is_among n (changes_at all g)) (changes_more d groups)
        ∙ ap (λ (o : Option (List ℕ)). is_among n (unwrap_or o [])) (slice_get-map (group_changes (changes_within d groups)) groups g ∙ ap (option_map (group_changes (changes_within d groups))) listed)) ∙ among_less))
    by_group (Some group) listed rest =
        ap (is_among n) (group_at_depth (suc d) groups g group listed)
        ∙ in_rising n (flat_map (item_changes (changes_within (suc d) groups)) (group_items group))
        (within_items (changes_within d groups) (changes_within (suc d) groups) within (group_items group) n
        (from_rising n (flat_map (item_changes (changes_within d groups)) (group_items group)) (ap (is_among n) (sym (group_at_depth d groups g group listed)) ∙ among_less)))
      where
        within : IsWithin (changes_within d groups) (changes_within (suc d) groups)
        within h m here = ap (λ (k : ℕ). is_among m (changes_at (changes_within k groups) h)) less ∙ rest h m here

within_up : (m d : ℕ) (groups : List Group) → IsWithin (changes_within d groups) (changes_within (d + m) groups)
within_up zero d groups g n among = let same : d + 0 ≡ d = omega arith in ap (λ (k : ℕ). is_among n (changes_at (changes_within k groups) g)) same ∙ among
within_up (suc m) d groups g n among =
    let next : d + suc m ≡ d + m + 1 = omega arith in
    ap (λ (k : ℕ). is_among n (changes_at (changes_within k groups) g)) next ∙ within_more (d + m) groups g n (within_up m d groups g n among)

less_changed : (few many : List (List ℕ)) → IsWithin few many → (n : ℕ) (items : List Out) → list_any (changes_option many n) items ≡ false → list_any (changes_option few n) items ≡ false
less_changed few many within n [] none = refl
less_changed few many within n (item ∷ items) none =
    let parts = or_parts (changes_option many n item) (list_any (changes_option many n) items) none in
    λ i. one (changes_option few n item) refl parts.0 i || less_changed few many within n items parts.1 i
  where
    one : (b : Bool) → changes_option few n item ≡ b → changes_option many n item ≡ false → b ≡ false
    one true is none = absurd (false_true (sym none ∙ within_item few many within item n is))
    one false is none = refl

less_early : (few many : List (List ℕ)) → IsWithin few many → (items : List Out) → saves_early many items ≡ false → saves_early few items ≡ false
less_early few many within [] none = refl
less_early few many within (item ∷ items) none =
    let parts = or_parts (is_saved_early many item items) (saves_early many items) none in
    λ i. one item parts.0 i || less_early few many within items parts.1 i
  where
    one : (item : Out) → is_saved_early many item items ≡ false → is_saved_early few item items ≡ false
    one (output.Save store) none = less_changed few many within store items none
    one (output.Char c) none = refl
    one (output.Mark m) none = refl
    one (output.Index s k) none = refl
    one output.Context none = refl
    one (output.ContextAt k) none = refl
    one (output.Enter g) none = refl
    one (output.Set s v) none = refl
    one (output.SetSystem s v) none = refl
    one (output.Reset s) none = refl
    one output.Nul none = refl
    one output.Beep none = refl
    one output.Stop none = refl

-- at less depth, fewer options change after they are saved
pub early_below : (m d : ℕ) (groups : List Group) (items : List Out) → saves_early (changes_within (d + m) groups) items ≡ false → saves_early (changes_within d groups) items ≡ false
early_below m d groups items none = less_early (changes_within d groups) (changes_within (d + m) groups) (within_up m d groups) items none
