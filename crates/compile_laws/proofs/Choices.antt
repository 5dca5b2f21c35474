-- The best rule of a source is the rule of the first record of its tables.
use Rattle.std.proofs.Common.{◌≡◌, ℕ, Bool, true, false, not, ◌&&◌, ◌||◌, List, [], ◌∷◌, length, map, Option, Some, None, refl, ap, sym, ◌∙◌, subst, arith, is_some, if◌then◌else◌, cond, nat_cmp}
use Rattle.std.specs.Prelude.{nat_eq, nat_lt, find, flat_map, option_map, option_and_then}
use Rattle.std.specs.List.{list_any, AllByRecursion}
use Rattle.std.specs.Ordering.{is_lt, ordering_then}
use Rattle.std.specs.Cmp.{IsStrictWeakOrder, nat_cmp_total, on_total, back_total, then_total}
use Rattle.std.specs.List.Sorted.{IsPermutation, IsSortedBy}
use Rattle.std.proofs.lemmas.Bool.{and_parts, or_parts, false≢true, not-true}
use Rattle.std.proofs.lemmas.Bool.Decides.{nat_tests}
use Rattle.std.proofs.lemmas.Option.{none-some, same_Some}
use Rattle.std.proofs.lemmas.List.{length-map}
use Rattle.std.proofs.lemmas.List.Elements.{All-nil}
use Rattle.std.proofs.lemmas.List.Sorted.{ranks_by}
use Rattle.kmn_base.specs.declared.items.Item.{Item}
use Rattle.kmn_base.specs.declared.items.Element.{Element}
use Rattle.kmn_base.specs.declared.keys.KeyPress.{KeyPress}
use Rattle.kmn_base.specs.declared.keys.RuleKey.TheVariants as key
use Rattle.virtual_keys.specs.Fits.{key_fits}
use Rattle.rule_model.specs.declared.event_state.Catch.{Catch}
use Rattle.rule_model.specs.declared.event_state.Caught.{Caught}
use Rattle.rule_model.specs.declared.program.Program.{Program}
use Rattle.rule_model.specs.declared.program.RuleDef.{RuleDef}
use Rattle.rule_model.specs.declared.tables.Rule.{Rule}
use Rattle.rule_model.specs.declared.tables.Tables.{Tables}
use Rattle.rule_model.specs.Keyboard.{RuleMeaning}
use Rattle.rule_model.specs.Content.{content}
use Rattle.rule_model.specs.Hold.{caught_by, fitting_place_with, holds}
use Rattle.rule_model.specs.Choose.{Chosen, goes_before, best_with, best, first_with, first}
use Rattle.rule_model.specs.Naming.{SourceNames, names_of}
use Rattle.rule_model.specs.Tab.{tab, tab_rule}
use Rattle.rule_model.specs.Src.{src, src_pattern, src_key, src_rule, cased_keys}
use Rattle.compile_laws.specs.Numbers.{Numbers, numbers_of}
use Rattle.compile_laws.specs.Compiles.{file_pattern, rule_records, precedes}
use Rattle.rule_model.specs.OwnLines.{have_own_lines}
use Rattle.compile_laws.proofs.Linked.{Linked}
use Rattle.compile_laws.proofs.Known.{KnownRule}
use Rattle.compile_laws.proofs.Patterns.{context_caught-count}
use Rattle.compile_laws.proofs.Outputs.{lost}
use Rattle.compile_laws.proofs.Least.{FirstIfAny, prefer, found_first, FirstIfAny-permutation, FirstIfAny-append, rising, less_trans}
use Rattle.compile_laws.proofs.Records.{caught_record, half_now, key_now, one_place, chosen_key, rule_caught, record_caught, passes, context_of, rule-parts, record-parts, rule_first}

-- a rule statement with what it caught
abbrev pub ChosenRule : Type 0
ChosenRule = RuleDef × Caught

-- `best` over the statements
abbrev better_rule : SourceNames → ChosenRule → Option ChosenRule → Option ChosenRule
better_rule names a None = Some a
better_rule names a (Some b) = if goes_before (src_rule names b.0) (src_rule names a.0) then Some b else Some a

abbrev best_rule_with : SourceNames → RuleDef → Option Caught → Option ChosenRule → Option ChosenRule
best_rule_with names r None others = others
best_rule_with names r (Some c) others = better_rule names (r, c) others

abbrev pub best_rule : SourceNames → (RuleDef → Option Caught) → List RuleDef → Option ChosenRule
best_rule names caught [] = None
best_rule names caught (r ∷ rs) = best_rule_with names r (caught r) (best_rule names caught rs)

-- the meaning of a selected statement, and the record that is then selected
abbrev pub src_chosen : SourceNames → ChosenRule → Chosen
src_chosen names x = (src_rule names x.0, x.1)

abbrev pub chosen_record : Numbers → KeyPress → ChosenRule → Rule
chosen_record numbers press x = caught_record numbers press x.0 x.1

either_chosen : (names : SourceNames) (b : Bool) (x y : ChosenRule) →
    (if b then Some (src_chosen names y) else Some (src_chosen names x)) ≡ option_map (src_chosen names) (if b then Some y else Some x)
either_chosen names true x y = refl
either_chosen names false x y = refl

with-map : (names : SourceNames) (r : RuleDef) (c : Option Caught) (others : Option ChosenRule) →
    best_with (src_rule names r) c (option_map (src_chosen names) others) ≡ option_map (src_chosen names) (best_rule_with names r c others)
with-map names r None others = refl
with-map names r (Some c) None = refl
with-map names r (Some c) (Some other) = either_chosen names (goes_before (src_rule names other.0) (src_rule names r)) (r, c) other

pub best-map : (names : SourceNames) (caught : RuleMeaning → Option Caught) (rs : List RuleDef) →
    best caught (map (src_rule names) rs) ≡ option_map (src_chosen names) (best_rule names (λ r. caught (src_rule names r)) rs)
best-map names caught [] = refl
best-map names caught (r ∷ rs) =
    ap (best_with (src_rule names r) (caught (src_rule names r))) (best-map names caught rs)
    ∙ with-map names r (caught (src_rule names r)) (best_rule names (λ r. caught (src_rule names r)) rs)

-- a property of each statement is a property of the best one, which caught what it catches
Within : (RuleDef → Type 0) → (RuleDef → Option Caught) → Option ChosenRule → Type 0
Within P caught o = (x : ChosenRule) → o ≡ Some x → P x.0 × (caught x.0 ≡ Some x.1)

either_within : (P : RuleDef → Type 0) (caught : RuleDef → Option Caught) (b : Bool) (x y : ChosenRule) →
    Within P caught (Some x) → Within P caught (Some y) → Within P caught (if b then Some y else Some x)
either_within P caught true x y h k = k
either_within P caught false x y h k = h

-- the only value of a `Some`
only : (P : RuleDef → Type 0) (caught : RuleDef → Option Caught) (r : RuleDef) (c : Caught) → P r → caught r ≡ Some c → Within P caught (Some (r, c))
unfolding Within
only P caught r c h e x f = subst (λ (x : ChosenRule). P x.0 × (caught x.0 ≡ Some x.1)) (same_Some {A = ChosenRule} (r, c) x f) (h, e)

with_within : (names : SourceNames) (P : RuleDef → Type 0) (caught : RuleDef → Option Caught) (r : RuleDef) (c : Option Caught) (others : Option ChosenRule) →
    P r → caught r ≡ c → Within P caught others → Within P caught (best_rule_with names r c others)
with_within names P caught r None others h e k = k
with_within names P caught r (Some c) None h e k = only P caught r c h e
with_within names P caught r (Some c) (Some other) h e k = either_within P caught (goes_before (src_rule names other.0) (src_rule names r)) (r, c) other (only P caught r c h e) k

best_rule-within : (names : SourceNames) (P : RuleDef → Type 0) (caught : RuleDef → Option Caught) (rs : List RuleDef) →
    AllByRecursion P rs → Within P caught (best_rule names caught rs)
unfolding Within
best_rule-within names P caught [] h = λ x e. absurd (none-some x e)
best_rule-within names P caught (r ∷ rs) h = with_within names P caught r (caught r) (best_rule names caught rs) h.0 refl (best_rule-within names P caught rs h.1)

-- the order of records is a strict weak order, and for rules with different lines it is the order of the rules
pub records_order : IsStrictWeakOrder precedes
records_order =
    ranks_by (then_total (then_total (back_total (on_total (λ (x : Rule). length x.context) nat_cmp_total)) (on_total (λ (x : Rule). x.line) nat_cmp_total)) (on_total (λ (x : Rule). x.place) nat_cmp_total)) (λ x. x)

lines_decide : (la lb line_a line_b place_a place_b : ℕ) → nat_eq line_a line_b ≡ false →
    is_lt (ordering_then (ordering_then (nat_cmp lb la) (nat_cmp line_a line_b)) (nat_cmp place_a place_b)) ≡ (nat_lt lb la || (nat_eq la lb && nat_lt line_a line_b))
lines_decide la lb line_a line_b place_a place_b apart = grind (arith, nat_tests)

lines_part : (la lb line_a line_b place_a place_b : ℕ) → nat_eq line_a line_b ≡ false →
    is_lt (ordering_then (ordering_then (nat_cmp lb la) (nat_cmp line_a line_b)) (nat_cmp place_a place_b)) ≡ false →
    is_lt (ordering_then (ordering_then (nat_cmp la lb) (nat_cmp line_b line_a)) (nat_cmp place_b place_a)) ≡ true
lines_part la lb line_a line_b place_a place_b apart after = grind (arith, nat_tests)

order-kept : (numbers : Numbers) (press : KeyPress) (names : SourceNames) (a b : ChosenRule) → nat_eq a.0.line b.0.line ≡ false →
    precedes (chosen_record numbers press a) (chosen_record numbers press b) ≡ goes_before (src_rule names a.0) (src_rule names b.0)
order-kept numbers press names a b apart =
    lines_decide (length (map (file_pattern numbers) a.0.context)) (length (map (file_pattern numbers) b.0.context)) a.0.line b.0.line (chosen_record numbers press a).place (chosen_record numbers press b).place apart
    ∙ (λ i. nat_lt (lengths b i) (lengths a i) || (nat_eq (lengths a i) (lengths b i) && nat_lt a.0.line b.0.line))
  where
    lengths : (x : ChosenRule) → length (map (file_pattern numbers) x.0.context) ≡ length (map (src_pattern names) x.0.context)
    lengths x = length-map x.0.context (file_pattern numbers) ∙ sym (length-map x.0.context (src_pattern names))

either_record : (numbers : Numbers) (press : KeyPress) (b : Bool) (x y : ChosenRule) →
    (if b then Some (chosen_record numbers press y) else Some (chosen_record numbers press x)) ≡ option_map (chosen_record numbers press) (if b then Some y else Some x)
either_record numbers press true x y = refl
either_record numbers press false x y = refl

-- the earlier of two records is the record of the better rule
prefer-kept : (numbers : Numbers) (press : KeyPress) (names : SourceNames) (r : RuleDef) (c : Option Caught) (others : Option ChosenRule) →
    ((x : ChosenRule) → others ≡ Some x → nat_eq x.0.line r.line ≡ false) →
    prefer precedes (option_map (caught_record numbers press r) c) (option_map (chosen_record numbers press) others) ≡ option_map (chosen_record numbers press) (best_rule_with names r c others)
prefer-kept numbers press names r None others apart = refl
prefer-kept numbers press names r (Some c) None apart = refl
prefer-kept numbers press names r (Some c) (Some other) apart =
    (λ i. if order-kept numbers press names other (r, c) (apart other refl) i then Some (chosen_record numbers press other) else Some (caught_record numbers press r c))
    ∙ either_record numbers press (goes_before (src_rule names other.0) (src_rule names r)) (r, c) other

records-apart : (numbers : Numbers) (press : KeyPress) (r : RuleDef) (c : Option Caught) (others : Option ChosenRule) →
    ((x : ChosenRule) → others ≡ Some x → nat_eq x.0.line r.line ≡ false) →
    (x y : Rule) → option_map (caught_record numbers press r) c ≡ Some x → option_map (chosen_record numbers press) others ≡ Some y →
    precedes y x ≡ false → precedes x y ≡ true
records-apart numbers press r None others apart x y e f after = absurd (none-some x e)
records-apart numbers press r (Some c) None apart x y e f after = absurd (none-some y f)
records-apart numbers press r (Some c) (Some other) apart x y e f after =
    let at_x = same_Some (caught_record numbers press r c) x e in
    let at_y = same_Some (chosen_record numbers press other) y f in
    (λ i. precedes (sym at_x i) (sym at_y i))
    ∙ lines_part (length (map (file_pattern numbers) other.0.context)) (length (map (file_pattern numbers) r.context)) other.0.line r.line (chosen_record numbers press other).place (caught_record numbers press r c).place
    (apart other refl) ((λ i. precedes (at_y i) (at_x i)) ∙ after)

-- if a rule has its own line, no other rule is in this line
other_lines : (r : RuleDef) (rs : List RuleDef) → list_any (λ (other : RuleDef). nat_eq other.line r.line) rs ≡ false → AllByRecursion (λ (other : RuleDef). nat_eq other.line r.line ≡ false) rs
other_lines r [] h = tt
other_lines r (other ∷ rs) h =
    let each = or_parts (nat_eq other.line r.line) (list_any (λ (other : RuleDef). nat_eq other.line r.line) rs) h in
    (each.0, other_lines r rs each.1)

-- what `first` finds
found_with : (f : Rule → RuleMeaning) (caught : RuleMeaning → Option Caught) (x : Rule) (c : Option Caught) (rest : Option Chosen) (found : Option Rule) →
    caught (f x) ≡ c → rest ≡ option_and_then (λ x. option_map (λ c. (f x, c)) (caught (f x))) found →
    first_with (f x) c rest ≡ option_and_then (λ x. option_map (λ c. (f x, c)) (caught (f x))) (cond (is_some c) (Some x) found)
found_with f caught x None rest found e h = h
found_with f caught x (Some c) rest found e h = λ i. option_map (λ c. (f x, c)) (sym e i)

pub first-found : (f : Rule → RuleMeaning) (caught : RuleMeaning → Option Caught) (xs : List Rule) →
    first caught (map f xs) ≡ option_and_then (λ x. option_map (λ c. (f x, c)) (caught (f x))) (find (λ x. is_some (caught (f x))) xs)
first-found f caught [] = refl
first-found f caught (x ∷ xs) =
    found_with f caught x (caught (f x)) (first caught (map f xs)) (find (λ x. is_some (caught (f x))) xs) refl (first-found f caught xs)

-- what a record that passes catches, if its rule catches this
lost-caught : (k : Option (List Catch)) (place : Option (Option ℕ)) (b : Bool) (c : Caught) →
    caught_by k place ≡ Some c → is_some (caught_by k (one_place b)) ≡ true → caught_by k (one_place b) ≡ Some (lost c)
lost-caught None place b c e h = absurd (none-some c e)
lost-caught (Some catches) None b c e h = absurd (none-some c e)
lost-caught (Some catches) (Some place) true c e h = ap (option_map lost) e
lost-caught (Some catches) (Some place) false c e h = absurd (false≢true h)

caught-catches : (k : Option (List Catch)) (place : Option (Option ℕ)) (c : Caught) → caught_by k place ≡ Some c → k ≡ Some c.catches
caught-catches None place c e = absurd (none-some c e)
caught-catches (Some catches) None c e = absurd (none-some c e)
caught-catches (Some catches) (Some place) c e = ap (option_map (λ (c : Caught). c.catches)) e

-- one group in a state
module _ (p : Program) (t : Tables) (l : Linked p t) (values : List (List Element)) (left : List Item) (press : KeyPress) (using_keys : Bool) where
  abbrev pub best_now : List RuleDef → Option ChosenRule
  best_now rs = best_rule (names_of p) (rule_caught p t l values left press using_keys) rs

  best_first : (rs : List RuleDef) → AllByRecursion (KnownRule p using_keys) rs → have_own_lines rs ≡ true →
      FirstIfAny precedes (passes p t l values left press using_keys) (flat_map (rule_records (numbers_of p)) rs) (option_map (chosen_record (numbers_of p) press) (best_now rs))
  unfolding Within
  best_first [] known lines = All-nil (λ y. passes p t l values left press using_keys y ≡ false)
  best_first (r ∷ rs) known lines =
      let each = and_parts (not (list_any (λ (other : RuleDef). nat_eq other.line r.line) rs)) (have_own_lines rs) lines in
      let caught = rule_caught p t l values left press using_keys in
      let apart : (x : ChosenRule) → best_now rs ≡ Some x → nat_eq x.0.line r.line ≡ false =
      λ x e. (best_rule-within (names_of p) (λ (other : RuleDef). nat_eq other.line r.line ≡ false) caught rs (other_lines r rs (not-true _ each.0)) x e).0 in
      subst (FirstIfAny precedes (passes p t l values left press using_keys) (flat_map (rule_records (numbers_of p)) (r ∷ rs)))
      (prefer-kept (numbers_of p) press (names_of p) r (caught r) (best_now rs) apart)
      (FirstIfAny-append precedes (passes p t l values left press using_keys) (less_trans precedes records_order)
      (rule_records (numbers_of p) r) (flat_map (rule_records (numbers_of p)) rs)
      (option_map (caught_record (numbers_of p) press r) (caught r)) (option_map (chosen_record (numbers_of p) press) (best_now rs))
      (rule_first p t l values left press using_keys r known.0) (best_first rs known.1 each.1)
      (records-apart (numbers_of p) press r (caught r) (best_now rs) apart))

  -- what is known of the best rule
  pub record BestKnown (x : ChosenRule) : Type 0 where
    pub known : KnownRule p using_keys x.0
    pub caught : rule_caught p t l values left press using_keys x.0 ≡ Some x.1
    pub count : length x.1.catches ≡ length x.0.context

  pub best_known : (rs : List RuleDef) → AllByRecursion (KnownRule p using_keys) rs → (x : ChosenRule) → best_now rs ≡ Some x → BestKnown x
  unfolding Within
  best_known rs known x e =
      let h = best_rule-within (names_of p) (KnownRule p using_keys) (rule_caught p t l values left press using_keys) rs known x e in
      record {
        known = h.0;
        caught = h.1;
        count =
            context_caught-count (content (src p).stores values) left (map (src_pattern (names_of p)) x.0.context) x.1.catches
            (caught-catches (context_of p t l values left press using_keys x.0) (fitting_place_with (cased_keys p) (content (src p).stores values) press (src_key (names_of p) x.0.key)) x.1
            (sym (rule-parts p t l values left press using_keys x.0) ∙ h.1))
            ∙ length-map x.0.context (src_pattern (names_of p));
      }

  -- the record of the best rule catches what the rule does, except the position of its key
  record_catches : (x : ChosenRule) → BestKnown x → passes p t l values left press using_keys (chosen_record (numbers_of p) press x) ≡ true →
      record_caught p t l values left press using_keys (chosen_record (numbers_of p) press x) ≡ Some (lost x.1)
  record_catches x h passed =
      let k = context_of p t l values left press using_keys x.0 in
      let wanted = chosen_key (numbers_of p) x.0.key x.1.key_place in
      let now = key_now (cased_keys p) press wanted in
      let fits = key_fits (if using_keys then now else key.Any) press in
      let parts = record-parts p t l values left press using_keys x.0 h.known x.1.key_place (half_now (cased_keys p) press wanted) now in
      parts
      ∙ lost-caught k (fitting_place_with (cased_keys p) (content (src p).stores values) press (src_key (names_of p) x.0.key)) fits x.1
      (sym (rule-parts p t l values left press using_keys x.0) ∙ h.caught)
      (ap is_some (sym parts) ∙ passed)

  -- the meaning of a selected record, with what it catches
  abbrev pub tab_chosen : ChosenRule → Chosen
  tab_chosen x = (tab_rule t.stores using_keys (chosen_record (numbers_of p) press x), lost x.1)

  found_chosen : (o : Option ChosenRule) (xs : List Rule) → ((x : ChosenRule) → o ≡ Some x → BestKnown x) →
      FirstIfAny precedes (passes p t l values left press using_keys) xs (option_map (chosen_record (numbers_of p) press) o) →
      option_and_then (λ x. option_map (λ c. (tab_rule t.stores using_keys x, c)) (record_caught p t l values left press using_keys x)) (option_map (chosen_record (numbers_of p) press) o)
      ≡ option_map tab_chosen o
  found_chosen None xs known h = refl
  found_chosen (Some x) xs known h =
      ap (option_map (λ c. (tab_rule t.stores using_keys (chosen_record (numbers_of p) press x), c))) (record_catches x (known x refl) h.passes)

  -- the first record of a sorted table that holds is the record of the best rule
  pub choice-kept : (rs : List RuleDef) → AllByRecursion (KnownRule p using_keys) rs → have_own_lines rs ≡ true →
      (table : List Rule) → IsPermutation (flat_map (rule_records (numbers_of p)) rs) table → IsSortedBy precedes table →
      first (holds (content (tab t).stores values) left press) (map (tab_rule t.stores using_keys) table) ≡ option_map tab_chosen (best_now rs)
  choice-kept rs known lines table same sorted =
      let h = FirstIfAny-permutation precedes (passes p t l values left press using_keys) (flat_map (rule_records (numbers_of p)) rs) table same
      (option_map (chosen_record (numbers_of p) press) (best_now rs)) (best_first rs known lines) in
      first-found (tab_rule t.stores using_keys) (holds (content (tab t).stores values) left press) table
      ∙ (ap (option_and_then (λ x. option_map (λ c. (tab_rule t.stores using_keys x, c)) (record_caught p t l values left press using_keys x)))
      (found_first precedes (passes p t l values left press using_keys) table (rising precedes records_order table sorted) (option_map (chosen_record (numbers_of p) press) (best_now rs)) h)
      ∙ found_chosen (best_now rs) table (best_known rs known) h)
