-- The first refusal for limits is the first among all, if the statements are in the order of their lines.
use Rattle.std.proofs.Common.{◌≡◌, ℕ, suc, ◌+◌, ◌≤◌, Bool, true, false, cond, List, [], ◌∷◌, ◌++◌, length, map, take, drop, Option, Some, None, refl, sym, ap, ◌∙◌, arith, subst}
use Rattle.std.specs.Prelude.{nat_lt, not, ◌&&◌, ◌||◌, flat_map, sum, unwrap_or}
use Rattle.std.specs.List.{list_any, prefix_len}
use Rattle.std.specs.Str.{bytes_eq}
use Rattle.std.proofs.lemmas.Option.{none-some}
use Rattle.std.proofs.lemmas.List.{map-append}
use Rattle.std.proofs.lemmas.Bool.Decides.{nat_tests}
use Rattle.std.proofs.lemmas.List.Folds.{list_any-append}
use Rattle.kmn_base.specs.Rising.{AllAbove, Rises}
use Rattle.kmn_base.specs.declared.codes.Code.{Code}
use Rattle.kmn_base.specs.declared.codes.Code.TheVariants.{C16, C17, C18, C19, C20, C21, C22}
use Rattle.kmn_base.specs.declared.limits.TheConstants.{STORE_ELEMENTS, ALL_ELEMENTS}
use Rattle.kmn_base.specs.Names.{same_name}
use Rattle.kmn_base.specs.declared.refusals.Refusal.{Refusal}
use Rattle.rule_model.specs.declared.program.StoreDef.{StoreDef}
use Rattle.rule_model.specs.declared.program.RuleDef.{RuleDef}
use Rattle.rule_model.specs.declared.program.GroupDef.{GroupDef}
use Rattle.rule_model.specs.declared.program.Program.{Program}
use Rattle.rule_model.specs.Naming.{all_rules, key_names}
use Rattle.rule_model.specs.Tab.{distinct_onto}
use Rattle.kmn_parser.specs.SourceLaws.{IsInOrder, store_lines, group_lines, lines_of_rules, rule_lines}
use Rattle.store_table.specs.First.{broken, at_line, earlier, first_of, all_of, first_among}
use Rattle.store_table.specs.Known.{Known, known}
use Rattle.store_table.proofs.FirstAmong.{first_is_least, first_of_both}
use Rattle.rule_checker.specs.declared.totals.Passed.{Passed}
use Rattle.rule_checker.specs.Limits.{Statement, OfStore, OfRule, in_line_order, line_of, items_of, values_of_statement, statement_size, dictionary_size, sizes, is_long_context, is_long_output, have_many_elements, are_many_stores, have_many_marks, have_many_records, are_many_groups, limit_code, statement_refusal, group_refusal, limits_refusal}
use Rattle.rule_checker.specs.AllLimits.{passed, is_large_store, listed_code, listed_refusal, listed_group_refusal, limits_refusals}
use Rattle.rule_checker.proofs.Unrefused.{none_broken}
use Rattle.rule_checker.proofs.FirstPassed.{flat_push}

-- numbers that don't fall
abbrev AllFrom : ℕ → List ℕ → Type 0
AllFrom low [] = Unit {0}
AllFrom low (n ∷ ns) = (low ≤ n) × AllFrom low ns

abbrev Climbs : List ℕ → Type 0
Climbs [] = Unit {0}
Climbs (n ∷ ns) = AllFrom n ns × Climbs ns

from_above : (low : ℕ) (ns : List ℕ) → AllAbove low ns → AllFrom low ns
from_above low [] h = tt
from_above low (n ∷ ns) (here, rest) = (omega (arith, here), from_above low ns rest)

from_lower : (low high : ℕ) (ns : List ℕ) → low ≤ high → AllFrom high ns → AllFrom low ns
from_lower low high [] less h = tt
from_lower low high (n ∷ ns) less (here, rest) = (omega (arith, less, here), from_lower low high ns less rest)

climbs_rising : (ns : List ℕ) → Rises ns → Climbs ns
climbs_rising [] h = tt
climbs_rising (n ∷ ns) (above, rises) = (from_above n ns above, climbs_rising ns rises)

-- the refusal at a line, or at a later one
refused_from : (low line : ℕ) (code : Option Code) (rest : Option Refusal) → low ≤ line → ((r : Refusal) → rest ≡ Some r → low ≤ r.line)
    → (r : Refusal) → earlier (at_line line code) rest ≡ Some r → low ≤ r.line
refused_from low line None rest here later r is = later r is
refused_from low line (Some code) None here later r is = let same : line ≡ r.line = ap (λ o. (unwrap_or o r).line) is in omega (arith, here, same)
refused_from low line (Some code) (Some other) here later r is = by (nat_lt other.line line) is
  where
    by : (t : Bool) → cond t (Some other) (Some (record { line = line; code = code })) ≡ Some r → low ≤ r.line
    by true e = later r e
    by false e = let same : line ≡ r.line = ap (λ o. (unwrap_or o r).line) e in omega (arith, here, same)

not_less : (n m : ℕ) → m ≤ n → nat_lt n m ≡ false
not_less n m h = grind (arith, nat_tests)

-- a refusal is the first before others that aren't earlier
stays_first : (found : Refusal) (rest : Option Refusal) → ((r : Refusal) → rest ≡ Some r → found.line ≤ r.line) → earlier (Some found) rest ≡ Some found
stays_first found None later = refl
stays_first found (Some r) later = ap (λ t. cond t (Some r) (Some found)) (not_less r.line found.line (later r refl))

module _ {X : Type 0} (line : X → ℕ) where
  first_from : (code : List X → X → Option Code) (low : ℕ) (before xs : List X) → AllFrom low (map line xs)
      → (r : Refusal) → first_of (λ b x. at_line (line x) (code b x)) before xs ≡ Some r → low ≤ r.line
  first_from code low before [] h r is = elim (none-some r is) [ ]
  first_from code low before (x ∷ xs) (here, rest) r is =
      refused_from low (line x) (code before x) (first_of (λ b y. at_line (line y) (code b y)) (before ++ x ∷ []) xs) here
      (first_from code low (before ++ x ∷ []) xs rest) r is

  -- two codes that are the same while nothing is refused have the same first refusal
  first_same : (f g : List X → X → Option Code) (P : List X → Type 0) → ((before : List X) (x : X) → P before → g before x ≡ f before x)
      → ((before : List X) (x : X) → P before → f before x ≡ None → P (before ++ x ∷ [])) → (before xs : List X) → P before → Climbs (map line xs)
      → first_of (λ b x. at_line (line x) (f b x)) before xs ≡ first_of (λ b x. at_line (line x) (g b x)) before xs
  first_same f g P same step before [] start climbs = refl
  first_same f g P same step before (x ∷ xs) start (from, climbs) =
      by (f before x) refl (λ none. first_same f g P same step (before ++ x ∷ []) xs (step before x start none) climbs)
      ∙ ap (λ code. earlier (at_line (line x) code) (first_of (λ b y. at_line (line y) (g b y)) (before ++ x ∷ []) xs)) (sym (same before x start))
    where
      by : (code : Option Code) → f before x ≡ code
          → (f before x ≡ None → first_of (λ b y. at_line (line y) (f b y)) (before ++ x ∷ []) xs ≡ first_of (λ b y. at_line (line y) (g b y)) (before ++ x ∷ []) xs)
          → earlier (at_line (line x) code) (first_of (λ b y. at_line (line y) (f b y)) (before ++ x ∷ []) xs)
          ≡ earlier (at_line (line x) code) (first_of (λ b y. at_line (line y) (g b y)) (before ++ x ∷ []) xs)
      by None is again = again is
      by (Some code) is again =
          stays_first (record { line = line x; code = code }) (first_of (λ b y. at_line (line y) (f b y)) (before ++ x ∷ []) xs) (first_from f (line x) (before ++ x ∷ []) xs from)
          ∙ sym (stays_first (record { line = line x; code = code }) (first_of (λ b y. at_line (line y) (g b y)) (before ++ x ∷ []) xs) (first_from g (line x) (before ++ x ∷ []) xs from))

-- the next statement in the order of lines is the first store or the first rule
next_is : (store : StoreDef) (stores : List StoreDef) (rule : RuleDef) (rules : List RuleDef) (P : List Statement → Type 0)
    → (nat_lt store.line rule.line ≡ true → P (OfStore store ∷ in_line_order stores (rule ∷ rules)))
    → (nat_lt store.line rule.line ≡ false → P (OfRule rule ∷ in_line_order (store ∷ stores) rules)) → P (in_line_order (store ∷ stores) (rule ∷ rules))
next_is store stores rule rules P before after = by (prefix_len (λ (s : StoreDef). nat_lt s.line rule.line) stores) before (nat_lt store.line rule.line) refl
  where
    by : (count : ℕ) → (nat_lt store.line rule.line ≡ true → P (OfStore store ∷ (map OfStore (take count stores) ++ (OfRule rule ∷ in_line_order (drop count stores) rules))))
        → (t : Bool) → nat_lt store.line rule.line ≡ t
        → P (map OfStore (take (cond t (1 + count) 0) (store ∷ stores)) ++ (OfRule rule ∷ in_line_order (drop (cond t (1 + count) 0) (store ∷ stores)) rules))
    by count first true is =
        subst (λ n. P (map OfStore (take n (store ∷ stores)) ++ (OfRule rule ∷ in_line_order (drop n (store ∷ stores)) rules))) {x = suc count} {y = 1 + count} (omega arith) (first is)
    by count first false is = after is

stores_from : (low : ℕ) (stores : List StoreDef) → AllFrom low (store_lines stores) → AllFrom low (map line_of (map OfStore stores))
stores_from low [] h = tt
stores_from low (store ∷ stores) (here, rest) = (here, stores_from low stores rest)

stores_climb : (stores : List StoreDef) → Rises (store_lines stores) → Climbs (map line_of (map OfStore stores))
stores_climb [] h = tt
stores_climb (store ∷ stores) (above, rises) = (stores_from store.line stores (from_above store.line (store_lines stores) above), stores_climb stores rises)

statements_from : (low : ℕ) (rules : List RuleDef) (stores : List StoreDef) → AllFrom low (lines_of_rules rules) → AllFrom low (store_lines stores)
    → AllFrom low (map line_of (in_line_order stores rules))
statements_from low [] stores none from = stores_from low stores from
statements_from low (rule ∷ rules) stores (here, rest) from = next stores from (λ (ss : List StoreDef) (f : AllFrom low (store_lines ss)). statements_from low rules ss rest f)
  where
    next : (ss : List StoreDef) → AllFrom low (store_lines ss) → ((more : List StoreDef) → AllFrom low (store_lines more) → AllFrom low (map line_of (in_line_order more rules)))
        → AllFrom low (map line_of (in_line_order ss (rule ∷ rules)))
    next [] f again = (here, again [] tt)
    next (s ∷ ss) f again =
        next_is s ss rule rules (λ statements. AllFrom low (map line_of statements)) (λ less. (f.0, next ss f.1 again)) (λ not_before. (here, again (s ∷ ss) f))

less_is : (n m : ℕ) → nat_lt n m ≡ true → n ≤ m
less_is n m h = grind (arith, nat_tests, h)

not_less_is : (n m : ℕ) → nat_lt n m ≡ false → m ≤ n
not_less_is n m h = grind (arith, nat_tests, h)

statements_climb : (rules : List RuleDef) (stores : List StoreDef) → Rises (lines_of_rules rules) → Rises (store_lines stores) → Climbs (map line_of (in_line_order stores rules))
statements_climb [] stores none rises = stores_climb stores rises
statements_climb (rule ∷ rules) stores (above, rest) rises = next stores rises (λ (ss : List StoreDef) (r : Rises (store_lines ss)). statements_climb rules ss rest r)
  where
    next : (ss : List StoreDef) → Rises (store_lines ss) → ((more : List StoreDef) → Rises (store_lines more) → Climbs (map line_of (in_line_order more rules)))
        → Climbs (map line_of (in_line_order ss (rule ∷ rules)))
    next [] r again = (statements_from rule.line rules [] (from_above rule.line (lines_of_rules rules) above) tt, again [] tt)
    next (s ∷ ss) r again =
        next_is s ss rule rules (λ statements. Climbs (map line_of statements))
        (λ less. (
          statements_from s.line (rule ∷ rules) ss
              (less_is s.line rule.line less, from_lower s.line rule.line (lines_of_rules rules) (less_is s.line rule.line less) (from_above rule.line (lines_of_rules rules) above))
              (from_above s.line (store_lines ss) r.0),
          next ss r.1 again,
        ))
        (λ not_before. (
          statements_from rule.line rules (s ∷ ss) (from_above rule.line (lines_of_rules rules) above)
              (not_less_is s.line rule.line not_before, from_lower rule.line s.line (store_lines ss) (not_less_is s.line rule.line not_before) (from_above s.line (store_lines ss) r.0)),
          again (s ∷ ss) r,
        ))

abbrev nothing_passed : Passed
nothing_passed = record { elements = false; stores = false; marks = false; records = false }

-- a large store is among all
large_counts : (b l r a : Bool) → (l || ((((b || l) || r) || a) && true)) ≡ (((b || l) || r) || a)
large_counts true true r a = refl
large_counts false true r a = refl
large_counts true false r a = refl
large_counts false false true a = refl
large_counts false false false true = refl
large_counts false false false false = refl

and_true : (b : Bool) → (b && true) ≡ b
and_true true = refl
and_true false = refl

-- the sizes of stores that no store statement adds
abbrev others : List Statement → List ℕ
others statements =
    dictionary_size (distinct_onto same_name [] (flat_map key_names (flat_map items_of statements)))
    ++ map length (distinct_onto bytes_eq [] (flat_map values_of_statement statements))

module _ (facts : Known) where
  elements_are : (before : List Statement) (s : Statement)
      → (is_large_store facts s || (have_many_elements (sizes facts (before ++ s ∷ [])) && true)) ≡ have_many_elements (sizes facts (before ++ s ∷ []))
  elements_are before s =
      ap (λ many. is_large_store facts s || ((many || nat_lt ALL_ELEMENTS (sum (sizes facts (before ++ s ∷ [])))) && true)) any_is
      ∙ large_counts (list_any (nat_lt STORE_ELEMENTS) (flat_map (statement_size facts) before)) (is_large_store facts s) (list_any (nat_lt STORE_ELEMENTS) (others (before ++ s ∷ []))) (nat_lt ALL_ELEMENTS (sum (sizes facts (before ++ s ∷ []))))
      ∙ sym (ap (λ many. many || nat_lt ALL_ELEMENTS (sum (sizes facts (before ++ s ∷ [])))) any_is)
    where
      any_is : list_any (nat_lt STORE_ELEMENTS) (sizes facts (before ++ s ∷ []))
          ≡ ((list_any (nat_lt STORE_ELEMENTS) (flat_map (statement_size facts) before) || is_large_store facts s) || list_any (nat_lt STORE_ELEMENTS) (others (before ++ s ∷ [])))
      any_is =
          list_any-append (nat_lt STORE_ELEMENTS) (flat_map (statement_size facts) (before ++ s ∷ [])) (others (before ++ s ∷ []))
          ∙ ap (λ many. many || list_any (nat_lt STORE_ELEMENTS) (others (before ++ s ∷ [])))
          (ap (list_any (nat_lt STORE_ELEMENTS)) (flat_push (statement_size facts) before s) ∙ list_any-append (nat_lt STORE_ELEMENTS) (flat_map (statement_size facts) before) (statement_size facts s))

  abbrev all_code : List Statement → Statement → Option Code
  all_code before s =
      listed_code true (passed facts before) (passed facts (before ++ s ∷ [])) (is_long_context s) (is_long_output facts s) (is_large_store facts s)

  code_same : (before : List Statement) (s : Statement) → passed facts before ≡ nothing_passed → all_code before s ≡ limit_code facts (before ++ s ∷ []) s
  code_same before s none =
      ap (λ (was : Passed). listed_code true was (passed facts (before ++ s ∷ [])) (is_long_context s) (is_long_output facts s) (is_large_store facts s)) none
      ∙ (λ j. broken ((C16, is_long_context s) ∷ (C17, is_long_output facts s) ∷ (C18, elements_are before s j) ∷ (C19, and_true (are_many_stores (sizes facts (before ++ s ∷ []))) j)
      ∷ (C21, and_true (have_many_marks (before ++ s ∷ [])) j) ∷ (C22, and_true (have_many_records facts (before ++ s ∷ [])) j) ∷ []))

  still_none : (before : List Statement) (s : Statement) → limit_code facts (before ++ s ∷ []) s ≡ None → passed facts (before ++ s ∷ []) ≡ nothing_passed
  still_none before s h =
      let through = before ++ s ∷ [] in
      let r22 = (C22, have_many_records facts through) ∷ [] in
      let r21 = (C21, have_many_marks through) ∷ r22 in
      let r19 = (C19, are_many_stores (sizes facts through)) ∷ r21 in
      let r18 = (C18, have_many_elements (sizes facts through)) ∷ r19 in
      let r17 = (C17, is_long_output facts s) ∷ r18 in
      let a = none_broken C16 (is_long_context s) r17 h in
      let b = none_broken C17 (is_long_output facts s) r18 a.1 in
      let c = none_broken C18 (have_many_elements (sizes facts through)) r19 b.1 in
      let d = none_broken C19 (are_many_stores (sizes facts through)) r21 c.1 in
      let e = none_broken C21 (have_many_marks through) r22 d.1 in
      let f = none_broken C22 (have_many_records facts through) [] e.1 in
      λ j. record { elements = c.0 j; stores = d.0 j; marks = e.0 j; records = f.0 j }

  statements_same : (statements : List Statement) → Climbs (map line_of statements) → first_of (statement_refusal facts) [] statements ≡ first_of (listed_refusal true facts) [] statements
  statements_same statements climbs =
      first_same line_of (λ before s. limit_code facts (before ++ s ∷ []) s) all_code (λ before. passed facts before ≡ nothing_passed) code_same (λ before s start. still_none before s) [] statements refl climbs

abbrev group_code : List GroupDef → GroupDef → Option Code
group_code before group = broken ((C20, are_many_groups (before ++ group ∷ [])) ∷ [])

abbrev listed_group_code : List GroupDef → GroupDef → Option Code
listed_group_code before group = broken ((C20, are_many_groups (before ++ group ∷ []) && not (are_many_groups before)) ∷ [])

groups_same : (groups : List GroupDef) → Climbs (group_lines groups) → first_of group_refusal [] groups ≡ first_of listed_group_refusal [] groups
groups_same groups climbs =
    first_same (λ (group : GroupDef). group.line) group_code listed_group_code (λ before. are_many_groups before ≡ false)
    (λ before group none. ap (λ t. broken ((C20, are_many_groups (before ++ group ∷ []) && not t) ∷ [])) none ∙ ap (λ t. broken ((C20, t) ∷ [])) (and_true (are_many_groups (before ++ group ∷ []))))
    (λ before group start none. (none_broken C20 (are_many_groups (before ++ group ∷ [])) [] none).0) [] groups refl climbs

rules_rise : (groups : List GroupDef) → rule_lines groups ≡ lines_of_rules (flat_map (λ (group : GroupDef). group.rules) groups)
rules_rise [] = refl
rules_rise (group ∷ groups) =
    ap (λ lines. lines_of_rules group.rules ++ lines) (rules_rise groups)
    ∙ sym (map-append (λ (rule : RuleDef). rule.line) group.rules (flat_map (λ (g : GroupDef). g.rules) groups))

-- the first refusal for limits is the first among all
pub limits_least : (program : Program) → IsInOrder program → limits_refusal program ≡ first_among (limits_refusals true program)
unfolding limits_refusal limits_refusals
limits_least program order =
    first_of_both _ _ (all_of (listed_refusal true (known program)) [] (in_line_order program.stores (all_rules program))) (all_of listed_group_refusal [] program.groups)
    (statements_same (known program) (in_line_order program.stores (all_rules program)) (statements_climb (all_rules program) program.stores (subst Rises (rules_rise program.groups) order.rules) order.stores)
    ∙ first_is_least (listed_refusal true (known program)) [] (in_line_order program.stores (all_rules program)))
    (groups_same program.groups (climbs_rising (group_lines program.groups) order.groups) ∙ first_is_least listed_group_refusal [] program.groups)

pub first_limit : (shared : Bool) (program : Program) (refusals : List Refusal) → refusals ≡ limits_refusals shared program
    → shared ≡ true → IsInOrder program → limits_refusal program ≡ first_among refusals
first_limit shared program refusals all checked order =
    limits_least program order ∙ ap first_among (sym (all ∙ ap (λ t. limits_refusals t program) checked))
