-- How often a line is among the lines of refusals, and among those of the statements that are refused.
use Rattle.std.proofs.Common.{◌≡◌, ℕ, ◌+◌, ◌==◌, ◌<◌, ◌≤◌, ◌⊎◌, inl, inr, Bool, true, false, cond, List, [], ◌∷◌, ◌++◌, map, take, drop, Option, Some, None, refl, sym, ap, ◌∙◌, if◌then◌else◌, arith}
use Rattle.std.specs.Prelude.{nat_eq, nat_lt, not, ◌&&◌, ◌||◌, filter, flat_map, is_some, option_to_list}
use Rattle.std.specs.List.{prefix_len}
use Rattle.std.proofs.lemmas.Bool.{or_parts}
use Rattle.std.proofs.lemmas.Bool.Decides.{nat_tests}
use Rattle.std.proofs.lemmas.List.{map-append, take-append-drop}
use Rattle.kmn_base.specs.Rising.{times}
use Rattle.kmn_base.specs.declared.codes.Code.{Code}
use Rattle.kmn_base.specs.declared.codes.Code.TheVariants.{C20}
use Rattle.kmn_base.specs.declared.refusals.Refusal.{Refusal}
use Rattle.rule_model.specs.declared.program.StoreDef.{StoreDef}
use Rattle.rule_model.specs.declared.program.RuleDef.{RuleDef}
use Rattle.rule_model.specs.declared.program.GroupDef.{GroupDef}
use Rattle.rule_model.specs.declared.program.Program.{Program}
use Rattle.rule_model.specs.Naming.{all_rules}
use Rattle.kmn_parser.specs.SourceLaws.{store_lines, group_lines, lines_of_rules, rule_lines}
use Rattle.store_table.specs.First.{broken, at_line, all_of}
use Rattle.store_table.specs.Known.{Known, known}
use Rattle.item_checker.specs.Items.{store_code, rule_code, rules_refusals, items_refusals}
use Rattle.rule_checker.specs.Limits.{OfStore, OfRule, in_line_order, line_of, is_long_context, is_long_output, are_many_groups}
use Rattle.rule_checker.specs.AllLimits.{passed, listed_code, listed_refusal, listed_group_refusal, is_large_store, limits_refusals}
use Rattle.source_faults.specs.Stubs.{code_at, is_refused}
use Rattle.source_faults.specs.Faults.{inserted, in_lines, further}
use Rattle.fault_laws.specs.Laws.{lines_of}

-- the number of refusals at a line
abbrev pub count_at : ℕ → List Refusal → ℕ
count_at line refusals = times line (lines_of refusals)

pub times-append : (n : ℕ) (xs ys : List ℕ) → times n (xs ++ ys) ≡ times n xs + times n ys
times-append n [] ys = omega arith
times-append n (x ∷ xs) ys = let rest = times-append n xs ys in omega (arith, rest)

pub count-append : (line : ℕ) (xs ys : List Refusal) → count_at line (xs ++ ys) ≡ count_at line xs + count_at line ys
count-append line [] ys = omega arith
count-append line (x ∷ xs) ys = let rest = count-append line xs ys in omega (arith, rest)

-- fewer refusals, and the same in another order
pub count-filter : (line : ℕ) (test : Refusal → Bool) (xs : List Refusal) → count_at line (filter test xs) ≤ count_at line xs
count-filter line test [] = omega arith
count-filter line test (x ∷ xs) = by (test x) (count-filter line test xs)
  where
    by : (t : Bool) → count_at line (filter test xs) ≤ count_at line xs → count_at line (cond t (x ∷ filter test xs) (filter test xs)) ≤ count_at line (x ∷ xs)
    by true rest = omega (arith, rest)
    by false rest = omega (arith, rest)

count-inserted : (line : ℕ) (found : Refusal) (xs : List Refusal) → count_at line (inserted found xs) ≡ count_at line (found ∷ xs)
count-inserted line found [] = refl
count-inserted line found (next ∷ xs) = by (nat_lt next.line found.line) (count-inserted line found xs)
  where
    by : (t : Bool) → count_at line (inserted found xs) ≡ count_at line (found ∷ xs)
        → count_at line (if t then next ∷ inserted found xs else found ∷ next ∷ xs) ≡ count_at line (found ∷ next ∷ xs)
    by true rest = omega (arith, rest)
    by false rest = refl

pub count-in_lines : (line : ℕ) (xs : List Refusal) → count_at line (in_lines xs) ≡ count_at line xs
count-in_lines line [] = refl
count-in_lines line (found ∷ xs) =
    let first = count-inserted line found (in_lines xs) in
    let rest = count-in_lines line xs in
    omega (arith, first, rest)

-- a number is counted once at itself
abbrev pub tick : ℕ → ℕ → ℕ
tick line n = if line == n then 1 else 0

pub same_numbers : (a b : ℕ) → nat_eq a b ≡ true → a ≡ b
same_numbers a b h = grind (arith, nat_tests)

pub tick-other : (line n : ℕ) → nat_eq n line ≡ false → tick line n ≡ 0
tick-other line n h = grind (arith, nat_tests)

pub tick-most : (line n : ℕ) → tick line n ≤ 1
tick-most line n = by (line == n)
  where
    by : (t : Bool) → (if t then 1 else 0) ≤ 1
    by true = omega arith
    by false = omega arith

-- a line that is not refused is at no refusal, and it is not line 0, unless nothing is refused
none_at : (refused : List Refusal) (line : ℕ) → is_some (code_at refused line) ≡ false → count_at line refused ≡ 0
none_at [] line none = refl
none_at (found ∷ refused) line none = by (nat_eq found.line line) refl none (none_at refused line)
  where
    by : (t : Bool) → nat_eq found.line line ≡ t → is_some (cond t (Some found.code) (code_at refused line)) ≡ false
        → (is_some (code_at refused line) ≡ false → count_at line refused ≡ 0) → count_at line (found ∷ refused) ≡ 0
    by true same none again = absurd (cc)
    by false other none again =
        let here = tick-other line found.line other in
        let rest = again none in
        omega (arith, here, rest)

above_zero : (line : ℕ) → nat_eq line 0 ≡ false → 0 < line
above_zero line h = grind (arith, nat_tests)

pub not_refused : (refused : List Refusal) (line : ℕ) → is_refused refused line ≡ false → (refused ≡ []) ⊎ ((0 < line) × (count_at line refused ≡ 0))
not_refused [] line h = inl refl
not_refused (found ∷ refused) line h =
    let parts = or_parts (nat_eq line 0) (is_some (code_at (found ∷ refused) line)) h in
    inr (above_zero line parts.0, none_at (found ∷ refused) line parts.1)

-- a line that is not refused by some refusals is not refused by the first of them
code_before : (refused more : List Refusal) (line : ℕ) → is_some (code_at (refused ++ more) line) ≡ false → is_some (code_at refused line) ≡ false
code_before [] more line none = refl
code_before (found ∷ refused) more line none = by (nat_eq found.line line) none (code_before refused more line)
  where
    by : (t : Bool) → is_some (cond t (Some found.code) (code_at (refused ++ more) line)) ≡ false
        → (is_some (code_at (refused ++ more) line) ≡ false → is_some (code_at refused line) ≡ false)
        → is_some (cond t (Some found.code) (code_at refused line)) ≡ false
    by true none again = none
    by false none again = again none

pub not_refused_before : (refused more : List Refusal) (line : ℕ) → is_refused (refused ++ more) line ≡ false → is_refused refused line ≡ false
not_refused_before [] more line h = refl
not_refused_before (found ∷ refused) more line h =
    let parts = or_parts (nat_eq line 0) (is_some (code_at (found ∷ (refused ++ more)) line)) h in
    let zero = parts.0 in
    let none = code_before (found ∷ refused) more line parts.1 in
    λ j. zero j || none j

-- what a later pass refuses is at no line that is refused
refused_here : (refused : List Refusal) (line : ℕ) (found : Refusal) → is_refused refused line ≡ true → is_refused refused found.line ≡ false → nat_eq found.line line ≡ false
refused_here refused line found is not_is = by (nat_eq found.line line) refl
  where
    by : (t : Bool) → nat_eq found.line line ≡ t → nat_eq found.line line ≡ false
    by false e = e
    by true e =
        let same : false ≡ true = sym not_is ∙ ap (is_refused refused) (same_numbers found.line line e) ∙ is in
        absurd (cc)

pub further_none : (refused : List Refusal) (line : ℕ) → is_refused refused line ≡ true → (xs : List Refusal) → count_at line (further refused xs) ≡ 0
further_none refused line is [] = refl
further_none refused line is (x ∷ xs) = by (is_refused refused x.line) refl (further_none refused line is xs)
  where
    by : (t : Bool) → is_refused refused x.line ≡ t → count_at line (further refused xs) ≡ 0
        → count_at line (cond (not t) (x ∷ further refused xs) (further refused xs)) ≡ 0
    by true e rest = rest
    by false e rest =
        let here = tick-other line x.line (refused_here refused line x is e) in
        omega (arith, here, rest)

-- a line that is refused at most once is refused at most once after a pass that refuses each further line at most once
pub further_once : (line : ℕ) (refused xs : List Refusal) → count_at line refused ≤ 1 → (is_refused refused line ≡ false → count_at line xs ≤ 1)
    → count_at line (refused ++ further refused xs) ≤ 1
further_once line refused xs once more = by (is_refused refused line) refl
  where
    sum : count_at line (refused ++ further refused xs) ≡ count_at line refused + count_at line (further refused xs)
    sum = count-append line refused (further refused xs)

    by : (t : Bool) → is_refused refused line ≡ t → count_at line (refused ++ further refused xs) ≤ 1
    by true is = let none = further_none refused line is xs in omega (arith, sum, once, none)
    by false is =
        let less = count-filter line (λ (found : Refusal). not (is_refused refused found.line)) xs in
        let most = more is in
        elim (not_refused refused line is) [
          | inl empty ↦ let none = ap (count_at line) empty in omega (arith, sum, less, most, none)
          | inr (positive, none) ↦ omega (arith, sum, less, most, none)
        ]

-- each statement is refused at most once, at its line
pub count-all_of : {X : Type 0} (line_of : X → ℕ) (code : List X → X → Option Code) (line : ℕ) (before xs : List X)
    → count_at line (all_of (λ earlier x. at_line (line_of x) (code earlier x)) before xs) ≤ times line (map line_of xs)
count-all_of line_of code line before [] = omega arith
count-all_of line_of code line before (x ∷ xs) = by (code before x) (count-all_of line_of code line (before ++ x ∷ []) xs)
  where
    by : (c : Option Code) → count_at line (all_of (λ earlier y. at_line (line_of y) (code earlier y)) (before ++ x ∷ []) xs) ≤ times line (map line_of xs)
        → count_at line (option_to_list (at_line (line_of x) c) ++ all_of (λ earlier y. at_line (line_of y) (code earlier y)) (before ++ x ∷ []) xs)
        ≤ times line (map line_of (x ∷ xs))
    by None rest = omega (arith, rest)
    by (Some c) rest = omega (arith, rest)

-- the statements of a program, other than its begins, at a line
abbrev pub stated_at : ℕ → Program → ℕ
stated_at line program =
    times line (store_lines program.stores) + (times line (group_lines program.groups) + times line (rule_lines program.groups))

count-rules : (line : ℕ) (facts : Known) (groups : List GroupDef) → count_at line (flat_map (rules_refusals facts) groups) ≤ times line (rule_lines groups)
count-rules line facts [] = omega arith
count-rules line facts (group ∷ groups) =
    let here = count-all_of (λ (rule : RuleDef). rule.line) (λ before (rule : RuleDef). rule_code facts rule.kind rule) line [] group.rules in
    let rest = count-rules line facts groups in
    let both = count-append line (rules_refusals facts group) (flat_map (rules_refusals facts) groups) in
    let lines = times-append line (lines_of_rules group.rules) (rule_lines groups) in
    omega (arith, here, rest, both, lines)

pub count-items-at : (line : ℕ) (program : Program) → count_at line (items_refusals program) ≤ times line (store_lines program.stores) + times line (rule_lines program.groups)
unfolding items_refusals
count-items-at line program =
    let stores = count-all_of (λ (store : StoreDef). store.line) (λ before (store : StoreDef). store_code (known program) store) line [] program.stores in
    let rules = count-rules line (known program) program.groups in
    let both = count-append line (all_of (λ before (store : StoreDef). at_line store.line (store_code (known program) store)) [] program.stores) (flat_map (rules_refusals (known program)) program.groups) in
    omega (arith, stores, rules, both)

pub count-items : (line : ℕ) (program : Program) → count_at line (items_refusals program) ≤ stated_at line program
count-items line program = omega (arith, count-items-at line program)

-- the statements with items, in the order of lines
store_statements : (stores : List StoreDef) → map line_of (map OfStore stores) ≡ store_lines stores
store_statements [] = refl
store_statements (store ∷ stores) = ap (λ lines. store.line ∷ lines) (store_statements stores)

split_stores : (line k : ℕ) (stores : List StoreDef) → times line (store_lines stores) ≡ times line (store_lines (take k stores)) + times line (store_lines (drop k stores))
split_stores line k stores =
    sym (ap (λ (all : List StoreDef). times line (store_lines all)) (take-append-drop k stores))
    ∙ ap (times line) (map-append (λ (store : StoreDef). store.line) (take k stores) (drop k stores))
    ∙ times-append line (store_lines (take k stores)) (store_lines (drop k stores))

count-in_order : (line : ℕ) (stores : List StoreDef) (rules : List RuleDef)
    → times line (map line_of (in_line_order stores rules)) ≡ times line (store_lines stores) + times line (lines_of_rules rules)
count-in_order line stores [] = let same = ap (times line) (store_statements stores) in omega (arith, same)
count-in_order line stores (rule ∷ rules) =
    let k = prefix_len (λ (store : StoreDef). nat_lt store.line rule.line) stores in
    let lines = ap (times line) (map-append line_of (map OfStore (take k stores)) (OfRule rule ∷ in_line_order (drop k stores) rules)) in
    let both = times-append line (map line_of (map OfStore (take k stores))) (map line_of (OfRule rule ∷ in_line_order (drop k stores) rules)) in
    let first = ap (times line) (store_statements (take k stores)) in
    let rest = count-in_order line (drop k stores) rules in
    let split = split_stores line k stores in
    omega (arith, lines, both, first, rest, split)

all_rule_lines : (groups : List GroupDef) → lines_of_rules (flat_map (λ (group : GroupDef). group.rules) groups) ≡ rule_lines groups
all_rule_lines [] = refl
all_rule_lines (group ∷ groups) =
    map-append (λ (rule : RuleDef). rule.line) group.rules (flat_map (λ (g : GroupDef). g.rules) groups)
    ∙ ap (λ lines. lines_of_rules group.rules ++ lines) (all_rule_lines groups)

count-groups : (line : ℕ) (shared : Bool) (groups : List GroupDef) → count_at line (if shared then all_of listed_group_refusal [] groups else []) ≤ times line (group_lines groups)
count-groups line true groups =
    count-all_of (λ (group : GroupDef). group.line) (λ before (group : GroupDef). broken ((C20, are_many_groups (before ++ group ∷ []) && not (are_many_groups before)) ∷ [])) line [] groups
count-groups line false groups = omega arith

pub count-limits : (line : ℕ) (shared : Bool) (program : Program) → count_at line (limits_refusals shared program) ≤ stated_at line program
unfolding limits_refusals
count-limits line shared program =
    let facts = known program in
    let statements = in_line_order program.stores (all_rules program) in
    let first = count-all_of line_of
    (λ before statement. listed_code shared (passed facts before) (passed facts (before ++ statement ∷ [])) (is_long_context statement) (is_long_output facts statement) (is_large_store facts statement))
    line [] statements in
    let order = count-in_order line program.stores (all_rules program) in
    let rules = ap (times line) (all_rule_lines program.groups) in
    let groups = count-groups line shared program.groups in
    let both = count-append line (all_of (listed_refusal shared facts) [] statements) (if shared then all_of listed_group_refusal [] program.groups else []) in
    omega (arith, first, order, rules, groups, both)
