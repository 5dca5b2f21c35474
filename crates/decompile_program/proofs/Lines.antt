-- The stores of a text precede its rules.
use Rattle.std.proofs.Common.{◌≡◌, ℕ, suc, ◌+◌, ◌<◌, ◌≤◌, Bool, true, false, List, [], ◌∷◌, ◌++◌, length, take, drop, Option, None, Some, refl, sym, ◌∙◌, ap, arith, append-nil, if◌then◌else◌}
use Rattle.std.specs.Prelude.{slice_get, unwrap_or, nat_eq, nat_lt, flat_map}
use Rattle.std.specs.List.{prefix_len, AllByRecursion}
use Rattle.std.proofs.lemmas.Bool.{lt-ltb, cond-true}
use Rattle.std.proofs.lemmas.List.{length-append}
use Rattle.rule_model.specs.declared.program.StoreDef.{StoreDef}
use Rattle.rule_model.specs.declared.program.RuleKind.{RuleKind}
use Rattle.rule_model.specs.declared.program.RuleKind.TheVariants.{OnMatch, OnNoMatch}
use Rattle.rule_model.specs.declared.program.RuleDef.{RuleDef}
use Rattle.rule_model.specs.declared.program.GroupDef.{GroupDef}
use Rattle.rule_model.specs.declared.tables.Out.{Out}
use Rattle.rule_model.specs.declared.tables.Rule.{Rule}
use Rattle.rule_model.specs.declared.tables.Store.{Store}
use Rattle.rule_model.specs.declared.tables.Group.{Group}
use Rattle.rule_model.specs.declared.tables.Tables.{Tables}
use Rattle.rule_model.specs.Tab.{tab_dictionary}
use Rattle.rule_model.specs.Naming.{rule_items, store_items, items_from}
use Rattle.decompile_program.specs.Marks.{greatest_mark}
use Rattle.decompile_program.specs.Items.{Names}
use Rattle.decompile_program.specs.Back.{back_rules, back_statement, match_line, nomatch_line, back_group, back_groups, back_stores, numbered, mark_store, key_store, stated_marks, mark_stores, key_stores, front_stores, free_stores, names_for, written_stores}
use Rattle.decompile_program.proofs.Choosing.{all_join, all_weaker}

length-step : {X : Type 0} (p : X → Bool) (x : X) (xs : List X) → p x ≡ true → prefix_len p (x ∷ xs) ≡ suc (prefix_len p xs)
length-step p x xs h = cond-true (p x) (1 + prefix_len p xs) 0 h ∙ omega arith

all-before : {X : Type 0} (p : X → Bool) (xs : List X) → AllByRecursion (λ x. p x ≡ true) xs → take (prefix_len p xs) xs ≡ xs
all-before p [] h = refl
all-before {X} p (x ∷ xs) h = ap (λ (n : ℕ). take n (x ∷ xs)) (length-step p x xs h.0) ∙ ap (λ (ys : List X). x ∷ ys) (all-before p xs h.1)

all-after : {X : Type 0} (p : X → Bool) (xs : List X) → AllByRecursion (λ x. p x ≡ true) xs → drop (prefix_len p xs) xs ≡ []
all-after p [] h = refl
all-after p (x ∷ xs) h = ap (λ (n : ℕ). drop n (x ∷ xs)) (length-step p x xs h.0) ∙ all-after p xs h.1

-- if the stores of a text precede its rules, its items are those of the stores and then those of the rules
pub items-in-order : (bound : ℕ) (stores : List StoreDef) (rules : List RuleDef) → AllByRecursion (λ (s : StoreDef). s.line < bound) stores → AllByRecursion (λ (r : RuleDef). bound ≤ r.line) rules
    → items_from stores rules ≡ store_items stores ++ flat_map rule_items rules
items-in-order bound stores [] h k = sym (append-nil (store_items stores))
items-in-order bound stores (r ∷ rules) h k =
    let least = k.0 in
    let before : AllByRecursion (λ (s : StoreDef). nat_lt s.line r.line ≡ true) stores =
    all_weaker (λ (s : StoreDef). s.line < bound) (λ (s : StoreDef). nat_lt s.line r.line ≡ true) (λ s e. lt-ltb s.line r.line (omega (arith, e, least))) stores h in
    λ i. store_items (all-before (λ (s : StoreDef). nat_lt s.line r.line) stores before i)
    ++ (rule_items r ++ (ap (λ (ss : List StoreDef). items_from ss rules) (all-after (λ (s : StoreDef). nat_lt s.line r.line) stores before) ∙ items-in-order bound [] rules tt k.1) i)

-- the lines of stores
abbrev KeepsLine : (ℕ → StoreDef) → Type 0
KeepsLine f = (n : ℕ) → (f n).line ≡ n

numbered-below : (bound line : ℕ) (fs : List (ℕ → StoreDef)) → AllByRecursion KeepsLine fs → line + length fs ≤ bound → AllByRecursion (λ (s : StoreDef). s.line < bound) (numbered line fs)
numbered-below bound line [] h less = tt
numbered-below bound line (f ∷ fs) h less = (let e = h.0 line in omega (arith, e), numbered-below bound (line + 1) fs h.1 (omega arith))

back-below : (names : Names) (bound line : ℕ) (calls : List (Option (List ℕ))) (stores : List Store) → line + length (back_stores names line calls stores) ≤ bound
    → AllByRecursion (λ (s : StoreDef). s.line < bound) (back_stores names line calls stores)
back-below names bound line [] stores less = tt
back-below names bound line (call ∷ calls) [] less = tt
back-below names bound line (None ∷ calls) (s ∷ stores) less = back-below names bound line calls stores less
back-below names bound line (Some name ∷ calls) (s ∷ stores) less = (omega arith, back-below names bound (line + 1) calls stores (omega arith))

mark-line : (name : List ℕ) (count : ℕ) → AllByRecursion KeepsLine (mark_store name count)
mark-line name count = elim (nat_eq count 0) as (λ b. AllByRecursion KeepsLine (if b then [] else stated_marks name count ∷ [])) [ true ↦ tt | false ↦ (λ n. refl, tt) ]

key-line : (name : List ℕ) (keys : List (List ℕ)) → AllByRecursion KeepsLine (key_store name keys)
key-line name [] = tt
key-line name (k ∷ keys) = (λ n. refl, tt)

front-lines : (t : Tables) → AllByRecursion KeepsLine (front_stores t)
front-lines t = (
  λ n. refl,
  all_join KeepsLine (mark_stores t) (key_stores t) (mark-line (unwrap_or (slice_get (free_stores t) 0) []) (greatest_mark t))
      (key-line (unwrap_or (slice_get (free_stores t) (length (mark_stores t))) []) (tab_dictionary t.stores)),
)

pub numbered-length : (line : ℕ) (fs : List (ℕ → StoreDef)) → length (numbered line fs) ≡ length fs
numbered-length line [] = refl
numbered-length line (f ∷ fs) = ap suc (numbered-length (line + 1) fs)

pub stores-lines : (t : Tables) → AllByRecursion (λ (s : StoreDef). s.line < 1 + length (written_stores t)) (written_stores t)
stores-lines t =
    let front = numbered 1 (front_stores t) in
    let behind = back_stores (names_for t) (1 + length (front_stores t)) (names_for t).stores t.stores in
    let size = length-append front behind in
    let same = numbered-length 1 (front_stores t) in
    all_join (λ (s : StoreDef). s.line < 1 + length (written_stores t)) front behind
    (numbered-below (1 + length (written_stores t)) 1 (front_stores t) (front-lines t) (omega (arith, size, same)))
    (back-below (names_for t) (1 + length (written_stores t)) (1 + length (front_stores t)) (names_for t).stores t.stores (omega (arith, size, same)))

-- the lines of rules
rules-from : (names : Names) (bound line : ℕ) (rules : List Rule) → bound ≤ line → AllByRecursion (λ (r : RuleDef). bound ≤ r.line) (back_rules names line rules)
rules-from names bound line [] less = tt
rules-from names bound line (r ∷ rules) less = (less, rules-from names bound (line + 1) rules (omega arith))

statement-from : (names : Names) (bound : ℕ) (kind : RuleKind) (line : ℕ) (xs : List Out) → bound ≤ line → AllByRecursion (λ (r : RuleDef). bound ≤ r.line) (back_statement names kind line xs)
statement-from names bound kind line [] less = tt
statement-from names bound kind line (x ∷ xs) less = (less, tt)

pub groups-from : (names : Names) (bound line : ℕ) (called : List (List ℕ)) (groups : List Group) → bound ≤ line
    → AllByRecursion (λ (r : RuleDef). bound ≤ r.line) (flat_map (λ (g : GroupDef). g.rules) (back_groups names line called groups))
groups-from names bound line called [] less = tt
groups-from names bound line called (g ∷ groups) less =
    let back : GroupDef = back_group names line (unwrap_or (slice_get called 0) []) g in
    all_join (λ (r : RuleDef). bound ≤ r.line) back.rules (flat_map (λ (g : GroupDef). g.rules) (back_groups names (line + 1 + length back.rules) (drop 1 called) groups))
    (all_join (λ (r : RuleDef). bound ≤ r.line) (back_rules names (line + 1) g.rules) _ (rules-from names bound (line + 1) g.rules (omega arith))
    (all_join (λ (r : RuleDef). bound ≤ r.line) (back_statement names OnMatch (match_line line g) g.on_match) (back_statement names OnNoMatch (nomatch_line names line g) g.on_nomatch)
    (statement-from names bound OnMatch (match_line line g) g.on_match (omega arith)) (statement-from names bound OnNoMatch (nomatch_line names line g) g.on_nomatch (omega arith))))
    (groups-from names bound (line + 1 + length back.rules) (drop 1 called) groups (omega arith))
