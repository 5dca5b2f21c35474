-- The first cause of each statement is its refusal.
use Rattle.std.proofs.Common.{◌≡◌, ℕ, Bool, true, false, cond, List, [], ◌∷◌, ◌++◌, map, flat_map, Option, Some, None, refl, sym, ap, ◌∙◌, arith}
use Rattle.std.specs.Prelude.{nat_lt, not, option_map, slice_get, if◌then◌else◌}
use Rattle.std.specs.Option.{option_or}
use Rattle.std.proofs.lemmas.Bool.Decides.{nat_tests}
use Rattle.std.proofs.lemmas.List.{map-append}
use Rattle.kmn_base.specs.declared.codes.Code.{Code}
use Rattle.kmn_base.specs.declared.codes.Code.TheVariants.{C02, C03, C04, C05, C06, C07, C15}
use Rattle.kmn_base.specs.declared.refusals.Refusal.{Refusal}
use Rattle.rule_model.specs.declared.program.SrcItem.{SrcItem}
use Rattle.rule_model.specs.declared.program.StoreDef.{StoreDef}
use Rattle.rule_model.specs.declared.program.RuleDef.{RuleDef}
use Rattle.rule_model.specs.declared.program.GroupDef.{GroupDef}
use Rattle.rule_model.specs.declared.program.BeginDef.{BeginDef}
use Rattle.rule_model.specs.declared.program.Program.{Program}
use Rattle.rule_model.specs.Naming.{rule_items}
use Rattle.store_table.specs.declared.stating.Stated.{Stated}
use Rattle.store_table.specs.First.{broken, first_code, at_line, earlier, first_of, first_among}
use Rattle.store_table.specs.Names.{is_named, store_names, group_names, stated, lacks, store_named, group_named, is_begun, is_store_again, is_group_again, uses_later_store, is_again, store_item_code, rule_item_code, begin_code, store_code, rule_code, begin_refusal, store_refusal, group_refusal, rule_refusal, rules_refusal, names_refusal}
use Rattle.store_table.proofs.FirstAmong.{first_append}
use Rattle.source_names.specs.declared.causes.Cause.{Cause}
use Rattle.source_names.specs.declared.causes.Cause.TheVariants as because
use Rattle.source_names.specs.declared.causes.NameFault.{NameFault}
use Rattle.source_names.specs.Causes.{code_of, cause_refusal, store_cause, group_cause, no_store, no_group, broken_if, store_item_cause, rule_item_cause, caused, items_caused, begin_causes, store_causes, group_causes, rule_causes, each_of, begin_faults, store_faults, group_faults, rule_faults, rules_faults, name_causes}
use Rattle.source_names.specs.Laws.{FirstCausesAreRefusals}

-- the first refusal of causes
abbrev first_in : List NameFault → Option Refusal
first_in causes = first_among (map cause_refusal causes)

in_both : (xs ys : List NameFault) → first_in (xs ++ ys) ≡ earlier (first_in xs) (first_in ys)
in_both xs ys = ap first_among (map-append cause_refusal xs ys) ∙ first_append (map cause_refusal xs) (map cause_refusal ys)

at_first : (line : ℕ) (found : Option Cause) → first_in (caused line found) ≡ at_line line (option_map code_of found)
at_first line None = refl
at_first line (Some found) = refl

not_less : (line : ℕ) → nat_lt line line ≡ false
not_less line = grind (arith, nat_tests)

-- of two refusals at one line, the first
same_line : (line : ℕ) (a b : Option Code) → earlier (at_line line a) (at_line line b) ≡ at_line line (option_or a b)
same_line line None b = refl
same_line line (Some a) None = refl
same_line line (Some a) (Some b) =
    ap (λ t. if t then at_line line (Some b) else at_line line (Some a)) (not_less line)

-- the first refusal of a cause and of others at its line
before_first : (line : ℕ) (found : Option Cause) (rest : List NameFault) (code : Option Code) → first_in rest ≡ at_line line code
    → first_in (caused line found ++ rest) ≡ at_line line (option_or (option_map code_of found) code)
before_first line found rest code is =
    in_both (caused line found) rest
    ∙ ap (λ first. earlier first (first_in rest)) (at_first line found)
    ∙ ap (earlier (at_line line (option_map code_of found))) is
    ∙ same_line line (option_map code_of found) code

items_first : (line : ℕ) (cause : SrcItem → Option Cause) (code : SrcItem → Option Code) → ((item : SrcItem) → option_map code_of (cause item) ≡ code item)
    → (items : List SrcItem) → first_in (items_caused line cause items) ≡ at_line line (first_code code items)
items_first line cause code is [] = refl
items_first line cause code is (item ∷ items) =
    before_first line (cause item) (items_caused line cause items) (first_code code items) (items_first line cause code is items)
    ∙ ap (λ first. at_line line (option_or first (first_code code items))) (is item)

-- the codes of items
store_item_first : (s : Stated) (before : List (List ℕ)) (item : SrcItem) → option_map code_of (store_item_cause s.stores before item) ≡ store_item_code s before item
store_item_first s before item = by_names (store_named item) (uses_later_store before item)
  where
    by_test : (t : Bool) (name : List ℕ) (later : Bool)
        → option_map code_of (option_or (if t then None else Some (because.NoStore name)) (broken_if later C07))
        ≡ broken ((C05, not t) ∷ (C07, later) ∷ [])
    by_test true name true = refl
    by_test true name false = refl
    by_test false name later = refl

    by_names : (names : List (List ℕ)) (later : Bool)
        → option_map code_of (option_or (store_cause s.stores (slice_get names 0)) (broken_if later C07))
        ≡ broken ((C05, lacks s.stores names) ∷ (C07, later) ∷ [])
    by_names [] true = refl
    by_names [] false = refl
    by_names (name ∷ names) later = by_test (is_named s.stores name) name later

group_first : (groups names : List (List ℕ))
    → option_map code_of (group_cause groups (slice_get names 0)) ≡ broken ((C06, lacks groups names) ∷ [])
group_first groups [] = refl
group_first groups (name ∷ names) = by (is_named groups name)
  where
    by : (t : Bool) → option_map code_of (if t then None else Some (because.NoGroup name)) ≡ broken ((C06, not t) ∷ [])
    by true = refl
    by false = refl

rule_item_first : (s : Stated) (item : SrcItem) → option_map code_of (rule_item_cause s.stores s.groups item) ≡ rule_item_code s item
rule_item_first s item = by_names (store_named item) (no_group s.groups item) (lacks s.groups (group_named item)) (group_first s.groups (group_named item))
  where
    by_test : (t : Bool) (name : List ℕ) (found : Option Cause) (lacking : Bool) → option_map code_of found ≡ broken ((C06, lacking) ∷ [])
        → option_map code_of (option_or (if t then None else Some (because.NoStore name)) found)
        ≡ broken ((C05, not t) ∷ (C06, lacking) ∷ [])
    by_test true name found lacking is = is
    by_test false name found lacking is = refl

    by_names : (names : List (List ℕ)) (found : Option Cause) (lacking : Bool) → option_map code_of found ≡ broken ((C06, lacking) ∷ [])
        → option_map code_of (option_or (store_cause s.stores (slice_get names 0)) found)
        ≡ broken ((C05, lacks s.stores names) ∷ (C06, lacking) ∷ [])
    by_names [] found lacking is = is
    by_names (name ∷ names) found lacking is = by_test (is_named s.stores name) name found lacking is

-- the codes of statements
again_first : (again : Bool) (code : Code) → option_map code_of (broken_if again code) ≡ broken ((code, again) ∷ [])
again_first true code = refl
again_first false code = refl

begin_first : (s : Stated) (before : List BeginDef) (start : BeginDef) → first_in (begin_faults s.groups before start) ≡ begin_refusal s before start
unfolding begin_causes
begin_first s before start =
    before_first start.line (broken_if (is_begun before start) C02) (caused start.line (group_cause s.groups (Some start.group))) (broken ((C06, not (is_named s.groups start.group)) ∷ []))
    (at_first start.line (group_cause s.groups (Some start.group)) ∙ ap (at_line start.line) (group_first s.groups (start.group ∷ [])))
    ∙ by (is_begun before start)
  where
    by : (again : Bool)
        → at_line start.line (option_or (option_map code_of (broken_if again C02)) (broken ((C06, not (is_named s.groups start.group)) ∷ [])))
        ≡ at_line start.line (begin_code s again start)
    by true = refl
    by false = refl

store_first : (s : Stated) (before : List StoreDef) (store : StoreDef) → first_in (store_faults s.stores before store) ≡ store_refusal s before store
unfolding store_causes
store_first s before store =
    before_first store.line (broken_if (is_store_again (store_names before) store) C03) (items_caused store.line (store_item_cause s.stores (store_names before)) store.items)
    (first_code (store_item_code s (store_names before)) store.items)
    (items_first store.line (store_item_cause s.stores (store_names before)) (store_item_code s (store_names before)) (store_item_first s (store_names before)) store.items)
    ∙ ap (λ first. at_line store.line (option_or first (first_code (store_item_code s (store_names before)) store.items))) (again_first (is_store_again (store_names before) store) C03)

group_statement_first : (before : List GroupDef) (group : GroupDef) → first_in (group_faults before group) ≡ group_refusal before group
unfolding group_causes
group_statement_first before group =
    at_first group.line (broken_if (is_group_again (group_names before) group) C04)
    ∙ ap (at_line group.line) (again_first (is_group_again (group_names before) group) C04)

rule_first : (s : Stated) (before : List RuleDef) (rule : RuleDef) → first_in (rule_faults s.stores s.groups before rule) ≡ rule_refusal s before rule
unfolding rule_causes
rule_first s before rule =
    before_first rule.line (broken_if (is_again before rule) C15) (items_caused rule.line (rule_item_cause s.stores s.groups) (rule_items rule))
    (first_code (rule_item_code s) (rule_items rule))
    (items_first rule.line (rule_item_cause s.stores s.groups) (rule_item_code s) (rule_item_first s) (rule_items rule))
    ∙ ap (λ first. at_line rule.line (option_or first (first_code (rule_item_code s) (rule_items rule)))) (again_first (is_again before rule) C15)

-- the first refusal of statements
each_first : {X : Type 0} (causes : List X → X → List NameFault) (refusal : List X → X → Option Refusal)
    → ((before : List X) (statement : X) → first_in (causes before statement) ≡ refusal before statement)
    → (before statements : List X) → first_in (each_of causes before statements) ≡ first_of refusal before statements
each_first causes refusal is before [] = refl
each_first causes refusal is before (statement ∷ statements) =
    in_both (causes before statement) (each_of causes (before ++ statement ∷ []) statements)
    ∙ ap (λ first. earlier first (first_in (each_of causes (before ++ statement ∷ []) statements))) (is before statement)
    ∙ ap (earlier (refusal before statement)) (each_first causes refusal is (before ++ statement ∷ []) statements)

groups_first : (s : Stated) (before groups : List GroupDef) → first_in (flat_map (rules_faults s.stores s.groups) groups) ≡ first_of (rules_refusal s) before groups
groups_first s before [] = refl
groups_first s before (group ∷ groups) =
    in_both (rules_faults s.stores s.groups group) (flat_map (rules_faults s.stores s.groups) groups)
    ∙ ap (λ first. earlier first (first_in (flat_map (rules_faults s.stores s.groups) groups))) (each_first (rule_faults s.stores s.groups) (rule_refusal s) (rule_first s) [] group.rules)
    ∙ ap (earlier (rules_refusal s before group)) (groups_first s (before ++ group ∷ []) groups)

-- the first refusal of two lists of causes
both_first : (xs ys : List NameFault) (a b : Option Refusal) → first_in xs ≡ a → first_in ys ≡ b → first_in (xs ++ ys) ≡ earlier a b
both_first xs ys a b p q = in_both xs ys ∙ ap (λ first. earlier first (first_in ys)) p ∙ ap (earlier a) q

pub first_causes : FirstCausesAreRefusals
unfolding name_causes names_refusal
first_causes program =
    both_first (each_of (begin_faults (stated program).groups) [] program.begins) _ _ _ (each_first (begin_faults (stated program).groups) (begin_refusal (stated program)) (begin_first (stated program)) [] program.begins)
    (both_first (each_of (store_faults (stated program).stores) [] program.stores) _ _ _ (each_first (store_faults (stated program).stores) (store_refusal (stated program)) (store_first (stated program)) [] program.stores)
    (both_first (each_of group_faults [] program.groups) (flat_map (rules_faults (stated program).stores (stated program).groups) program.groups) _ _ (each_first group_faults group_refusal group_statement_first [] program.groups)
    (groups_first (stated program) [] program.groups)))
