-- If all statements of a program together are within the limits, no statement exceeds a limit.
use Rattle.std.proofs.Common.{◌≡◌, ℕ, ◌+◌, ◌≤◌, Bool, true, false, ◌||◌, List, [], ◌∷◌, ◌++◌, length, map, None, refl, sym, ◌∙◌, ap, subst, arith, append-nil, append_assoc, length-append, if◌then◌else◌}
use Rattle.std.specs.Prelude.{nat_lt, flat_map, sum}
use Rattle.std.specs.List.{list_any, AllByRecursion}
use Rattle.std.specs.Str.{bytes_eq}
use Rattle.std.proofs.lemmas.Bool.{or_parts, le-ltb, ltb-false}
use Rattle.std.proofs.lemmas.Bool.Decides.{nat_tests}
use Rattle.std.proofs.lemmas.List.{map-append}
use Rattle.std.proofs.lemmas.List.Concat.{flat_map-append}
use Rattle.std.proofs.lemmas.List.Folds.{list_any-append}
use Rattle.kmn_base.specs.declared.codes.Code.TheVariants.{C16, C17, C18, C19, C20, C21, C22}
use Rattle.kmn_base.specs.declared.limits.TheConstants.{STORE_ELEMENTS, ALL_ELEMENTS, STORES, GROUPS, RECORDS, DEADKEYS}
use Rattle.kmn_base.specs.Names.{same_name}
use Rattle.rule_model.specs.declared.program.GroupDef.{GroupDef}
use Rattle.rule_model.specs.Tab.{distinct_onto}
use Rattle.rule_model.specs.Naming.{mark_names, key_names}
use Rattle.store_table.specs.First.{broken, first_of}
use Rattle.store_table.specs.Known.{Known}
use Rattle.rule_checker.specs.Limits.{Statement, line_of, items_of, values_of_statement, records_of_statement, statement_size, names_size, dictionary_size, sizes, mark_count, all_records, is_long_context, is_long_output, have_many_elements, are_many_stores, have_many_marks, have_many_records, are_many_groups, limit_code, statement_refusal, group_refusal}
use Rattle.rule_checker.proofs.FirstPassed.{sum_append}
use Rattle.rule_checker.proofs.Gathered.{distinct_append}
use Rattle.kmx_decompiler.proofs.UnrefusedRules.{no-earlier, no-line, no-broken}

-- a list that begins with another
record Begins {X : Type 0} (front whole : List X) : Type 0 where
  more : List X
  is : whole ≡ front ++ more

-- the distinct elements of a longer list begin with the distinct elements of its beginning
distinct-more : {X : Type 0} (same : X → X → Bool) (ys seen : List X) → Begins seen (distinct_onto same seen ys)
distinct-more same [] seen = record { more = []; is = sym (append-nil seen) }
distinct-more {X} same (y ∷ ys) seen = by (list_any (λ x. same x y) seen) (distinct-more same ys seen) (distinct-more same ys (seen ++ y ∷ []))
  where
    by : (b : Bool) → Begins seen (distinct_onto same seen ys) → Begins (seen ++ y ∷ []) (distinct_onto same (seen ++ y ∷ []) ys)
        → Begins seen (distinct_onto same (if b then seen else seen ++ y ∷ []) ys)
    by true one two = one
    by false one two = record { more = y ∷ two.more; is = two.is ∙ append_assoc seen (y ∷ []) two.more }

distinct-begins : {X : Type 0} (same : X → X → Bool) (xs ys : List X) → Begins (distinct_onto same [] xs) (distinct_onto same [] (xs ++ ys))
distinct-begins same xs ys =
    let more = distinct-more same ys (distinct_onto same [] xs) in record { more = more.more; is = distinct_append same [] xs ys ∙ more.is }

-- sizes that are not more than others in count and in sum, and are all within the limit if all of the others are
record IsWithin (few many : List ℕ) : Type 0 where
  count : length few ≤ length many
  total : sum few ≤ sum many
  each : list_any (nat_lt STORE_ELEMENTS) many ≡ false → list_any (nat_lt STORE_ELEMENTS) few ≡ false

within-begins : (few many : List ℕ) → Begins few many → IsWithin few many
within-begins few many b = subst (IsWithin few) (sym b.is) (record {
  count = let l = length-append few b.more in omega (arith, l);
  total = let s = sum_append few b.more in omega (arith, s);
  each = λ h. (or_parts (list_any (nat_lt STORE_ELEMENTS) few) (list_any (nat_lt STORE_ELEMENTS) b.more) (sym (list_any-append (nat_lt STORE_ELEMENTS) few b.more) ∙ h)).0;
})

within-both : (a b c d : List ℕ) → IsWithin a b → IsWithin c d → IsWithin (a ++ c) (b ++ d)
within-both a b c d one two = record {
  count = let l = length-append a c in let m = length-append b d in let x = one.count in let y = two.count in omega (arith, l, m, x, y);
  total = let l = sum_append a c in let m = sum_append b d in let x = one.total in let y = two.total in omega (arith, l, m, x, y);
  each = λ h.
      let parts = or_parts (list_any (nat_lt STORE_ELEMENTS) b) (list_any (nat_lt STORE_ELEMENTS) d) (sym (list_any-append (nat_lt STORE_ELEMENTS) b d) ∙ h) in
      list_any-append (nat_lt STORE_ELEMENTS) a c ∙ (λ i. one.each parts.0 i || two.each parts.1 i);
}

-- the size of joined key names is the sum of their sizes
names-more : (front more : List (List ℕ)) → names_size (front ++ more) ≡ names_size front + names_size more
names-more [] more = omega arith
names-more (name ∷ front) more = let rest = names-more front more in omega (arith, rest)

within-one : (a b : ℕ) → a ≤ b → IsWithin (a ∷ []) (b ∷ [])
within-one a b less = record {
  count = omega arith;
  total = omega arith;
  each = λ h. smaller a b less (or_parts (nat_lt STORE_ELEMENTS b) false h).0;
} where
  smaller : (a b : ℕ) → a ≤ b → nat_lt STORE_ELEMENTS b ≡ false → (nat_lt STORE_ELEMENTS a || false) ≡ false
  smaller a b less h = grind (arith, nat_tests, h)

within-none : (many : List ℕ) → IsWithin [] many
within-none many = record { count = omega arith; total = omega arith; each = λ h. refl }

dictionary-within : (few many : List (List ℕ)) → Begins few many → IsWithin (dictionary_size few) (dictionary_size many)
dictionary-within [] many b = within-none (dictionary_size many)
dictionary-within (name ∷ few) many b = subst (λ (names : List (List ℕ)). IsWithin (dictionary_size (name ∷ few)) (dictionary_size names)) (sym b.is)
    (within-one (names_size (name ∷ few) + length few) (names_size (name ∷ (few ++ b.more)) + length (few ++ b.more))
    (let n = names-more (name ∷ few) b.more in let l = length-append few b.more in omega (arith, n, l)))

map-begins : {X Y : Type 0} (f : X → Y) (few many : List X) → Begins few many → Begins (map f few) (map f many)
map-begins f few many b = record { more = map f b.more; is = ap (map f) b.is ∙ map-append f few b.more }

flat-begins : {X Y : Type 0} (f : X → List Y) (few many : List X) → Begins few many → Begins (flat_map f few) (flat_map f many)
flat-begins f few many b = record { more = flat_map f b.more; is = ap (flat_map f) b.is ∙ flat_map-append f few b.more }

kept-begins : {X : Type 0} (same : X → X → Bool) (few many : List X) → Begins few many → Begins (distinct_onto same [] few) (distinct_onto same [] many)
kept-begins {X} same few many b = subst (λ (xs : List X). Begins (distinct_onto same [] few) (distinct_onto same [] xs)) (sym b.is) (distinct-begins same few b.more)

sizes-within : (known : Known) (few many : List Statement) → Begins few many → IsWithin (sizes known few) (sizes known many)
sizes-within known few many b =
    let items = flat-begins items_of few many b in
    let names = kept-begins same_name (flat_map key_names (flat_map items_of few)) (flat_map key_names (flat_map items_of many)) (flat-begins key_names (flat_map items_of few) (flat_map items_of many) items) in
    let values = kept-begins bytes_eq (flat_map values_of_statement few) (flat_map values_of_statement many) (flat-begins values_of_statement few many b) in
    within-both (flat_map (statement_size known) few) (flat_map (statement_size known) many) _ _ (within-begins _ _ (flat-begins (statement_size known) few many b))
    (within-both (dictionary_size (distinct_onto same_name [] (flat_map key_names (flat_map items_of few)))) (dictionary_size (distinct_onto same_name [] (flat_map key_names (flat_map items_of many)))) _ _
    (dictionary-within _ _ names) (within-begins _ _ (map-begins length _ _ values)))

-- all statements together are within all limits
pub record KeepsLimits (known : Known) (all : List Statement) : Type 0 where
  pub elements : have_many_elements (sizes known all) ≡ false
  pub stores : length (sizes known all) ≤ STORES
  pub marks : mark_count all ≤ DEADKEYS
  pub records : all_records known all ≤ RECORDS

limits-at : (known : Known) (few many : List Statement) → Begins few many → KeepsLimits known many → KeepsLimits known few
limits-at known few many b keeps =
    let within = sizes-within known few many b in
    let parts = or_parts (list_any (nat_lt STORE_ELEMENTS) (sizes known many)) (nat_lt ALL_ELEMENTS (sum (sizes known many))) keeps.elements in
    let all = ltb-false ALL_ELEMENTS (sum (sizes known many)) parts.1 in
    let items = flat-begins items_of few many b in
    let marks = kept-begins same_name (flat_map mark_names (flat_map items_of few)) (flat_map mark_names (flat_map items_of many)) (flat-begins mark_names (flat_map items_of few) (flat_map items_of many) items) in
    let records = map-begins (records_of_statement known) few many b in
    record {
      elements = λ i. within.each parts.0 i || le-ltb ALL_ELEMENTS (sum (sizes known few)) (let t = within.total in omega (arith, t, all)) i;
      stores = (let c = within.count in let k = keeps.stores in omega (arith, c, k));
      marks = (let l = ap length marks.is in let m = length-append (distinct_onto same_name [] (flat_map mark_names (flat_map items_of few))) marks.more in let k = keeps.marks in omega (arith, l, m, k));
      records = (let l = ap sum records.is in let m = sum_append (map (records_of_statement known) few) records.more in let k = keeps.records in omega (arith, l, m, k));
    }

-- a statement with few items
abbrev pub IsShort : Known → Statement → Type 0
IsShort known statement = (is_long_context statement ≡ false) × (is_long_output known statement ≡ false)

none-passed : (known : Known) (through : List Statement) (statement : Statement) → KeepsLimits known through → IsShort known statement → limit_code known through statement ≡ None
none-passed known through statement keeps short =
    let r22 = (C22, have_many_records known through) ∷ [] in
    let r21 = (C21, have_many_marks through) ∷ r22 in
    let r19 = (C19, are_many_stores (sizes known through)) ∷ r21 in
    let r18 = (C18, have_many_elements (sizes known through)) ∷ r19 in
    let r17 = (C17, is_long_output known statement) ∷ r18 in
    no-broken C16 (is_long_context statement) r17 short.0
    (no-broken C17 (is_long_output known statement) r18 short.1
    (no-broken C18 (have_many_elements (sizes known through)) r19 keeps.elements
    (no-broken C19 (are_many_stores (sizes known through)) r21 (le-ltb STORES (length (sizes known through)) keeps.stores)
    (no-broken C21 (have_many_marks through) r22 (le-ltb DEADKEYS (mark_count through) keeps.marks)
    (no-broken C22 (have_many_records known through) [] (le-ltb RECORDS (all_records known through) keeps.records) refl)))))

pub no_limit_passed : (known : Known) (before statements : List Statement) → KeepsLimits known (before ++ statements) → AllByRecursion (IsShort known) statements
    → first_of (statement_refusal known) before statements ≡ None
no_limit_passed known before [] keeps short = refl
no_limit_passed known before (statement ∷ statements) keeps short =
    let through : List Statement = before ++ statement ∷ [] in
    let again : before ++ statement ∷ statements ≡ through ++ statements = sym (append_assoc before (statement ∷ []) statements) in
    let keeps_now : KeepsLimits known (through ++ statements) = subst (KeepsLimits known) again keeps in
    no-earlier (statement_refusal known before statement) (first_of (statement_refusal known) through statements)
    (no-line (line_of statement) (limit_code known through statement)
    (none-passed known through statement (limits-at known through (through ++ statements) (record { more = statements; is = refl }) keeps_now) short.0))
    (no_limit_passed known through statements keeps_now short.1)

pub few_groups_refused : (before groups : List GroupDef) → length (before ++ groups) ≤ GROUPS → first_of group_refusal before groups ≡ None
few_groups_refused before [] few = refl
few_groups_refused before (group ∷ groups) few =
    let through : List GroupDef = before ++ group ∷ [] in
    let again : before ++ group ∷ groups ≡ through ++ groups = sym (append_assoc before (group ∷ []) groups) in
    let l = ap length again in let m = length-append through groups in
    no-earlier (group_refusal before group) (first_of group_refusal through groups)
    (no-line group.line (broken ((C20, are_many_groups through) ∷ []))
    (no-broken C20 (are_many_groups through) [] (le-ltb GROUPS (length through) (omega (arith, few, l, m))) refl))
    (few_groups_refused through groups (omega (arith, few, l)))
