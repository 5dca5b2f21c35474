-- A store that no item uses as an option is not an option in the meaning of the program.
use Rattle.std.proofs.Common.{◌≡◌, ℕ, zero, suc, ◌+◌, Bool, true, false, not, cond, List, [], ◌∷◌, ◌++◌, filter, get_or, Option, Some, None, refl, sym, ap, ◌∙◌, arith, is_some, if◌then◌else◌, true≢false}
use Rattle.std.specs.Prelude.{slice_get, position, option_map, ◌&&◌, ◌||◌, flat_map, nat_eq, find, option_to_list}
use Rattle.std.specs.List.{list_any}
use Rattle.std.specs.Str.{str_to_ascii_lowercase}
use Rattle.std.specs.Cmp.Lexicographic.{nat_list_eq_equiv}
use Rattle.std.proofs.lemmas.List.Folds.{list_any-append}
use Rattle.std.proofs.lemmas.List.Quantifiers.{position-Some}
use Rattle.kmn_base.specs.Names.{same_name}
use Rattle.kmn_base.proofs.Elements.{any_flat_map}
use Rattle.rule_model.specs.declared.program.SrcItem.{SrcItem}
use Rattle.rule_model.specs.declared.program.SrcItem.TheVariants as source
use Rattle.rule_model.specs.declared.program.RuleDef.{RuleDef}
use Rattle.rule_model.specs.declared.program.GroupDef.{GroupDef}
use Rattle.rule_model.specs.declared.program.Program.{Program}
use Rattle.rule_model.specs.declared.tables.Store.{Store}
use Rattle.rule_model.specs.Keyboard.{StoreMeaning}
use Rattle.rule_model.specs.Content.{option_of, option_at, options_before}
use Rattle.rule_model.specs.Naming.{stores_of, rule_items, all_rules}
use Rattle.rule_model.specs.Src.{pattern_uses, output_uses, rule_uses, group_uses, numbers_named, src_options, is_plain, is_on_match, is_on_nomatch}
use Rattle.rule_model.specs.Tab.{with_options}
use Rattle.compile_laws.specs.WellNamed.{is_fixed}
use Rattle.store_table.specs.Names.{is_named}
use Rattle.store_table.specs.Known.{known, option_named, rule_options}
use Rattle.item_checker.specs.Items.{is_option}
use Rattle.virtual_keys.proofs.NamePlaces.{position_cons, some_place}

-- of two tests the second holds wherever the first does
abbrev Implies : Bool → Bool → Type 0
Implies a b = a ≡ true → b ≡ true

or_implies : (a b c d : Bool) → Implies a c → Implies b d → Implies (a || b) (c || d)
or_implies true b c d f g h = ap (λ x. x || d) (f refl)
or_implies false b true d f g h = refl
or_implies false b false d f g h = g h

any_implies : {X : Type 0} (p q : X → Bool) → ((x : X) → Implies (p x) (q x)) → (xs : List X) → Implies (list_any p xs) (list_any q xs)
any_implies p q f [] h = h
any_implies p q f (x ∷ xs) h = or_implies (p x) (list_any p xs) (q x) (list_any q xs) (f x) (any_implies p q f xs) h

or_right : (a b : Bool) → Implies b (a || b)
or_right true b h = refl
or_right false b h = h

or_same : (a b c : Bool) → Implies a c → Implies b c → Implies (a || b) c
or_same true b c f g h = f refl
or_same false b c f g h = g h

pattern_named : (item : SrcItem) (q : List ℕ → Bool) → Implies (list_any q (pattern_uses item)) (list_any q (option_named item))
pattern_named (source.Equal store value) q h = h
pattern_named (source.Unequal store value) q h = h
pattern_named item q h = absurd (cc)

output_named : (item : SrcItem) (q : List ℕ → Bool) → Implies (list_any q (output_uses item)) (list_any q (option_named item))
output_named (source.Set store value) q h = h
output_named (source.Save store) q h = h
output_named (source.Reset store) q h = h
output_named item q h = absurd (cc)

module _ (q : List ℕ → Bool) where
  abbrev uses_any : SrcItem → Bool
  uses_any item = list_any q (option_named item)

  rule_named : (rule : RuleDef) → Implies (list_any q (rule_uses rule)) (list_any uses_any (rule_items rule))
  rule_named rule h =
      let parts : (list_any q (flat_map pattern_uses rule.context) || list_any q (flat_map output_uses rule.output)) ≡ true =
      sym (list_any-append q (flat_map pattern_uses rule.context) (flat_map output_uses rule.output)) ∙ h in
      list_any-append uses_any rule.context (option_to_list rule.key ++ rule.output)
      ∙ or_implies _ _ (list_any uses_any rule.context) (list_any uses_any (option_to_list rule.key ++ rule.output))
      (λ g. any_implies (λ x. list_any q (pattern_uses x)) uses_any (λ x. pattern_named x q) rule.context (sym (any_flat_map q pattern_uses rule.context) ∙ g))
      (λ g. list_any-append uses_any (option_to_list rule.key) rule.output ∙ or_right (list_any uses_any (option_to_list rule.key)) (list_any uses_any rule.output)
      (any_implies (λ x. list_any q (output_uses x)) uses_any (λ x. output_named x q) rule.output (sym (any_flat_map q output_uses rule.output) ∙ g)))
      parts

  abbrev rule_any : RuleDef → Bool
  rule_any rule = list_any q (rule_uses rule)

  any_filter : {X : Type 0} (p test : X → Bool) (xs : List X) → Implies (list_any p (filter test xs)) (list_any p xs)
  any_filter p test [] h = h
  any_filter p test (x ∷ xs) h = by (test x) (any_filter p test xs) h
    where
      by : (b : Bool) → Implies (list_any p (filter test xs)) (list_any p xs) → Implies (list_any p (if b then x ∷ filter test xs else filter test xs)) (p x || list_any p xs)
      by true rest g = or_implies (p x) (list_any p (filter test xs)) (p x) (list_any p xs) (λ k. k) rest g
      by false rest g = or_right (p x) (list_any p xs) (rest g)

  any_find : {X : Type 0} (p test : X → Bool) (xs : List X) → Implies (list_any p (option_to_list (find test xs))) (list_any p xs)
  any_find p test [] h = h
  any_find p test (x ∷ xs) h = by (test x) (any_find p test xs) h
    where
      by : (b : Bool) → Implies (list_any p (option_to_list (find test xs))) (list_any p xs) → Implies (list_any p (option_to_list (if b then Some x else find test xs))) (p x || list_any p xs)
      by true rest g = or_implies (p x) false (p x) (list_any p xs) (λ k. k) (λ k. absurd (cc)) g
      by false rest g = or_right (p x) (list_any p xs) (rest g)

  rules_named : (rules : List RuleDef) → Implies (list_any q (flat_map rule_uses rules)) (list_any rule_any rules)
  rules_named rules h = sym (any_flat_map q rule_uses rules) ∙ h

  group_named : (group : GroupDef) → Implies (list_any q (group_uses group)) (list_any rule_any group.rules)
  group_named group h =
      let plain = flat_map rule_uses (filter is_plain group.rules) in
      let matched = flat_map rule_uses (option_to_list (find is_on_match group.rules)) in
      let unmatched = flat_map rule_uses (option_to_list (find is_on_nomatch group.rules)) in
      or_same (list_any q plain) (list_any q (matched ++ unmatched)) (list_any rule_any group.rules)
      (λ g. any_filter rule_any is_plain group.rules (rules_named (filter is_plain group.rules) g))
      (λ g. or_same (list_any q matched) (list_any q unmatched) (list_any rule_any group.rules)
      (λ k. any_find rule_any is_on_match group.rules (rules_named (option_to_list (find is_on_match group.rules)) k))
      (λ k. any_find rule_any is_on_nomatch group.rules (rules_named (option_to_list (find is_on_nomatch group.rules)) k))
      (sym (list_any-append q matched unmatched) ∙ g))
      (sym (list_any-append q plain (matched ++ unmatched)) ∙ h)

  -- each name that a group uses is one that some item uses
  all_named : (program : Program) → Implies (list_any q (flat_map group_uses program.groups)) (list_any q (known program).options)
  unfolding known
  all_named program h =
      any_flat_map q rule_options (all_rules program)
      ∙ any_implies rule_any (λ r. list_any q (rule_options r)) (λ r g. any_flat_map q option_named (rule_items r) ∙ rule_named r g) (all_rules program)
      (any_flat_map rule_any (λ (g : GroupDef). g.rules) program.groups
      ∙ any_implies (λ g. list_any q (group_uses g)) (λ g. list_any rule_any g.rules) group_named program.groups (sym (any_flat_map q group_uses program.groups) ∙ h))

abbrev named : List ℕ → Store → Bool
named name store = same_name store.name name

same_store : (xs : List Store) (a b : List ℕ) (k : ℕ) → position (named a) xs ≡ Some k → position (named b) xs ≡ Some k → same_name a b ≡ true
unfolding same_name
same_store [] a b k here there = absurd (cc)
same_store (x ∷ xs) a b k here there =
    let at : List ℕ = (get_or (x ∷ xs) k x).name in
    let one : same_name at a ≡ true = (position-Some (named a) (x ∷ xs) k x here).1 in
    let other : same_name at b ≡ true = (position-Some (named b) (x ∷ xs) k x there).1 in
    sym (nat_list_eq_equiv.congr (str_to_ascii_lowercase at) (str_to_ascii_lowercase a) (str_to_ascii_lowercase b) one) ∙ other

number_is : (xs : List Store) (name wanted : List ℕ) (k : ℕ) → position (named name) xs ≡ Some k → Implies (list_any (nat_eq k) (numbers_named xs wanted)) (same_name name wanted)
number_is xs name wanted k here h = by (position (named wanted) xs) refl h
  where
    by : (o : Option ℕ) → position (named wanted) xs ≡ o → list_any (nat_eq k) (option_to_list o) ≡ true → same_name name wanted ≡ true
    by None is g = absurd (cc)
    by (Some n) is g =
        let same : k ≡ n = grind (arith, g) in
        same_store xs name wanted k here (is ∙ ap Some (sym same))

any_use : (xs : List Store) (name : List ℕ) (k : ℕ) (uses : List (List ℕ)) → position (named name) xs ≡ Some k → Implies (list_any (nat_eq k) (flat_map (numbers_named xs) uses)) (list_any (same_name name) uses)
any_use xs name k uses here h =
    any_implies (λ wanted. list_any (nat_eq k) (numbers_named xs wanted)) (same_name name) (λ wanted. number_is xs name wanted k here) uses (sym (any_flat_map (nat_eq k) (numbers_named xs) uses) ∙ h)

option_place : (options : List ℕ) (n : ℕ) (name : List ℕ) (xs : List Store) → position (λ (s : StoreMeaning). not s.is_system && same_name s.name name) (with_options options n xs) ≡ position (named name) xs
option_place options n name [] = refl
option_place options n name (x ∷ xs) =
    position_cons (λ (s : StoreMeaning). not s.is_system && same_name s.name name) (record { name = x.name; elements = x.elements; is_option = list_any (nat_eq n) options; is_system = false }) (with_options options (n + 1) xs)
    ∙ ap (λ o. cond (same_name x.name name) (Some 0) (option_map suc o)) (option_place options (n + 1) name xs)
    ∙ sym (position_cons (named name) x xs)

option_flag : (options : List ℕ) (n : ℕ) (xs : List Store) (k : ℕ) (s : StoreMeaning) → slice_get (with_options options n xs) k ≡ Some s → s.is_option ≡ list_any (nat_eq (n + k)) options
option_flag options n [] k s h = absurd (cc)
option_flag options n (x ∷ xs) zero s h =
    let e : n + 0 ≡ n = omega arith in
    ap (λ (o : Option StoreMeaning). elim o [ None ↦ s.is_option | Some t ↦ t.is_option ]) (sym h) ∙ ap (λ m. list_any (nat_eq m) options) (sym e)
option_flag options n (x ∷ xs) (suc k) s h =
    let e : n + 1 + k ≡ n + suc k = omega arith in
    option_flag options (n + 1) xs k s h ∙ ap (λ m. list_any (nat_eq m) options) e

no_use : (used uses : Bool) → Implies used uses → uses ≡ false → used ≡ false
no_use true uses f h = absurd (true≢false (sym (f refl) ∙ h))
no_use false uses f h = refl

not_used : (program : Program) (name : List ℕ) (k : ℕ) → is_option (known program) name ≡ false → position (named name) (stores_of program) ≡ Some k → list_any (nat_eq k) (src_options program) ≡ false
unfolding known is_named src_options
not_used program name k h is =
    no_use (list_any (nat_eq k) (flat_map (numbers_named (stores_of program)) (flat_map group_uses program.groups))) (list_any (same_name name) (known program).options)
    (λ g. all_named (same_name name) program (any_use (stores_of program) name k (flat_map group_uses program.groups) is g))
    (sym (some_place (same_name name) (known program).options) ∙ h)

not_flagged : (stores : List StoreMeaning) (k n : ℕ) (o : Option StoreMeaning) → ((s : StoreMeaning) → o ≡ Some s → s.is_option ≡ false) → not (is_some (option_of n o)) ≡ true
not_flagged stores k n None f = refl
not_flagged stores k n (Some s) f = rw (f s refl) refl

-- if a store is not an option for the checker, it is not an option in the meaning
pub fixed : (program : Program) (name : List ℕ) → is_option (known program) name ≡ false → is_fixed program name ≡ true
fixed program name h =
    ap (λ o. not (is_some (option_at (with_options (src_options program) 0 (stores_of program)) o))) (option_place (src_options program) 0 name (stores_of program))
    ∙ by (position (named name) (stores_of program)) refl
  where
    by : (o : Option ℕ) → position (named name) (stores_of program) ≡ o → not (is_some (option_at (with_options (src_options program) 0 (stores_of program)) o)) ≡ true
    by None is = refl
    by (Some k) is =
        let stores = with_options (src_options program) 0 (stores_of program) in
        let zero_more : 0 + k ≡ k = omega arith in
        not_flagged stores k (options_before k stores) (slice_get stores k)
        (λ (s : StoreMeaning) at. option_flag (src_options program) 0 (stores_of program) k s at ∙ ap (λ n. list_any (nat_eq n) (src_options program)) zero_more ∙ not_used program name k h is)
