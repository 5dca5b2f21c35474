-- An option of a file that a program compiles to is the first store with a name that some item uses as an option.
use Rattle.std.proofs.Common.{◌≡◌, ℕ, zero, suc, Bool, true, false, ◌||◌, List, [], ◌∷◌, ◌++◌, cond, Option, Some, None, refl, sym, ◌∙◌, ap, if◌then◌else◌}
use Rattle.std.specs.Prelude.{All, filter, find, flat_map, nat_eq, option_map, option_to_list, position, take}
use Rattle.std.specs.List.{list_any, AllByRecursion}
use Rattle.std.proofs.lemmas.Bool.{eqb-true, or_left, or_right}
use Rattle.std.proofs.lemmas.List.Elements.{All-head, All-tail}
use Rattle.std.proofs.lemmas.List.Folds.{list_any-append}
use Rattle.std.proofs.lemmas.Option.{none-some}
use Rattle.kmn_base.specs.Names.{same_name}
use Rattle.rule_model.specs.declared.program.SrcItem.{SrcItem}
use Rattle.rule_model.specs.declared.program.SrcItem.TheVariants as source
use Rattle.rule_model.specs.declared.program.RuleDef.{RuleDef}
use Rattle.rule_model.specs.declared.program.GroupDef.{GroupDef}
use Rattle.rule_model.specs.declared.program.Program.{Program}
use Rattle.rule_model.specs.declared.tables.Store.{Store}
use Rattle.rule_model.specs.Naming.{stores_of, rule_items, all_rules}
use Rattle.rule_model.specs.Src.{pattern_uses, output_uses, rule_uses, group_uses, numbers_named, src_options, is_plain, is_on_match, is_on_nomatch}
use Rattle.virtual_keys.proofs.NamePlaces.{position_cons}
use Rattle.store_table.specs.Names.{is_named}
use Rattle.store_table.specs.Known.{known, option_named, rule_options}
use Rattle.virtual_keys.proofs.NamePlaces.{some_place}
use Rattle.item_checker.specs.Items.{is_option}
use Rattle.kmn_parser.specs.Spelled.{IsSpelledName}
use Rattle.decompile_program.proofs.Choosing.{all_parts, all_join, all_split, all_weaker, all_both}
use Rattle.kmx_decompiler.specs.Written.{IsWrittenItem, IsWrittenRule, WasWritten}
use Rattle.kmx_decompiler.proofs.GroupRules.{rules_of}

-- if all gathered names of each item have a property, all gathered names of the items have it
module _ (P : List ℕ → Type 0) where
  gathered : {X : Type 0} (f : X → List (List ℕ)) (xs : List X) → AllByRecursion (λ x. AllByRecursion P (f x)) xs → AllByRecursion P (flat_map f xs)
  gathered f [] h = tt
  gathered f (x ∷ xs) h = all_join P (f x) (flat_map f xs) h.0 (gathered f xs h.1)

  abbrev HasOptions : SrcItem → Type 0
  HasOptions item = AllByRecursion P (option_named item)

  pattern-has : (item : SrcItem) → HasOptions item → AllByRecursion P (pattern_uses item)
  pattern-has (source.Equal store value) h = h
  pattern-has (source.Unequal store value) h = h
  pattern-has item h = tt

  output-has : (item : SrcItem) → HasOptions item → AllByRecursion P (output_uses item)
  output-has (source.Set store value) h = h
  output-has (source.Save store) h = h
  output-has (source.Reset store) h = h
  output-has item h = tt

  rule-has : (rule : RuleDef) → AllByRecursion P (rule_options rule) → AllByRecursion P (rule_uses rule)
  rule-has rule h =
      let items = all_split P option_named (rule_items rule) h in
      let one = all_parts HasOptions rule.context (option_to_list rule.key ++ rule.output) items in
      let two = all_parts HasOptions (option_to_list rule.key) rule.output one.1 in
      all_join P (flat_map pattern_uses rule.context) (flat_map output_uses rule.output)
      (gathered pattern_uses rule.context (all_weaker HasOptions (λ (item : SrcItem). AllByRecursion P (pattern_uses item)) pattern-has rule.context one.0))
      (gathered output_uses rule.output (all_weaker HasOptions (λ (item : SrcItem). AllByRecursion P (output_uses item)) output-has rule.output two.1))

  abbrev HasUses : RuleDef → Type 0
  HasUses rule = AllByRecursion P (rule_uses rule)

  some-kept : (test : RuleDef → Bool) (rules : List RuleDef) → AllByRecursion HasUses rules → AllByRecursion HasUses (filter test rules)
  some-kept test [] h = tt
  some-kept test (rule ∷ rules) h = by (test rule) (some-kept test rules h.1)
    where
      by : (b : Bool) → AllByRecursion HasUses (filter test rules) → AllByRecursion HasUses (if b then rule ∷ filter test rules else filter test rules)
      by true rest = (h.0, rest)
      by false rest = rest

  first-kept : (test : RuleDef → Bool) (rules : List RuleDef) → AllByRecursion HasUses rules → AllByRecursion HasUses (option_to_list (find test rules))
  first-kept test [] h = tt
  first-kept test (rule ∷ rules) h = by (test rule) (first-kept test rules h.1)
    where
      by : (b : Bool) → AllByRecursion HasUses (option_to_list (find test rules)) → AllByRecursion HasUses (option_to_list (if b then Some rule else find test rules))
      by true rest = (h.0, tt)
      by false rest = rest

  group-has : (group : GroupDef) → AllByRecursion HasUses group.rules → AllByRecursion P (group_uses group)
  group-has group h =
      all_join P (flat_map rule_uses (filter is_plain group.rules))
      (flat_map rule_uses (option_to_list (find is_on_match group.rules)) ++ flat_map rule_uses (option_to_list (find is_on_nomatch group.rules)))
      (gathered rule_uses (filter is_plain group.rules) (some-kept is_plain group.rules h))
      (all_join P (flat_map rule_uses (option_to_list (find is_on_match group.rules))) (flat_map rule_uses (option_to_list (find is_on_nomatch group.rules)))
      (gathered rule_uses (option_to_list (find is_on_match group.rules)) (first-kept is_on_match group.rules h))
      (gathered rule_uses (option_to_list (find is_on_nomatch group.rules)) (first-kept is_on_nomatch group.rules h)))

  groups-have : (groups : List GroupDef) → AllByRecursion HasUses (flat_map rules_of groups) → AllByRecursion P (flat_map group_uses groups)
  groups-have [] h = tt
  groups-have (group ∷ groups) h =
      let parts = all_parts HasUses group.rules (flat_map rules_of groups) h in
      all_join P (group_uses group) (flat_map group_uses groups) (group-has group parts.0) (groups-have groups parts.1)

  uses-have : (groups : List GroupDef) → AllByRecursion P (flat_map rule_options (flat_map rules_of groups)) → AllByRecursion P (flat_map group_uses groups)
  uses-have groups h =
      groups-have groups
      (all_weaker (λ (rule : RuleDef). AllByRecursion P (rule_options rule)) HasUses rule-has (flat_map rules_of groups) (all_split P rule_options (flat_map rules_of groups) h))

-- the options that a written item names have names of a source
item-spelled : (item : SrcItem) → IsWrittenItem item → AllByRecursion IsSpelledName (option_named item)
item-spelled (source.Equal store value) ok = (ok.0, tt)
item-spelled (source.Unequal store value) ok = (ok.0, tt)
item-spelled (source.Set store value) ok = (ok.0, tt)
item-spelled (source.Save store) ok = (ok, tt)
item-spelled (source.Reset store) ok = (ok, tt)
item-spelled item ok = tt

items-spelled : (items : List SrcItem) → All IsWrittenItem items → AllByRecursion IsSpelledName (flat_map option_named items)
items-spelled [] ok = tt
items-spelled (item ∷ items) ok =
    all_join IsSpelledName (option_named item) (flat_map option_named items) (item-spelled item (All-head IsWrittenItem item items ok)) (items-spelled items (All-tail IsWrittenItem item items ok))

rules-spelled : (rules : List RuleDef) → All IsWrittenRule rules → AllByRecursion IsSpelledName (flat_map rule_options rules)
rules-spelled [] ok = tt
rules-spelled (rule ∷ rules) ok =
    all_join IsSpelledName (rule_options rule) (flat_map rule_options rules) (items-spelled (rule_items rule) (All-head IsWrittenRule rule rules ok).items) (rules-spelled rules (All-tail IsWrittenRule rule rules ok))

-- all names that are the same as a name are among names
abbrev IsAmong : List (List ℕ) → List ℕ → Type 0
IsAmong names a = (x : List ℕ) → same_name x a ≡ true → list_any (same_name x) names ≡ true

all-among : (names : List (List ℕ)) → AllByRecursion (IsAmong names) names
all-among [] = tt
all-among (a ∷ names) = (
  (λ x e. or_left (same_name x a) (list_any (same_name x) names) e),
  all_weaker (IsAmong names) (IsAmong (a ∷ names)) (λ b h x e. or_right (same_name x a) (list_any (same_name x) names) (h x e)) names (all-among names),
)

-- a name that an item uses as an option: it is a name of a source, and all names that are the same are options
pub record IsUsedName (program : Program) (a : List ℕ) : Type 0 where
  pub named : IsSpelledName a
  pub option : (x : List ℕ) → same_name x a ≡ true → is_option (known program) x ≡ true

all-used : (program : Program) → WasWritten program → AllByRecursion (IsUsedName program) (flat_map group_uses program.groups)
unfolding known is_named
all-used program written =
    let options : List (List ℕ) = flat_map rule_options (all_rules program) in
    uses-have (IsUsedName program) program.groups
    (all_weaker (λ (a : List ℕ). IsSpelledName a × IsAmong options a) (IsUsedName program) (λ a h. record { named = h.0; option = λ x e. some_place (same_name x) options ∙ h.1 x e }) options
    (all_both IsSpelledName (IsAmong options) options (rules-spelled (all_rules program) written.rules) (all-among options)))

-- an option is the first store with a name that an item uses as an option
pub record IsUsed (program : Program) (n : ℕ) : Type 0 where
  pub name : List ℕ
  pub used : IsUsedName program name
  pub first : position (λ (s : Store). same_name s.name name) (stores_of program) ≡ Some n

either : {X : Type 0} (a b : Bool) → (a || b) ≡ true → (a ≡ true → X) → (b ≡ true → X) → X
either true b h f g = f refl
either false b h f g = g h

that-number : (n : ℕ) (o : Option ℕ) → list_any (nat_eq n) (option_to_list o) ≡ true → o ≡ Some n
that-number n None h = absurd (cc)
that-number n (Some k) h = either (nat_eq n k) false h (λ e. ap Some (sym (eqb-true n k e))) (λ e. absurd (cc))

found-used : (program : Program) (n : ℕ) (names : List (List ℕ)) → AllByRecursion (IsUsedName program) names → list_any (nat_eq n) (flat_map (numbers_named (stores_of program)) names) ≡ true → IsUsed program n
found-used program n [] all h = absurd (cc)
found-used program n (a ∷ names) all h =
    either (list_any (nat_eq n) (numbers_named (stores_of program) a)) (list_any (nat_eq n) (flat_map (numbers_named (stores_of program)) names))
    (sym (list_any-append (nat_eq n) (numbers_named (stores_of program) a) (flat_map (numbers_named (stores_of program)) names)) ∙ h)
    (λ e. record { name = a; used = all.0; first = that-number n (position (λ (s : Store). same_name s.name a) (stores_of program)) e })
    (λ e. found-used program n names all.1 e)

pub option_used : (program : Program) → WasWritten program → (n : ℕ) → list_any (nat_eq n) (src_options program) ≡ true → IsUsed program n
unfolding src_options
option_used program written n h = found-used program n (flat_map group_uses program.groups) (all-used program written) h

-- no element before the first place that passes a test passes it
pub none_before : {X : Type 0} (p : X → Bool) (xs : List X) (k : ℕ) → position p xs ≡ Some k → AllByRecursion (λ x. p x ≡ false) (take k xs)
none_before p [] k e = absurd (none-some k e)
none_before p (x ∷ xs) k e = by (p x) refl (position p xs) refl k (sym (position_cons p x xs) ∙ e) (λ j at. none_before p xs j at)
  where
    by : (b : Bool) → p x ≡ b → (o : Option ℕ) → position p xs ≡ o → (k : ℕ) → cond b (Some 0) (option_map suc o) ≡ Some k
        → ((j : ℕ) → position p xs ≡ Some j → AllByRecursion (λ y. p y ≡ false) (take j xs)) → AllByRecursion (λ y. p y ≡ false) (take k (x ∷ xs))
    by true is o at zero f more = tt
    by true is o at (suc k) f more = absurd (cc)
    by false is None at k f more = absurd (cc)
    by false is (Some j) at zero f more = absurd (cc)
    by false is (Some j) at (suc k) f more = let same : j ≡ k = cc in (is, more k (at ∙ ap Some same))
