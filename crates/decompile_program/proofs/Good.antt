-- The properties of the items of tables that can be written out.
use Rattle.std.proofs.Common.{◌≡◌, ℕ, ◌<◌, ◌≤◌, Bool, true, false, ◌||◌, List, [], ◌∷◌, length, refl, ap, arith}
use Rattle.std.specs.Prelude.{nat_eq, flat_map, fold, max}
use Rattle.std.specs.List.{AllByRecursion, list_any}
use Rattle.std.proofs.Math.Nat.{le-max_left, le-max_right}
use Rattle.std.proofs.Common.{arith}
use Rattle.std.proofs.lemmas.Bool.{eq-eqb, or_right}
use Rattle.std.proofs.lemmas.List.Elements.{recursion_from_All}
use Rattle.kmn_base.specs.declared.items.Element.{Element}
use Rattle.kmn_base.specs.declared.items.Element.TheVariants as element
use Rattle.kmn_base.specs.declared.keys.RuleKey.{RuleKey}
use Rattle.kmn_base.specs.declared.keys.RuleKey.TheVariants as key
use Rattle.kmn_base.specs.Spelling.{IsSpellable}
use Rattle.rule_model.specs.declared.tables.Pat.{Pat}
use Rattle.rule_model.specs.declared.tables.Pat.TheVariants as pattern
use Rattle.rule_model.specs.declared.tables.Out.{Out}
use Rattle.rule_model.specs.declared.tables.Out.TheVariants as output
use Rattle.rule_model.specs.declared.tables.Rule.{Rule}
use Rattle.rule_model.specs.declared.tables.Store.{Store}
use Rattle.rule_model.specs.declared.tables.Group.{Group}
use Rattle.rule_model.specs.declared.tables.Tables.{Tables}
use Rattle.rule_model.specs.Tab.{tab_options, tab_dictionary, pattern_options, output_options, group_options}
use Rattle.kmx_format.specs.FileUnits.{unit_item_of_element, unit_item_of_pattern, unit_item_of_output}
use Rattle.kmx_format.specs.Writable.{groups_of_output, IsWritableRule, IsWritableKey}
use Rattle.kmx_format.specs.Playable.{IsPlayableStore, IsPlayableGroup, IsPlayable}
use Rattle.decompile_program.specs.Names.{named_by_pattern, named_by_output, named_by_group, named_stores}
use Rattle.decompile_program.specs.Marks.{element_marks, pattern_marks, output_marks, group_marks, store_marks, table_marks, greatest_mark}
use Rattle.decompile_program.specs.WrittenOut.{has_falling_contexts, element_keys, key_codes_of, store_keys, rule_keys, group_keys, table_keys, pattern_values, output_values, group_values, table_values, has_key_name, has_characters, CanBeWrittenOut}
use Rattle.decompile_program.proofs.Choosing.{all_parts, all_split, all_both, all_weaker}
use Rattle.decompile_program.proofs.Parts.{Each, groups-each}

-- a number is that of a store that items name, an option, a value, a deadkey, a key code or a group
abbrev pub IsNamed : Tables → ℕ → Type 0
IsNamed t n = list_any (nat_eq n) (named_stores t) ≡ true

abbrev pub IsOption : Tables → ℕ → Type 0
IsOption t n = list_any (nat_eq n) (tab_options t) ≡ true

abbrev pub IsValue : Tables → ℕ → Type 0
IsValue t n = has_characters t n ≡ true

abbrev pub IsMark : Tables → ℕ → Type 0
IsMark t m = (0 < m) × (m ≤ greatest_mark t)

abbrev pub IsKey : Tables → ℕ → Type 0
IsKey t code = has_key_name (tab_dictionary t.stores) code ≡ true

abbrev pub IsGroup : Tables → ℕ → Type 0
IsGroup t g = g < length t.groups

pub record GoodPattern (t : Tables) (x : Pat) : Type 0 where
  pub named : AllByRecursion (IsNamed t) (named_by_pattern x)
  pub options : AllByRecursion (IsOption t) (pattern_options x)
  pub values : AllByRecursion (IsValue t) (pattern_values x)
  pub marks : AllByRecursion (IsMark t) (pattern_marks x)

pub record GoodOutput (t : Tables) (x : Out) : Type 0 where
  pub named : AllByRecursion (IsNamed t) (named_by_output x)
  pub options : AllByRecursion (IsOption t) (output_options x)
  pub values : AllByRecursion (IsValue t) (output_values x)
  pub marks : AllByRecursion (IsMark t) (output_marks x)
  pub groups : AllByRecursion (IsGroup t) (groups_of_output x)

pub record GoodElement (t : Tables) (e : Element) : Type 0 where
  pub marks : AllByRecursion (IsMark t) (element_marks e)
  pub keys : AllByRecursion (IsKey t) (element_keys e)

pub record GoodRule (t : Tables) (using : Bool) (r : Rule) : Type 0 where
  pub context : AllByRecursion (GoodPattern t) r.context
  pub output : AllByRecursion (GoodOutput t) r.output
  pub keys : AllByRecursion (IsKey t) (key_codes_of r.key)
  pub none : using ≡ false → r.key ≡ key.Any

pub record GoodGroup (t : Tables) (g : Group) : Type 0 where
  pub rules : AllByRecursion (GoodRule t g.using_keys) g.rules
  pub on_match : AllByRecursion (GoodOutput t) g.on_match
  pub on_nomatch : AllByRecursion (GoodOutput t) g.on_nomatch
  pub order : has_falling_contexts g.rules ≡ true

-- each number of a list is in the list
pub members : (xs : List ℕ) → AllByRecursion (λ n. list_any (nat_eq n) xs ≡ true) xs
members [] = tt
members (x ∷ xs) = (
  ap (λ b. b || list_any (nat_eq x) xs) (eq-eqb x x refl),
  all_weaker (λ n. list_any (nat_eq n) xs ≡ true) (λ n. (nat_eq n x || list_any (nat_eq n) xs) ≡ true) (λ n h. or_right (nat_eq n x) (list_any (nat_eq n) xs) h) xs (members xs),
)

max-first : (xs : List ℕ) (a : ℕ) → a ≤ fold max a xs
max-first [] a = omega arith
max-first (x ∷ xs) a = let one = le-max_left a x in let more = max-first xs (max a x) in omega (arith, one, more)

-- each number of a list is at most the greatest
below_greatest : (xs : List ℕ) (a : ℕ) → AllByRecursion (λ m. m ≤ fold max a xs) xs
below_greatest [] a = tt
below_greatest (x ∷ xs) a = (let one = le-max_right a x in let more = max-first xs (max a x) in omega (arith, one, more), below_greatest xs (max a x))

-- deadkey numbers are greater than 0
some-pattern : (x : Pat) → IsSpellable (unit_item_of_pattern x) → AllByRecursion (λ m. 0 < m) (pattern_marks x)
some-pattern (pattern.Mark m) h = (h.0, tt)
some-pattern x h = tt

some-output : (x : Out) → IsSpellable (unit_item_of_output x) → AllByRecursion (λ m. 0 < m) (output_marks x)
some-output (output.Mark m) h = (h.0, tt)
some-output x h = tt

some-element : (e : Element) → IsSpellable (unit_item_of_element e) → AllByRecursion (λ m. 0 < m) (element_marks e)
some-element (element.Mark m) h = (h.0, tt)
some-element e h = tt

module _ (t : Tables) where
  abbrev AtMost : ℕ → Type 0
  AtMost m = m ≤ greatest_mark t

  good-patterns : (xs : List Pat) → AllByRecursion (λ x. AllByRecursion (IsNamed t) (named_by_pattern x)) xs → AllByRecursion (λ x. AllByRecursion (IsOption t) (pattern_options x)) xs
      → AllByRecursion (λ x. AllByRecursion (IsValue t) (pattern_values x)) xs → AllByRecursion (λ x. AllByRecursion AtMost (pattern_marks x)) xs
      → AllByRecursion (λ x. IsSpellable (unit_item_of_pattern x)) xs → AllByRecursion (GoodPattern t) xs
  good-patterns [] n o v m s = tt
  good-patterns (x ∷ xs) n o v m s = (
    record { named = n.0; options = o.0; values = v.0; marks = all_both (λ m. 0 < m) AtMost (pattern_marks x) (some-pattern x s.0) m.0 },
    good-patterns xs n.1 o.1 v.1 m.1 s.1,
  )

  good-outputs : (xs : List Out) → AllByRecursion (λ x. AllByRecursion (IsNamed t) (named_by_output x)) xs → AllByRecursion (λ x. AllByRecursion (IsOption t) (output_options x)) xs
      → AllByRecursion (λ x. AllByRecursion (IsValue t) (output_values x)) xs → AllByRecursion (λ x. AllByRecursion AtMost (output_marks x)) xs
      → AllByRecursion (λ x. IsSpellable (unit_item_of_output x)) xs → AllByRecursion (λ x. AllByRecursion (IsGroup t) (groups_of_output x)) xs → AllByRecursion (GoodOutput t) xs
  good-outputs [] n o v m s g = tt
  good-outputs (x ∷ xs) n o v m s g = (
    record { named = n.0; options = o.0; values = v.0; marks = all_both (λ m. 0 < m) AtMost (output_marks x) (some-output x s.0) m.0; groups = g.0 },
    good-outputs xs n.1 o.1 v.1 m.1 s.1 g.1,
  )

  no-key : (using : Bool) (k : RuleKey) → IsWritableKey using k → using ≡ false → k ≡ key.Any
  no-key true k h e = let bad : true ≡ false = e in absurd cc
  no-key false key.Any h e = refl
  no-key false (key.Char c) h e = absurd h
  no-key false (key.Virtual flags code) h e = absurd h

  good-rules : (using : Bool) (rules : List Rule)
      → AllByRecursion (λ (r : Rule). AllByRecursion (λ x. AllByRecursion (IsNamed t) (named_by_pattern x)) r.context) rules
      → AllByRecursion (λ (r : Rule). AllByRecursion (λ x. AllByRecursion (IsNamed t) (named_by_output x)) r.output) rules
      → AllByRecursion (λ (r : Rule). AllByRecursion (λ x. AllByRecursion (IsOption t) (pattern_options x)) r.context) rules
      → AllByRecursion (λ (r : Rule). AllByRecursion (λ x. AllByRecursion (IsOption t) (output_options x)) r.output) rules
      → AllByRecursion (λ (r : Rule). AllByRecursion (λ x. AllByRecursion (IsValue t) (pattern_values x)) r.context) rules
      → AllByRecursion (λ (r : Rule). AllByRecursion (λ x. AllByRecursion (IsValue t) (output_values x)) r.output) rules
      → AllByRecursion (λ (r : Rule). AllByRecursion (λ x. AllByRecursion AtMost (pattern_marks x)) r.context) rules
      → AllByRecursion (λ (r : Rule). AllByRecursion (λ x. AllByRecursion AtMost (output_marks x)) r.output) rules
      → AllByRecursion (λ (r : Rule). AllByRecursion (IsKey t) (key_codes_of r.key)) rules
      → AllByRecursion (IsWritableRule (length t.stores) (length t.groups) using) rules
      → AllByRecursion (GoodRule t using) rules
  good-rules using [] np nq op oq vp vq mp mq k w = tt
  good-rules using (r ∷ rules) np nq op oq vp vq mp mq k w = (
    record {
      context = good-patterns r.context np.0 op.0 vp.0 mp.0 (recursion_from_All (λ x. IsSpellable (unit_item_of_pattern x)) r.context w.0.context.items);
      output = good-outputs r.output nq.0 oq.0 vq.0 mq.0 (recursion_from_All (λ x. IsSpellable (unit_item_of_output x)) r.output w.0.output.items)
          (all_split (IsGroup t) groups_of_output r.output (recursion_from_All (IsGroup t) (flat_map groups_of_output r.output) w.0.output.groups));
      keys = k.0;
      none = no-key using r.key w.0.key;
    },
    good-rules using rules np.1 nq.1 op.1 oq.1 vp.1 vq.1 mp.1 mq.1 k.1 w.1,
  )

  good-group : (g : Group) → Each (IsNamed t) named_by_pattern named_by_output g → Each (IsOption t) pattern_options output_options g → Each (IsValue t) pattern_values output_values g
      → Each AtMost pattern_marks output_marks g → AllByRecursion (λ (r : Rule). AllByRecursion (IsKey t) (key_codes_of r.key)) g.rules
      → IsPlayableGroup (length t.stores) (length t.groups) g → has_falling_contexts g.rules ≡ true → GoodGroup t g
  good-group g n o v m k p order = record {
    rules = good-rules g.using_keys g.rules n.contexts n.outputs o.contexts o.outputs v.contexts v.outputs m.contexts m.outputs k
        (recursion_from_All (IsWritableRule (length t.stores) (length t.groups) g.using_keys) g.rules p.rules);
    on_match = good-outputs g.on_match n.on_match o.on_match v.on_match m.on_match (recursion_from_All (λ x. IsSpellable (unit_item_of_output x)) g.on_match p.on_match.itself.items)
        (all_split (IsGroup t) groups_of_output g.on_match (recursion_from_All (IsGroup t) (flat_map groups_of_output g.on_match) p.on_match.itself.groups));
    on_nomatch = good-outputs g.on_nomatch n.on_nomatch o.on_nomatch v.on_nomatch m.on_nomatch (recursion_from_All (λ x. IsSpellable (unit_item_of_output x)) g.on_nomatch p.on_nomatch.itself.items)
        (all_split (IsGroup t) groups_of_output g.on_nomatch (recursion_from_All (IsGroup t) (flat_map groups_of_output g.on_nomatch) p.on_nomatch.itself.groups));
    order = order;
  }

  good-groups : (groups : List Group) → AllByRecursion (Each (IsNamed t) named_by_pattern named_by_output) groups → AllByRecursion (Each (IsOption t) pattern_options output_options) groups
      → AllByRecursion (Each (IsValue t) pattern_values output_values) groups → AllByRecursion (Each AtMost pattern_marks output_marks) groups
      → AllByRecursion (λ (g : Group). AllByRecursion (IsKey t) (group_keys g)) groups → AllByRecursion (IsPlayableGroup (length t.stores) (length t.groups)) groups
      → AllByRecursion (λ (g : Group). has_falling_contexts g.rules ≡ true) groups → AllByRecursion (GoodGroup t) groups
  good-groups [] n o v m k p order = tt
  good-groups (g ∷ groups) n o v m k p order =
      (good-group g n.0 o.0 v.0 m.0 (all_split (IsKey t) rule_keys g.rules k.0) p.0 order.0, good-groups groups n.1 o.1 v.1 m.1 k.1 p.1 order.1)

  good-elements : (es : List Element) → AllByRecursion (λ e. AllByRecursion AtMost (element_marks e)) es → AllByRecursion (λ e. AllByRecursion (IsKey t) (element_keys e)) es
      → AllByRecursion (λ e. IsSpellable (unit_item_of_element e)) es → AllByRecursion (GoodElement t) es
  good-elements [] m k s = tt
  good-elements (e ∷ es) m k s =
      (record { marks = all_both (λ m. 0 < m) AtMost (element_marks e) (some-element e s.0) m.0; keys = k.0 }, good-elements es m.1 k.1 s.1)

  good-stores : (stores : List Store) → AllByRecursion (λ (s : Store). AllByRecursion AtMost (store_marks s)) stores → AllByRecursion (λ (s : Store). AllByRecursion (IsKey t) (store_keys s)) stores
      → AllByRecursion IsPlayableStore stores → AllByRecursion (λ (s : Store). AllByRecursion (GoodElement t) s.elements) stores
  good-stores [] m k p = tt
  good-stores (s ∷ stores) m k p = (
    good-elements s.elements (all_split AtMost element_marks s.elements m.0) (all_split (IsKey t) element_keys s.elements k.0)
        (recursion_from_All (λ e. IsSpellable (unit_item_of_element e)) s.elements p.0.elements),
    good-stores stores m.1 k.1 p.1,
  )

  marks-below : AllByRecursion AtMost (table_marks t)
  marks-below = below_greatest (table_marks t) 0

  named-members : AllByRecursion (IsNamed t) (flat_map named_by_group t.groups)
  unfolding named_stores
  named-members = members (named_stores t)

  option-members : AllByRecursion (IsOption t) (flat_map group_options t.groups)
  unfolding tab_options
  option-members = members (tab_options t)

  values-all : CanBeWrittenOut t → AllByRecursion (IsValue t) (flat_map group_values t.groups)
  unfolding table_values
  values-all c = recursion_from_All (IsValue t) (table_values t) c.values

  keys-all : CanBeWrittenOut t → AllByRecursion (IsKey t) (flat_map store_keys t.stores) × AllByRecursion (IsKey t) (flat_map group_keys t.groups)
  unfolding table_keys
  keys-all c = all_parts (IsKey t) (flat_map store_keys t.stores) (flat_map group_keys t.groups) (recursion_from_All (IsKey t) (table_keys t) c.keys)

  marks-all : AllByRecursion AtMost (flat_map store_marks t.stores) × AllByRecursion AtMost (flat_map group_marks t.groups)
  unfolding table_marks
  marks-all = all_parts AtMost (flat_map store_marks t.stores) (flat_map group_marks t.groups) marks-below

  pub groups_good : IsPlayable t → CanBeWrittenOut t → AllByRecursion (GoodGroup t) t.groups
  groups_good p c =
      good-groups t.groups
      (groups-each (IsNamed t) named_by_pattern named_by_output t.groups named-members)
      (groups-each (IsOption t) pattern_options output_options t.groups option-members)
      (groups-each (IsValue t) pattern_values output_values t.groups (values-all c))
      (groups-each AtMost pattern_marks output_marks t.groups marks-all.1)
      (all_split (IsKey t) group_keys t.groups (keys-all c).1)
      (recursion_from_All (IsPlayableGroup (length t.stores) (length t.groups)) t.groups p.groups)
      (recursion_from_All (λ (g : Group). has_falling_contexts g.rules ≡ true) t.groups c.order)

  pub stores_good : IsPlayable t → CanBeWrittenOut t → AllByRecursion (λ (s : Store). AllByRecursion (GoodElement t) s.elements) t.stores
  stores_good p c =
      good-stores t.stores (all_split AtMost store_marks t.stores marks-all.0) (all_split (IsKey t) store_keys t.stores (keys-all c).0)
      (recursion_from_All IsPlayableStore t.stores p.stores)
