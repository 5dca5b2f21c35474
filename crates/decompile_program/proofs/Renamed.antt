-- Each item of tables means the same as the item of the program that it decompiles to.
use Rattle.std.proofs.Common.{◌≡◌, ℕ, Bool, true, false, not, List, [], ◌∷◌, map, Option, None, Some, is_some, refl, sym, ◌∙◌, ap, if◌then◌else◌}
use Rattle.std.specs.Bool.{beq}
use Rattle.std.specs.List.{AllByRecursion}
use Rattle.std.specs.Prelude.{nat_lt, nat_le, ◌&&◌, ◌||◌, bit_or, bit_and, nat_eq, position, option_map}
use Rattle.std.proofs.lemmas.Option.{slice_get-map}
use Rattle.kmn_base.specs.declared.items.Item.TheVariants as item
use Rattle.kmn_base.specs.declared.items.Element.TheVariants as element
use Rattle.virtual_keys.proofs.PositionLemmas.{position-map}
use Rattle.std.specs.Fmt.{decimal}
use Rattle.kmn_base.specs.declared.items.Element.{Element}
use Rattle.kmn_base.specs.declared.items.Item.{Item}
use Rattle.kmn_base.specs.declared.keys.KeyPress.{KeyPress}
use Rattle.std.proofs.lemmas.Nat.{and_or_apart}
use Rattle.virtual_keys.specs.Fits.{has, has_either, shift, caps, no_caps, either_control, left_control, right_control, either_alt, left_alt, right_alt, flags_fit, key_fits}
use Rattle.kmn_base.specs.declared.keys.RuleKey.{RuleKey}
use Rattle.kmn_base.specs.declared.keys.RuleKey.TheVariants as key
use Rattle.rule_model.specs.declared.event_state.EventState.{EventState}
use Rattle.rule_model.specs.declared.event_state.Caught.{Caught}
use Rattle.rule_model.specs.declared.program.Program.{Program}
use Rattle.rule_model.specs.declared.tables.Tables.{Tables}
use Rattle.rule_model.specs.declared.tables.Rule.{Rule}
use Rattle.rule_model.specs.declared.tables.Pat.{Pat}
use Rattle.rule_model.specs.declared.tables.Pat.TheVariants as pattern
use Rattle.rule_model.specs.declared.tables.Out.{Out}
use Rattle.rule_model.specs.declared.tables.Out.TheVariants as output
use Rattle.rule_model.specs.Keyboard as keyboard
use Rattle.rule_model.specs.Keyboard.{Ref, Named, Numbered, IsAny, IsNotAny, IsIndex, IfEqual, IfUnequal, OneKey}
use Rattle.rule_model.specs.Content.{content, option_number, elements_at, store_number}
use Rattle.rule_model.specs.Match.{Content, is_item, place_of, place_caught, matches, element_at, is_element, same_value}
use Rattle.rule_model.specs.Act.{act, act_one, put_item, put_element, place_for_index, set_current, save_current, reset_current}
use Rattle.rule_model.specs.System.{is_equal, system_ref}
use Rattle.rule_model.specs.Naming.{names_of, mark_number, key_number}
use Rattle.rule_model.specs.Src.{src, src_key, src_pattern, src_output, src_rule, value_elements}
use Rattle.rule_model.specs.Tab.{tab, tab_pattern, tab_output, tab_rule, elements_of}
use Rattle.compile_laws.proofs.Patterns.{SamePattern, SameContext}
use Rattle.decompile_program.specs.Items.{Names, back_key, store_called, group_called, value_called, key_by_code, key_by_name, key_called, back_pattern, back_output, some_items}
use Rattle.decompile_program.specs.Back.{back_rule}
use Rattle.kmn_base.specs.declared.limits.TheConstants.{EVENT_ENTRIES}
use Rattle.decompile_program.specs.WrittenOut.{key_codes_of}
use Rattle.decompile_program.proofs.Good.{IsNamed, IsOption, IsValue, IsMark, IsKey, IsGroup, GoodPattern, GoodOutput, GoodRule}
use Rattle.decompile_program.proofs.Alike.{SameEntry, SameOutputs, SameRule}
use Rattle.kmn_parser.proofs.Rows.{if-same}

-- an element without the flags and the code of a virtual key
abbrev pub plain : Element → Element
plain (element.Char c) = element.Char c
plain (element.Mark m) = element.Mark m
plain (element.Key flags code) = element.Key 0 0

is-plain : (x : Item) (e : Element) → is_item x (plain e) ≡ is_item x e
is-plain (item.Char c) (element.Char d) = refl
is-plain (item.Char c) (element.Mark m) = refl
is-plain (item.Char c) (element.Key flags code) = refl
is-plain (item.Mark m) (element.Char d) = refl
is-plain (item.Mark m) (element.Mark n) = refl
is-plain (item.Mark m) (element.Key flags code) = refl

place-plain : (x : Item) (es : List Element) → place_of x (map plain es) ≡ place_of x es
place-plain x es = position-map plain (is_item x) es ∙ (λ i. position (λ e. is-plain x e i) es)

element-plain : (x : Item) (o : Option Element) → is_element x (option_map plain o) ≡ is_element x o
element-plain x None = refl
element-plain x (Some e) = is-plain x e

at-plain : (es : List Element) (place : Option ℕ) → element_at (map plain es) place ≡ option_map plain (element_at es place)
at-plain es None = refl
at-plain es (Some place) = slice_get-map plain es place

put-plain : (o : Option Element) (s : EventState) → put_element (option_map plain o) s ≡ put_element o s
put-plain None s = refl
put-plain (Some (element.Char c)) s = refl
put-plain (Some (element.Mark m)) s = refl
put-plain (Some (element.Key flags code)) s = refl

-- if two lists of elements are the same except for virtual keys, matching and output treat them the same
module _ (es fs : List Element) (like : map plain es ≡ map plain fs) where
  place-like : (x : Item) → place_of x es ≡ place_of x fs
  place-like x = sym (place-plain x es) ∙ ap (place_of x) like ∙ place-plain x fs

  at-like : (place : Option ℕ) → option_map plain (element_at es place) ≡ option_map plain (element_at fs place)
  at-like place = sym (at-plain es place) ∙ ap (λ k. element_at k place) like ∙ at-plain fs place

  element-like : (x : Item) (place : Option ℕ) → is_element x (element_at es place) ≡ is_element x (element_at fs place)
  element-like x place = sym (element-plain x (element_at es place)) ∙ ap (is_element x) (at-like place) ∙ element-plain x (element_at fs place)

  put-like : (place : Option ℕ) (s : EventState) → put_element (element_at es place) s ≡ put_element (element_at fs place) s
  put-like place s = sym (put-plain (element_at es place) s) ∙ ap (λ o. put_element o s) (at-like place) ∙ put-plain (element_at fs place) s

-- the required properties of the names
pub record Renamed (p : Program) (t : Tables) (names : Names) : Type 0 where
  pub like_content : (n : ℕ) → IsNamed t n → (values : List (List Element)) → map plain (content (src p).stores values (Named (store_called names n))) ≡ map plain (content (tab t).stores values (Numbered n))
  pub same_content : (n : ℕ) → IsNamed t n → IsOption t n → (values : List (List Element)) → content (src p).stores values (Named (store_called names n)) ≡ content (tab t).stores values (Numbered n)
  pub same_option : (n : ℕ) → IsNamed t n → option_number (src p).stores (Named (store_called names n)) ≡ option_number (tab t).stores (Numbered n)
  pub same_elements : (n : ℕ) → IsNamed t n → IsOption t n → elements_at (src p).stores (store_number (src p).stores (Named (store_called names n))) ≡ elements_at (tab t).stores (store_number (tab t).stores (Numbered n))
  pub same_system : (id : ℕ) (values : List (List Element)) → content (src p).stores values (system_ref id) ≡ content (tab t).stores values (system_ref id)
  pub same_system_option : (id : ℕ) → option_number (src p).stores (system_ref id) ≡ option_number (tab t).stores (system_ref id)
  pub same_value : (n : ℕ) → IsValue t n → value_elements (value_called names n) ≡ elements_of t.stores n
  pub same_mark : (m : ℕ) → IsMark t m → mark_number (names_of p) (decimal m) ≡ m
  pub same_key : (flags code : ℕ) → IsKey t code → key_number (names_of p) (key_called names flags code) ≡ code

-- a name and a number refer to the same group
abbrev pub Called : Tables → Names → Ref → Ref → Type 0
Called t names g h = (n : ℕ) × IsGroup t n × (g ≡ Named (group_called names n)) × (h ≡ Numbered n)

pub same_flags : (names : Names) (flags code : ℕ) → (key_called names flags code).flags ≡ bit_or flags 0x4000
same_flags names flags code =
    elim (nat_lt code 256) as (λ (b : Bool). (if b then key_by_code flags code else key_by_name names flags code).flags ≡ bit_or flags 0x4000) [ true ↦ refl | false ↦ refl ]

module _ (ca cb : Content) (a b : Ref) (e : map plain (ca a) ≡ map plain (cb b)) where
  any-same : SamePattern ca cb (IsAny a) (IsAny b)
  any-same = record { takes = refl; fits = λ seen x i. is_some (place-like (ca a) (cb b) e x i); place = λ x. place-like (ca a) (cb b) e x; holds = refl; start = refl }

  not_any-same : SamePattern ca cb (IsNotAny a) (IsNotAny b)
  not_any-same = record { takes = refl; fits = λ seen x i. not (is_some (place-like (ca a) (cb b) e x i)); place = λ x. refl; holds = refl; start = refl }

  index-same : (offset : ℕ) → SamePattern ca cb (IsIndex a offset) (IsIndex b offset)
  index-same offset = record { takes = refl; fits = λ seen x. element-like (ca a) (cb b) e x (place_caught seen offset); place = λ x. refl; holds = refl; start = refl }

module _ (ca cb : Content) (name : List ℕ) (n : ℕ) (e : ca (Named name) ≡ cb (Numbered n)) where
  equal-same : (v w : List Element) → v ≡ w → SamePattern ca cb (IfEqual (Named name) v) (IfEqual (Numbered n) w)
  equal-same v w f = record { takes = refl; fits = λ seen x. refl; place = λ x. refl; holds = λ i. same_value (e i) (f i); start = refl }

  unequal-same : (v w : List Element) → v ≡ w → SamePattern ca cb (IfUnequal (Named name) v) (IfUnequal (Numbered n) w)
  unequal-same v w f = record { takes = refl; fits = λ seen x. refl; place = λ x. refl; holds = λ i. not (same_value (e i) (f i)); start = refl }

-- conditions on a system option
module _ (ca cb : Content) (ref : Ref) (e : ca ref ≡ cb ref) where
  system_equal-same : (v w : List Element) → v ≡ w → SamePattern ca cb (IfEqual ref v) (IfEqual ref w)
  system_equal-same v w f = record { takes = refl; fits = λ seen x. refl; place = λ x. refl; holds = λ i. is_equal ref (e i) (f i); start = refl }

  system_unequal-same : (v w : List Element) → v ≡ w → SamePattern ca cb (IfUnequal ref v) (IfUnequal ref w)
  system_unequal-same v w f = record { takes = refl; fits = λ seen x. refl; place = λ x. refl; holds = λ i. not (is_equal ref (e i) (f i)); start = refl }

-- a key as a text spells it
abbrev spelled_key : RuleKey → RuleKey
spelled_key (key.Virtual flags code) = key.Virtual (bit_or flags 0x4000) code
spelled_key k = k

has-still : (flags bit : ℕ) → bit_and 0x4000 bit ≡ 0 → has (bit_or flags 0x4000) bit ≡ has flags bit
has-still flags bit e = ap (λ k. not (nat_eq k 0)) (and_or_apart bit flags 0x4000 e)

flags-still : (flags mods : ℕ) → flags_fit (bit_or flags 0x4000) mods ≡ flags_fit flags mods
flags-still flags mods = λ i.
    beq (has-still flags shift refl i) (has mods shift)
    && ((not (has-still flags caps refl i) || has mods caps) && (not (has-still flags no_caps refl i) || not (has mods caps)))
    && (if has-still flags either_control refl i then has_either mods left_control right_control else (beq (has-still flags left_control refl i) (has mods left_control) && beq (has-still flags right_control refl i) (has mods right_control)))
    && (if has-still flags either_alt refl i then has_either mods left_alt right_alt else (beq (has-still flags left_alt refl i) (has mods left_alt) && beq (has-still flags right_alt refl i) (has mods right_alt)))

spelled-fits : (k : RuleKey) (press : KeyPress) → key_fits (spelled_key k) press ≡ key_fits k press
unfolding key_fits
spelled-fits key.Any press = refl
spelled-fits (key.Char c) press = refl
spelled-fits (key.Virtual flags code) press = λ i. nat_eq code press.code && flags-still flags press.mods i

module _ (p : Program) (t : Tables) (names : Names) (r : Renamed p t names) where
  pattern-same : (values : List (List Element)) (x : Pat) → GoodPattern t x →
      SamePattern (content (src p).stores values) (content (tab t).stores values) (src_pattern (names_of p) (back_pattern names x)) (tab_pattern t.stores x)
  pattern-same values (pattern.Mark m) ok =
      record {
        takes = refl;
        fits = λ seen x i. matches (content (tab t).stores values) seen (keyboard.IsMark (r.same_mark m ok.marks.0 i)) x;
        place = λ x. refl;
        holds = refl;
        start = refl;
      }
  pattern-same values (pattern.Any s) ok = any-same _ _ _ _ (r.like_content s ok.named.0 values)
  pattern-same values (pattern.NotAny s) ok = not_any-same _ _ _ _ (r.like_content s ok.named.0 values)
  pattern-same values (pattern.Index s offset) ok = index-same _ _ _ _ (r.like_content s ok.named.0 values) offset
  pattern-same values (pattern.Equal s v) ok = equal-same _ _ _ _ (r.same_content s ok.named.0 ok.options.0 values) _ _ (r.same_value v ok.values.0)
  pattern-same values (pattern.Unequal s v) ok = unequal-same _ _ _ _ (r.same_content s ok.named.0 ok.options.0 values) _ _ (r.same_value v ok.values.0)
  pattern-same values (pattern.SystemEqual id v) ok = system_equal-same _ _ (system_ref id) (r.same_system id values) _ _ (r.same_value v ok.values.0)
  pattern-same values (pattern.SystemUnequal id v) ok = system_unequal-same _ _ (system_ref id) (r.same_system id values) _ _ (r.same_value v ok.values.0)
  pattern-same values x ok = record { takes = refl; fits = λ seen x. refl; place = λ x. refl; holds = refl; start = refl }

  patterns-same : (values : List (List Element)) (xs : List Pat) → AllByRecursion (GoodPattern t) xs → SameContext (content (src p).stores values) (content (tab t).stores values) (map (src_pattern (names_of p)) (map (back_pattern names) xs)) (map (tab_pattern t.stores) xs)
  patterns-same values [] ok = tt
  patterns-same values (x ∷ xs) ok = (pattern-same values x ok.0, patterns-same values xs ok.1)

  module _ (e f : Ref → EventState → EventState) (same : SameEntry (Called t names) e f) (c : Caught) where
    one-same : (x : Out) → GoodOutput t x → (s : EventState) → act_one (src p) e c (src_output (names_of p) (back_output names x)) s ≡ act_one (tab t) f c (tab_output t.stores x) s
    one-same (output.Mark m) ok s = λ i. put_item (item.Mark (r.same_mark m ok.marks.0 i)) s
    one-same (output.Index store offset) ok s = put-like _ _ (r.like_content store ok.named.0 s.current) (place_for_index c offset) s
    one-same (output.Enter g) ok s = λ i. if nat_le EVENT_ENTRIES s.entered then record s { stopped = true } else same (Named (group_called names g)) (Numbered g) (g, ok.groups.0, refl, refl) s i
    one-same (output.Set store v) ok s = λ i. set_current (r.same_option store ok.named.0 i) (r.same_value v ok.values.0 i) s
    one-same (output.SetSystem id v) ok s = λ i. set_current (r.same_system_option id i) (r.same_value v ok.values.0 i) s
    one-same (output.Save store) ok s = λ i. save_current (r.same_option store ok.named.0 i) s
    one-same (output.Reset store) ok s = λ i. reset_current (r.same_option store ok.named.0 i) (r.same_elements store ok.named.0 ok.options.0 i) s
    one-same x ok s = refl

    acts-same : (xs : List Out) → AllByRecursion (GoodOutput t) xs → (s : EventState) → act (src p) e c (map (src_output (names_of p)) (map (back_output names) xs)) s ≡ act (tab t) f c (map (tab_output t.stores) xs) s
    acts-same [] ok s = refl
    acts-same (x ∷ xs) ok s =
        ap (act (src p) e c (map (src_output (names_of p)) (map (back_output names) xs))) (λ i. if s.stopped then s else one-same x ok.0 s i)
        ∙ acts-same xs ok.1 (if s.stopped then s else act_one (tab t) f c (tab_output t.stores x) s)

    output-same : (xs : List Out) → AllByRecursion (GoodOutput t) xs → (s : EventState) → act (src p) e c (map (src_output (names_of p)) (some_items (map (back_output names) xs))) s ≡ act (tab t) f c (map (tab_output t.stores) xs) s
    output-same [] ok s = if-same s.stopped s
    output-same (x ∷ xs) ok s = acts-same (x ∷ xs) ok s

  pub outputs-same : (xs : List Out) → AllByRecursion (GoodOutput t) xs → SameOutputs (src p) (tab t) (Called t names) (map (src_output (names_of p)) (map (back_output names) xs)) (map (tab_output t.stores) xs)
  outputs-same xs ok e f same c s = acts-same e f same c xs ok s

  key-same : (k : RuleKey) → AllByRecursion (IsKey t) (key_codes_of k) → src_key (names_of p) (back_key names k) ≡ OneKey (spelled_key k)
  key-same key.Any ok = refl
  key-same (key.Char c) ok = refl
  key-same (key.Virtual flags code) ok = λ i. OneKey (key.Virtual (same_flags names flags code i) (r.same_key flags code ok.0 i))

  used : (using : Bool) (k : RuleKey) → (using ≡ false → k ≡ key.Any) → OneKey (if using then k else key.Any) ≡ OneKey k
  used true k h = refl
  used false k h = ap OneKey (sym (h refl))

  pub rule_same : (using : Bool) (line : ℕ) (x : Rule) → GoodRule t using x → SameRule (src p) (tab t) (Called t names) (src_rule (names_of p) (back_rule names line x)) (tab_rule t.stores using x)
  rule_same using line x ok =
      record {
        context = λ values. patterns-same values x.context ok.context;
        first_wanted = spelled_key x.key;
        second_wanted = x.key;
        first_key = key-same x.key ok.keys;
        second_key = used using x.key ok.none;
        fits = spelled-fits x.key;
        output = λ e f same c s. output-same e f same c x.output ok.output s;
      }
