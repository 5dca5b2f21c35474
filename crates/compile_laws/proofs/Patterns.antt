-- Contexts whose items match the text in the same way catch the same.
use Rattle.std.proofs.Common.{◌≡◌, ℕ, ◌+◌, ◌-◌, Bool, true, false, not, ◌&&◌, List, [], ◌∷◌, ◌++◌, length, Option, Some, None, refl, ap, sym, ◌∙◌, arith, is_some, if◌then◌else◌, cond}
use Rattle.std.specs.Prelude.{drop, nat_eq, nat_le}
use Rattle.std.specs.List.{list_all, list_any, AllZip}
use Rattle.std.proofs.lemmas.List.Sums.{sum_by-cons}
use Rattle.std.proofs.lemmas.List.{length_push}
use Rattle.std.proofs.lemmas.Option.{none-some, same_Some}
use Rattle.std.proofs.lemmas.Bool.{and_parts}
use Rattle.kmn_base.specs.declared.items.Item.{Item}
use Rattle.kmn_base.specs.declared.items.Element.{Element}
use Rattle.kmn_base.specs.declared.keys.KeyPress.{KeyPress}
use Rattle.rule_model.specs.declared.event_state.Catch.{Catch}
use Rattle.rule_model.specs.declared.program.Program.{Program}
use Rattle.rule_model.specs.declared.program.SrcItem.{SrcItem}
use Rattle.rule_model.specs.declared.program.SrcItem.TheVariants as source
use Rattle.rule_model.specs.declared.tables.Tables.{Tables}
use Rattle.rule_model.specs.Keyboard.{Ref, Pattern, IsAny, IsNotAny, IsIndex, IfEqual, IfUnequal, RuleMeaning}
use Rattle.rule_model.specs.Content.{content}
use Rattle.rule_model.specs.Match.{Content, takes_item, matches, place_for, place_of, place_caught, element_at, is_element, nothing_caught, catch_item, catches_from}
use Rattle.rule_model.specs.System.{is_equal}
use Rattle.rule_model.specs.Hold.{is_true, is_at_start, pattern_count, has_room, fitting_place_with, caught_by, holds_with}
use Rattle.rule_model.specs.Naming.{names_of}
use Rattle.rule_model.specs.Tab.{tab, tab_pattern}
use Rattle.rule_model.specs.Src.{src, src_pattern}
use Rattle.compile_laws.specs.Numbers.{numbers_of, item_values}
use Rattle.compile_laws.specs.Compiles.{file_pattern}
use Rattle.compile_laws.specs.WellNamed.{is_known_pattern}
use Rattle.compile_laws.proofs.Linked.{Linked, is_value}

-- two patterns, each with its content, require the same
pub record SamePattern (ca cb : Content) (a b : Pattern) : Type 0 where
  pub takes : takes_item a ≡ takes_item b
  pub fits : (seen : List Catch) (x : Item) → matches ca seen a x ≡ matches cb seen b x
  pub place : (x : Item) → place_for ca a x ≡ place_for cb b x
  pub holds : is_true ca a ≡ is_true cb b
  pub start : is_at_start a ≡ is_at_start b

abbrev pub SameContext : Content → Content → List Pattern → List Pattern → Type 0
SameContext ca cb = AllZip (SamePattern ca cb)

conditions-same : (ca cb : Content) (xs ys : List Pattern) → SameContext ca cb xs ys → list_all (is_true ca) xs ≡ list_all (is_true cb) ys
conditions-same ca cb [] [] h = refl
conditions-same ca cb [] (y ∷ ys) h = absurd h
conditions-same ca cb (x ∷ xs) [] h = absurd h
conditions-same ca cb (x ∷ xs) (y ∷ ys) h = λ i. h.0.holds i && conditions-same ca cb xs ys h.1 i

starts-same : (ca cb : Content) (xs ys : List Pattern) → SameContext ca cb xs ys → list_any is_at_start xs ≡ list_any is_at_start ys
starts-same ca cb [] [] h = refl
starts-same ca cb [] (y ∷ ys) h = absurd h
starts-same ca cb (x ∷ xs) [] h = absurd h
starts-same ca cb (x ∷ xs) (y ∷ ys) h = cc (h.0.start, starts-same ca cb xs ys h.1)

count-same : (ca cb : Content) (xs ys : List Pattern) → SameContext ca cb xs ys → pattern_count xs ≡ pattern_count ys
count-same ca cb [] [] h = refl
count-same ca cb [] (y ∷ ys) h = absurd h
count-same ca cb (x ∷ xs) [] h = absurd h
count-same ca cb (x ∷ xs) (y ∷ ys) h =
    sum_by-cons (λ z. cond (takes_item z) 1 0) x xs
    ∙ ((λ i. cond (h.0.takes i) 1 0 + count-same ca cb xs ys h.1 i) ∙ sym (sum_by-cons (λ z. cond (takes_item z) 1 0) y ys))

catch_item-same :
    (ca cb : Content) (a b : Pattern) → SamePattern ca cb a b → (seen : List Catch) (ra rb : Catch → List Item → Option (List Catch)) → ra ≡ rb →
    (text : List Item) → catch_item ca seen a ra text ≡ catch_item cb seen b rb text
catch_item-same ca cb a b h seen ra rb e [] = refl
catch_item-same ca cb a b h seen ra rb e (x ∷ text) =
    λ i. if h.fits seen x i then e i (record { item = Some x; place = h.place x i }) text else None

catches-same :
    (ca cb : Content) (xs ys : List Pattern) → SameContext ca cb xs ys →
    (seen : List Catch) (text : List Item) → catches_from ca seen xs text ≡ catches_from cb seen ys text
catches-same ca cb [] [] h seen [] = refl
catches-same ca cb [] [] h seen (c ∷ text) = refl
catches-same ca cb [] (y ∷ ys) h seen text = absurd h
catches-same ca cb (x ∷ xs) [] h seen text = absurd h
catches-same ca cb (x ∷ xs) (y ∷ ys) h seen text =
    let rest : ◌≡◌ {A = Catch → List Item → Option (List Catch)}
    (λ c left. catches_from ca (seen ++ c ∷ []) xs left) (λ c left. catches_from cb (seen ++ c ∷ []) ys left) =
    λ i c left. catches-same ca cb xs ys h.1 (seen ++ c ∷ []) left i in
    λ i. if h.0.takes i then catch_item-same ca cb x y h.0 seen _ _ rest text i else rest i nothing_caught text

-- what a context catches of a left list, if its conditions are true and the list is long enough
abbrev pub context_caught : Content → List Item → List Pattern → Option (List Catch)
context_caught content left context =
    if list_all (is_true content) context && has_room context left
    then catches_from content [] context (drop (length left - pattern_count context) left)
    else None

parts : (b : Bool) (catches : Option (List Catch)) (place : Option (Option ℕ)) → (if b then caught_by catches place else None) ≡ caught_by (if b then catches else None) place
parts true catches place = refl
parts false catches place = refl

-- a rule holds if its context is caught and its key fits
pub holds-parts :
    (cased : List ℕ) (content : Content) (left : List Item) (press : KeyPress) (rule : RuleMeaning) →
    holds_with cased content left press rule ≡ caught_by (context_caught content left rule.context) (fitting_place_with cased content press rule.key)
holds-parts cased content left press rule =
    parts
    (list_all (is_true content) rule.context && has_room rule.context left)
    (catches_from content [] rule.context (drop (length left - pattern_count rule.context) left))
    (fitting_place_with cased content press rule.key)

pub context_caught-same :
    (ca cb : Content) (xs ys : List Pattern) → SameContext ca cb xs ys → (left : List Item) → context_caught ca left xs ≡ context_caught cb left ys
context_caught-same ca cb xs ys h left =
    λ i.
    if conditions-same ca cb xs ys h i
    && (if starts-same ca cb xs ys h i
    then nat_eq (length left) (count-same ca cb xs ys h i)
    else nat_le (count-same ca cb xs ys h i) (length left))
    then catches-same ca cb xs ys h [] (drop (length left - count-same ca cb xs ys h i) left) i
    else None

picked : (b : Bool) (m : Option (List Catch)) (cs : List Catch) → (if b then m else None) ≡ Some cs → m ≡ Some cs
picked true m cs e = e
picked false m cs e = absurd (none-some cs e)

-- what is caught next, if the rest is caught
Next : (Catch → List Item → Option (List Catch)) → List Catch → Type 0
Next rest cs = (c : Catch) × (left : List Item) × (rest c left ≡ Some cs)

item_next :
    (content : Content) (seen : List Catch) (a : Pattern) (rest : Catch → List Item → Option (List Catch)) (text : List Item) (cs : List Catch) →
    catch_item content seen a rest text ≡ Some cs → Next rest cs
unfolding Next
item_next content seen a rest [] cs e = absurd (none-some cs e)
item_next content seen a rest (x ∷ text) cs e =
    (record { item = Some x; place = place_for content a x }, text, picked (matches content seen a x) (rest (record { item = Some x; place = place_for content a x }) text) cs e)

next : (b : Bool) (content : Content) (seen : List Catch) (a : Pattern) (rest : Catch → List Item → Option (List Catch)) (text : List Item) (cs : List Catch) →
    (if b then catch_item content seen a rest text else rest nothing_caught text) ≡ Some cs → Next rest cs
unfolding Next
next true content seen a rest text cs e = item_next content seen a rest text cs e
next false content seen a rest text cs e = (nothing_caught, text, e)

-- each item of a context catches once
catches_from-count :
    (content : Content) (seen : List Catch) (xs : List Pattern) (text : List Item) (cs : List Catch) →
    catches_from content seen xs text ≡ Some cs → length cs ≡ length seen + length xs
unfolding Next
catches_from-count content seen [] [] cs e = ap length (sym (same_Some seen cs e)) ∙ omega arith
catches_from-count content seen [] (x ∷ text) cs e = absurd (none-some cs e)
catches_from-count content seen (x ∷ xs) text cs e =
    let found : Next (λ c left. catches_from content (seen ++ c ∷ []) xs left) cs = next (takes_item x) content seen x _ text cs e in
    catches_from-count content (seen ++ found.0 ∷ []) xs found.1 cs found.2 ∙ omega (arith, length_push seen found.0)

pub context_caught-count :
    (content : Content) (left : List Item) (context : List Pattern) (cs : List Catch) →
    context_caught content left context ≡ Some cs → length cs ≡ length context
context_caught-count content left context cs e =
    catches_from-count content [] context (drop (length left - pattern_count context) left) cs
    (picked (list_all (is_true content) context && has_room context left) _ cs e)
    ∙ omega arith

module _ (ca cb : Content) (a b : Ref) (e : ca a ≡ cb b) where
  any-same : SamePattern ca cb (IsAny a) (IsAny b)
  any-same = record { takes = refl; fits = λ seen x i. is_some (place_of x (e i)); place = λ x i. place_of x (e i); holds = refl; start = refl }

  not_any-same : SamePattern ca cb (IsNotAny a) (IsNotAny b)
  not_any-same = record { takes = refl; fits = λ seen x i. not (is_some (place_of x (e i))); place = λ x. refl; holds = refl; start = refl }

  index-same : (offset : ℕ) → SamePattern ca cb (IsIndex a offset) (IsIndex b offset)
  index-same offset =
      record { takes = refl; fits = λ seen x i. is_element x (element_at (e i) (place_caught seen offset)); place = λ x. refl; holds = refl; start = refl }

  equal-same : ((c v : List Element) → is_equal a c v ≡ is_equal b c v) → (v w : List Element) → v ≡ w → SamePattern ca cb (IfEqual a v) (IfEqual b w)
  equal-same alike v w f = record { takes = refl; fits = λ seen x. refl; place = λ x. refl; holds = alike (ca a) v ∙ (λ i. is_equal b (e i) (f i)); start = refl }

  unequal-same : ((c v : List Element) → is_equal a c v ≡ is_equal b c v) → (v w : List Element) → v ≡ w → SamePattern ca cb (IfUnequal a v) (IfUnequal b w)
  unequal-same alike v w f = record { takes = refl; fits = λ seen x. refl; place = λ x. refl; holds = ap not (alike (ca a) v ∙ (λ i. is_equal b (e i) (f i))); start = refl }

-- an item of a program's context and the item that it compiles to
pub pattern-same :
    (p : Program) (t : Tables) → Linked p t → (values : List (List Element)) (x : SrcItem) →
    is_known_pattern p x ≡ true → list_all (is_value p) (item_values x) ≡ true →
    SamePattern (content (src p).stores values) (content (tab t).stores values) (src_pattern (names_of p) x) (tab_pattern t.stores (file_pattern (numbers_of p) x))
pattern-same p t l values (source.Any s) known valued = any-same _ _ _ _ (sym (l.same_content s values known))
pattern-same p t l values (source.NotAny s) known valued = not_any-same _ _ _ _ (sym (l.same_content s values known))
pattern-same p t l values (source.Index s offset) known valued = index-same _ _ _ _ (sym (l.same_content s values known)) offset
pattern-same p t l values (source.Equal s v) known valued =
    equal-same _ _ _ _ (sym (l.same_content s values known)) (λ c v. refl) _ _ (sym (l.same_value v (and_parts (is_value p v) true valued).0))
pattern-same p t l values (source.Unequal s v) known valued =
    unequal-same _ _ _ _ (sym (l.same_content s values known)) (λ c v. refl) _ _ (sym (l.same_value v (and_parts (is_value p v) true valued).0))
pattern-same p t l values (source.SystemEqual id v) known valued =
    equal-same _ _ _ _ (sym (l.same_system id values)) (λ c v. refl) _ _ (sym (l.same_value v (and_parts (is_value p v) true valued).0))
pattern-same p t l values (source.SystemUnequal id v) known valued =
    unequal-same _ _ _ _ (sym (l.same_system id values)) (λ c v. refl) _ _ (sym (l.same_value v (and_parts (is_value p v) true valued).0))
pattern-same p t l values x known valued = record { takes = refl; fits = λ seen x. refl; place = λ x. refl; holds = refl; start = refl }
