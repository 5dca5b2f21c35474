-- What is known of a keyboard of which nothing is reported, in the form in which an event uses it.
use Rattle.std.specs.Prelude.{◌≡◌, ℕ, zero, suc, ◌≤◌, min, Bool, true, false, if◌then◌else◌, List, [], ◌∷◌, length, map, slice_get, unwrap_or, option_map, Option, Some}
use Rattle.std.specs.List.{All}
use Rattle.std.proofs.Common.{refl, sym, ap, ◌∙◌, arith}
use Rattle.std.proofs.Math.Path.{subst}
use Rattle.std.proofs.lemmas.List.Elements.{All-head, All-tail}
use Rattle.std.proofs.lemmas.Option.{none-some, same_Some, slice_get-map}
use Rattle.kmn_base.specs.declared.items.Element.{Element}
use Rattle.kmn_base.specs.Rising.{is_among, rising}
use Rattle.rule_model.specs.declared.tables.Group.{Group}
use Rattle.rule_model.specs.declared.tables.Store.{Store}
use Rattle.rule_model.specs.declared.tables.Tables.{Tables}
use Rattle.rule_model.specs.Content.{content}
use Rattle.rule_model.specs.Tab.{elements_of, store_elements, tab_dictionary, tab_options}
use Rattle.core_meaning.specs.Events.{weight}
use Rattle.core_constructs.specs.declared.construct.GroupConstruct.{GroupConstruct}
use Rattle.core_constructs.specs.Facts.{facts_of}
use Rattle.core_constructs.specs.Marks.{live_items, put_stores}
use Rattle.core_constructs.specs.Queued.{effects_within}
use Rattle.core_constructs.specs.Told.{group_has, shares_name}
use Rattle.core_constructs.specs.Widths.{element_units, most_units, store_units}
use Rattle.core_laws.specs.Laws.{sets_value_alone, misses_character, Reached, known_at}
use Rattle.core_laws.proofs.Alike.{stores_in, NoMarks}
use Rattle.core_laws.proofs.Budget.{number_at}
use Rattle.core_laws.proofs.Caught.{HasWidths, equal_weights}
use Rattle.core_laws.proofs.Choice.{AreFairRules}
use Rattle.core_laws.proofs.Contexts.{HasValues}
use Rattle.core_laws.proofs.Items.{AllOf, IsPlainItem}
use Rattle.core_laws.proofs.Marks.{weighty}
use Rattle.core_laws.proofs.Rising.{not_in_rising}
use Rattle.core_laws.proofs.Values.{IsStoreAt, content_of_plain, store_at}

-- one of a list
pub all_listed : {A : Type 0} (P : A → Type 0) (xs : List A) (place : ℕ) (x : A) → All P xs → slice_get xs place ≡ Some x → P x
all_listed P [] place x all listed = absurd (none-some x listed)
all_listed P (y ∷ xs) zero x all listed = subst P (same_Some y x listed) (All-head P y xs all)
all_listed P (y ∷ xs) (suc place) x all listed = all_listed P xs place x (All-tail P y xs all) listed

-- the stores of which outputs put elements
abbrev pub puts_of : Tables → List ℕ
puts_of tables = put_stores (live_items tables)

pub record IsWhole (tables : Tables) : Type 0 where
  pub marks : (facts_of tables).marks ≡ []
  pub plain : AllOf (IsPlainItem tables.stores (puts_of tables)) (live_items tables)
  pub clean : (store : ℕ) → is_among store (puts_of tables) ≡ true → NoMarks (elements_of tables.stores store)
  pub alone : shares_name tables.stores (rising (tab_options tables)) ≡ false
  pub rules : (number : ℕ) (group : Group) → Reached tables number group → AreFairRules tables (facts_of tables) (known_at tables number group) group group.rules
  pub groups : (number : ℕ) (group : Group) → Reached tables number group → (construct : GroupConstruct) → group_has (facts_of tables) group construct ≡ false
  pub values : (number : ℕ) (group : Group) → Reached tables number group → sets_value_alone (facts_of tables) group ≡ false
  pub characters : (number : ℕ) (group : Group) → Reached tables number group → misses_character (known_at tables number group) group ≡ false
  pub dictionary : tab_dictionary tables.stores ≡ []
  pub budget : number_at (effects_within 50 tables.groups) tables.start_unicode ≤ 1024

-- ---- contents

most_of : (elements : List Element) (place : ℕ) (e : Element) → slice_get elements place ≡ Some e → element_units e ≤ most_units elements
most_of [] place e listed = absurd (none-some e listed)
most_of (d ∷ elements) zero e listed = let same : element_units d ≡ element_units e = ap element_units (same_Some d e listed) in omega (arith, same)
most_of (d ∷ elements) (suc place) e listed = omega (arith, most_of elements place e listed)

pub values_hold : (tables : Tables) (current : List (List Element)) → HasValues (facts_of tables).options (length tables.stores) tables.stores (content (stores_in tables) current)
values_hold tables current value other less = content_of_plain (tab_options tables) tables.stores current value less (not_in_rising value (tab_options tables) other)

pub widths_hold : (tables : Tables) (current : List (List Element)) → HasWidths (facts_of tables) (length tables.stores) (content (stores_in tables) current)
widths_hold tables current store place x e less listed same = by_option (is_among store (rising (tab_options tables))) refl
  where
    at : IsStoreAt tables.stores store
    at = store_at tables.stores store less

    by_option : (b : Bool) → is_among store (rising (tab_options tables)) ≡ b → weight x ≤ (if b then 3 else min 3 (unwrap_or (slice_get (map store_units tables.stores) store) 0))
    by_option true among = weighty x
    by_option false other = omega (arith, weighty x, equal_weights x e same, most_of at.store.elements place e there, units_is)
      where
        there : slice_get at.store.elements place ≡ Some e
        there =
            ap (λ (o : Option Store). slice_get (store_elements o) place) (sym at.listed)
            ∙ ap (λ (elements : List Element). slice_get elements place) (sym (values_hold tables current store other less)) ∙ listed

        units_is : unwrap_or (slice_get (map store_units tables.stores) store) 0 ≡ most_units at.store.elements
        units_is = ap (λ (o : Option ℕ). unwrap_or o 0) (slice_get-map store_units tables.stores store ∙ ap (option_map store_units) at.listed)
