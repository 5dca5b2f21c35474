-- The properties of the names of stores in a text.
use Rattle.std.proofs.Common.{◌≡◌, ℕ, zero, suc, ◌+◌, ◌≤◌, true, false, not, List, [], ◌∷◌, ◌++◌, length, drop, map, Option, None, Some, refl, sym, ◌∙◌, ap, arith, length-drop, if◌then◌else◌}
use Rattle.std.specs.Prelude.{slice_get, nat_eq, flat_map}
use Rattle.std.specs.List.{list_any, AllByRecursion}
use Rattle.std.proofs.lemmas.Bool.{eqb-true, false_from_ne_true, not-true, and_parts, not-false, cond_both, cond-false}
use Rattle.std.proofs.lemmas.Option.{none-some, same_Some}
use Rattle.kmn_base.specs.declared.items.Element.{Element}
use Rattle.kmn_base.specs.declared.items.Element.TheVariants as element
use Rattle.kmn_base.specs.Names.{same_name}
use Rattle.rule_model.specs.declared.program.SrcItem.{SrcItem}
use Rattle.rule_model.specs.declared.tables.Store.{Store}
use Rattle.rule_model.specs.Tab.{with_options}
use Rattle.rule_model.specs.Naming.{SourceNames, item_elements}
use Rattle.decompile_program.specs.Names.{is_written, keeps_store_name, keeps_name, written_ids, store_names}
use Rattle.kmn_parser.specs.Names.{is_source_name}
use Rattle.decompile_program.specs.Items.{Names, back_element}
use Rattle.decompile_program.specs.Back.{back_stores}
use Rattle.kmn_items.specs.Words.{is_system_name}
use Rattle.decompile_program.proofs.Apart.{AreFree, free-drop, first-free, source-some}
use Rattle.decompile_program.proofs.Thin.{KeepsOptions}
use Rattle.decompile_program.proofs.Linking.{IsSimple}
use Rattle.kmn_lines.proofs.TextSizes.{clash}

-- each store has a name exactly where it is written, and the name of an ordinary store isn't empty
abbrev pub AreCalls : List ℕ → ℕ → List (Option (List ℕ)) → List Store → Type 0
AreCalls named n [] [] = Unit {0}
AreCalls named n [] (store ∷ stores) = ⊥
AreCalls named n (call ∷ calls) [] = ⊥
AreCalls named n (None ∷ calls) (store ∷ stores) = (is_written named n store ≡ false) × AreCalls named (n + 1) calls stores
AreCalls named n (Some name ∷ calls) (store ∷ stores) =
    (is_written named n store ≡ true) × (nat_eq store.system 0 ≡ true → same_name name [] ≡ false) × AreCalls named (n + 1) calls stores

pub are_calls : (named : List ℕ) (taken free earlier : List (List ℕ)) (n : ℕ) (stores : List Store) → AreFree taken free → length stores ≤ length free
    → AreCalls named n (store_names named free earlier n stores) stores
are_calls named taken free earlier n [] f enough = tt
are_calls named taken free earlier n (store ∷ stores) f enough =
    cond_both (not (is_written named n store)) _ _ (λ calls. AreCalls named n calls (store ∷ stores))
    (λ e. (not-true (is_written named n store) e, are_calls named taken free earlier (n + 1) stores f (omega arith)))
    (λ w. cond_both (not (nat_eq store.system 0)) _ _ (λ calls. AreCalls named n calls (store ∷ stores))
    (λ e. (not-false (is_written named n store) w, (λ o. clash (nat_eq store.system 0) o (not-true (nat_eq store.system 0) e)), are_calls named taken free earlier (n + 1) stores f (omega arith)))
    (λ e. cond_both (keeps_store_name earlier store.name) _ _ (λ calls. AreCalls named n calls (store ∷ stores))
    (λ k. (
      not-false (is_written named n store) w,
      (λ o. source-some store.name (and_parts (is_source_name store.name) _ (and_parts (not (is_system_name store.name)) (keeps_name earlier store.name) k).1).0),
      are_calls named taken free (earlier ++ store.name ∷ []) (n + 1) stores f (omega arith),
    ))
    (λ k. (
      not-false (is_written named n store) w,
      (λ o. (first-free taken free (omega arith) f).0.some),
      are_calls named taken (drop 1 free) (earlier ++ store.name ∷ []) (n + 1) stores (free-drop taken free f) (let l = length-drop 1 free in omega (arith, l)),
    ))))

pub calls-along : (named : List ℕ) (n : ℕ) (calls : List (Option (List ℕ))) (stores : List Store) → AreCalls named n calls stores → length calls ≡ length stores
calls-along named n [] [] c = refl
calls-along named n [] (store ∷ stores) c = absurd c
calls-along named n (call ∷ calls) [] c = absurd c
calls-along named n (None ∷ calls) (store ∷ stores) c = ap suc (calls-along named (n + 1) calls stores c.1)
calls-along named n (Some name ∷ calls) (store ∷ stores) c = ap suc (calls-along named (n + 1) calls stores c.2)

-- the store of a number has a name that isn't empty
pub record IsCalled (n : ℕ) (calls : List (Option (List ℕ))) : Type 0 where
  pub name : List ℕ
  pub at : slice_get calls n ≡ Some (Some name)
  pub some : same_name name [] ≡ false

pub written-here : (named : List ℕ) (n : ℕ) (store : Store) → nat_eq store.system 0 ≡ true → list_any (nat_eq n) named ≡ true → is_written named n store ≡ true
written-here named n store o e = (λ i. if o i then list_any (nat_eq n) named else list_any (nat_eq store.system) written_ids) ∙ e

pub called-at : (named : List ℕ) (j n : ℕ) (calls : List (Option (List ℕ))) (stores : List Store) (store : Store) → AreCalls named j calls stores → slice_get stores n ≡ Some store
    → nat_eq store.system 0 ≡ true → list_any (nat_eq (j + n)) named ≡ true → IsCalled n calls
called-at named j n [] [] store c at o e = absurd (none-some store at)
called-at named j n [] (s ∷ stores) store c at o e = absurd c
called-at named j n (call ∷ calls) [] store c at o e = absurd c
called-at named j zero (None ∷ calls) (s ∷ stores) store c at o e =
    let is : s ≡ store = same_Some s store at in
    let k : j + 0 ≡ j = omega arith in
    clash (is_written named j s) (written-here named j s (ap (λ (x : Store). nat_eq x.system 0) is ∙ o) (ap (λ (x : ℕ). list_any (nat_eq x) named) (sym k) ∙ e)) c.0
called-at named j zero (Some name ∷ calls) (s ∷ stores) store c at o e =
    let is : s ≡ store = same_Some s store at in
    record { name = name; at = refl; some = c.1 (ap (λ (x : Store). nat_eq x.system 0) is ∙ o) }
called-at named j (suc n) (None ∷ calls) (s ∷ stores) store c at o e =
    let k : j + suc n ≡ j + 1 + n = omega arith in
    let more = called-at named (j + 1) n calls stores store c.1 at o (ap (λ (x : ℕ). list_any (nat_eq x) named) (sym k) ∙ e) in
    record { name = more.name; at = more.at; some = more.some }
called-at named j (suc n) (Some name ∷ calls) (s ∷ stores) store c at o e =
    let k : j + suc n ≡ j + 1 + n = omega arith in
    let more = called-at named (j + 1) n calls stores store c.2 at o (ap (λ (x : ℕ). list_any (nat_eq x) named) (sym k) ∙ e) in
    record { name = more.name; at = more.at; some = more.some }

-- if each option keeps its name and its elements, no option is omitted or changed
pub keeps_options : (f : Element → Element) (named opts : List ℕ) (j : ℕ) (calls : List (Option (List ℕ))) (stores : List Store) → AreCalls named j calls stores
    → ((n : ℕ) (store : Store) (call : Option (List ℕ)) → slice_get stores n ≡ Some store → slice_get calls n ≡ Some call → list_any (nat_eq (j + n)) opts ≡ true → (call ≡ Some store.name) × (map f store.elements ≡ store.elements))
    → KeepsOptions f calls (with_options opts j stores)
keeps_options f named opts j [] [] c keeps = tt
keeps_options f named opts j [] (s ∷ stores) c keeps = absurd c
keeps_options f named opts j (call ∷ calls) [] c keeps = absurd c
keeps_options f named opts j (None ∷ calls) (s ∷ stores) c keeps =
    let k : j ≡ j + 0 = omega arith in (
      false_from_ne_true (list_any (nat_eq j) opts) (λ e. none-some s.name ((keeps 0 s None refl refl (ap (λ (x : ℕ). list_any (nat_eq x) opts) (sym k) ∙ e)).0)),
      keeps_options f named opts (j + 1) calls stores c.1 (λ n store call a b e. let l : j + suc n ≡ j + 1 + n = omega arith in keeps (suc n) store call a b (ap (λ (x : ℕ). list_any (nat_eq x) opts) l ∙ e)),
    )
keeps_options f named opts j (Some name ∷ calls) (s ∷ stores) c keeps =
    let k : j ≡ j + 0 = omega arith in (
      (λ e. let kept = keeps 0 s (Some name) refl refl (ap (λ (x : ℕ). list_any (nat_eq x) opts) (sym k) ∙ e) in
          (λ i. record { name = same_Some name s.name kept.0 i; elements = kept.1 i; is_option = list_any (nat_eq j) opts; is_system = false })),
      keeps_options f named opts (j + 1) calls stores c.2 (λ n store call a b e. let l : j + suc n ≡ j + 1 + n = omega arith in keeps (suc n) store call a b (ap (λ (x : ℕ). list_any (nat_eq x) opts) l ∙ e)),
    )

-- the statements of written stores are kept, and their items do not depend on earlier stores
abbrev pub IsAlone : SourceNames → SrcItem → Type 0
IsAlone names i = (before : List Store) → item_elements names before i ≡ item_elements names [] i

pub elements-alone : (names : SourceNames) (before : List Store) (items : List SrcItem) → AllByRecursion (IsAlone names) items
    → flat_map (item_elements names before) items ≡ flat_map (item_elements names []) items
elements-alone names before [] alone = refl
elements-alone names before (i ∷ items) alone = λ j. alone.0 before j ++ elements-alone names before items alone.1 j

element-alone : (names : SourceNames) (called : Names) (e : Element) → IsAlone names (back_element called e)
element-alone names called (element.Char c) before = refl
element-alone names called (element.Mark m) before = refl
element-alone names called (element.Key flags code) before = refl

elements-are-alone : (names : SourceNames) (called : Names) (es : List Element) → AllByRecursion (IsAlone names) (map (back_element called) es)
elements-are-alone names called [] = tt
elements-are-alone names called (e ∷ es) = (element-alone names called e, elements-are-alone names called es)

-- if a store is written, it does not have the id of a system store that isn't written
pub no-system : (named : List ℕ) (n id : ℕ) (store : Store) → nat_eq id 0 ≡ false → list_any (nat_eq id) written_ids ≡ false → is_written named n store ≡ true → nat_eq store.system id ≡ false
no-system named n id store some other w =
    false_from_ne_true (nat_eq store.system id)
    (λ e. let same : store.system ≡ id = eqb-true store.system id e in
    clash (is_written named n store) w
    ((λ i. if nat_eq (same i) 0 then list_any (nat_eq n) named else list_any (nat_eq (same i)) written_ids) ∙ (cond-false (nat_eq id 0) _ _ some ∙ other)))

pub back-simple : (names : SourceNames) (called : Names) (named : List ℕ) (line j : ℕ) (calls : List (Option (List ℕ))) (stores : List Store) → AreCalls named j calls stores
    → AllByRecursion (IsSimple names) (back_stores called line calls stores)
back-simple names called named line j [] stores c = tt
back-simple names called named line j (call ∷ calls) [] c = tt
back-simple names called named line j (None ∷ calls) (s ∷ stores) c = back-simple names called named line (j + 1) calls stores c.1
back-simple names called named line j (Some name ∷ calls) (s ∷ stores) c = (
  (no-system named j 0xFFFF s refl refl c.0, λ before i. record { system = s.system; name = name; elements = elements-alone names before (map (back_element called) s.elements) (elements-are-alone names called s.elements) i }),
  back-simple names called named (line + 1) (j + 1) calls stores c.2,
)
