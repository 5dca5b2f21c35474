-- No store or group that is written out of tables is refused for its name.
use Rattle.std.proofs.Common.{◌≡◌, ℕ, ◌+◌, Bool, true, false, List, [], ◌∷◌, ◌++◌, length, map, Option, None, Some, refl, sym, ◌∙◌, ap, subst, arith, append-nil, if◌then◌else◌}
use Rattle.std.specs.Prelude.{nat_eq}
use Rattle.std.specs.List.{AllByRecursion}
use Rattle.std.proofs.lemmas.Bool.{or_from}
use Rattle.std.proofs.lemmas.List.{map-append}
use Rattle.std.proofs.lemmas.List.Concat.{flat_map-append}
use Rattle.kmn_base.specs.declared.codes.Code.TheVariants.{C03, C04}
use Rattle.kmn_base.specs.declared.items.Element.{Element}
use Rattle.kmn_base.specs.declared.items.Element.TheVariants as element
use Rattle.kmn_base.specs.Names.{same_name}
use Rattle.rule_model.specs.declared.program.StoreDef.{StoreDef}
use Rattle.rule_model.specs.declared.program.GroupDef.{GroupDef}
use Rattle.rule_model.specs.declared.tables.Store.{Store}
use Rattle.rule_model.specs.declared.tables.Group.{Group}
use Rattle.rule_model.specs.Naming.{is_dropped}
use Rattle.store_table.specs.declared.stating.Stated.{Stated}
use Rattle.store_table.specs.First.{broken, first_code, first_of}
use Rattle.store_table.specs.Names.{is_named, kept_name, store_names, group_names, is_store_again, is_group_again, store_item_code, store_code, store_refusal, group_code, group_refusal}
use Rattle.decompile_program.specs.Items.{Names, back_element}
use Rattle.decompile_program.specs.Back.{back_stores, back_group, back_groups}
use Rattle.decompile_program.proofs.Apart.{same-turned, filled, EachApart, AreApart}
use Rattle.kmx_decompiler.proofs.StatedNames.{named-cons}
use Rattle.kmx_decompiler.proofs.UnrefusedRules.{no-else, no-earlier, no-line, no-broken}
use Rattle.kmx_decompiler.proofs.Conjunctions.{fails-when}

-- a name that is not empty differs from all names that come later
abbrev pub Later : List (Option (List ℕ)) → List ℕ → Type 0
Later calls y = same_name y [] ≡ false → EachApart y calls

pub named-none : (x : List ℕ) → is_named [] x ≡ false
unfolding is_named
named-none x = refl

later-next : (x : List ℕ) (calls : List (Option (List ℕ))) (names : List (List ℕ)) → AllByRecursion (Later (Some x ∷ calls)) names → AllByRecursion (Later calls) names
later-next x calls [] h = tt
later-next x calls (y ∷ names) h = ((λ some. (h.0 some).1), later-next x calls names h.1)

differs : (x y : List ℕ) (calls : List (Option (List ℕ))) → same_name x [] ≡ false → Later (Some x ∷ calls) y → same_name x y ≡ false
differs x [] calls some l = some
differs x (b ∷ bytes) calls some l = same-turned (b ∷ bytes) x (l (filled b bytes)).0

not-named : (x : List ℕ) (calls : List (Option (List ℕ))) (names : List (List ℕ)) → same_name x [] ≡ false → AllByRecursion (Later (Some x ∷ calls)) names → is_named names x ≡ false
not-named x calls [] some h = named-none x
not-named x calls (y ∷ names) some h = named-cons y names x ∙ or_from (same_name x y) (is_named names x) (differs x y calls some h.0) (not-named x calls names some h.1)

later-join : (calls : List (Option (List ℕ))) (xs ys : List (List ℕ)) → AllByRecursion (Later calls) xs → AllByRecursion (Later calls) ys → AllByRecursion (Later calls) (xs ++ ys)
later-join calls [] ys h k = k
later-join calls (x ∷ xs) ys h k = (h.0, later-join calls xs ys h.1 k)

later-kept : (calls : List (Option (List ℕ))) (store : StoreDef) → Later calls store.name → AllByRecursion (Later calls) (kept_name store)
later-kept calls store l = by (is_dropped store)
  where
    by : (b : Bool) → AllByRecursion (Later calls) (if b then [] else store.name ∷ [])
    by true = tt
    by false = (l, tt)

elements-fine : (stated : Stated) (names : Names) (before : List (List ℕ)) (es : List Element) → first_code (store_item_code stated before) (map (back_element names) es) ≡ None
elements-fine stated names before [] = refl
elements-fine stated names before (element.Char c ∷ es) = elements-fine stated names before es
elements-fine stated names before (element.Mark m ∷ es) = elements-fine stated names before es
elements-fine stated names before (element.Key flags code ∷ es) = elements-fine stated names before es

-- each ordinary store that is written has a name
abbrev pub HaveNames : List (Option (List ℕ)) → List Store → Type 0
HaveNames [] stores = Unit {0}
HaveNames (call ∷ calls) [] = Unit {0}
HaveNames (None ∷ calls) (store ∷ stores) = HaveNames calls stores
HaveNames (Some name ∷ calls) (store ∷ stores) = (nat_eq store.system 0 ≡ true → same_name name [] ≡ false) × HaveNames calls stores

-- if stores have distinct names, which also differ from the names of the stores before them, none is refused for its name
pub stores_apart : (stated : Stated) (names : Names) (line : ℕ) (before : List StoreDef) (calls : List (Option (List ℕ))) (stores : List Store)
    → HaveNames calls stores → AreApart calls → AllByRecursion (Later calls) (store_names before) → first_of (store_refusal stated) before (back_stores names line calls stores) ≡ None
stores_apart stated names line before [] stores some apart later = refl
stores_apart stated names line before (None ∷ calls) [] some apart later = refl
stores_apart stated names line before (Some name ∷ calls) [] some apart later = refl
stores_apart stated names line before (None ∷ calls) (store ∷ stores) some apart later =
    stores_apart stated names line before calls stores some apart (skipped (store_names before) later)
  where
    skipped : (xs : List (List ℕ)) → AllByRecursion (Later (None ∷ calls)) xs → AllByRecursion (Later calls) xs
    skipped [] h = tt
    skipped (x ∷ xs) h = (h.0, skipped xs h.1)
stores_apart stated names line before (Some name ∷ calls) (store ∷ stores) some apart later =
    let written : StoreDef = record { line = line; system = store.system; name = name; items = map (back_element names) store.elements } in
    no-earlier (store_refusal stated before written) (first_of (store_refusal stated) (before ++ written ∷ []) (back_stores names (line + 1) calls stores))
    (no-line line (store_code stated (store_names before) written)
    (no-else (broken ((C03, is_store_again (store_names before) written) ∷ [])) (first_code (store_item_code stated (store_names before)) written.items)
    (no-broken C03 (is_store_again (store_names before) written) []
    (fails-when (nat_eq store.system 0) (is_named (store_names before) name) (λ o. not-named name calls (store_names before) (some.0 o) later)) refl)
    (elements-fine stated names (store_names before) store.elements)))
    (stores_apart stated names (line + 1) (before ++ written ∷ []) calls stores some.1 apart.1
    (subst (AllByRecursion (Later calls)) (sym (flat_map-append kept_name before (written ∷ []) ∙ ap (λ (xs : List (List ℕ)). store_names before ++ xs) (append-nil (kept_name written))))
    (later-join calls (store_names before) (kept_name written) (later-next name calls (store_names before) later) (later-kept calls written apart.0))))

-- each name of a list differs from the names in `before` and from the earlier names of the list
abbrev pub ApartFrom : List (List ℕ) → List (List ℕ) → Type 0
ApartFrom before [] = Unit {0}
ApartFrom before (x ∷ names) = (is_named before x ≡ false) × ApartFrom (before ++ x ∷ []) names

pub groups_apart_refused : (names : Names) (line : ℕ) (before : List GroupDef) (called : List (List ℕ)) (groups : List Group) → length called ≡ length groups
    → ApartFrom (group_names before) called → first_of group_refusal before (back_groups names line called groups) ≡ None
groups_apart_refused names line before [] [] e apart = refl
groups_apart_refused names line before (x ∷ called) [] e apart = refl
groups_apart_refused names line before [] (group ∷ groups) e apart = absurd (omega (arith, e))
groups_apart_refused names line before (x ∷ called) (group ∷ groups) e apart =
    let back : GroupDef = back_group names line x group in
    no-earlier (group_refusal before back) (first_of group_refusal (before ++ back ∷ []) (back_groups names (line + 1 + length back.rules) called groups))
    (no-line line (group_code (group_names before) back) (no-broken C04 (is_group_again (group_names before) back) [] apart.0 refl))
    (groups_apart_refused names (line + 1 + length back.rules) (before ++ back ∷ []) called groups (omega (arith, e))
    (subst (λ (front : List (List ℕ)). ApartFrom front called) (sym (map-append (λ (group : GroupDef). group.name) before (back ∷ []))) apart.1))
