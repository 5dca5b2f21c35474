-- An id is found in a table that contains each name once if and only if it is among the names.
use Rattle.std.proofs.Common.{◌≡◌, ℕ, ◌+◌, ◌<◌, Bool, true, false, List, [], ◌∷◌, ◌++◌, length, drop, get_or, refl, sym, ap, ◌∙◌, if◌then◌else◌}
use Rattle.std.specs.Prelude.{◌||◌}
use Rattle.std.specs.List.{list_any}
use Rattle.std.specs.Str.{str_to_ascii_lowercase, bytes_eq}
use Rattle.std.proofs.lemmas.List.{drop_more}
use Rattle.std.proofs.lemmas.List.Folds.{list_any-append}
use Rattle.std.proofs.lemmas.Slice.Eq.{bytes_eq-Decides}
use Rattle.std.proofs.Math.Bool.{or-false}
use Rattle.kmn_base.specs.Names.{same_name}
use Rattle.virtual_keys.specs.Dictionary.{with_name}
use Rattle.rule_model.specs.declared.tables.Rule.{Rule}
use Rattle.rule_model.specs.declared.tables.Group.{Group}
use Rattle.store_table.specs.Names.{is_named}
use Rattle.store_table.specs.Numbering.{with_marks}
use Rattle.store_table.proofs.ByAppearance.{marks_append}
use Rattle.virtual_keys.proofs.NamePlaces.{some_place}
use Rattle.touch_layout.specs.Ids.{recorded_name, rule_names, recorded_names}

pub next_rule : (dictionary names : List (List ℕ)) (rules : List Rule) (i : ℕ) (rule : Rule) → i < length rules → rule ≡ get_or rules i rule
    → with_marks names (rule_names dictionary (drop i rules)) ≡ with_marks (with_marks names (recorded_name dictionary rule.key)) (rule_names dictionary (drop (i + 1) rules))
next_rule dictionary names rules i rule h e =
    ap (λ (rs : List Rule). with_marks names (rule_names dictionary rs)) (drop_more rules i rule h ∙ ap (λ (r : Rule). r ∷ drop (i + 1) rules) (sym e))
    ∙ marks_append names (recorded_name dictionary rule.key) (rule_names dictionary (drop (i + 1) rules))

pub next_group : (dictionary names : List (List ℕ)) (groups : List Group) (i : ℕ) (group : Group) → i < length groups → group ≡ get_or groups i group
    → with_marks names (recorded_names dictionary (drop i groups)) ≡ with_marks (with_marks names (rule_names dictionary group.rules)) (recorded_names dictionary (drop (i + 1) groups))
next_group dictionary names groups i group h e =
    ap (λ (gs : List Group). with_marks names (recorded_names dictionary gs)) (drop_more groups i group h ∙ ap (λ (g : Group). g ∷ drop (i + 1) groups) (sym e))
    ∙ marks_append names (rule_names dictionary group.rules) (recorded_names dictionary (drop (i + 1) groups))

pub or_true : (b : Bool) → (b || true) ≡ true
or_true true = refl
or_true false = refl

or_later : (a b c : Bool) → ((a || b) || c) ≡ (a || (b || c))
or_later true b c = refl
or_later false b c = refl

-- if an id is the same as a name, and the name is the same as a known name, the id is the same as the known name
alike : (id name known : List ℕ) → same_name id name ≡ true → same_name name known ≡ true → same_name id known ≡ true
unfolding same_name
alike id name known one other =
    ap (λ folded. bytes_eq folded (str_to_ascii_lowercase known)) ((bytes_eq-Decides (str_to_ascii_lowercase id) (str_to_ascii_lowercase name)).0 one) ∙ other

found_here : (known_is : Bool) (id name known : List ℕ) (names : List (List ℕ)) → same_name name known ≡ known_is → same_name id name ≡ true
    → (known_is || list_any (same_name name) names) ≡ true → (list_any (same_name name) names ≡ true → list_any (same_name id) names ≡ true)
    → (same_name id known || list_any (same_name id) names) ≡ true
found_here true id name known names is one there rest = ap (λ b. b || list_any (same_name id) names) (alike id name known one is)
found_here false id name known names is one there rest = ap (λ b. same_name id known || b) (rest there) ∙ or_true (same_name id known)

found_too : (id name : List ℕ) (names : List (List ℕ)) → same_name id name ≡ true → list_any (same_name name) names ≡ true → list_any (same_name id) names ≡ true
found_too id name [] one there = absurd (cc)
found_too id name (known ∷ names) one there = found_here (same_name name known) id name known names refl one there (found_too id name names one)

one_more : (known : Bool) (same : Bool) (id name : List ℕ) (names : List (List ℕ)) → list_any (same_name name) names ≡ known → same_name id name ≡ same
    → list_any (same_name id) (if known then names else names ++ name ∷ []) ≡ (list_any (same_name id) names || same_name id name)
one_more false same id name names is one =
    list_any-append (same_name id) names (name ∷ []) ∙ ap (λ b. list_any (same_name id) names || b) (or-false (same_name id name))
one_more true false id name names is one = sym (or-false (list_any (same_name id) names)) ∙ ap (λ b. list_any (same_name id) names || b) (sym one)
one_more true true id name names is one =
    found_too id name names one is ∙ sym (or_true (list_any (same_name id) names)) ∙ ap (λ b. list_any (same_name id) names || b) (sym one)

with_one : (id name : List ℕ) (names : List (List ℕ)) → list_any (same_name id) (with_name names name) ≡ (list_any (same_name id) names || same_name id name)
with_one id name names =
    ap (λ known. list_any (same_name id) (if known then names else names ++ name ∷ [])) (some_place (same_name name) names)
    ∙ one_more (list_any (same_name name) names) (same_name id name) id name names refl refl

with_all : (id : List ℕ) (names more : List (List ℕ)) → list_any (same_name id) (with_marks names more) ≡ (list_any (same_name id) names || list_any (same_name id) more)
with_all id names [] = sym (or-false (list_any (same_name id) names))
with_all id names (name ∷ more) =
    with_all id (with_name names name) more ∙ ap (λ b. b || list_any (same_name id) more) (with_one id name names)
    ∙ or_later (list_any (same_name id) names) (same_name id name) (list_any (same_name id) more)

pub named_once : (names : List (List ℕ)) (id : List ℕ) → is_named (with_marks [] names) id ≡ list_any (same_name id) names
unfolding is_named
named_once names id = some_place (same_name id) (with_marks [] names) ∙ with_all id [] names
