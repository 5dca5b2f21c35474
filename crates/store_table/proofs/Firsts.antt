-- The first refusal, statement by statement.
use Rattle.std.proofs.Common.{◌≡◌, ℕ, ◌+◌, ◌<◌, Bool, true, false, cond, nat_lt, List, [], ◌∷◌, ◌++◌, take, drop, length, get_or, Option, Some, None, refl, sym, ap, ◌∙◌, arith, flat_map, option_to_list}
use Rattle.std.proofs.lemmas.Bool.Decides.{nat_tests}
use Rattle.std.proofs.lemmas.List.{drop_more}
use Rattle.std.proofs.lemmas.List.Concat.{flat_map-append}
use Rattle.std.proofs.lemmas.Grind.{common_steps}
use Rattle.kmn_base.specs.declared.refusals.Refusal.{Refusal}
use Rattle.rule_model.specs.declared.program.StoreDef.{StoreDef}
use Rattle.std.specs.List.{list_any}
use Rattle.std.specs.Prelude.{◌||◌}
use Rattle.std.specs.Option.{option_or}
use Rattle.std.proofs.lemmas.List.Folds.{list_any_more}
use Rattle.kmn_base.specs.declared.codes.Code.{Code}
use Rattle.store_table.specs.First.{earlier, first_of, first_code, all_of, first_among}
use Rattle.std.proofs.lemmas.List.{map-append, append_assoc}
use Rattle.rule_model.specs.declared.program.GroupDef.{GroupDef}
use Rattle.rule_model.specs.declared.program.RuleDef.{RuleDef}
use Rattle.store_table.specs.Names.{store_names, group_names}

-- the earliest of three refusals
pub earlier_later : (a b c : Option Refusal) → earlier (earlier a b) c ≡ earlier a (earlier b c)
earlier_later None b c = refl
earlier_later (Some a) None c = refl
earlier_later (Some a) (Some b) None = by_test (nat_lt b.line a.line)
  where
    by_test : (t : Bool) → earlier (cond t (Some b) (Some a)) None ≡ cond t (Some b) (Some a)
    by_test true = refl
    by_test false = refl
earlier_later (Some a) (Some b) (Some c) = grind (arith, nat_tests)

pub take_next : {X : Type 0} (xs : List X) (i : ℕ) (x : X) → i < length xs → x ≡ get_or xs i x → take (i + 1) xs ≡ take i xs ++ x ∷ []
take_next xs i x h e = grind (arith, common_steps)

pub first_step : {X : Type 0} (f : List X → X → Option Refusal) (xs : List X) (i : ℕ) (x : X) → i < length xs → x ≡ get_or xs i x
    → first_of f (take i xs) (drop i xs) ≡ earlier (f (take i xs) x) (first_of f (take (i + 1) xs) (drop (i + 1) xs))
first_step f xs i x h e =
    ap (first_of f (take i xs)) (drop_more xs i x h ∙ ap (λ y. y ∷ drop (i + 1) xs) (sym e))
    ∙ ap (λ before. earlier (f (take i xs) x) (first_of f before (drop (i + 1) xs))) (sym (take_next xs i x h e))

pub names_step : (xs : List StoreDef) (i : ℕ) (x : StoreDef) → i < length xs → x ≡ get_or xs i x → store_names (take (i + 1) xs) ≡ store_names (take i xs) ++ store_names (x ∷ [])
names_step xs i x h e = ap store_names (take_next xs i x h e) ∙ flat_map-append _ (take i xs) (x ∷ [])

pub groups_step : (xs : List GroupDef) (i : ℕ) (x : GroupDef) → i < length xs → x ≡ get_or xs i x → group_names (take (i + 1) xs) ≡ group_names (take i xs) ++ x.name ∷ []
groups_step xs i x h e = ap group_names (take_next xs i x h e) ∙ map-append _ (take i xs) (x ∷ [])

pub any_step : {X : Type 0} (test : X → Bool) (xs : List X) (i : ℕ) (x : X) → i < length xs → x ≡ get_or xs i x → list_any test (take (i + 1) xs) ≡ (list_any test (take i xs) || test x)
any_step test xs i x h e = list_any_more test xs i x h ∙ ap (λ y. list_any test (take i xs) || test y) (sym e)

or_else_later : {A : Type 0} (a b c : Option A) → option_or (option_or a b) c ≡ option_or a (option_or b c)
or_else_later None b c = refl
or_else_later (Some a) b c = refl

pub first_code_append : {X : Type 0} (code : X → Option Code) (xs ys : List X) → first_code code (xs ++ ys) ≡ option_or (first_code code xs) (first_code code ys)
first_code_append code [] ys = refl
first_code_append code (x ∷ xs) ys = ap (option_or (code x)) (first_code_append code xs ys) ∙ sym (or_else_later (code x) (first_code code xs) (first_code code ys))

-- the first refusal so far with another statement
pub first_kept : {X : Type 0} (f : List X → X → Option Refusal) (xs : List X) (i : ℕ) (x : X) (best found : Option Refusal) → i < length xs → x ≡ get_or xs i x → found ≡ f (take i xs) x
    → earlier (earlier best found) (first_of f (take (i + 1) xs) (drop (i + 1) xs)) ≡ earlier best (first_of f (take i xs) (drop i xs))
first_kept f xs i x best found h e is =
    ap (λ r. earlier (earlier best r) (first_of f (take (i + 1) xs) (drop (i + 1) xs))) is
    ∙ earlier_later best (f (take i xs) x) (first_of f (take (i + 1) xs) (drop (i + 1) xs))
    ∙ ap (earlier best) (sym (first_step f xs i x h e))

-- the refusals so far with those of another statement
pub all_kept : {X : Type 0} (f : List X → X → Option Refusal) (xs : List X) (i : ℕ) (x : X) (refusals : List Refusal) (found : Option Refusal) → i < length xs → x ≡ get_or xs i x → found ≡ f (take i xs) x
    → (refusals ++ option_to_list found) ++ all_of f (take (i + 1) xs) (drop (i + 1) xs) ≡ refusals ++ all_of f (take i xs) (drop i xs)
all_kept f xs i x refusals found h e is =
    append_assoc refusals (option_to_list found) (all_of f (take (i + 1) xs) (drop (i + 1) xs))
    ∙ ap (λ r. refusals ++ (option_to_list r ++ all_of f (take (i + 1) xs) (drop (i + 1) xs))) is
    ∙ ap (λ before. refusals ++ (option_to_list (f (take i xs) x) ++ all_of f before (drop (i + 1) xs))) (take_next xs i x h e)
    ∙ sym (ap (λ left. refusals ++ all_of f (take i xs) left) (drop_more xs i x h ∙ ap (λ y. y ∷ drop (i + 1) xs) (sym e)))
