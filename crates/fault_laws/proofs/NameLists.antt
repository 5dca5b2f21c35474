-- Names that are among others, and the words that are not.
use Rattle.std.proofs.Common.{◌≡◌, ℕ, ◌⊎◌, inl, inr, Bool, true, false, List, [], ◌∷◌, ◌++◌, refl, sym, ap, ◌∙◌, if◌then◌else◌, append_assoc}
use Rattle.std.specs.Prelude.{◌||◌}
use Rattle.std.specs.List.{list_any}
use Rattle.std.specs.Str.{str_to_ascii_lowercase}
use Rattle.std.specs.Cmp.Lexicographic.{nat_list_eq_equiv}
use Rattle.std.proofs.lemmas.List.Folds.{list_any-append}
use Rattle.kmn_base.specs.Names.{same_name}
use Rattle.kmn_lines.proofs.TextSizes.{clash}
use Rattle.virtual_keys.proofs.NamePlaces.{some_place, same_name-self}
use Rattle.store_table.specs.Names.{is_named}
use Rattle.source_faults.specs.Stubs.{new_words}

-- one of two tests is true if either is
pub either : (a b : Bool) → (a || b) ≡ true → (a ≡ true) ⊎ (b ≡ true)
either true b h = inl refl
either false b h = inr h

pub first_true : (a b : Bool) → a ≡ true → (a || b) ≡ true
first_true a b h = λ j. h j || b

pub second_true : (a b : Bool) → b ≡ true → (a || b) ≡ true
second_true true b h = refl
second_true false b h = h

-- a name is among names if it is the same as one of them
named_any : (names : List (List ℕ)) (name : List ℕ) → is_named names name ≡ list_any (same_name name) names
unfolding is_named
named_any names name = some_place (same_name name) names

pub named_append : (xs ys : List (List ℕ)) (name : List ℕ) → is_named (xs ++ ys) name ≡ (is_named xs name || is_named ys name)
named_append xs ys name =
    named_any (xs ++ ys) name ∙ list_any-append (same_name name) xs ys ∙ (λ j. sym (named_any xs name) j || sym (named_any ys name) j)

pub named_first : (x : List ℕ) (names : List (List ℕ)) (name : List ℕ) → is_named (x ∷ names) name ≡ (same_name name x || is_named names name)
named_first x names name = named_any (x ∷ names) name ∙ (λ j. same_name name x || sym (named_any names name) j)

pub named_none : (name : List ℕ) → is_named [] name ≡ false
named_none name = named_any [] name

pub named_self : (name : List ℕ) (names : List (List ℕ)) → is_named (name ∷ names) name ≡ true
named_self name names = named_first name names name ∙ first_true (same_name name name) (is_named names name) (same_name-self name)

-- names that are the same are among the same names
same_as : (a b x : List ℕ) → same_name a b ≡ true → same_name a x ≡ same_name b x
unfolding same_name
same_as a b x h = nat_list_eq_equiv.congr (str_to_ascii_lowercase a) (str_to_ascii_lowercase b) (str_to_ascii_lowercase x) h

any_same : (a b : List ℕ) → same_name a b ≡ true → (names : List (List ℕ)) → list_any (same_name a) names ≡ list_any (same_name b) names
any_same a b h [] = refl
any_same a b h (x ∷ names) = λ j. same_as a b x h j || any_same a b h names j

pub named_same : (a b : List ℕ) → same_name a b ≡ true → (names : List (List ℕ)) → is_named names a ≡ is_named names b
named_same a b h names = named_any names a ∙ any_same a b h names ∙ sym (named_any names b)

-- no new word is among the names
pub words_apart : (words names : List (List ℕ)) (name : List ℕ) → is_named names name ≡ true → is_named (new_words names words) name ≡ false
words_apart [] names name h = named_none name
words_apart (word ∷ words) names name h =
    by (is_named names word) refl (words_apart words names name h) (words_apart words (names ++ word ∷ []) name (named_append names (word ∷ []) name ∙ first_true (is_named names name) (is_named (word ∷ []) name) h))
  where
    other : (t : Bool) → same_name name word ≡ t → is_named names word ≡ false → same_name name word ≡ false
    other false e is = e
    other true e is = clash (is_named names word) (sym (named_same name word e names) ∙ h) is

    by : (t : Bool) → is_named names word ≡ t → is_named (new_words names words) name ≡ false → is_named (new_words (names ++ word ∷ []) words) name ≡ false
        → is_named (if t then new_words names words else word ∷ new_words (names ++ word ∷ []) words) name ≡ false
    by true is same more = same
    by false is same more =
        named_first word (new_words (names ++ word ∷ []) words) name ∙ (λ j. other (same_name name word) refl is j || more j)

-- each word is among the names or the new words
pub words_there : (words names : List (List ℕ)) (name : List ℕ) → is_named words name ≡ true → is_named (names ++ new_words names words) name ≡ true
words_there [] names name h = clash (is_named [] name) h (named_none name)
words_there (word ∷ words) names name h =
    by (is_named names word) refl (either (same_name name word) (is_named words name) (sym (named_first word words name) ∙ h))
    (words_there words names name) (words_there words (names ++ word ∷ []) name)
  where
    by : (t : Bool) → is_named names word ≡ t → (same_name name word ≡ true) ⊎ (is_named words name ≡ true)
        → (is_named words name ≡ true → is_named (names ++ new_words names words) name ≡ true)
        → (is_named words name ≡ true → is_named ((names ++ word ∷ []) ++ new_words (names ++ word ∷ []) words) name ≡ true)
        → is_named (names ++ (if t then new_words names words else word ∷ new_words (names ++ word ∷ []) words)) name ≡ true
    by true is (inl same) here more =
        named_append names (new_words names words) name
        ∙ first_true (is_named names name) (is_named (new_words names words) name) (named_same name word same names ∙ is)
    by true is (inr rest) here more = here rest
    by false is (inl same) here more =
        named_append names (word ∷ new_words (names ++ word ∷ []) words) name
        ∙ second_true (is_named names name) (is_named (word ∷ new_words (names ++ word ∷ []) words) name)
        (named_first word (new_words (names ++ word ∷ []) words) name ∙ first_true (same_name name word) (is_named (new_words (names ++ word ∷ []) words) name) same)
    by false is (inr rest) here more =
        ap (λ all. is_named all name) (sym (append_assoc names (word ∷ []) (new_words (names ++ word ∷ []) words))) ∙ more rest
