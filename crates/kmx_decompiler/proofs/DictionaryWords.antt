-- The words of a key dictionary, checked one after the other.
use Rattle.std.proofs.Common.{◌≡◌, ℕ, Bool, true, false, not, ◌&&◌, ◌||◌, List, [], ◌∷◌, ◌++◌, refl, sym, ap, ◌∙◌, append_assoc, append-nil}
use Rattle.std.specs.Prelude.{nat_eq, length, if◌then◌else◌}
use Rattle.std.specs.Prelude.{IsUtf8}
use Rattle.std.specs.List.{list_any, list_all}
use Rattle.std.specs.Str.{is_utf8}
use Rattle.std.proofs.lemmas.Str.{is_utf8-from_IsUtf8, IsUtf8-from_is_utf8}
use Rattle.kmn_base.specs.Names.{same_name}
use Rattle.store_table.specs.Names.{is_named}
use Rattle.virtual_keys.proofs.NamePlaces.{some_place, any_name}
use Rattle.kmx_decompiler.specs.Causes.{is_dictionary_name, are_repeated}
use Rattle.kmx_decompiler.specs.Words.{are_unfit, not_empty}

-- the two definitions of UTF-8 agree, for bytes that are UTF-8 and for others
pub is_text : (bytes : List ℕ) → IsUtf8 bytes → is_utf8 bytes ≡ true
is_text bytes text = is_utf8-from_IsUtf8 bytes text

other_test : (b : Bool) → ¬ (b ≡ true) → b ≡ false
other_test true other = absurd (other refl)
other_test false other = refl

pub is_no_text : (bytes : List ℕ) → ¬ (IsUtf8 bytes) → is_utf8 bytes ≡ false
is_no_text bytes other = other_test (is_utf8 bytes) (λ e. other (IsUtf8-from_is_utf8 bytes e))

-- a table has a name if and only if one of its names is the same
pub named_is : (names : List (List ℕ)) (name : List ℕ) → is_named names name ≡ list_any (λ known. same_name known name) names
unfolding is_named
named_is names name = some_place (same_name name) names ∙ any_name name names

either_unfit : (fits : Bool) (known rest all repeated : Bool) → rest ≡ (not all || repeated)
    → (not fits || (known || rest)) ≡ (not (fits && all) || (known || repeated))
either_unfit false known rest all repeated e = refl
either_unfit true true rest true repeated e = refl
either_unfit true true rest false repeated e = refl
either_unfit true false rest true repeated e = e
either_unfit true false rest false repeated e = e

-- names are unfit if and only if one of them is not a key name, or one equals an earlier one
unfit_is : (names before : List (List ℕ)) → are_unfit names before ≡ (not (list_all is_dictionary_name names) || are_repeated before names)
unfit_is [] before = refl
unfit_is (name ∷ names) before =
    either_unfit (is_dictionary_name name) (list_any (λ known. same_name known name) before) (are_unfit names (before ++ name ∷ []))
    (list_all is_dictionary_name names) (are_repeated (before ++ name ∷ []) names) (unfit_is names (before ++ name ∷ []))

pub unfit_is_unspelled : (names : List (List ℕ)) → are_unfit names [] ≡ (not (list_all is_dictionary_name names) || are_repeated [] names)
unfit_is_unspelled names = unfit_is names []

-- joined names are unfit if and only if the first names are unfit, or the second names are unfit after the first
pub unfit_append : (first second before : List (List ℕ)) → are_unfit (first ++ second) before ≡ (are_unfit first before || are_unfit second (before ++ first))
unfit_append [] second before = ap (are_unfit second) (sym (append-nil before))
unfit_append (name ∷ names) second before =
    or_more (not (is_dictionary_name name)) (list_any (λ known. same_name known name) before) (are_unfit (names ++ second) (before ++ name ∷ [])) (are_unfit names (before ++ name ∷ []))
    (are_unfit second ((before ++ name ∷ []) ++ names)) (unfit_append names second (before ++ name ∷ []))
    ∙ ap (λ l. (not (is_dictionary_name name) || (list_any (λ known. same_name known name) before || are_unfit names (before ++ name ∷ []))) || are_unfit second l) (append_assoc before (name ∷ []) names)
  where
    or_more : (unfit known all first second : Bool) → all ≡ (first || second) → (unfit || (known || all)) ≡ ((unfit || (known || first)) || second)
    or_more true known all first second e = refl
    or_more false true all first second e = refl
    or_more false false all first second e = e

-- the texts of a list that are not empty are the first text, if it is not empty, then the other texts that are not empty
words_apart : (word : List ℕ) (others : List (List ℕ)) → not_empty (word ∷ others) ≡ not_empty (word ∷ []) ++ not_empty others
words_apart word others = kept_apart (not (nat_eq (length word) 0)) (not_empty others)
  where
    kept_apart : (kept : Bool) (others : List (List ℕ)) → (if kept then word ∷ others else others) ≡ (if kept then word ∷ [] else []) ++ others
    kept_apart true others = refl
    kept_apart false others = refl

-- texts are unfit if and only if the first text is unfit, or the others are unfit after it
pub one_word_more : (word : List ℕ) (others known : List (List ℕ)) → are_unfit (not_empty (word ∷ others)) known
    ≡ (are_unfit (not_empty (word ∷ [])) known || are_unfit (not_empty others) (known ++ not_empty (word ∷ [])))
one_word_more word others known =
    ap (λ l. are_unfit l known) (words_apart word others) ∙ unfit_append (not_empty (word ∷ [])) (not_empty others) known
