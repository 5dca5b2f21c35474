-- A table has a store for each text that a store is stated with, and none for another text.
use Rattle.std.proofs.Common.{◌≡◌, ℕ, zero, suc, ◌+◌, ◌<◌, ◌≤◌, ◌&&◌, Bool, true, false, cond, true≢false, nat_eq, List, [], ◌∷◌, length, map, get_or, Option, Some, None, Vec, refl, sym, ap, ◌∙◌, inl, inr, arith}
use Rattle.std.specs.Str.{bytes_eq}
use Rattle.std.proofs.lemmas.Bool.{cases_Bool, cases_lt, cond-true, cond-false}
use Rattle.std.proofs.lemmas.List.{length-map}
use Rattle.std.proofs.lemmas.Slice.Eq.{bytes_eq-Decides}
use Rattle.indexmap.specs.IndexMap.{insert_entry}
use Rattle.kmn_base.specs.declared.items.Element.{Element}
use Rattle.kmn_base.specs.declared.items.Element.TheVariants.{Char}
use Rattle.rule_model.specs.Content.{elements_at}
use Rattle.rule_model.specs.Keyboard.{StoreMeaning, stated}
use Rattle.rule_model.specs.Match.{same_element, same_value}
use Rattle.rule_index.specs.Holdings.{content_at}
use Rattle.rule_index.specs.Texts.{AreTexts, IsApart, store_of}
use Rattle.rule_index.proofs.StoreIndexes.{content_is}
use Rattle.rule_index.proofs.StoreValues.{absent}

-- ---- texts and elements

-- two texts are the same elements exactly where they are the same text
same_texts : (text other : List ℕ) → same_value (map Char text) (map Char other) ≡ bytes_eq text other
same_texts [] [] = refl
same_texts [] (d ∷ other) = refl
same_texts (c ∷ text) [] = refl
same_texts (c ∷ text) (d ∷ other) = λ i. nat_eq c d && same_texts text other i

neither : (b : Bool) → (b && false) ≡ false
neither true = refl
neither false = refl

-- elements with one that differs from each character aren't a text
pub not_text : (elements : List Element) (n : ℕ) (d other : Element) → n < length elements → get_or elements n d ≡ other → ((c : ℕ) → same_element (Char c) other ≡ false)
    → (text : List ℕ) → same_value (map Char text) elements ≡ false
not_text [] n d other within at apart text = absurd (omega (arith, within))
not_text (first ∷ elements) zero d other within at apart [] = refl
not_text (first ∷ elements) zero d other within at apart (c ∷ text) = λ i. ((ap (same_element (Char c)) at ∙ apart c) i) && same_value (map Char text) elements
not_text (first ∷ elements) (suc n) d other within at apart [] = refl
not_text (first ∷ elements) (suc n) d other within at apart (c ∷ text) =
    ap (λ (b : Bool). same_element (Char c) first && b) (not_text elements n d other (omega (arith, within)) at apart text) ∙ neither (same_element (Char c) first)

-- ---- a text is inserted

again : (mine : Bool) (store old : ℕ) (rest : Option ℕ) → cond mine (Some store) rest ≡ cond mine (Some store) (cond mine (Some old) rest)
again true store old rest = refl
again false store old rest = refl

swapped : (here mine : Bool) (store old : ℕ) (rest : Option ℕ) → (here ≡ true → mine ≡ true → ⊥)
    → cond here (Some old) (cond mine (Some store) rest) ≡ cond mine (Some store) (cond here (Some old) rest)
swapped true true store old rest never = absurd (never refl refl)
swapped true false store old rest never = refl
swapped false mine store old rest never = refl

module _ {A : Type 0} where
  inserted : (entries : List (Vec ℕ A × ℕ)) (key : Vec ℕ A) (store : ℕ) (text : List ℕ)
      → store_of (insert_entry (λ a b. bytes_eq a.items b.items) entries key store) text ≡ cond (bytes_eq text key.items) (Some store) (store_of entries text)
  inserted [] key store text = refl
  inserted (entry ∷ entries) key store text = elim (cases_Bool (bytes_eq key.items entry.0.items)) [
    | inl same ↦
        let is : key.items ≡ entry.0.items = (bytes_eq-Decides key.items entry.0.items).0 same in
        ap (λ (b : Bool). store_of (cond b ((entry.0, store) ∷ entries) (entry ∷ insert_entry (λ a b. bytes_eq a.items b.items) entries key store)) text) same
        ∙ again (bytes_eq text entry.0.items) store entry.1 (store_of entries text)
        ∙ ap (λ (k : List ℕ). cond (bytes_eq text k) (Some store) (store_of (entry ∷ entries) text)) (sym is)
    | inr apart ↦
        ap (λ (b : Bool). store_of (cond b ((entry.0, store) ∷ entries) (entry ∷ insert_entry (λ a b. bytes_eq a.items b.items) entries key store)) text) apart
        ∙ ap (cond (bytes_eq text entry.0.items) (Some entry.1)) (inserted entries key store text)
        ∙ swapped (bytes_eq text entry.0.items) (bytes_eq text key.items) store entry.1 (store_of entries text)
        (λ here mine.
        let is : key.items ≡ entry.0.items = sym ((bytes_eq-Decides text key.items).0 mine) ∙ (bytes_eq-Decides text entry.0.items).0 here in
        true≢false (sym ((bytes_eq-Decides key.items entry.0.items).1 is) ∙ apart))
  ]

  -- the table of no stores has no entries
  pub no_texts : (stores : List (List Element)) → AreTexts {A = A} stores 0 []
  no_texts stores = record {
    found = λ text store (e : None ≡ Some store). absurd (cc);
    missing = λ text store e below. absurd (omega (arith, below));
  }

  module _ (stores : List (List Element)) (n : ℕ) (entries : List (Vec ℕ A × ℕ)) (are : AreTexts stores n entries) where
    -- after the text of the next store was inserted the table has one store more
    pub text_inserted : (after : List (Vec ℕ A × ℕ)) (key : Vec ℕ A) → map Char key.items ≡ content_at stores n
        → after ≡ insert_entry (λ a b. bytes_eq a.items b.items) entries key n → AreTexts stores (n + 1) after
    text_inserted after key is put = record {
      found = λ text store e. elim (cases_Bool (bytes_eq text key.items)) [
        | inl same ↦
            let both : Some n ≡ Some store = sym (now text ∙ cond-true (bytes_eq text key.items) (Some n) (store_of entries text) same) ∙ e in
            let number : n ≡ store = cc in
            (omega (arith, number), ap (content_at stores) (sym number) ∙ sym is ∙ ap (map Char) (sym ((bytes_eq-Decides text key.items).0 same)))
        | inr apart ↦
            let old = are.found text store (sym (now text ∙ cond-false (bytes_eq text key.items) (Some n) (store_of entries text) apart) ∙ e) in
            (omega (arith, old.0), old.1)
      ];
      missing = λ text store e below. elim (cases_Bool (bytes_eq text key.items)) [
        | inl same ↦
            let never : Some n ≡ None = sym (now text ∙ cond-true (bytes_eq text key.items) (Some n) (store_of entries text) same) ∙ e in
            absurd (cc)
        | inr apart ↦ elim (cases_lt store n) [
          | inl older ↦ are.missing text store (sym (now text ∙ cond-false (bytes_eq text key.items) (Some n) (store_of entries text) apart) ∙ e) older
          | inr newer ↦
              let number : store ≡ n = omega (arith, below, newer) in
              ap (same_value (map Char text)) (ap (content_at stores) number ∙ sym is) ∙ same_texts text key.items ∙ apart
        ]
      ];
    }
      where
        now : (text : List ℕ) → store_of after text ≡ cond (bytes_eq text key.items) (Some n) (store_of entries text)
        now text = ap (λ (these : List (Vec ℕ A × ℕ)). store_of these text) put ∙ inserted entries key n text

    -- if the next store is not a text, the same table has one store more
    pub text_left_out : ((text : List ℕ) → same_value (map Char text) (content_at stores n) ≡ false) → AreTexts stores (n + 1) entries
    text_left_out apart = record {
      found = λ text store e. let old = are.found text store e in (omega (arith, old.0), old.1);
      missing = λ text store e below. elim (cases_lt store n) [
        | inl older ↦ are.missing text store e older
        | inr newer ↦
            let number : store ≡ n = omega (arith, below, newer) in
            ap (same_value (map Char text)) (ap (content_at stores) number) ∙ apart text
      ];
    }

  -- ---- a text is looked up

  module _ (stores : List StoreMeaning) (entries : List (Vec ℕ A × ℕ)) (text : List ℕ) (are : AreTexts (stated stores) (length (stated stores)) entries) where
    -- the store that is found is stated with the text
    pub found_has_text : (store : ℕ) → store_of entries text ≡ Some store → elements_at stores (Some store) ≡ map Char text
    found_has_text store e = sym (content_is stores store) ∙ (are.found text store e).1

    -- a text of at least one character that isn't found is apart from the stores
    pub missing_is_apart : 0 < length text → store_of entries text ≡ None → IsApart stores text
    missing_is_apart long none value = elim (cases_lt value (length (stated stores))) [
      | inl below ↦ ap (same_value (map Char text)) (sym (content_is stores value)) ∙ are.missing text value none below
      | inr past ↦ ap (same_value (map Char text)) (absent stores value (omega (arith, past, counted))) ∙ not_empty text long
    ]
      where
        counted : length (stated stores) ≡ length stores
        counted = length-map stores (λ (store : StoreMeaning). store.elements)

        not_empty : (characters : List ℕ) → 0 < length characters → same_value (map Char characters) [] ≡ false
        not_empty [] some = absurd (omega (arith, some))
        not_empty (c ∷ characters) some = refl

-- the number after the last store has the elements of an empty text
pub empty_has_text : (stores : List StoreMeaning) (text : List ℕ) (count : ℕ) → length text ≡ 0 → count ≡ length stores → elements_at stores (Some count) ≡ map Char text
empty_has_text stores [] count empty past = absent stores count (omega (arith, past))
empty_has_text stores (c ∷ text) count empty past = absurd (omega (arith, empty))
