-- The codes of cased keys are found among those that are known.
use Rattle.std.proofs.Common.{◌≡◌, ℕ, ◌+◌, ◌<◌, List, [], ◌∷◌, ◌++◌, append-nil, length, take, get_or, sym, ap, subst, ◌∙◌, nat_eq}
use Rattle.std.specs.Prelude.{◌||◌}
use Rattle.std.proofs.Math.Bool.{or-false}
use Rattle.std.proofs.lemmas.List.Elements.{filter_map-append}
use Rattle.std.proofs.lemmas.List.{take_more}
use Rattle.std.proofs.lemmas.List.Folds.{list_any-append}
use Rattle.virtual_keys.proofs.NumberSets.{inserted}
use Rattle.kmn_base.specs.declared.items.Element.{Element}
use Rattle.kmn_base.specs.declared.items.Element.TheVariants as element
use Rattle.rule_model.specs.Src.{code_of_element, codes_among}
use Rattle.rule_expand.specs.CasedCodes.{with_code, HasCodes}

-- one element more
with_one : (known codes : List ℕ) (e : Element) → HasCodes known codes → HasCodes (with_code known e) (codes ++ codes_among (e ∷ []))
with_one known codes (element.Char c) has = rw (append-nil codes) has
with_one known codes (element.Mark m) has = rw (append-nil codes) has
with_one known codes (element.Key flags code) has = record {
  each = λ q.
      inserted known code q
      ∙ ((λ j. has.each q j || sym (or-false (nat_eq q code)) j)
      ∙ sym (list_any-append (nat_eq q) codes (code ∷ [])));
}

pub code_more : (known more : List ℕ) (elements : List Element) (i : ℕ) (d : Element) → i < length elements → HasCodes known (codes_among (take i elements))
    → more ≡ with_code known (get_or elements i d) → HasCodes more (codes_among (take (i + 1) elements))
code_more known more elements i d h has e =
    let taken : codes_among (take (i + 1) elements) ≡ codes_among (take i elements) ++ codes_among (get_or elements i d ∷ []) =
    ap codes_among (take_more elements i d h) ∙ filter_map-append code_of_element (take i elements) (get_or elements i d ∷ []) in
    subst (HasCodes more) (sym taken) (subst (λ (codes : List ℕ). HasCodes codes (codes_among (take i elements) ++ codes_among (get_or elements i d ∷ []))) (sym e)
    (with_one known (codes_among (take i elements)) (get_or elements i d) has))
