-- The keys of a range, one after the other.
use Rattle.std.proofs.Common.{◌≡◌, ℕ, suc, ◌+◌, ◌-◌, ◌<◌, ◌≤◌, List, [], ◌∷◌, ◌++◌, Option, None, Some, refl, sym, ◌∙◌, ap, arith, append_assoc, append-nil}
use Rattle.std.specs.Prelude.{option_map, option_and_then}
use Rattle.virtual_keys.specs.Keys.{key_name}
use Rattle.kmn_items.specs.TokenTexts.{LineToken}
use Rattle.import_tokens.specs.Ranges.{counted, key_tokens, keys_tokens}

-- tokens before others, if there are others
abbrev pub after : List LineToken → Option (List LineToken) → Option (List LineToken)
after before more = option_map (λ (tokens : List LineToken). before ++ tokens) more

after_both : (before tokens : List LineToken) (more : Option (List LineToken)) → after (before ++ tokens) more ≡ after before (after tokens more)
after_both before tokens None = refl
after_both before tokens (Some more) = ap Some (append_assoc before tokens more)

pub nothing_before : (before : List LineToken) (more : Option (List LineToken)) → before ≡ [] → after before more ≡ more
nothing_before before None e = refl
nothing_before before (Some more) e = ap (λ (tokens : List LineToken). Some (tokens ++ more)) e

counted_step : (code last : ℕ) → code < last → counted code (last - code) ≡ code ∷ counted (code + 1) (last - (code + 1))
counted_step code last less = let e : last - code ≡ suc (last - (code + 1)) = omega (arith, less) in ap (counted code) e

module _ (modifiers : List LineToken) where
  keys_of : Option (List ℕ) → List ℕ → Option (List LineToken)
  keys_of named codes = option_and_then (λ (name : List ℕ). option_map (λ (more : List LineToken). key_tokens modifiers name ++ more) (keys_tokens modifiers codes)) named

  -- a key more
  pub keys_on : (before new : List LineToken) (name : List ℕ) (code last : ℕ) (all : Option (List LineToken)) → code < last → key_name code ≡ Some name → new ≡ before ++ key_tokens modifiers name
      → after before (keys_tokens modifiers (counted code (last - code))) ≡ all → after new (keys_tokens modifiers (counted (code + 1) (last - (code + 1)))) ≡ all
  unfolding keys_of
  keys_on before new name code last all less named e so_far =
      let codes : List ℕ = counted (code + 1) (last - (code + 1)) in
      ap (λ (tokens : List LineToken). after tokens (keys_tokens modifiers codes)) e
      ∙ after_both before (key_tokens modifiers name) (keys_tokens modifiers codes)
      ∙ ap (λ o. after before (keys_of o codes)) (sym named)
      ∙ ap (λ (cs : List ℕ). after before (keys_tokens modifiers cs)) (sym (counted_step code last less))
      ∙ so_far

  -- a key without a name
  pub keys_none : (before : List LineToken) (code last : ℕ) (all : Option (List LineToken)) → code < last → key_name code ≡ None
      → after before (keys_tokens modifiers (counted code (last - code))) ≡ all → None ≡ all
  unfolding keys_of
  keys_none before code last all less named so_far =
      let codes : List ℕ = counted (code + 1) (last - (code + 1)) in
      ap (λ o. after before (keys_of o codes)) (sym named)
      ∙ ap (λ (cs : List ℕ). after before (keys_tokens modifiers cs)) (sym (counted_step code last less))
      ∙ so_far

  -- no code left
  pub keys_done : (before : List LineToken) (code last : ℕ) (all : Option (List LineToken)) → last ≤ code
      → after before (keys_tokens modifiers (counted code (last - code))) ≡ all → Some before ≡ all
  keys_done before code last all end so_far =
      let none : last - code ≡ 0 = omega (arith, end) in
      sym (ap Some (append-nil before))
      ∙ ap (λ (n : ℕ). after before (keys_tokens modifiers (counted code n))) (sym none)
      ∙ so_far
