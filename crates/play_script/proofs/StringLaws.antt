-- The tokens of a string, one by one.
use Rattle.std.proofs.Common.{◌≡◌, ℕ, zero, suc, ◌-◌, ◌<◌, nat_eq, Bool, true, false, if◌then◌else◌, List, [], ◌∷◌, ◌++◌, length, length-drop, drop, refl, sym, ap, subst, ◌∙◌, Option, Some, None, option_map, arith, append_assoc}
use Rattle.std.proofs.lemmas.Grind.{common_steps}
use Rattle.std.specs.Prelude.{position, option_and_then}
use Rattle.kmn_base.specs.Bytes.{is_quote}
use Rattle.play_script.specs.Words.{IsTight, without_blanks}
use Rattle.play_script.specs.Strings.{code_point, unquoted, string_token, quoted_token, written_token, tokens_chars}

-- the tokens of a text after its first n bytes are the tokens of the rest
pub tokens_behind : (n : ℕ) (text : List ℕ) → tokens_chars n text ≡ tokens_chars 0 (drop n text)
tokens_behind zero text = refl
tokens_behind (suc n) [] = refl
tokens_behind (suc n) (c ∷ text) = tokens_behind n text

-- leading blanks do not change the tokens of a text
pub tokens_without_blanks : (text : List ℕ) → tokens_chars 0 (without_blanks text) ≡ tokens_chars 0 text
tokens_without_blanks [] = refl
tokens_without_blanks (c ∷ text) = grind (arith, common_steps, tokens_without_blanks text)

-- the size of a token in bytes, or 1 if there is no token: each token has at least one byte
abbrev size_of : Option (List ℕ × ℕ) → ℕ
size_of None = 1
size_of (Some token) = token.1

written_some : (written : List ℕ) (c : Option ℕ) → code_point written ≡ c → 0 < size_of (option_map {U = List ℕ × ℕ} (λ c. (c ∷ [], length written)) c)
written_some [] None is = omega arith
written_some [] (Some c) is = absurd (cc)
written_some (b ∷ written) None is = omega arith
written_some (b ∷ written) (Some c) is = omega arith

quoted_some : (text : List ℕ) (end : Option ℕ) → 0 < size_of (quoted_token text end)
quoted_some text None = omega arith
quoted_some text (Some end) = omega arith

begun_some : (quote : Bool) (c : ℕ) (text : List ℕ)
    → 0 < size_of (if quote then quoted_token text (position (λ b. nat_eq b c) text) else written_token (unquoted (c ∷ text)))
begun_some true c text = quoted_some text (position (λ b. nat_eq b c) text)
begun_some false c text = written_some (unquoted (c ∷ text)) (code_point (unquoted (c ∷ text))) refl

some_token : (text : List ℕ) → 0 < size_of (string_token text)
some_token [] = omega arith
some_token (c ∷ text) = begun_some (is_quote c) c text

pub token_has_bytes : (text : List ℕ) (cs : List ℕ) (size : ℕ) → Some (cs, size) ≡ string_token text → 0 < size
token_has_bytes text cs size e = subst (λ token. 0 < size_of token) (sym e) (some_token text)

joined_more : (all cs : List ℕ) (more whole : Option (List ℕ)) → option_map (λ rest. all ++ rest) (option_map (λ rest. cs ++ rest) more) ≡ whole → option_map (λ rest. (all ++ cs) ++ rest) more ≡ whole
joined_more all cs None whole e = e
joined_more all cs (Some rest) whole e = ap Some (append_assoc all cs rest) ∙ e

step_taken : (all cs : List ℕ) (size : ℕ) (token : Option (List ℕ × ℕ)) (text : List ℕ) (whole : Option (List ℕ)) → Some (cs, size) ≡ token
    → option_map (λ rest. all ++ rest) (option_and_then (λ (t : List ℕ × ℕ). option_map (λ more. t.0 ++ more) (tokens_chars (t.1 - 1) text)) token) ≡ whole
    → option_map (λ rest. (all ++ cs) ++ rest) (tokens_chars (size - 1) text) ≡ whole
step_taken all cs size token text whole e is =
    joined_more all cs (tokens_chars (size - 1) text) whole
    (ap (λ t. option_map (λ rest. all ++ rest) (option_and_then (λ (t : List ℕ × ℕ). option_map (λ more. t.0 ++ more) (tokens_chars (t.1 - 1) text)) t)) e ∙ is)

drop_behind : (size : ℕ) (c : ℕ) (text : List ℕ) → 0 < size → drop (size - 1) text ≡ drop size (c ∷ text)
drop_behind zero c text some = absurd (omega arith)
drop_behind (suc size) c text some = ap (λ n. drop n text) (omega arith)

-- if a token is read, its characters are appended and reading continues after the token and the blanks that follow it
pub next_token : (all cs : List ℕ) (size : ℕ) (rest : List ℕ) (whole : Option (List ℕ)) → IsTight rest → Some (cs, size) ≡ string_token rest
    → option_map (λ more. all ++ more) (tokens_chars 0 rest) ≡ whole
    → option_map (λ more. (all ++ cs) ++ more) (tokens_chars 0 (without_blanks (drop size rest))) ≡ whole
next_token all cs size [] whole tight token is = absurd (cc)
next_token all cs size (c ∷ text) whole tight token is =
    let some : 0 < size = token_has_bytes (c ∷ text) cs size token in
    let behind : tokens_chars 0 (without_blanks (drop size (c ∷ text))) ≡ tokens_chars (size - 1) text =
    tokens_without_blanks (drop size (c ∷ text)) ∙ ap (tokens_chars 0) (sym (drop_behind size c text some)) ∙ sym (tokens_behind (size - 1) text) in
    ap (option_map (λ more. (all ++ cs) ++ more)) behind
    ∙ step_taken all cs size (string_token (c ∷ text)) text whole token
    (ap (λ (blank : Bool). option_map (λ more. all ++ more) (if blank then tokens_chars 0 text
    else option_and_then (λ (t : List ℕ × ℕ). option_map (λ more. t.0 ++ more) (tokens_chars (t.1 - 1) text)) (string_token (c ∷ text)))) (sym tight) ∙ is)

-- if no token can be read before the end of a text, the result for the whole text is None
pub no_token : (all : List ℕ) (rest : List ℕ) (whole : Option (List ℕ)) → IsTight rest → None ≡ string_token rest → 0 < length rest
    → option_map (λ more. all ++ more) (tokens_chars 0 rest) ≡ whole → None ≡ whole
no_token all [] whole tight token some is = absurd (omega arith)
no_token all (c ∷ text) whole tight token some is =
    ap (λ t. option_map (λ rest. all ++ rest) (option_and_then (λ (t : List ℕ × ℕ). option_map (λ more. t.0 ++ more) (tokens_chars (t.1 - 1) text)) t)) token
    ∙ ap (λ (blank : Bool). option_map (λ more. all ++ more) (if blank then tokens_chars 0 text
    else option_and_then (λ (t : List ℕ × ℕ). option_map (λ more. t.0 ++ more) (tokens_chars (t.1 - 1) text)) (string_token (c ∷ text)))) (sym tight) ∙ is

pub shorter : (size : ℕ) (rest : List ℕ) (cs : List ℕ) → Some (cs, size) ≡ string_token rest → length (drop size rest) < length rest
shorter size [] cs token = absurd (cc)
shorter size (c ∷ text) cs token =
    let more : 0 < size = token_has_bytes (c ∷ text) cs size token in
    omega (arith, length-drop size (c ∷ text))

-- `next_token` in the variables of the loop that reads the tokens
pub taken_on : (all cs after : List ℕ) (size : ℕ) (rest back behind : List ℕ) (whole : Option (List ℕ)) → IsTight rest → Some (cs, size) ≡ string_token rest
    → after ≡ all ++ cs → back ≡ drop size rest → behind ≡ without_blanks back
    → option_map (λ more. all ++ more) (tokens_chars 0 rest) ≡ whole → option_map (λ more. after ++ more) (tokens_chars 0 behind) ≡ whole
taken_on all cs after size rest back behind whole tight token appended dropped is_behind is =
    (λ i. option_map (λ more. appended i ++ more) (tokens_chars 0 (is_behind i)))
    ∙ (λ i. option_map (λ more. (all ++ cs) ++ more) (tokens_chars 0 (without_blanks (dropped i))))
    ∙ next_token all cs size rest whole tight token is

pub ruleset token_steps = (no_token, tokens_without_blanks)
