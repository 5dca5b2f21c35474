-- The first line of a text, and the text of a script.
use Rattle.std.proofs.Common.{◌≡◌, ℕ, ◌+◌, ◌<◌, ◌≤◌, nat_lt, Ok, Err, false, true, inl, inr, List, [], ◌∷◌, length, length-drop, take, drop, suc, sym, ap, ◌∙◌, subst, arith}
use Rattle.std.proofs.lemmas.Grind.{common_steps}
use Rattle.std.proofs.lemmas.Bool.{cases_Bool, cases_lt}
use Rattle.std.proofs.lemmas.Str.{is_utf8-from_IsUtf8, IsUtf8-from_is_utf8}
use Rattle.std.specs.Str.{is_utf8}
use Rattle.kmn_base.specs.Answers.{and_then}
use Rattle.kmn_base.specs.Texts.{without_bom}
use Rattle.kmn_base.specs.declared.codes.Code.TheVariants.{P01}
use Rattle.kmn_base.specs.declared.limits.TheConstants.{TEXT_BYTES}
use Rattle.kmn_base.specs.declared.refusals.Refusal.{Refusal}
use Rattle.kmn_base.proofs.Tests.{second_fails, both_hold}
use Rattle.play_script.specs.Answers.{Answers, refusal_of}
use Rattle.play_script.specs.declared.errors.ScriptError.{ScriptError}
use Rattle.play_script.specs.declared.errors.ScriptError.TheVariants as error
use Rattle.play_script.specs.Entries.{script_text, entries, entries_of, with_found, first_script, lines_found}
use Rattle.std.specs.Prelude.{◌==◌, IsSomeAnd, IsUtf8, Result}
use Rattle.std.specs.List.{position_or_len, onto_first}
use Rattle.play_script.specs.Lines.{text_lines, is_end, end_size}

plain_line : (byte : ℕ) (text : List ℕ) (n : ℕ) → position_or_len is_end (byte ∷ text) ≡ suc n → text_lines (byte ∷ text) ≡ onto_first byte (text_lines text)
    → text_lines text ≡ take n text ∷ text_lines (drop (n + end_size (drop n text)) text)
    → text_lines (byte ∷ text) ≡ take (position_or_len is_end (byte ∷ text)) (byte ∷ text)
    ∷ text_lines (drop (position_or_len is_end (byte ∷ text) + end_size (drop (position_or_len is_end (byte ∷ text)) (byte ∷ text))) (byte ∷ text))
plain_line byte text n place onto rest =
    let behind : suc (n + end_size (drop n text)) ≡ suc n + end_size (drop n text) = omega arith in
    subst (λ (p : ℕ). text_lines (byte ∷ text) ≡ take p (byte ∷ text) ∷ text_lines (drop (p + end_size (drop p (byte ∷ text))) (byte ∷ text))) (sym place)
    (onto ∙ ap (onto_first byte) rest ∙ ap (λ (k : ℕ). (byte ∷ take n text) ∷ text_lines (drop k (byte ∷ text))) behind)

at_feed : (byte next : ℕ) (bytes : List ℕ) → (byte == 10) ≡ false → (byte == 13) ≡ true → (next == 10) ≡ true
    → text_lines (byte ∷ next ∷ bytes) ≡ take (position_or_len is_end (byte ∷ next ∷ bytes)) (byte ∷ next ∷ bytes)
    ∷ text_lines (drop (position_or_len is_end (byte ∷ next ∷ bytes) + end_size (drop (position_or_len is_end (byte ∷ next ∷ bytes)) (byte ∷ next ∷ bytes))) (byte ∷ next ∷ bytes))
at_feed byte next [] other return feed = grind (arith, common_steps, other, return, feed)
at_feed byte next (third ∷ bytes) other return feed = grind (arith, common_steps, other, return, feed)

-- if a text isn't empty, its lines are its first line and the lines of the rest
pub first_line_first : (bytes : List ℕ) → 0 < length bytes
    → text_lines bytes ≡ take (position_or_len is_end bytes) bytes ∷ text_lines (drop (position_or_len is_end bytes + end_size (drop (position_or_len is_end bytes) bytes)) bytes)
first_line_first [] some = absurd (omega arith)
first_line_first (byte ∷ []) some = grind (arith, common_steps)
first_line_first (byte ∷ next ∷ bytes) some = elim (cases_Bool (byte == 10)) [
  | inl feed ↦ grind (arith, common_steps, feed)
  | inr other ↦ elim (cases_Bool (byte == 13)) [
    | inl return ↦ elim (cases_Bool (next == 10)) [
      | inl feed ↦ at_feed byte next bytes other return feed
      | inr alone ↦ grind (arith, common_steps, other, return, alone)
    ]
    | inr plain ↦ plain_line byte (next ∷ bytes) (position_or_len is_end (next ∷ bytes)) (grind (arith, common_steps, other, plain)) (grind (arith, common_steps, other, plain)) (first_line_first (next ∷ bytes) (omega arith))
  ]
]

end_some : (text : List ℕ) → 0 < length text → 0 < end_size text
end_some [] some = absurd (omega arith)
end_some (b ∷ []) some = omega arith
end_some (b ∷ next ∷ bytes) some = grind (arith, common_steps)

-- if a text isn't empty, its first line and the line end have at least one byte together
pub line_some : (text : List ℕ) (n : ℕ) → 0 < length text → n ≤ length text → 0 < n + end_size (drop n text)
line_some text n some within = elim (cases_lt n (length text)) [
  | inl less ↦ let here : 0 < end_size (drop n text) = end_some (drop n text) (omega (arith, length-drop n text)) in omega arith
  | inr all ↦ omega arith
]

pub ruleset first_steps = (first_line_first, line_some)

-- if a script isn't too long, it has a text if it is UTF-8, and breaks P01 if it isn't
pub text_kept : (bytes : List ℕ) → nat_lt TEXT_BYTES (length bytes) ≡ false → IsUtf8 bytes → script_text bytes ≡ Ok (without_bom bytes)
text_kept bytes short text = both_hold (nat_lt TEXT_BYTES (length bytes)) (is_utf8 bytes) _ _ _ short (is_utf8-from_IsUtf8 bytes text)

pub text_broken : (bytes : List ℕ) → nat_lt TEXT_BYTES (length bytes) ≡ false → ¬ (IsUtf8 bytes) → script_text bytes ≡ Err (record { line = 1; code = P01 })
text_broken bytes short other = second_fails (nat_lt TEXT_BYTES (length bytes)) (is_utf8 bytes) _ _ _ short (λ e. other (IsUtf8-from_is_utf8 bytes e))

-- if a script has no text, it is refused with the refusal of its text
pub text_refused : {A : Type 0} (text : Result (List ℕ) Refusal) (next : List ℕ → Result A Refusal) (error : ScriptError)
    → IsSomeAnd (refusal_of error) (λ refusal. text ≡ Err refusal) → Answers (and_then text next) (Err error)
text_refused text next error.Memory is = tt
text_refused text next (error.Refused refusal) is = ap (λ t. and_then t next) is

-- if a script has a text, its entries are read from the lines of this text
pub text_read : (dictionary : List (List ℕ)) (bytes text : List ℕ) → script_text bytes ≡ Ok text
    → entries dictionary bytes ≡ entries_of (with_found (Ok first_script) (lines_found dictionary 1 (text_lines text)))
unfolding entries
text_read dictionary bytes text is = ap (λ t. and_then t (λ (text : List ℕ). entries_of (with_found (Ok first_script) (lines_found dictionary 1 (text_lines text))))) is

pub script_refused : (dictionary : List (List ℕ)) (bytes : List ℕ) (error : ScriptError)
    → IsSomeAnd (refusal_of error) (λ refusal. script_text bytes ≡ Err refusal) → Answers (entries dictionary bytes) (Err error)
unfolding entries
script_refused dictionary bytes error is = text_refused (script_text bytes) _ error is
