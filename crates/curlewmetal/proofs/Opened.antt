-- The clauses of an export about its handle, from the clauses of the call about the field that was taken out of it.
use Rattle.std.proofs.Common.{◌≡◌, ℕ, List, [], length, Option, Some, None, refl, sym, subst}
use Rattle.std.proofs.lemmas.Option.{none-some, same_Some}
use Rattle.std.specs.Prelude.{MatchOption, option_map, unwrap_or}
use Rattle.kmn_base.specs.declared.items.Element.{Element}
use Rattle.curlew_calls.specs.Numbers.{written, element_numbers}
use Rattle.play_session.specs.Session.{SessionState}
use Rattle.curlew_calls.specs.declared.errors.CallError.{CallError}
use Rattle.curlew_calls.specs.declared.errors.CallError.TheVariants.{Memory, Place, Length, Character, NoOption}
use Rattle.curlewmetal.specs.Answers.{ok_answer, closed_answer, none_answer, error_number, Told, Because, Answers}

pub closed : (held : Option SessionState) (answer : ℕ) (done : SessionState → Type 0) (stays : Type 0) (cause : SessionState → CallError → Type 0) → None ≡ held → answer ≡ closed_answer → stays → Answers held answer done stays cause
closed held answer done stays cause is answered so = subst (λ (h : Option SessionState). Answers h answer done stays cause) is (answered, so)

pub opened : (session : SessionState) (held : Option SessionState) (answer : ℕ) (done : SessionState → Type 0) (stays : Type 0) (cause : SessionState → CallError → Type 0) → Some session ≡ held
    → Told answer (done session) (stays × Because answer (cause session)) → Answers held answer done stays cause
opened session held answer done stays cause is told = subst (λ (h : Option SessionState). Answers h answer done stays cause) is told

told_other : (error : CallError) (done otherwise : Type 0) → otherwise → Told (error_number error) done otherwise
told_other Memory done otherwise so = so
told_other Place done otherwise so = so
told_other Length done otherwise so = so
told_other Character done otherwise so = so
told_other NoOption done otherwise so = so

pub failed : (error : CallError) (answer : ℕ) (done stays : Type 0) (cause : CallError → Type 0) → answer ≡ error_number error → stays → cause error → Told answer done (stays × Because answer cause)
failed error answer done stays cause is so why = subst (λ n. Told n done (stays × Because n cause)) (sym is) (told_other error done (stays × Because (error_number error) cause) (so, (error, refl, why)))

pub told_of_closed : {S : Type 0} (before : Option S) (shut : Type 0) (open_one : S → Type 0) → None ≡ before → shut → MatchOption before shut open_one
told_of_closed before shut open_one is so = subst (λ b. MatchOption b shut open_one) is so

pub told_of_opened : {S : Type 0} (session : S) (before : Option S) (shut : Type 0) (open_one : S → Type 0) → Some session ≡ before → open_one session → MatchOption before shut open_one
told_of_opened session before shut open_one is so = subst (λ b. MatchOption b shut open_one) is so

pub told_of_none : {S : Type 0} (before : Option S) (shut : Type 0) (open_one : S → Type 0) → before ≡ None → shut → MatchOption before shut open_one
told_of_none before shut open_one is so = told_of_closed before shut open_one (sym is) so

pub told_of_some : {S : Type 0} (found : S) (before : Option S) (shut : Type 0) (open_one : S → Type 0) → before ≡ Some found → open_one found → MatchOption before shut open_one
told_of_some found before shut open_one is so = told_of_opened found before shut open_one (sym is) so

-- if a call returned the size of a name, the store has this name and it was written; if not, there is no name and the buffer is unchanged
pub name_told : (name : Option (List ℕ)) (answer count : ℕ) (room old : List ℕ) (shut : Type 0) → Some count ≡ option_map length name
    → room ≡ written (unwrap_or name []) old → answer ≡ ok_answer
    → MatchOption name shut (λ bytes. (answer ≡ ok_answer) × (count ≡ length bytes) × (room ≡ written bytes old))
name_told None answer count room old shut is wrote so = absurd (none-some count (sym is))
name_told (Some bytes) answer count room old shut is wrote so = (so, same_Some count (length bytes) is, wrote)

pub no_name_told : (name : Option (List ℕ)) (answer count : ℕ) (room old : List ℕ) (open_one : List ℕ → Type 0) → None ≡ option_map length name
    → room ≡ written (unwrap_or name []) old → answer ≡ none_answer → MatchOption name ((answer ≡ none_answer) × (count ≡ count) × (room ≡ old)) open_one
no_name_told None answer count room old open_one is wrote so = (so, refl, wrote)
no_name_told (Some bytes) answer count room old open_one is wrote so = absurd (none-some (length bytes) is)

-- if a call returned the length of a value, this value was written; if not, there is no value and the buffer is unchanged
pub value_told : (value : Option (List Element)) (answer count : ℕ) (room old : List ℕ) (shut : Type 0) → Some count ≡ option_map length value
    → room ≡ written (element_numbers (unwrap_or value [])) old → answer ≡ ok_answer
    → MatchOption value shut (λ elements. (answer ≡ ok_answer) × (count ≡ length elements) × (room ≡ written (element_numbers elements) old))
value_told None answer count room old shut is wrote so = absurd (none-some count (sym is))
value_told (Some elements) answer count room old shut is wrote so = (so, same_Some count (length elements) is, wrote)

pub no_value_told : (value : Option (List Element)) (answer count : ℕ) (room old : List ℕ) (open_one : List Element → Type 0) → None ≡ option_map length value
    → room ≡ written (element_numbers (unwrap_or value [])) old → answer ≡ none_answer → MatchOption value ((answer ≡ none_answer) × (count ≡ count) × (room ≡ old)) open_one
no_value_told None answer count room old open_one is wrote so = (so, refl, wrote)
no_value_told (Some elements) answer count room old open_one is wrote so = absurd (none-some (length elements) is)
