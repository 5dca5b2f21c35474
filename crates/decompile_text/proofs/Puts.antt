-- Appending a text in several parts is appending the whole text.
use Rattle.std.proofs.Common.{◌≡◌, ℕ, List, [], ◌∷◌, ◌++◌, ap, ◌∙◌, append_assoc}
use Rattle.decompile_text.specs.declared.page.Page.{Page}
use Rattle.decompile_text.specs.Pages.{with_text}
use Rattle.decompile_text.proofs.OneByOne.{flags_text}
use Rattle.decompile_text.specs.OneByOne.{with_flag_words}
use Rattle.decompile_text.proofs.MoreText.{with_text_append}
use Rattle.decompile_text.proofs.OneByOne.{flag_words_are}

-- three parts
pub three : (page : Page) (first second third : List ℕ) → with_text (with_text (with_text page first) second) third ≡ with_text page (first ++ (second ++ third))
three page first second third = with_text_append (with_text page first) second third ∙ with_text_append page first (second ++ third)

four : (page : Page) (first second third fourth : List ℕ) → with_text (with_text (with_text (with_text page first) second) third) fourth ≡ with_text page (first ++ (second ++ (third ++ fourth)))
four page first second third fourth = three (with_text page first) second third fourth ∙ with_text_append page first (second ++ (third ++ fourth))

-- a comparison or an assignment
pub compared_is : (page : Page) (word name sign value : List ℕ)
    → with_text (with_text (with_text (with_text page (word ++ 40 ∷ name)) (32 ∷ (sign ++ 32 ∷ []))) value) (41 ∷ [])
    ≡ with_text page (word ++ 40 ∷ (name ++ 32 ∷ (sign ++ 32 ∷ (value ++ 41 ∷ []))))
compared_is page word name sign value =
    four page (word ++ 40 ∷ name) (32 ∷ (sign ++ 32 ∷ [])) value (41 ∷ [])
    ∙ ap (with_text page)
    (append_assoc word (40 ∷ name) (32 ∷ ((sign ++ 32 ∷ []) ++ (value ++ 41 ∷ [])))
    ∙ ap (λ (text : List ℕ). word ++ 40 ∷ (name ++ 32 ∷ text)) (append_assoc sign (32 ∷ []) (value ++ 41 ∷ [])))

-- a virtual key
pub key_is : (page : Page) (flags : ℕ) (rows : List (List ℕ × ℕ)) (name : List ℕ)
    → with_text (with_text (with_flag_words flags (with_text page (91 ∷ [])) rows) name) (93 ∷ [])
    ≡ with_text page (91 ∷ (flags_text flags rows ++ (name ++ 93 ∷ [])))
key_is page flags rows name =
    ap (λ (found : Page). with_text (with_text found name) (93 ∷ [])) (flag_words_are flags (with_text page (91 ∷ [])) rows)
    ∙ four page (91 ∷ []) (flags_text flags rows) name (93 ∷ [])
