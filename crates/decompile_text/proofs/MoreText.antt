-- More text on a page, part after part.
use Rattle.std.proofs.Common.{◌≡◌, ℕ, ◌+◌, Bool, true, false, if◌then◌else◌, List, [], ◌∷◌, ◌++◌, length, refl, sym, ap, ◌∙◌, arith, append_assoc, append-nil, length-append}
use Rattle.decompile_text.specs.declared.page.Page.{Page}
use Rattle.decompile_text.specs.Pages.{with_text, IsEmptyPage}

kept : (text first second : List ℕ) (keeps : Bool)
    → (if keeps then (if keeps then text ++ first else text) ++ second else (if keeps then text ++ first else text)) ≡ (if keeps then text ++ (first ++ second) else text)
kept text first second true = append_assoc text first second
kept text first second false = refl

same_page : (page : Page) (text other : List ℕ) (size larger : ℕ) → text ≡ other → size ≡ larger
    → record page { text = text; size = size } ≡ record page { text = other; size = larger }
same_page page text other size larger t s =
    ap (λ (found : List ℕ). record page { text = found; size = size }) t ∙ ap (λ (n : ℕ). record page { text = other; size = n }) s

sum_of : (size : ℕ) (first second : List ℕ) → size + length first + length second ≡ size + length (first ++ second)
sum_of size first second = grind (arith, length-append)

-- appending one text and then another is appending the joined texts
pub with_text_append : (page : Page) (first second : List ℕ) → with_text (with_text page first) second ≡ with_text page (first ++ second)
unfolding with_text
with_text_append page [] second = refl
with_text_append page (byte ∷ bytes) [] = ap (with_text page) (sym (append-nil (byte ∷ bytes)))
with_text_append page (byte ∷ bytes) (next ∷ others) =
    same_page page _ _ _ _ (kept page.text (byte ∷ bytes) (next ∷ others) page.keeps_text) (sum_of page.size (byte ∷ bytes) (next ∷ others))

-- appending an empty text does not change the page
pub with_no_text : (page : Page) → with_text page [] ≡ page
unfolding with_text
with_no_text page = refl

counted_as : (page : Page) (text : List ℕ) (sum : ℕ) → page.keeps_text ≡ false → sum ≡ page.size + length text → record page { size = sum } ≡ with_text page text
unfolding with_text
counted_as page [] sum k s =
    let same : sum ≡ page.size = omega (arith, s) in ap (λ (n : ℕ). record page { size = n }) same
counted_as page (byte ∷ bytes) sum k s =
    sym (same_page page (if page.keeps_text then page.text ++ byte ∷ bytes else page.text) page.text (page.size + length (byte ∷ bytes)) sum
    (ap (λ (keeps : Bool). if keeps then page.text ++ byte ∷ bytes else page.text) k) (sym s))

-- on a page that does not keep its text, appending a text only counts its size
pub counted : (page : Page) (text : List ℕ) (size sum : ℕ) → page.keeps_text ≡ false → sum ≡ page.size + size → length text ≡ size → record page { size = sum } ≡ with_text page text
counted page text size sum k s l = counted_as page text sum k (s ∙ ap (λ (n : ℕ). page.size + n) (sym l))

size_of : (empty : Page) (text : List ℕ) → IsEmptyPage empty → (with_text empty text).size ≡ length text
unfolding with_text
size_of empty [] h = h.size
size_of empty (byte ∷ bytes) h =
    let plain : 0 + length (byte ∷ bytes) ≡ length (byte ∷ bytes) = omega arith in
    ap (λ (n : ℕ). n + length (byte ∷ bytes)) h.size ∙ plain

kept_text : (empty : Page) (text : List ℕ) → IsEmptyPage empty → empty.keeps_text ≡ true → (with_text empty text).text ≡ text
unfolding with_text
kept_text empty [] h k = h.text
kept_text empty (byte ∷ bytes) h k =
    ap (λ (keeps : Bool). if keeps then empty.text ++ byte ∷ bytes else empty.text) k ∙ ap (λ (found : List ℕ). found ++ byte ∷ bytes) h.text

-- the size of a page is the size of the appended text, and a page that keeps its text has this text
pub page_size : (empty page : Page) (text : List ℕ) → IsEmptyPage empty → page ≡ with_text empty text → page.size ≡ length text
page_size empty page text h is = ap (λ (found : Page). found.size) is ∙ size_of empty text h

pub page_text : (empty page : Page) (text : List ℕ) → IsEmptyPage empty → empty.keeps_text ≡ true → page ≡ with_text empty text → page.text ≡ text
page_text empty page text h k is = ap (λ (found : Page). found.text) is ∙ kept_text empty text h k
