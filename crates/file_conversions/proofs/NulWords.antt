-- Moves of words in a context: the number of bytes stays, and each step is one of the definition.
use Rattle.std.proofs.Common.{◌≡◌, ℕ, zero, suc, ◌+◌, ◌-◌, ◌*◌, ◌<◌, ◌≤◌, Bool, true, false, leb, List, ◌++◌, length, take, drop, refl, sym, ap, ap₂, ◌∙◌, append_assoc, length-append, length-drop, arith, nat_eq, if◌then◌else◌}
use Rattle.std.specs.Int.{w32, from_le_bytes}
use Rattle.std.proofs.lemmas.Bool.{false≢true}
use Rattle.std.proofs.lemmas.List.{drop-drop, drop-take, take-take, length-take-le}
use Rattle.kmx_format.specs.declared.places.TheConstants.{GROUPS_AT}
use Rattle.kmx_format.specs.TablesOf.{word_at}
use Rattle.kmx_view.specs.View.{group_count}
use Rattle.file_conversions.specs.NulWords.{is_nul_at, is_condition_at, word_first, nuls_first, nul_first_context, nul_first_record, nul_first_records, nul_first_groups, nul_first_bytes}

-- ---- a word that is not 0 is in the file

within_or : (b : Bool) (place size word : ℕ) → leb place size ≡ b → nat_eq (if b then word else 0) 0x0004_FFFF ≡ true → place ≤ size
within_or true place size word inside nul = grind (arith, inside)
within_or false place size word inside nul = absurd (false≢true nul)

is_within : (bytes : List ℕ) (place : ℕ) → is_nul_at bytes place ≡ true → place + 4 ≤ length bytes
unfolding word_at
is_within bytes place nul = within_or (leb (place + 4) (length bytes)) (place + 4) (length bytes) (from_le_bytes w32 (take 4 (drop place bytes))) refl nul

pub nul_within : (bytes : List ℕ) (place : ℕ) (found : Bool) → found ≡ is_nul_at bytes place → found ≡ true → place + 4 ≤ length bytes
nul_within bytes place found is told = is_within bytes place (sym is ∙ told)

-- ---- one word moved

pub length-word_first : (place size : ℕ) (bytes : List ℕ) → place + size + 4 ≤ length bytes → length (word_first place size bytes) ≡ length bytes
unfolding word_first
length-word_first place size bytes within =
    let front : length (take place bytes) ≡ place = length-take-le place bytes (omega (arith, within)) in
    let word : length (take 4 (drop (place + size) bytes)) ≡ 4 = length-take-le 4 (drop (place + size) bytes) (omega (arith, within, length-drop (place + size) bytes)) in
    let conditions : length (take size (drop place bytes)) ≡ size = length-take-le size (drop place bytes) (omega (arith, within, length-drop place bytes)) in
    let tail : length (drop (place + size + 4) bytes) ≡ length bytes - (place + size + 4) = length-drop (place + size + 4) bytes in
    length-append (take place bytes) (take 4 (drop (place + size) bytes) ++ (take size (drop place bytes) ++ drop (place + size + 4) bytes))
    ∙ omega (
      arith,
      within,
      front,
      word,
      conditions,
      tail,
      length-append (take 4 (drop (place + size) bytes)) (take size (drop place bytes) ++ drop (place + size + 4) bytes),
      length-append (take size (drop place bytes)) (drop (place + size + 4) bytes),
    )

-- bytes in which the last word of a part is rotated to its front
pub rotated : (place size : ℕ) (bytes part after : List ℕ) → place + size + 4 ≤ length bytes → part ≡ take (size + 4) (drop place bytes)
    → after ≡ drop (length part - 4) part ++ take (length part - 4) part → take place bytes ++ (after ++ drop (size + 4) (drop place bytes)) ≡ word_first place size bytes
unfolding word_first
rotated place size bytes part after within is turned =
    let tail : List ℕ = drop place bytes in
    let many : length tail ≡ length bytes - place = length-drop place bytes in
    let count : length part - 4 ≡ size = omega (arith, ap length is ∙ length-take-le (size + 4) tail (omega (arith, within, many))) in
    let last : drop (length part - 4) part ≡ take 4 (drop (place + size) bytes) =
    ap₂ (λ (n : ℕ) (xs : List ℕ). drop n xs) count is ∙ drop-take size 4 tail ∙ ap (take 4) (drop-drop size place bytes) in
    let first : take (length part - 4) part ≡ take size tail = ap₂ (λ (n : ℕ) (xs : List ℕ). take n xs) count is ∙ take-take size (size + 4) tail (omega arith) in
    let sum : place + (size + 4) ≡ place + size + 4 = omega arith in
    let rest : drop (size + 4) tail ≡ drop (place + size + 4) bytes = drop-drop (size + 4) place bytes ∙ ap (λ (n : ℕ). drop n bytes) sum in
    ap₂ (λ (xs ys : List ℕ). take place bytes ++ (xs ++ ys)) (turned ∙ ap₂ (λ (xs ys : List ℕ). xs ++ ys) last first) rest
    ∙ ap (λ (xs : List ℕ). take place bytes ++ xs) (append_assoc (take 4 (drop (place + size) bytes)) (take size tail) (drop (place + size + 4) bytes))

-- ---- one item of the walk

-- the walk from an item on, by what the item is
abbrev walked : (nul condition : Bool) (count place size : ℕ) (bytes : List ℕ) → List ℕ
walked nul condition count place size bytes =
    if nul then nuls_first count (place + 4) size (word_first place size bytes)
    else if condition then nuls_first count place (size + 10) bytes
    else bytes

-- a walk of one item more
steps : (count place size : ℕ) (bytes : List ℕ) → nuls_first (suc count) place size bytes ≡ walked (is_nul_at bytes (place + size)) (is_condition_at bytes (place + size)) count place size bytes
unfolding nuls_first
steps count place size bytes = refl

step_of : (count i place size : ℕ) (bytes : List ℕ) → i < count
    → nuls_first (count - i) place size bytes ≡ walked (is_nul_at bytes (place + size)) (is_condition_at bytes (place + size)) (count - (i + 1)) place size bytes
step_of count i place size bytes below =
    let next : count - i ≡ suc (count - (i + 1)) = omega arith in
    ap (λ (n : ℕ). nuls_first n place size bytes) next ∙ steps (count - (i + 1)) place size bytes

after_nul : (count i place size : ℕ) (bytes next answer : List ℕ) → i < count → is_nul_at bytes (place + size) ≡ true → next ≡ word_first place size bytes
    → nuls_first (count - i) place size bytes ≡ answer → nuls_first (count - (i + 1)) (place + 4) size next ≡ answer
after_nul count i place size bytes next answer below nul moved so_far =
    ap (λ (xs : List ℕ). nuls_first (count - (i + 1)) (place + 4) size xs) moved
    ∙ sym (step_of count i place size bytes below ∙ ap (λ (b : Bool). walked b (is_condition_at bytes (place + size)) (count - (i + 1)) place size bytes) nul)
    ∙ so_far

after_condition : (count i place size : ℕ) (bytes answer : List ℕ) → i < count → is_nul_at bytes (place + size) ≡ false → is_condition_at bytes (place + size) ≡ true
    → nuls_first (count - i) place size bytes ≡ answer → nuls_first (count - (i + 1)) place (size + 10) bytes ≡ answer
after_condition count i place size bytes answer below nul condition so_far =
    sym (step_of count i place size bytes below ∙ ap₂ (λ (a b : Bool). walked a b (count - (i + 1)) place size bytes) nul condition) ∙ so_far

after_other : (count i place size : ℕ) (bytes answer : List ℕ) → i < count → is_nul_at bytes (place + size) ≡ false → is_condition_at bytes (place + size) ≡ false
    → nuls_first (count - i) place size bytes ≡ answer → bytes ≡ answer
after_other count i place size bytes answer below nul condition so_far =
    sym (step_of count i place size bytes below ∙ ap₂ (λ (a b : Bool). walked a b (count - (i + 1)) place size bytes) nul condition) ∙ so_far

pub after_all : (count i place size : ℕ) (bytes answer : List ℕ) → count ≤ i → nuls_first (count - i) place size bytes ≡ answer → bytes ≡ answer
unfolding nuls_first
after_all count i place size bytes answer past so_far =
    let none : count - i ≡ 0 = omega arith in
    sym (ap (λ (n : ℕ). nuls_first n place size bytes) none) ∙ so_far

-- a walk from a position that is at an item: the rest of it has the result of the whole walk, and its positions are near
abbrev pub IsWalked : (start count : ℕ) (answer : List ℕ) (i place size : ℕ) (bytes : List ℕ) → Type 0
IsWalked start count answer i place size bytes = (nuls_first (count - i) place size bytes ≡ answer) × (place ≤ start + 4 * i) × (size ≤ 10 * i)

-- the same at equal positions, in equal bytes
pub walked_there : (start count : ℕ) (answer : List ℕ) (i place size from width : ℕ) (bytes out : List ℕ) → from ≡ place → width ≡ size → out ≡ bytes
    → IsWalked start count answer i place size bytes → IsWalked start count answer i from width out
walked_there start count answer i place size from width bytes out same_place same_size same h =
    ((λ j. nuls_first (count - i) (same_place j) (same_size j) (same j)) ∙ h.0, omega (arith, same_place, h.1), omega (arith, same_size, h.2))

pub past_nul : (start count : ℕ) (answer : List ℕ) (i place size : ℕ) (bytes next : List ℕ) (found : Bool) → i < count → IsWalked start count answer i place size bytes
    → found ≡ is_nul_at bytes (place + size) → found ≡ true → next ≡ word_first place size bytes → IsWalked start count answer (i + 1) (place + 4) size next
past_nul start count answer i place size bytes next found below so_far is told moved =
    (after_nul count i place size bytes next answer below (sym is ∙ told) moved so_far.0, omega (arith, so_far.1), omega (arith, so_far.2))

pub past_condition : (start count : ℕ) (answer : List ℕ) (i place size : ℕ) (bytes : List ℕ) (found second : Bool) → i < count → IsWalked start count answer i place size bytes
    → found ≡ is_nul_at bytes (place + size) → found ≡ false → second ≡ is_condition_at bytes (place + size) → second ≡ true → IsWalked start count answer (i + 1) place (size + 10) bytes
past_condition start count answer i place size bytes found second below so_far is other condition told =
    (after_condition count i place size bytes answer below (sym is ∙ other) (sym condition ∙ told) so_far.0, omega (arith, so_far.1), omega (arith, so_far.2))

pub ends_there : (start count : ℕ) (answer : List ℕ) (i place size : ℕ) (bytes : List ℕ) (found second : Bool) → i < count → IsWalked start count answer i place size bytes
    → found ≡ is_nul_at bytes (place + size) → found ≡ false → second ≡ is_condition_at bytes (place + size) → second ≡ false → bytes ≡ answer
ends_there start count answer i place size bytes found second below so_far is other condition neither =
    after_other count i place size bytes answer below (sym is ∙ other) (sym condition ∙ neither) so_far.0

-- ---- the number of bytes

walked_size : (nul condition : Bool) (count place size : ℕ) (bytes : List ℕ) → is_nul_at bytes (place + size) ≡ nul
    → ((from width : ℕ) (xs : List ℕ) → length (nuls_first count from width xs) ≡ length xs) → length (walked nul condition count place size bytes) ≡ length bytes
walked_size true condition count place size bytes is sizes =
    sizes (place + 4) size (word_first place size bytes) ∙ length-word_first place size bytes (is_within bytes (place + size) is)
walked_size false true count place size bytes is sizes = sizes place (size + 10) bytes
walked_size false false count place size bytes is sizes = refl

walk_size : (count place size : ℕ) (bytes : List ℕ) → length (nuls_first count place size bytes) ≡ length bytes
unfolding nuls_first
walk_size zero place size bytes = refl
walk_size (suc count) place size bytes =
    walked_size (is_nul_at bytes (place + size)) (is_condition_at bytes (place + size)) count place size bytes refl (λ from width xs. walk_size count from width xs)

context_size : (offset : ℕ) (bytes : List ℕ) → length (nul_first_context offset bytes) ≡ length bytes
unfolding nul_first_context
context_size offset bytes = walk_size 60 offset 0 bytes

module _ (bytes : List ℕ) where
  records_size : (place count : ℕ) (out : List ℕ) → length (nul_first_records bytes place count out) ≡ length out
  records_size place zero out = refl
  records_size place (suc count) out = records_size (place + 20) count (nul_first_record bytes place out) ∙ context_size (word_at bytes (place + 16)) out

  groups_size : (place count : ℕ) (out : List ℕ) → length (nul_first_groups bytes place count out) ≡ length out
  groups_size place zero out = refl
  groups_size place (suc count) out =
      groups_size (place + 24) count (nul_first_records bytes (word_at bytes (place + 4)) (word_at bytes (place + 16)) out)
      ∙ records_size (word_at bytes (place + 4)) (word_at bytes (place + 16)) out

pub nul_first_size : (bytes : List ℕ) → length (nul_first_bytes bytes) ≡ length bytes
unfolding nul_first_bytes
nul_first_size bytes = groups_size bytes (word_at bytes GROUPS_AT) (group_count bytes) bytes
