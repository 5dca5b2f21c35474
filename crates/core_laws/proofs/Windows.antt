-- The window of Keyman's own engine in an event: each end of the text that is short enough is in it, less what was deleted since.
use Rattle.std.specs.Prelude.{◌≡◌, ℕ, zero, suc, ◌+◌, ◌-◌, ◌<◌, ◌≤◌, ◌⊎◌, min, Bool, false, nat_le, if◌then◌else◌, List, [], ◌∷◌, ◌++◌, length, take, drop}
use Rattle.std.proofs.Common.{refl, sym, ap, ◌∙◌, arith, inl, inr, length-append, length-take, append_assoc}
use Rattle.std.proofs.Math.Path.{subst}
use Rattle.std.proofs.Math.Seq.{take-append_seam}
use Rattle.std.proofs.lemmas.List.{take-append-drop, take-take, take_all, same_from_push}
use Rattle.std.proofs.lemmas.Bool.Decides.{leb_tells}
use Rattle.kmn_base.specs.declared.items.Item.{Item}
use Rattle.kmn_base.specs.Lists.{without_last}
use Rattle.core_meaning.specs.Events.{weight, units, window_of, CoreEvent, core_queue, delete_at_end, with_left, core_back}
use Rattle.core_meaning.specs.Laws.{IsLongestEnd, IsSeenWhole}
use Rattle.core_meaning.proofs.Windows.{window_is_longest_end, short_ends_are_seen}

pub units_of_both : (items others : List Item) → units (items ++ others) ≡ units items + units others
units_of_both [] others = omega arith
units_of_both (x ∷ items) others = rw (units_of_both items others) (omega arith)

-- ---- ends of a list

-- a list is empty, or has a last item
pub record HasLast (xs : List Item) : Type 0 where
  pub front : List Item
  pub last : Item
  pub parts : xs ≡ front ++ last ∷ []

pub last_of : (xs : List Item) → (xs ≡ []) ⊎ HasLast xs
last_of [] = inl refl
last_of (x ∷ xs) = by_rest (last_of xs)
  where
    by_rest : (xs ≡ []) ⊎ HasLast xs → (x ∷ xs ≡ []) ⊎ HasLast (x ∷ xs)
    by_rest (inl none) = inr (record { front = []; last = x; parts = ap (λ (ys : List Item). x ∷ ys) none })
    by_rest (inr some) = inr (record { front = x ∷ some.front; last = some.last; parts = ap (λ (ys : List Item). x ∷ ys) some.parts })

-- the shorter of two ends of a list is an end of the longer one
record IsEndOf (longer end : List Item) : Type 0 where
  pub middle : List Item
  pub parts : longer ≡ middle ++ end

shorter_end : (a b c d : List Item) → a ++ b ≡ c ++ d → length d ≤ length b → IsEndOf b d
shorter_end [] b c d same short = record { middle = c; parts = same }
shorter_end (x ∷ a) b [] d same short = absurd (omega (arith, ap length same, length-append a b, short))
shorter_end (x ∷ a) b (y ∷ c) d same short = shorter_end a b c d (ap (λ (xs : List Item). drop 1 xs) same) short

-- ---- what the window has

-- each end of the text with at most 63 units, those that are spent included, is not longer than the window
abbrev pub Reaches : ℕ → List Item → List Item → Type 0
Reaches spent left window = (front end : List Item) → left ≡ front ++ end → units end + spent ≤ 63 → length end ≤ length window

-- the window is an end of the text, and reaches as far as 63 units that were not spent
pub record Seen (spent : ℕ) (left window : List Item) : Type 0 where
  pub before : List Item
  pub parts : left ≡ before ++ window
  pub reaches : Reaches spent left window

pub seen_more : (spent more : ℕ) (left window : List Item) → spent ≤ more → Seen spent left window → Seen more left window
seen_more spent more left window less seen =
    record { before = seen.before; parts = seen.parts; reaches = λ front end same few. seen.reaches front end same (omega (arith, less, few)) }

longer_with : (before end window : List Item) → window ≡ before ++ end → length end ≤ length window
longer_with before end window same = omega (arith, ap length same, length-append before end)

pub seen_first : (left : List Item) → Seen 0 left (window_of left)
seen_first left =
    record { before = take longest.cut left; parts = sym (take-append-drop longest.cut left) ∙ ap (λ (end : List Item). take longest.cut left ++ end) (sym longest.is_end); reaches = reaches }
  where
    longest : IsLongestEnd left (window_of left)
    longest = window_is_longest_end left

    reaches : Reaches 0 left (window_of left)
    reaches front end same few = longer_with whole.before end (window_of left) (ap window_of same ∙ whole.parts)
      where
        whole : IsSeenWhole front end
        whole = short_ends_are_seen front end (omega (arith, few))

module _ (spent : ℕ) (left window : List Item) (x : Item) (seen : Seen spent left window) where
  put_parts : IsLongestEnd (window ++ x ∷ []) (window_of (window ++ x ∷ [])) → IsEndOf (left ++ x ∷ []) (window_of (window ++ x ∷ []))
  put_parts longest = record { middle = seen.before ++ front; parts = whole }
    where
      front : List Item
      front = take longest.cut (window ++ x ∷ [])

      whole : left ++ x ∷ [] ≡ (seen.before ++ front) ++ window_of (window ++ x ∷ [])
      whole =
          ap (λ (xs : List Item). xs ++ x ∷ []) seen.parts
          ∙ append_assoc seen.before window (x ∷ [])
          ∙ ap (λ (xs : List Item). seen.before ++ xs) (sym (take-append-drop longest.cut (window ++ x ∷ [])) ∙ ap (λ (end : List Item). front ++ end) (sym longest.is_end))
          ∙ sym (append_assoc seen.before front (window_of (window ++ x ∷ [])))

  -- an end that ends with the item
  reaches_with : (front end : List Item) → left ≡ front ++ end → units (end ++ x ∷ []) + (spent - weight x) ≤ 63 → length (end ++ x ∷ []) ≤ length (window_of (window ++ x ∷ []))
  reaches_with front end same few = longer_with whole.before (end ++ x ∷ []) (window_of (window ++ x ∷ [])) (ap window_of in_window ∙ whole.parts)
    where
      size : units (end ++ x ∷ []) ≡ units end + (weight x + 0)
      size = units_of_both end (x ∷ [])

      part : IsEndOf window end
      part = shorter_end seen.before window front end (sym seen.parts ∙ same) (seen.reaches front end same (omega (arith, size, few)))

      in_window : window ++ x ∷ [] ≡ part.middle ++ (end ++ x ∷ [])
      in_window = ap (λ (xs : List Item). xs ++ x ∷ []) part.parts ∙ append_assoc part.middle end (x ∷ [])

      whole : IsSeenWhole part.middle (end ++ x ∷ [])
      whole = short_ends_are_seen part.middle (end ++ x ∷ []) (omega (arith, few))

  reaches_put : Reaches (spent - weight x) (left ++ x ∷ []) (window_of (window ++ x ∷ []))
  reaches_put front end same few = by_last (last_of end)
    where
      by_last : (end ≡ []) ⊎ HasLast end → length end ≤ length (window_of (window ++ x ∷ []))
      by_last (inl none) = omega (arith, ap length none)
      by_last (inr some) = subst (λ (xs : List Item). length xs ≤ length (window_of (window ++ x ∷ []))) (sym whole) (reaches_with front some.front parts.0 (subst (λ (xs : List Item). units xs + (spent - weight x) ≤ 63) whole few))
        where
          parts : (left ≡ front ++ some.front) × (x ≡ some.last)
          parts = same_from_push left (front ++ some.front) x some.last (same ∙ ap (λ (xs : List Item). front ++ xs) some.parts ∙ sym (append_assoc front some.front (some.last ∷ [])))

          whole : end ≡ some.front ++ x ∷ []
          whole = some.parts ∙ ap (λ (y : Item). some.front ++ y ∷ []) (sym parts.1)

  -- an item that is put takes its units off those that are spent
  pub seen_put : Seen (spent - weight x) (left ++ x ∷ []) (window_of (window ++ x ∷ []))
  seen_put = record { before = parts.middle; parts = parts.parts; reaches = reaches_put }
    where
      parts : IsEndOf (left ++ x ∷ []) (window_of (window ++ x ∷ []))
      parts = put_parts (window_is_longest_end (window ++ x ∷ []))

pub without_end : (xs end : List Item) → without_last (length end) (xs ++ end) ≡ xs
without_end xs end =
    ap (λ (n : ℕ). take n (xs ++ end)) rest ∙ take-append_seam xs end
  where
    rest : length (xs ++ end) - length end ≡ length xs
    rest = omega (arith, length-append xs end)

-- what is deleted is spent
pub seen_back : (spent : ℕ) (left window rest end : List Item) → window ≡ rest ++ end → Seen spent left window
    → Seen (spent + units end) (without_last (length end) left) (without_last (length end) window)
seen_back spent left window rest end is seen =
    subst (λ (xs : List Item). Seen (spent + units end) xs (without_last (length end) window)) (sym (ap (without_last (length end)) whole ∙ without_end (seen.before ++ rest) end))
    (subst (λ (xs : List Item). Seen (spent + units end) (seen.before ++ rest) xs) (sym (ap (without_last (length end)) is ∙ without_end rest end))
    (record { before = seen.before; parts = refl; reaches = reaches }))
  where
    whole : left ≡ (seen.before ++ rest) ++ end
    whole = seen.parts ∙ ap (λ (xs : List Item). seen.before ++ xs) is ∙ sym (append_assoc seen.before rest end)

    reaches : Reaches (spent + units end) (seen.before ++ rest) rest
    reaches front other same few = shorter
      where
        long : length (other ++ end) ≤ length window
        long = seen.reaches front (other ++ end) (whole ∙ ap (λ (xs : List Item). xs ++ end) same ∙ append_assoc front other end) (omega (arith, few, units_of_both other end))

        shorter : length other ≤ length rest
        shorter = omega (arith, long, length-append other end, ap length is, length-append rest end)

-- more than 63 spent units are counted as 64
pub seen_capped : (spent : ℕ) (left window : List Item) → Seen spent left window → Seen (min 64 spent) left window
seen_capped spent left window seen = record { before = seen.before; parts = seen.parts; reaches = λ front end same few. seen.reaches front end same (omega (arith, few)) }

-- ---- the queue

pub few_queued : (queued : ℕ) → queued < 1024 → nat_le 1024 queued ≡ false
few_queued queued few = grind (arith, leb_tells)

-- with a place in the queue, an effect takes place
pub queued_effect : (effect : CoreEvent → CoreEvent) (c : CoreEvent) → c.queued < 1024 → core_queue effect c ≡ effect (record c { queued = c.queued + 1 })
queued_effect effect c few = ap (λ (full : Bool). if full then c else effect (record c { queued = c.queued + 1 })) (few_queued c.queued few)

pub without_last_twice : (n : ℕ) (xs : List Item) → without_last n (without_last 1 xs) ≡ without_last (suc n) xs
without_last_twice n xs =
    take-take (length (take (length xs - 1) xs) - n) (length xs - 1) xs (omega (arith, length-take (length xs - 1) xs))
    ∙ ap (λ (k : ℕ). take k xs) size
  where
    size : length (take (length xs - 1) xs) - n ≡ length xs - suc n
    size = omega (arith, length-take (length xs - 1) xs)

pub without_none : (xs : List Item) → without_last 0 xs ≡ xs
without_none xs = take_all (length xs - 0) xs (omega arith)

-- the state after n items are deleted
abbrev pub backed : ℕ → CoreEvent → CoreEvent
backed n c = with_left (without_last n c.event.left) (record c { window = without_last n c.window; queued = c.queued + n })

pub back_is : (n : ℕ) (c : CoreEvent) → c.queued + n ≤ 1024 → core_back n c ≡ backed n c
back_is zero c few = sym (λ i. with_left (without_none c.event.left i) (record c { window = without_none c.window i; queued = same i }))
  where
    same : c.queued + 0 ≡ c.queued
    same = omega arith
back_is (suc n) c few =
    ap (core_back n) (queued_effect delete_at_end c (omega (arith, few)))
    ∙ back_is n (delete_at_end (record c { queued = c.queued + 1 })) (omega (arith, few))
    ∙ (λ i. with_left (without_last_twice n c.event.left i) (record c { window = without_last_twice n c.window i; queued = count i }))
  where
    count : c.queued + 1 + n ≡ c.queued + suc n
    count = omega arith
