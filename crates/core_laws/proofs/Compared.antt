-- Which items of a context are compared with the text, and how contexts without offsets match.
use Rattle.std.specs.Prelude.{◌≡◌, ℕ, suc, ◌+◌, Bool, true, false, not, cond, if◌then◌else◌, List, [], ◌∷◌, ◌++◌, length, map, drop, count_by, is_some, Option, Some, None}
use Rattle.std.specs.List.{list_any}
use Rattle.std.proofs.Common.{refl, sym, ap, ◌∙◌, arith, append_assoc, append-nil}
use Rattle.std.proofs.lemmas.Bool.{or_parts}
use Rattle.std.proofs.lemmas.List.Elements.{All-head, All-tail, filter_map-append}
use Rattle.std.proofs.lemmas.List.Sums.{sum_by-cons}
use Rattle.std.proofs.lemmas.Option.{none-some, same_Some}
use Rattle.kmn_base.specs.declared.items.Item.{Item}
use Rattle.kmn_base.specs.declared.items.Item.TheVariants as item
use Rattle.kmn_base.specs.declared.items.Element.TheVariants as element
use Rattle.kmn_base.specs.Lists.{is_mark}
use Rattle.rule_model.specs.declared.event_state.Catch.{Catch}
use Rattle.rule_model.specs.declared.tables.Pat.{Pat}
use Rattle.rule_model.specs.declared.tables.Pat.TheVariants as pattern
use Rattle.rule_model.specs.declared.tables.Store.{Store}
use Rattle.rule_model.specs.Keyboard.{Pattern, Numbered}
use Rattle.rule_model.specs.Match.{Content, is_item, place_of, takes_item, matches, place_for, nothing_caught, catch_item, catches_from}
use Rattle.rule_model.specs.Hold.{pattern_count}
use Rattle.rule_model.specs.Patterns.{is_matched, is_nul}
use Rattle.rule_model.specs.Tab.{tab_pattern}
use Rattle.core_meaning.specs.Contexts.{core_match, core_matches, core_place, fails, begins_with_nul, compared_count}
use Rattle.core_meaning.specs.ContextLaws.{is_compared}
use Rattle.core_constructs.specs.Contexts.{asks_unput, has_late_nul, has_offset}
use Rattle.core_laws.proofs.Caught.{items_in}
use Rattle.core_laws.proofs.Marks.{IsUnmarked, Unmarked}

true_false : true ≡ false → ⊥
true_false e = grind arith

false_true : false ≡ true → ⊥
false_true e = grind arith

-- ---- how many items are compared

takes : (stores : List Store) (p : Pat) → takes_item (tab_pattern stores p) ≡ is_matched p
takes stores (pattern.Char c) = refl
takes stores (pattern.Mark m) = refl
takes stores (pattern.Any s) = refl
takes stores (pattern.NotAny s) = refl
takes stores (pattern.Index s k) = refl
takes stores (pattern.ContextAt k) = refl
takes stores (pattern.Equal s v) = refl
takes stores (pattern.Unequal s v) = refl
takes stores (pattern.SystemEqual s v) = refl
takes stores (pattern.SystemUnequal s v) = refl
takes stores pattern.Nul = refl

pub counted : (stores : List Store) (ps : List Pat) → pattern_count (map (tab_pattern stores) ps) ≡ count_by is_matched ps
counted stores [] = refl
counted stores (p ∷ ps) =
    sum_by-cons (λ q. cond (takes_item q) 1 0) (tab_pattern stores p) (map (tab_pattern stores) ps)
    ∙ (λ i. cond (takes stores p i) 1 0 + counted stores ps i)
    ∙ sym (sum_by-cons (λ (q : Pat). cond (is_matched q) 1 0) p ps)

compared : (p : Pat) → is_nul p ≡ false → is_compared p ≡ is_matched p
compared (pattern.Char c) other = refl
compared (pattern.Mark m) other = refl
compared (pattern.Any s) other = refl
compared (pattern.NotAny s) other = refl
compared (pattern.Index s k) other = refl
compared (pattern.ContextAt k) other = refl
compared (pattern.Equal s v) other = refl
compared (pattern.Unequal s v) other = refl
compared (pattern.SystemEqual s v) other = refl
compared (pattern.SystemUnequal s v) other = refl
compared pattern.Nul other = absurd (true_false other)

pub all_compared : (ps : List Pat) → list_any is_nul ps ≡ false → count_by is_compared ps ≡ count_by is_matched ps
all_compared [] none = refl
all_compared (p ∷ ps) none =
    let parts = or_parts (is_nul p) (list_any is_nul ps) none in
    sum_by-cons (λ (q : Pat). cond (is_compared q) 1 0) p ps
    ∙ (λ i. cond (compared p parts.0 i) 1 0 + all_compared ps parts.1 i)
    ∙ sym (sum_by-cons (λ (q : Pat). cond (is_matched q) 1 0) p ps)

-- a context without a late `nul` begins with one, or has none
pub data HasNul : List Pat → Type 0 where
  Without : {ps : List Pat} → list_any is_nul ps ≡ false → begins_with_nul ps ≡ false → HasNul ps
  First : {ps : List Pat} → list_any is_nul ps ≡ false → HasNul (pattern.Nul ∷ ps)

pub nul_of : (ps : List Pat) → has_late_nul ps ≡ false → HasNul ps
nul_of [] late = Without refl refl
nul_of (pattern.Char c ∷ ps) late = Without late refl
nul_of (pattern.Mark m ∷ ps) late = Without late refl
nul_of (pattern.Any s ∷ ps) late = Without late refl
nul_of (pattern.NotAny s ∷ ps) late = Without late refl
nul_of (pattern.Index s k ∷ ps) late = Without late refl
nul_of (pattern.ContextAt k ∷ ps) late = Without late refl
nul_of (pattern.Equal s v ∷ ps) late = Without late refl
nul_of (pattern.Unequal s v ∷ ps) late = Without late refl
nul_of (pattern.SystemEqual s v ∷ ps) late = Without late refl
nul_of (pattern.SystemUnequal s v ∷ ps) late = Without late refl
nul_of (pattern.Nul ∷ ps) late = First late

pub compared_matched : (ps : List Pat) → HasNul ps → compared_count ps ≡ count_by is_matched ps
compared_matched ps (Without none first) = ap (λ (b : Bool). count_by is_compared (if b then drop 1 ps else ps)) first ∙ all_compared ps none
compared_matched (pattern.Nul ∷ ps) (First none) = all_compared ps none ∙ sym (sum_by-cons (λ (q : Pat). cond (is_matched q) 1 0) pattern.Nul ps ∙ omega arith)

-- ---- a context catches all items of a text

items_more : (seen : List Catch) (catch : Catch) → items_in (seen ++ catch ∷ []) ≡ items_in seen ++ items_in (catch ∷ [])
items_more seen catch = filter_map-append (λ (c : Catch). c.item) seen (catch ∷ [])

module _ (content : Content) where
  abbrev item_catch : Pattern → Item → Catch
  item_catch p x = record { item = Some x; place = place_for content p x }

  abbrev behind : List Catch → List Pattern → Catch → List Item → Option (List Catch)
  behind seen ps catch more = catches_from content (seen ++ catch ∷ []) ps more

  abbrev TextCaught : List Catch → List Pattern → Type 0
  TextCaught seen ps = (text : List Item) (all : List Catch) → catches_from content seen ps text ≡ Some all → items_in all ≡ items_in seen ++ text

  taken : (seen : List Catch) (p : Pattern) (ps : List Pattern) → ((more : List Catch) → TextCaught more ps) → (x : Item) (more : List Item) (all : List Catch) (fits : Bool)
      → (if fits then behind seen ps (item_catch p x) more else None) ≡ Some all → items_in all ≡ items_in seen ++ (x ∷ more)
  taken seen p ps rest x more all true e =
      rest (seen ++ item_catch p x ∷ []) more all e
      ∙ ap (λ (xs : List Item). xs ++ more) (items_more seen (item_catch p x))
      ∙ append_assoc (items_in seen) (x ∷ []) more
  taken seen p ps rest x more all false e = absurd (none-some all e)

  next : (seen : List Catch) (p : Pattern) (ps : List Pattern) → ((more : List Catch) → TextCaught more ps) → (takes : Bool) (text : List Item) (all : List Catch)
      → (if takes then catch_item content seen p (behind seen ps) text else behind seen ps nothing_caught text) ≡ Some all → items_in all ≡ items_in seen ++ text
  next seen p ps rest true [] all e = absurd (none-some all e)
  next seen p ps rest true (x ∷ more) all e = taken seen p ps rest x more all (matches content seen p x) e
  next seen p ps rest false text all e =
      rest (seen ++ nothing_caught ∷ []) text all e
      ∙ ap (λ (xs : List Item). xs ++ text) (items_more seen nothing_caught ∙ append-nil (items_in seen))

  pub text_caught : (ps : List Pattern) (seen : List Catch) → TextCaught seen ps
  text_caught [] seen [] all e = ap items_in (sym (same_Some seen all e)) ∙ sym (append-nil (items_in seen))
  text_caught [] seen (x ∷ text) all e = absurd (none-some all e)
  text_caught (p ∷ ps) seen text all e = next seen p ps (text_caught ps) (takes_item p) text all e

-- ---- contexts without offsets

one_less : (p : Pat) (ps : List Pat) (n : ℕ) → is_matched p ≡ true → suc n ≡ count_by is_matched (p ∷ ps) → n ≡ count_by is_matched ps
one_less p ps n matched count = omega (arith, count, sum_by-cons (λ (q : Pat). cond (is_matched q) 1 0) p ps ∙ ap (λ (b : Bool). cond b 1 0 + count_by is_matched ps) matched)

no_less : (p : Pat) (ps : List Pat) (n : ℕ) → is_matched p ≡ false → n ≡ count_by is_matched (p ∷ ps) → n ≡ count_by is_matched ps
no_less p ps n unmatched count = omega (arith, count, sum_by-cons (λ (q : Pat). cond (is_matched q) 1 0) p ps ∙ ap (λ (b : Bool). cond b 1 0 + count_by is_matched ps) unmatched)

module _ (content : Content) (stores : List Store) where
  abbrev caught_here : List Pat → List Item → List Catch → Bool
  caught_here ps text seen = is_some (catches_from content seen (map (tab_pattern stores) ps) text)

  abbrev matched_there : List Pat → List Item → List ℕ → List Item → Bool
  matched_there ps text places others = (core_match content ps places others text).0

  by_test : (test : Bool) (ps : List Pat) (text : List Item) (seen : List Catch) (places : List ℕ) (others : List Item)
      → caught_here ps text seen ≡ matched_there ps text places others
      → is_some (if test then catches_from content seen (map (tab_pattern stores) ps) text else None) ≡ ((if test then core_match content ps else fails) places others text).0
  by_test true ps text seen places others rest = rest
  by_test false ps text seen places others rest = refl

  -- a context without `nul` and offsets matches there as here
  pub plain_matches : (ps : List Pat) → list_any is_nul ps ≡ false → list_any has_offset ps ≡ false → (text : List Item) → length text ≡ count_by is_matched ps
      → (seen : List Catch) (places : List ℕ) (others : List Item) → caught_here ps text seen ≡ matched_there ps text places others
  plain_matches [] none plain [] count seen places others = refl
  plain_matches [] none plain (x ∷ text) count seen places others = absurd (none_left (length text) count)
    where
      none_left : (n : ℕ) → suc n ≡ 0 → ⊥
      none_left n e = omega arith
  plain_matches (pattern.Nul ∷ ps) none plain text count seen places others = absurd (true_false none)
  plain_matches (pattern.Index s k ∷ ps) none plain text count seen places others = absurd (true_false plain)
  plain_matches (pattern.ContextAt k ∷ ps) none plain text count seen places others = absurd (true_false plain)
  plain_matches (pattern.Equal s v ∷ ps) none plain text count seen places others =
      plain_matches ps none plain text (no_less (pattern.Equal s v) ps (length text) refl count) (seen ++ nothing_caught ∷ []) (places ++ 0 ∷ []) others
  plain_matches (pattern.Unequal s v ∷ ps) none plain text count seen places others =
      plain_matches ps none plain text (no_less (pattern.Unequal s v) ps (length text) refl count) (seen ++ nothing_caught ∷ []) (places ++ 0 ∷ []) others
  plain_matches (pattern.SystemEqual s v ∷ ps) none plain text count seen places others =
      plain_matches ps none plain text (no_less (pattern.SystemEqual s v) ps (length text) refl count) (seen ++ nothing_caught ∷ []) (places ++ 0 ∷ []) others
  plain_matches (pattern.SystemUnequal s v ∷ ps) none plain text count seen places others =
      plain_matches ps none plain text (no_less (pattern.SystemUnequal s v) ps (length text) refl count) (seen ++ nothing_caught ∷ []) (places ++ 0 ∷ []) others
  plain_matches (pattern.Char c ∷ ps) none plain [] count seen places others = refl
  plain_matches (pattern.Char c ∷ ps) none plain (x ∷ text) count seen places others =
      let catch : Catch = record { item = Some x; place = None } in
      by_test (is_item x (element.Char c)) ps text (seen ++ catch ∷ []) (places ++ core_place content places (pattern.Char c) x ∷ []) (others ++ x ∷ [])
      (plain_matches ps none plain text (one_less (pattern.Char c) ps (length text) refl count) (seen ++ catch ∷ []) (places ++ core_place content places (pattern.Char c) x ∷ []) (others ++ x ∷ []))
  plain_matches (pattern.Mark m ∷ ps) none plain [] count seen places others = refl
  plain_matches (pattern.Mark m ∷ ps) none plain (x ∷ text) count seen places others =
      let catch : Catch = record { item = Some x; place = None } in
      by_test (is_item x (element.Mark m)) ps text (seen ++ catch ∷ []) (places ++ core_place content places (pattern.Mark m) x ∷ []) (others ++ x ∷ [])
      (plain_matches ps none plain text (one_less (pattern.Mark m) ps (length text) refl count) (seen ++ catch ∷ []) (places ++ core_place content places (pattern.Mark m) x ∷ []) (others ++ x ∷ []))
  plain_matches (pattern.Any s ∷ ps) none plain [] count seen places others = refl
  plain_matches (pattern.Any s ∷ ps) none plain (x ∷ text) count seen places others =
      let catch : Catch = record { item = Some x; place = place_of x (content (Numbered s)) } in
      by_test (is_some (place_of x (content (Numbered s)))) ps text (seen ++ catch ∷ []) (places ++ core_place content places (pattern.Any s) x ∷ []) (others ++ x ∷ [])
      (plain_matches ps none plain text (one_less (pattern.Any s) ps (length text) refl count) (seen ++ catch ∷ []) (places ++ core_place content places (pattern.Any s) x ∷ []) (others ++ x ∷ []))
  plain_matches (pattern.NotAny s ∷ ps) none plain [] count seen places others = refl
  plain_matches (pattern.NotAny s ∷ ps) none plain (x ∷ text) count seen places others =
      let catch : Catch = record { item = Some x; place = None } in
      by_test (not (is_some (place_of x (content (Numbered s))))) ps text (seen ++ catch ∷ []) (places ++ core_place content places (pattern.NotAny s) x ∷ []) (others ++ x ∷ [])
      (plain_matches ps none plain text (one_less (pattern.NotAny s) ps (length text) refl count) (seen ++ catch ∷ []) (places ++ core_place content places (pattern.NotAny s) x ∷ []) (others ++ x ∷ []))

-- ---- contexts with a mark, which an unmarked text never matches

module _ (content : Content) where
  abbrev Fails : List Pat → List Item → List ℕ → List Item → Type 0
  Fails ps text places others = (core_match content ps places others text).0 ≡ false

  failing : (test : Bool) (ps : List Pat) (text : List Item) (places : List ℕ) (others : List Item) → Fails ps text places others → ((if test then core_match content ps else fails) places others text).0 ≡ false
  failing true ps text places others rest = rest
  failing false ps text places others rest = refl

  no_mark : (m : ℕ) (x : Item) → IsUnmarked x → (places : List ℕ) (others : List Item) → core_matches content places others (pattern.Mark m) x ≡ false
  no_mark m (item.Char c) plain places others = refl
  no_mark m (item.Mark n) plain places others = absurd (true_false plain)

  pub unput_fails : (ps : List Pat) → list_any (asks_unput []) ps ≡ true → (text : List Item) → Unmarked text → (places : List ℕ) (others : List Item) → Fails ps text places others
  unput_fails [] some text plain places others = absurd (false_true some)
  unput_fails (pattern.Equal s v ∷ ps) some text plain places others = unput_fails ps some text plain (places ++ 0 ∷ []) others
  unput_fails (pattern.Unequal s v ∷ ps) some text plain places others = unput_fails ps some text plain (places ++ 0 ∷ []) others
  unput_fails (pattern.SystemEqual s v ∷ ps) some text plain places others = unput_fails ps some text plain (places ++ 0 ∷ []) others
  unput_fails (pattern.SystemUnequal s v ∷ ps) some text plain places others = unput_fails ps some text plain (places ++ 0 ∷ []) others
  unput_fails (p ∷ ps) some [] plain places others = refl
  unput_fails (pattern.Mark m ∷ ps) some (x ∷ text) plain places others =
      ap (λ (test : Bool). ((if test then core_match content ps else fails) (places ++ core_place content places (pattern.Mark m) x ∷ []) (others ++ x ∷ []) text).0)
      (no_mark m x (All-head (λ item. is_mark item ≡ false) x text plain) places others)
  unput_fails (p ∷ ps) some (x ∷ text) plain places others =
      failing (core_matches content places others p x) ps text (places ++ core_place content places p x ∷ []) (others ++ x ∷ [])
      (unput_fails ps some text (All-tail (λ item. is_mark item ≡ false) x text plain) (places ++ core_place content places p x ∷ []) (others ++ x ∷ []))
