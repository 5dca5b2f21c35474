-- A value that was read contains, including itself, at most one value more than its text has bytes.
use Rattle.std.proofs.Common.{◌≡◌, ℕ, zero, suc, ◌+◌, ◌≤◌, List, [], ◌∷◌, length, Option, Some, None, option_map, option_and_then, Ordering, Less, Equal, Greater, refl, subst, arith, nat_cmp}
use Rattle.std.specs.Prelude.{⊤}
use Rattle.std.specs.Ordering.{match_ordering}
use Rattle.std.specs.Cmp.Lexicographic.{slice_cmp}
use Rattle.json.specs.Token.{Token}
use Rattle.json.specs.Lex.{tokens}
use Rattle.json.specs.Json as json
use Rattle.json.specs.Json.{Parse, parse_map, after_end_array, read_key, items_step, members_step, value_with}
use Rattle.json.proofs.Grammar.{after_end_array-shorter, read_key-shorter}
use Rattle.serde_json.specs.Data.{Data, null, boolean, number, string, array, object, Items, no_items, item, Members, no_members, member, put}
use Rattle.serde_json.specs.Read.{number_of, of_json, of_items, of_members, max_depth, read}
use Rattle.touch_layout.proofs.TokenCounts.{tokens_within}

-- the number of values in a value, including itself
abbrev mutual
  pub size : Data → ℕ
  size null = 1
  size (boolean b) = 1
  size (number n) = 1
  size (string s) = 1
  size (array ds) = suc (items_size ds)
  size (object ms) = suc (members_size ms)

  pub items_size : Items → ℕ
  items_size no_items = 0
  items_size (item d ds) = size d + items_size ds

  pub members_size : Members → ℕ
  members_size no_members = 0
  members_size (member k d ms) = size d + members_size ms

-- the number of values in a value of the grammar, including itself
abbrev mutual
  json_size : json.Json → ℕ
  json_size json.null = 1
  json_size (json.boolean b) = 1
  json_size (json.number s) = 1
  json_size (json.string s) = 1
  json_size (json.array js) = suc (json_items_size js)
  json_size (json.object ms) = suc (json_members_size ms)

  json_items_size : json.Items → ℕ
  json_items_size json.no_items = 0
  json_items_size (json.item j js) = json_size j + json_items_size js

  json_members_size : json.Members → ℕ
  json_members_size json.no_members = 0
  json_members_size (json.member k j ms) = json_size j + json_members_size ms

-- a value, if present, measures at most n
abbrev pub AtMost : {A : Type 0} → (A → ℕ) → ℕ → Option A → Type 0
AtMost f n None = ⊤
AtMost f n (Some a) = f a ≤ n

pub AtMost-map : {A B : Type 0} (f : A → ℕ) (g : B → ℕ) (m n : ℕ) (h : A → B) → ((a : A) → f a ≤ m → g (h a) ≤ n)
    → (o : Option A) → AtMost f m o → AtMost g n (option_map h o)
AtMost-map f g m n h each None below = tt
AtMost-map f g m n h each (Some a) below = each a below

pub AtMost-and_then : {A B : Type 0} (f : A → ℕ) (g : B → ℕ) (m n : ℕ) (h : A → Option B) → ((a : A) → f a ≤ m → AtMost g n (h a))
    → (o : Option A) → AtMost f m o → AtMost g n (option_and_then h o)
AtMost-and_then f g m n h each None below = tt
AtMost-and_then f g m n h each (Some a) below = each a below

pub AtMost-raise : {A : Type 0} (f : A → ℕ) (m n : ℕ) → m ≤ n → (o : Option A) → AtMost f m o → AtMost f n o
AtMost-raise f m n le None below = tt
AtMost-raise f m n le (Some a) below = omega arith

pub AtMost-zero : {A : Type 0} (o : Option A) → AtMost (λ _. 0) 0 o
AtMost-zero None = tt
AtMost-zero (Some a) = omega arith

-- ---- from tokens to the grammar's values

-- the measure of what was read and the number of tokens after it are together at most n
abbrev Leaves : {A : Type 0} → (A → ℕ) → ℕ → Option (A × List Token) → Type 0
Leaves f n None = ⊤
Leaves f n (Some p) = f p.0 + length p.1 ≤ n

abbrev Shrinks : {A : Type 0} → (A → ℕ) → Parse A → Type 0
Shrinks f p = (ts : List Token) → Leaves f (length ts) (p ts)

Leaves-map : {A B : Type 0} (f : A → ℕ) (g : B → ℕ) (m n : ℕ) (h : A → B) → ((a : A) (k : ℕ) → f a + k ≤ m → g (h a) + k ≤ n)
    → (o : Option (A × List Token)) → Leaves f m o → Leaves g n (parse_map h o)
Leaves-map f g m n h each None below = tt
Leaves-map f g m n h each (Some p) below = each p.0 (length p.1) below

and_more : {B : Type 0} (g : B → ℕ) (m n : ℕ) (h : json.Json → B → B) → ((j : json.Json) (b : B) → g (h j b) ≡ json_size j + g b) → m ≤ n
    → (more : Parse B) → Shrinks g more → (o : Option (json.Json × List Token)) → Leaves json_size m o
    → Leaves g n (option_and_then (λ q. parse_map (h q.0) (more q.1)) o)
and_more g m n h is fewer more shrinks None below = tt
and_more g m n h is fewer more shrinks (Some q) below =
    Leaves-map g g (length q.1) n (h q.0) (λ b k within. omega (arith, is q.0 b)) _ (shrinks q.1)

module _ (p : Parse json.Json) (shrinks : Shrinks json_size p) where
  item_turn : (more : Parse json.Items) → Shrinks json_items_size more → (ts : List Token) (o : Option (List Token)) → after_end_array ts ≡ o
      → Leaves json_items_size (length ts) (items_step p more ts o)
  item_turn more again ts (Some r) is = omega (arith, after_end_array-shorter ts r is)
  item_turn more again ts None is = and_more json_items_size (length ts) (length ts) json.item (λ j b. refl) (omega arith) more again (p ts) (shrinks ts)

  Shrinks-items : (n : ℕ) → Shrinks json_items_size (json.items p n)
  unfolding json.items
  Shrinks-items zero ts = tt
  Shrinks-items (suc n) ts = item_turn (json.items p n) (Shrinks-items n) ts (after_end_array ts) refl

  member_turn : (more : Parse json.Members) → Shrinks json_members_size more → (ts : List Token) (o : Option (Option (List ℕ) × List Token)) → read_key ts ≡ o
      → Leaves json_members_size (length ts) (option_and_then (λ q. members_step p more q.0 q.1) o)
  member_turn more again ts None is = tt
  member_turn more again ts (Some (None, s)) is = omega (arith, read_key-shorter ts None s is)
  member_turn more again ts (Some (Some k, s)) is =
      and_more json_members_size (length s) (length ts) (json.member k) (λ j b. refl) (omega (arith, read_key-shorter ts (Some k) s is)) more again (p s) (shrinks s)

  Shrinks-members : (n : ℕ) → Shrinks json_members_size (json.members p n)
  unfolding json.members
  Shrinks-members zero ts = tt
  Shrinks-members (suc n) ts = member_turn (json.members p n) (Shrinks-members n) ts (read_key ts) refl

one_level : (a : Parse json.Items) (o : Parse json.Members) → Shrinks json_items_size a → Shrinks json_members_size o → Shrinks json_size (value_with a o)
one_level a o items members [] = tt
one_level a o items members (Token.begin_object ∷ ts) =
    Leaves-map json_members_size json_size (length ts) (suc (length ts)) json.object (λ ms k within. omega arith) (o ts) (members ts)
one_level a o items members (Token.end_object ∷ ts) = tt
one_level a o items members (Token.begin_array ∷ ts) =
    Leaves-map json_items_size json_size (length ts) (suc (length ts)) json.array (λ js k within. omega arith) (a ts) (items ts)
one_level a o items members (Token.end_array ∷ ts) = tt
one_level a o items members (Token.key s ∷ ts) = tt
one_level a o items members (Token.string s ∷ ts) = omega arith
one_level a o items members (Token.number s ∷ ts) = omega arith
one_level a o items members (Token.boolean b ∷ ts) = omega arith
one_level a o items members (Token.null ∷ ts) = omega arith
one_level a o items members (Token.bad ∷ ts) = tt

Shrinks-value : (deep : ℕ) → Shrinks json_size (json.value deep)
unfolding json.value
Shrinks-value zero = one_level (λ ts. None) (λ ts. None) (λ ts. tt) (λ ts. tt)
Shrinks-value (suc deep) =
    one_level (λ ts. json.items (json.value deep) (length ts) ts) (λ ts. json.members (json.value deep) (length ts) ts)
    (λ ts. Shrinks-items (json.value deep) (Shrinks-value deep) (length ts) ts)
    (λ ts. Shrinks-members (json.value deep) (Shrinks-value deep) (length ts) ts)

last_within : (o : Option (json.Json × List Token)) (n : ℕ) → Leaves json_size n o → AtMost json_size n (option_and_then (λ p. json.if_last p.0 p.1) o)
last_within None n below = tt
last_within (Some (j, [])) n below = omega arith
last_within (Some (j, t ∷ r)) n below = tt

-- ---- from the grammar's values to data

either_within : (o : Ordering) (a b c : Members) (n : ℕ) → members_size a ≤ n → members_size b ≤ n → members_size c ≤ n
    → members_size (match_ordering o a b c) ≤ n
either_within Less a b c n first second third = first
either_within Equal a b c n first second third = second
either_within Greater a b c n first second third = third

put_within : (k : List ℕ) (d : Data) (ms : Members) → members_size (put k d ms) ≤ size d + members_size ms
put_within k d no_members = omega arith
put_within k d (member l e ms) =
    either_within (slice_cmp nat_cmp k l) (member k d (member l e ms)) (member l d ms) (member l e (put k d ms)) _
    (omega arith) (omega arith) (omega (arith, put_within k d ms))

mutual
  json_within : (j : json.Json) → AtMost size (json_size j) (of_json j)
  json_within json.null = omega arith
  json_within (json.boolean b) = omega arith
  json_within (json.number s) = AtMost-map (λ _. 0) size 0 1 number (λ a below. omega arith) (number_of s) (AtMost-zero _)
  json_within (json.string s) = omega arith
  json_within (json.array js) =
      AtMost-map items_size size (json_items_size js) (suc (json_items_size js)) array (λ ds below. omega arith) _ (items_within js)
  json_within (json.object ms) =
      AtMost-map members_size size (json_members_size ms) (suc (json_members_size ms)) object (λ ds below. omega arith) _
      (members_within ms no_members _ (omega arith))

  items_within : (js : json.Items) → AtMost items_size (json_items_size js) (of_items js)
  items_within json.no_items = omega arith
  items_within (json.item j js) =
      AtMost-and_then size items_size (json_size j) (json_size j + json_items_size js) _
      (λ d below. AtMost-map items_size items_size (json_items_size js) (json_size j + json_items_size js) (item d) (λ ds more. omega arith) _ (items_within js))
      _ (json_within j)

  members_within : (ms : json.Members) (found : Members) (n : ℕ) → json_members_size ms + members_size found ≤ n
      → AtMost members_size n (of_members ms found)
  members_within json.no_members found n few = omega arith
  members_within (json.member k j ms) found n few =
      AtMost-and_then size members_size (json_size j) n _
      (λ d below. members_within ms (put k d found) n (omega (arith, put_within k d found))) _ (json_within j)

-- ---- from bytes to data

pub read_within : (text : List ℕ) (d : Data) → read text ≡ Some d → size d ≤ suc (length text)
read_within text d is =
    let most = tokens_within text in
    let parsed = last_within (json.value max_depth (tokens text)) (length (tokens text)) (Shrinks-value max_depth (tokens text)) in
    let data_within = AtMost-and_then json_size size (length (tokens text)) (length (tokens text)) of_json
    (λ j below. AtMost-raise size (json_size j) (length (tokens text)) below (of_json j) (json_within j)) _ parsed in
    let few = subst (AtMost size (length (tokens text))) is data_within in
    omega arith
