-- The records of one rule: when each holds, and which of them is first.
use Rattle.std.proofs.Common.{◌≡◌, ℕ, suc, ◌+◌, ◌*◌, ◌<◌, Bool, true, false, not, nat_eq, ◌&&◌, List, [], ◌∷◌, ◌++◌, append-nil, length, map, Option, Some, None, refl, ap, sym, ◌∙◌, subst, arith, is_some, if◌then◌else◌, cond, nat_cmp}
use Rattle.std.specs.Prelude.{All, find, option_map, option_and_then, unwrap_or, slice_get}
use Rattle.std.specs.List.{list_all, list_any}
use Rattle.std.specs.Ordering.{is_lt, ordering_then}
use Rattle.std.proofs.lemmas.Bool.{and_parts, false≢true, not-true, cond_both}
use Rattle.std.proofs.lemmas.Bool.Decides.{nat_tests}
use Rattle.std.proofs.lemmas.List.Elements.{All-nil, All-cons}
use Rattle.kmn_base.specs.declared.items.Item.{Item}
use Rattle.kmn_base.specs.declared.items.Element.{Element}
use Rattle.kmn_base.specs.declared.keys.KeyPress.{KeyPress}
use Rattle.kmn_base.specs.declared.keys.RuleKey.{RuleKey}
use Rattle.kmn_base.specs.declared.keys.RuleKey.TheVariants as key
use Rattle.virtual_keys.specs.Fits.{caps, no_caps, has, key_fits}
use Rattle.rule_model.specs.declared.event_state.Catch.{Catch}
use Rattle.rule_model.specs.declared.event_state.Caught.{Caught}
use Rattle.rule_model.specs.declared.program.Program.{Program}
use Rattle.rule_model.specs.declared.program.RuleDef.{RuleDef}
use Rattle.rule_model.specs.declared.program.SrcItem.{SrcItem}
use Rattle.rule_model.specs.declared.program.SrcItem.TheVariants as source
use Rattle.rule_model.specs.declared.tables.Rule.{Rule}
use Rattle.rule_model.specs.declared.tables.Tables.{Tables}
use Rattle.rule_model.specs.Content.{content}
use Rattle.rule_model.specs.Hold.{key_of_element, exchanged_fit, virtual_fits, fits_cased, fits_press_with, key_place_with, some_place, fitting_place_with, caught_by, holds_with, holds}
use Rattle.rule_model.proofs.CasedKeys.{cased_keys_fit_by_halves, fits_virtual}
use Rattle.rule_model.specs.Naming.{names_of, stores_of, elements_named}
use Rattle.rule_model.specs.Tab.{tab, tab_pattern, tab_rule}
use Rattle.rule_model.specs.Src.{src, src_pattern, src_key, src_rule, cased_keys}
use Rattle.compile_laws.specs.Numbers.{Numbers, numbers_of}
use Rattle.compile_laws.specs.Compiles.{file_pattern, has_halves, half_key, file_record, key_records, records_from, own_key, keyed_records, rule_records, precedes}
use Rattle.compile_laws.specs.WellNamed.{is_known_pattern, is_known_key, is_fixed, are_keys}
use Rattle.compile_laws.proofs.Linked.{Linked}
use Rattle.compile_laws.proofs.Known.{KnownRule, has_values}
use Rattle.virtual_keys.proofs.NamePlaces.{position_cons}
use Rattle.compile_laws.proofs.Patterns.{SameContext, pattern-same, context_caught, context_caught-same, holds-parts}
use Rattle.compile_laws.proofs.Least.{FirstIfAny, Ascending, first_found}

-- the key at a position of a key store
abbrev pub key_or_any : Option Element → RuleKey
key_or_any None = key.Any
key_or_any (Some e) = unwrap_or (key_of_element e) key.Any

abbrev pub key_elements : Numbers → Option SrcItem → List Element
key_elements numbers (Some (source.Any store)) = elements_named numbers.stores store
key_elements numbers item = []

-- the key of a rule's record for a position
abbrev pub chosen_key : Numbers → Option SrcItem → Option ℕ → RuleKey
chosen_key numbers item None = own_key numbers item
chosen_key numbers item (Some place) = key_or_any (slice_get (key_elements numbers item) place)

-- the half of a key that can be selected for a press, and its key
abbrev pub half_now : List ℕ → KeyPress → RuleKey → ℕ
half_now cased press k = if has_halves cased k && has press.mods caps then 1 else 0

abbrev pub key_now : List ℕ → KeyPress → RuleKey → RuleKey
key_now cased press k = if has_halves cased k then half_key (half_now cased press k) k else k

abbrev pub record_now : Numbers → KeyPress → RuleDef → Option ℕ → RuleKey → Rule
record_now numbers press r place k = file_record numbers r place (half_now numbers.cased press k) (key_now numbers.cased press k)

-- the record of a rule that is selected if the rule has caught this
abbrev pub caught_record : Numbers → KeyPress → RuleDef → Caught → Rule
caught_record numbers press r c = record_now numbers press r c.key_place (chosen_key numbers r.key c.key_place)

-- the record of this half, if there are two, or the only record
now_halves : (numbers : Numbers) (press : KeyPress) (r : RuleDef) (place : Option ℕ) (k : RuleKey) → has_halves numbers.cased k ≡ true →
    record_now numbers press r place k ≡ (if has press.mods caps then file_record numbers r place 1 (half_key 1 k) else file_record numbers r place 0 (half_key 0 k))
now_halves numbers press r place k e =
    (λ i. file_record numbers r place (if e i && has press.mods caps then 1 else 0) (if e i then half_key (if e i && has press.mods caps then 1 else 0) k else k))
    ∙ either (has press.mods caps)
  where
    either : (b : Bool) → file_record numbers r place (if b then 1 else 0) (half_key (if b then 1 else 0) k) ≡ (if b then file_record numbers r place 1 (half_key 1 k) else file_record numbers r place 0 (half_key 0 k))
    either true = refl
    either false = refl

now_alone : (numbers : Numbers) (press : KeyPress) (r : RuleDef) (place : Option ℕ) (k : RuleKey) → has_halves numbers.cased k ≡ false →
    record_now numbers press r place k ≡ file_record numbers r place 0 k
now_alone numbers press r place k e =
    λ i. file_record numbers r place (if e i && has press.mods caps then 1 else 0) (if e i then half_key (if e i && has press.mods caps then 1 else 0) k else k)

-- which keys fit: of two halves, only the half of the press
halves_fit : (cased : List ℕ) (press : KeyPress) (k : RuleKey) → has_halves cased k ≡ true →
    (key_fits (half_key 0 k) press ≡ (not (has press.mods caps) && fits_cased cased k press)) × (key_fits (half_key 1 k) press ≡ (has press.mods caps && fits_cased cased k press))
halves_fit cased press (key.Virtual flags code) e =
    let uncapped = (and_parts (list_any (nat_eq code) cased) (not (has flags caps) && not (has flags no_caps)) e).1 in
    let each = and_parts (not (has flags caps)) (not (has flags no_caps)) uncapped in
    let halves = cased_keys_fit_by_halves flags code press (not-true (has flags caps) each.0) (not-true (has flags no_caps) each.1) in
    let whole : fits_cased cased (key.Virtual flags code) press ≡ (nat_eq code press.code && exchanged_fit flags press.mods) =
    fits_virtual cased flags code press ∙ ap (λ b. virtual_fits b flags code press) e in
    (halves.small ∙ sym (ap (λ b. not (has press.mods caps) && b) whole), halves.large ∙ sym (ap (λ b. has press.mods caps && b) whole))
halves_fit cased press key.Any e = absurd (false≢true e)
halves_fit cased press (key.Char c) e = absurd (false≢true e)

alone_fits : (cased : List ℕ) (press : KeyPress) (k : RuleKey) → has_halves cased k ≡ false → key_fits k press ≡ fits_cased cased k press
alone_fits [] press k e = refl
alone_fits (c ∷ cs) press (key.Virtual flags code) e = sym (fits_virtual (c ∷ cs) flags code press ∙ ap (λ b. virtual_fits b flags code press) e)
alone_fits (c ∷ cs) press key.Any e = refl
alone_fits (c ∷ cs) press (key.Char d) e = refl

-- the position of one key that fits, or None
abbrev pub one_place : Bool → Option (Option ℕ)
one_place b = if b then Some None else None

in_place : (length_of line n m : ℕ) → n < m → is_lt (ordering_then (ordering_then (nat_cmp length_of length_of) (nat_cmp line line)) (nat_cmp n m)) ≡ true
in_place length_of line n m less = grind (arith, nat_tests)

-- two records of a rule are in the order of their positions
placed : (numbers : Numbers) (r : RuleDef) (a b : Option ℕ) (h g : ℕ) (k l : RuleKey) → 2 * unwrap_or a 0 + h < 2 * unwrap_or b 0 + g →
    precedes (file_record numbers r a h k) (file_record numbers r b g l) ≡ true
placed numbers r a b h g k l less = in_place (length (map (file_pattern numbers) r.context)) r.line (2 * unwrap_or a 0 + h) (2 * unwrap_or b 0 + g) less

-- the records of a key store are in order
behind_place : (numbers : Numbers) (r : RuleDef) (n h : ℕ) (k : RuleKey) (m : ℕ) (es : List Element) → 2 * n + h < 2 * m →
    All (λ y. precedes (file_record numbers r (Some n) h k) y ≡ true) (records_from numbers r m es)
behind_place numbers r n h k m [] less = All-nil (λ y. precedes (file_record numbers r (Some n) h k) y ≡ true)
behind_place numbers r n h k m (e ∷ es) less =
    let P : Rule → Type 0 = λ y. precedes (file_record numbers r (Some n) h k) y ≡ true in
    let l : RuleKey = unwrap_or (key_of_element e) key.Any in
    let more : List Rule = records_from numbers r (m + 1) es in
    let rest : All P more = behind_place numbers r n h k (m + 1) es (omega arith) in
    let x : Rule = file_record numbers r (Some m) 0 (half_key 0 l) in
    let y : Rule = file_record numbers r (Some m) 1 (half_key 1 l) in
    let z : Rule = file_record numbers r (Some m) 0 l in
    cond_both (has_halves numbers.cased l) (x ∷ y ∷ []) (z ∷ []) (λ xs. All P (xs ++ more))
    (λ _. All-cons P x (y ∷ more) (placed numbers r (Some n) (Some m) h 0 k (half_key 0 l) (omega arith)) (All-cons P y more (placed numbers r (Some n) (Some m) h 1 k (half_key 1 l) (omega arith)) rest))
    (λ _. All-cons P z more (placed numbers r (Some n) (Some m) h 0 k l (omega arith)) rest)

store_ascends : (numbers : Numbers) (r : RuleDef) (n : ℕ) (es : List Element) → Ascending precedes (records_from numbers r n es)
store_ascends numbers r n [] = tt
store_ascends numbers r n (e ∷ es) =
    let k : RuleKey = unwrap_or (key_of_element e) key.Any in
    let more : List Rule = records_from numbers r (n + 1) es in
    let rest : Ascending precedes more = store_ascends numbers r (n + 1) es in
    let x : Rule = file_record numbers r (Some n) 0 (half_key 0 k) in
    let y : Rule = file_record numbers r (Some n) 1 (half_key 1 k) in
    let z : Rule = file_record numbers r (Some n) 0 k in
    cond_both (has_halves numbers.cased k) (x ∷ y ∷ []) (z ∷ []) (λ xs. Ascending precedes (xs ++ more))
    (λ _. (
      All-cons (λ w. precedes x w ≡ true) y more (placed numbers r (Some n) (Some n) 0 1 (half_key 0 k) (half_key 1 k) (omega arith)) (behind_place numbers r n 0 (half_key 0 k) (n + 1) es (omega arith)),
      (behind_place numbers r n 1 (half_key 1 k) (n + 1) es (omega arith), rest),
    ))
    (λ _. (behind_place numbers r n 0 k (n + 1) es (omega arith), rest))

one_ascends : (x : Rule) → Ascending precedes (x ∷ [])
one_ascends x = (All-nil (λ y. precedes x y ≡ true), tt)

key_ascends : (numbers : Numbers) (r : RuleDef) (k : RuleKey) → Ascending precedes (key_records numbers r None k)
key_ascends numbers r k =
    let x : Rule = file_record numbers r None 0 (half_key 0 k) in
    let y : Rule = file_record numbers r None 1 (half_key 1 k) in
    let z : Rule = file_record numbers r None 0 k in
    cond_both (has_halves numbers.cased k) (x ∷ y ∷ []) (z ∷ []) (Ascending precedes)
    (λ _. (All-cons (λ w. precedes x w ≡ true) y [] (placed numbers r None None 0 1 (half_key 0 k) (half_key 1 k) (omega arith)) (All-nil (λ w. precedes x w ≡ true)), one_ascends y))
    (λ _. one_ascends z)

rule_ascends : (numbers : Numbers) (r : RuleDef) (item : Option SrcItem) → Ascending precedes (keyed_records numbers r item)
rule_ascends numbers r (Some (source.Any store)) = store_ascends numbers r 0 (elements_named numbers.stores store)
rule_ascends numbers r item = key_ascends numbers r (own_key numbers item)

-- a context and the one that it compiles to
context-same :
    (p : Program) (t : Tables) → Linked p t → (values : List (List Element)) (xs : List SrcItem) →
    list_all (is_known_pattern p) xs ≡ true → list_all (has_values p) xs ≡ true →
    SameContext (content (src p).stores values) (content (tab t).stores values) (map (src_pattern (names_of p)) xs) (map (tab_pattern t.stores) (map (file_pattern (numbers_of p)) xs))
context-same p t l values [] known valued = tt
context-same p t l values (x ∷ xs) known valued =
    let k = and_parts (is_known_pattern p x) (list_all (is_known_pattern p) xs) known in
    let v = and_parts (has_values p x) (list_all (has_values p) xs) valued in
    (pattern-same p t l values x k.0 v.0, context-same p t l values xs k.1 v.1)

-- a record passes if the context is caught and its key fits
one_passes : (f : Caught → Rule) (x : Rule) → ((catches : List Catch) → f (record { catches = catches; key_place = None }) ≡ x) →
    (k : Option (List Catch)) (b : Bool) → cond (is_some (caught_by k (one_place b))) (Some x) None ≡ option_map f (caught_by k (one_place b))
one_passes f x e None b = refl
one_passes f x e (Some catches) true = ap Some (sym (e catches))
one_passes f x e (Some catches) false = refl

caught_if : (k : Option (List Catch)) (b : Bool) → is_some (caught_by k (one_place b)) ≡ (is_some k && b)
caught_if None b = refl
caught_if (Some catches) true = refl
caught_if (Some catches) false = refl

-- the first record of a key store that passes, or one of those after it
next_passes : (k : Option (List Catch)) (b : Bool) (place : Option ℕ) (h g : ℕ → Rule) (x : Rule) (rest : Option Rule) →
    h 0 ≡ x → ((n : ℕ) → h (suc n) ≡ g n) → rest ≡ option_map g (option_and_then (λ catches. place) k) →
    cond (is_some k && b) (Some x) rest ≡ option_map h (option_and_then (λ catches. cond b (Some 0) (option_map suc place)) k)
next_passes None b place h g x rest first later e = e
next_passes (Some catches) true place h g x rest first later e = ap Some (sym first)
next_passes (Some catches) false None h g x rest first later e = e
next_passes (Some catches) false (Some n) h g x rest first later e = e ∙ ap Some (sym (later n))

no_place : (k : Option (List Catch)) (h : ℕ → Rule) → None ≡ option_map h (option_and_then (λ catches. None) k)
no_place None h = refl
no_place (Some catches) h = refl

store_place : (k : Option (List Catch)) (place : Option ℕ) (h : ℕ → Rule) (f : Caught → Rule) →
    ((catches : List Catch) (n : ℕ) → h n ≡ f (record { catches = catches; key_place = Some n })) →
    option_map h (option_and_then (λ catches. place) k) ≡ option_map f (caught_by k (some_place place))
store_place None place h f e = refl
store_place (Some catches) None h f e = refl
store_place (Some catches) (Some n) h f e = ap Some (e catches n)

key_fits_at : (cased : List ℕ) (press : KeyPress) (o : Option RuleKey) → is_some o ≡ true → fits_cased cased (unwrap_or o key.Any) press ≡ fits_press_with cased press o
key_fits_at cased press None h = absurd (false≢true h)
key_fits_at cased press (Some k) h = refl

-- what is found for two halves, only one of which can pass
halves_found : (k c f : Bool) (x y : Rule) (rest : Option Rule) → cond (k && (not c && f)) (Some x) (cond (k && (c && f)) (Some y) rest) ≡ cond (k && f) (Some (if c then y else x)) rest
halves_found false c f x y rest = refl
halves_found true true true x y rest = refl
halves_found true true false x y rest = refl
halves_found true false true x y rest = refl
halves_found true false false x y rest = refl

all_keys : (es : List Element) → are_keys es ≡ true → list_all (λ e. is_some (key_of_element e)) es ≡ true
all_keys [] h = refl
all_keys (e ∷ es) h = h

-- one rule in a state
module _ (p : Program) (t : Tables) (l : Linked p t) (values : List (List Element)) (left : List Item) (press : KeyPress) (using_keys : Bool) where
  -- what a rule catches, and what a record catches
  abbrev pub rule_caught : RuleDef → Option Caught
  rule_caught r = holds_with (cased_keys p) (content (src p).stores values) left press (src_rule (names_of p) r)

  abbrev pub record_caught : Rule → Option Caught
  record_caught x = holds (content (tab t).stores values) left press (tab_rule t.stores using_keys x)

  abbrev pub passes : Rule → Bool
  passes x = is_some (record_caught x)

  abbrev pub context_of : RuleDef → Option (List Catch)
  context_of r = context_caught (content (src p).stores values) left (map (src_pattern (names_of p)) r.context)

  pub rule-parts : (r : RuleDef) → rule_caught r ≡ caught_by (context_of r) (fitting_place_with (cased_keys p) (content (src p).stores values) press (src_key (names_of p) r.key))
  rule-parts r = holds-parts (cased_keys p) (content (src p).stores values) left press (src_rule (names_of p) r)

  pub record-parts : (r : RuleDef) → KnownRule p using_keys r → (place : Option ℕ) (half : ℕ) (k : RuleKey) →
      record_caught (file_record (numbers_of p) r place half k) ≡ caught_by (context_of r) (one_place (key_fits (if using_keys then k else key.Any) press))
  record-parts r known place half k =
      holds-parts [] (content (tab t).stores values) left press (tab_rule t.stores using_keys (file_record (numbers_of p) r place half k))
      ∙ (λ i. caught_by
      (sym (context_caught-same (content (src p).stores values) (content (tab t).stores values) _ _ (context-same p t l values r.context known.context known.context_values) left) i)
      (one_place (key_fits (if using_keys then k else key.Any) press)))

  -- a record of a key passes if the context is caught and the key fits
  record_passes : (r : RuleDef) → KnownRule p using_keys r → using_keys ≡ true → (place : Option ℕ) (half : ℕ) (k : RuleKey) →
      passes (file_record (numbers_of p) r place half k) ≡ (is_some (context_of r) && key_fits k press)
  record_passes r known keyed place half k =
      ap is_some (record-parts r known place half k)
      ∙ ((λ i. is_some (caught_by (context_of r) (one_place (key_fits (if keyed i then k else key.Any) press)))) ∙ caught_if (context_of r) (key_fits k press))

  -- of the records of a key, the one of the press passes if the key fits
  found_of_key : (r : RuleDef) → KnownRule p using_keys r → using_keys ≡ true → (place : Option ℕ) (k : RuleKey) (more : List Rule) →
      find passes (key_records (numbers_of p) r place k ++ more)
      ≡ cond (is_some (context_of r) && fits_cased (cased_keys p) k press) (Some (record_now (numbers_of p) press r place k)) (find passes more)
  found_of_key r known keyed place k more = by_halves (has_halves (cased_keys p) k) refl
    where
      by_halves : (b : Bool) → has_halves (cased_keys p) k ≡ b →
          find passes ((if b then file_record (numbers_of p) r place 0 (half_key 0 k) ∷ file_record (numbers_of p) r place 1 (half_key 1 k) ∷ [] else file_record (numbers_of p) r place 0 k ∷ []) ++ more)
          ≡ cond (is_some (context_of r) && fits_cased (cased_keys p) k press) (Some (record_now (numbers_of p) press r place k)) (find passes more)
      by_halves true e =
          let fits = halves_fit (cased_keys p) press k e in
          let x = file_record (numbers_of p) r place 0 (half_key 0 k) in
          let y = file_record (numbers_of p) r place 1 (half_key 1 k) in
          (λ i. cond ((record_passes r known keyed place 0 (half_key 0 k) ∙ ap (λ b. is_some (context_of r) && b) fits.0) i) (Some x)
          (cond ((record_passes r known keyed place 1 (half_key 1 k) ∙ ap (λ b. is_some (context_of r) && b) fits.1) i) (Some y) (find passes more)))
          ∙ (halves_found (is_some (context_of r)) (has press.mods caps) (fits_cased (cased_keys p) k press) x y (find passes more)
          ∙ λ i. cond (is_some (context_of r) && fits_cased (cased_keys p) k press) (Some (sym (now_halves (numbers_of p) press r place k e) i)) (find passes more))
      by_halves false e =
          λ i. cond ((record_passes r known keyed place 0 k ∙ ap (λ b. is_some (context_of r) && b) (alone_fits (cased_keys p) press k e)) i)
          (Some (sym (now_alone (numbers_of p) press r place k e) i)) (find passes more)

  -- the record of a rule without a key passes if the context is caught
  bare_found : (r : RuleDef) → KnownRule p using_keys r → (wanted : RuleKey) → (if using_keys then key.Any else key.Any) ≡ wanted →
      find passes (file_record (numbers_of p) r None 0 key.Any ∷ [])
      ≡ option_map (λ c. record_now (numbers_of p) press r c.key_place (chosen_key (numbers_of p) None c.key_place)) (caught_by (context_of r) (one_place (key_fits wanted press)))
  bare_found r known wanted e =
      (λ i. cond (is_some ((record-parts r known None 0 key.Any ∙ (λ j. caught_by (context_of r) (one_place (key_fits (e j) press)))) i)) (Some (file_record (numbers_of p) r None 0 key.Any)) None)
      ∙ one_passes (λ c. record_now (numbers_of p) press r c.key_place (chosen_key (numbers_of p) None c.key_place)) (file_record (numbers_of p) r None 0 key.Any) (λ catches. refl) (context_of r) (key_fits wanted press)

  one_found : (r : RuleDef) → KnownRule p using_keys r → using_keys ≡ true → (item : Option SrcItem) →
      find passes (key_records (numbers_of p) r None (own_key (numbers_of p) item))
      ≡ option_map (λ c. record_now (numbers_of p) press r c.key_place (chosen_key (numbers_of p) item c.key_place)) (caught_by (context_of r) (one_place (fits_cased (cased_keys p) (own_key (numbers_of p) item) press)))
  one_found r known keyed item =
      let k = own_key (numbers_of p) item in
      let x = record_now (numbers_of p) press r None k in
      ap (find passes) (sym (append-nil (key_records (numbers_of p) r None k)))
      ∙ (found_of_key r known keyed None k []
      ∙ ((λ i. cond (sym (caught_if (context_of r) (fits_cased (cased_keys p) k press)) i) (Some x) None)
      ∙ one_passes (λ c. record_now (numbers_of p) press r c.key_place (chosen_key (numbers_of p) item c.key_place)) x (λ catches. refl) (context_of r) (fits_cased (cased_keys p) k press)))

  store_found : (r : RuleDef) → KnownRule p using_keys r → using_keys ≡ true → (es : List Element) (n : ℕ) → list_all (λ e. is_some (key_of_element e)) es ≡ true →
      find passes (records_from (numbers_of p) r n es)
      ≡ option_map (λ i. record_now (numbers_of p) press r (Some (n + i)) (key_or_any (slice_get es i))) (option_and_then (λ catches. key_place_with (cased_keys p) press es) (context_of r))
  store_found r known keyed [] n keys = no_place (context_of r) _
  store_found r known keyed (e ∷ es) n keys =
      let k = unwrap_or (key_of_element e) key.Any in
      let cased = cased_keys p in
      let x = record_now (numbers_of p) press r (Some n) k in
      let h = λ (i : ℕ). record_now (numbers_of p) press r (Some (n + i)) (key_or_any (slice_get (e ∷ es) i)) in
      let g = λ (i : ℕ). record_now (numbers_of p) press r (Some (n + 1 + i)) (key_or_any (slice_get es i)) in
      let each = and_parts (is_some (key_of_element e)) (list_all (λ e. is_some (key_of_element e)) es) keys in
      let first : n + 0 ≡ n = omega arith in
      found_of_key r known keyed (Some n) k (records_from (numbers_of p) r (n + 1) es)
      ∙ ((λ i. cond (is_some (context_of r) && key_fits_at cased press (key_of_element e) each.0 i) (Some x) (find passes (records_from (numbers_of p) r (n + 1) es)))
      ∙ (next_passes (context_of r) (fits_press_with cased press (key_of_element e)) (key_place_with cased press es) h g x (find passes (records_from (numbers_of p) r (n + 1) es))
      (λ i. record_now (numbers_of p) press r (Some (first i)) k)
      (λ m. let after : n + suc m ≡ n + 1 + m = omega arith in λ i. record_now (numbers_of p) press r (Some (after i)) (key_or_any (slice_get es m)))
      (store_found r known keyed es (n + 1) each.1)
      ∙ (λ i. option_map h (option_and_then (λ catches. sym (position_cons (λ e. fits_press_with cased press (key_of_element e)) e es) i) (context_of r)))))

  own_place : (b : Bool) → (if b then key.Any else key.Any) ≡ key.Any
  own_place true = refl
  own_place false = refl

  key_found : (r : RuleDef) → KnownRule p using_keys r → (item : Option SrcItem) → is_known_key p using_keys item ≡ true →
      find passes (keyed_records (numbers_of p) r item)
      ≡ option_map (λ c. record_now (numbers_of p) press r c.key_place (chosen_key (numbers_of p) item c.key_place)) (caught_by (context_of r) (fitting_place_with (cased_keys p) (content (src p).stores values) press (src_key (names_of p) item)))
  key_found r known None h = bare_found r known key.Any (own_place using_keys) ∙ (λ i. option_map (λ c. record_now (numbers_of p) press r c.key_place (chosen_key (numbers_of p) None c.key_place)) (caught_by (context_of r) (one_place (alone_fits (cased_keys p) press key.Any refl i))))
  key_found r known (Some (source.Any store)) h =
      let keyed = and_parts using_keys (is_fixed p store && are_keys (elements_named (stores_of p) store)) h in
      let fixed = and_parts (is_fixed p store) (are_keys (elements_named (stores_of p) store)) keyed.1 in
      let es = elements_named (stores_of p) store in
      let f = λ (c : Caught). record_now (numbers_of p) press r c.key_place (chosen_key (numbers_of p) (Some (source.Any store)) c.key_place) in
      store_found r known keyed.0 es 0 (all_keys es fixed.1)
      ∙ (store_place (context_of r) (key_place_with (cased_keys p) press es) (λ i. record_now (numbers_of p) press r (Some (0 + i)) (key_or_any (slice_get es i))) f
      (λ catches n. let same : 0 + n ≡ n = omega arith in λ i. record_now (numbers_of p) press r (Some (same i)) (key_or_any (slice_get es n)))
      ∙ (λ i. option_map f (caught_by (context_of r) (some_place (key_place_with (cased_keys p) press (sym (l.fixed store values fixed.0) i))))))
  key_found r known (Some (source.Char c)) h = one_found r known h (Some (source.Char c))
  key_found r known (Some item) h = one_found r known h (Some item)

  -- the first record of a rule
  pub rule_first : (r : RuleDef) → KnownRule p using_keys r →
      FirstIfAny precedes passes (rule_records (numbers_of p) r) (option_map (caught_record (numbers_of p) press r) (rule_caught r))
  rule_first r known =
      subst (FirstIfAny precedes passes (rule_records (numbers_of p) r))
      (key_found r known r.key known.key ∙ ap (option_map (caught_record (numbers_of p) press r)) (sym (rule-parts r)))
      (first_found precedes passes (rule_records (numbers_of p) r) (rule_ascends (numbers_of p) r r.key))
