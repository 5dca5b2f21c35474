-- The names of marks and keys by first appearance, item by item.
use Rattle.std.proofs.Common.{◌≡◌, ℕ, ◌+◌, ◌<◌, ◌≤◌, Bool, true, false, nat_le, List, [], ◌∷◌, ◌++◌, append-nil, append_assoc, length, length-append, map, take, drop, get_or, None, refl, sym, ap, ◌∙◌, arith, if◌then◌else◌}
use Rattle.std.specs.Prelude.{flat_map, Ok}
use Rattle.std.specs.List.{list_any}
use Rattle.std.proofs.lemmas.Bool.Decides.{nat_tests}
use Rattle.std.proofs.lemmas.List.{drop_more, take_all, take_at}
use Rattle.kmn_base.specs.Names.{same_name}
use Rattle.virtual_keys.specs.Dictionary.{with_name}
use Rattle.rule_model.specs.declared.program.SrcItem.{SrcItem}
use Rattle.rule_model.specs.declared.program.StoreDef.{StoreDef}
use Rattle.rule_model.specs.declared.program.RuleDef.{RuleDef}
use Rattle.rule_model.specs.declared.program.Program.{Program}
use Rattle.rule_model.specs.declared.tables.Store.{Store}
use Rattle.rule_model.specs.Tab.{distinct_onto}
use Rattle.rule_model.specs.Naming.{names_of, stores_of, source_items, items_from, rule_items, store_items, stores_before, stores_after, mark_names, key_names}
use Rattle.store_table.specs.declared.appearing.Appeared.{Appeared}
use Rattle.store_table.specs.declared.stating.Stated.{Stated}
use Rattle.store_table.specs.Names.{group_names, names_refusal, stated}
use Rattle.kmn_base.specs.declared.limits.TheConstants.{KEY_NAMES}
use Rattle.store_table.specs.First.{or_refusal}
use Rattle.store_table.specs.Numbering.{lists_of, numbered, none_appeared, with_marks, with_key, with_keys, with_item, with_items}
use Rattle.virtual_keys.proofs.NamePlaces.{with_name_new}
use Rattle.store_table.proofs.Naming.{names_of_stores}

pub items_append : (appeared : Appeared) (xs ys : List SrcItem) → with_items appeared (xs ++ ys) ≡ with_items (with_items appeared xs) ys
items_append appeared [] ys = refl
items_append appeared (x ∷ xs) ys = items_append (with_item appeared x) xs ys

-- the names with those of another store
pub next_store : (appeared : Appeared) (stores : List StoreDef) (i : ℕ) (store : StoreDef) → i < length stores → store ≡ get_or stores i store
    → with_items appeared (store_items (drop i stores)) ≡ with_items (with_items appeared store.items) (store_items (drop (i + 1) stores))
next_store appeared stores i store h e =
    ap (λ (ss : List StoreDef). with_items appeared (store_items ss)) (drop_more stores i store h ∙ ap (λ (s : StoreDef). s ∷ drop (i + 1) stores) (sym e))
    ∙ items_append appeared store.items (store_items (drop (i + 1) stores))

-- the names with those of another rule and of the stores before it
pub next_rule : (appeared : Appeared) (stores : List StoreDef) (rules : List RuleDef) (i : ℕ) (rule : RuleDef) (more : List RuleDef) → i < length rules → rule ≡ get_or rules i rule
    → with_items appeared (items_from stores (drop i rules ++ more))
    ≡ with_items (with_items (with_items appeared (store_items (stores_before rule.line stores))) (rule_items rule)) (items_from (stores_after rule.line stores) (drop (i + 1) rules ++ more))
next_rule appeared stores rules i rule more h e =
    let after : List SrcItem = items_from (stores_after rule.line stores) (drop (i + 1) rules ++ more) in
    ap (λ (rs : List RuleDef). with_items appeared (items_from stores (rs ++ more))) (drop_more rules i rule h ∙ ap (λ (r : RuleDef). r ∷ drop (i + 1) rules) (sym e))
    ∙ items_append appeared (store_items (stores_before rule.line stores)) (rule_items rule ++ after)
    ∙ items_append (with_items appeared (store_items (stores_before rule.line stores))) (rule_items rule) after

pub marks_append : (marks xs ys : List (List ℕ)) → with_marks marks (xs ++ ys) ≡ with_marks (with_marks marks xs) ys
marks_append marks [] ys = refl
marks_append marks (x ∷ xs) ys = marks_append (with_name marks x) xs ys

keys_append : (keys xs ys : List (List ℕ)) → with_keys keys (xs ++ ys) ≡ with_keys (with_keys keys xs) ys
keys_append keys [] ys = refl
keys_append keys (x ∷ xs) ys = keys_append (with_key keys x) xs ys

-- the two lists are independent
marks_apart : (appeared : Appeared) (items : List SrcItem) → (with_items appeared items).marks ≡ with_marks appeared.marks (flat_map mark_names items)
marks_apart appeared [] = refl
marks_apart appeared (item ∷ items) =
    marks_apart (with_item appeared item) items ∙ sym (marks_append appeared.marks (mark_names item) (flat_map mark_names items))

keys_apart : (appeared : Appeared) (items : List SrcItem) → (with_items appeared items).keys ≡ with_keys appeared.keys (flat_map key_names items)
keys_apart appeared [] = refl
keys_apart appeared (item ∷ items) =
    keys_apart (with_item appeared item) items ∙ sym (keys_append appeared.keys (key_names item) (flat_map key_names items))

marks_distinct : (marks names : List (List ℕ)) → with_marks marks names ≡ distinct_onto same_name marks names
marks_distinct marks [] = refl
marks_distinct marks (name ∷ names) = marks_distinct (with_name marks name) names ∙ ap (λ ms. distinct_onto same_name ms names) (with_name_new marks name)

-- distinct names with another name
abbrev with_new : List (List ℕ) → List ℕ → List (List ℕ)
with_new names name = if list_any (λ known. same_name known name) names then names else names ++ name ∷ []

-- a list that begins with another
record Begins (first all : List (List ℕ)) : Type 0 where
  rest : List (List ℕ)
  is : all ≡ first ++ rest

begins_next : (known : Bool) (keys names : List (List ℕ)) (name : List ℕ) → list_any (λ k. same_name k name) keys ≡ known
    → Begins keys (distinct_onto same_name keys names) → Begins (keys ++ name ∷ []) (distinct_onto same_name (keys ++ name ∷ []) names)
    → Begins keys (distinct_onto same_name (with_new keys name) names)
begins_next true keys names name e old new =
    record { rest = old.rest; is = ap (λ known. distinct_onto same_name (if known then keys else keys ++ name ∷ []) names) e ∙ old.is }
begins_next false keys names name e old new =
    record {
      rest = name ∷ new.rest;
      is = ap (λ known. distinct_onto same_name (if known then keys else keys ++ name ∷ []) names) e ∙ new.is ∙ append_assoc keys (name ∷ []) new.rest;
    }

begins : (keys names : List (List ℕ)) → Begins keys (distinct_onto same_name keys names)
begins keys [] = record { rest = []; is = sym (append-nil keys) }
begins keys (name ∷ names) =
    begins_next (list_any (λ k. same_name k name) keys) keys names name refl (begins keys names) (begins (keys ++ name ∷ []) names)

full_stays : (keys names : List (List ℕ)) → nat_le KEY_NAMES (length keys) ≡ true → with_keys keys names ≡ keys
full_stays keys [] full = refl
full_stays keys (name ∷ names) full =
    ap (λ is_full. with_keys (if is_full then keys else with_name keys name) names) full ∙ full_stays keys names full

full_length : (n l : ℕ) → nat_le n l ≡ true → l ≤ n → l ≡ n
full_length n l full few = grind (arith, nat_tests)

one_longer : (n l m : ℕ) → nat_le n l ≡ false → m ≡ l + 1 → m ≤ n
one_longer n l m room more = grind (arith, nat_tests)

still_few : (known : Bool) (keys : List (List ℕ)) (name : List ℕ) → length keys ≤ KEY_NAMES → nat_le KEY_NAMES (length keys) ≡ false → length (if known then keys else keys ++ name ∷ []) ≤ KEY_NAMES
still_few true keys name few room = few
still_few false keys name few room = one_longer KEY_NAMES (length keys) (length (keys ++ name ∷ [])) room (length-append keys (name ∷ []))

keys_next : (full : Bool) (keys names : List (List ℕ)) (name : List ℕ) → nat_le KEY_NAMES (length keys) ≡ full → length keys ≤ KEY_NAMES
    → (nat_le KEY_NAMES (length keys) ≡ false → with_keys (with_new keys name) names ≡ take KEY_NAMES (distinct_onto same_name (with_new keys name) names))
    → with_keys (with_key keys name) names ≡ take KEY_NAMES (distinct_onto same_name (with_new keys name) names)
keys_next true keys names name full few rest =
    let all : Begins keys (distinct_onto same_name keys (name ∷ names)) = begins keys (name ∷ names) in
    full_stays keys (name ∷ names) full
    ∙ sym (ap (take KEY_NAMES) all.is ∙ take_at keys all.rest KEY_NAMES (full_length KEY_NAMES (length keys) full few))
keys_next false keys names name room few rest =
    ap (λ is_full. with_keys (if is_full then keys else with_name keys name) names) room
    ∙ ap (λ ks. with_keys ks names) (with_name_new keys name)
    ∙ rest room

-- of distinct keys, as many as have a code
keys_distinct : (keys names : List (List ℕ)) → length keys ≤ KEY_NAMES → with_keys keys names ≡ take KEY_NAMES (distinct_onto same_name keys names)
keys_distinct keys [] few = sym (take_all KEY_NAMES keys few)
keys_distinct keys (name ∷ names) few =
    keys_next (nat_le KEY_NAMES (length keys)) keys names name refl few
    (λ room. keys_distinct (with_new keys name) names (still_few (list_any (λ k. same_name k name) keys) keys name few room))

-- the names that appear in a program are its names of marks, and its names of keys that have a code
pub appeared_marks : (program : Program) → (with_items none_appeared (source_items program)).marks ≡ (names_of program).marks
unfolding names_of
appeared_marks program = marks_apart none_appeared (source_items program) ∙ marks_distinct [] (flat_map mark_names (source_items program))

pub appeared_keys : (program : Program) → (with_items none_appeared (source_items program)).keys ≡ take KEY_NAMES (names_of program).keys
unfolding names_of
appeared_keys program = keys_apart none_appeared (source_items program) ∙ keys_distinct [] (flat_map key_names (source_items program)) (omega arith)

-- a program without a refusal for names is numbered
pub numbered_names : (program : Program) (names : Stated) (appeared : Appeared) → names_refusal program ≡ None → names ≡ stated program → appeared ≡ with_items none_appeared (source_items program)
    → numbered program ≡ Ok (record { stores = names.stores; groups = names.groups; marks = appeared.marks; keys = appeared.keys })
unfolding lists_of
numbered_names program names appeared none all walked =
    let stores : map (λ (store : Store). store.name) (stores_of program) ≡ names.stores = names_of_stores program ∙ sym (ap (λ (n : Stated). n.stores) all) in
    let groups : group_names program.groups ≡ names.groups = sym (ap (λ (n : Stated). n.groups) all) in
    let marks : (names_of program).marks ≡ appeared.marks = sym (ap (λ (a : Appeared). a.marks) walked ∙ appeared_marks program) in
    let keys : take KEY_NAMES (names_of program).keys ≡ appeared.keys = sym (ap (λ (a : Appeared). a.keys) walked ∙ appeared_keys program) in
    ap (or_refusal (lists_of program)) none ∙ (λ j. Ok (record { stores = stores j; groups = groups j; marks = marks j; keys = keys j }))
