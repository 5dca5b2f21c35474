-- Tables that a file can have are those that can be played and whose names can be written to a file.
use Rattle.std.proofs.Common.{List, [], ◌∷◌, length}
use Rattle.std.specs.List.{All}
use Rattle.std.proofs.lemmas.List.Elements.{All-nil, All-cons, All-head, All-tail, All-weaker}
use Rattle.rule_model.specs.declared.tables.Tables.{Tables}
use Rattle.kmx_format.specs.Writable.{IsWritableName, IsWritableStore, IsWritableGroup, IsWritable}
use Rattle.kmx_format.specs.Playable.{IsPlayableStore, IsPlayableGroup, IsPlayable, HasWritableNames, WritableIsPlayableWithNames}

-- if all elements have two properties from which a third follows, all have the third
joined : {X : Type 0} (P Q R : X → Type 0) → ((x : X) → P x → Q x → R x) → (xs : List X) → All P xs → All Q xs → All R xs
joined P Q R join [] p q = All-nil R
joined P Q R join (x ∷ xs) p q =
    All-cons R x xs (join x (All-head P x xs p) (All-head Q x xs q)) (joined P Q R join xs (All-tail P x xs p) (All-tail Q x xs q))

pub playable : (tables : Tables) → IsWritable tables → IsPlayable tables
playable tables h = record {
  version = h.version;
  start_unicode = h.start_unicode;
  start_ansi = h.start_ansi;
  stores = All-weaker IsWritableStore IsPlayableStore (λ store s. record { system = s.system; elements = s.elements; element_count = s.element_count }) tables.stores h.stores;
  groups = All-weaker (IsWritableGroup (length tables.stores) (length tables.groups)) (IsPlayableGroup (length tables.stores) (length tables.groups))
      (λ group g. record { rules = g.rules; on_match = g.on_match; on_nomatch = g.on_nomatch }) tables.groups h.groups;
  store_count = h.store_count;
  group_count = h.group_count;
  rule_count = h.rule_count;
  element_count = h.element_count;
}

named : (tables : Tables) → IsWritable tables → HasWritableNames tables
named tables h = record {
  stores = All-weaker IsWritableStore (λ store. IsWritableName store.name) (λ store s. s.name) tables.stores h.stores;
  groups = All-weaker (IsWritableGroup (length tables.stores) (length tables.groups)) (λ group. IsWritableName group.name) (λ group g. g.name) tables.groups h.groups;
}

writable : (tables : Tables) → IsPlayable tables → HasWritableNames tables → IsWritable tables
writable tables h names = record {
  version = h.version;
  start_unicode = h.start_unicode;
  start_ansi = h.start_ansi;
  stores = joined IsPlayableStore (λ store. IsWritableName store.name) IsWritableStore
      (λ store s name. record { system = s.system; name = name; elements = s.elements; element_count = s.element_count }) tables.stores h.stores names.stores;
  groups = joined (IsPlayableGroup (length tables.stores) (length tables.groups)) (λ group. IsWritableName group.name) (IsWritableGroup (length tables.stores) (length tables.groups))
      (λ group g name. record { name = name; rules = g.rules; on_match = g.on_match; on_nomatch = g.on_nomatch }) tables.groups h.groups names.groups;
  store_count = h.store_count;
  group_count = h.group_count;
  rule_count = h.rule_count;
  element_count = h.element_count;
}

pub writable_is_playable_with_names : WritableIsPlayableWithNames
writable_is_playable_with_names tables = ((λ h. (playable tables h, named tables h)), (λ h. writable tables h.0 h.1))
