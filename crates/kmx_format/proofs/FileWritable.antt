-- If a file can have tables, it can have them without the positions of keys.
use Rattle.std.proofs.Common.{◌≡◌, ℕ, ◌≤◌, Bool, List, [], ◌∷◌, length, map, refl, sym, ap, subst, ◌∙◌, length-append, arith, inl, inr}
use Rattle.std.specs.List.{All, flat_map}
use Rattle.std.proofs.lemmas.List.{length-map}
use Rattle.std.proofs.lemmas.List.Elements.{All-map, All-weaker}
use Rattle.rule_model.specs.declared.tables.Rule.{Rule}
use Rattle.rule_model.specs.declared.tables.Group.{Group}
use Rattle.rule_model.specs.declared.tables.Tables.{Tables}
use Rattle.kmn_base.specs.declared.limits.TheConstants.{FILE_BYTES}
use Rattle.kmx_format.specs.File.{rules_of, file_of}
use Rattle.kmx_format.specs.TablesOf.{rule_without_place, group_without_places, no_places, tables_of}
use Rattle.kmx_format.specs.Writable.{IsWritableRule, IsWritableGroup, IsWritable}
use Rattle.kmx_format.specs.FileLaws.{FilesHaveWritableTables}
use Rattle.kmx_format.proofs.FileLaw.{law}

module _ (store_count group_count : ℕ) where
  rule_stays : (using_keys : Bool) (rule : Rule) → IsWritableRule store_count group_count using_keys rule → IsWritableRule store_count group_count using_keys (rule_without_place rule)
  rule_stays using_keys rule h = record { line = h.line; key = h.key; context = h.context; output = h.output; offsets = h.offsets }

  group_stays : (group : Group) → IsWritableGroup store_count group_count group → IsWritableGroup store_count group_count (group_without_places group)
  group_stays group h = record {
    name = h.name;
    rules = All-map (IsWritableRule store_count group_count group.using_keys) rule_without_place group.rules
        (All-weaker (IsWritableRule store_count group_count group.using_keys) (λ rule. IsWritableRule store_count group_count group.using_keys (rule_without_place rule))
        (rule_stays group.using_keys) group.rules h.rules);
    on_match = h.on_match;
    on_nomatch = h.on_nomatch;
  }

length-rules_of : (groups : List Group) → length (flat_map rules_of (map group_without_places groups)) ≡ length (flat_map rules_of groups)
length-rules_of [] = refl
length-rules_of (group ∷ groups) =
    omega (
      arith,
      length-append (map rule_without_place group.rules) (flat_map rules_of (map group_without_places groups)),
      length-append group.rules (flat_map rules_of groups),
      length-map group.rules rule_without_place,
      length-rules_of groups,
    )

pub IsWritable-no_places : (tables : Tables) → IsWritable tables → IsWritable (no_places tables)
IsWritable-no_places tables h =
    let count : length (map group_without_places tables.groups) ≡ length tables.groups = length-map tables.groups group_without_places in
    let stores : ℕ = length tables.stores in
    let groups_stay : All (IsWritableGroup stores (length tables.groups)) (map group_without_places tables.groups) =
    All-map (IsWritableGroup stores (length tables.groups)) group_without_places tables.groups
    (All-weaker (IsWritableGroup stores (length tables.groups)) (λ group. IsWritableGroup stores (length tables.groups) (group_without_places group))
    (group_stays stores (length tables.groups)) tables.groups h.groups) in
    record {
      version = h.version;
      start_unicode = omega (arith, h.start_unicode);
      start_ansi = elim h.start_ansi [ inl below ↦ inl (omega arith) | inr none ↦ inr none ];
      stores = h.stores;
      groups = subst (λ (n : ℕ). All (IsWritableGroup stores n) (map group_without_places tables.groups)) (sym count) groups_stay;
      store_count = h.store_count;
      group_count = omega (arith, h.group_count);
      rule_count = omega (arith, h.rule_count, length-rules_of tables.groups);
      element_count = h.element_count;
    }

pub files_have_writable_tables : FilesHaveWritableTables
files_have_writable_tables bytes h =
    let size : length (file_of h.tables h.picture) ≤ FILE_BYTES = omega (arith, h.file_size, ap length h.is) in
    let read : tables_of bytes ≡ no_places h.tables = ap tables_of h.is ∙ law h.tables h.picture h.writable size in
    subst IsWritable (sym read) (IsWritable-no_places h.tables h.writable)
