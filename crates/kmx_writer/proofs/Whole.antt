-- The file that is written for whole tables, and the reasons why a file is not written.
use Rattle.std.proofs.Common.{◌≡◌, ℕ, ◌+◌, ◌<◌, ◌≤◌, true, false, ltb, List, length, Some, None, refl, ap, arith, lt-ltb, le-ltb}
use Rattle.std.proofs.lemmas.List.Elements.{All-weaker}
use Rattle.kmn_base.specs.declared.limits.TheConstants.{PICTURE_BYTES, FILE_BYTES}
use Rattle.kmn_base.specs.declared.codes.Code.TheVariants.{C23}
use Rattle.rule_model.specs.declared.tables.Rule.{Rule}
use Rattle.rule_model.specs.declared.tables.Group.{Group}
use Rattle.rule_model.specs.declared.tables.Tables.{Tables}
use Rattle.kmx_format.specs.File.{file_of, picture_place}
use Rattle.kmx_format.specs.Writable.{IsWritableRule, IsWritableGroup, IsWritable, IsFile}
use Rattle.kmx_format.proofs.FileLaw.{length-file_of}
use Rattle.kmx_format.proofs.FileSize.{picture_place_small}
use Rattle.kmx_writer.specs.Excess.{excess}
use Rattle.kmx_writer.specs.Spellings.{IsSpellableRule, IsSpellableGroup, AreSpellable}

module _ (store_count group_count : ℕ) where
  rule_spellable : (keys : _) (rule : Rule) → IsWritableRule store_count group_count keys rule → IsSpellableRule rule
  rule_spellable keys rule h = record { context = h.context.items; output = h.output.items }

  group_spellable : (group : Group) → IsWritableGroup store_count group_count group → IsSpellableGroup group
  group_spellable group h = record {
    name = h.name.utf8;
    rules = All-weaker (IsWritableRule store_count group_count group.using_keys) IsSpellableRule (rule_spellable group.using_keys) group.rules h.rules;
    on_match = h.on_match.itself.items;
    on_nomatch = h.on_nomatch.itself.items;
  }

pub spellable : (tables : Tables) → IsWritable tables → AreSpellable tables
spellable tables h = record {
  stores = h.stores;
  groups = All-weaker (IsWritableGroup (length tables.stores) (length tables.groups)) IsSpellableGroup (group_spellable (length tables.stores) (length tables.groups)) tables.groups h.groups;
  small = picture_place_small tables h;
}

pub excess_of_file : (tables : Tables) (picture : List ℕ) → length picture ≤ PICTURE_BYTES → FILE_BYTES < picture_place tables + length picture
    → excess tables picture ≡ Some (C23, picture_place tables + length picture)
excess_of_file tables picture short long =
    let size : length (file_of tables picture) ≡ picture_place tables + length picture = length-file_of tables picture in
    let first : ltb PICTURE_BYTES (length picture) ≡ false = le-ltb _ _ short in
    let second : ltb FILE_BYTES (picture_place tables + length picture) ≡ true = lt-ltb _ _ long in
    rw (first, size, second) refl

pub no_excess : (tables : Tables) (picture : List ℕ) → length picture ≤ PICTURE_BYTES → picture_place tables + length picture ≤ FILE_BYTES → excess tables picture ≡ None
no_excess tables picture short fits =
    let size : length (file_of tables picture) ≡ picture_place tables + length picture = length-file_of tables picture in
    let first : ltb PICTURE_BYTES (length picture) ≡ false = le-ltb _ _ short in
    let second : ltb FILE_BYTES (picture_place tables + length picture) ≡ false = le-ltb _ _ fits in
    rw (first, size, second) refl

pub is_file : (tables : Tables) (picture bytes : List ℕ) → IsWritable tables → length picture ≤ PICTURE_BYTES → picture_place tables + length picture ≤ FILE_BYTES
    → bytes ≡ file_of tables picture → IsFile bytes
is_file tables picture bytes writable short fits is = record {
  tables = tables;
  picture = picture;
  writable = writable;
  picture_size = short;
  file_size = omega (arith, ap length is, length-file_of tables picture);
  is = is;
}
