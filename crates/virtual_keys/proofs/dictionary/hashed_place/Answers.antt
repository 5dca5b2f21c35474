use Rattle.std.proofs.Common.{◌∙◌, ap, ℕ, List}
use Rattle.std.specs.List.{position}
use Rattle.std.specs.Map.{keys_of}
use Rattle.std.specs.Str.{bytes_eq, str_to_ascii_lowercase}
use Rattle.virtual_keys.proofs.EntryLemmas.{folded_place}
use Rattle.virtual_keys.proofs.dictionary.hashed_place.Goals as goal

pub returns : goal.returns
returns c = record {
  place = c.get_index_of.ensures.index
      ∙ ap (λ (query : List ℕ). position (λ key. bytes_eq query key.items) (keys_of c.args.names.now.entries)) (c.make_ascii_lowercase.ensures.after ∙ ap str_to_ascii_lowercase c.copy_from_slice.ensures.after)
      ∙ folded_place c.args.name.now c.args.names.now.entries c.requires.entries;
}
