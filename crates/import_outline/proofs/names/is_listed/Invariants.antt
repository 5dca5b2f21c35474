use Rattle.std.proofs.Common.{◌≡◌, map, drop}
use Rattle.import_outline.specs.Names.{has_name}
use Rattle.import_outline.proofs.names.is_listed.Given as goal

abbrev pub invariant-loop-word : goal.invariant-loop-word
invariant-loop-word l = has_name (map (λ word. word.now) (drop l.word-index l.table)) l.name ≡ has_name (map (λ word. word.now) l.table) l.name
