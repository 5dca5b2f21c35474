-- The size of a program's file, counted before its records are made.
use Rattle.std.proofs.Common.{◌≡◌, ℕ, ◌+◌, ◌<◌, ◌≤◌, List, [], ◌∷◌, length, map, Option, Some, None, refl, sym, ap, subst, ◌∙◌, arith}
use Rattle.std.specs.List.{All}
use Rattle.std.proofs.lemmas.List.Elements.{All-cons, All-head, All-nil, All-tail}
use Rattle.kmn_base.specs.declared.codes.Code.TheVariants.{C23}
use Rattle.kmn_base.specs.declared.limits.TheConstants.{FILE_BYTES, PICTURE_BYTES}
use Rattle.rule_model.specs.declared.program.Program.{Program}
use Rattle.rule_model.specs.declared.tables.Group.{Group}
use Rattle.rule_model.specs.declared.tables.Tables.{Tables}
use Rattle.kmx_format.specs.File.{all_rules, picture_place}
use Rattle.compile_laws.specs.Ordered.{compiled_tables}
use Rattle.compile_laws.specs.Numbers.{numbers_of}
use Rattle.rule_checker.specs.Refused.{IsRead, refused}
use Rattle.kmn_compiler.proofs.Checks.{is_accepted}
use Rattle.rule_expand.specs.Expanded.{expanded_tables}
use Rattle.rule_expand.specs.Sizes.{records_size, without_records, without_rules}
use Rattle.rule_expand.proofs.FileSizes.{same_outline, size_is}
use Rattle.kmx_writer.specs.Excess.{excess}
use Rattle.kmx_writer.specs.Spellings.{AreSpellable, IsSpellableGroup, IsSpellableRule}
use Rattle.kmx_writer.proofs.Whole.{excess_of_file, spellable}

-- groups whose items have spellings have them without their records
outlines_spellable : (groups : List Group) → All IsSpellableGroup groups → All IsSpellableGroup (map without_rules groups)
outlines_spellable [] all = all
outlines_spellable (group ∷ groups) all =
    let first : IsSpellableGroup group = All-head IsSpellableGroup group groups all in
    All-cons IsSpellableGroup (without_rules group) (map without_rules groups) (record { name = first.name; rules = All-nil IsSpellableRule; on_match = first.on_match; on_nomatch = first.on_nomatch }) (outlines_spellable groups (All-tail IsSpellableGroup group groups all))

-- the items of an accepted program's tables without records have spellings
pub outline_spellable : (program : Program) (outline : Tables) → IsRead program → refused program ≡ None → outline ≡ without_records (expanded_tables program) → AreSpellable outline
unfolding expanded_tables compiled_tables
outline_spellable program outline read kept is = subst AreSpellable (sym is) (record {
  stores = can.stores;
  groups = subst (All IsSpellableGroup) (same_outline (numbers_of program) program.groups) (outlines_spellable (compiled_tables program).groups can.groups);
  small = omega (arith, can.small, size_is program);
})
  where
    can : AreSpellable (compiled_tables program)
    can = spellable (compiled_tables program) (is_accepted program read kept).writable

-- if the counted size passes the limit, the file passes it with the same size
pub counted_excess : (program : Program) (picture : List ℕ) (outline : Tables) (records size : ℕ) → length picture ≤ PICTURE_BYTES
    → outline ≡ without_records (expanded_tables program) → records ≡ records_size (all_rules (expanded_tables program))
    → size ≡ picture_place outline + records + length picture → FILE_BYTES < size → excess (compiled_tables program) picture ≡ Some (C23, size)
counted_excess program picture outline records size short is counted sum long =
    let whole : picture_place (compiled_tables program) + length picture ≡ size
    = ap (λ (n : ℕ). n + length picture) (size_is program ∙ (λ i. picture_place (sym is i) + sym counted i)) ∙ sym sum in
    excess_of_file (compiled_tables program) picture short (omega (arith, whole, long)) ∙ ap (λ (n : ℕ). Some (C23, n)) whole
