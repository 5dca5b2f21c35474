-- The number of bytes of the records of a rule and their strings, computed from the sizes that the records have in common.
use Rattle.std.proofs.Common.{◌≡◌, ℕ, suc, ◌+◌, ◌*◌, ◌<◌, Bool, true, false, eqb, if◌then◌else◌, List, [], ◌∷◌, ◌++◌, length, map, Option, Some, None, refl, sym, ap, ◌∙◌, length-append, append-nil, arith, ne_eqb}
use Rattle.std.specs.Prelude.{flat_map, unwrap_or}
use Rattle.kmn_base.specs.declared.items.Element.{Element}
use Rattle.kmn_base.specs.declared.keys.RuleKey.{RuleKey}
use Rattle.kmn_base.specs.declared.keys.RuleKey.TheVariants as key
use Rattle.kmn_base.specs.declared.units.UnitItem.{UnitItem}
use Rattle.kmn_base.specs.Spelling.{unit_bytes, spelling}
use Rattle.rule_model.specs.declared.program.RuleDef.{RuleDef}
use Rattle.rule_model.specs.declared.program.SrcItem.{SrcItem}
use Rattle.rule_model.specs.declared.program.SrcItem.TheVariants as source
use Rattle.rule_model.specs.declared.tables.Out.{Out}
use Rattle.rule_model.specs.declared.tables.Out.TheVariants as output
use Rattle.rule_model.specs.declared.tables.Pat.{Pat}
use Rattle.rule_model.specs.declared.tables.Rule.{Rule}
use Rattle.rule_model.specs.declared.tables.Store.{Store}
use Rattle.rule_model.specs.Hold.{key_of_element}
use Rattle.rule_model.specs.Naming.{elements_named}
use Rattle.kmx_format.specs.declared.sizes.TheConstants.{RULE_BYTES}
use Rattle.compile_laws.specs.Compiles.{half_key, has_halves, or_nul, own_key, rule_records}
use Rattle.kmx_format.specs.File.{string}
use Rattle.kmx_format.specs.FileUnits.{item_units, output_units, pattern_units, unit_item_of_output, unit_item_of_pattern}
use Rattle.compile_laws.specs.Numbers.{Numbers}
use Rattle.kmx_format.proofs.FileItems.{length-item_units}
use Rattle.kmx_format.proofs.FileSize.{length-unit_bytes}
use Rattle.rule_expand.specs.declared.pieces.Piece.{Piece}
use Rattle.rule_expand.specs.declared.pieces.Piece.TheVariants.{Fixed, AtKey}
use Rattle.rule_expand.specs.declared.records.Template.{Template}
use Rattle.rule_expand.specs.declared.sizes.RuleSizes.{RuleSizes}
use Rattle.rule_expand.specs.Pieces.{piece_outs, pieces_outputs, template_halves, template_keyed, template_of, template_record, template_records}
use Rattle.rule_expand.specs.Sizes.{bytes_of, context_size, fixed_size, keyed_of, outs_size, pieces_size, record_size, records_size, sized_halves, sized_keyed, sized_places, sized_record, sizes_of, some_units}
use Rattle.rule_expand.proofs.RuleRecords.{all_records}

-- ---- the units of outputs and contexts

-- the bytes of a string are those of its count of units
bytes_of_string : (units : List ℕ) → length (string units) ≡ bytes_of (length units)
unfolding string
bytes_of_string [] = refl
bytes_of_string (unit ∷ units) =
    let test : eqb (suc (length units)) 0 ≡ false = ne_eqb (suc (length units)) 0 (omega arith) in
    rw test (omega (arith, length-append (unit_bytes (unit ∷ units)) (unit_bytes (0 ∷ [])), length-unit_bytes units))

-- the units of items are those of the first, and those of the others
one_and_more : (item : UnitItem) (items : List UnitItem) → length (item_units (item ∷ items)) ≡ length (item_units (item ∷ [])) + length (item_units items)
unfolding item_units
one_and_more item items =
    length-append (spelling item) (item_units items) ∙ ap (λ (n : ℕ). n + length (item_units items)) (sym (ap length (append-nil (spelling item))))

-- the units of an output are the sum of those of its items
outs_counted : (outs : List Out) → length (output_units outs) ≡ outs_size outs
unfolding item_units
outs_counted [] = refl
outs_counted (out ∷ outs) =
    one_and_more (unit_item_of_output out) (map unit_item_of_output outs) ∙ ap (λ (n : ℕ). length (output_units (out ∷ [])) + n) (outs_counted outs)

-- the units of a context are the sum of those of its items
context_counted : (items : List Pat) → length (pattern_units items) ≡ context_size items
unfolding item_units
context_counted [] = refl
context_counted (item ∷ items) =
    one_and_more (unit_item_of_pattern item) (map unit_item_of_pattern items) ∙ ap (λ (n : ℕ). length (pattern_units (item ∷ [])) + n) (context_counted items)

-- the units of two outputs, one after the other, are the sum of their units
outs_append : (outs more : List Out) → outs_size (outs ++ more) ≡ outs_size outs + outs_size more
outs_append [] more = omega arith
outs_append (out ∷ outs) more = omega (arith, outs_append outs more)

-- the units of the output of pieces are the sum of the units of the output of each
pieces_counted : (stores : List Store) (place : Option ℕ) (pieces : List Piece) → outs_size (flat_map (piece_outs stores place) pieces) ≡ pieces_size stores place pieces
pieces_counted stores place [] = refl
pieces_counted stores place (piece ∷ pieces) =
    outs_append (piece_outs stores place piece) (flat_map (piece_outs stores place) pieces) ∙ ap (λ (n : ℕ). outs_size (piece_outs stores place piece) + n) (pieces_counted stores place pieces)

-- a `nul` has two units
nul_units : length (output_units (output.Nul ∷ [])) ≡ 2
unfolding item_units
nul_units = refl

-- the units of an output, or of a `nul` if the output is empty, are counted by `some_units`
some_counted : (outs : List Out) → length (output_units (or_nul outs)) ≡ some_units (outs_size outs)
some_counted [] = nul_units
some_counted (out ∷ outs) =
    let count : length (output_units (out ∷ outs)) ≡ outs_size (out ∷ outs) = outs_counted (out ∷ outs) in
    let some : 0 < outs_size (out ∷ outs) = omega (arith, count, length-item_units (map unit_item_of_output (out ∷ outs))) in
    let test : eqb (outs_size (out ∷ outs)) 0 ≡ false = ne_eqb (outs_size (out ∷ outs)) 0 (omega (arith, some)) in
    rw test count

-- the units of pieces are those for every key, and those of the pieces that depend on the key
fixed_apart : (stores : List Store) (place : Option ℕ) (pieces : List Piece) → pieces_size stores place pieces ≡ fixed_size pieces + pieces_size stores place (flat_map keyed_of pieces)
fixed_apart stores place [] = refl
fixed_apart stores place (Fixed out ∷ pieces) = omega (arith, fixed_apart stores place pieces)
fixed_apart stores place (AtKey store ∷ pieces) = omega (arith, fixed_apart stores place pieces)

-- the bytes of the string of an output
output_counted : (stores : List Store) (place : Option ℕ) (pieces : List Piece)
    → length (string (output_units (pieces_outputs stores place pieces))) ≡ bytes_of (some_units (fixed_size pieces + pieces_size stores place (flat_map keyed_of pieces)))
output_counted stores place pieces =
    bytes_of_string (output_units (pieces_outputs stores place pieces))
    ∙ ap bytes_of (some_counted (flat_map (piece_outs stores place) pieces) ∙ ap some_units (pieces_counted stores place pieces ∙ fixed_apart stores place pieces))

-- the bytes of the string of a context
pub context_string : (items : List Pat) (size bytes : ℕ) → size ≡ context_size items → bytes ≡ bytes_of size → bytes ≡ length (string (pattern_units items))
context_string items size bytes counted is = is ∙ ap bytes_of (counted ∙ sym (context_counted items)) ∙ sym (bytes_of_string (pattern_units items))

-- ---- records

-- the size of two lists of records, one after the other, is the sum of their sizes
pub records_append : (rules more : List Rule) → records_size (rules ++ more) ≡ records_size rules + records_size more
records_append [] more = omega arith
records_append (rule ∷ rules) more = omega (arith, records_append rules more)

-- the size of a record is computed from the sizes of its template, whatever its key
record_counted : (stores : List Store) (template : Template) (place : Option ℕ) (half : ℕ) (wanted : RuleKey)
    → record_size (template_record stores template place half wanted) ≡ sized_record stores (sizes_of template) place
record_counted stores template place half wanted =
    let context : List ℕ = string (pattern_units template.context) in
    ap (λ (n : ℕ). RULE_BYTES + n) (length-append context (string (output_units (pieces_outputs stores place template.pieces))) ∙ ap (λ (n : ℕ). length context + n) (output_counted stores place template.pieces))

one_sum : (a size : ℕ) → a ≡ size → a + 0 ≡ size
one_sum a size e = omega (arith, e)

two_sum : (a b size : ℕ) → a ≡ size → b ≡ size → a + (b + 0) ≡ size + size
two_sum a b size e d = omega (arith, e, d)

-- the size of the records for a key is computed from the sizes of the template
halves_counted : (numbers : Numbers) (template : Template) (place : Option ℕ) (wanted : RuleKey)
    → records_size (template_halves numbers template place wanted) ≡ sized_halves numbers (sizes_of template) place wanted
halves_counted numbers template place wanted = by_test (has_halves numbers.cased wanted)
  where
    size : ℕ
    size = sized_record numbers.stores (sizes_of template) place

    record_at : ℕ → RuleKey → Rule
    record_at half own = template_record numbers.stores template place half own

    by_test : (halves : Bool)
        → records_size (if halves then record_at 0 (half_key 0 wanted) ∷ record_at 1 (half_key 1 wanted) ∷ [] else record_at 0 wanted ∷ [])
        ≡ (if halves then size + size else size)
    by_test true =
        two_sum (record_size (record_at 0 (half_key 0 wanted))) (record_size (record_at 1 (half_key 1 wanted))) size
        (record_counted numbers.stores template place 0 (half_key 0 wanted))
        (record_counted numbers.stores template place 1 (half_key 1 wanted))
    by_test false = one_sum (record_size (record_at 0 wanted)) size (record_counted numbers.stores template place 0 wanted)

-- the size of the records for the elements of a key store is computed from the sizes of the template
places_counted : (numbers : Numbers) (template : Template) (place : ℕ) (elements : List Element)
    → records_size (template_records numbers template place elements) ≡ sized_places numbers (sizes_of template) place elements
places_counted numbers template place [] = refl
places_counted numbers template place (e ∷ elements) =
    let wanted : RuleKey = unwrap_or (key_of_element e) key.Any in
    records_append (template_halves numbers template (Some place) wanted) (template_records numbers template (place + 1) elements)
    ∙ (λ i. halves_counted numbers template (Some place) wanted i + places_counted numbers template (place + 1) elements i)

-- the size of the records with a key is computed from the sizes of the template
keyed_counted : (numbers : Numbers) (template : Template) (wanted : Option SrcItem) → records_size (template_keyed numbers template wanted) ≡ sized_keyed numbers (sizes_of template) wanted
keyed_counted numbers template None = halves_counted numbers template None (own_key numbers None)
keyed_counted numbers template (Some (source.Any store)) = places_counted numbers template 0 (elements_named numbers.stores store)
keyed_counted numbers template (Some item) = halves_counted numbers template None (own_key numbers (Some item))

-- the size of the records of a rule is computed from the sizes of its template
pub rule_counted : (numbers : Numbers) (rule : RuleDef) (template : Template) (sizes : RuleSizes) (size : ℕ) → template ≡ template_of numbers rule → sizes ≡ sizes_of template
    → size ≡ sized_keyed numbers sizes rule.key → size ≡ records_size (rule_records numbers rule)
rule_counted numbers rule template sizes size made common is =
    is
    ∙ (λ i. sized_keyed numbers (common i) rule.key)
    ∙ (λ i. sized_keyed numbers (sizes_of (made i)) rule.key)
    ∙ sym (keyed_counted numbers (template_of numbers rule) rule.key)
    ∙ ap records_size (all_records numbers rule)
