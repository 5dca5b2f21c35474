-- The output of the pieces of an output is the output of the record.
use Rattle.std.proofs.Common.{◌≡◌, ℕ, ◌+◌, ◌<◌, Bool, true, false, nat_eq, List, [], ◌∷◌, ◌++◌, append-nil, append_assoc, length, map, take, get_or, Option, refl, sym, ap, ◌∙◌, if◌then◌else◌}
use Rattle.std.specs.Prelude.{flat_map}
use Rattle.std.proofs.lemmas.Grind.{flat_map-append}
use Rattle.std.proofs.lemmas.List.{map-append, take_more}
use Rattle.kmn_base.specs.declared.items.Element.{Element}
use Rattle.rule_model.specs.declared.program.SrcItem.{SrcItem}
use Rattle.rule_model.specs.declared.program.SrcItem.TheVariants as source
use Rattle.rule_model.specs.declared.tables.Out.{Out}
use Rattle.rule_model.specs.declared.tables.Out.TheVariants as output
use Rattle.rule_model.specs.declared.tables.Store.{Store}
use Rattle.rule_model.specs.Match.{element_at}
use Rattle.rule_model.specs.Naming.{elements_named}
use Rattle.compile_laws.specs.Numbers.{Numbers, number_of_store}
use Rattle.compile_laws.specs.Compiles.{element_outs, element_outs_if_any, file_output, file_outputs, or_nul}
use Rattle.rule_expand.specs.declared.pieces.Piece.{Piece}
use Rattle.rule_expand.specs.declared.pieces.Piece.TheVariants.{Fixed, AtKey}
use Rattle.rule_expand.specs.Lookups.{place_of_store, elements_at}
use Rattle.rule_expand.specs.Pieces.{item_pieces, piece_outs, pieces_outputs}
use Rattle.rule_expand.proofs.NumberLaws.{place_elements}

fixed_put : (stores : List Store) (place : Option ℕ) (outs : List Out) → flat_map (piece_outs stores place) (map Fixed outs) ≡ outs
fixed_put stores place [] = refl
fixed_put stores place (out ∷ outs) = ap (λ rest. out ∷ rest) (fixed_put stores place outs)

index_put : (numbers : Numbers) (count : ℕ) (place : Option ℕ) (store : List ℕ) (offset : ℕ) (at_key : Bool)
    → piece_outs numbers.stores place (if at_key then AtKey (place_of_store numbers.stores store) else Fixed (output.Index (number_of_store numbers store) offset)) ++ []
    ≡ (if at_key then element_outs_if_any (element_at (elements_named numbers.stores store) place) else output.Index (number_of_store numbers store) offset ∷ [])
index_put numbers count place store offset true =
    append-nil (element_outs_if_any (element_at (elements_at numbers.stores (place_of_store numbers.stores store)) place))
    ∙ ap (λ elements. element_outs_if_any (element_at elements place)) (place_elements numbers.stores store)
index_put numbers count place store offset false = refl

-- the output of the pieces of an item is the output of the item
item_put : (numbers : Numbers) (count : ℕ) (place : Option ℕ) (item : SrcItem) → flat_map (piece_outs numbers.stores place) (item_pieces numbers count item) ≡ file_output numbers count place item
item_put numbers count place (source.Char c) = refl
item_put numbers count place (source.Dead name) = refl
item_put numbers count place (source.Key key) = refl
item_put numbers count place (source.Any store) = refl
item_put numbers count place (source.NotAny store) = refl
item_put numbers count place (source.Index store offset) = index_put numbers count place store offset (nat_eq offset (count + 1))
item_put numbers count place source.Context = refl
item_put numbers count place (source.ContextAt offset) = refl
item_put numbers count place (source.Equal store value) = refl
item_put numbers count place (source.Unequal store value) = refl
item_put numbers count place (source.SystemEqual id value) = refl
item_put numbers count place (source.SystemUnequal id value) = refl
item_put numbers count place source.Nul = refl
item_put numbers count place (source.Outs store) = fixed_put numbers.stores place (flat_map element_outs (elements_named numbers.stores store))
item_put numbers count place (source.Enter group) = refl
item_put numbers count place (source.Set store value) = refl
item_put numbers count place (source.SetSystem id value) = refl
item_put numbers count place (source.Save store) = refl
item_put numbers count place (source.Reset store) = refl
item_put numbers count place source.Beep = refl
item_put numbers count place source.Stop = refl
item_put numbers count place (source.Call name) = refl
item_put numbers count place source.OutOfProfile = refl

items_put : (numbers : Numbers) (count : ℕ) (place : Option ℕ) (items : List SrcItem)
    → flat_map (piece_outs numbers.stores place) (flat_map (item_pieces numbers count) items) ≡ flat_map (file_output numbers count place) items
items_put numbers count place [] = refl
items_put numbers count place (item ∷ items) =
    flat_map-append (piece_outs numbers.stores place) (item_pieces numbers count item) (flat_map (item_pieces numbers count) items)
    ∙ (λ j. item_put numbers count place item j ++ items_put numbers count place items j)

-- the output of the pieces of an output is the output of the record
pub pieces_put : (numbers : Numbers) (count : ℕ) (place : Option ℕ) (items : List SrcItem)
    → pieces_outputs numbers.stores place (flat_map (item_pieces numbers count) items) ≡ file_outputs numbers count place items
pieces_put numbers count place items = ap or_nul (items_put numbers count place items)

-- appending the output of the element at an index extends the output of the elements before it
pub elements_more : (pieces : List Piece) (elements : List Element) (i : ℕ) (e : Element) → i < length elements → e ≡ get_or elements i e
    → (pieces ++ map Fixed (flat_map element_outs (take i elements))) ++ map Fixed (element_outs e) ≡ pieces ++ map Fixed (flat_map element_outs (take (i + 1) elements))
elements_more pieces elements i e h is =
    let more : take (i + 1) elements ≡ take i elements ++ e ∷ [] = take_more elements i e h ∙ ap (λ x. take i elements ++ x ∷ []) (sym is) in
    append_assoc pieces (map Fixed (flat_map element_outs (take i elements))) (map Fixed (element_outs e))
    ∙ ap (λ ps. pieces ++ ps)
    (sym (map-append Fixed (flat_map element_outs (take i elements)) (element_outs e))
    ∙ ap (map Fixed)
    (ap (λ outs. flat_map element_outs (take i elements) ++ outs) (sym (append-nil (element_outs e)))
    ∙ sym (flat_map-append element_outs (take i elements) (e ∷ []))
    ∙ ap (flat_map element_outs) (sym more)))
