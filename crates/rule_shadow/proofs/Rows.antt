-- The parts of a certificate in a list.
use mathlib.Core.Former.{Count}
use Rattle.std.proofs.Common.{◌≡◌, ℕ, zero, suc, ◌≤◌, false, Vec, Global, List, [], ◌∷◌, length, drop, map, Some, refl, sym, ap, ◌∙◌, arith}
use Rattle.std.specs.Prelude.{◌&&◌, nat_eq, filter_map}
use Rattle.std.proofs.lemmas.Bool.Decides.{nat_tests}
use Rattle.std.proofs.Math.ListN.{drop_of_length-le}
use Rattle.kmn_base.specs.declared.items.Element.{Element}
use Rattle.rule_model.specs.Match.{item_of}
use Rattle.kmn_base.specs.declared.items.Item.{Item}
use Rattle.rule_model.specs.declared.tables.Rule.{Rule}
use Rattle.rule_model.specs.declared.tables.Group.{Group}
use Rattle.rule_model.specs.declared.tables.Tables.{Tables}
use Rattle.rule_shadow.specs.declared.cert.Cert.{Cert, By, Split, Split', Row_of-Cert, end_of-Cert, more_of-Cert, items-the_row-Cert, items_hidden-the_row-Cert-0}
use Rattle.rule_shadow.specs.declared.finding.Found.TheVariants as found
use Rattle.rule_shadow.specs.Places.{Narrowing}
use Rattle.rule_shadow.specs.Finding.{IsBy, AreBy, Says}
use Rattle.rule_shadow.specs.Covers.{items_at, narrowed, covers_under, covers_parts, covers_list}

pub covers_row : (tables : Tables) (group : Group) (number : ℕ) (r : Rule) (narrowing : Narrowing) (place : ℕ) (items : List Item) (m : _) (parts : Row_of-Cert m) →
    covers_parts tables group number r narrowing place (Some items) parts ≡ covers_list tables group number r narrowing place items (items-the_row-Cert m parts)
covers_row tables group number r narrowing place [] m end_of-Cert = refl
covers_row tables group number r narrowing place (x ∷ xs) m end_of-Cert = refl
covers_row tables group number r narrowing place [] m (more_of-Cert part parts) = refl
covers_row tables group number r narrowing place (x ∷ xs) m (more_of-Cert part parts) =
    ap (λ b. covers_under tables group number r (narrowed narrowing place x) part && b) (covers_row tables group number r narrowing place xs _ parts)

module _ (tables : Tables) (group : Group) (number : ℕ) (r : Rule) (narrowing : Narrowing) (place : ℕ) where
  -- if no items are left, a certificate is valid exactly where no parts are left
  parts_ended : (parts : List Cert) (next : ℕ) → next ≤ length parts → covers_list tables group number r narrowing place [] (drop next parts) ≡ nat_eq next (length parts)
  parts_ended [] zero h = refl
  parts_ended [] (suc next) h = absurd (omega (arith, h))
  parts_ended (part ∷ parts) zero h = let n : false ≡ nat_eq 0 (suc (length parts)) = grind (arith, nat_tests) in n
  parts_ended (part ∷ parts) (suc next) h = parts_ended parts next (omega (arith, h)) ∙ (let n : nat_eq next (length parts) ≡ nat_eq (suc next) (suc (length parts)) = grind (arith, nat_tests) in n)

  pub walk_ended : (elements : List Element) (parts : List Cert) (next i : ℕ) → length elements ≤ i
      → covers_list tables group number r narrowing place (filter_map item_of (drop i elements)) (drop next parts) ≡ covers_list tables group number r narrowing place (filter_map item_of elements) parts
      → next ≤ length parts → nat_eq next (length parts) ≡ covers_list tables group number r narrowing place (filter_map item_of elements) parts
  walk_ended elements parts next i past same h =
      sym (parts_ended parts next h)
      ∙ ((λ j. covers_list tables group number r narrowing place (filter_map item_of (sym (drop_of_length-le elements {i = i} past) j)) (drop next parts)) ∙ same)

abbrev row_of : Cert → (n : Count) × Row_of-Cert n
row_of (Split' place _ row) = (_, row)
row_of _ = (_, end_of-Cert)

-- a certificate that splits is valid exactly where its parts in a list cover the items
pub covers_split : (tables : Tables) (group : Group) (number : ℕ) (r : Rule) (narrowing : Narrowing) (place : ℕ) (parts : Vec Cert Global) (items : List Item) →
    items_at tables r narrowing place ≡ Some items → covers_under tables group number r narrowing (Split place parts) ≡ covers_list tables group number r narrowing place items parts.items
covers_split tables group number r narrowing place parts items e =
    let row = row_of (Split place parts) in
    ap (λ o. covers_parts tables group number r narrowing place o row.1) e
    ∙ (covers_row tables group number r narrowing place items row.0 row.1
    ∙ ap (covers_list tables group number r narrowing place items) (items_hidden-the_row-Cert-0 parts))

-- parts that are `By` with records, one by one
one_by : (q : ℕ) (part : Cert) → part ≡ By q → IsBy q part
one_by q (By p) e = cc
one_by q (Split' place shape parts) e = cc

all_by : (n : _) (row : Row_of-Cert n) (qs : List ℕ) → items-the_row-Cert n row ≡ map By qs → AreBy qs row
all_by n end_of-Cert [] e = tt
all_by n end_of-Cert (q ∷ qs) e = cc
all_by n (more_of-Cert part parts) [] e = cc
all_by n (more_of-Cert part parts) (q ∷ qs) e = (one_by q part cc, all_by _ parts qs cc)

-- a certificate that splits at a place by records states that `SplitAt` was found
pub split_says : (place : ℕ) (parts : Vec Cert Global) (rules : List ℕ) → parts.items ≡ map By rules → Says (found.SplitAt place rules) (Some (Split place parts))
split_says place parts rules e =
    let row = row_of (Split place parts) in
    (refl, all_by row.0 row.1 rules (items_hidden-the_row-Cert-0 parts ∙ e))
