-- The certificate that the search returns, as plain numbers.
use Rattle.std.specs.Prelude.{◌≡◌, ℕ, ◌+◌, if◌then◌else◌, List, [], ◌∷◌, ◌++◌, take, slice_get, Option, Some, None, option_and_then}
use Rattle.std.specs.List.{position_from}
use Rattle.kmn_base.specs.declared.items.Item.{Item}
use Rattle.rule_model.specs.declared.tables.Pat.{Pat}
use Rattle.rule_model.specs.declared.tables.Rule.{Rule}
use Rattle.rule_model.specs.declared.tables.Group.{Group}
use Rattle.rule_model.specs.declared.tables.Tables.{Tables}
use Rattle.rule_model.specs.Patterns.{is_matched}
use Rattle.rule_shadow.specs.declared.finding.Found.{Found}
use Rattle.rule_shadow.specs.declared.finding.Found.TheVariants as finding
use Rattle.rule_shadow.specs.declared.cert.Cert.{Cert, By, Split', Row_of-Cert, end_of-Cert, more_of-Cert}
use Rattle.rule_shadow.specs.Places.{Narrowing, places_from}
use Rattle.rule_shadow.specs.Covers.{covers_rule, items_at, narrowed, nothing_narrowed}

-- the lowest number of an earlier record that covers a record under a narrowing
abbrev pub least_by : Tables → Group → ℕ → Rule → Narrowing → Option ℕ
least_by tables group number r narrowing =
    position_from (λ q. covers_rule tables group.using_keys (places_from tables narrowing [] r.context) q r) 0 (take number group.rules)

-- what `rest` finds once the next least record is appended to `seen`; `None` if there is no such record
abbrev pub least_then : Option ℕ → (List ℕ → Option (List ℕ)) → List ℕ → Option (List ℕ)
least_then None rest seen = None
least_then (Some q) rest seen = rest (seen ++ q ∷ [])

-- the least record for each item to which a place is narrowed, after the records in `seen`; `None` if an item has no such record
abbrev pub least_onto : Tables → Group → ℕ → Rule → ℕ → List Item → List ℕ → Option (List ℕ)
least_onto tables group number r place [] seen = Some seen
least_onto tables group number r place (x ∷ xs) seen =
    least_then (least_by tables group number r (narrowed nothing_narrowed place x)) (least_onto tables group number r place xs) seen

-- the least records by which a record splits at a place
abbrev pub split_rules : Tables → Group → ℕ → Rule → ℕ → Option (List ℕ)
split_rules tables group number r place =
    option_and_then (λ items. least_onto tables group number r place items []) (items_at tables r nothing_narrowed place)

abbrev pub split_or : Option (List ℕ) → ℕ → Found → Found
split_or None place other = other
split_or (Some rules) place other = finding.SplitAt place rules

-- the first place, from one on, at which a record splits
abbrev pub first_split : Tables → Group → ℕ → Rule → ℕ → List Pat → Found
first_split tables group number r place [] = finding.NotFound
first_split tables group number r place (p ∷ ps) =
    if is_matched p
    then split_or (split_rules tables group number r place) place (first_split tables group number r (place + 1) ps)
    else first_split tables group number r place ps

abbrev pub by_or : Option ℕ → Found → Found
by_or None other = other
by_or (Some q) other = finding.ByRule q

-- the least record that covers a record, or if there is none, the first place at which it splits by least records
abbrev pub found_for : Tables → Group → ℕ → Rule → Found
found_for tables group number r = by_or (least_by tables group number r nothing_narrowed) (first_split tables group number r 0 r.context)

-- what is found for an optional record, and (`found_in`) for the record of a number in an optional group
abbrev pub found_if_any : Tables → Group → ℕ → Option Rule → Found
found_if_any tables group number None = finding.NotFound
found_if_any tables group number (Some r) = found_for tables group number r

abbrev pub found_in : Tables → Option Group → ℕ → Found
found_in tables None number = finding.NotFound
found_in tables (Some group) number = found_if_any tables group number (slice_get group.rules number)

-- what is found for the record of a number in the group of a number
abbrev pub found : Tables → ℕ → ℕ → Found
found tables group number = found_in tables (slice_get tables.groups group) number

-- a part is `By` with a record
abbrev pub IsBy : ℕ → Cert → Type 0
IsBy q (By p) = p ≡ q
IsBy q (Split' place shape parts) = ⊥

-- parts are `By` with these records, in order
abbrev pub AreBy : {m : _} → List ℕ → Row_of-Cert m → Type 0
AreBy [] end_of-Cert = Unit {0}
AreBy [] (more_of-Cert part parts) = ⊥
AreBy (q ∷ qs) end_of-Cert = ⊥
AreBy (q ∷ qs) (more_of-Cert part parts) = IsBy q part × AreBy qs parts

-- a certificate states what was found
abbrev pub Tells : Found → Cert → Type 0
Tells finding.NotFound cert = ⊥
Tells (finding.ByRule q) (By p) = p ≡ q
Tells (finding.ByRule q) (Split' place shape parts) = ⊥
Tells (finding.SplitAt k qs) (By p) = ⊥
Tells (finding.SplitAt k qs) (Split' place shape parts) = (place ≡ k) × AreBy qs parts

abbrev pub Says : Found → Option Cert → Type 0
Says finding.NotFound None = Unit {0}
Says f None = ⊥
Says f (Some cert) = Tells f cert
