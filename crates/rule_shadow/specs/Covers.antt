-- What a certificate proves: whenever a record holds, an earlier record of its group holds too.
use Rattle.std.specs.Prelude.{ℕ, ◌-◌, Bool, true, false, not, ◌&&◌, ◌||◌, is_some, nat_eq, nat_lt, nat_le, if◌then◌else◌, List, [], ◌∷◌, length, drop, replicate, slice_get, slice_set, Option, Some, None}
use Rattle.std.specs.Option.{option_flatten}
use Rattle.std.specs.List.{list_all, list_any}
use Rattle.kmn_base.specs.declared.limits.TheConstants.{CONTEXT_ITEMS}
use Rattle.kmn_base.specs.declared.items.Item.{Item}
use Rattle.kmn_base.specs.declared.items.Element.TheVariants as element
use Rattle.rule_model.specs.declared.tables.Pat.{Pat}
use Rattle.rule_model.specs.declared.tables.Pat.TheVariants as pattern
use Rattle.rule_model.specs.declared.tables.Rule.{Rule}
use Rattle.rule_model.specs.declared.tables.Group.{Group}
use Rattle.rule_model.specs.declared.tables.Tables.{Tables}
use Rattle.rule_model.specs.Match.{is_item, same_value, place_of}
use Rattle.rule_model.specs.Tab.{elements_of}
use Rattle.rule_shadow.specs.declared.cert.Range.{Range}
use Rattle.rule_shadow.specs.declared.cert.Range.TheVariants as range
use Rattle.rule_shadow.specs.declared.cert.Place.{Place}
use Rattle.rule_shadow.specs.declared.cert.Cert.{Cert, By, Split', Row_of-Cert, end_of-Cert, more_of-Cert}
use Rattle.rule_shadow.specs.Keys.{covers_key}
use Rattle.rule_shadow.specs.Places.{Narrowing, is_fixed, items_of, patterns_of, places_from}

-- whether a pattern matches an item in every state
abbrev pub covers_item : Tables → Pat → Item → Bool
covers_item tables (pattern.Char c) x = is_item x (element.Char c)
covers_item tables (pattern.Mark m) x = is_item x (element.Mark m)
covers_item tables (pattern.Any store) x = is_fixed tables store && is_some (place_of x (elements_of tables.stores store))
covers_item tables (pattern.NotAny store) x = is_fixed tables store && not (is_some (place_of x (elements_of tables.stores store)))
covers_item tables p x = false

-- whether a pattern matches each item of a range, which may have no items
abbrev pub covers_range : Tables → Pat → Range → Bool
covers_range tables p (range.One x) = covers_item tables p x
covers_range tables p (range.Store store) = list_all (covers_item tables p) (items_of tables store)
covers_range tables p range.Unknown = false

-- whether two patterns are both `any` or both `notany` of one store
abbrev pub same_store : Pat → Pat → Bool
same_store (pattern.Any a) (pattern.Any b) = nat_eq a b
same_store (pattern.NotAny a) (pattern.NotAny b) = nat_eq a b
same_store p q = false

abbrev pub covers_place : Tables → Pat → Place → Bool
covers_place tables p place = same_store p place.pattern || covers_range tables p place.range

-- whether each pattern covers the place with its number
abbrev pub cover_each : Tables → List Pat → List Place → Bool
cover_each tables [] places = true
cover_each tables (p ∷ ps) [] = false
cover_each tables (p ∷ ps) (place ∷ places) = covers_place tables p place && cover_each tables ps places

-- whether the patterns cover the last places, one by one
abbrev pub cover_last : Tables → List Pat → List Place → Bool
cover_last tables ps places = nat_le (length ps) (length places) && cover_each tables ps (drop (length places - length ps) places)

-- whether two conditions are the same: one option or system id, one comparison, and equal values
abbrev pub same_condition : Tables → Pat → Pat → Bool
same_condition tables (pattern.Equal a v) (pattern.Equal b w) = nat_eq a b && same_value (elements_of tables.stores v) (elements_of tables.stores w)
same_condition tables (pattern.Unequal a v) (pattern.Unequal b w) = nat_eq a b && same_value (elements_of tables.stores v) (elements_of tables.stores w)
same_condition tables (pattern.SystemEqual a v) (pattern.SystemEqual b w) = nat_eq a b && same_value (elements_of tables.stores v) (elements_of tables.stores w)
same_condition tables (pattern.SystemUnequal a v) (pattern.SystemUnequal b w) = nat_eq a b && same_value (elements_of tables.stores v) (elements_of tables.stores w)
same_condition tables p q = false

-- whether an item is not a condition, or a context has the same condition
abbrev pub is_condition_of : Tables → List Pat → Pat → Bool
is_condition_of tables context (pattern.Equal a v) = list_any (same_condition tables (pattern.Equal a v)) context
is_condition_of tables context (pattern.Unequal a v) = list_any (same_condition tables (pattern.Unequal a v)) context
is_condition_of tables context (pattern.SystemEqual a v) = list_any (same_condition tables (pattern.SystemEqual a v)) context
is_condition_of tables context (pattern.SystemUnequal a v) = list_any (same_condition tables (pattern.SystemUnequal a v)) context
is_condition_of tables context p = true

abbrev pub is_nul : Pat → Bool
is_nul pattern.Nul = true
is_nul p = false

-- whether the first context has no `nul`, or the second has one too and as many patterns
abbrev pub keeps_nul : List Pat → List Pat → Bool
keeps_nul a b = not (list_any is_nul a) || (list_any is_nul b && nat_eq (length (patterns_of a)) (length (patterns_of b)))

-- whether record `q` covers record `r`, whose places have these ranges: `q` holds whenever `r` holds
abbrev pub covers_rule : Tables → Bool → List Place → Rule → Rule → Bool
covers_rule tables using_keys places q r =
    cover_last tables (patterns_of q.context) places
    && (list_all (is_condition_of tables r.context) q.context
    && (keeps_nul q.context r.context && (not using_keys || covers_key q.key r.key)))

abbrev pub covers_if_any : Tables → Bool → List Place → Rule → Option Rule → Bool
covers_if_any tables using_keys places r None = false
covers_if_any tables using_keys places r (Some q) = covers_rule tables using_keys places q r

-- whether the record `by` is earlier and covers a record under a narrowing
abbrev pub covers_by : Tables → Group → ℕ → Rule → Narrowing → ℕ → Bool
covers_by tables group number r narrowing by =
    nat_lt by number && covers_if_any tables group.using_keys (places_from tables narrowing [] r.context) r (slice_get group.rules by)

-- the items of the store of an `any`, if the store is not an option and the place is not narrowed
abbrev pub split_items : Tables → Option Item → Option Pat → Option (List Item)
split_items tables None (Some (pattern.Any store)) = if is_fixed tables store then Some (items_of tables store) else None
split_items tables given p = None

-- the items that a certificate that splits at this place needs a part for
abbrev pub items_at : Tables → Rule → Narrowing → ℕ → Option (List Item)
items_at tables r narrowing place = split_items tables (option_flatten (slice_get narrowing place)) (slice_get (patterns_of r.context) place)

-- a narrowing that also restricts a place to an item
abbrev pub narrowed : Narrowing → ℕ → Item → Narrowing
narrowed narrowing place x = slice_set narrowing place (Some x)

abbrev mutual
  -- whether a certificate is valid for a record under a narrowing
  pub covers_under : Tables → Group → ℕ → Rule → Narrowing → Cert → Bool
  covers_under tables group number r narrowing (By by) = covers_by tables group number r narrowing by
  covers_under tables group number r narrowing (Split' place shape parts) = covers_parts tables group number r narrowing place (items_at tables r narrowing place) parts

  -- whether there is a part for each item, in order, and each part is valid with the place narrowed to its item
  pub covers_parts : {m : _} → Tables → Group → ℕ → Rule → Narrowing → ℕ → Option (List Item) → Row_of-Cert m → Bool
  covers_parts tables group number r narrowing place None parts = false
  covers_parts tables group number r narrowing place (Some []) end_of-Cert = true
  covers_parts tables group number r narrowing place (Some (x ∷ xs)) end_of-Cert = false
  covers_parts tables group number r narrowing place (Some []) (more_of-Cert part parts) = false
  covers_parts tables group number r narrowing place (Some (x ∷ xs)) (more_of-Cert part parts) =
      covers_under tables group number r (narrowed narrowing place x) part && covers_parts tables group number r narrowing place (Some xs) parts

-- the definition of `covers_parts` for parts in a list, over which the code iterates
abbrev pub covers_list : Tables → Group → ℕ → Rule → Narrowing → ℕ → List Item → List Cert → Bool
covers_list tables group number r narrowing place [] [] = true
covers_list tables group number r narrowing place [] (part ∷ parts) = false
covers_list tables group number r narrowing place (x ∷ xs) [] = false
covers_list tables group number r narrowing place (x ∷ xs) (part ∷ parts) =
    covers_under tables group number r (narrowed narrowing place x) part && covers_list tables group number r narrowing place xs parts

-- the narrowing that restricts no place
abbrev pub nothing_narrowed : Narrowing
nothing_narrowed = replicate CONTEXT_ITEMS None

abbrev pub covers_record : Tables → Group → ℕ → Option Rule → Cert → Bool
covers_record tables group number None cert = false
covers_record tables group number (Some r) cert = covers_under tables group number r nothing_narrowed cert

abbrev pub covers_in : Tables → Option Group → ℕ → Cert → Bool
covers_in tables None number cert = false
covers_in tables (Some group) number cert = covers_record tables group number (slice_get group.rules number) cert

-- whether a certificate is valid for the record of a number in the group of a number
abbrev pub covers : Tables → ℕ → ℕ → Cert → Bool
covers tables group number cert = covers_in tables (slice_get tables.groups group) number cert
