-- Earlier records that cover a record at all places but one: only these can cover it once that place is narrowed.
use Rattle.std.specs.Prelude.{ℕ, ◌+◌, ◌-◌, Bool, true, false, not, ◌||◌, nat_eq, nat_le, if◌then◌else◌, List, [], ◌∷◌, length, take, drop, Option, Some, None}
use Rattle.rule_model.specs.declared.tables.Pat.{Pat}
use Rattle.rule_model.specs.declared.tables.Pat.TheVariants as pattern
use Rattle.rule_model.specs.declared.tables.Rule.{Rule}
use Rattle.rule_model.specs.declared.tables.Group.{Group}
use Rattle.rule_model.specs.declared.tables.Tables.{Tables}
use Rattle.rule_shadow.specs.declared.cert.Place.{Place}
use Rattle.rule_shadow.specs.declared.near.Miss.{Miss}
use Rattle.rule_shadow.specs.declared.near.Miss.TheVariants as miss
use Rattle.rule_shadow.specs.declared.near.Near.{Near}
use Rattle.rule_shadow.specs.Keys.{covers_key}
use Rattle.rule_shadow.specs.Places.{patterns_of, places_from}
use Rattle.rule_shadow.specs.Covers.{covers_place, nothing_narrowed}

-- whether a pattern has the range of another place: whether it is a `context` item
abbrev pub hands_on : Pat → Bool
hands_on (pattern.ContextAt offset) = true
hands_on p = false

-- the places, counted from a number on, that the patterns don't cover, without the places of `context` items
abbrev pub missed_from : Tables → ℕ → List Pat → List Place → List ℕ
missed_from tables from [] places = []
missed_from tables from (p ∷ ps) [] = []
missed_from tables from (p ∷ ps) (place ∷ places) =
    if hands_on place.pattern || covers_place tables p place
    then missed_from tables (from + 1) ps places
    else from ∷ missed_from tables (from + 1) ps places

abbrev pub miss_of : List ℕ → Miss
miss_of [] = miss.Nowhere
miss_of (place ∷ []) = miss.At place
miss_of (place ∷ other ∷ places) = miss.Several

-- which of the last places the patterns don't cover
abbrev pub missed_last : Tables → List Pat → List Place → Miss
missed_last tables ps places =
    if nat_le (length ps) (length places)
    then miss_of (missed_from tables (length places - length ps) ps (drop (length places - length ps) places))
    else miss.Several

-- which places of record `r` record `q` does not cover; `Several` if its key does not cover the key of `r`
abbrev pub miss_by : Tables → Bool → List Place → Rule → Rule → Miss
miss_by tables using_keys places r q =
    if not using_keys || covers_key q.key r.key then missed_last tables (patterns_of q.context) places else miss.Several

abbrev pub is_several : Miss → Bool
is_several miss.Several = true
is_several m = false

-- whether no place but this one is missed
abbrev pub is_at_most : ℕ → Miss → Bool
is_at_most place miss.Nowhere = true
is_at_most place (miss.At other) = nat_eq other place
is_at_most place miss.Several = false

-- the records, counted from a number on, that miss at most one place
abbrev pub near_rules : (Rule → Miss) → ℕ → List Rule → List Near
near_rules missed from [] = []
near_rules missed from (q ∷ rules) =
    if is_several (missed q) then near_rules missed (from + 1) rules else record { rule = from; miss = missed q } ∷ near_rules missed (from + 1) rules

-- the earlier records that miss at most one place of a record
abbrev pub near_before : Tables → Group → ℕ → Rule → List Near
near_before tables group number r =
    near_rules (miss_by tables group.using_keys (places_from tables nothing_narrowed [] r.context) r) 0 (take number group.rules)

-- the number of the first near record that passes
abbrev pub first_near : (Near → Bool) → List Near → Option ℕ
first_near passes [] = None
first_near passes (near ∷ rest) = if passes near then Some near.rule else first_near passes rest
