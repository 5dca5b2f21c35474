-- What an event can queue, and the units that it can have spent, when it enters a group: by the group that enters it.
use Rattle.std.specs.Prelude.{◌≡◌, ℕ, zero, suc, ◌+◌, ◌<◌, ◌≤◌, ◌⊎◌, min, max, Bool, true, false, ◌||◌, nat_eq, if◌then◌else◌, List, [], ◌∷◌, length, map, flat_map, slice_get, slice_set, sum_by, unwrap_or, option_map, Option, Some, None}
use Rattle.std.specs.List.{fold}
use Rattle.std.proofs.Common.{refl, sym, ap, ◌∙◌, arith, inl, inr, length-set}
use Rattle.std.proofs.Math.Path.{subst}
use Rattle.std.proofs.lemmas.List.{length-replicate}
use Rattle.std.proofs.lemmas.Option.{none-some, same_Some, slice_get-map}
use Rattle.kmn_base.specs.Rising.{is_among}
use Rattle.rule_model.specs.declared.tables.Out.{Out}
use Rattle.rule_model.specs.declared.tables.Out.TheVariants as output
use Rattle.rule_model.specs.declared.tables.Rule.{Rule}
use Rattle.rule_model.specs.declared.tables.Group.{Group}
use Rattle.core_constructs.specs.declared.facts.Facts.{Facts}
use Rattle.core_constructs.specs.Marks.{group_items}
use Rattle.core_constructs.specs.Outputs.{ends, live}
use Rattle.core_constructs.specs.Queued.{chain_effects, effects_within, entered_effects, group_effects, item_effects, rule_effects, with_effects}
use Rattle.core_constructs.specs.Reached.{entered}
use Rattle.core_constructs.specs.Spent.{after_group, after_match, after_number, after_rule, after_some, raised, raised_by, spent_after, spent_by, spent_within}
use Rattle.core_constructs.proofs.Depths.{spent_none, spent_more, effects_more}
use Rattle.core_laws.proofs.Items.{AllOf}
use Rattle.core_laws.proofs.Rising.{among_both, equal_numbers, same_number}
use Rattle.core_laws.proofs.Values.{get_set_other}

false_true : false ≡ true → ⊥
false_true e = grind arith

-- ---- maxima

-- a maximum is at least what it begins with, and each number
max_from : (ns : List ℕ) (base : ℕ) → base ≤ fold max base ns
max_from [] base = omega arith
max_from (n ∷ ns) base = omega (arith, max_from ns (max base n))

max_at : {A : Type 0} (f : A → ℕ) (xs : List A) (base place : ℕ) (x : A) → slice_get xs place ≡ Some x → f x ≤ fold max base (map f xs)
max_at f [] base place x listed = absurd (none-some x listed)
max_at f (y ∷ xs) base zero x listed =
    let same : f y ≡ f x = ap f (same_Some y x listed) in
    omega (arith, same, max_from (map f xs) (max base (f y)))
max_at f (y ∷ xs) base (suc place) x listed = max_at f xs (max base (f y)) place x listed

-- each item of a list is below the maximum of the list
below_max : (f : Out → ℕ) (items : List Out) (base : ℕ) → AllOf (λ (item : Out). f item ≤ fold max base (map f items)) items
below_max f [] base = tt
below_max f (item ∷ items) base = (omega (arith, max_from (map f items) (max base (f item))), below_max f items (max base (f item)))

-- ---- effects

abbrev pub number_at : List ℕ → ℕ → ℕ
number_at units g = unwrap_or (slice_get units g) 0

-- the effects of a group at one more depth are its own and the most of a group that it enters
pub record Chain (queued d : ℕ) (groups : List Group) (group : Group) : Type 0 where
  pub most : ℕ
  pub fits : queued + group_effects group + most ≤ 1024
  pub entered : AllOf (λ (item : Out). entered_effects (effects_within d groups) item ≤ most) (group_items group)

pub chain_of : (queued d : ℕ) (groups : List Group) (g : ℕ) (group : Group) → slice_get groups g ≡ Some group → queued + number_at (effects_within (d + 1) groups) g ≤ 1024 → Chain queued d groups group
chain_of queued d groups g group listed room =
    record {
      most = most;
      fits = by_min queued (group_effects group) most (number_at (effects_within (d + 1) groups) g) is room;
      entered = below_max (entered_effects (effects_within d groups)) (group_items group) 0;
    }
  where
    most : ℕ
    most = fold max 0 (map (entered_effects (effects_within d groups)) (group_items group))

    is : number_at (effects_within (d + 1) groups) g ≡ min 1025 (group_effects group + most)
    is =
        ap (λ (all : List ℕ). number_at all g) (effects_more d groups)
        ∙ ap (λ (o : Option ℕ). unwrap_or o 0) (slice_get-map (chain_effects (effects_within d groups)) groups g ∙ ap (option_map (chain_effects (effects_within d groups))) listed)

    by_min : (n a b m : ℕ) → m ≡ min 1025 (a + b) → n + m ≤ 1024 → n + a + b ≤ 1024
    by_min n a b m e h = omega (arith, e, h)

-- an item that enters a group is counted with the effects of the group
pub entered_most : (effects : List ℕ) (most h : ℕ) (items : List Out) → AllOf (λ (item : Out). entered_effects effects item ≤ most) items → is_among h (flat_map entered items) ≡ true → number_at effects h ≤ most
entered_most effects most h [] all among = absurd (false_true among)
entered_most effects most h (item ∷ items) all among = by_item item all.0 (sym (among_both h (entered item) (flat_map entered items)) ∙ among) (entered_most effects most h items all.1)
  where
    by_item : (item : Out) → entered_effects effects item ≤ most → (is_among h (entered item) || is_among h (flat_map entered items)) ≡ true → (is_among h (flat_map entered items) ≡ true → number_at effects h ≤ most) → number_at effects h ≤ most
    by_item (output.Enter g) less among rest = by_test (nat_eq h g) refl among
      where
        by_test : (b : Bool) → nat_eq h g ≡ b → ((b || false) || is_among h (flat_map entered items)) ≡ true → number_at effects h ≤ most
        by_test true is among = subst (λ (m : ℕ). number_at effects m ≤ most) (sym (equal_numbers h g is)) less
        by_test false is among = rest among
    by_item (output.Char c) less among rest = rest among
    by_item (output.Mark m) less among rest = rest among
    by_item (output.Index s k) less among rest = rest among
    by_item output.Context less among rest = rest among
    by_item (output.ContextAt k) less among rest = rest among
    by_item (output.Set s v) less among rest = rest among
    by_item (output.SetSystem s v) less among rest = rest among
    by_item (output.Save s) less among rest = rest among
    by_item (output.Reset s) less among rest = rest among
    by_item output.Nul less among rest = rest among
    by_item output.Beep less among rest = rest among
    by_item output.Stop less among rest = rest among

-- the effects of a record: its context, its output, and the match output
pub rule_fits : (group : Group) (place : ℕ) (rule : Rule) (queued : ℕ) → slice_get group.rules place ≡ Some rule → queued + group_effects group ≤ 1024
    → queued + length rule.context + sum_by (item_effects (length rule.context)) (live rule.output) + sum_by (item_effects 0) (live group.on_match) ≤ queued + group_effects group
unfolding rule_effects
rule_fits group place rule queued listed room =
    by_min queued (length rule.context) (sum_by (item_effects (length rule.context)) (live rule.output)) (sum_by (item_effects 0) (live group.on_match)) (group_effects group)
    (max_at (rule_effects group) group.rules (max 22 (with_effects 0 (live group.on_nomatch) 1)) place rule listed) room
  where
    by_min : (n a b d m : ℕ) → min 1025 (min 1025 (min 1025 (0 + a) + b) + d) ≤ m → n + m ≤ 1024 → n + a + b + d ≤ n + m
    by_min n a b d m less room = omega (arith, less, room)

-- the effects of a nomatch output, and of a press without a record
pub nomatch_fits : (group : Group) (queued : ℕ) → queued + group_effects group ≤ 1024 → (queued + sum_by (item_effects 0) (live group.on_nomatch) ≤ queued + group_effects group) × (queued + 22 ≤ queued + group_effects group)
nomatch_fits group queued room =
    (by_min queued (sum_by (item_effects 0) (live group.on_nomatch)) (group_effects group) base room, omega (arith, base))
  where
    base : max 22 (with_effects 0 (live group.on_nomatch) 1) ≤ group_effects group
    base = max_from (map (rule_effects group) group.rules) (max 22 (with_effects 0 (live group.on_nomatch) 1))

    by_min : (n a m : ℕ) → max 22 (min 1025 (1 + a)) ≤ m → n + m ≤ 1024 → n + a ≤ n + m
    by_min n a m less room = omega (arith, less, room)

-- ---- units

-- numbers are raised: there are as many, and none is smaller
pub record Raised (few many : List ℕ) : Type 0 where
  pub size : length many ≡ length few
  pub more : (g : ℕ) → number_at few g ≤ number_at many g

raised_itself : (units : List ℕ) → Raised units units
raised_itself units = record { size = refl; more = λ g. omega arith }

raised_twice : (a b d : List ℕ) → Raised a b → Raised b d → Raised a d
raised_twice a b d one other = record { size = other.size ∙ one.size; more = λ g. omega (arith, one.more g, other.more g) }

set_is : (units : List ℕ) (g n : ℕ) → ((length units ≤ g) × (number_at (slice_set units g n) g ≡ number_at units g)) ⊎ ((g < length units) × (number_at (slice_set units g n) g ≡ n))
set_is [] g n = inl (omega arith, refl)
set_is (u ∷ units) zero n = inr (omega arith, refl)
set_is (u ∷ units) (suc g) n = by_rest (set_is units g n)
  where
    by_rest : ((length units ≤ g) × (number_at (slice_set units g n) g ≡ number_at units g)) ⊎ ((g < length units) × (number_at (slice_set units g n) g ≡ n))
        → ((length (u ∷ units) ≤ suc g) × (number_at (slice_set units g n) g ≡ number_at units g)) ⊎ ((suc g < length (u ∷ units)) × (number_at (slice_set units g n) g ≡ n))
    by_rest (inl past) = inl (omega (arith, past.0), past.1)
    by_rest (inr inside) = inr (omega (arith, inside.0), inside.1)

raised_more : (spent : ℕ) (units : List ℕ) (g : ℕ) → Raised units (raised spent units g)
raised_more spent units g = record { size = length-set units g (max spent (number_at units g)); more = λ h. by_test h (nat_eq g h) refl }
  where
    by_test : (h : ℕ) (b : Bool) → nat_eq g h ≡ b → number_at units h ≤ number_at (raised spent units g) h
    by_test h true is = subst (λ (m : ℕ). number_at units m ≤ number_at (raised spent units g) m) (equal_numbers g h is) (by_place (set_is units g (max spent (number_at units g))))
      where
        by_place : ((length units ≤ g) × (number_at (raised spent units g) g ≡ number_at units g)) ⊎ ((g < length units) × (number_at (raised spent units g) g ≡ max spent (number_at units g))) → number_at units g ≤ number_at (raised spent units g) g
        by_place (inl past) = omega (arith, past.1)
        by_place (inr inside) = omega (arith, inside.1)
    by_test h false is = omega (arith, ap (λ (o : Option ℕ). unwrap_or o 0) (get_set_other units g h (max spent (number_at units g)) apart))
      where
        apart : g ≡ h → ⊥
        apart e = false_true (sym is ∙ ap (nat_eq g) (sym e) ∙ same_number g)

raised_at : (spent : ℕ) (units : List ℕ) (g : ℕ) → g < length units → spent ≤ number_at (raised spent units g) g
raised_at spent units g less = by_place (set_is units g (max spent (number_at units g)))
  where
    by_place : ((length units ≤ g) × (number_at (raised spent units g) g ≡ number_at units g)) ⊎ ((g < length units) × (number_at (raised spent units g) g ≡ max spent (number_at units g))) → spent ≤ number_at (raised spent units g) g
    by_place (inl past) = absurd (omega (arith, past.0, less))
    by_place (inr inside) = omega (arith, inside.1)

raised_each : (spent : ℕ) (gs : List ℕ) (units : List ℕ) → Raised units (fold (raised spent) units gs)
raised_each spent [] units = raised_itself units
raised_each spent (g ∷ gs) units = raised_twice units (raised spent units g) (fold (raised spent) (raised spent units g) gs) (raised_more spent units g) (raised_each spent gs (raised spent units g))

raised_among : (spent : ℕ) (gs : List ℕ) (units : List ℕ) (g : ℕ) → is_among g gs ≡ true → g < length units → spent ≤ number_at (fold (raised spent) units gs) g
raised_among spent [] units g among less = absurd (false_true among)
raised_among spent (h ∷ gs) units g among less = by_test (nat_eq g h) refl among (λ rest. raised_among spent gs (raised spent units h) g rest (omega (arith, less, (raised_more spent units h).size)))
  where
    by_test : (b : Bool) → nat_eq g h ≡ b → (b || is_among g gs) ≡ true → (is_among g gs ≡ true → spent ≤ number_at (fold (raised spent) (raised spent units h) gs) g) → spent ≤ number_at (fold (raised spent) (raised spent units h) gs) g
    by_test true is among rest =
        omega (arith, (raised_each spent gs (raised spent units h)).more g, subst (λ (m : ℕ). spent ≤ number_at (raised spent units m) g) (equal_numbers g h is) (raised_at spent units g less))
    by_test false is among rest = rest among

-- ---- the units after the groups

module _ (facts : Facts) (spent : ℕ) (group : Group) where
  abbrev after_output : Rule → ℕ
  after_output rule = spent_by facts rule.context (live rule.output) spent

  match_raised : (rule : Rule) (units : List ℕ) (most : ℕ) → Raised units (after_match most group rule units)
  match_raised rule units most = by_end (ends rule.output)
    where
      by_end : (b : Bool) → Raised units (if b then units else raised_by (spent_after [] (live group.on_match) most) (live group.on_match) units)
      by_end true = raised_itself units
      by_end false = raised_each (spent_after [] (live group.on_match) most) (flat_map entered (live group.on_match)) units

  rule_raised : (rule : Rule) (units : List ℕ) → Raised units (after_rule facts spent group units rule)
  unfolding after_rule
  rule_raised rule units =
      raised_twice units (raised_by (after_output rule) (live rule.output) units) (after_match (after_output rule) group rule (raised_by (after_output rule) (live rule.output) units))
      (raised_each (after_output rule) (flat_map entered (live rule.output)) units) (match_raised rule (raised_by (after_output rule) (live rule.output) units) (after_output rule))

  rule_output : (rule : Rule) (units : List ℕ) (h : ℕ) → is_among h (flat_map entered (live rule.output)) ≡ true → h < length units → after_output rule ≤ number_at (after_rule facts spent group units rule) h
  unfolding after_rule
  rule_output rule units h among less =
      omega (arith, raised_among (after_output rule) (flat_map entered (live rule.output)) units h among less, (match_raised rule (raised_by (after_output rule) (live rule.output) units) (after_output rule)).more h)

  rule_match : (rule : Rule) (units : List ℕ) (h : ℕ) → ends rule.output ≡ false → is_among h (flat_map entered (live group.on_match)) ≡ true → h < length units → spent_after [] (live group.on_match) (after_output rule) ≤ number_at (after_rule facts spent group units rule) h
  unfolding after_rule
  rule_match rule units h runs_on among less =
      subst (λ (b : Bool). spent_after [] (live group.on_match) (after_output rule) ≤ number_at (if b then before else raised_by (spent_after [] (live group.on_match) (after_output rule)) (live group.on_match) before) h) (sym runs_on)
      (raised_among (spent_after [] (live group.on_match) (after_output rule)) (flat_map entered (live group.on_match)) before h among (omega (arith, less, (raised_each (after_output rule) (flat_map entered (live rule.output)) units).size)))
    where
      before : List ℕ
      before = raised_by (after_output rule) (live rule.output) units

  rules_raised : (rules : List Rule) (units : List ℕ) → Raised units (fold (after_rule facts spent group) units rules)
  rules_raised [] units = raised_itself units
  rules_raised (rule ∷ rules) units =
      raised_twice units (after_rule facts spent group units rule) (fold (after_rule facts spent group) (after_rule facts spent group units rule) rules) (rule_raised rule units) (rules_raised rules (after_rule facts spent group units rule))

  -- a number that each record raises to is reached after all of them
  rules_at : (least : Rule → ℕ) (h : ℕ) (rules : List Rule) (units : List ℕ) (place : ℕ) (rule : Rule) → slice_get rules place ≡ Some rule → h < length units
      → ((units : List ℕ) → h < length units → least rule ≤ number_at (after_rule facts spent group units rule) h) → least rule ≤ number_at (fold (after_rule facts spent group) units rules) h
  rules_at least h [] units place rule listed less each = absurd (none-some rule listed)
  rules_at least h (r ∷ rules) units zero rule listed less each =
      omega (arith, subst (λ (q : Rule). least rule ≤ number_at (after_rule facts spent group units q) h) (sym (same_Some r rule listed)) (each units less), (rules_raised rules (after_rule facts spent group units r)).more h)
  rules_at least h (r ∷ rules) units (suc place) rule listed less each =
      rules_at least h rules (after_rule facts spent group units r) place rule listed (omega (arith, less, (rule_raised r units).size)) each

  nomatch_raised : (units : List ℕ) → Raised units (raised_by (spent_after [] (live group.on_nomatch) spent) (live group.on_nomatch) units)
  nomatch_raised units = raised_each (spent_after [] (live group.on_nomatch) spent) (flat_map entered (live group.on_nomatch)) units

  group_raised : (units : List ℕ) → Raised units (after_group facts spent units group)
  group_raised units =
      raised_twice units (fold (after_rule facts spent group) units group.rules) (after_group facts spent units group) (rules_raised group.rules units) (nomatch_raised (fold (after_rule facts spent group) units group.rules))

  -- what the groups have that this one enters
  pub record Enters (units : List ℕ) : Type 0 where
    pub by_output : (place : ℕ) (rule : Rule) (h : ℕ) → slice_get group.rules place ≡ Some rule → is_among h (flat_map entered (live rule.output)) ≡ true → h < length units → after_output rule ≤ number_at units h
    pub by_match : (place : ℕ) (rule : Rule) (h : ℕ) → slice_get group.rules place ≡ Some rule → ends rule.output ≡ false → is_among h (flat_map entered (live group.on_match)) ≡ true → h < length units
        → spent_after [] (live group.on_match) (after_output rule) ≤ number_at units h
    pub by_nomatch : (h : ℕ) → is_among h (flat_map entered (live group.on_nomatch)) ≡ true → h < length units → spent_after [] (live group.on_nomatch) spent ≤ number_at units h

  group_enters : (units : List ℕ) → Enters (after_group facts spent units group)
  group_enters units =
      record {
        by_output = λ place rule h listed among less.
            omega (arith, rules_at after_output h group.rules units place rule listed (omega (arith, less, (group_raised units).size)) (λ us inside. rule_output rule us h among inside), (nomatch_raised (fold (after_rule facts spent group) units group.rules)).more h);
        by_match = λ place rule h listed runs_on among less.
            omega (arith, rules_at (λ (r : Rule). spent_after [] (live group.on_match) (after_output r)) h group.rules units place rule listed (omega (arith, less, (group_raised units).size)) (λ us inside. rule_match rule us h runs_on among inside), (nomatch_raised (fold (after_rule facts spent group) units group.rules)).more h);
        by_nomatch = λ h among less.
            raised_among (spent_after [] (live group.on_nomatch) spent) (flat_map entered (live group.on_nomatch)) (fold (after_rule facts spent group) units group.rules) h among
            (omega (arith, less, (group_raised units).size, (rules_raised group.rules units).size));
      }

  enters_more : (few many : List ℕ) → Raised few many → Enters few → Enters many
  enters_more few many more all =
      record {
        by_output = λ place rule h listed among less. omega (arith, all.by_output place rule h listed among (omega (arith, less, more.size)), more.more h);
        by_match = λ place rule h listed runs_on among less. omega (arith, all.by_match place rule h listed runs_on among (omega (arith, less, more.size)), more.more h);
        by_nomatch = λ h among less. omega (arith, all.by_nomatch h among (omega (arith, less, more.size)), more.more h);
      }

module _ (facts : Facts) (groups : List Group) (before : List ℕ) where
  number_raised : (g : ℕ) (units : List ℕ) → Raised units (after_number facts groups before units g)
  number_raised g units = by_group (slice_get groups g)
    where
      by_group : (o : Option Group) → Raised units (after_some facts (number_at before g) units o)
      by_group None = raised_itself units
      by_group (Some group) = group_raised facts (number_at before g) group units

  numbers_raised : (gs : List ℕ) (units : List ℕ) → Raised units (fold (after_number facts groups before) units gs)
  numbers_raised [] units = raised_itself units
  numbers_raised (g ∷ gs) units =
      raised_twice units (after_number facts groups before units g) (fold (after_number facts groups before) (after_number facts groups before units g) gs) (number_raised g units) (numbers_raised gs (after_number facts groups before units g))

  numbers_enter : (gs : List ℕ) (units : List ℕ) (g : ℕ) (group : Group) → is_among g gs ≡ true → slice_get groups g ≡ Some group → Enters facts (number_at before g) group (fold (after_number facts groups before) units gs)
  numbers_enter [] units g group among listed = absurd (false_true among)
  numbers_enter (h ∷ gs) units g group among listed = by_test (nat_eq g h) refl among (λ rest. numbers_enter gs (after_number facts groups before units h) g group rest listed)
    where
      by_test : (b : Bool) → nat_eq g h ≡ b → (b || is_among g gs) ≡ true → (is_among g gs ≡ true → Enters facts (number_at before g) group (fold (after_number facts groups before) (after_number facts groups before units h) gs))
          → Enters facts (number_at before g) group (fold (after_number facts groups before) (after_number facts groups before units h) gs)
      by_test true is among rest =
          enters_more facts (number_at before g) group (after_number facts groups before units h) (fold (after_number facts groups before) (after_number facts groups before units h) gs) (numbers_raised gs (after_number facts groups before units h))
          (subst (λ (m : ℕ). Enters facts (number_at before g) group (after_number facts groups before units m)) (equal_numbers g h is)
          (subst (λ (o : Option Group). Enters facts (number_at before g) group (after_some facts (number_at before g) units o)) (sym listed) (group_enters facts (number_at before g) group units)))
      by_test false is among rest = rest among

-- the units at one more depth
pub spent_next : (k : ℕ) (facts : Facts) (groups : List Group) (g : ℕ) (group : Group) → is_among g facts.reached ≡ true → slice_get groups g ≡ Some group → Enters facts (number_at (spent_within k facts groups) g) group (spent_within (k + 1) facts groups)
spent_next k facts groups g group among listed =
    subst (λ (units : List ℕ). Enters facts (number_at (spent_within k facts groups) g) group units) (sym (spent_more k facts groups))
    (numbers_enter facts groups (spent_within k facts groups) facts.reached (spent_within k facts groups) g group among listed)

spent_raised : (k : ℕ) (facts : Facts) (groups : List Group) → Raised (spent_within k facts groups) (spent_within (k + 1) facts groups)
spent_raised k facts groups =
    subst (λ (units : List ℕ). Raised (spent_within k facts groups) units) (sym (spent_more k facts groups)) (numbers_raised facts groups (spent_within k facts groups) facts.reached (spent_within k facts groups))

pub spent_up : (m k : ℕ) (facts : Facts) (groups : List Group) → Raised (spent_within k facts groups) (spent_within (k + m) facts groups)
spent_up zero k facts groups =
    let same : k + 0 ≡ k = omega arith in
    subst (λ (n : ℕ). Raised (spent_within k facts groups) (spent_within n facts groups)) (sym same) (raised_itself (spent_within k facts groups))
spent_up (suc m) k facts groups =
    let next : k + suc m ≡ k + m + 1 = omega arith in
    subst (λ (n : ℕ). Raised (spent_within k facts groups) (spent_within n facts groups)) (sym next)
    (raised_twice (spent_within k facts groups) (spent_within (k + m) facts groups) (spent_within (k + m + 1) facts groups) (spent_up m k facts groups) (spent_raised (k + m) facts groups))

pub spent_size : (k : ℕ) (facts : Facts) (groups : List Group) → length (spent_within k facts groups) ≡ length groups
spent_size k facts groups =
    let same : 0 + k ≡ k = omega arith in
    ap (λ (n : ℕ). length (spent_within n facts groups)) (sym same)
    ∙ (spent_up k 0 facts groups).size
    ∙ ap length (spent_none facts groups) ∙ length-replicate (length groups) 0
