-- In the program whose items are checked, names refuse no further statement.
use Rattle.std.proofs.Common.{◌≡◌, ℕ, zero, suc, ◌+◌, ◌≤◌, ◌⊎◌, inl, inr, true, false, cond, List, [], ◌∷◌, ◌++◌, length, map, Option, Some, None, refl, sym, ap, subst, ◌∙◌, if◌then◌else◌, append_assoc, append-nil, arith}
use Rattle.std.specs.Prelude.{nat_eq, not, flat_map, IsUtf8}
use Rattle.std.specs.List.{AllByRecursion}
use Rattle.std.proofs.lemmas.List.{map-append}
use Rattle.std.proofs.lemmas.List.Concat.{flat_map-append}
use Rattle.kmn_base.specs.Names.{same_name}
use Rattle.kmn_base.specs.Rising.{times}
use Rattle.kmn_base.specs.declared.codes.Code.{Code}
use Rattle.kmn_base.specs.declared.limits.TheConstants.{TEXT_BYTES}
use Rattle.kmn_base.specs.declared.refusals.Refusal.{Refusal}
use Rattle.kmn_lines.proofs.TextSizes.{clash}
use Rattle.rule_model.specs.declared.program.SrcItem.{SrcItem}
use Rattle.rule_model.specs.declared.program.StoreDef.{StoreDef}
use Rattle.rule_model.specs.declared.program.GroupDef.{GroupDef}
use Rattle.rule_model.specs.declared.program.Program.{Program}
use Rattle.kmn_parser.specs.Source.{read_text}
use Rattle.kmn_parser.specs.SourceLaws.{group_lines}
use Rattle.kmn_parser.proofs.SourceLines.{text-ordered}
use Rattle.store_table.specs.Names.{is_named, kept_name, store_names, group_names}
use Rattle.rule_checker.proofs.Lists.{all_parts}
use Rattle.source_names.specs.declared.causes.NameFault.{NameFault}
use Rattle.source_names.specs.Causes.{cause_refusal, group_cause, store_item_cause, rule_item_cause, each_of, begin_faults, store_faults, group_faults, rules_faults, name_causes}
use Rattle.source_names.specs.Telling.{store_lacked, group_lacked, name_lacked, stores_lacked, groups_lacked, names_lacked, reported_causes}
use Rattle.source_faults.specs.declared.found.Found.{Found}
use Rattle.source_faults.specs.Reading.{read_all, read_refusals}
use Rattle.source_faults.specs.Stubs.{code_at, is_refused, new_words, stub_group, stub_group_name, stub_store, with_words, word_group, word_store}
use Rattle.source_faults.specs.Faults.{further}
use Rattle.fault_laws.specs.Laws.{NamesAreDefined, defined_program, names_left, refused_to_names}
use Rattle.source_faults.proofs.FirstRead.{FirstIs, first_read}
use Rattle.fault_laws.proofs.Counts.{count_at, count-append, further_none, same_numbers, stated_at, tick}
use Rattle.fault_laws.proofs.ReadOnce.{IsReadBefore, all_read, begun_at}
use Rattle.fault_laws.proofs.RefusedOnce.{both_empty, no_words, quiet, quiet_causes, stated_words}
use Rattle.fault_laws.proofs.CodesAt.{code_after, no_code_at}
use Rattle.fault_laws.proofs.NameLists.{either, first_true, second_true, named_append, named_none, named_self, words_apart, words_there}
use Rattle.fault_laws.proofs.CausesLeft.{At, Known, Follows, joined, group_on, store_on, group_follows, rule_item_follows, store_item_follows}
use Rattle.fault_laws.proofs.NamesLeft.{FitGroups, FitStores, Grown, all_rules_at, begins_at, grown_group, grown_store, groups_at, stores_at}
use Rattle.fault_laws.proofs.Reported.{all_known, code_is}
use Rattle.fault_laws.proofs.OwnCodes.{IsApart, all_causes, group_again, here_once, is_any_code, no_begins, no_groups, no_rules, no_stores, split_each, store_again}
use Rattle.fault_laws.proofs.ReadNames.{HasNames, NamedGroup, NamedStore, all_named}

-- the names that causes lack are those of stores and those of groups
stores_among : (faults : List NameFault) (name : List ℕ) → is_named (stores_lacked faults) name ≡ true → is_named (names_lacked faults) name ≡ true
stores_among [] name h = h
stores_among (fault ∷ faults) name h = by (either (is_named (store_lacked fault.cause) name) (is_named (stores_lacked faults) name) (sym (named_append (store_lacked fault.cause) (stores_lacked faults) name) ∙ h)) (stores_among faults name)
  where
    first : is_named (store_lacked fault.cause) name ≡ true → is_named (name_lacked fault.cause) name ≡ true
    first here = named_append (store_lacked fault.cause) (group_lacked fault.cause) name ∙ first_true (is_named (store_lacked fault.cause) name) (is_named (group_lacked fault.cause) name) here

    by : (is_named (store_lacked fault.cause) name ≡ true) ⊎ (is_named (stores_lacked faults) name ≡ true) → (is_named (stores_lacked faults) name ≡ true → is_named (names_lacked faults) name ≡ true)
        → is_named (name_lacked fault.cause ++ names_lacked faults) name ≡ true
    by (inl here) again = named_append (name_lacked fault.cause) (names_lacked faults) name ∙ first_true (is_named (name_lacked fault.cause) name) (is_named (names_lacked faults) name) (first here)
    by (inr there) again = named_append (name_lacked fault.cause) (names_lacked faults) name ∙ second_true (is_named (name_lacked fault.cause) name) (is_named (names_lacked faults) name) (again there)

groups_among : (faults : List NameFault) (name : List ℕ) → is_named (groups_lacked faults) name ≡ true → is_named (names_lacked faults) name ≡ true
groups_among [] name h = h
groups_among (fault ∷ faults) name h = by (either (is_named (group_lacked fault.cause) name) (is_named (groups_lacked faults) name) (sym (named_append (group_lacked fault.cause) (groups_lacked faults) name) ∙ h)) (groups_among faults name)
  where
    first : is_named (group_lacked fault.cause) name ≡ true → is_named (name_lacked fault.cause) name ≡ true
    first here = named_append (store_lacked fault.cause) (group_lacked fault.cause) name ∙ second_true (is_named (store_lacked fault.cause) name) (is_named (group_lacked fault.cause) name) here

    by : (is_named (group_lacked fault.cause) name ≡ true) ⊎ (is_named (groups_lacked faults) name ≡ true) → (is_named (groups_lacked faults) name ≡ true → is_named (names_lacked faults) name ≡ true)
        → is_named (name_lacked fault.cause ++ names_lacked faults) name ≡ true
    by (inl here) again = named_append (name_lacked fault.cause) (names_lacked faults) name ∙ first_true (is_named (name_lacked fault.cause) name) (is_named (names_lacked faults) name) (first here)
    by (inr there) again = named_append (name_lacked fault.cause) (names_lacked faults) name ∙ second_true (is_named (name_lacked fault.cause) name) (is_named (names_lacked faults) name) (again there)

-- a line 0 is refused if some line is
pub none_or_zero : (refused : List Refusal) → (refused ≡ []) ⊎ (is_refused refused 0 ≡ true)
none_or_zero [] = inl refl
none_or_zero (found ∷ refused) = inr refl

-- nothing is left if all are at refused lines
pub nothing_left : (refused : List Refusal) (reported faults : List NameFault) → AllByRecursion (At refused reported) faults → further refused (map cause_refusal faults) ≡ []
nothing_left refused reported [] at = refl
nothing_left refused reported (fault ∷ faults) (here, rest) =
    ap (λ t. cond (not t) (cause_refusal fault ∷ further refused (map cause_refusal faults)) (further refused (map cause_refusal faults))) here
    ∙ nothing_left refused reported faults rest

-- what is known of the statements of a program that are not refused: they have names
pub record HasOwnNames (refused : List Refusal) (program : Program) : Type 0 where
  pub stores : AllByRecursion (λ (store : StoreDef). is_refused refused store.line ≡ false → nat_eq store.system 0 ≡ true → same_name store.name [] ≡ false) program.stores
  pub groups : AllByRecursion (λ (group : GroupDef). is_refused refused group.line ≡ false → same_name group.name [] ≡ false) program.groups

-- an ordinary store is not dropped
ordinary_name : (store : StoreDef) → nat_eq store.system 0 ≡ true → (names : List (List ℕ)) → is_named (kept_name store ++ names) store.name ≡ true
ordinary_name store ordinary names =
    ap (λ (system : ℕ). is_named ((if nat_eq system 0xFFFF then [] else store.name ∷ []) ++ names) store.name) (same_numbers store.system 0 ordinary)
    ∙ named_self store.name names

module _ (refused : List Refusal) (program : Program) (apart : IsApart refused program)
    (zero_free : code_at (refused_to_names refused program) 0 ≡ None) (named : HasOwnNames (refused_to_names refused program) program) where
  abbrev reported : List NameFault
  reported = reported_causes program

  abbrev told : List Refusal
  told = refused_to_names refused program

  abbrev store_words : List (List ℕ)
  store_words = new_words (store_names program.stores) (names_lacked reported)

  abbrev group_words : List (List ℕ)
  group_words = new_words (group_names program.groups) (names_lacked reported)

  abbrev stub_of : StoreDef → StoreDef
  stub_of store = stub_store (code_at told store.line) store

  abbrev words_first : List StoreDef
  words_first = map stub_of (map word_store store_words)

  abbrev groups_first : List GroupDef
  groups_first = map (stub_group told) (map word_group group_words)

  abbrev new_stores : List (List ℕ)
  new_stores = store_names (words_first ++ map stub_of program.stores)

  abbrev new_groups : List (List ℕ)
  new_groups = group_names (groups_first ++ map (stub_group told) program.groups)

  -- the causes of these stores and groups
  abbrev causes_of : List StoreDef → List GroupDef → List NameFault
  causes_of stores groups =
      each_of (begin_faults (group_names groups)) [] program.begins
      ++ (each_of (store_faults (store_names stores)) [] stores
      ++ (each_of group_faults [] groups ++ flat_map (rules_faults (store_names stores) (group_names groups)) groups))

  -- the stores and groups of words are not replaced
  word_stores_named : (words : List (List ℕ)) → store_names (map stub_of (map word_store words)) ≡ words
  word_stores_named [] = refl
  word_stores_named (word ∷ words) =
      ap (λ code. kept_name (stub_store code (word_store word)) ++ store_names (map stub_of (map word_store words))) zero_free
      ∙ ap (λ names. word ∷ names) (word_stores_named words)

  word_groups_named : (words : List (List ℕ)) → group_names (map (stub_group told) (map word_group words)) ≡ words
  word_groups_named [] = refl
  word_groups_named (word ∷ words) =
      ap (λ code. stub_group_name code word ∷ group_names (map (stub_group told) (map word_group words))) zero_free
      ∙ ap (λ names. word ∷ names) (word_groups_named words)

  grown_words : (words new : List (List ℕ)) → new ≡ words → Grown words [] new
  grown_words words new same = record {
    kept = λ name h. clash (is_named [] name) h (named_none name);
    added = λ name h. ap (λ names. is_named names name) same ∙ h;
    only = λ name h. inr (inl (sym (ap (λ names. is_named names name) same) ∙ h));
  }

  -- the stores and groups are fit
  fit_stores : (before stores : List StoreDef) → program.stores ≡ before ++ stores
      → AllByRecursion (λ (store : StoreDef). is_refused told store.line ≡ false → nat_eq store.system 0 ≡ true → same_name store.name [] ≡ false) stores
      → FitStores told reported store_words before stores
  fit_stores before [] split names = tt
  fit_stores before (store ∷ stores) split (here, rest) = (
    record {
      again = λ is. store_again refused program apart zero_free before store stores split is;
      named = here;
      apart = λ ordinary. words_apart (names_lacked reported) (store_names program.stores) store.name (there ordinary);
    },
    fit_stores (before ++ store ∷ []) stores (split ∙ sym (append_assoc before (store ∷ []) stores)) rest,
  )
    where
      there : nat_eq store.system 0 ≡ true → is_named (store_names program.stores) store.name ≡ true
      there ordinary =
          ap (λ (all : List StoreDef). is_named (store_names all) store.name) split
          ∙ ap (λ names. is_named names store.name) (flat_map-append kept_name before (store ∷ stores))
          ∙ named_append (store_names before) (store_names (store ∷ stores)) store.name
          ∙ second_true (is_named (store_names before) store.name) (is_named (store_names (store ∷ stores)) store.name) (ordinary_name store ordinary (store_names stores))

  fit_groups : (before groups : List GroupDef) → program.groups ≡ before ++ groups
      → AllByRecursion (λ (group : GroupDef). is_refused told group.line ≡ false → same_name group.name [] ≡ false) groups
      → FitGroups told reported group_words before groups
  fit_groups before [] split names = tt
  fit_groups before (group ∷ groups) split (here, rest) = (
    record {
      again = λ is. group_again refused program apart zero_free before group groups split is;
      named = here;
      apart = words_apart (names_lacked reported) (group_names program.groups) group.name there;
    },
    fit_groups (before ++ group ∷ []) groups (split ∙ sym (append_assoc before (group ∷ []) groups)) rest,
  )
    where
      there : is_named (group_names program.groups) group.name ≡ true
      there =
          ap (λ (all : List GroupDef). is_named (group_names all) group.name) split
          ∙ ap (λ names. is_named names group.name) (map-append (λ (g : GroupDef). g.name) before (group ∷ groups))
          ∙ named_append (group_names before) (group_names (group ∷ groups)) group.name
          ∙ second_true (is_named (group_names before) group.name) (is_named (group_names (group ∷ groups)) group.name) (named_self group.name (group_names groups))

  -- all names of the program are among the new ones, and so are the lacked ones
  all_grown : (before after stores : List StoreDef) → Grown store_words (store_names before) (store_names after) → FitStores told reported store_words before stores
      → Grown store_words (store_names (before ++ stores)) (store_names (after ++ map stub_of stores))
  all_grown before after [] grown fit =
      subst (λ all. Grown store_words (store_names all) (store_names (after ++ []))) (sym (append-nil before))
      (subst (λ all. Grown store_words (store_names before) (store_names all)) (sym (append-nil after)) grown)
  all_grown before after (store ∷ stores) grown (fit, rest) =
      subst (λ all. Grown store_words (store_names all) (store_names (after ++ map stub_of (store ∷ stores)))) (append_assoc before (store ∷ []) stores)
      (subst (λ all. Grown store_words (store_names ((before ++ store ∷ []) ++ stores)) (store_names all)) (append_assoc after (stub_of store ∷ []) (map stub_of stores))
      (all_grown (before ++ store ∷ []) (after ++ stub_of store ∷ []) stores (grown_store told reported store_words before after store fit grown) rest))

  all_grown_groups : (before after groups : List GroupDef) → Grown group_words (group_names before) (group_names after) → FitGroups told reported group_words before groups
      → Grown group_words (group_names (before ++ groups)) (group_names (after ++ map (stub_group told) groups))
  all_grown_groups before after [] grown fit =
      subst (λ all. Grown group_words (group_names all) (group_names (after ++ []))) (sym (append-nil before))
      (subst (λ all. Grown group_words (group_names before) (group_names all)) (sym (append-nil after)) grown)
  all_grown_groups before after (group ∷ groups) grown (fit, rest) =
      subst (λ all. Grown group_words (group_names all) (group_names (after ++ map (stub_group told) (group ∷ groups)))) (append_assoc before (group ∷ []) groups)
      (subst (λ all. Grown group_words (group_names ((before ++ group ∷ []) ++ groups)) (group_names all)) (append_assoc after (stub_group told group ∷ []) (map (stub_group told) groups))
      (all_grown_groups (before ++ group ∷ []) (after ++ stub_group told group ∷ []) groups (grown_group told reported group_words before after group fit grown) rest))

  first_stores : Grown store_words [] (store_names words_first)
  first_stores = grown_words store_words (store_names words_first) (word_stores_named store_words)

  first_groups : Grown group_words [] (group_names groups_first)
  first_groups = grown_words group_words (group_names groups_first) (word_groups_named group_words)

  stores_grown : Grown store_words (store_names program.stores) new_stores
  stores_grown = all_grown [] words_first program.stores first_stores (fit_stores [] program.stores refl named.stores)

  groups_grown : Grown group_words (group_names program.groups) new_groups
  groups_grown = all_grown_groups [] groups_first program.groups first_groups (fit_groups [] program.groups refl named.groups)

  store_defined : (name : List ℕ) → is_named (stores_lacked reported) name ≡ true → is_named new_stores name ≡ true
  store_defined name lacked =
      by (either (is_named (store_names program.stores) name) (is_named store_words name)
      (sym (named_append (store_names program.stores) store_words name) ∙ words_there (names_lacked reported) (store_names program.stores) name (stores_among reported name lacked)))
    where
      by : (is_named (store_names program.stores) name ≡ true) ⊎ (is_named store_words name ≡ true) → is_named new_stores name ≡ true
      by (inl there) = stores_grown.kept name there
      by (inr word) = stores_grown.added name word

  store_before : (before after : List (List ℕ)) → Grown store_words before after → (name : List ℕ) → is_named (store_names program.stores) name ≡ false → is_named (stores_lacked reported) name ≡ true → is_named after name ≡ true
  store_before before after grown name free lacked =
      by (either (is_named (store_names program.stores) name) (is_named store_words name)
      (sym (named_append (store_names program.stores) store_words name) ∙ words_there (names_lacked reported) (store_names program.stores) name (stores_among reported name lacked)))
    where
      by : (is_named (store_names program.stores) name ≡ true) ⊎ (is_named store_words name ≡ true) → is_named after name ≡ true
      by (inl there) = clash (is_named (store_names program.stores) name) there free
      by (inr word) = grown.added name word

  group_defined : (name : List ℕ) → is_named (groups_lacked reported) name ≡ true → is_named new_groups name ≡ true
  group_defined name lacked =
      by (either (is_named (group_names program.groups) name) (is_named group_words name)
      (sym (named_append (group_names program.groups) group_words name) ∙ words_there (names_lacked reported) (group_names program.groups) name (groups_among reported name lacked)))
    where
      by : (is_named (group_names program.groups) name ≡ true) ⊎ (is_named group_words name ≡ true) → is_named new_groups name ≡ true
      by (inl there) = groups_grown.kept name there
      by (inr word) = groups_grown.added name word

  store_item : (before after : List (List ℕ)) → Grown store_words before after → (item : SrcItem)
      → Follows told reported (store_item_cause (store_names program.stores) before item) (store_item_cause new_stores after item)
  store_item before after grown item =
      store_item_follows told reported (store_names program.stores) new_stores stores_grown.kept store_defined before after grown.kept (store_before before after grown) item

  group_name : (name : Option (List ℕ)) → Follows told reported (group_cause (group_names program.groups) name) (group_cause new_groups name)
  group_name name = group_follows told reported (group_names program.groups) new_groups groups_grown.kept group_defined name

  rule_item : (item : SrcItem) → Follows told reported (rule_item_cause (store_names program.stores) (group_names program.groups) item) (rule_item_cause new_stores new_groups item)
  rule_item item = rule_item_follows told reported (store_names program.stores) new_stores stores_grown.kept store_defined (group_names program.groups) new_groups group_name item

  -- the stores and groups of words are at line 0, which is refused if there are any
  abbrev AtLine : ℕ → Type 0
  AtLine line = is_refused told line ≡ true

  words_at : is_refused told 0 ≡ true → (before : List StoreDef) (words : List (List ℕ)) → AllByRecursion (At told reported) (each_of (store_faults new_stores) before (map stub_of (map word_store words)))
  words_at zero_told before [] = tt
  words_at zero_told before (word ∷ words) =
      joined (At told reported) (store_faults new_stores before (stub_of (word_store word))) (each_of (store_faults new_stores) (before ++ stub_of (word_store word) ∷ []) (map stub_of (map word_store words)))
      (store_on AtLine new_stores (store_names before) (stub_of (word_store word)) (line_is (code_at told 0)))
      (words_at zero_told (before ++ stub_of (word_store word) ∷ []) words)
    where
      line_is : (code : Option Code) → is_refused told (stub_store code (word_store word)).line ≡ true
      line_is None = zero_told
      line_is (Some code) = zero_told

  group_words_at : is_refused told 0 ≡ true → (before : List GroupDef) (words : List (List ℕ)) → AllByRecursion (At told reported) (each_of group_faults before (map (stub_group told) (map word_group words)))
  group_words_at zero_told before [] = tt
  group_words_at zero_told before (word ∷ words) =
      joined (At told reported) (group_faults before (stub_group told (word_group word))) (each_of group_faults (before ++ stub_group told (word_group word) ∷ []) (map (stub_group told) (map word_group words)))
      (group_on AtLine (group_names before) (stub_group told (word_group word)) zero_told)
      (group_words_at zero_told (before ++ stub_group told (word_group word) ∷ []) words)

  no_lacked : told ≡ [] → names_lacked reported ≡ []
  no_lacked none = quiet_causes refused reported none

  store_words_at : AllByRecursion (At told reported) (each_of (store_faults new_stores) [] words_first)
  store_words_at = by (none_or_zero told)
    where
      by : (told ≡ []) ⊎ (is_refused told 0 ≡ true) → AllByRecursion (At told reported) (each_of (store_faults new_stores) [] words_first)
      by (inr zero_told) = words_at zero_told [] store_words
      by (inl none) =
          subst (λ words. AllByRecursion (At told reported) (each_of (store_faults new_stores) [] (map stub_of (map word_store (new_words (store_names program.stores) words))))) (sym (no_lacked none)) tt

  all_group_words_at : AllByRecursion (At told reported) (each_of group_faults [] groups_first)
  all_group_words_at = by (none_or_zero told)
    where
      by : (told ≡ []) ⊎ (is_refused told 0 ≡ true) → AllByRecursion (At told reported) (each_of group_faults [] groups_first)
      by (inr zero_told) = group_words_at zero_told [] group_words
      by (inl none) =
          subst (λ words. AllByRecursion (At told reported) (each_of group_faults [] (map (stub_group told) (map word_group (new_words (group_names program.groups) words))))) (sym (no_lacked none)) tt

  -- the groups of words have no rules
  word_rules : (words : List (List ℕ)) (groups : List GroupDef)
      → flat_map (rules_faults new_stores new_groups) (map (stub_group told) (map word_group words) ++ groups) ≡ flat_map (rules_faults new_stores new_groups) groups
  word_rules [] groups = refl
  word_rules (word ∷ words) groups = word_rules words groups

  known : AllByRecursion (Known told reported) (name_causes program)
  unfolding reported_causes
  known = all_known refused (name_causes program)

  pub at_refused : AllByRecursion (At told reported) (name_causes (defined_program refused program))
  unfolding name_causes
  at_refused =
      let old_stores = store_names program.stores in
      let old_groups = group_names program.groups in
      let first = all_parts (Known told reported) (each_of (begin_faults old_groups) [] program.begins)
      (each_of (store_faults old_stores) [] program.stores ++ (each_of group_faults [] program.groups ++ flat_map (rules_faults old_stores old_groups) program.groups)) known in
      let second = all_parts (Known told reported) (each_of (store_faults old_stores) [] program.stores)
      (each_of group_faults [] program.groups ++ flat_map (rules_faults old_stores old_groups) program.groups) first.1 in
      let third = all_parts (Known told reported) (each_of group_faults [] program.groups) (flat_map (rules_faults old_stores old_groups) program.groups) second.1 in
      let begins = begins_at told reported old_groups new_groups group_name [] program.begins first.0 in
      let stores = subst (AllByRecursion (At told reported)) (sym (split_each (store_faults new_stores) [] words_first (map stub_of program.stores)))
      (joined (At told reported) (each_of (store_faults new_stores) [] words_first) (each_of (store_faults new_stores) words_first (map stub_of program.stores)) store_words_at
      (stores_at told reported store_words old_stores new_stores store_item [] words_first program.stores first_stores (fit_stores [] program.stores refl named.stores) second.0)) in
      let groups = subst (AllByRecursion (At told reported)) (sym (split_each group_faults [] groups_first (map (stub_group told) program.groups)))
      (joined (At told reported) (each_of group_faults [] groups_first) (each_of group_faults groups_first (map (stub_group told) program.groups)) all_group_words_at
      (groups_at told reported group_words [] groups_first program.groups first_groups (fit_groups [] program.groups refl named.groups) third.0)) in
      let rules = subst (AllByRecursion (At told reported)) (sym (word_rules group_words (map (stub_group told) program.groups)))
      (all_rules_at told reported old_stores new_stores old_groups new_groups rule_item program.groups third.1) in
      let all : AllByRecursion (At told reported) (causes_of (words_first ++ map stub_of program.stores) (groups_first ++ map (stub_group told) program.groups)) =
      joined (At told reported) (each_of (begin_faults new_groups) [] program.begins)
      (each_of (store_faults new_stores) [] (words_first ++ map stub_of program.stores)
      ++ (each_of group_faults [] (groups_first ++ map (stub_group told) program.groups) ++ flat_map (rules_faults new_stores new_groups) (groups_first ++ map (stub_group told) program.groups))) begins
      (joined (At told reported) (each_of (store_faults new_stores) [] (words_first ++ map stub_of program.stores))
      (each_of group_faults [] (groups_first ++ map (stub_group told) program.groups) ++ flat_map (rules_faults new_stores new_groups) (groups_first ++ map (stub_group told) program.groups)) stores
      (joined (At told reported) (each_of group_faults [] (groups_first ++ map (stub_group told) program.groups))
      (flat_map (rules_faults new_stores new_groups) (groups_first ++ map (stub_group told) program.groups)) groups rules)) in
      subst (λ (found : List GroupDef). AllByRecursion (At told reported) (causes_of (map stub_of (map word_store store_words ++ program.stores)) found))
      (sym (map-append (stub_group told) (map word_group group_words) program.groups))
      (subst (λ (found : List StoreDef). AllByRecursion (At told reported) (causes_of found (groups_first ++ map (stub_group told) program.groups)))
      (sym (map-append stub_of (map word_store store_words) program.stores)) all)

  pub names_done : names_left refused program ≡ []
  names_done = nothing_left told reported (name_causes (defined_program refused program)) at_refused

-- no statement is refused at line 0
zero_code : (refused : List Refusal) (program : Program) → count_at 0 refused ≡ 0 → (refused ≡ [] → stated_at 0 program + begun_at 0 program ≡ 0) → code_at (refused_to_names refused program) 0 ≡ None
unfolding reported_causes
zero_code [] program free quiet = by (code_at (refused_to_names [] program) 0) refl
  where
    zero_there : stated_at 0 program + begun_at 0 program ≡ 0
    zero_there = quiet refl

    stores : List (List ℕ)
    stores = store_names program.stores

    groups : List (List ℕ)
    groups = group_names program.groups

    by : (code : Option Code) → code_at (refused_to_names [] program) 0 ≡ code → code_at (refused_to_names [] program) 0 ≡ None
    by None is = is
    by (Some code) is =
        let wrong : true ≡ false = code_is [] is_any_code 0 (name_causes program) refl
        (all_causes program is_any_code 0
        (no_begins stores groups is_any_code 0 program.begins (omega (arith, zero_there)))
        (no_stores stores groups is_any_code 0 [] program.stores (omega (arith, zero_there)))
        (no_groups stores groups is_any_code 0 [] program.groups (omega (arith, zero_there)))
        (no_rules stores groups is_any_code 0 program.groups (omega (arith, zero_there)))) code is in
        absurd (cc)
zero_code (found ∷ refused) program free quiet =
    let names = map cause_refusal (reported_causes program) in
    code_after (found ∷ refused) (further (found ∷ refused) names) 0 free
    ∙ no_code_at (further (found ∷ refused) names) 0 (further_none (found ∷ refused) 0 refl names)

-- the program of what is read, with the words of refused lines
apart_words : (last : ℕ) (st : Found) → IsReadBefore last st → IsApart (read_refusals st) (with_words st.program st.words)
apart_words last st before = record {
  free = λ line h. omega (arith, count-append line st.tokens st.statements, stated_words line h st.program st.words, before.refused line h);
  stated = λ line h. omega (arith, stated_words line h st.program st.words, before.stated line h);
}

module _ (told : List Refusal) where
  named_if_free : (stores : List StoreDef) → AllByRecursion NamedStore stores
      → AllByRecursion (λ (store : StoreDef). is_refused told store.line ≡ false → nat_eq store.system 0 ≡ true → same_name store.name [] ≡ false) stores
  named_if_free [] named = tt
  named_if_free (store ∷ stores) (here, rest) = (λ free. here, named_if_free stores rest)

  -- words are at line 0
  named_words : is_refused told 0 ≡ true → (words : List (List ℕ)) (stores : List StoreDef) → AllByRecursion NamedStore stores
      → AllByRecursion (λ (store : StoreDef). is_refused told store.line ≡ false → nat_eq store.system 0 ≡ true → same_name store.name [] ≡ false) (map word_store words ++ stores)
  named_words zero_told [] stores named = named_if_free stores named
  named_words zero_told (word ∷ words) stores named = (λ free. clash (is_refused told 0) zero_told free, named_words zero_told words stores named)

  group_if : (group : GroupDef) → (group.line ≡ 0 → is_refused told group.line ≡ false → ⊥) → NamedGroup group → is_refused told group.line ≡ false → same_name group.name [] ≡ false
  group_if group other named free = by group.line refl
    where
      by : (line : ℕ) → group.line ≡ line → same_name group.name [] ≡ false
      by zero at = absurd (other at free)
      by (suc line) at = named (omega (arith, at))

  groups_if_zero : is_refused told 0 ≡ true → (groups : List GroupDef) → AllByRecursion NamedGroup groups
      → AllByRecursion (λ (group : GroupDef). is_refused told group.line ≡ false → same_name group.name [] ≡ false) groups
  groups_if_zero zero_told [] named = tt
  groups_if_zero zero_told (group ∷ groups) (here, rest) = (
    group_if group (λ at free. clash (is_refused told 0) zero_told (ap (is_refused told) (sym at) ∙ free)) here,
    groups_if_zero zero_told groups rest,
  )

  groups_if_none : (groups : List GroupDef) → times 0 (group_lines groups) ≡ 0 → AllByRecursion NamedGroup groups
      → AllByRecursion (λ (group : GroupDef). is_refused told group.line ≡ false → same_name group.name [] ≡ false) groups
  groups_if_none [] none named = tt
  groups_if_none (group ∷ groups) none (here, rest) = (
    group_if group (λ at free. let one = here_once 0 in omega (arith, none, one, ap (tick 0) at)) here,
    groups_if_none groups (omega (arith, none)) rest,
  )

  named_group_words : is_refused told 0 ≡ true → (words : List (List ℕ)) (groups : List GroupDef) → AllByRecursion NamedGroup groups
      → AllByRecursion (λ (group : GroupDef). is_refused told group.line ≡ false → same_name group.name [] ≡ false) (map word_group words ++ groups)
  named_group_words zero_told [] groups named = groups_if_zero zero_told groups named
  named_group_words zero_told (word ∷ words) groups named = (λ free. clash (is_refused told 0) zero_told free, named_group_words zero_told words groups named)

own_names : (told : List Refusal) (program : Program) (words : List (List ℕ)) → AllByRecursion NamedStore program.stores → AllByRecursion NamedGroup program.groups
    → (told ≡ [] → (words ≡ []) × (stated_at 0 program + begun_at 0 program ≡ 0)) → HasOwnNames told (with_words program words)
own_names told program words stores groups quiet = by (none_or_zero told)
  where
    none : (words ≡ []) × (stated_at 0 program + begun_at 0 program ≡ 0) → HasOwnNames told (with_words program words)
    none (no_word, zero_there) =
        subst (λ left. HasOwnNames told (with_words program left)) (sym no_word)
        (record { stores = named_if_free told program.stores stores; groups = groups_if_none told program.groups (omega (arith, zero_there)) groups })

    by : (told ≡ []) ⊎ (is_refused told 0 ≡ true) → HasOwnNames told (with_words program words)
    by (inl empty) = none (quiet empty)
    by (inr zero_told) = record {
      stores = named_words told zero_told (new_words (store_names program.stores) words) program.stores stores;
      groups = named_group_words told zero_told (new_words (group_names program.groups) words) program.groups groups;
    }

-- what is known of the program of what is read, with the words of refused lines
pub record IsReady (refused : List Refusal) (program : Program) : Type 0 where
  pub apart : IsApart refused program
  pub zero_free : code_at (refused_to_names refused program) 0 ≡ None
  pub named : HasOwnNames (refused_to_names refused program) program
  pub still : refused_to_names refused program ≡ [] → stated_at 0 program ≡ 0

found_ready : (source : List ℕ) (last : ℕ) (st : Found) → FirstIs (read_text source) st → IsReadBefore last st → HasNames st
    → IsReady (read_refusals st) (with_words st.program st.words)
found_ready source last st first before has = record {
  apart = apart_words last st before;
  zero_free = zero_code refused program zero_free quiet_zero;
  named = own_names (refused_to_names refused program) st.program st.words has.stores has.groups no_told;
  still = λ none. omega (arith, quiet_zero (both_empty refused (further refused (map cause_refusal (reported_causes program))) none).0);
}
  where
    refused : List Refusal
    refused = read_refusals st

    program : Program
    program = with_words st.program st.words

    still : refused ≡ [] → (st.words ≡ []) × (stated_at 0 st.program + begun_at 0 st.program ≡ 0)
    still none = ((quiet (read_text source) st first (text-ordered source) none).1, (has.quiet none).1)

    zero_free : count_at 0 refused ≡ 0
    zero_free = omega (arith, count-append 0 st.tokens st.statements, before.above)

    quiet_zero : refused ≡ [] → stated_at 0 program + begun_at 0 program ≡ 0
    quiet_zero none =
        ap (λ words. stated_at 0 (with_words st.program words) + begun_at 0 (with_words st.program words)) (still none).0
        ∙ ap (λ whole. stated_at 0 whole + begun_at 0 whole) (no_words st.program) ∙ (still none).1

    no_told : refused_to_names refused program ≡ [] → (st.words ≡ []) × (stated_at 0 st.program + begun_at 0 st.program ≡ 0)
    no_told none = still (both_empty refused (further refused (map cause_refusal (reported_causes program))) none).0

pub read_ready : (source : List ℕ) → length source ≤ TEXT_BYTES → IsUtf8 source
    → IsReady (read_refusals (read_all source)) (with_words (read_all source).program (read_all source).words)
read_ready source short utf8 = found_ready source (all_read source).0 (read_all source) (first_read source) (all_read source).1 (all_named source short utf8)

pub names_are_defined : NamesAreDefined
names_are_defined source short utf8 =
    let ready = read_ready source short utf8 in
    names_done (read_refusals (read_all source)) (with_words (read_all source).program (read_all source).words) ready.apart ready.zero_free ready.named
