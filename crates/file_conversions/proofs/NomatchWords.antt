-- Nomatch outputs set in place: the number of bytes stays, a loop sets group by group, nothing is set if all groups use keys, and a file
-- that is opened for this is valid and has few groups.
use Rattle.std.proofs.Common.{◌≡◌, ℕ, zero, suc, ◌+◌, ◌*◌, ◌<◌, ◌≤◌, Bool, true, false, not, ◌&&◌, nat_eq, List, [], ◌∷◌, length, drop, get_or, Option, Some, None, refl, sym, ap, ap₂, subst, ◌∙◌, arith, if◌then◌else◌}
use Rattle.std.specs.Prelude.{nat_lt}
use Rattle.std.specs.List.{position_or_len}
use Rattle.std.proofs.lemmas.Bool.{false≢true}
use Rattle.std.proofs.lemmas.List.{drop_more}
use Rattle.std.proofs.lemmas.Option.{none-some}
use Rattle.kmn_base.specs.declared.limits.TheConstants.{GROUPS}
use Rattle.rule_model.specs.declared.tables.Group.{Group}
use Rattle.rule_model.specs.declared.tables.Tables.{Tables}
use Rattle.kmx_format.specs.Playable.{IsPlayable}
use Rattle.kmx_format.specs.declared.places.TheConstants.{GROUPS_AT}
use Rattle.kmx_format.specs.TablesOf.{word_at, uses_keys_at, group_at, groups_from, tables_of}
use Rattle.kmx_view.specs.View.{group_count}
use Rattle.kmx_verifier.specs.declared.faults.Fault.{Fault}
use Rattle.kmx_verifier.specs.FaultOf.{fault_of, IsValid}
use Rattle.core_conversions.specs.Conversions.{has_empty_context, can_have_nomatch, nomatch_rule}
use Rattle.file_conversions.specs.Words.{with_word}
use Rattle.file_conversions.specs.NomatchWords.{output_word, nomatch_from, nomatch_groups, nomatch_bytes, groups_use_keys, all_use_keys}
use Rattle.file_conversions.proofs.ReplacedWords.{length-with_word}

-- a valid file isn't refused
pub never_refused : (bytes : List ℕ) (fault : Fault) (A : Type 0) → IsValid bytes → fault_of bytes ≡ Some fault → A
never_refused bytes fault A valid faulty = absurd (none-some fault (sym valid ∙ faulty))

-- a file that can be played has few groups
pub few_groups : (tables other : Tables) → tables ≡ other → IsPlayable other → length tables.groups ≤ GROUPS
few_groups tables other is playable = subst (λ (t : Tables). length t.groups ≤ GROUPS) (sym is) playable.group_count

-- ---- the number of bytes

module _ (bytes : List ℕ) where
  from_size : (place : ℕ) (rule : Option ℕ) (out : List ℕ) → length (nomatch_from bytes place rule out) ≡ length out
  from_size place None out = refl
  from_size place (Some rule) out = by (nat_lt rule (word_at bytes (place + 16)))
    where
      by : (b : Bool) → length (if b then with_word (place + 12) (output_word bytes place rule) out else out) ≡ length out
      by true = length-with_word (place + 12) (output_word bytes place rule) out
      by false = refl

  groups_size : (place : ℕ) (groups : List Group) (out : List ℕ) → length (nomatch_groups bytes place groups out) ≡ length out
  groups_size place [] out = refl
  groups_size place (group ∷ groups) out =
      groups_size (place + 24) groups (nomatch_from bytes place (nomatch_rule group) out) ∙ from_size place (nomatch_rule group) out

pub nomatch_size : (bytes : List ℕ) → length (nomatch_bytes bytes) ≡ length bytes
unfolding nomatch_bytes
nomatch_size bytes = groups_size bytes (word_at bytes GROUPS_AT) (tables_of bytes).groups bytes

-- ---- the loop over groups

-- the loop keeps its result as it passes a group
pub group_passed : (bytes : List ℕ) (place i : ℕ) (groups : List Group) (d group : Group) (rule : Option ℕ) (out after answer : List ℕ) → i < length groups → group ≡ get_or groups i d
    → rule ≡ nomatch_rule group → after ≡ nomatch_from bytes (place + 24 * i) rule out
    → nomatch_groups bytes (place + 24 * i) (drop i groups) out ≡ answer → nomatch_groups bytes (place + 24 * (i + 1)) (drop (i + 1) groups) after ≡ answer
group_passed bytes place i groups d group rule out after answer within at same is so_far =
    let first : drop i groups ≡ group ∷ drop (i + 1) groups = drop_more groups i d within ∙ ap (λ (g : Group). g ∷ drop (i + 1) groups) (sym at) in
    let next : place + 24 * i + 24 ≡ place + 24 * (i + 1) = omega arith in
    sym (ap (λ (list : List Group). nomatch_groups bytes (place + 24 * i) list out) first
    ∙ ap₂ (λ (p : ℕ) (xs : List ℕ). nomatch_groups bytes p (drop (i + 1) groups) xs) next
    (sym (is ∙ ap (λ (r : Option ℕ). nomatch_from bytes (place + 24 * i) r out) same)))
    ∙ so_far

-- ---- groups that use keys

keyed_group : (group : Group) → group.using_keys ≡ true → nomatch_rule group ≡ None
keyed_group group keys =
    let first : ℕ = position_or_len has_empty_context group.rules in
    ap (λ (b : Bool). if (not b && nat_eq (length group.on_nomatch) 0) && can_have_nomatch group.on_match (drop first group.rules) then Some first else None) keys

module _ (bytes : List ℕ) where
  keyed_by : (uses : Bool) (place count : ℕ) (out : List ℕ) → uses_keys_at bytes place ≡ uses
      → (groups_use_keys bytes (place + 24) count ≡ true → nomatch_groups bytes (place + 24) (groups_from bytes (place + 24) count) out ≡ out)
      → (uses && groups_use_keys bytes (place + 24) count) ≡ true
      → nomatch_groups bytes (place + 24) (groups_from bytes (place + 24) count) (nomatch_from bytes place (nomatch_rule (group_at bytes place)) out) ≡ out
  keyed_by true place count out is later keyed =
      ap (λ (rule : Option ℕ). nomatch_groups bytes (place + 24) (groups_from bytes (place + 24) count) (nomatch_from bytes place rule out)) (keyed_group (group_at bytes place) is)
      ∙ later keyed
  keyed_by false place count out is later keyed = absurd (false≢true keyed)

  keyed_groups : (place count : ℕ) (out : List ℕ) → groups_use_keys bytes place count ≡ true → nomatch_groups bytes place (groups_from bytes place count) out ≡ out
  keyed_groups place zero out keyed = refl
  keyed_groups place (suc count) out keyed = keyed_by (uses_keys_at bytes place) place count out refl (λ rest. keyed_groups (place + 24) count out rest) keyed

keyed_bytes : (bytes : List ℕ) → all_use_keys bytes ≡ true → nomatch_bytes bytes ≡ bytes
unfolding nomatch_bytes tables_of
keyed_bytes bytes keyed = keyed_groups bytes (word_at bytes GROUPS_AT) (group_count bytes) bytes keyed

-- a copy of a file whose groups all use keys
pub keyed_copy : (bytes copy : List ℕ) (keyed : Bool) → keyed ≡ all_use_keys bytes → keyed ≡ true → copy ≡ bytes → copy ≡ nomatch_bytes bytes
keyed_copy bytes copy keyed is told same = same ∙ sym (keyed_bytes bytes (sym is ∙ told))
