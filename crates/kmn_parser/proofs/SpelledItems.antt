-- Items that a text can express are read as they are written.
use Rattle.std.proofs.Common.{◌≡◌, ℕ, ◌<◌, true, false, ◌||◌, List, [], ◌∷◌, length, refl, sym, subst, arith}
use Rattle.std.specs.Prelude.{nat_eq}
use Rattle.std.proofs.lemmas.Bool.{eqb-true, or_right}
use Rattle.kmn_base.specs.Names.{same_name}
use Rattle.kmn_lines.specs.Tokens.{begins_forbidden}
use Rattle.rule_model.specs.declared.program.KeyName.{KeyName}
use Rattle.rule_model.specs.declared.program.SrcItem.{SrcItem}
use Rattle.rule_model.specs.declared.program.SrcItem.TheVariants as source
use Rattle.kmn_items.specs.declared.syntax.Where.{Where}
use Rattle.kmn_items.specs.declared.syntax.Where.TheVariants as section
use Rattle.kmn_items.specs.declared.syntax.Seen.{Seen}
use Rattle.kmn_items.specs.Brackets.{key_item}
use Rattle.kmn_items.specs.Forms.{option_ids, is_option_id}
use Rattle.kmn_parser.specs.Items.{item_pieces}
use Rattle.kmn_parser.specs.Spelled.{IsStoreName, IsSpelledValue, keeps_keys, IsSpelledItem, item_lead, seen_lead, AreSpelled}
use Rattle.kmn_parser.proofs.LineForms.{tokens_in}
use Rattle.kmn_parser.proofs.Forms.{IsPrintedOption, IsPrintedSystem, IsPrinted, ArePrinted}
use Rattle.kmn_parser.proofs.Names.{spelled_name}
use Rattle.kmn_parser.proofs.Values.{spelled_value}
use Rattle.kmn_parser.proofs.Offsets.{spelled_offset}
use Rattle.kmn_parser.proofs.Keys.{spelled_key}

key-stays : (place : Where) (key : KeyName) → keeps_keys place ≡ true → key_item place key ≡ source.Key key
key-stays section.Output key e = absurd cc
key-stays section.Store key e = refl
key-stays section.Context key e = refl
key-stays section.Key key e = refl

spelled-option : (name value : List ℕ) → IsStoreName name → IsSpelledValue value → IsPrintedOption name value
spelled-option name value ok fits =
    let read = spelled_value value fits in
    record { named = spelled_name name ok.named; ordinary = ok.ordinary; read = read.read; sound = read.sound }

-- a property of both system options
option-cases : (P : ℕ → Type 0) (id : ℕ) → is_option_id id ≡ true → P 31 → P 33 → P id
option-cases P id known platform layer = elim (nat_eq id 31) as (λ b. nat_eq id 31 ≡ b → (b || nat_eq id 33) ≡ true → P id) [
  | true ↦ λ e f. subst P (sym (eqb-true id 31 e)) platform
  | false ↦ λ e f. subst P (sym (eqb-true id 33 f)) layer
] refl known

spelled-system : (id : ℕ) (value : List ℕ) → is_option_id id ≡ true → IsSpelledValue value → IsPrintedSystem id value
unfolding option_ids same_name begins_forbidden
spelled-system id value known fits =
    let read = spelled_value value fits in
    option-cases (λ n. IsPrintedSystem n value) id known
    (record { named = record { token = (refl, refl); fits = refl }; system = refl; bare = refl; known = refl; read = read.read; sound = read.sound })
    (record { named = record { token = (refl, refl); fits = refl }; system = refl; bare = refl; known = refl; read = read.read; sound = read.sound })

pub spelled_item : (place : Where) (i : SrcItem) → IsSpelledItem place i → IsPrinted place i
spelled_item place (source.Char c) ok = ok
spelled_item place (source.Dead name) ok = spelled_name name ok
spelled_item place (source.Key key) ok = (spelled_key key ok.1, key-stays place key ok.0)
spelled_item place (source.Any name) ok = spelled_name name ok
spelled_item place (source.NotAny name) ok = spelled_name name ok
spelled_item place (source.Index name offset) ok = (spelled_name name ok.0, spelled_offset offset ok.1)
spelled_item place source.Context ok = tt
spelled_item place (source.ContextAt offset) ok = spelled_offset offset ok
spelled_item place (source.Equal name value) ok = spelled-option name value ok.0 ok.1
spelled_item place (source.Unequal name value) ok = spelled-option name value ok.0 ok.1
spelled_item place (source.SystemEqual id value) ok = spelled-system id value ok.0 ok.1
spelled_item place (source.SystemUnequal id value) ok = spelled-system id value ok.0 ok.1
spelled_item place source.Nul ok = tt
spelled_item place (source.Enter name) ok = spelled_name name ok
spelled_item place (source.Set name value) ok = spelled-option name value ok.0 ok.1
spelled_item place (source.SetSystem id value) ok = (ok.0, spelled-system id value (or_right (nat_eq id 31) _ ok.0) ok.1)
spelled_item place (source.Save name) ok = spelled_name name ok
spelled_item place (source.Reset name) ok = spelled_name name ok
spelled_item place source.Beep ok = tt
spelled_item place source.Stop ok = tt
spelled_item place other ok = absurd ok

pub spelled_items : (place : Where) (seen : Seen) (items : List SrcItem) → AreSpelled place seen items → ArePrinted place seen items
spelled_items place seen [] ok = tt
spelled_items place seen (i ∷ items) (ok, stands, more) = (spelled_item place i ok, stands, spelled_items place (seen_lead seen (item_lead i)) items more)

-- an item that is written has a token
pub item_some : (place : Where) (i : SrcItem) → IsPrinted place i → 0 < length (tokens_in (item_pieces i))
item_some place (source.Outs name) ok = absurd ok
item_some place (source.Call name) ok = absurd ok
item_some place source.OutOfProfile ok = absurd ok
item_some place i ok = omega arith
