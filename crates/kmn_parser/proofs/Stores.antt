-- A store that a text can express is read as it is written.
use Rattle.std.proofs.Common.{◌≡◌, ◌≢◌, ℕ, Bool, true, false, ◌&&◌, if◌then◌else◌, List, [], ◌∷◌, ◌++◌, map, Option, None, Some, refl, sym, ◌∙◌, ap, subst}
use Rattle.std.specs.Prelude.{Ok, nat_eq, unwrap_or, option_map, filter_map}
use Rattle.std.specs.List.{list_all}
use Rattle.std.proofs.lemmas.Bool.{and_parts, ne_eqb, eqb-true, eqb-false, cond-true, cond-false}
use Rattle.std.proofs.lemmas.List.{append-nil}
use Rattle.kmn_base.specs.Names.{same_name}
use Rattle.kmn_base.specs.declared.codes.Code.TheVariants.{S02}
use Rattle.kmn_lines.specs.Tokens.{begins_forbidden}
use Rattle.kmn_lines.specs.declared.token.TokenKind.TheVariants as kind
use Rattle.rule_model.specs.declared.program.SrcItem.{SrcItem}
use Rattle.rule_model.specs.declared.program.SrcItem.TheVariants as source
use Rattle.rule_model.specs.declared.program.StoreDef.{StoreDef}
use Rattle.kmn_items.specs.declared.syntax.Where.TheVariants as section
use Rattle.kmn_items.specs.declared.syntax.Slot.TheVariants as slot
use Rattle.kmn_items.specs.TokenTexts.{LineToken}
use Rattle.kmn_items.specs.Words.{is_name, is_system_name}
use Rattle.kmn_items.specs.Slots.{unless, slot_fault}
use Rattle.kmn_items.specs.Item.{unseen, read_item}
use Rattle.kmn_parser.specs.Line.{system_stores, store_system}
use Rattle.kmn_parser.specs.Texts.{name_kind, name_token}
use Rattle.kmn_parser.specs.Items.{value_token, joined_items}
use Rattle.kmn_parser.specs.Statements.{system_name, store_name, item_char, content_pieces}
use Rattle.kmn_parser.specs.Spelled.{IsStoreName, IsSpelledValue, IsSpelledVersion, IsSpelledStore, AreSpelled}
use Rattle.kmn_parser.proofs.LineForms.{is_word_text, is_still_byte, tokens_in, IsTokenText, AreSound}
use Rattle.kmn_parser.proofs.Forms.{IsPrintedName}
use Rattle.kmn_parser.proofs.SoundItems.{wordy-name}
use Rattle.kmn_parser.proofs.Lines.{joined-sound}
use Rattle.kmn_parser.proofs.Items.{ReadsAs, store-name-fits}
use Rattle.kmn_parser.proofs.Sections.{tokens-joined, items_read}
use Rattle.kmn_parser.proofs.Names.{spelled_name}
use Rattle.kmn_parser.proofs.Values.{spelled_value}
use Rattle.kmn_parser.proofs.Keys.{found, answers, answer-is}
use Rattle.kmn_parser.proofs.SpelledItems.{spelled_items}

-- a store whose name and content are read as they are written
pub record IsPrintedStore (store : StoreDef) : Type 0 where
  pub named : IsPrintedName (store_name store)
  pub fits : slot_fault slot.StoreName (name_token (store_name store)) ≡ None
  pub known : store_system (store_name store) ≡ Some store.system
  pub kept : (if is_system_name (store_name store) then [] else store_name store) ≡ store.name
  pub sound : AreSound false true (content_pieces store)
  pub reads : ReadsAs section.Store unseen (tokens_in (content_pieces store)) store.items

-- what the name of a store requires
pub record IsReadName (system : ℕ) (kept name : List ℕ) : Type 0 where
  pub named : IsPrintedName name
  pub fits : slot_fault slot.StoreName (name_token name) ≡ None
  pub known : store_system name ≡ Some system
  pub keeps : (if is_system_name name then [] else name) ≡ kept

ordinary-name : (name : List ℕ) → IsStoreName name → IsReadName 0 name name
ordinary-name name ok =
    let named = spelled_name name ok.named in
    record {
      named = named;
      fits = store-name-fits name named ok.ordinary;
      known = cond-false (is_system_name name) _ _ ok.ordinary;
      keeps = cond-false (is_system_name name) _ _ ok.ordinary;
    }

-- the name of a system store is a word that names its id
is_written_name : List ℕ × ℕ → Bool
is_written_name row =
    is_word_text (38 ∷ row.0) && (list_all is_still_byte (38 ∷ row.0) && (is_name (38 ∷ row.0) && (is_name row.0 && answers (store_system (38 ∷ row.0)) row.1)))

system-named : list_all is_written_name system_stores ≡ true
unfolding is_written_name system_stores same_name begins_forbidden
system-named = refl

written-name : (row : List ℕ × ℕ) → is_written_name row ≡ true → IsReadName row.1 [] (38 ∷ row.0)
unfolding is_written_name
written-name row e =
    let a = and_parts (is_word_text (38 ∷ row.0)) _ e in
    let b = and_parts (list_all is_still_byte (38 ∷ row.0)) _ a.1 in
    let c = and_parts (is_name (38 ∷ row.0)) _ b.1 in
    let d = and_parts (is_name row.0) (answers (store_system (38 ∷ row.0)) row.1) c.1 in
    record {
      named = record { token = word-kind row.0 (a.0, b.0); fits = c.0 };
      fits = ap (λ t. unless (t && is_name row.0) S02) (wordy-name (38 ∷ row.0)) ∙ ap (λ t. unless t S02) d.0;
      known = answer-is (store_system (38 ∷ row.0)) row.1 d.1;
      keeps = refl;
    }
  where
    word-kind : (name : List ℕ) → IsTokenText kind.Word (38 ∷ name) → IsTokenText (name_kind (38 ∷ name)) (38 ∷ name)
    word-kind [] is = is
    word-kind (a ∷ []) is = is
    word-kind (a ∷ b ∷ bytes) is = is

system-name-read : (store : StoreDef) → IsSpelledStore store → store.system ≢ 0 → IsReadName store.system store.name (store_name store)
system-name-read store ok other =
    let known = ok.system other in
    let here = found (λ (row : List ℕ × ℕ). nat_eq row.1 store.system) is_written_name system_stores system-named known.0 in
    let row = here.row in
    let id : row.1 ≡ store.system = eqb-true row.1 store.system here.chosen in
    let name : store_name store ≡ 38 ∷ row.0 =
    cond-false (nat_eq store.system 0) _ _ (ne_eqb store.system 0 other)
    ∙ ap (λ (o : Option (List ℕ × ℕ)). 38 ∷ unwrap_or (option_map (λ row. row.0) o) []) here.is in
    subst (IsReadName store.system store.name) (sym name)
    (subst (λ (k : List ℕ). IsReadName store.system k (38 ∷ row.0)) (sym known.1) (subst (λ (n : ℕ). IsReadName n [] (38 ∷ row.0)) id (written-name row here.passes)))

name-read : (store : StoreDef) → IsSpelledStore store → IsReadName store.system store.name (store_name store)
name-read store ok = elim (nat_eq store.system 0) as (λ b. nat_eq store.system 0 ≡ b → IsReadName store.system store.name (store_name store)) [
  | true ↦ λ e.
      let none : store.system ≡ 0 = eqb-true store.system 0 e in
      subst (IsReadName store.system store.name) (sym (cond-true (nat_eq store.system 0) store.name (system_name store.system) e))
      (subst (λ (n : ℕ). IsReadName n store.name store.name) (sym none) (ordinary-name store.name (ok.ordinary none)))
  | false ↦ λ e. system-name-read store ok (eqb-false store.system 0 e)
] refl

-- what the content of a store requires
pub record IsReadContent (items : List SrcItem) (pieces : List (Option LineToken)) : Type 0 where
  pub sound : AreSound false true pieces
  pub reads : ReadsAs section.Store unseen (tokens_in pieces) items

pub chars-back : (value : List ℕ) → filter_map item_char (map source.Char value) ≡ value
chars-back [] = refl
chars-back (c ∷ value) = ap (λ (cs : List ℕ). c ∷ cs) (chars-back value)

version-read : (value : List ℕ) → IsSpelledValue value → IsReadContent (map source.Char value) (None ∷ Some (value_token value) ∷ [])
unfolding read_item
version-read value ok =
    let read = spelled_value value ok in
    record {
      sound = (read.sound, tt, refl);
      reads = λ last at. ap (λ (cs : List ℕ). Ok (map source.Char cs ++ [])) read.read ∙ ap Ok (append-nil (map source.Char value));
    }

items-read : (items : List SrcItem) → AreSpelled section.Store unseen items → IsReadContent items (joined_items items)
items-read items ok =
    let printed = spelled_items section.Store unseen items ok in
    record {
      sound = joined-sound section.Store unseen items printed;
      reads = subst (λ (ts : List LineToken). ReadsAs section.Store unseen ts items) (sym (tokens-joined items)) (items_read section.Store unseen items printed);
    }

version-content : (items : List SrcItem) → IsSpelledVersion items → IsReadContent items (None ∷ Some (value_token (filter_map item_char items)) ∷ [])
version-content items ok =
    subst (λ (is : List SrcItem). IsReadContent is (None ∷ Some (value_token (filter_map item_char is)) ∷ [])) (sym ok.1)
    (subst (λ (cs : List ℕ). IsReadContent (map source.Char ok.0) (None ∷ Some (value_token cs) ∷ [])) (sym (chars-back ok.0)) (version-read ok.0 ok.2))

content-read : (store : StoreDef) → IsSpelledStore store → IsReadContent store.items (content_pieces store)
content-read store ok = elim (nat_eq store.system 8) as (λ b. nat_eq store.system 8 ≡ b → IsReadContent store.items (content_pieces store)) [
  | true ↦ λ e. subst (IsReadContent store.items) (sym (cond-true (nat_eq store.system 8) _ _ e)) (version-content store.items (ok.version (eqb-true store.system 8 e)))
  | false ↦ λ e. subst (IsReadContent store.items) (sym (cond-false (nat_eq store.system 8) _ _ e)) (items-read store.items (ok.content (eqb-false store.system 8 e)))
] refl

pub spelled_store : (store : StoreDef) → IsSpelledStore store → IsPrintedStore store
spelled_store store ok =
    let name = name-read store ok in
    let content = content-read store ok in
    record { named = name.named; fits = name.fits; known = name.known; kept = name.keeps; sound = content.sound; reads = content.reads }
