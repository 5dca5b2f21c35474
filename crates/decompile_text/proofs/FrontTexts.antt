-- The text of tables is the text of their program.
use Rattle.std.proofs.Common.{◌≡◌, ℕ, ◌+◌, Bool, true, false, nat_eq, if◌then◌else◌, List, [], ◌∷◌, ◌++◌, length, drop, Some, None, map, flat_map, refl, sym, ap, ◌∙◌, append_assoc, append-nil, codes}
use Rattle.std.specs.Prelude.{slice_get, unwrap_or, option_map}
use Rattle.std.specs.List.{range_with_len}
use Rattle.std.specs.Fmt.{decimal}
use lib.Utf8 as utf8
use Rattle.rule_model.specs.declared.program.SrcItem.{SrcItem}
use Rattle.rule_model.specs.declared.program.SrcItem.TheVariants as source
use Rattle.rule_model.specs.declared.program.StoreDef.{StoreDef}
use Rattle.rule_model.specs.declared.program.BeginDef.{BeginDef}
use Rattle.rule_model.specs.declared.program.GroupDef.{GroupDef}
use Rattle.rule_model.specs.declared.tables.Tables.{Tables}
use Rattle.rule_model.specs.Tab.{tab_dictionary}
use Rattle.kmn_parser.specs.Line.{system_stores}
use Rattle.kmn_parser.specs.Printed.{printed, sheet}
use Rattle.kmn_parser.specs.Items.{joined_items, value_token}
use Rattle.kmn_parser.specs.Statements.{store_pieces, begin_pieces}
use Rattle.kmn_parser.specs.Programs.{program_text, group_lines}
use Rattle.kmn_parser.proofs.Stores.{chars-back}
use Rattle.kmn_parser.proofs.Lengths.{sheet_append}
use Rattle.decompile_program.specs.Items.{Names, group_called}
use Rattle.decompile_program.specs.Marks.{greatest_mark}
use Rattle.decompile_program.specs.Names.{named_stores}
use Rattle.kmx_format.specs.Versions.{version_text}
use Rattle.decompile_program.specs.Back.{back, names_for, numbered, version_store, key_store, mark_stores, key_stores, front_stores, free_stores, back_stores, written_stores, written_begins, written_groups}
use Rattle.decompile_text.specs.Texts.{call_text, version_line, marks_text, mark_line, keys_line, key_line, stores_text, begin_text, begins_text, groups_text}
use Rattle.decompile_text.specs.Whole.{front_text, tables_text}
use Rattle.decompile_text.proofs.LineTexts.{printed_marks, printed_keys}
use Rattle.decompile_text.proofs.StoreTexts.{called_stores, printed_stores}
use Rattle.decompile_text.proofs.WholeTexts.{statements_append, printed_groups}

-- each version is written in digits and a point
plain_version : (a b c d e f g h i : Bool)
    → (value_token (unwrap_or (option_map (λ (row : List ℕ × ℕ). row.0) (if a then Some (codes "6.0", 0x0600) else if b then Some (codes "7.0", 0x0700) else if c then Some (codes "8.0", 0x0800) else if d then Some (codes "9.0", 0x0900) else if e then Some (codes "10.0", 0x0A00) else if f then Some (codes "14.0", 0x0E00) else if g then Some (codes "15.0", 0x0F00) else if h then Some (codes "16.0", 0x1000) else if i then Some (codes "17.0", 0x1100) else None)) [])).text
    ≡ 34 ∷ (unwrap_or (option_map (λ (row : List ℕ × ℕ). row.0) (if a then Some (codes "6.0", 0x0600) else if b then Some (codes "7.0", 0x0700) else if c then Some (codes "8.0", 0x0800) else if d then Some (codes "9.0", 0x0900) else if e then Some (codes "10.0", 0x0A00) else if f then Some (codes "14.0", 0x0E00) else if g then Some (codes "15.0", 0x0F00) else if h then Some (codes "16.0", 0x1000) else if i then Some (codes "17.0", 0x1100) else None)) [] ++ 34 ∷ [])
unfolding utf8.encode
plain_version true b c d e f g h i = refl
plain_version false true c d e f g h i = refl
plain_version false false true d e f g h i = refl
plain_version false false false true e f g h i = refl
plain_version false false false false true f g h i = refl
plain_version false false false false false true g h i = refl
plain_version false false false false false false true h i = refl
plain_version false false false false false false false true i = refl
plain_version false false false false false false false false true = refl
plain_version false false false false false false false false false = refl

quoted_version : (version : ℕ) → (value_token (version_text version)).text ≡ 34 ∷ (version_text version ++ 34 ∷ [])
quoted_version version =
    plain_version (nat_eq 0x0600 version) (nat_eq 0x0700 version) (nat_eq 0x0800 version) (nat_eq 0x0900 version) (nat_eq 0x0A00 version) (nat_eq 0x0E00 version) (nat_eq 0x0F00 version) (nat_eq 0x1000 version) (nat_eq 0x1100 version)

-- the line of the version, and what follows
printed_version : (version line : ℕ) (rest : List ℕ) → printed (store_pieces (version_store version line)) ++ 10 ∷ rest ≡ version_line version ++ rest
unfolding system_stores
printed_version version line rest =
    ap (λ (text : List ℕ). (codes "store(&version) " ++ ((value_token text).text ++ [])) ++ 10 ∷ rest) (chars-back (version_text version))
    ∙ ap (λ (text : List ℕ). (codes "store(&version) " ++ (text ++ [])) ++ 10 ∷ rest) (quoted_version version)
    ∙ ap (λ (text : List ℕ). codes "store(&version) \"" ++ (text ++ 10 ∷ rest)) (append-nil (version_text version ++ 34 ∷ []))
    ∙ ap (λ (text : List ℕ). codes "store(&version) \"" ++ text) (append_assoc (version_text version) (34 ∷ []) (10 ∷ rest) ∙ sym (append_assoc (version_text version) (34 ∷ 10 ∷ []) rest))

-- the line of a front store with its items, and what follows
front_line : (line : ℕ) (name : List ℕ) (items : List SrcItem) (text rest : List ℕ) → printed (joined_items items) ≡ text
    → printed (store_pieces (record { line = line; system = 0; name = name; items = items })) ++ 10 ∷ rest ≡ (call_text (codes "store") name ++ (text ++ 10 ∷ [])) ++ rest
front_line line name items text rest e =
    ap (λ (found : List ℕ). (codes "store(" ++ (name ++ 41 ∷ found)) ++ 10 ∷ rest) e
    ∙ ap (λ (found : List ℕ). codes "store(" ++ found)
    (append_assoc name (41 ∷ text) (10 ∷ rest)
    ∙ sym (append_assoc (name ++ 41 ∷ []) (text ++ 10 ∷ []) rest ∙ append_assoc name (41 ∷ []) ((text ++ 10 ∷ []) ++ rest)
    ∙ ap (λ (found : List ℕ). name ++ 41 ∷ found) (append_assoc text (10 ∷ []) rest)))

-- the line of the key store, and the line of the deadkey store with the lines after it
printed_key_store : (line : ℕ) (name : List ℕ) (keys : List (List ℕ)) → sheet (map store_pieces (numbered line (key_store name keys))) ≡ key_line name keys
printed_key_store line name [] = refl
printed_key_store line name (key ∷ keys) =
    front_line line name (map (λ (name : List ℕ). source.Key (record { flags = 0x4000; code = 0; name = name })) (key ∷ keys)) (keys_line (key ∷ keys)) [] (printed_keys (key ∷ keys))
    ∙ append-nil (call_text (codes "store") name ++ (keys_line (key ∷ keys) ++ 10 ∷ []))

printed_mark_store : (line : ℕ) (name : List ℕ) (count : ℕ) (none : Bool) (others : List (ℕ → StoreDef)) (rest : List ℕ)
    → ((line : ℕ) → sheet (map store_pieces (numbered line others)) ≡ rest)
    → sheet (map store_pieces (numbered line ((if none then [] else (λ line. record { line = line; system = 0; name = name; items = map (λ m. source.Dead (decimal m)) (range_with_len 1 count) }) ∷ []) ++ others)))
    ≡ (if none then [] else call_text (codes "store") name ++ (marks_text (range_with_len 1 count) ++ 10 ∷ [])) ++ rest
printed_mark_store line name count true others rest h = h line
printed_mark_store line name count false others rest h =
    front_line line name (map (λ m. source.Dead (decimal m)) (range_with_len 1 count)) (marks_text (range_with_len 1 count)) (sheet (map store_pieces (numbered (line + 1) others))) (printed_marks (range_with_len 1 count))
    ∙ ap (λ (text : List ℕ). (call_text (codes "store") name ++ (marks_text (range_with_len 1 count) ++ 10 ∷ [])) ++ text) (h (line + 1))

-- the lines of the front stores
printed_front : (tables : Tables) → sheet (map store_pieces (numbered 1 (front_stores tables)))
    ≡ version_line tables.version ++ (mark_line (unwrap_or (slice_get (free_stores tables) 0) []) (greatest_mark tables)
    ++ key_line (unwrap_or (slice_get (free_stores tables) (length (mark_stores tables))) []) (tab_dictionary tables.stores))
printed_front tables =
    printed_version tables.version 1 _
    ∙ ap (λ (text : List ℕ). version_line tables.version ++ text)
    (printed_mark_store 2 (unwrap_or (slice_get (free_stores tables) 0) []) (greatest_mark tables) (nat_eq (greatest_mark tables) 0) (key_stores tables) _
    (λ line. printed_key_store line (unwrap_or (slice_get (free_stores tables) (length (mark_stores tables))) []) (tab_dictionary tables.stores)))

-- the lines of the begin statements
printed_begin : (line : ℕ) (unicode : Bool) (name rest : List ℕ) → printed (begin_pieces (record { line = line; unicode = unicode; group = name })) ++ 10 ∷ rest ≡ begin_text (if unicode then codes "Unicode" else codes "ANSI") name ++ rest
unfolding begin_text
printed_begin line true name rest = ap (λ (text : List ℕ). codes "begin Unicode > use(" ++ text) (append_assoc name (41 ∷ []) (10 ∷ rest) ∙ sym (append_assoc (name ++ 41 ∷ []) (10 ∷ []) rest ∙ append_assoc name (41 ∷ []) (10 ∷ rest)))
printed_begin line false name rest = ap (λ (text : List ℕ). codes "begin ANSI > use(" ++ text) (append_assoc name (41 ∷ []) (10 ∷ rest) ∙ sym (append_assoc (name ++ 41 ∷ []) (10 ∷ []) rest ∙ append_assoc name (41 ∷ []) (10 ∷ rest)))

begins_by : (names : Names) (line unicode ansi : ℕ) (none : Bool)
    → sheet (map begin_pieces (record { line = line; unicode = true; group = group_called names unicode } ∷ (if none then [] else record { line = line + 1; unicode = false; group = group_called names ansi } ∷ [])))
    ≡ begin_text (codes "Unicode") (group_called names unicode) ++ (if none then [] else begin_text (codes "ANSI") (group_called names ansi))
begins_by names line unicode ansi true = printed_begin line true (group_called names unicode) []
begins_by names line unicode ansi false =
    printed_begin line true (group_called names unicode) (sheet (map begin_pieces (record { line = line + 1; unicode = false; group = group_called names ansi } ∷ [])))
    ∙ ap (λ (text : List ℕ). begin_text (codes "Unicode") (group_called names unicode) ++ text)
    (printed_begin (line + 1) false (group_called names ansi) [] ∙ append-nil (begin_text (codes "ANSI") (group_called names ansi)))

-- the text of the program of tables is the text of the tables, appended part by part
pub text_of_tables : (tables : Tables) → program_text (back tables) ≡ tables_text tables
unfolding program_text back tables_text
text_of_tables tables =
    let names : Names = names_for tables in
    let front : List StoreDef = numbered 1 (front_stores tables) in
    let line : ℕ = 1 + length (front_stores tables) in
    let stores : List StoreDef = back_stores names line names.stores tables.stores in
    let begin_line : ℕ = 1 + length (written_stores tables) in
    let begins : List BeginDef = written_begins tables in
    let groups : List GroupDef = written_groups tables in
    let left : List (List ℕ) = drop (length (mark_stores tables ++ key_stores tables)) (free_stores tables) in
    let top : List ℕ = front_text tables ++ stores_text names 0 tables.stores in
    let over : sheet (map store_pieces (front ++ stores)) ≡ top =
    statements_append store_pieces front stores
    ∙ ap (λ (text : List ℕ). text ++ sheet (map store_pieces stores)) (printed_front tables)
    ∙ ap (λ (text : List ℕ). front_text tables ++ text) (printed_stores names line tables.stores (called_stores (named_stores tables) left [] 0 tables.stores)) in
    let under : sheet (map begin_pieces begins ++ flat_map group_lines groups) ≡ begins_text names tables.start_unicode tables.start_ansi ++ groups_text names 0 tables.groups =
    sheet_append (map begin_pieces begins) (flat_map group_lines groups)
    ∙ ap (λ (text : List ℕ). text ++ sheet (flat_map group_lines groups)) (begins_by names begin_line tables.start_unicode tables.start_ansi (nat_eq tables.start_ansi 0xFFFF_FFFF))
    ∙ ap (λ (text : List ℕ). begins_text names tables.start_unicode tables.start_ansi ++ text) (printed_groups names (1 + length (written_stores tables) + length begins) tables.groups) in
    sheet_append (map store_pieces (front ++ stores)) (map begin_pieces begins ++ flat_map group_lines groups)
    ∙ ap (λ (text : List ℕ). text ++ sheet (map begin_pieces begins ++ flat_map group_lines groups)) over
    ∙ ap (λ (text : List ℕ). top ++ text) under
