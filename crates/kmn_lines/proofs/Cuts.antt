-- The text of a physical line ends at the first comment or joining backslash.
use Rattle.std.proofs.Common.{◌≡◌, ℕ, ◌+◌, ◌<◌, ◌≤◌, ◌⊎◌, inl, inr, Bool, true, false, ◌&&◌, ◌||◌, not, if◌then◌else◌, ◌==◌, List, [], ◌∷◌, ◌++◌, length, take, drop, Option, None, Some, is_some, refl, sym, ◌∙◌, ap, subst, arith, length-append, length-drop, append_assoc, below_more}
use Rattle.std.specs.Prelude.{All, unwrap_or}
use Rattle.std.specs.List.{list_all}
use Rattle.std.proofs.Math.Seq.{take-append_seam, drop-append_seam}
use Rattle.std.proofs.lemmas.Bool.{eqb-true, and_from, and_left, and_right, and_parts, or_parts, or_cases, cond_both, cond-false, cond-true}
use Rattle.std.proofs.lemmas.List.{append-nil, take-append-le, drop-append-le}
use Rattle.std.proofs.lemmas.List.Elements.{All-head, All-tail}
use Rattle.kmn_base.specs.Bytes.{is_blank, is_quote}
use Rattle.kmn_lines.specs.declared.line_state.LineState.{LineState}
use Rattle.kmn_lines.specs.Lines.{starts_comment, line_start, outside, in_line, after_byte}
use Rattle.kmn_lines.specs.Laws.{quote_behind, open_quote, first_or, last_or, is_outside, is_lone_c, comment_at, is_lone_backslash, joint_at, IsInLine, IsCut}

-- combined tests
and-still : (a b c : Bool) → (a && b) ≡ false → (b ≡ false → c ≡ false) → (a && c) ≡ false
and-still true b c h f = f h
and-still false b c h f = refl

-- a blank is not a c, a backslash or a quote
blank-is : (byte : ℕ) → is_blank byte ≡ true → (byte ≡ 32) ⊎ (byte ≡ 9)
blank-is byte h = elim (or_cases (byte == 32) (byte == 9) h) [ inl e ↦ inl (eqb-true byte 32 e) | inr e ↦ inr (eqb-true byte 9 e) ]

blank-no_c : (byte : ℕ) → is_blank byte ≡ true → ((byte == 99) || (byte == 67)) ≡ false
blank-no_c byte h =
    let none : ℕ → Type 0 = λ b. ((b == 99) || (b == 67)) ≡ false in
    elim (blank-is byte h) [ inl e ↦ subst none (sym e) refl | inr e ↦ subst none (sym e) refl ]

blank-no_backslash : (byte : ℕ) → is_blank byte ≡ true → (byte == 92) ≡ false
blank-no_backslash byte h =
    let none : ℕ → Type 0 = λ b. (b == 92) ≡ false in
    elim (blank-is byte h) [ inl e ↦ subst none (sym e) refl | inr e ↦ subst none (sym e) refl ]

blank-no_quote : (byte : ℕ) → is_blank byte ≡ true → is_quote byte ≡ false
blank-no_quote byte h =
    let none : ℕ → Type 0 = λ b. is_quote b ≡ false in
    elim (blank-is byte h) [ inl e ↦ subst none (sym e) refl | inr e ↦ subst none (sym e) refl ]

quote-no_blank : (byte : ℕ) → is_quote byte ≡ true → is_blank byte ≡ false
quote-no_blank byte h =
    let none : ℕ → Type 0 = λ b. is_blank b ≡ false in
    elim (or_cases (byte == 34) (byte == 39) h) [ inl e ↦ subst none (sym (eqb-true byte 34 e)) refl | inr e ↦ subst none (sym (eqb-true byte 39 e)) refl ]

-- what is known of a text with another byte appended
open_quote-more : (quote : Option ℕ) (text : List ℕ) (byte : ℕ) → open_quote quote (text ++ byte ∷ []) ≡ quote_behind (open_quote quote text) byte
open_quote-more quote [] byte = refl
open_quote-more quote (x ∷ xs) byte = open_quote-more (quote_behind quote x) xs byte

last_or-more : (other : ℕ) (text : List ℕ) (byte : ℕ) → last_or other (text ++ byte ∷ []) ≡ byte
last_or-more other [] byte = refl
last_or-more other (x ∷ xs) byte = last_or-more x xs byte

all-blank_less : (text : List ℕ) (byte : ℕ) → list_all is_blank text ≡ false → list_all is_blank (text ++ byte ∷ []) ≡ false
all-blank_less [] byte h = absurd cc
all-blank_less (x ∷ xs) byte h = and-still (is_blank x) (list_all is_blank xs) _ h (all-blank_less xs byte)

all-blank_more : (text : List ℕ) (byte : ℕ) → list_all is_blank text ≡ true → is_blank byte ≡ true → list_all is_blank (text ++ byte ∷ []) ≡ true
all-blank_more [] byte h b = and_from (is_blank byte) true b refl
all-blank_more (x ∷ xs) byte h b = let both = and_parts (is_blank x) (list_all is_blank xs) h in and_from (is_blank x) _ both.0 (all-blank_more xs byte both.1 b)

all-blank_not : (text : List ℕ) (byte : ℕ) (bytes : List ℕ) → is_blank byte ≡ false → list_all is_blank (text ++ byte ∷ bytes) ≡ false
all-blank_not [] byte bytes b = and_left (is_blank byte) _ b
all-blank_not (x ∷ xs) byte bytes b = and_right (is_blank x) _ (all-blank_not xs byte bytes b)

lone-less : (text : List ℕ) (byte : ℕ) → 0 < length text → is_lone_backslash text ≡ false → is_lone_backslash (text ++ byte ∷ []) ≡ false
lone-less [] byte l h = absurd (omega arith)
lone-less (x ∷ xs) byte l h = and-still (x == 92) (list_all is_blank xs) _ h (all-blank_less xs byte)

lone-more : (text : List ℕ) (byte : ℕ) → is_lone_backslash text ≡ true → is_blank byte ≡ true → is_lone_backslash (text ++ byte ∷ []) ≡ true
lone-more [] byte h b = absurd cc
lone-more (x ∷ xs) byte h b = let both = and_parts (x == 92) (list_all is_blank xs) h in and_from (x == 92) _ both.0 (all-blank_more xs byte both.1 b)

lone-not : (text : List ℕ) (byte : ℕ) (bytes : List ℕ) → 0 < length text → is_blank byte ≡ false → is_lone_backslash (text ++ byte ∷ bytes) ≡ false
lone-not [] byte bytes l b = absurd (omega arith)
lone-not (x ∷ xs) byte bytes l b = and_right (x == 92) _ (all-blank_not xs byte bytes b)

abbrev comment_between : List ℕ → List ℕ → Bool
comment_between before behind = not (is_some (open_quote None before)) && (is_blank (last_or 32 before) && is_lone_c behind)

abbrev joint_between : List ℕ → List ℕ → Bool
joint_between before behind = not (is_some (open_quote None before)) && is_lone_backslash behind

-- the bytes where two texts join
comment-seam : (before behind : List ℕ) → comment_at (before ++ behind) (length before) ≡ comment_between before behind
comment-seam before behind =
    ap (λ (t : List ℕ). comment_between t (drop (length before) (before ++ behind))) (take-append_seam before behind)
    ∙ ap (λ (t : List ℕ). comment_between before t) (drop-append_seam before behind)

joint-seam : (before behind : List ℕ) → joint_at (before ++ behind) (length before) ≡ joint_between before behind
joint-seam before behind =
    ap (λ (t : List ℕ). joint_between t (drop (length before) (before ++ behind))) (take-append_seam before behind)
    ∙ ap (λ (t : List ℕ). joint_between before t) (drop-append_seam before behind)

joint-within : (before behind : List ℕ) (k : ℕ) → k < length before → joint_at (before ++ behind) k ≡ joint_between (take k before) (drop k before ++ behind)
joint-within before behind k l =
    let le : k ≤ length before = omega arith in
    ap (λ (t : List ℕ). joint_between t (drop k (before ++ behind))) (take-append-le k before behind le)
    ∙ ap (λ (t : List ℕ). joint_between (take k before) t) (drop-append-le k before behind le)

some-left : (text : List ℕ) (k : ℕ) → k < length text → 0 < length (drop k text)
some-left text k l = omega (arith, length-drop k text)

joint-less : (text : List ℕ) (byte k : ℕ) → k < length text → joint_at text k ≡ false → joint_at (text ++ byte ∷ []) k ≡ false
joint-less text byte k l h =
    joint-within text (byte ∷ []) k l ∙ and-still (is_outside text k) (is_lone_backslash (drop k text)) _ h (lone-less (drop k text) byte (some-left text k l))

joint-more : (text : List ℕ) (byte k : ℕ) → k < length text → joint_at text k ≡ true → is_blank byte ≡ true → joint_at (text ++ byte ∷ []) k ≡ true
joint-more text byte k l h b =
    let both = and_parts (is_outside text k) (is_lone_backslash (drop k text)) h in
    joint-within text (byte ∷ []) k l ∙ and_from (is_outside text k) _ both.0 (lone-more (drop k text) byte both.1 b)

joint-not : (text : List ℕ) (byte : ℕ) (bytes : List ℕ) (k : ℕ) → k < length text → is_blank byte ≡ false → joint_at (text ++ byte ∷ bytes) k ≡ false
joint-not text byte bytes k l b =
    joint-within text (byte ∷ bytes) k l ∙ and_right (is_outside text k) _ (lone-not (drop k text) byte bytes (some-left text k l) b)

-- if a property is true for each position of a text and for its end, it is true for each position of the text with another byte appended
more : (P : ℕ → Type 0) (text : List ℕ) (byte : ℕ) → ((k : ℕ) → k < length text → P k) → P (length text) → (k : ℕ) → k < length (text ++ byte ∷ []) → P k
more P text byte below here k l = below_more P (length text) below here k (omega (arith, length-append text (byte ∷ [])))

-- a state that is not stopped
abbrev state : Option ℕ → Bool → Option ℕ → LineState
state quote blank slash = record { quote = quote; after_blank = blank; slash = slash; stop = None }

-- what a state records about the text before it
abbrev KnowsBlank : List ℕ → Bool → Option ℕ → Type 0
KnowsBlank text blank None = blank ≡ is_blank (last_or 32 text)
KnowsBlank text blank (Some quote) = (blank ≡ false) × (is_quote quote ≡ true)

record IsJoint (text : List ℕ) (from slash : ℕ) : Type 0 where
  outside : open_quote None text ≡ None
  place : ℕ
  is : slash ≡ from + place
  within : place < length text
  joint : joint_at text place ≡ true
  before : (k : ℕ) → k < place → joint_at text k ≡ false

abbrev KnowsSlash : List ℕ → ℕ → Option ℕ → Type 0
KnowsSlash text from None = (k : ℕ) → k < length text → joint_at text k ≡ false
KnowsSlash text from (Some slash) = IsJoint text from slash

record Knows (text line : List ℕ) (from : ℕ) (quote : Option ℕ) (blank : Bool) (slash : Option ℕ) : Type 0 where
  quoted : open_quote None text ≡ quote
  behind_blank : KnowsBlank text blank quote
  joint : KnowsSlash text from slash
  comments : (k : ℕ) → k < length text → comment_at line k ≡ false

-- the position at which a state ends the text of its line
pub record Cut (line : List ℕ) (from : ℕ) (r : LineState) : Type 0 where
  pub size : ℕ
  pub to : unwrap_or r.slash (unwrap_or r.stop (from + length line)) ≡ from + size
  pub cut : IsCut line size (is_some r.slash)

-- the state after bytes that do not end their line, before a byte
abbrev pub after_bytes : LineState → ℕ → List ℕ → ℕ → LineState
after_bytes r at [] next = r
after_bytes r at (byte ∷ bytes) next = after_bytes (after_byte r at byte (first_or next bytes)) (at + 1) bytes next

after-in_line : (quote : Option ℕ) (blank : Bool) (slash : Option ℕ) (at byte next : ℕ) → IsInLine byte → after_byte (state quote blank slash) at byte next ≡ in_line quote (state quote blank slash) at byte next
after-in_line quote blank slash at byte next h = cond-false (byte == 13) _ _ (or_parts (byte == 10) (byte == 13) h).1

frozen : (quote : Option ℕ) (blank : Bool) (slash : Option ℕ) (stop at : ℕ) (bytes : List ℕ) (next : ℕ) → after_bytes (record { quote = quote; after_blank = blank; slash = slash; stop = Some stop }) at bytes next ≡ record { quote = quote; after_blank = blank; slash = slash; stop = Some stop }
frozen quote blank slash stop at [] next = refl
frozen quote blank slash stop at (byte ∷ bytes) next = frozen quote blank slash stop (at + 1) bytes next

-- the byte after a c ends a word as the definition of a comment requires
or-third : (a b c : Bool) → (b || c) ≡ true → (a || b || c) ≡ true
or-third true b c h = refl
or-third false b c h = h

or-one : (a b c : Bool) → (b || c) ≡ false → (a || b || c) ≡ a
or-one true b c h = refl
or-one false b c h = h

next-blank : (bytes : List ℕ) (next : ℕ) → All IsInLine bytes → ((next == 10) || (next == 13)) ≡ true → (is_blank (first_or next bytes) || (first_or next bytes == 10) || (first_or next bytes == 13)) ≡ is_blank (first_or 32 bytes)
next-blank [] next p h = or-third (is_blank next) (next == 10) (next == 13) h
next-blank (byte ∷ bytes) next p h = or-one (is_blank byte) (byte == 10) (byte == 13) (All-head IsInLine byte bytes p)

starts-is : (a b c d : Bool) → c ≡ d → (a && b && c) ≡ (a && (b && d))
starts-is true b c d e = ap (λ (x : Bool). b && x) e
starts-is false b c d e = refl

comment-is : (text bytes : List ℕ) (blank : Bool) (byte next : ℕ) → open_quote None text ≡ None → blank ≡ is_blank (last_or 32 text) → All IsInLine bytes → ((next == 10) || (next == 13)) ≡ true → comment_at (text ++ byte ∷ bytes) (length text) ≡ starts_comment blank byte (first_or next bytes)
comment-is text bytes blank byte next outside e p h =
    comment-seam text (byte ∷ bytes)
    ∙ ap (λ (q : Option ℕ). not (is_some q) && (is_blank (last_or 32 text) && is_lone_c (byte ∷ bytes))) outside
    ∙ sym (starts-is blank ((byte == 99) || (byte == 67)) _ _ (next-blank bytes next p h) ∙ ap (λ (b : Bool). b && is_lone_c (byte ∷ bytes)) e)

-- a byte inside quotes
joint-inside : (text : List ℕ) (from byte quote : ℕ) (slash : Option ℕ) → open_quote None text ≡ Some quote → KnowsSlash text from slash → KnowsSlash (text ++ byte ∷ []) from slash
joint-inside text from byte quote None quoted k =
    more (λ n. joint_at (text ++ byte ∷ []) n ≡ false) text byte
    (λ n l. joint-less text byte n l (k n l))
    (joint-seam text (byte ∷ []) ∙ ap (λ (q : Option ℕ). not (is_some q) && is_lone_backslash (byte ∷ [])) quoted)
joint-inside text from byte quote (Some slash) quoted k = let outside = k.outside in absurd cc

knows-inside : (text line bytes : List ℕ) (from quote byte : ℕ) (blank : Bool) (slash : Option ℕ) (open_then : Option ℕ) → line ≡ text ++ byte ∷ bytes → Knows text line from (Some quote) blank slash → quote_behind (Some quote) byte ≡ open_then → KnowsBlank (text ++ byte ∷ []) blank open_then → Knows (text ++ byte ∷ []) line from open_then blank slash
knows-inside text line bytes from quote byte blank slash open_then e k g b = record {
  quoted = open_quote-more None text byte ∙ ap (λ (q : Option ℕ). quote_behind q byte) k.quoted ∙ g;
  behind_blank = b;
  joint = joint-inside text from byte quote slash k.quoted k.joint;
  comments = more (λ n. comment_at line n ≡ false) text byte k.comments
      (subst (λ (t : List ℕ). comment_at t (length text) ≡ false) (sym e)
      (comment-seam text (byte ∷ bytes) ∙ ap (λ (q : Option ℕ). not (is_some q) && (is_blank (last_or 32 text) && is_lone_c (byte ∷ bytes))) k.quoted));
}

-- a byte outside quotes
quoted-more : (text : List ℕ) (byte : ℕ) → open_quote None text ≡ None → is_quote byte ≡ false → open_quote None (text ++ byte ∷ []) ≡ None
quoted-more text byte e h = open_quote-more None text byte ∙ ap (λ (q : Option ℕ). quote_behind q byte) e ∙ cond-false (is_quote byte) _ _ h

last-more : (text : List ℕ) (byte : ℕ) (b : Bool) → is_blank byte ≡ b → b ≡ is_blank (last_or 32 (text ++ byte ∷ []))
last-more text byte b h = sym (ap is_blank (last_or-more 32 text byte) ∙ h)

joint-blank : (text : List ℕ) (from byte : ℕ) (slash : Option ℕ) → open_quote None text ≡ None → is_blank byte ≡ true → KnowsSlash text from slash → KnowsSlash (text ++ byte ∷ []) from slash
joint-blank text from byte None outside b k =
    more (λ n. joint_at (text ++ byte ∷ []) n ≡ false) text byte
    (λ n l. joint-less text byte n l (k n l))
    (joint-seam text (byte ∷ []) ∙ and_right (not (is_some (open_quote None text))) _ (and_left (byte == 92) _ (blank-no_backslash byte b)))
joint-blank text from byte (Some slash) outside b k = record {
  outside = quoted-more text byte outside (blank-no_quote byte b);
  place = k.place;
  is = k.is;
  within = omega (arith, k.within, length-append text (byte ∷ []));
  joint = joint-more text byte k.place k.within k.joint b;
  before = λ n l. joint-less text byte n (omega (arith, k.within)) (k.before n l);
}

knows-blank : (text line : List ℕ) (from byte : ℕ) (blank : Bool) (slash : Option ℕ) → Knows text line from None blank slash → is_blank byte ≡ true → comment_at line (length text) ≡ false → Knows (text ++ byte ∷ []) line from None true slash
knows-blank text line from byte blank slash k b none = record {
  quoted = quoted-more text byte k.quoted (blank-no_quote byte b);
  behind_blank = last-more text byte true b;
  joint = joint-blank text from byte slash k.quoted b k.joint;
  comments = more (λ n. comment_at line n ≡ false) text byte k.comments none;
}

knows-backslash : (text line : List ℕ) (from at byte : ℕ) (blank : Bool) (slash : Option ℕ) → at ≡ from + length text → Knows text line from None blank slash → byte ≡ 92 → comment_at line (length text) ≡ false → Knows (text ++ byte ∷ []) line from None false (Some at)
knows-backslash text line from at byte blank slash f k is none =
    let plain : is_blank byte ≡ false = subst (λ (b : ℕ). is_blank b ≡ false) (sym is) refl in
    let unquoted : is_quote byte ≡ false = subst (λ (b : ℕ). is_quote b ≡ false) (sym is) refl in
    let alone : is_lone_backslash (byte ∷ []) ≡ true = subst (λ (b : ℕ). is_lone_backslash (b ∷ []) ≡ true) (sym is) refl in
    let outside = quoted-more text byte k.quoted unquoted in
    record {
      quoted = outside;
      behind_blank = last-more text byte false plain;
      joint = record {
        outside = outside;
        place = length text;
        is = f;
        within = omega (arith, length-append text (byte ∷ []));
        joint = joint-seam text (byte ∷ []) ∙ ap (λ (q : Option ℕ). not (is_some q) && is_lone_backslash (byte ∷ [])) k.quoted ∙ alone;
        before = λ n l. joint-not text byte [] n l plain;
      };
      comments = more (λ n. comment_at line n ≡ false) text byte k.comments none;
    }

blank-other : (text : List ℕ) (byte : ℕ) (b : Bool) → is_quote byte ≡ b → is_blank byte ≡ false → KnowsBlank (text ++ byte ∷ []) false (if b then Some byte else None)
blank-other text byte true e h = (refl, e)
blank-other text byte false e h = last-more text byte false h

knows-other : (text line : List ℕ) (from byte : ℕ) (blank : Bool) (slash : Option ℕ) → Knows text line from None blank slash → is_blank byte ≡ false → (byte == 92) ≡ false → comment_at line (length text) ≡ false → Knows (text ++ byte ∷ []) line from (if is_quote byte then Some byte else None) false None
knows-other text line from byte blank slash k plain other none = record {
  quoted = open_quote-more None text byte ∙ ap (λ (q : Option ℕ). quote_behind q byte) k.quoted;
  behind_blank = blank-other text byte (is_quote byte) refl plain;
  joint = more (λ n. joint_at (text ++ byte ∷ []) n ≡ false) text byte
      (λ n l. joint-not text byte [] n l plain)
      (joint-seam text (byte ∷ []) ∙ and_right (not (is_some (open_quote None text))) _ (and_left (byte == 92) _ other));
  comments = more (λ n. comment_at line n ≡ false) text byte k.comments none;
}

-- the end of the line
cut-end : (text line : List ℕ) (from : ℕ) (quote : Option ℕ) (blank : Bool) (slash : Option ℕ) → line ≡ text → Knows text line from quote blank slash → Cut line from (state quote blank slash)
cut-end text line from quote blank None e k =
    let same : length line ≡ length text = ap length e in
    record {
      size = length line;
      to = refl;
      cut = record {
        within = omega arith;
        no_comment = λ n l. k.comments n (omega arith);
        no_joint = λ n l. subst (λ (t : List ℕ). joint_at t n ≡ false) (sym e) (k.joint n (omega arith));
        here = inl (refl, refl);
      };
    }
cut-end text line from quote blank (Some slash) e k =
    let same : length line ≡ length text = ap length e in
    let j : IsJoint text from slash = k.joint in
    record {
      size = j.place;
      to = j.is;
      cut = record {
        within = omega (arith, j.within);
        no_comment = λ n l. k.comments n (omega (arith, j.within));
        no_joint = λ n l. subst (λ (t : List ℕ). joint_at t n ≡ false) (sym e) (j.before n l);
        here = inr (inr (subst (λ (t : List ℕ). joint_at t j.place ≡ true) (sym e) j.joint, refl));
      };
    }

-- a comment
cut-comment : (text line bytes : List ℕ) (from at byte : ℕ) (blank : Bool) (slash : Option ℕ) → line ≡ text ++ byte ∷ bytes → at ≡ from + length text → Knows text line from None blank slash → is_blank byte ≡ false → comment_at line (length text) ≡ true → Cut line from (record { quote = None; after_blank = blank; slash = None; stop = Some at })
cut-comment text line bytes from at byte blank slash e f k plain comment = record {
  size = length text;
  to = f;
  cut = record {
    within = omega (arith, ap length e, length-append text (byte ∷ bytes));
    no_comment = k.comments;
    no_joint = λ n l. subst (λ (t : List ℕ). joint_at t n ≡ false) (sym e) (joint-not text byte bytes n l plain);
    here = inr (inl (comment, refl));
  };
}

cut : (bytes text line : List ℕ) (from at : ℕ) (quote : Option ℕ) (blank : Bool) (slash : Option ℕ) (next : ℕ) → line ≡ text ++ bytes → at ≡ from + length text → ((next == 10) || (next == 13)) ≡ true → All IsInLine bytes → Knows text line from quote blank slash → Cut line from (after_bytes (state quote blank slash) at bytes next)
cut [] text line from at quote blank slash next e f n p k = cut-end text line from quote blank slash (e ∙ append-nil text) k
cut (byte ∷ bytes) text line from at (Some q) blank slash next e f n p k =
    let P : LineState → Type 0 = λ r. Cut line from (after_bytes r (at + 1) bytes next) in
    let rest = All-tail IsInLine byte bytes p in
    let longer : line ≡ (text ++ byte ∷ []) ++ bytes = e ∙ sym (append_assoc text (byte ∷ []) bytes) in
    let place : at + 1 ≡ from + length (text ++ byte ∷ []) = omega (arith, length-append text (byte ∷ [])) in
    let known = k.behind_blank in
    subst P (sym (after-in_line (Some q) blank slash at byte (first_or next bytes) (All-head IsInLine byte bytes p)))
    (cond_both (byte == q) _ _ P
    (λ same.
    let quote : is_quote byte ≡ true = subst (λ (b : ℕ). is_quote b ≡ true) (sym (eqb-true byte q same)) known.1 in
    cut bytes (text ++ byte ∷ []) line from (at + 1) None blank slash next longer place n rest
    (knows-inside text line bytes from q byte blank slash None e k (cond-true (byte == q) _ _ same) (known.0 ∙ last-more text byte false (quote-no_blank byte quote))))
    (λ other. cut bytes (text ++ byte ∷ []) line from (at + 1) (Some q) blank slash next longer place n rest
    (knows-inside text line bytes from q byte blank slash (Some q) e k (cond-false (byte == q) _ _ other) known)))
cut (byte ∷ bytes) text line from at None blank slash next e f n p k =
    let P : LineState → Type 0 = λ r. Cut line from (after_bytes r (at + 1) bytes next) in
    let rest = All-tail IsInLine byte bytes p in
    let longer : line ≡ (text ++ byte ∷ []) ++ bytes = e ∙ sym (append_assoc text (byte ∷ []) bytes) in
    let place : at + 1 ≡ from + length (text ++ byte ∷ []) = omega (arith, length-append text (byte ∷ [])) in
    let comment : comment_at line (length text) ≡ starts_comment blank byte (first_or next bytes) = subst (λ (t : List ℕ). comment_at t (length text) ≡ starts_comment blank byte (first_or next bytes)) (sym e) (comment-is text bytes blank byte next k.quoted k.behind_blank rest n) in
    subst P (sym (after-in_line None blank slash at byte (first_or next bytes) (All-head IsInLine byte bytes p)))
    (cond_both (is_blank byte) _ _ P
    (λ b. cut bytes (text ++ byte ∷ []) line from (at + 1) None true slash next longer place n rest
    (knows-blank text line from byte blank slash k b (comment ∙ and_left (blank && ((byte == 99) || (byte == 67))) _ (and_right blank _ (blank-no_c byte b)))))
    (λ b. cond_both (starts_comment blank byte (first_or next bytes)) _ _ P
    (λ c. subst (Cut line from) (sym (frozen None blank None at (at + 1) bytes next)) (cut-comment text line bytes from at byte blank slash e f k b (comment ∙ c)))
    (λ c. cond_both (byte == 92) _ _ P
    (λ s. cut bytes (text ++ byte ∷ []) line from (at + 1) None false (Some at) next longer place n rest
    (knows-backslash text line from at byte blank slash f k (eqb-true byte 92 s) (comment ∙ c)))
    (λ s. cut bytes (text ++ byte ∷ []) line from (at + 1) (if is_quote byte then Some byte else None) false None next longer place n rest
    (knows-other text line from byte blank slash k b s (comment ∙ c))))))

-- the text of a line ends at the position in its state
pub line_cut : (line : List ℕ) (from next : ℕ) → ((next == 10) || (next == 13)) ≡ true → All IsInLine line → Cut line from (after_bytes line_start from line next)
line_cut line from next n p =
    cut line [] line from from None true None next refl (omega arith) n p
    (record { quoted = refl; behind_blank = refl; joint = λ k l. absurd (omega arith); comments = λ k l. absurd (omega arith) })
