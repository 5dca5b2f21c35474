-- A text has at most one more token than it has bytes.
use Rattle.std.proofs.Common.{ℕ, suc, ◌≤◌, List, [], ◌∷◌, length, Bool, true, false, arith}
use Rattle.json.specs.Token.{Token}
use Rattle.json.specs.Token as token
use Rattle.json.specs.Lex.{Lexeme, comma, colon, Class, quote, backslash, operator, space, other, class, Mode, between, in_word, in_string, in_escape, lex_byte, lex, Place, fresh, after_value, after_comma, after_key, begins_colon, may_begin, may_close, if_allowed, place_token, punctuate, tokens}
use Rattle.json.specs.Lex as lexer

-- a byte adds at most one lexeme
one_byte : (m : Mode) (c : Class) (x : ℕ) (xs : List ℕ) (k : Mode → List Lexeme) (n : ℕ) → ((next : Mode) → length (k next) ≤ n)
    → length (lex_byte m c x xs k) ≤ suc n
one_byte between quote x xs k n short = omega (arith, short in_string)
one_byte between backslash x xs k n short = omega (arith, short in_word)
one_byte between operator x xs k n short = omega (arith, short between)
one_byte between space x xs k n short = omega (arith, short between)
one_byte between other x xs k n short = omega (arith, short in_word)
one_byte in_word quote x xs k n short = omega (arith, short in_word)
one_byte in_word backslash x xs k n short = omega (arith, short in_word)
one_byte in_word operator x xs k n short = omega (arith, short between)
one_byte in_word space x xs k n short = omega (arith, short between)
one_byte in_word other x xs k n short = omega (arith, short in_word)
one_byte in_string quote x xs k n short = omega (arith, short between)
one_byte in_string backslash x xs k n short = omega (arith, short in_escape)
one_byte in_string operator x xs k n short = omega (arith, short in_string)
one_byte in_string space x xs k n short = omega (arith, short in_string)
one_byte in_string other x xs k n short = omega (arith, short in_string)
one_byte in_escape c x xs k n short = omega (arith, short in_string)

lexemes_within : (m : Mode) (text : List ℕ) → length (lex m text) ≤ length text
unfolding lex
lexemes_within m [] = omega arith
lexemes_within m (x ∷ xs) = one_byte m (class x) x xs (λ next. lex next xs) (length xs) (λ next. lexemes_within next xs)

one_allowed : (b : Bool) (t : Token) (k : Place → List Token) (next : Place) (n : ℕ) → length (k next) ≤ n → length (if_allowed b t k next) ≤ suc n
one_allowed true t k next n short = omega arith
one_allowed false t k next n short = omega arith

-- a lexeme adds at most one token
one_token : (p : Place) (t : Token) (before_colon : Bool) (k : Place → List Token) (n : ℕ) → ((next : Place) → length (k next) ≤ n)
    → length (place_token p t before_colon k) ≤ suc n
one_token p token.begin_object b k n short = one_allowed (may_begin p) token.begin_object k fresh n (short fresh)
one_token p token.end_object b k n short = one_allowed (may_close p) token.end_object k after_value n (short after_value)
one_token p token.begin_array b k n short = one_allowed (may_begin p) token.begin_array k fresh n (short fresh)
one_token p token.end_array b k n short = one_allowed (may_close p) token.end_array k after_value n (short after_value)
one_token p (token.key s) b k n short = omega arith
one_token p (token.string s) true k n short = one_allowed (may_begin p) (token.key s) k after_key n (short after_key)
one_token p (token.string s) false k n short = one_allowed (may_begin p) (token.string s) k after_value n (short after_value)
one_token p (token.number s) b k n short = one_allowed (may_begin p) (token.number s) k after_value n (short after_value)
one_token p (token.boolean v) b k n short = one_allowed (may_begin p) (token.boolean v) k after_value n (short after_value)
one_token p token.null b k n short = one_allowed (may_begin p) token.null k after_value n (short after_value)
one_token p token.bad b k n short = omega arith

placed_within : (p : Place) (ls : List Lexeme) → length (punctuate p ls) ≤ suc (length ls)
unfolding punctuate
placed_within fresh [] = omega arith
placed_within after_value [] = omega arith
placed_within after_comma [] = omega arith
placed_within after_key [] = omega arith
placed_within p (lexer.token t ∷ ls) =
    one_token p t (begins_colon ls) (λ next. punctuate next ls) (suc (length ls)) (λ next. placed_within next ls)
placed_within fresh (comma ∷ ls) = omega arith
placed_within after_value (comma ∷ ls) = omega (arith, placed_within after_comma ls)
placed_within after_comma (comma ∷ ls) = omega arith
placed_within after_key (comma ∷ ls) = omega arith
placed_within fresh (colon ∷ ls) = omega arith
placed_within after_value (colon ∷ ls) = omega arith
placed_within after_comma (colon ∷ ls) = omega arith
placed_within after_key (colon ∷ ls) = omega (arith, placed_within fresh ls)

pub tokens_within : (text : List ℕ) → length (tokens text) ≤ suc (length text)
tokens_within text = omega (arith, placed_within fresh (lex between text), lexemes_within between text)
