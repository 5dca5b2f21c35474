-- The positions of comments and joining backslashes in short lines, by computation.
use Rattle.std.proofs.Common.{◌≡◌, true, false, [], ◌∷◌, refl}
use Rattle.std.specs.Prelude.{codes}
use Rattle.kmn_lines.specs.Laws.{comment_at, joint_at}

comment-behind_blank : comment_at (codes "a c b") 2 ≡ true
comment-behind_blank = refl

comment-at_start : comment_at (codes "C") 0 ≡ true
comment-at_start = refl

comment-in_brackets : comment_at (codes "outs( c )") 6 ≡ true
comment-in_brackets = refl

no_comment-in_word : comment_at (codes "abc d") 2 ≡ false
no_comment-in_word = refl

no_comment-in_quotes : comment_at (codes "'a c b") 3 ≡ false
no_comment-in_quotes = refl

no_comment-behind_prefix : comment_at (codes "$keyman:c x") 8 ≡ false
no_comment-behind_prefix = refl

-- a, a blank, a backslash and a blank
joint-before_blank : joint_at (97 ∷ 32 ∷ 92 ∷ 32 ∷ []) 2 ≡ true
joint-before_blank = refl

-- the same followed by a c, which is a comment
no_joint-before_comment : joint_at (97 ∷ 32 ∷ 92 ∷ 32 ∷ 99 ∷ []) 2 ≡ false
no_joint-before_comment = refl

-- an open quote, and a backslash
no_joint-in_quotes : joint_at (39 ∷ 97 ∷ 92 ∷ []) 2 ≡ false
no_joint-in_quotes = refl
