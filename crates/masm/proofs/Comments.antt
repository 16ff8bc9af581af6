-- A comment after a line: `;` ends what is read.
-- Assumes nothing.
use mathlib.Core.Path.{◌≡◌, refl, ap, ◌∙◌}
use mathlib.Core.Bool.{cond}
use mathlib.Core.List.{List, [], ◌∷◌, ◌++◌}
use Prim.Native.Nat.{ℕ}
use Rattle.masm.specs.Tokens.{Token, sign, tokens, same_token, uncommented}
use Rattle.masm.specs.Lines.{read_tokens, read}
use Rattle.masm.proofs.Tokens.{blank-between}

-- what stands after `;` does not count
uncommented-after : (ts us : List Token) → uncommented (ts ++ sign 59 ∷ us) ≡ uncommented ts
uncommented-after [] us = refl
uncommented-after (t ∷ ts) us = ap (λ (vs : List Token). cond (same_token t (sign 59)) [] (t ∷ vs)) (uncommented-after ts us)

comment_tokens : (u : List ℕ) → tokens (59 ∷ u) ≡ sign 59 ∷ tokens u
unfolding tokens
comment_tokens u = refl

-- A line with a comment after a blank reads as the line.
pub read_commented : (start : ℕ) (t u : List ℕ) → read start (t ++ 32 ∷ 59 ∷ u) ≡ read start t
unfolding read
read_commented start t u =
    ap (λ ts. read_tokens start (uncommented ts)) (blank-between t (59 ∷ u) ∙ ap (λ us. tokens t ++ us) (comment_tokens u))
    ∙ ap (read_tokens start) (uncommented-after (tokens t) (tokens u))
