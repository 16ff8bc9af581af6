-- Laws of tokens: how the tokens of a text are those of its parts, where its comment begins, and where its commas stand.
use mathlib.Core.Path.{◌≡◌, refl, ap, sym, ◌∙◌}
use mathlib.Core.Bool.{Bool, true, false, cond, not, ◌&&◌, true≢false}
use mathlib.Core.List.{List, [], ◌∷◌, ◌++◌, map, append_assoc, append-nil}
use Prim.Native.Nat.{ℕ}
use lib.Dec.{T, not_T, eqb, eqb→eq}
use lib.Ieee.Bits.{is_true, is_false}
use Rattle.masm.specs.Tokens.{is_word, is_blank, small, Token, word, sign, close, tokens_from, tokens, same_token, uncommented, parts}
use Rattle.masm.specs.Expressions.{begins}

-- ---- Tokens

close-append : (w : List ℕ) (ts us : List Token) → close w (ts ++ us) ≡ close w ts ++ us
close-append [] ts us = refl
close-append (c ∷ w) ts us = refl

-- a character of a word lengthens the word, and any other ends it
lengthens : (w : List ℕ) (c : ℕ) (t : List ℕ) → is_word c ≡ true → tokens_from w (c ∷ t) ≡ tokens_from (w ++ (small c ∷ [])) t
lengthens w c t e = rw (e, tokens_from)

ends : (w : List ℕ) (c : ℕ) (t : List ℕ) → is_word c ≡ false
    → tokens_from w (c ∷ t) ≡ close w (cond (is_blank c) (tokens_from [] t) (sign c ∷ tokens_from [] t))
ends w c t e = rw (e, tokens_from)

ended : (w : List ℕ) (blank : Bool) (c : ℕ) (ts us : List Token)
    → close w (cond blank (ts ++ us) (sign c ∷ ts ++ us)) ≡ close w (cond blank ts (sign c ∷ ts)) ++ us
ended w true c ts us = close-append w ts us
ended w false c ts us = close-append w (sign c ∷ ts) us

-- where tokens of one text are those of another and some more, a character in front of both changes nothing
in_front : (d : ℕ) (u v : List ℕ) (ts : List Token) → ((w : List ℕ) → tokens_from w v ≡ tokens_from w u ++ ts) → (w : List ℕ)
    → tokens_from w (d ∷ v) ≡ tokens_from w (d ∷ u) ++ ts
in_front d u v ts h w = go (is_word d) refl
  where
    go : (b : Bool) → is_word d ≡ b → tokens_from w (d ∷ v) ≡ tokens_from w (d ∷ u) ++ ts
    go true e = lengthens w d v e ∙ h (w ++ (small d ∷ [])) ∙ ap (λ us. us ++ ts) (sym (lengthens w d u e))
    go false e =
        ends w d v e
        ∙ ap (λ us. close w (cond (is_blank d) us (sign d ∷ us))) (h [])
        ∙ ended w (is_blank d) d (tokens_from [] u) ts
        ∙ ap (λ us. us ++ ts) (sym (ends w d u e))

from_append : (u : List ℕ) (c : ℕ) (s : List ℕ) → is_word c ≡ false → (w : List ℕ)
    → tokens_from w (u ++ c ∷ s) ≡ tokens_from w u ++ tokens_from [] (c ∷ s)
from_append [] c s h w = ends w c s h ∙ close-append w [] _ ∙ ap (λ ts. close w [] ++ ts) (sym (ends [] c s h))
from_append (d ∷ u) c s h w = in_front d u (u ++ c ∷ s) (tokens_from [] (c ∷ s)) (from_append u c s h) w

-- A character that is in no word parts a text: its tokens are those before it, and those from it on.
pub tokens_append : (u : List ℕ) (c : ℕ) (s : List ℕ) → is_word c ≡ false → tokens (u ++ c ∷ s) ≡ tokens u ++ tokens (c ∷ s)
unfolding tokens
tokens_append u c s h = from_append u c s h []

-- two texts with a blank between them; with a sign between blanks; with a comma and a blank
pub blank-between : (u v : List ℕ) → tokens (u ++ 32 ∷ v) ≡ tokens u ++ tokens v
unfolding tokens
blank-between u v = tokens_append u 32 v refl

pub sign-between : (u : List ℕ) (c : ℕ) (v : List ℕ) → is_word c ≡ false → is_blank c ≡ false
    → tokens (u ++ 32 ∷ c ∷ 32 ∷ v) ≡ tokens u ++ sign c ∷ tokens v
unfolding tokens
sign-between u c v h k = tokens_append u 32 (c ∷ 32 ∷ v) refl ∙ ap (λ ts. tokens u ++ ts) (ends [] c (32 ∷ v) h ∙ rw k)

pub comma_between : (u v : List ℕ) → tokens (u ++ 44 ∷ 32 ∷ v) ≡ tokens u ++ sign 44 ∷ tokens v
unfolding tokens
comma_between u v = tokens_append u 44 (32 ∷ v) refl

-- the text is empty, or its last character is in no word
abbrev pub apart : List ℕ → Bool
apart [] = true
apart (c ∷ []) = not (is_word c)
apart (c ∷ d ∷ t) = apart (d ∷ t)

from_apart : (c : ℕ) (t u : List ℕ) → T (apart (c ∷ t)) → (w : List ℕ) → tokens_from w (c ∷ t ++ u) ≡ tokens_from w (c ∷ t) ++ tokens_from [] u
from_apart c [] u h w =
    let e = is_false (is_word c) h in
    ends w c u e ∙ ended w (is_blank c) c [] (tokens_from [] u) ∙ ap (λ ts. ts ++ tokens_from [] u) (sym (ends w c [] e))
from_apart c (d ∷ t) u h w = in_front c (d ∷ t) (d ∷ t ++ u) (tokens_from [] u) (from_apart d t u h) w

-- the text `t` is the tokens `ts`, whatever text follows
abbrev pub Leads : List Token → List ℕ → Type 0
Leads ts t = (u : List ℕ) → tokens (t ++ u) ≡ ts ++ tokens u

pub leads_apart : (t : List ℕ) → T (apart t) → Leads (tokens t) t
unfolding tokens
leads_apart [] h u = refl
leads_apart (c ∷ t) h u = from_apart c t u h []

-- the text `t` is the tokens `ts`, whatever text stands before it
abbrev pub Follows : List Token → List ℕ → Type 0
Follows ts t = (u : List ℕ) → tokens (u ++ t) ≡ tokens u ++ ts

pub follows_nothing : Follows [] []
follows_nothing u = ap tokens (append-nil u) ∙ sym (append-nil (tokens u))

pub follows_apart : (c : ℕ) (t : List ℕ) → is_word c ≡ false → Follows (tokens (c ∷ t)) (c ∷ t)
follows_apart c t h u = tokens_append u c t h

pub follows_append : (ts us : List Token) (t v : List ℕ) → Follows ts t → Follows us v → Follows (ts ++ us) (t ++ v)
follows_append ts us t v f g u = rw (← (append_assoc u t v), g (u ++ t), f u) (append_assoc (tokens u) ts us)

-- ---- Words

pub both : (a b : Bool) → T (a && b) → T a × T b
both true b h = (tt, h)
both false b h = absurd h

pub pair : (a b : Bool) → T a → T b → T (a && b)
pair true b h k = k
pair false b h k = absurd h

abbrev pub all : (ℕ → Bool) → List ℕ → Bool
all p [] = true
all p (c ∷ t) = p c && all p t

pub all_append : (p : ℕ → Bool) (s t : List ℕ) → T (all p s) → T (all p t) → T (all p (s ++ t))
all_append p [] t h k = k
all_append p (c ∷ s) t h k = let (a, b) = both (p c) (all p s) h in pair (p c) (all p (s ++ t)) a (all_append p s t b k)

from_word : (w u : List ℕ) → T (all is_word u) → tokens_from w u ≡ close (w ++ map small u) []
from_word w [] h = rw append-nil
from_word w (c ∷ u) h =
    let (a, b) = both (is_word c) (all is_word u) h in
    lengthens w c u (is_true (is_word c) a)
    ∙ from_word (w ++ (small c ∷ [])) u b
    ∙ ap (λ v. close v []) (append_assoc w (small c ∷ []) (map small u))

-- A text of word characters is one word.
pub one_word : (p : ℕ → Bool) (u : List ℕ) → T (all is_word u) → T (begins p u) → tokens u ≡ word (map small u) ∷ []
unfolding tokens
one_word p [] h k = absurd k
one_word p (c ∷ u) h k = from_word [] (c ∷ u) h

-- ---- Comments and commas

-- no token is the sign `c`
abbrev pub free : ℕ → List Token → Bool
free c [] = true
free c (t ∷ ts) = not (same_token t (sign c)) && free c ts

pub free-append : (c : ℕ) (ts us : List Token) → T (free c ts) → T (free c us) → T (free c (ts ++ us))
free-append c [] us h k = k
free-append c (t ∷ ts) us h k =
    let (a, b) = both (not (same_token t (sign c))) (free c ts) h in
    pair (not (same_token t (sign c))) (free c (ts ++ us)) a (free-append c ts us b k)

-- neither a comment nor a newline
abbrev pub quiet : List Token → Bool
quiet ts = free 59 ts && free 10 ts

pub quiet-append : (ts us : List Token) → T (quiet ts) → T (quiet us) → T (quiet (ts ++ us))
quiet-append ts us h k =
    let (a, b) = both (free 59 ts) (free 10 ts) h in
    let (x, y) = both (free 59 us) (free 10 us) k in
    pair (free 59 (ts ++ us)) (free 10 (ts ++ us)) (free-append 59 ts us a x) (free-append 10 ts us b y)

-- and no comma
abbrev pub whole : List Token → Bool
whole ts = free 44 ts && quiet ts

pub whole_append : (ts us : List Token) → T (whole ts) → T (whole us) → T (whole (ts ++ us))
whole_append ts us h k =
    let (a, b) = both (free 44 ts) (quiet ts) h in
    let (x, y) = both (free 44 us) (quiet us) k in
    pair (free 44 (ts ++ us)) (quiet (ts ++ us)) (free-append 44 ts us a x) (quiet-append ts us b y)

pub no_comma : (ts : List Token) → T (whole ts) → T (free 44 ts)
no_comma ts h = (both (free 44 ts) (quiet ts) h).0

pub whole-quiet : (ts : List Token) → T (whole ts) → T (quiet ts)
whole-quiet ts h = (both (free 44 ts) (quiet ts) h).1

-- and no brace
abbrev pub plain : List Token → Bool
plain ts = free 123 ts && whole ts

pub plain-append : (ts us : List Token) → T (plain ts) → T (plain us) → T (plain (ts ++ us))
plain-append ts us h k =
    let (a, b) = both (free 123 ts) (whole ts) h in
    let (x, y) = both (free 123 us) (whole us) k in
    pair (free 123 (ts ++ us)) (whole (ts ++ us)) (free-append 123 ts us a x) (whole_append ts us b y)

pub no_brace : (ts : List Token) → T (plain ts) → T (free 123 ts)
no_brace ts h = (both (free 123 ts) (whole ts) h).0

pub plain_whole : (ts : List Token) → T (plain ts) → T (whole ts)
plain_whole ts h = (both (free 123 ts) (whole ts) h).1

-- Without `;` all tokens count.
uncommented_all : (ts : List Token) → T (free 59 ts) → uncommented ts ≡ ts
uncommented_all [] h = refl
uncommented_all (t ∷ ts) h =
    let (a, b) = both (not (same_token t (sign 59))) (free 59 ts) h in
    rw (is_false (same_token t (sign 59)) a, uncommented_all ts b)

pub quiet-uncommented : (ts : List Token) → T (quiet ts) → uncommented ts ≡ ts
quiet-uncommented ts h = uncommented_all ts (both (free 59 ts) (free 10 ts) h).0

-- A sign that is no token of a text is no character of it.
module _ (c : ℕ) (no_word : is_word c ≡ false) (no-blank : is_blank c ≡ false) where
  other : (f : ℕ → Bool) (d : ℕ) → f c ≡ false → f d ≡ true → T (not (eqb d c))
  other f d n e = not_T (eqb d c) (λ k. true≢false (sym e ∙ ap f (eqb→eq d c k) ∙ n))

  free-close : (w : List ℕ) (ts : List Token) → T (free c (close w ts)) → T (free c ts)
  free-close [] ts h = h
  free-close (d ∷ w) ts h = h

  from_free : (w u : List ℕ) → T (free c (tokens_from w u)) → T (all (λ d. not (eqb d c)) u)
  from_free w [] h = tt
  from_free w (d ∷ u) h = go (is_word d) refl (λ v. from_free v u)
    where
      after_it : (blank : Bool) → is_blank d ≡ blank → (T (free c (tokens_from [] u)) → T (all (λ d. not (eqb d c)) u))
          → T (free c (cond blank (tokens_from [] u) (sign d ∷ tokens_from [] u))) → T (not (eqb d c) && all (λ d. not (eqb d c)) u)
      after_it true e rest k = pair (not (eqb d c)) (all (λ d. not (eqb d c)) u) (other is_blank d no-blank e) (rest k)
      after_it false e rest k =
          let (a, b) = both (not (eqb d c)) (free c (tokens_from [] u)) k in
          pair (not (eqb d c)) (all (λ d. not (eqb d c)) u) a (rest b)

      go : (b : Bool) → is_word d ≡ b → ((v : List ℕ) → T (free c (tokens_from v u)) → T (all (λ d. not (eqb d c)) u))
          → T (not (eqb d c) && all (λ d. not (eqb d c)) u)
      go true e rest =
          pair (not (eqb d c)) (all (λ d. not (eqb d c)) u) (other is_word d no_word e) (rest (w ++ (small d ∷ [])) (rw (lengthens w d u e) at h))
      go false e rest =
          after_it (is_blank d) refl (rest [])
          (free-close w (cond (is_blank d) (tokens_from [] u) (sign d ∷ tokens_from [] u)) (rw (ends w d u e) at h))

-- one line: no character is a newline
abbrev pub unbroken : List ℕ → Bool
unbroken t = all (λ d. not (eqb d 10)) t

pub quiet-unbroken : (u : List ℕ) → T (quiet (tokens u)) → T (unbroken u)
unfolding tokens
quiet-unbroken u h = from_free 10 refl refl [] u (both (free 59 (tokens u)) (free 10 (tokens u)) h).1

pub one-part : (ts : List Token) → T (free 44 ts) → parts ts ≡ ts ∷ []
one-part [] h = refl
one-part (t ∷ ts) h =
    let (a, b) = both (not (same_token t (sign 44))) (free 44 ts) h in
    rw (is_false (same_token t (sign 44)) a, one-part ts b)

pub part-before_comma : (ts us : List Token) → T (free 44 ts) → parts (ts ++ sign 44 ∷ us) ≡ ts ∷ parts us
part-before_comma [] us h = refl
part-before_comma (t ∷ ts) us h =
    let (a, b) = both (not (same_token t (sign 44))) (free 44 ts) h in
    rw (is_false (same_token t (sign 44)) a, part-before_comma ts us b)
