-- A line as words and signs, and the two ways in which the reader takes a list of them apart: at commas, or by a table of quoted words.
-- What the reader does not know it refuses: `none`.
-- Assumes nothing.
use Rattle.std.specs.Prelude.{Bool, true, false, cond, ◌&&◌, ◌||◌, List, [], ◌∷◌, ◌++◌, ℕ, ◌+◌, leb, eqb}
use Rattle.std.proofs.Math.Option.{Option, none, some}
use Prim.Native.String.{String, [] as empty, ◌∷◌ as ◌▸◌}
use Prim.Native.Char.{Char, code}

-- ---- Characters

-- the bytes of a quoted text
abbrev pub bytes : String → List ℕ
bytes empty = []
bytes (c ▸ s) = code c ∷ bytes s

abbrev pub between : Char → Char → ℕ → Bool
between a z c = leb (code a) c && leb c (code z)

abbrev pub is_digit : ℕ → Bool
is_digit c = between "0" "9" c

abbrev pub is_letter : ℕ → Bool
is_letter c = between "a" "z" c || between "A" "Z" c

-- a character of a word: `$`, `@` and `?` are letters of names too
abbrev pub is_word : ℕ → Bool
is_word c = is_letter c || is_digit c || eqb c (code "_") || eqb c (code "$") || eqb c (code "@") || eqb c (code "?")

abbrev pub is_blank : ℕ → Bool
is_blank c = eqb c (code " ") || eqb c (code "\t")

-- a capital letter as a small one; any other character as it is
abbrev pub small : ℕ → ℕ
small c = cond (between "A" "Z" c) (c + 32) c

-- ---- Tokens: runs of characters of words are words, blanks vanish, and any other character is a sign.
-- A word is kept in small letters: MASM reads its own words in either case.

pub data Token : Type 0 where
  word : List ℕ → Token
  sign : ℕ → Token

abbrev pub close : List ℕ → List Token → List Token
close [] ts = ts
close (c ∷ w) ts = word (c ∷ w) ∷ ts

-- the tokens of a text that stands right after the letters `w` of a word
abbrev pub tokens_from : List ℕ → List ℕ → List Token
tokens_from w [] = close w []
tokens_from w (c ∷ t) =
    elim (is_word c) [
      | true ↦ tokens_from (w ++ (small c ∷ [])) t
      | false ↦ close w (cond (is_blank c) (tokens_from [] t) (sign c ∷ tokens_from [] t))
    ]

unfoldable pub tokens : List ℕ → List Token
tokens t = tokens_from [] t

abbrev pub same_list : {A : Type 0} → (A → A → Bool) → List A → List A → Bool
same_list eq [] [] = true
same_list eq [] (y ∷ ys) = false
same_list eq (x ∷ xs) [] = false
same_list eq (x ∷ xs) (y ∷ ys) = eq x y && same_list eq xs ys

abbrev pub same_token : Token → Token → Bool
same_token (word w) (word v) = same_list eqb w v
same_token (word w) (sign d) = false
same_token (sign c) (word v) = false
same_token (sign c) (sign d) = eqb c d

-- ---- Comments, commas and braces

-- `;` ends the line: what stands before it
abbrev pub uncommented : List Token → List Token
uncommented [] = []
uncommented (t ∷ ts) = cond (same_token t (sign (code ";"))) [] (t ∷ uncommented ts)

abbrev pub lengthen : Token → List (List Token) → List (List Token)
lengthen t [] = (t ∷ []) ∷ []
lengthen t (p ∷ ps) = (t ∷ p) ∷ ps

-- the parts between commas; there is at least one
abbrev pub parts : List Token → List (List Token)
parts [] = [] ∷ []
parts (t ∷ ts) = cond (same_token t (sign (code ","))) ([] ∷ parts ts) (lengthen t (parts ts))

-- the tokens before the first `{`, and those from it on: `[eax]` and `{k1}` of `[eax]{k1}`
abbrev pub at_brace : List Token → List Token × List Token
at_brace [] = ([], [])
at_brace (t ∷ ts) = cond (same_token t (sign (code "{"))) ([], t ∷ ts) (t ∷ (at_brace ts).0, (at_brace ts).1)

-- ---- Tables: names, quoted with commas between them, and what each of them means

abbrev pub Table : Type 0 → Type 0
Table A = List (List Token × A)

abbrev pub entries : {A : Type 0} → List (List Token) → List A → Table A
entries [] meanings = []
entries (ts ∷ more) [] = []
entries (ts ∷ more) (a ∷ meanings) = (ts, a) ∷ entries more meanings

unfoldable pub table : {A : Type 0} → String → List A → Table A
unfolding tokens
table names meanings = entries (parts (tokens (bytes names))) meanings

-- what some tokens mean
abbrev pub lookup : {A : Type 0} → Table A → List Token → Option A
lookup [] ts = none
lookup (e ∷ es) ts = cond (same_list same_token e.0 ts) (some e.1) (lookup es ts)

-- what is left of the second list where the first one begins it
abbrev pub after : {A : Type 0} → (A → A → Bool) → List A → List A → Option (List A)
after eq [] ys = some ys
after eq (x ∷ xs) [] = none
after eq (x ∷ xs) (y ∷ ys) = cond (eq x y) (after eq xs ys) none

-- what the name in front of some tokens means, if one is there, and the tokens after it
abbrev pub front : {A : Type 0} → Table A → List Token → Option A × List Token
front [] ts = (none, ts)
front (e ∷ es) ts = elim (after same_token e.0 ts) [ some rest ↦ (some e.1, rest) | none ↦ front es ts ]

-- what the name at the end of some tokens means, if one is there, and the tokens before it
abbrev pub back : {A : Type 0} → Table A → List Token → Option A × List Token
back es [] = (none, [])
back es (t ∷ ts) = elim (lookup es (t ∷ ts)) [ some a ↦ (some a, []) | none ↦ ((back es ts).0, t ∷ (back es ts).1) ]

-- ---- Answers that may be refusals

abbrev pub is_said : {A : Type 0} → Option A → Bool
is_said none = false
is_said (some a) = true

-- the first of two answers that is no refusal
abbrev pub or_else : {A : Type 0} → Option A → Option A → Option A
or_else none y = y
or_else (some a) y = some a

-- an answer made from another, and refused where that one is: each line `a ← x` of a `do` block
infixl 1 ◌>>=◌
abbrev pub ◌>>=◌ : {A B : Type 0} → Option A → (A → Option B) → Option B
◌>>=◌ none f = none
◌>>=◌ (some a) f = f a

-- an answer for each, and refused where one is
abbrev pub each : {A B : Type 0} → (A → Option B) → List A → Option (List B)
each f [] = some []
each f (x ∷ xs) = do
  y ← f x
  ys ← each f xs
  some (y ∷ ys)
