-- MASM's numbers, registers and expressions. An expression is read from the left, one token one step, with a level for each open
-- parenthesis or bracket.
-- Assumes nothing.
use Rattle.std.specs.Prelude.{Bool, true, false, cond, ◌&&◌, ◌||◌, List, [], ◌∷◌, ◌++◌, map, ℕ, ◌+◌, ◌-◌, ◌*◌, ◌^◌, ltb, eqb, ℤ, pos, negsuc, ◌+ℤ◌, ◌*ℤ◌}
use Rattle.std.proofs.Math.Option
use Rattle.std.proofs.Math.Option.{Option, none, some}
use Prim.Native.String.{String}
use Prim.Native.Char.{code}
use Rattle.masm.specs.Tokens.{bytes, between, is_digit, Token, word, sign, same_list, Table, table, lookup, or_else, ◌>>=◌}

-- ---- Numbers: a word that begins with a digit. The letter at its end says the base, and without one it is decimal.
-- So `10` is ten, `10h` sixteen, `10b` two, `0FFh` two hundred and fifty-five, and `FFh` is no number.

-- a digit's value; for any other character 16, which is a digit in no base
abbrev pub digit_value : ℕ → ℕ
digit_value c = cond (is_digit c) (c - code "0") (cond (between "a" "f" c) (c - code "a" + 10) 16)

-- the number that the digits of a base spell, up to the ending; `n` is the value of the digits read before
abbrev pub value_from : (base : ℕ) (ending : List ℕ) (n : ℕ) → List ℕ → Option ℕ
value_from base ending n [] = cond (same_list eqb [] ending) (some n) none
value_from base ending n (c ∷ w) =
    cond (same_list eqb (c ∷ w) ending)
    (some n)
    (cond (ltb (digit_value c) base) (value_from base ending (n * base + digit_value c) w) none)

-- the endings, each with its base; no word has two readings, for no ending is a digit of its base
abbrev pub endings : List (List ℕ × ℕ)
endings =
    (bytes "h", 16) ∷ (bytes "d", 10) ∷ (bytes "t", 10) ∷ (bytes "o", 8) ∷ (bytes "q", 8) ∷ (bytes "b", 2) ∷ (bytes "y", 2) ∷ ([], 10) ∷ []

abbrev pub value_by : List (List ℕ × ℕ) → List ℕ → Option ℕ
value_by [] w = none
value_by (e ∷ es) w = or_else (value_from e.1 e.0 0 w) (value_by es w)

abbrev pub begins : (ℕ → Bool) → List ℕ → Bool
begins p [] = false
begins p (c ∷ w) = p c

-- what a word spells by some endings; a number of 2^32 or more is refused
abbrev pub numeral_by : List (List ℕ × ℕ) → List ℕ → Option ℕ
numeral_by es w = do
  n ← cond (begins is_digit w) (value_by es w) none
  cond (ltb n (2 ^ 32)) (some n) none

unfoldable pub numeral : List ℕ → Option ℕ
numeral w = numeral_by endings w

-- digits alone, without an ending: `16`, and neither `16d` nor `16h`
unfoldable pub decimal : List ℕ → Option ℕ
decimal w = numeral_by (([], 10) ∷ []) w

-- ---- Registers: 8 times the class plus the number in the class, as the Intel manual numbers them.
-- Classes: 0 general of 32 bits, 1 of 16 bits, 2 of 8 bits, 3 segment, 4 floating point, 5 mm, 6 xmm, 7 ymm, 8 zmm,
-- 9 the mask registers: document 01's banks, and those of W-204.

abbrev pub Register : Type 0
Register = ℕ

abbrev pub class : ℕ → String → Table Register
class k names = table names (map (λ i. 8 * k + i) (0 ∷ 1 ∷ 2 ∷ 3 ∷ 4 ∷ 5 ∷ 6 ∷ 7 ∷ []))

-- `st` alone is st(0).
unfoldable pub registers : Table Register
unfolding table
registers =
    class 4 "st"
    ++ class 0 "eax, ecx, edx, ebx, esp, ebp, esi, edi"
    ++ class 1 "ax, cx, dx, bx, sp, bp, si, di"
    ++ class 2 "al, cl, dl, bl, ah, ch, dh, bh"
    ++ class 3 "es, cs, ss, ds, fs, gs"
    ++ class 4 "st(0), st(1), st(2), st(3), st(4), st(5), st(6), st(7)"
    ++ class 5 "mm0, mm1, mm2, mm3, mm4, mm5, mm6, mm7"
    ++ class 6 "xmm0, xmm1, xmm2, xmm3, xmm4, xmm5, xmm6, xmm7"
    ++ class 7 "ymm0, ymm1, ymm2, ymm3, ymm4, ymm5, ymm6, ymm7"
    ++ class 8 "zmm0, zmm1, zmm2, zmm3, zmm4, zmm5, zmm6, zmm7"
    ++ class 9 "k0, k1, k2, k3, k4, k5, k6, k7"

-- ---- Values: what an expression comes to

-- registers, each with how many times it counts; how many times `$` counts; a number; and whether a bracket stands in it
pub record Value : Type 0 where
  pub counts : List (Register × ℕ)
  pub starts : ℕ
  pub number : ℤ
  pub bracket : Bool

abbrev pub value : (counts : List (Register × ℕ)) (starts : ℕ) (number : ℤ) (bracket : Bool) → Value
value counts starts number bracket = record { counts = counts; starts = starts; number = number; bracket = bracket }

abbrev pub constant : ℤ → Value
constant n = value [] 0 n false

abbrev pub zero : Value
zero = constant (pos 0)

abbrev pub one : Value
one = constant (pos 1)

-- `negsuc n` is -(n + 1)
abbrev pub minus_one : Value
minus_one = constant (negsuc 0)

abbrev pub multiple : Register → ℕ → Value
multiple r n = value ((r, n) ∷ []) 0 (pos 0) false

abbrev pub dollar : Value
dollar = value [] 1 (pos 0) false

abbrev pub plus : Value → Value → Value
plus a b = value (a.counts ++ b.counts) (a.starts + b.starts) (a.number +ℤ b.number) (a.bracket || b.bracket)

-- the same, with a bracket where it is said so
abbrev pub mark : Bool → Value → Value
mark bracket v = value v.counts v.starts v.number (bracket || v.bracket)

abbrev pub no_registers : List (Register × ℕ) → Bool
no_registers [] = true
no_registers (c ∷ cs) = false

-- neither a register nor `$`
abbrev pub is_constant : Value → Bool
is_constant v = no_registers v.counts && eqb v.starts 0

-- A number below zero multiplies constants alone: no register and no `$` is subtracted.
abbrev pub scaled : ℤ → Value → Option Value
scaled (pos n) v = some (value (map (λ c. (c.0, c.1 * n)) v.counts) (v.starts * n) (v.number *ℤ pos n) v.bracket)
scaled (negsuc n) v = cond (is_constant v) (some (value [] 0 (v.number *ℤ negsuc n) v.bracket)) none

-- One of two factors is a constant, and multiplies the other.
abbrev pub product : Value → Value → Option Value
product a b =
    cond (is_constant a) (Option.map (mark a.bracket) (scaled a.number b))
    (cond (is_constant b) (Option.map (mark b.bracket) (scaled b.number a)) none)

-- ---- Levels: the expression itself, and one for each open parenthesis or bracket

-- the sign that opened the level; whether it stands in a bracket; the terms before this one; the factors before this one, with the
-- term's sign; and the parts of this factor so far
pub record Level : Type 0 where
  pub opened : ℕ
  pub inside : Bool
  pub total : Value
  pub factors : Value
  pub factor : Value

abbrev pub level : (opened : ℕ) (inside : Bool) (total factors : Value) → Level
level opened inside total factors = record { opened = opened; inside = inside; total = total; factors = factors; factor = zero }

-- the same level, with another total and other factors
abbrev pub again : Level → (total factors : Value) → Level
again l total factors = level l.opened l.inside total factors

-- a part is added to the factor
abbrev pub with : Value → Level → Level
with v l = record { opened = l.opened; inside = l.inside; total = l.total; factors = l.factors; factor = plus l.factor v }

-- what a level comes to
abbrev pub finished : Level → Option Value
finished l = Option.map (plus l.total) (product l.factors l.factor)

-- A part is wanted, or one is there. The other levels are the open ones around it.
pub data State : Type 0 where
  wants : Level → List Level → State
  has : Level → List Level → State

-- the part that a word is; a register only in a bracket
abbrev pub part_of : (inside : Bool) → List ℕ → Option Value
part_of inside w =
    or_else (Option.map (λ n. constant (pos n)) (numeral w))
    (cond (same_list eqb w (bytes "$")) (some dollar)
    (cond inside (Option.map (λ r. multiple r 1) (lookup registers (word w ∷ []))) none))

-- a parenthesis or a bracket that opens
abbrev pub opens : ℕ → Level → List Level → Option State
opens c l ls =
    cond (eqb c (code "(") || eqb c (code "[")) (some (wants (level c (l.inside || eqb c (code "[")) zero one) (l ∷ ls))) none

-- a sign in front of a part
abbrev pub signed : ℕ → Level → List Level → Option State
signed c l ls =
    cond (eqb c (code "+")) (some (wants l ls))
    (cond (eqb c (code "-")) (Option.map (λ f. wants (again l l.total f) ls) (product minus_one l.factors)) none)

-- what closes a level is a part of the level around it
abbrev pub closes : (opened : ℕ) (bracket : Bool) → Level → List Level → Option State
closes opened bracket l [] = none
closes opened bracket l (o ∷ ls) =
    cond (eqb l.opened opened) (Option.map (λ v. has (with (mark bracket v) o) ls) (finished l)) none

-- a sign after a part
abbrev pub joins : ℕ → Level → List Level → Option State
joins c l ls =
    cond (eqb c (code "+")) (Option.map (λ v. wants (again l v one) ls) (finished l))
    (cond (eqb c (code "-")) (Option.map (λ v. wants (again l v minus_one) ls) (finished l))
    (cond (eqb c (code "*")) (Option.map (λ f. wants (again l l.total f) ls) (product l.factors l.factor))
    (cond (eqb c (code ")")) (closes (code "(") false l ls) (cond (eqb c (code "]")) (closes (code "[") true l ls) none))))

-- one token, one step
abbrev pub step : Token → State → Option State
step (word w) (wants l ls) = Option.map (λ v. has (with v l) ls) (part_of l.inside w)
step (sign c) (wants l ls) = or_else (opens c l ls) (signed c l ls)
step (word w) (has l ls) = none
step (sign c) (has l ls) = or_else (opens c l ls) (joins c l ls)

abbrev pub run : List Token → State → Option State
run [] s = some s
run (t ∷ ts) s = step t s >>= run ts

-- all levels are closed, and the last part is there
abbrev pub settled : State → Option Value
settled (wants l ls) = none
settled (has l []) = finished l
settled (has l (o ∷ ls)) = none

unfoldable pub expression : List Token → Option Value
expression ts = run ts (wants (level 0 false zero one) []) >>= settled
