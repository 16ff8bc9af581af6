-- MASM's operands: registers, numbers, branch targets and addresses, these with a mask and a broadcast after them.
-- Assumes nothing.
use Rattle.std.specs.Prelude.{cond, not, ◌&&◌, ◌||◌, List, [], ◌∷◌, ◌++◌, ℕ, suc, ◌+◌, ◌-◌, ◌%◌, ◌^◌, eqb, ℤ, pos, negsuc, ◌+ℤ◌}
use Rattle.std.proofs.Math.Option.{Option, none, some, map}
use Prim.Native.Char.{code}
use Rattle.masm.specs.Tokens.{bytes, Token, word, sign, same_list, same_token, at_brace, Table, table, lookup, after, front, is_said, or_else, ◌>>=◌}
use Rattle.masm.specs.Expressions.{decimal, Register, class, registers, Value, expression}

-- ---- Before an expression: perhaps `short`, `near ptr` or a type and `ptr`, and perhaps a segment register and `:`

-- how many bits a branch has for its distance, where a word says it
abbrev pub Width : Type 0
Width = ℕ

unfoldable pub widths : Table Width
unfolding table
widths = table "short, near ptr" (8 ∷ 32 ∷ [])

pub data Label : Type 0 where
  Byte Word Dword Fword Qword Mmword Tbyte Xmmword Ymmword Zmmword : Label

unfoldable pub labels : Table Label
unfolding table
labels =
    table "byte ptr, word ptr, dword ptr, fword ptr, qword ptr, mmword ptr, tbyte ptr, xmmword ptr, ymmword ptr, zmmword ptr"
    (Byte ∷ Word ∷ Dword ∷ Fword ∷ Qword ∷ Mmword ∷ Tbyte ∷ Xmmword ∷ Ymmword ∷ Zmmword ∷ [])

-- other words for the same sizes: signed numbers, floating-point numbers, and sixteen bytes
unfoldable pub synonyms : Table Label
unfolding table
synonyms =
    table "sbyte ptr, sword ptr, sdword ptr, sqword ptr, real4 ptr, real8 ptr, real10 ptr, oword ptr"
    (Byte ∷ Word ∷ Dword ∷ Qword ∷ Dword ∷ Qword ∷ Tbyte ∷ Xmmword ∷ [])

unfoldable pub segments : Table Register
unfolding table
segments = table "es:, cs:, ss:, ds:, fs:, gs:" (24 ∷ 25 ∷ 26 ∷ 27 ∷ 28 ∷ 29 ∷ [])

-- ---- Operands

pub data Operand : Type 0 where
  -- `ecx`
  register : Register → Operand
  -- `0FFh`
  immediate : ℕ → Operand
  -- `short 401019h`, `near ptr 401019h`: a number as an immediate is, and how many bits a branch to it has for its distance
  sized : Width → (number : ℕ) → Operand
  -- `$+80h`, `short $+80h`, `near ptr $+80h`
  branch : Option Width → (target : ℕ) → Operand
  -- `dword ptr fs:[ebx + esi * 4 - 8]`, `[eax]{k1}`, `qword ptr [eax]{1to8}`, `[eax]{k1}{1to8}`
  address : Option Label → (segment : Option Register) (times : Register → ℕ) (disp : ℕ) (mask : Option Register) (broadcast : Option ℕ)
      → Operand

-- a plain number, alone or after a word that says a width
abbrev pub plain : Option Width → ℕ → Operand
plain none n = immediate n
plain (some width) n = sized width n

-- how many times a register counts in all
abbrev pub times_in : List (Register × ℕ) → Register → ℕ
times_in [] r = 0
times_in (c ∷ cs) r = cond (eqb r c.0) c.1 0 + times_in cs r

-- Numbers are modulo 2^32: below 0, what is missing to the next multiple of 2^32.
abbrev pub wrapped : ℤ → ℕ
wrapped (pos n) = n % 2 ^ 32
wrapped (negsuc n) = (2 ^ 32 - suc n % 2 ^ 32) % 2 ^ 32

-- with a bracket or a segment: an address, without a width and `$`
abbrev pub address_of : Option Width → Option Label → Option Register → Value → Option Operand
address_of width label segment v =
    cond (is_said width || not (eqb v.starts 0)) none (some (address label segment (times_in v.counts) (wrapped v.number) none none))

-- without either: a branch target where `$`, the address of the instruction itself, stands there once, and a plain number without `$`
abbrev pub plain_of : (start : ℕ) → Option Width → Option Label → Value → Option Operand
plain_of start width label v =
    cond (eqb v.starts 1 && not (is_said label)) (some (branch width (wrapped (pos start +ℤ v.number))))
    (cond (eqb v.starts 0 && not (is_said label)) (some (plain width (wrapped v.number))) none)

-- an expression with what stands before it
abbrev pub expressed : (start : ℕ) → Option Width → Option Label → List Token → Option Operand
expressed start width label ts =
    let segment = front segments ts in
    expression segment.1
    >>= λ v. cond (v.bracket || is_said segment.0) (address_of width label segment.0 v) (plain_of start width label v)

-- A type before a register says nothing more.
abbrev pub typed : (start : ℕ) → Option Width → Option Label → List Token → Option Operand
typed start width label ts =
    or_else (cond (is_said width) none (map register (lookup registers ts))) (expressed start width label ts)

-- an operand without decorations
abbrev pub operand : (start : ℕ) → List Token → Option Operand
operand start ts =
    let width = front widths ts in
    let label = front (labels ++ synonyms) width.1 in
    typed start width.0 label.0 label.1

-- ---- After an address: perhaps a mask, and then perhaps a broadcast

-- `{k1}`
unfoldable pub masks : Table Register
unfolding table
masks = class 9 "{k0}, {k1}, {k2}, {k3}, {k4}, {k5}, {k6}, {k7}"

-- the number after `1to` in a word: 16 in `1to16`
unfoldable pub copies : Token → Option ℕ
unfolding decimal
copies (sign c) = none
copies (word w) = after eqb (bytes "1to") w >>= decimal

-- `{1to16}`: the number in front of some tokens, if it is there, and the tokens after it
abbrev pub broadcast : List Token → Option ℕ × List Token
broadcast [] = (none, [])
broadcast (t ∷ []) = (none, t ∷ [])
broadcast (t ∷ u ∷ []) = (none, t ∷ u ∷ [])
broadcast (t ∷ u ∷ v ∷ ts) =
    elim (cond (same_token t (sign (code "{")) && same_token v (sign (code "}"))) (copies u) none) [
      | some n ↦ (some n, ts)
      | none ↦ (none, t ∷ u ∷ v ∷ ts)
    ]

-- an operand with a mask or a broadcast after it: no operand but an address has them
abbrev pub decorate : Option Register → Option ℕ → Operand → Option Operand
decorate mask copied (register r) = none
decorate mask copied (immediate n) = none
decorate mask copied (sized width n) = none
decorate mask copied (branch width target) = none
decorate mask copied (address label segment times disp m c) = some (address label segment times disp mask copied)

-- an operand and what stands after it: nothing, a mask, a broadcast, or both: `[eax]{k1}{1to16}`
abbrev pub decorated : (start : ℕ) → List Token → Option Operand
decorated start ts =
    let split = at_brace ts in
    let mask = front masks split.1 in
    let copied = broadcast mask.1 in
    cond (same_list same_token [] copied.1)
    (operand start split.0 >>= λ o. cond (is_said mask.0 || is_said copied.0) (decorate mask.0 copied.0 o) (some o))
    none
