-- MASM's lines: prefix words, a mnemonic, operands with commas between them, a tail, and a comment.
-- Assumes nothing.
use Rattle.std.specs.Prelude.{cond, List, [], ◌∷◌, ℕ}
use Rattle.std.proofs.Math.Option.{Option, none, some, map}
use Rattle.masm.specs.Tokens.{is_letter, Token, word, sign, tokens, uncommented, parts, Table, table, lookup, back, each}
use Rattle.masm.specs.Expressions.{begins, numeral, registers, expression}
use Rattle.masm.specs.Operands.{widths, labels, synonyms, segments, Operand, masks, copies, decorated}

pub data Prefix : Type 0 where
  Xacquire Xrelease Lock Rep Repe Repne : Prefix

-- `repz` is another word for `repe`, and `repnz` for `repne`.
unfoldable pub prefix_words : Table Prefix
unfolding table
prefix_words =
    table "xacquire, xrelease, lock, rep, repe, repz, repne, repnz"
    (Xacquire ∷ Xrelease ∷ Lock ∷ Rep ∷ Repe ∷ Repe ∷ Repne ∷ Repne ∷ [])

-- What the end of a line says of exceptions and rounding, in the Intel manual's words.
pub data Tail : Type 0 where
  -- `{sae}`: suppress all exceptions
  Sae : Tail
  -- `{rn-sae}`: and round to nearest
  Nearest : Tail
  -- `{rd-sae}`: and round down
  Down : Tail
  -- `{ru-sae}`: and round up
  Up : Tail
  -- `{rz-sae}`: and round toward zero
  Zero : Tail

unfoldable pub tails : Table Tail
unfolding table
tails = table "{sae}, {rn-sae}, {rd-sae}, {ru-sae}, {rz-sae}" (Sae ∷ Nearest ∷ Down ∷ Up ∷ Zero ∷ [])

pub record Line : Type 0 where
  pub prefixes : List Prefix
  pub mnemonic : List ℕ
  pub operands : List Operand
  pub tail : Option Tail

abbrev pub prefixed : Prefix → Line → Line
prefixed p l = record { prefixes = p ∷ l.prefixes; mnemonic = l.mnemonic; operands = l.operands; tail = l.tail }

-- what stands after the mnemonic: nothing, or operands and perhaps a tail: `zmm1, zmm2, zmm3 {rn-sae}`
abbrev pub operands_of : (start : ℕ) → List Token → Option (List Operand × Option Tail)
operands_of start [] = some ([], none)
operands_of start (t ∷ ts) =
    let tail = back tails (t ∷ ts) in
    map (λ os. (os, tail.0)) (each (decorated start) (parts tail.1))

-- The mnemonic is a word that begins with a letter.
abbrev pub instruction : (start : ℕ) → List ℕ → List Token → Option Line
instruction start w ts =
    cond (begins is_letter w)
    (map (λ os. record { prefixes = []; mnemonic = w; operands = os.0; tail = os.1 }) (operands_of start ts))
    none

abbrev pub line : (start : ℕ) → List Token → Option Line
line start [] = none
line start (sign c ∷ ts) = none
line start (word w ∷ ts) =
    elim (lookup prefix_words (word w ∷ [])) [ some p ↦ map (prefixed p) (line start ts) | none ↦ instruction start w ts ]

-- What a text is read as: an instruction; no instruction, where it holds blanks or a comment alone; or it is refused.
pub data Reading : Type 0 where
  -- `inc eax`
  shows : Line → Reading
  -- `; refused 4`
  no_instruction : Reading
  -- `inc (`
  refused : Reading

abbrev pub read_tokens : (start : ℕ) → List Token → Reading
read_tokens start [] = no_instruction
read_tokens start (t ∷ ts) = elim (line start (t ∷ ts)) [ some l ↦ shows l | none ↦ refused ]

-- The reading of a text whose instruction starts at the address `start`, which `$` stands for.
unfoldable pub read : (start : ℕ) → List ℕ → Reading
unfolding tokens numeral registers widths labels synonyms segments masks copies prefix_words tails expression
read start text = read_tokens start (uncommented (tokens text))
