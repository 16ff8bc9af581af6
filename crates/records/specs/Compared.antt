-- "Lines to compare (P: proved)": those marked P, as one table of bodies and lines, with the branches of mode 1 as document 02's W-202
-- has them, and three of mode 2 as W-205 has them.
-- Assumes nothing.
use Rattle.std.specs.Prelude.{◌≡◌, List, [], ◌∷◌, ◌++◌, ℕ, ◌≤◌, length, take, drop}
use Prim.Native.String.{String}
use Rattle.text.specs.Words.{bytes}
use Rattle.text.specs.Write.{write}
use Rattle.records.specs.Records.{record_outcome}
use Rattle.records.specs.declared.Asked.{Asked}

-- a body as document 01 lays it out: opcode (of one byte here), no flags, length, mem_size, imm, disp, then the count and the operands
abbrev pub body : ℕ → ℕ → ℕ → List ℕ → List ℕ → List ℕ → List ℕ
body opcode length size imm disp operands = 0 ∷ opcode ∷ 0 ∷ length ∷ size ∷ (imm ++ (disp ++ operands))

-- an imm or a disp of 0
abbrev pub zeros : List ℕ
zeros = 0 ∷ 0 ∷ 0 ∷ 0 ∷ []

-- one operand, an immediate of this kind
abbrev pub one_immediate : ℕ → List ℕ
one_immediate kind = 1 ∷ kind ∷ 0 ∷ 0 ∷ 0 ∷ 0 ∷ []

-- MOV of mem_size 4 with a disp: register eax in the R place, and `[r disp]` of eax
abbrev pub mov : List ℕ → List ℕ
mov disp = body 23 6 4 zeros disp (2 ∷ 1 ∷ 0 ∷ 0 ∷ 0 ∷ 0 ∷ 12 ∷ 0 ∷ 0 ∷ 0 ∷ 0 ∷ [])

-- JMP by its operand's kind, its length and its distance
abbrev pub jmp : ℕ → ℕ → List ℕ → List ℕ
jmp kind length distance = body 0 length 0 distance zeros (one_immediate kind)

-- AAM of kind 6 with an imm
abbrev pub aam : List ℕ → List ℕ
aam imm = body 103 2 0 imm zeros (one_immediate 6)

-- the same body of version 2: "a four-byte start address after the instruction length"
abbrev pub starts_at : List ℕ → List ℕ → List ℕ
starts_at address body = take 4 body ++ (address ++ drop 4 body)

-- CALL of kind 5 by its length and its distance
abbrev pub call : ℕ → List ℕ → List ℕ
call length distance = body 1 length 0 distance zeros (one_immediate 5)

-- a line to compare: the version and the modes that it is of, the body, and the text
pub record Compared : Type 0 where
  pub version : ℕ
  pub modes : List ℕ
  pub body : List ℕ
  pub line : String

-- a line of both modes
abbrev pub in_both : List ℕ → String → Compared
in_both body line = record { version = 1; modes = 0 ∷ 1 ∷ []; body = body; line = line }

-- a line that the other mode prints otherwise
abbrev pub in_mode : ℕ → List ℕ → String → Compared
in_mode mode body line = record { version = 1; modes = mode ∷ []; body = body; line = line }

-- a line of mode 2, where the record starts at an address
abbrev pub in_target : List ℕ → List ℕ → String → Compared
in_target address body line = record { version = 2; modes = 2 ∷ []; body = starts_at address body; line = line }

-- the table, in document 01's order: the least disp, disp 9 and 10; PUSH of kind 3 and -1; JMP of kind 3 and length 2, 125 and 126; JMP
-- of kind 5 and length 5, 123, 251 and 2147483647; AAM of imm 10 and 266; FXSAVE of mem_size 63 and segment fs;
-- then JMP of kind 3 backwards past 0, JMP of kind 5 forwards past 2^32, and a CALL whose target has a leading 0
unfoldable pub lines : List Compared
lines =
    in_both (mov (0x80 ∷ 0 ∷ 0 ∷ 0 ∷ [])) "mov eax, dword ptr [eax - 80000000h]" ∷
    in_both (mov (0 ∷ 0 ∷ 0 ∷ 9 ∷ [])) "mov eax, dword ptr [eax + 9]" ∷
    in_both (mov (0 ∷ 0 ∷ 0 ∷ 10 ∷ [])) "mov eax, dword ptr [eax + 0Ah]" ∷
    in_both (body 33 2 4 (0xFF ∷ 0xFF ∷ 0xFF ∷ 0xFF ∷ []) zeros (one_immediate 3)) "push 0FFFFFFFFh" ∷
    in_mode 0 (jmp 3 2 (0 ∷ 0 ∷ 0 ∷ 125 ∷ [])) "jmp $+7Fh" ∷
    in_mode 1 (jmp 3 2 (0 ∷ 0 ∷ 0 ∷ 125 ∷ [])) "jmp short $+7Fh" ∷
    in_mode 0 (jmp 3 2 (0 ∷ 0 ∷ 0 ∷ 126 ∷ [])) "jmp $-80h" ∷
    in_mode 1 (jmp 3 2 (0 ∷ 0 ∷ 0 ∷ 126 ∷ [])) "jmp short $+80h" ∷
    in_both (jmp 5 5 (0 ∷ 0 ∷ 0 ∷ 123 ∷ [])) "jmp near ptr $+80h" ∷
    in_mode 0 (jmp 5 5 (0 ∷ 0 ∷ 0 ∷ 251 ∷ [])) "jmp $+100h" ∷
    in_mode 1 (jmp 5 5 (0 ∷ 0 ∷ 0 ∷ 251 ∷ [])) "jmp near ptr $+100h" ∷
    in_mode 0 (jmp 5 5 (0x7F ∷ 0xFF ∷ 0xFF ∷ 0xFF ∷ [])) "jmp $-7FFFFFFCh" ∷
    in_mode 1 (jmp 5 5 (0x7F ∷ 0xFF ∷ 0xFF ∷ 0xFF ∷ [])) "jmp near ptr $-7FFFFFFCh" ∷
    in_both (aam (0 ∷ 0 ∷ 0 ∷ 10 ∷ [])) "aam" ∷
    in_both (aam (0 ∷ 0 ∷ 1 ∷ 10 ∷ [])) "aam 0Ah" ∷
    in_both (body 39 3 63 zeros zeros (1 ∷ 11 ∷ 5 ∷ 1 ∷ 0 ∷ 0 ∷ [])) "fxsave fs:[ecx]" ∷
    in_target zeros (jmp 3 2 (0 ∷ 0 ∷ 0 ∷ 0xFC ∷ [])) "jmp short 0FFFFFFFEh" ∷
    in_target (0xFF ∷ 0xFF ∷ 0xFF ∷ 0xF0 ∷ []) (jmp 5 5 (0 ∷ 0 ∷ 0 ∷ 0x20 ∷ [])) "jmp near ptr 00000015h" ∷
    in_target (0 ∷ 0x40 ∷ 0x10 ∷ 0 ∷ []) (call 5 (0xFF ∷ 0xBF ∷ 0xEF ∷ 0x7B ∷ [])) "call 0FFFFFF80h" ∷ []

-- what is asked for of a body of a version, in a mode
abbrev pub asking_of : (version mode : ℕ) → Asked
asking_of version mode = record { mode = mode; version = version }

-- and of a body of version 1
abbrev pub asking : ℕ → Asked
asking mode = asking_of 1 mode

-- so asked, the body is printed as this text, into every buffer that has room for it
abbrev pub Prints : Asked → List ℕ → List ℕ → Type 0
Prints asked body text =
    (buf : List ℕ) → length text ≤ length buf → record_outcome asked body buf ≡ record { answer = 0; length = length text; buffer = write buf 0 text }

-- it holds of every entry
abbrev pub All : {A : Type 0} → (A → Type 0) → List A → Type 0
All P [] = Unit {0}
All P (x ∷ xs) = P x × All P xs

-- the line is printed, in each of its modes
abbrev pub Holds : Compared → Type 0
Holds c = All (λ (mode : ℕ). Prints (asking_of c.version mode) c.body (bytes c.line)) c.modes
