-- "Lines to compare (P: proved)": those marked P, each text with its reading, where the instruction starts at 1000h; and three lines of
-- mode 2.
-- Assumes nothing.
use Rattle.std.specs.Prelude.{List, [], ◌∷◌, ℕ}
use Rattle.std.proofs.Math.Option.{none, some}
use Prim.Native.String.{String}
use Rattle.text.specs.Words.{bytes}
use Rattle.masm.specs.Operands.{Dword, times_in, Operand, register, immediate, sized, branch, address}
use Rattle.masm.specs.Lines.{Reading, shows}

-- a mnemonic and operands, with no prefix words
abbrev pub says : String → List Operand → Reading
says name os = shows (record { prefixes = []; mnemonic = bytes name; operands = os; tail = none })

-- eax once and this number, a dword without a segment; eax is register 0
abbrev pub from_eax : ℕ → Operand
from_eax disp = address (some Dword) none (times_in ((0, 1) ∷ [])) disp none none

-- the table, in document 01's order, and then mode 2: a target before 0, one past 2^32, and one with a leading 0; ecx is register 1, fs 28
unfoldable pub readings : List (String × Reading)
readings =
    ("mov eax, dword ptr [eax - 80000000h]", says "mov" (register 0 ∷ from_eax 0x80000000 ∷ [])) ∷
    ("mov eax, dword ptr [eax + 9]", says "mov" (register 0 ∷ from_eax 9 ∷ [])) ∷
    ("mov eax, dword ptr [eax + 0Ah]", says "mov" (register 0 ∷ from_eax 10 ∷ [])) ∷
    ("push 0FFFFFFFFh", says "push" (immediate 0xFFFFFFFF ∷ [])) ∷
    ("jmp $+7Fh", says "jmp" (branch none 0x107F ∷ [])) ∷
    ("jmp short $+7Fh", says "jmp" (branch (some 8) 0x107F ∷ [])) ∷
    ("jmp $-80h", says "jmp" (branch none 0xF80 ∷ [])) ∷
    ("jmp short $+80h", says "jmp" (branch (some 8) 0x1080 ∷ [])) ∷
    ("jmp near ptr $+80h", says "jmp" (branch (some 32) 0x1080 ∷ [])) ∷
    ("jmp $+100h", says "jmp" (branch none 0x1100 ∷ [])) ∷
    ("jmp near ptr $+100h", says "jmp" (branch (some 32) 0x1100 ∷ [])) ∷
    ("jmp $-7FFFFFFCh", says "jmp" (branch none 0x80001004 ∷ [])) ∷
    ("jmp near ptr $-7FFFFFFCh", says "jmp" (branch (some 32) 0x80001004 ∷ [])) ∷
    ("aam", says "aam" []) ∷
    ("aam 0Ah", says "aam" (immediate 10 ∷ [])) ∷
    ("fxsave fs:[ecx]", says "fxsave" (address none (some 28) (times_in ((1, 1) ∷ [])) 0 none none ∷ [])) ∷
    ("jmp short 0FFFFFFFEh", says "jmp" (sized 8 0xFFFFFFFE ∷ [])) ∷
    ("jmp near ptr 00000015h", says "jmp" (sized 32 0x15 ∷ [])) ∷
    ("call 0FFFFFF80h", says "call" (immediate 0xFFFFFF80 ∷ [])) ∷ []
