-- Worked examples from MASM's rules on numbers, expressions, addresses and lines, each by computation. Many are lines that no printer of
-- ours prints. Our own choices, where MASM reads otherwise or refuses, stand apart in Choices.antt.
-- Registers by number: 0 eax, 1 ecx, 2 edx, 3 ebx, 6 esi, 7 edi, 24 es, 28 fs, 32 st(0), 35 st(3), 65 zmm1, 66 zmm2, 72 k0, 73 k1.
use mathlib.Core.Path.{◌≡◌, refl, ap, fun_ext}
use mathlib.Core.Bool.{Bool, true, false, cond}
use mathlib.Core.List.{List, [], ◌∷◌, map}
use mathlib.Core.Option.{Option, none, some}
use Prim.Native.Nat.{ℕ, ◌+◌, ◌-◌, ◌%◌, ◌^◌}
use Prim.Native.String.{String}
use lib.Dec.{eqb}
use Rattle.masm.specs.Tokens.{bytes}
use Rattle.masm.specs.Expressions.{Register}
use Rattle.masm.specs.Operands.{Label, Byte, Dword, Qword, Tbyte, times_in, Operand, register, immediate, sized, branch, address}
use Rattle.masm.specs.Lines.{Rep, Sae, Nearest, Down, Up, Zero, Reading, shows, no_instruction, refused, read}

-- a mnemonic and operands, with no prefix words and no tail
abbrev pub says : String → List Operand → Reading
says name os = shows (record { prefixes = []; mnemonic = bytes name; operands = os; tail = none })

-- these lines are all read so
abbrev pub AllRead : List String → Reading → Type 0
AllRead lines r = map (λ s. read 0 (bytes s)) lines ≡ map (λ s. r) lines

-- ---- Numbers

without_a_letter_is_decimal : read 0 (bytes "mov eax, 10") ≡ says "mov" (register 0 ∷ immediate 10 ∷ [])
unfolding read
without_a_letter_is_decimal = refl

with_h_is_hexadecimal : read 0 (bytes "mov eax, 10h") ≡ says "mov" (register 0 ∷ immediate 16 ∷ [])
unfolding read
with_h_is_hexadecimal = refl

every_radix : AllRead ("push 13" ∷ "push 13d" ∷ "push 13T" ∷ "push 0Dh" ∷ "push 15o" ∷ "push 15Q" ∷ "push 1101b" ∷ "push 1101Y" ∷ []) (says "push" (immediate 13 ∷ []))
unfolding read
every_radix = refl

either_case : read 0 (bytes "MOV Eax,0fFH") ≡ says "mov" (register 0 ∷ immediate 255 ∷ [])
unfolding read
either_case = refl

-- a letter first, a digit of another base, and a number of 2^32 are no numbers
no_number : AllRead ("push FFh" ∷ "push 12b" ∷ "push 1e" ∷ "push 100000000h" ∷ "push 4294967296" ∷ []) refused
unfolding read
no_number = refl

largest : read 0 (bytes "push 4294967295") ≡ says "push" (immediate 4294967295 ∷ [])
unfolding read
largest = refl

-- ---- Constants

minus_one_lem : AllRead ("push -1" ∷ "push 1 - 2" ∷ "push 0FFFFFFFFh" ∷ "push 2 - 3 * 1" ∷ "push -(3 - 2)" ∷ "push 1 * -1" ∷ []) (says "push" (immediate 4294967295 ∷ []))
unfolding read
minus_one_lem = refl

nine : AllRead ("push (1 + 2) * 3" ∷ "push 3 + 2 * 3" ∷ "push 13 - 2 - 2" ∷ "push 10 - 2 + 1" ∷ "push 13 - (2 + 2)" ∷ "push - - 9" ∷ "push +9" ∷ "push 3 * 2 (1)" ∷ []) (says "push" (immediate 9 ∷ []))
unfolding read
nine = refl

not_an_expression : AllRead ("push 10 20" ∷ "push ()" ∷ "push (5" ∷ "push 5)" ∷ "push (5]" ∷ "push 5 +" ∷ "push * 5" ∷ "push 5 * * 5" ∷ []) refused
unfolding read
not_an_expression = refl

-- ---- Registers

registers_in_order : read 0 (bytes "xchg ecx, edx") ≡ says "xchg" (register 1 ∷ register 2 ∷ [])
unfolding read
registers_in_order = refl

stack_registers : read 0 (bytes "fadd st, st (3)") ≡ says "fadd" (register 32 ∷ register 35 ∷ [])
unfolding read
stack_registers = refl

a_type_before_a_register : read 0 (bytes "inc dword ptr eax") ≡ says "inc" (register 0 ∷ [])
unfolding read
a_type_before_a_register = refl

-- ---- Addresses

-- one address in many ways: ebx once, esi four times, and 8
one_address :
    AllRead (
    "lea eax, [ebx + esi * 4 + 8]" ∷ "lea eax, [ebx][esi*4][8]" ∷ "lea eax, 8[ebx][4*esi]" ∷ "lea eax, [ebx+esi*(8-4)]+2*4" ∷ "lea eax, [ebx - (8 - 16)][esi*4]"
    ∷ "lea eax, 10[ebx + esi*4] - 2" ∷ "lea eax, [ebx] + [esi * 4] + 8" ∷ "lea eax, [(ebx) + 4 * esi + 0Ah - 2]" ∷ "lea eax, [ebx + esi*2(2) + 8]" ∷ []
    )
    (says "lea" (register 0 ∷ address none none (times_in ((3, 1) ∷ (6, 4) ∷ [])) 8 none none ∷ []))
unfolding read
one_address = refl

least_displacement : read 0 (bytes "mov eax, dword ptr [eax - 80000000h]")
    ≡ says "mov" (register 0 ∷ address (some Dword) none (times_in ((0, 1) ∷ [])) (2 ^ 31) none none ∷ [])
unfolding read
least_displacement = refl

-- a register that stands twice counts twice
doubled : read 0 (bytes "lea eax, [ecx + ecx]") ≡ says "lea" (register 0 ∷ address none none (times_in ((1, 2) ∷ [])) 0 none none ∷ [])
unfolding read
doubled = ap (λ (times : Register → ℕ). says "lea" (register 0 ∷ address none none times 0 none none ∷ [])) (fun_ext (λ r. twice (eqb r 1)))
  where
    twice : (b : Bool) → cond b 1 0 + (cond b 1 0 + 0) ≡ cond b 2 0 + 0
    twice true = refl
    twice false = refl

a_segment_makes_memory : AllRead ("inc dword ptr fs:0" ∷ "inc dword ptr fs:[0]" ∷ "inc sdword ptr FS : (8 - 8)" ∷ "inc real4 ptr fs:[4] - 4" ∷ []) (says "inc" (address (some Dword) (some 28) (times_in []) 0 none none ∷ []))
unfolding read
a_segment_makes_memory = refl

type_words : AllRead ("fld tbyte ptr [ecx]" ∷ "fld real10 ptr [ecx]" ∷ []) (says "fld" (address (some Tbyte) none (times_in ((1, 1) ∷ [])) 0 none none ∷ []))
unfolding read
type_words = refl

-- registers are not subtracted, not multiplied with each other, and stand in a bracket
no_address : AllRead ("lea edx, [eax - ecx]" ∷ "lea edx, [-eax]" ∷ "lea edx, -8[eax]" ∷ "lea edx, [eax * ecx]" ∷ "lea edx, eax + 1" ∷ "mov edx, fs:eax" ∷ "lea edx, eax[8]" ∷ "lea edx, [ecx" ∷ "inc dword [ecx]" ∷ []) refused
unfolding read
no_address = refl

-- ---- Masks, broadcasts and tails

mask_registers : read 0 (bytes "kmovd eax, k1") ≡ says "kmovd" (register 0 ∷ register 73 ∷ [])
unfolding read
mask_registers = refl

-- `[eax]` with a mask and a broadcast
abbrev decorated_eax : Option Label → Option Register → Option ℕ → Operand
decorated_eax label mask copied = address label none (times_in ((0, 1) ∷ [])) 0 mask copied

a_mask : AllRead ("vmovapd [eax]{k1}, zmm2" ∷ "VMOVAPD [EAX] {K1} , ZMM2" ∷ "vmovapd [eax]{ k1 }, zmm2" ∷ []) (says "vmovapd" (decorated_eax none (some 73) none ∷ register 66 ∷ []))
unfolding read
a_mask = refl

masks_in_order : map (λ s. read 0 (bytes s)) ("f [eax]{k0}" ∷ "f [eax]{k1}" ∷ "f [eax]{k2}" ∷ "f [eax]{k3}" ∷ "f [eax]{k4}" ∷ "f [eax]{k5}" ∷ "f [eax]{k6}" ∷ "f [eax]{k7}" ∷ [])
    ≡ map (λ k. says "f" (decorated_eax none (some k) none ∷ [])) (72 ∷ 73 ∷ 74 ∷ 75 ∷ 76 ∷ 77 ∷ 78 ∷ 79 ∷ [])
unfolding read
masks_in_order = refl

a_mask_after_a_segment : AllRead ("f fs:[8]{k1}" ∷ "f fs:8{k1}" ∷ []) (says "f" (address none (some 28) (times_in []) 8 (some 73) none ∷ []))
unfolding read
a_mask_after_a_segment = refl

a_broadcast : AllRead ("vaddpd zmm1, zmm2, qword ptr [eax]{1to8}" ∷ "VADDPD ZMM1, ZMM2, QWORD PTR [EAX] {1TO08}" ∷ []) (says "vaddpd" (register 65 ∷ register 66 ∷ decorated_eax (some Qword) none (some 8) ∷ []))
unfolding read
a_broadcast = refl

broadcasts : map (λ s. read 0 (bytes s)) ("f [eax]{1to0}" ∷ "f [eax]{1to5}" ∷ "f [eax]{1to16}" ∷ "f [eax]{1to64}" ∷ "f [eax]{1to4294967295}" ∷ [])
    ≡ map (λ n. says "f" (decorated_eax none none (some n) ∷ [])) (0 ∷ 5 ∷ 16 ∷ 64 ∷ 4294967295 ∷ [])
unfolding read
broadcasts = refl

a_mask_and_a_broadcast : read 0 (bytes "vfpclassps k1, dword ptr [eax]{k2}{1to16}, 5")
    ≡ says "vfpclassps" (register 73 ∷ decorated_eax (some Dword) (some 74) (some 16) ∷ immediate 5 ∷ [])
unfolding read
a_mask_and_a_broadcast = refl

tails_in_order : map (λ s. read 0 (bytes s)) ("f zmm1 {sae}" ∷ "f zmm1 {rn-sae}" ∷ "f zmm1 {rd-sae}" ∷ "f zmm1 {ru-sae}" ∷ "f zmm1 {rz-sae}" ∷ [])
    ≡ map (λ t. shows (record { prefixes = []; mnemonic = bytes "f"; operands = register 65 ∷ []; tail = some t })) (Sae ∷ Nearest ∷ Down ∷ Up ∷ Zero ∷ [])
unfolding read
tails_in_order = refl

a_tail : AllRead ("vaddpd zmm1, [eax]{k1}{1to8} {ru-sae}" ∷ "VADDPD ZMM1,[EAX]{K1}{1TO8}{RU-SAE}" ∷ "vaddpd zmm1, [eax] {k1} {1to8} { ru - sae } ; {sae}" ∷ [])
    (shows (record { prefixes = []; mnemonic = bytes "vaddpd"; operands = register 65 ∷ decorated_eax none (some 73) (some 8) ∷ []; tail = some Up }))
unfolding read
a_tail = refl

-- a mask and a broadcast stand after an address, and a tail after the last operand
misplaced : AllRead (
    "f zmm1{k1}, [eax]" ∷ "f zmm1{1to8}" ∷ "f 5{k1}" ∷ "f 5{1to8}" ∷ "f short 5{k1}" ∷ "f near ptr 5{1to8}" ∷ "f $+5{k1}" ∷ "f short $+5{1to8}" ∷ "f [eax]{k1}{k2}" ∷ "f [eax]{1to8}{1to8}" ∷ "f [eax]{1to8}{k1}"
    ∷ "f zmm1 {sae}, zmm2" ∷ "f {sae}" ∷ "f zmm1, {sae}" ∷ "f {sae} zmm1" ∷ "f zmm1 {sae} {sae}" ∷ "f zmm1 {sae} zmm2" ∷ "f zmm1 {sae} + 5" ∷ "f [eax] {sae} {k1}" ∷ "{sae} f zmm1"
    ∷ "f {k1}" ∷ "f {k1}[eax]" ∷ "f [eax]{k1}[ecx]" ∷ "f [eax]{k1} + 8" ∷ "f [eax{k1}]" ∷ "f fs{k1}:[eax]" ∷ "f{k1} [eax]" ∷ []
    )
    refused
unfolding read
misplaced = refl

no_decoration : AllRead (
    "f [eax]{1to}" ∷ "f [eax]{1to0x4}" ∷ "f [eax]{1to8h}" ∷ "f [eax]{1to 8}" ∷ "f [eax]{1to-8}" ∷ "f [eax]{1to4294967296}" ∷ "f [eax]{2to8}" ∷ "f [eax]{8}" ∷ "f [eax]{to8}"
    ∷ "f [eax]{k8}" ∷ "f [eax]{k01}" ∷ "f [eax]{k}" ∷ "f [eax]{eax}" ∷ "f [eax]{}" ∷ "f [eax]{k1, k2}" ∷ "f [eax]{k1" ∷ "f [eax]{1to8" ∷ "f [eax]k1}" ∷ "f [eax]{{k1}}" ∷ "f [eax][k1}" ∷ "f [eax](k1)"
    ∷ "f zmm1 {sae" ∷ "f zmm1 sae}" ∷ "f zmm1 {rn}" ∷ "f zmm1 {rn sae}" ∷ "f zmm1 {rnsae}" ∷ "f zmm1 {r-sae}" ∷ "f zmm1 {}" ∷ []
    )
    refused
unfolding read
no_decoration = refl

-- ---- Branches

from_the_start : (start : ℕ) → read start (bytes "jmp $+80h") ≡ says "jmp" (branch none ((start + 128) % 2 ^ 32) ∷ [])
unfolding read
from_the_start start = refl

short_from_the_start : read 4096 (bytes "jmp short $+80h") ≡ says "jmp" (branch (some 8) 4224 ∷ [])
unfolding read
short_from_the_start = refl

near_from_the_start : read 4096 (bytes "jmp near ptr $+80h") ≡ says "jmp" (branch (some 32) 4224 ∷ [])
unfolding read
near_from_the_start = refl

back_past_zero : read 64 (bytes "jmp $ - 80h") ≡ says "jmp" (branch none (2 ^ 32 - 64) ∷ [])
unfolding read
back_past_zero = refl

one_target : AllRead ("jmp $ + 80h - 2" ∷ "jmp 80h + $ - 2" ∷ "jmp $ + (80h - 2)" ∷ "jmp 7Eh + ($)" ∷ "jmp ($ + 80h) - 2" ∷ []) (says "jmp" (branch none 126 ∷ []))
unfolding read
one_target = refl

no_target : AllRead ("jmp $ + $" ∷ "jmp - $" ∷ "jmp 8 - $" ∷ []) refused
unfolding read
no_target = refl

short_target : AllRead ("jmp short $+5" ∷ "JMP SHORT $ + 5" ∷ "Jmp Short 8 + $ - 3" ∷ "jmp short($ + 5)" ∷ []) (says "jmp" (branch (some 8) 5 ∷ []))
unfolding read
short_target = refl

near_target : AllRead ("jmp near ptr $+5" ∷ "JMP NEAR PTR $ + 5" ∷ "jmp near\tPtr 5 + $" ∷ "jmp near ptr($ + 5)" ∷ []) (says "jmp" (branch (some 32) 5 ∷ []))
unfolding read
near_target = refl

-- `near` alone and `short ptr` say no width
no_width : AllRead ("jmp near $" ∷ "jmp near $+5" ∷ "jmp short ptr $+5" ∷ "jmp ptr $+5" ∷ "jmp near 5" ∷ "jmp short ptr 5" ∷ "jmp ptr 5" ∷ []) refused
unfolding read
no_width = refl

-- a number without `$` does not count from the start
short_to_a_number : (start : ℕ) → read start (bytes "jmp short 00401019h") ≡ says "jmp" (sized 8 0x401019 ∷ [])
unfolding read
short_to_a_number start = refl

near_to_a_number : (start : ℕ) → read start (bytes "jmp near ptr 0FFFFFF80h") ≡ says "jmp" (sized 32 0xFFFFFF80 ∷ [])
unfolding read
near_to_a_number start = refl

to_a_number : (start : ℕ) → read start (bytes "call 0FFFFFF80h") ≡ says "call" (immediate 0xFFFFFF80 ∷ [])
unfolding read
to_a_number start = refl

short_number : AllRead ("jmp short 5" ∷ "JMP SHORT 05H" ∷ "jmp short(5)" ∷ "jmp short 8 - 3" ∷ "jmp short -(1 - 2 * 3)" ∷ []) (says "jmp" (sized 8 5 ∷ []))
unfolding read
short_number = refl

near_number : AllRead ("jmp near ptr -1" ∷ "JMP NEAR PTR 0ffffffffH" ∷ "jmp near\tPtr 1 - 2" ∷ "jmp near ptr(4294967295)" ∷ []) (says "jmp" (sized 32 4294967295 ∷ []))
unfolding read
near_number = refl

-- a width stands before a target or a plain number, and before nothing else
a_width_without_a_target : AllRead (
    "jmp short" ∷ "jmp short eax" ∷ "jmp short [eax]" ∷ "jmp short [401019h]" ∷ "jmp short 8[401019h]" ∷ "jmp short fs:0" ∷ "jmp short fs:5" ∷ "jmp short fs:[5]"
    ∷ "jmp short dword ptr $" ∷ "jmp short dword ptr 5" ∷ "jmp dword ptr short 5" ∷ "jmp short dword ptr [5]" ∷ "jmp short 5 eax" ∷ "jmp short 5 + eax" ∷ "jmp short $ + $"
    ∷ "jmp near ptr" ∷ "jmp near ptr eax" ∷ "jmp near ptr [401019h]" ∷ "jmp near ptr dword ptr 5" ∷ "jmp near ptr fs:5" ∷ []
    )
    refused
unfolding read
a_width_without_a_target = refl

-- `$` is a letter of names: this is an instruction named `jmp$`, which MASM does not know, and no branch
a_name_with_a_dollar : AllRead ("jmp$ + 80h" ∷ "jmp$+80h" ∷ []) (says "jmp$" (immediate 128 ∷ []))
unfolding read
a_name_with_a_dollar = refl

-- ---- Lines

prefix_and_labels : read 0 (bytes "rep movs byte ptr es:[edi], byte ptr [esi]")
    ≡ shows (record {
      prefixes = Rep ∷ [];
      mnemonic = bytes "movs";
      operands = address (some Byte) (some 24) (times_in ((7, 1) ∷ [])) 0 none none ∷ address (some Byte) none (times_in ((6, 1) ∷ [])) 0 none none ∷ [];
      tail = none;
    })
unfolding read
prefix_and_labels = refl

a_comment_ends_the_line : AllRead ("push 5;" ∷ "push 5 ; , [ eax" ∷ "\tPUSH\t5\t; push 6" ∷ []) (says "push" (immediate 5 ∷ []))
unfolding read
a_comment_ends_the_line = refl

nothing-there : AllRead ("" ∷ "  \t " ∷ "; refused 4" ∷ "  ; mov eax, ecx" ∷ []) no_instruction
unfolding read
nothing-there = refl

-- an operand too few, and no mnemonic
no_line : AllRead ("mov eax, , ecx" ∷ "mov eax," ∷ "mov , eax" ∷ "lock" ∷ ", eax" ∷ "5" ∷ []) refused
unfolding read
no_line = refl
