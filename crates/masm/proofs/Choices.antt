-- Where the reader is not MASM: it reads and does not judge what can be encoded, and it does not know all that MASM knows.
-- docs/DIFFERENCES.md lists these choices.
use mathlib.Core.Path.{◌≡◌, refl, ap, fun_ext}
use mathlib.Core.Bool.{cond}
use mathlib.Core.List.{[], ◌∷◌}
use mathlib.Core.Option.{none, some}
use Prim.Native.Nat.{ℕ, ◌+◌}
use native.Mathlib.Omega.{arith}
use lib.Dec.{eqb}
use Rattle.masm.specs.Tokens.{bytes}
use Rattle.masm.specs.Expressions.{Register}
use Rattle.masm.specs.Operands.{Dword, times_in, register, immediate, branch, address}
use Rattle.masm.specs.Lines.{Sae, shows, refused, read}
use Rattle.masm.proofs.Examples.{says, AllRead}

-- ---- Read otherwise

-- MASM takes both for an immediate
a_lone_number_in_a_bracket : AllRead ("inc dword ptr [0ABCDh]" ∷ "inc dword ptr 0ABCDh[0]" ∷ []) (says "inc" (address (some Dword) none (times_in []) 43981 none none ∷ []))
unfolding read
a_lone_number_in_a_bracket = refl

-- base and index are not told apart
either_order : read 0 (bytes "lea eax, [ecx + edx]") ≡ read 0 (bytes "lea eax, [edx + ecx]")
unfolding read
either_order =
    ap (λ (times : Register → ℕ). says "lea" (register 0 ∷ address none none times 0 none none ∷ []))
    (fun_ext (λ r. swapped (cond (eqb r 1) 1 0) (cond (eqb r 2) 1 0)))
  where
    swapped : (a b : ℕ) → a + (b + 0) ≡ b + (a + 0)
    swapped a b = omega arith

-- ---- Read, though MASM refuses it

any_multiple : read 0 (bytes "inc [esp * 3 + ax]") ≡ says "inc" (address none none (times_in ((4, 3) ∷ (8, 1) ∷ [])) 0 none none ∷ [])
unfolding read
any_multiple = refl

a_sign_before_a_register : read 0 (bytes "inc [+eax]") ≡ says "inc" (address none none (times_in ((0, 1) ∷ [])) 0 none none ∷ [])
unfolding read
a_sign_before_a_register = refl

a_product_with_a_sum : read 0 (bytes "inc [2 * (eax + 4)]") ≡ says "inc" (address none none (times_in ((0, 2) ∷ [])) 8 none none ∷ [])
unfolding read
a_product_with_a_sum = refl

any_type_before_a_register : read 0 (bytes "inc byte ptr eax") ≡ says "inc" (register 0 ∷ [])
unfolding read
any_type_before_a_register = refl

a_target_anywhere : read 7 (bytes "mov $+5, $*1") ≡ says "mov" (branch none 12 ∷ branch none 7 ∷ [])
unfolding read
a_target_anywhere = refl

-- MASM has no short call, and a short jump does not reach that far
any_width : read 0 (bytes "call short $ + 1000h") ≡ says "call" (branch (some 8) 4096 ∷ [])
unfolding read
any_width = refl

-- k0 masks nothing, `inc` has neither mask nor broadcast, and there is no broadcast to five
any_decoration : read 0 (bytes "inc [eax]{k0}{1to5} {sae}")
    ≡ shows (record { prefixes = []; mnemonic = bytes "inc"; operands = address none none (times_in ((0, 1) ∷ [])) 0 (some 72) (some 5) ∷ []; tail = some Sae })
unfolding read
any_decoration = refl

sums_wrap : read 0 (bytes "push 0FFFFFFFFh + 2") ≡ says "push" (immediate 1 ∷ [])
unfolding read
sums_wrap = refl

any_mnemonic : read 0 (bytes "eax eax, eax, eax, eax, 1") ≡ says "eax" (register 0 ∷ register 0 ∷ register 0 ∷ register 0 ∷ immediate 1 ∷ [])
unfolding read
any_mnemonic = refl

-- ---- Refused, though MASM reads it

not_known :
    AllRead (
    "push 7 / 2" ∷ "push 1 shl 2" ∷ "push not 1" ∷ "push offset $" ∷ "push 'a'" ∷ "mov eax, cr0" ∷ "top: inc eax" ∷ "push dword ptr 5" ∷ "inc (eax)"
    ∷ "mov eax, es:dword ptr [ebx]" ∷ "mov eax, [es:ebx]" ∷ "mov eax, 8 + es:[ebx]" ∷ "mov eax, [dword ptr ebx]" ∷ "mov eax, dr0" ∷ "jmp far ptr [ebx]" ∷ "jmp [$ + 8]" ∷ "jmp near ptr [ebx]" ∷ "jmp (short $) + 5" ∷ "jmp near + 5 + $" ∷ "push $ - ($ - 8)" ∷ "fld st(1 + 1)" ∷ []
    )
    refused
unfolding read
not_known = refl

-- a mask after a register, and `{z}`, by which what is masked becomes 0
a_mask_after_a_register : AllRead ("vaddpd zmm1{k1}, zmm2, zmm3" ∷ "vaddpd zmm1{k1}{z}, zmm2, zmm3" ∷ "vcmppd k1{k2}, zmm2, zmm3, 5" ∷ []) refused
unfolding read
a_mask_after_a_register = refl

-- asmc heeds `short` wherever it stands, and else the first of the two
two_words_before_a_target : AllRead ("jmp short near ptr $+5" ∷ "jmp near ptr short $+5" ∷ "jmp short short $+5" ∷ "jmp near ptr near ptr $+5" ∷ "jmp dword ptr short $" ∷ "jmp dword ptr near ptr $" ∷ "jmp near ptr dword ptr $" ∷ []) refused
unfolding read
two_words_before_a_target = refl
