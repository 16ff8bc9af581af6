-- What the Rust printed: the mask rows. Made from rows.txt by compare/table; not to be edited by hand.
-- Assumes nothing.
use Rattle.std.specs.Prelude.{List, [], ◌∷◌}
use Rattle.printed.specs.Rows.{Row, prints, answers, both, crate, straight, unknown, body, listing, repeated}

unfoldable pub mask_rows : List Row
mask_rows =
    -- Masks: each masked kind as operand 0 and as operand 1, the mask right after the bracket
    body both "0018 00 04 04 00000000 FFFFFFF0 02 110003000049 0100020000 00 00" (prints "add dword ptr [ebx]{k1}, edx") ∷
    body both "0018 00 04 04 00000000 00000012 02 0100020000 110603000049 00 00" (prints "add edx, dword ptr gs:[ebx]{k1}") ∷
    body both "0018 00 04 04 00000000 FFFFFFF0 02 12000300004A 0100020000 00 00" (prints "add dword ptr [ebx - 10h]{k2}, edx") ∷
    body both "0018 00 04 04 00000000 00000012 02 0100020000 12060300004A 00 00" (prints "add edx, dword ptr gs:[ebx + 12h]{k2}") ∷
    body both "0018 00 04 04 00000000 FFFFFFF0 02 13000600014B 0100020000 00 00" (prints "add dword ptr [esi]{k3}, edx") ∷
    body both "0018 00 04 04 00000000 00000012 02 0100020000 13060600014B 00 00" (prints "add edx, dword ptr gs:[esi]{k3}") ∷
    body both "0018 00 04 04 00000000 FFFFFFF0 02 13000600024C 0100020000 00 00" (prints "add dword ptr [esi * 2]{k4}, edx") ∷
    body both "0018 00 04 04 00000000 00000012 02 0100020000 13060600024C 00 00" (prints "add edx, dword ptr gs:[esi * 2]{k4}") ∷
    body both "0018 00 04 04 00000000 FFFFFFF0 02 14000600014D 0100020000 00 00" (prints "add dword ptr [esi - 10h]{k5}, edx") ∷
    body both "0018 00 04 04 00000000 00000012 02 0100020000 14060600014D 00 00" (prints "add edx, dword ptr gs:[esi + 12h]{k5}") ∷
    body both "0018 00 04 04 00000000 FFFFFFF0 02 14000600084E 0100020000 00 00" (prints "add dword ptr [esi * 8 - 10h]{k6}, edx") ∷
    body both "0018 00 04 04 00000000 00000012 02 0100020000 14060600084E 00 00" (prints "add edx, dword ptr gs:[esi * 8 + 12h]{k6}") ∷
    body both "0018 00 04 04 00000000 FFFFFFF0 02 15000306014F 0100020000 00 00" (prints "add dword ptr [ebx + esi]{k7}, edx") ∷
    body both "0018 00 04 04 00000000 00000012 02 0100020000 15060306014F 00 00" (prints "add edx, dword ptr gs:[ebx + esi]{k7}") ∷
    body both "0018 00 04 04 00000000 FFFFFFF0 02 150003060449 0100020000 00 00" (prints "add dword ptr [ebx + esi * 4]{k1}, edx") ∷
    body both "0018 00 04 04 00000000 00000012 02 0100020000 150603060449 00 00" (prints "add edx, dword ptr gs:[ebx + esi * 4]{k1}") ∷
    body both "0018 00 04 04 00000000 FFFFFFF0 02 16000306014A 0100020000 00 00" (prints "add dword ptr [ebx + esi - 10h]{k2}, edx") ∷
    body both "0018 00 04 04 00000000 00000012 02 0100020000 16060306014A 00 00" (prints "add edx, dword ptr gs:[ebx + esi + 12h]{k2}") ∷
    body both "0018 00 04 04 00000000 FFFFFFF0 02 16000306084B 0100020000 00 00" (prints "add dword ptr [ebx + esi * 8 - 10h]{k3}, edx") ∷
    body both "0018 00 04 04 00000000 00000012 02 0100020000 16060306084B 00 00" (prints "add edx, dword ptr gs:[ebx + esi * 8 + 12h]{k3}") ∷
    -- Masks: each mask, and registers of bank 1 in the bracket
    body both "0017 00 04 02 00000000 00000000 04 15000B0E0149 15000B0E014A 15000B0E014B 15000B0E014C 00 00" (prints "mov word ptr [bx + si]{k1}, word ptr [bx + si]{k2}, word ptr [bx + si]{k3}, word ptr [bx + si]{k4}") ∷
    body both "0017 00 04 02 00000000 00000000 04 15000B0E014D 15000B0E014E 15000B0E014F 15000B0E0149 00 00" (prints "mov word ptr [bx + si]{k5}, word ptr [bx + si]{k6}, word ptr [bx + si]{k7}, word ptr [bx + si]{k1}") ∷
    -- Masks: labels and segments as without one; none for 63 and 48; 8 by the registers of banks 5 to 7
    body both "0023 00 04 01 00000000 00000000 01 110501000049 00 00" (prints "inc byte ptr fs:[ecx]{k1}") ∷
    body both "0023 00 04 02 00000000 00000000 01 110501000049 00 00" (prints "inc word ptr fs:[ecx]{k1}") ∷
    body both "0023 00 04 04 00000000 00000000 01 110501000049 00 00" (prints "inc dword ptr fs:[ecx]{k1}") ∷
    body both "0023 00 04 08 00000000 00000000 01 110501000049 00 00" (prints "inc qword ptr fs:[ecx]{k1}") ∷
    body both "0023 00 04 10 00000000 00000000 01 110501000049 00 00" (prints "inc xmmword ptr fs:[ecx]{k1}") ∷
    body both "0023 00 04 20 00000000 00000000 01 110501000049 00 00" (prints "inc ymmword ptr fs:[ecx]{k1}") ∷
    body both "0023 00 04 40 00000000 00000000 01 110501000049 00 00" (prints "inc zmmword ptr fs:[ecx]{k1}") ∷
    body both "0023 00 04 3F 00000000 00000000 01 110501000049 00 00" (prints "inc fs:[ecx]{k1}") ∷
    body both "0023 00 04 30 00000000 00000000 01 110501000049 00 00" (prints "inc fs:[ecx]{k1}") ∷
    body both "0029 00 04 08 00000000 00000000 02 0100280000 110002000049 00 00" (prints "movaps mm0, mmword ptr [edx]{k1}") ∷
    body both "0029 00 04 08 00000000 00000000 02 0100300000 110002000049 00 00" (prints "movaps xmm0, mmword ptr [edx]{k1}") ∷
    body both "0029 00 04 08 00000000 00000000 02 0100380000 110002000049 00 00" (prints "movaps ymm0, mmword ptr [edx]{k1}") ∷
    body both "0029 00 04 08 00000000 00000000 02 0100400000 110002000049 00 00" (prints "movaps zmm0, qword ptr [edx]{k1}") ∷
    body both "0029 00 04 08 00000000 00000000 02 0100480000 110002000049 00 00" (prints "movaps k0, qword ptr [edx]{k1}") ∷
    -- Masks: in the arms of the general path
    body both "0000 00 04 04 00000000 00000000 01 110000000049 00 00" (prints "jmp dword ptr [eax]{k1}") ∷
    body both "0016 00 04 04 00000000 00000008 01 12000000004A 00 00" (prints "xbegin dword ptr [eax + 8]{k2}") ∷
    body both "002A 00 04 08 00000000 00000000 02 0100300000 11000100004B 00 00" (prints "movq xmm0, qword ptr [ecx]{k3}") ∷
    body both "0032 00 04 08 00000000 00000000 02 0100000000 11000100004C 00 00" (prints "cvtsd2si eax, mmword ptr [ecx]{k4}") ∷
    body both "003A 00 04 06 00000000 00000000 01 11000000004D 00 00" (prints "jmp fword ptr [eax]{k5}") ∷
    body both "0036 00 04 06 00000000 00000000 02 0100000000 11000100004E 00 00" (prints "lds eax, fword ptr [ecx]{k6}") ∷
    body both "003C 08 04 01 00000000 00000000 02 11040700004F 110406000049 00 00" (prints "rep movs byte ptr ds:[edi]{k7}, byte ptr [esi]{k1}") ∷
    body both "005E 00 04 04 00000000 00000000 02 0100000000 110001000049 00 00" (prints "incsspd eax, dword ptr [ecx]{k1}") ∷
    body both "005F 00 04 04 00000000 00000000 02 11000100004A 0100000000 00 00" (prints "wrssd dword ptr [ecx]{k2}, eax") ∷
    body both "0050 00 04 04 00000000 00000000 01 12060000004B 00 00" (prints "nop dword ptr gs:[eax + 0]{k3}") ∷
    body both "0067 00 04 04 00000000 00000000 01 11000100004C 00 00" (prints "aam dword ptr [ecx]{k4}") ∷
    body both "0041 00 04 02 00000000 00000000 02 0100000000 11050100004D 00 00" (prints "lsl eax, word ptr fs:[ecx]{k5}") ∷
    -- Masks: in the other arms that show the operand, LEA and LODS among them
    body both "0040 00 04 00 00000000 00000000 01 110501000049 00 00" (prints "hreset [ecx]{k1}, eax") ∷
    body both "0042 00 04 00 00000000 00000004 01 12000100004A 00 00" (prints "prefetchnta [ecx + 4]{k2}") ∷
    body both "004B 00 04 00 00000000 00000000 01 11000100004B 00 00" (prints "sgdt fword ptr [ecx]{k3}") ∷
    body both "004F 00 04 06 00000000 00000000 02 11000200004C 11000100004D 00 00" (prints "lss [edx]{k4}, fword ptr [ecx]{k5}") ∷
    body both "0055 00 04 00 00000000 00000000 03 11000000004E 0100020000 11000100004F 00 00" (prints "invlpgb [eax]{k6}, [ecx]{k7}") ∷
    body both "0057 10 04 01 00000000 00000000 01 110107000049 00 00" (prints "repne scas byte ptr es:[edi]{k1}") ∷
    body both "0059 00 04 01 00000000 00000000 02 0100100000 11050600004A 00 00" (prints "lods byte ptr [esi]{k2}") ∷
    body both "0061 00 04 08 00000000 00000000 02 11000000004B 11040100004C 00 00" (prints "pblendvb [eax]{k3}, qword ptr ds:[ecx]{k4}, xmm0") ∷
    body both "0065 00 04 00 00000000 00000008 02 0100000000 16050102044D 00 00" (prints "lea eax, [ecx + edx * 4 + 8]{k5}") ∷
    body both "0065 00 04 00 00000000 00000004 02 120000000049 12000000004E 00 00" (prints "lea [eax + 4]{k1}, [eax + 4]{k6}") ∷
    body both "006C 00 04 08 00000000 00000000 02 0100200000 11000100004E 00 00" (prints "fcom qword ptr [ecx]{k6}") ∷
    body both "0070 00 04 08 00000000 0000000C 02 0100200000 12050100004F 00 00" (prints "fadd qword ptr fs:[ecx + 0Ch]{k7}") ∷
    body both "0070 00 04 00 00000000 00000000 02 110000000049 0100200000 00 00" (prints "fadd [eax]{k1}, st") ∷
    body both "008F 00 04 0A 00000000 FFFFFFF6 02 0100200000 12000500004A 00 00" (prints "fld tbyte ptr [ebp - 0Ah]{k2}") ∷
    body both "0095 00 04 0A 00000000 FFFFFFF6 02 12000500004B 0100200000 00 00" (prints "fst tbyte ptr [ebp - 0Ah]{k3}") ∷
    -- Extended records whose line shows nothing of it: a branch, NOP of two operands, AAM of 10, names alone
    body crate "0000 40 02 01 0000007E 00000000 02 0300000000 110001000049 01 02" (prints "jmp $-80h") ∷
    body straight "0000 40 02 01 0000007E 00000000 02 0300000000 110001000049 01 02" (prints "jmp short $+80h") ∷
    body both "000A 40 05 01 0000007B 00000000 03 0500000000 0100400000 110001000049 01 02" (prints "jz near ptr $+80h") ∷
    body crate "0016 40 06 01 0000007A 00000000 02 0500000000 110001000049 01 02" (prints "xbegin near ptr $+80h") ∷
    body straight "0016 40 06 01 0000007A 00000000 02 0500000000 110001000049 01 02" (prints "xbegin $+80h") ∷
    body both "0050 40 04 01 00000000 00000000 02 0100400000 110001000049 01 02" (prints "nop") ∷
    body both "0068 40 04 01 0000000A 00000000 02 0100400000 110001000049 01 02" (prints "aad") ∷
    body both "0051 40 04 01 00000000 00000000 02 0100400000 110001000049 01 02" (prints "monitor eax, ecx, edx") ∷
    body both "0054 40 04 01 00000000 00000000 02 0100400000 110001000049 01 02" (prints "mwait eax, ecx") ∷
    body both "005A 40 04 01 00000000 00000000 02 0100400000 110001000049 01 02" (prints "psmash eax") ∷
    body both "0056 40 04 01 00000000 00000000 02 0100400000 110001000049 01 02" (prints "rdpru") ∷
    body both "0066 40 04 01 00000000 00000000 02 0100400000 110001000049 01 02" (prints "pushfd") ∷
    body both "0069 40 04 01 00000000 00000000 02 0100400000 110001000049 01 02" (prints "feni") ∷
    -- No count and no tail but in the general path: arms that show the masked operand itself
    body both "0040 40 04 01 00000000 00000000 01 110001000049 01 02" (prints "hreset [ecx]{k1}, eax") ∷
    body both "0041 40 04 01 00000000 00000000 03 0100400000 0100020000 110001000049 01 02" (prints "lsl zmm0, zmm2") ∷
    body both "0041 40 04 01 00000000 00000000 03 0100490000 0100450000 110001000049 01 02" (prints "lsl k1, k5") ∷
    body both "0046 40 04 01 00000000 00000000 01 110001000049 01 02" (prints "prefetchw [ecx]{k1}") ∷
    body both "004E 40 04 01 00000000 00000000 01 110001000049 01 02" (prints "lidt fword ptr [ecx]{k1}") ∷
    body both "004F 40 04 04 00000000 00000000 02 0100400000 110001000049 01 02" (prints "lss zmm0, dword ptr [ecx]{k1}") ∷
    body both "0055 40 04 01 00000000 00000000 03 0100400000 0100400000 110001000049 01 02" (prints "invlpgb zmm0, [ecx]{k1}") ∷
    body both "0058 40 04 01 00000000 00000000 01 110001000049 01 02" (prints "stos byte ptr [ecx]{k1}") ∷
    body both "0059 40 04 01 00000000 00000000 02 0100400000 110001000049 01 02" (prints "lods byte ptr [ecx]{k1}") ∷
    body both "0062 40 04 01 00000000 00000000 02 0100400000 110001000049 01 02" (prints "blendvps zmm0, byte ptr [ecx]{k1}, xmm0") ∷
    body both "0065 40 04 01 00000000 00000000 02 0100400000 110001000049 01 02" (prints "lea zmm0, [ecx]{k1}") ∷
    body both "006D 40 04 01 00000000 00000000 02 0100400000 110001000049 01 02" (prints "fcomp byte ptr [ecx]{k1}") ∷
    body both "0071 40 04 01 00000000 00000000 02 0100400000 110001000049 01 02" (prints "fmul byte ptr [ecx]{k1}") ∷
    body both "0071 40 04 01 00000000 00000000 03 0100400000 0100480000 110001000049 01 02" (prints "fmul zmm0, k0") ∷
    body both "0090 40 04 01 00000000 00000000 02 0100400000 110001000049 01 02" (prints "fild byte ptr [ecx]{k1}") ∷
    body both "0090 40 04 01 00000000 00000000 02 110001000049 0200400000 01 02" (prints "fild zmm0") ∷
    body both "0098 40 04 01 00000000 00000000 01 110001000049 01 02" (prints "fistp byte ptr [ecx]{k1}") ∷
    []
