-- What the Rust printed: the arm rows. Made from rows.txt by compare/table; not to be edited by hand.
-- Assumes nothing.
use Rattle.std.specs.Prelude.{List, [], ◌∷◌}
use Rattle.printed.specs.Rows.{Row, prints, answers, both, crate, straight, unknown, body, listing, repeated}

unfoldable pub arm_rows : List Row
arm_rows =
    -- FENI8087_NOP, FDISI8087_NOP, FSETPM287_NOP: a name alone
    body both "0069 00 04 00 00000000 00000000 00" (prints "feni") ∷
    body both "0069 0C 04 03 00000000 00000000 02 0B00000000 0100010000" (prints "lock feni") ∷
    body both "006A 00 04 00 00000000 00000000 00" (prints "fdisi") ∷
    body both "006A 0C 04 03 00000000 00000000 02 0B00000000 0100010000" (prints "lock fdisi") ∷
    body both "006B 00 04 00 00000000 00000000 00" (prints "fsetpm") ∷
    body both "006B 0C 04 03 00000000 00000000 02 0B00000000 0100010000" (prints "lock fsetpm") ∷
    -- HRESET: operand 0, without label and segment, and eax
    body both "0040 08 04 00 00000005 00000000 01 0600000000" (prints "hreset 5, eax") ∷
    body both "0040 00 04 03 00000000 00000000 02 0B05010000 0100020000" (prints "hreset [ecx], eax") ∷
    body both "0040 00 04 00 00000000 00000000 01 0100030000" (prints "hreset ebx, eax") ∷
    -- LSL: a source that is a register takes the bank of operand 0; any other is the general path's
    body both "0041 08 04 00 00000000 00000000 02 0100000000 02000A0000" (prints "lsl eax, edx") ∷
    body both "0041 00 04 00 00000000 00000000 02 0100080000 0200020000" (prints "lsl ax, dx") ∷
    body both "0041 00 04 00 00000000 00000000 03 0100180000 0200010000 0100010000" (prints "lsl es, cs") ∷
    body both "0041 00 04 00 00000000 00000000 02 01001D0000 0200050000" (prints "lsl gs, gs") ∷
    body both "0041 00 04 00 00000000 00000000 02 0100180000 0200080000" (prints "lsl es, es") ∷
    body both "0041 00 04 00 00000000 00000000 02 0200280000 0100170000" (prints "lsl mm0, mm7") ∷
    body both "0041 00 04 02 00000000 00000000 02 0100000000 0B05010000" (prints "lsl eax, word ptr fs:[ecx]") ∷
    body both "0041 00 04 08 00000000 00000000 02 0100300000 0B00010000" (prints "lsl xmm0, mmword ptr [ecx]") ∷
    body both "0041 00 04 00 00000005 00000000 03 0100000000 0600000000 01000A0000" (prints "lsl eax, 5, dx") ∷
    body both "0041 00 04 00 00000000 00000000 01 0100000000" (prints "lsl eax") ∷
    -- PREFETCHNTA and its like: operand 0, without label and segment
    body both "0042 08 04 03 00000000 00000004 02 0C05010000 0100000000" (prints "prefetchnta [ecx + 4]") ∷
    body both "0042 00 04 00 00000000 FFFFFFFF 02 0900000000 0100000000" (prints "prefetchnta [0FFFFh]") ∷
    body both "0042 00 04 03 00000000 00000000 01 0D00010002" (prints "prefetchnta [ecx * 2]") ∷
    body both "0042 00 04 00 00000000 00000000 01 0200000000" (prints "prefetchnta eax") ∷
    body both "0042 00 04 00 0000000F 00000000 01 0600000000" (prints "prefetchnta 0Fh") ∷
    body both "0043 08 04 03 00000000 00000004 02 0C05010000 0100000000" (prints "prefetch0 [ecx + 4]") ∷
    body both "0043 00 04 03 00000000 00000000 01 0D00010002" (prints "prefetch0 [ecx * 2]") ∷
    body both "0044 08 04 03 00000000 00000004 02 0C05010000 0100000000" (prints "prefetch1 [ecx + 4]") ∷
    body both "0044 00 04 00 00000000 00000000 01 0200000000" (prints "prefetch1 eax") ∷
    body both "0045 08 04 03 00000000 00000004 02 0C05010000 0100000000" (prints "prefetch2 [ecx + 4]") ∷
    body both "0045 00 04 00 0000000F 00000000 01 0600000000" (prints "prefetch2 0Fh") ∷
    body both "0046 08 04 03 00000000 00000004 02 0C05010000 0100000000" (prints "prefetchw [ecx + 4]") ∷
    body both "0046 00 04 00 00000000 FFFFFFFF 02 0900000000 0100000000" (prints "prefetchw [0FFFFh]") ∷
    body both "0047 08 04 03 00000000 00000004 02 0C05010000 0100000000" (prints "invlpg [ecx + 4]") ∷
    body both "0047 00 04 03 00000000 00000000 01 0D00010002" (prints "invlpg [ecx * 2]") ∷
    body both "0048 08 04 03 00000000 00000004 02 0C05010000 0100000000" (prints "clflush [ecx + 4]") ∷
    body both "0048 00 04 00 00000000 00000000 01 0200000000" (prints "clflush eax") ∷
    body both "0049 08 04 03 00000000 00000004 02 0C05010000 0100000000" (prints "clflushopt [ecx + 4]") ∷
    body both "0049 00 04 00 0000000F 00000000 01 0600000000" (prints "clflushopt 0Fh") ∷
    body both "004A 08 04 03 00000000 00000004 02 0C05010000 0100000000" (prints "clwb [ecx + 4]") ∷
    body both "004A 00 04 00 00000000 FFFFFFFF 02 0900000000 0100000000" (prints "clwb [0FFFFh]") ∷
    -- SGDT, SIDT, LGDT, LIDT: `fword` whatever the size, and no segment
    body both "004B 08 04 03 00000000 00000000 02 0B05010000 0100000000" (prints "sgdt fword ptr [ecx]") ∷
    body both "004B 00 04 06 00000000 FFFFFFF0 01 0C00010000" (prints "sgdt fword ptr [ecx - 10h]") ∷
    body both "004B 00 04 3F 00000000 00001234 02 0902000000 0100000000" (prints "sgdt fword ptr [1234h]") ∷
    body both "004B 00 04 00 00000000 00000000 01 0F00000101" (prints "sgdt fword ptr [eax + ecx]") ∷
    body both "004C 08 04 03 00000000 00000000 02 0B05010000 0100000000" (prints "sidt fword ptr [ecx]") ∷
    body both "004C 00 04 3F 00000000 00001234 02 0902000000 0100000000" (prints "sidt fword ptr [1234h]") ∷
    body both "004D 08 04 03 00000000 00000000 02 0B05010000 0100000000" (prints "lgdt fword ptr [ecx]") ∷
    body both "004D 00 04 00 00000000 00000000 01 0F00000101" (prints "lgdt fword ptr [eax + ecx]") ∷
    body both "004E 08 04 03 00000000 00000000 02 0B05010000 0100000000" (prints "lidt fword ptr [ecx]") ∷
    body both "004E 00 04 06 00000000 FFFFFFF0 01 0C00010000" (prints "lidt fword ptr [ecx - 10h]") ∷
    -- LSS: 4 `dword`, 6 `fword`, and no segment
    body both "004F 08 04 04 00000000 00000000 02 0100080000 0B05010000" (prints "lss ax, dword ptr [ecx]") ∷
    body both "004F 00 04 06 00000000 00000000 02 0100000000 0C00010000" (prints "lss eax, fword ptr [ecx + 0]") ∷
    body both "004F 00 04 06 00000000 00000000 03 0B01020000 0B00010000 0100000000" (prints "lss [edx], fword ptr [ecx]") ∷
    -- NOP: nothing where there are two operands or more
    body both "0050 00 04 00 00000000 00000000 00" (prints "nop") ∷
    body both "0050 08 04 04 00000000 00000000 01 0C06000000" (prints "nop dword ptr gs:[eax + 0]") ∷
    body both "0050 00 04 00 00000000 00000000 01 0200010000" (prints "nop ecx") ∷
    body both "0050 00 04 03 00000000 00000000 02 0B00000000 0100010000" (prints "nop") ∷
    body both "0050 00 04 00 00000000 00000000 03 0100000000 0100010000 0100020000" (prints "nop") ∷
    -- Registers that stand in no operand
    body both "0051 00 04 00 00000000 00000000 00" (prints "monitor eax, ecx, edx") ∷
    body both "0051 0C 04 03 00000000 00000000 02 0100030000 0B05070000" (prints "lock monitor eax, ecx, edx") ∷
    body both "0052 00 04 00 00000000 00000000 00" (prints "monitorx eax, ecx, edx") ∷
    body both "0052 0C 04 03 00000000 00000000 02 0100030000 0B05070000" (prints "lock monitorx eax, ecx, edx") ∷
    body both "0053 00 04 00 00000000 00000000 00" (prints "mwaitx eax, ecx, edx") ∷
    body both "0053 0C 04 03 00000000 00000000 02 0100030000 0B05070000" (prints "lock mwaitx eax, ecx, edx") ∷
    body both "0054 00 04 00 00000000 00000000 00" (prints "mwait eax, ecx") ∷
    body both "0054 0C 04 03 00000000 00000000 02 0100030000 0B05070000" (prints "lock mwait eax, ecx") ∷
    body both "005A 00 04 00 00000000 00000000 00" (prints "psmash eax") ∷
    body both "005A 0C 04 03 00000000 00000000 02 0100030000 0B05070000" (prints "lock psmash eax") ∷
    body both "005B 00 04 00 00000000 00000000 00" (prints "pvalidate eax, ecx, edx") ∷
    body both "005B 0C 04 03 00000000 00000000 02 0100030000 0B05070000" (prints "lock pvalidate eax, ecx, edx") ∷
    body both "005C 00 04 00 00000000 00000000 00" (prints "rmpadjust eax, ecx, edx") ∷
    body both "005C 0C 04 03 00000000 00000000 02 0100030000 0B05070000" (prints "lock rmpadjust eax, ecx, edx") ∷
    body both "005D 00 04 00 00000000 00000000 00" (prints "rmpupdate eax, ecx, edx") ∷
    body both "005D 0C 04 03 00000000 00000000 02 0100030000 0B05070000" (prints "lock rmpupdate eax, ecx, edx") ∷
    -- RDPRU: nothing
    body both "0056 00 04 00 00000000 00000000 00" (prints "rdpru") ∷
    body both "0056 08 04 03 00000000 00000000 02 0100010000 0B00000000" (prints "rdpru") ∷
    -- INVLPGB: operands 0 and 2
    body both "0055 08 04 00 00000000 00000000 03 0100000000 0100020000 0100010000" (prints "invlpgb eax, ecx") ∷
    body both "0055 00 04 03 00000000 00000000 04 0B05000000 0B00020000 0B01010000 0100070000" (prints "invlpgb [eax], [ecx]") ∷
    -- INCSSP, WRSS, WRUSS: a d after the name
    body both "005E 08 04 00 00000000 00000000 01 0200070000" (prints "incsspd edi") ∷
    body both "005E 00 04 04 00000000 00000000 02 0100000000 0B05010000" (prints "incsspd eax, dword ptr fs:[ecx]") ∷
    body both "005F 00 04 04 00000000 00000000 02 0B05010000 0100000000" (prints "wrssd dword ptr fs:[ecx], eax") ∷
    body both "005F 08 04 08 00000000 00000000 03 0B00010000 0200070000 0100280000" (prints "wrssd mmword ptr [ecx], edi, mm0") ∷
    body both "0060 08 04 00 00000000 00000000 02 0100010000 0200020000" (prints "wrussd ecx, edx") ∷
    body both "0060 00 04 04 00000000 FFFFFFFF 02 0C06010000 0100060000" (prints "wrussd dword ptr gs:[ecx - 1], esi") ∷
    -- PBLENDVB and its like: operands 0 and 1, memory of operand 1 with label and segment, never `mmword`, and xmm0
    body both "0061 08 04 08 00000000 00000000 02 0100310000 0B04000000" (prints "pblendvb xmm1, qword ptr ds:[eax], xmm0") ∷
    body both "0061 00 04 00 00000000 00000000 02 0100310000 0200320000" (prints "pblendvb xmm1, xmm2, xmm0") ∷
    body both "0061 00 04 10 00000000 00000010 02 0100310000 0C05000000" (prints "pblendvb xmm1, xmmword ptr fs:[eax + 10h], xmm0") ∷
    body both "0061 00 04 03 00000000 00000000 03 0B01000000 0200370000 0100330000" (prints "pblendvb [eax], xmm7, xmm0") ∷
    body both "0061 00 04 00 0000000A 00000000 02 0100310000 0600000000" (prints "pblendvb xmm1, 0Ah, xmm0") ∷
    body both "0062 08 04 08 00000000 00000000 02 0100310000 0B04000000" (prints "blendvps xmm1, qword ptr ds:[eax], xmm0") ∷
    body both "0062 00 04 10 00000000 00000010 02 0100310000 0C05000000" (prints "blendvps xmm1, xmmword ptr fs:[eax + 10h], xmm0") ∷
    body both "0063 08 04 08 00000000 00000000 02 0100310000 0B04000000" (prints "blendvpd xmm1, qword ptr ds:[eax], xmm0") ∷
    body both "0063 00 04 03 00000000 00000000 03 0B01000000 0200370000 0100330000" (prints "blendvpd [eax], xmm7, xmm0") ∷
    body both "0064 08 04 08 00000000 00000000 02 0100310000 0B04000000" (prints "sha256rnds2 xmm1, qword ptr ds:[eax], xmm0") ∷
    body both "0064 00 04 00 0000000A 00000000 02 0100310000 0600000000" (prints "sha256rnds2 xmm1, 0Ah, xmm0") ∷
    -- LEA: operands 0 and 1, without label and segment
    body both "0065 00 04 03 00000000 00000008 02 0100000000 1005010204" (prints "lea eax, [ecx + edx * 4 + 8]") ∷
    body both "0065 00 04 00 00000000 0000BEEF 03 0100080000 0906000000 0100010000" (prints "lea ax, [0BEEFh]") ∷
    body both "0065 08 04 00 00000000 00000000 02 0100000000 0200010000" (prints "lea eax, ecx") ∷
    -- PUSHF: a d unless the operand size flag is set
    body both "0066 00 04 00 00000000 00000000 00" (prints "pushfd") ∷
    body both "0066 01 04 00 00000000 00000000 00" (prints "xacquire pushfd") ∷
    body both "0066 02 04 00 00000000 00000000 00" (prints "xrelease pushfd") ∷
    body both "0066 04 04 00 00000000 00000000 00" (prints "lock pushfd") ∷
    body both "0066 08 04 00 00000000 00000000 00" (prints "pushfd") ∷
    body both "0066 10 04 00 00000000 00000000 00" (prints "pushfd") ∷
    body both "0066 20 04 00 00000000 00000000 00" (prints "pushf") ∷
    body both "0066 3F 04 00 00000000 00000000 00" (prints "xacquire xrelease lock pushf") ∷
    body both "0066 00 04 03 00000000 00000000 02 0B00000000 0100000000" (prints "pushfd") ∷
    -- AAM, AAD: nothing where the whole imm is 10
    body both "0067 00 04 00 0000000A 00000000 01 0600000000" (prints "aam") ∷
    body both "0067 00 04 00 0000010A 00000000 01 0600000000" (prints "aam 0Ah") ∷
    body both "0067 00 04 00 00000009 00000000 01 0600000000" (prints "aam 9") ∷
    body both "0067 00 04 00 FFFFFF0A 00000000 01 0600000000" (prints "aam 0Ah") ∷
    body both "0067 08 04 03 0000000A 00000000 02 0B00010000 0100000000" (prints "aam") ∷
    body both "0068 00 04 00 0000000A 00000000 01 0600000000" (prints "aad") ∷
    body both "0068 00 04 00 0000010A 00000000 01 0600000000" (prints "aad 0Ah") ∷
    body both "0068 00 04 00 00000009 00000000 01 0600000000" (prints "aad 9") ∷
    body both "0068 00 04 00 FFFFFF0A 00000000 01 0600000000" (prints "aad 0Ah") ∷
    body both "0068 08 04 03 0000000A 00000000 02 0B00010000 0100000000" (prints "aad") ∷
    body both "0067 00 04 04 00000000 00000000 01 0B05010000" (prints "aam dword ptr fs:[ecx]") ∷
    body both "0068 00 04 00 00000000 00000000 00" (prints "aad") ∷
    -- FCOM and its like: operand 1
    body both "006C 08 04 00 00000000 00000000 02 0100210000 0200200000" (prints "fcom st(0)") ∷
    body both "006C 08 04 08 00000000 00000000 03 0200200000 0B04010000 0100280000" (prints "fcom qword ptr ds:[ecx]") ∷
    body both "006C 00 04 00 00000000 00000000 02 0100200000 0100210000" (prints "fcom st(1)") ∷
    body both "006C 00 04 00 0000000A 00000000 02 0100200000 0600000000" (prints "fcom 0Ah") ∷
    body both "006C 00 04 04 00000000 00000000 02 0100200000 0B03050000" (prints "fcom dword ptr ss:[ebp]") ∷
    body both "006C 00 04 08 00000000 FFFFFFF6 03 0B05000000 0C00050000 0100280000" (prints "fcom qword ptr [ebp - 0Ah]") ∷
    body both "006D 08 04 00 00000000 00000000 02 0100210000 0200200000" (prints "fcomp st(0)") ∷
    body both "006D 08 04 08 00000000 00000000 03 0200200000 0B04010000 0100280000" (prints "fcomp qword ptr ds:[ecx]") ∷
    body both "006E 08 04 00 00000000 00000000 02 0100210000 0200200000" (prints "ficom st(0)") ∷
    body both "006E 08 04 08 00000000 00000000 03 0200200000 0B04010000 0100280000" (prints "ficom qword ptr ds:[ecx]") ∷
    body both "006F 08 04 00 00000000 00000000 02 0100210000 0200200000" (prints "ficomp st(0)") ∷
    body both "006F 08 04 08 00000000 00000000 03 0200200000 0B04010000 0100280000" (prints "ficomp qword ptr ds:[ecx]") ∷
    -- FADD and its like: memory as operand 1 alone; else `st` for st(0), in operand 0 where it is of kind 1, else in operand 1
    body both "0070 08 04 00 00000000 00000000 02 0100200000 0200210000" (prints "fadd st, st(1)") ∷
    body both "0070 08 04 08 00000000 0000000C 03 0100200000 0C05010000 0100280000" (prints "fadd qword ptr fs:[ecx + 0Ch]") ∷
    body both "0070 00 04 00 00000000 00000000 02 0200210000 0100200000" (prints "fadd st(1), st") ∷
    body both "0070 00 04 00 00000000 00000000 02 0100200000 0100200000" (prints "fadd st, st(0)") ∷
    body both "0070 00 04 00 00000000 00000000 02 0200200000 0100200000" (prints "fadd st(0), st") ∷
    body both "0070 00 04 00 00000000 00000000 02 0100210000 0200200000" (prints "fadd st(1), st(0)") ∷
    body both "0070 00 04 00 00000000 00000000 02 0100210000 0100200000" (prints "fadd st(1), st(0)") ∷
    body both "0070 00 04 00 00000000 00000000 02 0200200000 0100210000" (prints "fadd st(0), st(1)") ∷
    body both "0070 00 04 04 00000000 00000000 03 0200210000 0B00000000 0100280000" (prints "fadd dword ptr [eax]") ∷
    body both "0070 00 04 00 0000000A 00000000 02 0100200000 0600000000" (prints "fadd st, 0Ah") ∷
    body both "0070 00 04 03 00000000 00000000 02 0B06000000 0100200000" (prints "fadd [eax], st") ∷
    body both "0070 00 04 00 00000000 00000000 03 0100000000 0100200000 0100200000" (prints "fadd eax, st(0)") ∷
    body both "0071 08 04 00 00000000 00000000 02 0100200000 0200210000" (prints "fmul st, st(1)") ∷
    body both "0071 08 04 08 00000000 0000000C 03 0100200000 0C05010000 0100280000" (prints "fmul qword ptr fs:[ecx + 0Ch]") ∷
    body both "0072 08 04 00 00000000 00000000 02 0100200000 0200210000" (prints "fsub st, st(1)") ∷
    body both "0072 08 04 08 00000000 0000000C 03 0100200000 0C05010000 0100280000" (prints "fsub qword ptr fs:[ecx + 0Ch]") ∷
    body both "0073 08 04 00 00000000 00000000 02 0100200000 0200210000" (prints "fsubr st, st(1)") ∷
    body both "0073 08 04 08 00000000 0000000C 03 0100200000 0C05010000 0100280000" (prints "fsubr qword ptr fs:[ecx + 0Ch]") ∷
    body both "0074 08 04 00 00000000 00000000 02 0100200000 0200210000" (prints "fdiv st, st(1)") ∷
    body both "0074 08 04 08 00000000 0000000C 03 0100200000 0C05010000 0100280000" (prints "fdiv qword ptr fs:[ecx + 0Ch]") ∷
    body both "0075 08 04 00 00000000 00000000 02 0100200000 0200210000" (prints "fdivr st, st(1)") ∷
    body both "0075 08 04 08 00000000 0000000C 03 0100200000 0C05010000 0100280000" (prints "fdivr qword ptr fs:[ecx + 0Ch]") ∷
    body both "0076 08 04 00 00000000 00000000 02 0100200000 0200210000" (prints "faddp st, st(1)") ∷
    body both "0076 08 04 08 00000000 0000000C 03 0100200000 0C05010000 0100280000" (prints "faddp qword ptr fs:[ecx + 0Ch]") ∷
    body both "0077 08 04 00 00000000 00000000 02 0100200000 0200210000" (prints "fmulp st, st(1)") ∷
    body both "0077 08 04 08 00000000 0000000C 03 0100200000 0C05010000 0100280000" (prints "fmulp qword ptr fs:[ecx + 0Ch]") ∷
    body both "0078 08 04 00 00000000 00000000 02 0100200000 0200210000" (prints "fsubrp st, st(1)") ∷
    body both "0078 08 04 08 00000000 0000000C 03 0100200000 0C05010000 0100280000" (prints "fsubrp qword ptr fs:[ecx + 0Ch]") ∷
    body both "0079 08 04 00 00000000 00000000 02 0100200000 0200210000" (prints "fsubp st, st(1)") ∷
    body both "0079 08 04 08 00000000 0000000C 03 0100200000 0C05010000 0100280000" (prints "fsubp qword ptr fs:[ecx + 0Ch]") ∷
    body both "007A 08 04 00 00000000 00000000 02 0100200000 0200210000" (prints "fdivp st, st(1)") ∷
    body both "007A 08 04 08 00000000 0000000C 03 0100200000 0C05010000 0100280000" (prints "fdivp qword ptr fs:[ecx + 0Ch]") ∷
    body both "007B 08 04 00 00000000 00000000 02 0100200000 0200210000" (prints "fdivrp st, st(1)") ∷
    body both "007B 08 04 08 00000000 0000000C 03 0100200000 0C05010000 0100280000" (prints "fdivrp qword ptr fs:[ecx + 0Ch]") ∷
    body both "007C 08 04 00 00000000 00000000 02 0100200000 0200210000" (prints "fiadd st, st(1)") ∷
    body both "007C 08 04 08 00000000 0000000C 03 0100200000 0C05010000 0100280000" (prints "fiadd qword ptr fs:[ecx + 0Ch]") ∷
    body both "007D 08 04 00 00000000 00000000 02 0100200000 0200210000" (prints "fimul st, st(1)") ∷
    body both "007D 08 04 08 00000000 0000000C 03 0100200000 0C05010000 0100280000" (prints "fimul qword ptr fs:[ecx + 0Ch]") ∷
    body both "007E 08 04 00 00000000 00000000 02 0100200000 0200210000" (prints "fisub st, st(1)") ∷
    body both "007E 08 04 08 00000000 0000000C 03 0100200000 0C05010000 0100280000" (prints "fisub qword ptr fs:[ecx + 0Ch]") ∷
    body both "007F 08 04 00 00000000 00000000 02 0100200000 0200210000" (prints "fisubr st, st(1)") ∷
    body both "007F 08 04 08 00000000 0000000C 03 0100200000 0C05010000 0100280000" (prints "fisubr qword ptr fs:[ecx + 0Ch]") ∷
    body both "0080 08 04 00 00000000 00000000 02 0100200000 0200210000" (prints "fidiv st, st(1)") ∷
    body both "0080 08 04 08 00000000 0000000C 03 0100200000 0C05010000 0100280000" (prints "fidiv qword ptr fs:[ecx + 0Ch]") ∷
    body both "0081 08 04 00 00000000 00000000 02 0100200000 0200210000" (prints "fidivr st, st(1)") ∷
    body both "0081 08 04 08 00000000 0000000C 03 0100200000 0C05010000 0100280000" (prints "fidivr qword ptr fs:[ecx + 0Ch]") ∷
    body both "0082 08 04 00 00000000 00000000 02 0100200000 0200210000" (prints "fcmovb st, st(1)") ∷
    body both "0082 08 04 08 00000000 0000000C 03 0100200000 0C05010000 0100280000" (prints "fcmovb qword ptr fs:[ecx + 0Ch]") ∷
    body both "0083 08 04 00 00000000 00000000 02 0100200000 0200210000" (prints "fcmove st, st(1)") ∷
    body both "0083 08 04 08 00000000 0000000C 03 0100200000 0C05010000 0100280000" (prints "fcmove qword ptr fs:[ecx + 0Ch]") ∷
    body both "0084 08 04 00 00000000 00000000 02 0100200000 0200210000" (prints "fcmovbe st, st(1)") ∷
    body both "0084 08 04 08 00000000 0000000C 03 0100200000 0C05010000 0100280000" (prints "fcmovbe qword ptr fs:[ecx + 0Ch]") ∷
    body both "0085 08 04 00 00000000 00000000 02 0100200000 0200210000" (prints "fcmovu st, st(1)") ∷
    body both "0085 08 04 08 00000000 0000000C 03 0100200000 0C05010000 0100280000" (prints "fcmovu qword ptr fs:[ecx + 0Ch]") ∷
    body both "0086 08 04 00 00000000 00000000 02 0100200000 0200210000" (prints "fcmovnb st, st(1)") ∷
    body both "0086 08 04 08 00000000 0000000C 03 0100200000 0C05010000 0100280000" (prints "fcmovnb qword ptr fs:[ecx + 0Ch]") ∷
    body both "0087 08 04 00 00000000 00000000 02 0100200000 0200210000" (prints "fcmovne st, st(1)") ∷
    body both "0087 08 04 08 00000000 0000000C 03 0100200000 0C05010000 0100280000" (prints "fcmovne qword ptr fs:[ecx + 0Ch]") ∷
    body both "0088 08 04 00 00000000 00000000 02 0100200000 0200210000" (prints "fcmovnbe st, st(1)") ∷
    body both "0088 08 04 08 00000000 0000000C 03 0100200000 0C05010000 0100280000" (prints "fcmovnbe qword ptr fs:[ecx + 0Ch]") ∷
    body both "0089 08 04 00 00000000 00000000 02 0100200000 0200210000" (prints "fcmovnu st, st(1)") ∷
    body both "0089 08 04 08 00000000 0000000C 03 0100200000 0C05010000 0100280000" (prints "fcmovnu qword ptr fs:[ecx + 0Ch]") ∷
    body both "008A 08 04 00 00000000 00000000 02 0100200000 0200210000" (prints "fucomi st, st(1)") ∷
    body both "008A 08 04 08 00000000 0000000C 03 0100200000 0C05010000 0100280000" (prints "fucomi qword ptr fs:[ecx + 0Ch]") ∷
    body both "008B 08 04 00 00000000 00000000 02 0100200000 0200210000" (prints "fcomi st, st(1)") ∷
    body both "008B 08 04 08 00000000 0000000C 03 0100200000 0C05010000 0100280000" (prints "fcomi qword ptr fs:[ecx + 0Ch]") ∷
    body both "008C 08 04 00 00000000 00000000 02 0100200000 0200210000" (prints "fucomip st, st(1)") ∷
    body both "008C 08 04 08 00000000 0000000C 03 0100200000 0C05010000 0100280000" (prints "fucomip qword ptr fs:[ecx + 0Ch]") ∷
    body both "008D 08 04 00 00000000 00000000 02 0100200000 0200210000" (prints "fcomip st, st(1)") ∷
    body both "008D 08 04 08 00000000 0000000C 03 0100200000 0C05010000 0100280000" (prints "fcomip qword ptr fs:[ecx + 0Ch]") ∷
    -- FBLD and its like: operand 1, 10 is `tbyte`, `st` for st(0)
    body both "008F 08 04 00 00000000 00000000 02 0100200000 0200200000" (prints "fld st") ∷
    body both "008F 08 04 0A 00000000 FFFFFFF6 02 0100200000 0C06050000" (prints "fld tbyte ptr gs:[ebp - 0Ah]") ∷
    body both "008F 00 04 00 00000000 00000000 02 0100200000 0200210000" (prints "fld st(1)") ∷
    body both "008F 00 04 08 00000000 00000000 02 0100200000 0B00000000" (prints "fld qword ptr [eax]") ∷
    body both "008F 00 04 03 00000000 00000000 03 0B00010000 0200000000 0100200000" (prints "fld eax") ∷
    body both "008E 08 04 00 00000000 00000000 02 0100200000 0200200000" (prints "fbld st") ∷
    body both "008E 08 04 0A 00000000 FFFFFFF6 02 0100200000 0C06050000" (prints "fbld tbyte ptr gs:[ebp - 0Ah]") ∷
    body both "0090 08 04 00 00000000 00000000 02 0100200000 0200200000" (prints "fild st") ∷
    body both "0090 08 04 0A 00000000 FFFFFFF6 02 0100200000 0C06050000" (prints "fild tbyte ptr gs:[ebp - 0Ah]") ∷
    body both "0091 08 04 00 00000000 00000000 02 0100200000 0200200000" (prints "fxch st") ∷
    body both "0091 08 04 0A 00000000 FFFFFFF6 02 0100200000 0C06050000" (prints "fxch tbyte ptr gs:[ebp - 0Ah]") ∷
    body both "0092 08 04 00 00000000 00000000 02 0100200000 0200200000" (prints "fucom st") ∷
    body both "0092 08 04 0A 00000000 FFFFFFF6 02 0100200000 0C06050000" (prints "fucom tbyte ptr gs:[ebp - 0Ah]") ∷
    body both "0093 08 04 00 00000000 00000000 02 0100200000 0200200000" (prints "fucomp st") ∷
    body both "0093 08 04 0A 00000000 FFFFFFF6 02 0100200000 0C06050000" (prints "fucomp tbyte ptr gs:[ebp - 0Ah]") ∷
    -- FBSTP and its like: operand 0, 10 is `tbyte`, st(0) as it is
    body both "0095 08 04 00 00000000 00000000 02 0200200000 0100200000" (prints "fst st(0)") ∷
    body both "0095 08 04 0A 00000000 FFFFFFF6 02 0C01050000 0100200000" (prints "fst tbyte ptr es:[ebp - 0Ah]") ∷
    body both "0095 00 04 00 00000000 00000000 02 0200210000 0100200000" (prints "fst st(1)") ∷
    body both "0095 00 04 08 00000000 00000000 01 0B00000000" (prints "fst qword ptr [eax]") ∷
    body both "0095 00 04 00 00000000 00000000 01 0100200000" (prints "fst st(0)") ∷
    body both "0094 08 04 00 00000000 00000000 02 0200200000 0100200000" (prints "fbstp st(0)") ∷
    body both "0094 08 04 0A 00000000 FFFFFFF6 02 0C01050000 0100200000" (prints "fbstp tbyte ptr es:[ebp - 0Ah]") ∷
    body both "0096 08 04 00 00000000 00000000 02 0200200000 0100200000" (prints "fstp st(0)") ∷
    body both "0096 08 04 0A 00000000 FFFFFFF6 02 0C01050000 0100200000" (prints "fstp tbyte ptr es:[ebp - 0Ah]") ∷
    body both "0097 08 04 00 00000000 00000000 02 0200200000 0100200000" (prints "fist st(0)") ∷
    body both "0097 08 04 0A 00000000 FFFFFFF6 02 0C01050000 0100200000" (prints "fist tbyte ptr es:[ebp - 0Ah]") ∷
    body both "0098 08 04 00 00000000 00000000 02 0200200000 0100200000" (prints "fistp st(0)") ∷
    body both "0098 08 04 0A 00000000 FFFFFFF6 02 0C01050000 0100200000" (prints "fistp tbyte ptr es:[ebp - 0Ah]") ∷
    body both "0099 08 04 00 00000000 00000000 02 0200200000 0100200000" (prints "fisttp st(0)") ∷
    body both "0099 08 04 0A 00000000 FFFFFFF6 02 0C01050000 0100200000" (prints "fisttp tbyte ptr es:[ebp - 0Ah]") ∷
    []
