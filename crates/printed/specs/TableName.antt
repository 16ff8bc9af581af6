-- What the Rust printed: the name rows. Made from rows.txt by compare/table; not to be edited by hand.
-- Assumes nothing.
use Rattle.std.specs.Prelude.{List, [], ◌∷◌}
use Rattle.printed.specs.Rows.{Row, prints, answers, both, crate, straight, unknown, body, listing, repeated}

unfoldable pub name_rows : List Row
name_rows =
    -- Register names, by byte
    body both "0017 00 04 00 00000000 00000000 04 0100000000 0100010000 0100020000 0100030000" (prints "mov eax, ecx, edx, ebx") ∷
    body both "0017 00 04 00 00000000 00000000 04 0200040000 0200050000 0200060000 0200070000" (prints "mov esp, ebp, esi, edi") ∷
    body both "0017 00 04 00 00000000 00000000 04 0100080000 0100090000 01000A0000 01000B0000" (prints "mov ax, cx, dx, bx") ∷
    body both "0017 00 04 00 00000000 00000000 04 02000C0000 02000D0000 02000E0000 02000F0000" (prints "mov sp, bp, si, di") ∷
    body both "0017 00 04 00 00000000 00000000 04 0100100000 0100110000 0100120000 0100130000" (prints "mov al, cl, dl, bl") ∷
    body both "0017 00 04 00 00000000 00000000 04 0200140000 0200150000 0200160000 0200170000" (prints "mov ah, ch, dh, bh") ∷
    body both "0017 00 04 00 00000000 00000000 04 0100180000 0100190000 01001A0000 01001B0000" (prints "mov es, cs, ss, ds") ∷
    body both "0017 00 04 00 00000000 00000000 04 02001C0000 02001D0000 0200200000 0200210000" (prints "mov fs, gs, st(0), st(1)") ∷
    body both "0017 00 04 00 00000000 00000000 04 0100220000 0100230000 0100240000 0100250000" (prints "mov st(2), st(3), st(4), st(5)") ∷
    body both "0017 00 04 00 00000000 00000000 04 0200260000 0200270000 0200280000 0200290000" (prints "mov st(6), st(7), mm0, mm1") ∷
    body both "0017 00 04 00 00000000 00000000 04 01002A0000 01002B0000 01002C0000 01002D0000" (prints "mov mm2, mm3, mm4, mm5") ∷
    body both "0017 00 04 00 00000000 00000000 04 02002E0000 02002F0000 0200300000 0200310000" (prints "mov mm6, mm7, xmm0, xmm1") ∷
    body both "0017 00 04 00 00000000 00000000 04 0100320000 0100330000 0100340000 0100350000" (prints "mov xmm2, xmm3, xmm4, xmm5") ∷
    body both "0017 00 04 00 00000000 00000000 04 0200360000 0200370000 0200380000 0200390000" (prints "mov xmm6, xmm7, ymm0, ymm1") ∷
    body both "0017 00 04 00 00000000 00000000 04 01003A0000 01003B0000 01003C0000 01003D0000" (prints "mov ymm2, ymm3, ymm4, ymm5") ∷
    body both "0017 00 04 00 00000000 00000000 02 02003E0000 02003F0000" (prints "mov ymm6, ymm7") ∷
    -- Register names in brackets, as base and as index
    body both "0017 00 04 04 00000000 00000000 04 0B00000000 0D00010002 0F00000104 1000010001" (prints "mov dword ptr [eax], dword ptr [ecx * 2], dword ptr [eax + ecx * 4], dword ptr [ecx + eax + 0]") ∷
    body both "0017 00 04 04 00000000 00000000 04 0B00020000 0D00030002 0F00020304 1000030201" (prints "mov dword ptr [edx], dword ptr [ebx * 2], dword ptr [edx + ebx * 4], dword ptr [ebx + edx + 0]") ∷
    body both "0017 00 04 04 00000000 00000000 04 0B00040000 0D00050002 0F00040504 1000050401" (prints "mov dword ptr [esp], dword ptr [ebp * 2], dword ptr [esp + ebp * 4], dword ptr [ebp + esp + 0]") ∷
    body both "0017 00 04 04 00000000 00000000 04 0B00060000 0D00070002 0F00060704 1000070601" (prints "mov dword ptr [esi], dword ptr [edi * 2], dword ptr [esi + edi * 4], dword ptr [edi + esi + 0]") ∷
    body both "0017 00 04 04 00000000 00000000 04 0B00080000 0D00090002 0F00080904 1000090801" (prints "mov dword ptr [ax], dword ptr [cx * 2], dword ptr [ax + cx * 4], dword ptr [cx + ax + 0]") ∷
    body both "0017 00 04 04 00000000 00000000 04 0B000A0000 0D000B0002 0F000A0B04 10000B0A01" (prints "mov dword ptr [dx], dword ptr [bx * 2], dword ptr [dx + bx * 4], dword ptr [bx + dx + 0]") ∷
    body both "0017 00 04 04 00000000 00000000 04 0B000C0000 0D000D0002 0F000C0D04 10000D0C01" (prints "mov dword ptr [sp], dword ptr [bp * 2], dword ptr [sp + bp * 4], dword ptr [bp + sp + 0]") ∷
    body both "0017 00 04 04 00000000 00000000 04 0B000E0000 0D000F0002 0F000E0F04 10000F0E01" (prints "mov dword ptr [si], dword ptr [di * 2], dword ptr [si + di * 4], dword ptr [di + si + 0]") ∷
    -- Never `mmword`: MOVQ, MOVLPS, MOVHPS, MOVLPD, MOVHPD, MOVNTSD, CVTSI2SS, CVTSI2SD, PEXTRQ, PINSRQ
    body both "002A 08 04 08 00000000 00000000 02 0100310000 0B04010000" (prints "movq xmm1, qword ptr ds:[ecx]") ∷
    body both "002A 00 04 08 00000001 00000000 03 0B01010000 0100290000 0300000000" (prints "movq qword ptr es:[ecx], mm1, 1") ∷
    body both "002A 00 04 04 00000000 00000000 02 0100380000 0B00010000" (prints "movq ymm0, dword ptr [ecx]") ∷
    body both "002A 00 04 00 00000000 00000000 02 0100300000 0200320000" (prints "movq xmm0, xmm2") ∷
    body both "002B 08 04 08 00000000 00000000 02 0100310000 0B04010000" (prints "movlps xmm1, qword ptr ds:[ecx]") ∷
    body both "002B 00 04 04 00000000 00000000 02 0100380000 0B00010000" (prints "movlps ymm0, dword ptr [ecx]") ∷
    body both "002C 08 04 08 00000000 00000000 02 0100310000 0B04010000" (prints "movhps xmm1, qword ptr ds:[ecx]") ∷
    body both "002C 00 04 00 00000000 00000000 02 0100300000 0200320000" (prints "movhps xmm0, xmm2") ∷
    body both "002D 08 04 08 00000000 00000000 02 0100310000 0B04010000" (prints "movlpd xmm1, qword ptr ds:[ecx]") ∷
    body both "002D 00 04 08 00000001 00000000 03 0B01010000 0100290000 0300000000" (prints "movlpd qword ptr es:[ecx], mm1, 1") ∷
    body both "002E 08 04 08 00000000 00000000 02 0100310000 0B04010000" (prints "movhpd xmm1, qword ptr ds:[ecx]") ∷
    body both "002E 00 04 04 00000000 00000000 02 0100380000 0B00010000" (prints "movhpd ymm0, dword ptr [ecx]") ∷
    body both "002F 08 04 08 00000000 00000000 02 0100310000 0B04010000" (prints "movntsd xmm1, qword ptr ds:[ecx]") ∷
    body both "002F 00 04 00 00000000 00000000 02 0100300000 0200320000" (prints "movntsd xmm0, xmm2") ∷
    body both "0030 08 04 08 00000000 00000000 02 0100310000 0B04010000" (prints "cvtsi2ss xmm1, qword ptr ds:[ecx]") ∷
    body both "0030 00 04 08 00000001 00000000 03 0B01010000 0100290000 0300000000" (prints "cvtsi2ss qword ptr es:[ecx], mm1, 1") ∷
    body both "0031 08 04 08 00000000 00000000 02 0100310000 0B04010000" (prints "cvtsi2sd xmm1, qword ptr ds:[ecx]") ∷
    body both "0031 00 04 04 00000000 00000000 02 0100380000 0B00010000" (prints "cvtsi2sd ymm0, dword ptr [ecx]") ∷
    body both "0034 08 04 08 00000000 00000000 02 0100310000 0B04010000" (prints "pextrq xmm1, qword ptr ds:[ecx]") ∷
    body both "0034 00 04 00 00000000 00000000 02 0100300000 0200320000" (prints "pextrq xmm0, xmm2") ∷
    body both "0035 08 04 08 00000000 00000000 02 0100310000 0B04010000" (prints "pinsrq xmm1, qword ptr ds:[ecx]") ∷
    body both "0035 00 04 08 00000001 00000000 03 0B01010000 0100290000 0300000000" (prints "pinsrq qword ptr es:[ecx], mm1, 1") ∷
    -- Always `mmword`: CVTSD2SI, CVTTSD2SI
    body both "0032 08 04 08 00000000 00000000 02 0100000000 0B00010000" (prints "cvtsd2si eax, mmword ptr [ecx]") ∷
    body both "0032 00 04 08 00000000 00000000 02 0B06010000 0B00020000" (prints "cvtsd2si mmword ptr gs:[ecx], mmword ptr [edx]") ∷
    body both "0032 00 04 08 00000000 00000000 02 0100000000 0B06010000" (prints "cvtsd2si eax, mmword ptr gs:[ecx]") ∷
    body both "0032 00 04 04 00000000 00000000 02 0100000000 0B00010000" (prints "cvtsd2si eax, dword ptr [ecx]") ∷
    body both "0032 00 04 00 00000000 00000000 02 0100000000 0200310000" (prints "cvtsd2si eax, xmm1") ∷
    body both "0033 08 04 08 00000000 00000000 02 0100000000 0B00010000" (prints "cvttsd2si eax, mmword ptr [ecx]") ∷
    body both "0033 00 04 08 00000000 00000000 02 0100000000 0B06010000" (prints "cvttsd2si eax, mmword ptr gs:[ecx]") ∷
    -- JMPF, CALLF: 6 is `fword` in operand 0
    body both "003A 08 04 06 00000000 00000000 01 0B00000000" (prints "jmp fword ptr [eax]") ∷
    body both "003A 08 04 08 00000005 00000000 03 0500000000 0B04000000 0100300000" (prints "jmp 5, mmword ptr ds:[eax], xmm0") ∷
    body both "003A 00 04 04 00000000 00000000 01 0B02000000" (prints "jmp dword ptr cs:[eax]") ∷
    body both "003A 00 04 06 00000000 12345678 01 0A04000000" (prints "jmp fword ptr ds:[12345678h]") ∷
    body both "003A 00 04 08 00000000 00000000 02 0F000D0E01 0100300000" (prints "jmp mmword ptr [bp + si], xmm0") ∷
    body both "003A 00 04 00 00000000 00000000 01 0100000000" (prints "jmp eax") ∷
    body both "003A 00 04 00 00000000 00000000 00" (prints "jmp") ∷
    body both "003B 08 04 06 00000000 00000000 01 0B00000000" (prints "call fword ptr [eax]") ∷
    body both "003B 08 04 08 00000005 00000000 03 0500000000 0B04000000 0100300000" (prints "call 5, mmword ptr ds:[eax], xmm0") ∷
    -- LDS, LES, LFS, LGS: 6 is `fword` after operand 0
    body both "0036 08 04 06 00000000 00000000 02 0100000000 0B00010000" (prints "lds eax, fword ptr [ecx]") ∷
    body both "0036 08 04 08 00000000 00000000 02 0100300000 0B04010000" (prints "lds xmm0, mmword ptr ds:[ecx]") ∷
    body both "0036 00 04 04 00000000 00000000 02 0100080000 0B00010000" (prints "lds ax, dword ptr [ecx]") ∷
    body both "0036 00 04 06 00000000 00000000 02 0100000000 0B03010000" (prints "lds eax, fword ptr ss:[ecx]") ∷
    body both "0036 00 04 06 00000003 00000000 04 0100000000 0100010000 0300000000 0B00020000" (prints "lds eax, ecx, 3, fword ptr [edx]") ∷
    body both "0037 08 04 06 00000000 00000000 02 0100000000 0B00010000" (prints "les eax, fword ptr [ecx]") ∷
    body both "0037 08 04 08 00000000 00000000 02 0100300000 0B04010000" (prints "les xmm0, mmword ptr ds:[ecx]") ∷
    body both "0038 08 04 06 00000000 00000000 02 0100000000 0B00010000" (prints "lfs eax, fword ptr [ecx]") ∷
    body both "0038 08 04 08 00000000 00000000 02 0100300000 0B04010000" (prints "lfs xmm0, mmword ptr ds:[ecx]") ∷
    body both "0039 08 04 06 00000000 00000000 02 0100000000 0B00010000" (prints "lgs eax, fword ptr [ecx]") ∷
    body both "0039 08 04 08 00000000 00000000 02 0100300000 0B04010000" (prints "lgs xmm0, mmword ptr ds:[ecx]") ∷
    -- MOVS: ds is shown in operand 0 alone
    body both "003C 00 04 01 00000000 00000000 02 0B01070000 0B04060000" (prints "movs byte ptr es:[edi], byte ptr [esi]") ∷
    body both "003C 00 04 01 00000000 00000000 02 0B04070000 0B04060000" (prints "movs byte ptr ds:[edi], byte ptr [esi]") ∷
    body both "003C 08 04 04 00000000 00000000 02 0B01070000 0B05060000" (prints "rep movs dword ptr es:[edi], dword ptr fs:[esi]") ∷
    body both "003C 10 04 02 00000000 00000000 02 0B010F0000 0B000E0000" (prints "repne movs word ptr es:[di], word ptr [si]") ∷
    body both "003C 18 04 02 00000000 00000000 04 0B000F0000 0B040E0000 0B040B0000 0B010D0000" (prints "rep movs word ptr [di], word ptr [si], word ptr [bx], word ptr es:[bp]") ∷
    body both "003C 00 04 08 00000000 00000000 02 0100290000 0B04060000" (prints "movs mm1, mmword ptr [esi]") ∷
    body both "003C 00 04 00 00000000 00000000 00" (prints "movs") ∷
    -- MOVS: each flag alone
    body both "003C 01 04 00 00000000 00000000 00" (prints "xacquire movs") ∷
    body both "003C 02 04 00 00000000 00000000 00" (prints "xrelease movs") ∷
    body both "003C 04 04 00 00000000 00000000 00" (prints "lock movs") ∷
    body both "003C 08 04 00 00000000 00000000 00" (prints "rep movs") ∷
    body both "003C 10 04 00 00000000 00000000 00" (prints "repne movs") ∷
    body both "003C 20 04 00 00000000 00000000 00" (prints "movs") ∷
    -- The longest line
    body both "003C 17 04 10 00000000 80000000 04 1005000108 1005000108 1005000108 1005000108" (prints "xacquire xrelease lock repne movs xmmword ptr fs:[eax + ecx * 8 - 80000000h], xmmword ptr fs:[eax + ecx * 8 - 80000000h], xmmword ptr fs:[eax + ecx * 8 - 80000000h], xmmword ptr fs:[eax + ecx * 8 - 80000000h]") ∷
    -- CMPS, INS, OUTS: the general path after rep
    body both "003D 18 04 08 00000000 00000000 02 0B04060000 0B04070000" (prints "rep cmps qword ptr ds:[esi], qword ptr ds:[edi]") ∷
    body both "003D 08 04 08 00000000 00000000 03 0100280000 0B04060000 01000A0000" (prints "rep cmps mm0, mmword ptr ds:[esi], dx") ∷
    body both "003D 10 04 04 00000000 00000000 02 0B00060000 0B01070000" (prints "repne cmps dword ptr [esi], dword ptr es:[edi]") ∷
    body both "003D 08 04 01 00000000 00000000 02 0B01070000 01000A0000" (prints "rep cmps byte ptr es:[edi], dx") ∷
    body both "003D 00 04 02 00000000 00000000 02 01000A0000 0B06060000" (prints "cmps dx, word ptr gs:[esi]") ∷
    body both "003D 18 04 04 00000000 00000000 02 01000A0000 0B00060000" (prints "rep cmps dx, dword ptr [esi]") ∷
    body both "003E 18 04 08 00000000 00000000 02 0B04060000 0B04070000" (prints "rep ins qword ptr ds:[esi], qword ptr ds:[edi]") ∷
    body both "003E 08 04 08 00000000 00000000 03 0100280000 0B04060000 01000A0000" (prints "rep ins mm0, mmword ptr ds:[esi], dx") ∷
    body both "003F 18 04 08 00000000 00000000 02 0B04060000 0B04070000" (prints "rep outs qword ptr ds:[esi], qword ptr ds:[edi]") ∷
    body both "003F 08 04 08 00000000 00000000 03 0100280000 0B04060000 01000A0000" (prints "rep outs mm0, mmword ptr ds:[esi], dx") ∷
    -- SCAS, STOS: operand 0 alone, with its segment, and never `mmword`
    body both "0057 18 04 01 00000000 00000000 02 0B01070000 0100100000" (prints "rep scas byte ptr es:[edi]") ∷
    body both "0057 08 04 08 00000000 00000000 02 0B00070000 0100280000" (prints "rep scas qword ptr [edi]") ∷
    body both "0057 10 04 04 00000000 00000000 01 0B00070000" (prints "repne scas dword ptr [edi]") ∷
    body both "0057 00 04 04 00000000 00000000 01 0B00070000" (prints "scas dword ptr [edi]") ∷
    body both "0057 08 04 02 00000000 00000000 02 0B040F0000 0100080000" (prints "rep scas word ptr ds:[di]") ∷
    body both "0058 18 04 01 00000000 00000000 02 0B01070000 0100100000" (prints "rep stos byte ptr es:[edi]") ∷
    body both "0058 08 04 08 00000000 00000000 02 0B00070000 0100280000" (prints "rep stos qword ptr [edi]") ∷
    -- LODS: operand 1 alone, without its segment
    body both "0059 00 04 01 00000000 00000000 02 0100100000 0B05060000" (prints "lods byte ptr [esi]") ∷
    body both "0059 08 04 04 00000000 00000000 02 0100000000 0B04060000" (prints "rep lods dword ptr [esi]") ∷
    body both "0059 10 04 08 00000000 00000000 03 0B00070000 0B00060000 0100280000" (prints "repne lods qword ptr [esi]") ∷
    []
