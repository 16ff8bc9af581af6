-- What the Rust printed: the general rows. Made from rows.txt by compare/table; not to be edited by hand.
-- Assumes nothing.
use Rattle.std.specs.Prelude.{List, [], ◌∷◌}
use Rattle.printed.specs.Rows.{Row, prints, answers, both, crate, straight, unknown, body, listing, repeated}

unfoldable pub general_rows : List Row
general_rows =
    -- Displacements
    body both "0017 00 04 04 00000000 00000000 02 0100000000 0C00000000" (prints "mov eax, dword ptr [eax + 0]") ∷
    body both "0017 00 04 04 00000000 00000009 02 0100000000 0C00000000" (prints "mov eax, dword ptr [eax + 9]") ∷
    body both "0017 00 04 04 00000000 0000000A 02 0100000000 0C00000000" (prints "mov eax, dword ptr [eax + 0Ah]") ∷
    body both "0017 00 04 04 00000000 0000000F 02 0100000000 0C00000000" (prints "mov eax, dword ptr [eax + 0Fh]") ∷
    body both "0017 00 04 04 00000000 00000010 02 0100000000 0C00000000" (prints "mov eax, dword ptr [eax + 10h]") ∷
    body both "0017 00 04 04 00000000 FFFFFFFF 02 0100000000 0C00000000" (prints "mov eax, dword ptr [eax - 1]") ∷
    body both "0017 00 04 04 00000000 FFFFFFF7 02 0100000000 0C00000000" (prints "mov eax, dword ptr [eax - 9]") ∷
    body both "0017 00 04 04 00000000 FFFFFFF6 02 0100000000 0C00000000" (prints "mov eax, dword ptr [eax - 0Ah]") ∷
    body both "0017 00 04 04 00000000 FFFFFF60 02 0100000000 0C00000000" (prints "mov eax, dword ptr [eax - 0A0h]") ∷
    body both "0017 00 04 04 00000000 0000009F 02 0100000000 0C00000000" (prints "mov eax, dword ptr [eax + 9Fh]") ∷
    body both "0017 00 04 04 00000000 000000A0 02 0100000000 0C00000000" (prints "mov eax, dword ptr [eax + 0A0h]") ∷
    body both "0017 00 04 04 00000000 7FFFFFFF 02 0100000000 0C00000000" (prints "mov eax, dword ptr [eax + 7FFFFFFFh]") ∷
    body both "0017 00 04 04 00000000 80000001 02 0100000000 0C00000000" (prints "mov eax, dword ptr [eax - 7FFFFFFFh]") ∷
    body both "0017 00 04 04 00000000 80000000 02 0100000000 0C00000000" (prints "mov eax, dword ptr [eax - 80000000h]") ∷
    -- Immediates: each kind takes the low bits of imm, and signed ones are extended to 32 bits
    body both "0021 00 04 00 FFFFFFFF 00000000 01 0300000000" (prints "push 0FFFFFFFFh") ∷
    body both "0021 00 04 00 00000000 00000000 01 0300000000" (prints "push 0") ∷
    body both "0021 00 04 00 00000009 00000000 01 0300000000" (prints "push 9") ∷
    body both "0021 00 04 00 0000000A 00000000 01 0300000000" (prints "push 0Ah") ∷
    body both "0021 00 04 00 0000017F 00000000 01 0300000000" (prints "push 7Fh") ∷
    body both "0021 00 04 00 00000080 00000000 01 0300000000" (prints "push 0FFFFFF80h") ∷
    body both "0021 00 04 00 FFFFFFFF 00000000 01 0400000000" (prints "push 0FFFFFFFFh") ∷
    body both "0021 00 04 00 00007FFF 00000000 01 0400000000" (prints "push 7FFFh") ∷
    body both "0021 00 04 00 00008000 00000000 01 0400000000" (prints "push 0FFFF8000h") ∷
    body both "0021 00 04 00 0001000A 00000000 01 0400000000" (prints "push 0Ah") ∷
    body both "0021 00 04 00 FFFFFFFF 00000000 01 0500000000" (prints "push 0FFFFFFFFh") ∷
    body both "0021 00 04 00 7FFFFFFF 00000000 01 0500000000" (prints "push 7FFFFFFFh") ∷
    body both "0021 00 04 00 80000000 00000000 01 0500000000" (prints "push 80000000h") ∷
    body both "0021 00 04 00 0000000A 00000000 01 0500000000" (prints "push 0Ah") ∷
    body both "0021 00 04 00 FFFFFFFF 00000000 01 0600000000" (prints "push 0FFh") ∷
    body both "0021 00 04 00 0000FF80 00000000 01 0600000000" (prints "push 80h") ∷
    body both "0021 00 04 00 00000009 00000000 01 0600000000" (prints "push 9") ∷
    body both "0021 00 04 00 0000000A 00000000 01 0600000000" (prints "push 0Ah") ∷
    body both "0021 00 04 00 FFFFFFFF 00000000 01 0700000000" (prints "push 0FFFFh") ∷
    body both "0021 00 04 00 0009ABCD 00000000 01 0700000000" (prints "push 0ABCDh") ∷
    body both "0021 00 04 00 00000FFF 00000000 01 0700000000" (prints "push 0FFFh") ∷
    body both "0021 00 04 00 FFFFFFFF 00000000 01 0800000000" (prints "push 0FFFFFFFFh") ∷
    body both "0021 00 04 00 80000000 00000000 01 0800000000" (prints "push 80000000h") ∷
    body both "0021 00 04 00 00000010 00000000 01 0800000000" (prints "push 10h") ∷
    -- Absolutes: 4 or 8 digits of disp, always h
    body both "0017 00 04 04 00000000 0000ABCD 02 0100000000 0900000000" (prints "mov eax, dword ptr [0ABCDh]") ∷
    body both "0017 00 04 04 00000000 00000ABC 02 0100000000 0900000000" (prints "mov eax, dword ptr [0ABCh]") ∷
    body both "0017 00 04 04 00000000 00000000 02 0100000000 0900000000" (prints "mov eax, dword ptr [0000h]") ∷
    body both "0017 00 04 04 00000000 00009FFF 02 0100000000 0900000000" (prints "mov eax, dword ptr [9FFFh]") ∷
    body both "0017 00 04 04 00000000 0001A000 02 0100000000 0900000000" (prints "mov eax, dword ptr [0A000h]") ∷
    body both "0017 00 04 04 00000000 FFFFFFFF 02 0100000000 0900000000" (prints "mov eax, dword ptr [0FFFFh]") ∷
    body both "0017 00 04 04 00000000 0ABCDEF0 02 0100000000 0A00000000" (prints "mov eax, dword ptr [0ABCDEF0h]") ∷
    body both "0017 00 04 04 00000000 A0000000 02 0100000000 0A00000000" (prints "mov eax, dword ptr [0A0000000h]") ∷
    body both "0017 00 04 04 00000000 00000000 02 0100000000 0A00000000" (prints "mov eax, dword ptr [00000000h]") ∷
    body both "0017 00 04 04 00000000 9FFFFFFF 02 0100000000 0A00000000" (prints "mov eax, dword ptr [9FFFFFFFh]") ∷
    -- Brackets: each memory kind as operand 0 and as operand 1, scale 1 without `* 1`
    body both "0018 00 04 04 00000000 FFFFFFF0 02 0B00030000 0100020000" (prints "add dword ptr [ebx], edx") ∷
    body both "0018 00 04 04 00000000 00000012 02 0100020000 0B06030000" (prints "add edx, dword ptr gs:[ebx]") ∷
    body both "0018 00 04 04 00000000 FFFFFFF0 02 0C00030000 0100020000" (prints "add dword ptr [ebx - 10h], edx") ∷
    body both "0018 00 04 04 00000000 00000012 02 0100020000 0C06030000" (prints "add edx, dword ptr gs:[ebx + 12h]") ∷
    body both "0018 00 04 04 00000000 FFFFFFF0 02 0D00060001 0100020000" (prints "add dword ptr [esi], edx") ∷
    body both "0018 00 04 04 00000000 00000012 02 0100020000 0D06060001" (prints "add edx, dword ptr gs:[esi]") ∷
    body both "0018 00 04 04 00000000 FFFFFFF0 02 0D00060002 0100020000" (prints "add dword ptr [esi * 2], edx") ∷
    body both "0018 00 04 04 00000000 00000012 02 0100020000 0D06060002" (prints "add edx, dword ptr gs:[esi * 2]") ∷
    body both "0018 00 04 04 00000000 FFFFFFF0 02 0E00060001 0100020000" (prints "add dword ptr [esi - 10h], edx") ∷
    body both "0018 00 04 04 00000000 00000012 02 0100020000 0E06060001" (prints "add edx, dword ptr gs:[esi + 12h]") ∷
    body both "0018 00 04 04 00000000 FFFFFFF0 02 0E00060008 0100020000" (prints "add dword ptr [esi * 8 - 10h], edx") ∷
    body both "0018 00 04 04 00000000 00000012 02 0100020000 0E06060008" (prints "add edx, dword ptr gs:[esi * 8 + 12h]") ∷
    body both "0018 00 04 04 00000000 FFFFFFF0 02 0F00030601 0100020000" (prints "add dword ptr [ebx + esi], edx") ∷
    body both "0018 00 04 04 00000000 00000012 02 0100020000 0F06030601" (prints "add edx, dword ptr gs:[ebx + esi]") ∷
    body both "0018 00 04 04 00000000 FFFFFFF0 02 0F00030604 0100020000" (prints "add dword ptr [ebx + esi * 4], edx") ∷
    body both "0018 00 04 04 00000000 00000012 02 0100020000 0F06030604" (prints "add edx, dword ptr gs:[ebx + esi * 4]") ∷
    body both "0018 00 04 04 00000000 FFFFFFF0 02 1000030601 0100020000" (prints "add dword ptr [ebx + esi - 10h], edx") ∷
    body both "0018 00 04 04 00000000 00000012 02 0100020000 1006030601" (prints "add edx, dword ptr gs:[ebx + esi + 12h]") ∷
    body both "0018 00 04 04 00000000 FFFFFFF0 02 1000030608 0100020000" (prints "add dword ptr [ebx + esi * 8 - 10h], edx") ∷
    body both "0018 00 04 04 00000000 00000012 02 0100020000 1006030608" (prints "add edx, dword ptr gs:[ebx + esi * 8 + 12h]") ∷
    body both "0018 00 04 04 00000000 FFFFFFF0 02 0900000000 0100020000" (prints "add dword ptr [0FFF0h], edx") ∷
    body both "0018 00 04 04 00000000 00000012 02 0100020000 0906000000" (prints "add edx, dword ptr gs:[0012h]") ∷
    body both "0018 00 04 04 00000000 FFFFFFF0 02 0A00000000 0100020000" (prints "add dword ptr [0FFFFFFF0h], edx") ∷
    body both "0018 00 04 04 00000000 00000012 02 0100020000 0A06000000" (prints "add edx, dword ptr gs:[00000012h]") ∷
    -- Scales
    body both "0019 00 04 01 00000000 00000008 02 0D00010001 1000020501" (prints "or byte ptr [ecx], byte ptr [edx + ebp + 8]") ∷
    body both "0019 00 04 01 00000000 00000008 02 0D00010002 1000020502" (prints "or byte ptr [ecx * 2], byte ptr [edx + ebp * 2 + 8]") ∷
    body both "0019 00 04 01 00000000 00000008 02 0D00010004 1000020504" (prints "or byte ptr [ecx * 4], byte ptr [edx + ebp * 4 + 8]") ∷
    body both "0019 00 04 01 00000000 00000008 02 0D00010008 1000020508" (prints "or byte ptr [ecx * 8], byte ptr [edx + ebp * 8 + 8]") ∷
    -- Segments, of operand 0 and of those after it
    body both "001F 00 04 02 00000000 00000000 02 0B01000000 0B02010000" (prints "cmp word ptr es:[eax], word ptr cs:[ecx]") ∷
    body both "0020 00 04 02 00000000 00000004 03 0100000000 0901000000 0A02000000" (prints "test eax, word ptr es:[0004h], word ptr cs:[00000004h]") ∷
    body both "001F 00 04 02 00000000 00000000 02 0B02000000 0B03010000" (prints "cmp word ptr cs:[eax], word ptr ss:[ecx]") ∷
    body both "0020 00 04 02 00000000 00000004 03 0100000000 0902000000 0A03000000" (prints "test eax, word ptr cs:[0004h], word ptr ss:[00000004h]") ∷
    body both "001F 00 04 02 00000000 00000000 02 0B03000000 0B04010000" (prints "cmp word ptr ss:[eax], word ptr ds:[ecx]") ∷
    body both "0020 00 04 02 00000000 00000004 03 0100000000 0903000000 0A04000000" (prints "test eax, word ptr ss:[0004h], word ptr ds:[00000004h]") ∷
    body both "001F 00 04 02 00000000 00000000 02 0B04000000 0B05010000" (prints "cmp word ptr ds:[eax], word ptr fs:[ecx]") ∷
    body both "0020 00 04 02 00000000 00000004 03 0100000000 0904000000 0A05000000" (prints "test eax, word ptr ds:[0004h], word ptr fs:[00000004h]") ∷
    body both "001F 00 04 02 00000000 00000000 02 0B05000000 0B06010000" (prints "cmp word ptr fs:[eax], word ptr gs:[ecx]") ∷
    body both "0020 00 04 02 00000000 00000004 03 0100000000 0905000000 0A06000000" (prints "test eax, word ptr fs:[0004h], word ptr gs:[00000004h]") ∷
    body both "001F 00 04 02 00000000 00000000 02 0B06000000 0B01010000" (prints "cmp word ptr gs:[eax], word ptr es:[ecx]") ∷
    body both "0020 00 04 02 00000000 00000004 03 0100000000 0906000000 0A01000000" (prints "test eax, word ptr gs:[0004h], word ptr es:[00000004h]") ∷
    -- Labels by mem_size; none for 63 and 48
    body both "0023 00 04 01 00000000 00000000 01 0B05010000" (prints "inc byte ptr fs:[ecx]") ∷
    body both "001E 00 04 01 00000000 00000001 03 0100000000 0B00010000 0C00020000" (prints "xor eax, byte ptr [ecx], byte ptr [edx + 1]") ∷
    body both "0023 00 04 02 00000000 00000000 01 0B05010000" (prints "inc word ptr fs:[ecx]") ∷
    body both "001E 00 04 02 00000000 00000001 03 0100000000 0B00010000 0C00020000" (prints "xor eax, word ptr [ecx], word ptr [edx + 1]") ∷
    body both "0023 00 04 04 00000000 00000000 01 0B05010000" (prints "inc dword ptr fs:[ecx]") ∷
    body both "001E 00 04 04 00000000 00000001 03 0100000000 0B00010000 0C00020000" (prints "xor eax, dword ptr [ecx], dword ptr [edx + 1]") ∷
    body both "0023 00 04 08 00000000 00000000 01 0B05010000" (prints "inc qword ptr fs:[ecx]") ∷
    body both "001E 00 04 08 00000000 00000001 03 0100000000 0B00010000 0C00020000" (prints "xor eax, qword ptr [ecx], qword ptr [edx + 1]") ∷
    body both "0023 00 04 10 00000000 00000000 01 0B05010000" (prints "inc xmmword ptr fs:[ecx]") ∷
    body both "001E 00 04 10 00000000 00000001 03 0100000000 0B00010000 0C00020000" (prints "xor eax, xmmword ptr [ecx], xmmword ptr [edx + 1]") ∷
    body both "0023 00 04 20 00000000 00000000 01 0B05010000" (prints "inc ymmword ptr fs:[ecx]") ∷
    body both "001E 00 04 20 00000000 00000001 03 0100000000 0B00010000 0C00020000" (prints "xor eax, ymmword ptr [ecx], ymmword ptr [edx + 1]") ∷
    body both "0023 00 04 40 00000000 00000000 01 0B05010000" (prints "inc zmmword ptr fs:[ecx]") ∷
    body both "001E 00 04 40 00000000 00000001 03 0100000000 0B00010000 0C00020000" (prints "xor eax, zmmword ptr [ecx], zmmword ptr [edx + 1]") ∷
    body both "0023 00 04 3F 00000000 00000000 01 0B05010000" (prints "inc fs:[ecx]") ∷
    body both "001E 00 04 3F 00000000 00000001 03 0100000000 0B00010000 0C00020000" (prints "xor eax, [ecx], [edx + 1]") ∷
    body both "0023 00 04 30 00000000 00000000 01 0B05010000" (prints "inc fs:[ecx]") ∷
    body both "001E 00 04 30 00000000 00000001 03 0100000000 0B00010000 0C00020000" (prints "xor eax, [ecx], [edx + 1]") ∷
    -- 8 is `mmword` where an operand is an mm, xmm or ymm register, in any place; st registers do not count
    body both "0029 00 04 08 00000000 00000000 02 0100280000 0B00020000" (prints "movaps mm0, mmword ptr [edx]") ∷
    body both "0017 00 04 08 00000000 00000000 04 0B00020000 0100000000 0C00030000 0200280000" (prints "mov mmword ptr [edx], eax, mmword ptr [ebx + 0], mm0") ∷
    body both "0029 00 04 08 00000000 00000000 02 01002F0000 0B00020000" (prints "movaps mm7, mmword ptr [edx]") ∷
    body both "0017 00 04 08 00000000 00000000 04 0B00020000 0100000000 0C00030000 02002F0000" (prints "mov mmword ptr [edx], eax, mmword ptr [ebx + 0], mm7") ∷
    body both "0029 00 04 08 00000000 00000000 02 0100300000 0B00020000" (prints "movaps xmm0, mmword ptr [edx]") ∷
    body both "0017 00 04 08 00000000 00000000 04 0B00020000 0100000000 0C00030000 0200300000" (prints "mov mmword ptr [edx], eax, mmword ptr [ebx + 0], xmm0") ∷
    body both "0029 00 04 08 00000000 00000000 02 0100370000 0B00020000" (prints "movaps xmm7, mmword ptr [edx]") ∷
    body both "0017 00 04 08 00000000 00000000 04 0B00020000 0100000000 0C00030000 0200370000" (prints "mov mmword ptr [edx], eax, mmword ptr [ebx + 0], xmm7") ∷
    body both "0029 00 04 08 00000000 00000000 02 0100380000 0B00020000" (prints "movaps ymm0, mmword ptr [edx]") ∷
    body both "0017 00 04 08 00000000 00000000 04 0B00020000 0100000000 0C00030000 0200380000" (prints "mov mmword ptr [edx], eax, mmword ptr [ebx + 0], ymm0") ∷
    body both "0029 00 04 08 00000000 00000000 02 01003F0000 0B00020000" (prints "movaps ymm7, mmword ptr [edx]") ∷
    body both "0017 00 04 08 00000000 00000000 04 0B00020000 0100000000 0C00030000 02003F0000" (prints "mov mmword ptr [edx], eax, mmword ptr [ebx + 0], ymm7") ∷
    body both "0029 00 04 08 00000000 00000000 02 0100200000 0B00020000" (prints "movaps st(0), qword ptr [edx]") ∷
    body both "0017 00 04 08 00000000 00000000 04 0B00020000 0100000000 0C00030000 0200200000" (prints "mov qword ptr [edx], eax, qword ptr [ebx + 0], st(0)") ∷
    body both "0029 00 04 08 00000000 00000000 02 0100270000 0B00020000" (prints "movaps st(7), qword ptr [edx]") ∷
    body both "0017 00 04 08 00000000 00000000 04 0B00020000 0100000000 0C00030000 0200270000" (prints "mov qword ptr [edx], eax, qword ptr [ebx + 0], st(7)") ∷
    body both "0029 00 04 08 00000000 00000000 02 01001D0000 0B00020000" (prints "movaps gs, qword ptr [edx]") ∷
    body both "0017 00 04 08 00000000 00000000 04 0B00020000 0100000000 0C00030000 02001D0000" (prints "mov qword ptr [edx], eax, qword ptr [ebx + 0], gs") ∷
    body both "0029 00 04 08 00000000 00000000 02 0100170000 0B00020000" (prints "movaps bh, qword ptr [edx]") ∷
    body both "0017 00 04 08 00000000 00000000 04 0B00020000 0100000000 0C00030000 0200170000" (prints "mov qword ptr [edx], eax, qword ptr [ebx + 0], bh") ∷
    -- Counts 0 to 4; no size is asked of what is no memory
    body both "001C 00 04 00 00000001 00000001 00" (prints "and") ∷
    body both "001C 00 04 00 00000001 00000001 01 0200010000" (prints "and ecx") ∷
    body both "001C 00 04 00 00000001 00000001 02 0100000000 0300000000" (prints "and eax, 1") ∷
    body both "001C 00 04 00 00000001 00000001 03 0100000000 0200010000 0600000000" (prints "and eax, ecx, 1") ∷
    body both "001C 00 04 04 00000001 00000001 04 0100000000 0300000000 0C06020000 0B000B0000" (prints "and eax, 1, dword ptr gs:[edx + 1], dword ptr [bx]") ∷
    -- Prefix words: xacquire, xrelease, lock; rep only where it can be, operand size nowhere but in PUSHF
    body both "001D 01 04 04 00000000 00000000 02 0B00070000 0100000000" (prints "xacquire sub dword ptr [edi], eax") ∷
    body both "001D 02 04 04 00000000 00000000 02 0B00070000 0100000000" (prints "xrelease sub dword ptr [edi], eax") ∷
    body both "001D 04 04 04 00000000 00000000 02 0B00070000 0100000000" (prints "lock sub dword ptr [edi], eax") ∷
    body both "001D 08 04 04 00000000 00000000 02 0B00070000 0100000000" (prints "sub dword ptr [edi], eax") ∷
    body both "001D 10 04 04 00000000 00000000 02 0B00070000 0100000000" (prints "sub dword ptr [edi], eax") ∷
    body both "001D 20 04 04 00000000 00000000 02 0B00070000 0100000000" (prints "sub dword ptr [edi], eax") ∷
    body both "001D 07 04 04 00000000 00000000 02 0B00070000 0100000000" (prints "xacquire xrelease lock sub dword ptr [edi], eax") ∷
    body both "001D 3F 04 04 00000000 00000000 02 0B00070000 0100000000" (prints "xacquire xrelease lock sub dword ptr [edi], eax") ∷
    -- Lengths 1 and 15
    body both "0024 00 01 00 00000000 00000000 01 0200010000" (prints "dec ecx") ∷
    body both "0024 00 0F 00 00000000 00000000 01 0200010000" (prints "dec ecx") ∷
    -- Each opcode of the general path
    body both "0017 28 04 08 00000000 00000000 02 0100310000 0B05010000" (prints "mov xmm1, mmword ptr fs:[ecx]") ∷
    body both "0017 08 04 08 0000000A 00000000 02 0100000000 0B04010000" (prints "mov eax, qword ptr ds:[ecx]") ∷
    body both "0017 00 04 01 00000000 FFFFFFF8 02 1000050702 0100100000" (prints "mov byte ptr [ebp + edi * 2 - 8], al") ∷
    body both "0017 00 04 3F 00000000 00000000 01 0B05010000" (prints "mov fs:[ecx]") ∷
    body both "0017 00 04 00 00ABCDEF 00000000 02 0200010000 0500000000" (prints "mov ecx, 0ABCDEFh") ∷
    body both "0018 28 04 08 00000000 00000000 02 0100310000 0B05010000" (prints "add xmm1, mmword ptr fs:[ecx]") ∷
    body both "0018 08 04 08 0000000A 00000000 02 0100000000 0B04010000" (prints "add eax, qword ptr ds:[ecx]") ∷
    body both "0019 28 04 08 00000000 00000000 02 0100310000 0B05010000" (prints "or xmm1, mmword ptr fs:[ecx]") ∷
    body both "0019 08 04 08 0000000A 00000000 02 0100000000 0B04010000" (prints "or eax, qword ptr ds:[ecx]") ∷
    body both "001A 28 04 08 00000000 00000000 02 0100310000 0B05010000" (prints "adc xmm1, mmword ptr fs:[ecx]") ∷
    body both "001A 08 04 08 0000000A 00000000 02 0100000000 0B04010000" (prints "adc eax, qword ptr ds:[ecx]") ∷
    body both "001B 28 04 08 00000000 00000000 02 0100310000 0B05010000" (prints "sbb xmm1, mmword ptr fs:[ecx]") ∷
    body both "001B 08 04 08 0000000A 00000000 02 0100000000 0B04010000" (prints "sbb eax, qword ptr ds:[ecx]") ∷
    body both "001C 28 04 08 00000000 00000000 02 0100310000 0B05010000" (prints "and xmm1, mmword ptr fs:[ecx]") ∷
    body both "001C 08 04 08 0000000A 00000000 02 0100000000 0B04010000" (prints "and eax, qword ptr ds:[ecx]") ∷
    body both "001D 28 04 08 00000000 00000000 02 0100310000 0B05010000" (prints "sub xmm1, mmword ptr fs:[ecx]") ∷
    body both "001D 08 04 08 0000000A 00000000 02 0100000000 0B04010000" (prints "sub eax, qword ptr ds:[ecx]") ∷
    body both "001E 28 04 08 00000000 00000000 02 0100310000 0B05010000" (prints "xor xmm1, mmword ptr fs:[ecx]") ∷
    body both "001E 08 04 08 0000000A 00000000 02 0100000000 0B04010000" (prints "xor eax, qword ptr ds:[ecx]") ∷
    body both "001F 28 04 08 00000000 00000000 02 0100310000 0B05010000" (prints "cmp xmm1, mmword ptr fs:[ecx]") ∷
    body both "001F 08 04 08 0000000A 00000000 02 0100000000 0B04010000" (prints "cmp eax, qword ptr ds:[ecx]") ∷
    body both "0020 28 04 08 00000000 00000000 02 0100310000 0B05010000" (prints "test xmm1, mmword ptr fs:[ecx]") ∷
    body both "0020 08 04 08 0000000A 00000000 02 0100000000 0B04010000" (prints "test eax, qword ptr ds:[ecx]") ∷
    body both "0021 28 04 08 00000000 00000000 02 0100310000 0B05010000" (prints "push xmm1, mmword ptr fs:[ecx]") ∷
    body both "0021 08 04 08 0000000A 00000000 02 0100000000 0B04010000" (prints "push eax, qword ptr ds:[ecx]") ∷
    body both "0022 28 04 08 00000000 00000000 02 0100310000 0B05010000" (prints "pop xmm1, mmword ptr fs:[ecx]") ∷
    body both "0022 08 04 08 0000000A 00000000 02 0100000000 0B04010000" (prints "pop eax, qword ptr ds:[ecx]") ∷
    body both "0023 28 04 08 00000000 00000000 02 0100310000 0B05010000" (prints "inc xmm1, mmword ptr fs:[ecx]") ∷
    body both "0023 08 04 08 0000000A 00000000 02 0100000000 0B04010000" (prints "inc eax, qword ptr ds:[ecx]") ∷
    body both "0024 28 04 08 00000000 00000000 02 0100310000 0B05010000" (prints "dec xmm1, mmword ptr fs:[ecx]") ∷
    body both "0024 08 04 08 0000000A 00000000 02 0100000000 0B04010000" (prints "dec eax, qword ptr ds:[ecx]") ∷
    body both "0025 28 04 08 00000000 00000000 02 0100310000 0B05010000" (prints "neg xmm1, mmword ptr fs:[ecx]") ∷
    body both "0025 08 04 08 0000000A 00000000 02 0100000000 0B04010000" (prints "neg eax, qword ptr ds:[ecx]") ∷
    body both "0026 28 04 08 00000000 00000000 02 0100310000 0B05010000" (prints "not xmm1, mmword ptr fs:[ecx]") ∷
    body both "0026 08 04 08 0000000A 00000000 02 0100000000 0B04010000" (prints "not eax, qword ptr ds:[ecx]") ∷
    body both "0027 28 04 08 00000000 00000000 02 0100310000 0B05010000" (prints "fxsave xmm1, mmword ptr fs:[ecx]") ∷
    body both "0027 08 04 08 0000000A 00000000 02 0100000000 0B04010000" (prints "fxsave eax, qword ptr ds:[ecx]") ∷
    body both "0028 28 04 08 00000000 00000000 02 0100310000 0B05010000" (prints "fxrstor xmm1, mmword ptr fs:[ecx]") ∷
    body both "0028 08 04 08 0000000A 00000000 02 0100000000 0B04010000" (prints "fxrstor eax, qword ptr ds:[ecx]") ∷
    body both "0029 28 04 08 00000000 00000000 02 0100310000 0B05010000" (prints "movaps xmm1, mmword ptr fs:[ecx]") ∷
    body both "0029 08 04 08 0000000A 00000000 02 0100000000 0B04010000" (prints "movaps eax, qword ptr ds:[ecx]") ∷
    []
