-- What the Rust printed: the branch rows. Made from rows.txt by compare/table; not to be edited by hand.
-- Assumes nothing.
use Rattle.std.specs.Prelude.{List, [], ◌∷◌}
use Rattle.printed.specs.Rows.{Row, prints, answers, both, crate, straight, unknown, body, listing, repeated}

unfoldable pub branch_rows : List Row
branch_rows =
    -- Relative branches of kind 3: distance and length added in 8 bits in mode 0; whole, with `short`, in mode 1
    body crate "0000 00 02 00 0000007D 00000000 01 0300000000" (prints "jmp $+7Fh") ∷
    body straight "0000 00 02 00 0000007D 00000000 01 0300000000" (prints "jmp short $+7Fh") ∷
    body crate "0000 00 02 00 0000007E 00000000 01 0300000000" (prints "jmp $-80h") ∷
    body straight "0000 00 02 00 0000007E 00000000 01 0300000000" (prints "jmp short $+80h") ∷
    body crate "0000 00 02 00 0000007F 00000000 01 0300000000" (prints "jmp $-7Fh") ∷
    body straight "0000 00 02 00 0000007F 00000000 01 0300000000" (prints "jmp short $+81h") ∷
    body crate "0000 00 02 00 00000080 00000000 01 0300000000" (prints "jmp $-7Eh") ∷
    body straight "0000 00 02 00 00000080 00000000 01 0300000000" (prints "jmp short $-7Eh") ∷
    body crate "0000 00 02 00 FFFFFF80 00000000 01 0300000000" (prints "jmp $-7Eh") ∷
    body straight "0000 00 02 00 FFFFFF80 00000000 01 0300000000" (prints "jmp short $-7Eh") ∷
    body crate "0000 00 02 00 FFFFFF7F 00000000 01 0300000000" (prints "jmp $-7Fh") ∷
    body straight "0000 00 02 00 FFFFFF7F 00000000 01 0300000000" (prints "jmp short $+81h") ∷
    body crate "0000 00 02 00 FFFFFFFE 00000000 01 0300000000" (prints "jmp $+0") ∷
    body straight "0000 00 02 00 FFFFFFFE 00000000 01 0300000000" (prints "jmp short $+0") ∷
    body crate "0000 00 02 00 FFFFFFFD 00000000 01 0300000000" (prints "jmp $-1") ∷
    body straight "0000 00 02 00 FFFFFFFD 00000000 01 0300000000" (prints "jmp short $-1") ∷
    body crate "0000 00 02 00 00000000 00000000 01 0300000000" (prints "jmp $+2") ∷
    body straight "0000 00 02 00 00000000 00000000 01 0300000000" (prints "jmp short $+2") ∷
    body crate "0000 00 02 00 00000007 00000000 01 0300000000" (prints "jmp $+9") ∷
    body straight "0000 00 02 00 00000007 00000000 01 0300000000" (prints "jmp short $+9") ∷
    body crate "0000 00 02 00 00000008 00000000 01 0300000000" (prints "jmp $+0Ah") ∷
    body straight "0000 00 02 00 00000008 00000000 01 0300000000" (prints "jmp short $+0Ah") ∷
    body crate "0000 00 02 00 00007FFF 00000000 01 0300000000" (prints "jmp $+1") ∷
    body straight "0000 00 02 00 00007FFF 00000000 01 0300000000" (prints "jmp short $+1") ∷
    body crate "0000 00 02 00 00008000 00000000 01 0300000000" (prints "jmp $+2") ∷
    body straight "0000 00 02 00 00008000 00000000 01 0300000000" (prints "jmp short $+2") ∷
    body crate "0000 00 02 00 FFFF8000 00000000 01 0300000000" (prints "jmp $+2") ∷
    body straight "0000 00 02 00 FFFF8000 00000000 01 0300000000" (prints "jmp short $+2") ∷
    body crate "0000 00 02 00 1234567E 00000000 01 0300000000" (prints "jmp $-80h") ∷
    body straight "0000 00 02 00 1234567E 00000000 01 0300000000" (prints "jmp short $+80h") ∷
    body crate "0000 00 0F 00 00000070 00000000 01 0300000000" (prints "jmp $+7Fh") ∷
    body straight "0000 00 0F 00 00000070 00000000 01 0300000000" (prints "jmp short $+7Fh") ∷
    body crate "0000 00 0F 00 00000071 00000000 01 0300000000" (prints "jmp $-80h") ∷
    body straight "0000 00 0F 00 00000071 00000000 01 0300000000" (prints "jmp short $+80h") ∷
    body crate "0000 00 0F 00 0000007F 00000000 01 0300000000" (prints "jmp $-72h") ∷
    body straight "0000 00 0F 00 0000007F 00000000 01 0300000000" (prints "jmp short $+8Eh") ∷
    body crate "0000 00 0F 00 FFFFFF80 00000000 01 0300000000" (prints "jmp $-71h") ∷
    body straight "0000 00 0F 00 FFFFFF80 00000000 01 0300000000" (prints "jmp short $-71h") ∷
    body crate "0000 00 0F 00 FFFFFFF1 00000000 01 0300000000" (prints "jmp $+0") ∷
    body straight "0000 00 0F 00 FFFFFFF1 00000000 01 0300000000" (prints "jmp short $+0") ∷
    -- Relative branches of kind 5: in 32 bits; `near ptr` for sums from 128 to 255 in mode 0, at every sum in mode 1
    body crate "0000 00 05 00 00000014 00000000 01 0500000000" (prints "jmp $+19h") ∷
    body straight "0000 00 05 00 00000014 00000000 01 0500000000" (prints "jmp near ptr $+19h") ∷
    body crate "0000 00 05 00 0000007A 00000000 01 0500000000" (prints "jmp $+7Fh") ∷
    body straight "0000 00 05 00 0000007A 00000000 01 0500000000" (prints "jmp near ptr $+7Fh") ∷
    body both "0000 00 05 00 0000007B 00000000 01 0500000000" (prints "jmp near ptr $+80h") ∷
    body both "0000 00 05 00 0000007F 00000000 01 0500000000" (prints "jmp near ptr $+84h") ∷
    body both "0000 00 05 00 00000080 00000000 01 0500000000" (prints "jmp near ptr $+85h") ∷
    body both "0000 00 05 00 000000FA 00000000 01 0500000000" (prints "jmp near ptr $+0FFh") ∷
    body crate "0000 00 05 00 000000FB 00000000 01 0500000000" (prints "jmp $+100h") ∷
    body straight "0000 00 05 00 000000FB 00000000 01 0500000000" (prints "jmp near ptr $+100h") ∷
    body crate "0000 00 05 00 FFFFFF80 00000000 01 0500000000" (prints "jmp $-7Bh") ∷
    body straight "0000 00 05 00 FFFFFF80 00000000 01 0500000000" (prints "jmp near ptr $-7Bh") ∷
    body crate "0000 00 05 00 FFFFFF7F 00000000 01 0500000000" (prints "jmp $-7Ch") ∷
    body straight "0000 00 05 00 FFFFFF7F 00000000 01 0500000000" (prints "jmp near ptr $-7Ch") ∷
    body crate "0000 00 05 00 FFFFFFFB 00000000 01 0500000000" (prints "jmp $+0") ∷
    body straight "0000 00 05 00 FFFFFFFB 00000000 01 0500000000" (prints "jmp near ptr $+0") ∷
    body crate "0000 00 05 00 FFFFFFFA 00000000 01 0500000000" (prints "jmp $-1") ∷
    body straight "0000 00 05 00 FFFFFFFA 00000000 01 0500000000" (prints "jmp near ptr $-1") ∷
    body crate "0000 00 05 00 00000004 00000000 01 0500000000" (prints "jmp $+9") ∷
    body straight "0000 00 05 00 00000004 00000000 01 0500000000" (prints "jmp near ptr $+9") ∷
    body crate "0000 00 05 00 00000005 00000000 01 0500000000" (prints "jmp $+0Ah") ∷
    body straight "0000 00 05 00 00000005 00000000 01 0500000000" (prints "jmp near ptr $+0Ah") ∷
    body crate "0000 00 05 00 00007FFF 00000000 01 0500000000" (prints "jmp $+8004h") ∷
    body straight "0000 00 05 00 00007FFF 00000000 01 0500000000" (prints "jmp near ptr $+8004h") ∷
    body crate "0000 00 05 00 00008000 00000000 01 0500000000" (prints "jmp $+8005h") ∷
    body straight "0000 00 05 00 00008000 00000000 01 0500000000" (prints "jmp near ptr $+8005h") ∷
    body crate "0000 00 05 00 FFFF8000 00000000 01 0500000000" (prints "jmp $-7FFBh") ∷
    body straight "0000 00 05 00 FFFF8000 00000000 01 0500000000" (prints "jmp near ptr $-7FFBh") ∷
    body crate "0000 00 05 00 FFFF7FFF 00000000 01 0500000000" (prints "jmp $-7FFCh") ∷
    body straight "0000 00 05 00 FFFF7FFF 00000000 01 0500000000" (prints "jmp near ptr $-7FFCh") ∷
    body crate "0000 00 05 00 7FFFFFFA 00000000 01 0500000000" (prints "jmp $+7FFFFFFFh") ∷
    body straight "0000 00 05 00 7FFFFFFA 00000000 01 0500000000" (prints "jmp near ptr $+7FFFFFFFh") ∷
    body crate "0000 00 05 00 7FFFFFFB 00000000 01 0500000000" (prints "jmp $-80000000h") ∷
    body straight "0000 00 05 00 7FFFFFFB 00000000 01 0500000000" (prints "jmp near ptr $-80000000h") ∷
    body crate "0000 00 05 00 7FFFFFFF 00000000 01 0500000000" (prints "jmp $-7FFFFFFCh") ∷
    body straight "0000 00 05 00 7FFFFFFF 00000000 01 0500000000" (prints "jmp near ptr $-7FFFFFFCh") ∷
    body crate "0000 00 05 00 80000000 00000000 01 0500000000" (prints "jmp $-7FFFFFFBh") ∷
    body straight "0000 00 05 00 80000000 00000000 01 0500000000" (prints "jmp near ptr $-7FFFFFFBh") ∷
    -- Each branch, of either kind; operands after a branch are dropped
    body crate "0000 08 02 00 0000007E 00000000 02 0300000000 0200000000" (prints "jmp $-80h") ∷
    body straight "0000 08 02 00 0000007E 00000000 02 0300000000 0200000000" (prints "jmp short $+80h") ∷
    body both "0000 08 06 00 0000009A 00000000 01 0500000000" (prints "jmp near ptr $+0A0h") ∷
    body crate "0000 08 05 00 00000014 00000000 02 0500000000 0100000000" (prints "jmp $+19h") ∷
    body straight "0000 08 05 00 00000014 00000000 02 0500000000 0100000000" (prints "jmp near ptr $+19h") ∷
    body crate "0000 00 02 00 FFFFFFF9 00000000 01 0300000000" (prints "jmp $-5") ∷
    body straight "0000 00 02 00 FFFFFFF9 00000000 01 0300000000" (prints "jmp short $-5") ∷
    body crate "0000 04 02 00 00000018 00000000 03 0300000000 0200000000 0B00010000" (prints "lock jmp $+1Ah") ∷
    body straight "0000 04 02 00 00000018 00000000 03 0300000000 0200000000 0B00010000" (prints "lock jmp short $+1Ah") ∷
    body crate "0000 00 06 00 FEFFFFFB 00000000 04 0500000000 0B00000000 0300000000 0100020000" (prints "jmp $-0FFFFFFh") ∷
    body straight "0000 00 06 00 FEFFFFFB 00000000 04 0500000000 0B00000000 0300000000 0100020000" (prints "jmp near ptr $-0FFFFFFh") ∷
    body crate "0001 08 02 00 0000007E 00000000 02 0300000000 0200000000" (prints "call $-80h") ∷
    body straight "0001 08 02 00 0000007E 00000000 02 0300000000 0200000000" (prints "call $+80h") ∷
    body crate "0001 08 06 00 0000009A 00000000 01 0500000000" (prints "call near ptr $+0A0h") ∷
    body straight "0001 08 06 00 0000009A 00000000 01 0500000000" (prints "call $+0A0h") ∷
    body both "0001 08 05 00 00000014 00000000 02 0500000000 0100000000" (prints "call $+19h") ∷
    body crate "0002 08 02 00 0000007E 00000000 02 0300000000 0200000000" (prints "jecxz $-80h") ∷
    body straight "0002 08 02 00 0000007E 00000000 02 0300000000 0200000000" (prints "jecxz short $+80h") ∷
    body both "0002 08 06 00 0000009A 00000000 01 0500000000" (prints "jecxz near ptr $+0A0h") ∷
    body crate "0002 08 05 00 00000014 00000000 02 0500000000 0100000000" (prints "jecxz $+19h") ∷
    body straight "0002 08 05 00 00000014 00000000 02 0500000000 0100000000" (prints "jecxz near ptr $+19h") ∷
    body crate "0003 08 02 00 0000007E 00000000 02 0300000000 0200000000" (prints "loop $-80h") ∷
    body straight "0003 08 02 00 0000007E 00000000 02 0300000000 0200000000" (prints "loop short $+80h") ∷
    body both "0003 08 06 00 0000009A 00000000 01 0500000000" (prints "loop near ptr $+0A0h") ∷
    body crate "0003 08 05 00 00000014 00000000 02 0500000000 0100000000" (prints "loop $+19h") ∷
    body straight "0003 08 05 00 00000014 00000000 02 0500000000 0100000000" (prints "loop near ptr $+19h") ∷
    body crate "0004 08 02 00 0000007E 00000000 02 0300000000 0200000000" (prints "loopz $-80h") ∷
    body straight "0004 08 02 00 0000007E 00000000 02 0300000000 0200000000" (prints "loopz short $+80h") ∷
    body both "0004 08 06 00 0000009A 00000000 01 0500000000" (prints "loopz near ptr $+0A0h") ∷
    body crate "0004 08 05 00 00000014 00000000 02 0500000000 0100000000" (prints "loopz $+19h") ∷
    body straight "0004 08 05 00 00000014 00000000 02 0500000000 0100000000" (prints "loopz near ptr $+19h") ∷
    body crate "0005 08 02 00 0000007E 00000000 02 0300000000 0200000000" (prints "loopnz $-80h") ∷
    body straight "0005 08 02 00 0000007E 00000000 02 0300000000 0200000000" (prints "loopnz short $+80h") ∷
    body both "0005 08 06 00 0000009A 00000000 01 0500000000" (prints "loopnz near ptr $+0A0h") ∷
    body crate "0005 08 05 00 00000014 00000000 02 0500000000 0100000000" (prints "loopnz $+19h") ∷
    body straight "0005 08 05 00 00000014 00000000 02 0500000000 0100000000" (prints "loopnz near ptr $+19h") ∷
    body crate "0006 08 02 00 0000007E 00000000 02 0300000000 0200000000" (prints "jo $-80h") ∷
    body straight "0006 08 02 00 0000007E 00000000 02 0300000000 0200000000" (prints "jo short $+80h") ∷
    body both "0006 08 06 00 0000009A 00000000 01 0500000000" (prints "jo near ptr $+0A0h") ∷
    body crate "0006 08 05 00 00000014 00000000 02 0500000000 0100000000" (prints "jo $+19h") ∷
    body straight "0006 08 05 00 00000014 00000000 02 0500000000 0100000000" (prints "jo near ptr $+19h") ∷
    body crate "0007 08 02 00 0000007E 00000000 02 0300000000 0200000000" (prints "jno $-80h") ∷
    body straight "0007 08 02 00 0000007E 00000000 02 0300000000 0200000000" (prints "jno short $+80h") ∷
    body both "0007 08 06 00 0000009A 00000000 01 0500000000" (prints "jno near ptr $+0A0h") ∷
    body crate "0007 08 05 00 00000014 00000000 02 0500000000 0100000000" (prints "jno $+19h") ∷
    body straight "0007 08 05 00 00000014 00000000 02 0500000000 0100000000" (prints "jno near ptr $+19h") ∷
    body crate "0008 08 02 00 0000007E 00000000 02 0300000000 0200000000" (prints "jb $-80h") ∷
    body straight "0008 08 02 00 0000007E 00000000 02 0300000000 0200000000" (prints "jb short $+80h") ∷
    body both "0008 08 06 00 0000009A 00000000 01 0500000000" (prints "jb near ptr $+0A0h") ∷
    body crate "0008 08 05 00 00000014 00000000 02 0500000000 0100000000" (prints "jb $+19h") ∷
    body straight "0008 08 05 00 00000014 00000000 02 0500000000 0100000000" (prints "jb near ptr $+19h") ∷
    body crate "0009 08 02 00 0000007E 00000000 02 0300000000 0200000000" (prints "jnb $-80h") ∷
    body straight "0009 08 02 00 0000007E 00000000 02 0300000000 0200000000" (prints "jnb short $+80h") ∷
    body both "0009 08 06 00 0000009A 00000000 01 0500000000" (prints "jnb near ptr $+0A0h") ∷
    body crate "0009 08 05 00 00000014 00000000 02 0500000000 0100000000" (prints "jnb $+19h") ∷
    body straight "0009 08 05 00 00000014 00000000 02 0500000000 0100000000" (prints "jnb near ptr $+19h") ∷
    body crate "000A 08 02 00 0000007E 00000000 02 0300000000 0200000000" (prints "jz $-80h") ∷
    body straight "000A 08 02 00 0000007E 00000000 02 0300000000 0200000000" (prints "jz short $+80h") ∷
    body both "000A 08 06 00 0000009A 00000000 01 0500000000" (prints "jz near ptr $+0A0h") ∷
    body crate "000A 08 05 00 00000014 00000000 02 0500000000 0100000000" (prints "jz $+19h") ∷
    body straight "000A 08 05 00 00000014 00000000 02 0500000000 0100000000" (prints "jz near ptr $+19h") ∷
    body crate "000B 08 02 00 0000007E 00000000 02 0300000000 0200000000" (prints "jnz $-80h") ∷
    body straight "000B 08 02 00 0000007E 00000000 02 0300000000 0200000000" (prints "jnz short $+80h") ∷
    body both "000B 08 06 00 0000009A 00000000 01 0500000000" (prints "jnz near ptr $+0A0h") ∷
    body crate "000B 08 05 00 00000014 00000000 02 0500000000 0100000000" (prints "jnz $+19h") ∷
    body straight "000B 08 05 00 00000014 00000000 02 0500000000 0100000000" (prints "jnz near ptr $+19h") ∷
    body crate "000C 08 02 00 0000007E 00000000 02 0300000000 0200000000" (prints "jna $-80h") ∷
    body straight "000C 08 02 00 0000007E 00000000 02 0300000000 0200000000" (prints "jna short $+80h") ∷
    body both "000C 08 06 00 0000009A 00000000 01 0500000000" (prints "jna near ptr $+0A0h") ∷
    body crate "000C 08 05 00 00000014 00000000 02 0500000000 0100000000" (prints "jna $+19h") ∷
    body straight "000C 08 05 00 00000014 00000000 02 0500000000 0100000000" (prints "jna near ptr $+19h") ∷
    body crate "000D 08 02 00 0000007E 00000000 02 0300000000 0200000000" (prints "ja $-80h") ∷
    body straight "000D 08 02 00 0000007E 00000000 02 0300000000 0200000000" (prints "ja short $+80h") ∷
    body both "000D 08 06 00 0000009A 00000000 01 0500000000" (prints "ja near ptr $+0A0h") ∷
    body crate "000D 08 05 00 00000014 00000000 02 0500000000 0100000000" (prints "ja $+19h") ∷
    body straight "000D 08 05 00 00000014 00000000 02 0500000000 0100000000" (prints "ja near ptr $+19h") ∷
    body crate "000E 08 02 00 0000007E 00000000 02 0300000000 0200000000" (prints "js $-80h") ∷
    body straight "000E 08 02 00 0000007E 00000000 02 0300000000 0200000000" (prints "js short $+80h") ∷
    body both "000E 08 06 00 0000009A 00000000 01 0500000000" (prints "js near ptr $+0A0h") ∷
    body crate "000E 08 05 00 00000014 00000000 02 0500000000 0100000000" (prints "js $+19h") ∷
    body straight "000E 08 05 00 00000014 00000000 02 0500000000 0100000000" (prints "js near ptr $+19h") ∷
    body crate "000F 08 02 00 0000007E 00000000 02 0300000000 0200000000" (prints "jns $-80h") ∷
    body straight "000F 08 02 00 0000007E 00000000 02 0300000000 0200000000" (prints "jns short $+80h") ∷
    body both "000F 08 06 00 0000009A 00000000 01 0500000000" (prints "jns near ptr $+0A0h") ∷
    body crate "000F 08 05 00 00000014 00000000 02 0500000000 0100000000" (prints "jns $+19h") ∷
    body straight "000F 08 05 00 00000014 00000000 02 0500000000 0100000000" (prints "jns near ptr $+19h") ∷
    body crate "0010 08 02 00 0000007E 00000000 02 0300000000 0200000000" (prints "jp $-80h") ∷
    body straight "0010 08 02 00 0000007E 00000000 02 0300000000 0200000000" (prints "jp short $+80h") ∷
    body both "0010 08 06 00 0000009A 00000000 01 0500000000" (prints "jp near ptr $+0A0h") ∷
    body crate "0010 08 05 00 00000014 00000000 02 0500000000 0100000000" (prints "jp $+19h") ∷
    body straight "0010 08 05 00 00000014 00000000 02 0500000000 0100000000" (prints "jp near ptr $+19h") ∷
    body crate "0011 08 02 00 0000007E 00000000 02 0300000000 0200000000" (prints "jnp $-80h") ∷
    body straight "0011 08 02 00 0000007E 00000000 02 0300000000 0200000000" (prints "jnp short $+80h") ∷
    body both "0011 08 06 00 0000009A 00000000 01 0500000000" (prints "jnp near ptr $+0A0h") ∷
    body crate "0011 08 05 00 00000014 00000000 02 0500000000 0100000000" (prints "jnp $+19h") ∷
    body straight "0011 08 05 00 00000014 00000000 02 0500000000 0100000000" (prints "jnp near ptr $+19h") ∷
    body crate "0012 08 02 00 0000007E 00000000 02 0300000000 0200000000" (prints "jl $-80h") ∷
    body straight "0012 08 02 00 0000007E 00000000 02 0300000000 0200000000" (prints "jl short $+80h") ∷
    body both "0012 08 06 00 0000009A 00000000 01 0500000000" (prints "jl near ptr $+0A0h") ∷
    body crate "0012 08 05 00 00000014 00000000 02 0500000000 0100000000" (prints "jl $+19h") ∷
    body straight "0012 08 05 00 00000014 00000000 02 0500000000 0100000000" (prints "jl near ptr $+19h") ∷
    body crate "0013 08 02 00 0000007E 00000000 02 0300000000 0200000000" (prints "jge $-80h") ∷
    body straight "0013 08 02 00 0000007E 00000000 02 0300000000 0200000000" (prints "jge short $+80h") ∷
    body both "0013 08 06 00 0000009A 00000000 01 0500000000" (prints "jge near ptr $+0A0h") ∷
    body crate "0013 08 05 00 00000014 00000000 02 0500000000 0100000000" (prints "jge $+19h") ∷
    body straight "0013 08 05 00 00000014 00000000 02 0500000000 0100000000" (prints "jge near ptr $+19h") ∷
    body crate "0014 08 02 00 0000007E 00000000 02 0300000000 0200000000" (prints "jle $-80h") ∷
    body straight "0014 08 02 00 0000007E 00000000 02 0300000000 0200000000" (prints "jle short $+80h") ∷
    body both "0014 08 06 00 0000009A 00000000 01 0500000000" (prints "jle near ptr $+0A0h") ∷
    body crate "0014 08 05 00 00000014 00000000 02 0500000000 0100000000" (prints "jle $+19h") ∷
    body straight "0014 08 05 00 00000014 00000000 02 0500000000 0100000000" (prints "jle near ptr $+19h") ∷
    body crate "0015 08 02 00 0000007E 00000000 02 0300000000 0200000000" (prints "jg $-80h") ∷
    body straight "0015 08 02 00 0000007E 00000000 02 0300000000 0200000000" (prints "jg short $+80h") ∷
    body both "0015 08 06 00 0000009A 00000000 01 0500000000" (prints "jg near ptr $+0A0h") ∷
    body crate "0015 08 05 00 00000014 00000000 02 0500000000 0100000000" (prints "jg $+19h") ∷
    body straight "0015 08 05 00 00000014 00000000 02 0500000000 0100000000" (prints "jg near ptr $+19h") ∷
    -- CALL, which has no short form: in mode 1 no word, whatever the kind and the sum
    body both "0001 00 02 00 0000007D 00000000 01 0300000000" (prints "call $+7Fh") ∷
    body crate "0001 00 02 00 0000007E 00000000 01 0300000000" (prints "call $-80h") ∷
    body straight "0001 00 02 00 0000007E 00000000 01 0300000000" (prints "call $+80h") ∷
    body crate "0001 00 02 00 0000007F 00000000 01 0300000000" (prints "call $-7Fh") ∷
    body straight "0001 00 02 00 0000007F 00000000 01 0300000000" (prints "call $+81h") ∷
    body both "0001 00 02 00 FFFFFFFE 00000000 01 0300000000" (prints "call $+0") ∷
    body both "0001 00 02 00 FFFFFF80 00000000 01 0300000000" (prints "call $-7Eh") ∷
    body both "0001 00 05 00 FFFFFFFA 00000000 01 0500000000" (prints "call $-1") ∷
    body both "0001 00 05 00 00000014 00000000 01 0500000000" (prints "call $+19h") ∷
    body both "0001 00 05 00 0000007A 00000000 01 0500000000" (prints "call $+7Fh") ∷
    body crate "0001 00 05 00 0000007B 00000000 01 0500000000" (prints "call near ptr $+80h") ∷
    body straight "0001 00 05 00 0000007B 00000000 01 0500000000" (prints "call $+80h") ∷
    body crate "0001 00 05 00 000000FA 00000000 01 0500000000" (prints "call near ptr $+0FFh") ∷
    body straight "0001 00 05 00 000000FA 00000000 01 0500000000" (prints "call $+0FFh") ∷
    body both "0001 00 05 00 000000FB 00000000 01 0500000000" (prints "call $+100h") ∷
    body both "0001 00 05 00 7FFFFFFF 00000000 01 0500000000" (prints "call $-7FFFFFFCh") ∷
    -- Branches with another operand 0, and JMPF and CALLF, which are none: the general path
    body both "0000 00 04 00 00000000 00000000 00" (prints "jmp") ∷
    body both "0000 00 04 00 00000000 00000000 01 0100000000" (prints "jmp eax") ∷
    body both "0001 00 04 00 00000005 00000000 02 0200000000 0300000000" (prints "call eax, 5") ∷
    body both "0001 00 04 04 00000000 00000000 01 0D05000004" (prints "call dword ptr fs:[eax * 4]") ∷
    body both "0002 00 04 00 FFFFFFFF 00000000 01 0400000000" (prints "jecxz 0FFFFFFFFh") ∷
    body both "0003 00 04 00 00000080 00000000 01 0600000000" (prints "loop 80h") ∷
    body both "0006 00 04 00 0000ABCD 00000000 01 0700000000" (prints "jo 0ABCDh") ∷
    body both "000A 00 04 00 80000000 00000000 01 0800000000" (prints "jz 80000000h") ∷
    body both "0015 00 04 04 00000000 00001234 01 0A00000000" (prints "jg dword ptr [00001234h]") ∷
    body both "0000 00 05 00 00000014 00000000 01 0800000000" (prints "jmp 14h") ∷
    body both "0001 00 05 00 0000007B 00000000 01 0800000000" (prints "call 7Bh") ∷
    body both "003A 00 05 00 0000007B 00000000 01 0500000000" (prints "jmp 7Bh") ∷
    body both "003B 00 02 00 0000007E 00000000 01 0300000000" (prints "call 7Eh") ∷
    -- XBEGIN: a branch with kind 5 alone, with no word in mode 1
    body both "0016 00 06 00 00000000 00000000 01 0500000000" (prints "xbegin $+6") ∷
    body both "0016 08 06 00 00000079 00000000 01 0500000000" (prints "xbegin $+7Fh") ∷
    body crate "0016 00 06 00 0000007A 00000000 02 0500000000 0100000000" (prints "xbegin near ptr $+80h") ∷
    body straight "0016 00 06 00 0000007A 00000000 02 0500000000 0100000000" (prints "xbegin $+80h") ∷
    body crate "0016 00 06 00 000000F9 00000000 01 0500000000" (prints "xbegin near ptr $+0FFh") ∷
    body straight "0016 00 06 00 000000F9 00000000 01 0500000000" (prints "xbegin $+0FFh") ∷
    body both "0016 00 06 00 000000FA 00000000 01 0500000000" (prints "xbegin $+100h") ∷
    body both "0016 00 06 00 FFFFFFF9 00000000 01 0500000000" (prints "xbegin $-1") ∷
    body both "0016 00 02 00 0000007E 00000000 01 0300000000" (prints "xbegin 7Eh") ∷
    body both "0016 00 02 00 FFFFFFFF 00000000 01 0300000000" (prints "xbegin 0FFFFFFFFh") ∷
    body both "0016 00 04 00 00000000 00000000 00" (prints "xbegin") ∷
    body both "0016 00 04 04 00000000 00000010 01 0C06070000" (prints "xbegin dword ptr gs:[edi + 10h]") ∷
    []
