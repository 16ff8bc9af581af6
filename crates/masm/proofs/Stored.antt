-- Lines that compare/reader made, each with its reading where the instruction starts at 1000h: the Rust port of the reader, which is run
-- against an assembler, reads them as the definitions do. Written by `compare/reader stored`; not to be edited by hand.
use mathlib.Core.Path.{◌≡◌, refl}
use mathlib.Core.List.{List, [], ◌∷◌, map}
use mathlib.Core.Option.{Option, none, some}
use Prim.Native.Nat.{◌+◌}
use Prim.Native.String.{String}
use lib.ListN.{length}
use Rattle.masm.specs.Tokens.{bytes}
use Rattle.masm.specs.Operands.{Byte, Word, Dword, Qword, Tbyte, Xmmword, Zmmword, times_in, Operand, register, immediate, sized, branch, address}
use Rattle.masm.specs.Lines.{Prefix, Lock, Rep, Repe, Repne, Tail, Sae, Nearest, Down, Zero, Reading, shows, no_instruction, refused, read}

abbrev says : List Prefix → String → List Operand → Option Tail → Reading
says prefixes name operands tail = shows (record { prefixes = prefixes; mnemonic = bytes name; operands = operands; tail = tail })

abbrev Read : List (String × Reading) → Type 0
Read lines = map (λ e. read 0x1000 (bytes e.0)) lines ≡ map (λ e. e.1) lines

lines_0 : List (String × Reading)
lines_0 =
    ("mov ch, dl ; it's", says [] "mov" (register 21 ∷ register 18 ∷ []) none) ∷
    ("neg dword ptr esp", says [] "neg" (register 4 ∷ []) none) ∷
    ("vmovdqu32 41d+[ebp*(02h)+ edi]{1to8},  zmm2;;", says [] "vmovdqu32" (address none none (times_in ((5, 2) ∷ (7, 1) ∷ [])) 41 none (some 8) ∷ register 66 ∷ []) none) ∷
    ("mov ebx,(005h) + [(esp)]; [ebx], 5", says [] "mov" (register 3 ∷ address none none (times_in ((4, 1) ∷ [])) 5 none none ∷ []) none) ∷
    ("LooP $\t+  3;;", says [] "loop" (branch none 4099 ∷ []) none) ∷
    ("vmUlps zmM6, Zmm3, zmm5 {rz-saE}; [ebx], 5", says [] "vmulps" (register 70 ∷ register 67 ∷ register 69 ∷ []) (some Zero)) ∷
    ("\tLOOP SHORT $ - (0+  (007H-7H)) ", says [] "loop" (branch (some 8) 4096 ∷ []) none) ∷
    ("push - 19-012121+6h", says [] "push" (immediate 4294955162 ∷ []) none) ∷
    (" MOV ES  :\t[  EDI+ ESP\t-5] ,EAX ; it's", says [] "mov" (address none (some 24) (times_in ((7, 1) ∷ (4, 1) ∷ [])) 4294967291 none none ∷ register 0 ∷ []) none) ∷
    ("neg dword ptr ebx; [ebx], 5", says [] "neg" (register 3 ∷ []) none) ∷
    ("inc real4 ptr [(esp) +esi]; [ebx], 5", says [] "inc" (address (some Dword) none (times_in ((4, 1) ∷ (6, 1) ∷ [])) 0 none none ∷ []) none) ∷
    ("jEcxz $ -  0DH+224 ; it's", says [] "jecxz" (branch none 4307 ∷ []) none) ∷
    ("repnz movsb", says (Repne ∷ []) "movsb" [] none) ∷
    ("jMp short ", refused) ∷
    (" vaddpd zmm1 , zmm4 , zmm6\t{rn};;", refused) ∷
    (" mov ss\t: [edx][ edi]+0f0H,  edi", says [] "mov" (address none (some 26) (times_in ((2, 1) ∷ (7, 1) ∷ [])) 240 none none ∷ register 7 ∷ []) none) ∷
    ("jnb short ( $\t+02O)", says [] "jnb" (branch (some 8) 4098 ∷ []) none) ∷
    (" jmp $ -(019T)+235", says [] "jmp" (branch none 4312 ∷ []) none) ∷
    ("movh[esp -  (108+\t00100110B) +((2T))],  esp", says [] "movh" (address none none (times_in ((4, 1) ∷ [])) 4294967152 none none ∷ register 4 ∷ []) none) ∷
    ("aDdps xmm)7,\txMm7 ", refused) ∷
    ("PUsh 011", says [] "push" (immediate 11 ∷ []) none) ∷
    ("\tnot sdword ptr [\tebp*\t(10-11Q) + esp ]+ 0Bh;;", says [] "not" (address (some Dword) none (times_in ((5, 1) ∷ (4, 1) ∷ [])) 11 none none ∷ []) none) ∷
    (" vmulps zmm2  ,\tzmm5  ,\tzmm1{rd-sae}", says [] "vmulps" (register 66 ∷ register 69 ∷ register 65 ∷ []) (some Down)) ∷
    ("kandw k4, k7, k3", says [] "kandw" (register 76 ∷ register 79 ∷ register 75 ∷ []) none) ∷
    (" MOV BL,A+H; [ebx], 5", refused) ∷
    (" push -69h; [ebx], 5", says [] "push" (immediate 4294967191 ∷ []) none) ∷
    (" nOT dword Ptr Gs:\t[\tesi+ 55]; [ebx], 5", says [] "not" (address (some Dword) (some 29) (times_in ((6, 1) ∷ [])) 55 none none ∷ []) none) ∷
    (" push 009H", says [] "push" (immediate 9 ∷ []) none) ∷
    ("\tjecxz short $ +8h", says [] "jecxz" (branch (some 8) 4104 ∷ []) none) ∷
    ("\tfild reaL4 ptR [3324520333Q] ; it's", says [] "fild" (address (some Dword) none (times_in []) 458399963 none none ∷ []) none) ∷
    ("or dword ptr 01T  [ eax], 0C116h ; it's", says [] "or" (address (some Dword) none (times_in ((0, 1) ∷ [])) 1 none none ∷ immediate 49430 ∷ []) none) ∷
    ("push dword ptr ec", refused) ∷
    ("lea ebp , [edi *004]; [ebx], 5", says [] "lea" (register 5 ∷ address none none (times_in ((7, 4) ∷ [])) 0 none none ∷ []) none) ∷
    ("vaddpd zmm6 , zmm0 , zmmword ptr fs  :[ (ebp)]{k1}{1to16}", says [] "vaddpd" (register 70 ∷ register 64 ∷ address (some Zmmword) (some 28) (times_in ((5, 1) ∷ [])) 0 (some 73) (some 16) ∷ []) none) ∷
    ("repz scasb", says (Repe ∷ []) "scasb" [] none) ∷
    ("inc sword ptr [  ebx]; [ebx], 5", says [] "inc" (address (some Word) none (times_in ((3, 1) ∷ [])) 0 none none ∷ []) none) ∷
    ("\tvmovdqu32 fs:[ecx*((001B *  002h) +(0q+ 00h))]\t{1to4},\tzmm3", says [] "vmovdqu32" (address none (some 28) (times_in ((1, 2) ∷ [])) 0 none (some 4) ∷ register 67 ∷ []) none) ∷
    ("MOV ESI\t,[ESP  +  EBP][-(018 -14T)]", says [] "mov" (register 6 ∷ address none none (times_in ((4, 1) ∷ (5, 1) ∷ [])) 4294967292 none none ∷ []) none) ∷
    ("addps xmm6 , xmmword ptr [  edx *\t002]", says [] "addps" (register 54 ∷ address (some Xmmword) none (times_in ((2, 2) ∷ [])) 0 none none ∷ []) none) ∷
    ("\tREPNE SCASB", says (Repne ∷ []) "scasb" [] none) ∷
    []

read_0 : Read lines_0
unfolding read lines_0
read_0 = refl

lines_1 : List (String × Reading)
lines_1 =
    (" mov bl,\t007T", says [] "mov" (register 19 ∷ immediate 7 ∷ []) none) ∷
    ("\txchg esp , es :[ (62q  -57Q) *edx][001110100b]", says [] "xchg" (register 4 ∷ address none (some 24) (times_in ((2, 3) ∷ [])) 116 none none ∷ []) none) ∷
    ("push dword ptr edx ; it's", says [] "push" (register 2 ∷ []) none) ∷
    ("\tAND ECX\t,-  (0111223O) * 3", says [] "and" (register 1 ∷ immediate 4294854727 ∷ []) none) ∷
    ("mov [  ecx],esp;;", says [] "mov" (address none none (times_in ((1, 1) ∷ [])) 0 none none ∷ register 4 ∷ []) none) ∷
    ("fld sqWOrD ptr [3478h  + 69]", says [] "fld" (address (some Qword) none (times_in []) 13501 none none ∷ []) none) ∷
    ("MOV CH,\t7D", says [] "mov" (register 21 ∷ immediate 7 ∷ []) none) ∷
    (" inc byte ptr [ (((02)*2)*  esi)-0EDh] ", says [] "inc" (address (some Byte) none (times_in ((6, 4) ∷ [])) 4294967059 none none ∷ []) none) ∷
    (" mov al ,\tch", says [] "mov" (register 16 ∷ register 21 ∷ []) none) ∷
    ("ush -148*3", says [] "ush" (immediate 4294966852 ∷ []) none) ∷
    ("JECXZ $ -\t(77H+\t88H)\t+14", says [] "jecxz" (branch none 3855 ∷ []) none) ∷
    ("\tcall near Ptr $- 05h", says [] "call" (branch (some 32) 4091 ∷ []) none) ∷
    ("JmP shOrt [ebp] [-((3Ch)  -(17+ 011000B))]", refused) ∷
    ("mov esi\t,\tcs:\t0ebh+[ ecx] ", says [] "mov" (register 6 ∷ address none (some 25) (times_in ((1, 1) ∷ [])) 235 none none ∷ []) none) ∷
    (" call short $ +010h ", says [] "call" (branch (some 8) 4112 ∷ []) none) ∷
    ("PUSH 16Q", says [] "push" (immediate 14 ∷ []) none) ∷
    ("movAPS XMM3 , xMm4", says [] "movaps" (register 51 ∷ register 52 ∷ []) none) ∷
    (" add eSi , 0047 -006B7BF3A9H", says [] "add" (register 6 ∷ immediate 2491681926 ∷ []) none) ∷
    (" push (11h*\t5); [ebx], 5", says [] "push" (immediate 85 ∷ []) none) ∷
    ("\t+ld sqword ptr ss : [\tesp] [-((101111B -2fh))][(013)];;", refused) ∷
    ("\tAdd ECx:, -  0135  +\t08", refused) ∷
    ("lea esi , ds  :-  007fffH ", says [] "lea" (register 6 ∷ address none (some 27) (times_in []) 4294934529 none none ∷ []) none) ∷
    ("\tADD ESP  ,[  EDI] +((005H)+\t11H) ", says [] "add" (register 4 ∷ address none none (times_in ((7, 1) ∷ [])) 22 none none ∷ []) none) ∷
    ("VaDdpd zmM6  ,\tZMM4  ,\tZmmwOrD p+r ss\t:[\teDx]  {1to16}", refused) ∷
    (" jz $", says [] "jz" (branch none 4096 ∷ []) none) ∷
    ("call near ptr ($+\t(008h\t-  11y)) ; it's", says [] "call" (branch (some 32) 4101 ∷ []) none) ∷
    ("\tmov [esp]  [\teax * ((011Y){)] ,  ebx", refused) ∷
    ("fAdD dword ptR [ecx *  ((100b)\t*\t0*0B)]", says [] "fadd" (address (some Dword) none (times_in ((1, 0) ∷ [])) 0 none none ∷ []) none) ∷
    ("mov ecx\t,[ebx[-012]; [ebx], 5", refused) ∷
    (" ", no_instruction) ∷
    (" vmovapd [ ebp  *  1000Y+esi\t]\t+0dh ,\tzmm7 ; it's", says [] "vmovapd" (address none none (times_in ((5, 8) ∷ (6, 1) ∷ [])) 13 none none ∷ register 71 ∷ []) none) ∷
    (" jmp short ($  + 0024Q); [ebx], 5", says [] "jmp" (branch (some 8) 4116 ∷ []) none) ∷
    (" jmp near ptr -043610;;", says [] "jmp" (sized 32 4294923686 ∷ []) none) ∷
    (" ADC EDI,EDI", says [] "adc" (register 7 ∷ register 7 ∷ []) none) ∷
    ("\tmov cs: [ebp][ ebp  * 02- 066h],  ebp; [ebx], 5", says [] "mov" (address none (some 25) (times_in ((5, 1) ∷ (5, 2) ∷ [])) 4294967194 none none ∷ register 5 ∷ []) none) ∷
    (" xChg E+bp,[Ecx]", refused) ∷
    ("\tOR D)WORD PTR CS\t:  [-3FH]  ,5B33E782H", refused) ∷
    (" add ecx,  ds:[ ebp]", says [] "add" (register 1 ∷ address none (some 27) (times_in ((5, 1) ∷ [])) 0 none none ∷ []) none) ∷
    ("add edx  ,[-035071255145O]", says [] "add" (register 2 ∷ address none none (times_in []) 387622299 none none ∷ []) none) ∷
    (" FLD SQWORD PTR [\tESP +\tEDI+(1H)]", says [] "fld" (address (some Qword) none (times_in ((4, 1) ∷ (7, 1) ∷ [])) 1 none none ∷ []) none) ∷
    []

read_1 : Read lines_1
unfolding read lines_1
read_1 = refl

lines_2 : List (String × Reading)
lines_2 =
    (" mov esi\t,000*1", says [] "mov" (register 6 ∷ immediate 0 ∷ []) none) ∷
    (" mov ebx ,\t[ ebp + esi]", says [] "mov" (register 3 ∷ address none none (times_in ((5, 1) ∷ (6, 1) ∷ [])) 0 none none ∷ []) none) ∷
    ("\tLOCK INC DWORD PTR FS\t:  [ EBX*1H]\t[EBP -5H]; [ebx], 5", says (Lock ∷ []) "inc" (address (some Dword) (some 28) (times_in ((3, 1) ∷ (5, 1) ∷ [])) 4294967291 none none ∷ []) none) ∷
    ("repz stosd ", says (Repe ∷ []) "stosd" [] none) ∷
    (" mov edi\t,\t7q+  0D6C4h +(13Q\t) + 10100101b +007t\t* 1", says [] "mov" (register 7 ∷ immediate 55170 ∷ []) none) ∷
    ("iNc BYtE ptR [ebx+ESp]\t+0017O", says [] "inc" (address (some Byte) none (times_in ((3, 1) ∷ (4, 1) ∷ [])) 15 none none ∷ []) none) ∷
    ("jmp near ptr  ; it's", refused) ∷
    (" INc dword Ptr [  esI]", says [] "inc" (address (some Dword) none (times_in ((6, 1) ∷ [])) 0 none none ∷ []) none) ∷
    (" NOT SDWORDPTR [ EAX]", refused) ∷
    ("\tjp near ptr ;;", refused) ∷
    ("jmp short dword ptr $; [ebx], 5", refused) ∷
    ("\tpush -125+ (127)*0", says [] "push" (immediate 4294967171 ∷ []) none) ∷
    ("vaddPd zMM6 ,zMm7 ,zMm2  {rn}", refused) ∷
    ("mov ch ,bl", says [] "mov" (register 21 ∷ register 19 ∷ []) none) ∷
    ("not dword ptr [016d]", says [] "not" (address (some Dword) none (times_in []) 16 none none ∷ []) none) ∷
    ("m:v bh,Cl; [ebx], 5", refused) ∷
    ("\tmovaps xmm0 ,  xmm7", says [] "movaps" (register 48 ∷ register 55 ∷ []) none) ∷
    (" pUSh DWord ptr eSi ", says [] "push" (register 6 ∷ []) none) ∷
    ("jz 227 + $", says [] "jz" (branch none 4323 ∷ []) none) ∷
    ("moV ebx ,\t6H", says [] "mov" (register 3 ∷ immediate 6 ∷ []) none) ∷
    ("mov [esi+  ecx  + 9]  ,eax", says [] "mov" (address none none (times_in ((6, 1) ∷ (1, 1) ∷ [])) 9 none none ∷ register 0 ∷ []) none) ∷
    ("push (10)\t* 1+ 002", says [] "push" (immediate 12 ∷ []) none) ∷
    ("call $\t- (0h)", says [] "call" (branch none 4096 ∷ []) none) ∷
    ("VMULPS ZMM0, ZMM5, ZMM7 {SAE}", says [] "vmulps" (register 64 ∷ register 69 ∷ register 71 ∷ []) (some Sae)) ∷
    ("inc sbyte ptr [ 004* esp - 0ef77275h + 8H];;", says [] "inc" (address (some Byte) none (times_in ((4, 4) ∷ [])) 4043869587 none none ∷ []) none) ∷
    ("add Ecx,[Ebx  +\teBx *002]", says [] "add" (register 1 ∷ address none none (times_in ((3, 1) ∷ (3, 2) ∷ [])) 0 none none ∷ []) none) ∷
    ("fmul  st ,\tst(5); [ebx], 5", says [] "fmul" (register 32 ∷ register 37 ∷ []) none) ∷
    (" vaddPd zmm6,zmm4,zmmWord ptR [-15O];;", says [] "vaddpd" (register 70 ∷ register 68 ∷ address (some Zmmword) none (times_in []) 4294967283 none none ∷ []) none) ∷
    (" call near ptr (  $\t- (61 + 355O))", says [] "call" (branch (some 32) 3798 ∷ []) none) ∷
    ("\tvmulps zmm5 , zmm4 , zmm1\t{rn}", refused) ∷
    ("add eax,  12h  +  [ecx * (1h * 2h)]", says [] "add" (register 0 ∷ address none none (times_in ((1, 2) ∷ [])) 18 none none ∷ []) none) ∷
    ("PUSH DWORD PTR EDX", says [] "push" (register 2 ∷ []) none) ∷
    (" neg dword ptr ecx", says [] "neg" (register 1 ∷ []) none) ∷
    ("addps xmm7  , xmm7 ; it's", says [] "addps" (register 55 ∷ register 55 ∷ []) none) ∷
    (" xchg esi,  fs:  0011b\t+ FFFFFFFFh", refused) ∷
    ("neg dw*rd ptr ecx", refused) ∷
    (" push -110 ", says [] "push" (immediate 4294967186 ∷ []) none) ∷
    ("mov ebp, 0ffh +-  17 +000h", says [] "mov" (register 5 ∷ immediate 238 ∷ []) none) ∷
    ("vmovapd 1010B  [(ebx*\t2h)+ esi] {k2}, zmm3", says [] "vmovapd" (address none none (times_in ((3, 2) ∷ (6, 1) ∷ [])) 10 (some 74) none ∷ register 67 ∷ []) none) ∷
    ("mov word ptr [esi+\tesi],  19d(3o) ", says [] "mov" (address (some Word) none (times_in ((6, 1) ∷ (6, 1) ∷ [])) 0 none none ∷ immediate 22 ∷ []) none) ∷
    []

read_2 : Read lines_2
unfolding read lines_2
read_2 = refl

lines_3 : List (String × Reading)
lines_3 =
    (" fld real10 ptr 39t [ecx+ esp]; [ebx], 5", says [] "fld" (address (some Tbyte) none (times_in ((1, 1) ∷ (4, 1) ∷ [])) 39 none none ∷ []) none) ∷
    ("push 002588203456D -\t-\t(0FFFFFFFFh) ", says [] "push" (immediate 2588203455 ∷ []) none) ∷
    ("mov ecx,[(edi  *  02)][\tedx]", says [] "mov" (register 1 ∷ address none none (times_in ((7, 2) ∷ (2, 1) ∷ [])) 0 none none ∷ []) none) ∷
    ("\tmov ecX ,  0FFFFFFFFh  + [ ebp][ eBx] ", says [] "mov" (register 1 ∷ address none none (times_in ((5, 1) ∷ (3, 1) ∷ [])) 4294967295 none none ∷ []) none) ∷
    ("xor eax  ,( 7h\t)", says [] "xor" (register 0 ∷ immediate 7 ∷ []) none) ∷
    ("jmp sHoRT ptr $+( 00159d\t) ", refused) ∷
    (" INC W{RD PTR ES :04F94H + [ EAX*8]", refused) ∷
    ("or dword ptr 13h+\t[eax],(0045868) *4", says [] "or" (address (some Dword) none (times_in ((0, 1) ∷ [])) 19 none none ∷ immediate 183472 ∷ []) none) ∷
    ("\tVMOVUPS [ (EAX)  + ESI *3  +7FFFH],ZMM(", refused) ∷
    ("inc dword ptr esp;;", says [] "inc" (register 4 ∷ []) none) ∷
    (" test edx  ,eax ", says [] "test" (register 2 ∷ register 0 ∷ []) none) ∷
    ("vaddps zmm4 ,  zmm6 ,  [ ebx\t+esi\t*4\t]+  (011){rd-sae} ", says [] "vaddps" (register 68 ∷ register 70 ∷ address none none (times_in ((3, 1) ∷ (6, 4) ∷ [])) 11 none none ∷ []) (some Down)) ∷
    ("moV EDi\t,\t[eSi\t+  eaX-18] ; it's", says [] "mov" (register 7 ∷ address none none (times_in ((6, 1) ∷ (0, 1) ∷ [])) 4294967278 none none ∷ []) none) ∷
    ("push 110101b ", says [] "push" (immediate 53 ∷ []) none) ∷
    ("fLd real10 ptR cs\t:[esI+ (ebP)]  [((16+ 10011000Y) - 0040)]", says [] "fld" (address (some Tbyte) (some 25) (times_in ((6, 1) ∷ (5, 1) ∷ [])) 128 none none ∷ []) none) ∷
    ("vaddpd zmm5,zmm0,zmm1{sae}; [ebx], 5", says [] "vaddpd" (register 69 ∷ register 64 ∷ register 65 ∷ []) (some Sae)) ∷
    (" lOCk Inc real4 Ptr [ (1000B) *eCX] ", says (Lock ∷ []) "inc" (address (some Dword) none (times_in ((1, 8) ∷ [])) 0 none none ∷ []) none) ∷
    ("ub Esp\t, 0011h * 8 ", says [] "ub" (register 4 ∷ immediate 136 ∷ []) none) ∷
    (" calL 002F2Ch+ $", says [] "call" (branch none 16172 ∷ []) none) ∷
    (" lOck iNC dwOrd PTR [ecx+eCX*  04Q]", says (Lock ∷ []) "inc" (address (some Dword) none (times_in ((1, 1) ∷ (1, 4) ∷ [])) 0 none none ∷ []) none) ∷
    ("PUSH SDWO5RD PTR [12H]", refused) ∷
    (" vmulps zmm6 ,\tzmm3 ,\tzmm2  {rz-sae}", says [] "vmulps" (register 70 ∷ register 67 ∷ register 66 ∷ []) (some Zero)) ∷
    ("\tf$ild real4 ptr ss:-0601735387;;", says [] "f$ild" (address (some Dword) (some 26) (times_in []) 3693231909 none none ∷ []) none) ∷
    (" mo, dword ptr [esp +\tebx\t*2h][(0d8H)] ,  215*\t8", refused) ∷
    ("mov ah,007", says [] "mov" (register 20 ∷ immediate 7 ∷ []) none) ∷
    ("push -\t001001Y ", says [] "push" (immediate 4294967287 ∷ []) none) ∷
    ("mov cl,dl", says [] "mov" (register 17 ∷ register 18 ∷ []) none) ∷
    ("0nb $-0Bh ; it's", refused) ∷
    ("fadd sdword ptr [  (ebx)\t-58046]", says [] "fadd" (address (some Dword) none (times_in ((3, 1) ∷ [])) 4294909250 none none ∷ []) none) ∷
    (" JnB sHoRt $ +06161h", says [] "jnb" (branch (some 8) 29025 ∷ []) none) ∷
    ("mov esp\t,(-0E6h) * 0 ; it's", says [] "mov" (register 4 ∷ immediate 0 ∷ []) none) ∷
    ("\tinc sbyte Ptr es  :  [  (EbX)]\t[ (eBX *01O) - 0014Q]", says [] "inc" (address (some Byte) (some 24) (times_in ((3, 1) ∷ (3, 1) ∷ [])) 4294967284 none none ∷ []) none) ∷
    ("repz movsb;;", says (Repe ∷ []) "movsb" [] none) ∷
    (" FADD DWORD PTR DS:\t[ESI]; [ebx], 5", says [] "fadd" (address (some Dword) (some 27) (times_in ((6, 1) ∷ [])) 0 none none ∷ []) none) ∷
    ("call 03+  $; [ebx], 5", says [] "call" (branch none 4099 ∷ []) none) ∷
    ("\tJECXZ SHORT ($)+ 016", says [] "jecxz" (branch (some 8) 4112 ∷ []) none) ∷
    (" calL sHort (\t$  + (01D  +\t001T));;", says [] "call" (branch (some 8) 4098 ∷ []) none) ∷
    ("\tVMOVAPD 124438899\t+ [ (0048- 45) * EBP+ECX]  ,\tZMM1", says [] "vmovapd" (address none none (times_in ((5, 3) ∷ (1, 1) ∷ [])) 124438899 none none ∷ register 65 ∷ []) none) ∷
    (" fmul st ,st(0) ; it's", says [] "fmul" (register 32 ∷ register 32 ∷ []) none) ∷
    (" jmp short $", says [] "jmp" (branch (some 8) 4096 ∷ []) none) ∷
    []

read_3 : Read lines_3
unfolding read lines_3
read_3 = refl

lines_4 : List (String × Reading)
lines_4 =
    (" Repne StosD;;", says (Repne ∷ []) "stosd" [] none) ∷
    ("\tpush dwor: ptr esi", refused) ∷
    ("te+st esp,ebp ; it's", refused) ∷
    ("pUsh 0039c7h*  6", says [] "push" (immediate 88746 ∷ []) none) ∷
    ("jmp ($\t-\t(0025T-25))", says [] "jmp" (branch none 4096 ∷ []) none) ∷
    ("\tJMP NEAR PTR $  -065535D", says [] "jmp" (branch (some 32) 4294905857 ∷ []) none) ∷
    (" MOV EAX , DS :[ EDI] [((50H) -0025D)]", says [] "mov" (register 0 ∷ address none (some 27) (times_in ((7, 1) ∷ [])) 55 none none ∷ []) none) ∷
    (" neg dword ptr esp", says [] "neg" (register 4 ∷ []) none) ∷
    (" mov ebx  ,40d-( 0D7h\t) +  008  -  0C27Bh", says [] "mov" (register 3 ∷ immediate 4294917342 ∷ []) none) ∷
    ("jm-p short 049ECh  - 072h", refused) ∷
    (" vmulps zmm2,zmm1,zmm1{rn-sae}", says [] "vmulps" (register 66 ∷ register 65 ∷ register 65 ∷ []) (some Nearest)) ∷
    ("mov ebp,  4", says [] "mov" (register 5 ∷ immediate 4 ∷ []) none) ∷
    ("VADDPS ZMM3 {K4} ,\tZMM6\t{RN-SAE} ,\tZMM2;;", refused) ∷
    (" rep scasb", says (Rep ∷ []) "scasb" [] none) ∷
    (" Inc wOrD pTr [(08h  +06h)]", says [] "inc" (address (some Word) none (times_in []) 14 none none ∷ []) none) ∷
    (" INC SBYTE PTR [  ECX -\t07FFFH] ; it's", says [] "inc" (address (some Byte) none (times_in ((1, 1) ∷ [])) 4294934529 none none ∷ []) none) ∷
    ("{Mov EsP ,3636328516; [ebx], 5", refused) ∷
    ("vmovapd 018  + [esp]\t[ ebp *02o]{k2}{1to16},  zmm1; [ebx], 5", says [] "vmovapd" (address none none (times_in ((4, 1) ∷ (5, 2) ∷ [])) 18 (some 74) (some 16) ∷ register 65 ∷ []) none) ∷
    (" Xchg eax,5\t[ EdI*  100Y] [4294967295]", says [] "xchg" (register 0 ∷ address none none (times_in ((7, 4) ∷ [])) 4 none none ∷ []) none) ∷
    (" PUSH 0O\t*8;;", says [] "push" (immediate 0 ∷ []) none) ∷
    (" puSh 001900963953d ", says [] "push" (immediate 1900963953 ∷ []) none) ∷
    ("VADDPD ZMM7 ,  ZMM0 ,  QWORD PTR GS:3214671$066Q+[4H* ECX]", refused) ∷
    ("mov eax  , 009h ", says [] "mov" (register 0 ∷ immediate 9 ∷ []) none) ∷
    ("mov gs:[ esi+edi*((1h\t+ 111B) +00)],edi", says [] "mov" (address none (some 29) (times_in ((6, 1) ∷ (7, 8) ∷ [])) 0 none none ∷ register 7 ∷ []) none) ∷
    (" add eCx  , 5T+  [ Ebp\t- 100H]", says [] "add" (register 1 ∷ address none none (times_in ((5, 1) ∷ [])) 4294967045 none none ∷ []) none) ∷
    ("push 220O ", says [] "push" (immediate 144 ∷ []) none) ∷
    (" inc sbyte ptr [ eax]", says [] "inc" (address (some Byte) none (times_in ((0, 1) ∷ [])) 0 none none ∷ []) none) ∷
    ("PUSH DWORD PTR ESP", says [] "push" (register 4 ∷ []) none) ∷
    (" inc dword ptr esi", says [] "inc" (register 6 ∷ []) none) ∷
    (" vaddpd zmm4 , zmm0 , zmm2", says [] "vaddpd" (register 68 ∷ register 64 ∷ register 66 ∷ []) none) ∷
    ("jmp ($)\t-16 ; it's", says [] "jmp" (branch none 4080 ∷ []) none) ∷
    (" inc dword ptr [  edx\t+  0011H]", says [] "inc" (address (some Dword) none (times_in ((2, 1) ∷ [])) 17 none none ∷ []) none) ∷
    ("", no_instruction) ∷
    ("test ecx\t,edx ", says [] "test" (register 1 ∷ register 2 ∷ []) none) ∷
    ("INC SWORD PTR [ EBX]\t[8*ESI]", says [] "inc" (address (some Word) none (times_in ((3, 1) ∷ (6, 8) ∷ [])) 0 none none ∷ []) none) ∷
    (" fadd dword ptr [\tesp\t] [  edi+ 32768T\t-6BF1h]", says [] "fadd" (address (some Dword) none (times_in ((4, 1) ∷ (7, 1) ∷ [])) 5135 none none ∷ []) none) ∷
    ("fmul  st  , st(7) ; it's", says [] "fmul" (register 32 ∷ register 39 ∷ []) none) ∷
    (" fadd dword ptr (73h\t+  08Dh) [edi]; [ebx], 5", says [] "fadd" (address (some Dword) none (times_in ((7, 1) ∷ [])) 256 none none ∷ []) none) ∷
    (" repnz scasb;;", says (Repne ∷ []) "scasb" [] none) ∷
    ("LEA EDI , 09+ [ EBX][04H]", says [] "lea" (register 7 ∷ address none none (times_in ((3, 1) ∷ [])) 13 none none ∷ []) none) ∷
    []

read_4 : Read lines_4
unfolding read lines_4
read_4 = refl

lines_5 : List (String × Reading)
lines_5 =
    (" push 03 ; it's", says [] "push" (immediate 3 ∷ []) none) ∷
    (" mov word ptr gs:[eax] , (\t35691D  )", says [] "mov" (address (some Word) (some 29) (times_in ((0, 1) ∷ [])) 0 none none ∷ immediate 35691 ∷ []) none) ∷
    (" CMP EDX,007D", says [] "cmp" (register 2 ∷ immediate 7 ∷ []) none) ∷
    (" fadd st\t,\tst(2) ; it's", says [] "fadd" (register 32 ∷ register 34 ∷ []) none) ∷
    ("\tvaddpd zmm2, zmm6, zmm6  {rn};;", refused) ∷
    ("FiLD SdWoRd PtR Ss:[eSP\t*2Q+(esp)-  3H];;", says [] "fild" (address (some Dword) (some 26) (times_in ((4, 2) ∷ (4, 1) ∷ [])) 4294967293 none none ∷ []) none) ∷
    ("or word ptr ds\t:\t[1011001001001100b] ,\t65535  *6", says [] "or" (address (some Word) (some 27) (times_in []) 45644 none none ∷ immediate 393210 ∷ []) none) ∷
    (" jnb short $  +(0fH) ", says [] "jnb" (branch (some 8) 4111 ∷ []) none) ∷
    ("call short$+003 -10;;", refused) ∷
    ("vaddpd zmm6\t,zmm3\t,zmmword ptr (21q) [  esi]  {k0};;", says [] "vaddpd" (register 70 ∷ register 67 ∷ address (some Zmmword) none (times_in ((6, 1) ∷ [])) 17 (some 72) none ∷ []) none) ∷
    ("\tvaddps zmm2 {1TO8}\t, Zmm5{RN-SAe}\t, zmM3 ", refused) ∷
    ("jnb short $ - 017777o\t+66; [ebx], 5", says [] "jnb" (branch (some 8) 4294963267 ∷ []) none) ∷
    ("jnb $  - 0d5beh;;", says [] "jnb" (branch none 4294916674 ∷ []) none) ∷
    ("push 14 + 032881+ 1111010100101010b-  0Dh*\t1;;", says [] "push" (immediate 95644 ∷ []) none) ∷
    ("\tCALL SHORT $+(105Q) -1", says [] "call" (branch (some 8) 4164 ∷ []) none) ∷
    ("\tjnB $\t+(00166D)", says [] "jnb" (branch none 4262 ∷ []) none) ∷
    ("o dword ptr [esi+ esp] ,(0D4h) * 2", says [] "o" (address (some Dword) none (times_in ((6, 1) ∷ (4, 1) ∷ [])) 0 none none ∷ immediate 424 ∷ []) none) ∷
    ("push dword ptr [ebx  + 65535]; [ebx], 5", says [] "push" (address (some Dword) none (times_in ((3, 1) ∷ [])) 65535 none none ∷ []) none) ∷
    ("\txchg ebx,ebp;;", says [] "xchg" (register 3 ∷ register 5 ∷ []) none) ∷
    ("  addps xmm7 ,\toword ptr [ esi+esp* 003  +  10010010001101y]", says [] "addps" (register 55 ∷ address (some Xmmword) none (times_in ((6, 1) ∷ (4, 3) ∷ [])) 9357 none none ∷ []) none) ∷
    (" Neg dwOrd ptr ESp", says [] "neg" (register 4 ∷ []) none) ∷
    ("pu$sh (  -  03793092962d+0012d )", says [] "pu$sh" (immediate 501874346 ∷ []) none) ∷
    ("fld real4 ptr [edx+ 9H];;", says [] "fld" (address (some Dword) none (times_in ((2, 1) ∷ [])) 9 none none ∷ []) none) ∷
    ("\tvaddps zmm4 {k1}  ,\tzmm1 {ru-sae}  ,\tzm2", refused) ∷
    ("addps xmm0,oword ptr (00223) [edx *\t04] ; it's", says [] "addps" (register 48 ∷ address (some Xmmword) none (times_in ((2, 4) ∷ [])) 223 none none ∷ []) none) ∷
    ("kmovd esi,  k0 ", says [] "kmovd" (register 6 ∷ register 72 ∷ []) none) ∷
    (" movaps xm54,\toword ptr ss:258\t+\t105d", refused) ∷
    ("mov ecx , - - 4294967295  +0Dh\t+  32768", says [] "mov" (register 1 ∷ immediate 32780 ∷ []) none) ∷
    ("push - 07h *$2 ", refused) ∷
    ("repz scas*b", refused) ∷
    ("jmp (\t$  -  0010O) ", says [] "jmp" (branch none 4088 ∷ []) none) ∷
    ("JMP ($) -1H", says [] "jmp" (branch none 4095 ∷ []) none) ∷
    ("\tvaddps zmm7\t, zmm2\t, gs:1001B{k8}{ru-sae}", refused) ∷
    ("\trepne stosd", says (Repne ∷ []) "stosd" [] none) ∷
    (" fld SQworD ptR ss: 0D0ceH;;", says [] "fld" (address (some Qword) (some 26) (times_in []) 53454 none none ∷ []) none) ∷
    (" inc dword ptr ecx", says [] "inc" (register 1 ∷ []) none) ∷
    (" mov word ptr [ (3H\t+001)*  eax  +es], -0A6h ", says [] "mov" (address (some Word) none (times_in ((0, 4) ∷ (24, 1) ∷ [])) 0 none none ∷ immediate 4294967130 ∷ []) none) ∷
    (" vmovdqu32 [  ecx+  ebp ]+  006h{1to0x4},\tzmm1", refused) ∷
    ("\tpush 025*5-( 0H)-013q+ 11O; [ebx], 5", says [] "push" (immediate 123 ∷ []) none) ∷
    ("mov [(ecx)][\tedX]  ,es", says [] "mov" (address none none (times_in ((1, 1) ∷ (2, 1) ∷ [])) 0 none none ∷ register 24 ∷ []) none) ∷
    []

read_5 : Read lines_5
unfolding read lines_5
read_5 = refl

-- a second hold: how many there are
stored_lines : length lines_0 + length lines_1 + length lines_2 + length lines_3 + length lines_4 + length lines_5 ≡ 240
unfolding lines_0 lines_1 lines_2 lines_3 lines_4 lines_5
stored_lines = refl
