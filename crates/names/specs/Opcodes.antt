-- Document 01, "Opcode numbers": each opcode's name, and the arm of document 000 that prints it.
-- Assumes nothing.
use Rattle.std.specs.Prelude.{List, [], ◌∷◌, map, ℕ, get_or}
use Prim.Native.String.{String}
use Rattle.text.specs.Words.{bytes}
use Rattle.names.specs.declared.Arm.{Arm}
use Rattle.names.specs.declared.Arm.TheVariants.{
  General,
  Qword,
  Mmword,
  Jmpf,
  Callf,
  Lds,
  Movs,
  Cmps,
  Singles,
  Doubles,
  Branch,
  Call,
  Xbegin,
  Feni,
  Fdisi,
  Fsetpm,
  Hreset,
  Lsl,
  Prefetch,
  Sgdt,
  Lss,
  Nop,
  ScatterDword,
  ScatterQword,
  Monitor,
  Mwait,
  Invlpgb,
  Rdpru,
  Scas,
  Lods,
  Psmash,
  Pvalidate,
  Incssp,
  Wrss,
  Pblendvb,
  Lea,
  Pushf,
  Aam,
  Fcom,
  Fadd,
  Fbld,
  Fbstp,
}

-- a row of the table: "The printed name is the Rust name in lower case", and the arm
pub record Opcode : Type 0 where
  pub name : List ℕ
  pub arm : Arm

abbrev pub op : String → Arm → Opcode
op name arm = record { name = bytes name; arm = arm }

-- the opcodes, "in order from 0"
unfoldable pub opcodes : List Opcode
opcodes =
    op "jmp" Branch ∷ op "call" Call ∷ op "jecxz" Branch ∷ op "loop" Branch ∷ op "loopz" Branch ∷ op "loopnz" Branch ∷ op "jo" Branch ∷
    op "jno" Branch ∷ op "jb" Branch ∷ op "jnb" Branch ∷ op "jz" Branch ∷ op "jnz" Branch ∷ op "jna" Branch ∷ op "ja" Branch ∷
    op "js" Branch ∷ op "jns" Branch ∷ op "jp" Branch ∷ op "jnp" Branch ∷ op "jl" Branch ∷ op "jge" Branch ∷ op "jle" Branch ∷
    op "jg" Branch ∷
    op "xbegin" Xbegin ∷
    op "mov" General ∷ op "add" General ∷ op "or" General ∷ op "adc" General ∷ op "sbb" General ∷ op "and" General ∷ op "sub" General ∷
    op "xor" General ∷ op "cmp" General ∷ op "test" General ∷ op "push" General ∷ op "pop" General ∷ op "inc" General ∷ op "dec" General ∷
    op "neg" General ∷ op "not" General ∷ op "fxsave" General ∷ op "fxrstor" General ∷ op "movaps" General ∷
    op "movq" Qword ∷ op "movlps" Qword ∷ op "movhps" Qword ∷ op "movlpd" Qword ∷ op "movhpd" Qword ∷ op "movntsd" Qword ∷ op "cvtsi2ss" Qword ∷
    op "cvtsi2sd" Qword ∷
    op "cvtsd2si" Mmword ∷ op "cvttsd2si" Mmword ∷
    op "pextrq" Qword ∷ op "pinsrq" Qword ∷
    op "lds" Lds ∷ op "les" Lds ∷ op "lfs" Lds ∷ op "lgs" Lds ∷
    op "jmpf" Jmpf ∷
    op "callf" Callf ∷
    op "movs" Movs ∷
    op "cmps" Cmps ∷ op "ins" Cmps ∷ op "outs" Cmps ∷
    op "hreset" Hreset ∷
    op "lsl" Lsl ∷
    op "prefetchnta" Prefetch ∷ op "prefetch0" Prefetch ∷ op "prefetch1" Prefetch ∷ op "prefetch2" Prefetch ∷ op "prefetchw" Prefetch ∷
    op "invlpg" Prefetch ∷ op "clflush" Prefetch ∷ op "clflushopt" Prefetch ∷ op "clwb" Prefetch ∷
    op "sgdt" Sgdt ∷ op "sidt" Sgdt ∷ op "lgdt" Sgdt ∷ op "lidt" Sgdt ∷
    op "lss" Lss ∷
    op "nop" Nop ∷
    op "monitor" Monitor ∷ op "monitorx" Monitor ∷ op "mwaitx" Monitor ∷
    op "mwait" Mwait ∷
    op "invlpgb" Invlpgb ∷
    op "rdpru" Rdpru ∷
    op "scas" Scas ∷ op "stos" Scas ∷
    op "lods" Lods ∷
    op "psmash" Psmash ∷
    op "pvalidate" Pvalidate ∷ op "rmpadjust" Pvalidate ∷ op "rmpupdate" Pvalidate ∷
    op "incssp" Incssp ∷
    op "wrss" Wrss ∷ op "wruss" Wrss ∷
    op "pblendvb" Pblendvb ∷ op "blendvps" Pblendvb ∷ op "blendvpd" Pblendvb ∷ op "sha256rnds2" Pblendvb ∷
    op "lea" Lea ∷
    op "pushf" Pushf ∷
    op "aam" Aam ∷ op "aad" Aam ∷
    op "feni8087_nop" Feni ∷
    op "fdisi8087_nop" Fdisi ∷
    op "fsetpm287_nop" Fsetpm ∷
    op "fcom" Fcom ∷ op "fcomp" Fcom ∷ op "ficom" Fcom ∷ op "ficomp" Fcom ∷
    op "fadd" Fadd ∷ op "fmul" Fadd ∷ op "fsub" Fadd ∷ op "fsubr" Fadd ∷ op "fdiv" Fadd ∷ op "fdivr" Fadd ∷ op "faddp" Fadd ∷
    op "fmulp" Fadd ∷ op "fsubrp" Fadd ∷ op "fsubp" Fadd ∷ op "fdivp" Fadd ∷ op "fdivrp" Fadd ∷ op "fiadd" Fadd ∷ op "fimul" Fadd ∷
    op "fisub" Fadd ∷ op "fisubr" Fadd ∷ op "fidiv" Fadd ∷ op "fidivr" Fadd ∷ op "fcmovb" Fadd ∷ op "fcmove" Fadd ∷ op "fcmovbe" Fadd ∷
    op "fcmovu" Fadd ∷ op "fcmovnb" Fadd ∷ op "fcmovne" Fadd ∷ op "fcmovnbe" Fadd ∷ op "fcmovnu" Fadd ∷ op "fucomi" Fadd ∷ op "fcomi" Fadd ∷
    op "fucomip" Fadd ∷ op "fcomip" Fadd ∷
    op "fbld" Fbld ∷ op "fld" Fbld ∷ op "fild" Fbld ∷ op "fxch" Fbld ∷ op "fucom" Fbld ∷ op "fucomp" Fbld ∷
    op "fbstp" Fbstp ∷ op "fst" Fbstp ∷ op "fstp" Fbstp ∷ op "fist" Fbstp ∷ op "fistp" Fbstp ∷ op "fisttp" Fbstp ∷
    op "vpscatterdd" ScatterDword ∷ op "vpscatterqd" ScatterDword ∷
    op "vpscatterdq" ScatterQword ∷ op "vpscatterqq" ScatterQword ∷
    op "vcvtpd2ps" Doubles ∷ op "vcvttpd2udq" Doubles ∷ op "vcvtpd2udq" Doubles ∷ op "vcvtudq2pd" Doubles ∷
    op "vcvtps2pd" Doubles ∷ op "vcvtqq2ps" Doubles ∷ op "vcvtdq2pd" Doubles ∷ op "vcvttpd2dq" Doubles ∷
    op "vfpclassps" Singles ∷
    op "vfpclasspd" Doubles ∷
    op "vcvtneps2bf16" Singles ∷
    op "vcvtuqq2ps" Doubles ∷ op "vcvtpd2dq" Doubles ∷ op "vcvttps2uqq" Doubles ∷
    op "vcvtps2uqq" Doubles ∷ op "vcvttps2qq" Doubles ∷ op "vcvtps2qq" Doubles ∷
    op "vaddpd" General ∷
    []

-- how many there are
abbrev pub opcode_count : ℕ
opcode_count = 176

-- their names
unfoldable pub mnemonics : List (List ℕ)
mnemonics = map (λ (o : Opcode). o.name) opcodes

-- the name of an opcode; a number that is no opcode has none
unfoldable pub mnemonic : ℕ → List ℕ
mnemonic opcode = get_or mnemonics opcode []

-- their arms
unfoldable pub arms : List Arm
arms = map (λ (o : Opcode). o.arm) opcodes

-- the arm of an opcode; a number that is no opcode has none, and no record with one is accepted
unfoldable pub arm_of : ℕ → Arm
arm_of opcode = get_or arms opcode General
