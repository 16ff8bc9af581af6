-- An arm among some arms, as document 01 lists opcodes.
-- Assumes nothing.
use Rattle.std.specs.Prelude.{Bool, false, ◌||◌, List, [], ◌∷◌, ℕ, eqb}
use Rattle.names.specs.declared.Arm.{Arm}
use Rattle.names.specs.declared.Arm.TheVariants.{
  General,
  Qword,
  Mmword,
  Jmpf,
  Callf,
  Lds,
  Movs,
  Cmps,
  Singles,
  Doubles,
  Branch,
  Call,
  Xbegin,
  Feni,
  Fdisi,
  Fsetpm,
  Hreset,
  Lsl,
  Prefetch,
  Sgdt,
  Lss,
  Nop,
  ScatterDword,
  ScatterQword,
  Monitor,
  Mwait,
  Invlpgb,
  Rdpru,
  Scas,
  Lods,
  Psmash,
  Pvalidate,
  Incssp,
  Wrss,
  Pblendvb,
  Lea,
  Pushf,
  Aam,
  Fcom,
  Fadd,
  Fbld,
  Fbstp,
}

-- an arm's number: its place among the arms, by which two of them are compared
abbrev pub number : Arm → ℕ
number General = 0
number Qword = 1
number Mmword = 2
number Jmpf = 3
number Callf = 4
number Lds = 5
number Movs = 6
number Cmps = 7
number Singles = 8
number Doubles = 9
number Branch = 10
number Call = 11
number Xbegin = 12
number Feni = 13
number Fdisi = 14
number Fsetpm = 15
number Hreset = 16
number Lsl = 17
number Prefetch = 18
number Sgdt = 19
number Lss = 20
number Nop = 21
number ScatterDword = 22
number ScatterQword = 23
number Monitor = 24
number Mwait = 25
number Invlpgb = 26
number Rdpru = 27
number Scas = 28
number Lods = 29
number Psmash = 30
number Pvalidate = 31
number Incssp = 32
number Wrss = 33
number Pblendvb = 34
number Lea = 35
number Pushf = 36
number Aam = 37
number Fcom = 38
number Fadd = 39
number Fbld = 40
number Fbstp = 41

-- one and the same arm
abbrev pub is_arm : Arm → Arm → Bool
is_arm x y = eqb (number x) (number y)

-- one of these arms
abbrev pub is_one_of : Arm → List Arm → Bool
is_one_of x [] = false
is_one_of x (y ∷ ys) = is_arm x y || is_one_of x ys
