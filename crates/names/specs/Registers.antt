-- Register and segment names, by document 01's register bytes: "A register byte is 8 times bank plus number".
-- Assumes nothing.
use Rattle.std.specs.Prelude.{List, [], ◌∷◌, ◌++◌, ℕ, get_or, take}
use Rattle.text.specs.Words.{bytes}

-- bank 3
abbrev pub bank3 : List (List ℕ)
bank3 = bytes "es" ∷ bytes "cs" ∷ bytes "ss" ∷ bytes "ds" ∷ bytes "fs" ∷ bytes "gs" ∷ []

-- the banks 0 to 7; "Bytes 30, 31 .. are no register"; then document 02's: "banks 8, zmm0 to zmm7, and 9, k0 to k7"
unfoldable pub registers : List (List ℕ)
registers =
    bytes "eax" ∷ bytes "ecx" ∷ bytes "edx" ∷ bytes "ebx" ∷ bytes "esp" ∷ bytes "ebp" ∷ bytes "esi" ∷ bytes "edi" ∷
    bytes "ax" ∷ bytes "cx" ∷ bytes "dx" ∷ bytes "bx" ∷ bytes "sp" ∷ bytes "bp" ∷ bytes "si" ∷ bytes "di" ∷
    bytes "al" ∷ bytes "cl" ∷ bytes "dl" ∷ bytes "bl" ∷ bytes "ah" ∷ bytes "ch" ∷ bytes "dh" ∷ bytes "bh" ∷
    (bank3 ++ ([] ∷ [] ∷
    bytes "st(0)" ∷ bytes "st(1)" ∷ bytes "st(2)" ∷ bytes "st(3)" ∷ bytes "st(4)" ∷ bytes "st(5)" ∷ bytes "st(6)" ∷ bytes "st(7)" ∷
    bytes "mm0" ∷ bytes "mm1" ∷ bytes "mm2" ∷ bytes "mm3" ∷ bytes "mm4" ∷ bytes "mm5" ∷ bytes "mm6" ∷ bytes "mm7" ∷
    bytes "xmm0" ∷ bytes "xmm1" ∷ bytes "xmm2" ∷ bytes "xmm3" ∷ bytes "xmm4" ∷ bytes "xmm5" ∷ bytes "xmm6" ∷ bytes "xmm7" ∷
    bytes "ymm0" ∷ bytes "ymm1" ∷ bytes "ymm2" ∷ bytes "ymm3" ∷ bytes "ymm4" ∷ bytes "ymm5" ∷ bytes "ymm6" ∷ bytes "ymm7" ∷
    bytes "zmm0" ∷ bytes "zmm1" ∷ bytes "zmm2" ∷ bytes "zmm3" ∷ bytes "zmm4" ∷ bytes "zmm5" ∷ bytes "zmm6" ∷ bytes "zmm7" ∷
    bytes "k0" ∷ bytes "k1" ∷ bytes "k2" ∷ bytes "k3" ∷ bytes "k4" ∷ bytes "k5" ∷ bytes "k6" ∷ bytes "k7" ∷
    []))

-- the name of a register byte; a byte past the last bank has none
unfoldable pub register_name : ℕ → List ℕ
register_name reg = get_or registers reg []

-- the names that the code keeps as words of a table: those of the banks 0 to 3
abbrev pub tabled : List (List ℕ)
tabled = take 32 registers

-- "0 for none or 1 to 6 for es cs ss ds fs gs"
unfoldable pub segments : List (List ℕ)
segments = [] ∷ bank3

-- the name of a segment number
unfoldable pub segment_name : ℕ → List ℕ
segment_name segment = get_or segments segment []
