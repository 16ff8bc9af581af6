-- The label that an arm calls for, by mem_size.
-- Assumes nothing.
use Rattle.std.specs.Prelude.{Bool, cond, ◌&&◌, ◌||◌, ℕ, eqb}
use Rattle.operands.specs.declared.Label.{Label}
use Rattle.operands.specs.declared.Label.TheVariants.{None, Byte, Word, Dword, Qword, Xmmword, Ymmword, Zmmword, Mmword, Fword, Tbyte, Missing}

-- "Labels: 1 byte, 2 word, 4 dword, 8 qword, 16 xmmword, 32 ymmword, 64 zmmword"
unfoldable pub size_label : ℕ → Label
size_label size =
    cond (eqb size 1) Byte
    (cond (eqb size 2) Word
    (cond (eqb size 4) Dword
    (cond (eqb size 8) Qword
    (cond (eqb size 16) Xmmword
    (cond (eqb size 32) Ymmword
    (cond (eqb size 64) Zmmword Missing))))))

-- The general path: none for the sizes 63 and 48; `mmword` for 8 and `fword` for 6 where the path asks for them; else the size's.
unfoldable pub general_label : (mmword fword : Bool) → ℕ → Label
general_label mmword fword size =
    cond (eqb size 63 || eqb size 48) None
    (cond (eqb size 8 && mmword) Mmword
    (cond (eqb size 6 && fword) Fword
    (size_label size)))

-- LSS: 4 dword, 6 fword, and no other size
unfoldable pub lss_label : ℕ → Label
lss_label size = cond (eqb size 4) Dword (cond (eqb size 6) Fword Missing)

-- the FBLD and FBSTP arms: 10 is `tbyte`
unfoldable pub tbyte_label : ℕ → Label
tbyte_label size = cond (eqb size 10) Tbyte (size_label size)
