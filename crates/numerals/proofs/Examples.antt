-- Worked numbers, computed from the definitions.
-- Assumes nothing.
use mathlib.Core.Path.{◌≡◌, refl}
use mathlib.Core.List.{[], ◌∷◌}
use lib.IntN.{pos, negsuc}
use Rattle.text.specs.Words.{bytes}
use Rattle.numerals.specs.Digits.{digit, digits, places_from, places}
use Rattle.numerals.specs.Numerals.{figure, numeral, displacement, absolute}

-- 0, 9, 10, 15, 16, 160 and 4294967295
numerals : numeral 0 ∷ numeral 9 ∷ numeral 10 ∷ numeral 15 ∷ numeral 16 ∷ numeral 160 ∷ numeral 0xFFFF_FFFF ∷ []
    ≡ bytes "0" ∷ bytes "9" ∷ bytes "0Ah" ∷ bytes "0Fh" ∷ bytes "10h" ∷ bytes "0A0h" ∷ bytes "0FFFFFFFFh" ∷ []
unfolding digit digits places_from places figure numeral
numerals = refl

-- 9, 10, -160 and the least number of 32 bits
displacements : displacement (pos 9) ∷ displacement (pos 10) ∷ displacement (negsuc 159) ∷ displacement (negsuc 0x7FFF_FFFF) ∷ []
    ≡ bytes "+ 9" ∷ bytes "+ 0Ah" ∷ bytes "- 0A0h" ∷ bytes "- 80000000h" ∷ []
unfolding digit digits places_from places figure numeral displacement
displacements = refl

-- ABCD and ABC hexadecimal, as absolutes of 16 bits and of 32
absolutes : absolute 4 0xABCD ∷ absolute 4 0xABC ∷ absolute 8 0xABCD ∷ absolute 8 0xABCD_EF01 ∷ []
    ≡ bytes "0ABCDh" ∷ bytes "0ABCh" ∷ bytes "0000ABCDh" ∷ bytes "0ABCDEF01h" ∷ []
unfolding digit digits places_from figure absolute
absolutes = refl
