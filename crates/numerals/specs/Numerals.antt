-- Numerals, displacements and absolutes, as document 01's section "Numbers and brackets" has them.
-- Assumes nothing.
use Rattle.std.specs.Prelude.{Bool, List, ◌++◌, ℕ, ltb, leb, ℤ, pos, negsuc, nat_abs}
use Rattle.text.specs.Choice.{when}
use Rattle.text.specs.Words.{bytes}
use Rattle.numerals.specs.Digits.{digits, places, top}

-- "a 0 in front when the top digit is A to F", of k digits
abbrev pub needs_leading0 : ℕ → ℕ → Bool
needs_leading0 k v = leb 10 (top k v)

-- k digits of v, with that 0
unfoldable pub figure : ℕ → ℕ → List ℕ
figure k v = when (needs_leading0 k v) (bytes "0") ++ digits k v

-- "h exactly when the number is above 9"
abbrev pub hex_ambiguous : ℕ → Bool
hex_ambiguous v = ltb 9 v

-- the numeral of a number of 32 bits
unfoldable pub numeral : ℕ → List ℕ
numeral v = figure (places v) v ++ when (hex_ambiguous v) (bytes "h")

-- "Displacement: "+ " or "- ", .."
abbrev pub sign : ℤ → List ℕ
sign (pos n) = bytes "+ "
sign (negsuc n) = bytes "- "

-- ".. then the numeral of its size", the size being that of the whole number, the least one included
unfoldable pub displacement : ℤ → List ℕ
displacement d = sign d ++ numeral (nat_abs d)

-- "Absolute: 4 or 8 digits, always h; a 0 in front only if the top printed digit is A to F"
unfoldable pub absolute : ℕ → ℕ → List ℕ
absolute k v = figure k v ++ bytes "h"
