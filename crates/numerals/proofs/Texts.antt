-- Laws of the texts: their lengths.
-- Assumes nothing.
use mathlib.Core.Path.{◌≡◌, refl, sym, ap, ◌∙◌}
use mathlib.Core.Bool.{Bool, cond}
use mathlib.Core.List.{◌++◌}
use Prim.Native.Nat.{ℕ, ◌+◌}
use lib.IntN.{ℤ, pos, negsuc, nat_abs}
use lib.Dec.{leb}
use lib.ListN.{length, length-append}
use Rattle.text.specs.Choice.{when}
use Rattle.text.specs.Words.{bytes}
use Rattle.text.proofs.Choosing.{length-when}
use Rattle.numerals.specs.Digits.{digits, places, top}
use Rattle.numerals.specs.Code.{TopOf}
use Rattle.numerals.specs.Numerals.{needs_leading0, hex_ambiguous, figure, numeral, sign, displacement, absolute}
use Rattle.numerals.proofs.Places.{length_digits}

pub length-figure : (k v : ℕ) → length (figure k v) ≡ cond (needs_leading0 k v) 1 0 + k
unfolding figure
length-figure k v =
    length-append (when (needs_leading0 k v) (bytes "0")) (digits k v)
    ∙ rw (length-when (needs_leading0 k v) (bytes "0"), length_digits k v)

pub length-numeral : (v : ℕ) → length (numeral v) ≡ cond (needs_leading0 (places v) v) 1 0 + places v + cond (hex_ambiguous v) 1 0
unfolding numeral
length-numeral v =
    length-append (figure (places v) v) (when (hex_ambiguous v) (bytes "h"))
    ∙ rw (length-figure (places v) v, length-when (hex_ambiguous v) (bytes "h"))

pub length-absolute : (k v : ℕ) → length (absolute k v) ≡ cond (needs_leading0 k v) 1 0 + k + 1
unfolding absolute
length-absolute k v = length-append (figure k v) (bytes "h") ∙ rw (length-figure k v)

length-sign : (d : ℤ) → length (sign d) ≡ 2
length-sign (pos n) = refl
length-sign (negsuc n) = refl

pub length-displacement : (d : ℤ) → length (displacement d) ≡ 2 + length (numeral (nat_abs d))
unfolding displacement
length-displacement d = length-append (sign d) (numeral (nat_abs d)) ∙ rw (length-sign d)

-- a figure by its top digit
pub figure_by : (k v : ℕ) {digit : ℕ} {needed : Bool} → digit ≡ top k v → needed ≡ leb 10 digit → figure k v ≡ when needed (bytes "0") ++ digits k v
unfolding figure
figure_by k v e n = rw (n, e)

-- a numeral by its places, its top digit and the test for the h
pub top_by : {v n d : ℕ} → TopOf v n d → d ≡ top n v
top_by {v} t = t.first ∙ ap (λ (k : ℕ). top k v) (sym t.count)

pub numeral_by_lem : {v n d : ℕ} {h : Bool} → TopOf v n d → h ≡ hex_ambiguous v → numeral v ≡ figure n v ++ when h (bytes "h")
unfolding numeral
numeral_by_lem t e = rw (t.count, e)

-- a displacement as the code has it at hand: `d` once more, and its size
pub displacement_by : {d e : ℤ} {n : ℕ} → e ≡ d → n ≡ nat_abs e → displacement d ≡ sign e ++ numeral n
unfolding displacement
displacement_by same size = rw (size, same)
