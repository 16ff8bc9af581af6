-- The names that the code builds from stem and number are the registers' names.
-- Assumes nothing.
use mathlib.Core.Path.{◌≡◌, refl, sym, ap, ◌∙◌}
use mathlib.Core.List.{List, [], ◌∷◌, ◌++◌, map, head-eq_of_cons-eq, tail-eq_of_cons-eq}
use Prim.Native.Nat.{ℕ, zero, suc, ◌+◌, ◌-◌, ◌*◌, ◌/◌, ◌%◌, ◌≤◌, ◌<◌}
use native.Mathlib.Nat.{not-suc-le-zero, mod-lt, div-add-mod'}
use native.Mathlib.Decide.{ℕ_discrete}
use native.Mathlib.Omega.{arith}
use borrow.Author.Tests.{ne_eqb}
use lib.Dec.{lit<}
use lib.ListN.{length, get_or}
use lib.Seq.{get_or-take}
use Rattle.text.specs.Words.{bytes}
use Rattle.names.specs.Registers.{registers, tabled, register_name}
use Rattle.names.specs.Code.{stems, stem, digit, built}

-- the numbers below n
abbrev down : ℕ → List ℕ
down zero = []
down (suc n) = n ∷ down n

-- two functions that agree on all numbers below n, by one list, agree on each of them
agree_below : {A : Type 0} (f g : ℕ → A) (n : ℕ) → map f (down n) ≡ map g (down n) → (k : ℕ) → k < n → f k ≡ g k
agree_below f g zero e k h = absurd (not-suc-le-zero h)
agree_below f g (suc n) e k h =
    elim (ℕ_discrete k n) [ yes q ↦ rw q (head-eq_of_cons-eq e) | no q ↦ agree_below f g n (tail-eq_of_cons-eq e) k (omega arith) ]

-- the names of a bank, and what is built for it
abbrev named : ℕ → List (List ℕ)
named bank = map (λ (number : ℕ). register_name (8 * bank + number)) (down 8)

abbrev built_all : ℕ → List (List ℕ)
built_all bank = map (built bank) (down 8)

-- the test, computed over every bank that has a stem and every number
stems_keep : map (λ (k : ℕ). named (4 + k)) (down (length stems - 4)) ≡ map (λ (k : ℕ). built_all (4 + k)) (down (length stems - 4))
unfolding registers register_name built
stems_keep = refl

-- the name of each register of a bank that has a stem is stem, number and what closes
pub register_built : (bank number : ℕ) → 4 ≤ bank → bank < length stems → number < 8 → register_name (8 * bank + number) ≡ built bank number
register_built bank number low high h =
    let place : 4 + (bank - 4) ≡ bank = omega arith in
    rw (sym place)
    (agree_below (λ (n : ℕ). register_name (8 * (4 + (bank - 4)) + n)) (built (4 + (bank - 4))) 8
    (agree_below (λ (k : ℕ). named (4 + k)) (λ (k : ℕ). built_all (4 + k)) (length stems - 4) stems_keep (bank - 4) (omega arith)) number h)

-- the same of a register byte, by its bank and its number
module _ (reg : ℕ) where
  pub number-below : reg % 8 < 8
  number-below = mod-lt reg (lit< tt)

  -- "A register byte is 8 times bank plus number"
  byte_of : {bank : ℕ} → reg / 8 ≡ bank → 8 * bank + reg % 8 ≡ reg
  byte_of e = omega (arith, div-add-mod' reg 8, e)

  pub byte-built : {bank : ℕ} → reg / 8 ≡ bank → 4 ≤ bank → bank < length stems → register_name reg ≡ built bank (reg % 8)
  byte-built {bank} e low high = ap register_name (sym (byte_of e)) ∙ register_built bank (reg % 8) low high number-below

  -- a name with a stem of a letter and mm, and nothing that closes
  pub byte-lettered : {letter : ℕ} → 5 < reg / 8 → reg / 8 < length stems → letter ∷ bytes "mm" ≡ stem (reg / 8) → register_name reg ≡ (letter ∷ []) ++ (bytes "mm" ++ (digit (reg % 8) ∷ []))
  unfolding built
  byte-lettered low high e =
      byte-built refl (omega arith) high ∙ rw (← e, ne_eqb (reg / 8) 4 (λ q. omega (arith, low, q)))

  -- past the last bank there is no register
  pub byte_past : 10 ≤ reg / 8 → length registers ≤ reg
  unfolding registers
  byte_past h = omega (arith, div-add-mod' reg 8)

  -- in the banks 0 to 3 the name is a word of the table
  byte-below : reg / 8 < 4 → reg < 32
  byte-below h = omega (arith, div-add-mod' reg 8, number-below)

  pub byte-tabled : reg / 8 < 4 → register_name reg ≡ get_or tabled reg []
  unfolding register_name
  byte-tabled h = sym (get_or-take 32 registers reg [] (byte-below h))
