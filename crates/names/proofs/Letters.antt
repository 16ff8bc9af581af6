-- A second hold on the rules of the tables: which bytes they allow, all of them, and tables that they refuse. A rule that allowed more
-- would hold of every table that this one holds of.
-- Assumes nothing.
use mathlib.Core.Path.{◌≡◌, refl}
use mathlib.Core.Bool.{Bool, false, cond}
use mathlib.Core.List.{List, [], ◌∷◌, ◌++◌, map}
use Prim.Native.Nat.{ℕ, zero, suc}
use Rattle.text.specs.Words.{bytes}
use Rattle.names.specs.Rules.{letter, register_letter, names_rule, registers_rule}

-- the numbers below n that pass a test, from the least
abbrev passing : (ℕ → Bool) → ℕ → List ℕ
passing test zero = []
passing test (suc n) = passing test n ++ cond (test n) (n ∷ []) []

pub letters : passing letter 256 ≡ bytes "0123456789_abcdefghijklmnopqrstuvwxyz"
letters = refl

pub register_letters : passing register_letter 256 ≡ bytes "()0123456789_abcdefghijklmnopqrstuvwxyz"
register_letters = refl

-- an empty name, a name with another letter, one that is too long, and one that stands twice
pub names_refused :
    map (names_rule 3) ((bytes "a" ∷ bytes "" ∷ []) ∷ (bytes "a" ∷ bytes "B" ∷ []) ∷ (bytes "abcd" ∷ []) ∷ (bytes "a" ∷ bytes "b" ∷ bytes "a" ∷ []) ∷ [])
    ≡ false ∷ false ∷ false ∷ false ∷ []
unfolding names_rule
names_refused = refl

-- a register's name with another letter, and one that stands twice
pub registers_refused : map registers_rule ((bytes "st[0]" ∷ []) ∷ (bytes "ax" ∷ [] ∷ bytes "ax" ∷ []) ∷ []) ≡ false ∷ false ∷ []
unfolding registers_rule
registers_refused = refl
