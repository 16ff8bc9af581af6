-- The arms that print another name than their opcode's own; of two it is another opcode's.
-- Assumes nothing.
use mathlib.Core.Path.{◌≡◌, refl}
use mathlib.Core.Bool.{Bool, true, false, cond, ◌||◌, true≢false}
use mathlib.Core.List.{List, [], ◌∷◌}
use Prim.Native.Nat.{ℕ}
use borrow.Author.Rules.{rules}
use Rattle.text.specs.Words.{bytes}
use Rattle.names.specs.Opcodes.{opcodes, mnemonics, mnemonic}
use Rattle.names.specs.Among.{is_arm, is_one_of}
use Rattle.names.specs.declared.Arm.{Arm}
use Rattle.names.specs.declared.Arm.TheVariants.{Jmpf, Callf, Feni, Fdisi, Fsetpm}
use Rattle.lines.specs.declared.Name.TheVariants as name
use Rattle.lines.specs.declared.Name.TheVariants.{Opcode}
use Rattle.lines.specs.Head.{name_of}
use Rattle.lines.specs.Text.{name_text}

-- the two names that are another opcode's
module _ (opcode : ℕ) {arm : Arm} where
  pub name_jmpf : arm ≡ Jmpf → name_text (name_of arm opcode) ≡ bytes "jmp"
  unfolding name_text mnemonic mnemonics opcodes
  name_jmpf e = rw e

  pub name_callf : arm ≡ Callf → name_text (name_of arm opcode) ≡ bytes "call"
  unfolding name_text mnemonic mnemonics opcodes
  name_callf e = rw e

-- the arms that print another name than the opcode's own
abbrev pub renamed : List Arm
renamed = Jmpf ∷ Callf ∷ Feni ∷ Fdisi ∷ Fsetpm ∷ []

-- an arm that is none of these is not among them
pub not_renamed :
    (arm : Arm) → (arm ≡ Jmpf → ⊥) → (arm ≡ Callf → ⊥) → (arm ≡ Feni → ⊥) → (arm ≡ Fdisi → ⊥) → (arm ≡ Fsetpm → ⊥) →
    is_one_of arm renamed ≡ false
not_renamed arm jmpf callf feni fdisi fsetpm = search rules

-- of five choices none is made
last :
    {X : Type 0} (p q r s t : Bool) (a b c d e z : X) →
    (p || (q || (r || (s || (t || false))))) ≡ false →
    cond p a (cond q b (cond r c (cond s d (cond t e z)))) ≡ z
last false false false false false a b c d e z o = refl
last true q r s t a b c d e z o = absurd (true≢false o)
last false true r s t a b c d e z o = absurd (true≢false o)
last false false true s t a b c d e z o = absurd (true≢false o)
last false false false true t a b c d e z o = absurd (true≢false o)
last false false false false true a b c d e z o = absurd (true≢false o)

pub name_own : (opcode : ℕ) (arm : Arm) → is_one_of arm renamed ≡ false → name_text (name_of arm opcode) ≡ mnemonic opcode
unfolding name_text
name_own opcode arm o =
    rw (last (is_arm arm Jmpf) (is_arm arm Callf) (is_arm arm Feni) (is_arm arm Fdisi) (is_arm arm Fsetpm)
    (Opcode 0) (Opcode 1) name.Feni name.Fdisi name.Fsetpm (Opcode opcode) o)
