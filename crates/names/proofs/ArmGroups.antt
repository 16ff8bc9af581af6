-- Several arms of a `match` that answer alike: what the code is told there is that the arm's tag is one of some tags, and a
-- definition that has one value at each of these arms has it at the arm.
-- Assumes nothing.
use mathlib.Core.Path.{◌≡◌, refl, ap, ◌∙◌}
use mathlib.Core.Logic.{inl, inr}
use mathlib.Core.Bool.{Bool, true, false, cond, beq, not, ◌&&◌}
use mathlib.Core.List.{List, [], ◌∷◌, map}
use Prim.Native.Nat.{ℕ, zero, suc}
use lib.Dec.{T, T_not, eqb}
use borrow.Author.Tests.{eq-eqb}
use store.Enc.{and_l, and_r}
use types.Run.{OneOf}
use native.Mathlib.Omega.{arith}
use denote.RattleType.{RattleType}
use denote.Enum.Enum.{Sum, tag as tag_in}
use denote.Enum.Declared.{tag_of}
use Rattle.text.specs.Words.{every}
use Rattle.text.proofs.Tables.{both_left, both_right}
use Rattle.names.specs.contracts.Arm.{the_type}
use Rattle.names.specs.declared.Arm.{Arm}
use Rattle.names.specs.declared.Arm.TheVariants as arm
use Rattle.names.specs.Among.{is_one_of}

-- the place of an arm in the declaration, which the code goes by
abbrev pub tag : Arm → ℕ
tag x = tag_of the_type x

-- of a type with n variants that hold nothing, a value is known by its tag
abbrev bare : ℕ → List (List RattleType)
bare zero = []
bare (suc n) = [] ∷ bare n

same_tag : (n : ℕ) (x y : Sum (bare n)) → tag_in (bare n) x ≡ tag_in (bare n) y → x ≡ y
same_tag zero x y e = absurd x
same_tag (suc n) (inl x) (inl y) e = refl
same_tag (suc n) (inl x) (inr y) e = absurd (omega arith)
same_tag (suc n) (inr x) (inl y) e = absurd (omega arith)
same_tag (suc n) (inr x) (inr y) e = ap inr (same_tag n x y (omega arith))

by_tag : (x y : Arm) → tag x ≡ tag y → x ≡ y
by_tag x y e = the_type.to_one x y (same_tag 42 (the_type.to x) (the_type.to y) e)

-- all arms
abbrev pub all_arms : List Arm
all_arms =
    arm.General ∷ arm.Qword ∷ arm.Mmword ∷ arm.Jmpf ∷ arm.Callf ∷ arm.Lds ∷
    arm.Movs ∷ arm.Cmps ∷ arm.Singles ∷ arm.Doubles ∷ arm.Branch ∷ arm.Call ∷
    arm.Xbegin ∷ arm.Feni ∷ arm.Fdisi ∷ arm.Fsetpm ∷ arm.Hreset ∷ arm.Lsl ∷
    arm.Prefetch ∷ arm.Sgdt ∷ arm.Lss ∷ arm.Nop ∷ arm.ScatterDword ∷ arm.ScatterQword ∷
    arm.Monitor ∷ arm.Mwait ∷ arm.Invlpgb ∷ arm.Rdpru ∷ arm.Scas ∷ arm.Lods ∷
    arm.Psmash ∷ arm.Pvalidate ∷ arm.Incssp ∷ arm.Wrss ∷ arm.Pblendvb ∷ arm.Lea ∷
    arm.Pushf ∷ arm.Aam ∷ arm.Fcom ∷ arm.Fadd ∷ arm.Fbld ∷ arm.Fbstp ∷ []

-- a list without the arms of another
abbrev pub without : List Arm → List Arm → List Arm
without xs [] = []
without xs (y ∷ ys) = cond (is_one_of y xs) (without xs ys) (y ∷ without xs ys)

-- the arms that are none of these: those of a `_`
abbrev pub others : List Arm → List Arm
others xs = without xs all_arms

-- a fact at each arm of a list
abbrev pub Each : (Arm → Type 0) → List Arm → Type 0
Each P [] = Unit
Each P (x ∷ xs) = P x × Each P xs

pub at_group :
    {X : Type 0} (f : Arm → X) (v : X) (xs : List Arm) (arm : Arm) →
    Each (λ (x : Arm). f x ≡ v) xs →
    OneOf (map tag xs) (tag arm) →
    f arm ≡ v
at_group f v [] arm all o = absurd o
at_group f v (x ∷ []) arm all o = ap f (by_tag arm x o) ∙ all.0
at_group f v (x ∷ (y ∷ ys)) arm all (inl e) = ap f (by_tag arm x e) ∙ all.0
at_group f v (x ∷ (y ∷ ys)) arm all (inr o) = at_group f v (y ∷ ys) arm all.1 o

-- the same where both sides compute, as one test
abbrev pub all_are : (Arm → Bool) → Bool → List Arm → Bool
all_are f v [] = true
all_are f v (x ∷ xs) = beq (f x) v && all_are f v xs

equal : (p q : Bool) → T (beq p q) → p ≡ q
equal true true t = refl
equal true false t = absurd t
equal false true t = absurd t
equal false false t = refl

each : (f : Arm → Bool) (v : Bool) (xs : List Arm) → T (all_are f v xs) → Each (λ (x : Arm). f x ≡ v) xs
each f v [] t = tt
each f v (x ∷ xs) t = (equal (f x) v (and_l (beq (f x) v) (all_are f v xs) t), each f v xs (and_r (beq (f x) v) (all_are f v xs) t))

pub of_group :
    (f : Arm → Bool) (v : Bool) (xs : List Arm) (arm : Arm) →
    T (all_are f v xs) →
    OneOf (map tag xs) (tag arm) →
    f arm ≡ v
of_group f v xs arm t o = at_group f v xs arm (each f v xs t) o

-- a tag that is none of some tags
pub not_one_of : (n : ℕ) (ks : List ℕ) → T (every (λ (k : ℕ). not (eqb n k)) ks) → OneOf ks n → ⊥
not_one_of n [] t o = o
not_one_of n (k ∷ []) t e = T_not (eqb n k) (both_left (not (eqb n k)) true t) (rw (eq-eqb n k e) tt)
not_one_of n (k ∷ (l ∷ ls)) t (inl e) =
    T_not (eqb n k) (both_left (not (eqb n k)) (every (λ (k : ℕ). not (eqb n k)) (l ∷ ls)) t) (rw (eq-eqb n k e) tt)
not_one_of n (k ∷ (l ∷ ls)) t (inr o) =
    not_one_of n (l ∷ ls) (both_right (not (eqb n k)) (every (λ (k : ℕ). not (eqb n k)) (l ∷ ls)) t) o
