-- Laws of one of two, and of a text that stands only where it is called for.
-- Assumes nothing.
use mathlib.Core.Path.{◌≡◌, refl}
use mathlib.Core.Bool.{Bool, true, false, cond}
use mathlib.Core.List.{List, []}
use Prim.Native.Nat.{ℕ, ◌≤◌}
use native.Mathlib.Omega.{arith}
use lib.ListN.{length}
use Rattle.text.specs.Choice.{when}

-- what holds of both holds of the one that is picked
pub cond_by : {A : Type 0} (P : A → Type 0) (b : Bool) {x y : A} → (b ≡ true → P x) → (b ≡ false → P y) → P (cond b x y)
cond_by P true f g = f refl
cond_by P false f g = g refl

pub cond_most : (b : Bool) (n : ℕ) → cond b n 0 ≤ n
cond_most true n = omega arith
cond_most false n = omega arith

pub when-wanted : (t : List ℕ) {wanted : Bool} → wanted ≡ true → when wanted t ≡ t
when-wanted t e = rw e

pub when-not : (t : List ℕ) {wanted : Bool} → wanted ≡ false → when wanted t ≡ []
when-not t e = rw e

pub length-when : (wanted : Bool) (t : List ℕ) → length (when wanted t) ≡ cond wanted (length t) 0
length-when true t = refl
length-when false t = refl
