-- Places and lengths of the rest of a body as those of its fields, which have four bytes more.
-- Assumes nothing.
use mathlib.Core.Path.{◌≡◌}
use Prim.Native.Nat.{ℕ, ◌+◌}
use native.Mathlib.Decide.{dec_lt}
use native.Mathlib.Omega.{arith}
use lib.Dec.{eqb}
use borrow.Author.Tests.{eq-eqb, ne_eqb}
use Rattle.bodies.specs.Code.{in_fields}

pub in_more : (at k : ℕ) → in_fields at + k ≡ in_fields (at + k)
in_more at k = omega arith

-- a length is met, or not, in both
pub eqb_more : (n m : ℕ) → eqb (in_fields n) (in_fields m) ≡ eqb n m
eqb_more n m =
    elim (dec_lt n m) [
      | yes h ↦ rw (ne_eqb n m (λ e. omega (arith, e)), ne_eqb (in_fields n) (in_fields m) (λ e. omega (arith, e)))
      | no h ↦
          elim (dec_lt m n) [
            | yes g ↦ rw (ne_eqb n m (λ e. omega (arith, e)), ne_eqb (in_fields n) (in_fields m) (λ e. omega (arith, e)))
            | no g ↦ rw (eq-eqb n m (omega arith), eq-eqb (in_fields n) (in_fields m) (omega arith))
          ]
    ]

pub eqb_fields : (n m : ℕ) → eqb (in_fields n) (14 + m) ≡ eqb n (10 + m)
eqb_fields n m = let e : 14 + m ≡ in_fields (10 + m) = omega arith in rw e (eqb_more n (10 + m))
