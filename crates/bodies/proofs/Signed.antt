-- A displacement is a number of 32 bits in two's complement: the machine's reading of its bits, which an i32 holds.
-- Assumes nothing.
use mathlib.Core.Bool.{Bool, true, false, cond}
use mathlib.Core.Path.{◌≡◌, refl}
use Prim.Native.Nat.{ℕ, suc, ◌-◌, ◌%◌, ◌<◌, ◌^◌}
use native.Mathlib.Omega.{arith}
use borrow.Author.Tests.{lt-ltb}
use lib.Dec.{ltb, lit<}
use lib.IntN.{ℤ, pos, negsuc}
use mir.Syntax.{w32}
use mir.Val.{Fits, SFits, sel, to_z}
use mir.Facts.{sfits_to_z}
use Rattle.frames.specs.Numbers.{signed}
use Rattle.bodies.specs.Decoding.{is_displaced, disp_in}

cond_sel : (t : Bool) (x y : ℤ) → cond t x y ≡ sel t x y
cond_sel true x y = refl
cond_sel false x y = refl

whole : (bits : ℕ) → bits < 2 ^ 32 → bits % 2 ^ 32 ≡ bits
whole bits h = omega (arith, h)

pub signed_to_z : (bits : ℕ) → bits < 2 ^ 32 → signed 32 bits ≡ to_z w32 bits
unfolding signed
signed_to_z bits h = rw (whole bits h, lt-ltb bits (2 ^ 32) h) (cond_sel (ltb bits (2 ^ 31)) (pos bits) (negsuc (2 ^ 32 - suc bits)))

pub signed_fits : (bits : ℕ) → Fits w32 bits → SFits w32 (signed 32 bits)
signed_fits bits f = rw (signed_to_z bits f.fits) (sfits_to_z f)

either_fits : (t : Bool) (z : ℤ) → SFits w32 z → SFits w32 (cond t z (pos 0))
either_fits true z f = f
either_fits false z f = record { sfits = lit< tt }

pub displacement_fits : (kind bits : ℕ) → Fits w32 bits → SFits w32 (disp_in kind bits)
unfolding disp_in
displacement_fits kind bits f = either_fits (is_displaced kind) (signed 32 bits) (signed_fits bits f)
