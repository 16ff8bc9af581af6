-- `bodies::numbers::signed_of` meets its contract: the machine's reading of the bits is the signed number.
-- Assumes nothing.
use mir.Facts.{sfits_to_z, to_z-of_z}
use Rattle.bodies.proofs.Signed.{signed_to_z}
use Rattle.bodies.proofs.numbers.signed_of.Goals as goal

pub returns : goal.returns
returns c = rw (c.cast_signed.ensures, signed_to_z c.args.bits c.ranges.bits.fits) (to_z-of_z (sfits_to_z c.ranges.bits))
