-- `host::masm_print_listing` meets its contract: the length fits its half.
-- Assumes nothing.
use native.Mathlib.Omega.{arith}
use Rattle.host.specs.Packed.{asked}
use Rattle.host.proofs.Fitting.{listing_fits}
use Rattle.host.proofs.masm_print_listing.Goals as goal

pub pack-requires : goal.pack-requires
pack-requires c = omega (arith, c.print_listing-answer.ensures.length, listing_fits (asked 1 c.args.mode) c.args.listing.now c.args.text.now)
