-- `listings::listing::print_lines` meets its contract: by the most that the lines can take, or by their length.
-- Assumes nothing.
use Prim.Native.Nat.{◌≤◌}
use native.Mathlib.Omega.{arith}
use lib.ListN.{length, drop, length-drop}
use Rattle.answers.proofs.Outcomes.{text_refused, text_printed}
use Rattle.listings.specs.Lines.{lines_of}
use Rattle.listings.proofs.LineLaws.{lines_short}
use Rattle.listings.proofs.Walking.{lines_aside, lines_fit, lines_put, lines-total}
use Rattle.listings.proofs.listing.print_lines.Goals as goal
use Rattle.listings.proofs.listing.print_lines.Goals.{then-text-listing+else-text-measured, else-text-listing}

pub walk-measured-requires : goal.walk-measured-requires
walk-measured-requires c = let a = c.args in record { bytes_nonzero = c.requires.listing_nonzero.0; walkable = lines_aside a.asked a.listing.now _ c.requires.listing_nonzero.1 (omega arith) }

pub returns-then-text-measured : goal.returns-then-text-measured
returns-then-text-measured c = let a = c.args in
    text_refused (lines_of a.asked (drop 1 a.listing.now)) (lines-total c.walk-measured.ensures) c.if-text-measured.true

pub walk-printed-requires : goal.walk-printed-requires
walk-printed-requires c = let a = c.args in
    let fits : length (lines_of a.asked (drop 1 a.listing.now)) ≤ length a.text.now =
    elim c.if-text-listing.branch [
      | then-text-listing+else-text-measured w ↦ omega (arith, lines-total w.walk-measured.ensures, w.if-text-measured.false)
      | else-text-listing w ↦ omega (arith, w.if-text-listing.false, lines_short a.asked (drop 1 a.listing.now), length-drop 1 a.listing.now)
    ] in
    record { bytes_nonzero = c.requires.listing_nonzero.0; walkable = lines_fit a.asked a.listing.now _ c.requires.listing_nonzero.1 fits }

pub returns : goal.returns
returns c = let a = c.args in
    let fits : length (lines_of a.asked (drop 1 a.listing.now)) ≤ length a.text.now =
    elim c.if-text-listing.branch [
      | then-text-listing+else-text-measured w ↦ omega (arith, lines-total w.walk-measured.ensures, w.if-text-measured.false)
      | else-text-listing w ↦ omega (arith, w.if-text-listing.false, lines_short a.asked (drop 1 a.listing.now), length-drop 1 a.listing.now)
    ] in
    text_printed (lines_of a.asked (drop 1 a.listing.now)) fits (lines_put c.walk-printed.ensures)
