-- Listings at the limit of a listing's size, by laws over the length: nothing of that size is computed.
-- Assumes nothing.
use mathlib.Core.Path.{◌≡◌, refl}
use mathlib.Core.Bool.{true, false, cond}
use Prim.Native.Nat.{ℕ, suc}
use lib.Dec.{ltb}
use lib.ListN as list
use Rattle.text.specs.Words.{bytes}
use Rattle.answers.specs.Refusals.{answer_of}
use Rattle.records.specs.declared.Asked.{Asked}
use Rattle.records.specs.Compared.{asking, All}
use Rattle.listings.specs.Lines.{listing_text}
use Rattle.listings.specs.Listings.{listing_refusals, listing_outcome}
use Rattle.printed.specs.Rows.{prints, answers, Says, Holds}
use Rattle.printed.specs.TableLimit.{limit_rows}
use Rattle.printed.proofs.Saying.{listing-says}

-- of a version byte of 3, whatever stands after it
other_version : (asked : Asked) (n : ℕ) → listing_text asked (list.replicate (suc n) 3) ≡ bytes "; version\n"
unfolding listing_text
other_version asked n = refl

-- the answer goes by the length alone
answer_by_length : (asked : Asked) (n b : ℕ) → ltb 2 asked.mode ≡ false → answer_of (listing_refusals asked (list.replicate n b)) ≡ cond (ltb 16_777_216 n) 2 0
unfolding listing_refusals
answer_by_length asked n b known = rw (known, list.length-replicate n b)

module _ (mode n : ℕ) (known : ltb 2 mode ≡ false) where
  short : ltb 16_777_216 (suc n) ≡ false → Says (listing_outcome (asking mode) (list.replicate (suc n) 3)) (prints "; version\n")
  short e =
      listing-says (prints "; version\n") (asking mode) (list.replicate (suc n) 3)
      (rw (answer_by_length (asking mode) (suc n) 3 known, e, other_version (asking mode) n))

  long : ltb 16_777_216 (suc n) ≡ true → Says (listing_outcome (asking mode) (list.replicate (suc n) 3)) (answers 2)
  long e =
      listing-says (answers 2) (asking mode) (list.replicate (suc n) 3) (rw (answer_by_length (asking mode) (suc n) 3 known, e))

pub limits_hold : All Holds limit_rows
unfolding limit_rows
limits_hold =
    ((short 0 16_777_215 refl refl, (short 1 16_777_215 refl refl, tt)), ((long 0 16_777_216 refl refl, (long 1 16_777_216 refl refl, tt)), tt))
