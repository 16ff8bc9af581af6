-- Demand 3 for the programs: what a program writes of a listing reads line by line as what each record shows.
-- Assumes nothing.
use mathlib.Core.List.{List, []}
use Prim.Native.Nat.{ℕ}
use Rattle.text.specs.Words.{join}
use Rattle.bodies.specs.WellFormed.{Bytes}
use Rattle.records.specs.declared.Asked.{Asked}
use Rattle.streams.specs.Stream.{Streams}
use Rattle.streams.specs.declared.Stage.TheVariants.{Version}
use Rattle.streams.proofs.Streaming.{streamed}
use Rattle.readback.specs.Listings.{listing_shows, ReadsAs}
use Rattle.readback.proofs.Listings.{text_reads_back}

-- In every mode, of every version, and in whatever parts the listing arrives.
pub stream_reads_back : (asked : Asked) (start : ℕ) {reads : List (List ℕ)} {written : List ℕ} → Bytes (join reads)
    → Streams asked Version [] reads written → ReadsAs start written (listing_shows asked (join reads))
stream_reads_back asked start {reads} small s = rw (streamed asked small s) (text_reads_back asked start (join reads) small)
