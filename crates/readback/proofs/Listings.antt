-- Demand 3 for listings: the text of a listing, cut at its newlines, reads line by line as what each record shows.
-- Assumes nothing.
use mathlib.Core.Path.{◌≡◌, refl, ap₂}
use mathlib.Core.Bool.{Bool, true, false}
use mathlib.Core.List.{List, [], ◌∷◌, ◌++◌, append_assoc, append-nil}
use mathlib.Core.Option.{Option, none}
use Prim.Native.Nat.{ℕ, zero, suc}
use lib.ListN.{length, take, drop}
use Rattle.answers.specs.Lines.{newline}
use Rattle.answers.specs.Outcomes.{Gives}
use Rattle.answers.specs.Reasons.{Answer, number_of_answer, length_of_answer}
use Rattle.frames.specs.Frames.{body_length, is_whole, body_of, frame_size, known_version}
use Rattle.bodies.specs.WellFormed.{Bytes}
use Rattle.lines.specs.declared.Line.{Line}
use Rattle.records.specs.Records.{in_version}
use Rattle.records.specs.declared.Asked.{Asked}
use Rattle.listings.specs.Lines.{front_line, lines_within, lines_of, listing_text}
use Rattle.listings.specs.Listings.{listing_outcome}
use Rattle.listings.proofs.Unique.{listing_meets}
use Rattle.readback.specs.Listings.{front_shows, shows_within, listing_shows, ReadsAs}
use Rattle.readback.proofs.Records.{first_bytes}
use Rattle.readback.proofs.OneByOne.{bytes_take, bytes_drop, first_line, LineReads, cut_reads, version_reads, record_reads}

-- ---- Lines one after the other

module _ (start : ℕ) where
  -- a line in front of others
  one_more : {shown : Option Line} {t : List ℕ} (more : List (Option Line)) (rest : List ℕ) → LineReads shown t → ReadsAs start rest more
      → ReadsAs start (t ++ rest) (shown ∷ more)
  one_more more rest f r =
      rw (f.ends, append_assoc f.line newline rest, first_line f.line rest f.one) (ap₂ ◌∷◌ (f.reads start) r)

  single : {t : List ℕ} → LineReads none t → ReadsAs start t (none ∷ [])
  single {t} f = rw (append-nil t) at (one_more [] [] f refl)

-- ---- Frames

module _ (asked : Asked) where
  -- the line of what stands in front
  front_reads : (xs : List ℕ) → Bytes xs → LineReads (front_shows asked xs) (front_line asked xs)
  unfolding front_line
  front_reads xs small = go (is_whole xs) refl
    where
      go : (b : Bool) → is_whole xs ≡ b → LineReads (front_shows asked xs) (front_line asked xs)
      go true e = rw e (record_reads asked (body_of xs) (bytes_take (body_length xs) (drop 2 xs) (bytes_drop 2 xs small)))
      go false e = rw e cut_reads

  within_reads : (start k : ℕ) (xs : List ℕ) → Bytes xs → ReadsAs start (lines_within k asked xs) (shows_within k asked xs)
  unfolding lines_within
  within_reads start zero xs small = refl
  within_reads start (suc k) [] small = refl
  within_reads start (suc k) (x ∷ xs) small =
      let rest = drop (frame_size (x ∷ xs)) (x ∷ xs) in
      one_more start (shows_within k asked rest) (lines_within k asked rest) (front_reads (x ∷ xs) small)
      (within_reads start k rest (bytes_drop (frame_size (x ∷ xs)) (x ∷ xs) small))

-- ---- The theorems

module _ (asked : Asked) (start : ℕ) where
  -- The text of a listing, cut at its newlines, is one line for each frame, or `; cut` or `; version` alone; and each line reads as what its
  -- record shows, which is of the listing's version, or is a comment.
  pub text_reads_back : (listing : List ℕ) → Bytes listing → ReadsAs start (listing_text asked listing) (listing_shows asked listing)
  unfolding listing_text lines_of
  text_reads_back [] small = single start cut_reads
  text_reads_back (version ∷ xs) small = go (known_version version) refl
    where
      go : (b : Bool) → known_version version ≡ b → ReadsAs start (listing_text asked (version ∷ xs)) (listing_shows asked (version ∷ xs))
      go true e = rw e (within_reads (in_version version asked) start (length xs) xs (λ at. small (suc at)))
      go false e = rw e (single start version_reads)

  -- Where the listing entry answers 0 with a length, so many bytes of the buffer after the call are that text.
  pub listing_reads_back : (listing buf : List ℕ) {after : List ℕ} {given : Answer} → Bytes listing → Gives (listing_outcome asked listing buf) given after
      → number_of_answer given ≡ 0 → ReadsAs start (take (length_of_answer given) after) (listing_shows asked listing)
  listing_reads_back listing buf small g z = rw (first_bytes (listing_meets asked listing buf) g z) (text_reads_back listing small)
