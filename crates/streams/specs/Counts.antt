-- The whole frames of a listing, counted, and how it ends.
-- Assumes nothing.
use Rattle.std.specs.Prelude.{cond, List, [], ◌∷◌, ℕ, zero, suc, ◌+◌, ltb, length, drop}
use Rattle.answers.specs.Refusals.{answer_of}
use Rattle.frames.specs.Frames.{is_whole, body_of, frame_size, known_version}
use Rattle.records.specs.declared.Asked.{Asked}
use Rattle.records.specs.Records.{in_version, refusals}
use Rattle.streams.specs.Stream.{refused_by}
use Rattle.streams.specs.declared.Next.{Next}
use Rattle.streams.specs.declared.Next.TheVariants.{Whole, Cut, Unknown}

-- a number of each body, added up over at most k whole frames, one after the other
unfoldable pub sum_within : (List ℕ → ℕ) → ℕ → List ℕ → ℕ
sum_within f zero xs = 0
sum_within f (suc k) xs = cond (is_whole xs) (f (body_of xs) + sum_within f k (drop (frame_size xs) xs)) 0

-- over all of them: there are no more than bytes
unfoldable pub sum_of : (List ℕ → ℕ) → List ℕ → ℕ
sum_of f xs = sum_within f (length xs) xs

-- over a listing: "one version byte, 1, then records", or document 02's 2; the number of a body may depend on that version
unfoldable pub listing_sum : (ℕ → List ℕ → ℕ) → List ℕ → ℕ
listing_sum f [] = 0
listing_sum f (version ∷ xs) = cond (known_version version) (sum_of (f version) xs) 0

-- how many whole frames a listing has, and how many of them are refused; a record is asked for in the listing's version
abbrev pub record_count : List ℕ → ℕ
record_count = listing_sum (λ (version : ℕ) (body : List ℕ). 1)

abbrev pub refused_count : Asked → List ℕ → ℕ
refused_count asked = listing_sum (λ (version : ℕ) (body : List ℕ). refused_by (answer_of (refusals (in_version version asked) body)))

-- how many bytes are left after the whole frames, of at most k
unfoldable pub tail_within : ℕ → List ℕ → ℕ
tail_within zero xs = length xs
tail_within (suc k) xs = cond (is_whole xs) (tail_within k (drop (frame_size xs) xs)) (length xs)

unfoldable pub tail_of : List ℕ → ℕ
tail_of xs = tail_within (length xs) xs

-- how a listing ends: whole, cut or of an unknown version; and how many bytes of a frame that is cut are there
pub record Ending : Type 0 where
  pub next : Next
  pub tail : ℕ

abbrev pub ending : Next → ℕ → Ending
ending next tail = record { next = next; tail = tail }

-- of frames: cut where bytes are left after the whole ones
unfoldable pub frames_end : List ℕ → Ending
frames_end xs = ending (cond (ltb 0 (tail_of xs)) Cut Whole) (tail_of xs)

-- of a listing: "an empty listing too" is cut
unfoldable pub listing_end : List ℕ → Ending
listing_end [] = ending Cut 0
listing_end (version ∷ xs) = cond (known_version version) (frames_end xs) (ending Unknown 0)
