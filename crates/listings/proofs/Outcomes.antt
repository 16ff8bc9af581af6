-- What a listing comes to, by its mode, its size, its version byte and the room.
-- Assumes nothing.
use Rattle.std.specs.Prelude.{Err}
use mathlib.Core.Path.{◌≡◌, refl}
use mathlib.Core.Bool.{true, false}
use mathlib.Core.List.{List, [], ◌∷◌}
use Prim.Native.Nat.{ℕ, suc, ◌≤◌, ◌<◌}
use native.Mathlib.Omega.{arith}
use lib.ListN.{length, drop}
use borrow.Author.Tests.{lt-ltb, le-ltb}
use Rattle.frames.specs.Frames.{known_version}
use Rattle.frames.specs.Numbers.{byte}
use Rattle.answers.specs.Outcomes.{Gives}
use Rattle.answers.specs.declared.Reason.TheVariants.{Mode, Length}
use Rattle.answers.specs.declared.Refused.TheVariants.{For}
use Rattle.answers.specs.Code.{text_outcome}
use Rattle.records.specs.declared.Asked.{Asked}
use Rattle.records.specs.Records.{in_version}
use Rattle.answers.proofs.Outcomes.{gives_refused}
use Rattle.listings.specs.Lines.{cut_line, version_line, lines_of, listing_text}
use Rattle.listings.specs.Listings.{size_limit, listing_refusals, listing_outcome}

-- a listing by its mode and its size
module _ (asked : Asked) (xs buf : List ℕ) where
  pub listing-mode : 2 < asked.mode → Gives (listing_outcome asked xs buf) (Err (For Mode)) buf
  unfolding listing_outcome listing_refusals
  listing-mode h = gives_refused (listing_text asked xs) buf (rw (lt-ltb 2 asked.mode h))

  pub listing-length : asked.mode ≤ 2 → size_limit < length xs → Gives (listing_outcome asked xs buf) (Err (For Length)) buf
  unfolding listing_outcome listing_refusals
  listing-length m h = gives_refused (listing_text asked xs) buf (rw (le-ltb 2 asked.mode m, lt-ltb size_limit (length xs) h))

  -- else it is its text's
  pub listing_text_lem : {t : List ℕ} → asked.mode ≤ 2 → length xs ≤ size_limit → listing_text asked xs ≡ t → text_outcome t buf ≡ listing_outcome asked xs buf
  unfolding listing_outcome listing_refusals text_outcome
  listing_text_lem m h e = rw (le-ltb 2 asked.mode m, le-ltb size_limit (length xs) h, e)

-- its text by its version byte
pub text_empty : (asked : Asked) (xs : List ℕ) → length xs ≡ 0 → listing_text asked xs ≡ cut_line
unfolding listing_text
text_empty asked [] e = refl
text_empty asked (x ∷ xs) e = absurd (let h : suc (length xs) ≡ 0 = e in omega arith)

pub text_known :
    (asked : Asked) (xs : List ℕ) {version : ℕ} {told : Asked} → (length xs ≡ 0 → ⊥) → version ≡ byte xs 0 → known_version version ≡ true →
    told ≡ in_version version asked →
    listing_text asked xs ≡ lines_of told (drop 1 xs)
unfolding listing_text
text_known asked [] some v e a = absurd (some refl)
text_known asked (x ∷ xs) some v e a = rw (a, ← v, e)

pub text_unknown : (asked : Asked) (xs : List ℕ) {version : ℕ} → (length xs ≡ 0 → ⊥) → version ≡ byte xs 0 → known_version version ≡ false → listing_text asked xs ≡ version_line
unfolding listing_text
text_unknown asked [] some v e = absurd (some refl)
text_unknown asked (x ∷ xs) some v e = rw (← v, e)
