-- Laws of the parts of a listing: the part in front and those after it.
-- Assumes nothing.
use Rattle.std.proofs.Common.{◌≡◌, ℕ, zero, suc, ◌+◌, ◌-◌, ◌<◌, ◌≤◌, Bool, false, cond, ltb, List, [], ◌∷◌, ◌++◌, length, drop, sym, refl, ap, ◌∙◌, not-suc-le-zero, arith, length-drop, lt-ltb}
use Rattle.text.specs.Choice.{when}
use Rattle.frames.specs.Frames.{body_length, is_whole, body_of, frame_size}
use Rattle.frames.proofs.FrameAt.{size_whole}
use Rattle.records.specs.declared.Asked.{Asked}
use Rattle.listings.specs.Lines.{cut_line}
use Rattle.listings.proofs.LineLaws.{frame_some}
use Rattle.streams.proofs.Streaming.{all_whole}
use Rattle.located.specs.Parts.{record_part}
use Rattle.located.specs.Located.{wrapped, parts_within, parts_of}

module _ (asked : Asked) where
  within_none : (k number offset : ℕ) → parts_within k asked number offset [] ≡ []
  unfolding parts_within
  within_none zero number offset = refl
  within_none (suc k) number offset = refl

  -- it does not matter how many records are allowed for, if there are enough
  within_any : (k j number offset : ℕ) (xs : List ℕ) → length xs ≤ k → length xs ≤ j → parts_within k asked number offset xs ≡ parts_within j asked number offset xs
  unfolding parts_within
  within_any zero j number offset [] h l = sym (within_none j number offset)
  within_any (suc k) j number offset [] h l = sym (within_none j number offset)
  within_any zero j number offset (x ∷ xs) h l = absurd (not-suc-le-zero h)
  within_any (suc k) zero number offset (x ∷ xs) h l = absurd (not-suc-le-zero l)
  within_any (suc k) (suc j) number offset (x ∷ xs) h l =
      let ys = x ∷ xs in
      let some : 0 < frame_size ys = frame_some ys (omega arith) in
      let left : length (drop (frame_size ys) ys) ≡ length ys - frame_size ys = length-drop (frame_size ys) ys in
      ap (λ (t : List ℕ). cond (is_whole ys) (record_part asked number offset (body_of ys) ++ t) cut_line)
      (within_any k j (wrapped (number + 1)) (wrapped (offset + frame_size ys)) (drop (frame_size ys) ys) (omega (arith, left, some)) (omega (arith, left, some)))

  -- what is no whole frame is cut, if it is anything
  pub parts-part : (number offset : ℕ) (xs : List ℕ) → is_whole xs ≡ false → parts_of asked number offset xs ≡ when (ltb 0 (length xs)) cut_line
  unfolding parts_of parts_within
  parts-part number offset [] e = refl
  parts-part number offset (x ∷ xs) e = rw (e, lt-ltb 0 (length (x ∷ xs)) (omega arith))

  -- the part of a whole frame, and those after it
  pub parts_whole : (number offset : ℕ) (xs : List ℕ) → 2 + body_length xs ≤ length xs → parts_of asked number offset xs ≡ record_part asked number offset (body_of xs) ++ parts_of asked (wrapped (number + 1)) (wrapped (offset + (2 + body_length xs))) (drop (2 + body_length xs) xs)
  unfolding parts_of parts_within
  parts_whole number offset [] h = absurd (omega (arith, h))
  parts_whole number offset (x ∷ xs) h =
      let ys = x ∷ xs in
      let size = size_whole ys (all_whole ys h) in
      let left : length (drop (frame_size ys) ys) ≡ length ys - frame_size ys = length-drop (frame_size ys) ys in
      ap (λ (b : Bool). cond b (record_part asked number offset (body_of ys) ++ parts_within (length xs) asked (wrapped (number + 1)) (wrapped (offset + frame_size ys)) (drop (frame_size ys) ys)) cut_line) (all_whole ys h)
      ∙ ap (λ (t : List ℕ). record_part asked number offset (body_of ys) ++ t)
      (within_any (length xs) (length (drop (frame_size ys) ys)) (wrapped (number + 1)) (wrapped (offset + frame_size ys)) (drop (frame_size ys) ys) (omega (arith, left, size)) (omega arith)
      ∙ ap (λ (n : ℕ). parts_within (length (drop n ys)) asked (wrapped (number + 1)) (wrapped (offset + n)) (drop n ys)) size)
