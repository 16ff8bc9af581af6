-- Laws of the lines of a listing: the line in front and those after it, and how long they can be.
-- Assumes nothing.
use mathlib.Core.Path.{◌≡◌, refl, sym, ap}
use mathlib.Core.Bool.{Bool, true, false, ◌&&◌, cond}
use mathlib.Core.List.{List, [], ◌∷◌, ◌++◌}
use Prim.Native.Nat.{ℕ, zero, suc, ◌+◌, ◌-◌, ◌*◌, ◌≤◌, ◌<◌}
use native.Mathlib.Nat.{not-suc-le-zero}
use native.Mathlib.Omega.{arith}
use lib.Dec.{leb, lit≤}
use lib.ListN.{length, drop, length-append, length-drop}
use lib.Seq.{length-take-le}
use borrow.Author.Tests.{leb-true}
use Rattle.frames.specs.Frames.{body_length, is_whole, body_of, frame_size}
use Rattle.lines.specs.Text.{longest_line}
use Rattle.records.specs.declared.Asked.{Asked}
use Rattle.records.specs.Lines.{record_line}
use Rattle.listings.specs.Lines.{cut_line, front_line, lines_within, lines_of}
use Rattle.records.proofs.RecordLines.{record_line_short, record_line_within}

-- what stands in front of some bytes is some bytes
cond_some : (b : Bool) (m n : ℕ) → 0 < m → 0 < n → 0 < cond b m n
cond_some true m n h l = h
cond_some false m n h l = l

pub frame_some : (xs : List ℕ) → 0 < length xs → 0 < frame_size xs
frame_some xs h = cond_some (is_whole xs) (2 + body_length xs) (length xs) (omega arith) h

second : (a b : Bool) → (a && b) ≡ true → b ≡ true
second true b e = e
second false b e = cc

whole_within : (xs : List ℕ) → is_whole xs ≡ true → 2 + body_length xs ≤ length xs
whole_within xs e = leb-true (2 + body_length xs) (length xs) (second (leb 2 (length xs)) (leb (2 + body_length xs) (length xs)) e)

-- a frame is no longer than what is left
pub frame_within : (xs : List ℕ) → frame_size xs ≤ length xs
frame_within xs = go (is_whole xs) refl
  where
    go : (b : Bool) → is_whole xs ≡ b → cond b (2 + body_length xs) (length xs) ≤ length xs
    go true e = whole_within xs e
    go false e = omega arith

-- the body of a whole frame has as many bytes as its length says
length-body : (xs : List ℕ) → is_whole xs ≡ true → length (body_of xs) ≡ body_length xs
length-body xs e = length-take-le (body_length xs) (drop 2 xs) (rw length-drop (omega (arith, whole_within xs e)))

module _ (asked : Asked) where
  within_none : (k : ℕ) → lines_within k asked [] ≡ []
  unfolding lines_within
  within_none zero = refl
  within_none (suc k) = refl

  -- it does not matter how many frames are allowed for, if there are enough
  within_any : (k j : ℕ) (xs : List ℕ) → length xs ≤ k → length xs ≤ j → lines_within k asked xs ≡ lines_within j asked xs
  unfolding lines_within
  within_any zero j [] h l = sym (within_none j)
  within_any (suc k) j [] h l = sym (within_none j)
  within_any zero j (x ∷ xs) h l = absurd (not-suc-le-zero h)
  within_any (suc k) zero (x ∷ xs) h l = absurd (not-suc-le-zero l)
  within_any (suc k) (suc j) (x ∷ xs) h l =
      let ys = x ∷ xs in
      let some : 0 < frame_size ys = frame_some ys (omega arith) in
      let left : length (drop (frame_size ys) ys) ≡ length ys - frame_size ys = length-drop (frame_size ys) ys in
      ap (λ (t : List ℕ). front_line asked ys ++ t)
      (within_any k j (drop (frame_size ys) ys) (omega (arith, left, some)) (omega (arith, left, some)))

  pub lines_none : lines_of asked [] ≡ []
  unfolding lines_of
  lines_none = within_none 0

  -- the line in front, and the lines after it
  pub lines_some : (xs : List ℕ) → 0 < length xs → lines_of asked xs ≡ front_line asked xs ++ lines_of asked (drop (frame_size xs) xs)
  unfolding lines_of lines_within
  lines_some [] h = absurd (not-suc-le-zero h)
  lines_some (x ∷ xs) h =
      let ys = x ∷ xs in
      let some : 0 < frame_size ys = frame_some ys h in
      let left : length (drop (frame_size ys) ys) ≡ length ys - frame_size ys = length-drop (frame_size ys) ys in
      ap (λ (t : List ℕ). front_line asked ys ++ t)
      (within_any (length xs) (length (drop (frame_size ys) ys)) (drop (frame_size ys) ys) (omega (arith, left, some)) (omega arith))

  -- no line exceeds the longest and its newline
  pub front_most : (xs : List ℕ) → length (front_line asked xs) ≤ longest_line + 1
  unfolding front_line
  front_most xs = go (is_whole xs)
    where
      go : (b : Bool) → length (cond b (record_line asked (body_of xs)) cut_line) ≤ longest_line + 1
      go true = record_line_short asked (body_of xs)
      go false = lit≤ tt

  -- no line is longer than nine times its frame
  front_short : (xs : List ℕ) → 0 < length xs → length (front_line asked xs) ≤ 9 * frame_size xs
  unfolding front_line
  front_short xs h = go (is_whole xs) refl
    where
      go : (b : Bool) → is_whole xs ≡ b → length (cond b (record_line asked (body_of xs)) cut_line) ≤ 9 * cond b (2 + body_length xs) (length xs)
      go true e = omega (arith, record_line_within asked (body_of xs), length-body xs e)
      go false e = omega (arith, h)

  within_short : (k : ℕ) (xs : List ℕ) → length (lines_within k asked xs) ≤ 9 * length xs
  unfolding lines_within
  within_short zero xs = omega arith
  within_short (suc k) [] = lit≤ tt
  within_short (suc k) (x ∷ xs) =
      let ys = x ∷ xs in
      let rest = drop (frame_size ys) ys in
      omega (
        arith,
        length-append (front_line asked ys) (lines_within k asked rest),
        front_short ys (omega arith),
        within_short k rest,
        length-drop (frame_size ys) ys,
        frame_within ys,
      )

  -- so the lines of all frames are no longer than nine times the listing
  pub lines_short : (xs : List ℕ) → length (lines_of asked xs) ≤ 9 * length xs
  unfolding lines_of
  lines_short xs = within_short (length xs) xs
