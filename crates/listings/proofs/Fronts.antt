-- What stands in front, of a listing or of a body alone: its text, how many bytes belong to it, and what follows.
-- Assumes nothing.
use Rattle.std.specs.Prelude.{Some, None}
use mathlib.Core.Path.{◌≡◌, refl, sym, ap, ◌∙◌}
use mathlib.Core.Bool.{Bool, true, false}
use mathlib.Core.List.{List, [], ◌++◌, append-nil}
use Prim.Native.Nat.{ℕ, ◌+◌, ◌-◌, ◌≤◌, ◌<◌}
use native.Mathlib.Omega.{arith}
use lib.ListN.{length, take, drop, length-drop}
use lib.Seq.{drop-length, take-length}
use Rattle.answers.specs.Refusals.{answer_of}
use Rattle.frames.specs.Frames.{is_whole, body_of}
use Rattle.frames.specs.Code.{frame}
use Rattle.frames.specs.declared.Frame.{Frame}
use Rattle.frames.proofs.FrameAt.{whole_at, cut_at, size_whole, size_cut}
use Rattle.lines.specs.Text.{longest_line}
use Rattle.records.specs.declared.Asked.{Asked}
use Rattle.records.specs.Lines.{record_line}
use Rattle.records.specs.Records.{refusals}
use Rattle.records.specs.Judged.{text_of}
use Rattle.records.proofs.Texts.{alone_short}
use Rattle.records.proofs.Empty.{empty_text}
use Rattle.listings.specs.Lines.{cut_line, front_line}
use Rattle.listings.specs.Code.{stands_at, front_of, size_of, all_of}
use Rattle.listings.proofs.LineLaws.{frame_within, lines_none, lines_some, front_most}

pub front_whole : (asked : Asked) (xs : List ℕ) → is_whole xs ≡ true → front_line asked xs ≡ record_line asked (body_of xs)
unfolding front_line
front_whole asked xs e = rw e

pub front_cut : (asked : Asked) (xs : List ℕ) → is_whole xs ≡ false → front_line asked xs ≡ cut_line
unfolding front_line
front_cut asked xs e = rw e

-- alone, or a frame: no more bytes than there are
pub size_within : (alone : Bool) (xs : List ℕ) → size_of alone xs ≤ length xs
size_within true xs = omega arith
size_within false xs = frame_within xs

-- no text of it exceeds the longest line and its newline
pub front_of_most : (alone : Bool) (asked : Asked) (xs : List ℕ) → length (front_of alone asked xs) ≤ longest_line + 1
unfolding front_of
front_of_most true asked xs = omega (arith, alone_short asked xs)
front_of_most false asked xs = front_most asked xs

-- no bytes have no text; else it is that of what stands in front, and of what follows
pub all_none : (alone : Bool) (asked : Asked) → all_of alone asked [] ≡ []
unfolding all_of
all_none true asked = empty_text asked
all_none false asked = lines_none asked

pub all_some : (alone : Bool) (asked : Asked) (xs : List ℕ) → 0 < length xs → all_of alone asked xs ≡ front_of alone asked xs ++ all_of alone asked (drop (size_of alone xs) xs)
unfolding all_of front_of
all_some true asked xs h =
    sym (append-nil (text_of true asked xs)) ∙ ap (λ (t : List ℕ). text_of true asked xs ++ t) (sym (ap (text_of true asked) (drop-length xs) ∙ empty_text asked))
all_some false asked xs h = lines_some asked xs h

-- a whole one, from `start` to `end`: where it lies, its text and its answer
pub record WholeOf (alone : Bool) (asked : Asked) (xs : List ℕ) (at start end : ℕ) : Type 0 where
  pub from : start ≤ end
  pub within : end ≤ length xs
  pub to : end ≡ at + size_of alone (drop at xs)
  pub text : text_of alone asked (take (end - start) (drop start xs)) ≡ front_of alone asked (drop at xs)
  pub answer : alone ≡ true → answer_of (refusals asked (take (end - start) (drop start xs))) ≡ answer_of (refusals asked (drop at xs))

pub whole_of : (alone : Bool) (asked : Asked) (xs : List ℕ) (at : ℕ) {start end : ℕ} → at ≤ length xs → stands_at alone xs at ≡ Some (frame start end) → WholeOf alone asked xs at start end
unfolding front_of text_of
whole_of true asked xs at {start} {end} placed e =
    let found : frame at (length xs) ≡ frame start end = cc in
    let from : start ≡ at = sym (ap (λ (f : Frame). f.start) found) in
    let to : end ≡ length xs = sym (ap (λ (f : Frame). f.end) found) in
    let all : take (end - start) (drop start xs) ≡ drop at xs =
    rw (from, to, ← (length-drop at xs)) (take-length (drop at xs)) in
    record {
      from = omega (arith, from, to);
      within = omega (arith, to);
      to = omega (arith, to, length-drop at xs);
      text = ap (text_of true asked) all;
      answer = λ _. ap (λ (b : List ℕ). answer_of (refusals asked b)) all;
    }
whole_of false asked xs at {start} {end} placed e =
    let w = whole_at xs at placed e in
    record {
      from = omega (arith, w.from, w.to);
      within = w.within;
      to = omega (arith, w.to, size_whole (drop at xs) w.whole);
      text = ap (record_line asked) w.body ∙ sym (front_whole asked (drop at xs) w.whole);
      answer = λ q. cc;
    }

-- one that is cut: it is none alone, and all that is left belongs to it
pub record CutOf (alone : Bool) (asked : Asked) (xs : List ℕ) (at : ℕ) : Type 0 where
  pub listed : alone ≡ false
  pub to : length xs ≡ at + size_of alone (drop at xs)
  pub text : cut_line ≡ front_of alone asked (drop at xs)

pub cut_of : (alone : Bool) (asked : Asked) (xs : List ℕ) (at : ℕ) → at ≤ length xs → stands_at alone xs at ≡ None → CutOf alone asked xs at
unfolding front_of
cut_of true asked xs at placed e = absurd (let z : ◌≡◌ {A = ℕ} 0 1 = cc in omega arith)
cut_of false asked xs at placed e =
    let cut = cut_at xs at e in
    record {
      listed = refl;
      to = omega (arith, size_cut (drop at xs) cut, length-drop at xs);
      text = sym (front_cut asked (drop at xs) cut);
    }
