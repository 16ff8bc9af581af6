-- No line of a listing with the place of each record is longer than MASM takes.
-- Assumes nothing.
use mathlib.Core.Path.{◌≡◌, sym, ap, subst, ◌∙◌}
use mathlib.Core.Bool.{Bool, true, false}
use mathlib.Core.List.{List, [], ◌∷◌, ◌++◌, append_assoc}
use Prim.Native.Nat.{ℕ, zero, suc, ◌+◌, ◌*◌, ◌^◌, ◌≤◌, ◌<◌}
use native.Mathlib.Nat.{mod-lt}
use native.Mathlib.Omega.{arith}
use borrow.Author.Tests.{ltb-true, ltb-false}
use lib.Dec.{T, ltb, lit≤, lit<}
use lib.ListN.{length, drop, length-append, length-drop}
use Rattle.text.specs.Words.{bytes}
use Rattle.text.proofs.Choosing.{cond_by}
use Rattle.answers.specs.Lines.{newline}
use Rattle.frames.specs.Frames.{body_length, body_of, known_version}
use Rattle.bodies.specs.WellFormed.{Bytes}
use Rattle.records.specs.Records.{in_version}
use Rattle.records.specs.declared.Asked.{Asked}
use Rattle.streams.proofs.Streaming.{part_cut}
use Rattle.located.specs.Parts.{pair, pairs, body_text, head_line, shown_text, comment_text, record_part}
use Rattle.located.specs.Located.{wrapped, parts_of, located_text}
use Rattle.located.proofs.BodyTexts.{length-pair}
use Rattle.located.proofs.RecordParts.{shown_short, head_short}
use Rattle.located.proofs.PartLaws.{parts-part, parts_whole}
use Rattle.masm.proofs.Tokens.{unbroken}
use Rattle.readback.specs.Listings.{lines_in}
use Rattle.readback.specs.Located.{Short, line_limit}
use Rattle.readback.proofs.OneByOne.{bytes_take, bytes_drop, first_line}
use Rattle.readback.proofs.Located.{shown_unbroken, pair-unbroken, head_text, head_text_lem, head_unbroken}
use Rattle.readback.proofs.Unbroken.{unbroken-append}

abbrev ShortText : List ℕ → Type 0
ShortText t = Short (lines_in t)

-- a line, and what comes after its newline
one_more : (t rest : List ℕ) → T (unbroken t) → length t ≤ line_limit → ShortText rest → ShortText (t ++ 10 ∷ rest)
one_more t rest one short h = rw (first_line t rest one) (short, h)

-- a line, and then a body, of which so many bytes more stand on the line
rows_short : (bs : List ℕ) (room : ℕ) (t rest : List ℕ) → T (unbroken t) → length t + 3 * room ≤ line_limit → ShortText rest → ShortText (t ++ (pairs room bs ++ 10 ∷ rest))
unfolding pairs
rows_short [] room t rest one short h = one_more t rest one (omega (arith, short)) h
rows_short (b ∷ bs) zero t rest one short h =
    let row = bytes "; +" ++ pair b in
    let more : ShortText (row ++ (pairs 39 bs ++ 10 ∷ rest)) = rows_short bs 39 row rest (pair-unbroken b) (omega (arith, length-pair b, length-append (bytes "; +") (pair b))) h in
    one_more t ((row ++ pairs 39 bs) ++ 10 ∷ rest) one (omega (arith, short)) (subst ShortText (sym (append_assoc row (pairs 39 bs) (10 ∷ rest))) more)
rows_short (b ∷ bs) (suc room) t rest one short h =
    let same : t ++ ((pair b ++ pairs room bs) ++ 10 ∷ rest) ≡ (t ++ pair b) ++ (pairs room bs ++ 10 ∷ rest) = simp append_assoc in
    rw same (rows_short bs room (t ++ pair b) rest (unbroken-append t (pair b) one (pair-unbroken b)) (omega (arith, short, length-append t (pair b), length-pair b)) h)

body_short : (bs t rest : List ℕ) → T (unbroken t) → length t + 120 ≤ line_limit → ShortText rest → ShortText (t ++ (body_text bs ++ 10 ∷ rest))
unfolding body_text
body_short [] t rest one short h =
    rw (← (append_assoc t (bytes " empty") (10 ∷ rest)))
    (one_more (t ++ bytes " empty") rest (unbroken-append t (bytes " empty") one tt) (omega (arith, short, length-append t (bytes " empty"))) h)
body_short (b ∷ bs) t rest one short h = rows_short (b ∷ bs) 40 t rest one (omega (arith, short)) h

module _ (asked : Asked) where
  part-lines_short : (number offset : ℕ) (body rest : List ℕ) → number < 2 ^ 64 → offset < 2 ^ 64 → Bytes body → ShortText rest → ShortText (record_part asked number offset body ++ rest)
  unfolding record_part comment_text
  part-lines_short number offset body rest a b small h =
      let shown = shown_text asked body in
      let line = shown ++ bytes " ;" in
      let more = line ++ (body_text body ++ 10 ∷ rest) in
      let same : record_part asked number offset body ++ rest ≡ head_line number offset ++ more = simp append_assoc in
      let after : ShortText more = body_short body line rest (unbroken-append shown (bytes " ;") (shown_unbroken asked body small) tt) (omega (arith, shown_short asked body, length-append shown (bytes " ;"))) h in
      let long : length (head_text number offset) ≤ line_limit = omega (arith, head_short number offset a b, ap length (head_text_lem number offset), length-append (head_text number offset) newline) in
      let head : record_part asked number offset body ++ rest ≡ head_text number offset ++ 10 ∷ more = same ∙ ap (λ (t : List ℕ). t ++ more) (head_text_lem number offset) ∙ append_assoc (head_text number offset) newline more in
      subst ShortText (sym head) (one_more (head_text number offset) more (head_unbroken number offset) long after)

  within_64 : (n : ℕ) → wrapped n < 2 ^ 64
  within_64 n = mod-lt n (lit< tt)

  cut_short : (number offset : ℕ) (xs : List ℕ) → length xs < 2 + body_length xs → ShortText (parts_of asked number offset xs)
  cut_short number offset xs h =
      rw (parts-part asked number offset xs (part_cut xs h)) (cond_by ShortText (ltb 0 (length xs)) (λ e. (lit≤ tt, tt)) (λ e. tt))

  parts_short : (k number offset : ℕ) (xs : List ℕ) → length xs ≤ k → number < 2 ^ 64 → offset < 2 ^ 64 → Bytes xs → ShortText (parts_of asked number offset xs)
  parts_short zero number offset xs h a b small = cut_short number offset xs (omega (arith, h))
  parts_short (suc k) number offset xs h a b small =
      let size = 2 + body_length xs in
      cond_by (λ (c : Bool). ShortText (parts_of asked number offset xs)) (ltb (length xs) size) {x = true} {y = false}
      (λ e. cut_short number offset xs (ltb-true (length xs) size e))
      (λ e.
      let whole : size ≤ length xs = ltb-false (length xs) size e in
      rw (parts_whole asked number offset xs whole)
      (part-lines_short number offset (body_of xs) _ a b (bytes_take (body_length xs) (drop 2 xs) (bytes_drop 2 xs small))
      (parts_short k (wrapped (number + 1)) (wrapped (offset + size)) (drop size xs) (omega (arith, h, whole, length-drop size xs)) (within_64 (number + 1)) (within_64 (offset + size)) (bytes_drop size xs small))))

-- MASM takes lines of up to 512 letters: no line of the text is longer.
pub located_lines_short : (asked : Asked) (listing : List ℕ) → Bytes listing → Short (lines_in (located_text asked listing))
unfolding located_text
located_lines_short asked [] small = (lit≤ tt, tt)
located_lines_short asked (version ∷ xs) small =
    cond_by ShortText (known_version version)
    (λ e. parts_short (in_version version asked) (length xs) 0 1 xs (omega arith) (lit< tt) (lit< tt) (λ at. small (suc at)))
    (λ e. (lit≤ tt, tt))
