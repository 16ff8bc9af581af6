-- A listing with the place of each record: MASM reads the same instructions in it as in the listing's lines.
-- Assumes nothing.
use mathlib.Core.Path.{◌≡◌, refl, sym, ap, ◌∙◌}
use mathlib.Core.Bool.{Bool, true, false}
use mathlib.Core.List.{List, [], ◌∷◌, ◌++◌, map, append_assoc, append-nil}
use Prim.Native.Nat.{ℕ, zero, suc, ◌+◌, ◌≤◌, ◌<◌}
use native.Mathlib.Omega.{arith}
use borrow.Author.Tests.{eqb-true, ltb-true, ltb-false}
use lib.Dec.{T, eqb, ltb}
use lib.ListN.{length, drop, length-drop}
use Rattle.text.specs.Words.{bytes, join}
use Rattle.text.proofs.Choosing.{cond_by}
use Rattle.numerals.specs.Decimals.{decimal}
use Rattle.answers.specs.Lines.{newline}
use Rattle.answers.specs.Refusals.{answer_of}
use Rattle.frames.specs.Frames.{body_length, body_of, known_version}
use Rattle.bodies.specs.WellFormed.{Bytes}
use Rattle.records.specs.declared.Asked.{Asked}
use Rattle.records.specs.Lines.{record_line}
use Rattle.records.specs.Records.{refusals, in_version}
use Rattle.listings.specs.Lines.{lines_of, listing_text}
use Rattle.streams.specs.declared.Next.{Next}
use Rattle.streams.proofs.Streaming.{part_cut, lines-part, lines_whole}
use Rattle.located.specs.declared.Stage.TheVariants.{Version}
use Rattle.located.specs.Parts.{pair, pairs, body_text, head_line, shown_text, comment_text, record_part}
use Rattle.located.specs.Located.{wrapped, parts_of, located_text}
use Rattle.located.specs.Runs.{Runs}
use Rattle.located.proofs.RecordParts.{shown_line}
use Rattle.located.proofs.PartLaws.{parts-part, parts_whole}
use Rattle.located.proofs.Running.{run_text}
use Rattle.masm.specs.Lines.{Reading, shows, no_instruction, refused, read}
use Rattle.masm.proofs.Tokens.{unbroken}
use Rattle.masm.proofs.Comments.{read_commented}
use Rattle.readback.specs.Listings.{lines_in}
use Rattle.readback.specs.Located.{instructions, instructions_in}
use Rattle.readback.proofs.Readback.{one_line}
use Rattle.readback.proofs.OneByOne.{bytes_take, bytes_drop, first_line, refused_unbroken}
use Rattle.readback.proofs.Unbroken.{unbroken-append, digits-unbroken, decimal-unbroken}

-- a record's line is one line
pub shown_unbroken : (asked : Asked) (body : List ℕ) → Bytes body → T (unbroken (shown_text asked body))
unfolding shown_text
shown_unbroken asked body small =
    cond_by (λ (t : List ℕ). T (unbroken t)) (eqb (answer_of (refusals asked body)) 0)
    (λ e. one_line (record { bytes = small; accepted = eqb-true (answer_of (refusals asked body)) 0 e }))
    (λ e. refused_unbroken (answer_of (refusals asked body)))

pub pair-unbroken : (b : ℕ) → T (unbroken (pair b))
pair-unbroken b = digits-unbroken 2 b

-- the line that says where a record stands, without its newline
abbrev pub head_text : (number offset : ℕ) → List ℕ
head_text number offset = bytes "; record " ++ (decimal number ++ (bytes " at byte " ++ decimal offset))

pub head_text_lem : (number offset : ℕ) → head_line number offset ≡ head_text number offset ++ newline
unfolding head_line
head_text_lem number offset = simp append_assoc

pub head_unbroken : (number offset : ℕ) → T (unbroken (head_text number offset))
head_unbroken number offset =
    unbroken-append (decimal number) (bytes " at byte " ++ decimal offset) (decimal-unbroken number) (decimal-unbroken offset)

module _ (start : ℕ) where
  -- what is read in a text from a line on
  abbrev after : Reading → List ℕ → List Reading
  after r rest = instructions (r ∷ map (read start) (lines_in rest))

  -- a line, and what comes after its newline
  one_more : (t rest : List ℕ) → T (unbroken t) → instructions_in start (t ++ 10 ∷ rest) ≡ after (read start t) rest
  one_more t rest one = ap (λ (ls : List (List ℕ)). instructions (map (read start) ls)) (first_line t rest one)

  -- a comment is no instruction
  commented : (u : List ℕ) → read start (59 ∷ u) ≡ no_instruction
  unfolding read
  commented u = refl

  kept : (r : Reading) (text rest : List ℕ) → instructions_in start text ≡ instructions_in start rest → after r text ≡ after r rest
  kept (shows l) text rest e = ap (λ (rs : List Reading). shows l ∷ rs) e
  kept no_instruction text rest e = e
  kept refused text rest e = ap (λ (rs : List Reading). refused ∷ rs) e

  -- a line that reads as it does whatever follows on it, and then a body
  rows_read : (bs : List ℕ) (room : ℕ) (t rest : List ℕ) (r : Reading) → T (unbroken t) → ((u : List ℕ) → read start (t ++ u) ≡ r) → instructions_in start (t ++ (pairs room bs ++ 10 ∷ rest)) ≡ after r rest
  unfolding pairs
  rows_read [] room t rest r one same =
      one_more t rest one ∙ ap (λ (q : Reading). after q rest) (ap (read start) (sym (append-nil t)) ∙ same [])
  rows_read (b ∷ bs) zero t rest r one same =
      let row = bytes "; +" ++ pair b in
      let more = row ++ (pairs 39 bs ++ 10 ∷ rest) in
      ap (λ (u : List ℕ). instructions_in start (t ++ 10 ∷ u)) (append_assoc row (pairs 39 bs) (10 ∷ rest))
      ∙ one_more t more one
      ∙ ap (λ (q : Reading). after q more) (ap (read start) (sym (append-nil t)) ∙ same [])
      ∙ kept r more rest (rows_read bs 39 row rest no_instruction (pair-unbroken b) (λ u. commented (32 ∷ 43 ∷ (pair b ++ u))))
  rows_read (b ∷ bs) (suc room) t rest r one same =
      ap (λ (u : List ℕ). instructions_in start (t ++ u)) (append_assoc (pair b) (pairs room bs) (10 ∷ rest))
      ∙ ap (instructions_in start) (sym (append_assoc t (pair b) (pairs room bs ++ 10 ∷ rest)))
      ∙ rows_read bs room (t ++ pair b) rest r (unbroken-append t (pair b) one (pair-unbroken b))
      (λ u. ap (read start) (append_assoc t (pair b) u) ∙ same (pair b ++ u))

  -- the same, with a whole body and its newline
  body-read : (bs t rest : List ℕ) (r : Reading) → T (unbroken t) → ((u : List ℕ) → read start (t ++ u) ≡ r) → instructions_in start (t ++ (body_text bs ++ 10 ∷ rest)) ≡ after r rest
  unfolding body_text
  body-read [] t rest r one same =
      ap (instructions_in start) (sym (append_assoc t (bytes " empty") (10 ∷ rest)))
      ∙ one_more (t ++ bytes " empty") rest (unbroken-append t (bytes " empty") one tt)
      ∙ ap (λ (q : Reading). after q rest) (same (bytes " empty"))
  body-read (b ∷ bs) t rest r one same = rows_read (b ∷ bs) 40 t rest r one same

  -- the line that says where a record stands is a comment
  head_read : (number offset : ℕ) (rest : List ℕ) → instructions_in start (head_line number offset ++ rest) ≡ instructions_in start rest
  head_read number offset rest =
      ap (λ (t : List ℕ). instructions_in start (t ++ rest)) (head_text_lem number offset)
      ∙ ap (instructions_in start) (append_assoc (head_text number offset) newline rest)
      ∙ one_more (head_text number offset) rest (head_unbroken number offset)
      ∙ ap (λ (q : Reading). after q rest) (commented (bytes " record " ++ (decimal number ++ (bytes " at byte " ++ decimal offset))))

  module _ (asked : Asked) where
    -- what is said of a record reads as its line
    part-read : (number offset : ℕ) (body rest : List ℕ) → Bytes body → instructions_in start (record_part asked number offset body ++ rest) ≡ after (read start (shown_text asked body)) rest
    unfolding record_part comment_text
    part-read number offset body rest small =
        let shown = shown_text asked body in
        let line = shown ++ bytes " ;" in
        let same : record_part asked number offset body ++ rest ≡ head_line number offset ++ (line ++ (body_text body ++ 10 ∷ rest)) = simp append_assoc in
        ap (instructions_in start) same
        ∙ head_read number offset (line ++ (body_text body ++ 10 ∷ rest))
        ∙ body-read body line rest (read start shown) (unbroken-append shown (bytes " ;") (shown_unbroken asked body small) tt)
        (λ u. ap (read start) (append_assoc shown (bytes " ;") u) ∙ read_commented start shown u)

    line_read : (body rest : List ℕ) → Bytes body → instructions_in start (record_line asked body ++ rest) ≡ after (read start (shown_text asked body)) rest
    line_read body rest small =
        ap (λ (t : List ℕ). instructions_in start (t ++ rest)) (shown_line asked body)
        ∙ ap (instructions_in start) (append_assoc (shown_text asked body) newline rest)
        ∙ one_more (shown_text asked body) rest (shown_unbroken asked body small)

    -- what is cut says the same, and so does a whole frame if what comes after it does
    cut_read : (number offset : ℕ) (xs : List ℕ) → length xs < 2 + body_length xs → instructions_in start (parts_of asked number offset xs) ≡ instructions_in start (lines_of asked xs)
    cut_read number offset xs h =
        ap (instructions_in start) (parts-part asked number offset xs (part_cut xs h) ∙ sym (lines-part asked xs h))

    module _ (number offset : ℕ) (xs : List ℕ) (h : 2 + body_length xs ≤ length xs) (small : Bytes xs) where
      abbrev left : List ℕ
      left = drop (2 + body_length xs) xs

      abbrev parts_left : List ℕ
      parts_left = parts_of asked (wrapped (number + 1)) (wrapped (offset + (2 + body_length xs))) left

      whole-read : instructions_in start parts_left ≡ instructions_in start (lines_of asked left) → instructions_in start (parts_of asked number offset xs) ≡ instructions_in start (lines_of asked xs)
      whole-read rest =
          let body-small = bytes_take (body_length xs) (drop 2 xs) (bytes_drop 2 xs small) in
          ap (instructions_in start) (parts_whole asked number offset xs h)
          ∙ part-read number offset (body_of xs) parts_left body-small
          ∙ kept (read start (shown_text asked (body_of xs))) parts_left (lines_of asked left) rest
          ∙ sym (line_read (body_of xs) (lines_of asked left) body-small)
          ∙ sym (ap (instructions_in start) (lines_whole asked xs h))

    -- frame by frame
    parts-read : (k number offset : ℕ) (xs : List ℕ) → length xs ≤ k → Bytes xs → instructions_in start (parts_of asked number offset xs) ≡ instructions_in start (lines_of asked xs)
    parts-read zero number offset xs h small = cut_read number offset xs (omega (arith, h))
    parts-read (suc k) number offset xs h small =
        let size = 2 + body_length xs in
        cond_by (λ (b : Bool). instructions_in start (parts_of asked number offset xs) ≡ instructions_in start (lines_of asked xs)) (ltb (length xs) size) {x = true} {y = false}
        (λ e. cut_read number offset xs (ltb-true (length xs) size e))
        (λ e.
        let whole : size ≤ length xs = ltb-false (length xs) size e in
        whole-read number offset xs whole small
        (parts-read k (wrapped (number + 1)) (wrapped (offset + size)) (drop size xs) (omega (arith, h, whole, length-drop size xs)) (bytes_drop size xs small)))

  -- ---- The theorems

  module _ (asked : Asked) where
    -- MASM reads in the text of a listing with the place of each record the instructions that it reads in the listing's lines, in their
    -- order, and no other; in both the records are of the listing's version.
    pub located_reads_back : (listing : List ℕ) → Bytes listing → instructions_in start (located_text asked listing) ≡ instructions_in start (listing_text asked listing)
    unfolding located_text listing_text
    located_reads_back [] small = refl
    located_reads_back (version ∷ xs) small =
        cond_by (λ (b : Bool). instructions_in start (located_text asked (version ∷ xs)) ≡ instructions_in start (listing_text asked (version ∷ xs))) (known_version version) {x = true} {y = false}
        (λ e. rw e (parts-read (in_version version asked) (length xs) 0 1 xs (omega arith) (λ at. small (suc at)))) (λ e. rw e)

    -- In whatever parts the listing arrives.
    pub run_reads_back : {reads : List (List ℕ)} {written : List ℕ} {records refused used : ℕ} {last : Next} → Bytes (join reads) → Runs asked false Version [] reads written records refused used last → instructions_in start written ≡ instructions_in start (listing_text asked (join reads))
    run_reads_back {reads} small s = rw (run_text asked s) (located_reads_back (join reads) small)
