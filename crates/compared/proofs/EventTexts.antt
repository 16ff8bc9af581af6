-- Laws of what is said of one record: by cases, in the parts in which it is put, and how long it is.
-- Assumes nothing.
use mathlib.Core.Path.{◌≡◌, sym, ap, ◌∙◌}
use mathlib.Core.Bool.{true, false}
use mathlib.Core.List.{List, [], ◌∷◌, ◌++◌, append-nil}
use Prim.Native.Nat.{ℕ, ◌+◌, ◌^◌, ◌≤◌, ◌<◌}
use native.Mathlib.Omega.{arith}
use lib.Dec.{lit≤}
use lib.ListN.{length, take, length-append}
use Rattle.text.specs.Words.{bytes, same}
use Rattle.text.specs.Code.{Room, Put}
use Rattle.text.proofs.Choosing.{cond_by}
use Rattle.text.proofs.Putting.{put_none, put_as, put_length}
use Rattle.numerals.specs.Decimals.{decimal}
use Rattle.answers.specs.Lines.{newline}
use Rattle.lines.specs.Text.{longest_line}
use Rattle.records.specs.declared.Asked.{Asked}
use Rattle.records.specs.Lines.{record_line}
use Rattle.records.specs.Judged.{text_of}
use Rattle.records.proofs.Texts.{put_front}
use Rattle.records.proofs.RecordLines.{record_line_short}
use Rattle.compared.specs.declared.AskedSides.{AskedSides}
use Rattle.compared.specs.Places.{Found}
use Rattle.compared.specs.Places.Found.{found, none}
use Rattle.compared.specs.Events.{Kind, Naming, kind_of, naming, events_at}
use Rattle.compared.specs.Events.Naming.{named}
use Rattle.compared.specs.Events.Kind.{only_first, only_second}
use Rattle.compared.specs.Text.{capped, kind_text, event_text, events_text, longest_event}
use Rattle.compared.specs.Code.{head_text, differing_text, only_text, LineAside, Notes}
use Rattle.compared.proofs.SideTexts.{capped_same, number_short}

-- an array for the longest line and its newline has room for every record's line
module _ (asked : Asked) (body : List ℕ) {xs : List ℕ} (long : longest_line + 1 ≤ length xs) where
  pub line-room : Room xs 0 (text_of false asked body)
  unfolding text_of
  line-room = record { fits = omega (arith, long, record_line_short asked body) }

  pub line_aside : {r : ℕ} {ys : List ℕ} → Put xs 0 (text_of false asked body) r ys → LineAside asked body r ys
  unfolding text_of
  line_aside put =
      record {
        within = omega (arith, put.next, put_length line-room put, line-room.fits);
        text = put_front (omega (arith, line-room.fits)) put;
      }

-- how long both lines are, or the one that both have
module _ (first second : List ℕ) where
  kind_most : length first ≤ longest_line + 1 → length second ≤ longest_line + 1 → length (kind_text (kind_of first second)) ≤ 671
  unfolding kind_text
  kind_most h l =
      cond_by (λ (kind : Kind). length (kind_text kind) ≤ 671) (same first second)
      (λ e. omega (arith, h))
      (λ e. omega (arith, length-append first (bytes "  second: " ++ second), h, l))

-- the lines that stand at the start of two arrays are the records'
pub kind_aside : {asked asked' : Asked} {first second : List ℕ} {r s : ℕ} {xs ys : List ℕ} → LineAside asked first r xs → LineAside asked' second s ys → kind_text (kind_of (take r xs) (take s ys)) ≡ kind_text (kind_of (record_line asked first) (record_line asked' second))
kind_aside one two = rw (one.text, two.text)

-- "record " and 20 digits
head_most : (number : ℕ) → number < 2 ^ 64 → length (head_text number) ≤ 27
unfolding head_text
head_most number h = omega (arith, length-append (bytes "record ") (decimal number), number_short number h)

-- a step has room for what is said of a record
module _ (sides : AskedSides) (number : ℕ) (fits : number < 2 ^ 64) where
  pub differing_most : (first second : List ℕ) → length (differing_text sides number first second) ≤ longest_event
  unfolding differing_text
  differing_most first second =
      omega (
        arith,
        length-append (head_text number) (kind_text (kind_of (record_line sides.first first) (record_line sides.second second))),
        head_most number fits,
        kind_most (record_line sides.first first) (record_line sides.second second) (record_line_short sides.first first) (record_line_short sides.second second),
      )

  pub differing-room : {xs : List ℕ} {at : ℕ} (first second : List ℕ) → at + longest_event ≤ length xs → Room xs at (differing_text sides number first second)
  differing-room first second long = record { fits = omega (arith, long, differing_most first second) }

module _ (asked : Asked) (number : ℕ) (fits : number < 2 ^ 64) where
  pub only_most : (words body : List ℕ) → length words ≤ 30 → length (only_text asked number words body) ≤ longest_event
  unfolding only_text
  only_most words body h =
      omega (
        arith,
        length-append (head_text number) (words ++ record_line asked body),
        length-append words (record_line asked body),
        head_most number fits,
        h,
        record_line_short asked body,
      )

  pub only_room : {xs : List ℕ} {at : ℕ} (words body : List ℕ) → length words ≤ 30 → at + longest_event ≤ length xs → Room xs at (only_text asked number words body)
  only_room words body h long = record { fits = omega (arith, long, only_most words body h) }

-- what stands before the line of a record that only one side has
abbrev pub first_words : List ℕ
first_words = bytes " only in the first" ++ (newline ++ bytes "  first:  ")

abbrev pub second_words : List ℕ
second_words = bytes " only in the second" ++ (newline ++ bytes "  second: ")

-- What is said of each pair, by its naming. Only a record that is named is counted.
module _ (sides : AskedSides) (number : ℕ) where
  events_same : (a b : List ℕ) → same a b ≡ true → events_at number (naming sides (found a) (found b)) ≡ []
  events_same a b e = rw e

  events_differ : (a b : List ℕ) → same a b ≡ false → events_at number (naming sides (found a) (found b)) ≡ record { number = number; kind = kind_of (record_line sides.first a) (record_line sides.second b) } ∷ []
  events_differ a b e = rw e

  named_text : (kind : Kind) → events_text (events_at number (named kind)) ≡ head_text (capped number) ++ kind_text kind
  unfolding events_text event_text head_text
  named_text kind = append-nil (bytes "record " ++ (decimal (capped number) ++ kind_text kind))

  named_most : (kind : Kind) → length (kind_text kind) ≤ 671 → length (events_text (events_at number (named kind))) ≤ longest_event
  named_most kind h =
      rw (named_text kind)
      (omega (arith, length-append (head_text (capped number)) (kind_text kind), head_most (capped number) (omega arith), h))

  -- a step has room for it, whatever the number
  pub events_most : (first second : Found) → length (events_text (events_at number (naming sides first second))) ≤ longest_event
  unfolding events_text kind_text
  events_most (found a) (found b) =
      cond_by (λ (n : Naming). length (events_text (events_at number n)) ≤ longest_event) (same a b)
      (λ e. lit≤ tt)
      (λ e. named_most (kind_of (record_line sides.first a) (record_line sides.second b)) (kind_most (record_line sides.first a) (record_line sides.second b) (record_line_short sides.first a) (record_line_short sides.second b)))
  events_most (found a) none = named_most (only_first (record_line sides.first a)) (omega (arith, record_line_short sides.first a))
  events_most none (found b) = named_most (only_second (record_line sides.second b)) (omega (arith, record_line_short sides.second b))
  events_most none none = lit≤ tt

  module _ (fits : number < 2 ^ 64) where
    one_text : (kind : Kind) → events_text (events_at number (named kind)) ≡ head_text number ++ kind_text kind
    one_text kind = named_text kind ∙ ap (λ (n : ℕ). head_text n ++ kind_text kind) (capped_same number fits)

    differing_text_lem : (a b : List ℕ) → same a b ≡ false → events_text (events_at number (naming sides (found a) (found b))) ≡ differing_text sides number a b
    unfolding differing_text
    differing_text_lem a b e = rw e (one_text (kind_of (record_line sides.first a) (record_line sides.second b)))

    first_text : (a : List ℕ) → events_text (events_at number (naming sides (found a) none)) ≡ only_text sides.first number first_words a
    unfolding only_text kind_text
    first_text a = one_text (only_first (record_line sides.first a))

    second_text : (b : List ℕ) → events_text (events_at number (naming sides none (found b))) ≡ only_text sides.second number second_words b
    unfolding only_text kind_text
    second_text b = one_text (only_second (record_line sides.second b))

    -- what was put of a record, and how many are named by then
    pub notes_differ : {so_far at r n : ℕ} {xs ys : List ℕ} (a b : List ℕ) → same a b ≡ false → Put xs at (differing_text sides number a b) r ys → n ≡ capped (so_far + 1) → Notes sides number so_far (found a) (found b) xs at (record { out = r; named = n }) ys
    notes_differ a b e put count =
        record {
          put = put_as (sym (differing_text_lem a b e)) put;
          count = rw (events_differ a b e) count;
        }

    pub notes_first : {so_far at r n : ℕ} {xs ys : List ℕ} (a : List ℕ) → Put xs at (only_text sides.first number first_words a) r ys → n ≡ capped (so_far + 1) → Notes sides number so_far (found a) none xs at (record { out = r; named = n }) ys
    notes_first a put count = record { put = put_as (sym (first_text a)) put; count = count }

    pub notes_second : {so_far at r n : ℕ} {xs ys : List ℕ} (b : List ℕ) → Put xs at (only_text sides.second number second_words b) r ys → n ≡ capped (so_far + 1) → Notes sides number so_far none (found b) xs at (record { out = r; named = n }) ys
    notes_second b put count = record { put = put_as (sym (second_text b)) put; count = count }

  -- nothing was put where no record stands, nor of two that are the same
  pub notes_none : {so_far at : ℕ} {xs : List ℕ} → so_far < 2 ^ 64 → Notes sides number so_far none none xs at (record { out = at; named = so_far }) xs
  unfolding events_text
  notes_none fits = record { put = put_none; count = omega (arith, fits) }

  pub notes_same : {so_far at : ℕ} {xs : List ℕ} (a b : List ℕ) → same a b ≡ true → so_far < 2 ^ 64 → Notes sides number so_far (found a) (found b) xs at (record { out = at; named = so_far }) xs
  unfolding events_text
  notes_same a b e fits =
      record {
        put = put_as (sym (ap events_text (events_same a b e))) put_none;
        count = rw (events_same a b e) (omega (arith, fits));
      }
