-- `text::words::put_word` meets its contract: the part between the word's offsets is handed on as a slice, or put by two copies.
-- Assumes nothing.
use native.Mathlib.Omega.{arith}
use Rattle.text.specs.Code.{part, word_at}
use Rattle.text.proofs.Copies.{first_copy, second_copy, two-copies}
use Rattle.text.proofs.words.put_word.Goals as goal

pub put_bytes-requires : goal.put_bytes-requires
unfolding part word_at
put_bytes-requires c = c.requires.room

pub returns-then-n-lt2 : goal.returns-then-n-lt2
unfolding part word_at
returns-then-n-lt2 c = c.put_bytes.ensures

pub copy-requires-clause-at_in_bounds : goal.copy-requires-clause-at_in_bounds
copy-requires-clause-at_in_bounds c = (first_copy c.requires.stands c.requires.room 2 (omega arith)).1

pub copy-requires-then-n-lt4-clause-at_in_bounds : goal.copy-requires-then-n-lt4-clause-at_in_bounds
copy-requires-then-n-lt4-clause-at_in_bounds c = (second_copy c.requires.stands c.requires.room 2 (omega arith) c.copy.ensures).1

pub returns-then-n-lt4 : goal.returns-then-n-lt4
returns-then-n-lt4 c = two-copies c.requires.stands c.requires.room 2 (omega arith) c.copy.ensures (omega arith) c.copy-then-n-lt4.ensures

pub copy-requires-then-n-lt8-clause-at_in_bounds : goal.copy-requires-then-n-lt8-clause-at_in_bounds
copy-requires-then-n-lt8-clause-at_in_bounds c = (first_copy c.requires.stands c.requires.room 4 (omega arith)).1

pub copy-requires-then-n-lt8-2-clause-at_in_bounds : goal.copy-requires-then-n-lt8-2-clause-at_in_bounds
copy-requires-then-n-lt8-2-clause-at_in_bounds c = (second_copy c.requires.stands c.requires.room 4 (omega arith) c.copy-then-n-lt8.ensures).1

pub returns-then-n-lt8 : goal.returns-then-n-lt8
returns-then-n-lt8 c =
    two-copies c.requires.stands c.requires.room 4 (omega arith) c.copy-then-n-lt8.ensures (omega arith) c.copy-then-n-lt8-2.ensures

pub copy-requires-then-n-le16-clause-at_in_bounds : goal.copy-requires-then-n-le16-clause-at_in_bounds
copy-requires-then-n-le16-clause-at_in_bounds c = (first_copy c.requires.stands c.requires.room 8 (omega arith)).1

pub copy-requires-then-n-le16-2-clause-at_in_bounds : goal.copy-requires-then-n-le16-2-clause-at_in_bounds
copy-requires-then-n-le16-2-clause-at_in_bounds c = (second_copy c.requires.stands c.requires.room 8 (omega arith) c.copy-then-n-le16.ensures).1

pub returns-then-n-le16 : goal.returns-then-n-le16
returns-then-n-le16 c =
    two-copies c.requires.stands c.requires.room 8 (omega arith) c.copy-then-n-le16.ensures (omega arith) c.copy-then-n-le16-2.ensures

pub put_bytes-requires-2 : goal.put_bytes-requires-2
unfolding part word_at
put_bytes-requires-2 c = c.requires.room

pub returns : goal.returns
unfolding part word_at
returns c = c.put_bytes-2.ensures
