-- `text::words::Table::put_short` meets its contract: a word of two or three letters by two copies of two.
-- Assumes nothing.
use Prim.Native.Nat.{◌<◌}
use native.Mathlib.Omega.{arith}
use lib.ListN.{length}
use Rattle.text.proofs.Tables.{counted, stands, room-asked, word_put, no_word_put}
use Rattle.text.proofs.Copies.{first_copy, second_copy, two-copies}
use Rattle.text.proofs.words.Table.put_short.Goals as goal

pub returns-then-k : goal.returns-then-k
returns-then-k g c =
    let ws = g.W.Words.words in
    let s = c.args.self.now in
    no_word_put ws (omega (arith, counted ws s.text s.places))

pub overflow_sub-n : goal.overflow_sub-n
overflow_sub-n g c =
    let ws = g.W.Words.words in
    let s = c.args.self.now in
    (stands ws s.text s.places c.args.k (omega (arith, counted ws s.text s.places))).ordered

pub copy-requires : goal.copy-requires
copy-requires g c =
    let ws = g.W.Words.words in
    let s = c.args.self.now in
    let h : c.args.k < length ws = omega (arith, counted ws s.text s.places) in
    let word = stands ws s.text s.places c.args.k h in
    let room = room-asked ws s.text s.places c.args.k h c.requires in
    let both = first_copy word room 2 c.if-n-ge2.true in record { from_in_bounds = both.0; at_in_bounds = both.1 }

pub copy-requires-then-n-lt4 : goal.copy-requires-then-n-lt4
copy-requires-then-n-lt4 g c =
    let ws = g.W.Words.words in
    let s = c.args.self.now in
    let h : c.args.k < length ws = omega (arith, counted ws s.text s.places) in
    let word = stands ws s.text s.places c.args.k h in
    let room = room-asked ws s.text s.places c.args.k h c.requires in
    let both = second_copy word room 2 c.if-n-ge2.true c.copy.ensures in record { from_in_bounds = both.0; at_in_bounds = both.1 }

pub returns-then-n-lt4 : goal.returns-then-n-lt4
returns-then-n-lt4 g c =
    let ws = g.W.Words.words in
    let s = c.args.self.now in
    let h : c.args.k < length ws = omega (arith, counted ws s.text s.places) in
    let word = stands ws s.text s.places c.args.k h in
    let room = room-asked ws s.text s.places c.args.k h c.requires in
    word_put ws s.text s.places c.args.k h (two-copies word room 2 c.if-n-ge2.true c.copy.ensures (omega arith) c.copy-then-n-lt4.ensures)

pub put_word-requires : goal.put_word-requires
put_word-requires g c =
    let ws = g.W.Words.words in
    let s = c.args.self.now in
    let h : c.args.k < length ws = omega (arith, counted ws s.text s.places) in
    record { stands = stands ws s.text s.places c.args.k h; room = room-asked ws s.text s.places c.args.k h c.requires }

pub returns : goal.returns
returns g c =
    let ws = g.W.Words.words in
    let s = c.args.self.now in
    word_put ws s.text s.places c.args.k (omega (arith, counted ws s.text s.places)) c.put_word.ensures
