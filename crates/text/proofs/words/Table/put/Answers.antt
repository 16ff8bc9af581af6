-- `text::words::Table::put` meets its contract: the word that stands at its place, or none past the end.
-- Assumes nothing.
use Prim.Native.Nat.{◌<◌}
use native.Mathlib.Omega.{arith}
use lib.ListN.{length}
use Rattle.text.proofs.Tables.{counted, stands, room-asked, word_put, no_word_put}
use Rattle.text.proofs.words.Table.put.Goals as goal

pub returns-then-k : goal.returns-then-k
returns-then-k g c =
    let ws = g.W.Words.words in
    let s = c.args.self.now in
    no_word_put ws (omega (arith, counted ws s.text s.places))

pub put_word-requires : goal.put_word-requires
put_word-requires g c =
    let ws = g.W.Words.words in
    let s = c.args.self.now in
    let h : c.args.k < length ws = omega (arith, counted ws s.text s.places) in
    record { stands = stands ws s.text s.places c.args.k h; room = room-asked ws s.text s.places c.args.k h c.requires }

pub returns : goal.returns
returns g c =
    let ws = g.W.Words.words in
    let s = c.args.self.now in
    word_put ws s.text s.places c.args.k (omega (arith, counted ws s.text s.places)) c.put_word.ensures
