-- `text::words::copy` meets its contract: a part of the buffer that is some letters has been written.
-- Assumes nothing.
use mathlib.Core.Path.{◌∙◌}
use Prim.Native.Nat.{◌+◌}
use native.Mathlib.Omega.{arith}
use Rattle.text.specs.Code.{part}
use Rattle.text.proofs.Tables.{length_part}
use Rattle.text.proofs.Writing.{write_copied}
use Rattle.text.proofs.words.copy.Goals as goal

pub returns : goal.returns
unfolding part
returns g c =
    let a = c.args in
    let letters = rw c.unwrap.ensures at c.as_array.ensures.cases in
    let size = length_part a.letters.now a.from (a.from + g.row.N) c.requires.from_in_bounds in
    write_copied a.buf.now a.at (omega (arith, size)) (c.copy_from_slice.ensures.after ∙ letters.same)
