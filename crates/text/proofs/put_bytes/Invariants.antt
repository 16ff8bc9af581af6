-- `text::put_bytes` meets its contract. The loop's invariant: the first `i` bytes of the text are written, and nothing else is.
-- Assumes nothing.
use mathlib.Core.Path.{◌≡◌}
use lib.ListN.{length, take}
use Rattle.text.specs.Write.{write}
use Rattle.text.proofs.put_bytes.Given as goal

abbrev pub invariant-loop-i : goal.invariant-loop-i
invariant-loop-i l = (length l.buf ≡ length l.initial.buf) × (l.buf ≡ write l.initial.buf l.at (take l.i l.t))
