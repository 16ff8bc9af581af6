-- `text::put_bytes` meets its contract, by the invariant.
-- Assumes nothing.
use mathlib.Core.Path.{refl, sym}
use native.Mathlib.Omega.{arith}
use lib.ListN.{length-set}
use Rattle.text.proofs.Writing.{write_none, write_more}
use Rattle.text.proofs.Putting.{put_whole}
use Rattle.text.proofs.put_bytes.Goals as goal

pub loop-i-init : goal.loop-i-init
loop-i-init c = (refl, sym (write_none _ _))

pub loop-i-preserved : goal.loop-i-preserved
loop-i-preserved c = let a = c.args in
    let l = c.loop-i in (
      rw length-set l.invariant.0,
      rw l.invariant.1 (write_more a.buf.now a.at a.t.now l.i c.requires.fits c.loop-i-test.true),
    )

pub returns : goal.returns
returns c = let whole = put_whole (omega arith) c.loop-i.invariant.1 in record { next = refl; text = whole.text }
