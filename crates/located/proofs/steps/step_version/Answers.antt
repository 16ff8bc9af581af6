-- `located::steps::step_version` meets its contract: no byte, a version that is known, or another.
-- Assumes nothing.
use Rattle.std.proofs.Common.{sym, ◌∙◌, arith, lit≤, drop_of_length-le}
use Rattle.text.proofs.Putting.{put_none}
use Rattle.located.proofs.Going.{goes_known, goes_unknown, steps_none, steps_version}
use Rattle.located.proofs.steps.step_version.Goals as goal

pub returns-then-input-eq0 : goal.returns-then-input-eq0
returns-then-input-eq0 c = steps_none (drop_of_length-le c.args.input.now {i = 0} (omega (arith, c.if-input-eq0.true)))

pub returns-then-known_version : goal.returns-then-known_version
returns-then-known_version c = steps_version c.if-input-eq0.false (goes_known c.args.asked c.args.input.now c.if-input-eq0.false c.byte_at-version.ensures.value (sym c.known_version.ensures ∙ c.if-known_version.true)) (lit≤ tt) put_none

pub returns : goal.returns
returns c = steps_version c.if-input-eq0.false (goes_unknown c.args.asked c.args.input.now c.if-input-eq0.false c.byte_at-version.ensures.value (sym c.known_version.ensures ∙ c.if-known_version.false)) (lit≤ tt) c.put_bytes-next.ensures
