-- `streams::stream::step_version` meets its contract, by its tests.
-- Assumes nothing.
use mathlib.Core.Path.{sym, ◌∙◌}
use Rattle.text.proofs.Putting.{put_none}
use Rattle.streams.proofs.Stepping.{took, version_none, version_known, version_unknown}
use Rattle.streams.proofs.stream.step_version.Goals as goal

pub returns-then-input-eq0 : goal.returns-then-input-eq0
returns-then-input-eq0 c = took (version_none c.args.input.now c.if-input-eq0.true) put_none

pub returns-then-known_version : goal.returns-then-known_version
returns-then-known_version c = took (version_known c.args.input.now c.if-input-eq0.false c.byte_at-version.ensures.value (sym c.known_version.ensures ∙ c.if-known_version.true)) put_none

pub returns : goal.returns
returns c = took (version_unknown c.args.input.now c.if-input-eq0.false c.byte_at-version.ensures.value (sym c.known_version.ensures ∙ c.if-known_version.false)) c.put_bytes-next.ensures
