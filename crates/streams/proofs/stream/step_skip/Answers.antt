-- `streams::stream::step_skip` meets its contract, by its one test.
-- Assumes nothing.
use mathlib.Core.Path.{◌∙◌}
use native.Mathlib.Omega.{arith}
use Rattle.text.proofs.Putting.{put_none}
use Rattle.answers.proofs.Lines.{refused_most}
use Rattle.streams.proofs.Stepping.{took, skipped-below, skip_some, skip_all}
use Rattle.streams.proofs.stream.step_skip.Goals as goal

pub returns-then-here-left : goal.returns-then-here-left
returns-then-here-left c = took (skip_some c.args.left c.args.size c.args.version c.args.asked c.args.input.now c.if-here-left.true) put_none

pub put_refused-next-requires : goal.put_refused-next-requires
put_refused-next-requires c = record { n_bound = omega (arith, c.number.ensures, c.skipped_for.ensures, skipped-below c.in_version.result); room = record { fits = omega (arith, refused_most c.number.result) } }

pub returns : goal.returns
returns c = took (skip_all c.args.left c.args.size c.args.version c.args.asked c.args.input.now c.in_version.ensures (c.number.ensures ∙ c.skipped_for.ensures) c.if-here-left.false) c.put_refused-next.ensures
