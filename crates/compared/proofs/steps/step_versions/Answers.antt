-- `compared::steps::step_versions` meets its contract: a version byte is wanted, both are known, or the run ends.
-- Assumes nothing.
use mathlib.Core.Path.{sym, ◌∙◌}
use native.Mathlib.Omega.{arith}
use lib.ListN.{drop}
use Rattle.compared.proofs.SideTexts.{end_most}
use Rattle.compared.proofs.Stepping.{steps_first, steps_second, wanting_few, steps_unknown, steps_known}
use Rattle.compared.proofs.steps.step_versions.Goals as goal

pub returns-then-is_wanting : goal.returns-then-is_wanting
returns-then-is_wanting c = steps_first c.requires.within (wanting_few c.args.first.ended (drop c.args.first.reader.at c.args.first.reader.listing.now) (sym c.is_wanting.ensures ∙ c.if-is_wanting.true))

pub returns-then-is_wanting-2 : goal.returns-then-is_wanting-2
returns-then-is_wanting-2 c = steps_second c.requires.within (wanting_few c.args.second.ended (drop c.args.second.reader.at c.args.second.reader.listing.now) (sym c.is_wanting-2.ensures ∙ c.if-is_wanting-2.true))

pub put_end-requires : goal.put_end-requires
put_end-requires c = record { fits = omega (arith, c.requires.longest_event_in_bounds, end_most c.start-one.result c.start-other.result 0) }

pub returns-then-not_same : goal.returns-then-not_same
returns-then-not_same c = steps_unknown c.requires.within c.start-one.ensures c.start-other.ensures c.not_same.ensures (sym c.is_wanting.ensures ∙ c.if-is_wanting.false) (sym c.is_wanting-2.ensures ∙ c.if-is_wanting-2.false) c.if-not_same.true c.put_end.ensures

pub returns : goal.returns
returns c = steps_known c.requires.within c.start-one.ensures c.start-other.ensures c.not_same.ensures c.if-not_same.false c.byte_at.ensures.value c.byte_at-2.ensures.value
