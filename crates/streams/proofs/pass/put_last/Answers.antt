-- `streams::pass::put_last` meets its contract: a line of its own where the listing is cut.
-- Assumes nothing.
use mathlib.Core.Path.{sym, ap}
use Rattle.text.proofs.Putting.{put_none, put_as}
use Rattle.streams.specs.Pass.{last_line}
use Rattle.streams.proofs.pass.put_last.Goals as goal

pub returns-in-Cut : goal.returns-in-Cut
unfolding last_line
returns-in-Cut c = put_as (sym (ap last_line c.in-Cut.is)) c.put_bytes.ensures

pub returns-in-Full : goal.returns-in-Full
unfolding last_line
returns-in-Full c = put_as (sym (ap last_line c.in-Full.is)) put_none

pub returns-in-Read : goal.returns-in-Read
unfolding last_line
returns-in-Read c = put_as (sym (ap last_line c.in-Read.is)) put_none

pub returns-in-Whole : goal.returns-in-Whole
unfolding last_line
returns-in-Whole c = put_as (sym (ap last_line c.in-Whole.is)) put_none

pub returns-in-Unknown : goal.returns-in-Unknown
unfolding last_line
returns-in-Unknown c = put_as (sym (ap last_line c.in-Unknown.is)) put_none
