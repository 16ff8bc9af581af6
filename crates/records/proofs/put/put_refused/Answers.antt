-- `records::put::put_refused` meets its contract: nothing is put alone, and the line in a listing.
-- Assumes nothing.
use mathlib.Core.Path.{sym, ap}
use mathlib.Core.Bool.{Bool}
use Rattle.answers.specs.Reasons.{number_of}
use Rattle.text.proofs.Putting.{put_none, put_as}
use Rattle.records.specs.Judged.{refused_as}
use Rattle.records.proofs.put.put_refused.Goals as goal

pub returns-then-alone-clause-put : goal.returns-then-alone-clause-put
returns-then-alone-clause-put c = put_as (sym (ap (λ (s : Bool). refused_as s (number_of c.args.reason)) c.if-alone.true)) put_none
