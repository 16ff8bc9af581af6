-- `bodies::Body::width_at` meets its contract: the kind byte says which table has the width.
-- Assumes nothing.
use native.Mathlib.Omega.{arith}
use lib.ListN.{get_or}
use borrow.Author.Tests.{le-leb, lt-leb}
use Rattle.bodies.specs.Code.{fields_by}
use Rattle.bodies.proofs.InRest.{in_more}
use Rattle.bodies.proofs.ByKind.{width_by_kind}
use Rattle.bodies.proofs.Body.width_at.Goals as goal

pub returns-in-0-to-2 : goal.returns-in-0-to-2
returns-in-0-to-2 c =
    let kind = get_or c.args.self.now.rest.now c.in-Some.at 0 in
    let stands = c.in-Some.ensures.some in
    rw (width_by_kind (fields_by c.args.self.now.front c.args.self.now.rest.now) c.args.k stands.stored, ← stands.place, in_more c.in-Some.at 2, le-leb kind 2 (omega arith)) c.bank_width.ensures

pub returns-in-3-to-8 : goal.returns-in-3-to-8
returns-in-3-to-8 c =
    let kind = get_or c.args.self.now.rest.now c.in-Some.at 0 in
    let stands = c.in-Some.ensures.some in
    rw (width_by_kind (fields_by c.args.self.now.front c.args.self.now.rest.now) c.args.k stands.stored, ← stands.place, lt-leb kind 2 (omega arith), le-leb kind 8 (omega arith)) c.immediate_width.ensures
