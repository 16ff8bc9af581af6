-- `listings::record::print_record` meets its contract: at once where the longest line has room, else aside first. No bytes are refused.
-- Assumes nothing.
use mathlib.Core.Path.{refl, sym}
use native.Mathlib.Omega.{arith}
use borrow.Author.Tests.{eqb-true}
use Rattle.std.specs.Prelude.{Some, None}
use Rattle.std.proofs.lemmas.Result.{err_from_is_err_and}
use Rattle.records.proofs.Texts.{alone_gives}
use Rattle.records.proofs.Empty.{empty_gives}
use Rattle.listings.proofs.Walking.{alone_fits, alone_answer, alone_put}
use Rattle.listings.proofs.record.print_record.Goals as goal

pub returns-then-is_empty : goal.returns-then-is_empty
returns-then-is_empty c =
    empty_gives c.args.asked c.args.body.now c.args.text.now (eqb-true _ 0 (sym c.if-is_empty.ensures)) c.of_no_bytes.ensures

pub walk-requires-clause-walkable : goal.walk-requires-clause-walkable
walk-requires-clause-walkable c = alone_fits c.args.asked c.args.body.now _ (omega (arith, c.if-text-ge-LONGEST_LINE.true))

pub returns-in_err-printed : goal.returns-in_err-printed
returns-in_err-printed c =
    let p = err_from_is_err_and c.from_residual.result c.from_residual.ensures.1 in
    let e = alone_answer c.walk.ensures c.in_err-printed.ensures.err in
    rw (p.1, p.2) (alone_gives c.args.asked c.args.body.now (Some _) c.if-text-ge-LONGEST_LINE.true e (alone_put c.walk.ensures refl))

pub returns-then-text-ge-LONGEST_LINE : goal.returns-then-text-ge-LONGEST_LINE
returns-then-text-ge-LONGEST_LINE c =
    let ok = c.in_ok-printed.ensures.ok in
    alone_gives c.args.asked c.args.body.now None c.if-text-ge-LONGEST_LINE.true (alone_answer c.walk.ensures ok.0) (alone_put c.walk.ensures ok.1)
