-- `listings::record::print_aside` meets its contract: what was put aside is the text, which then fits or not; or nothing was put.
-- Assumes nothing.
use mathlib.Core.Path.{sym, ap, ◌∙◌}
use mathlib.Core.List.{List}
use Prim.Native.Nat.{ℕ}
use native.Mathlib.Omega.{arith}
use lib.Seq.{length-take-le}
use Rattle.std.proofs.lemmas.Result.{err_from_is_err_and}
use Rattle.answers.specs.Code.{text_outcome}
use Rattle.answers.proofs.Outcomes.{gives_as}
use Rattle.records.proofs.Texts.{alone_short, alone_text, outcome_text, refused_gives, put_front}
use Rattle.listings.proofs.Walking.{alone_fits, alone_answer, alone_put, alone_within}
use Rattle.listings.proofs.record.print_aside.Goals as goal

pub walk-requires-clause-walkable : goal.walk-requires-clause-walkable
walk-requires-clause-walkable c = alone_fits c.args.asked c.args.body.now _ c.requires.longest_line_in_bounds

pub returns-in_err-needed : goal.returns-in_err-needed
returns-in_err-needed c =
    let p = err_from_is_err_and c.from_residual.result c.from_residual.ensures.1 in
    rw (p.1, p.2) (refused_gives c.args.asked c.args.body.now c.args.text.now (alone_answer c.walk.ensures c.in_err-needed.ensures.err))

pub slice_bounds-print_text-end : goal.slice_bounds-print_text-end
slice_bounds-print_text-end c = alone_within c.walk.ensures c.in_ok-needed.ensures.ok.1 c.requires.longest_line_in_bounds

pub slice_bounds-print_text-end-2 : goal.slice_bounds-print_text-end-2
slice_bounds-print_text-end-2 c =
    sym (length-take-le _ _ (alone_within c.walk.ensures c.in_ok-needed.ensures.ok.1 c.requires.longest_line_in_bounds))

pub returns : goal.returns
returns c =
    let a = c.args in
    let ok = c.in_ok-needed.ensures.ok in
    let e = sym (alone_answer c.walk.ensures ok.0) in
    let front = put_front (omega (arith, c.requires.longest_line_in_bounds, alone_short a.asked a.body.now)) (alone_put c.walk.ensures ok.1) in
    gives_as
    (ap (λ (u : List ℕ). text_outcome u a.text.now) (front ∙ alone_text a.asked a.body.now e)
    ∙ outcome_text a.asked a.body.now e a.text.now)
    c.print_text.ensures
