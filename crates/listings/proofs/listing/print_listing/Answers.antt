-- `listings::listing::print_listing` meets its contract: the refusals in their order, then by the version byte.
-- Assumes nothing.
use mathlib.Core.Path.{sym, ◌∙◌}
use borrow.Author.Tests.{eqb-true, eqb-false}
use Rattle.answers.proofs.Outcomes.{gives_as}
use Rattle.listings.proofs.Outcomes.{listing-mode, listing-length, listing_text_lem, text_empty, text_known, text_unknown}
use Rattle.listings.proofs.listing.print_listing.Goals as goal

pub returns-then-asked-gt2 : goal.returns-then-asked-gt2
returns-then-asked-gt2 c = listing-mode c.args.asked c.args.listing.now c.args.text.now c.if-asked-gt2.true

pub returns-then-listing-gt-SIZE_LIMIT : goal.returns-then-listing-gt-SIZE_LIMIT
returns-then-listing-gt-SIZE_LIMIT c = listing-length c.args.asked c.args.listing.now c.args.text.now c.if-asked-gt2.false c.if-listing-gt-SIZE_LIMIT.true

pub returns-then-is_empty : goal.returns-then-is_empty
returns-then-is_empty c = let a = c.args in
    gives_as (listing_text_lem a.asked a.listing.now a.text.now c.if-asked-gt2.false c.if-listing-gt-SIZE_LIMIT.false (text_empty a.asked a.listing.now (eqb-true _ 0 (sym c.if-is_empty.ensures)))) c.print_text.ensures

pub returns-then-known_version : goal.returns-then-known_version
returns-then-known_version c = let a = c.args in
    gives_as (listing_text_lem a.asked a.listing.now a.text.now c.if-asked-gt2.false c.if-listing-gt-SIZE_LIMIT.false (text_known a.asked a.listing.now (eqb-false _ 0 (sym c.if-is_empty.ensures)) c.byte_at-version.ensures.value (sym c.known_version.ensures ∙ c.if-known_version.true) c.in_version.ensures)) c.print_lines.ensures

pub returns : goal.returns
returns c = let a = c.args in
    gives_as (listing_text_lem a.asked a.listing.now a.text.now c.if-asked-gt2.false c.if-listing-gt-SIZE_LIMIT.false (text_unknown a.asked a.listing.now (eqb-false _ 0 (sym c.if-is_empty.ensures)) c.byte_at-version.ensures.value (sym c.known_version.ensures ∙ c.if-known_version.false))) c.print_text-2.ensures
