-- Every row of what the Rust printed holds: computed in one go, and then so for every buffer.
-- Assumes nothing.
use mathlib.Core.Path.{◌≡◌, refl}
use mathlib.Core.List.{List, [], ◌∷◌, ◌++◌, map}
use Prim.Native.Nat.{ℕ}
use Rattle.answers.specs.Refusals.{Refusal}
use Rattle.answers.specs.Lines.{refused_text, refused_line}
use Rattle.bodies.specs.Body.{place_of, any_masked, is_extended}
use Rattle.bodies.specs.Refusals.{length_refused, segment_kept, first_kept, second_kept, scale_kept, mask_kept, operand_refused, field_refused}
use Rattle.bodies.specs.Decoding.{immediate, disp_in, address_of, operand_of, operand_at, instruction_of}
use Rattle.branches.specs.Sums.{signed, branch_sum, branch_shown}
use Rattle.names.specs.Opcodes.{arms, arm_of, opcodes, mnemonics, mnemonic}
use Rattle.names.specs.Registers.{registers, register_name, segments, segment_name}
use Rattle.names.specs.Labels.{labels, label_word}
use Rattle.places.specs.Places.{operand_shown, item_at, items_at}
use Rattle.arms.specs.Labels.{size_label, general_label, lss_label, tbyte_label}
use Rattle.arms.specs.Decorations.{broadcast_count, tail_of, broadcast_refused}
use Rattle.arms.specs.Plans.{spread, general, places_of, decorated, plan_of}
use Rattle.arms.specs.Shape.{shape_refused}
use Rattle.arms.specs.Size.{size_refused}
use Rattle.numerals.specs.Decimals.{decimal_within}
use Rattle.numerals.specs.Digits.{digit, digits, places_from, places}
use Rattle.numerals.specs.Numerals.{figure, numeral, displacement, absolute}
use Rattle.lines.specs.Fronts.{label_text, segment_text}
use Rattle.lines.specs.Brackets.{base_text, scale_text, indexed_text, index_text, tail_text, bracket_text, mask_text}
use Rattle.lines.specs.Items.{absolute_text, branch_text, shown_text, broadcast_text, item_text}
use Rattle.lines.specs.Head.{head_of}
use Rattle.lines.specs.Text.{reps_text, prefixes_text, name_text, head_text, parted_text, items_text, tail_word, line_text}
use Rattle.records.specs.declared.Asked.{Asked}
use Rattle.bodies.specs.Versions.{fields, start_of}
use Rattle.records.specs.Records.{asked_refused, refusals, line_at, record_text}
use Rattle.records.specs.Lines.{record_line}
use Rattle.records.specs.Compared.{asking, All}
use Rattle.records.proofs.PLines.{each}
use Rattle.listings.specs.Lines.{front_line, lines_within, lines_of, listing_text}
use Rattle.listings.specs.Listings.{listing_refusals}
use Rattle.printed.specs.Rows.{Entry, one_record, one_listing, Row, outcome_by, Says, Holds}
use Rattle.printed.specs.Table as t
use Rattle.printed.specs.TableBranch.{branch_rows}
use Rattle.printed.specs.TableGeneral.{general_rows}
use Rattle.printed.specs.TableName.{name_rows}
use Rattle.printed.specs.TableArm.{arm_rows}
use Rattle.printed.specs.TableRefusal.{refusal_rows}
use Rattle.printed.specs.TableListing.{listing_rows}
use Rattle.printed.specs.TableMask.{mask_rows}
use Rattle.printed.specs.TableVector.{vector_rows}
use Rattle.printed.specs.TableLimit.{limit_rows}
use Rattle.printed.proofs.Saying.{Found, found, wanted, record_says, listing-says}
use Rattle.printed.proofs.Limits.{limits_hold}

-- the refusals of an entry point before there is a buffer, and its text
abbrev refusals_by : Entry → Asked → List ℕ → List Refusal
refusals_by one_record asked given = refusals asked given
refusals_by one_listing asked given = listing_refusals asked given

abbrev text_by : Entry → Asked → List ℕ → List ℕ
text_by one_record asked given = record_text asked given
text_by one_listing asked given = listing_text asked given

-- what a row comes to in a mode, and what it says
abbrev found_in : Row → ℕ → Found
found_in r mode = found r.said (refusals_by r.entry (asking mode) r.given) (text_by r.entry (asking mode) r.given)

abbrev wanted_in : Row → ℕ → Found
wanted_in r mode = wanted r.said

-- all rows at once
computed : map (λ (r : Row). map (found_in r) r.modes) t.computed ≡ map (λ (r : Row). map (wanted_in r) r.modes) t.computed
unfolding t.computed branch_rows general_rows name_rows arm_rows refusal_rows listing_rows mask_rows vector_rows place_of any_masked is_extended mask_kept broadcast_refused broadcast_count tail_of decorated places_of decimal_within mask_text broadcast_text tail_word asked_refused fields start_of refusals listing_refusals listing_text lines_of lines_within front_line record_line refused_text refused_line record_text line_at length_refused field_refused operand_refused segment_kept first_kept second_kept scale_kept shape_refused size_refused arm_of arms opcodes instruction_of operand_at operand_of immediate disp_in address_of plan_of spread general general_label size_label lss_label tbyte_label operand_shown item_at items_at signed branch_sum branch_shown head_of digit digits places_from places figure numeral displacement absolute mnemonics mnemonic registers register_name segments segment_name labels label_word label_text segment_text base_text scale_text indexed_text index_text tail_text bracket_text absolute_text branch_text shown_text item_text reps_text prefixes_text name_text head_text parted_text items_text line_text
computed = refl

-- what is found in one of its modes is what the row says there
in_mode_lem : (r : Row) (mode : ℕ) → found_in r mode ≡ wanted_in r mode → Says (outcome_by r.entry (asking mode) r.given) r.said
in_mode_lem r mode e = go r.entry e
  where
    go : (entry : Entry) → found r.said (refusals_by entry (asking mode) r.given) (text_by entry (asking mode) r.given) ≡ wanted r.said → Says (outcome_by entry (asking mode) r.given) r.said
    go one_record e = record_says r.said (asking mode) r.given e
    go one_listing e = listing-says r.said (asking mode) r.given e

all_append : {A : Type 0} (P : A → Type 0) (xs ys : List A) → All P xs → All P ys → All P (xs ++ ys)
all_append P [] ys a b = b
all_append P (x ∷ xs) ys a b = (a.0, all_append P xs ys a.1 b)

-- every row holds, for every buffer
pub as_the_rust : All Holds t.table
unfolding t.table
as_the_rust =
    all_append Holds t.computed limit_rows
    (each (λ (r : Row). map (found_in r) r.modes) (λ (r : Row). map (wanted_in r) r.modes)
    (λ (r : Row). each (found_in r) (wanted_in r) (in_mode_lem r) r.modes) t.computed computed) limits_hold
