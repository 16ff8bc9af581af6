-- Document 01's lines marked P hold: each is computed, and then printed into every buffer with room for it.
-- Assumes nothing.
use mathlib.Core.Path.{◌≡◌, refl, ap}
use mathlib.Core.List.{List, [], ◌∷◌, map}
use Prim.Native.Nat.{ℕ, ◌+◌}
use borrow.Author.Tests.{le-ltb}
use lib.ListN.{length}
use Rattle.text.specs.Words.{bytes}
use Rattle.answers.specs.Refusals.{answer_of}
use Rattle.answers.specs.Outcomes.{outcome_of}
use Rattle.answers.proofs.Firsts.{answer_append}
use Rattle.bodies.specs.Body.{place_of, any_masked, is_extended}
use Rattle.bodies.specs.Refusals.{length_refused, segment_kept, first_kept, second_kept, scale_kept, mask_kept, operand_refused, field_refused}
use Rattle.bodies.specs.Decoding.{immediate, disp_in, address_of, operand_of, operand_at, instruction_of}
use Rattle.bodies.specs.Versions.{fields, start_of}
use Rattle.branches.specs.Sums.{signed, branch_sum, branch_shown}
use Rattle.names.specs.Opcodes.{arms, arm_of, opcodes, mnemonics, mnemonic}
use Rattle.names.specs.Registers.{registers, register_name, segments, segment_name}
use Rattle.names.specs.Labels.{labels, label_word}
use Rattle.places.specs.Places.{operand_shown, item_at, items_at}
use Rattle.arms.specs.Labels.{size_label, general_label}
use Rattle.arms.specs.Decorations.{broadcast_count, tail_of, broadcast_refused}
use Rattle.arms.specs.Plans.{spread, general, places_of, decorated, plan_of}
use Rattle.arms.specs.Shape.{shape_refused}
use Rattle.arms.specs.Size.{size_refused}
use Rattle.numerals.specs.Digits.{digit, digits, places_from, places}
use Rattle.numerals.specs.Numerals.{figure, numeral, absolute, displacement}
use Rattle.lines.specs.Fronts.{label_text, segment_text}
use Rattle.lines.specs.Brackets.{base_text, index_text, tail_text, bracket_text, mask_text}
use Rattle.lines.specs.Items.{branch_text, target_text, shown_text, broadcast_text, item_text}
use Rattle.lines.specs.Head.{head_of}
use Rattle.lines.specs.Text.{reps_text, prefixes_text, name_text, head_text, parted_text, items_text, tail_word, line_text}
use Rattle.records.specs.Records.{asked_refused, refusals, line_at, record_text, record_outcome}
use Rattle.records.specs.Compared.{asking_of, Compared, lines, Prints, All, Holds}
use Rattle.records.proofs.Judging.{refusals-never-zero}

-- what a record comes to before there is a buffer: its answer, or 0, and the text
abbrev Comes : Type 0
Comes = record { answer : ℕ; text : List ℕ }

abbrev comes : (version : ℕ) → List ℕ → ℕ → Comes
comes version body mode = record { answer = answer_of (refusals (asking_of version mode) body); text = record_text (asking_of version mode) body }

abbrev printed : List ℕ → ℕ → Comes
printed text mode = record { answer = 0; text = text }

computed : map (λ (c : Compared). map (comes c.version c.body) c.modes) lines ≡ map (λ (c : Compared). map (printed (bytes c.line)) c.modes) lines
unfolding lines refusals asked_refused fields start_of record_text line_at place_of any_masked is_extended mask_kept broadcast_refused broadcast_count tail_of decorated places_of mask_text broadcast_text tail_word length_refused field_refused operand_refused segment_kept first_kept second_kept scale_kept shape_refused size_refused arm_of arms opcodes instruction_of operand_at operand_of immediate disp_in address_of plan_of spread general general_label size_label operand_shown item_at items_at signed branch_sum branch_shown head_of digit digits places_from places figure numeral displacement mnemonics mnemonic registers register_name segments segment_name labels label_word label_text segment_text base_text index_text tail_text bracket_text branch_text target_text absolute shown_text item_text reps_text prefixes_text name_text head_text parted_text items_text line_text
computed = refl

prints : (version : ℕ) (text : List ℕ) (body : List ℕ) (mode : ℕ) → comes version body mode ≡ printed text mode → Prints (asking_of version mode) body text
unfolding record_outcome outcome_of
prints version text body mode e buf fits =
    let asked = asking_of version mode in
    let none : answer_of (refusals asked body) ≡ 0 = ap (λ (c : Comes). c.answer) e in
    let is : record_text asked body ≡ text = ap (λ (c : Comes). c.text) e in
    rw (is, answer_append (refusals asked body) _ (refusals-never-zero asked body) none, le-ltb (length buf) (length text) fits)

-- two tables that are equal are so entry by entry
pub each : {A B : Type 0} {P : A → Type 0} (f g : A → B) → ((x : A) → f x ≡ g x → P x) → (xs : List A) → map f xs ≡ map g xs → All P xs
each f g h [] e = tt
each f g h (x ∷ xs) e = (h x cc, each f g h xs cc)

pub p_lines : All Holds lines
p_lines =
    each (λ (c : Compared). map (comes c.version c.body) c.modes) (λ (c : Compared). map (printed (bytes c.line)) c.modes)
    (λ (c : Compared). each (comes c.version c.body) (printed (bytes c.line)) (prints c.version (bytes c.line) c.body) c.modes) lines computed

-- A second hold on the table: documents 01 and 02 have 19 lines, and with their modes there are 27 pairs of body and mode.
pub p_lines_rows : length lines ≡ 19
unfolding lines
p_lines_rows = refl

abbrev total : List ℕ → ℕ
total [] = 0
total (n ∷ ns) = n + total ns

pub p_lines_pairs : total (map (λ (c : Compared). length c.modes) lines) ≡ 27
unfolding lines
p_lines_pairs = refl
