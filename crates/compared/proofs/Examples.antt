-- Worked reports, computed from the definitions.
-- Assumes nothing.
use mathlib.Core.Path.{◌≡◌, refl}
use mathlib.Core.List.{List, [], ◌∷◌, ◌++◌}
use Prim.Native.Nat.{ℕ}
use lib.ListN.{length}
use Rattle.text.specs.Words.{bytes, join}
use Rattle.answers.specs.Lines.{refused_text, refused_line}
use Rattle.bodies.specs.Body.{place_of, any_masked, is_extended}
use Rattle.bodies.specs.Refusals.{length_refused, segment_kept, first_kept, second_kept, scale_kept, mask_kept, operand_refused, field_refused}
use Rattle.bodies.specs.Versions.{fields, start_of}
use Rattle.bodies.specs.Decoding.{immediate, disp_in, address_of, operand_of, operand_at, instruction_of}
use Rattle.branches.specs.Sums.{signed, branch_sum, branch_shown}
use Rattle.names.specs.Opcodes.{arms, arm_of, opcodes, mnemonics, mnemonic}
use Rattle.names.specs.Registers.{registers, register_name, segments, segment_name}
use Rattle.names.specs.Labels.{labels, label_word}
use Rattle.places.specs.Places.{operand_shown, item_at, items_at}
use Rattle.arms.specs.Labels.{size_label, general_label}
use Rattle.arms.specs.Decorations.{tail_of, broadcast_refused}
use Rattle.arms.specs.Plans.{spread, general, places_of, decorated, plan_of}
use Rattle.arms.specs.Shape.{shape_refused}
use Rattle.arms.specs.Size.{size_refused}
use Rattle.numerals.specs.Digits.{digit, digits, places_from, places}
use Rattle.numerals.specs.Numerals.{figure, numeral}
use Rattle.numerals.specs.Decimals.{decimal_within, decimal}
use Rattle.lines.specs.Fronts.{label_text, segment_text}
use Rattle.lines.specs.Brackets.{mask_text}
use Rattle.lines.specs.Items.{branch_text, shown_text, broadcast_text, item_text}
use Rattle.lines.specs.Head.{head_of}
use Rattle.lines.specs.Text.{reps_text, prefixes_text, name_text, head_text, parted_text, items_text, tail_word, line_text}
use Rattle.records.specs.declared.Asked.{Asked}
use Rattle.records.specs.Records.{asked_refused, refusals, line_at, record_text}
use Rattle.records.specs.Lines.{record_line}
use Rattle.records.specs.Compared.{body, zeros, one_immediate, jmp, asking}
use Rattle.compared.specs.declared.Side.{Side}
use Rattle.compared.specs.declared.Side.TheVariants.{Sound, Cut}
use Rattle.compared.specs.Events.{Kind, kind_of, Event}
use Rattle.compared.specs.Events.Kind.{only_first}
use Rattle.compared.specs.Report.{Report, walk_within, walk, report_of}
use Rattle.compared.specs.Text.{kind_text, event_text, events_text, side_text, count_line, end_text, report_text, comparison}

-- bodies of fewer than 256 bytes, each after its length
abbrev framed : List (List ℕ) → List ℕ
framed [] = []
framed (b ∷ bs) = 0 ∷ length b ∷ (b ++ framed bs)

-- a listing of them, and what stands after the last
abbrev listing : List (List ℕ) → List ℕ → List ℕ
listing bodies rest = 1 ∷ (framed bodies ++ rest)

-- the same bodies in a listing of version 2
abbrev listing2 : List (List ℕ) → List ℕ
listing2 bodies = 2 ∷ framed bodies

abbrev straight : Asked
straight = asking 1

abbrev push : List ℕ
push = body 33 2 4 (0xFF ∷ 0xFF ∷ 0xFF ∷ 0xFF ∷ []) zeros (one_immediate 3)

abbrev jump : ℕ → List ℕ
jump distance = jmp 3 2 (0 ∷ 0 ∷ 0 ∷ distance ∷ [])

-- its imm is not shown
abbrev nop : ℕ → List ℕ
nop imm = body 80 1 0 (0 ∷ 0 ∷ 0 ∷ imm ∷ []) zeros (0 ∷ [])

-- the lines of these records
record Lines : Type 0 where
  pushed : record_line straight push ≡ bytes "push 0FFFFFFFFh\n"
  jump_126 : record_line straight (jump 126) ≡ bytes "jmp short $+80h\n"
  jump_125 : record_line straight (jump 125) ≡ bytes "jmp short $+7Fh\n"
  nop_0 : record_line straight (nop 0) ≡ bytes "nop\n"
  nop_1 : record_line straight (nop 1) ≡ bytes "nop\n"

lines : Lines
unfolding record_line refusals asked_refused fields start_of record_text line_at place_of any_masked is_extended mask_kept broadcast_refused tail_of decorated places_of mask_text broadcast_text tail_word length_refused field_refused operand_refused segment_kept first_kept second_kept scale_kept shape_refused size_refused arm_of arms opcodes instruction_of operand_at operand_of immediate disp_in address_of plan_of spread general general_label size_label operand_shown item_at items_at signed branch_sum branch_shown head_of digit digits places_from places figure numeral mnemonics mnemonic registers register_name segments segment_name labels label_word label_text segment_text branch_text shown_text item_text reps_text prefixes_text name_text head_text parted_text items_text line_text
lines = record { pushed = refl; jump_126 = refl; jump_125 = refl; nop_0 = refl; nop_1 = refl }

-- a report that says nothing of the first side
abbrev named : List Event → Side → Report
named events second = record { events = events; first = Sound; second = second }

abbrev at : ℕ → Kind → Event
at number kind = record { number = number; kind = kind }

-- a record that is the same, one that differs, one of the same line, and one that only the first has
kinds : comparison straight (listing (push ∷ jump 126 ∷ nop 0 ∷ push ∷ []) []) (listing (push ∷ jump 125 ∷ nop 1 ∷ []) [])
    ≡ join (
    bytes "record 1 differs\n"
    ∷ bytes "  first:  jmp short $+80h\n"
    ∷ bytes "  second: jmp short $+7Fh\n"
    ∷ bytes "record 2 differs, same line\n"
    ∷ bytes "  both:   nop\n"
    ∷ bytes "record 3 only in the first\n"
    ∷ bytes "  first:  push 0FFFFFFFFh\n"
    ∷ bytes "differing records: 3\n"
    ∷ []
    )
unfolding comparison report_text end_text count_line side_text events_text event_text kind_text decimal decimal_within report_of walk walk_within
kinds = λ i. report_text 0 (named (at 1 (kind_of (lines.jump_126 i) (lines.jump_125 i)) ∷ at 2 (kind_of (lines.nop_0 i) (lines.nop_1 i)) ∷ at 3 (only_first (lines.pushed i)) ∷ []) Sound)

-- a cut ends the run: the record that only the first has there is not named
cut_second : comparison straight (listing (push ∷ jump 126 ∷ push ∷ []) []) (listing (push ∷ jump 125 ∷ []) (0 ∷ 14 ∷ []))
    ≡ join (
    bytes "record 1 differs\n"
    ∷ bytes "  first:  jmp short $+80h\n"
    ∷ bytes "  second: jmp short $+7Fh\n"
    ∷ bytes "second: ; cut\n"
    ∷ bytes "differing records: 1\n"
    ∷ []
    )
unfolding comparison report_text end_text count_line side_text events_text event_text kind_text decimal decimal_within report_of walk walk_within
cut_second = λ i. report_text 0 (named (at 1 (kind_of (lines.jump_126 i) (lines.jump_125 i)) ∷ []) Cut)

-- a version byte that is not known, and a listing without one
starts : comparison straight (3 ∷ []) [] ≡ join (bytes "first: ; version\n" ∷ bytes "second: ; cut\n" ∷ bytes "differing records: 0\n" ∷ [])
unfolding comparison report_text end_text count_line side_text events_text decimal decimal_within report_of
starts = refl

-- the same records
equal : comparison straight (listing (push ∷ nop 0 ∷ []) []) (listing (push ∷ nop 0 ∷ []) []) ≡ bytes "differing records: 0\n"
unfolding comparison report_text end_text count_line side_text events_text decimal decimal_within report_of walk walk_within
equal = refl

-- the same bodies under two versions are the same records
both_versions : comparison straight (listing (push ∷ nop 0 ∷ []) []) (listing2 (push ∷ nop 0 ∷ [])) ≡ bytes "differing records: 0\n"
unfolding comparison report_text end_text count_line side_text events_text decimal decimal_within report_of walk walk_within
both_versions = refl

-- in mode 2 no body of version 1 has an address, and one byte is no body of version 2
record TargetLines : Type 0 where
  of_1 : record_line (record { mode = 2; version = 1 }) [] ≡ bytes "; refused 1\n"
  of_2 : record_line (record { mode = 2; version = 2 }) (0 ∷ []) ≡ bytes "; refused 2\n"

target_lines : TargetLines
unfolding record_line refused_line refused_text refusals asked_refused fields length_refused
target_lines = record { of_1 = refl; of_2 = refl }

-- each side's line is by its own version
own_versions : comparison (asking 2) (listing ([] ∷ []) []) (listing2 ((0 ∷ []) ∷ []))
    ≡ join (
    bytes "record 0 differs\n"
    ∷ bytes "  first:  ; refused 1\n"
    ∷ bytes "  second: ; refused 2\n"
    ∷ bytes "differing records: 1\n"
    ∷ []
    )
unfolding comparison report_text end_text count_line side_text events_text event_text kind_text decimal decimal_within report_of walk walk_within
own_versions = λ i. report_text 0 (named (at 0 (kind_of (target_lines.of_1 i) (target_lines.of_2 i)) ∷ []) Sound)
