-- What stands before an operand: its label and its segment.
-- Assumes nothing.
use Rattle.std.specs.Prelude.{List, ◌++◌, ℕ, ltb}
use Rattle.text.specs.Choice.{when}
use Rattle.text.specs.Words.{bytes}
use Rattle.names.specs.Labels.{label_word}
use Rattle.names.specs.Registers.{segment_name}
use Rattle.operands.specs.declared.Label.{Label}
use Rattle.places.specs.Labels.{label_number}

-- the label's word and " ptr ", none for `None`; a line that lacks its label is never printed
unfoldable pub label_text : Label → List ℕ
label_text label = label_word (label_number label)

-- "Segment .. is 0 for none or 1 to 6 for es cs ss ds fs gs", with a colon
unfoldable pub segment_text : ℕ → List ℕ
segment_text segment = when (ltb 0 segment) (segment_name segment ++ bytes ":")
