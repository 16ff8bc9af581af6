-- Worked texts, computed from the definitions.
-- Assumes nothing.
use Rattle.std.proofs.Common.{◌≡◌, [], ◌∷◌, ◌++◌, refl}
use Rattle.text.specs.Words.{bytes}
use Rattle.numerals.specs.Digits.{digit, digits}
use Rattle.numerals.specs.Decimals.{decimal_within, decimal}
use Rattle.answers.specs.Lines.{newline}
use Rattle.located.specs.Parts.{pairs, body_text, head_line, comment_text}

heads : head_line 0 1 ∷ head_line 12 288 ∷ [] ≡ (bytes "; record 0 at byte 1" ++ newline) ∷ (bytes "; record 12 at byte 288" ++ newline) ∷ []
unfolding head_line decimal decimal_within
heads = refl

-- no byte, three, and where the line has room for two
comments : comment_text [] ∷ comment_text (0x00 ∷ 0x21 ∷ 0xFF ∷ []) ∷ pairs 2 (0x00 ∷ 0x21 ∷ 0xFF ∷ 0x0A ∷ []) ∷ []
    ≡ (bytes " ; empty" ++ newline) ∷ (bytes " ; 00 21 FF" ++ newline) ∷ (bytes " 00 21" ++ (newline ++ bytes "; + FF 0A")) ∷ []
unfolding comment_text body_text pairs digits digit
comments = refl
