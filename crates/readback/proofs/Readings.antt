-- Document 01's lines marked P, and three of mode 2, are read as the table says, and they are those that are proved to be printed.
-- Assumes nothing.
use mathlib.Core.Path.{◌≡◌, refl}
use mathlib.Core.List.{map}
use Rattle.text.specs.Words.{bytes}
use Rattle.records.specs.Compared.{Compared, lines}
use Rattle.masm.specs.Lines.{read}
use Rattle.readback.specs.Lines.{readings}

pub p_lines_read : map (λ e. read 0x1000 (bytes e.0)) readings ≡ map (λ e. e.1) readings
unfolding readings read
p_lines_read = refl

pub p_lines_printed : map (λ (c : Compared). c.line) lines ≡ map (λ e. e.0) readings
unfolding lines readings
p_lines_printed = refl
