-- "Bracket: `[base + index * 4 - 8]`", and document 02's mask after it.
-- Assumes nothing.
use Rattle.std.specs.Prelude.{Bool, List, ◌++◌, ℕ, ltb, ℤ}
use Rattle.text.specs.Choice.{when}
use Rattle.text.specs.Words.{bytes}
use Rattle.numerals.specs.Digits.{digits}
use Rattle.numerals.specs.Numerals.{displacement}
use Rattle.names.specs.Registers.{register_name}
use Rattle.operands.specs.declared.Address.{Address}

-- the base, where the kind has one
unfoldable pub base_text : Bool → ℕ → List ℕ
base_text based base = when based (register_name base)

-- "scale 1 prints no `* 1`"; 2, 4 and 8 are one digit
unfoldable pub scale_text : ℕ → List ℕ
scale_text scale = when (ltb 1 scale) (bytes " * " ++ digits 1 scale)

-- the index and its scale, after the base where there is one
unfoldable pub indexed_text : Bool → ℕ → ℕ → List ℕ
indexed_text based index scale = when based (bytes " + ") ++ (register_name index ++ scale_text scale)

-- the same, where the kind has an index
unfoldable pub index_text : Address → List ℕ
index_text a = when a.indexed (indexed_text a.based a.index a.scale)

-- the displacement, where the kind has one ("disp 0 prints `+ 0`"), and the end
unfoldable pub tail_text : Bool → ℤ → List ℕ
tail_text displaced disp = when displaced (bytes " " ++ displacement disp) ++ bytes "]"

unfoldable pub bracket_text : Address → List ℕ
bracket_text a = bytes "[" ++ (base_text a.based a.base ++ (index_text a ++ tail_text a.displaced a.disp))

-- a mask by its register byte, as `{k1}`; a mask of 0 is not shown
unfoldable pub mask_text : ℕ → List ℕ
mask_text mask = when (ltb 0 mask) (bytes "{" ++ (register_name mask ++ bytes "}"))

-- document 02: a mask is "printed as `{k1}` after the bracket", as `[ebx + esi * 4 - 8]{k1}`; so the twelve memory forms, six without a
-- mask and six with one, are one text
unfoldable pub masked_text : Address → ℕ → List ℕ
masked_text a mask = bracket_text a ++ mask_text mask
