-- How MASM reads a line of assembly text, from its characters up. Definitions only: examples and laws are in proofs/.
--
--   line        =  [instruction] [`;` comment]
--   instruction =  {prefix word} mnemonic [operand {`,` operand} [tail]]
--   operand     =  [type `ptr`] register
--               |  [`short` | `near` `ptr` | type `ptr`] [segment `:`] expression [mask] [broadcast]
--   mask        =  `{k0}` | `{k1}` | .. | `{k7}`
--   broadcast   =  `{1to` digits `}`                                             below 2^32
--   tail        =  `{sae}` | `{rn-sae}` | `{rd-sae}` | `{ru-sae}` | `{rz-sae}`
--   expression  =  term {(`+` | `-`) term}
--   term        =  {`+` | `-`} factor {`*` {`+` | `-`} factor}
--   factor      =  part {`(` expression `)` | `[` expression `]`}                what stands side by side is added
--   part        =  number | register | `$` | `(` expression `)` | `[` expression `]`
--   number      =  digits [`h` | `d` | `t` | `o` | `q` | `b` | `y`]              a digit first, and below 2^32
--
-- A register in an expression stands between brackets. `$` is the address of the instruction. An operand with a bracket or a segment is
-- an address; one with `$` is a branch target; any other is a number, which is an immediate where nothing stands before it. `short` and
-- `near ptr` stand before a branch target or a number alone, and say that the branch has 8 or 32 bits for its distance. A mask and a
-- broadcast stand after an address alone.
-- What stands there is read, and not judged for what an instruction can encode: any registers and multiples may stand in a bracket, and
-- a bracket with a lone number is an address.
pub mod Tokens
pub mod Expressions
pub mod Operands
pub mod Lines
