-- The bits of a byte of flags.
-- Assumes nothing.
use Rattle.std.specs.Prelude.{Bool, ℕ, ◌/◌, ◌%◌, ◌^◌, eqb}

-- "bit 0 xacquire, 1 xrelease, 2 lock, 3 rep, 4 repnz, 5 operand size", and document 02's "Flag bit 6"; bit 0 is the lowest
abbrev pub bit : ℕ → ℕ → Bool
bit k flags = eqb (flags / 2 ^ k % 2) 1
