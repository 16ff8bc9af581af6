-- The bytes that are held, from one place of a buffer up to another, and how many of them are left.
-- Assumes nothing.
use mathlib.Core.Path.{◌≡◌, sym, ap, ◌∙◌}
use mathlib.Core.List.{List}
use Prim.Native.Nat.{ℕ, ◌+◌, ◌-◌, ◌≤◌}
use native.Mathlib.Omega.{arith}
use lib.ListN.{length, take, drop, length-drop}
use lib.Seq.{length-take-le, paste}
use native.Mathlib.Nat.{zero-add}
use Rattle.std.proofs.lemmas.List.{drop-take}
use Rattle.std.proofs.lemmas.List.Edits.{take-paste}

module _ (input : List ℕ) (from have : ℕ) (inside : (from ≤ have) × (have ≤ length input)) where
  held_length : length (take (have - from) (drop from input)) ≡ have - from
  held_length = length-take-le (have - from) (drop from input) (omega (arith, length-drop from input, inside.0, inside.1))

  -- what is used of them lies before their end
  pub used_within : (used : ℕ) → used ≤ length (take (have - from) (drop from input)) → from + used ≤ have
  used_within used h = omega (arith, h, held_length, inside.0)

  pub left-length : (used : ℕ) → length (drop used (take (have - from) (drop from input))) ≡ have - (from + used)
  left-length used = omega (arith, length-drop used (take (have - from) (drop from input)), held_length)

-- where they are copied to the front, they stand there
pub moved : (input : List ℕ) (from have : ℕ) → from ≤ have → have ≤ length input → take (have - from) (paste input 0 (drop from input) (have - from)) ≡ drop from (take have input)
moved input from have ordered within =
    let n = have - from in
    ap (λ (k : ℕ). take k (paste input 0 (drop from input) n)) (sym (zero-add n))
    ∙ take-paste input 0 (drop from input) n (omega arith) (omega (arith, length-drop from input, within))
    ∙ sym (drop-take from n input)
    ∙ ap (λ (k : ℕ). drop from (take k input)) (omega (arith, ordered))
