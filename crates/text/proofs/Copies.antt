-- A word put by two copies of the same number of letters, the first letters and the last, which may overlap.
-- Assumes nothing.
use mathlib.Core.Path.{◌≡◌, sym, ap, ◌∙◌}
use mathlib.Core.List.{List, ◌++◌}
use Prim.Native.Nat.{ℕ, ◌+◌, ◌-◌, ◌≤◌}
use native.Mathlib.Nat.{add-sub_cancel_left}
use native.Mathlib.Omega.{arith}
use lib.ListN.{length, get_or, take, drop, length-append}
use lib.Seq.{take-add, drop-drop}
use Rattle.text.specs.Write.{write}
use Rattle.text.specs.Code.{Room, Put}
use Rattle.text.specs.Code.{part, word_at, Stands}
use Rattle.text.proofs.Writing.{length-write, write_over}
use Rattle.text.proofs.Tables.{length_part, length-word}

-- two parts, one after the other
part-part : (letters : List ℕ) {from middle to : ℕ} → from ≤ middle → middle ≤ to → part letters from middle ++ part letters middle to ≡ part letters from to
unfolding part
part-part letters {from} {middle} {to} h k =
    let whole : to - from ≡ (middle - from) + (to - middle) = omega arith in
    let second : middle ≡ from + (middle - from) = omega arith in
    rw whole
    (ap (λ (n : ℕ). take (middle - from) (drop from letters) ++ take (to - middle) (drop n letters)) second
    ∙ ap (λ (t : List ℕ). take (middle - from) (drop from letters) ++ take (to - middle) t) (sym (drop-drop (middle - from) from letters))
    ∙ sym (take-add (middle - from) (to - middle) (drop from letters)))

-- a word that has room, and the two copies of m of its letters
module _
    {xs : List ℕ} {at : ℕ} {letters offsets : List ℕ} {k : ℕ}
    (s : Stands letters offsets k) (room : Room xs at (word_at letters offsets k))
    (m : ℕ) (long : m ≤ get_or offsets (k + 1) 0 - get_or offsets k 0) where
  abbrev from : ℕ
  from = get_or offsets k 0

  abbrev to : ℕ
  to = get_or offsets (k + 1) 0

  fits : at + (to - from) ≤ length xs
  fits = rw (← length-word s) room.fits

  pub first_copy : (from + m ≤ length letters) × (at + m ≤ length xs)
  first_copy = (omega (arith, s.ordered, s.within), omega (arith, fits))

  -- the buffer since the first copy
  module _ {ys : List ℕ} (one : ys ≡ write xs at (part letters from (from + m))) where
    first_length : length ys ≡ length xs
    first_length =
        ap length one
        ∙ length-write xs at (part letters from (from + m)) (rw (length_part letters from (from + m) first_copy.0, add-sub_cancel_left from m) first_copy.1)

    pub second_copy : (to - m + m ≤ length letters) × (at + (to - from) - m + m ≤ length ys)
    second_copy = (omega (arith, s.ordered, s.within), rw first_length (omega (arith, fits)))

    pub two-copies :
        {zs : List ℕ} →
        to - from ≤ m + m →
        zs ≡ write ys (at + (to - from) - m) (part letters (to - m) (to - m + m)) →
        Put xs at (word_at letters offsets k) (at + (to - from)) zs
    unfolding word_at
    two-copies short two =
        let u = part letters from (to - m) in
        let v = part letters (to - m) (from + m) in
        let t = part letters (to - m) to in
        let front : u ++ v ≡ part letters from (from + m) = part-part letters (omega (arith, s.ordered)) (omega (arith, s.ordered)) in
        let whole : u ++ t ≡ part letters from to = part-part letters (omega (arith, s.ordered)) (omega (arith, s.ordered)) in
        let size-u : length u ≡ to - m - from = length_part letters from (to - m) (omega (arith, s.within)) in
        let size-v : length v ≡ from + m - (to - m) = length_part letters (to - m) (from + m) first_copy.0 in
        let size-t : length t ≡ to - (to - m) = length_part letters (to - m) to s.within in
        let last : to - m + m ≡ to = omega (arith, s.ordered) in
        let place : at + (to - from) - m ≡ at + length u = omega (arith, size-u, s.ordered) in
        record {
          next = ap (λ (n : ℕ). at + n) (sym (length-word s));
          text =
              two
              ∙ ap (λ (n : ℕ). write ys (at + (to - from) - m) (part letters (to - m) n)) last
              ∙ ap (λ (p : ℕ). write ys p t) place
              ∙ ap (λ (y : List ℕ). write y (at + length u) t) (one ∙ ap (write xs at) (sym front))
              ∙ write_over xs at u v t (omega (arith, fits, length-append u v, size-u, size-v, s.ordered)) (omega (arith, size-v, size-t, s.ordered))
              ∙ ap (write xs at) whole;
        }
