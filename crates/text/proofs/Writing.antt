-- Laws of `write`: what a text leaves alone, two texts one behind the other, and one byte more at either end of a loop.
-- Assumes nothing.
use mathlib.Core.Path.{◌≡◌, sym, ap, ◌∙◌}
use mathlib.Core.List.{List, [], ◌∷◌, ◌++◌, append_assoc}
use Prim.Native.Nat.{ℕ, suc, ◌+◌, ◌-◌, ◌≤◌, ◌<◌}
use native.Mathlib.Nat.{add_assoc, add-zero}
use native.Mathlib.Numerals.{add-one}
use native.Mathlib.Omega.{arith}
use borrow.Rule.Slice.PartMut.{put_mid}
use lib.ListN.{length, take, drop, get_or, set, length-append, length-drop, length-set, take-append-drop}
use lib.Seq.{length-take-le, take-suc, take_at, drop_at, drop-drop, drop-cons, set_split, take-set-le, drop-set-lt, get_or-set_same}
use Rattle.text.specs.Write.{write}

-- one byte, stored
pub write_byte : (xs : List ℕ) (at : ℕ) (b : ℕ) → at < length xs → set xs at b ≡ write xs at (b ∷ [])
unfolding write
write_byte xs at b room = rw add-one (set_split xs at b room)

module _ (xs : List ℕ) (at : ℕ) where
  -- an empty text changes nothing
  pub write_none : write xs at [] ≡ xs
  unfolding write
  write_none = rw add-zero (take-append-drop at xs)

  module _ (s : List ℕ) (room : at + length s ≤ length xs) where
    -- the bytes up to the end of the text
    front_length : length (take at xs ++ s) ≡ at + length s
    front_length = length-append (take at xs) s ∙ ap (λ (n : ℕ). n + length s) (length-take-le at xs (omega arith))

    write-front : write xs at s ≡ (take at xs ++ s) ++ drop (at + length s) xs
    unfolding write
    write-front = sym (append_assoc (take at xs) s (drop (at + length s) xs))

    -- what stands up to the end of a text, and what stands behind it
    pub take-write : take (at + length s) (write xs at s) ≡ take at xs ++ s
    take-write = rw write-front (take_at (take at xs ++ s) (drop (at + length s) xs) (at + length s) front_length)

    pub drop-write : drop (at + length s) (write xs at s) ≡ drop (at + length s) xs
    drop-write = rw write-front (drop_at (take at xs ++ s) (drop (at + length s) xs) (at + length s) front_length)

    -- the buffer keeps its length
    pub length-write : length (write xs at s) ≡ length xs
    length-write =
        rw write-front
        (length-append (take at xs ++ s) (drop (at + length s) xs)
        ∙ rw (front_length, length-drop (at + length s) xs) (omega arith))

    -- a text, and another right behind it, are the two joined
    pub write-write : (t : List ℕ) → write (write xs at s) (at + length s) t ≡ write xs at (s ++ t)
    unfolding write
    write-write t =
        let behind : drop (at + length s + length t) (write xs at s) ≡ drop (at + length (s ++ t)) xs =
        sym (drop-drop (length t) (at + length s) (write xs at s)) ∙ ap (drop (length t)) drop-write
        ∙ drop-drop (length t) (at + length s) xs
        ∙ ap (λ (n : ℕ). drop n xs) (add_assoc at (length s) (length t) ∙ ap (λ (n : ℕ). at + n) (sym (length-append s t))) in
        ap (λ (p : List ℕ). p ++ (t ++ drop (at + length s + length t) (write xs at s))) take-write
        ∙ ap (λ (q : List ℕ). (take at xs ++ s) ++ (t ++ q)) behind
        ∙ simp append_assoc

    -- a text at the place of one that is no longer leaves nothing of that
    write_same : (t : List ℕ) → length s ≤ length t → write (write xs at s) at t ≡ write xs at t
    unfolding write
    write_same t h =
        let more = length t - length s in
        let end : at + length t ≡ at + length s + more = omega arith in
        let behind : drop (at + length t) (write xs at s) ≡ drop (at + length t) xs =
        rw end (sym (drop-drop more (at + length s) (write xs at s)) ∙ ap (drop more) drop-write ∙ drop-drop more (at + length s) xs) in
        ap (λ (p : List ℕ). p ++ (t ++ drop (at + length t) (write xs at s))) (take_at (take at xs) (s ++ drop (at + length s) xs) at (length-take-le at xs (omega arith)))
        ∙ ap (λ (q : List ℕ). take at xs ++ (t ++ q)) behind

  module _ (s : List ℕ) (b : ℕ) (room : at + length s < length xs) where
    -- one byte behind a text that stands already: a loop that writes from the front
    pub write_next : set (write xs at s) (at + length s) b ≡ write xs at (s ++ (b ∷ []))
    write_next =
        let placed : at + length s ≤ length xs = omega arith in
        write_byte (write xs at s) (at + length s) b (rw (length-write s placed) room) ∙ write-write s placed (b ∷ [])

    -- a text before a byte that stands already: a loop that writes from the last byte
    pub write_last : write (set xs (at + length s) b) at s ≡ write xs at (s ++ (b ∷ []))
    unfolding write
    write_last =
        let n = at + length s in
        let behind : drop n (set xs n b) ≡ b ∷ drop (suc n) xs =
        drop-cons (set xs n b) n 0 (rw length-set room)
        ∙ rw (get_or-set_same xs n b 0 room, drop-set-lt (suc n) xs n b (omega arith)) in
        let past : at + length (s ++ (b ∷ [])) ≡ suc n = rw length-append (omega arith) in
        rw (take-set-le at xs n b (omega arith), behind, past, append_assoc)

-- a text over the end of one that ends no later
pub write_over :
    (xs : List ℕ) (at : ℕ) (u v t : List ℕ) →
    at + length (u ++ v) ≤ length xs →
    length v ≤ length t →
    write (write xs at (u ++ v)) (at + length u) t ≡ write xs at (u ++ t)
write_over xs at u v t room h =
    let first : at + length u ≤ length xs = omega (arith, length-append u v) in
    ap (λ (ys : List ℕ). write ys (at + length u) t) (sym (write-write xs at u first v))
    ∙ write_same (write xs at u) (at + length u) v (rw (length-write xs at u first) (omega (arith, length-append u v))) t h
    ∙ write-write xs at u first t

-- one byte more of a text that is written from the front
pub write_more : (xs : List ℕ) (at : ℕ) (t : List ℕ) (i : ℕ) → at + length t ≤ length xs → i < length t → set (write xs at (take i t)) (at + i) (get_or t i 0) ≡ write xs at (take (i + 1) t)
write_more xs at t i room h =
    let front : length (take i t) ≡ i = length-take-le i t (omega arith) in
    let byte : take (i + 1) t ≡ take i t ++ (get_or t i 0 ∷ []) = rw add-one (take-suc t i 0 h) in
    rw (byte, ← write_next xs at (take i t) (get_or t i 0) (rw front (omega arith)), front)

-- a part of the buffer that was made the text is written
pub write_copied : {t ys : List ℕ} (xs : List ℕ) (at : ℕ) {k : ℕ} → k ≡ length t → ys ≡ t → put_mid at k xs ys ≡ write xs at t
unfolding write
write_copied {t} {ys} xs at {k} size copied = rw (copied, drop-drop, size)
