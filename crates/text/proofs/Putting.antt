-- Laws of `Room` and `Put`, by which a function that prints parts one behind the other is proved from the parts' contracts alone.
-- Assumes nothing.
use mathlib.Core.Path.{◌≡◌, refl, sym, ap, subst, ◌∙◌}
use mathlib.Core.List.{List, [], ◌∷◌, ◌++◌}
use Prim.Native.Nat.{ℕ, ◌+◌, ◌≤◌}
use native.Mathlib.Nat.{add-zero}
use native.Mathlib.Omega.{arith}
use lib.ListN.{length, set, take, length-append}
use lib.Seq.{take-length}
use Rattle.text.specs.Write.{write}
use Rattle.text.specs.Code.{Room, Put}
use Rattle.text.proofs.Writing.{write_none, write_byte, length-write, write-write}

-- where two texts have room, the first has
pub first : {xs : List ℕ} {at : ℕ} {s : List ℕ} (t : List ℕ) → Room xs at (s ++ t) → Room xs at s
first {s = s} t room = record { fits = omega (arith, length-append s t, room.fits) }

-- a put keeps the buffer's length
pub put_length : {xs : List ℕ} {at : ℕ} {t : List ℕ} {r : ℕ} {ys : List ℕ} → Room xs at t → Put xs at t r ys → length ys ≡ length xs
put_length {xs} {at} {t} room put = ap length put.text ∙ length-write xs at t room.fits

-- where two texts have room and the first was put, the second has room behind it
pub rest : {xs : List ℕ} {at : ℕ} {s t : List ℕ} {r : ℕ} {ys : List ℕ} → Room xs at (s ++ t) → Put xs at s r ys → Room ys r t
rest {s = s} {t} room put =
    record { fits = omega (arith, length-append s t, room.fits, put.next, put_length (first t room) put) }

-- two puts, one behind the other, are the put of both texts
pub and_then : {xs : List ℕ} {at : ℕ} {s t : List ℕ} {m : ℕ} {ys : List ℕ} {r : ℕ} {zs : List ℕ} → Room xs at (s ++ t) → Put xs at s m ys → Put ys m t r zs → Put xs at (s ++ t) r zs
and_then {xs} {at} {s} {t} {m} {ys} {r} {zs} room one two =
    record {
      next = omega (arith, length-append s t, one.next, two.next);
      text = two.text ∙ rw (one.text, one.next) (write-write xs at s (first {s = s} t room).fits t);
    }

-- nothing was put
pub put_none : {xs : List ℕ} {at : ℕ} → Put xs at [] at xs
put_none {xs} {at} = record { next = sym (add-zero at); text = sym (write_none xs at) }

-- one byte was stored
pub put_stored : {xs : List ℕ} {at b : ℕ} → Room xs at (b ∷ []) → Put xs at (b ∷ []) (at + 1) (set xs at b)
put_stored {xs} {at} {b} room = record { next = refl; text = write_byte xs at b (omega (arith, room.fits)) }

-- a loop from the front has written the whole text
pub put_whole : {xs : List ℕ} {at : ℕ} {t : List ℕ} {i : ℕ} {ys : List ℕ} → i ≡ length t → ys ≡ write xs at (take i t) → Put xs at t (at + i) ys
put_whole {xs} {at} {t} {i} end written =
    record { next = ap (λ (n : ℕ). at + n) end; text = written ∙ ap (write xs at) (ap (λ (n : ℕ). take n t) end ∙ take-length t) }

-- room for a text, and its put, under another name of the same text
pub room_as : {xs : List ℕ} {at : ℕ} {s t : List ℕ} → s ≡ t → Room xs at s → Room xs at t
room_as {xs} {at} e room = subst (λ (u : List ℕ). Room xs at u) e room

pub put_as : {xs : List ℕ} {at : ℕ} {s t : List ℕ} {r : ℕ} {ys : List ℕ} → s ≡ t → Put xs at s r ys → Put xs at t r ys
put_as {xs} {at} {r = r} {ys} e put = subst (λ (u : List ℕ). Put xs at u r ys) e put

-- What is left to be put, of a text that was to be put at the start: a loop's invariant. Whoever puts the rest has put the whole.
pub record Left (start : List ℕ) (from : ℕ) (whole : List ℕ) (xs : List ℕ) (at : ℕ) (t : List ℕ) : Type 0 where
  pub room : Room xs at t
  pub ends : {r : ℕ} {ys : List ℕ} → Put xs at t r ys → Put start from whole r ys

pub left_all : {xs : List ℕ} {at : ℕ} {t : List ℕ} → Room xs at t → Left xs at t xs at t
left_all room = record { room = room; ends = λ put. put }

pub left_next : {start : List ℕ} {from : ℕ} {whole xs : List ℕ} {at : ℕ} {s t : List ℕ} {m : ℕ} {ys : List ℕ} → Left start from whole xs at (s ++ t) → Put xs at s m ys → Left start from whole ys m t
left_next l put = record { room = rest l.room put; ends = λ after. l.ends (and_then l.room put after) }

pub left_none : {start : List ℕ} {from : ℕ} {whole xs : List ℕ} {at : ℕ} → Left start from whole xs at [] → Put start from whole at xs
left_none l = l.ends put_none

-- the same under another name
pub left_as : {start : List ℕ} {from : ℕ} {whole xs : List ℕ} {at : ℕ} {s t : List ℕ} → s ≡ t → Left start from whole xs at s → Left start from whole xs at t
left_as e l = record { room = room_as e l.room; ends = λ put. l.ends (put_as (sym e) put) }

-- what a tactic needs of texts that are put one behind the other, with the second's place under a name of its own
pub write_then :
    (xs : List ℕ) (at : ℕ) (s t : List ℕ) (m : ℕ) → at + length s ≤ length xs → m ≡ at + length s →
    write (write xs at s) m t ≡ write xs at (s ++ t)
write_then xs at s t m room e = rw e (write-write xs at s room t)

pub ruleset putting = (write_then, write_none, length-append)
