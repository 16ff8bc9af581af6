-- Laws of a body's text: the byte in front and those after it, and how long it is.
-- Assumes nothing.
use Rattle.std.proofs.Common.{◌≡◌, ℕ, zero, suc, ◌+◌, ◌-◌, ◌*◌, ◌<◌, ◌≤◌, List, [], ◌∷◌, ◌++◌, length, get_or, drop, refl, ap, add-one, arith, lit≤, length-append, drop_of_length-le, drop-cons}
use Rattle.text.specs.Words.{bytes}
use Rattle.answers.specs.Lines.{newline}
use Rattle.numerals.specs.Digits.{digits}
use Rattle.numerals.proofs.Places.{length_digits}
use Rattle.located.specs.Parts.{per_line, pair, on_line, room_after, pairs, body_text}

-- a byte where the line has no room, and where it has some
pub on_next : {room : ℕ} (b : ℕ) → room ≡ 0 → on_line room b ≡ (newline ++ bytes "; +") ++ pair b
on_next b e = rw e

pub room_next : {room : ℕ} → room ≡ 0 → per_line - 1 ≡ room_after room
room_next e = rw e

pub on_same : (room b : ℕ) → (room ≡ 0 → ⊥) → on_line room b ≡ pair b
on_same zero b some = absurd (some refl)
on_same (suc room) b some = refl

pub room_same : (room : ℕ) → (room ≡ 0 → ⊥) → room - 1 ≡ room_after room
room_same zero some = absurd (some refl)
room_same (suc room) some = omega arith

-- the byte at a place, and those from the next on
pub pairs_next : (room : ℕ) (bs : List ℕ) (i : ℕ) → i < length bs → pairs room (drop i bs) ≡ on_line room (get_or bs i 0) ++ pairs (room_after room) (drop (i + 1) bs)
unfolding pairs
pairs_next room bs i h = rw (drop-cons bs i 0 h, add-one)

pub pairs_end : (room : ℕ) (bs : List ℕ) (i : ℕ) → length bs ≤ i → pairs room (drop i bs) ≡ []
unfolding pairs
pairs_end room bs i h = ap (pairs room) (drop_of_length-le bs h)

-- a body without bytes, and another
pub body_none : (bs : List ℕ) → length bs ≡ 0 → body_text bs ≡ bytes " empty"
unfolding body_text
body_none [] e = refl
body_none (b ∷ bs) e = absurd (omega (arith, e))

pub body_some : (bs : List ℕ) → (length bs ≡ 0 → ⊥) → body_text bs ≡ pairs per_line bs
unfolding body_text
body_some [] some = absurd (some refl)
body_some (b ∷ bs) some = refl

pub length-pair : (b : ℕ) → length (pair b) ≡ 3
length-pair b = omega (arith, length_digits 2 b, length-append (bytes " ") (digits 2 b))

-- three letters a byte, and four more for each forty
pub pairs_most : (room : ℕ) (bs : List ℕ) → room ≤ per_line → 10 * length (pairs room bs) + room ≤ 31 * length bs + per_line
unfolding pairs
pairs_most room [] h = omega (arith, h)
pairs_most zero (b ∷ bs) h =
    omega (
      arith,
      pairs_most 39 bs (lit≤ tt),
      length-append ((newline ++ bytes "; +") ++ pair b) (pairs 39 bs),
      length-append (newline ++ bytes "; +") (pair b),
      length-pair b,
    )
pairs_most (suc room) (b ∷ bs) h =
    omega (arith, pairs_most room bs (omega (arith, h)), length-append (pair b) (pairs room bs), length-pair b)

pub body_most : (bs : List ℕ) → 10 * length (body_text bs) ≤ 31 * length bs + 60
unfolding body_text
body_most [] = lit≤ tt
body_most (b ∷ bs) = omega (arith, pairs_most per_line (b ∷ bs) (lit≤ tt))
