-- A table's rule, from one test that is computed over the whole table; and the word at each place of a table held as one text with offsets.
-- Assumes nothing.
use mathlib.Core.Path.{◌≡◌, refl, sym, ap, ◌∙◌}
use mathlib.Core.Bool.{Bool, true, false, ◌&&◌, ◌||◌, not}
use mathlib.Core.List.{List, [], ◌∷◌, ◌++◌, append_assoc}
use Prim.Native.Nat.{ℕ, zero, suc, ◌+◌, ◌-◌, ◌≤◌, ◌<◌}
use native.Mathlib.Nat.{le_of_suc-le-suc, not-suc-le-zero, add-sub_cancel_left, zero-add}
use native.Mathlib.Numerals.{add-one}
use native.Mathlib.Omega.{arith}
use lib.Dec.{T, T_not, eqb, eqb_refl, leb, leb→le}
use lib.ListN.{length, get_or, drop, length-append, length-drop, get_or-eq_default}
use lib.Seq.{length-take-le, take-append_seam, drop-append_seam}
use Rattle.text.specs.Code.{Room, Put}
use Rattle.text.specs.Words.{join, starts, every, same, among, empty, distinct}
use Rattle.text.specs.Code.{part, word_at, Stands}
use Rattle.text.proofs.Putting.{room_as, put_as, put_none}

pub both_left : (a b : Bool) → T (a && b) → T a
both_left true b t = tt
both_left false b t = t

pub both_right : (a b : Bool) → T (a && b) → T b
both_right true b t = t
both_right false b t = absurd t

-- of two, the one that is left where the first fails
other : (a b : Bool) → T (a || b) → T (not a) → T b
other true b t n = absurd n
other false b t n = t

pub either_left : (a b : Bool) → T a → T (a || b)
either_left true b t = tt
either_left false b t = absurd t

pub either_right : (a b : Bool) → T b → T (a || b)
either_right true b t = tt
either_right false b t = t

-- what every entry passes, the entry at each place passes
pub every_at : {A : Type 0} (f : A → Bool) (d : A) (xs : List A) → T (every f xs) → (k : ℕ) → k < length xs → T (f (get_or xs k d))
every_at f d [] t k h = absurd (not-suc-le-zero h)
every_at f d (x ∷ xs) t zero h = both_left (f x) (every f xs) t
every_at f d (x ∷ xs) t (suc k) h = every_at f d xs (both_right (f x) (every f xs) t) k (le_of_suc-le-suc h)

pub so : (b : Bool) → T b → b ≡ true
so true t = refl
so false t = absurd t

same_refl : (w : List ℕ) → T (same w w)
same_refl [] = tt
same_refl (a ∷ w) = rw (so (eqb a a) (eqb_refl a)) (same_refl w)

-- the word at a place is one of the table's
among_at : (ws : List (List ℕ)) (k : ℕ) → k < length ws → T (among (get_or ws k []) ws)
among_at [] k h = absurd (not-suc-le-zero h)
among_at (w ∷ ws) zero h = either_left (same w w) (among w ws) (same_refl w)
among_at (w ∷ ws) (suc k) h = either_right (same (get_or ws k []) w) (among (get_or ws k []) ws) (among_at ws k (le_of_suc-le-suc h))

-- where no word stands twice, the words at two places differ, if there are any
pub distinct_at : (ws : List (List ℕ)) → T (distinct ws) → (j k : ℕ) → j < k → k < length ws → T (not (empty (get_or ws j []))) → get_or ws j [] ≡ get_or ws k [] → ⊥
distinct_at [] t j k l h some e = absurd (not-suc-le-zero h)
distinct_at (w ∷ ws) t j zero l h some e = absurd (not-suc-le-zero l)
distinct_at (w ∷ ws) t zero (suc k) l h some e =
    T_not (among w ws)
    (other (empty w) (not (among w ws)) (both_left (empty w || not (among w ws)) (distinct ws) t) some)
    (rw e (among_at ws k (le_of_suc-le-suc h)))
distinct_at (w ∷ ws) t (suc j) (suc k) l h some e =
    distinct_at ws (both_right (empty w || not (among w ws)) (distinct ws) t) j k (le_of_suc-le-suc l) (le_of_suc-le-suc h) some e

-- the first offset is where the count begins
starts_first : (from : ℕ) (ws : List (List ℕ)) → get_or (starts from ws) 0 0 ≡ from
starts_first from [] = refl
starts_first from (w ∷ ws) = refl

-- the offsets of a word lie in order, and within the text
offsets_in : (from : ℕ) (ws : List (List ℕ)) (k : ℕ) → k < length ws → (get_or (starts from ws) k 0 ≤ get_or (starts from ws) (suc k) 0) × (get_or (starts from ws) (suc k) 0 ≤ from + length (join ws))
offsets_in from [] k h = absurd (not-suc-le-zero h)
offsets_in from (w ∷ ws) zero h = (
  omega (arith, starts_first (from + length w) ws),
  omega (arith, starts_first (from + length w) ws, length-append w (join ws)),
)
offsets_in from (w ∷ ws) (suc k) h =
    let o = offsets_in (from + length w) ws k (le_of_suc-le-suc h) in
    (o.0, omega (arith, length-append w (join ws), o.1))

word_first : (before w after : List ℕ) → part (before ++ (w ++ after)) (length before) (length before + length w) ≡ w
unfolding part
word_first before w after =
    rw (drop-append_seam before (w ++ after), add-sub_cancel_left (length before) (length w)) (take-append_seam w after)

-- the part of the text between a word's two offsets is the word
word_from : (before : List ℕ) (ws : List (List ℕ)) (k : ℕ) → k < length ws → part (before ++ join ws) (get_or (starts (length before) ws) k 0) (get_or (starts (length before) ws) (suc k) 0) ≡ get_or ws k []
word_from before [] k h = absurd (not-suc-le-zero h)
word_from before (w ∷ ws) zero h =
    rw (starts_first (length before + length w) ws) (word_first before w (join ws))
word_from before (w ∷ ws) (suc k) h =
    rw (← length-append before w, ← append_assoc before w (join ws)) (word_from (before ++ w) ws k (le_of_suc-le-suc h))

-- the length of a part is the distance of its offsets
pub length_part : (xs : List ℕ) (from to : ℕ) → to ≤ length xs → length (part xs from to) ≡ to - from
unfolding part
length_part xs from to h = length-take-le (to - from) (drop from xs) (rw length-drop (omega arith))

pub length-word : {letters offsets : List ℕ} {k : ℕ} → Stands letters offsets k → length (word_at letters offsets k) ≡ get_or offsets (k + 1) 0 - get_or offsets k 0
unfolding word_at
length-word {letters} {offsets} {k} s = length_part letters (get_or offsets k 0) (get_or offsets (k + 1) 0) s.within

-- there is one offset more than there are words
starts-length : (from : ℕ) (ws : List (List ℕ)) → length (starts from ws) ≡ suc (length ws)
starts-length from [] = refl
starts-length from (w ∷ ws) = ap suc (starts-length (from + length w) ws)

-- the words, as one text with an offset for each
module _ (ws : List (List ℕ)) {letters offsets : List ℕ} (text : letters ≡ join ws) (places : offsets ≡ starts 0 ws) where
  pub counted : length offsets ≡ suc (length ws)
  counted = ap length places ∙ starts-length 0 ws

  -- each word stands at its place
  module _ (k : ℕ) (h : k < length ws) where
    pub stands : Stands letters offsets k
    stands =
        record {
          there = omega (arith, counted);
          ordered = rw (places, add-one) (offsets_in 0 ws k h).0;
          within = rw (text, places, add-one) (rw zero-add at (offsets_in 0 ws k h).1);
        }

    pub word_is : word_at letters offsets k ≡ get_or ws k []
    unfolding word_at
    word_is = rw (text, places, add-one) (word_from [] ws k h)

    -- what `put_word` asks and gives, said of the word itself
    pub room-asked : {xs : List ℕ} {at : ℕ} → Room xs at (get_or ws k []) → Room xs at (word_at letters offsets k)
    room-asked room = room_as (sym word_is) room

    pub word_put : {xs : List ℕ} {at r : ℕ} {ys : List ℕ} → Put xs at (word_at letters offsets k) r ys → Put xs at (get_or ws k []) r ys
    word_put put = put_as word_is put

-- past the table's end there is no word
pub no_word : (ws : List (List ℕ)) {k : ℕ} → length ws ≤ k → get_or ws k [] ≡ []
no_word ws h = get_or-eq_default ws [] h

pub no_word_put : (ws : List (List ℕ)) {k : ℕ} {xs : List ℕ} {at : ℕ} → length ws ≤ k → Put xs at (get_or ws k []) at xs
no_word_put ws h = put_as (sym (no_word ws h)) put_none

-- where no word is longer than n, none is at any place
pub no_longer : (n : ℕ) (ws : List (List ℕ)) → T (every (λ (w : List ℕ). leb (length w) n) ws) → (k : ℕ) → length (get_or ws k []) ≤ n
no_longer n [] t k = omega arith
no_longer n (w ∷ ws) t zero = leb→le (length w) n (both_left (leb (length w) n) (every (λ (w : List ℕ). leb (length w) n) ws) t)
no_longer n (w ∷ ws) t (suc k) = no_longer n ws (both_right (leb (length w) n) (every (λ (w : List ℕ). leb (length w) n) ws) t) k
