-- Laws of the walk over two listings: where it ends, and its step.
-- Assumes nothing.
use mathlib.Core.Path.{◌≡◌, refl, sym, ap, ◌∙◌}
use mathlib.Core.Bool.{Bool, true, false, cond, ◌&&◌, ◌||◌}
use mathlib.Core.List.{List, [], ◌∷◌}
use Prim.Native.Nat.{ℕ, zero, suc, ◌+◌, ◌≤◌, ◌<◌}
use native.Mathlib.Omega.{arith}
use lib.ListN.{length, drop, length-drop}
use Rattle.text.specs.Words.{empty}
use Rattle.text.proofs.Choosing.{cond_by}
use Rattle.frames.specs.Frames.{frame_size}
use Rattle.records.specs.declared.Asked.{Asked}
use Rattle.listings.proofs.LineLaws.{frame_some}
use Rattle.compared.specs.declared.AskedSides.{AskedSides}
use Rattle.compared.specs.declared.Side.{Side}
use Rattle.compared.specs.declared.Side.TheVariants.{Sound, Cut, Version}
use Rattle.compared.specs.Places.{start_of, front_record, is_cut}
use Rattle.compared.specs.Events.{naming, events_at}
use Rattle.compared.specs.Report.{Report, ends, before, side_at, walk_within, walk, is_sound, sides_of, report_of}

-- what is left after the frame in front
abbrev pub left : List ℕ → List ℕ
left xs = drop (frame_size xs) xs

-- it is no more than there was, and less where there was anything
left_within : (xs : List ℕ) → length (left xs) ≤ length xs
left_within xs = omega (arith, length-drop (frame_size xs) xs)

left_less : (x : ℕ) (xs : List ℕ) → length (left (x ∷ xs)) < length (x ∷ xs)
left_less x xs = omega (arith, length-drop (frame_size (x ∷ xs)) (x ∷ xs), frame_some (x ∷ xs) (omega arith))

-- so a step leaves less of both together
pub step_less : (xs ys : List ℕ) → (empty xs && empty ys) ≡ false → length (left xs) + length (left ys) < length xs + length ys
step_less [] [] e = absurd (let z : ◌≡◌ {A = ℕ} 0 1 = cc in omega arith)
step_less [] (y ∷ ys) e = omega (arith, left_within [], left_less y ys)
step_less (x ∷ xs) ys e = omega (arith, left_less x xs, left_within ys)

-- one of three that is picked, where only the last has changed
third : (a b : Bool) (r s : Report) {t t' : Report} → (b ≡ false → t ≡ t') → cond a r (cond b s t) ≡ cond a r (cond b s t')
third true b r s f = refl
third false true r s f = refl
third false false r s f = f refl

module _ (sides : AskedSides) where
  within_none : (k n : ℕ) → walk_within k sides n [] [] ≡ ends Sound Sound
  unfolding walk_within
  within_none zero n = refl
  within_none (suc k) n = refl

  none_left : (j n : ℕ) (xs ys : List ℕ) → length xs + length ys ≤ 0 → walk_within j sides n xs ys ≡ ends Sound Sound
  none_left j n [] [] h = within_none j n
  none_left j n [] (y ∷ ys) h = absurd (omega (arith, h))
  none_left j n (x ∷ xs) ys h = absurd (omega (arith, h))

  -- it does not matter how many places are allowed for, if there are enough
  within_any : (k j n : ℕ) (xs ys : List ℕ) → length xs + length ys ≤ k → length xs + length ys ≤ j → walk_within k sides n xs ys ≡ walk_within j sides n xs ys
  unfolding walk_within
  within_any zero j n xs ys h l = sym (none_left j n xs ys h)
  within_any (suc k) zero n xs ys h l = none_left (suc k) n xs ys l
  within_any (suc k) (suc j) n xs ys h l =
      third (is_cut xs || is_cut ys) (empty xs && empty ys) (ends (side_at xs) (side_at ys)) (ends Sound Sound) (λ some.
      ap (before (events_at n (naming sides (front_record xs) (front_record ys))))
      (within_any k j (suc n) (left xs) (left ys) (omega (arith, h, step_less xs ys some)) (omega (arith, l, step_less xs ys some))))

  module _ (n : ℕ) (xs ys : List ℕ) where
    one_more : walk sides n xs ys ≡ walk_within (suc (length xs + length ys)) sides n xs ys
    unfolding walk
    one_more = within_any (length xs + length ys) (suc (length xs + length ys)) n xs ys (omega arith) (omega arith)

    -- where a side is cut, it ends
    pub walk_cut : (is_cut xs || is_cut ys) ≡ true → walk sides n xs ys ≡ ends (side_at xs) (side_at ys)
    unfolding walk_within
    walk_cut e = one_more ∙ rw e

    -- where none is, and bytes are left, it names what differs there and goes on
    pub walk_step : (is_cut xs || is_cut ys) ≡ false → (empty xs && empty ys) ≡ false → walk sides n xs ys ≡ before (events_at n (naming sides (front_record xs) (front_record ys))) (walk sides (suc n) (drop (frame_size xs) xs) (drop (frame_size ys) ys))
    unfolding walk walk_within
    walk_step e some =
        one_more
        ∙ rw (e, some) (ap (before (events_at n (naming sides (front_record xs) (front_record ys))))
        (within_any (length xs + length ys) (length (left xs) + length (left ys)) (suc n) (left xs) (left ys) (omega (arith, step_less xs ys some)) (omega arith)))

  -- where no bytes are left on either side, it ends
  pub walk-empty : (n : ℕ) → walk sides n [] [] ≡ ends Sound Sound
  unfolding walk
  walk-empty n = within_none 0 n

-- The walk as it goes: each law of it is proved along its places.
--   cut: a side is cut there; over: no bytes are left; on: what differs there is named, and it goes on
pub data Walked (sides : AskedSides) : ℕ → List ℕ → List ℕ → Report → Type 0 where
  cut : {n : ℕ} {xs ys : List ℕ} → (is_cut xs || is_cut ys) ≡ true → Walked sides n xs ys (ends (side_at xs) (side_at ys))
  over : {n : ℕ} → Walked sides n [] [] (ends Sound Sound)
  on : {n : ℕ} {xs ys : List ℕ} {r : Report} → (is_cut xs || is_cut ys) ≡ false → (empty xs && empty ys) ≡ false → Walked sides (suc n) (left xs) (left ys) r → Walked sides n xs ys (before (events_at n (naming sides (front_record xs) (front_record ys))) r)

module _ (sides : AskedSides) where
  AsWalked : ℕ → (xs ys : List ℕ) → Type 0
  AsWalked n xs ys = Walked sides n xs ys (walk sides n xs ys)

  walked_some : (n : ℕ) (xs ys : List ℕ) → (empty xs && empty ys) ≡ false → AsWalked (suc n) (left xs) (left ys) → AsWalked n xs ys
  unfolding AsWalked
  walked_some n xs ys some w = go (is_cut xs || is_cut ys) refl
    where
      go : (b : Bool) → (is_cut xs || is_cut ys) ≡ b → Walked sides n xs ys (walk sides n xs ys)
      go true e = rw (walk_cut sides n xs ys e) (cut e)
      go false e = rw (walk_step sides n xs ys e some) (on e some w)

  walked_none : (n : ℕ) → AsWalked n [] []
  unfolding AsWalked
  walked_none n = rw (walk-empty sides n) over

  walked_within : (f n : ℕ) (xs ys : List ℕ) → length xs + length ys ≤ f → AsWalked n xs ys
  walked_within zero n [] [] h = walked_none n
  walked_within zero n [] (y ∷ ys) h = absurd (omega (arith, h))
  walked_within zero n (x ∷ xs) ys h = absurd (omega (arith, h))
  walked_within (suc f) n [] [] h = walked_none n
  walked_within (suc f) n [] (y ∷ ys) h =
      walked_some n [] (y ∷ ys) refl (walked_within f (suc n) (left []) (left (y ∷ ys)) (omega (arith, h, step_less [] (y ∷ ys) refl)))
  walked_within (suc f) n (x ∷ xs) ys h =
      walked_some n (x ∷ xs) ys refl (walked_within f (suc n) (left (x ∷ xs)) (left ys) (omega (arith, h, step_less (x ∷ xs) ys refl)))

  -- every walk goes so
  pub walked : (n : ℕ) (xs ys : List ℕ) → Walked sides n xs ys (walk sides n xs ys)
  unfolding AsWalked
  walked n xs ys = walked_within (length xs + length ys) n xs ys (omega arith)

-- A report as it starts: both sides are sound and it is a walk's, or one is not and it ends there.
pub data Started (asked : Asked) (first second : List ℕ) : Report → Type 0 where
  sound : {r : Report} → start_of first ≡ Sound → start_of second ≡ Sound → Walked (sides_of asked first second) 0 (drop 1 first) (drop 1 second) r → Started asked first second r
  unsound : (is_sound (start_of first) && is_sound (start_of second)) ≡ false → Started asked first second (ends (start_of first) (start_of second))

both_sound : (s t : Side) → (is_sound s && is_sound t) ≡ true → (s ≡ Sound) × (t ≡ Sound)
both_sound Sound Sound e = (refl, refl)
both_sound Sound Cut e = (cc, cc)
both_sound Sound Version e = (cc, cc)
both_sound Cut t e = (cc, cc)
both_sound Version t e = (cc, cc)

-- every report starts so
pub started : (asked : Asked) (first second : List ℕ) → Started asked first second (report_of asked first second)
unfolding report_of
started asked first second =
    cond_by (Started asked first second) (is_sound (start_of first) && is_sound (start_of second))
    (λ e. let s = both_sound (start_of first) (start_of second) e in sound s.0 s.1 (walked (sides_of asked first second) 0 (drop 1 first) (drop 1 second)))
    unsound
