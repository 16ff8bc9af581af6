-- What contracts inside the compare tool speak of, and no promise: what stands at a place, as the code finds it.
-- Assumes nothing.
use Rattle.std.specs.Prelude.{◌≡◌, ℕ, ◌+◌, ◌-◌, ◌<◌, Bool, cond, List, length, drop, nat_le}
use Rattle.frames.specs.Frames.{is_whole, body_length}
use Rattle.cursors.specs.Longest.{longest_frame}
use Rattle.cursors.specs.declared.Stands.{Stands}
use Rattle.cursors.specs.declared.Stands.TheVariants.{Body, End, Cut, More}

-- no bytes are left, or too few for a frame: whether more are to come
abbrev pub at_end : (ended : Bool) → Stands
at_end ended = cond ended End More

abbrev pub unfinished : (ended : Bool) → Stands
unfinished ended = cond ended Cut More

-- what stands at a place
abbrev pub stands_at : List ℕ → ℕ → (ended : Bool) → Stands
stands_at listing at ended =
    cond (nat_le (length listing) at) (at_end ended)
    (cond (is_whole (drop at listing)) (Body (at + 2) (at + 2 + body_length (drop at listing))) (unfinished ended))

-- what is said to stand at a place stands there; and where more bytes are wanted, fewer are there than a frame may have
pub record Sees (listing : List ℕ) (at : ℕ) (ended : Bool) (stands : Stands) : Type 0 where
  pub there : stands ≡ stands_at listing at ended
  pub few : stands ≡ More → length listing - at < longest_frame

-- the place after it
abbrev pub place_after : ℕ → Stands → ℕ
place_after at (Body start end) = end
place_after at End = at
place_after at Cut = at
place_after at More = at
