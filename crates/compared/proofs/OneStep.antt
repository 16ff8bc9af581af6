-- A pass of one step, from every stage and with any bytes held.
-- Assumes nothing.
use mathlib.Core.Path.{◌≡◌, refl}
use mathlib.Core.Bool.{Bool, true, false}
use mathlib.Core.List.{List}
use Prim.Native.Nat.{ℕ, ◌+◌, ◌-◌, ◌≤◌, ◌<◌}
use native.Mathlib.Omega.{arith}
use borrow.Author.Tests.{ltb-true, ltb-false, lt-leb}
use lib.Dec.{ltb}
use lib.ListN.{length, replicate, length-replicate}
use Rattle.text.specs.Write.{write}
use Rattle.text.specs.Code.{Put}
use Rattle.frames.specs.Frames.{body_length}
use Rattle.cursors.specs.Code.{stands_at, Sees}
use Rattle.cursors.specs.declared.Stands.{Stands}
use Rattle.cursors.specs.declared.Stands.TheVariants.{Body, More}
use Rattle.bodies.specs.WellFormed.{Bytes}
use Rattle.records.specs.declared.Asked.{Asked}
use Rattle.streams.proofs.Streaming.{all_whole}
use Rattle.compared.specs.declared.Turn.{Turn}
use Rattle.compared.specs.declared.Turn.TheVariants.{First, Second, Ends, Records as ToRecords}
use Rattle.compared.specs.declared.Noted.{Noted}
use Rattle.compared.specs.declared.Stage.{Stage}
use Rattle.compared.specs.declared.Stage.TheVariants.{Versions, Records, Done}
use Rattle.compared.specs.declared.Passed.{Passed}
use Rattle.compared.specs.Places.{start_of}
use Rattle.compared.specs.Events.{naming, events_at}
use Rattle.compared.specs.Report.{in_versions, not_same}
use Rattle.compared.specs.Text.{capped, events_text, end_text, longest_event}
use Rattle.cursors.specs.Longest.{longest_frame}
use Rattle.compared.specs.Pass.{Passes}
use Rattle.compared.specs.Code.{wanting, turn_of, body_in, found_of, Steps}
use Rattle.compared.proofs.Stepping.{more_there, steps_first, steps_second, steps_done, wanting_few, steps_unknown, steps_known}
use Rattle.compared.proofs.Settling.{turn_first, turn_second, steps_ends, steps_records}
use Rattle.compared.proofs.Passing.{going_start, passes_step}

-- a text with room for what a step says
unfoldable blank : List ℕ
blank = replicate longest_event 0

blank-room : longest_event ≤ length blank
unfolding blank
blank-room = omega (arith, length-replicate {A = ℕ} longest_event 0)

put_blank : (t : List ℕ) → Put blank 0 t (length t) (write blank 0 t)
put_blank t = record { next = omega arith; text = refl }

-- a pass with these bytes held
pub record Pass (asked : Asked) (stage : Stage) (xs ys : List ℕ) (ended ended' : Bool) : Type 0 where
  pub r : Passed
  pub text : List ℕ
  pub passes : Passes asked stage xs ys ended ended' r text

-- what stands in front of a side: where a frame is not whole, its two bytes of length say how few are there
sees_front : (ended : Bool) (xs : List ℕ) → Bytes xs → Sees xs 0 ended (stands_at xs 0 ended)
sees_front ended xs small = record { there = refl; few = λ e. few e (ltb (length xs) (2 + body_length xs)) refl }
  where
    few : stands_at xs 0 ended ≡ More → (b : Bool) → ltb (length xs) (2 + body_length xs) ≡ b → length xs - 0 < longest_frame
    few e true l = omega (arith, ltb-true (length xs) (2 + body_length xs) l, small 0, small 1)
    few e false l =
        let h : 2 + body_length xs ≤ length xs = ltb-false (length xs) (2 + body_length xs) l in
        let body : stands_at xs 0 ended ≡ Body 2 (2 + body_length xs) = rw (lt-leb (length xs) 0 (omega (arith, h)), all_whole xs h) in
        absurd (let z : ◌≡◌ {A = ℕ} 0 1 = cc in omega (arith, z))

module _ (asked : Asked) (xs ys : List ℕ) (ended ended' : Bool) where
  placed : (0 ≤ length xs) × (0 ≤ length ys)
  placed = (omega arith, omega arith)

  -- a pass of one step
  pass_step : {stage : Stage} {r : Passed} {after : List ℕ} → Steps asked stage xs ys 0 0 ended ended' blank 0 r after → Pass asked stage xs ys ended ended'
  pass_step {stage} took =
      record { r = _; text = _; passes = passes_step (going_start asked stage xs ys ended ended' blank) took (omega (arith, blank-room)) }

  pass_versions : Pass asked Versions xs ys ended ended'
  pass_versions = go (wanting xs ended) (wanting ys ended') (not_same 0 (start_of xs) (start_of ys)) refl refl refl
    where
      go : (a b c : Bool) → wanting xs ended ≡ a → wanting ys ended' ≡ b → not_same 0 (start_of xs) (start_of ys) ≡ c → Pass asked Versions xs ys ended ended'
      go true b c w w' d = pass_step (steps_first placed (wanting_few ended xs w))
      go false true c w w' d = pass_step (steps_second placed (wanting_few ended' ys w'))
      go false false true w w' d = pass_step (steps_unknown placed refl refl refl w w' d (put_blank (end_text (start_of xs) (start_of ys) 0)))
      go false false false w w' d = pass_step (steps_known placed refl refl refl d refl refl)

  module _ {s t : Stands} (sees : Sees xs 0 ended s) (sees' : Sees ys 0 ended' t) where
    pass_turn : (number named v w : ℕ) (u : Turn) → turn_of s t ≡ u → Pass asked (Records number named v w) xs ys ended ended'
    pass_turn number named v w First e = pass_step (steps_first placed (more_there sees (turn_first s t e)))
    pass_turn number named v w Second e = pass_step (steps_second placed (more_there sees' (turn_second s t e)))
    pass_turn number named v w (Ends a b) e = pass_step (steps_ends asked v w placed sees sees' e (put_blank (end_text a b named)) refl)
    pass_turn number named v w (ToRecords f g) e =
        let sides = in_versions v w asked in
        let es = events_at number (naming sides (found_of (body_in xs s)) (found_of (body_in ys t))) in
        let noted : Noted = record { named = capped (named + length es); out = length (events_text es) } in
        pass_step (steps_records placed sees sees' e refl refl refl refl (record { put = put_blank (events_text es); count = refl }))

  -- whatever is held, there is a pass from it
  pub pass : (stage : Stage) → Bytes xs → Bytes ys → Pass asked stage xs ys ended ended'
  pass Versions small small' = pass_versions
  pass (Records number named v w) small small' =
      pass_turn (sees_front ended xs small) (sees_front ended' ys small') number named v w (turn_of (stands_at xs 0 ended) (stands_at ys 0 ended')) refl
  pass (Done different) small small' = pass_step (steps_done placed)
