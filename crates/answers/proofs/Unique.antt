-- The outcome of any list of refusals meets document 01's answer table, and nothing else does.
-- Assumes nothing.
use mathlib.Core.Path.{◌≡◌, refl, sym, ap, ◌∙◌}
use mathlib.Core.Bool.{Bool, false}
use mathlib.Core.Logic.{◌⊎◌, inl, inr}
use mathlib.Core.List.{List, [], ◌∷◌, ◌++◌}
use Prim.Native.Nat.{ℕ, zero, suc, ◌+◌, ◌≤◌, ◌<◌}
use native.Mathlib.Nat.{zero-add}
use native.Mathlib.Omega.{arith}
use native.Mathlib.Decide.{dec_lt}
use borrow.Author.Tests.{ne_eqb, ltb-false}
use lib.ListN.{length, take, drop, take-append-drop}
use Rattle.text.specs.Write.{write}
use Rattle.text.proofs.Writing.{take-write, drop-write, length-write}
use Rattle.answers.specs.Refusals.{Refusal, refusal, room, answer_of, None, NeverZero}
use Rattle.answers.specs.Outcomes.{room_refused, length_with, buffer_after, outcome_of, with_room}
use Rattle.answers.specs.Table.{Answered}
use Rattle.answers.proofs.Firsts.{refused_as_lem, printed_as, none_or_answer}

-- the length that goes with each answer
module _ (text : List ℕ) {answer : ℕ} where
  length-printed : answer ≡ 0 → length_with answer text ≡ length text
  length-printed e = rw e

  length-room : answer ≡ room → length_with answer text ≡ length text
  length-room e = rw e

  length_none : (answer ≡ 0 → ⊥) → (answer ≡ room → ⊥) → length_with answer text ≡ 0
  length_none some other = rw (ne_eqb answer 0 some, ne_eqb answer room other)

-- the buffer that goes with each answer
module _ (text before : List ℕ) {answer : ℕ} where
  buffer_before : 0 < answer → buffer_after answer text before ≡ before
  buffer_before least = rw (ne_eqb answer 0 (omega arith))

  buffer_written : answer ≡ 0 → buffer_after answer text before ≡ write before 0 text
  buffer_written e = rw e

  module _ (fits : answer ≡ 0 → length text ≤ length before) where
    placed : answer ≡ 0 → 0 + length text ≤ length before
    placed e = rw zero-add (fits e)

    buffer_length : (answer ≡ 0) ⊎ (0 < answer) → length (buffer_after answer text before) ≡ length before
    buffer_length (inl e) = ap length (buffer_written e) ∙ length-write before 0 text (placed e)
    buffer_length (inr least) = ap length (buffer_before least)

    buffer_behind : answer ≡ 0 → drop (length_with answer text) (buffer_after answer text before) ≡ drop (length_with answer text) before
    buffer_behind e = rw (length-printed text e, buffer_written e, ← zero-add (length text)) (drop-write before 0 text (placed e))

    buffer_front : answer ≡ 0 → take (length_with answer text) (buffer_after answer text before) ≡ text
    buffer_front e = rw (length-printed text e, buffer_written e, ← zero-add (length text)) (take-write before 0 text (placed e))

pub none_or_some : (k : ℕ) → (k ≡ 0) ⊎ (0 < k)
none_or_some zero = inl refl
none_or_some (suc k) = inr (omega arith)

same_or_other : (j k : ℕ) → (j ≡ k) ⊎ (j ≡ k → ⊥)
same_or_other j k =
    elim (dec_lt j k) [
      | yes h ↦ inr (λ e. omega (arith, h, e))
      | no h ↦ elim (dec_lt k j) [
        | yes l ↦ inr (λ e. omega (arith, l, e))
        | no l ↦ inl (omega (arith, h, l))
      ]
    ]

-- the outcome meets the table, where a text that nothing refuses has room
pub meets : (rs : List Refusal) (text before : List ℕ) → NeverZero rs → (answer_of rs ≡ 0 → length text ≤ length before) → let o = outcome_of (answer_of rs) text before in Answered rs text before o.answer o.length o.buffer
unfolding outcome_of
meets rs text before numbered fits =
    record {
      refused = refused_as_lem rs numbered;
      printed = printed_as rs numbered;
      written = length-printed text;
      needed = length-room text;
      no_length = length_none text;
      same_size = buffer_length text before fits (none_or_some (answer_of rs));
      as_before = buffer_before text before;
      behind = buffer_behind text before fits;
      front = buffer_front text before fits;
    }

-- what meets the table is the outcome
module _ {rs : List Refusal} (numbered : NeverZero rs) {text before : List ℕ} {answer n : ℕ} {after : List ℕ} (met : Answered rs text before answer n after) where
  answer_by : (answer ≡ 0) ⊎ (0 < answer) → answer ≡ answer_of rs
  answer_by (inl e) = e ∙ sym ((printed_as rs numbered).1 (met.printed.0 e))
  answer_by (inr least) = sym ((refused_as_lem rs numbered answer least).1 ((met.refused answer least).0 refl))

  length_by : (answer ≡ 0) ⊎ (0 < answer) → (answer ≡ room) ⊎ (answer ≡ room → ⊥) → n ≡ length_with answer text
  length_by (inl e) high = met.written e ∙ sym (length-printed text e)
  length_by (inr least) (inl e) = met.needed e ∙ sym (length-room text e)
  length_by (inr least) (inr other) =
      let some : answer ≡ 0 → ⊥ = λ e. omega (arith, least, e) in
      met.no_length some other ∙ sym (length_none text some other)

  buffer_by : (answer ≡ 0) ⊎ (0 < answer) → after ≡ buffer_after answer text before
  unfolding write
  buffer_by (inl e) =
      sym (take-append-drop n after)
      ∙ rw (met.front e, met.behind e, met.written e, buffer_written text before e, zero-add (length text)) refl
  buffer_by (inr least) = met.as_before least ∙ sym (buffer_before text before least)

  pub only : let o = outcome_of (answer_of rs) text before in (answer ≡ o.answer) × (n ≡ o.length) × (after ≡ o.buffer)
  unfolding outcome_of
  only =
      let kind = none_or_some answer in
      let same : answer ≡ answer_of rs = answer_by kind in (
        same,
        length_by kind (same_or_other answer room) ∙ ap (λ (a : ℕ). length_with a text) same,
        buffer_by kind ∙ ap (λ (a : ℕ). buffer_after a text before) same,
      )

-- so any two that meet it are the same
pub unique : {rs : List Refusal} {text before : List ℕ} {answer n : ℕ} {after : List ℕ} {answer' n' : ℕ} {after' : List ℕ} → NeverZero rs → Answered rs text before answer n after → Answered rs text before answer' n' after' → (answer ≡ answer') × (n ≡ n') × (after ≡ after')
unique numbered one two =
    let a = only numbered one in
    let b = only numbered two in
    (a.0 ∙ sym b.0, a.1 ∙ sym b.1, a.2 ∙ sym b.2)

-- refusals of an entry point's own, and last the room of its text
never-zero_last : (rs : List Refusal) (b : Bool) → NeverZero rs → NeverZero (rs ++ (refusal room b ∷ []))
never-zero_last [] b n = (omega arith, tt)
never-zero_last (r ∷ rs) b n = (n.0, never-zero_last rs b n.1)

last_none : (rs : List Refusal) {b : Bool} → None (rs ++ (refusal room b ∷ [])) → b ≡ false
last_none [] n = n.0
last_none (r ∷ rs) n = last_none rs n.1

module _ (rs : List Refusal) (numbered : NeverZero rs) (text buf : List ℕ) where
  pub room_numbered : NeverZero (with_room rs text buf)
  room_numbered = never-zero_last rs (room_refused text buf) numbered

  fits : answer_of (with_room rs text buf) ≡ 0 → length text ≤ length buf
  fits e = ltb-false (length buf) (length text) (last_none rs (none_or_answer (with_room rs text buf) room_numbered e))

  pub room_meets : let o = outcome_of (answer_of (with_room rs text buf)) text buf in Answered (with_room rs text buf) text buf o.answer o.length o.buffer
  room_meets = meets (with_room rs text buf) text buf room_numbered fits
