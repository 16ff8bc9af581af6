-- In modes 0 and 1 a version 2 body has exactly the outcome that its fields have as a version 1 body: its start address is not seen.
-- Assumes nothing.
use mathlib.Core.Path.{◌≡◌, refl, sym, ap, ap₂, ◌∙◌}
use mathlib.Core.Bool.{Bool, true, false, cond}
use mathlib.Core.List.{List}
use Prim.Native.Nat.{ℕ, ◌≤◌}
use native.Mathlib.Omega.{arith}
use lib.Dec.{eqb}
use borrow.Author.Tests.{ne_eqb}
use Rattle.answers.specs.Refusals.{Refusal, answer_of}
use Rattle.answers.specs.Outcomes.{outcome_of, with_room}
use Rattle.bodies.specs.Decoding.{instruction_of}
use Rattle.bodies.specs.Versions.{fields, start_of}
use Rattle.branches.specs.declared.Mode.TheVariants.{Crate, Straight, Target}
use Rattle.operands.specs.Parts.{starting_at}
use Rattle.places.specs.Places.{items_at}
use Rattle.places.proofs.Starts.{items_unstarted}
use Rattle.arms.specs.Plans.{plan_of}
use Rattle.operands.specs.declared.Items.{Items}
use Rattle.lines.specs.Head.{head_of}
use Rattle.lines.specs.Text.{line_text}
use Rattle.records.specs.Compared.{asking_of}
use Rattle.records.specs.Records.{asked_refused, mode_of, arm_at, refusals, line_at, record_text, record_outcome}

-- a version 1 body is its fields, and starts at 0
fields_1 : (body : List ℕ) → fields 1 body ≡ body
unfolding fields
fields_1 body = refl

start_1 : (body : List ℕ) → start_of 1 body ≡ 0
unfolding start_of
start_1 body = refl

-- the modes are told apart by their names
straight_is : Straight ≡ Target → ⊥
straight_is e = let z : ◌≡◌ {A = ℕ} 0 1 = cc in omega arith

crate_is : Crate ≡ Target → ⊥
crate_is e = let z : ◌≡◌ {A = ℕ} 0 1 = cc in omega arith

module _ (mode : ℕ) (low : mode ≤ 1) (body : List ℕ) where
  -- both are asked rightly
  asked_same : asked_refused (asking_of 2 mode) ≡ asked_refused (asking_of 1 mode)
  unfolding asked_refused
  asked_same = rw (ne_eqb mode 2 (λ e. omega (arith, low, e)))

  refusals_same : refusals (asking_of 2 mode) body ≡ refusals (asking_of 1 mode) (fields 2 body)
  unfolding refusals
  refusals_same = rw (fields_1 (fields 2 body), asked_same)

  -- neither of the modes is that of targets
  no_target : mode_of (asking_of 2 mode) ≡ Target → ⊥
  no_target = rw (ne_eqb mode 2 (λ e. omega (arith, low, e))) (neither (eqb mode 1))
    where
      neither : (b : Bool) → cond b Straight Crate ≡ Target → ⊥
      neither true e = absurd (straight_is e)
      neither false e = absurd (crate_is e)

  text_same : record_text (asking_of 2 mode) body ≡ record_text (asking_of 1 mode) (fields 2 body)
  unfolding record_text line_at
  text_same =
      let f = fields 2 body in
      let i = instruction_of f in
      let m = mode_of (asking_of 2 mode) in
      let p = plan_of (arm_at f) i in
      let items : items_at m (arm_at f) (starting_at (start_of 2 body) i) p ≡ items_at m (arm_at f) (starting_at 0 i) p = items_unstarted m (arm_at f) (start_of 2 body) i no_target p ∙ sym (items_unstarted m (arm_at f) 0 i no_target p) in
      rw (fields_1 f, start_1 f) (ap (λ (x : Items). line_text (record { head = head_of (arm_at f) i.opcode i.flags; items = x; tail = p.tail })) items)

  pub start_unseen : (buf : List ℕ) → record_outcome (asking_of 2 mode) body buf ≡ record_outcome (asking_of 1 mode) (fields 2 body) buf
  unfolding record_outcome
  start_unseen buf = ap₂ (λ (rs : List Refusal) (t : List ℕ). outcome_of (answer_of (with_room rs t buf)) t buf) refusals_same text_same
