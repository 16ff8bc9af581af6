-- What a record comes to, from its refusals, and back.
-- Assumes nothing.
use mathlib.Core.Path.{◌≡◌, refl, sym, ap, subst, ◌∙◌}
use mathlib.Core.Bool.{Bool, true, false, cond}
use mathlib.Core.List.{List}
use Prim.Native.Nat.{ℕ, ◌-◌, ◌≤◌, ◌<◌}
use native.Mathlib.Omega.{arith}
use lib.ListN.{length, take, drop, length-drop}
use lib.Seq.{take-length}
use borrow.Author.Tests.{not-false, ltb-false}
use Rattle.std.specs.Prelude.{Result, Ok, Err, IsErrAnd, IfOk, IfErr}
use Rattle.std.proofs.Common.{Bor}
use Rattle.answers.specs.Refusals.{answer_of, room, None, NeverZero}
use Rattle.answers.specs.Reasons.{number_of}
use Rattle.answers.specs.declared.Reason.{Reason}
use Rattle.answers.specs.declared.Reason.TheVariants as reason
use Rattle.answers.proofs.Firsts.{never-zero_by, answer_below, answer_not, none_or_answer}
use Rattle.frames.specs.Frames.{known_version}
use Rattle.bodies.specs.Body.{count_of}
use Rattle.bodies.specs.Refusals.{length_refused, field_refused}
use Rattle.bodies.specs.Code.{rest_at, front_of, fields_by, instruction_by, Whole, body_answer}
use Rattle.bodies.specs.declared.Front.{Front}
use Rattle.bodies.proofs.OldAccepted.{nothing_refused}
use Rattle.bodies.specs.Versions.{fields, start_of, record_of}
use Rattle.bodies.proofs.Versions.{fields_by_lem, rest_within}
use Rattle.bodies.specs.Decoding.{instruction_of}
use Rattle.bodies.proofs.Lengths.{whole}
use Rattle.bodies.proofs.Picks.{neither_left, neither_right}
use Rattle.operands.specs.declared.Instruction.{Instruction}
use Rattle.names.specs.declared.Arm.{Arm}
use Rattle.places.specs.declared.Plan.{Plan}
use Rattle.arms.specs.Shape.{shape_refused}
use Rattle.arms.specs.Size.{size_refused}
use Rattle.arms.specs.Plans.{plan_of}
use Rattle.arms.specs.Decorations.{broadcast_refused}
use Rattle.arms.specs.Missing.{plan_lacks}
use Rattle.places.specs.Order.{from_the_left}
use Rattle.places.specs.Places.{items_at}
use Rattle.branches.specs.declared.Mode.{Mode}
use Rattle.arms.proofs.Lacking.{plan_lacking}
use Rattle.arms.proofs.Ordered.{body_from_the_left}
use Rattle.records.specs.Records.{asked_refused, fields_of, arm_at, refusals}
use Rattle.records.specs.Judged.{FieldsAnswer, AcceptsFields, Accepts}
use Rattle.records.specs.declared.Asked.{Asked}
use Rattle.records.specs.declared.Accepted.{Accepted}

-- no reason has the number of what is printed
pub number_some : (r : Reason) → 0 < number_of r
number_some reason.Mode = omega arith
number_some reason.Length = omega arith
number_some reason.Field = omega arith
number_some reason.Shape = omega arith
number_some reason.Size = omega arith
number_some reason.Broadcast = omega arith

-- and each is put as two digits at most
pub number_below : (r : Reason) → number_of r < 100
number_below reason.Mode = omega arith
number_below reason.Length = omega arith
number_below reason.Field = omega arith
number_below reason.Shape = omega arith
number_below reason.Size = omega arith
number_below reason.Broadcast = omega arith

-- a version that is accepted is known
pub version_known : (asked : Asked) → asked_refused asked ≡ false → known_version asked.version ≡ true
unfolding asked_refused
version_known asked e = not-false (known_version asked.version) (search (neither_left, neither_right, e))

module _ (asked : Asked) (body : List ℕ) {f : List ℕ} (is : fields_of asked body ≡ f) where
  -- the first refusal that applies, one by one
  pub at_mode : asked_refused asked ≡ true → answer_of (refusals asked body) ≡ 1
  unfolding refusals
  at_mode e = rw e

  module _ (m : asked_refused asked ≡ false) where
    pub at_length : length_refused f ≡ true → answer_of (refusals asked body) ≡ 2
    unfolding refusals
    at_length e = rw (is, m, e)

    module _ (l : length_refused f ≡ false) where
      pub at_field : field_refused f ≡ true → answer_of (refusals asked body) ≡ 3
      unfolding refusals
      at_field e = rw (is, m, l, e)

      module _ (d : field_refused f ≡ false) where
        pub at_shape : {arm : Arm} → arm ≡ arm_at f → shape_refused arm (instruction_of f) ≡ true → answer_of (refusals asked body) ≡ 4
        unfolding refusals
        at_shape a e = rw (is, m, l, d, rw a at e)

        module _ {arm : Arm} (a : arm ≡ arm_at f) (s : shape_refused arm (instruction_of f) ≡ false) where
          shape_kept : shape_refused (arm_at f) (instruction_of f) ≡ false
          shape_kept = rw a at s

          module _ {plan : Plan} (p : plan ≡ plan_of arm (instruction_of f)) where
            size_is : plan_lacks (instruction_of f) plan ≡ size_refused (arm_at f) (instruction_of f)
            size_is = rw (p, a) (plan_lacking (arm_at f) (instruction_of f) shape_kept)

            pub at_size : plan_lacks (instruction_of f) plan ≡ true → answer_of (refusals asked body) ≡ 5
            unfolding refusals
            at_size e = rw (is, m, l, d, shape_kept, sym size_is ∙ e)

            module _ (z : plan_lacks (instruction_of f) plan ≡ false) where
              pub at_broadcast : broadcast_refused arm (instruction_of f) ≡ true → answer_of (refusals asked body) ≡ 7
              unfolding refusals
              at_broadcast e = rw (is, m, l, d, shape_kept, sym size_is ∙ z, rw a at e)

              pub at_accepted : broadcast_refused arm (instruction_of f) ≡ false → answer_of (refusals asked body) ≡ 0
              unfolding refusals
              at_accepted e = rw (is, m, l, d, shape_kept, sym size_is ∙ z, rw a at e)

    -- answers 2 and 3 at once
    pub at_body : (r : Reason) → number_of r ≡ body_answer f → answer_of (refusals asked body) ≡ number_of r
    at_body r e = go (length_refused f) (field_refused f) refl refl e
      where
        go : (p q : Bool) → length_refused f ≡ p → field_refused f ≡ q → number_of r ≡ cond p 2 (cond q 3 0) → answer_of (refusals asked body) ≡ number_of r
        go true q l d k = rw k (at_length l)
        go false true l d k = rw k (at_field l d)
        go false false l d k = absurd (let z : ⊥ = omega (arith, k, number_some r) in z)

module _ (asked : Asked) (body : List ℕ) where
  abbrev f : List ℕ
  f = fields_of asked body

  pub refusals-never-zero : NeverZero (refusals asked body)
  unfolding refusals
  refusals-never-zero = never-zero_by (refusals asked body) tt

  pub refusals-below : answer_of (refusals asked body) < 100
  unfolding refusals
  refusals-below = answer_below 100 (refusals asked body) (omega arith) tt

  -- none of them is the one for room
  pub refusals-not-room : answer_of (refusals asked body) ≡ room → ⊥
  unfolding refusals
  refusals-not-room = answer_not room (refusals asked body) (omega arith) tt

pub few_counted : (f : List ℕ) → field_refused f ≡ false → count_of f ≤ 4
unfolding field_refused
few_counted f e = ltb-false 4 (count_of f) (search (neither_left, neither_right, e) depth 10)

-- a body that was checked has the fields that it was checked by, and neither answer 2 nor answer 3 refuses them
pub record Checked (front : Front) (rest f : List ℕ) : Type 0 where
  pub same : f ≡ fields_by front rest
  pub no_length : length_refused (fields_by front rest) ≡ false
  pub no_field : field_refused (fields_by front rest) ≡ false

pub checked_by : {front given : Front} {rest lent : Bor (List ℕ)} → (front ≡ given) × (rest ≡ lent) × (body_answer (fields_by given lent.now) ≡ 0) → Checked front rest.now (fields_by given lent.now)
checked_by {given = given} {lent = lent} e =
    let kept = nothing_refused (fields_by given lent.now) e.2 in
    record { same = rw (e.0, e.1); no_length = rw (e.0, e.1) kept.0; no_field = rw (e.0, e.1) kept.1 }

pub accepts_as : {f g : List ℕ} {arm : Arm} {plan : Plan} → f ≡ g → AcceptsFields g arm plan → AcceptsFields f arm plan
accepts_as {arm = arm} {plan} same k = subst (λ (x : List ℕ). AcceptsFields x arm plan) (sym same) k

-- what is said of the error that `?` passes on
pub passed_on : {A E : Type 0} (r : Result A E) {e : E} (P : E → Type 0) → IsErrAnd r (λ x. x ≡ e) → P e → IfErr r P
passed_on (Ok x) P is p = tt
passed_on (Err x) P is p = rw is p

-- the front and the rest that the code has are the fields
pub parts_are : (version : ℕ) (body : List ℕ) {at : ℕ} {front : Front} → at ≡ rest_at version → at ≤ length body → front ≡ front_of version body → fields version body ≡ fields_by front (take (length body - at) (drop at body))
parts_are version body {at} a h e =
    let all : take (length body - at) (drop at body) ≡ drop at body = ap (λ (n : ℕ). take n (drop at body)) (sym (length-drop at body)) ∙ take-length (drop at body) in
    rw (all, e, a) (sym (fields_by_lem version body (rw a at h)))

-- and so is its record
pub record_is : (version : ℕ) (body : List ℕ) {at : ℕ} {front : Front} → at ≡ rest_at version → at ≤ length body → front ≡ front_of version body → record_of version body ≡ instruction_by front (take (length body - at) (drop at body))
record_is version body a h e = rw (parts_are version body a h e, ap (λ (f : Front). f.start) e)

-- so what the code judges of the two is what is judged of the body
module _ (asked : Asked) (body : List ℕ) {at : ℕ} {front : Front} (m : asked_refused asked ≡ false) (a : at ≡ rest_at asked.version) (h : at ≤ length body) (e : front ≡ front_of asked.version body) where
  abbrev rest : List ℕ
  rest = take (length body - at) (drop at body)

  accepts_by : {arm : Arm} {plan : Plan} → AcceptsFields (fields_by front rest) arm plan → Accepts asked body arm plan front rest
  accepts_by j =
      let parts = parts_are asked.version body a h e in
      record {
        answer = j.answer asked body m parts;
        own_arm = rw parts j.own_arm;
        own_plan = rw parts j.own_plan;
        fields = parts;
        start = sym (ap (λ (f : Front). f.start) e);
      }

  pub judged_ok : (given : Bor (List ℕ)) (r : Result Accepted Reason) → given.now ≡ rest → IfOk r (λ x. AcceptsFields (fields_by front given.now) x.arm x.plan × (x.body.front ≡ front) × (x.body.rest ≡ given)) → IfOk r (λ x. Accepts asked body x.arm x.plan x.body.front x.body.rest.now)
  judged_ok given (Ok x) is j = rw (j.1, j.2, is) (accepts_by (rw is at j.0))
  judged_ok given (Err reason) is j = tt

  pub judged_err : (r : Result Accepted Reason) → IfErr r (λ why. FieldsAnswer (fields_by front rest) (number_of why)) → IfErr r (λ why. number_of why ≡ answer_of (refusals asked body))
  judged_err (Ok x) j = tt
  judged_err (Err reason) j = sym (j asked body m (parts_are asked.version body a h e))

-- what is known of an accepted record
pub record Unrefused (asked : Asked) (body : List ℕ) : Type 0 where
  pub no_mode : asked_refused asked ≡ false
  pub no_length : length_refused (fields_of asked body) ≡ false
  pub no_field : field_refused (fields_of asked body) ≡ false
  pub no_shape : shape_refused (arm_at (fields_of asked body)) (instruction_of (fields_of asked body)) ≡ false
  pub no_size : size_refused (arm_at (fields_of asked body)) (instruction_of (fields_of asked body)) ≡ false
  pub no_broadcast : broadcast_refused (arm_at (fields_of asked body)) (instruction_of (fields_of asked body)) ≡ false
  pub held : Whole (fields_of asked body)
  pub few : count_of (fields_of asked body) ≤ 4

pub unrefused : (asked : Asked) (body : List ℕ) → answer_of (refusals asked body) ≡ 0 → Unrefused asked body
unfolding refusals
unrefused asked body e =
    let n : None (refusals asked body) = none_or_answer (refusals asked body) (refusals-never-zero asked body) e in
    record {
      no_mode = n.0;
      no_length = n.1.0;
      no_field = n.1.1.0;
      no_shape = n.1.1.1.0;
      no_size = n.1.1.1.1.0;
      no_broadcast = n.1.1.1.1.1.0;
      held = whole (fields_of asked body) n.1.0;
      few = few_counted (fields_of asked body) n.1.1.0;
    }

-- an accepted record holds its rest
pub rest_held : {asked : Asked} {body : List ℕ} → Unrefused asked body → rest_at asked.version ≤ length body
rest_held {asked} {body} k = rest_within asked.version body k.held.fixed

-- the plan of an accepted record shows its operands from the left
pub plan_from_the_left :
    {asked : Asked} {body : List ℕ} {arm : Arm} {plan : Plan} {i : Instruction} (mode : Mode) →
    Unrefused asked body → arm ≡ arm_at (fields_of asked body) → plan ≡ plan_of (arm_at (fields_of asked body)) (instruction_of (fields_of asked body)) →
    record_of asked.version body ≡ i →
    from_the_left (items_at mode arm i plan) ≡ true
plan_from_the_left {asked = asked} {body = body} mode k a p r =
    rw (a, p, ← r)
    (body_from_the_left mode (arm_at (fields_of asked body)) (start_of asked.version body) (fields_of asked body) k.no_shape)
