-- Some place of the plan prints a `{1toN}` with N above 16 exactly where the broadcast is refused: answer 7 from the fields is answer 7
-- from the plan. And a record without flag bit 6 and tail has the plan of its places.
-- Assumes nothing.
use mathlib.Core.Path.{◌≡◌, refl, sym, ap, ◌∙◌}
use mathlib.Core.Bool.{Bool, true, false, cond, ◌&&◌, ◌||◌, and-false, and_comm}
use mathlib.Core.List.{List, [], ◌∷◌}
use Prim.Native.Nat.{ℕ}
use lib.Dec.{eqb, ltb}
use Rattle.operands.specs.Kinds.{is_absent, is_register, is_register_r, is_memory}
use Rattle.operands.specs.declared.Instruction.{Instruction}
use Rattle.operands.specs.declared.Operand.{Operand}
use Rattle.operands.specs.declared.Label.{Label}
use Rattle.std.specs.Prelude.{Some, None}
use Rattle.operands.specs.declared.Tail.TheVariants as tail
use Rattle.places.specs.declared.Segment.{Segment}
use Rattle.places.specs.declared.Segment.TheVariants.{Shown as Own, UnlessDs}
use Rattle.places.specs.declared.Place.TheVariants as place
use Rattle.places.specs.declared.Plan.{Plan}
use Rattle.names.specs.declared.Arm.{Arm}
use Rattle.names.specs.declared.Arm.TheVariants as arms
use Rattle.names.specs.Among.{is_arm, is_one_of}
use Rattle.arms.specs.Tests.{is_branch, is_xbegin, lsl_source}
use Rattle.arms.specs.Labels.{size_label, general_label}
use Rattle.arms.specs.Code.{general_by, mmword_for}
use Rattle.arms.specs.Plans.{plain, labelled, st, named, none, one, two, spread, general, general_plan, fadd, places_of, decorated, plan_of}
use Rattle.arms.specs.Size.{general_path}
use Rattle.arms.specs.Decorations.{is_broadcast, broadcast_count, prints_over16, tail_of, broadcast_refused}
use Rattle.arms.specs.Missing.{is_over16, plan_over16}
use Rattle.bodies.specs.Body.{size_of, is_extended}
use Rattle.bodies.specs.Refusals.{field_refused}
use Rattle.bodies.specs.Decoding.{instruction_of}
use Rattle.bodies.proofs.OldKept.{old_kept, old_flags}
use Rattle.arms.proofs.GeneralPath.{general_plan_lem}

-- ---- Places have no broadcast of their own

over_either : (i : Instruction) (p : Bool) (x y : Plan) → plan_over16 i x ≡ false → plan_over16 i y ≡ false → plan_over16 i (cond p x y) ≡ false
over_either i true x y e k = e
over_either i false x y e k = k

module _ (i : Instruction) where
  over_spread : (first later : Label) (segment : Segment) → plan_over16 i (spread first later segment) ≡ false
  unfolding plan_over16 spread
  over_spread first later segment = refl

  over_general_plan : plan_over16 i (general_plan i) ≡ false
  unfolding general
  over_general_plan = over_spread _ _ Own

  over_else : (p : Bool) (x : Plan) → plan_over16 i x ≡ false → plan_over16 i (cond p x (general_plan i)) ≡ false
  over_else p x e = over_either i p x (general_plan i) e over_general_plan

  over_fadd : plan_over16 i (fadd i.size i.a i.b) ≡ false
  unfolding plan_over16
  over_fadd =
      over_either i (is_memory i.b) (one (labelled (size_label i.size) Own 1)) (cond (is_register_r i.a) (two (st 0) (plain 1)) (two (plain 0) (st 1))) refl
      (over_either i (is_register_r i.a) (two (st 0) (plain 1)) (two (plain 0) (st 1)) refl refl)

places-not_over : (arm : Arm) (i : Instruction) → plan_over16 i (places_of arm i) ≡ false
unfolding places_of plan_over16 general
places-not_over arms.General i = over_general_plan i
places-not_over arms.Qword i = over_spread i _ _ Own
places-not_over arms.Mmword i = over_spread i _ _ Own
places-not_over arms.Jmpf i = over_spread i _ _ Own
places-not_over arms.Callf i = over_spread i _ _ Own
places-not_over arms.Lds i = over_spread i _ _ Own
places-not_over arms.Movs i = over_spread i _ _ UnlessDs
places-not_over arms.Cmps i = over_general_plan i
places-not_over arms.Singles i = over_general_plan i
places-not_over arms.Doubles i = over_general_plan i
places-not_over arms.Branch i = over_else i (is_branch i.a) (one place.Branch) refl
places-not_over arms.Call i = over_else i (is_branch i.a) (one place.Branch) refl
places-not_over arms.Xbegin i = over_else i (is_xbegin i.a) (one place.Branch) refl
places-not_over arms.Lsl i = over_else i (is_register i.a && is_register i.b) (two (plain 0) (named (lsl_source i.a i.b))) refl
places-not_over arms.Nop i = over_either i (is_absent i.b) (general_plan i) none (over_general_plan i) refl
places-not_over arms.Incssp i = over_general_plan i
places-not_over arms.Wrss i = over_general_plan i
places-not_over arms.Aam i = over_else i (eqb i.imm 10) none refl
places-not_over arms.Fadd i = over_fadd i
places-not_over _ i = refl

-- ---- The general path

-- one operand that a broadcast may stand after
over_after : (g over memory : Bool) (n : ℕ) → ltb 16 n ≡ over → (is_over16 (cond g (Some n) None) && memory) ≡ (g && (memory && over))
over_after true over memory n e = rw e (and_comm over memory)
over_after false over memory n e = refl

three-share : (g x y z : Bool) → (g && x || g && y || g && z) ≡ (g && (x || y || z))
three-share true x y z = refl
three-share false x y z = refl

module _ (arm : Arm) (i : Instruction) where
  abbrev over : (before operand : Operand) → Bool
  over before operand = prints_over16 arm i before operand

  over_decorated_spread :
      (first later : Label) (segment : Segment) →
      plan_over16 i (decorated arm i (spread first later segment)) ≡ (is_broadcast i && (over i.a i.b || over i.b i.c || over i.c i.d))
  unfolding plan_over16 decorated spread
  over_decorated_spread first later segment =
      rw (
        over_after (is_broadcast i) (ltb 16 (broadcast_count arm i i.a)) (is_memory i.b) (broadcast_count arm i i.a) refl,
        over_after (is_broadcast i) (ltb 16 (broadcast_count arm i i.b)) (is_memory i.c) (broadcast_count arm i i.b) refl,
        over_after (is_broadcast i) (ltb 16 (broadcast_count arm i i.c)) (is_memory i.d) (broadcast_count arm i i.c) refl,
      )
      (three-share (is_broadcast i) (over i.a i.b) (over i.b i.c) (over i.c i.d))

  over_decorated_general : general_path arm i ≡ true → plan_over16 i (decorated arm i (places_of arm i)) ≡ (is_broadcast i && (over i.a i.b || over i.b i.c || over i.c i.d))
  unfolding general_by
  over_decorated_general e =
      ap (λ (p : Plan). plan_over16 i (decorated arm i p)) (general_plan_lem i arm e)
      ∙ over_decorated_spread (general_label (mmword_for arm i) (is_one_of arm (arms.Jmpf ∷ arms.Callf ∷ [])) i.size) (general_label (mmword_for arm i) (is_arm arm arms.Lds) i.size)
      (cond (is_arm arm arms.Movs) UnlessDs Own)

  pub plan_over : plan_over16 i (plan_of arm i) ≡ broadcast_refused arm i
  unfolding plan_of broadcast_refused
  plan_over = go (general_path arm i) refl
    where
      go : (g : Bool) → general_path arm i ≡ g → plan_over16 i (cond g (decorated arm i (places_of arm i)) (places_of arm i)) ≡ (g && (is_broadcast i && (over i.a i.b || over i.b i.c || over i.c i.d)))
      go true e = over_decorated_general e
      go false e = places-not_over arm i

  pub no_broadcast : is_broadcast i ≡ false → broadcast_refused arm i ≡ false
  unfolding broadcast_refused
  no_broadcast e = rw e (and-false (general_path arm i))

  -- ---- Nothing is added

  pub not-decorated :
      (first later : Label) (segment : Segment) →
      is_broadcast i ≡ false →
      i.tail ≡ 0 →
      decorated arm i (spread first later segment) ≡ spread first later segment
  unfolding decorated spread tail_of
  not-decorated first later segment e f = rw (e, f, same (is_absent i.a))
    where
      same : (g : Bool) → cond g tail.None (tail.None) ≡ tail.None
      same true = refl
      same false = refl

  -- ---- The plan of a record, as the code makes it

  pub plan_of-general : general_path arm i ≡ true → decorated arm i (general_by arm (mmword_for arm i) i.size) ≡ plan_of arm i
  unfolding plan_of
  plan_of-general e = rw e (ap (decorated arm i) (sym (general_plan_lem i arm e)))

  pub plan_of-bare : general_path arm i ≡ true → is_broadcast i ≡ false → i.tail ≡ 0 → general_by arm (mmword_for arm i) i.size ≡ plan_of arm i
  unfolding general_by
  plan_of-bare e once untailed = sym (not-decorated _ _ _ once untailed) ∙ plan_of-general e

  pub plan_of_own : general_path arm i ≡ false → places_of arm i ≡ plan_of arm i
  unfolding plan_of
  plan_of_own e = rw e

-- a record that is not extended has neither flag bit 6 nor a tail
pub plan_of_old :
    (arm : Arm) (body : List ℕ) → is_extended body ≡ false → field_refused body ≡ false → general_path arm (instruction_of body) ≡ true →
    general_by arm (mmword_for arm (instruction_of body)) (size_of body) ≡ plan_of arm (instruction_of body)
unfolding instruction_of
plan_of_old arm body old kept e = plan_of-bare arm (instruction_of body) e (old_flags body old kept) (old_kept body old).tail
