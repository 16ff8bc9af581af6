-- Every operand that an arm shows of an accepted record is sound.
-- Assumes nothing.
use mathlib.Core.Path.{◌≡◌, refl, sym, ◌∙◌}
use mathlib.Core.Bool.{Bool, true, false, cond, not, ◌&&◌, ◌||◌, true≢false, or-false}
use mathlib.Core.List.{[], ◌∷◌}
use Prim.Native.Nat.{ℕ}
use borrow.Author.Tests.{not-false}
use lib.Dec.{eqb}
use Rattle.operands.specs.Kinds.{is_absent, is_register, is_register_r, is_memory}
use Rattle.operands.specs.Parts.{starting_at, mask_of, is_mask_register}
use Rattle.operands.specs.RegisterBytes.{is_register_byte}
use Rattle.operands.specs.declared.Operand.{Operand}
use Rattle.std.specs.Prelude.{Option as Optional}
use Rattle.operands.specs.declared.Instruction.{Instruction}
use Rattle.operands.specs.declared.Items.{Items}
use Rattle.bodies.specs.WellFormed.{WellFormed}
use Rattle.bodies.proofs.Picks.{both_left, both_right, neither_left, neither_right, picked}
use Rattle.branches.specs.declared.Mode.{Mode}
use Rattle.names.specs.Among.{is_arm, is_one_of}
use Rattle.names.specs.declared.Arm.{Arm}
use Rattle.names.specs.declared.Arm.TheVariants.{
  General,
  Qword,
  Mmword,
  Jmpf,
  Callf,
  Lds,
  Movs,
  Cmps,
  Singles,
  Doubles,
  Branch,
  Call,
  Xbegin,
  Feni,
  Fdisi,
  Fsetpm,
  Hreset,
  Lsl,
  Prefetch,
  Sgdt,
  Lss,
  Nop,
  ScatterDword,
  ScatterQword,
  Monitor,
  Mwait,
  Invlpgb,
  Rdpru,
  Scas,
  Lods,
  Psmash,
  Pvalidate,
  Incssp,
  Wrss,
  Pblendvb,
  Lea,
  Pushf,
  Aam,
  Fcom,
  Fadd,
  Fbld,
  Fbstp,
}
use Rattle.places.specs.Places.{items_at}
use Rattle.places.specs.declared.Place.{Place}
use Rattle.places.specs.declared.Place.TheVariants as place
use Rattle.places.specs.declared.Plan.{Plan}
use Rattle.arms.specs.Tests.{is_branch, is_xbegin, lsl_source}
use Rattle.arms.specs.Plans.{plain, st, named, none, one, two, spread, general, general_plan, places_of, broadcast_as, decorated, plan_of}
use Rattle.arms.specs.Shape.{scatter_refused, shape_refused}
use Rattle.arms.specs.Size.{general_path}
use Rattle.arms.specs.Decorations.{broadcast_after, broadcast_refused}
use Rattle.arms.specs.Missing.{plan_over16}
use Rattle.arms.proofs.ByArm.{at_lsl, scattering}
use Rattle.arms.proofs.Over16.{plan_over}
use Rattle.readback.proofs.Sound.{SoundItem}
use Rattle.readback.proofs.SoundPlaces.{place_sound, sound_place}
use Rattle.readback.proofs.Starts.{well_started, over_unstarted}

-- ---- Plans

-- the arms of relative branches
abbrev pub is_relative : Arm → Bool
is_relative arm = is_one_of arm (Branch ∷ Call ∷ [])

-- the arm shows a branch of this record
abbrev pub branches : Arm → Instruction → Bool
branches arm i = (is_relative arm && is_branch i.a) || (is_arm arm Xbegin && is_xbegin i.a)

abbrev plan_sound : (branches : Bool) → Instruction → Plan → Bool
plan_sound b i plan = place_sound b i.b plan.a && place_sound b i.b plan.b && place_sound b i.b plan.c && place_sound b i.b plan.d

-- either side of an arm's test
either_plan : (arm : Arm) (i : Instruction) (p : Bool) (x y : Plan) → (p ≡ true → plan_sound (branches arm i) i x ≡ true) → (p ≡ false → plan_sound (branches arm i) i y ≡ true)
    → plan_sound (branches arm i) i (cond p x y) ≡ true
either_plan arm i p x y f g = picked (λ (plan : Plan). plan_sound (branches arm i) i plan ≡ true) p x y f g

-- LSL of two registers is refused where the rewritten source is none
source_there : (p q r : Bool) → (not p || q && not r) ≡ false → (p && q) ≡ true → r ≡ true
source_there true true r h e = not-false r h
source_there true false r h e = absurd (true≢false (sym e))
source_there false q r h e = absurd (true≢false h)

-- operand 1 of VPSCATTER is a mask register, or the shape is refused
mask_there : (a b c : Operand) → scatter_refused a b c ≡ false → is_mask_register b ≡ true
mask_there a b c e =
    not-false (is_mask_register b)
    (neither_right (not (is_memory a && eqb (mask_of a) 0)) (not (is_mask_register b)) (neither_left (not (is_memory a && eqb (mask_of a) 0) || not (is_mask_register b)) (is_absent c) e))

places_sound : (arm : Arm) (i : Instruction) → shape_refused arm i ≡ false → plan_sound (branches arm i) i (places_of arm i) ≡ true
unfolding places_of general spread
places_sound General i s = refl
places_sound Qword i s = refl
places_sound Mmword i s = refl
places_sound Jmpf i s = refl
places_sound Callf i s = refl
places_sound Lds i s = refl
places_sound Movs i s = refl
places_sound Cmps i s = refl
places_sound Singles i s = refl
places_sound Doubles i s = refl
places_sound Branch i s =
    either_plan Branch i (is_branch i.a) (one place.Branch) (general_plan i) (λ e. rw (or-false (is_branch i.a), e)) (λ e. refl)
places_sound Call i s =
    either_plan Call i (is_branch i.a) (one place.Branch) (general_plan i) (λ e. rw (or-false (is_branch i.a), e)) (λ e. refl)
places_sound Xbegin i s = either_plan Xbegin i (is_xbegin i.a) (one place.Branch) (general_plan i) (λ e. rw e) (λ e. refl)
places_sound Feni i s = refl
places_sound Fdisi i s = refl
places_sound Fsetpm i s = refl
places_sound Hreset i s = refl
places_sound Lsl i s =
    either_plan Lsl i (is_register i.a && is_register i.b) (two (plain 0) (named (lsl_source i.a i.b))) (general_plan i)
    (λ e. rw (source_there (is_register i.a) (is_register i.b) (is_register_byte (lsl_source i.a i.b)) (sym (at_lsl i) ∙ s) e))
    (λ e. refl)
places_sound Prefetch i s = refl
places_sound Sgdt i s = refl
places_sound Lss i s = refl
places_sound Nop i s = either_plan Nop i (is_absent i.b) (general_plan i) none (λ e. refl) (λ e. refl)
places_sound ScatterDword i s = rw (mask_there i.a i.b i.c (sym (scattering i).0 ∙ s))
places_sound ScatterQword i s = rw (mask_there i.a i.b i.c (sym (scattering i).1.0 ∙ s))
places_sound Monitor i s = refl
places_sound Mwait i s = refl
places_sound Invlpgb i s = refl
places_sound Rdpru i s = refl
places_sound Scas i s = refl
places_sound Lods i s = refl
places_sound Psmash i s = refl
places_sound Pvalidate i s = refl
places_sound Incssp i s = refl
places_sound Wrss i s = refl
places_sound Pblendvb i s = refl
places_sound Lea i s = refl
places_sound Pushf i s = refl
places_sound Aam i s = either_plan Aam i (eqb i.imm 10) none (general_plan i) (λ e. refl) (λ e. refl)
places_sound Fcom i s = refl
places_sound Fadd i s =
    either_plan Fadd i (is_memory i.b) _ _ (λ e. refl)
    (λ e. either_plan Fadd i (is_register_r i.a) (two (st 0) (plain 1)) (two (plain 0) (st 1)) (λ f. refl) (λ f. refl))
places_sound Fbld i s = refl
places_sound Fbstp i s = refl

-- a broadcast leaves a place as sound as it is
sound_with_broadcast : (c : Bool) (second : Operand) (b : Optional ℕ) (p : Place) → place_sound c second (broadcast_as b p) ≡ place_sound c second p
sound_with_broadcast c second b place.Nothing = refl
sound_with_broadcast c second b (place.Register reg) = refl
sound_with_broadcast c second b place.Branch = refl
sound_with_broadcast c second b (place.Operand k label segment short mask _) = refl

module _ (arm : Arm) (i : Instruction) where
  decorated_sound : (plan : Plan) → plan_sound (branches arm i) i plan ≡ true → plan_sound (branches arm i) i (decorated arm i plan) ≡ true
  unfolding decorated
  decorated_sound plan e =
      rw (
        sound_with_broadcast (branches arm i) i.b (broadcast_after arm i i.a) plan.b,
        sound_with_broadcast (branches arm i) i.b (broadcast_after arm i i.b) plan.c,
        sound_with_broadcast (branches arm i) i.b (broadcast_after arm i i.c) plan.d,
      )
      e

  plan_sound_lem : shape_refused arm i ≡ false → plan_sound (branches arm i) i (plan_of arm i) ≡ true
  unfolding plan_of
  plan_sound_lem s =
      either_plan arm i (general_path arm i) (decorated arm i (places_of arm i)) (places_of arm i) (λ e. decorated_sound (places_of arm i) (places_sound arm i s)) (λ e. places_sound arm i s)

-- ---- What an arm shows

pub record SoundItems (branches : Bool) (x : Items) : Type 0 where
  pub a : SoundItem branches x.a
  pub b : SoundItem branches x.b
  pub c : SoundItem branches x.c
  pub d : SoundItem branches x.d

items_of : {c : Bool} (mode : Mode) (arm : Arm) (i : Instruction) → WellFormed i → (plan : Plan) → plan_sound c i plan ≡ true → plan_over16 i plan ≡ false → SoundItems c (items_at mode arm i plan)
unfolding items_at plan_over16
items_of mode arm i w plan e o =
    record {
      a = sound_place mode arm i w plan.a (search (both_left, both_right, e)) (search (neither_left, neither_right, o));
      b = sound_place mode arm i w plan.b (search (both_left, both_right, e)) (search (neither_left, neither_right, o));
      c = sound_place mode arm i w plan.c (search (both_left, both_right, e)) (search (neither_left, neither_right, o));
      d = sound_place mode arm i w plan.d (search (both_left, both_right, e)) (search (neither_left, neither_right, o));
    }

pub items_sound : (mode : Mode) (arm : Arm) (start : ℕ) (i : Instruction) → WellFormed i → shape_refused arm i ≡ false → broadcast_refused arm i ≡ false
    → SoundItems (branches arm i) (items_at mode arm (starting_at start i) (plan_of arm i))
items_sound mode arm start i w s b =
    items_of mode arm (starting_at start i) (well_started start i w) (plan_of arm i) (plan_sound_lem arm i s) (over_unstarted start i (plan_of arm i) ∙ plan_over arm i ∙ b)
