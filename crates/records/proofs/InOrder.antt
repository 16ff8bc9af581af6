-- No place of an arm's plan shows an operand with a lower number than its own.
-- Assumes nothing.
use mathlib.Core.Path.{◌≡◌, refl}
use mathlib.Core.Bool.{◌&&◌}
use Prim.Native.Nat.{ℕ}
use lib.Dec.{T, eqb}
use Rattle.text.proofs.Choosing.{cond_by}
use Rattle.names.specs.declared.Arm.{Arm}
use Rattle.names.specs.declared.Arm.TheVariants as arm
use Rattle.operands.specs.Kinds.{is_absent, is_register, is_register_r, is_memory}
use Rattle.operands.specs.declared.Instruction.{Instruction}
use Rattle.std.specs.Prelude.{Option}
use Rattle.places.specs.declared.Place.{Place}
use Rattle.places.specs.declared.Place.TheVariants as place
use Rattle.places.specs.declared.Plan.{Plan}
use Rattle.lines.proofs.Rooms.{is_from, in_order}
use Rattle.arms.specs.Tests.{is_branch, is_xbegin}
use Rattle.arms.specs.Plans.{spread, general, places_of, broadcast_as, decorated, plan_of}
use Rattle.arms.specs.Size.{general_path}
use Rattle.arms.specs.Decorations.{broadcast_after}

places_in_order : (a : Arm) (i : Instruction) → T (in_order (places_of a i))
unfolding places_of general spread
places_in_order arm.General i = tt
places_in_order arm.Qword i = tt
places_in_order arm.Mmword i = tt
places_in_order arm.Jmpf i = tt
places_in_order arm.Callf i = tt
places_in_order arm.Lds i = tt
places_in_order arm.Movs i = tt
places_in_order arm.Cmps i = tt
places_in_order arm.Singles i = tt
places_in_order arm.Doubles i = tt
places_in_order arm.Branch i = cond_by (λ (p : Plan). T (in_order p)) (is_branch i.a) (λ e. tt) (λ e. tt)
places_in_order arm.Call i = cond_by (λ (p : Plan). T (in_order p)) (is_branch i.a) (λ e. tt) (λ e. tt)
places_in_order arm.Xbegin i = cond_by (λ (p : Plan). T (in_order p)) (is_xbegin i.a) (λ e. tt) (λ e. tt)
places_in_order arm.Feni i = tt
places_in_order arm.Fdisi i = tt
places_in_order arm.Fsetpm i = tt
places_in_order arm.Hreset i = tt
places_in_order arm.Lsl i = cond_by (λ (p : Plan). T (in_order p)) (is_register i.a && is_register i.b) (λ e. tt) (λ e. tt)
places_in_order arm.Prefetch i = tt
places_in_order arm.Sgdt i = tt
places_in_order arm.Lss i = tt
places_in_order arm.Nop i = cond_by (λ (p : Plan). T (in_order p)) (is_absent i.b) (λ e. tt) (λ e. tt)
places_in_order arm.ScatterDword i = tt
places_in_order arm.ScatterQword i = tt
places_in_order arm.Monitor i = tt
places_in_order arm.Mwait i = tt
places_in_order arm.Invlpgb i = tt
places_in_order arm.Rdpru i = tt
places_in_order arm.Scas i = tt
places_in_order arm.Lods i = tt
places_in_order arm.Psmash i = tt
places_in_order arm.Pvalidate i = tt
places_in_order arm.Incssp i = tt
places_in_order arm.Wrss i = tt
places_in_order arm.Pblendvb i = tt
places_in_order arm.Lea i = tt
places_in_order arm.Pushf i = tt
places_in_order arm.Aam i = cond_by (λ (p : Plan). T (in_order p)) (eqb i.imm 10) (λ e. tt) (λ e. tt)
places_in_order arm.Fcom i = tt
places_in_order arm.Fadd i =
    cond_by (λ (p : Plan). T (in_order p)) (is_memory i.b) (λ e. tt)
    (λ e. cond_by (λ (p : Plan). T (in_order p)) (is_register_r i.a) (λ e. tt) (λ e. tt))
places_in_order arm.Fbld i = tt
places_in_order arm.Fbstp i = tt

-- a broadcast and a tail leave the operands where they are
from_with_broadcast : (j : ℕ) (b : Option ℕ) (p : Place) → is_from j (broadcast_as b p) ≡ is_from j p
from_with_broadcast j b place.Nothing = refl
from_with_broadcast j b (place.Register reg) = refl
from_with_broadcast j b place.Branch = refl
from_with_broadcast j b (place.Operand k label segment short mask _) = refl

module _ (arm : Arm) (i : Instruction) where
  decorated_in_order : (plan : Plan) → T (in_order plan) → T (in_order (decorated arm i plan))
  unfolding decorated
  decorated_in_order plan t =
      rw (
        from_with_broadcast 1 (broadcast_after arm i i.a) plan.b,
        from_with_broadcast 2 (broadcast_after arm i i.b) plan.c,
        from_with_broadcast 3 (broadcast_after arm i i.c) plan.d,
      )
      t

  pub plan_in_order : T (in_order (plan_of arm i))
  unfolding plan_of
  plan_in_order =
      cond_by (λ (p : Plan). T (in_order p)) (general_path arm i) (λ e. decorated_in_order (places_of arm i) (places_in_order arm i)) (λ e. places_in_order arm i)
