-- A record keeps its rules wherever it starts, and its places lack no more and repeat no more.
-- Assumes nothing.
use mathlib.Core.Path.{◌≡◌, refl}
use Prim.Native.Nat.{ℕ}
use Rattle.operands.specs.Parts.{starting_at}
use Rattle.operands.specs.declared.Instruction.{Instruction}
use Rattle.bodies.specs.WellFormed.{WellFormed}
use Rattle.places.specs.declared.Place.{Place}
use Rattle.places.specs.declared.Place.TheVariants as place
use Rattle.places.specs.declared.Plan.{Plan}
use Rattle.places.proofs.Starts.{operand_unstarted}
use Rattle.arms.specs.Missing.{place_lacks, plan_lacks, place_over16, plan_over16}

module _ (start : ℕ) (i : Instruction) where
  pub well_started : WellFormed i → WellFormed (starting_at start i)
  well_started w =
      record {
        opcode = w.opcode;
        flags = w.flags;
        length_least = w.length_least;
        length_most = w.length_most;
        size = w.size;
        imm = w.imm;
        bits = w.bits;
        tail = w.tail;
        a = w.a;
        b = w.b;
        c = w.c;
        d = w.d;
        no_a = w.no_a;
        no_b = w.no_b;
        no_c = w.no_c;
      }

  place_lacks_lem : (p : Place) → place_lacks (starting_at start i) p ≡ place_lacks i p
  place_lacks_lem place.Nothing = refl
  place_lacks_lem (place.Register reg) = refl
  place_lacks_lem place.Branch = refl
  place_lacks_lem (place.Operand k label segment short mask b) = rw (operand_unstarted start i k)

  pub lacks_unstarted : (plan : Plan) → plan_lacks (starting_at start i) plan ≡ plan_lacks i plan
  unfolding plan_lacks
  lacks_unstarted plan = rw (place_lacks_lem plan.a, place_lacks_lem plan.b, place_lacks_lem plan.c, place_lacks_lem plan.d)

  place_over : (p : Place) → place_over16 (starting_at start i) p ≡ place_over16 i p
  place_over place.Nothing = refl
  place_over (place.Register reg) = refl
  place_over place.Branch = refl
  place_over (place.Operand k label segment short mask b) = rw (operand_unstarted start i k)

  pub over_unstarted : (plan : Plan) → plan_over16 (starting_at start i) plan ≡ plan_over16 i plan
  unfolding plan_over16
  over_unstarted plan = rw (place_over plan.a, place_over plan.b, place_over plan.c, place_over plan.d)
