-- What the width that MASM's reader yields tells of a printed branch, in every mode.
-- Assumes nothing.
use mathlib.Core.Path.{◌≡◌, refl, sym, subst, ◌∙◌}
use mathlib.Core.Bool.{Bool, true, false, cond, ◌&&◌, true≢false}
use mathlib.Core.List.{List}
use mathlib.Core.Logic.{inl, inr}
use mathlib.Core.Option.{Option, none, some, none-ne-some, some-injective}
use Prim.Native.Nat.{ℕ}
use native.Mathlib.Omega.{arith}
use borrow.Author.Tests.{eqb-true}
use lib.Dec.{eqb}
use Rattle.operands.specs.declared.Instruction.{Instruction}
use Rattle.operands.specs.Kinds.{i8, i32}
use Rattle.operands.specs.Parts.{immediate_kind}
use Rattle.bodies.specs.Versions.{record_of}
use Rattle.bodies.proofs.Picks.{both_left, both_right}
use Rattle.branches.specs.Sums.{from128to255}
use Rattle.records.specs.Records.{record_text}
use Rattle.records.specs.declared.Asked.{Asked}
use Rattle.masm.specs.Operands.{Width}
use Rattle.readback.specs.Printed.{Printed}
use Rattle.readback.specs.Targets.{BranchRecord, short, long, BranchesTo, ShowsNumber, mode0_sum, mode0_width, no_short_form, straight_width, StraightWidth, Mode0Width}
use Rattle.readback.proofs.Branching.{straight_width_only, mode_0_width_only}
use Rattle.readback.proofs.Targets.{mode_2_only}

-- ---- The widths of the modes

module _ (i : Instruction) where
  -- by whether there is no short form
  straight_by : (b : Bool) → no_short_form i ≡ b → BranchRecord i → StraightWidth i (cond b none (cond (eqb (immediate_kind i.a) i8) (some 8) (some 32)))
  straight_by true e r =
      record {
        bits_8 = (λ w. absurd (none-ne-some 8 w), λ q. absurd (true≢false (sym e ∙ q.0)));
        bits_32 = (λ w. absurd (none-ne-some 32 w), λ q. absurd (true≢false (sym e ∙ q.0)));
        neither = (λ w. e, λ q. refl);
      }
  straight_by false e (short h k) =
      rw k
      (record {
        bits_8 = (λ w. (e, k), λ q. refl);
        bits_32 = (λ w. absurd (let z : ◌≡◌ {A = ℕ} 8 32 = some-injective 8 32 w in omega arith), λ q. absurd (omega (arith, k, q.1)));
        neither = (λ w. absurd (none-ne-some 8 (sym w)), λ q. absurd (true≢false (sym q ∙ e)));
      })
  straight_by false e (long h k) =
      rw k
      (record {
        bits_8 = (λ w. absurd (let z : ◌≡◌ {A = ℕ} 32 8 = some-injective 32 8 w in omega arith), λ q. absurd (omega (arith, k, q.1)));
        bits_32 = (λ w. (e, k), λ q. refl);
        neither = (λ w. absurd (none-ne-some 32 (sym w)), λ q. absurd (true≢false (sym q ∙ e)));
      })

  straight_tells : BranchRecord i → StraightWidth i (straight_width i)
  straight_tells r = straight_by (no_short_form i) refl r

  -- by whether `near ptr` is called for
  mode_0_by : (b : Bool) → (eqb (immediate_kind i.a) i32 && from128to255 (mode0_sum i)) ≡ b → Mode0Width i (cond b (some 32) none)
  mode_0_by true e =
      record {
        bits_32 = (
          λ w. (
            eqb-true (immediate_kind i.a) i32 (both_left (eqb (immediate_kind i.a) i32) (from128to255 (mode0_sum i)) e),
            both_right (eqb (immediate_kind i.a) i32) (from128to255 (mode0_sum i)) e,
          ),
          λ q. refl,
        );
        else_none = inl refl;
      }
  mode_0_by false e =
      record {
        bits_32 = (λ w. absurd (none-ne-some 32 w), λ q. absurd (true≢false (sym (rw (q.1, q.0)) ∙ e)));
        else_none = inr refl;
      }

  mode_0_tells : Mode0Width i (mode0_width i)
  mode_0_tells = mode_0_by (eqb (immediate_kind i.a) i32 && from128to255 (mode0_sum i)) refl

-- ---- The theorems

module _ {asked : Asked} {body : List ℕ} (p : Printed asked body) where
  -- Mode 1: wherever a printed branch record is read to go, CALL and XBEGIN alone have no width, and of the others it is 8 bits exactly for
  -- kind 3 and 32 exactly for kind 5.
  pub straight_width_lem : asked.mode ≡ 1 → BranchRecord (record_of asked.version body) → (start : ℕ) {width : Option Width} {target : ℕ}
      → BranchesTo start (record_text asked body) width target → StraightWidth (record_of asked.version body) width
  straight_width_lem m r start b =
      subst (StraightWidth (record_of asked.version body)) (straight_width_only p m r start b) (straight_tells (record_of asked.version body) r)

  -- Mode 0: it is 32 bits exactly for kind 5 with a sum of 128 to 255, and there is none else.
  pub mode_0_width : asked.mode ≡ 0 → BranchRecord (record_of asked.version body) → (start : ℕ) {width : Option Width} {target : ℕ}
      → BranchesTo start (record_text asked body) width target → Mode0Width (record_of asked.version body) width
  mode_0_width m r start b = subst (Mode0Width (record_of asked.version body)) (mode_0_width_only p m r start b) (mode_0_tells (record_of asked.version body))

  -- Mode 2: whatever number it is read as, the width is that of mode 1.
  pub mode_2_width : asked.mode ≡ 2 → BranchRecord (record_of asked.version body) → {width : Option Width} {number : ℕ}
      → ShowsNumber (record_text asked body) width number → StraightWidth (record_of asked.version body) width
  mode_2_width m r b = subst (StraightWidth (record_of asked.version body)) (mode_2_only p m r b).0 (straight_tells (record_of asked.version body) r)
