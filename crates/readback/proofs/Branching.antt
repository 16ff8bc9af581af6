-- Where MASM's reader takes the branches that modes 0 and 1 print to go, and with which width.
-- Assumes nothing.
use mathlib.Core.Path.{◌≡◌, refl, sym, ap, subst, ◌∙◌}
use mathlib.Core.Bool.{not, Bool, true, false, cond, ◌&&◌, true≢false}
use mathlib.Core.List.{List, [], ◌∷◌}
use mathlib.Core.Logic.{inl, inr, ◌↔◌}
use mathlib.Core.Option.{Option, none, some}
use Prim.Native.Nat.{ℕ, zero, suc, ◌+◌, ◌%◌, ◌^◌, ◌≤◌, ◌<◌}
use native.Mathlib.Decide.{ℕ_discrete, dec_lt}
use native.Mathlib.Omega.{arith}
use borrow.Author.Tests.{ne_eqb}
use lib.Dec.{eqb}
use lib.IntN.{ℤ, pos, ◌+ℤ◌, +ℤ_assoc, +ℤ_comm}
use lib.ListN.{drop, replicate, get_or-append, get_or-replicate}
use Rattle.operands.specs.declared.Operand.{Operand}
use Rattle.operands.specs.declared.Operand.TheVariants.{Absent, Register, Imm, Absolute16, Absolute32, Memory}
use Rattle.operands.specs.declared.Instruction.{Instruction}
use Rattle.operands.specs.declared.BranchWord.TheVariants.{None, Near}
use Rattle.bodies.specs.WellFormed.{Kept, WellFormed}
use Rattle.operands.specs.Kinds.{i8, i32}
use Rattle.bodies.specs.Decoding.{instruction_of}
use Rattle.bodies.specs.Versions.{record_of}
use Rattle.bodies.proofs.Picks.{picked}
use Rattle.branches.specs.declared.Mode.{Mode}
use Rattle.branches.specs.declared.Mode.TheVariants.{Crate, Straight, Target}
use Rattle.branches.specs.Sums.{signed, branch_sum, branch_word, shown_sum, branch_shown, from128to255, modulo}
use Rattle.branches.proofs.Modulo.{target_wrapped}
use Rattle.names.specs.Opcodes.{opcodes, arms, arm_of}
use Rattle.operands.specs.Parts.{starting_at, immediate_kind, immediate_of}
use Rattle.arms.specs.Tests.{is_branch, is_xbegin}
use Rattle.arms.specs.Plans.{one, places_of, plan_of}
use Rattle.arms.proofs.GeneralPath.{path_of_branch, path_of_call, path_of_xbegin}
use Rattle.arms.proofs.Over16.{plan_of_own}
use Rattle.places.specs.Places.{branch_of, item_at, items_at}
use Rattle.places.specs.declared.Place.TheVariants as place
use Rattle.names.specs.declared.Arm.TheVariants.{General, Branch, Call, Xbegin}
use Rattle.records.specs.Records.{mode_of, fields_of, line_at, record_text}
use Rattle.records.specs.declared.Asked.{Asked}
use Rattle.masm.specs.Operands.{Width, branch}
use Rattle.readback.specs.Meaning.{width_of, meaning}
use Rattle.readback.specs.Printed.{Printed}
use Rattle.readback.specs.Targets.{BranchRecord, short, long, distance_of, record_target, BranchesTo, mode0_sum, mode0_width, no_short_form, straight_width, FitsByte, FitsMode0}
use Rattle.readback.proofs.Sums.{by_sign_lem, same_if_fits, fits_if_same, Short, sum_within_lem, after_start, without_start, wide_sum}
use Rattle.readback.proofs.Readback.{well, reads_back}

-- ---- The plan of a branch record

-- the arms of the opcodes up to 22: CALL is 1, XBEGIN 22, and the others are jumps
jump_arm : (k : ℕ) → k < 22 → (k ≡ 1 → ⊥) → arm_of k ≡ Branch
unfolding arm_of arms opcodes
jump_arm zero h n = refl
jump_arm (suc zero) h n = absurd (n refl)
jump_arm (suc (suc k)) h n =
    get_or-append (replicate 20 Branch) (drop 22 arms) General k (omega arith) ∙ get_or-replicate 20 k Branch General (omega arith)

call_arm : arm_of 1 ≡ Call
unfolding arm_of arms opcodes
call_arm = refl

xbegin_arm : arm_of 22 ≡ Xbegin
unfolding arm_of arms opcodes
xbegin_arm = refl

-- a branch record by its arm, with its test, and whether it has a short form
pub data ByArm (i : Instruction) : Type 0 where
  jump : arm_of i.opcode ≡ Branch → is_branch i.a ≡ true → no_short_form i ≡ false → ByArm i
  call : arm_of i.opcode ≡ Call → is_branch i.a ≡ true → no_short_form i ≡ true → ByArm i
  xbegin : arm_of i.opcode ≡ Xbegin → is_xbegin i.a ≡ true → no_short_form i ≡ true → ByArm i

module _ (i : Instruction) where
  by_opcode : i.opcode < 22 → is_branch i.a ≡ true → ByArm i
  by_opcode h k =
      elim (ℕ_discrete i.opcode 1) [
        | yes e ↦ call (ap arm_of e ∙ call_arm) k (rw e)
        | no n ↦ jump (jump_arm i.opcode h n) k (rw (ne_eqb i.opcode 1 n, ne_eqb i.opcode 22 (λ e. omega arith)))
      ]

  pub by_arm : BranchRecord i → ByArm i
  by_arm (short h k) = by_opcode h (rw k)
  by_arm (long h k) =
      elim (dec_lt i.opcode 22) [
        | yes l ↦ by_opcode l (rw k)
        | no l ↦ let e : i.opcode ≡ 22 = omega arith in xbegin (ap arm_of e ∙ xbegin_arm) (rw k) (rw e)
      ]

  branch_places : is_branch i.a ≡ true → places_of Branch i ≡ one place.Branch
  unfolding places_of
  branch_places k = rw k

  call-places : is_branch i.a ≡ true → places_of Call i ≡ one place.Branch
  unfolding places_of
  call-places k = rw k

  xbegin_places : is_xbegin i.a ≡ true → places_of Xbegin i ≡ one place.Branch
  unfolding places_of
  xbegin_places k = rw k

  pub shows_branch : ByArm i → plan_of (arm_of i.opcode) i ≡ one place.Branch
  shows_branch (jump e k n) = rw e (sym (plan_of_own Branch i (path_of_branch i ∙ ap not k)) ∙ branch_places k)
  shows_branch (call e k n) = rw e (sym (plan_of_own Call i (path_of_call i ∙ ap not k)) ∙ call-places k)
  shows_branch (xbegin e k n) = rw e (sym (plan_of_own Xbegin i (path_of_xbegin i ∙ ap not k)) ∙ xbegin_places k)

-- a branch record is one wherever it starts
pub branch_unstarted : {start : ℕ} {i : Instruction} → BranchRecord (starting_at start i) → BranchRecord i
branch_unstarted (short h k) = short h k
branch_unstarted (long h k) = long h k

-- ---- The sum that is shown

abbrev sum_of : Mode → Instruction → ℤ
sum_of mode i = branch_sum mode (immediate_kind i.a) (immediate_of i.a) i.length

module _ (i : Instruction) where
  -- the bits of the sum
  abbrev bits : ℕ
  bits = immediate_of i.a + i.length

  -- mode 1 keeps the sum of kind 3 whole
  sum-straight : immediate_kind i.a ≡ i8 → sum_of Straight i ≡ distance_of i +ℤ pos i.length
  unfolding branch_sum
  sum-straight k = rw k

  -- mode 0 wraps it in 8 bits
  sum_short : immediate_kind i.a ≡ i8 → sum_of Crate i ≡ signed 8 bits
  unfolding branch_sum
  sum_short k = rw k

  -- kind 5 wraps in 32 bits in every mode
  sum_long : (mode : Mode) → immediate_kind i.a ≡ i32 → sum_of mode i ≡ signed 32 bits
  unfolding branch_sum
  sum_long mode k = rw k

  -- mode 0 wraps in the width of the distance
  sum_in_mode_0 : BranchRecord i → sum_of Crate i ≡ mode0_sum i
  unfolding branch_sum
  sum_in_mode_0 (short h k) = rw k
  sum_in_mode_0 (long h k) = rw k

-- the modes that show a sum, and not a target
abbrev pub shows_sum : Mode → Bool
shows_sum Crate = true
shows_sum Straight = true
shows_sum Target = false

sum_shown : (mode : Mode) (i : Instruction) → shows_sum mode ≡ true
    → branch_of mode (arm_of i.opcode) i ≡ shown_sum mode (arm_of i.opcode) (immediate_kind i.a) (sum_of mode i)
unfolding branch_shown
sum_shown Crate i e = refl
sum_shown Straight i e = refl
sum_shown Target i e = absurd (true≢false (sym e))

-- ---- The width that is shown

abbrev width_in : Mode → Instruction → Option Width
width_in mode i = width_of (branch_word mode (arm_of i.opcode) (immediate_kind i.a) (sum_of mode i))

near_width : (b : Bool) → width_of (cond b Near None) ≡ cond b (some 32) none
near_width true = refl
near_width false = refl

module _ (i : Instruction) where
  -- mode 1 has that of the kind, unless there is no short form
  pub width_straight : ByArm i → BranchRecord i → width_in Straight i ≡ straight_width i
  width_straight (jump e k n) (short h s) = rw (e, n, s)
  width_straight (jump e k n) (long h s) = rw (e, n, s)
  width_straight (call e k n) r = rw (e, n)
  width_straight (xbegin e k n) r = rw (e, n)

  -- mode 0 goes by kind and sum
  width_in-mode_0 : BranchRecord i → width_in Crate i ≡ mode0_width i
  width_in-mode_0 r =
      near_width (eqb (immediate_kind i.a) i32 && from128to255 (sum_of Crate i))
      ∙ ap (λ (z : ℤ). cond (eqb (immediate_kind i.a) i32 && from128to255 z) (some 32) none) (sum_in_mode_0 i r)

-- ---- How the line is read

-- where a sum is shown, a printed branch record is read as a branch with the width that is shown, to the start and the sum that is shown
module _ {asked : Asked} {body : List ℕ} (p : Printed asked body) (s : shows_sum (mode_of asked) ≡ true) (r : BranchRecord (record_of asked.version body)) (start : ℕ) where
  abbrev i : Instruction
  i = record_of asked.version body

  -- where it goes
  abbrev shown_target : ℕ
  shown_target = modulo (pos start +ℤ sum_of (mode_of asked) i)

  pub one_branch : (meaning start (line_at asked body)).operands ≡ branch (width_in (mode_of asked) i) shown_target ∷ []
  unfolding meaning line_at items_at item_at
  one_branch =
      let f = instruction_of (fields_of asked body) in
      rw (shows_branch f (by_arm f (branch_unstarted r)), sum_shown (mode_of asked) i s, by_sign_lem (sum_of (mode_of asked) i))

  -- so it has a width and a target exactly where they are those
  goes : {width : Option Width} {target : ℕ} → width_in (mode_of asked) i ≡ width → shown_target ≡ target → BranchesTo start (record_text asked body) width target
  goes w e = record { line = meaning start (line_at asked body); reads = reads_back p start; operand = rw (← w, ← e) one_branch }

  goes_only : {width : Option Width} {target : ℕ} → BranchesTo start (record_text asked body) width target
      → (width_in (mode_of asked) i ≡ width) × (shown_target ≡ target)
  goes_only b =
      let x = reads_back p start in
      let y = one_branch in
      let z = b.reads in
      let w = b.operand in
      (cc, cc)

-- ---- The sum against the target

-- the target is the start and the whole sum of distance and length
target_sum : (start : ℕ) (i : Instruction) → record_target start i ≡ modulo (pos start +ℤ (distance_of i +ℤ pos i.length))
target_sum start i =
    ap modulo
    (+ℤ_assoc (pos start) (pos i.length) (distance_of i) ∙ ap (λ (z : ℤ). pos start +ℤ z) (+ℤ_comm (pos i.length) (distance_of i)))

-- in numbers alone: the distance is held as 32 bits, so its bits are added
pub target_by_bits : (start : ℕ) (i : Instruction) → record_target start i ≡ (start + i.length + immediate_of i.a) % 2 ^ 32
target_by_bits start i = target_wrapped start i.length (immediate_of i.a) ∙ omega arith

-- an accepted distance of kind 3 is one of 8 bits
short_kept : (o : Operand) → Kept o → immediate_kind o ≡ i8 → (immediate_of o < 2 ^ 32) × Short (immediate_of o)
short_kept Absent k e = absurd (omega arith)
short_kept (Register place reg) k e = absurd (omega arith)
short_kept (Imm kind value) k e = (k.fits, k.i8 e)
short_kept (Absolute16 segment address) k e = absurd (omega arith)
short_kept (Absolute32 segment address) k e = absurd (omega arith)
short_kept (Memory segment address mask) k e = absurd (omega arith)

module _ (i : Instruction) where
  long_target : (mode : Mode) (start : ℕ) → immediate_kind i.a ≡ i32 → modulo (pos start +ℤ sum_of mode i) ≡ record_target start i
  long_target mode start k =
      rw (sum_long i mode k)
      (after_start start (signed 32 (bits i)) (distance_of i +ℤ pos i.length) (wide_sum (immediate_of i.a) i.length)
      ∙ sym (target_sum start i))

  straight_target : (start : ℕ) → BranchRecord i → modulo (pos start +ℤ sum_of Straight i) ≡ record_target start i
  straight_target start (short h k) = rw (sum-straight i k) (sym (target_sum start i))
  straight_target start (long h k) = long_target Straight start k

  -- in mode 0 a sum of kind 3 is kept exactly where it fits 8 bits
  module _ (w : WellFormed i) (k : immediate_kind i.a ≡ i8) (start : ℕ) where
    whole_sum : distance_of i +ℤ pos i.length ≡ signed 32 (bits i)
    whole_sum =
        let (v, s) = short_kept i.a w.a k in
        sum_within_lem (immediate_of i.a) i.length v w.length_most s

    whole_target : record_target start i ≡ modulo (pos start +ℤ signed 32 (bits i))
    whole_target = target_sum start i ∙ ap (λ (z : ℤ). modulo (pos start +ℤ z)) whole_sum

    short_fits : FitsByte (distance_of i +ℤ pos i.length) → modulo (pos start +ℤ sum_of Crate i) ≡ record_target start i
    short_fits f =
        rw (sum_short i k)
        (after_start start (signed 8 (bits i)) (signed 32 (bits i)) (same_if_fits (bits i) (subst FitsByte whole_sum f)) ∙ sym whole_target)

    fits_short : modulo (pos start +ℤ sum_of Crate i) ≡ record_target start i → FitsByte (distance_of i +ℤ pos i.length)
    fits_short e =
        subst FitsByte (sym whole_sum)
        (fits_if_same (bits i) (without_start start (signed 8 (bits i)) (signed 32 (bits i)) (rw (sum_short i k) at (e ∙ whole_target))))

-- ---- The theorems

straight-asked : (asked : Asked) → asked.mode ≡ 1 → mode_of asked ≡ Straight
straight-asked asked e = rw e

crate-asked : (asked : Asked) → asked.mode ≡ 0 → mode_of asked ≡ Crate
crate-asked asked e = rw e

-- modes 0 and 1 show a sum
pub sum-asked : (asked : Asked) → asked.mode ≤ 1 → shows_sum (mode_of asked) ≡ true
sum-asked asked h =
    rw (ne_eqb asked.mode 2 (λ e. omega arith))
    (picked (λ (m : Mode). shows_sum m ≡ true) (eqb asked.mode 1) Straight Crate (λ e. refl) (λ e. refl))

module _ {asked : Asked} {body : List ℕ} (p : Printed asked body) where
  module _ (m : asked.mode ≡ 1) (r : BranchRecord (record_of asked.version body)) (start : ℕ) where
    sums_1 : shows_sum (mode_of asked) ≡ true
    sums_1 = sum-asked asked (omega arith)

    shown_straight : width_in (mode_of asked) (record_of asked.version body) ≡ straight_width (record_of asked.version body)
    shown_straight = rw (straight-asked asked m) (width_straight (record_of asked.version body) (by_arm (record_of asked.version body) r) r)

    -- Mode 1: every printed branch record is read as a branch to start plus length plus distance, modulo 2^32, with the width of mode 1,
    pub straight_branch : BranchesTo start (record_text asked body) (straight_width (record_of asked.version body)) (record_target start (record_of asked.version body))
    straight_branch = goes p sums_1 r start shown_straight (rw (straight-asked asked m) (straight_target (record_of asked.version body) start r))

    -- and with no other.
    pub straight_width_only : {width : Option Width} {target : ℕ} → BranchesTo start (record_text asked body) width target
        → straight_width (record_of asked.version body) ≡ width
    straight_width_only b = sym shown_straight ∙ (goes_only p sums_1 r start b).0

    pub straight_target_only : {width : Option Width} {target : ℕ} → BranchesTo start (record_text asked body) width target
        → record_target start (record_of asked.version body) ≡ target
    straight_target_only b = sym (straight_target (record_of asked.version body) start r) ∙ rw (straight-asked asked m) at (goes_only p sums_1 r start b).1

  module _ (m : asked.mode ≡ 0) (r : BranchRecord (record_of asked.version body)) (start : ℕ) where
    sums_0 : shows_sum (mode_of asked) ≡ true
    sums_0 = sum-asked asked (omega arith)

    shown_mode_0 : width_in (mode_of asked) (record_of asked.version body) ≡ mode0_width (record_of asked.version body)
    shown_mode_0 = rw (crate-asked asked m) (width_in-mode_0 (record_of asked.version body) r)

    -- Mode 0: it is read as a branch to the start plus the sum as it wraps, modulo 2^32, with the width of mode 0,
    pub mode_0_shown : BranchesTo start (record_text asked body) (mode0_width (record_of asked.version body)) (modulo (pos start +ℤ mode0_sum (record_of asked.version body)))
    mode_0_shown =
        goes p sums_0 r start shown_mode_0 (rw (crate-asked asked m) (ap (λ (z : ℤ). modulo (pos start +ℤ z)) (sum_in_mode_0 (record_of asked.version body) r)))

    -- and with no other.
    pub mode_0_width_only : {width : Option Width} {target : ℕ} → BranchesTo start (record_text asked body) width target
        → mode0_width (record_of asked.version body) ≡ width
    mode_0_width_only b = sym shown_mode_0 ∙ (goes_only p sums_0 r start b).0

    -- It goes to the target exactly where the distance is 32 bits wide, or its sum with the length is from -128 to 127.
    goes_if_fits : BranchRecord (record_of asked.version body) → FitsMode0 (record_of asked.version body)
        → BranchesTo start (record_text asked body) (mode0_width (record_of asked.version body)) (record_target start (record_of asked.version body))
    goes_if_fits (short h k) (inl e) = absurd (omega arith)
    goes_if_fits (short h k) (inr f) = goes p sums_0 r start shown_mode_0 (rw (crate-asked asked m) (short_fits (record_of asked.version body) (well p) k start f))
    goes_if_fits (long h k) c = goes p sums_0 r start shown_mode_0 (rw (crate-asked asked m) (long_target (record_of asked.version body) Crate start k))

    fits_if_goes : {width : Option Width} → BranchRecord (record_of asked.version body)
        → BranchesTo start (record_text asked body) width (record_target start (record_of asked.version body)) → FitsMode0 (record_of asked.version body)
    fits_if_goes (short h k) b = inr (fits_short (record_of asked.version body) (well p) k start (rw (crate-asked asked m) at (goes_only p sums_0 r start b).1))
    fits_if_goes (long h k) b = inl k

    -- whatever stands before `$`
    pub mode_0_only : {width : Option Width} → BranchesTo start (record_text asked body) width (record_target start (record_of asked.version body))
        → FitsMode0 (record_of asked.version body)
    mode_0_only b = fits_if_goes r b

    pub mode_0_branch : BranchesTo start (record_text asked body) (mode0_width (record_of asked.version body)) (record_target start (record_of asked.version body))
        ↔ FitsMode0 (record_of asked.version body)
    mode_0_branch = (mode_0_only, goes_if_fits r)
