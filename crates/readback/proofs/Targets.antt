-- Mode 2: MASM's reader takes the target of a printed branch as it stands there, a plain number, and it is where mode 1's line goes.
-- Assumes nothing.
use mathlib.Core.Path.{◌≡◌, refl, ap, ◌∙◌}
use mathlib.Core.Bool.{true, false, not, ◌||◌}
use mathlib.Core.List.{List, [], ◌∷◌}
use mathlib.Core.Logic.{◌↔◌}
use mathlib.Core.Option.{Option, none, some}
use Prim.Native.Nat.{ℕ, ◌^◌, ◌<◌}
use native.Mathlib.Nat.{mod-eq_of_lt}
use native.Mathlib.Omega.{arith}
use borrow.Author.Tests.{eqb-true}
use lib.Dec.{eqb}
use lib.IntN.{pos, ◌+ℤ◌}
use Rattle.operands.specs.Parts.{immediate_of}
use Rattle.operands.specs.declared.Instruction.{Instruction}
use Rattle.frames.specs.Frames.{known_version}
use Rattle.bodies.specs.Decoding.{instruction_of}
use Rattle.bodies.specs.Versions.{start_of, record_of}
use Rattle.bodies.proofs.Picks.{neither_right}
use Rattle.branches.specs.Sums.{signed, branch_shown}
use Rattle.places.specs.Places.{item_at, items_at}
use Rattle.records.specs.Records.{asked_refused, fields_of, refusals, line_at, record_text}
use Rattle.records.specs.declared.Asked.{Asked}
use Rattle.records.proofs.Judging.{version_known, unrefused}
use Rattle.masm.specs.Operands.{Width, plain}
use Rattle.masm.specs.Lines.{shows}
use Rattle.readback.specs.Meaning.{meaning}
use Rattle.readback.specs.Printed.{Printed}
use Rattle.readback.specs.Targets.{BranchRecord, record_target, BranchesTo, ShowsNumber, in_mode, straight_width}
use Rattle.readback.proofs.Sums.{modulo-below}
use Rattle.readback.proofs.Readback.{reads_back}
use Rattle.readback.proofs.Branching.{by_arm, shows_branch, branch_unstarted, width_straight, straight_branch, straight_width_only, straight_target_only}

-- ---- What is asked

-- in mode 2 a version that is accepted is not 1
not_version_1 : (asked : Asked) → asked.mode ≡ 2 → asked_refused asked ≡ false → eqb asked.version 1 ≡ false
unfolding asked_refused
not_version_1 asked m e = neither_right (not (known_version asked.version)) (eqb asked.version 1) (rw m at e)

module _ {asked : Asked} {body : List ℕ} (p : Printed asked body) where
  -- A body that mode 2 accepts is of version 2.
  pub mode_2_version : asked.mode ≡ 2 → asked.version ≡ 2
  mode_2_version m =
      let k = (unrefused asked body p.accepted).no_mode in
      let known : (eqb asked.version 1 || eqb asked.version 2) ≡ true = version_known asked k in
      eqb-true asked.version 2 (rw (not_version_1 asked m k) at known)

  -- What one mode accepts, mode 1 accepts.
  pub straight-printed : Printed (in_mode 1 asked) body
  unfolding refusals asked_refused
  straight-printed =
      let k = unrefused asked body p.accepted in
      record {
        bytes = p.bytes;
        accepted = rw (version_known asked k.no_mode, k.no_length, k.no_field, k.no_shape, k.no_size, k.no_broadcast);
      }

-- ---- How the line is read

-- a plain number is one number of one width
plain_only : (v w : Option Width) (m n : ℕ) → plain v m ≡ plain w n → (v ≡ w) × (m ≡ n)
plain_only none none m n e = (refl, cc)
plain_only none (some w) m n e = absurd (let z : ◌≡◌ {A = ℕ} 0 1 = cc in omega arith)
plain_only (some v) none m n e = absurd (let z : ◌≡◌ {A = ℕ} 0 1 = cc in omega arith)
plain_only (some v) (some w) m n e = (cc, cc)

module _ {asked : Asked} {body : List ℕ} (p : Printed asked body) (m : asked.mode ≡ 2) (r : BranchRecord (record_of asked.version body)) where
  -- the record, and where it starts
  abbrev i : Instruction
  i = record_of asked.version body

  abbrev start_address : ℕ
  start_address = start_of asked.version body

  -- it shows its target, after the word of mode 1
  pub one_number : (start : ℕ) → (meaning start (line_at asked body)).operands ≡ plain (straight_width i) (record_target start_address i) ∷ []
  unfolding meaning line_at items_at item_at branch_shown
  one_number start =
      let f = instruction_of (fields_of asked body) in
      let small : record_target start_address i < 2 ^ 32 = modulo-below (pos start_address +ℤ pos i.length +ℤ signed 32 (immediate_of i.a)) in
      rw (shows_branch f (by_arm f (branch_unstarted r)), m, ← (width_straight i (by_arm i r) r), mod-eq_of_lt small)

  -- and nothing that depends on the reader's start
  any_start : (start : ℕ) → meaning start (line_at asked body) ≡ meaning 0 (line_at asked body)
  unfolding meaning line_at items_at item_at branch_shown
  any_start start =
      let f = instruction_of (fields_of asked body) in
      rw (shows_branch f (by_arm f (branch_unstarted r)), m)

  -- ---- The theorems

  -- Mode 2: whatever start the reader is given, a printed branch record is read as one operand, a plain number: the target itself, from the
  -- record's own start address, with the width of mode 1,
  pub mode_2_target : ShowsNumber (record_text asked body) (straight_width i) (record_target start_address i)
  mode_2_target =
      record {
        line = meaning 0 (line_at asked body);
        reads = λ start. reads_back p start ∙ ap shows (any_start start);
        operand = one_number 0;
      }

  -- and as no other.
  pub mode_2_only : {width : Option Width} {number : ℕ} → ShowsNumber (record_text asked body) width number
      → (straight_width i ≡ width) × (record_target start_address i ≡ number)
  mode_2_only {width} {number} b =
      let x = reads_back p 0 in
      let y = one_number 0 in
      let z = b.reads 0 in
      let w = b.operand in
      plain_only (straight_width i) width (record_target start_address i) number cc

  -- It is the number that mode 1's line of the same body is read as a branch to, with the same width, by a reader who starts at the record's
  -- start address.
  pub mode_2_as_mode_1 : {width : Option Width} {target : ℕ}
      → ShowsNumber (record_text asked body) width target ↔ BranchesTo start_address (record_text (in_mode 1 asked) body) width target
  mode_2_as_mode_1 {width} {target} =
      let q = straight-printed p in (
        λ b. let (e, f) = mode_2_only b in rw (← e, ← f) (straight_branch q refl r start_address),
        λ b. rw (← (straight_width_only q refl r start_address b), ← (straight_target_only q refl r start_address b)) mode_2_target,
      )
