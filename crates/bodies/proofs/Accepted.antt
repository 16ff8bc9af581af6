-- The Instruction of an accepted body keeps document 01's record rules: what the crates above take from `instruction_of`.
-- Assumes nothing.
use mathlib.Core.Bool.{Bool, true, false, not, cond}
use mathlib.Core.List.{List}
use mathlib.Core.Path.{◌≡◌, refl, sym, ◌∙◌, ap}
use Prim.Native.Nat.{ℕ, ◌+◌, ◌^◌, ◌<◌}
use native.Mathlib.Omega.{arith}
use lib.Dec.{leb, ltb}
use borrow.Author.Tests.{ltb-true, ltb-false, leb-false, le-ltb, not-true, not-false}
use Rattle.operands.specs.declared.Operand.{Operand}
use Rattle.operands.specs.declared.Operand.TheVariants.{Absent}
use Rattle.operands.specs.Kinds.{is_absent}
use Rattle.names.specs.Opcodes.{opcode_count}
use Rattle.frames.specs.Numbers.{byte, dword}
use Rattle.bodies.specs.Body.{opcode_of, flags_of, length_of, imm_of, disp_of, count_of, place_of, kind_at, mask_at, is_extended, bits_of, tail_of}
use Rattle.bodies.specs.Refusals.{flags_kept, operand_refused, field_refused}
use Rattle.bodies.specs.Decoding.{operand_of, operand_at, instruction_of}
use Rattle.bodies.specs.WellFormed.{Bytes, Kept, WellFormed}
use Rattle.bodies.proofs.Picks.{neither_left, neither_right, then_kept, picked}
use Rattle.bodies.proofs.Operands.{operand_kept_lem}

dword_fits : (body : List ℕ) → Bytes body → (at : ℕ) → dword body at < 2 ^ 32
dword_fits body bytes at = omega (arith, bytes at, bytes (at + 1), bytes (at + 2), bytes (at + 3))

-- an operand that bytes say is there, whatever they are
present : (imm disp kind segment first second scale mask : ℕ) → is_absent (operand_of imm disp kind segment first second scale mask) ≡ false
unfolding operand_of
present imm disp kind segment first second scale mask =
    let There : Operand → Type 0 = λ (o : Operand). is_absent o ≡ false in
    picked There (leb kind 2) _ _ (λ e. refl)
    (λ e.
    picked There (leb kind 8) _ _ (λ f. refl)
    (λ f. picked There (leb kind 9) _ _ (λ g. refl) (λ g. picked There (leb kind 10) _ _ (λ h. refl) (λ h. refl))))

absent_unless : (t : Bool) (o : Operand) → is_absent o ≡ false → is_absent (cond t o Absent) ≡ not t
absent_unless true o e = e
absent_unless false o e = refl

-- an operand is there exactly before the count
pub absent_from_count : (body : List ℕ) (k : ℕ) → is_absent (operand_at body k) ≡ not (ltb k (count_of body))
unfolding operand_at
absent_from_count body k =
    let at : ℕ → ℕ = λ (j : ℕ). byte body (place_of body k + j) in
    absent_unless (ltb k (count_of body)) _
    (present (imm_of body) (disp_of body) (kind_at body k) (at 1) (at 2) (at 3) (at 4) (mask_at body k))

-- so none stands after an absent one
absent_on : (body : List ℕ) (k : ℕ) → is_absent (operand_at body k) ≡ true → is_absent (operand_at body (k + 1)) ≡ true
absent_on body k e =
    let past = ltb-false k (count_of body) (not-true (ltb k (count_of body)) (sym (absent_from_count body k) ∙ e)) in
    absent_from_count body (k + 1) ∙ ap not (le-ltb (k + 1) (count_of body) (omega arith))

-- bit 7 is never set, whether bit 6 may be or not
flags_below : (extended : Bool) (flags : ℕ) → not (flags_kept extended flags) ≡ false → flags < 128
flags_below true flags e = ltb-true flags 128 (not-false (ltb flags 128) e)
flags_below false flags e = let l = ltb-true flags 64 (not-false (ltb flags 64) e) in omega arith

module _ (body : List ℕ) (bytes : Bytes body) where
  stored_kept : (k : ℕ) → operand_refused body k ≡ false → Kept (operand_at body k)
  unfolding operand_at operand_refused
  stored_kept k e =
      picked Kept (ltb k (count_of body)) _ _
      (λ f.
      operand_kept_lem _ _ _ _ _ _ _ _ (then_kept (ltb k (count_of body)) _ e f) (disp_of body) (dword_fits body bytes 9) (imm_of body)
      (dword_fits body bytes 5))
      (λ f. tt)

  pub accepted : field_refused body ≡ false → WellFormed (instruction_of body)
  unfolding field_refused instruction_of
  accepted e =
      record {
        opcode = leb-false opcode_count (opcode_of body) (search (neither_left, neither_right, e) depth 12);
        flags = flags_below (is_extended body) (flags_of body) (search (neither_left, neither_right, e) depth 12);
        length_least = ltb-false (length_of body) 1 (search (neither_left, neither_right, e) depth 12);
        length_most = ltb-false 15 (length_of body) (search (neither_left, neither_right, e) depth 12);
        size = bytes 4;
        imm = dword_fits body bytes 5;
        bits = let l = ltb-false 3 (bits_of body) (search (neither_left, neither_right, e) depth 12) in omega arith;
        tail = ltb-false 2 (tail_of body) (search (neither_left, neither_right, e) depth 12);
        a = stored_kept 0 (search (neither_left, neither_right, e) depth 12);
        b = stored_kept 1 (search (neither_left, neither_right, e) depth 12);
        c = stored_kept 2 (search (neither_left, neither_right, e) depth 12);
        d = stored_kept 3 (search (neither_left, neither_right, e) depth 12);
        no_a = absent_on body 0;
        no_b = absent_on body 1;
        no_c = absent_on body 2;
      }
