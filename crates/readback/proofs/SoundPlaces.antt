-- Each operand that keeps the record rules is shown as a sound item at every place; so are the registers that a place names, and branches.
-- Assumes nothing.
use mathlib.Core.Path.{◌≡◌, refl, sym, ◌∙◌}
use mathlib.Core.Bool.{Bool, true, false, cond, ◌&&◌, true≢false, and-true}
use mathlib.Core.Logic.{inl, inr, ⊎_elim}
use Prim.Native.Nat.{ℕ, zero, suc, ◌+◌, ◌/◌, ◌%◌, ◌^◌, ◌≤◌, ◌<◌}
use native.Mathlib.Nat.{mod-lt, div-add-mod'}
use native.Mathlib.Decide.{dec_lt}
use native.Mathlib.Omega.{arith}
use borrow.Author.Tests.{lt-ltb, le-ltb, ltb-true, ltb-false, eqb-true, eqb-false, not-true}
use lib.Dec.{eqb, lit<}
use lib.IntN.{ℤ, pos, negsuc, nat_abs, ◌+ℤ◌}
use Rattle.operands.specs.Kinds.{i8, is_register, is_memory}
use Rattle.operands.specs.Parts.{operand_in, shown_of, segment_of, register_of, mask_of, is_mask_register, immediate_kind, immediate_of, is_st0, bare}
use Rattle.operands.specs.RegisterBytes.{is_register_byte, st0}
use Rattle.operands.specs.declared.Operand.{Operand}
use Rattle.operands.specs.declared.Operand.TheVariants.{Absent, Register, Imm, Absolute16, Absolute32, Memory}
use Rattle.operands.specs.declared.Instruction.{Instruction}
use Rattle.operands.specs.declared.Label.{Label}
use Rattle.std.specs.Prelude.{Option as Optional, Some, None}
use Rattle.operands.specs.declared.Shown.{Shown}
use Rattle.operands.specs.declared.Shown.TheVariants as shown
use Rattle.bodies.specs.WellFormed.{Kept, WellFormed}
use Rattle.bodies.proofs.Picks.{both_left, both_right, picked}
use Rattle.branches.specs.declared.Mode.{Mode}
use Rattle.names.specs.declared.Arm.{Arm}
use Rattle.branches.specs.declared.Mode.TheVariants as mode
use Rattle.branches.specs.declared.Mode.TheVariants.{Crate, Straight}
use Rattle.branches.specs.Sums.{signed, short_sum, branch_sum, branch_shown}
use Rattle.branches.proofs.Wrapping.{Within, signed_within}
use Rattle.places.specs.Places.{segment_shown, value_shown, mask_shown, operand_shown, item_at}
use Rattle.places.specs.declared.Mask.{Mask}
use Rattle.places.specs.declared.Mask.TheVariants.{Itself, Second}
use Rattle.arms.specs.Missing.{is_over16, place_over16}
use Rattle.places.specs.declared.Segment.{Segment}
use Rattle.places.specs.declared.Segment.TheVariants.{Hidden, Shown as Own, UnlessDs}
use Rattle.places.specs.declared.Place.{Place}
use Rattle.places.specs.declared.Place.TheVariants as place
use Rattle.readback.proofs.Sound.{Named, SoundShown, SoundMask, SoundBroadcast, Bare, is_address, is_branch_shown, SoundItem}
use Rattle.readback.proofs.Sums.{modulo-below}

-- ---- What has nothing before it and nothing after it

bare_itself : {x : Shown} → Bare (bare x)
bare_itself = record { label = refl; segment = refl; mask = refl; broadcast = refl }

sound_bare : {k : Bool} (x : Shown) → SoundShown x → is_branch_shown x ≡ false → SoundItem k (bare x)
sound_bare x s n =
    record {
      shown = s;
      segment = omega arith;
      mask = inl refl;
      broadcast = tt;
      bare = λ e. bare_itself;
      branch = λ e. absurd (true≢false (sym e ∙ n));
    }

-- a register byte has a name
register_named : (reg : ℕ) → is_register_byte reg ≡ true → Named reg
register_named reg e =
    record {
      below = ltb-true reg 80 (search (both_left, both_right, e));
      not_30 = eqb-false reg 30 (not-true (eqb reg 30) (search (both_left, both_right, e)));
      not_31 = eqb-false reg 31 (not-true (eqb reg 31) (search (both_left, both_right, e)));
    }

-- ---- Operands

sound_operand : (o : Operand) → Kept o → SoundShown (shown_of o)
sound_operand Absent k = tt
sound_operand (Register place reg) k = record { below = k.below; not_30 = k.not_30; not_31 = k.not_31 }
sound_operand (Imm kind value) k = k.fits
sound_operand (Absolute16 segment address) k = k.1
sound_operand (Absolute32 segment address) k = k.1
sound_operand (Memory segment address mask) k = k.1.0

no_branch : (o : Operand) → is_branch_shown (shown_of o) ≡ false
no_branch Absent = refl
no_branch (Register place reg) = refl
no_branch (Imm kind value) = refl
no_branch (Absolute16 segment address) = refl
no_branch (Absolute32 segment address) = refl
no_branch (Memory segment address mask) = refl

-- memory alone is shown as an address; what is shortened is none
address_shown : (short : Bool) (o : Operand) → is_address (value_shown short o) ≡ is_memory o
address_shown true Absent = refl
address_shown true (Register place reg) = picked (λ (x : Shown). is_address x ≡ false) (eqb reg st0) shown.St (shown.Name reg) (λ e. refl) (λ e. refl)
address_shown true (Imm kind value) = refl
address_shown true (Absolute16 segment address) = refl
address_shown true (Absolute32 segment address) = refl
address_shown true (Memory segment address mask) = refl
address_shown false Absent = refl
address_shown false (Register place reg) = refl
address_shown false (Imm kind value) = refl
address_shown false (Absolute16 segment address) = refl
address_shown false (Absolute32 segment address) = refl
address_shown false (Memory segment address mask) = refl

-- ---- Segments

segment_few : (o : Operand) → Kept o → segment_of o ≤ 6
segment_few Absent k = omega arith
segment_few (Register place reg) k = omega arith
segment_few (Imm kind value) k = omega arith
segment_few (Absolute16 segment address) k = k.0
segment_few (Absolute32 segment address) k = k.0
segment_few (Memory segment address mask) k = k.0

segment_none : (o : Operand) → is_memory o ≡ false → segment_of o ≡ 0
segment_none Absent e = refl
segment_none (Register place reg) e = refl
segment_none (Imm kind value) e = refl
segment_none (Absolute16 segment address) e = absurd (true≢false e)
segment_none (Absolute32 segment address) e = absurd (true≢false e)
segment_none (Memory segment address mask) e = absurd (true≢false e)

shown_few : (segment : Segment) (o : Operand) → Kept o → segment_shown segment o ≤ 6
shown_few Hidden o k = omega arith
shown_few Own o k = segment_few o k
shown_few UnlessDs o k = picked (λ n. n ≤ 6) (eqb (segment_of o) 4) 0 (segment_of o) (λ e. omega arith) (λ e. segment_few o k)

shown_none : (segment : Segment) (o : Operand) → is_memory o ≡ false → segment_shown segment o ≡ 0
shown_none Hidden o e = refl
shown_none Own o e = segment_none o e
shown_none UnlessDs o e = rw (segment_none o e)

-- ---- Masks and broadcasts

mask_kept_lem : (o : Operand) → Kept o → SoundMask (mask_of o)
mask_kept_lem Absent k = inl refl
mask_kept_lem (Register place reg) k = inl refl
mask_kept_lem (Imm kind value) k = inl refl
mask_kept_lem (Absolute16 segment address) k = inl refl
mask_kept_lem (Absolute32 segment address) k = inl refl
mask_kept_lem (Memory segment address mask) k = ⊎_elim (λ e. inl e) (λ h. inr (omega (arith, h.0), h.1)) k.1.1

mask_none : (o : Operand) → is_memory o ≡ false → mask_of o ≡ 0
mask_none Absent e = refl
mask_none (Register place reg) e = refl
mask_none (Imm kind value) e = refl
mask_none (Absolute16 segment address) e = refl
mask_none (Absolute32 segment address) e = refl
mask_none (Memory segment address mask) e = absurd (true≢false e)

-- operand 1 is a mask register where it is shown as one
abbrev pub mask_sound : Mask → Operand → Bool
mask_sound Itself second = true
mask_sound Second second = is_mask_register second

second_sound : (second : Operand) → is_mask_register second ≡ true → SoundMask (register_of second)
second_sound second e =
    let reg = register_of second in
    let bank : reg / 8 ≡ 9 = eqb-true (reg / 8) 9 (both_right (is_register second) (eqb (reg / 8) 9) e) in
    let number : reg % 8 < 8 = mod-lt reg (lit< tt) in
    inr (omega (arith, div-add-mod' reg 8, bank), omega (arith, div-add-mod' reg 8, number, bank))

mask_sound_lem : (mask : Mask) (second o : Operand) → Kept o → mask_sound mask second ≡ true → SoundMask (mask_shown mask (register_of second) o)
mask_sound_lem Itself second o k e = mask_kept_lem o k
mask_sound_lem Second second o k e = picked SoundMask (is_memory o) (register_of second) 0 (λ f. second_sound second e) (λ f. inl refl)

mask_shown_none : (mask : Mask) (second : ℕ) (o : Operand) → is_memory o ≡ false → mask_shown mask second o ≡ 0
mask_shown_none Itself second o e = mask_none o e
mask_shown_none Second second o e = rw e

broadcast_sound : (b : Optional ℕ) (memory : Bool) → (is_over16 b && memory) ≡ false → SoundBroadcast (cond memory b None)
broadcast_sound None true e = tt
broadcast_sound None false e = tt
broadcast_sound (Some n) true e = ltb-false 16 n (simp and-true at e)
broadcast_sound (Some n) false e = tt

-- an operand at any place
sound_shown : {c : Bool} (label : Label) (segment : Segment) (short : Bool) (mask : Mask) (second : Operand) (b : Optional ℕ) (o : Operand) → Kept o
    → mask_sound mask second ≡ true → (is_over16 b && is_memory o) ≡ false → SoundItem c (operand_shown label segment short mask (register_of second) b o)
unfolding operand_shown
sound_shown label segment short mask second b o k masked few =
    record {
      shown = picked SoundShown (short && is_st0 o) shown.St (shown_of o) (λ e. tt) (λ e. sound_operand o k);
      segment = shown_few segment o k;
      mask = mask_sound_lem mask second o k masked;
      broadcast = broadcast_sound b (is_memory o) few;
      bare =
          λ e.
          let m : is_memory o ≡ false = sym (address_shown short o) ∙ e in
          record { label = rw m; segment = shown_none segment o m; mask = mask_shown_none mask (register_of second) o m; broadcast = rw m };
      branch =
          λ e.
          absurd
          (true≢false
          (sym e ∙ picked (λ (x : Shown). is_branch_shown x ≡ false) (short && is_st0 o) shown.St (shown_of o) (λ f. refl) (λ f. no_branch o)));
    }

-- ---- Branches

-- a sum is no larger than a signed number of 32 bits with a length added
fits_signed : (h : ℕ) (z : ℤ) → Within h z → nat_abs z ≤ h
fits_signed h (pos n) w = omega arith
fits_signed h (negsuc n) w = w

fits_sum : (z : ℤ) (length : ℕ) → nat_abs z ≤ 2 ^ 31 → length ≤ 15 → nat_abs (z +ℤ pos length) < 2 ^ 32
fits_sum (pos n) length h l = omega arith
fits_sum (negsuc n) length h l =
    elim (dec_lt length (suc n)) [
      | yes k ↦ rw (lt-ltb length (suc n) k) (omega arith)
      | no k ↦ rw (le-ltb length (suc n) (omega arith)) (omega arith)
    ]

module _ (value length : ℕ) (l : length ≤ 15) where
  wide : (n : ℕ) → nat_abs (signed 32 n) ≤ 2 ^ 31
  wide n = fits_signed (2 ^ 31) (signed 32 n) (signed_within 32 refl (lit< tt) n)

  short_fits : (mode : Mode) → nat_abs (short_sum mode value length) < 2 ^ 32
  short_fits Crate = omega (arith, fits_signed (2 ^ 7) (signed 8 (value + length)) (signed_within 8 refl (lit< tt) (value + length)))
  short_fits Straight = fits_sum (signed 32 value) length (wide value) l
  short_fits mode.Target = fits_sum (signed 32 value) length (wide value) l

  size_fits : (mode : Mode) (kind : ℕ) → nat_abs (branch_sum mode kind value length) < 2 ^ 32
  unfolding branch_sum
  size_fits mode kind =
      picked (λ z. nat_abs z < 2 ^ 32) (eqb kind i8) _ _ (λ e. short_fits mode) (λ e. omega (arith, wide (value + length)))

  -- a target has 32 bits
  branch_sound : (mode : Mode) (arm : Arm) (kind start : ℕ) → SoundShown (branch_shown mode arm kind value length start)
  unfolding branch_shown
  branch_sound Crate arm kind start = size_fits Crate kind
  branch_sound Straight arm kind start = size_fits Straight kind
  branch_sound mode.Target arm kind start = modulo-below (pos start +ℤ pos length +ℤ signed 32 value)

-- ---- Places

-- a register that a place names is one, a place shows a branch only where `branches` says so, and operand 1 only where it is a mask
abbrev pub place_sound : (branches : Bool) (second : Operand) → Place → Bool
place_sound branches second place.Nothing = true
place_sound branches second (place.Register reg) = is_register_byte reg
place_sound branches second place.Branch = branches
place_sound branches second (place.Operand k label segment short mask b) = mask_sound mask second

module _ (mode : Mode) (arm : Arm) (i : Instruction) (w : WellFormed i) where
  operand_kept_lem : (k : ℕ) → Kept (operand_in i k)
  operand_kept_lem zero = w.a
  operand_kept_lem (suc zero) = w.b
  operand_kept_lem (suc (suc zero)) = w.c
  operand_kept_lem (suc (suc (suc zero))) = w.d
  operand_kept_lem (suc (suc (suc (suc k)))) = tt

  pub sound_place : {c : Bool} (p : Place) → place_sound c i.b p ≡ true → place_over16 i p ≡ false → SoundItem c (item_at mode arm i p)
  unfolding item_at
  sound_place place.Nothing e o = sound_bare shown.Nothing tt refl
  sound_place (place.Register reg) e o = sound_bare (shown.Name reg) (register_named reg e) refl
  sound_place place.Branch e o =
      record {
        shown = branch_sound (immediate_of i.a) i.length w.length_most mode arm (immediate_kind i.a) i.start;
        segment = omega arith;
        mask = inl refl;
        broadcast = tt;
        bare = λ f. bare_itself;
        branch = λ f. e;
      }
  sound_place (place.Operand k label segment short mask b) e o = sound_shown label segment short mask i.b b (operand_in i k) (operand_kept_lem k) e o
