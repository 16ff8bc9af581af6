-- An operand whose bytes keep the rules of their kind is a kept operand.
-- Assumes nothing.
use mathlib.Core.Bool.{Bool, true, false, true≢false, false≢true, ◌&&◌, ◌||◌}
use mathlib.Core.Logic.{◌⊎◌, inl, inr, ⊎_elim}
use mathlib.Core.Path.{◌≡◌, refl}
use Prim.Native.Nat.{ℕ, ◌+◌, ◌-◌, ◌%◌, ◌^◌, ◌≤◌, ◌<◌}
use native.Mathlib.Decide.{dec_lt}
use native.Mathlib.Omega.{arith}
use lib.Dec.{eqb, leb, ltb, lit<, lit≤}
use lib.IntN.{pos}
use mir.Syntax.{w32}
use mir.Val.{SFits}
use borrow.Author.Tests.{ltb-true, ltb-false, leb-true, leb-false, eqb-true, eqb-false, not-true, le-leb, lt-leb, ne_eqb}
use Rattle.operands.specs.Kinds.{is_masked, form}
use Rattle.operands.specs.RegisterBytes.{bank, is_register_byte, is_old_byte, is_address_byte, is_vector_index_byte, is_mask_byte}
use Rattle.bodies.specs.Refusals.{is_scale, segment_kept, register_kept, index_kept, first_kept, second_kept, scale_kept, mask_kept, operand_kept}
use Rattle.bodies.specs.Decoding.{immediate, extended, is_displaced, disp_in, address_of, operand_of}
use Rattle.bodies.specs.WellFormed.{RegisterKept, ImmKept, ScaleKept, IndexKept, MaskKept, AddressKept, Kept}
use Rattle.bodies.proofs.Picks.{both_left, both_right, either, picked}
use Rattle.bodies.proofs.Signed.{displacement_fits}

scale_one : (scale : ℕ) → is_scale scale ≡ true → ScaleKept scale
scale_one scale e =
    let is : ℕ → Bool = eqb scale in
    ⊎_elim
    (λ f.
    ⊎_elim
    (λ g.
    ⊎_elim (λ h. inl (eqb-true scale 1 h)) (λ h. inr (inl (eqb-true scale 2 h))) (either (is 1) (is 2) g))
    (λ g. inr (inr (inl (eqb-true scale 4 g))))
    (either (is 1 || is 2) (is 4) f))
    (λ f. inr (inr (inr (eqb-true scale 8 f))))
    (either (is 1 || is 2 || is 4) (is 8) e)

-- a sign-extended number is near 0 from either side
extended_near : (top low : ℕ) → low < top + top → top + top ≤ 2 ^ 32 → (extended top low < top) ⊎ (2 ^ 32 - top ≤ extended top low)
extended_near top low h most =
    picked (λ (v : ℕ). (v < top) ⊎ (2 ^ 32 - top ≤ v)) (ltb low top) low (low + (2 ^ 32 - (top + top)))
    (λ e. inl (ltb-true low top e))
    (λ e. inr (let l = ltb-false low top e in omega arith))

extended_fits : (top low : ℕ) → low < top + top → top + top ≤ 2 ^ 32 → extended top low < 2 ^ 32
extended_fits top low h most =
    picked (λ (v : ℕ). v < 2 ^ 32) (ltb low top) low (low + (2 ^ 32 - (top + top))) (λ e. omega arith) (λ e. omega arith)

module _ (kind imm : ℕ) where
  immediate_fits : imm < 2 ^ 32 → immediate kind imm < 2 ^ 32
  unfolding immediate
  immediate_fits h =
      let P : ℕ → Type 0 = λ (v : ℕ). v < 2 ^ 32 in
      picked P (eqb kind 3) _ _ (λ e. extended_fits (2 ^ 7) (imm % 2 ^ 8) (omega arith) (lit≤ tt))
      (λ e.
      picked P (eqb kind 4) _ _ (λ e. extended_fits (2 ^ 15) (imm % 2 ^ 16) (omega arith) (lit≤ tt))
      (λ e. picked P (eqb kind 6) _ _ (λ e. omega arith) (λ e. picked P (eqb kind 7) _ _ (λ e. omega arith) (λ e. h))))

  immediate_kept : 3 ≤ kind → kind ≤ 8 → imm < 2 ^ 32 → ImmKept kind (immediate kind imm)
  unfolding immediate
  immediate_kept least most h =
      record {
        kind_least = least;
        kind_most = most;
        fits = immediate_fits h;
        i8 = λ e. rw e (extended_near (2 ^ 7) (imm % 2 ^ 8) (omega arith) (lit≤ tt));
        i16 = λ e. rw e (extended_near (2 ^ 15) (imm % 2 ^ 16) (omega arith) (lit≤ tt));
        u8 = λ e. rw e (omega arith);
        u16 = λ e. rw e (omega arith);
      }

-- a masked kind is one of 17 to 22
masked_least : (kind : ℕ) → is_masked kind ≡ true → 17 ≤ kind
masked_least kind e = leb-true 17 kind (both_left (leb 17 kind) (leb kind 22) e)

-- the form of a kind below them is the kind itself, and the form of a memory kind is a memory kind
pub form_low : (kind : ℕ) → kind < 17 → form kind ≡ kind
form_low kind h = rw (lt-leb 17 kind h)

form_least : (kind n : ℕ) → n ≤ 11 → n ≤ kind → n ≤ form kind
form_least kind n most h =
    picked (λ (m : ℕ). n ≤ m) (is_masked kind) (kind - 6) kind (λ e. omega (arith, masked_least kind e)) (λ e. h)

index_one : (vectors : Bool) (reg : ℕ) → index_kept vectors reg ≡ true → IndexKept reg
index_one vectors reg e =
    ⊎_elim (λ f. inl (ltb-true reg 16 f))
    (λ f.
    let wide : is_vector_index_byte reg ≡ true = both_right vectors (is_vector_index_byte reg) f in
    let least = leb-true 6 (bank reg) (both_left (leb 6 (bank reg)) (leb (bank reg) 8) wide) in
    let most = leb-true (bank reg) 8 (both_right (leb 6 (bank reg)) (leb (bank reg) 8) wide) in
    inr (omega arith, omega arith))
    (either (is_address_byte reg) (vectors && is_vector_index_byte reg) e)

mask_one : (kind mask : ℕ) → mask_kept kind mask ≡ true → MaskKept mask
unfolding mask_kept
mask_one kind mask =
    picked (λ (t : Bool). t ≡ true → MaskKept mask) (is_masked kind) (is_mask_byte mask) (eqb mask 0)
    (λ e f.
    inr (ltb-true 72 mask (both_left (ltb 72 mask) (ltb mask 80) f), ltb-true mask 80 (both_right (ltb 72 mask) (ltb mask 80) f)))
    (λ e f. inl (eqb-true mask 0 f))

-- The registers and the scale of a bracket, by its form.
module _ (extended vectors : Bool) (n first : ℕ) (f : first_kept extended vectors n first ≡ true) where
  -- a base stands first, except in forms 13 and 14, which have none
  base-below : 11 ≤ n → (n ≤ 12) ⊎ (15 ≤ n) → first < 16
  unfolding first_kept
  base-below h other =
      let not-13 : n ≡ 13 → ⊥ = ⊎_elim (λ l. λ e. omega arith) (λ l. λ e. omega arith) other in
      let not-14 : n ≡ 14 → ⊥ = ⊎_elim (λ l. λ e. omega arith) (λ l. λ e. omega arith) other in
      ltb-true first 16 (rw (lt-leb n 2 (omega arith), ne_eqb n 13 not-13, ne_eqb n 14 not-14, le-leb 11 n h) at f)

  index_first : 13 ≤ n → n ≤ 14 → IndexKept first
  unfolding first_kept
  index_first l m =
      elim (dec_lt n 14) [
        | yes h ↦ let is : n ≡ 13 = omega arith in index_one vectors first (rw is at f)
        | no h ↦ let is : n ≡ 14 = omega arith in index_one vectors first (rw is at f)
      ]

module _ (vectors : Bool) (n second : ℕ) (s : second_kept vectors n second ≡ true) where
  index_second : 15 ≤ n → IndexKept second
  unfolding second_kept
  index_second h = index_one vectors second (rw (le-leb 15 n h) at s)

-- The bytes of an operand keep the rules of its kind.
module _ (extended vectors : Bool) (kind segment first second scale mask : ℕ) (kept : operand_kept extended vectors kind segment first second scale mask ≡ true) where
  segment_most : 9 ≤ kind → segment ≤ 6
  unfolding segment_kept
  segment_most h =
      let s : segment_kept (form kind) segment ≡ true = search (both_left, both_right, kept) in
      leb-true segment 6 (rw (le-leb 9 (form kind) (form_least kind 9 (lit≤ tt) h)) at s)

  kind_least : 1 ≤ kind
  kind_least = leb-true 1 kind (search (both_left, both_right, kept))

  first_kept_lem : first_kept extended vectors (form kind) first ≡ true
  first_kept_lem = search (both_left, both_right, kept)

  second_kept_lem : second_kept vectors (form kind) second ≡ true
  second_kept_lem = search (both_left, both_right, kept)

  mask_kept_lem : mask_kept kind mask ≡ true
  mask_kept_lem = search (both_left, both_right, kept)

  first_named : kind ≤ 2 → RegisterKept kind first
  unfolding first_kept
  first_named h =
      let f : register_kept extended first ≡ true = rw (form_low kind (omega arith), le-leb kind 2 h) at first_kept_lem in
      let named : is_register_byte first ≡ true = both_left (is_register_byte first) (is_old_byte first || extended) f in
      record {
        place_least = kind_least;
        place_most = h;
        below = ltb-true first 80 (search (both_left, both_right, named));
        not_30 = eqb-false first 30 (not-true (eqb first 30) (search (both_left, both_right, named)));
        not_31 = eqb-false first 31 (not-true (eqb first 31) (search (both_left, both_right, named)));
      }

  scale_kept_lem : 13 ≤ form kind → ScaleKept scale
  unfolding scale_kept
  scale_kept_lem h =
      let s : scale_kept (form kind) scale ≡ true = search (both_left, both_right, kept) in
      scale_one scale (rw (le-leb 13 (form kind) h) at s)

  module _ (disp : ℕ) (fits : disp < 2 ^ 32) where
    abbrev n : ℕ
    n = form kind

    disp_fits : SFits w32 (disp_in n disp)
    disp_fits = displacement_fits n disp (record { fits = fits })

    no_disp : is_displaced n ≡ false → disp_in n disp ≡ pos 0
    unfolding disp_in
    no_disp e = rw e

    address_kept : 11 ≤ n → AddressKept (address_of n first second scale disp)
    unfolding address_of
    address_kept h =
        picked AddressKept (leb n 12) _ _
        (λ e.
        record {
          base = base-below extended vectors n first first_kept_lem h (inl (leb-true n 12 e));
          index = inl (lit< tt);
          scale = λ f. absurd (false≢true f);
          disp = disp_fits;
          some_register = refl;
          no_base = λ f. cc;
          no_index = λ f. (refl, refl);
          no_disp = no_disp;
        })
        (λ e.
        let above = leb-false n 12 e in
        picked AddressKept (leb n 14) _ _
        (λ f.
        record {
          base = lit< tt;
          index = index_first extended vectors n first first_kept_lem above (leb-true n 14 f);
          scale = λ g. scale_kept_lem above;
          disp = disp_fits;
          some_register = refl;
          no_base = λ g. refl;
          no_index = λ g. absurd (true≢false g);
          no_disp = no_disp;
        })
        (λ f.
        record {
          base = base-below extended vectors n first first_kept_lem h (inr (leb-false n 14 f));
          index = index_second vectors n second second_kept_lem (leb-false n 14 f);
          scale = λ g. scale_kept_lem above;
          disp = disp_fits;
          some_register = refl;
          no_base = λ g. cc;
          no_index = λ g. absurd (true≢false g);
          no_disp = no_disp;
        }))

    pub operand_kept_lem : (imm : ℕ) → imm < 2 ^ 32 → Kept (operand_of imm disp kind segment first second scale mask)
    unfolding operand_of
    operand_kept_lem imm below =
        picked Kept (leb kind 2) _ _ (λ e. first_named (leb-true kind 2 e))
        (λ e.
        picked Kept (leb kind 8) _ _ (λ f. immediate_kept kind imm (leb-false kind 2 e) (leb-true kind 8 f) below)
        (λ f.
        let segmented = segment_most (leb-false kind 8 f) in
        picked Kept (leb kind 9) _ _ (λ g. (segmented, omega arith))
        (λ g.
        picked Kept (leb kind 10) _ _ (λ h. (segmented, fits))
        (λ h. (segmented, (address_kept (form_least kind 11 (lit≤ tt) (leb-false kind 10 h)), mask_one kind mask mask_kept_lem))))))
