-- What is asked of an operand of a body, by the count and its kind byte.
-- Assumes nothing.
use mathlib.Core.Path.{◌≡◌, refl, sym, ◌∙◌}
use mathlib.Core.Bool.{Bool, true, false, not, cond, ◌&&◌}
use mathlib.Core.List.{List}
use Prim.Native.Nat.{ℕ, ◌+◌, ◌≤◌, ◌<◌}
use native.Mathlib.Omega.{arith}
use lib.Dec.{eqb, leb, ltb}
use lib.ListN.{get_or}
use borrow.Author.Tests.{ltb-true, ltb-false, leb-true, leb-false, le-leb, lt-leb, lt-ltb, le-ltb, ne_eqb}
use Rattle.operands.specs.Kinds.{is_absent, is_register, is_register_r, is_register_m, is_memory}
use Rattle.operands.specs.Parts.{register_of, immediate_kind, immediate_of, mask_of, is_mask_register, bank_widths, immediate_widths, width_of}
use Rattle.operands.specs.RegisterBytes.{bank}
use Rattle.operands.specs.declared.Operand.{Operand}
use Rattle.operands.specs.declared.Operand.TheVariants.{Absent, Register, Imm, Absolute16, Absolute32, Memory}
use Rattle.operands.specs.declared.Address.{Address}
use Rattle.frames.specs.Numbers.{byte}
use Rattle.bodies.specs.Body.{count_of, imm_of, place_of, kind_at, mask_at}
use Rattle.bodies.specs.Decoding.{immediate, operand_of, operand_at}
use Rattle.bodies.proofs.Picks.{picked}
use Rattle.bodies.proofs.Accepted.{absent_from_count}

pub not-below : (n k : ℕ) (t : Bool) → ltb k n ≡ t → not t ≡ leb n k
not-below n k true e = sym (lt-leb n k (ltb-true k n e))
not-below n k false e = sym (le-leb n k (ltb-false k n e))

module _ (body : List ℕ) (k : ℕ) where
  pub absent_by_count : is_absent (operand_at body k) ≡ leb (count_of body) k
  absent_by_count = absent_from_count body k ∙ not-below (count_of body) k (ltb k (count_of body)) refl

  -- from the count up
  pub operand_none : count_of body ≤ k → operand_at body k ≡ Absent
  unfolding operand_at
  operand_none h = rw (le-ltb k (count_of body) h)

  abbrev kind : ℕ
  kind = kind_at body k

  abbrev reg : ℕ
  reg = byte body (place_of body k + 2)

  abbrev value : ℕ
  value = immediate kind (imm_of body)

  -- below it, by the three ranges of kinds
  module _ (h : k < count_of body) where
    pub by_kind :
        (P : Operand → Type 0) →
        (kind ≤ 2 → P (Register kind reg)) →
        (2 < kind → kind ≤ 8 → P (Imm kind value)) →
        (8 < kind → kind ≤ 10 → (s a : ℕ) → P (Absolute16 s a)) →
        (8 < kind → kind ≤ 10 → (s a : ℕ) → P (Absolute32 s a)) →
        (8 < kind → (s : ℕ) (a : Address) → P (Memory s a (mask_at body k))) →
        P (operand_at body k)
    unfolding operand_at operand_of
    by_kind P register imm absolute16 absolute32 memory =
        rw (lt-ltb k (count_of body) h)
        (picked P (leb kind 2) _ _ (λ e. register (leb-true kind 2 e))
        (λ e.
        picked P (leb kind 8) _ _ (λ f. imm (leb-false kind 2 e) (leb-true kind 8 f))
        (λ f.
        picked P (leb kind 9) _ _ (λ g. absolute16 (leb-false kind 8 f) (let l = leb-true kind 9 g in omega arith) _ _)
        (λ g.
        picked P (leb kind 10) _ _ (λ q. absolute32 (leb-false kind 8 f) (leb-true kind 10 q) _ _)
        (λ q. memory (leb-false kind 8 f) _ _)))))

    pub register_by_kind : is_register (operand_at body k) ≡ leb kind 2
    register_by_kind =
        by_kind (λ (o : Operand). is_register o ≡ leb kind 2) (λ l. sym (le-leb kind 2 l)) (λ l m. sym (lt-leb kind 2 l))
        (λ l m s a. sym (lt-leb kind 2 (omega arith)))
        (λ l m s a. sym (lt-leb kind 2 (omega arith)))
        (λ l s a. sym (lt-leb kind 2 (omega arith)))

    pub register_r_by_kind : is_register_r (operand_at body k) ≡ eqb kind 1
    register_r_by_kind =
        by_kind (λ (o : Operand). is_register_r o ≡ eqb kind 1) (λ l. refl) (λ l m. sym (ne_eqb kind 1 (λ e. omega arith)))
        (λ l m s a. sym (ne_eqb kind 1 (λ e. omega arith)))
        (λ l m s a. sym (ne_eqb kind 1 (λ e. omega arith)))
        (λ l s a. sym (ne_eqb kind 1 (λ e. omega arith)))

    pub register_m_by_kind : is_register_m (operand_at body k) ≡ eqb kind 2
    register_m_by_kind =
        by_kind (λ (o : Operand). is_register_m o ≡ eqb kind 2) (λ l. refl) (λ l m. sym (ne_eqb kind 2 (λ e. omega arith)))
        (λ l m s a. sym (ne_eqb kind 2 (λ e. omega arith)))
        (λ l m s a. sym (ne_eqb kind 2 (λ e. omega arith)))
        (λ l s a. sym (ne_eqb kind 2 (λ e. omega arith)))

    pub memory_by_kind : is_memory (operand_at body k) ≡ leb 9 kind
    memory_by_kind =
        by_kind (λ (o : Operand). is_memory o ≡ leb 9 kind) (λ l. sym (lt-leb 9 kind (omega arith))) (λ l m. sym (lt-leb 9 kind (omega arith)))
        (λ l m s a. sym (le-leb 9 kind l))
        (λ l m s a. sym (le-leb 9 kind l))
        (λ l s a. sym (le-leb 9 kind l))

    -- what a register alone has
    pub register_byte_by_kind : register_of (operand_at body k) ≡ cond (leb kind 2) reg 0
    register_byte_by_kind =
        by_kind (λ (o : Operand). register_of o ≡ cond (leb kind 2) reg 0) (λ l. rw (le-leb kind 2 l)) (λ l m. rw (lt-leb kind 2 l))
        (λ l m s a. rw (lt-leb kind 2 (omega arith)))
        (λ l m s a. rw (lt-leb kind 2 (omega arith)))
        (λ l s a. rw (lt-leb kind 2 (omega arith)))

    -- what an immediate alone has
    pub immediate_kind_by_kind : immediate_kind (operand_at body k) ≡ cond (leb kind 2) 0 (cond (leb kind 8) kind 0)
    immediate_kind_by_kind =
        by_kind (λ (o : Operand). immediate_kind o ≡ cond (leb kind 2) 0 (cond (leb kind 8) kind 0)) (λ l. rw (le-leb kind 2 l))
        (λ l m. rw (lt-leb kind 2 l, le-leb kind 8 m))
        (λ l m s a. rw (lt-leb kind 2 (omega arith), lt-leb kind 8 l))
        (λ l m s a. rw (lt-leb kind 2 (omega arith), lt-leb kind 8 l))
        (λ l s a. rw (lt-leb kind 2 (omega arith), lt-leb kind 8 l))

    pub immediate_by_kind : immediate_of (operand_at body k) ≡ cond (leb kind 2) 0 (cond (leb kind 8) value 0)
    immediate_by_kind =
        by_kind (λ (o : Operand). immediate_of o ≡ cond (leb kind 2) 0 (cond (leb kind 8) value 0)) (λ l. rw (le-leb kind 2 l))
        (λ l m. rw (lt-leb kind 2 l, le-leb kind 8 m))
        (λ l m s a. rw (lt-leb kind 2 (omega arith), lt-leb kind 8 l))
        (λ l m s a. rw (lt-leb kind 2 (omega arith), lt-leb kind 8 l))
        (λ l s a. rw (lt-leb kind 2 (omega arith), lt-leb kind 8 l))

    -- what a masked kind alone has
    plain : kind ≤ 10 → mask_at body k ≡ 0
    plain h = rw (lt-leb 17 kind (omega arith))

    pub plain_memory_by_kind : (is_memory (operand_at body k) && eqb (mask_of (operand_at body k)) 0) ≡ (leb 9 kind && eqb (mask_at body k) 0)
    plain_memory_by_kind =
        by_kind (λ (o : Operand). (is_memory o && eqb (mask_of o) 0) ≡ (leb 9 kind && eqb (mask_at body k) 0))
        (λ l. rw (lt-leb 9 kind (omega arith)))
        (λ l m. rw (lt-leb 9 kind (omega arith)))
        (λ l m s a. rw (le-leb 9 kind l, plain m))
        (λ l m s a. rw (le-leb 9 kind l, plain m))
        (λ l s a. rw (le-leb 9 kind l))

    pub mask_register_by_kind : is_mask_register (operand_at body k) ≡ (leb kind 2 && eqb (bank reg) 9)
    mask_register_by_kind =
        by_kind (λ (o : Operand). is_mask_register o ≡ (leb kind 2 && eqb (bank reg) 9)) (λ l. rw (le-leb kind 2 l))
        (λ l m. rw (lt-leb kind 2 l))
        (λ l m s a. rw (lt-leb kind 2 (omega arith)))
        (λ l m s a. rw (lt-leb kind 2 (omega arith)))
        (λ l s a. rw (lt-leb kind 2 (omega arith)))

    -- what registers and immediates have
    pub width_by_kind : width_of (operand_at body k) ≡ cond (leb kind 2) (get_or bank_widths (bank reg) 0) (cond (leb kind 8) (get_or immediate_widths kind 0) 0)
    width_by_kind =
        by_kind
        (λ (o : Operand). width_of o ≡ cond (leb kind 2) (get_or bank_widths (bank reg) 0) (cond (leb kind 8) (get_or immediate_widths kind 0) 0))
        (λ l. rw (le-leb kind 2 l))
        (λ l m. rw (lt-leb kind 2 l, le-leb kind 8 m))
        (λ l m s a. rw (lt-leb kind 2 (omega arith), lt-leb kind 8 l))
        (λ l m s a. rw (lt-leb kind 2 (omega arith), lt-leb kind 8 l))
        (λ l s a. rw (lt-leb kind 2 (omega arith), lt-leb kind 8 l))

-- all of them, for the functions that ask
pub ruleset by_kind_lemmas = (absent_by_count, operand_none, register_by_kind, register_r_by_kind, register_m_by_kind, memory_by_kind, register_byte_by_kind, immediate_kind_by_kind, immediate_by_kind, plain_memory_by_kind, mask_register_by_kind, width_by_kind)
