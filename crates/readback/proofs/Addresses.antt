-- A bracket is read as the sum that it shows.
-- Assumes nothing.
use mathlib.Core.Path.{◌≡◌, refl, sym, ap, ◌∙◌}
use mathlib.Core.Bool.{Bool, true, false, cond, ◌||◌, false≢true}
use mathlib.Core.List.{List, [], ◌∷◌, ◌++◌, append_assoc, append-nil}
use mathlib.Core.Logic.{inl, inr}
use Prim.Native.Nat.{ℕ, suc, ◌+◌, ◌<◌}
use native.Mathlib.Nat.{add-zero, zero-add}
use native.Mathlib.Omega.{arith}
use lib.Dec.{eqb}
use lib.IntN.{ℤ, pos, negsuc, +ℤ_idl}
use mir.Syntax.{w32}
use mir.Val.{SFits}
use Rattle.text.specs.Choice.{when}
use Rattle.text.specs.Words.{bytes}
use Rattle.numerals.specs.Digits.{digit, digits}
use Rattle.numerals.specs.Numerals.{displacement}
use Rattle.names.specs.Registers.{register_name}
use Rattle.operands.specs.declared.Address.{Address}
use Rattle.lines.specs.Brackets.{base_text, scale_text, indexed_text, index_text, tail_text, bracket_text}
use Rattle.bodies.specs.WellFormed.{ScaleKept, IndexKept, AddressKept}
use Rattle.masm.specs.Tokens.{tokens}
use Rattle.masm.specs.Expressions.{numeral, Register, Value, constant, multiple, plus}
use Rattle.masm.specs.Operands.{times_in}
use Rattle.masm.proofs.Leaves.{is_number, number_text}
use Rattle.masm.proofs.Expressions.{TermText, SumText, number_term, register_term, scaled_term, term_sum, plus-sum, minus_sum}
use Rattle.readback.specs.Meaning.{times_of, added_of}
use Rattle.readback.proofs.Numbers.{numeral_text}
use Rattle.readback.proofs.Names.{inside_name, index_name}

-- ---- Registers and scales

-- the index with its scale counts as often as the scale says
index_term : (r s : ℕ) → IndexKept r → ScaleKept s → TermText (multiple r s) (register_name r ++ scale_text s)
unfolding scale_text is_number tokens numeral digits digit
index_term r s h (inl e) = rw (e, append-nil) (register_term (index_name h))
index_term r s h (inr (inl e)) = rw e (scaled_term (index_name h) (number_text {n = 2} {u = digits 1 2} tt))
index_term r s h (inr (inr (inl e))) = rw e (scaled_term (index_name h) (number_text {n = 4} {u = digits 1 4} tt))
index_term r s h (inr (inr (inr e))) = rw e (scaled_term (index_name h) (number_text {n = 8} {u = digits 1 8} tt))

-- ---- The displacement

abbrev displaced_by : Bool → ℤ → Value → Value
displaced_by displaced d v = cond displaced (plus v (constant d)) v

-- a term, and a displacement where it is shown
tail_sum : {v : Value} {u : List ℕ} (displaced : Bool) (d : ℤ) → SFits w32 d → TermText v u
    → SumText (λ total. displaced_by displaced d (plus total v)) (u ++ when displaced (bytes " " ++ displacement d))
unfolding displacement
tail_sum true (pos n) f t = plus-sum t (term_sum (number_term (numeral_text n (omega (arith, f.sfits)))))
tail_sum true (negsuc n) f t = minus_sum t (numeral_text (suc n) (omega (arith, f.sfits)))
tail_sum false d f t = rw append-nil (term_sum t)

-- the text is a sum whose registers count `times`, and whose number is `d`
pub record Adds (times : Register → ℕ) (d : ℤ) (u : List ℕ) : Type 0 where
  pub sum : Value → Value
  pub text : SumText sum u
  pub no_start : (sum (constant (pos 0))).starts ≡ 0
  pub counted : (r : Register) → times_in (sum (constant (pos 0))).counts r ≡ times r
  pub added : (sum (constant (pos 0))).number ≡ d

-- registers alone, and a displacement where it is shown
adds : {f : Value → Value} {times : Register → ℕ} {u : List ℕ} (displaced : Bool) (d : ℤ) (v : Value) → SumText f u
    → f (constant (pos 0)) ≡ displaced_by displaced d v → v.starts ≡ 0 → v.number ≡ pos 0 → ((r : Register) → times_in v.counts r ≡ times r)
    → Adds times (cond displaced d (pos 0)) u
adds {f} true d v t e s n c =
    record { sum = f; text = t; no_start = rw (e, s); counted = λ r. rw (e, append-nil) (c r); added = rw (e, n) (+ℤ_idl d) }
adds {f} false d v t e s n c = record { sum = f; text = t; no_start = rw (e, s); counted = λ r. rw e (c r); added = rw (e, n) }

-- ---- The bracket

-- what stands between the brackets
abbrev pub inside_text : Address → List ℕ
inside_text a = base_text a.based a.base ++ (index_text a ++ when a.displaced (bytes " " ++ displacement a.disp))

pub bracket_parts : (a : Address) → bracket_text a ≡ 91 ∷ inside_text a ++ (93 ∷ [])
unfolding bracket_text tail_text
bracket_parts a = simp append_assoc

module _ (base index scale : ℕ) (displaced : Bool) (disp : ℤ) (b : base < 16) (i : IndexKept index) (f : SFits w32 disp) where
  abbrev made : Bool → Bool → Address
  made based indexed =
      record { disp = disp; base = base; index = index; scale = scale; based = based; indexed = indexed; displaced = displaced }

  inside_text_lem : (based indexed : Bool) → (indexed ≡ true → ScaleKept scale) → (based || indexed) ≡ true
      → Adds (times_of (made based indexed)) (added_of (made based indexed)) (inside_text (made based indexed))
  unfolding base_text index_text indexed_text
  inside_text_lem true true s e =
      adds displaced disp (plus (multiple base 1) (multiple index scale))
      (plus-sum (register_term (inside_name b)) (tail_sum displaced disp f (index_term index scale i (s refl)))) refl refl refl
      (λ r. ap (λ n. cond (eqb r base) 1 0 + n) (add-zero (cond (eqb r index) scale 0)))
  inside_text_lem true false s e =
      adds displaced disp (multiple base 1) (tail_sum displaced disp f (register_term (inside_name b))) refl refl refl (λ r. refl)
  inside_text_lem false true s e =
      adds displaced disp (multiple index scale) (tail_sum displaced disp f (index_term index scale i (s refl))) refl refl refl
      (λ r. add-zero (cond (eqb r index) scale 0) ∙ sym (zero-add (cond (eqb r index) scale 0)))
  inside_text_lem false false s e = absurd (false≢true e)

pub bracket_adds : (a : Address) → AddressKept a → Adds (times_of a) (added_of a) (inside_text a)
bracket_adds a k =
    inside_text_lem a.base a.index a.scale a.displaced a.disp k.base k.index k.disp a.based a.indexed k.scale
    k.some_register
