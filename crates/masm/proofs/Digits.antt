-- A word that begins with a digit is in no table.
use mathlib.Core.Path.{◌≡◌, refl}
use mathlib.Core.Bool.{Bool, true, false, not, ◌&&◌}
use mathlib.Core.List.{List, [], ◌∷◌, ◌++◌}
use mathlib.Core.Option.{none}
use Prim.Native.Nat.{ℕ}
use lib.Dec.{T, T_not, not_T, eqb, eqb→eq}
use lib.Ieee.Bits.{is_false}
use Rattle.masm.specs.Tokens.{is_digit, Token, word, sign, same_list, same_token, Table, lookup, after, front}
use Rattle.masm.specs.Expressions.{begins, registers}
use Rattle.masm.specs.Operands.{widths, labels, synonyms, segments}
use Rattle.masm.proofs.Tokens.{both}

abbrev letter_first : List Token → Bool
letter_first [] = false
letter_first (sign c ∷ ts) = false
letter_first (word w ∷ ts) = not (begins is_digit w)

-- all names begin with a word that begins with no digit
abbrev lettered : {A : Type 0} → Table A → Bool
lettered [] = true
lettered (e ∷ es) = letter_first e.0 && lettered es

differs : (v w : List ℕ) → T (not (begins is_digit v)) → T (begins is_digit w) → same_list eqb v w ≡ false
differs [] [] h k = absurd k
differs [] (c ∷ w) h k = refl
differs (d ∷ v) [] h k = refl
differs (d ∷ v) (c ∷ w) h k =
    rw (is_false (eqb d c) (not_T (eqb d c) (λ e. T_not (is_digit c) (rw (eqb→eq d c e) at h) k)))

module _ (w : List ℕ) (ts : List Token) (k : T (begins is_digit w)) where
  not_after : (ns : List Token) → T (letter_first ns) → after same_token ns (word w ∷ ts) ≡ none
  not_after [] h = absurd h
  not_after (sign c ∷ ns) h = absurd h
  not_after (word v ∷ ns) h = rw (differs v w h k)

  not_same_lem : (ns : List Token) → T (letter_first ns) → same_list same_token ns (word w ∷ ts) ≡ false
  not_same_lem [] h = absurd h
  not_same_lem (sign c ∷ ns) h = absurd h
  not_same_lem (word v ∷ ns) h = rw (differs v w h k)

  none_in_front : {A : Type 0} (es : Table A) → T (lettered es) → front es (word w ∷ ts) ≡ (none, word w ∷ ts)
  none_in_front [] h = refl
  none_in_front (e ∷ es) h =
      let (a, b) = both (letter_first e.0) (lettered es) h in
      rw (not_after e.0 a, front) (none_in_front es b)

  not_found : {A : Type 0} (es : Table A) → T (lettered es) → lookup es (word w ∷ ts) ≡ none
  not_found [] h = refl
  not_found (e ∷ es) h =
      let (a, b) = both (letter_first e.0) (lettered es) h in
      rw (not_same_lem e.0 a) (not_found es b)

  pub no_width : front widths (word w ∷ ts) ≡ (none, word w ∷ ts)
  unfolding widths
  no_width = none_in_front widths tt

  pub no_type : front (labels ++ synonyms) (word w ∷ ts) ≡ (none, word w ∷ ts)
  unfolding labels synonyms
  no_type = none_in_front (labels ++ synonyms) tt

  pub no_prefix_segment : front segments (word w ∷ ts) ≡ (none, word w ∷ ts)
  unfolding segments
  no_prefix_segment = none_in_front segments tt

  pub no_register : lookup registers (word w ∷ ts) ≡ none
  unfolding registers
  no_register = not_found registers tt
