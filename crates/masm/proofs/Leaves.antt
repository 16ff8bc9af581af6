-- Single names and numbers, read by a test that computes: for a table of them the test is made once for all entries.
use mathlib.Core.Path.{◌≡◌, refl, ap, ap₂}
use mathlib.Core.Bool.{Bool, true, false, not, ◌&&◌}
use mathlib.Core.List.{List, [], ◌∷◌, ◌++◌, map}
use mathlib.Core.Option.{Option, none, some}
use Prim.Native.Nat.{ℕ}
use lib.Dec.{T, eqb, eqb→eq}
use lib.Ieee.Bits.{is_false}
use Rattle.masm.specs.Tokens.{bytes, is_digit, is_letter, is_word, small, Token, word, sign, tokens, same_list, same_token, lookup}
use Rattle.masm.specs.Expressions.{begins, numeral, decimal, registers, Register}
use Rattle.masm.specs.Operands.{widths, Label, labels, synonyms, segments, Operand, register, immediate, sized, branch, address, typed, operand}
use Rattle.masm.specs.Lines.{prefix_words}
use Rattle.masm.proofs.Tokens.{both, all, apart, leads_apart, plain}
use Rattle.masm.proofs.Numerals.{NumberText}
use Rattle.masm.proofs.Expressions.{RegisterText}
use Rattle.masm.proofs.Decorations.{DecimalText}
use Rattle.masm.proofs.Texts.{RegisterOperandText, Untyped, Segmented, SegmentText, LabelText, MnemonicText}

abbrev answers : Option ℕ → ℕ → Bool
answers none n = false
answers (some m) n = eqb m n

answered : (o : Option ℕ) (n : ℕ) → T (answers o n) → o ≡ some n
answered none n h = absurd h
answered (some m) n h = ap {B = Option ℕ} some (eqb→eq m n h)

abbrev refuses : {A : Type 0} → Option A → Bool
refuses none = true
refuses (some a) = false

refused : {A : Type 0} (o : Option A) → T (refuses o) → o ≡ none
refused none h = refl
refused (some a) h = absurd h

same_list_lem : {A : Type 0} (eq : A → A → Bool) → ((x y : A) → T (eq x y) → x ≡ y) → (xs ys : List A) → T (same_list eq xs ys) → xs ≡ ys
same_list_lem eq f [] [] h = refl
same_list_lem eq f [] (y ∷ ys) h = absurd h
same_list_lem eq f (x ∷ xs) [] h = absurd h
same_list_lem eq f (x ∷ xs) (y ∷ ys) h = let (a, b) = both (eq x y) (same_list eq xs ys) h in ap₂ ◌∷◌ (f x y a) (same_list_lem eq f xs ys b)

same_token_lem : (t u : Token) → T (same_token t u) → t ≡ u
same_token_lem (word w) (word v) h = ap word (same_list_lem eqb eqb→eq w v h)
same_token_lem (word w) (sign d) h = absurd h
same_token_lem (sign c) (word v) h = absurd h
same_token_lem (sign c) (sign d) h = ap sign (eqb→eq c d h)

same-tokens : (ts us : List Token) → T (same_list same_token ts us) → ts ≡ us
same-tokens ts us h = same_list_lem same_token same_token_lem ts us h

-- ---- The tests. To compute one, unfold it and the tables that it names.

abbrev is_one_word : List ℕ → Bool
is_one_word u = same_list same_token (tokens u) (word u ∷ [])

-- `u` spells the number `n`, in digits and small letters
unfoldable pub is_number : ℕ → List ℕ → Bool
is_number n u = is_one_word u && (begins is_digit u && answers (numeral u) n)

pub number_text : {n : ℕ} {u : List ℕ} → T (is_number n u) → NumberText n u
unfolding is_number
number_text {n} {u} h =
    let (a, b) = both (is_one_word u) (begins is_digit u && answers (numeral u) n) h in
    let (x, y) = both (begins is_digit u) (answers (numeral u) n) b in
    record { spelling = u; one_token = same-tokens (tokens u) (word u ∷ []) a; digit = x; value = answered (numeral u) n y }

-- `u` is the digits of the number `n`, as they stand in `{1to16}`
unfoldable pub is_decimal : ℕ → List ℕ → Bool
is_decimal n u = all is_word u && answers (decimal (map small u)) n

pub decimal_text : {n : ℕ} {u : List ℕ} → T (is_decimal n u) → DecimalText n u
unfolding is_decimal
decimal_text {n} {u} h =
    let (a, b) = both (all is_word u) (answers (decimal (map small u)) n) h in
    record { word_letters = a; value = answered (decimal (map small u)) n b }

-- `u` is one word, which names the register `r` in a bracket
unfoldable pub is_inside : Register → List ℕ → Bool
is_inside r u =
    is_one_word u && (refuses (numeral u) && (not (same_list eqb u (bytes "$")) && answers (lookup registers (word u ∷ [])) r))

pub inside_text_lem : {r : Register} {u : List ℕ} → T (is_inside r u) → RegisterText r u
unfolding is_inside
inside_text_lem {r} {u} h =
    let dollar = same_list eqb u (bytes "$") in
    let names = answers (lookup registers (word u ∷ [])) r in
    let (a, b) = both (is_one_word u) (refuses (numeral u) && (not dollar && names)) h in
    let (c, d) = both (refuses (numeral u)) (not dollar && names) b in
    let (x, y) = both (not dollar) names d in
    record {
      spelling = u;
      one_token = same-tokens (tokens u) (word u ∷ []) a;
      names = rw (refused (numeral u) c, is_false dollar x, answered (lookup registers (word u ∷ [])) r y);
    }

-- `u` is the register `r`, as an operand
abbrev is_register : Option Operand → Register → Bool
is_register none r = false
is_register (some (register s)) r = eqb s r
is_register (some (immediate n)) r = false
is_register (some (sized w n)) r = false
is_register (some (branch w n)) r = false
is_register (some (address l s t d m b)) r = false

is_register_lem : (o : Option Operand) (r : Register) → T (is_register o r) → o ≡ some (register r)
is_register_lem none r h = absurd h
is_register_lem (some (register s)) r h = ap (λ t. some (register t)) (eqb→eq s r h)
is_register_lem (some (immediate n)) r h = absurd h
is_register_lem (some (sized w n)) r h = absurd h
is_register_lem (some (branch w n)) r h = absurd h
is_register_lem (some (address l s t d m b)) r h = absurd h

unfoldable pub is_alone : (start : ℕ) → Register → List ℕ → Bool
is_alone start r u = plain (tokens u) && is_register (operand start (tokens u)) r

pub register_text_lem : {r : Register} {u : List ℕ} → ((start : ℕ) → T (is_alone start r u)) → RegisterOperandText r u
unfolding is_alone
register_text_lem {r} {u} h =
    record {
      plainly = (both (plain (tokens u)) (is_register (operand 0 (tokens u)) r) (h 0)).0;
      reads = λ start. is_register_lem (operand start (tokens u)) r (both (plain (tokens u)) (is_register (operand start (tokens u)) r) (h start)).1;
    }

-- `u` is the mnemonic that it spells
unfoldable pub is_mnemonic : List ℕ → Bool
is_mnemonic u = is_one_word u && (begins is_letter u && refuses (lookup prefix_words (word u ∷ [])))

pub mnemonic_text : {u : List ℕ} → T (is_mnemonic u) → MnemonicText u u
unfolding is_mnemonic
mnemonic_text {u} h =
    let (a, b) = both (is_one_word u) (begins is_letter u && refuses (lookup prefix_words (word u ∷ []))) h in
    let (x, y) = both (begins is_letter u) (refuses (lookup prefix_words (word u ∷ []))) b in
    record { one_token = same-tokens (tokens u) (word u ∷ []) a; letter = x; no_prefix = refused (lookup prefix_words (word u ∷ [])) y }

-- ---- Labels and segments. The last arguments are computed for a text that is given.

-- `t` is a type's word and `ptr`
pub label_text_lem : (w : List ℕ) {t : List ℕ} {l : Label} → T (apart t) → tokens t ≡ word w ∷ word (bytes "ptr") ∷ []
    → ((start : ℕ) (ts : List Token) → operand start (word w ∷ word (bytes "ptr") ∷ ts) ≡ typed start none (some l) ts) → LabelText (some l) t
label_text_lem w {t} a e h =
    record {
      lead = word w ∷ word (bytes "ptr") ∷ [];
      leads = rw e at (leads_apart t a);
      plainly = tt;
      names = λ y start ts. h start (y.lead ++ sign 91 ∷ ts);
    }

-- `t` is a segment register and a colon
pub segment_text_lem : (w : List ℕ) {t : List ℕ} {s : Register} → T (apart t) → tokens t ≡ word w ∷ sign 58 ∷ []
    → Untyped (word w ∷ sign 58 ∷ []) → Segmented (word w ∷ sign 58 ∷ []) (some s) → SegmentText (some s) t
segment_text_lem w {t} a e h k =
    record { lead = word w ∷ sign 58 ∷ []; leads = rw e at (leads_apart t a); plainly = tt; untyped = h; names = k }

pub no_segment : SegmentText none []
unfolding widths labels synonyms segments registers
no_segment = record { lead = []; leads = λ u. refl; plainly = tt; untyped = λ start ts. refl; names = λ start l ts. refl }
