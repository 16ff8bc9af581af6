-- How operands and lines are read whose texts are put together from parts: each part carries its reading, and each law joins them.
use mathlib.Core.Path.{◌≡◌, refl, ap, sym, ◌∙◌}
use mathlib.Core.Bool.{Bool, true, false, cond, ◌||◌}
use mathlib.Core.List.{List, [], ◌∷◌, ◌++◌, append-nil}
use mathlib.Core.Option.{Option, none, some, map, none-ne-some}
use Prim.Native.Nat.{ℕ, ◌%◌, ◌^◌}
use lib.Dec.{T}
use lib.Ieee.Bits.{is_true}
use lib.IntN.{pos, neg_ℤ, ◌+ℤ◌, +ℤ_idl}
use Rattle.masm.specs.Tokens.{bytes, is_digit, is_letter, Token, word, sign, tokens, parts, lookup, front, back, is_said, each, ◌>>=◌}
use Rattle.masm.specs.Expressions.{begins, Register, registers, Value, zero, expression}
use Rattle.masm.specs.Operands.{Width, widths, Label, labels, synonyms, segments, times_in, wrapped}
use Rattle.masm.specs.Operands.{Operand, register, immediate, plain as plain_number, branch, address, address_of, plain_of, typed, operand, masks, copies, decorated}
use Rattle.masm.specs.Lines.{Prefix, prefix_words, Tail, tails, Line, prefixed, operands_of, instruction, line, shows, read_tokens, read}
use Rattle.masm.proofs.Tokens.{Leads, follows_append, quiet, quiet-append, plain, plain-append, no_brace, plain_whole, whole, whole_append, no_comma, whole-quiet, quiet-uncommented, unbroken, quiet-unbroken, one-part, part-before_comma, tokens_append, blank-between, comma_between}
use Rattle.masm.proofs.Numerals.{NumberText}
use Rattle.masm.proofs.Digits.{no_width, no_type, no_prefix_segment, no_register}
use Rattle.masm.proofs.Expressions.{SumText, bracket_value, number-value, dollar-value}
use Rattle.masm.proofs.Decorations.{decorated-bare, decorated-append, completed_address, MaskText, BroadcastText, back-bare, back-append, back_comma, TailText, no_tail}

-- ---- Operands

-- the text is an operand, without a brace
pub record BareText (start : ℕ) (o : Operand) (u : List ℕ) : Type 0 where
  pub plainly : T (plain (tokens u))
  pub reads : operand start (tokens u) ≡ some o

-- the text is an operand, and perhaps a mask and a broadcast after it
pub record OperandText (start : ℕ) (o : Operand) (u : List ℕ) : Type 0 where
  pub wholly : T (whole (tokens u))
  pub untailed : back tails (tokens u) ≡ (none, tokens u)
  pub reads : decorated start (tokens u) ≡ some o

pub bare-operand : {start : ℕ} {o : Operand} {u : List ℕ} → BareText start o u → OperandText start o u
bare-operand {start} {o} {u} t =
    let h = no_brace (tokens u) t.plainly in
    record {
      wholly = plain_whole (tokens u) t.plainly;
      untailed = back-bare (tokens u) h;
      reads = decorated-bare start (tokens u) h ∙ t.reads;
    }

-- A mask and a broadcast after an address, each where it is there.
pub decorated-operand : {start : ℕ} {l : Option Label} {s : Option Register} {times : Register → ℕ} {d : ℕ} {m : Option Register} {n : Option ℕ}
    {u x y : List ℕ} → BareText start (address l s times d none none) u → MaskText m x → BroadcastText n y
    → OperandText start (address l s times d m n) (u ++ (x ++ y))
decorated-operand {start} {m = m} {n = n} {u = u} {x = x} {y = y} t p q =
    let us = p.lead ++ q.lead in
    let e = follows_append p.lead q.lead x y p.follows q.follows u in
    let h = no_brace (tokens u) t.plainly in
    let b = p.braced q.braced in
    record {
      wholly = rw e (whole_append (tokens u) us (plain_whole (tokens u) t.plainly) (whole_append p.lead q.lead p.wholly q.wholly));
      untailed = rw e (back-append (tokens u) h b (p.untailed q.braced q.untailed));
      reads = rw (e, decorated-append start (tokens u) h b (p.names q) q.reads, t.reads) (completed_address m n);
    }

-- the text names the register `r`
pub record RegisterOperandText (r : Register) (u : List ℕ) : Type 0 where
  pub plainly : T (plain (tokens u))
  pub reads : (start : ℕ) → operand start (tokens u) ≡ some (register r)

pub register_operand : {start r : ℕ} {u : List ℕ} → RegisterOperandText r u → OperandText start (register r) u
register_operand {start} t = bare-operand (record { plainly = t.plainly; reads = t.reads start })

-- ---- Widths

-- No width, type or segment begins with the word `v`, and it is no register: it is a number, or `$`.
pub record Unnamed (v : List ℕ) (ts : List Token) : Type 0 where
  pub unsized : front widths (word v ∷ ts) ≡ (none, word v ∷ ts)
  pub untyped : front (labels ++ synonyms) (word v ∷ ts) ≡ (none, word v ∷ ts)
  pub unsegmented : front segments (word v ∷ ts) ≡ (none, word v ∷ ts)
  pub unregistered : lookup registers (word v ∷ ts) ≡ none

number_unnamed : (v : List ℕ) (ts : List Token) → T (begins is_digit v) → Unnamed v ts
number_unnamed v ts d =
    record { unsized = no_width v ts d; untyped = no_type v ts d; unsegmented = no_prefix_segment v ts d; unregistered = no_register v ts d }

dollar_unnamed : (ts : List Token) → Unnamed (bytes "$") ts
unfolding widths labels synonyms segments registers
dollar_unnamed ts = record { unsized = refl; untyped = refl; unsegmented = refl; unregistered = refl }

-- an expression that has a width before it or nothing
abbrev pub widened : (start : ℕ) → Option Width → List Token → Option Operand
widened start w ts = expression ts >>= λ x. cond (x.bracket || false) (address_of w none none x) (plain_of start w none x)

-- the text is `short` or `near ptr` with the blank after it, or nothing
pub record WidthText (w : Option Width) (t : List ℕ) : Type 0 where
  pub lead : List Token
  pub leads : Leads lead t
  pub plainly : T (plain lead)
  pub names : (start : ℕ) (v : List ℕ) (ts : List Token) → Unnamed v ts → operand start (lead ++ word v ∷ ts) ≡ widened start w (word v ∷ ts)

pub no_width_word : WidthText none []
no_width_word =
    record {
      lead = [];
      leads = λ u. refl;
      plainly = tt;
      names = λ start v ts n. rw (n.unsized, n.untyped, n.unregistered, n.unsegmented);
    }

pub short_word : WidthText (some 8) (bytes "short ")
unfolding tokens widths
short_word =
    record {
      lead = word (bytes "short") ∷ [];
      leads = λ u. refl;
      plainly = tt;
      names = λ start v ts n. rw (n.untyped, n.unsegmented);
    }

pub near_word : WidthText (some 32) (bytes "near ptr ")
unfolding tokens widths
near_word =
    record {
      lead = word (bytes "near") ∷ word (bytes "ptr") ∷ [];
      leads = λ u. refl;
      plainly = tt;
      names = λ start v ts n. rw (n.untyped, n.unsegmented);
    }

-- ---- Numbers: perhaps a width, and a number

pub plain-operand : {start n : ℕ} {w : Option Width} {t u : List ℕ} → WidthText w t → NumberText n u
    → OperandText start (plain_number w (n % 2 ^ 32)) (t ++ u)
plain-operand {start} {n} {w} {t} {u} x y =
    let v = y.spelling in
    let e : tokens (t ++ u) ≡ x.lead ++ word v ∷ []
    = rw (x.leads, y.one_token) in
    bare-operand
    (record {
      plainly = rw e (plain-append x.lead (word v ∷ []) x.plainly tt);
      reads = rw (e, x.names start v [] (number_unnamed v [] y.digit), ← y.one_token, number-value y);
    })

-- alone it is an immediate
pub number-operand : {start n : ℕ} {u : List ℕ} → NumberText n u → OperandText start (immediate (n % 2 ^ 32)) u
number-operand t = plain-operand no_width_word t

-- ---- Branch targets: perhaps a width, `$`, a sign and a number

abbrev from_dollar : (minus : Bool) → List Token → List Token
from_dollar minus ts = word (bytes "$") ∷ sign (cond minus 45 43) ∷ ts

dollar_split : (minus : Bool) (u : List ℕ) → tokens (36 ∷ cond minus 45 43 ∷ u) ≡ from_dollar minus (tokens u)
unfolding tokens
dollar_split false u = refl
dollar_split true u = refl

dollar-plain : (minus : Bool) (ts : List Token) → T (plain ts) → T (plain (from_dollar minus ts))
dollar-plain false ts h = h
dollar-plain true ts h = h

pub branch_operand : {start n : ℕ} {w : Option Width} {t u : List ℕ} (minus : Bool) → WidthText w t → NumberText n u
    → OperandText start (branch w (wrapped (pos start +ℤ cond minus (neg_ℤ (pos n)) (pos n)))) (t ++ (36 ∷ cond minus 45 43 ∷ u))
branch_operand {start} {n} {w} {t} {u} minus x y =
    let ts = from_dollar minus (tokens u) in
    let e : tokens (t ++ (36 ∷ cond minus 45 43 ∷ u)) ≡ x.lead ++ ts
    = rw (x.leads, dollar_split minus u) in
    bare-operand
    (record {
      plainly = rw e (plain-append x.lead ts x.plainly (dollar-plain minus (tokens u) (rw y.one_token tt)));
      reads =
          rw (
            e,
            x.names start (bytes "$") (sign (cond minus 45 43) ∷ tokens u) (dollar_unnamed (sign (cond minus 45 43) ∷ tokens u)),
            dollar-value minus y,
            +ℤ_idl (cond minus (neg_ℤ (pos n)) (pos n)),
          );
    })

-- ---- Addresses

-- a bracket after these tokens has no type before it
abbrev pub Untyped : List Token → Type 0
Untyped lead = (start : ℕ) (ts : List Token) → operand start (lead ++ sign 91 ∷ ts) ≡ typed start none none (lead ++ sign 91 ∷ ts)

-- a bracket after these tokens has the segment `s`
abbrev pub Segmented : List Token → Option Register → Type 0
Segmented lead s =
    (start : ℕ) (l : Option Label) (ts : List Token)
    → typed start none l (lead ++ sign 91 ∷ ts)
    ≡ (expression (sign 91 ∷ ts) >>= λ v. cond (v.bracket || is_said s) (address_of none l s v) (plain_of start none l v))

-- the text is a segment register with its colon, or nothing
pub record SegmentText (s : Option Register) (t : List ℕ) : Type 0 where
  pub lead : List Token
  pub leads : Leads lead t
  pub plainly : T (plain lead)
  pub untyped : Untyped lead
  pub names : Segmented lead s

-- the text is a label with `ptr`, or nothing
pub record LabelText (l : Option Label) (t : List ℕ) : Type 0 where
  pub lead : List Token
  pub leads : Leads lead t
  pub plainly : T (plain lead)
  pub names : {s : Option Register} {v : List ℕ} (y : SegmentText s v) (start : ℕ) (ts : List Token)
      → operand start (lead ++ (y.lead ++ sign 91 ∷ ts)) ≡ typed start none l (y.lead ++ sign 91 ∷ ts)

pub no_label : LabelText none []
no_label = record { lead = []; leads = λ u. refl; plainly = tt; names = λ y start ts. y.untyped start ts }

bracket_split : (u : List ℕ) → tokens (91 ∷ u ++ (93 ∷ [])) ≡ sign 91 ∷ tokens u ++ (sign 93 ∷ [])
unfolding tokens
bracket_split u = ap (λ ts. sign 91 ∷ ts) (tokens_append u 93 [] refl)

pub bare_address : {start : ℕ} {l : Option Label} {s : Option Register} {f : Value → Value} {t v u : List ℕ} → LabelText l t → SegmentText s v
    → SumText f u → (f zero).starts ≡ 0
    → BareText start (address l s (times_in (f zero).counts) (wrapped (f zero).number) none none) (t ++ (v ++ (91 ∷ u ++ (93 ∷ []))))
bare_address {start} {l} {s} {f} {t} {v} {u} x y z none-started =
    let inside = tokens u ++ (sign 93 ∷ []) in
    let e : tokens (t ++ (v ++ (91 ∷ u ++ (93 ∷ [])))) ≡ x.lead ++ (y.lead ++ sign 91 ∷ inside)
    = rw (x.leads, y.leads, bracket_split u) in
    let p = plain-append (tokens u) (sign 93 ∷ []) z.plainly tt in
    record {
      plainly =
          rw e (plain-append x.lead (y.lead ++ sign 91 ∷ inside) x.plainly (plain-append y.lead (sign 91 ∷ inside) y.plainly p));
      reads = rw (e, x.names y start inside, y.names start l inside, bracket_value z, none-started);
    }

pub address_operand : {start : ℕ} {l : Option Label} {s : Option Register} {f : Value → Value} {t v u : List ℕ} → LabelText l t → SegmentText s v
    → SumText f u → (f zero).starts ≡ 0
    → OperandText start (address l s (times_in (f zero).counts) (wrapped (f zero).number) none none) (t ++ (v ++ (91 ∷ u ++ (93 ∷ []))))
address_operand x y z none-started = bare-operand (bare_address x y z none-started)

-- ---- Operands with commas between them

pub record OperandsText (start : ℕ) (os : List Operand) (u : List ℕ) : Type 0 where
  pub quietly : T (quiet (tokens u))
  pub untailed : back tails (tokens u) ≡ (none, tokens u)
  pub reads : each (decorated start) (parts (tokens u)) ≡ some os

pub one-operand : {start : ℕ} {o : Operand} {u : List ℕ} → OperandText start o u → OperandsText start (o ∷ []) u
one-operand {start} {o} {u} t =
    record {
      quietly = whole-quiet (tokens u) t.wholly;
      untailed = t.untailed;
      reads = rw (one-part (tokens u) (no_comma (tokens u) t.wholly), t.reads);
    }

pub more_operands : {start : ℕ} {o : Operand} {os : List Operand} {u v : List ℕ} → OperandText start o u → OperandsText start os v
    → OperandsText start (o ∷ os) (u ++ (bytes ", " ++ v))
more_operands {start} {o} {os} {u} {v} s t =
    let e = comma_between u v in
    record {
      quietly = rw e (quiet-append (tokens u) (sign 44 ∷ tokens v) (whole-quiet (tokens u) s.wholly) t.quietly);
      untailed = rw (e, back_comma (tokens u) (tokens v), t.untailed);
      reads = rw (e, part-before_comma (tokens u) (tokens v) (no_comma (tokens u) s.wholly), s.reads, t.reads);
    }

-- ---- Lines

-- the text is a mnemonic
pub record MnemonicText (m u : List ℕ) : Type 0 where
  pub one_token : tokens u ≡ word m ∷ []
  pub letter : T (begins is_letter m)
  pub no_prefix : lookup prefix_words (word m ∷ []) ≡ none

-- the text is a prefix word, with what parts it from the next word
pub record PrefixText (p : Prefix) (t : List ℕ) : Type 0 where
  pub lead : List ℕ
  pub leads : Leads (word lead ∷ []) t
  pub names : lookup prefix_words (word lead ∷ []) ≡ some p

-- the text is a line
pub record LineText (start : ℕ) (l : Line) (u : List ℕ) : Type 0 where
  pub quietly : T (quiet (tokens u))
  pub reads : line start (tokens u) ≡ some l

line_at : (start : ℕ) (w : List ℕ) (ts : List Token) → lookup prefix_words (word w ∷ []) ≡ none
    → line start (word w ∷ ts) ≡ instruction start w ts
line_at start w ts e = rw (e, line)

line_after : (start : ℕ) (w : List ℕ) (ts : List Token) (p : Prefix) → lookup prefix_words (word w ∷ []) ≡ some p
    → line start (word w ∷ ts) ≡ map (prefixed p) (line start ts)
line_after start w ts p e = rw (e, line)

pub bare-line : {start : ℕ} {m u : List ℕ} → MnemonicText m u → LineText start (record { prefixes = []; mnemonic = m; operands = []; tail = none }) u
bare-line {start} {m} {u} t =
    record {
      quietly = rw t.one_token tt;
      reads = rw (t.one_token, line_at start m [] t.no_prefix, is_true (begins is_letter m) t.letter);
    }

-- operands and perhaps a tail are read from some tokens
operands_there : (start : ℕ) (os : List Operand) (end : Option Tail) (ts us : List Token) → back tails us ≡ (end, ts)
    → each (decorated start) (parts ts) ≡ some os → operands_of start us ≡ some (os, end)
unfolding widths labels synonyms segments registers masks copies expression
operands_there start os end ts [] e f = absurd (none-ne-some os (rw (sym (ap (λ p. p.1) e)) at f))
operands_there start os end ts (u ∷ us) e f = rw (e, f)

-- a mnemonic, operands, and a tail where it is there
pub tailed_line : {start : ℕ} {m u : List ℕ} {os : List Operand} {end : Option Tail} {v w : List ℕ} → MnemonicText m u → OperandsText start os v
    → TailText end w → LineText start (record { prefixes = []; mnemonic = m; operands = os; tail = end }) (u ++ 32 ∷ (v ++ w))
tailed_line {start} {m} {u} {os} {end} {v} {w} s t z =
    let ts = tokens v ++ z.lead in
    let e : tokens (u ++ 32 ∷ (v ++ w)) ≡ word m ∷ ts
    = rw (blank-between u (v ++ w), s.one_token, z.follows v) in
    let f = operands_there start os end (tokens v) ts (z.reads (tokens v) t.untailed) t.reads in
    record {
      quietly = rw e (quiet-append (tokens v) z.lead t.quietly z.quietly);
      reads = rw (e, line_at start m ts s.no_prefix, is_true (begins is_letter m) s.letter, f);
    }

pub full_line : {start : ℕ} {m u : List ℕ} {os : List Operand} {v : List ℕ} → MnemonicText m u → OperandsText start os v
    → LineText start (record { prefixes = []; mnemonic = m; operands = os; tail = none }) (u ++ 32 ∷ v)
full_line {v = v} s t = rw (append-nil v) at (tailed_line s t no_tail)

pub prefixed-line : {start : ℕ} {p : Prefix} {l : Line} {t u : List ℕ} → PrefixText p t → LineText start l u
    → LineText start (prefixed p l) (t ++ u)
prefixed-line {start} {p} {l} {t} {u} s k =
    record {
      quietly = rw (s.leads u) k.quietly;
      reads = rw (s.leads u, line_after start s.lead (tokens u) p s.names, k.reads);
    }

-- a line that is read from some tokens is their reading
tokens-there : (start : ℕ) (l : Line) (ts : List Token) → line start ts ≡ some l → read_tokens start ts ≡ shows l
tokens-there start l [] e = absurd (none-ne-some l e)
tokens-there start l (t ∷ ts) e = rw (e, read_tokens)

pub line_read : {start : ℕ} {l : Line} {u : List ℕ} → LineText start l u → read start u ≡ shows l
unfolding read
line_read {start} {l} {u} t = rw (quiet-uncommented (tokens u) t.quietly) (tokens-there start l (tokens u) t.reads)

-- and it is one line of text
pub line-unbroken : {start : ℕ} {l : Line} {u : List ℕ} → LineText start l u → T (unbroken u)
line-unbroken {u = u} t = quiet-unbroken u t.quietly
