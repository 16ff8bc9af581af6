-- The lines of a listing, one by one: each is one line and its newline, and is read as what its record shows, or is a comment.
-- Assumes nothing.
use mathlib.Core.Path.{◌≡◌, refl}
use mathlib.Core.Bool.{Bool, true, false, not}
use mathlib.Core.List.{List, [], ◌∷◌, ◌++◌}
use mathlib.Core.Option.{Option, none}
use Prim.Native.Nat.{ℕ, zero, suc, ◌+◌, ◌/◌, ◌%◌}
use native.Mathlib.Omega.{arith}
use borrow.Author.Tests.{eqb-true}
use lib.Dec.{T, not_T, eqb, eqb→eq, ltb, lit<}
use lib.Ieee.Bits.{is_false}
use lib.ListN.{take, drop}
use lib.Seq.{get_or-drop}
use Rattle.text.specs.Words.{bytes}
use Rattle.answers.specs.Lines.{newline, decimal, refused_text, refused_line}
use Rattle.answers.specs.Refusals.{answer_of}
use Rattle.bodies.specs.WellFormed.{Bytes}
use Rattle.bodies.proofs.Picks.{picked}
use Rattle.lines.specs.declared.Line.{Line}
use Rattle.records.specs.Lines.{record_line}
use Rattle.records.specs.Records.{refusals, record_text}
use Rattle.records.specs.declared.Asked.{Asked}
use Rattle.masm.specs.Lines.{read}
use Rattle.masm.proofs.Tokens.{both, pair, unbroken}
use Rattle.readback.specs.Listings.{lines_in, record_shows, reading_of}
use Rattle.readback.specs.Printed.{Printed}
use Rattle.readback.proofs.Readback.{reads_back, one_line}

-- ---- Parts of bytes are bytes

pub bytes_take : (n : ℕ) (xs : List ℕ) → Bytes xs → Bytes (take n xs)
bytes_take zero xs small at = lit< tt
bytes_take (suc n) [] small at = lit< tt
bytes_take (suc n) (x ∷ xs) small zero = small 0
bytes_take (suc n) (x ∷ xs) small (suc at) = bytes_take n xs (λ at. small (suc at)) at

pub bytes_drop : (n : ℕ) (xs : List ℕ) → Bytes xs → Bytes (drop n xs)
bytes_drop n xs small at = rw (get_or-drop n xs at 0) (small (n + at))

-- ---- Cutting at newlines

-- what is one line and its newline is the first line
pub first_line : (t rest : List ℕ) → T (unbroken t) → lines_in (t ++ 10 ∷ rest) ≡ t ∷ lines_in rest
first_line [] rest h = refl
first_line (c ∷ t) rest h =
    let (a, b) = both (not (eqb c 10)) (unbroken t) h in
    rw (is_false (eqb c 10) a, first_line t rest b)

-- ---- One line

-- the text is one line and a newline, and the line reads as what is shown
pub record LineReads (shown : Option Line) (t : List ℕ) : Type 0 where
  pub line : List ℕ
  pub ends : t ≡ line ++ newline
  pub one : T (unbroken line)
  pub reads : (start : ℕ) → read start line ≡ reading_of start shown

-- `; cut` and `; version` are comments
pub cut_reads : LineReads none (bytes "; cut" ++ newline)
unfolding read
cut_reads = record { line = bytes "; cut"; ends = refl; one = tt; reads = λ start. refl }

pub version_reads : LineReads none (bytes "; version" ++ newline)
unfolding read
version_reads = record { line = bytes "; version"; ends = refl; one = tt; reads = λ start. refl }

-- and so is `; refused N`
digit-unbroken : (d : ℕ) → T (not (eqb (48 + d) 10))
digit-unbroken d = not_T (eqb (48 + d) 10) (λ e. omega (arith, eqb→eq (48 + d) 10 e))

decimal-unbroken : (n : ℕ) → T (unbroken (decimal n))
decimal-unbroken n =
    picked (λ (t : List ℕ). T (unbroken t)) (ltb n 10) ((48 + n) ∷ []) ((48 + n / 10) ∷ (48 + n % 10) ∷ [])
    (λ e. pair (not (eqb (48 + n) 10)) true (digit-unbroken n) tt)
    (λ e. pair (not (eqb (48 + n / 10) 10)) _ (digit-unbroken (n / 10)) (pair (not (eqb (48 + n % 10) 10)) true (digit-unbroken (n % 10)) tt))

pub refused_unbroken : (n : ℕ) → T (unbroken (refused_text n))
unfolding refused_text
refused_unbroken n = decimal-unbroken n

refused_reads : (n : ℕ) → LineReads none (refused_line n)
unfolding read refused_text refused_line
refused_reads n = record { line = refused_text n; ends = refl; one = refused_unbroken n; reads = λ start. refl }

pub record_reads : (asked : Asked) (body : List ℕ) → Bytes body → LineReads (record_shows asked body) (record_line asked body)
unfolding record_line
record_reads asked body small = go (eqb (answer_of (refusals asked body)) 0) refl
  where
    go : (b : Bool) → eqb (answer_of (refusals asked body)) 0 ≡ b → LineReads (record_shows asked body) (record_line asked body)
    go true e =
        let p : Printed asked body = record { bytes = small; accepted = eqb-true (answer_of (refusals asked body)) 0 e } in
        rw e (record { line = record_text asked body; ends = refl; one = one_line p; reads = reads_back p })
    go false e = rw e (refused_reads (answer_of (refusals asked body)))
