-- How an expression is read whose text is put together from parts.
use mathlib.Core.Path.{◌≡◌, refl, ap, ap₂, ◌∙◌}
use mathlib.Core.Bool.{Bool, true, false, cond}
use mathlib.Core.List.{List, [], ◌∷◌, ◌++◌, map, append_assoc}
use mathlib.Core.Option
use mathlib.Core.Option.{Option, none, some}
use Prim.Native.Nat.{ℕ, ◌*◌}
use native.Mathlib.Nat.{zero-add, mul-one, one-mul, zero-mul}
use lib.Dec.{T}
use lib.IntN.{ℤ, pos, negsuc, neg_ℤ, ◌*ℤ◌, +ℤ_idl}
use Rattle.masm.specs.Tokens.{bytes, Token, word, sign, tokens, ◌>>=◌}
use Rattle.masm.specs.Expressions.{numeral, Register, Value, value, constant, zero, one, multiple, dollar, plus, mark, product}
use Rattle.masm.specs.Expressions.{Level, level, with, State, wants, has, part_of, step, run, settled, expression}
use Rattle.masm.proofs.Tokens.{sign-between, plain, plain-append}
use Rattle.masm.proofs.Numerals.{NumberText}

-- ---- The law of the reader: what is read of two parts one after the other is the second, read from where the first ends.

pub run-append : (ts us : List Token) (s : State) → run (ts ++ us) s ≡ (run ts s >>= run us)
run-append [] us s = refl
run-append (t ∷ ts) us s = go (step t s) (run-append ts us)
  where
    go : (x : Option State) → ((r : State) → run (ts ++ us) r ≡ (run ts r >>= run us)) → (x >>= run (ts ++ us)) ≡ (x >>= run ts >>= run us)
    go none h = refl
    go (some r) h = h r

-- ---- Nothing added, and one times

times_one : (cs : List (Register × ℕ)) → map (λ c. (c.0, c.1 * 1)) cs ≡ cs
times_one [] = refl
times_one (c ∷ cs) = ap₂ ◌∷◌ (ap (λ n. (c.0, n)) (mul-one c.1)) (times_one cs)

one-times : (z : ℤ) → z *ℤ pos 1 ≡ z
one-times (pos n) = ap pos (mul-one n)
one-times (negsuc n) = rw mul-one

pub plus-zero : (v : Value) → plus zero v ≡ v
plus-zero v = ap₂ (λ (n : ℕ) (z : ℤ). value v.counts n z v.bracket) (zero-add v.starts) (+ℤ_idl v.number)

pub product_one : (v : Value) → product one v ≡ some v
product_one v = rw (times_one v.counts, mul-one v.starts, one-times v.number)

-- ---- Terms and sums in a bracket

-- the text is a register that may stand in a bracket
pub record RegisterText (r : Register) (u : List ℕ) : Type 0 where
  pub spelling : List ℕ
  pub one_token : tokens u ≡ word spelling ∷ []
  pub names : part_of true spelling ≡ some (multiple r 1)

-- a level in a bracket, with a factor there
abbrev there : (total factors factor : Value) → Level
there total factors factor = record { opened = 91; inside = true; total = total; factors = factors; factor = factor }

-- the text is a term: it is read as factors that come to `v`, whatever stands before it
pub record TermText (v : Value) (u : List ℕ) : Type 0 where
  pub plainly : T (plain (tokens u))
  pub factors : Value
  pub factor : Value
  pub comes_to : product factors factor ≡ some v
  pub reads : (total : Value) (ls : List Level)
      → run (tokens u) (wants (level 91 true total one) ls) ≡ some (has (there total factors factor) ls)

-- the text is a sum: with its bracket it is read as `f total`, where `total` stands before it
pub record SumText (f : Value → Value) (u : List ℕ) : Type 0 where
  pub plainly : T (plain (tokens u))
  pub reads : (total : Value) (o : Level) (ls : List Level)
      → run (tokens u ++ (sign 93 ∷ [])) (wants (level 91 true total one) (o ∷ ls)) ≡ some (has (with (mark true (f total)) o) ls)

part-number : (inside : Bool) {n : ℕ} {u : List ℕ} (t : NumberText n u) → part_of inside t.spelling ≡ some (constant (pos n))
part-number inside t = rw t.value

pub number_term : {n : ℕ} {u : List ℕ} → NumberText n u → TermText (constant (pos n)) u
number_term {n} {u} t =
    record {
      plainly = rw t.one_token tt;
      factors = one;
      factor = constant (pos n);
      comes_to = product_one (constant (pos n));
      reads = λ total ls. rw (t.one_token, part-number true t, zero-add n);
    }

pub register_term : {r : Register} {u : List ℕ} → RegisterText r u → TermText (multiple r 1) u
register_term {r} {u} t =
    record {
      plainly = rw t.one_token tt;
      factors = one;
      factor = multiple r 1;
      comes_to = refl;
      reads = λ total ls. rw (t.one_token, t.names);
    }

pub scaled_term : {r n : ℕ} {u v : List ℕ} → RegisterText r u → NumberText n v → TermText (multiple r n) (u ++ (bytes " * " ++ v))
scaled_term {r} {n} {u} {v} s t =
    let e = sign-between u 42 v refl refl in
    record {
      plainly = rw (e, s.one_token, t.one_token) tt;
      factors = multiple r 1;
      factor = constant (pos n);
      comes_to = rw (one-mul n, zero-mul n);
      reads = λ total ls. rw (e, s.one_token, t.one_token, s.names, part-number true t, zero-add n);
    }

pub term_sum : {v : Value} {u : List ℕ} → TermText v u → SumText (λ total. plus total v) u
term_sum {v} {u} t =
    record {
      plainly = t.plainly;
      reads = λ total o ls. rw (run-append (tokens u) (sign 93 ∷ []), t.reads total (o ∷ ls), t.comes_to);
    }

pub plus-sum : {v : Value} {f : Value → Value} {u w : List ℕ} → TermText v u → SumText f w → SumText (λ total. f (plus total v)) (u ++ (bytes " + " ++ w))
plus-sum {v} {f} {u} {w} s t =
    let e = sign-between u 43 w refl refl in
    record {
      plainly = rw e (plain-append (tokens u) (sign 43 ∷ tokens w) s.plainly t.plainly);
      reads = λ total o ls.
          rw (e, append_assoc (tokens u) (sign 43 ∷ tokens w) (sign 93 ∷ []), run-append (tokens u) (sign 43 ∷ tokens w ++ (sign 93 ∷ [])), s.reads total (o ∷ ls), s.comes_to, t.reads (plus total v) o ls);
    }

pub minus_sum : {v : Value} {n : ℕ} {u w : List ℕ} → TermText v u → NumberText n w
    → SumText (λ total. plus (plus total v) (constant (neg_ℤ (pos n)))) (u ++ (bytes " - " ++ w))
minus_sum {v} {n} {u} {w} s t =
    let e = sign-between u 45 w refl refl in
    record {
      plainly = rw e (plain-append (tokens u) (sign 45 ∷ tokens w) s.plainly (number_term t).plainly);
      reads = λ total o ls.
          rw (
            e,
            append_assoc (tokens u) (sign 45 ∷ tokens w) (sign 93 ∷ []),
            run-append (tokens u) (sign 45 ∷ tokens w ++ (sign 93 ∷ [])),
            s.reads total (o ∷ ls),
            s.comes_to,
            t.one_token,
            part-number true t,
            zero-add n,
            mul-one n,
          );
    }

-- ---- Whole expressions

-- one part alone is the value
lone_part : (v : Value) → settled (has (with v (level 0 false zero one)) []) ≡ some v
lone_part v =
    ap (λ w. Option.map (plus zero) (product one w)) (plus-zero v)
    ∙ ap (Option.map (plus zero)) (product_one v)
    ∙ ap {B = Option Value} some (plus-zero v)

-- a sum in brackets
pub bracket_value : {f : Value → Value} {u : List ℕ} → SumText f u
    → expression (sign 91 ∷ tokens u ++ (sign 93 ∷ [])) ≡ some (mark true (f zero))
unfolding expression
bracket_value {f} {u} t =
    rw (t.reads zero (level 0 false zero one) []) (lone_part (mark true (f zero)))

pub number-value : {n : ℕ} {u : List ℕ} → NumberText n u → expression (tokens u) ≡ some (constant (pos n))
unfolding expression
number-value {n} t = rw (t.one_token, part-number false t) (lone_part (constant (pos n)))

-- `$`, a sign and a number
pub dollar-value : {n : ℕ} {u : List ℕ} (minus : Bool) → NumberText n u
    → expression (word (bytes "$") ∷ sign (cond minus 45 43) ∷ tokens u) ≡ some (plus dollar (constant (cond minus (neg_ℤ (pos n)) (pos n))))
unfolding expression numeral
dollar-value {n} true t = rw (t.one_token, part-number false t, zero-add n, mul-one n)
dollar-value {n} false t = rw (t.one_token, part-number false t, zero-add n, mul-one n, zero-add n)
