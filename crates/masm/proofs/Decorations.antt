-- What stands in braces after an operand or at the end of a line, where the text is put together from parts: masks, broadcasts and tails,
-- each perhaps not there.
use mathlib.Core.Path.{◌≡◌, refl, ap, sym, ◌∙◌}
use mathlib.Core.Bool.{Bool, true, false, cond, not, ◌&&◌, ◌||◌}
use mathlib.Core.List.{List, [], ◌∷◌, ◌++◌, map, append-nil}
use mathlib.Core.Option
use mathlib.Core.Option.{Option, none, some}
use Prim.Native.Nat.{ℕ, zero, suc, ◌+◌, ◌<◌}
use native.Mathlib.Omega.{arith}
use lib.Dec.{T, T_not, not_T, eqb, eqb→eq}
use lib.Ieee.Bits.{is_false}
use Rattle.masm.specs.Tokens.{bytes, is_word, small, Token, word, sign, tokens, same_list, same_token, lengthen, parts, at_brace, Table, lookup, front, back, is_said, each, ◌>>=◌}
use Rattle.masm.specs.Expressions.{decimal, Register}
use Rattle.masm.specs.Operands.{Label, Operand, address, operand, masks, copies, broadcast, decorate, decorated}
use Rattle.masm.specs.Lines.{Tail, Sae, Nearest, Down, Up, Zero, tails, operands_of}
use Rattle.masm.proofs.Tokens.{both, pair, Follows, follows_nothing, follows_apart, free, whole, quiet, all, tokens_append, blank-between, one_word}

-- ---- The first brace

-- nothing, or tokens that begin with `{`
pub data Braced : List Token → Type 0 where
  nothing : Braced []
  brace : (ts : List Token) → Braced (sign 123 ∷ ts)

-- an operand's tokens hold no brace, and what follows begins with one
pub at_brace-append : (ts : List Token) {us : List Token} → T (free 123 ts) → Braced us → at_brace (ts ++ us) ≡ (ts, us)
at_brace-append [] h nothing = refl
at_brace-append [] h (brace us) = refl
at_brace-append (t ∷ ts) h b =
    let (a, k) = both (not (same_token t (sign 123))) (free 123 ts) h in
    rw (is_false (same_token t (sign 123)) a, at_brace-append ts k b)

-- ---- Operands

never : (b : Bool) → (b && false) ≡ false
never true = refl
never false = refl

bind_some : {A : Type 0} (x : Option A) → (x >>= some) ≡ x
bind_some none = refl
bind_some (some a) = refl

-- an operand with a mask or a broadcast after it, or with neither
abbrev pub completed : Option Register → Option ℕ → Operand → Option Operand
completed m n o = cond (is_said m || is_said n) (decorate m n o) (some o)

pub decorated-append : (start : ℕ) (ts : List Token) {us vs : List Token} {m : Option Register} {n : Option ℕ} → T (free 123 ts) → Braced us
    → front masks us ≡ (m, vs) → broadcast vs ≡ (n, []) → decorated start (ts ++ us) ≡ (operand start ts >>= completed m n)
decorated-append start ts h b e f = rw (at_brace-append ts h b, e, f)

-- Without a brace nothing stands after an operand.
pub decorated-bare : (start : ℕ) (ts : List Token) → T (free 123 ts) → decorated start ts ≡ operand start ts
unfolding masks
decorated-bare start ts h =
    ap (decorated start) (sym (append-nil ts)) ∙ decorated-append start ts h nothing refl refl ∙ bind_some (operand start ts)

pub completed_address : {l : Option Label} {s : Option Register} {times : Register → ℕ} {d : ℕ} (m : Option Register) (n : Option ℕ)
    → completed m n (address l s times d none none) ≡ some (address l s times d m n)
completed_address none none = refl
completed_address none (some n) = refl
completed_address (some k) none = refl
completed_address (some k) (some n) = refl

-- ---- The end of a line

-- a brace, and then neither a brace nor a comma
abbrev one_brace : List Token → Bool
one_brace [] = false
one_brace (t ∷ ts) = same_token t (sign 123) && (free 123 ts && free 44 (t ∷ ts))

abbrev all_one_brace : {A : Type 0} → Table A → Bool
all_one_brace [] = true
all_one_brace (e ∷ es) = one_brace e.0 && all_one_brace es

tails_braced : T (all_one_brace tails)
unfolding tails
tails_braced = tt

-- such a name is not `ts`
abbrev Unnamed : List Token → Type 0
Unnamed ts = (ns : List Token) → T (one_brace ns) → same_list same_token ns ts ≡ false

unknown : {A : Type 0} (ts : List Token) → Unnamed ts → (es : Table A) → T (all_one_brace es) → lookup es ts ≡ none
unknown ts f [] h = refl
unknown ts f (e ∷ es) h = let (a, b) = both (one_brace e.0) (all_one_brace es) h in rw (f e.0 a) (unknown ts f es b)

-- tokens without the sign `c` are not tokens with it
differs : (c : ℕ) (ns ts us : List Token) → T (free c ns) → same_list same_token ns (ts ++ sign c ∷ us) ≡ false
differs c [] [] us h = refl
differs c [] (t ∷ ts) us h = refl
differs c (n ∷ ns) [] us h = rw (is_false (same_token n (sign c)) (both (not (same_token n (sign c))) (free c ns) h).0)
differs c (n ∷ ns) (t ∷ ts) us h = rw (differs c ns ts us (both (not (same_token n (sign c))) (free c ns) h).1) (never (same_token n t))

brace_inside : (t : Token) (ts us : List Token) → Unnamed (t ∷ ts ++ sign 123 ∷ us)
brace_inside t ts us [] h = refl
brace_inside t ts us (n ∷ ns) h =
    let (a, b) = both (same_token n (sign 123)) (free 123 ns && free 44 (n ∷ ns)) h in
    rw (differs 123 ns ts us (both (free 123 ns) (free 44 (n ∷ ns)) b).0) (never (same_token n t))

comma_inside : (ts us : List Token) → Unnamed (ts ++ sign 44 ∷ us)
comma_inside ts us [] h = absurd h
comma_inside ts us (n ∷ ns) h =
    let (a, b) = both (same_token n (sign 123)) (free 123 ns && free 44 (n ∷ ns)) h in
    differs 44 (n ∷ ns) ts us (both (free 123 ns) (free 44 (n ∷ ns)) b).1

no_brace_first : (t : Token) (ts : List Token) → T (not (same_token t (sign 123))) → Unnamed (t ∷ ts)
no_brace_first t ts k [] h = refl
no_brace_first t ts k (n ∷ ns) h = rw (other n t (both (same_token n (sign 123)) (free 123 ns && free 44 (n ∷ ns)) h).0 k)
  where
    other : (n t : Token) → T (same_token n (sign 123)) → T (not (same_token t (sign 123))) → same_token n t ≡ false
    other (word w) t e k = absurd e
    other (sign c) (word w) e k = refl
    other (sign c) (sign d) e k = is_false (eqb c d) (not_T (eqb c d) (λ f. T_not (eqb d 123) k (rw (eqb→eq c d f) at e)))

module _ (t : Token) (ts : List Token) (h : Unnamed (t ∷ ts)) where
  back_later : back tails (t ∷ ts) ≡ ((back tails ts).0, t ∷ (back tails ts).1)
  back_later = rw (unknown (t ∷ ts) h tails tails_braced, back)

-- Without a brace there is no tail.
pub back-bare : (ts : List Token) → T (free 123 ts) → back tails ts ≡ (none, ts)
back-bare [] h = refl
back-bare (t ∷ ts) h =
    let (a, b) = both (not (same_token t (sign 123))) (free 123 ts) h in
    rw (back_later t ts (no_brace_first t ts a), back-bare ts b)

-- The tail of a text is that of what stands from a brace on, and of what stands after a comma.
pub back_brace : (ts us : List Token) → back tails (ts ++ sign 123 ∷ us) ≡ ((back tails (sign 123 ∷ us)).0, ts ++ (back tails (sign 123 ∷ us)).1)
back_brace [] us = refl
back_brace (t ∷ ts) us = rw (back_later t (ts ++ sign 123 ∷ us) (brace_inside t ts us), back_brace ts us)

pub back_comma : (ts us : List Token) → back tails (ts ++ sign 44 ∷ us) ≡ ((back tails us).0, ts ++ sign 44 ∷ (back tails us).1)
back_comma [] us = back_later (sign 44) us (comma_inside [] us)
back_comma (t ∷ ts) us = rw (back_later t (ts ++ sign 44 ∷ us) (comma_inside (t ∷ ts) us), back_comma ts us)

-- an operand's tokens before decorations that are no tail
pub back-append : (ts : List Token) {us : List Token} → T (free 123 ts) → Braced us → back tails us ≡ (none, us) → back tails (ts ++ us) ≡ (none, ts ++ us)
back-append ts h nothing e = rw append-nil (back-bare ts h)
back-append ts h (brace us) e = back_brace ts us ∙ rw e

-- ---- Lines without a brace

abbrev all_free : ℕ → List (List Token) → Bool
all_free c [] = true
all_free c (p ∷ ps) = free c p && all_free c ps

free-parts : (c : ℕ) (ts : List Token) → T (free c ts) → T (all_free c (parts ts))
free-parts c [] h = tt
free-parts c (t ∷ ts) h =
    let (a, b) = both (not (same_token t (sign c))) (free c ts) h in
    go (same_token t (sign 44)) (parts ts) a (free-parts c ts b)
  where
    go : (comma : Bool) (ps : List (List Token)) → T (not (same_token t (sign c))) → T (all_free c ps) → T (all_free c (cond comma ([] ∷ ps) (lengthen t ps)))
    go true ps a k = k
    go false [] a k = pair (not (same_token t (sign c)) && true) true (pair (not (same_token t (sign c))) true a tt) tt
    go false (p ∷ ps) a k =
        let (x, y) = both (free c p) (all_free c ps) k in
        pair (not (same_token t (sign c)) && free c p) (all_free c ps) (pair (not (same_token t (sign c))) (free c p) a x) y

each_bare : (start : ℕ) (ps : List (List Token)) → T (all_free 123 ps) → each (decorated start) ps ≡ each (operand start) ps
each_bare start [] h = refl
each_bare start (p ∷ ps) h =
    let (a, b) = both (free 123 p) (all_free 123 ps) h in
    rw (decorated-bare start p a, each_bare start ps b)

-- Without a brace, what stands after a mnemonic is read as operands without decorations, and there is no tail.
pub operands_bare : (start : ℕ) (t : Token) (ts : List Token) → T (free 123 (t ∷ ts))
    → operands_of start (t ∷ ts) ≡ Option.map (λ os. (os, none)) (each (operand start) (parts (t ∷ ts)))
operands_bare start t ts h =
    rw (back-bare (t ∷ ts) h, each_bare start (parts (t ∷ ts)) (free-parts 123 (t ∷ ts) h))

-- ---- Masks and broadcasts

-- the text is `{1to16}` with some number, or nothing
pub record BroadcastText (n : Option ℕ) (y : List ℕ) : Type 0 where
  pub lead : List Token
  pub follows : Follows lead y
  pub braced : Braced lead
  pub wholly : T (whole lead)
  pub untailed : back tails lead ≡ (none, lead)
  pub unmasked : front masks lead ≡ (none, lead)
  pub reads : broadcast lead ≡ (n, [])

-- the text is `{k1}` with some number, or nothing
pub record MaskText (m : Option Register) (x : List ℕ) : Type 0 where
  pub lead : List Token
  pub follows : Follows lead x
  pub braced : {us : List Token} → Braced us → Braced (lead ++ us)
  pub wholly : T (whole lead)
  pub untailed : {us : List Token} → Braced us → back tails us ≡ (none, us) → back tails (lead ++ us) ≡ (none, lead ++ us)
  pub names : {n : Option ℕ} {y : List ℕ} (z : BroadcastText n y) → front masks (lead ++ z.lead) ≡ (m, z.lead)

pub no_broadcast : BroadcastText none []
unfolding masks
no_broadcast =
    record { lead = []; follows = follows_nothing; braced = nothing; wholly = tt; untailed = refl; unmasked = refl; reads = refl }

pub no_mask : MaskText none []
no_mask = record { lead = []; follows = follows_nothing; braced = λ b. b; wholly = tt; untailed = λ b e. e; names = λ z. z.unmasked }

-- a word in braces
abbrev pub in_braces : List ℕ → List Token
in_braces w = sign 123 ∷ word w ∷ sign 125 ∷ []

-- The last arguments are computed for a text that is given.
pub mask_text_lem : (w : List ℕ) {t : List ℕ} {r : Register} → tokens (123 ∷ t) ≡ in_braces w → back tails (in_braces w) ≡ (none, in_braces w)
    → ((ts : List Token) → front masks (in_braces w ++ ts) ≡ (some r, ts)) → MaskText (some r) (123 ∷ t)
mask_text_lem w {t} e k h =
    record {
      lead = in_braces w;
      follows = rw e at (follows_apart 123 t refl);
      braced = λ b. brace _;
      wholly = tt;
      untailed = last;
      names = λ z. h z.lead;
    }
  where
    last : {us : List Token} → Braced us → back tails us ≡ (none, us) → back tails (in_braces w ++ us) ≡ (none, in_braces w ++ us)
    last nothing f = k
    last (brace us) f = back_brace (in_braces w) us ∙ rw f

-- the mask register `k`, by its digit
pub mask_name : (k : ℕ) → k < 8 → MaskText (some (72 + k)) (bytes "{k" ++ ((48 + k) ∷ bytes "}"))
unfolding tokens masks tails
mask_name zero h = mask_text_lem (bytes "k0") refl refl (λ ts. refl)
mask_name (suc zero) h = mask_text_lem (bytes "k1") refl refl (λ ts. refl)
mask_name (suc (suc zero)) h = mask_text_lem (bytes "k2") refl refl (λ ts. refl)
mask_name (suc (suc (suc zero))) h = mask_text_lem (bytes "k3") refl refl (λ ts. refl)
mask_name (suc (suc (suc (suc zero)))) h = mask_text_lem (bytes "k4") refl refl (λ ts. refl)
mask_name (suc (suc (suc (suc (suc zero))))) h = mask_text_lem (bytes "k5") refl refl (λ ts. refl)
mask_name (suc (suc (suc (suc (suc (suc zero)))))) h = mask_text_lem (bytes "k6") refl refl (λ ts. refl)
mask_name (suc (suc (suc (suc (suc (suc (suc zero))))))) h = mask_text_lem (bytes "k7") refl refl (λ ts. refl)
mask_name (suc (suc (suc (suc (suc (suc (suc (suc k)))))))) h = absurd (omega arith)

-- the text is the digits of a number, and nothing else
pub record DecimalText (n : ℕ) (u : List ℕ) : Type 0 where
  pub word_letters : T (all is_word u)
  pub value : decimal (map small u) ≡ some n

broadcast_split : (u : List ℕ) → T (all is_word u) → tokens (bytes "{1to" ++ (u ++ bytes "}")) ≡ in_braces (bytes "1to" ++ map small u)
unfolding tokens
broadcast_split u h =
    tokens_append (bytes "{1to" ++ u) 125 [] refl
    ∙ ap (λ ts. sign 123 ∷ ts ++ tokens (bytes "}")) (one_word (λ c. true) (bytes "1to" ++ u) h tt)

-- `{1to`, the digits of a number, and `}`
pub broadcast_text_lem : {n : ℕ} {u : List ℕ} → DecimalText n u → BroadcastText (some n) (bytes "{1to" ++ (u ++ bytes "}"))
unfolding tails masks copies
broadcast_text_lem {n} {u} t =
    record {
      lead = in_braces (bytes "1to" ++ map small u);
      follows = rw (broadcast_split u t.word_letters) at (follows_apart 123 (bytes "1to" ++ (u ++ bytes "}")) refl);
      braced = brace _;
      wholly = tt;
      untailed = refl;
      unmasked = refl;
      reads = rw (t.value, broadcast);
    }

-- ---- Tails

-- the text is a blank and a tail, or nothing
pub record TailText (end : Option Tail) (t : List ℕ) : Type 0 where
  pub lead : List Token
  pub follows : Follows lead t
  pub quietly : T (quiet lead)
  pub reads : (ts : List Token) → back tails ts ≡ (none, ts) → back tails (ts ++ lead) ≡ (end, ts)

pub no_tail : TailText none []
no_tail = record { lead = []; follows = follows_nothing; quietly = tt; reads = λ ts e. rw append-nil e }

-- The last arguments are computed for a text that is given.
tail_text_lem : {t : List ℕ} {end : Tail} (us : List Token) → tokens t ≡ sign 123 ∷ us → T (quiet (sign 123 ∷ us)) → back tails (sign 123 ∷ us) ≡ (some end, [])
    → TailText (some end) (32 ∷ t)
tail_text_lem {t} us e q f =
    record {
      lead = sign 123 ∷ us;
      follows = λ v. blank-between v t ∙ ap (λ ts. tokens v ++ ts) e;
      quietly = q;
      reads = λ ts g. back_brace ts us ∙ rw (f, append-nil);
    }

pub sae_tail : TailText (some Sae) (bytes " {sae}")
unfolding tokens tails
sae_tail = tail_text_lem _ refl tt refl

pub nearest_tail : TailText (some Nearest) (bytes " {rn-sae}")
unfolding tokens tails
nearest_tail = tail_text_lem _ refl tt refl

pub down_tail : TailText (some Down) (bytes " {rd-sae}")
unfolding tokens tails
down_tail = tail_text_lem _ refl tt refl

pub up_tail : TailText (some Up) (bytes " {ru-sae}")
unfolding tokens tails
up_tail = tail_text_lem _ refl tt refl

pub zero_tail : TailText (some Zero) (bytes " {rz-sae}")
unfolding tokens tails
zero_tail = tail_text_lem _ refl tt refl
