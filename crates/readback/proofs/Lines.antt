-- MASM's reader takes from the text of every sound line what the line shows.
-- Assumes nothing.
use mathlib.Core.Path.{◌≡◌, refl}
use mathlib.Core.Bool.{Bool, true, false, not, ◌||◌, false≢true}
use mathlib.Core.List.{List, [], ◌∷◌, ◌++◌, append_assoc, append-nil}
use Prim.Native.Nat.{ℕ}
use Rattle.text.specs.Choice.{when}
use Rattle.text.specs.Words.{bytes}
use Rattle.operands.specs.declared.Shown.{Shown}
use Rattle.operands.specs.declared.Shown.TheVariants.{Nothing, Name, St, Number, Word, Dword, Bracket, Branch, Target}
use Rattle.operands.specs.declared.Tail.{Tail}
use Rattle.operands.specs.declared.Tail.TheVariants as tail
use Rattle.operands.specs.declared.Item.{Item}
use Rattle.operands.specs.declared.Items.{Items}
use Rattle.lines.specs.Items.{item_text}
use Rattle.lines.specs.Text.{reps_text, prefixes_text, name_text, head_text, shows as is_shown, parted_text, items_text, tail_word, line_text}
use Rattle.lines.specs.declared.Head.{Head}
use Rattle.lines.specs.declared.Line.{Line}
use Rattle.bodies.proofs.Picks.{neither_left, neither_right, both_left, both_right}
use Rattle.masm.specs.Operands.{Operand}
use Rattle.masm.specs.Lines.{Prefix, Line as Read, shows, read}
use Rattle.masm.proofs.Texts.{OperandText, OperandsText, one-operand, more_operands, MnemonicText, PrefixText, LineText, bare-line, tailed_line, prefixed-line, line_read}
use Rattle.readback.specs.Meaning.{shown_if, item_of, tail_of, meaning}
use Rattle.readback.proofs.Sound.{SoundItem, Sound, is_missing, lacks_label, is_nothing, from_the_left}
use Rattle.readback.proofs.Names.{xacquire, xrelease, lock, rep, repne, mnemonic_name, tail_shown}
use Rattle.readback.proofs.Operands.{item-read}

-- ---- Operands

-- the text is nothing, or operands after a comma
data After (start : ℕ) : List Operand → List ℕ → Type 0 where
  no_more : After start [] []
  some_more : {os : List Operand} {u : List ℕ} → OperandsText start os u → After start os (bytes ", " ++ u)

joined : {start : ℕ} {o : Operand} {os : List Operand} {u v : List ℕ} → OperandText start o u → After start os v → OperandsText start (o ∷ os) (u ++ v)
joined t no_more = rw append-nil (one-operand t)
joined t (some_more s) = more_operands t s

-- what shows nothing adds neither an operand nor a text
shows_something : (x : Shown) → is_shown x ≡ not (is_nothing x)
shows_something Nothing = refl
shows_something (Name reg) = refl
shows_something St = refl
shows_something (Number value) = refl
shows_something (Word address) = refl
shows_something (Dword address) = refl
shows_something (Bracket address) = refl
shows_something (Branch word minus size) = refl
shows_something (Target word target) = refl

is_nothing_lem : (x : Shown) → is_nothing x ≡ true → x ≡ Nothing
is_nothing_lem Nothing e = refl
is_nothing_lem (Name reg) e = absurd (false≢true e)
is_nothing_lem St e = absurd (false≢true e)
is_nothing_lem (Number value) e = absurd (false≢true e)
is_nothing_lem (Word address) e = absurd (false≢true e)
is_nothing_lem (Dword address) e = absurd (false≢true e)
is_nothing_lem (Bracket address) e = absurd (false≢true e)
is_nothing_lem (Branch word minus size) e = absurd (false≢true e)
is_nothing_lem (Target word target) e = absurd (false≢true e)

module _ (start : ℕ) (x : Item) where
  no_text : is_nothing x.shown ≡ true → (separator : List ℕ) → parted_text separator x ≡ []
  unfolding parted_text
  no_text e separator = rw (shows_something x.shown, e)

  no_operand : is_nothing x.shown ≡ true → item_of start x ≡ []
  no_operand e = rw (is_nothing_lem x.shown e)

  some_text : is_shown x.shown ≡ true → (separator : List ℕ) → parted_text separator x ≡ separator ++ item_text x
  unfolding parted_text
  some_text e separator = rw e

  -- one more operand after a comma, if it is shown
  module _ {k : Bool} (i : SoundItem k x) (known : is_missing x.label ≡ false) where
    one_more : {os : List Operand} {u : List ℕ} → After start os u → After start (item_of start x ++ os) (parted_text (bytes ", ") x ++ u)
    one_more {os} {u} s = go (is_nothing x.shown) refl
      where
        go : (b : Bool) → is_nothing x.shown ≡ b → After start (item_of start x ++ os) (parted_text (bytes ", ") x ++ u)
        go true e = rw (no_operand e, no_text e (bytes ", ")) s
        go false e =
            let r = item-read start x i known e in
            rw (r.one, some_text r.is_shown_lem (bytes ", "), append_assoc) (some_more (joined r.text s))

-- ---- Operands after a mnemonic

pub implied : (p q : Bool) → (not p || q) ≡ true → p ≡ true → q ≡ true
implied true q h e = h
implied false q h e = absurd (false≢true e)

module _ {k : Bool} (start : ℕ) (x : Items) (a : SoundItem k x.a) (b : SoundItem k x.b) (c : SoundItem k x.c) (d : SoundItem k x.d)
    (labels : lacks_label x ≡ false) (ordered : from_the_left x ≡ true) where
  abbrev shown_operands : List Operand
  shown_operands = item_of start x.a ++ (item_of start x.b ++ (item_of start x.c ++ item_of start x.d))

  -- the operands after the first
  after_first :
      After start (item_of start x.b ++ (item_of start x.c ++ item_of start x.d))
      (parted_text (bytes ", ") x.b ++ (parted_text (bytes ", ") x.c ++ parted_text (bytes ", ") x.d))
  after_first =
      let last = one_more start x.d d (search (neither_left, neither_right, labels)) no_more in
      one_more start x.b b (search (neither_left, neither_right, labels))
      (one_more start x.c c (search (neither_left, neither_right, labels))
      (rw (append-nil (item_of start x.d), append-nil (parted_text (bytes ", ") x.d)) at last))

  -- and the tail, which stands after an operand
  module _ (end : Tail) (ended : is_nothing x.a.shown ≡ true → end ≡ tail.None) {m u : List ℕ} (t : MnemonicText m u) where
    abbrev Shown_line : Type 0
    Shown_line = LineText start (record { prefixes = []; mnemonic = m; operands = shown_operands; tail = tail_of end }) (u ++ (items_text x ++ tail_word end))

    nothing_shown : is_nothing x.a.shown ≡ true → Shown_line
    unfolding items_text tail_word
    nothing_shown e =
        let f = implied (is_nothing x.a.shown) (is_nothing x.b.shown) (search (both_left, both_right, ordered)) e in
        let g = implied (is_nothing x.b.shown) (is_nothing x.c.shown) (search (both_left, both_right, ordered)) f in
        let h = implied (is_nothing x.c.shown) (is_nothing x.d.shown) (search (both_left, both_right, ordered)) g in
        rw (
          ended e,
          no_operand start x.a e,
          no_operand start x.b f,
          no_operand start x.c g,
          no_operand start x.d h,
          no_text start x.a e (bytes " "),
          no_text start x.b f (bytes ", "),
          no_text start x.c g (bytes ", "),
          no_text start x.d h (bytes ", "),
          append-nil,
        )
        (bare-line t)

    something_shown : is_nothing x.a.shown ≡ false → Shown_line
    unfolding items_text
    something_shown e =
        let r = item-read start x.a a (search (neither_left, neither_right, labels)) e in
        rw (r.one, some_text start x.a r.is_shown_lem (bytes " ")) (tailed_line t (joined r.text after_first) (tail_shown end))

    operands_line : Shown_line
    operands_line =
        elim (is_nothing x.a.shown) as (λ b. is_nothing x.a.shown ≡ b → Shown_line) [ true ↦ nothing_shown | false ↦ something_shown ] refl

-- ---- Prefix words

prefix_line : {start : ℕ} {p : Prefix} {t u : List ℕ} {l : Read} (b : Bool) → PrefixText p t → LineText start l u
    → LineText start (record { prefixes = shown_if b p l.prefixes; mnemonic = l.mnemonic; operands = l.operands; tail = l.tail }) (when b t ++ u)
prefix_line true s k = prefixed-line s k
prefix_line false s k = k

line-parts : (h : Head) (t : List ℕ)
    → head_text h ++ t
    ≡ when h.xacquire (bytes "xacquire ") ++ (when h.xrelease (bytes "xrelease ") ++ (when h.lock (bytes "lock ") ++ (when h.rep (bytes "rep ")
    ++ (when h.repne (bytes "repne ") ++ ((name_text h.name ++ when h.suffix (bytes "d")) ++ t)))))
unfolding head_text prefixes_text reps_text
line-parts h t = simp append_assoc

-- ---- The theorem

pub sound_line : {k : Bool} (start : ℕ) (l : Line) → Sound k l → LineText start (meaning start l) (line_text l)
unfolding meaning line_text
sound_line start l s =
    rw (line-parts l.head (items_text l.items ++ tail_word l.tail))
    (prefix_line l.head.xacquire xacquire
    (prefix_line l.head.xrelease xrelease
    (prefix_line l.head.lock lock
    (prefix_line l.head.rep rep
    (prefix_line l.head.repne repne
    (operands_line start l.items s.a s.b s.c s.d s.labels s.ordered l.tail s.ended
    (mnemonic_name l.head.name l.head.suffix s.name)))))))

-- Of every sound line, wherever its instruction starts, the reader yields exactly what the line shows.
pub reads : {k : Bool} (start : ℕ) (l : Line) → Sound k l → read start (line_text l) ≡ shows (meaning start l)
reads start l s = line_read (sound_line start l s)
