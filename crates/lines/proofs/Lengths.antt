-- The lengths of the parts of a line's text.
-- Assumes nothing.
use mathlib.Core.Path.{◌≡◌, ap, ◌∙◌}
use mathlib.Core.Bool.{cond}
use mathlib.Core.List.{List, ◌++◌}
use Prim.Native.Nat.{ℕ, ◌+◌}
use native.Mathlib.Omega.{arith}
use lib.ListN.{length, length-append}
use Rattle.text.specs.Choice.{when}
use Rattle.text.specs.Words.{bytes}
use Rattle.text.proofs.Choosing.{length-when}
use Rattle.operands.specs.declared.Item.{Item}
use Rattle.operands.specs.declared.Items.{Items}
use Rattle.lines.specs.Items.{item_text}
use Rattle.lines.specs.declared.Head.{Head}
use Rattle.lines.specs.declared.Line.{Line}
use Rattle.lines.specs.Text.{reps_text, prefixes_text, name_text, head_text, shows, parted_text, items_text, tail_word, line_text}

pub prefixes_length : (h : Head) → length (prefixes_text h) ≡ cond h.xacquire 9 0 + cond h.xrelease 9 0 + cond h.lock 5 0 + cond h.rep 4 0 + cond h.repne 6 0
unfolding prefixes_text reps_text
prefixes_length h =
    let xacquire = when h.xacquire (bytes "xacquire ") in
    let xrelease = when h.xrelease (bytes "xrelease ") in
    let lock = when h.lock (bytes "lock ") in
    let rep = when h.rep (bytes "rep ") in
    let repne = when h.repne (bytes "repne ") in
    omega (
      arith,
      length-append xacquire (xrelease ++ (lock ++ (rep ++ repne))),
      length-append xrelease (lock ++ (rep ++ repne)),
      length-append lock (rep ++ repne),
      length-append rep repne,
      length-when h.xacquire (bytes "xacquire "),
      length-when h.xrelease (bytes "xrelease "),
      length-when h.lock (bytes "lock "),
      length-when h.rep (bytes "rep "),
      length-when h.repne (bytes "repne "),
    )

pub head_length : (h : Head) → length (head_text h) ≡ length (prefixes_text h) + length (name_text h.name) + cond h.suffix 1 0
unfolding head_text
head_length h =
    omega (
      arith,
      length-append (prefixes_text h) (name_text h.name ++ when h.suffix (bytes "d")),
      length-append (name_text h.name) (when h.suffix (bytes "d")),
      length-when h.suffix (bytes "d"),
    )

pub parted-length : (s : List ℕ) (i : Item) → length (parted_text s i) ≡ cond (shows i.shown) (length s + length (item_text i)) 0
unfolding parted_text
parted-length s i =
    length-when (shows i.shown) (s ++ item_text i) ∙ ap (λ (n : ℕ). cond (shows i.shown) n 0) (length-append s (item_text i))

pub items_length : (is : Items) → length (items_text is) ≡ length (parted_text (bytes " ") is.a) + length (parted_text (bytes ", ") is.b) + length (parted_text (bytes ", ") is.c) + length (parted_text (bytes ", ") is.d)
unfolding items_text
items_length is =
    let a = parted_text (bytes " ") is.a in
    let b = parted_text (bytes ", ") is.b in
    let c = parted_text (bytes ", ") is.c in
    let d = parted_text (bytes ", ") is.d in
    omega (arith, length-append a (b ++ (c ++ d)), length-append b (c ++ d), length-append c d)

pub line-length : (l : Line) → length (line_text l) ≡ length (head_text l.head) + length (items_text l.items) + length (tail_word l.tail)
unfolding line_text
line-length l =
    omega (
      arith,
      length-append (head_text l.head) (items_text l.items ++ tail_word l.tail),
      length-append (items_text l.items) (tail_word l.tail),
    )
