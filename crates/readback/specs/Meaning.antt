-- What a line shows, in the values of MASM's reader, from the line alone and never from its text.
-- Assumes nothing.
use Rattle.std.specs.Prelude.{Bool, true, false, cond, ◌&&◌, List, [], ◌∷◌, ◌++◌, ℕ, ◌+◌, ◌%◌, ◌^◌, ltb, eqb, ℤ, pos, neg_ℤ, ◌+ℤ◌}
use Rattle.std.proofs.Math.Option.{Option, none, some}
use Rattle.text.specs.Choice.{when}
use Rattle.text.specs.Words.{bytes}
use Rattle.names.specs.Opcodes.{mnemonic}
use Rattle.operands.specs.declared.Address.{Address}
use Rattle.operands.specs.declared.Label.{Label}
use Rattle.operands.specs.declared.Label.TheVariants as label
use Rattle.operands.specs.declared.BranchWord.{BranchWord}
use Rattle.operands.specs.declared.BranchWord.TheVariants as word
use Rattle.operands.specs.declared.Shown.{Shown}
use Rattle.operands.specs.declared.Shown.TheVariants.{Nothing, Name, St, Number, Word, Dword, Bracket, Branch, Target}
use Rattle.std.specs.Prelude.{Option as Optional, Some, None}
use Rattle.operands.specs.declared.Tail.{Tail}
use Rattle.operands.specs.declared.Tail.TheVariants as tail
use Rattle.operands.specs.declared.Item.{Item}
use Rattle.operands.specs.RegisterBytes.{st0}
use Rattle.branches.specs.Sums.{modulo}
use Rattle.lines.specs.declared.Head.{Head}
use Rattle.lines.specs.declared.Line.{Line}
use Rattle.lines.specs.declared.Name.{Name as Mnemonic}
use Rattle.lines.specs.declared.Name.TheVariants.{Opcode, Feni, Fdisi, Fsetpm}
use Rattle.masm.specs.Operands as masm
use Rattle.masm.specs.Expressions.{Register}
use Rattle.masm.specs.Operands.{Operand, Width, register, immediate, plain, branch, address}
use Rattle.masm.specs.Lines as lines
use Rattle.masm.specs.Lines.{Line as Read, Prefix, Xacquire, Xrelease, Lock, Rep, Repne}

-- ---- The head

-- what stands in a list where it is called for
abbrev pub shown_if : {A : Type 0} → Bool → A → List A → List A
shown_if true x xs = x ∷ xs
shown_if false x xs = xs

-- the prefix words, in the printed order
abbrev pub prefixes_of : Head → List Prefix
prefixes_of h =
    shown_if h.xacquire Xacquire (shown_if h.xrelease Xrelease (shown_if h.lock Lock (shown_if h.rep Rep (shown_if h.repne Repne []))))

-- the letters of the mnemonic: the opcode's name, or one of three words of their own
abbrev pub name_of : Mnemonic → List ℕ
name_of (Opcode opcode) = mnemonic opcode
name_of Feni = bytes "feni"
name_of Fdisi = bytes "fdisi"
name_of Fsetpm = bytes "fsetpm"

-- and a `d` after them where the line has it
abbrev pub mnemonic_of : Head → List ℕ
mnemonic_of h = name_of h.name ++ when h.suffix (bytes "d")

-- ---- Numbers

-- an integer by its sign and its size
abbrev pub by_sign : (minus : Bool) → ℕ → ℤ
by_sign minus size = cond minus (neg_ℤ (pos size)) (pos size)

-- ---- Operands

-- a label as the reader names it; `Missing` stands in no line that is printed
abbrev pub label_of : Label → Option masm.Label
label_of label.None = none
label_of label.Byte = some masm.Byte
label_of label.Word = some masm.Word
label_of label.Dword = some masm.Dword
label_of label.Qword = some masm.Qword
label_of label.Xmmword = some masm.Xmmword
label_of label.Ymmword = some masm.Ymmword
label_of label.Zmmword = some masm.Zmmword
label_of label.Mmword = some masm.Mmword
label_of label.Fword = some masm.Fword
label_of label.Tbyte = some masm.Tbyte
label_of label.Missing = none

-- how many bits the word before `$`, or before a target, gives the distance
abbrev pub width_of : BranchWord → Option Width
width_of word.None = none
width_of word.Short = some 8
width_of word.Near = some 32

-- segments 1 to 6 are es cs ss ds fs gs, the registers from 24 on
abbrev pub segment_of : ℕ → Option Register
segment_of s = cond (ltb 0 s) (some (23 + s)) none

-- the mask after a bracket, by its register, where there is one
abbrev pub mask_of : ℕ → Option Register
mask_of mask = cond (ltb 0 mask) (some mask) none

-- N of `{1toN}`
abbrev pub copies_of : Optional ℕ → Option ℕ
copies_of None = none
copies_of (Some n) = some n

-- the word at the end of a line
abbrev pub tail_of : Tail → Option lines.Tail
tail_of tail.None = none
tail_of tail.Sae = some lines.Sae
tail_of tail.Nearest = some lines.Nearest
tail_of tail.Down = some lines.Down
tail_of tail.Up = some lines.Up
tail_of tail.Zero = some lines.Zero

-- how many times a bracket counts a register: the base once, the index as often as the scale says
abbrev pub times_of : Address → Register → ℕ
times_of a r = cond (a.based && eqb r a.base) 1 0 + cond (a.indexed && eqb r a.index) a.scale 0

-- what a bracket adds to its registers; without a displacement that is 0
abbrev pub added_of : Address → ℤ
added_of a = cond a.displaced a.disp (pos 0)

-- what an operand of a line shows, or nothing: a register by its byte (`st` is st(0)), an immediate, an address, a branch to the sum of
-- the start and the signed number after `$`, or a target, which is a plain number and owes nothing to the start. An absolute is an address
-- that counts no register. A mask and a broadcast are an address's.
abbrev pub operand_of : (start : ℕ) (label : Label) (segment mask : ℕ) → Optional ℕ → Shown → List Operand
operand_of start label segment mask b Nothing = []
operand_of start label segment mask b (Name reg) = register reg ∷ []
operand_of start label segment mask b St = register st0 ∷ []
operand_of start label segment mask b (Number value) = immediate (value % 2 ^ 32) ∷ []
operand_of start label segment mask b (Word value) = address (label_of label) (segment_of segment) (λ r. 0) (value % 2 ^ 32) (mask_of mask) (copies_of b) ∷ []
operand_of start label segment mask b (Dword value) = address (label_of label) (segment_of segment) (λ r. 0) (value % 2 ^ 32) (mask_of mask) (copies_of b) ∷ []
operand_of start label segment mask b (Bracket a) = address (label_of label) (segment_of segment) (times_of a) (modulo (added_of a)) (mask_of mask) (copies_of b) ∷ []
operand_of start label segment mask b (Branch word minus size) = branch (width_of word) (modulo (pos start +ℤ by_sign minus size)) ∷ []
operand_of start label segment mask b (Target word target) = plain (width_of word) (target % 2 ^ 32) ∷ []

-- an operand of a line with its label, segment, mask and broadcast
abbrev pub item_of : (start : ℕ) → Item → List Operand
item_of start x = operand_of start x.label x.segment x.mask x.broadcast x.shown

-- ---- The line

-- what a line shows, where its instruction starts at the address `start`
unfoldable pub meaning : (start : ℕ) → Line → Read
meaning start l =
    record {
      prefixes = prefixes_of l.head;
      mnemonic = mnemonic_of l.head;
      operands = item_of start l.items.a ++ (item_of start l.items.b ++ (item_of start l.items.c ++ item_of start l.items.d));
      tail = tail_of l.tail;
    }
