-- The text of what a line shows: prefix words, mnemonic and suffix, operands, tail.
-- Assumes nothing.
use Rattle.std.specs.Prelude.{Bool, true, false, List, [], ◌++◌, ℕ}
use Rattle.text.specs.Choice.{when}
use Rattle.text.specs.Words.{bytes}
use Rattle.names.specs.Opcodes.{mnemonic}
use Rattle.operands.specs.declared.Shown.{Shown}
use Rattle.operands.specs.declared.Shown.TheVariants.{Nothing, Name, St, Number, Word, Dword, Bracket, Branch, Target}
use Rattle.operands.specs.declared.Item.{Item}
use Rattle.operands.specs.declared.Items.{Items}
use Rattle.operands.specs.declared.Tail.{Tail}
use Rattle.operands.specs.declared.Tail.TheVariants as tail
use Rattle.lines.specs.Items.{item_text}
use Rattle.operands.specs.declared.Instruction.{Instruction}
use Rattle.branches.specs.declared.Mode.{Mode}
use Rattle.names.specs.declared.Arm.{Arm}
use Rattle.places.specs.declared.Plan.{Plan}
use Rattle.places.specs.Places.{items_at}
use Rattle.lines.specs.Head.{head_of}
use Rattle.lines.specs.declared.Head.{Head}
use Rattle.lines.specs.declared.Line.{Line}
use Rattle.lines.specs.declared.Name.{Name as Mnemonic}
use Rattle.lines.specs.declared.Name.TheVariants.{Opcode, Feni, Fdisi, Fsetpm}

-- the prefix words in the printed order, a blank after each
unfoldable pub reps_text : Head → List ℕ
reps_text h = when h.rep (bytes "rep ") ++ when h.repne (bytes "repne ")

unfoldable pub prefixes_text : Head → List ℕ
prefixes_text h =
    when h.xacquire (bytes "xacquire ") ++ (when h.xrelease (bytes "xrelease ") ++ (when h.lock (bytes "lock ") ++ reps_text h))

-- the name of an opcode, or one of the three words that are no opcode's name
unfoldable pub name_text : Mnemonic → List ℕ
name_text (Opcode opcode) = mnemonic opcode
name_text Feni = bytes "feni"
name_text Fdisi = bytes "fdisi"
name_text Fsetpm = bytes "fsetpm"

-- what stands before the operands
unfoldable pub head_text : Head → List ℕ
head_text h = prefixes_text h ++ (name_text h.name ++ when h.suffix (bytes "d"))

-- something is shown
abbrev pub shows : Shown → Bool
shows Nothing = false
shows (Name reg) = true
shows St = true
shows (Number value) = true
shows (Word address) = true
shows (Dword address) = true
shows (Bracket address) = true
shows (Branch word minus size) = true
shows (Target word target) = true

-- an operand that shows something, after what parts it from the text before
unfoldable pub parted_text : List ℕ → Item → List ℕ
parted_text separator i = when (shows i.shown) (separator ++ item_text i)

-- the operands, the first after a blank and the others after ", "
unfoldable pub items_text : Items → List ℕ
items_text is =
    parted_text (bytes " ") is.a
    ++ (parted_text (bytes ", ") is.b ++ (parted_text (bytes ", ") is.c ++ parted_text (bytes ", ") is.d))

-- document 02's tail after the operands, a blank before it: `{sae}`, or "the Intel manual's rounding word"
unfoldable pub tail_word : Tail → List ℕ
tail_word tail.None = []
tail_word tail.Sae = bytes " {sae}"
tail_word tail.Nearest = bytes " {rn-sae}"
tail_word tail.Down = bytes " {rd-sae}"
tail_word tail.Up = bytes " {ru-sae}"
tail_word tail.Zero = bytes " {rz-sae}"

-- `vaddpd zmm1, zmm2, qword ptr [ebx]{k1}{1to8}`, `vaddpd zmm1, zmm2, zmm3 {rn-sae}`
unfoldable pub line_text : Line → List ℕ
line_text l = head_text l.head ++ (items_text l.items ++ tail_word l.tail)

-- what the line of a plan shows: its head by the arm, opcode and flags, its operands by the places, and the plan's tail
abbrev pub line_by : Mode → Arm → Plan → Instruction → Line
line_by mode arm plan i =
    record { head = head_of arm i.opcode i.flags; items = items_at mode arm i plan; tail = plan.tail }

-- the longest line: document 02's "A line may have 320 bytes"
abbrev pub longest_line : ℕ
longest_line = 320
