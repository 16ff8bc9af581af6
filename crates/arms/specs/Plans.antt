-- What each arm of document 000's `contextualize` shows of a record, arm by arm in its order: the plan of its line. Which records
-- are refused is said elsewhere: for those the plan here is shown to no one.
-- Assumes nothing.
use Rattle.std.specs.Prelude.{Bool, true, false, cond, ◌&&◌, ℕ, eqb, Option}
use Rattle.std.specs.Prelude as option
use Rattle.operands.specs.declared.Operand.{Operand}
use Rattle.operands.specs.declared.Label.{Label}
use Rattle.operands.specs.declared.Label.TheVariants.{None, Dword, Qword, Fword}
use Rattle.operands.specs.declared.Tail.TheVariants as tail
use Rattle.operands.specs.declared.Instruction.{Instruction}
use Rattle.operands.specs.Kinds.{is_absent, is_register, is_register_r, is_memory}
use Rattle.operands.specs.RegisterBytes.{eax, ecx, edx, xmm0}
use Rattle.places.specs.declared.Segment.{Segment}
use Rattle.places.specs.declared.Segment.TheVariants.{Hidden, Shown as Own, UnlessDs}
use Rattle.places.specs.declared.Mask.TheVariants.{Itself, Second}
use Rattle.places.specs.declared.Place.{Place}
use Rattle.places.specs.declared.Place.TheVariants as place
use Rattle.places.specs.declared.Plan.{Plan}
use Rattle.names.specs.declared.Arm.{Arm}
use Rattle.names.specs.declared.Arm.TheVariants.{
  General,
  Qword,
  Mmword,
  Jmpf,
  Callf,
  Lds,
  Movs,
  Cmps,
  Singles,
  Doubles,
  Branch,
  Call,
  Xbegin,
  Feni,
  Fdisi,
  Fsetpm,
  Hreset,
  Lsl,
  Prefetch,
  Sgdt,
  Lss,
  Nop,
  ScatterDword,
  ScatterQword,
  Monitor,
  Mwait,
  Invlpgb,
  Rdpru,
  Scas,
  Lods,
  Psmash,
  Pvalidate,
  Incssp,
  Wrss,
  Pblendvb,
  Lea,
  Pushf,
  Aam,
  Fcom,
  Fadd,
  Fbld,
  Fbstp,
}
use Rattle.arms.specs.Tests.{is_branch, is_xbegin, lsl_source, has_vector}
use Rattle.arms.specs.Labels.{size_label, general_label, lss_label, tbyte_label}
use Rattle.arms.specs.Size.{general_path}
use Rattle.arms.specs.Decorations.{broadcast_after, tail_of}

-- ---- Places

-- an operand by itself, memory with neither label nor segment
abbrev pub plain : ℕ → Place
plain k = place.Operand k None Hidden false Itself option.None

-- an operand with this label where it is memory, and its segment as the arm shows it
abbrev pub labelled : Label → Segment → ℕ → Place
labelled label segment k = place.Operand k label segment false Itself option.None

-- an operand by itself, but `st` for st(0)
abbrev pub st : ℕ → Place
st k = place.Operand k None Hidden true Itself option.None

-- operand 0 of VPSCATTER, with this label and operand 1 as its mask: `dword ptr [eax + zmm1 * 4]{k1}`
abbrev pub scattered : Label → Place
scattered label = place.Operand 0 label Hidden false Second option.None

-- a register that the arm shows by itself
abbrev pub named : ℕ → Place
named reg = place.Register reg

-- ---- Plans: places from the left, and nothing after them

abbrev pub four : Place → Place → Place → Place → Plan
four a b c d = record { a = a; b = b; c = c; d = d; tail = tail.None }

abbrev pub three : Place → Place → Place → Plan
three a b c = four a b c place.Nothing

abbrev pub two : Place → Place → Plan
two a b = three a b place.Nothing

abbrev pub one : Place → Plan
one a = two a place.Nothing

abbrev pub none : Plan
none = one place.Nothing

-- ---- The general path: what stands after document 000's match on the opcode

-- every operand, the first with one label and its segment, those after it with another and their segments as the arm shows them
unfoldable pub spread : (first later : Label) → Segment → Plan
spread first later segment = four (labelled first Own 0) (labelled later segment 1) (labelled later segment 2) (labelled later segment 3)

-- the rule for its labels: whether 8 is `mmword`, and whether 6 is `fword` in operand 0 and in those after it
pub record LabelRule : Type 0 where
  pub mmword : Bool
  pub first : Bool
  pub later : Bool

-- by that rule and mem_size
unfoldable pub general : LabelRule → ℕ → Plan
general rule size =
    spread (general_label rule.mmword rule.first size) (general_label rule.mmword rule.later size) Own

-- the rule of an opcode that the general path names: 8 is never or always `mmword`
abbrev pub never : LabelRule
never = record { mmword = false; first = false; later = false }

abbrev pub always : LabelRule
always = record { mmword = true; first = false; later = false }

-- the rule of every other: 8 is `mmword` where the record has such a register; where 6 is `fword`, in operand 0 or after it
abbrev pub by_registers : Instruction → (first later : Bool) → LabelRule
by_registers i first later = record { mmword = has_vector i; first = first; later = later }

-- the general path of an opcode that it does not name
abbrev pub general_plan : Instruction → Plan
general_plan i = general (by_registers i false false) i.size

-- MOVS: the label of the general path; ds is shown in operand 0 alone
abbrev pub movs_label : Instruction → Label
movs_label i = general_label (has_vector i) false i.size

-- the FADD arm: memory as operand 1 decides first; else `st` stands for st(0) in operand 0 where that is of kind 1, or in operand 1
abbrev pub fadd : ℕ → Operand → Operand → Plan
fadd size a b =
    cond (is_memory b) (one (labelled (size_label size) Own 1))
    (cond (is_register_r a) (two (st 0) (plain 1)) (two (plain 0) (st 1)))

-- ---- The arms

-- the places of each arm
unfoldable pub places_of : Arm → Instruction → Plan
-- the general path and what it does for single opcodes
places_of General i = general_plan i
places_of Qword i = general never i.size
places_of Mmword i = general always i.size
places_of Jmpf i = general (by_registers i true false) i.size
places_of Callf i = general (by_registers i true false) i.size
places_of Lds i = general (by_registers i false true) i.size
places_of Movs i = spread (movs_label i) (movs_label i) UnlessDs
places_of Cmps i = general_plan i
places_of Singles i = general_plan i
places_of Doubles i = general_plan i
places_of Branch i = cond (is_branch i.a) (one place.Branch) (general_plan i)
places_of Call i = cond (is_branch i.a) (one place.Branch) (general_plan i)
places_of Xbegin i = cond (is_xbegin i.a) (one place.Branch) (general_plan i)
-- a name alone
places_of Feni i = none
places_of Fdisi i = none
places_of Fsetpm i = none
-- the arms of the match on the opcode
places_of Hreset i = two (plain 0) (named eax)
places_of Lsl i = cond (is_register i.a && is_register i.b) (two (plain 0) (named (lsl_source i.a i.b))) (general_plan i)
places_of Prefetch i = one (plain 0)
places_of Sgdt i = one (labelled Fword Hidden 0)
places_of Lss i = two (plain 0) (labelled (lss_label i.size) Hidden 1)
places_of Nop i = cond (is_absent i.b) (general_plan i) none
places_of ScatterDword i = two (scattered Dword) (plain 2)
places_of ScatterQword i = two (scattered Qword) (plain 2)
places_of Monitor i = three (named eax) (named ecx) (named edx)
places_of Mwait i = two (named eax) (named ecx)
places_of Invlpgb i = two (plain 0) (plain 2)
places_of Rdpru i = none
places_of Scas i = one (labelled (size_label i.size) Own 0)
places_of Lods i = one (labelled (size_label i.size) Hidden 1)
places_of Psmash i = one (named eax)
places_of Pvalidate i = three (named eax) (named ecx) (named edx)
places_of Incssp i = general_plan i
places_of Wrss i = general_plan i
places_of Pblendvb i = three (plain 0) (labelled (size_label i.size) Own 1) (named xmm0)
places_of Lea i = two (plain 0) (plain 1)
places_of Pushf i = none
places_of Aam i = cond (eqb i.imm 10) none (general_plan i)
places_of Fcom i = one (labelled (size_label i.size) Own 1)
places_of Fadd i = fadd i.size i.a i.b
places_of Fbld i = one (place.Operand 1 (tbyte_label i.size) Own true Itself option.None)
places_of Fbstp i = one (labelled (tbyte_label i.size) Own 0)

-- ---- What document 02 adds to the general path

-- a place with this broadcast
abbrev pub broadcast_as : Option ℕ → Place → Place
broadcast_as b place.Nothing = place.Nothing
broadcast_as b (place.Register reg) = place.Register reg
broadcast_as b place.Branch = place.Branch
broadcast_as b (place.Operand k label segment short mask _) = place.Operand k label segment short mask b

-- "Flag bit 6 puts `{1toN}` on the general path's memory operands after the first", N by the operand before; the tail ends the line
unfoldable pub decorated : Arm → Instruction → Plan → Plan
decorated arm i plan =
    record {
      a = plan.a;
      b = broadcast_as (broadcast_after arm i i.a) plan.b;
      c = broadcast_as (broadcast_after arm i i.b) plan.c;
      d = broadcast_as (broadcast_after arm i i.c) plan.d;
      tail = tail_of i;
    }

-- the plan of a record
unfoldable pub plan_of : Arm → Instruction → Plan
plan_of arm i = cond (general_path arm i) (decorated arm i (places_of arm i)) (places_of arm i)
