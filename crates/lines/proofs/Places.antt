-- What a place shows of a record, and its text, case by case.
-- Assumes nothing.
use Rattle.std.specs.Prelude.{Option}
use mathlib.Core.Path.{◌≡◌, refl, sym, ap, ◌∙◌}
use mathlib.Core.Bool.{Bool, true, false, cond, not, ◌&&◌, not-not}
use mathlib.Core.List.{List, [], ◌∷◌, ◌++◌, append-nil, append_assoc}
use Prim.Native.Nat.{ℕ, zero, suc, ◌+◌, ◌≤◌, ◌<◌}
use native.Mathlib.Omega.{arith}
use lib.Dec.{eqb, ltb}
use lib.ListN.{get_or}
use Rattle.text.specs.Words.{bytes}
use Rattle.numerals.specs.Numerals.{numeral}
use Rattle.names.specs.Labels.{labels, label_word}
use Rattle.names.specs.Registers.{register_name}
use Rattle.names.specs.declared.Arm.{Arm}
use Rattle.operands.specs.Kinds.{is_absent, is_register, is_memory}
use Rattle.operands.specs.Parts.{starting_at, operand_in, shown_of, segment_of, register_of, immediate_kind, immediate_of, mask_of, bare}
use Rattle.operands.specs.RegisterBytes.{st0}
use Rattle.operands.specs.declared.Address.{Address}
use Rattle.operands.specs.declared.BranchWord.{BranchWord}
use Rattle.operands.specs.declared.Instruction.{Instruction}
use Rattle.operands.specs.declared.Label.{Label}
use Rattle.operands.specs.declared.Items.{Items}
use Rattle.operands.specs.declared.Operand.{Operand}
use Rattle.operands.specs.declared.Operand.TheVariants as operand
use Rattle.operands.specs.declared.Shown.{Shown}
use Rattle.operands.specs.declared.Shown.TheVariants as shown
use Rattle.operands.specs.declared.Shown.TheVariants.{Name, St, Branch}
use Rattle.bodies.specs.Body.{length_of, count_of}
use Rattle.bodies.specs.Decoding.{operand_at, instruction_of}
use Rattle.bodies.proofs.Accepted.{absent_from_count}
use Rattle.bodies.proofs.Counted.{operand_in_lem}
use Rattle.places.proofs.Starts.{operand_unstarted}
use Rattle.branches.specs.Sums.{branch_shown}
use Rattle.branches.specs.declared.Mode.{Mode}
use Rattle.branches.specs.declared.Mode.TheVariants.{Crate, Straight, Target}
use Rattle.places.specs.Places.{segment_shown, value_shown, mask_shown, operand_shown, branch_of, item_at, items_at}
use Rattle.places.specs.declared.Mask.{Mask}
use Rattle.places.specs.declared.Mask.TheVariants.{Itself, Second}
use Rattle.places.specs.declared.Place.{Place}
use Rattle.places.specs.declared.Place.TheVariants as place
use Rattle.places.specs.declared.Plan.{Plan}
use Rattle.places.specs.declared.Segment.{Segment}
use Rattle.places.specs.declared.Segment.TheVariants.{Hidden, Shown as Own, UnlessDs}
use Rattle.lines.specs.Fronts.{label_text, segment_text}
use Rattle.lines.specs.Brackets.{mask_text, masked_text}
use Rattle.lines.specs.Items.{absolute_text, branch_text, target_text, shown_text, broadcast_text, item_text}
use Rattle.lines.specs.Text.{shows, parted_text, items_text}
use Rattle.lines.specs.Code.{shown_segment, shown_mask, front_text, end_text, register_text, separator_at}
use Rattle.lines.proofs.Parts.{masked_append}

-- the segment that is shown of an operand is that of its own
segment_by_own : (segment : Segment) (o : Operand) → segment_shown segment o ≡ shown_segment segment (segment_of o)
segment_by_own Hidden o = refl
segment_by_own Own o = refl
segment_by_own UnlessDs o = refl

no_segment : (segment : Segment) → shown_segment segment 0 ≡ 0
no_segment Hidden = refl
no_segment Own = refl
no_segment UnlessDs = refl

-- only a register is shortened
unshortened : (short : Bool) (o : Operand) → is_register o ≡ false → value_shown short o ≡ shown_of o
unshortened true o e = rw e
unshortened false o e = refl

shortened : (b : Bool) (reg : ℕ) → shown_text (cond b St (Name reg)) ≡ cond b (bytes "st") (register_name reg)
unfolding shown_text
shortened true reg = refl
shortened false reg = refl

-- the mask that is shown of memory is its own, or operand 1's register
mask_by_own : (mask : Mask) (second : ℕ) (o : Operand) → is_memory o ≡ true → mask_shown mask second o ≡ shown_mask mask (mask_of o) second
mask_by_own Itself second o m = refl
mask_by_own Second second o m = rw m

no_mask : (mask : Mask) (second : ℕ) (o : Operand) → is_memory o ≡ false → mask_of o ≡ 0 → mask_shown mask second o ≡ 0
no_mask Itself second o m z = z
no_mask Second second o m z = rw m

-- what has nothing before it and nothing after it is shown alone
pub text_bare : (s : Shown) → item_text (bare s) ≡ shown_text s
unfolding item_text label_text label_word labels segment_text mask_text broadcast_text
text_bare s = append-nil (shown_text s)

-- how an operand is shown, case by case
module _ (label : Label) (segment : Segment) (short : Bool) (mask : Mask) (second : ℕ) (b : Option ℕ) where
  abbrev text_of : Operand → List ℕ
  text_of o = item_text (operand_shown label segment short mask second b o)

  module _ (o : Operand) where
    -- an operand that is no memory
    plain : is_memory o ≡ false → segment_of o ≡ 0 → mask_of o ≡ 0 → text_of o ≡ shown_text (value_shown short o)
    unfolding operand_shown
    plain m z n =
        rw (m, segment_by_own segment o, z, no_segment segment, no_mask mask second o m n) (text_bare (value_shown short o))

    -- one that is memory
    memory : is_memory o ≡ true → is_register o ≡ false → text_of o ≡ front_text label (shown_segment segment (segment_of o)) ++ (shown_text (shown_of o) ++ (mask_text (shown_mask mask (mask_of o) second) ++ broadcast_text b))
    unfolding operand_shown item_text
    memory m r =
        rw (m, segment_by_own segment o, mask_by_own mask second o m, unshortened short o r)
        (sym (append_assoc (label_text label) (segment_text (shown_segment segment (segment_of o))) (shown_text (shown_of o) ++ (mask_text (shown_mask mask (mask_of o) second) ++ broadcast_text b))))

  module _ {o : Operand} where
    pub text_absent : o ≡ operand.Absent → text_of o ≡ []
    unfolding shown_text
    text_absent e = rw e (plain operand.Absent refl refl refl ∙ ap shown_text (unshortened short operand.Absent refl))

    pub text_register : {kind reg : ℕ} → o ≡ operand.Register kind reg → text_of o ≡ register_text short reg
    text_register {kind} {reg} e =
        rw e (plain (operand.Register kind reg) refl refl refl ∙ shortened (short && eqb reg st0) reg)

    pub text_number : {kind value : ℕ} → o ≡ operand.Imm kind value → text_of o ≡ numeral value
    unfolding shown_text
    text_number {kind} {value} e =
        rw e (plain (operand.Imm kind value) refl refl refl ∙ ap shown_text (unshortened short (operand.Imm kind value) refl))

    -- memory, between what stands before and after it
    pub text_word : {own address : ℕ} → o ≡ operand.Absolute16 own address → text_of o ≡ front_text label (shown_segment segment own) ++ (absolute_text 4 address ++ end_text (shown_mask mask 0 second) b)
    unfolding shown_text
    text_word {own} {address} e = rw e (memory (operand.Absolute16 own address) refl refl)

    pub text_dword : {own address : ℕ} → o ≡ operand.Absolute32 own address → text_of o ≡ front_text label (shown_segment segment own) ++ (absolute_text 8 address ++ end_text (shown_mask mask 0 second) b)
    unfolding shown_text
    text_dword {own} {address} e = rw e (memory (operand.Absolute32 own address) refl refl)

    pub text_bracket : {own : ℕ} {address : Address} {k m : ℕ} → m ≡ shown_mask mask k second → o ≡ operand.Memory own address k → text_of o ≡ front_text label (shown_segment segment own) ++ (masked_text address m ++ broadcast_text b)
    unfolding shown_text
    text_bracket {own} {address} {k} masked e =
        rw (e, masked)
        (memory (operand.Memory own address k) refl refl
        ∙ ap (λ (t : List ℕ). front_text label (shown_segment segment own) ++ t)
        (sym (masked_append address (shown_mask mask k second) (broadcast_text b))))

-- what a place shows, case by case
module _ (mode : Mode) (arm : Arm) (i : Instruction) {p : Place} where
  pub place_nothing : p ≡ place.Nothing → item_text (item_at mode arm i p) ≡ []
  unfolding item_at shown_text
  place_nothing e = rw e (text_bare _)

  pub place_register : {reg : ℕ} → p ≡ place.Register reg → item_text (item_at mode arm i p) ≡ register_name reg
  unfolding item_at shown_text
  place_register {reg} e = rw e (text_bare (Name reg))

  pub place_branch : p ≡ place.Branch → item_text (item_at mode arm i p) ≡ shown_text (branch_of mode arm i)
  unfolding item_at
  place_branch e = rw e (text_bare (branch_of mode arm i))

-- operand k of a record, as the code has it from the body
operand_started : (start : ℕ) (body : List ℕ) → count_of body ≤ 4 → (k : ℕ) → operand_at body k ≡ operand_in (starting_at start (instruction_of body)) k
operand_started start body few k = operand_in_lem body few k ∙ sym (operand_unstarted start (instruction_of body) k)

-- operand k at a place, as the code has it from the body
pub place_operand :
    (mode : Mode) (arm : Arm) (start : ℕ) (body : List ℕ) → count_of body ≤ 4 →
    {p : Place} {k : ℕ} {label : Label} {segment : Segment} {short : Bool} {mask : Mask} {b : Option ℕ} → p ≡ place.Operand k label segment short mask b →
    {o : Operand} → o ≡ operand_at body k →
    item_text (item_at mode arm (starting_at start (instruction_of body)) p) ≡ item_text (operand_shown label segment short mask (register_of (operand_at body 1)) b o)
unfolding item_at
place_operand mode arm start body few {k = k} e is = rw (e, is, operand_started start body few k, operand_started start body few 1)

-- an operand shows something exactly where it is there
shows-operand : (short : Bool) (o : Operand) → shows (value_shown short o) ≡ not (is_absent o)
shows-operand short operand.Absent = ap shows (unshortened short operand.Absent refl)
shows-operand true (operand.Register kind reg) = name_or_st (eqb reg st0) reg
  where
    name_or_st : (b : Bool) (reg : ℕ) → shows (cond b St (Name reg)) ≡ true
    name_or_st true reg = refl
    name_or_st false reg = refl
shows-operand false (operand.Register kind reg) = refl
shows-operand short (operand.Imm kind value) = ap shows (unshortened short (operand.Imm kind value) refl)
shows-operand short (operand.Absolute16 segment address) = ap shows (unshortened short (operand.Absolute16 segment address) refl)
shows-operand short (operand.Absolute32 segment address) = ap shows (unshortened short (operand.Absolute32 segment address) refl)
shows-operand short (operand.Memory segment address mask) = ap shows (unshortened short (operand.Memory segment address mask) refl)

-- whether a place shows something, case by case
module _ (mode : Mode) (arm : Arm) (i : Instruction) {p : Place} where
  pub shows_nothing : p ≡ place.Nothing → shows (item_at mode arm i p).shown ≡ false
  unfolding item_at
  shows_nothing e = rw e

  pub shows_register : {reg : ℕ} → p ≡ place.Register reg → shows (item_at mode arm i p).shown ≡ true
  unfolding item_at
  shows_register e = rw e

  pub shows_branch : p ≡ place.Branch → shows (item_at mode arm i p).shown ≡ true
  unfolding item_at branch_shown
  shows_branch e = rw e (shows-mode mode)
    where
      shows-mode : (m : Mode) → shows (branch_of m arm i) ≡ true
      shows-mode Crate = refl
      shows-mode Straight = refl
      shows-mode Target = refl

pub shows_stored :
    (mode : Mode) (arm : Arm) (start : ℕ) (body : List ℕ) → count_of body ≤ 4 →
    {p : Place} {k : ℕ} {label : Label} {segment : Segment} {short : Bool} {mask : Mask} {b : Option ℕ} → p ≡ place.Operand k label segment short mask b →
    shows (item_at mode arm (starting_at start (instruction_of body)) p).shown ≡ ltb k (count_of body)
unfolding item_at operand_shown
shows_stored mode arm start body few {k = k} {short = short} e =
    rw (e, ← operand_started start body few k)
    (shows-operand short (operand_at body k) ∙ (ap not (absent_from_count body k) ∙ not-not (ltb k (count_of body))))

-- the branch as the code has it from the body: operand 0, its kind and its value, and the instruction's length
module _ (mode : Mode) (arm : Arm) (start : ℕ) (body : List ℕ) {o : Operand} {kind value len : ℕ} {s : Shown} where
  pub branch_is : o ≡ operand_at body 0 → kind ≡ immediate_kind o → value ≡ immediate_of o → len ≡ length_of body → s ≡ branch_shown mode arm kind value len start → branch_of mode arm (starting_at start (instruction_of body)) ≡ s
  unfolding instruction_of
  branch_is op k v l e = rw (e, k, v, l, op)

-- it is a sum or a target, and nothing else is shown
pub branch_other :
    (mode : Mode) (arm : Arm) (i : Instruction) {s : Shown} →
    branch_of mode arm i ≡ s →
    ((word : BranchWord) (minus : Bool) (size : ℕ) → s ≡ Branch word minus size → ⊥) →
    ((word : BranchWord) (target : ℕ) → s ≡ shown.Target word target → ⊥) →
    ⊥
unfolding branch_shown
branch_other Crate arm i e sum target = sum _ _ _ (sym e)
branch_other Straight arm i e sum target = sum _ _ _ (sym e)
branch_other Target arm i e sum target = target _ _ (sym e)

pub text_branch : {s : Shown} {word : BranchWord} {minus : Bool} {size : ℕ} → s ≡ Branch word minus size → shown_text s ≡ branch_text word minus size
unfolding shown_text
text_branch e = rw e

pub text_target : {s : Shown} {word : BranchWord} {target : ℕ} → s ≡ shown.Target word target → shown_text s ≡ target_text word target
unfolding shown_text
text_target e = rw e

-- place k of a plan; past the fourth there is nothing
abbrev pub place_at : Plan → ℕ → Place
place_at plan k = get_or (plan.a ∷ plan.b ∷ plan.c ∷ plan.d ∷ []) k place.Nothing

-- the operands from number k on
abbrev pub items_from : ℕ → Items → List ℕ
items_from zero is = items_text is
items_from (suc zero) is = parted_text (bytes ", ") is.b ++ (parted_text (bytes ", ") is.c ++ parted_text (bytes ", ") is.d)
items_from (suc (suc zero)) is = parted_text (bytes ", ") is.c ++ parted_text (bytes ", ") is.d
items_from (suc (suc (suc zero))) is = parted_text (bytes ", ") is.d
items_from (suc (suc (suc (suc k)))) is = []

module _ (mode : Mode) (arm : Arm) (i : Instruction) (plan : Plan) where
  -- place k, and those after it
  pub items_next : (k : ℕ) → k < 4 → items_from k (items_at mode arm i plan) ≡ parted_text (separator_at k) (item_at mode arm i (place_at plan k)) ++ items_from (k + 1) (items_at mode arm i plan)
  unfolding items_text items_at
  items_next zero h = refl
  items_next (suc zero) h = refl
  items_next (suc (suc zero)) h = refl
  items_next (suc (suc (suc zero))) h = sym (append-nil (parted_text (bytes ", ") (item_at mode arm i plan.d)))
  items_next (suc (suc (suc (suc k)))) h = absurd (omega arith)

  pub items_end : (k : ℕ) → 4 ≤ k → items_from k (items_at mode arm i plan) ≡ []
  items_end zero h = absurd (omega arith)
  items_end (suc zero) h = absurd (omega arith)
  items_end (suc (suc zero)) h = absurd (omega arith)
  items_end (suc (suc (suc zero))) h = absurd (omega arith)
  items_end (suc (suc (suc (suc k)))) h = refl

  -- a place that shows something is put after what parts it
  pub items_shown :
      (k : ℕ) → k < 4 → {shown : Bool} → shown ≡ shows (item_at mode arm i (place_at plan k)).shown → not shown ≡ false →
      items_from k (items_at mode arm i plan) ≡ separator_at k ++ (item_text (item_at mode arm i (place_at plan k)) ++ items_from (k + 1) (items_at mode arm i plan))
  unfolding parted_text
  items_shown k h {shown} is t =
      items_next k h
      ∙ rw (← is, sym (not-not shown) ∙ ap not t) (append_assoc (separator_at k) (item_text (item_at mode arm i (place_at plan k))) (items_from (k + 1) (items_at mode arm i plan)))
