-- Demand 3: MASM's reader takes from every printed line exactly what the line shows.
-- Assumes nothing.
use mathlib.Core.Path.{◌≡◌, refl, sym, ap, ◌∙◌}
use mathlib.Core.Bool.{Bool, true, false, not, ◌||◌}
use mathlib.Core.List.{List}
use Prim.Native.Nat.{ℕ, ◌<◌}
use native.Mathlib.Omega.{arith}
use lib.Dec.{T}
use Rattle.operands.specs.Kinds.{is_absent}
use Rattle.operands.specs.Parts.{starting_at}
use Rattle.operands.specs.declared.Instruction.{Instruction}
use Rattle.bodies.specs.Decoding.{instruction_of}
use Rattle.bodies.specs.WellFormed.{WellFormed}
use Rattle.bodies.specs.Versions.{start_of, record_of}
use Rattle.bodies.proofs.Picks.{picked}
use Rattle.bodies.proofs.Accepted.{accepted}
use Rattle.bodies.proofs.Versions.{fields-bytes}
use Rattle.branches.specs.declared.Mode.{Mode}
use Rattle.names.specs.Among.{is_arm}
use Rattle.names.specs.Opcodes.{opcode_count}
use Rattle.names.specs.declared.Arm.{Arm}
use Rattle.names.specs.declared.Arm.TheVariants.{Jmpf, Callf, Feni as FeniArm, Fdisi as FdisiArm, Fsetpm as FsetpmArm}
use Rattle.arms.specs.Plans.{plan_of}
use Rattle.arms.specs.Shape.{shape_refused}
use Rattle.arms.specs.Size.{size_refused}
use Rattle.arms.proofs.Labelled.{plan_labels_there}
use Rattle.arms.proofs.Lacking.{plan_lacking}
use Rattle.arms.proofs.Ordered.{from_the_left_lem}
use Rattle.arms.proofs.Tails.{tail_after_operand}
use Rattle.arms.specs.Decorations.{broadcast_refused}
use Rattle.places.specs.Places.{items_at}
use Rattle.places.proofs.Starts.{left_unstarted}
use Rattle.lines.specs.Head.{name_of, head_of}
use Rattle.lines.specs.Text.{line_by}
use Rattle.lines.specs.declared.Name.TheVariants.{Opcode, Feni, Fdisi, Fsetpm}
use Rattle.records.specs.Records.{mode_of, fields_of, arm_at, line_at, record_text}
use Rattle.records.specs.declared.Asked.{Asked}
use Rattle.records.proofs.Judging.{unrefused}
use Rattle.masm.specs.Lines.{shows, read}
use Rattle.masm.proofs.Tokens.{unbroken}
use Rattle.masm.proofs.Texts.{line-unbroken}
use Rattle.readback.specs.Meaning.{meaning}
use Rattle.readback.specs.Printed.{Printed}
use Rattle.readback.proofs.Sound.{SoundName, Sound, counted}
use Rattle.readback.proofs.Lines.{sound_line, reads}
use Rattle.places.proofs.Starts.{nothing_unstarted}
use Rattle.readback.proofs.Starts.{well_started, lacks_unstarted}
use Rattle.readback.proofs.Arms.{branches, items_sound}

-- ---- Every line of a record that keeps the rules is sound

-- the mnemonic is an opcode's name, or one of the three words
name_sound : (arm : Arm) (opcode : ℕ) → opcode < opcode_count → SoundName (name_of arm opcode)
name_sound arm opcode h =
    picked SoundName (is_arm arm Jmpf) (Opcode 0) _ (λ e. omega arith)
    (λ e.
    picked SoundName (is_arm arm Callf) (Opcode 1) _ (λ e. omega arith)
    (λ e.
    picked SoundName (is_arm arm FeniArm) Feni _ (λ e. tt)
    (λ e. picked SoundName (is_arm arm FdisiArm) Fdisi _ (λ e. tt) (λ e. picked SoundName (is_arm arm FsetpmArm) Fsetpm (Opcode opcode) (λ e. tt) (λ e. h)))))

-- no operand of an accepted record stands after an absent one
implication : (p q : Bool) → (p ≡ true → q ≡ true) → (not p || q) ≡ true
implication true q f = f refl
implication false q f = refl

counted_from_left : (i : Instruction) → WellFormed i → counted i ≡ true
counted_from_left i w =
    rw (
      implication (is_absent i.a) (is_absent i.b) w.no_a,
      implication (is_absent i.b) (is_absent i.c) w.no_b,
      implication (is_absent i.c) (is_absent i.d) w.no_c,
    )

-- wherever the record starts
line_sound : (mode : Mode) (arm : Arm) (start : ℕ) (i : Instruction) → WellFormed i → shape_refused arm i ≡ false → size_refused arm i ≡ false → broadcast_refused arm i ≡ false
    → Sound (branches arm i) (line_by mode arm (plan_of arm i) (starting_at start i))
unfolding head_of items_at
line_sound mode arm start i w shape size over =
    let plan = plan_of arm i in
    let s = items_sound mode arm start i w shape over in
    record {
      name = name_sound arm i.opcode w.opcode;
      a = s.a;
      b = s.b;
      c = s.c;
      d = s.d;
      labels = plan_labels_there mode arm (starting_at start i) plan (lacks_unstarted start i plan ∙ plan_lacking arm i shape ∙ size);
      ordered = left_unstarted mode arm start i plan ∙ from_the_left_lem mode arm i (counted_from_left i w) shape;
      ended = λ e. tail_after_operand mode arm i (sym (nothing_unstarted mode arm start i plan.a) ∙ e);
    }

module _ {asked : Asked} {body : List ℕ} (p : Printed asked body) where
  -- the fields of a printed body keep the rules
  kept : WellFormed (instruction_of (fields_of asked body))
  kept = accepted (fields_of asked body) (fields-bytes asked.version body p.bytes) (unrefused asked body p.accepted).no_field

  -- and so does its record
  pub well : WellFormed (record_of asked.version body)
  well = well_started (start_of asked.version body) (instruction_of (fields_of asked body)) kept

  -- and its line is sound
  pub sound : Sound (branches (arm_at (fields_of asked body)) (record_of asked.version body)) (line_at asked body)
  unfolding line_at
  sound =
      let k = unrefused asked body p.accepted in
      line_sound (mode_of asked) (arm_at (fields_of asked body)) (start_of asked.version body) (instruction_of (fields_of asked body)) kept k.no_shape k.no_size k.no_broadcast

  -- ---- The theorems

  -- Of every accepted body, in every mode and version and from every start, the reader yields exactly what the line shows: prefix words,
  -- mnemonic, and for each shown operand its label, segment, multiple of each register, displacement, mask and N, immediate, branch or target
  -- with its width; and the tail.
  pub reads_back : (start : ℕ) → read start (record_text asked body) ≡ shows (meaning start (line_at asked body))
  unfolding record_text
  reads_back start = reads start (line_at asked body) sound

  -- Every printed line is one line of text: it holds no newline.
  pub one_line : T (unbroken (record_text asked body))
  unfolding record_text
  one_line = line-unbroken (sound_line 0 (line_at asked body) sound)

-- The text determines what is shown: two accepted bodies, in whatever modes and versions, whose lines are equal show the same.
pub text_determines : {asked₁ asked₂ : Asked} {body₁ body₂ : List ℕ} → Printed asked₁ body₁ → Printed asked₂ body₂
    → record_text asked₁ body₁ ≡ record_text asked₂ body₂ → (start : ℕ) → meaning start (line_at asked₁ body₁) ≡ meaning start (line_at asked₂ body₂)
text_determines p q e start =
    let r = reads_back p start in
    let s = reads_back q start in
    cc (ap (read start) e)
