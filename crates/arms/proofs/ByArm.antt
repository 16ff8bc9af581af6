-- What the refusal by shape is at each arm that has one: document 01's sentence with the rules of other arms taken away.
-- Assumes nothing.
use mathlib.Core.Path.{◌≡◌, refl, sym, ap, ◌∙◌}
use mathlib.Core.Bool.{Bool, true, not, ◌||◌, or-false, or_assoc}
use mathlib.Core.List.{[], ◌∷◌}
use Rattle.operands.specs.Kinds.{is_absent, is_memory}
use Rattle.operands.specs.Parts.{is_bank0}
use Rattle.operands.specs.declared.Instruction.{Instruction}
use Rattle.operands.specs.declared.Operand.{Operand}
use Rattle.operands.specs.declared.Operand.TheVariants.{Absent}
use Rattle.names.specs.declared.Arm.{Arm}
use Rattle.names.specs.declared.Arm.TheVariants as arms
use Rattle.names.proofs.ArmGroups.{Each}
use Rattle.arms.specs.Shape.{shape_refused, lsl_refused, fadd_refused, fbld_refused, scatter_refused}

-- a rule that an absent operand breaks covers the rule that the operand is there
absent_covered : (f : Operand → Bool) → f Absent ≡ true → (o : Operand) → (is_absent o || f o) ≡ f o
absent_covered f e Absent = sym e
absent_covered f e _ = refl

no_memory : (o : Operand) → (is_absent o || not (is_memory o)) ≡ not (is_memory o)
no_memory o = absent_covered (λ (x : Operand). not (is_memory x)) refl o

module _ (i : Instruction) where
  -- operand 0 has to be there
  pub first_there : Each (λ (x : Arm). shape_refused x i ≡ is_absent i.a) (arms.Hreset ∷ arms.Prefetch ∷ arms.Fbstp ∷ [])
  unfolding shape_refused
  first_there = (simp or-false, (simp or-false, (simp or-false, tt)))

  pub first_memory : Each (λ (x : Arm). shape_refused x i ≡ not (is_memory i.a)) (arms.Sgdt ∷ arms.Scas ∷ [])
  unfolding shape_refused
  first_memory = (simp or-false (no_memory i.a), (simp or-false (no_memory i.a), tt))

  pub both-there : Each (λ (x : Arm). shape_refused x i ≡ (is_absent i.a || is_absent i.b)) (arms.Pblendvb ∷ arms.Lea ∷ [])
  unfolding shape_refused
  both-there = (simp or-false, (simp or-false, tt))

  pub at_lsl : shape_refused arms.Lsl i ≡ lsl_refused i.a i.b
  unfolding shape_refused
  at_lsl = simp or-false (absent_covered (λ (x : Operand). lsl_refused x i.b) refl i.a)

  pub at_lss : shape_refused arms.Lss i ≡ (is_absent i.a || not (is_memory i.b))
  unfolding shape_refused
  at_lss = simp or-false (or_assoc (is_absent i.a) (is_absent i.b) (not (is_memory i.b)) ∙ ap (λ (x : Bool). is_absent i.a || x) (no_memory i.b))

  pub at_invlpgb : shape_refused arms.Invlpgb i ≡ (is_absent i.a || is_absent i.c)
  unfolding shape_refused
  at_invlpgb = simp or-false

  pub at_lods : shape_refused arms.Lods i ≡ not (is_memory i.b)
  unfolding shape_refused
  at_lods = simp or-false (no_memory i.b)

  pub at_incssp : shape_refused arms.Incssp i ≡ not (is_bank0 i.a)
  unfolding shape_refused
  at_incssp = simp or-false (absent_covered (λ (x : Operand). not (is_bank0 x)) refl i.a)

  pub at_wrss : shape_refused arms.Wrss i ≡ not (is_bank0 i.b)
  unfolding shape_refused
  at_wrss = simp or-false (absent_covered (λ (x : Operand). not (is_bank0 x)) refl i.b)

  pub at_fcom : shape_refused arms.Fcom i ≡ is_absent i.b
  unfolding shape_refused
  at_fcom = simp or-false

  pub at_fadd : shape_refused arms.Fadd i ≡ (is_absent i.a || is_absent i.b || fadd_refused i.a i.b)
  unfolding shape_refused
  at_fadd = simp or-false

  pub at_fbld : shape_refused arms.Fbld i ≡ fbld_refused i.b
  unfolding shape_refused
  at_fbld = simp or-false (absent_covered fbld_refused refl i.b)

  pub scattering : Each (λ (x : Arm). shape_refused x i ≡ scatter_refused i.a i.b i.c) (arms.ScatterDword ∷ arms.ScatterQword ∷ [])
  unfolding shape_refused
  scattering = (refl, (refl, tt))
