-- The word before `$` in mode 1, by groups of arms.
-- Assumes nothing.
use Rattle.std.proofs.Common.{◌≡◌, ℕ, Bool, true, false, cond, List, [], ◌∷◌, map}
use types.Run.{OneOf}
use Rattle.operands.specs.declared.BranchWord.TheVariants.{None}
use Rattle.names.specs.Among.{is_one_of}
use Rattle.names.specs.declared.Arm.{Arm}
use Rattle.names.specs.declared.Arm.TheVariants.{Call, Xbegin}
use Rattle.names.proofs.ArmGroups.{tag, of_group, others}
use Rattle.branches.specs.Sums.{straight_word, arm_word}

-- the arms that print neither word in modes 1 and 2
abbrev pub bare : List Arm
bare = Call ∷ Xbegin ∷ []

module _ (arm : Arm) (kind : ℕ) where
  by_arm : (b : Bool) → is_one_of arm bare ≡ b → arm_word arm kind ≡ cond b None (straight_word kind)
  by_arm b e = rw e

  pub word_none : OneOf (map tag bare) (tag arm) → arm_word arm kind ≡ None
  word_none keys = by_arm true (of_group (λ (x : Arm). is_one_of x bare) true bare arm tt keys)

  pub word_by_kind : OneOf (map tag (others bare)) (tag arm) → arm_word arm kind ≡ straight_word kind
  word_by_kind keys = by_arm false (of_group (λ (x : Arm). is_one_of x bare) false (others bare) arm tt keys)
