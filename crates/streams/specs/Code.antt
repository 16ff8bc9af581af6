-- What contracts inside the printer speak of, and no promise: the code's step, and what is left to be said from a stage on.
-- Assumes nothing.
use Rattle.std.specs.Prelude.{◌≡◌, cond, List, [], ◌++◌, ℕ, ltb, length, drop}
use Rattle.text.specs.Code.{Put}
use Rattle.answers.specs.Lines.{refused_line}
use Rattle.records.specs.declared.Asked.{Asked}
use Rattle.records.specs.Records.{in_version}
use Rattle.listings.specs.Lines.{cut_line, lines_of, listing_text}
use Rattle.streams.specs.declared.Stage.{Stage}
use Rattle.streams.specs.declared.Stage.TheVariants.{Version, Frames, Skip, Done}
use Rattle.streams.specs.declared.Step.{Step}
use Rattle.streams.specs.Stream.{Taken, skipped}

-- the code's step is that step
pub record Took (t : Taken) (before : List ℕ) (out : ℕ) (step : Step Stage) (after : List ℕ) : Type 0 where
  pub stage_is : step.stage ≡ t.stage
  pub used_is : step.used ≡ t.used
  pub records_is : step.records ≡ t.records
  pub refused_is : step.refused ≡ t.refused
  pub put : Put before out t.says step.out after

-- what a listing still has to say from a stage on, if all that is to come is xs: the definition, in parts
unfoldable pub remaining : Asked → Stage → List ℕ → List ℕ
remaining asked Version xs = listing_text asked xs
remaining asked (Frames version) xs = lines_of (in_version version asked) xs
remaining asked (Skip left size version) xs =
    cond (ltb (length xs) left) cut_line
    (refused_line (skipped (in_version version asked)) ++ lines_of (in_version version asked) (drop left xs))
remaining asked Done xs = []
