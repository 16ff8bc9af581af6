-- What a pass promises: what is still to be said from a stage on, and how a pass goes on.
-- Assumes nothing.
use Rattle.std.specs.Prelude.{◌≡◌, Bool, true, false, List, [], ◌++◌, ℕ, ◌+◌, ◌≤◌, ◌<◌, length, take, drop}
use Rattle.cursors.specs.Longest.{longest_frame}
use Rattle.records.specs.declared.Asked.{Asked}
use Rattle.compared.specs.declared.Stage.{Stage}
use Rattle.compared.specs.declared.Stage.TheVariants.{Versions, Records, Done}
use Rattle.compared.specs.declared.Next.{Next}
use Rattle.compared.specs.declared.Next.TheVariants.{On, First, Second, Nothing}
use Rattle.compared.specs.declared.Passed.{Passed}
use Rattle.compared.specs.Report.{walk, in_versions, report_of, is_different}
use Rattle.compared.specs.Text.{report_text, comparison}

-- what is still to be said from a stage on, if all that is to come is xs on the first side and ys on the second
unfoldable pub saying : Asked → Stage → (xs ys : List ℕ) → List ℕ
saying asked Versions xs ys = comparison asked xs ys
saying asked (Records number named v w) xs ys = report_text named (walk (in_versions v w asked) number xs ys)
saying asked (Done different) xs ys = []

-- whether anything is reported then
unfoldable pub differing : Asked → Stage → (xs ys : List ℕ) → Bool
differing asked Versions xs ys = is_different 0 (report_of asked xs ys)
differing asked (Records number named v w) xs ys = is_different named (walk (in_versions v w asked) number xs ys)
differing asked (Done different) xs ys = different

-- what may still come on a side: where it has ended, nothing
abbrev pub Comes : (ended : Bool) → List ℕ → Type 0
Comes ended more = ended ≡ true → more ≡ []

-- The way from a stage with these bytes held on both sides to another, whatever comes after them: what is said on it, before all that
-- is said from there on; and the verdict is the one from there on.
pub record Goes (asked : Asked) (ended ended' : Bool) (stage : Stage) (xs ys says : List ℕ) (now : Stage) (xs' ys' : List ℕ) : Type 0 where
  pub said : (more more' : List ℕ) → Comes ended more → Comes ended' more' → saying asked stage (xs ++ more) (ys ++ more') ≡ says ++ saying asked now (xs' ++ more) (ys' ++ more')
  pub verdict : (more more' : List ℕ) → Comes ended more → Comes ended' more' → differing asked stage (xs ++ more) (ys ++ more') ≡ differing asked now (xs' ++ more) (ys' ++ more')

-- What comes after a step or a pass: some bytes were used; or more are wanted of a side, which has not ended, and no whole frame of it is
-- held; or nothing is left to be said.
pub data Follows (ended ended' : Bool) (stage : Stage) (xs ys : List ℕ) (used : ℕ) (next : Next) : Type 0 where
  goes_on : next ≡ On → 0 < used → Follows ended ended' stage xs ys used next
  wants_first : next ≡ First → ended ≡ false → length xs < longest_frame → Follows ended ended' stage xs ys used next
  wants_second : next ≡ Second → ended' ≡ false → length ys < longest_frame → Follows ended ended' stage xs ys used next
  ends : next ≡ Nothing → (different : Bool) → stage ≡ Done different → Follows ended ended' stage xs ys used next

-- what a pass promises: what is said on its way stands at the start of the text; what is held then is what it did not use
pub record Passes (asked : Asked) (stage : Stage) (xs ys : List ℕ) (ended ended' : Bool) (r : Passed) (text : List ℕ) : Type 0 where
  pub says : List ℕ
  pub goes : Goes asked ended ended' stage xs ys says r.stage (drop r.first xs) (drop r.second ys)
  pub put : take r.out text ≡ says
  pub fits : r.out ≤ length text
  pub within : (r.first ≤ length xs) × (r.second ≤ length ys)
  pub follows : Follows ended ended' r.stage (drop r.first xs) (drop r.second ys) (r.first + r.second) r.next
