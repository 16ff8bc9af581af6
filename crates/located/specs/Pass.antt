-- What a pass promises: what is still to be said, counted and how it ends from a stage on, and how a pass goes on.
-- Assumes nothing.
use Rattle.std.specs.Prelude.{◌≡◌, ℕ, ◌+◌, ◌<◌, ◌≤◌, Bool, false, cond, List, [], ◌++◌, length, take, drop, nat_lt}
use Rattle.answers.specs.Refusals.{answer_of}
use Rattle.frames.specs.Frames.{is_whole}
use Rattle.records.specs.declared.Asked.{Asked}
use Rattle.records.specs.Records.{in_version, refusals}
use Rattle.streams.specs.Stream.{refused_by}
use Rattle.streams.specs.Pass.{last_line}
use Rattle.streams.specs.Counts.{sum_of, listing_sum, Ending, ending, frames_end, listing_end}
use Rattle.streams.specs.declared.Next.{Next}
use Rattle.streams.specs.declared.Next.TheVariants.{Full, Read, Whole, Cut, Unknown}
use Rattle.located.specs.declared.Stage.{Stage}
use Rattle.located.specs.declared.Stage.TheVariants.{Version, Frames, Done}
use Rattle.streams.specs.declared.Passed.{Passed}
use Rattle.located.specs.Located.{parts_of, located_text}

-- what is still to be said from a stage on, if all that is to come is xs
unfoldable pub saying : Asked → Stage → List ℕ → List ℕ
saying asked Version xs = located_text asked xs
saying asked (Frames number offset version) xs = parts_of (in_version version asked) number offset xs
saying asked Done xs = []

-- a number of each body that is still to come, in the listing's version, added up
unfoldable pub counting : (ℕ → List ℕ → ℕ) → Stage → List ℕ → ℕ
counting f Version xs = listing_sum f xs
counting f (Frames number offset version) xs = sum_of (f version) xs
counting f Done xs = 0

-- the records, and those that are refused
abbrev pub one : (version : ℕ) → List ℕ → ℕ
one version body = 1

abbrev pub refused_one : Asked → (version : ℕ) → List ℕ → ℕ
refused_one asked version body = refused_by (answer_of (refusals (in_version version asked) body))

-- how it ends
unfoldable pub end_of : Stage → List ℕ → Ending
end_of Version xs = listing_end xs
end_of (Frames number offset version) xs = frames_end xs
end_of Done xs = ending Unknown 0

-- The way from a stage with these bytes held to another, whatever comes after them: what is said and counted on it, before all that is
-- said and counted from there on; and it ends as it does from there on.
pub record Goes (asked : Asked) (stage : Stage) (held says : List ℕ) (now : Stage) (left : List ℕ) (records refused : ℕ) : Type 0 where
  pub said : (more : List ℕ) → saying asked stage (held ++ more) ≡ says ++ saying asked now (left ++ more)
  pub frames : (more : List ℕ) → counting one stage (held ++ more) ≡ records + counting one now (left ++ more)
  pub refusals : (more : List ℕ) → counting (refused_one asked) stage (held ++ more) ≡ refused + counting (refused_one asked) now (left ++ more)
  pub end : (more : List ℕ) → end_of stage (held ++ more) ≡ end_of now (left ++ more)

-- the bytes of the longest frame
abbrev pub longest_frame : ℕ
longest_frame = 65_537

-- the bytes held are not enough for a step: there is no version byte, no whole frame
abbrev pub Unused : Stage → List ℕ → Type 0
Unused Version held = held ≡ []
Unused (Frames number offset version) held = (is_whole held ≡ false) × (length held < longest_frame)
Unused Done held = Unit {0}

-- what comes next there
abbrev pub next_at : (ended : Bool) → Stage → ℕ → Next
next_at ended Version held = cond ended Cut Read
next_at ended (Frames number offset version) held = cond ended (cond (nat_lt 0 held) Cut Whole) Read
next_at ended Done held = Unknown

-- What comes after a pass: where the text is full, some bytes were used; else what is held is not enough for a step.
pub data Follows (ended : Bool) (stage : Stage) (held : List ℕ) (used : ℕ) (next : Next) : Type 0 where
  full : next ≡ Full → 0 < used → Follows ended stage held used next
  rests : next ≡ next_at ended stage (length held) → Unused stage held → Follows ended stage held used next

-- what a pass promises: what is said on its way, and the last line, stands at the start of the text; what is held then is what it did
-- not use
pub record Passes (asked : Asked) (stage : Stage) (held : List ℕ) (ended : Bool) (r : Passed Stage) (after : List ℕ) : Type 0 where
  pub says : List ℕ
  pub goes : Goes asked stage held says r.stage (drop r.used held) r.records r.refused
  pub text : take r.out after ≡ says ++ last_line r.next
  pub fits : r.out ≤ length after
  pub within : r.used ≤ length held
  pub counted : (r.refused ≤ r.records) × (r.records ≤ r.used)
  pub follows : Follows ended r.stage (drop r.used held) r.used r.next
