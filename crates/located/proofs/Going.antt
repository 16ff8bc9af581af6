-- The way from one stage to another: none, one after the other, and that of each step.
-- Assumes nothing.
use Rattle.std.proofs.Common.{◌≡◌, ℕ, ◌+◌, ◌≤◌, true, false, List, [], ◌∷◌, ◌++◌, length, take, drop, refl, ap, ◌∙◌, subst, ap₂, arith, lit≤, length-append}
use Rattle.text.specs.Code.{Put}
use Rattle.text.proofs.Putting.{put_none}
use Rattle.std.specs.Prelude.{Option}
use Rattle.answers.specs.declared.Reason.{Reason}
use Rattle.answers.specs.Reasons.{answer_as}
use Rattle.answers.specs.Refusals.{answer_of}
use Rattle.frames.specs.Numbers.{byte, word}
use Rattle.frames.specs.Frames.{body_length, body_of, known_version}
use Rattle.records.specs.declared.Asked.{Asked}
use Rattle.records.specs.Records.{in_version, refusals}
use Rattle.listings.specs.Lines.{version_line}
use Rattle.streams.specs.Stream.{refused_by}
use Rattle.streams.specs.Counts.{sum_of, listing_sum, frames_end, listing_end}
use Rattle.streams.proofs.Counting.{sum_whole}
use Rattle.streams.proofs.Ending.{end_whole}
use Rattle.streams.proofs.Stepping.{refused_once}
use Rattle.streams.proofs.Streaming.{length_stays, body_stays, after_stays}
use Rattle.located.specs.declared.Stage.{Stage}
use Rattle.located.specs.declared.Stage.TheVariants.{Version, Frames, Done}
use Rattle.streams.specs.declared.Step.{Step}
use Rattle.located.specs.Parts.{record_part, longest_part}
use Rattle.located.specs.Located.{wrapped, parts_of, located_text}
use Rattle.located.specs.Pass.{saying, counting, one, refused_one, end_of, Goes, Unused}
use Rattle.located.specs.Code.{Says, Steps}
use Rattle.located.specs.Ways.{goes_none}
use Rattle.located.proofs.PartLaws.{parts_whole}

-- a version byte that is known, and one that is not
module _ (asked : Asked) {version : ℕ} where
  pub goes_known : (xs : List ℕ) → (length xs ≡ 0 → ⊥) → version ≡ byte xs 0 → known_version version ≡ true → Goes asked Version xs [] (Frames 0 1 version) (drop 1 xs) 0 0
  unfolding saying counting end_of located_text listing_sum listing_end
  goes_known [] some e k = absurd (some refl)
  goes_known (x ∷ xs) some e k =
      let is : known_version x ≡ true = rw (← e) k in
      record { said = λ more. rw (is, e); frames = λ more. rw (is, e) (omega arith); refusals = λ more. rw (is, e) (omega arith); end = λ more. rw is }

  pub goes_unknown : (xs : List ℕ) → (length xs ≡ 0 → ⊥) → version ≡ byte xs 0 → known_version version ≡ false → Goes asked Version xs version_line Done (drop 1 xs) 0 0
  unfolding saying counting end_of located_text listing_sum listing_end
  goes_unknown [] some e k = absurd (some refl)
  goes_unknown (x ∷ xs) some e k =
      let is : known_version x ≡ false = rw (← e) k in
      record { said = λ more. rw is; frames = λ more. rw is; refusals = λ more. rw is; end = λ more. rw is }

-- a whole frame
module _ (asked : Asked) (number offset version : ℕ) (xs : List ℕ) (h : 2 + body_length xs ≤ length xs) where
  abbrev told : Asked
  told = in_version version asked

  longer : (more : List ℕ) → 2 + body_length (xs ++ more) ≤ length (xs ++ more)
  longer more = omega (arith, h, length-append xs more, length_stays xs more (omega (arith, h)))

  summed : (f : List ℕ → ℕ) (more : List ℕ) → sum_of f (xs ++ more) ≡ f (body_of xs) + sum_of f (drop (2 + body_length xs) xs ++ more)
  summed f more =
      sum_whole f (xs ++ more) (longer more)
      ∙ ap₂ (λ (b zs : List ℕ). f b + sum_of f zs) (body_stays xs more h) (after_stays xs more h)

  pub goes_whole : Goes asked (Frames number offset version) xs (record_part told number offset (body_of xs)) (Frames (wrapped (number + 1)) (wrapped (offset + (2 + body_length xs))) version) (drop (2 + body_length xs) xs) 1 (refused_by (answer_of (refusals told (body_of xs))))
  unfolding saying counting end_of
  goes_whole =
      record {
        said =
            λ more.
            parts_whole told number offset (xs ++ more) (longer more)
            ∙ ap (λ (n : ℕ). record_part told number offset (body_of (xs ++ more)) ++ parts_of told (wrapped (number + 1)) (wrapped (offset + (2 + n))) (drop (2 + body_length (xs ++ more)) (xs ++ more))) (length_stays xs more (omega (arith, h)))
            ∙ ap₂ (λ (b zs : List ℕ). record_part told number offset b ++ parts_of told (wrapped (number + 1)) (wrapped (offset + (2 + body_length xs))) zs) (body_stays xs more h) (after_stays xs more h);
        frames = λ more. summed (one version) more;
        refusals = λ more. summed (refused_one asked version) more;
        end = λ more. end_whole (xs ++ more) (longer more) ∙ ap frames_end (after_stays xs more h);
      }

-- a step that uses nothing: the bytes are not enough for it
pub steps_none : {asked : Asked} {stage : Stage} {held before : List ℕ} {out : ℕ} → Unused stage held → Steps asked stage held before out (record { stage = stage; used = 0; out = out; records = 0; refused = 0 }) before
steps_none unused =
    record {
      says = [];
      put = put_none;
      goes = goes_none;
      uses = omega arith;
      short = lit≤ tt;
      refuses = lit≤ tt;
      counts = lit≤ tt;
      none = λ z. (refl, (refl, unused));
    }

-- a step over the version byte
pub steps_version : {asked : Asked} {held says before : List ℕ} {now : Stage} {out next : ℕ} {after : List ℕ} → (length held ≡ 0 → ⊥) → Goes asked Version held says now (drop 1 held) 0 0 → length says ≤ longest_part → Put before out says next after → Steps asked Version held before out (record { stage = now; used = 1; out = next; records = 0; refused = 0 }) after
steps_version {says = says} some goes short put =
    record {
      says = says;
      put = put;
      goes = goes;
      uses = omega (arith, some);
      short = short;
      refuses = lit≤ tt;
      counts = lit≤ tt;
      none = λ z. absurd (omega (arith, z));
    }

-- a step over a whole frame, from what was put of its record
pub steps_whole : (asked : Asked) (number offset version : ℕ) (xs : List ℕ) (k : ℕ) {told : Asked} {n a b refused : ℕ} {why : Option Reason} {before : List ℕ} {out next : ℕ} {after : List ℕ} → told ≡ in_version version asked → n ≡ word xs 0 → 2 + n ≤ length xs → k ≡ n → a ≡ wrapped (number + 1) → b ≡ wrapped (offset + (2 + n)) → length (record_part told number offset (take k (drop 2 xs))) ≤ longest_part → Says told (take k (drop 2 xs)) (record_part told number offset (take k (drop 2 xs))) before out why next after → refused ≡ refused_by (answer_as why) → Steps asked (Frames number offset version) xs before out (record { stage = Frames a b version; used = 2 + n; out = next; records = 1; refused = refused }) after
steps_whole asked number offset version xs k {told} {n} {a} {b} {refused} {why} t e h same one_more further short said by =
    record {
      says = record_part told number offset (take k (drop 2 xs));
      put = said.put;
      goes = goes;
      uses = h;
      short = short;
      refuses = rw by (refused_once (answer_as why));
      counts = omega arith;
      none = λ z. absurd (omega (arith, z));
    }
  where
    goes : Goes asked (Frames number offset version) xs (record_part told number offset (take k (drop 2 xs))) (Frames a b version) (drop (2 + n) xs) 1 refused
    goes = rw (same, one_more, further, by, said.answer, same, t, e) (goes_whole asked number offset version xs (rw (← e) h))

-- a step under another name of its stage
pub steps_at : {asked : Asked} {stage stage' : Stage} {held before : List ℕ} {out : ℕ} {r : Step Stage} {after : List ℕ} → stage ≡ stage' → Steps asked stage held before out r after → Steps asked stage' held before out r after
steps_at {asked} {held = held} {before} {out} {r} {after} e s = subst (λ (t : Stage). Steps asked t held before out r after) e s
