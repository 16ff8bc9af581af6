-- The cases of a step, as the code's tests find them, and what bounds it.
-- Assumes nothing.
use mathlib.Core.Path.{◌≡◌, refl, sym, ap, ap₂, subst, ◌∙◌}
use mathlib.Core.Bool.{true, false}
use mathlib.Core.List.{List, [], ◌∷◌}
use Prim.Native.Nat.{ℕ, suc, ◌+◌, ◌-◌, ◌*◌, ◌≤◌, ◌<◌}
use native.Mathlib.Omega.{arith}
use lib.ListN.{length, take, drop}
use lib.Dec.{eqb, ltb, lit≤}
use borrow.Author.Tests.{lt-ltb, le-ltb, ltb-true, ltb-false}
use Rattle.text.proofs.Choosing.{cond_by}
use Rattle.text.specs.Code.{Put}
use Rattle.text.proofs.Putting.{put_as}
use Rattle.answers.specs.Refusals.{mode as mode_number, length as length_number, answer_of}
use Rattle.std.specs.Prelude.{Option}
use Rattle.answers.specs.declared.Reason.{Reason}
use Rattle.answers.specs.Reasons.{answer_as}
use Rattle.answers.specs.Lines.{refused_line}
use Rattle.answers.proofs.Lines.{refused_most}
use Rattle.frames.specs.Numbers.{byte, word}
use Rattle.frames.specs.Frames.{body_length, body_of, known_version}
use Rattle.bodies.specs.Refusals.{longest_body}
use Rattle.lines.specs.Text.{longest_line}
use Rattle.records.specs.declared.Asked.{Asked}
use Rattle.records.specs.Records.{asked_refused, in_version, refusals}
use Rattle.records.specs.Lines.{record_line}
use Rattle.records.specs.Judged.{text_of}
use Rattle.records.specs.Judged.{Puts}
use Rattle.records.proofs.RecordLines.{record_line_short}
use Rattle.listings.specs.Lines.{version_line}
use Rattle.streams.specs.Stream.{Taken, taken, ended, refused_by, skipped, version_step, frame_step, skip_step, stepped, Alive}
use Rattle.streams.specs.Code.{Took}
use Rattle.streams.specs.declared.Step.{Step}
use Rattle.streams.specs.declared.Stage.{Stage}
use Rattle.streams.specs.declared.Stage.TheVariants.{Version, Frames, Skip, Done}

pub listed_short : (asked : Asked) (body : List ℕ) → length (text_of false asked body) ≤ longest_line + 1
unfolding text_of
listed_short asked body = record_line_short asked body

-- the code's step, from the definition's and from what was put
pub took : {t : Taken} {r : Step Stage} {says before : List ℕ} {out : ℕ} {after : List ℕ} → t ≡ record { stage = r.stage; used = r.used; says = says; records = r.records; refused = r.refused } → Put before out says r.out after → Took t before out r after
took e put =
    record {
      stage_is = ap (λ (t : Taken). t.stage) (sym e);
      used_is = ap (λ (t : Taken). t.used) (sym e);
      records_is = ap (λ (t : Taken). t.records) (sym e);
      refused_is = ap (λ (t : Taken). t.refused) (sym e);
      put = put_as (ap (λ (t : Taken). t.says) (sym e)) put;
    }

-- a step under another name
pub took_as : {t u : Taken} {before : List ℕ} {out : ℕ} {r : Step Stage} {after : List ℕ} → t ≡ u → Took t before out r after → Took u before out r after
took_as e s =
    record {
      stage_is = s.stage_is ∙ ap (λ (t : Taken). t.stage) e;
      used_is = s.used_is ∙ ap (λ (t : Taken). t.used) e;
      records_is = s.records_is ∙ ap (λ (t : Taken). t.records) e;
      refused_is = s.refused_is ∙ ap (λ (t : Taken). t.refused) e;
      put = put_as (ap (λ (t : Taken). t.says) e) s.put;
    }

pub version_none : (xs : List ℕ) → length xs ≡ 0 → version_step xs ≡ taken Version 0 []
version_none [] e = refl
version_none (x ∷ xs) e = absurd (let h : suc (length xs) ≡ 0 = e in omega arith)

module _ {version : ℕ} where
  pub version_known : (xs : List ℕ) → (length xs ≡ 0 → ⊥) → version ≡ byte xs 0 → known_version version ≡ true → version_step xs ≡ taken (Frames version) 1 []
  version_known [] some e k = absurd (some refl)
  version_known (x ∷ xs) some e k = rw (← e, k)

  pub version_unknown : (xs : List ℕ) → (length xs ≡ 0 → ⊥) → version ≡ byte xs 0 → known_version version ≡ false → version_step xs ≡ taken Done 1 version_line
  version_unknown [] some e k = absurd (some refl)
  version_unknown (x ∷ xs) some e k = rw (← e, k)

-- the number of a body that is skipped is that of a refusal, of one digit
skipped_by : (P : ℕ → Type 0) → P mode_number → P length_number → (asked : Asked) → P (skipped asked)
skipped_by P m l asked = cond_by P (asked_refused asked) (λ e. m) (λ e. l)

pub skipped_some : (asked : Asked) → 0 < skipped asked
skipped_some = skipped_by (λ (n : ℕ). 0 < n) (lit≤ tt) (lit≤ tt)

pub skipped-below : (asked : Asked) → skipped asked < 100
skipped-below = skipped_by (λ (n : ℕ). n < 100) (lit≤ tt) (lit≤ tt)

module _ (left size version : ℕ) (asked : Asked) (xs : List ℕ) where
  pub skip_some : length xs < left → skip_step left size version asked xs ≡ taken (Skip (left - length xs) size version) (length xs) []
  skip_some h = rw (lt-ltb (length xs) left h)

  -- with the number that the code found
  pub skip_all : {told : Asked} {number : ℕ} → told ≡ in_version version asked → number ≡ skipped told → left ≤ length xs → skip_step left size version asked xs ≡ ended (Frames version) left (refused_line number) 1
  skip_all t n h = rw (le-ltb (length xs) left h, n, t)

module _ (version : ℕ) (asked : Asked) (xs : List ℕ) where
  pub frame_few : length xs < 2 → frame_step version asked xs ≡ taken (Frames version) 0 []
  frame_few h = rw (lt-ltb (length xs) 2 h)

  module _ {n : ℕ} (e : n ≡ word xs 0) (two : 2 ≤ length xs) where
    pub frame_long : longest_body < n → frame_step version asked xs ≡ taken (Skip n (2 + n) version) 2 []
    frame_long h = rw (le-ltb (length xs) 2 two, ← e, lt-ltb longest_body n h)

    module _ (short : n ≤ longest_body) where
      pub frame_part : length xs < 2 + n → frame_step version asked xs ≡ taken (Frames version) 0 []
      frame_part h = rw (le-ltb (length xs) 2 two, ← e, le-ltb longest_body n short, lt-ltb (length xs) (2 + n) h)

      pub frame_whole : 2 + n ≤ length xs → frame_step version asked xs ≡ ended (Frames version) (2 + n) (record_line (in_version version asked) (take n (drop 2 xs))) (refused_by (answer_of (refusals (in_version version asked) (take n (drop 2 xs)))))
      frame_whole h = rw (le-ltb (length xs) 2 two, ← e, le-ltb longest_body n short, le-ltb (length xs) (2 + n) h)

-- What bounds a step: it uses no more bytes than there are, says no more than a line, and nothing where it uses none; its counts are no
-- more than what it uses; the stage is one from which it goes on; and bytes of which it uses none are few.
pub record Bounded (t : Taken) (xs : List ℕ) : Type 0 where
  pub uses : t.used ≤ length xs
  pub short : length t.says ≤ longest_line + 1
  pub said : length t.says ≤ (longest_line + 1) * t.used
  pub counts : t.records ≤ t.used
  pub refuses : t.refused ≤ t.records
  pub alive : Alive t.stage
  pub few : t.used ≡ 0 → length xs ≤ longest_body + 1

module _ (xs : List ℕ) where
  quiet : (stage : Stage) (used : ℕ) → used ≤ length xs → Alive stage → (used ≡ 0 → length xs ≤ longest_body + 1) → Bounded (taken stage used []) xs
  quiet stage used within alive few =
      record {
        uses = within;
        short = lit≤ tt;
        said = omega arith;
        counts = omega arith;
        refuses = lit≤ tt;
        alive = alive;
        few = few;
      }

  ending : (version used : ℕ) (says : List ℕ) (refused : ℕ) → 0 < used → used ≤ length xs → length says ≤ longest_line + 1 → refused ≤ 1 → Bounded (ended (Frames version) used says refused) xs
  ending version used says refused some within short once =
      record {
        uses = within;
        short = short;
        said = omega arith;
        counts = omega arith;
        refuses = once;
        alive = tt;
        few = λ z. absurd (omega arith);
      }

pub refused_once : (answer : ℕ) → refused_by answer ≤ 1
refused_once answer = cond_by (λ (n : ℕ). n ≤ 1) (eqb answer 0) (λ e. lit≤ tt) (λ e. lit≤ tt)

pub bounded : (asked : Asked) (stage : Stage) (xs : List ℕ) → Alive stage → Bounded (stepped asked stage xs) xs
unfolding stepped
bounded asked Version [] alive = quiet [] Version 0 (lit≤ tt) tt (λ z. lit≤ tt)
bounded asked Version (v ∷ xs) alive =
    cond_by (λ (t : Taken). Bounded t (v ∷ xs)) (known_version v) (λ e. quiet (v ∷ xs) (Frames v) 1 (omega arith) tt (λ z. absurd (omega arith)))
    (λ e.
    record {
      uses = omega arith;
      short = lit≤ tt;
      said = lit≤ tt;
      counts = lit≤ tt;
      refuses = lit≤ tt;
      alive = tt;
      few = λ z. absurd (omega arith);
    })
bounded asked (Frames version) xs alive =
    cond_by B (ltb (length xs) 2) (λ e. quiet xs (Frames version) 0 (omega arith) tt (λ z. omega (arith, ltb-true (length xs) 2 e)))
    (λ (two : ltb (length xs) 2 ≡ false).
    cond_by B (ltb longest_body n) (λ e. quiet xs (Skip n (2 + n) version) 2 (ltb-false (length xs) 2 two) (omega (arith, ltb-true longest_body n e), omega arith) (λ z. absurd (omega arith)))
    (λ (short : ltb longest_body n ≡ false).
    cond_by B (ltb (length xs) (2 + n)) (λ e. quiet xs (Frames version) 0 (omega arith) tt (λ z. omega (arith, ltb-true (length xs) (2 + n) e, ltb-false longest_body n short)))
    (λ (all : ltb (length xs) (2 + n) ≡ false).
    ending xs version (2 + n) (record_line told (body_of xs)) (refused_by (answer_of (refusals told (body_of xs)))) (omega arith) (ltb-false (length xs) (2 + n) all) (record_line_short told (body_of xs)) (refused_once (answer_of (refusals told (body_of xs)))))))
  where
    told : Asked
    told = in_version version asked

    n : ℕ
    n = body_length xs

    B : Taken → Type 0
    B t = Bounded t xs
bounded asked (Skip left size version) xs alive =
    cond_by (λ (t : Taken). Bounded t xs) (ltb (length xs) left) (λ e. quiet xs (Skip (left - length xs) size version) (length xs) (omega arith) (omega (arith, ltb-true (length xs) left e), omega (arith, alive.1)) (λ z. omega (arith, z)))
    (λ (all : ltb (length xs) left ≡ false). ending xs version left (refused_line (skipped (in_version version asked))) 1 alive.0 (ltb-false (length xs) left all) (omega (arith, refused_most (skipped (in_version version asked)))) (lit≤ tt))
bounded asked Done xs alive = quiet xs Done (length xs) (omega arith) tt (λ z. omega (arith, z))

-- a whole frame's step, from what was put of its record
pub whole_took : (version : ℕ) (asked : Asked) (xs : List ℕ) (k : ℕ) {told : Asked} {n refused : ℕ} {why : Option Reason} {before : List ℕ} {out next : ℕ} {after : List ℕ} → told ≡ in_version version asked → n ≡ word xs 0 → 2 ≤ length xs → n ≤ longest_body → 2 + n ≤ length xs → k ≡ n → Puts false told (take k (drop 2 xs)) before out why next after → refused ≡ refused_by (answer_as why) → Took (frame_step version asked xs) before out (record { stage = Frames version; used = 2 + n; out = next; records = 1; refused = refused }) after
unfolding text_of
whole_took version asked xs k {told} {n} {refused} t e two short all same puts by =
    took (frame_whole version asked xs e two short all ∙ ap (λ (m : ℕ). ended (Frames version) (2 + n) (record_line (in_version version asked) (take n (drop 2 xs))) m) counted)
    (put_as (ap₂ (λ (a : Asked) (j : ℕ). record_line a (take j (drop 2 xs))) t same) puts.put)
  where
    counted : refused_by (answer_of (refusals (in_version version asked) (take n (drop 2 xs)))) ≡ refused
    counted = rw (← t, ← same, ← puts.answer) (sym by)

-- what is left of a frame is of the frame
pub skip_within : {stage : Stage} {left size version : ℕ} → stage ≡ Skip left size version → Alive stage → left ≤ size
skip_within e alive = (subst Alive e alive).1
