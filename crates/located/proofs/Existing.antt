-- Every sequence of reads has a run: there is a pass from every stage with any bytes, that goes on until they are not enough for a step.
-- Assumes nothing.
use Rattle.std.proofs.Common.{◌≡◌, ℕ, zero, suc, ◌+◌, ◌^◌, ◌<◌, ◌≤◌, Bool, true, false, ltb, ◌⊎◌, List, [], ◌∷◌, ◌++◌, length, drop, sym, refl, ap, ◌∙◌, subst, inl, inr, append_assoc, arith, lit<, lit≤, length-drop, drop-drop, ltb-false, ltb-true}
use lib.Seq.{take-length, drop-append-le}
use Rattle.text.specs.Words.{join}
use Rattle.text.proofs.Choosing.{cond_by}
use Rattle.answers.specs.Refusals.{answer_of}
use Rattle.frames.specs.Frames.{body_length, body_of, known_version}
use Rattle.bodies.specs.WellFormed.{Bytes}
use Rattle.records.specs.declared.Asked.{Asked}
use Rattle.records.specs.Records.{in_version, refusals}
use Rattle.streams.specs.Pass.{last_line}
use Rattle.streams.specs.declared.Next.{Next}
use Rattle.streams.specs.declared.Next.TheVariants.{Full, Read, Whole, Cut, Unknown}
use Rattle.streams.proofs.Stepping.{refused_once}
use Rattle.streams.proofs.Streaming.{part_cut, bytes_drop}
use Rattle.located.specs.declared.Stage.{Stage}
use Rattle.located.specs.declared.Stage.TheVariants.{Version, Frames, Done}
use Rattle.streams.specs.declared.Passed.{Passed}
use Rattle.located.specs.Located.{wrapped}
use Rattle.located.specs.Pass.{Goes, Unused, next_at, Passes}
use Rattle.located.specs.Pass.Follows.{rests}
use Rattle.located.specs.Runs.{Runs}
use Rattle.located.specs.Runs.Runs.{more as run_more, none as run_none, stop}
use Rattle.located.specs.Ways.{goes_none, goes_then}
use Rattle.located.proofs.Going.{goes_known, goes_unknown, goes_whole}

-- a way on which all steps are taken that these bytes are enough for
record Way (asked : Asked) (stage : Stage) (held : List ℕ) : Type 0 where
  says : List ℕ
  now : Stage
  used : ℕ
  records : ℕ
  refused : ℕ
  goes : Goes asked stage held says now (drop used held) records refused
  within : used ≤ length held
  counts : records ≤ used
  refuses : refused ≤ records
  unused : Unused now (drop used held)

-- the length of a body is one of two bytes
length-small : (xs : List ℕ) → Bytes xs → body_length xs < 2 ^ 16
length-small xs small = omega (arith, small 0, small 1)

module _ {asked : Asked} where
  way_none : (stage : Stage) (held : List ℕ) → Unused stage held → Way asked stage held
  way_none stage held unused =
      record {
        says = [];
        now = stage;
        used = 0;
        records = 0;
        refused = 0;
        goes = goes_none;
        within = omega arith;
        counts = lit≤ tt;
        refuses = lit≤ tt;
        unused = unused;
      }

  -- a step, and the way from there
  way_then : {stage : Stage} {held says : List ℕ} {now : Stage} (used : ℕ) {a b : ℕ} → Goes asked stage held says now (drop used held) a b → used ≤ length held → a ≤ used → b ≤ a → Way asked now (drop used held) → Way asked stage held
  way_then {stage} {held} {says} used {a} {b} goes within counts refuses w =
      let same = drop-drop w.used used held in
      record {
        says = says ++ w.says;
        now = w.now;
        used = used + w.used;
        records = a + w.records;
        refused = b + w.refused;
        goes = subst (λ (xs : List ℕ). Goes asked stage held (says ++ w.says) w.now xs (a + w.records) (b + w.refused)) same (goes_then goes w.goes);
        within = omega (arith, within, w.within, length-drop used held);
        counts = omega (arith, counts, w.counts);
        refuses = omega (arith, refuses, w.refuses);
        unused = subst (Unused w.now) same w.unused;
      }

  cut_way : (number offset version : ℕ) (held : List ℕ) → Bytes held → length held < 2 + body_length held → Way asked (Frames number offset version) held
  cut_way number offset version held small h =
      way_none (Frames number offset version) held (part_cut held h, omega (arith, h, length-small held small))

  frames_way : (k number offset version : ℕ) (held : List ℕ) → length held ≤ k → Bytes held → Way asked (Frames number offset version) held
  frames_way zero number offset version held h small = cut_way number offset version held small (omega (arith, h))
  frames_way (suc k) number offset version held h small =
      let size = 2 + body_length held in
      cond_by (λ (b : Bool). Way asked (Frames number offset version) held) (ltb (length held) size) {x = true} {y = false}
      (λ e. cut_way number offset version held small (ltb-true (length held) size e))
      (λ e.
      let whole : size ≤ length held = ltb-false (length held) size e in
      way_then size (goes_whole asked number offset version held whole) whole (omega arith) (refused_once (answer_of (refusals (in_version version asked) (body_of held))))
      (frames_way k (wrapped (number + 1)) (wrapped (offset + size)) version (drop size held) (omega (arith, h, whole, length-drop size held)) (bytes_drop held size small)))

  way : (stage : Stage) (held : List ℕ) → Bytes held → Way asked stage held
  way Version [] small = way_none Version [] refl
  way Version (x ∷ xs) small =
      cond_by (λ (b : Bool). Way asked Version (x ∷ xs)) (known_version x) {x = true} {y = false}
      (λ e. way_then 1 (goes_known asked (x ∷ xs) (λ z. absurd (omega (arith, z))) refl e) (omega arith) (lit≤ tt) (lit≤ tt) (frames_way (length xs) 0 1 x xs (omega arith) (bytes_drop (x ∷ xs) 1 small)))
      (λ e. way_then 1 (goes_unknown asked (x ∷ xs) (λ z. absurd (omega (arith, z))) refl e) (omega arith) (lit≤ tt) (lit≤ tt) (way_none Done xs tt))
  way (Frames number offset version) held small = frames_way (length held) number offset version held (omega arith) small
  way Done held small = way_none Done held tt

  -- the pass that goes it
  abbrev passed : {stage : Stage} {held : List ℕ} → Bool → Way asked stage held → Passed Stage
  passed {held = held} ended w =
      record {
        stage = w.now;
        used = w.used;
        out = length (w.says ++ last_line (next_at ended w.now (length (drop w.used held))));
        records = w.records;
        refused = w.refused;
        next = next_at ended w.now (length (drop w.used held));
      }

  passes : {stage : Stage} {held : List ℕ} (ended : Bool) (w : Way asked stage held) → Passes asked stage held ended (passed ended w) (w.says ++ last_line (next_at ended w.now (length (drop w.used held))))
  passes {held = held} ended w =
      record {
        says = w.says;
        goes = w.goes;
        text = take-length (w.says ++ last_line (next_at ended w.now (length (drop w.used held))));
        fits = omega arith;
        within = w.within;
        counted = (w.refuses, w.counts);
        follows = rests refl w.unused;
      }

-- the bytes in front of others are bytes
bytes-front : (xs ys : List ℕ) → Bytes (xs ++ ys) → Bytes xs
bytes-front [] ys small at = lit< tt
bytes-front (x ∷ xs) ys small zero = small 0
bytes-front (x ∷ xs) ys small (suc at) = bytes-front xs ys (λ at. small (suc at)) at

-- what comes next is told apart by the stage
abbrev apart : Next → ℕ
apart Full = 0
apart Read = 1
apart Whole = 2
apart Cut = 3
apart Unknown = 4

next_ended : (stage : Stage) (held : ℕ) → 2 ≤ apart (next_at true stage held)
next_ended Version held = lit≤ tt
next_ended (Frames number offset version) held = cond_by (λ (n : Next). 2 ≤ apart n) (ltb 0 held) (λ e. lit≤ tt) (λ e. lit≤ tt)
next_ended Done held = lit≤ tt

next_going : (stage : Stage) (held : ℕ) → (next_at false stage held ≡ Read) ⊎ (2 ≤ apart (next_at false stage held))
next_going Version held = inl refl
next_going (Frames number offset version) held = inl refl
next_going Done held = inr (lit≤ tt)

pub record Ran (asked : Asked) (ended : Bool) (stage : Stage) (held : List ℕ) (reads : List (List ℕ)) : Type 0 where
  pub written : List ℕ
  pub records : ℕ
  pub refused : ℕ
  pub used : ℕ
  pub last : Next
  pub runs : Runs asked ended stage held reads written records refused used last

module _ {asked : Asked} where
  stops : {ended : Bool} {stage : Stage} {held : List ℕ} {reads : List (List ℕ)} {r : Passed Stage} {after : List ℕ} → Passes asked stage held ended r after → 2 ≤ apart r.next → Ran asked ended stage held reads
  stops p h =
      record {
        written = _;
        records = _;
        refused = _;
        used = _;
        last = _;
        runs = stop p (λ e. absurd (omega (arith, h, ap apart e))) (λ e. absurd (omega (arith, h, ap apart e)));
      }

  ends : (stage : Stage) (held : List ℕ) → Bytes held → Ran asked true stage held []
  ends stage held small =
      let w : Way asked stage held = way stage held small in
      stops (passes true w) (next_ended w.now (length (drop w.used held)))

  -- For every sequence of reads there is a run, from every stage and with any bytes held.
  pub runs_exist : (stage : Stage) (held : List ℕ) (reads : List (List ℕ)) → Bytes (held ++ join reads) → Ran asked false stage held reads
  runs_exist stage held [] small = go (next_going w.now (length (drop w.used held)))
    where
      w : Way asked stage held
      w = way stage held (bytes-front held [] small)

      rest : Ran asked true w.now (drop w.used held) []
      rest = ends w.now (drop w.used held) (bytes_drop held w.used (bytes-front held [] small))

      go : (next_at false w.now (length (drop w.used held)) ≡ Read) ⊎ (2 ≤ apart (next_at false w.now (length (drop w.used held)))) → Ran asked false stage held []
      go (inl e) = record { written = _; records = _; refused = _; used = _; last = _; runs = run_none (passes false w) e rest.runs }
      go (inr h) = stops (passes false w) h
  runs_exist stage held (bytes ∷ reads) small =
      go (next_going w.now (length (drop w.used held)))
      (runs_exist w.now (drop w.used held ++ bytes) reads (subst Bytes later (bytes_drop (held ++ (bytes ++ join reads)) w.used small)))
    where
      w : Way asked stage held
      w = way stage held (bytes-front held (bytes ++ join reads) small)

      later : drop w.used (held ++ (bytes ++ join reads)) ≡ (drop w.used held ++ bytes) ++ join reads
      later = drop-append-le w.used held (bytes ++ join reads) w.within ∙ sym (append_assoc (drop w.used held) bytes (join reads))

      go : (next_at false w.now (length (drop w.used held)) ≡ Read) ⊎ (2 ≤ apart (next_at false w.now (length (drop w.used held)))) → Ran asked false w.now (drop w.used held ++ bytes) reads → Ran asked false stage held (bytes ∷ reads)
      go (inl e) rest = record { written = _; records = _; refused = _; used = _; last = _; runs = run_more (passes false w) e rest.runs }
      go (inr h) rest = stops (passes false w) h
