-- What "the same" means: two listings are reported so exactly if both are whole and hold the same records. They are then equal.
-- Assumes nothing.
use mathlib.Core.Path.{◌≡◌, refl, sym, ap, ◌∙◌}
use mathlib.Core.Bool.{Bool, true, false, cond, not, ◌&&◌}
use mathlib.Core.Logic.{◌↔◌}
use mathlib.Core.List.{List, [], ◌∷◌, ◌++◌}
use Prim.Native.Nat.{ℕ, zero, suc, ◌+◌, ◌*◌, ◌^◌, ◌≤◌, ◌<◌}
use native.Mathlib.Omega.{arith}
use lib.Dec.{ltb}
use lib.ListN.{length, take, drop, length-take, length-drop, take-append-drop}
use lib.Seq.{drop-drop}
use borrow.Author.Tests.{lt-ltb}
use Rattle.text.specs.Words.{empty}
use Rattle.frames.specs.Frames.{body_length, is_whole, body_of, frame_size}
use Rattle.frames.proofs.FrameAt.{size_whole}
use Rattle.bodies.specs.WellFormed.{Bytes}
use Rattle.records.specs.declared.Asked.{Asked}
use Rattle.listings.proofs.LineLaws.{frame_within}
use Rattle.streams.proofs.Streaming.{bytes_drop}
use Rattle.compared.specs.declared.AskedSides.{AskedSides}
use Rattle.compared.specs.declared.Side.{Side}
use Rattle.compared.specs.declared.Side.TheVariants.{Sound, Cut, Version}
use Rattle.compared.specs.Places.{start_of, version_of, after, front_record, is_cut, cut_at}
use Rattle.compared.specs.Places.Found.{found, none}
use Rattle.compared.specs.Events.{Naming, naming, Event, events_at}
use Rattle.compared.specs.Events.Naming.{unnamed, named}
use Rattle.compared.specs.Report.{Report, ends, sides_of, report_of, not_same, is_different}
use Rattle.compared.specs.Statements.{SameRecords}
use Rattle.compared.proofs.Walks.{Walked, walked, left, Started, started}
use Rattle.compared.proofs.Walks.Walked.{cut, over, on}
use Rattle.compared.proofs.Walks.Started.{sound, unsound}
use Rattle.compared.proofs.WalkEvents.{after_none, neither}
use Rattle.compared.proofs.Namings.{unnamed_exactly}

-- the same of what is left on both sides, at one place
record Alike (xs ys : List ℕ) (k : ℕ) : Type 0 where
  first_uncut : is_cut (after k xs) ≡ false
  second_uncut : is_cut (after k ys) ≡ false
  records : front_record (after k xs) ≡ front_record (after k ys)

-- nothing is named, and nothing is said of a side
abbrev Silent : Report → Type 0
Silent r = r ≡ ends Sound Sound

none_before : (n : ℕ) (what : Naming) {es : List Event} → events_at n what ++ es ≡ [] → (what ≡ unnamed) × (es ≡ [])
none_before n unnamed e = (refl, e)
none_before n (named kind) e = (cc, cc)

said_sound : (b : Bool) → cond b Cut Sound ≡ Sound → b ≡ false
said_sound true e = cc
said_sound false e = refl

alike_none : (k : ℕ) → Alike [] [] k
alike_none k = let e = after_none k in record { first_uncut = rw e; second_uncut = rw e; records = rw e }

alike_left : (xs ys : List ℕ) → ((k : ℕ) → Alike xs ys k) → (k : ℕ) → Alike (left xs) (left ys) k
unfolding after
alike_left xs ys all k = let a = all (suc k) in record { first_uncut = a.first_uncut; second_uncut = a.second_uncut; records = a.records }

records_alike : {first second : List ℕ} → SameRecords first second → (k : ℕ) → Alike (drop 1 first) (drop 1 second) k
records_alike s k = record { first_uncut = (s.uncut k).0; second_uncut = (s.uncut k).1; records = s.records k }

module _ {sides : AskedSides} where
  silent-alike : {n : ℕ} {xs ys : List ℕ} {r : Report} → Walked sides n xs ys r → r.events ≡ [] → r.first ≡ Sound → r.second ≡ Sound → (k : ℕ) → Alike xs ys k
  unfolding after
  silent-alike (cut {n} {xs} {ys} c) e f g k =
      absurd (
      let a = said_sound (is_cut xs) f in
      let b = said_sound (is_cut ys) g in
      let z : ◌≡◌ {A = ℕ} 0 1 = cc in
      omega (arith, z)
      )
  silent-alike over e f g k = alike_none k
  silent-alike (on {n} {xs} {ys} c some w) e f g zero =
      let what = naming sides (front_record xs) (front_record ys) in
      record {
        first_uncut = (neither (is_cut xs) (is_cut ys) c).0;
        second_uncut = (neither (is_cut xs) (is_cut ys) c).1;
        records = (unnamed_exactly sides (front_record xs) (front_record ys)).0 (none_before n what e).0;
      }
  silent-alike (on {n} {xs} {ys} c some w) e f g (suc k) =
      let what = naming sides (front_record xs) (front_record ys) in
      let a = silent-alike w (none_before n what e).1 f g k in
      record { first_uncut = a.first_uncut; second_uncut = a.second_uncut; records = a.records }

  alike-silent : {n : ℕ} {xs ys : List ℕ} {r : Report} → Walked sides n xs ys r → ((k : ℕ) → Alike xs ys k) → Silent r
  unfolding after
  alike-silent (cut {n} {xs} {ys} c) all =
      let a = (all 0).first_uncut in
      let b = (all 0).second_uncut in
      let z : ◌≡◌ {A = ℕ} 0 1 = cc in
      absurd (omega (arith, z))
  alike-silent over all = refl
  alike-silent (on {n} {xs} {ys} {r} c some w) all =
      rw ((unnamed_exactly sides (front_record xs) (front_record ys)).1 (all 0).records) (alike-silent w (alike_left xs ys all))

module _ {asked : Asked} {first second : List ℕ} where
  silent_records : {r : Report} → Started asked first second r → r.events ≡ [] → r.first ≡ Sound → r.second ≡ Sound → SameRecords first second
  silent_records (unsound u) e f g = absurd (let z : ◌≡◌ {A = ℕ} 0 1 = cc in omega (arith, z))
  silent_records (sound s t w) e f g =
      record {
        sound = (s, t);
        uncut = λ k. let a = silent-alike w e f g k in (a.first_uncut, a.second_uncut);
        records = λ k. (silent-alike w e f g k).records;
      }

  records_silent : {r : Report} → Started asked first second r → SameRecords first second → Silent r
  records_silent (unsound u) s = absurd (let a = s.sound.0 in let b = s.sound.1 in let z : ◌≡◌ {A = ℕ} 0 1 = cc in omega (arith, z))
  records_silent (sound f g w) s = alike-silent w (records_alike s)

-- no difference: no event, and both sides sound
not_different : (es : List Event) (first second : Side) → not_same (0 + length es) first second ≡ false → (es ≡ []) × (first ≡ Sound) × (second ≡ Sound)
not_different [] Sound Sound e = (refl, refl, refl)
not_different [] Sound Cut e = (cc, cc, cc)
not_different [] Sound Version e = (cc, cc, cc)
not_different [] Cut s e = (cc, cc, cc)
not_different [] Version s e = (cc, cc, cc)
not_different (x ∷ es) f s e = let some : ltb 0 (0 + suc (length es)) ≡ true = lt-ltb 0 (0 + suc (length es)) (omega arith) in (cc, cc, cc)

module _ (asked : Asked) (first second : List ℕ) where
  -- Two listings are reported the same exactly if they are of the same records.
  pub same_exactly : (is_different 0 (report_of asked first second) ≡ false) ↔ SameRecords first second
  unfolding is_different
  same_exactly =
      let r = report_of asked first second in (
        λ e. let n = not_different r.events r.first r.second e in silent_records (started asked first second) n.0 n.1 n.2,
        λ s. rw (records_silent (started asked first second) s),
      )

-- a whole frame is its two bytes of length, its body, and what is left after it
whole_parts : (xs : List ℕ) → is_whole xs ≡ true → xs ≡ take 2 xs ++ (body_of xs ++ left xs)
whole_parts xs e =
    sym (take-append-drop 2 xs)
    ∙ ap (λ (t : List ℕ). take 2 xs ++ t) (sym (take-append-drop (body_length xs) (drop 2 xs)))
    ∙ ap (λ (t : List ℕ). take 2 xs ++ (body_of xs ++ t)) (drop-drop (body_length xs) 2 xs ∙ ap (λ (n : ℕ). drop n xs) (sym (size_whole xs e)))

whole_within : (xs : List ℕ) → is_whole xs ≡ true → 2 + body_length xs ≤ length xs
whole_within xs e = omega (arith, size_whole xs e, frame_within xs)

length-body : (xs : List ℕ) → is_whole xs ≡ true → length (body_of xs) ≡ body_length xs
length-body xs e = omega (arith, whole_within xs e, length-take (body_length xs) (drop 2 xs), length-drop 2 xs)

-- the two bytes are those of the length, if they are bytes
length-bytes : (xs ys : List ℕ) → Bytes xs → Bytes ys → 2 ≤ length xs → 2 ≤ length ys → body_length xs ≡ body_length ys → take 2 xs ≡ take 2 ys
length-bytes [] ys s t h l e = absurd (omega (arith, h))
length-bytes (a ∷ []) ys s t h l e = absurd (omega (arith, h))
length-bytes (a ∷ b ∷ xs) [] s t h l e = absurd (omega (arith, l))
length-bytes (a ∷ b ∷ xs) (c ∷ []) s t h l e = absurd (omega (arith, l))
length-bytes (a ∷ b ∷ xs) (c ∷ d ∷ ys) s t h l e =
    let small : b < 2 ^ 8 = s 1 in
    let small' : d < 2 ^ 8 = t 1 in
    let same : a * 2 ^ 8 + b ≡ c * 2 ^ 8 + d = e in
    let high : a ≡ c = omega arith in
    let low : b ≡ d = omega arith in
    rw (high, low)

-- so two frames with the same body are the same
frames_equal : (xs ys : List ℕ) → Bytes xs → Bytes ys → is_whole xs ≡ true → is_whole ys ≡ true → body_of xs ≡ body_of ys → left xs ≡ left ys → xs ≡ ys
frames_equal xs ys s t w v body rest =
    let size : body_length xs ≡ body_length ys = sym (length-body xs w) ∙ ap length body ∙ length-body ys v in
    let front = length-bytes xs ys s t (omega (arith, whole_within xs w)) (omega (arith, whole_within ys v)) size in
    whole_parts xs w ∙ rw (front, body, rest) (sym (whole_parts ys v))

-- where the records in front are the same and bytes are left, both are there
both_whole : (xs ys : List ℕ) → (empty xs && empty ys) ≡ false → is_cut xs ≡ false → is_cut ys ≡ false → front_record xs ≡ front_record ys → (is_whole xs ≡ true) × (is_whole ys ≡ true) × (body_of xs ≡ body_of ys)
both_whole xs ys some c d e = go (empty xs) (empty ys) (is_whole xs) (is_whole ys) some c d e
  where
    go : (a b v w : Bool) → (a && b) ≡ false → (not a && not v) ≡ false → (not b && not w) ≡ false → cond v (found (body_of xs)) none ≡ cond w (found (body_of ys)) none → (v ≡ true) × (w ≡ true) × (body_of xs ≡ body_of ys)
    go a b true true some c d e = (refl, refl, cc)
    go a b true false some c d e = (cc, cc, cc)
    go a b false true some c d e = (cc, cc, cc)
    go true true false false some c d e = (cc, cc, cc)
    go true false false false some c d e = (cc, cc, cc)
    go false b false false some c d e = (cc, cc, cc)

alike_equal : {sides : AskedSides} {n : ℕ} {xs ys : List ℕ} {r : Report} → Walked sides n xs ys r → ((k : ℕ) → Alike xs ys k) → Bytes xs → Bytes ys → xs ≡ ys
unfolding after
alike_equal (cut {n} {xs} {ys} c) all s t =
    let a = (all 0).first_uncut in
    let b = (all 0).second_uncut in
    let z : ◌≡◌ {A = ℕ} 0 1 = cc in
    absurd (omega (arith, z))
alike_equal over all s t = refl
alike_equal (on {n} {xs} {ys} {r} c some w) all s t =
    let a = all 0 in
    let whole = both_whole xs ys some a.first_uncut a.second_uncut a.records in
    frames_equal xs ys s t whole.0 whole.1 whole.2
    (alike_equal w (alike_left xs ys all) (bytes_drop xs (frame_size xs) s) (bytes_drop ys (frame_size ys) t))

-- a sound start is a version byte
sound_start : (xs : List ℕ) → start_of xs ≡ Sound → xs ≡ version_of xs ∷ drop 1 xs
sound_start [] e = cc
sound_start (v ∷ xs) e = refl

module _ (asked : Asked) (first second : List ℕ) (first_bytes : Bytes first) (second-bytes : Bytes second) where
  records_equal : SameRecords first second → drop 1 first ≡ drop 1 second
  records_equal s =
      alike_equal (walked (sides_of asked first second) 0 (drop 1 first) (drop 1 second)) (records_alike s) (bytes_drop first 1 first_bytes) (bytes_drop second 1 second-bytes)

  -- Of bytes, two listings are reported the same exactly if both begin as they must, each with its own version, and after that byte they
  -- are equal and cut nowhere.
  pub same_equal_exactly : (is_different 0 (report_of asked first second) ≡ false) ↔ ((drop 1 first ≡ drop 1 second) × (start_of first ≡ Sound) × (start_of second ≡ Sound) × ((k : ℕ) → cut_at first k ≡ false))
  same_equal_exactly = (
    λ e. let s = (same_exactly asked first second).0 e in (records_equal s, s.sound.0, s.sound.1, λ k. (s.uncut k).0),
    λ s. (same_exactly asked first second).1 (record { sound = (s.1, s.2); uncut = λ k. (s.3 k, rw (← s.0) (s.3 k)); records = λ k. rw s.0 }),
  )

  -- So listings of one version are reported the same exactly if they are equal, begin as they must and are cut nowhere.
  pub same_version_exactly : version_of first ≡ version_of second → (is_different 0 (report_of asked first second) ≡ false) ↔ ((first ≡ second) × (start_of first ≡ Sound) × ((k : ℕ) → cut_at first k ≡ false))
  same_version_exactly v = (
    λ e.
        let s = same_equal_exactly.0 e in
        (sound_start first s.1 ∙ rw (v, s.0) (sym (sound_start second s.2)), s.1, s.3),
    λ s. same_equal_exactly.1 (rw s.0, s.1, rw (← s.0) s.1, s.2),
  )
