-- A step of the code, from what it found on each side and what it put.
-- Assumes nothing.
use mathlib.Core.Path.{◌≡◌, refl, sym, ap, ap₂, subst, ◌∙◌}
use mathlib.Core.Bool.{Bool, true, false}
use mathlib.Core.List.{List, [], ◌∷◌, ◌++◌}
use Prim.Native.Nat.{ℕ, ◌+◌, ◌-◌, ◌≤◌, ◌<◌}
use native.Mathlib.Nat.{add-zero}
use native.Mathlib.Omega.{arith}
use lib.Dec.{lit≤, lit<}
use lib.ListN.{length, take, drop, length-drop, drop_of_length-le}
use lib.Seq.{drop-drop, get_or-drop}
use Rattle.text.specs.Code.{Put}
use Rattle.text.proofs.Putting.{put_none}
use Rattle.frames.specs.Numbers.{byte}
use Rattle.frames.specs.Frames.{body_length}
use Rattle.frames.proofs.FrameAt.{WholeAt}
use Rattle.cursors.specs.Code.{place_after, Sees}
use Rattle.cursors.specs.declared.Stands.{Stands}
use Rattle.cursors.specs.declared.Stands.TheVariants.{Body, End, Cut, More}
use Rattle.cursors.proofs.StandsAt.{body_stands, end_stands, cut_stands, more_stands}
use Rattle.records.specs.declared.Asked.{Asked}
use Rattle.compared.specs.declared.AskedSides.{AskedSides}
use Rattle.compared.specs.declared.Side.{Side}
use Rattle.compared.specs.declared.Side.TheVariants.{Sound}
use Rattle.compared.specs.declared.Noted.{Noted}
use Rattle.compared.specs.declared.Next.TheVariants.{On, First as WantsFirst, Second as WantsSecond, Nothing}
use Rattle.compared.specs.declared.Stage.{Stage}
use Rattle.compared.specs.declared.Passed.{Passed}
use Rattle.compared.specs.declared.Stage.TheVariants.{Versions, Records, Done}
use Rattle.compared.specs.Places.{Found, start_of, version_of, is_cut}
use Rattle.compared.specs.Places.Found.{found, none}
use Rattle.compared.specs.Events.{naming, events_at}
use Rattle.compared.specs.Report.{in_versions, not_same}
use Rattle.compared.specs.Text.{capped, events_text, end_text, longest_event}
use Rattle.cursors.specs.Longest.{longest_frame}
use Rattle.compared.specs.Pass.{Comes, Goes}
use Rattle.compared.specs.Pass.Follows.{goes_on as follows_on, wants_first, wants_second, ends as follows_end}
use Rattle.compared.specs.Code.{wanting, Notes, Steps}
use Rattle.compared.proofs.SideTexts.{end_most}
use Rattle.compared.proofs.EventTexts.{events_most}
use Rattle.compared.proofs.Fronts.{Front, front-body, front_end, cut_stays}
use Rattle.compared.proofs.Going.{goes_none, goes_on, goes_known, goes_unknown, both_sound}

-- A side's place where a record stands, or the end, and the place after it.
pub record Placed (xs : List ℕ) (at : ℕ) (ended : Bool) (f : Found) (next : ℕ) : Type 0 where
  pub size : ℕ
  pub front : Front ended (drop at xs) f size
  pub after : next ≡ at + size
  pub within : next ≤ length xs

module _ {xs : List ℕ} {at : ℕ} {ended : Bool} {s : Stands} (sees : Sees xs at ended s) where
  body-there : {start end : ℕ} → s ≡ Body start end → WholeAt xs at start end
  body-there e = body_stands xs at ended (sym e ∙ sees.there)

  pub placed_body : {start end next : ℕ} → s ≡ Body start end → next ≡ place_after at s → (Placed xs at ended (found (take (end - start) (drop start xs))) next) × (at < next)
  placed_body {start} {end} {next} e n =
      let w = body-there e in
      let to : next ≡ end = n ∙ ap (place_after at) e in
      let inside : 2 + body_length (drop at xs) ≤ length (drop at xs) = omega (arith, w.to, w.within, length-drop at xs) in (
        record {
          size = 2 + body_length (drop at xs);
          front = rw w.body (front-body ended (drop at xs) inside);
          after = omega (arith, to, w.to);
          within = omega (arith, to, w.within);
        },
        omega (arith, to, w.to),
      )

  pub placed_end : {next : ℕ} → s ≡ End → next ≡ place_after at s → at ≤ length xs → Placed xs at ended none next
  placed_end {next} e n placed =
      let there = end_stands xs at ended (sym e ∙ sees.there) in
      let to : next ≡ at = n ∙ ap (place_after at) e in
      record {
        size = 0;
        front = rw (drop_of_length-le xs {i = at} there.1) (front_end there.0);
        after = omega (arith, to);
        within = omega (arith, to, placed);
      }

  -- nothing is left at the end, and nothing comes
  pub end_empty : s ≡ End → (more : List ℕ) → Comes ended more → drop at xs ++ more ≡ []
  end_empty e more comes =
      let there = end_stands xs at ended (sym e ∙ sees.there) in
      ap₂ (λ (us vs : List ℕ). us ++ vs) (drop_of_length-le xs {i = at} there.1) (comes there.0)

  -- whether it is cut there, whatever comes
  pub cut_there : s ≡ Cut → (more : List ℕ) → Comes ended more → is_cut (drop at xs ++ more) ≡ true
  cut_there e =
      let there = cut_stands xs at ended (sym e ∙ sees.there) in
      cut_stays (drop at xs) there.0 (omega (arith, there.1.0, length-drop at xs)) there.1.1

  pub more_there : s ≡ More → (ended ≡ false) × (length (drop at xs) < longest_frame)
  more_there e = (more_stands xs at ended (sym e ∙ sees.there), omega (arith, sees.few e, length-drop at xs))

-- a side that is not cut where a record stands, or the end
uncut_there : {xs : List ℕ} {at : ℕ} {ended : Bool} {f : Found} {next : ℕ} → Placed xs at ended f next → (more : List ℕ) → Comes ended more → is_cut (drop at xs ++ more) ≡ false
uncut_there p = p.front.uncut

module _ {asked : Asked} {stage : Stage} {xs ys : List ℕ} {at at' : ℕ} {ended ended' : Bool} {before : List ℕ} {out : ℕ} (placed : (at ≤ length xs) × (at' ≤ length ys)) where
  -- bytes are wanted
  pub steps_first : (ended ≡ false) × (length (drop at xs) < longest_frame) → Steps asked stage xs ys at at' ended ended' before out (record { stage = stage; first = at; second = at'; out = out; next = WantsFirst }) before
  steps_first w =
      record {
        says = [];
        put = put_none;
        goes = goes_none;
        short = lit≤ tt;
        onward = (omega arith, omega arith);
        within = placed;
        follows = wants_first refl w.0 w.1;
      }

  pub steps_second : (ended' ≡ false) × (length (drop at' ys) < longest_frame) → Steps asked stage xs ys at at' ended ended' before out (record { stage = stage; first = at; second = at'; out = out; next = WantsSecond }) before
  steps_second w =
      record {
        says = [];
        put = put_none;
        goes = goes_none;
        short = lit≤ tt;
        onward = (omega arith, omega arith);
        within = placed;
        follows = wants_second refl w.0 w.1;
      }

  -- the run ends
  pub steps_end : {different : Bool} {next : ℕ} {after : List ℕ} (says : List ℕ) → Goes asked ended ended' stage (drop at xs) (drop at' ys) says (Done different) (drop at xs) (drop at' ys) → Put before out says next after → length says ≤ longest_event → Steps asked stage xs ys at at' ended ended' before out (record { stage = Done different; first = at; second = at'; out = next; next = Nothing }) after
  steps_end {different} says goes put short =
      record {
        says = says;
        put = put;
        goes = goes;
        short = short;
        onward = (omega arith, omega arith);
        within = placed;
        follows = follows_end refl different refl;
      }

-- the end of a run is said already
pub steps_done : {asked : Asked} {different : Bool} {xs ys : List ℕ} {at at' : ℕ} {ended ended' : Bool} {before : List ℕ} {out : ℕ} → (at ≤ length xs) × (at' ≤ length ys) → Steps asked (Done different) xs ys at at' ended ended' before out (record { stage = Done different; first = at; second = at'; out = out; next = Nothing }) before
steps_done placed = steps_end placed [] goes_none put_none (lit≤ tt)

-- what is said of a record where one stands, on both sides or on one
pub steps_note : {asked : Asked} {sides : AskedSides} {xs ys : List ℕ} {at at' : ℕ} {ended ended' : Bool} {f g : Found} {p q : ℕ} {before : List ℕ} {out number named v w number' : ℕ} {noted : Noted} {after : List ℕ} → Placed xs at ended f p → Placed ys at' ended' g q → at + at' < p + q → number' ≡ capped (number + 1) → sides ≡ in_versions v w asked → Notes sides number named f g before out noted after → Steps asked (Records number named v w) xs ys at at' ended ended' before out (record { stage = Records number' noted.named v w; first = p; second = q; out = noted.out; next = On }) after
steps_note {asked} {sides} {xs} {ys} {at} {at'} {ended} {ended'} {f} {g} {p} {q} {before} {out} {number} {named} {v} {w} {number'} {noted} {after} x y some e told noted-there =
    let left : drop x.size (drop at xs) ≡ drop p xs = drop-drop x.size at xs ∙ ap (λ (n : ℕ). drop n xs) (sym x.after) in
    let left' : drop y.size (drop at' ys) ≡ drop q ys = drop-drop y.size at' ys ∙ ap (λ (n : ℕ). drop n ys) (sym y.after) in
    let notes : Notes (in_versions v w asked) number named f g before out noted after = subst (λ (s : AskedSides). Notes s number named f g before out noted after) told noted-there in
    let says = events_text (events_at number (naming (in_versions v w asked) f g)) in
    let goes = goes_on asked (drop at xs) (drop at' ys) x.front y.front (omega (arith, some, x.after, y.after)) v w number named e notes.count in
    record {
      says = says;
      put = notes.put;
      goes =
          subst (λ (us : List ℕ). Goes asked ended ended' (Records number named v w) (drop at xs) (drop at' ys) says (Records number' noted.named v w) us (drop q ys)) left
          (subst (λ (vs : List ℕ). Goes asked ended ended' (Records number named v w) (drop at xs) (drop at' ys) says (Records number' noted.named v w) (drop x.size (drop at xs)) vs) left' goes);
      short = events_most (in_versions v w asked) number f g;
      onward = (omega (arith, x.after), omega (arith, y.after));
      within = (x.within, y.within);
      follows = follows_on refl (omega (arith, some, x.after, y.after));
    }

-- the version bytes: one is wanted, both are known, or not
pub wanting_few : (ended : Bool) (xs : List ℕ) → wanting xs ended ≡ true → (ended ≡ false) × (length xs < longest_frame)
wanting_few true [] e = absurd (let z : ◌≡◌ {A = ℕ} 0 1 = cc in omega arith)
wanting_few false [] e = (refl, lit< tt)
wanting_few ended (x ∷ xs) e = absurd (let z : ◌≡◌ {A = ℕ} 0 1 = cc in omega arith)

sound_some : (xs : List ℕ) → start_of xs ≡ Sound → 0 < length xs
sound_some [] e = absurd (let z : ◌≡◌ {A = ℕ} 0 1 = cc in omega arith)
sound_some (x ∷ xs) e = omega arith

-- the byte at a side's place is the version of what stands there
version_at : (xs : List ℕ) (at : ℕ) {v : ℕ} → v ≡ byte xs at → version_of (drop at xs) ≡ v
version_at xs at e = get_or-drop at xs 0 0 ∙ ap (byte xs) (add-zero at) ∙ sym e

-- where both sides are found sound, both have their version byte
pub known_there : (xs ys : List ℕ) (at at' : ℕ) {a b : Side} {differ : Bool} → a ≡ start_of (drop at xs) → b ≡ start_of (drop at' ys) → differ ≡ not_same 0 a b → differ ≡ false → (at + 1 ≤ length xs) × (at' + 1 ≤ length ys)
known_there xs ys at at' {a} {b} e e' told d =
    let sound = both_sound a b (sym told ∙ d) in
    let there = sound_some (drop at xs) (sym e ∙ sound.0) in
    let there' = sound_some (drop at' ys) (sym e' ∙ sound.1) in
    (omega (arith, there, length-drop at xs), omega (arith, there', length-drop at' ys))

module _ {asked : Asked} {xs ys : List ℕ} {at at' : ℕ} {ended ended' : Bool} {before : List ℕ} {out : ℕ} (placed : (at ≤ length xs) × (at' ≤ length ys)) {a b : Side} (e : a ≡ start_of (drop at xs)) (e' : b ≡ start_of (drop at' ys)) {differ : Bool} (told : differ ≡ not_same 0 a b) where
  pub steps_unknown : {next : ℕ} {after : List ℕ} → wanting (drop at xs) ended ≡ false → wanting (drop at' ys) ended' ≡ false → differ ≡ true → Put before out (end_text a b 0) next after → Steps asked Versions xs ys at at' ended ended' before out (record { stage = Done true; first = at; second = at'; out = next; next = Nothing }) after
  steps_unknown w w' d put =
      steps_end placed (end_text a b 0)
      (rw (e, e') (goes_unknown asked (drop at xs) (drop at' ys) w w' (ap₂ (not_same 0) (sym e) (sym e') ∙ sym told ∙ d))) put (end_most a b 0)

  pub steps_known : {v w : ℕ} → differ ≡ false → v ≡ byte xs at → w ≡ byte ys at' → Steps asked Versions xs ys at at' ended ended' before out (record { stage = Records 0 0 v w; first = at + 1; second = at' + 1; out = out; next = On }) before
  steps_known d i j =
      let sound = both_sound a b (sym told ∙ d) in
      record {
        says = [];
        put = put_none;
        goes =
            rw (← (drop-drop 1 at xs), ← (drop-drop 1 at' ys), ← (version_at xs at i), ← (version_at ys at' j))
            (goes_known asked (drop at xs) (drop at' ys) (sym e ∙ sound.0) (sym e' ∙ sound.1));
        short = lit≤ tt;
        onward = (omega arith, omega arith);
        within = known_there xs ys at at' e e' told d;
        follows = follows_on refl (omega arith);
      }

-- a step under another name of its stage
pub steps_at : {asked : Asked} {stage stage' : Stage} {xs ys : List ℕ} {at at' : ℕ} {ended ended' : Bool} {before : List ℕ} {out : ℕ} {r : Passed} {after : List ℕ} → stage ≡ stage' → Steps asked stage xs ys at at' ended ended' before out r after → Steps asked stage' xs ys at at' ended ended' before out r after
steps_at {asked} {xs = xs} {ys} {at} {at'} {ended} {ended'} {before} {out} {r} {after} e s = subst (λ (t : Stage). Steps asked t xs ys at at' ended ended' before out r after) e s

-- a step under other names of what is held on each side
pub steps_held : {asked : Asked} {stage : Stage} {xs xs' ys ys' : List ℕ} {at a at' a' : ℕ} {ended e ended' e' : Bool} {before : List ℕ} {out : ℕ} {r : Passed} {after : List ℕ} → ((xs ≡ xs') × (at ≡ a)) × (ended ≡ e) → ((ys ≡ ys') × (at' ≡ a')) × (ended' ≡ e') → Steps asked stage xs ys at at' ended ended' before out r after → Steps asked stage xs' ys' a a' e e' before out r after
steps_held p q s = rw (← p.0.0, ← p.0.1, ← p.1, ← q.0.0, ← q.0.1, ← q.1) s
