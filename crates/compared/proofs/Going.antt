-- The way from one stage to another: none, one after the other, and that of each step.
-- Assumes nothing.
use mathlib.Core.Path.{◌≡◌, refl, sym, ap, ap₂, ◌∙◌}
use mathlib.Core.Bool.{Bool, true, false, cond, ◌&&◌, ◌||◌}
use mathlib.Core.List.{List, [], ◌∷◌, ◌++◌, append_assoc, append-nil}
use Prim.Native.Nat.{ℕ, suc, ◌+◌, ◌<◌}
use native.Mathlib.Nat.{add-zero, add_assoc}
use native.Mathlib.Omega.{arith}
use lib.ListN.{length, drop, length-append}
use Rattle.text.specs.Words.{empty}
use Rattle.frames.specs.Frames.{frame_size}
use Rattle.records.specs.declared.Asked.{Asked}
use Rattle.compared.specs.declared.AskedSides.{AskedSides}
use Rattle.compared.specs.declared.Side.{Side}
use Rattle.compared.specs.declared.Side.TheVariants.{Sound, Cut, Version}
use Rattle.compared.specs.declared.Stage.{Stage}
use Rattle.compared.specs.declared.Stage.TheVariants.{Versions, Records, Done}
use Rattle.compared.specs.Places.{Found, start_of, version_of}
use Rattle.compared.specs.Events.{naming, Event, events_at}
use Rattle.compared.specs.Report.{Report, ends, before, walk, is_sound, in_versions, sides_of, not_same, is_different, report_of}
use Rattle.compared.specs.Text.{capped, events_text, end_text, report_text, comparison}
use Rattle.compared.specs.Code.{wanting}
use Rattle.compared.specs.Pass.{saying, differing, Comes, Goes}
use Rattle.compared.proofs.Walks.{walk_step}
use Rattle.compared.proofs.Fronts.{Front}
use Rattle.compared.proofs.Capping.{Alike, alike-walk, alike_text, alike_different, events_append}

pub goes_none : {asked : Asked} {ended ended' : Bool} {stage : Stage} {xs ys : List ℕ} → Goes asked ended ended' stage xs ys [] stage xs ys
goes_none = record { said = λ more more' c c'. refl; verdict = λ more more' c c'. refl }

pub goes_then : {asked : Asked} {ended ended' : Bool} {stage : Stage} {xs ys says : List ℕ} {now : Stage} {xs' ys' says' : List ℕ} {now' : Stage} {xs'' ys'' : List ℕ} → Goes asked ended ended' stage xs ys says now xs' ys' → Goes asked ended ended' now xs' ys' says' now' xs'' ys'' → Goes asked ended ended' stage xs ys (says ++ says') now' xs'' ys''
goes_then {asked} {says = says} {says' = says'} {now' = now'} {xs''} {ys''} g h =
    record {
      said =
          λ more more' c c'.
          g.said more more' c c'
          ∙ ap (λ (t : List ℕ). says ++ t) (h.said more more' c c')
          ∙ sym (append_assoc says says' (saying asked now' (xs'' ++ more) (ys'' ++ more')));
      verdict = λ more more' c c'. g.verdict more more' c c' ∙ h.verdict more more' c c';
    }

-- a report with some records before it
module _ (named : ℕ) (es : List Event) (r : Report) where
  report_before : report_text named (before es r) ≡ events_text es ++ report_text (named + length es) r
  unfolding report_text
  report_before =
      ap₂ (λ (t : List ℕ) (n : ℕ). t ++ end_text r.first r.second (named + n)) (events_append es r.events) (length-append es r.events)
      ∙ append_assoc (events_text es) (events_text r.events) _
      ∙ ap (λ (n : ℕ). events_text es ++ (events_text r.events ++ end_text r.first r.second n)) (sym (add_assoc named (length es) (length r.events)))

  different_before : is_different named (before es r) ≡ is_different (named + length es) r
  unfolding is_different
  different_before =
      ap (λ (n : ℕ). not_same n r.first r.second) (ap (λ (n : ℕ). named + n) (length-append es r.events) ∙ sym (add_assoc named (length es) (length r.events)))

-- a report that names nothing
module _ (named : ℕ) (a b : Side) where
  report_ends : report_text named (ends a b) ≡ end_text a b named
  unfolding report_text events_text
  report_ends = ap (end_text a b) (add-zero named)

  different_ends : is_different named (ends a b) ≡ not_same named a b
  unfolding is_different
  different_ends = ap (λ (n : ℕ). not_same n a b) (add-zero named)

bytes_left : (xs ys more more' : List ℕ) → 0 < length xs + length ys → (empty (xs ++ more) && empty (ys ++ more')) ≡ false
bytes_left [] [] more more' h = absurd (omega (arith, h))
bytes_left [] (y ∷ ys) more more' h = never (empty more)
  where
    never : (b : Bool) → (b && false) ≡ false
    never true = refl
    never false = refl
bytes_left (x ∷ xs) ys more more' h = refl

module _ (asked : Asked) {ended ended' : Bool} (xs ys : List ℕ) where
  -- the run ends
  pub goes_ends : {number named v w : ℕ} (a b : Side) {xs' ys' : List ℕ} → ((more more' : List ℕ) → Comes ended more → Comes ended' more' → walk (in_versions v w asked) number (xs ++ more) (ys ++ more') ≡ ends a b) → Goes asked ended ended' (Records number named v w) xs ys (end_text a b named) (Done (not_same named a b)) xs' ys'
  unfolding saying differing
  goes_ends {number} {named} a b e =
      record {
        said = λ more more' c c'. ap (report_text named) (e more more' c c') ∙ report_ends named a b ∙ sym (append-nil (end_text a b named));
        verdict = λ more more' c c'. ap (is_different named) (e more more' c c') ∙ different_ends named a b;
      }

  -- one place of both listings
  module _ {f g : Found} {m n : ℕ} (x : Front ended xs f m) (y : Front ended' ys g n) (some : 0 < m + n) (v w : ℕ) where
    abbrev sides : AskedSides
    sides = in_versions v w asked

    steps_on : (number : ℕ) (more more' : List ℕ) → Comes ended more → Comes ended' more' → walk sides number (xs ++ more) (ys ++ more') ≡ before (events_at number (naming sides f g)) (walk sides (suc number) (drop m xs ++ more) (drop n ys ++ more'))
    steps_on number more more' c c' =
        walk_step sides number (xs ++ more) (ys ++ more') (ap₂ (λ (p q : Bool). p || q) (x.uncut more c) (y.uncut more' c')) (bytes_left xs ys more more' (omega (arith, some, x.within, y.within)))
        ∙ ap₂ (λ (f' g' : Found). before (events_at number (naming sides f' g')) (walk sides (suc number) (drop (frame_size (xs ++ more)) (xs ++ more)) (drop (frame_size (ys ++ more')) (ys ++ more')))) (x.record_there more c) (y.record_there more' c')
        ∙ ap₂ (λ (us vs : List ℕ). before (events_at number (naming sides f g)) (walk sides (suc number) us vs)) (x.left more c) (y.left more' c')

    pub goes_on : (number named : ℕ) {number' named' : ℕ} → number' ≡ capped (number + 1) → named' ≡ capped (named + length (events_at number (naming sides f g))) → Goes asked ended ended' (Records number named v w) xs ys (events_text (events_at number (naming sides f g))) (Records number' named' v w) (drop m xs) (drop n ys)
    unfolding saying differing
    goes_on number named {number'} {named'} e e' =
        let es = events_at number (naming sides f g) in
        let alike : (us vs : List ℕ) → Alike (walk sides (suc number) us vs) (walk sides number' us vs) = alike-walk sides (suc number) number' (omega (arith, e)) in
        let capped-count : capped (named + length es) ≡ capped named' = omega (arith, e') in
        record {
          said =
              λ more more' c c'.
              ap (report_text named) (steps_on number more more' c c')
              ∙ report_before named es (walk sides (suc number) (drop m xs ++ more) (drop n ys ++ more'))
              ∙ ap (λ (t : List ℕ). events_text es ++ t) (alike_text (named + length es) named' capped-count (alike (drop m xs ++ more) (drop n ys ++ more')));
          verdict =
              λ more more' c c'.
              ap (is_different named) (steps_on number more more' c c')
              ∙ different_before named es (walk sides (suc number) (drop m xs ++ more) (drop n ys ++ more'))
              ∙ alike_different (named + length es) named' capped-count (alike (drop m xs ++ more) (drop n ys ++ more'));
        }

-- the version bytes: what is said of a side does not change where it is not wanting
start_stays : (ended : Bool) (xs more : List ℕ) → wanting xs ended ≡ false → Comes ended more → start_of (xs ++ more) ≡ start_of xs
start_stays true [] more w c = rw (c refl)
start_stays false [] more w c = absurd (let z : ◌≡◌ {A = ℕ} 0 1 = cc in omega arith)
start_stays ended (x ∷ xs) more w c = refl

-- by the test that is made of both
not_sound : (a b : Side) → not_same 0 a b ≡ true → (is_sound a && is_sound b) ≡ false
not_sound Sound Sound e = absurd (let z : ◌≡◌ {A = ℕ} 0 1 = cc in omega arith)
not_sound Sound Cut e = refl
not_sound Sound Version e = refl
not_sound Cut b e = refl
not_sound Version b e = refl

pub both_sound : (a b : Side) → not_same 0 a b ≡ false → (a ≡ Sound) × (b ≡ Sound)
both_sound Sound Sound e = (refl, refl)
both_sound Sound Cut e = absurd (let z : ◌≡◌ {A = ℕ} 0 1 = cc in omega arith)
both_sound Sound Version e = absurd (let z : ◌≡◌ {A = ℕ} 0 1 = cc in omega arith)
both_sound Cut b e = absurd (let z : ◌≡◌ {A = ℕ} 0 1 = cc in omega arith)
both_sound Version b e = absurd (let z : ◌≡◌ {A = ℕ} 0 1 = cc in omega arith)

module _ (asked : Asked) {ended ended' : Bool} where
  pub goes_known : (xs ys : List ℕ) → start_of xs ≡ Sound → start_of ys ≡ Sound → Goes asked ended ended' Versions xs ys [] (Records 0 0 (version_of xs) (version_of ys)) (drop 1 xs) (drop 1 ys)
  unfolding saying differing comparison report_of
  goes_known [] ys e e' = absurd (let z : ◌≡◌ {A = ℕ} 0 1 = cc in omega arith)
  goes_known (x ∷ xs) [] e e' = absurd (let z : ◌≡◌ {A = ℕ} 0 1 = cc in omega arith)
  goes_known (x ∷ xs) (y ∷ ys) e e' =
      record { said = λ more more' c c'. rw (e, e'); verdict = λ more more' c c'. rw (e, e') }

  pub goes_unknown : (xs ys : List ℕ) {xs' ys' : List ℕ} → wanting xs ended ≡ false → wanting ys ended' ≡ false → not_same 0 (start_of xs) (start_of ys) ≡ true → Goes asked ended ended' Versions xs ys (end_text (start_of xs) (start_of ys) 0) (Done true) xs' ys'
  unfolding saying differing comparison report_of
  goes_unknown xs ys w w' e =
      record {
        said =
            λ more more' c c'.
            ap (report_text 0) (told more more' c c') ∙ report_ends 0 (start_of xs) (start_of ys) ∙ sym (append-nil (end_text (start_of xs) (start_of ys) 0));
        verdict = λ more more' c c'. ap (is_different 0) (told more more' c c') ∙ different_ends 0 (start_of xs) (start_of ys) ∙ e;
      }
    where
      told : (more more' : List ℕ) → Comes ended more → Comes ended' more' → report_of asked (xs ++ more) (ys ++ more') ≡ ends (start_of xs) (start_of ys)
      told more more' c c' =
          ap₂ (λ (a b : Side). cond (is_sound a && is_sound b) (walk (sides_of asked (xs ++ more) (ys ++ more')) 0 (drop 1 (xs ++ more)) (drop 1 (ys ++ more'))) (ends a b)) (start_stays ended xs more w c) (start_stays ended' ys more' w' c')
          ∙ ap (λ (t : Bool). cond t (walk (sides_of asked (xs ++ more) (ys ++ more')) 0 (drop 1 (xs ++ more)) (drop 1 (ys ++ more'))) (ends (start_of xs) (start_of ys))) (not_sound (start_of xs) (start_of ys) e)
