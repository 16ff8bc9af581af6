-- For a number that no machine number holds stands the largest: what is said and found depends on no more of it.
-- Assumes nothing.
use mathlib.Core.Path.{◌≡◌, refl, sym, ap, ap₂, ◌∙◌}
use mathlib.Core.Bool.{Bool, true, false, cond, ◌||◌, ◌&&◌}
use mathlib.Core.List.{List, [], ◌∷◌, ◌++◌, append_assoc}
use Prim.Native.Nat.{ℕ, zero, suc, ◌+◌}
use native.Mathlib.Omega.{arith}
use lib.Dec.{ltb}
use borrow.Author.Tests.{lt-ltb, le-ltb, ltb-true, ltb-false}
use lib.ListN.{length, drop, length-append}
use Rattle.text.specs.Words.{bytes, empty}
use Rattle.frames.specs.Frames.{frame_size}
use Rattle.compared.specs.declared.AskedSides.{AskedSides}
use Rattle.compared.specs.declared.Side.{Side}
use Rattle.compared.specs.Places.{front_record, is_cut}
use Rattle.compared.specs.Events.{Naming, naming, Event, events_at}
use Rattle.compared.specs.Events.Naming.{unnamed, named}
use Rattle.compared.specs.Report.{Report, before, walk_within, walk, is_different}
use Rattle.compared.specs.Text.{capped, event_text, events_text, side_text, count_line, end_text, report_text}

-- two reports say the same and count the same
pub record Alike (r s : Report) : Type 0 where
  pub text : events_text r.events ≡ events_text s.events
  pub count : length r.events ≡ length s.events
  pub first : r.first ≡ s.first
  pub second : r.second ≡ s.second

alike_self : (r : Report) → Alike r r
alike_self r = record { text = refl; count = refl; first = refl; second = refl }

alike-cond : (b : Bool) {r r' s s' : Report} → Alike r r' → Alike s s' → Alike (cond b r s) (cond b r' s')
alike-cond true a b = a
alike-cond false a b = b

pub events_append : (es ds : List Event) → events_text (es ++ ds) ≡ events_text es ++ events_text ds
unfolding events_text
events_append [] ds = refl
events_append (e ∷ es) ds = ap (λ (t : List ℕ). event_text e ++ t) (events_append es ds) ∙ sym (append_assoc (event_text e) (events_text es) (events_text ds))

-- what stands at a place, under two numbers
module _ (m n : ℕ) (same : capped m ≡ capped n) where
  at_text : (v : Naming) → events_text (events_at m v) ≡ events_text (events_at n v)
  unfolding events_text event_text
  at_text unnamed = refl
  at_text (named kind) = rw same

  at_count : (v : Naming) → length (events_at m v) ≡ length (events_at n v)
  at_count unnamed = refl
  at_count (named kind) = refl

  alike-before : (v : Naming) {r s : Report} → Alike r s → Alike (before (events_at m v) r) (before (events_at n v) s)
  alike-before v {r} {s} a =
      record {
        text =
            events_append (events_at m v) r.events
            ∙ ap₂ (λ (t u : List ℕ). t ++ u) (at_text v) a.text
            ∙ sym (events_append (events_at n v) s.events);
        count = omega (arith, length-append (events_at m v) r.events, length-append (events_at n v) s.events, at_count v, a.count);
        first = a.first;
        second = a.second;
      }

capped_suc : (m n : ℕ) → capped m ≡ capped n → capped (suc m) ≡ capped (suc n)
capped_suc m n e = omega (arith, e)

module _ (sides : AskedSides) where
  alike_within : (f m n : ℕ) → capped m ≡ capped n → (xs ys : List ℕ) → Alike (walk_within f sides m xs ys) (walk_within f sides n xs ys)
  unfolding walk_within
  alike_within zero m n same xs ys = alike_self _
  alike_within (suc f) m n same xs ys =
      alike-cond (is_cut xs || is_cut ys) (alike_self _)
      (alike-cond (empty xs && empty ys) (alike_self _)
      (alike-before m n same (naming sides (front_record xs) (front_record ys))
      (alike_within f (suc m) (suc n) (capped_suc m n same) (drop (frame_size xs) xs) (drop (frame_size ys) ys))))

  pub alike-walk : (m n : ℕ) → capped m ≡ capped n → (xs ys : List ℕ) → Alike (walk sides m xs ys) (walk sides n xs ys)
  unfolding walk
  alike-walk m n same xs ys = alike_within (length xs + length ys) m n same xs ys

-- the last line, by the count that is said
module _ (a b : ℕ) (same : capped a ≡ capped b) where
  pub count_capped : (n : ℕ) → count_line (a + n) ≡ count_line (b + n)
  unfolding count_line
  count_capped n = let e : capped (a + n) ≡ capped (b + n) = omega (arith, same) in rw e

  pub alike_text : {r s : Report} → Alike r s → report_text a r ≡ report_text b s
  unfolding report_text end_text
  alike_text {r} {s} l =
      ap₂ (λ (t u : List ℕ). t ++ u) l.text
      (ap₂ (λ (x y : Side). side_text (bytes "first: ") x ++ (side_text (bytes "second: ") y ++ count_line (a + length r.events))) l.first l.second
      ∙ ap (λ (t : List ℕ). side_text (bytes "first: ") s.first ++ (side_text (bytes "second: ") s.second ++ t)) (ap (λ (n : ℕ). count_line (a + n)) l.count ∙ count_capped (length s.events)))

  some_capped : (n : ℕ) → ltb 0 (a + n) ≡ ltb 0 (b + n)
  some_capped n = go (ltb 0 (a + n)) refl
    where
      go : (t : Bool) → ltb 0 (a + n) ≡ t → t ≡ ltb 0 (b + n)
      go true e = sym (lt-ltb 0 (b + n) (omega (arith, same, ltb-true 0 (a + n) e)))
      go false e = sym (le-ltb 0 (b + n) (omega (arith, same, ltb-false 0 (a + n) e)))

  pub alike_different : {r s : Report} → Alike r s → is_different a r ≡ is_different b s
  unfolding is_different
  alike_different {r} {s} l = rw (l.first, l.second, l.count, some_capped (length s.events))
