-- Numbers are shown whole: there are fewer records, and fewer events, than bytes in both listings.
-- Assumes nothing.
use mathlib.Core.Path.{◌≡◌}
use mathlib.Core.List.Memᴰ.{head as here}
use mathlib.Core.List.Memᴰ.{tail as later}
use mathlib.Core.List.{List, ◌++◌, Memᴰ as Among}
use Prim.Native.Nat.{ℕ, suc, ◌+◌, ◌^◌, ◌≤◌, ◌<◌}
use native.Mathlib.Omega.{arith}
use lib.ListN.{length, length-drop}
use Rattle.records.specs.declared.Asked.{Asked}
use Rattle.compared.specs.declared.AskedSides.{AskedSides}
use Rattle.compared.specs.Places.{front_record}
use Rattle.compared.specs.Events.{Naming, naming, Event, events_at}
use Rattle.compared.specs.Events.Naming.{unnamed, named}
use Rattle.compared.specs.Report.{Report, report_of}
use Rattle.compared.specs.Text.{capped}
use Rattle.compared.proofs.SideTexts.{capped_same}
use Rattle.compared.proofs.Walks.{Walked, step_less, Started, started}
use Rattle.compared.proofs.Walks.Walked.{cut, over, on}
use Rattle.compared.proofs.Walks.Started.{sound, unsound}

-- what is below a bound stays so before more events
below-before : {e : Event} {n end : ℕ} (what : Naming) {es : List Event} → n < end → (Among e es → e.number < end) → Among e (events_at n what ++ es) → e.number < end
below-before unnamed h f m = f m
below-before (named kind) h f (here e) = rw e h
below-before (named kind) h f (later m) = f m

count_before : (n : ℕ) (what : Naming) (es : List Event) → length (events_at n what ++ es) ≤ suc (length es)
count_before n unnamed es = omega arith
count_before n (named kind) es = omega arith

module _ {sides : AskedSides} where
  walk-below : {n : ℕ} {xs ys : List ℕ} {r : Report} {e : Event} → Walked sides n xs ys r → Among e r.events → e.number < n + (length xs + length ys)
  walk-below (cut c) m = absurd (elim m [ ])
  walk-below over m = absurd (elim m [ ])
  walk-below {e = e} (on {n} {xs} {ys} {r} c some w) m =
      below-before (naming sides (front_record xs) (front_record ys)) (omega (arith, step_less xs ys some)) (λ (l : Among e r.events). omega (arith, walk-below w l, step_less xs ys some)) m

  walk_count : {n : ℕ} {xs ys : List ℕ} {r : Report} → Walked sides n xs ys r → length r.events ≤ length xs + length ys
  walk_count (cut c) = omega arith
  walk_count over = omega arith
  walk_count (on {n} {xs} {ys} {r} c some w) =
      omega (arith, count_before n (naming sides (front_record xs) (front_record ys)) r.events, walk_count w, step_less xs ys some)

module _ {asked : Asked} {first second : List ℕ} where
  report_below : {r : Report} {e : Event} → Started asked first second r → Among e r.events → e.number < length first + length second
  report_below (unsound u) m = absurd (elim m [ ])
  report_below (sound s t w) m = omega (arith, walk-below w m, length-drop 1 first, length-drop 1 second)

  report_count : {r : Report} → Started asked first second r → length r.events ≤ length first + length second
  report_count (unsound u) = omega arith
  report_count (sound s t w) = omega (arith, walk_count w, length-drop 1 first, length-drop 1 second)

module _ (asked : Asked) (first second : List ℕ) where
  -- the number of each event is below the bytes of both listings together, and there are no more events than that
  pub numbers_below : {e : Event} → Among e (report_of asked first second).events → e.number < length first + length second
  numbers_below m = report_below (started asked first second) m

  pub count_within : length (report_of asked first second).events ≤ length first + length second
  count_within = report_count (started asked first second)

  -- so for listings of less than 2 ^ 64 bytes together each number stands as it is, and so does the count
  pub numbers_whole : length first + length second < 2 ^ 64 → {e : Event} → Among e (report_of asked first second).events → capped e.number ≡ e.number
  numbers_whole h {e} m = capped_same e.number (omega (arith, h, numbers_below m))

  pub count_whole : length first + length second < 2 ^ 64 → capped (length (report_of asked first second).events) ≡ length (report_of asked first second).events
  count_whole h = capped_same (length (report_of asked first second).events) (omega (arith, h, count_within))
