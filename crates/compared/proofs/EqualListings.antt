-- Two equal listings: nothing is named, and the same is said of both sides.
-- Assumes nothing.
use mathlib.Core.Path.{◌≡◌, refl, ap}
use mathlib.Core.List.Memᴰ.{head as here}
use mathlib.Core.List.{List, [], ◌∷◌, Memᴰ as Among}
use Prim.Native.Nat.{ℕ}
use lib.ListN.{drop}
use Rattle.records.specs.declared.Asked.{Asked}
use Rattle.compared.specs.Places.{after, front_record}
use Rattle.compared.specs.Events.{Event}
use Rattle.compared.specs.Report.{Report, report_of}
use Rattle.compared.proofs.Named.{named_exactly}
use Rattle.compared.proofs.Swapped.{report_swapped}

none-among : (es : List Event) → ((e : Event) → Among e es → ⊥) → es ≡ []
none-among [] f = refl
none-among (e ∷ es) f = absurd (f e (here refl))

module _ (asked : Asked) (xs : List ℕ) where
  -- Equal listings name nothing.
  pub equal_unnamed : (report_of asked xs xs).events ≡ []
  equal_unnamed = none-among (report_of asked xs xs).events (λ e m. ((named_exactly asked xs xs e.number).0 (e.kind, m)).1 refl)

  -- So do listings that are equal after their version bytes, also of two versions.
  pub versions_unnamed : (ys : List ℕ) → drop 1 xs ≡ drop 1 ys → (report_of asked xs ys).events ≡ []
  versions_unnamed ys same =
      none-among (report_of asked xs ys).events (λ e m. ((named_exactly asked xs ys e.number).0 (e.kind, m)).1 (ap (λ (zs : List ℕ). front_record (after e.number zs)) same))

  -- What is said of one side is said of the other.
  pub equal_sides : (report_of asked xs xs).first ≡ (report_of asked xs xs).second
  equal_sides = ap (λ (r : Report). r.first) (report_swapped asked xs xs)
