-- The events of a walk: each stands for a difference at a place, and each difference has one.
-- Assumes nothing.
use mathlib.Core.Path.{◌≡◌, refl, sym, ap}
use mathlib.Core.Bool.{Bool, true, false, ◌||◌}
use mathlib.Core.Logic.{◌⊎◌, inl, inr}
use mathlib.Core.List.Memᴰ.{head as here}
use mathlib.Core.List.Memᴰ.{tail as later}
use mathlib.Core.List.{List, [], ◌++◌, Memᴰ as Among}
use Prim.Native.Nat.{ℕ, zero, suc, ◌+◌, ◌≤◌}
use native.Mathlib.Nat.{le_of_suc-le-suc}
use native.Mathlib.Omega.{arith}
use Rattle.compared.specs.declared.AskedSides.{AskedSides}
use Rattle.compared.specs.Places.{after, front_record, is_cut}
use Rattle.compared.specs.Events.{Kind, Naming, naming, Event, events_at}
use Rattle.compared.specs.Events.Naming.{unnamed, named}
use Rattle.compared.specs.Report.{Report}
use Rattle.compared.proofs.Walks.{Walked, left}
use Rattle.compared.proofs.Walks.Walked.{cut, over, on}

-- an event among those at a place and those after it
among_two : {e : Event} (n : ℕ) (what : Naming) (es : List Event) → Among e (events_at n what ++ es) → ((e.number ≡ n) × (what ≡ named e.kind)) ⊎ Among e es
among_two n unnamed es m = inr m
among_two n (named kind) es (here e) = inl (ap (λ (x : Event). x.number) e, ap (λ (x : Event). named x.kind) (sym e))
among_two n (named kind) es (later m) = inr m

among-after : {e : Event} (n : ℕ) (what : Naming) {es : List Event} → Among e es → Among e (events_at n what ++ es)
among-after n unnamed m = m
among-after n (named kind) m = later m

among_at : {k n : ℕ} {what : Naming} {kind : Kind} (es : List Event) → k ≡ n → what ≡ named kind → Among (record { number = k; kind = kind }) (events_at n what ++ es)
among_at {k} {n} {what} {kind} es e f = rw (e, f) (here refl)

pub neither : (a b : Bool) → (a || b) ≡ false → (a ≡ false) × (b ≡ false)
neither false b e = (refl, e)
neither true b e = (cc, cc)

-- nothing comes after nothing
pub after_none : (k : ℕ) → after k [] ≡ []
unfolding after
after_none zero = refl
after_none (suc k) = after_none k

-- neither is cut at any of these places
abbrev pub Uncut : (xs ys : List ℕ) → ℕ → Type 0
Uncut xs ys k = (j : ℕ) → j ≤ k → (is_cut (after j xs) || is_cut (after j ys)) ≡ false

uncut_zero : (xs ys : List ℕ) → (is_cut xs || is_cut ys) ≡ false → Uncut xs ys 0
unfolding after
uncut_zero xs ys e zero h = e
uncut_zero xs ys e (suc j) h = absurd (omega (arith, h))

uncut_suc : (xs ys : List ℕ) {k : ℕ} → (is_cut xs || is_cut ys) ≡ false → Uncut (left xs) (left ys) k → Uncut xs ys (suc k)
unfolding after
uncut_suc xs ys e w zero h = e
uncut_suc xs ys e w (suc j) h = w j (le_of_suc-le-suc h)

uncut_left : (xs ys : List ℕ) {k : ℕ} → Uncut xs ys (suc k) → Uncut (left xs) (left ys) k
unfolding after
uncut_left xs ys w j h = w (suc j) (omega (arith, h))

-- where an event of a walk stands
pub record At (sides : AskedSides) (n : ℕ) (xs ys : List ℕ) (e : Event) : Type 0 where
  pub place : ℕ
  pub number : e.number ≡ n + place
  pub uncut : Uncut xs ys place
  pub differs : naming sides (front_record (after place xs)) (front_record (after place ys)) ≡ named e.kind

module _ {sides : AskedSides} where
  at_front : {n : ℕ} {xs ys : List ℕ} {e : Event} → (is_cut xs || is_cut ys) ≡ false → (e.number ≡ n) × (naming sides (front_record xs) (front_record ys) ≡ named e.kind) → At sides n xs ys e
  unfolding after
  at_front {n} {xs} {ys} c f = record { place = 0; number = omega (arith, f.0); uncut = uncut_zero xs ys c; differs = f.1 }

  at_left : {n : ℕ} {xs ys : List ℕ} {e : Event} → (is_cut xs || is_cut ys) ≡ false → At sides (suc n) (left xs) (left ys) e → At sides n xs ys e
  unfolding after
  at_left {n} {xs} {ys} c a =
      record { place = suc a.place; number = omega (arith, a.number); uncut = uncut_suc xs ys c a.uncut; differs = a.differs }

  -- each event of a walk is there for a difference
  pub event_at : {n : ℕ} {xs ys : List ℕ} {r : Report} {e : Event} → Walked sides n xs ys r → Among e r.events → At sides n xs ys e
  event_at (cut c) m = absurd (elim m [ ])
  event_at over m = absurd (elim m [ ])
  event_at {e = e} (on {n} {xs} {ys} {r} c some w) m =
      go (among_two n (naming sides (front_record xs) (front_record ys)) r.events m) (λ (m : Among e r.events). event_at w m)
    where
      go : ((e.number ≡ n) × (naming sides (front_record xs) (front_record ys) ≡ named e.kind)) ⊎ Among e r.events → (Among e r.events → At sides (suc n) (left xs) (left ys) e) → At sides n xs ys e
      go (inl f) rest = at_front c f
      go (inr m) rest = at_left c (rest m)

  -- for each difference there is an event
  pub at_event : {n : ℕ} {xs ys : List ℕ} {r : Report} {kind : Kind} → Walked sides n xs ys r → (k m : ℕ) → m ≡ n + k → Uncut xs ys k → naming sides (front_record (after k xs)) (front_record (after k ys)) ≡ named kind → Among (record { number = m; kind = kind }) r.events
  unfolding after
  at_event (cut c) k m e w d = absurd (let f = w 0 (omega arith) in let z : ◌≡◌ {A = ℕ} 0 1 = cc in omega (arith, z))
  at_event over k m e w d =
      absurd (let f = after_none k in let z : ◌≡◌ {A = ℕ} 0 1 = cc in omega (arith, z))
  at_event (on {n} {xs} {ys} {r} c some walk) zero m e w d = among_at r.events (omega (arith, e)) d
  at_event (on {n} {xs} {ys} {r} c some walk) (suc k) m e w d =
      among-after n (naming sides (front_record xs) (front_record ys)) (at_event walk k m (omega (arith, e)) (uncut_left xs ys w) d)
