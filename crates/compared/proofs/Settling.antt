-- What is to be done at a place says what stands on each side.
-- Assumes nothing.
use Rattle.std.specs.Prelude.{Option}
use mathlib.Core.Path.{◌≡◌, refl, sym, ap, ap₂, ◌∙◌}
use mathlib.Core.Bool.{Bool, true, false, cond, ◌||◌}
use mathlib.Core.List.{List, ◌++◌}
use Prim.Native.Nat.{ℕ, ◌+◌, ◌≤◌, ◌<◌}
use native.Mathlib.Omega.{arith}
use lib.ListN.{length, drop}
use Rattle.text.specs.Code.{Put}
use Rattle.frames.specs.declared.Frame.{Frame}
use Rattle.cursors.specs.Code.{place_after, Sees}
use Rattle.cursors.specs.declared.Stands.{Stands}
use Rattle.cursors.specs.declared.Stands.TheVariants.{Body, End, Cut, More}
use Rattle.records.specs.declared.Asked.{Asked}
use Rattle.compared.specs.declared.Side.{Side}
use Rattle.compared.specs.declared.Side.TheVariants.{Sound, Cut as SideCut}
use Rattle.compared.specs.declared.Turn.{Turn}
use Rattle.compared.specs.declared.Turn.TheVariants.{First, Second, Ends, Records as ToRecords}
use Rattle.compared.specs.declared.AskedSides.{AskedSides}
use Rattle.compared.specs.declared.Noted.{Noted}
use Rattle.compared.specs.declared.Next.TheVariants.{On, Nothing}
use Rattle.compared.specs.declared.Stage.TheVariants.{Records, Done}
use Rattle.compared.specs.Places.{is_cut}
use Rattle.compared.specs.Report.{ends, walk, in_versions, not_same}
use Rattle.compared.specs.Text.{capped, end_text}
use Rattle.compared.specs.Pass.{Comes}
use Rattle.compared.specs.Code.{frame_of, turn_of, body_in, found_of, Notes, Steps}
use Rattle.compared.proofs.Walks.{walk_cut, walk-empty}
use Rattle.compared.proofs.SideTexts.{end_most}
use Rattle.compared.proofs.Going.{goes_ends}
use Rattle.compared.proofs.Stepping.{Placed, placed_body, placed_end, end_empty, cut_there, steps_end, steps_note}

-- a side is cut there, or a record stands there, or the end
data Cuts (s : Stands) (p : Bool) : Type 0 where
  cuts : s ≡ Cut → p ≡ true → Cuts s p
  has_body : {start end : ℕ} → s ≡ Body start end → p ≡ false → Cuts s p
  has_end : s ≡ End → p ≡ false → Cuts s p

-- a record stands there, or the end
data Ready (s : Stands) (some : Bool) : Type 0 where
  some_body : {start end : ℕ} → s ≡ Body start end → some ≡ true → Ready s some
  no_body : s ≡ End → some ≡ false → Ready s some

data Settled (s t : Stands) (u : Turn) : Type 0 where
  to_first : s ≡ More → u ≡ First → Settled s t u
  to_second : t ≡ More → u ≡ Second → Settled s t u
  to_cut : (p q : Bool) → Cuts s p → Cuts t q → (p || q) ≡ true → u ≡ Ends (cond p SideCut Sound) (cond q SideCut Sound) → Settled s t u
  to_end : s ≡ End → t ≡ End → u ≡ Ends Sound Sound → Settled s t u
  to_records : (p q : Bool) → Ready s p → Ready t q → (p || q) ≡ true → u ≡ ToRecords (frame_of s) (frame_of t) → Settled s t u

settled : (s t : Stands) → Settled s t (turn_of s t)
settled More t = to_first refl refl
settled (Body a b) More = to_second refl refl
settled End More = to_second refl refl
settled Cut More = to_second refl refl
settled Cut (Body c d) = to_cut true false (cuts refl refl) (has_body refl refl) refl refl
settled Cut End = to_cut true false (cuts refl refl) (has_end refl refl) refl refl
settled Cut Cut = to_cut true true (cuts refl refl) (cuts refl refl) refl refl
settled (Body a b) Cut = to_cut false true (has_body refl refl) (cuts refl refl) refl refl
settled End Cut = to_cut false true (has_end refl refl) (cuts refl refl) refl refl
settled (Body a b) (Body c d) = to_records true true (some_body refl refl) (some_body refl refl) refl refl
settled (Body a b) End = to_records true false (some_body refl refl) (no_body refl refl) refl refl
settled End (Body c d) = to_records false true (no_body refl refl) (some_body refl refl) refl refl
settled End End = to_end refl refl refl

-- each turn is told from the others
abbrev kind_of : Turn → ℕ
kind_of First = 0
kind_of Second = 1
kind_of (Ends a b) = 2
kind_of (ToRecords f g) = 3

apart : {u v w : Turn} → u ≡ v → u ≡ w → (kind_of v ≡ kind_of w → ⊥) → ⊥
apart {u} {v} {w} e f n = n (ap kind_of (sym e ∙ f))

module _ (s t : Stands) where
  pub turn_first : turn_of s t ≡ First → s ≡ More
  turn_first e = go (settled s t)
    where
      go : Settled s t (turn_of s t) → s ≡ More
      go (to_first x f) = x
      go (to_second x f) = absurd (apart e f (λ z. omega (arith, z)))
      go (to_cut p q x y z f) = absurd (apart e f (λ z. omega (arith, z)))
      go (to_end x y f) = absurd (apart e f (λ z. omega (arith, z)))
      go (to_records p q x y z f) = absurd (apart e f (λ z. omega (arith, z)))

  pub turn_second : turn_of s t ≡ Second → t ≡ More
  turn_second e = go (settled s t)
    where
      go : Settled s t (turn_of s t) → t ≡ More
      go (to_first x f) = absurd (apart e f (λ z. omega (arith, z)))
      go (to_second x f) = x
      go (to_cut p q x y z f) = absurd (apart e f (λ z. omega (arith, z)))
      go (to_end x y f) = absurd (apart e f (λ z. omega (arith, z)))
      go (to_records p q x y z f) = absurd (apart e f (λ z. omega (arith, z)))

-- a side's place after what stands there, where a record does, or the end
module _ {xs : List ℕ} {at : ℕ} {ended : Bool} {s : Stands} (sees : Sees xs at ended s) (placed : at ≤ length xs) where
  ready_placed : {p : Bool} → Ready s p → Placed xs at ended (found_of (body_in xs s)) (place_after at s)
  ready_placed (some_body e f) = rw (ap (λ (stands : Stands). found_of (body_in xs stands)) e) (placed_body sees e refl).0
  ready_placed (no_body e f) = rw (ap (λ (stands : Stands). found_of (body_in xs stands)) e) (placed_end sees e refl placed)

  ready_after : {p : Bool} → Ready s p → at + cond p 1 0 ≤ place_after at s
  ready_after (some_body e f) = rw f (omega (arith, (placed_body sees e refl).1))
  ready_after (no_body e f) = rw (f, e) (omega arith)

-- where one side at least has a record, a place is moved
some_moved : (p q : Bool) (at at' m n : ℕ) → (p || q) ≡ true → at + cond p 1 0 ≤ m → at' + cond q 1 0 ≤ n → at + at' < m + n
some_moved true true at at' m n e h h' = omega (arith, h, h')
some_moved true false at at' m n e h h' = omega (arith, h, h')
some_moved false true at at' m n e h h' = omega (arith, h, h')
some_moved false false at at' m n e h h' = absurd (let z : ◌≡◌ {A = ℕ} 0 1 = cc in omega (arith, z))

-- whether a side is cut, whatever comes
cuts_there : {xs : List ℕ} {at : ℕ} {ended : Bool} {s : Stands} {p : Bool} → Sees xs at ended s → at ≤ length xs → Cuts s p → (more : List ℕ) → Comes ended more → is_cut (drop at xs ++ more) ≡ p
cuts_there sees placed (cuts e f) more comes = cut_there sees e more comes ∙ sym f
cuts_there sees placed (has_body e f) more comes = (placed_body sees e refl).0.front.uncut more comes ∙ sym f
cuts_there sees placed (has_end e f) more comes = (placed_end sees e refl placed).front.uncut more comes ∙ sym f

-- where the run ends
module _ (asked : Asked) (v w : ℕ) {xs ys : List ℕ} {at at' : ℕ} {ended ended' : Bool} {s t : Stands} (placed : (at ≤ length xs) × (at' ≤ length ys)) (sees : Sees xs at ended s) (sees' : Sees ys at' ended' t) where
  walk_ends : (number : ℕ) {a b : Side} → turn_of s t ≡ Ends a b → (more more' : List ℕ) → Comes ended more → Comes ended' more' → walk (in_versions v w asked) number (drop at xs ++ more) (drop at' ys ++ more') ≡ ends a b
  walk_ends number {a} {b} e more more' c c' = go (settled s t)
    where
      go : Settled s t (turn_of s t) → walk (in_versions v w asked) number (drop at xs ++ more) (drop at' ys ++ more') ≡ ends a b
      go (to_first x f) = absurd (apart e f (λ z. omega (arith, z)))
      go (to_second x f) = absurd (apart e f (λ z. omega (arith, z)))
      go (to_cut p q x y z f) =
          let cut = cuts_there sees placed.0 x more c in
          let cut' = cuts_there sees' placed.1 y more' c' in
          let first : cond p SideCut Sound ≡ a = cc in
          let second : cond q SideCut Sound ≡ b = cc in
          walk_cut (in_versions v w asked) number (drop at xs ++ more) (drop at' ys ++ more') (ap₂ (λ (i j : Bool). i || j) cut cut' ∙ z)
          ∙ ap₂ (λ (i j : Bool). ends (cond i SideCut Sound) (cond j SideCut Sound)) cut cut'
          ∙ ap₂ ends first second
      go (to_end x y f) =
          let first : Sound ≡ a = cc in
          let second : Sound ≡ b = cc in
          ap₂ (walk (in_versions v w asked) number) (end_empty sees x more c) (end_empty sees' y more' c') ∙ walk-empty (in_versions v w asked) number ∙ ap₂ ends first second
      go (to_records p q x y z f) = absurd (apart e f (λ z. omega (arith, z)))

  pub steps_ends : {number named : ℕ} {a b : Side} {before : List ℕ} {out next : ℕ} {after : List ℕ} {different : Bool} → turn_of s t ≡ Ends a b → Put before out (end_text a b named) next after → different ≡ not_same named a b → Steps asked (Records number named v w) xs ys at at' ended ended' before out (record { stage = Done different; first = at; second = at'; out = next; next = Nothing }) after
  steps_ends {number} {named} {a} {b} e put d =
      rw d (steps_end placed (end_text a b named) (goes_ends asked (drop at xs) (drop at' ys) a b (walk_ends number e)) put (end_most a b named))

-- the bodies under other names
pub notes_as : {sides : AskedSides} {number named : ℕ} {f f' g g' : Option (List ℕ)} {before : List ℕ} {out : ℕ} {noted : Noted} {after : List ℕ} → f ≡ f' → g ≡ g' → Notes sides number named (found_of f) (found_of g) before out noted after → Notes sides number named (found_of f') (found_of g') before out noted after
notes_as e e' notes = rw (← e, ← e') notes

-- where a record stands, on both sides or on one
module _ {xs ys : List ℕ} {at at' : ℕ} {ended ended' : Bool} {s t : Stands} (placed : (at ≤ length xs) × (at' ≤ length ys)) (sees : Sees xs at ended s) (sees' : Sees ys at' ended' t) {f g : Option Frame} (e : turn_of s t ≡ ToRecords f g) where
  pub steps_records : {asked : Asked} {sides : AskedSides} {before : List ℕ} {out number named v w number' p q : ℕ} {noted : Noted} {after : List ℕ} → p ≡ place_after at s → q ≡ place_after at' t → number' ≡ capped (number + 1) → sides ≡ in_versions v w asked → Notes sides number named (found_of (body_in xs s)) (found_of (body_in ys t)) before out noted after → Steps asked (Records number named v w) xs ys at at' ended ended' before out (record { stage = Records number' noted.named v w; first = p; second = q; out = noted.out; next = On }) after
  steps_records {asked} {sides} {before} {out} {number} {named} {v} {w} {number'} {p} {q} {noted} {after} to to' more told notes = rw (to, to') (go (settled s t))
    where
      go : Settled s t (turn_of s t) → Steps asked (Records number named v w) xs ys at at' ended ended' before out (record { stage = Records number' noted.named v w; first = place_after at s; second = place_after at' t; out = noted.out; next = On }) after
      go (to_first x f) = absurd (apart e f (λ z. omega (arith, z)))
      go (to_second x f) = absurd (apart e f (λ z. omega (arith, z)))
      go (to_cut a b x y z f) = absurd (apart e f (λ z. omega (arith, z)))
      go (to_end x y f) = absurd (apart e f (λ z. omega (arith, z)))
      go (to_records a b x y z f) =
          steps_note (ready_placed sees placed.0 x) (ready_placed sees' placed.1 y)
          (some_moved a b _ _ _ _ z (ready_after sees placed.0 x) (ready_after sees' placed.1 y)) more told notes
