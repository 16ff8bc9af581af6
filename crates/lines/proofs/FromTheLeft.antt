-- Where what is shown stands from the left, nothing is shown after the first place that shows nothing.
-- Assumes nothing.
use mathlib.Core.Path.{◌≡◌, refl, sym, ap, ◌∙◌}
use mathlib.Core.Bool.{Bool, true, false, not, ◌||◌, ◌&&◌, not-not}
use mathlib.Core.List.{List, []}
use Prim.Native.Nat.{ℕ, zero, suc, ◌<◌}
use native.Mathlib.Omega.{arith}
use Rattle.text.specs.Words.{bytes}
use Rattle.operands.specs.declared.Instruction.{Instruction}
use Rattle.operands.specs.declared.Item.{Item}
use Rattle.operands.specs.declared.Shown.{Shown}
use Rattle.operands.specs.declared.Shown.TheVariants.{Nothing, Name, St, Number, Word, Dword, Bracket, Branch, Target}
use Rattle.bodies.proofs.Picks.{both_left, both_right}
use Rattle.names.specs.declared.Arm.{Arm}
use Rattle.branches.specs.declared.Mode.{Mode}
use Rattle.places.specs.Order.{is_nothing, from_the_left}
use Rattle.places.specs.Places.{item_at, items_at}
use Rattle.places.specs.declared.Plan.{Plan}
use Rattle.lines.specs.Text.{shows, parted_text, items_text}
use Rattle.lines.proofs.Places.{place_at, items_from}

shows-not-nothing : (x : Shown) → is_nothing x ≡ not (shows x)
shows-not-nothing Nothing = refl
shows-not-nothing (Name reg) = refl
shows-not-nothing St = refl
shows-not-nothing (Number value) = refl
shows-not-nothing (Word address) = refl
shows-not-nothing (Dword address) = refl
shows-not-nothing (Bracket address) = refl
shows-not-nothing (Branch word minus size) = refl
shows-not-nothing (Target word target) = refl

-- an operand shows nothing
abbrev Hidden : Item → Type 0
Hidden x = shows x.shown ≡ false

no_text : (separator : List ℕ) (x : Item) → Hidden x → parted_text separator x ≡ []
unfolding parted_text
no_text separator x e = rw e

-- if one shows nothing, the other shows nothing
abbrev then : Item → Item → Bool
then x y = not (is_nothing x.shown) || is_nothing y.shown

hidden_next : (x y : Item) → then x y ≡ true → Hidden x → Hidden y
hidden_next x y e h =
    let nothing : is_nothing y.shown ≡ true = rw (shows-not-nothing x.shown, h) at e in
    sym (not-not (shows y.shown)) ∙ ap not (sym (shows-not-nothing y.shown) ∙ nothing)

three : (p q r : Bool) → (p && q && r) ≡ true → (p ≡ true) × (q ≡ true) × (r ≡ true)
three p q r e = (both_left p q (both_left (p && q) r e), both_right p q (both_left (p && q) r e), both_right (p && q) r e)

module _ (mode : Mode) (arm : Arm) (i : Instruction) (plan : Plan) (left : from_the_left (items_at mode arm i plan) ≡ true) where
  abbrev a : Item
  a = item_at mode arm i plan.a

  abbrev b : Item
  b = item_at mode arm i plan.b

  abbrev c : Item
  c = item_at mode arm i plan.c

  abbrev d : Item
  d = item_at mode arm i plan.d

  in_order_lem : (then a b ≡ true) × (then b c ≡ true) × (then c d ≡ true)
  unfolding items_at
  in_order_lem = three (then a b) (then b c) (then c d) left

  -- from an operand that shows nothing on there is no text
  none_from_d : Hidden d → items_from 3 (items_at mode arm i plan) ≡ []
  unfolding items_at
  none_from_d h = no_text (bytes ", ") d h

  none_from_c : Hidden c → items_from 2 (items_at mode arm i plan) ≡ []
  unfolding items_at
  none_from_c h = rw (no_text (bytes ", ") c h) (none_from_d (hidden_next c d in_order_lem.2 h))

  none_from_b : Hidden b → items_from 1 (items_at mode arm i plan) ≡ []
  unfolding items_at
  none_from_b h = rw (no_text (bytes ", ") b h) (none_from_c (hidden_next b c in_order_lem.1 h))

  none_from_a : Hidden a → items_from 0 (items_at mode arm i plan) ≡ []
  unfolding items_at items_text
  none_from_a h = rw (no_text (bytes " ") a h) (none_from_b (hidden_next a b in_order_lem.0 h))

  none_from : (k : ℕ) → k < 4 → Hidden (item_at mode arm i (place_at plan k)) → items_from k (items_at mode arm i plan) ≡ []
  none_from zero h e = none_from_a e
  none_from (suc zero) h e = none_from_b e
  none_from (suc (suc zero)) h e = none_from_c e
  none_from (suc (suc (suc zero))) h e = none_from_d e
  none_from (suc (suc (suc (suc k)))) h e = absurd (omega arith)

  -- the same by the code's test of place k
  pub items_none :
      (k : ℕ) → k < 4 → {shown : Bool} → shown ≡ shows (item_at mode arm i (place_at plan k)).shown → not shown ≡ true →
      items_from k (items_at mode arm i plan) ≡ []
  items_none k h {shown} is t = none_from k h (rw (← is) (sym (not-not shown) ∙ ap not t))
