-- The line of a body that stores at most four operands is short against the body: what room is enough for it.
-- Assumes nothing.
use mathlib.Core.Path.{◌≡◌, refl, ap, ◌∙◌}
use mathlib.Core.Bool.{Bool, true, false, cond, ◌&&◌}
use mathlib.Core.List.{List}
use Prim.Native.Nat.{ℕ, zero, suc, ◌+◌, ◌*◌, ◌≤◌}
use native.Mathlib.Decide.{dec_lt}
use native.Mathlib.Omega.{arith}
use lib.Dec.{T, eqb, ltb, leb, leb→le, lit≤}
use lib.ListN.{length}
use borrow.Author.Tests.{lt-ltb, le-ltb}
use Rattle.text.specs.Words.{bytes}
use Rattle.text.proofs.Choosing.{cond_most}
use Rattle.text.proofs.Tables.{both_left, both_right}
use Rattle.names.specs.declared.Arm.{Arm}
use Rattle.operands.specs.declared.Instruction.{Instruction}
use Rattle.operands.specs.declared.Item.{Item}
use Rattle.bodies.specs.Body.{count_of}
use Rattle.bodies.specs.Decoding.{instruction_of}
use Rattle.branches.specs.Sums.{arm_word, target_of, branch_shown}
use Rattle.branches.specs.declared.Mode.TheVariants.{Crate, Straight, Target}
use Rattle.operands.specs.Parts.{starting_at, immediate_kind, immediate_of}
use Rattle.branches.specs.declared.Mode.{Mode}
use Rattle.places.specs.Places.{branch_of, item_at, items_at}
use Rattle.places.specs.declared.Place.{Place}
use Rattle.places.specs.declared.Place.TheVariants as place
use Rattle.places.specs.declared.Plan.{Plan}
use Rattle.lines.specs.Head.{head_of}
use Rattle.lines.specs.Items.{shown_text, item_text}
use Rattle.lines.specs.Text.{shows, parted_text, line_text, line_by}
use Rattle.lines.proofs.Places.{place_register, place_branch, shows_nothing, shows_stored}
use Rattle.lines.proofs.Lengths.{parted-length, items_length, line-length}
use Rattle.lines.proofs.Short.{register_short, branch_short, target_short, item_short, head_short, tail_word_short}

-- the operand of a place has at least the number j; a branch is operand 0
abbrev pub is_from : ℕ → Place → Bool
is_from j place.Nothing = true
is_from j (place.Register reg) = true
is_from j place.Branch = eqb j 0
is_from j (place.Operand k label segment short mask b) = leb j k

-- no place shows an operand with a lower number than its own: so a line shows no more operands than the body stores
abbrev pub in_order : Plan → Bool
in_order plan = is_from 0 plan.a && (is_from 1 plan.b && (is_from 2 plan.c && is_from 3 plan.d))

-- the most that place j takes: an operand, or the branch at the first place, or a register at the others
abbrev share : ℕ → ℕ → ℕ
share count j = cond (ltb j count) 63 (cond (eqb j 0) 23 7)

register_within : (b c : Bool) → 7 ≤ cond b 63 (cond c 23 7)
register_within true c = lit≤ tt
register_within false true = lit≤ tt
register_within false false = lit≤ tt

branch_within : (b c : Bool) → T c → 23 ≤ cond b 63 (cond c 23 7)
branch_within true c t = lit≤ tt
branch_within false true t = lit≤ tt
branch_within false false t = elim t [ ]

-- the shares of four places, with the longest head and tail and a newline
shares : (count : ℕ) → count ≤ 4 → 57 + (share count 0 + share count 1 + share count 2 + share count 3) ≤ 9 * (16 + 5 * count)
shares zero h = lit≤ tt
shares (suc zero) h = lit≤ tt
shares (suc (suc zero)) h = lit≤ tt
shares (suc (suc (suc zero))) h = lit≤ tt
shares (suc (suc (suc (suc zero)))) h = lit≤ tt
shares (suc (suc (suc (suc (suc count))))) h = absurd (omega arith)

branch_shown_short : (mode : Mode) (arm : Arm) (i : Instruction) → length (shown_text (branch_of mode arm i)) ≤ 21
unfolding branch_shown shown_text
branch_shown_short Crate arm i = branch_short _ _ _
branch_shown_short Straight arm i = branch_short _ _ _
branch_shown_short Target arm i = omega (arith, target_short (arm_word arm (immediate_kind i.a)) (target_of i.start i.length (immediate_of i.a)))

-- no longer than what parts it and its item
parted_most : (s : List ℕ) (i : Item) → length (parted_text s i) ≤ length s + length (item_text i)
parted_most s i = omega (arith, parted-length s i, cond_most (shows i.shown) (length s + length (item_text i)))

parted_none : (s : List ℕ) (i : Item) → shows i.shown ≡ false → length (parted_text s i) ≡ 0
parted_none s i e = parted-length s i ∙ ap (λ (b : Bool). cond b (length s + length (item_text i)) 0) e

module _ (mode : Mode) (arm : Arm) (start : ℕ) (body : List ℕ) (few : count_of body ≤ 4) (s : List ℕ) (parts : length s ≤ 2) (j : ℕ) where
  abbrev text_at : Place → List ℕ
  text_at p = parted_text s (item_at mode arm (starting_at start (instruction_of body)) p)

  place_within : (p : Place) → T (is_from j p) → length (text_at p) ≤ share (count_of body) j
  place_within place.Nothing t =
      omega (arith, parted_none s (item_at mode arm (starting_at start (instruction_of body)) place.Nothing) (shows_nothing mode arm (starting_at start (instruction_of body)) {p = place.Nothing} refl))
  place_within (place.Register reg) t =
      omega (
        arith,
        register_within (ltb j (count_of body)) (eqb j 0),
        parted_most s (item_at mode arm (starting_at start (instruction_of body)) (place.Register reg)),
        ap length (place_register mode arm (starting_at start (instruction_of body)) {p = place.Register reg} refl),
        register_short reg,
        parts,
      )
  place_within place.Branch t =
      omega (
        arith,
        branch_within (ltb j (count_of body)) (eqb j 0) t,
        parted_most s (item_at mode arm (starting_at start (instruction_of body)) place.Branch),
        ap length (place_branch mode arm (starting_at start (instruction_of body)) {p = place.Branch} refl),
        branch_shown_short mode arm (starting_at start (instruction_of body)),
        parts,
      )
  place_within (place.Operand k label segment short mask b) t =
      let p = place.Operand k label segment short mask b in
      let i = item_at mode arm (starting_at start (instruction_of body)) p in
      elim (dec_lt k (count_of body)) [
        | yes h ↦ rw (lt-ltb j (count_of body) (let l = leb→le j k t in omega arith)) (omega (arith, parted_most s i, item_short i, parts))
        | no h ↦ omega (arith, parted_none s i (shows_stored mode arm start body few {p = p} refl ∙ le-ltb k (count_of body) (omega arith)))
      ]

-- the line of such a plan, and a newline after it; a plan that showed one operand four times could need more
pub line_within :
    (mode : Mode) (arm : Arm) (plan : Plan) (start : ℕ) (body : List ℕ) →
    T (in_order plan) → count_of body ≤ 4 →
    length (line_text (line_by mode arm plan (starting_at start (instruction_of body)))) + 1 ≤ 9 * (16 + 5 * count_of body)
unfolding items_at
line_within mode arm plan start body ordered few =
    let i = starting_at start (instruction_of body) in
    let from-1 = both_right (is_from 0 plan.a) (is_from 1 plan.b && (is_from 2 plan.c && is_from 3 plan.d)) ordered in
    let from-2 = both_right (is_from 1 plan.b) (is_from 2 plan.c && is_from 3 plan.d) from-1 in
    omega (
      arith,
      line-length (line_by mode arm plan i),
      head_short (head_of arm i.opcode i.flags),
      items_length (items_at mode arm i plan),
      place_within mode arm start body few (bytes " ") (lit≤ tt) 0 plan.a (both_left (is_from 0 plan.a) (is_from 1 plan.b && (is_from 2 plan.c && is_from 3 plan.d)) ordered),
      place_within mode arm start body few (bytes ", ") (lit≤ tt) 1 plan.b (both_left (is_from 1 plan.b) (is_from 2 plan.c && is_from 3 plan.d) from-1),
      place_within mode arm start body few (bytes ", ") (lit≤ tt) 2 plan.c (both_left (is_from 2 plan.c) (is_from 3 plan.d) from-2),
      place_within mode arm start body few (bytes ", ") (lit≤ tt) 3 plan.d (both_right (is_from 2 plan.c) (is_from 3 plan.d) from-2),
      tail_word_short plan.tail,
      shares (count_of body) few,
    )
