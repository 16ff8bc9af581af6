-- The loop of a pass over any stages: what holds after each step, and what it comes to.
-- Assumes nothing.
use Rattle.std.proofs.Common.{◌≡◌, ℕ, zero, suc, ◌+◌, ◌-◌, ◌<◌, ◌≤◌, Bool, List, [], ◌++◌, length, take, drop, sym, refl, ap, ◌∙◌, subst, append-nil, arith, lit≤, length-append, length-drop, drop-drop}
use lib.Seq.{take-length}
use Rattle.text.specs.Write.{write}
use Rattle.text.specs.Code.{Room, Put}
use Rattle.text.proofs.Putting.{put_none, put_length, and_then}
use Rattle.text.proofs.Writing.{write_none}
use Rattle.lines.specs.Text.{longest_line}
use Rattle.records.specs.declared.Asked.{Asked}
use Rattle.records.proofs.Texts.{put_front}
use Rattle.streams.specs.Pass.{last_line}
use Rattle.streams.specs.Stages.{Way, StepsOn, PassesOver}
use Rattle.streams.specs.Stages.FollowsOn.{full, rests}
use Rattle.streams.specs.declared.Step.{Step}
use Rattle.streams.specs.declared.Next.{Next}
use Rattle.streams.specs.declared.Next.TheVariants.{Full, Read, Whole, Cut, Unknown}

-- all that stands from a place on
pub rest_all : (xs : List ℕ) (at : ℕ) → take (length xs - at) (drop at xs) ≡ drop at xs
rest_all xs at = ap (λ (n : ℕ). take n (drop at xs)) (sym (length-drop at xs)) ∙ take-length (drop at xs)

-- the last line is no longer than the longest, and its newline
pub last_short : (next : Next) → length (last_line next) ≤ longest_line + 1
unfolding last_line
last_short Full = lit≤ tt
last_short Read = lit≤ tt
last_short Whole = lit≤ tt
last_short Cut = lit≤ tt
last_short Unknown = lit≤ tt

some_of : (n : ℕ) → (n ≡ 0 → ⊥) → 0 < n
some_of zero h = absurd (h refl)
some_of (suc n) h = omega arith

-- the way so far, and what was said on it at the start of the text
pub record Going {S : Type 0} (way : Way S) (alive : S → Type 0) (asked : Asked) (start : S) (input before : List ℕ) (stage : S) (at out records refused : ℕ) (text : List ℕ) : Type 0 where
  pub says : List ℕ
  pub goes : way asked start input says stage (drop at input) records refused
  pub put : Put before 0 says out text
  pub within : at ≤ length input
  pub counts : records ≤ at
  pub refuses : refused ≤ records
  pub said : at ≡ 0 → out ≡ 0
  pub fits : out ≤ length before
  pub lives : alive stage
  pub same_length : length text ≡ length before

module _ {S : Type 0} {way : Way S} {alive : S → Type 0} (nothing : (asked : Asked) (stage : S) (held : List ℕ) → way asked stage held [] stage held 0 0) where
  pub going_start : (asked : Asked) (stage : S) (input before : List ℕ) → alive stage → Going way alive asked stage input before stage 0 0 0 0 before
  going_start asked stage input before lives =
      record {
        says = [];
        goes = nothing asked stage input;
        put = put_none;
        within = omega arith;
        counts = lit≤ tt;
        refuses = lit≤ tt;
        said = λ none. refl;
        fits = omega arith;
        lives = lives;
        same_length = refl;
      }

module _ {S : Type 0} {way : Way S} {unused : Asked → S → List ℕ → Type 0} {alive : S → Type 0} {most : ℕ} where
  module _ {asked : Asked} {start : S} {input before : List ℕ} {stage : S} {at out records refused : ℕ} {text : List ℕ} (g : Going way alive asked start input before stage at out records refused text) where
    -- what is known of the next step
    module _ {r : Step S} {after : List ℕ} (took : StepsOn way unused alive most asked stage (take (length input - at) (drop at input)) text out r after) where
      same : StepsOn way unused alive most asked stage (drop at input) text out r after
      same = subst (λ (xs : List ℕ). StepsOn way unused alive most asked stage xs text out r after) (rest_all input at) took

      pub uses_within : at + r.used ≤ length input
      uses_within = omega (arith, same.uses, length-drop at input, g.within)

      pub counts_within : records + r.records ≤ at + r.used
      counts_within = omega (arith, same.counts, g.counts)

      pub refuses_within : refused + r.refused ≤ records + r.records
      refuses_within = omega (arith, same.refuses, g.refuses)

      module _ (room : out + most ≤ length text) where
        says-room : Room before 0 (g.says ++ same.says)
        says-room =
            record { fits = omega (arith, length-append g.says same.says, g.put.next, same.short, g.same_length, room) }

        module _ (then : (asked : Asked) (stage : S) (held says : List ℕ) (now : S) (left : List ℕ) (a b : ℕ) (more : List ℕ) (last : S) (rest : List ℕ) (c d : ℕ) → way asked stage held says now left a b → way asked now left more last rest c d → way asked stage held (says ++ more) last rest (a + c) (b + d)) where
          goes_on : way asked start input (g.says ++ same.says) r.stage (drop (at + r.used) input) (records + r.records) (refused + r.refused)
          goes_on =
              rw (← (drop-drop r.used at input))
              (then asked start input g.says stage (drop at input) records refused same.says r.stage (drop r.used (drop at input)) r.records r.refused g.goes same.goes)

          -- a step that uses some bytes
          pub going_on : (r.used ≡ 0 → ⊥) → Going way alive asked start input before r.stage (at + r.used) r.out (records + r.records) (refused + r.refused) after
          going_on some =
              let both = and_then says-room g.put same.put in
              record {
                says = g.says ++ same.says;
                goes = goes_on;
                put = both;
                within = uses_within;
                counts = counts_within;
                refuses = refuses_within;
                said = λ none. absurd (some (omega (arith, none)));
                fits = omega (arith, both.next, says-room.fits);
                lives = same.lives;
                same_length = put_length says-room both;
              }

      -- a step that uses nothing says nothing
      module _ (rests : r.used ≡ 0) where
        pub text_same : after ≡ text
        text_same = same.put.text ∙ ap (write text out) (same.none rests).0 ∙ write_none text out

        pub held_unused : unused asked stage (drop at input)
        held_unused = (same.none rests).1

    -- the text is full
    pub passes_full : {next_from : Bool → S → ℕ → Next} {ended : Bool} → most ≤ length before → 0 < most → length text - out < most → PassesOver way unused alive next_from asked start input ended (record { stage = stage; used = at; out = out; records = records; refused = refused; next = Full }) text
    unfolding last_line
    passes_full room some none_left =
        record {
          says = g.says;
          goes = g.goes;
          text = put_front (omega (arith, g.put.next, g.fits)) g.put ∙ sym (append-nil g.says);
          fits = omega (arith, g.fits, g.same_length);
          within = g.within;
          counted = (g.refuses, g.counts);
          lives = g.lives;
          follows = full refl (some_of at (λ none. absurd (omega (arith, g.said none, none_left, room, g.same_length))));
        }

    -- the bytes that are held are not enough for a step
    module _ {r : Step S} {after : List ℕ} (enough : longest_line + 1 ≤ most) (room : out + most ≤ length text) (took : StepsOn way unused alive most asked stage (take (length input - at) (drop at input)) text out r after) (stays : r.used ≡ 0) where
      last_room : (next : Next) → Room before 0 (g.says ++ last_line next)
      last_room next =
          record { fits = omega (arith, length-append g.says (last_line next), last_short next, g.put.next, g.same_length, room, enough) }

      pub passes_rest : {next_from : Bool → S → ℕ → Next} {ended : Bool} {next : Next} {end : ℕ} {last : List ℕ} → next ≡ next_from ended stage (length input - at) → Put after out (last_line next) end last → PassesOver way unused alive next_from asked start input ended (record { stage = stage; used = at; out = end; records = records; refused = refused; next = next }) last
      passes_rest {next_from} {ended} {next} {end} {last} by put =
          let from : Put text out (last_line next) end last = rw (sym (text_same took stays)) put in
          let both = and_then (last_room next) g.put from in
          let fits : length (g.says ++ last_line next) ≤ length before = omega (arith, (last_room next).fits) in
          record {
            says = g.says;
            goes = g.goes;
            text = put_front fits both;
            fits = omega (arith, both.next, put_length (last_room next) both, fits);
            within = g.within;
            counted = (g.refuses, g.counts);
            lives = g.lives;
            follows = rests (by ∙ ap (next_from ended stage) (sym (length-drop at input))) (held_unused took stays);
          }
