-- A whole run: what its passes hand out, joined, is the definition's text of the whole input; their counts are the listing's; and it
-- ends as the listing does.
-- Assumes nothing.
use Rattle.std.proofs.Common.{◌≡◌, ℕ, ◌+◌, ◌-◌, Bool, true, false, cond, ltb, List, [], ◌∷◌, ◌++◌, length, take, drop, sym, refl, ap, ◌∙◌, subst, append_assoc, append-nil, arith, length-append, length-drop}
use Rattle.text.specs.Choice.{when}
use Rattle.text.specs.Words.{join}
use Rattle.records.specs.declared.Asked.{Asked}
use Rattle.records.specs.Records.{in_version}
use Rattle.listings.specs.Lines.{cut_line}
use Rattle.streams.specs.Pass.{last_line}
use Rattle.streams.specs.Counts.{listing_sum, record_count, refused_count, Ending, listing_end}
use Rattle.streams.specs.declared.Next.{Next}
use Rattle.streams.specs.declared.Next.TheVariants.{Read, Whole, Cut, Unknown}
use Rattle.streams.proofs.Counting.{sum-part}
use Rattle.streams.proofs.Ending.{tail_part, end_by}
use Rattle.located.specs.declared.Stage.{Stage}
use Rattle.located.specs.declared.Stage.TheVariants.{Version, Frames, Done}
use Rattle.streams.specs.declared.Passed.{Passed}
use Rattle.located.specs.Located.{located_text}
use Rattle.located.specs.Pass.{saying, counting, one, refused_one, end_of, Unused, next_at, Follows, Passes}
use Rattle.located.specs.Pass.Follows.{full as is_full, rests}
use Rattle.located.specs.Runs.{Runs}
use Rattle.located.specs.Runs.Runs.{full as run_full, more as run_more, none as run_none, stop}
use Rattle.located.proofs.PartLaws.{parts-part}

-- all that was to be said and counted of these bytes was; and so it ends, after so many bytes
pub record Told (asked : Asked) (stage : Stage) (xs written : List ℕ) (records refused used : ℕ) (last : Next) : Type 0 where
  pub text : written ≡ saying asked stage xs
  pub frames : records ≡ counting one stage xs
  pub refusals : refused ≡ counting (refused_one asked) stage xs
  pub next : last ≡ (end_of stage xs).next
  pub place : last ≡ Cut → used + (end_of stage xs).tail ≡ length xs

told_as : {asked : Asked} {stage : Stage} {xs ys written : List ℕ} {records refused used : ℕ} {last : Next} → xs ≡ ys → Told asked stage xs written records refused used last → Told asked stage ys written records refused used last
told_as {asked} {stage} {written = written} {records} {refused} {used} {last} e = subst (λ (zs : List ℕ). Told asked stage zs written records refused used last) e

-- the last line of part of a frame
last_part : (b : Bool) → last_line (cond b Cut Whole) ≡ when b cut_line
unfolding last_line
last_part true = refl
last_part false = refl

-- where the bytes held are not enough for a step, and no more come
rest_here : (asked : Asked) (stage : Stage) (held : List ℕ) → Unused stage held → Told asked stage held (last_line (next_at true stage (length held))) 0 0 0 (next_at true stage (length held))
unfolding saying counting end_of last_line located_text listing_sum listing_end
rest_here asked Version [] unused = record { text = refl; frames = refl; refusals = refl; next = refl; place = λ cut. refl }
rest_here asked Version (x ∷ xs) unused = absurd (omega (arith, ap length unused))
rest_here asked (Frames number offset version) held unused =
    let whole = end_by held (tail_part held unused.0) in
    record {
      text = last_part (ltb 0 (length held)) ∙ sym (parts-part (in_version version asked) number offset held unused.0);
      frames = sym (sum-part (one version) held unused.0);
      refusals = sym (sum-part (refused_one asked version) held unused.0);
      next = sym (ap (λ (x : Ending). x.next) whole);
      place = λ cut. omega (arith, ap (λ (x : Ending). x.tail) whole);
    }
rest_here asked Done held unused =
    record { text = refl; frames = refl; refusals = refl; next = refl; place = λ cut. absurd (unknown_cut cut) }
  where
    unknown_cut : Unknown ≡ Cut → ⊥
    unknown_cut e = let o : ◌≡◌ {A = ℕ} 0 1 = cc in omega (arith, o)

-- where a run stops
rest_told : (asked : Asked) (ended : Bool) (stage : Stage) (held : List ℕ) (reads : List (List ℕ)) {next : Next} → (ended ≡ true → reads ≡ []) → (next ≡ Read → ⊥) → next ≡ next_at ended stage (length held) → Unused stage held → Told asked stage (held ++ join reads) (last_line next) 0 0 0 next
unfolding saying counting end_of last_line
rest_told asked true stage held reads none go_on by unused =
    told_as (sym (append-nil held) ∙ ap (λ (rs : List (List ℕ)). held ++ join rs) (sym (none refl)))
    (subst (λ (n : Next). Told asked stage held (last_line n) 0 0 0 n) (sym by) (rest_here asked stage held unused))
rest_told asked false Version held reads none go_on by unused = absurd (go_on by)
rest_told asked false (Frames number offset version) held reads none go_on by unused = absurd (go_on by)
rest_told asked false Done held reads {next} none go_on by unused =
    record {
      text = ap last_line by;
      frames = refl;
      refusals = refl;
      next = by;
      place = λ cut. absurd (let same : Unknown ≡ Cut = sym by ∙ cut in let o : ◌≡◌ {A = ℕ} 0 1 = cc in omega (arith, o));
    }

-- a pass, and what comes after it
module _ {asked : Asked} {stage : Stage} {held : List ℕ} {ended : Bool} {r : Passed Stage} {after : List ℕ} (p : Passes asked stage held ended r after) (more : List ℕ) where
  told_on : {written text : List ℕ} {records refused used : ℕ} {last : Next} → text ≡ p.says ++ written → Told asked r.stage (drop r.used held ++ more) written records refused used last → Told asked stage (held ++ more) text (r.records + records) (r.refused + refused) (r.used + used) last
  told_on {written} e t =
      let same = p.goes.end more in
      let left = length-append (drop r.used held) more in
      record {
        text = e ∙ ap (λ (u : List ℕ). p.says ++ u) t.text ∙ sym (p.goes.said more);
        frames = omega (arith, t.frames, p.goes.frames more);
        refusals = omega (arith, t.refusals, p.goes.refusals more);
        next = t.next ∙ ap (λ (x : Ending). x.next) (sym same);
        place =
            λ cut.
            omega (
              arith,
              t.place cut,
              ap (λ (x : Ending). x.tail) same,
              left,
              length-drop r.used held,
              length-append held more,
              p.within,
            );
      }

  -- one whose last line is none
  told_silent : {written : List ℕ} {records refused used : ℕ} {last next : Next} → r.next ≡ next → last_line next ≡ [] → Told asked r.stage (drop r.used held ++ more) written records refused used last → Told asked stage (held ++ more) (take r.out after ++ written) (r.records + records) (r.refused + refused) (r.used + used) last
  told_silent {written} e n t =
      let says : take r.out after ≡ p.says = p.text ∙ ap (λ (u : List ℕ). p.says ++ u) (ap last_line e ∙ n) ∙ append-nil p.says in
      told_on (ap (λ (u : List ℕ). u ++ written) says) t

told_from : {asked : Asked} {ended : Bool} {stage : Stage} {held : List ℕ} {reads : List (List ℕ)} {written : List ℕ} {records refused used : ℕ} {last : Next} → (ended ≡ true → reads ≡ []) → Runs asked ended stage held reads written records refused used last → Told asked stage (held ++ join reads) written records refused used last
unfolding last_line
told_from {reads = reads} none (run_full p e s) = told_silent p (join reads) e refl (told_from none s)
told_from {held = held} none (run_more {bytes = bytes} {reads = reads} {r = r} p e s) =
    told_silent p (bytes ++ join reads) e refl
    (told_as (append_assoc (drop r.used held) bytes (join reads)) (told_from (λ z. absurd (let o : ◌≡◌ {A = ℕ} 0 1 = cc in omega arith)) s))
told_from none (run_none p e s) = told_silent p [] e refl (told_from (λ z. refl) s)
told_from {asked} {ended} {stage} {held} {reads} none (stop {r = r} {after = after} p not_full not-read) = at_rest p.follows
  where
    bare : {written : List ℕ} {a b used : ℕ} → Told asked stage (held ++ join reads) written (a + 0) (b + 0) (used + 0) r.next → Told asked stage (held ++ join reads) written a b used r.next
    bare t =
        record {
          text = t.text;
          frames = omega (arith, t.frames);
          refusals = omega (arith, t.refusals);
          next = t.next;
          place = λ cut. omega (arith, t.place cut);
        }

    at_rest : Follows ended r.stage (drop r.used held) r.used r.next → Told asked stage (held ++ join reads) (take r.out after) r.records r.refused r.used r.next
    at_rest (is_full e some) = absurd (not_full e)
    at_rest (rests by unused) =
        bare (told_on p (join reads) p.text (rest_told asked ended r.stage (drop r.used held) reads none not-read by unused))

module _ (asked : Asked) {reads : List (List ℕ)} {written : List ℕ} {records refused used : ℕ} {last : Next} (s : Runs asked false Version [] reads written records refused used last) where
  told : Told asked Version (join reads) written records refused used last
  told = told_from (λ z. absurd (let o : ◌≡◌ {A = ℕ} 0 1 = cc in omega arith)) s

  -- For every run, over every sequence of reads, what is handed out is the definition's text of the whole.
  pub run_text : written ≡ located_text asked (join reads)
  unfolding saying
  run_text = told.text

  -- The counts are those of the listing: its whole frames, and those that are refused.
  pub run_counts : (records ≡ record_count (join reads)) × (refused ≡ refused_count asked (join reads))
  unfolding counting
  run_counts = (told.frames, told.refusals)

  -- It ends as the listing does; and where that is cut, the bytes used are the place of the first byte of the frame that is cut.
  pub run_end : (last ≡ (listing_end (join reads)).next) × (last ≡ Cut → used ≡ length (join reads) - (listing_end (join reads)).tail)
  unfolding end_of
  run_end = (told.next, λ cut. omega (arith, told.place cut))
