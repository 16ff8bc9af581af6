-- A whole run: what its passes hand out, joined, is the definition's text of both inputs; and its last stage is the end, with the
-- definition's verdict.
-- Assumes nothing.
use mathlib.Core.Path.{◌≡◌, refl, sym, ap, ap₂, subst, ◌∙◌}
use mathlib.Core.Bool.{Bool, true}
use mathlib.Core.List.{List, [], ◌++◌, append_assoc, append-nil}
use Prim.Native.Nat.{ℕ, ◌+◌}
use native.Mathlib.Omega.{arith}
use lib.ListN.{take, drop}
use Rattle.text.specs.Words.{join}
use Rattle.records.specs.declared.Asked.{Asked}
use Rattle.compared.specs.declared.Stage.{Stage}
use Rattle.compared.specs.declared.Stage.TheVariants.{Versions, Done}
use Rattle.compared.specs.declared.Next.TheVariants.{Nothing}
use Rattle.compared.specs.declared.Passed.{Passed}
use Rattle.compared.specs.Report.{is_different, report_of}
use Rattle.compared.specs.Text.{comparison}
use Rattle.compared.specs.Pass.{saying, differing, Comes, Follows, Passes}
use Rattle.compared.specs.Pass.Follows.{goes_on, wants_first, wants_second, ends}
use Rattle.compared.specs.Runs.{Input, fresh, Read, Runs, all_of}
use Rattle.compared.specs.Runs.Read.{more, none}
use Rattle.compared.specs.Runs.Runs.{on, first as Reads-first, second as Reads-second, stop}

-- an input that has ended has no reads left
abbrev pub Spent : Input → Type 0
Spent i = i.ended ≡ true → i.reads ≡ []

-- so no bytes come after those held
spent_comes : (i : Input) → Spent i → Comes i.ended (join i.reads)
spent_comes i spent e = ap join (spent e)

fresh_spent : (reads : List (List ℕ)) → Spent (fresh reads)
fresh_spent reads e = absurd (let z : ◌≡◌ {A = ℕ} 0 1 = cc in omega arith)

-- a read changes none of the bytes
pub read_all : {i j : Input} → Read i j → all_of j ≡ all_of i
read_all (more {held = held} {bytes = bytes} {reads = reads}) = append_assoc held bytes (join reads)
read_all none = refl

pub read_spent : {i j : Input} → Read i j → Spent j
read_spent more e = absurd (let z : ◌≡◌ {A = ℕ} 0 1 = cc in omega arith)
read_spent none e = refl

-- all that was to be said of these bytes was, and the run ends with their verdict
pub record Told (asked : Asked) (stage : Stage) (xs ys written : List ℕ) (last : Stage) : Type 0 where
  pub text : written ≡ saying asked stage xs ys
  pub verdict : last ≡ Done (differing asked stage xs ys)

told_as : {asked : Asked} {stage : Stage} {xs ys xs' ys' written : List ℕ} {last : Stage} → xs ≡ xs' → ys ≡ ys' → Told asked stage xs ys written last → Told asked stage xs' ys' written last
told_as {asked} {stage} e e' t =
    record {
      text = t.text ∙ ap₂ (saying asked stage) e e';
      verdict = t.verdict ∙ ap Done (ap₂ (differing asked stage) e e');
    }

-- at the end all is said
told_done : {asked : Asked} {stage : Stage} {different : Bool} {xs ys : List ℕ} → stage ≡ Done different → Told asked stage xs ys [] stage
unfolding saying differing
told_done {asked} {xs = xs} {ys} e = subst (λ (t : Stage). Told asked t xs ys [] t) (sym e) (record { text = refl; verdict = refl })

-- a pass, and what comes after it
module _ {asked : Asked} {stage : Stage} {xs ys : List ℕ} {ended ended' : Bool} {r : Passed} {text : List ℕ} (p : Passes asked stage xs ys ended ended' r text) {rest rest' : List ℕ} (comes : Comes ended rest) (comes' : Comes ended' rest') where
  told_on : {written : List ℕ} {last : Stage} → Told asked r.stage (drop r.first xs ++ rest) (drop r.second ys ++ rest') written last → Told asked stage (xs ++ rest) (ys ++ rest') (take r.out text ++ written) last
  told_on t =
      record {
        text = ap₂ (λ (u v : List ℕ). u ++ v) p.put t.text ∙ sym (p.goes.said rest rest' comes comes');
        verdict = t.verdict ∙ ap Done (sym (p.goes.verdict rest rest' comes comes'));
      }

  -- where nothing more is to be said
  told_stop : r.next ≡ Nothing → Told asked stage (xs ++ rest) (ys ++ rest') (take r.out text) r.stage
  told_stop e = go p.follows
    where
      go : Follows ended ended' r.stage (drop r.first xs) (drop r.second ys) (r.first + r.second) r.next → Told asked stage (xs ++ rest) (ys ++ rest') (take r.out text) r.stage
      go (goes_on n some) = absurd (let z : ◌≡◌ {A = ℕ} 0 1 = cc in omega arith)
      go (wants_first n unended few) = absurd (let z : ◌≡◌ {A = ℕ} 0 1 = cc in omega arith)
      go (wants_second n unended few) = absurd (let z : ◌≡◌ {A = ℕ} 0 1 = cc in omega arith)
      go (ends n different d) =
          subst (λ (u : List ℕ). Told asked stage (xs ++ rest) (ys ++ rest') u r.stage) (append-nil (take r.out text)) (told_on (told_done d))

module _ {asked : Asked} where
  -- For every run, from every stage and with any bytes held.
  pub told_from : {stage : Stage} {i j : Input} {written : List ℕ} {last : Stage} → Spent i → Spent j → Runs asked stage i j written last → Told asked stage (all_of i) (all_of j) written last
  told_from {i = i} {j} spent spent' (on p e s) = told_on p (spent_comes i spent) (spent_comes j spent') (told_from spent spent' s)
  told_from {i = i} {j} spent spent' (Reads-first p e read s) =
      told_on p (spent_comes i spent) (spent_comes j spent') (told_as (read_all read) refl (told_from (read_spent read) spent' s))
  told_from {i = i} {j} spent spent' (Reads-second p e read s) =
      told_on p (spent_comes i spent) (spent_comes j spent') (told_as refl (read_all read) (told_from spent (read_spent read) s))
  told_from {i = i} {j} spent spent' (stop p e) = told_stop p (spent_comes i spent) (spent_comes j spent') e

  module _ {reads reads' : List (List ℕ)} {written : List ℕ} {last : Stage} (s : Runs asked Versions (fresh reads) (fresh reads') written last) where
    told : Told asked Versions (join reads) (join reads') written last
    told = told_from (fresh_spent reads) (fresh_spent reads') s

    -- For every run over every two sequences of reads, what is handed out is the definition's text of the two listings.
    pub run_text : written ≡ comparison asked (join reads) (join reads')
    unfolding saying
    run_text = told.text

    -- It ends, and says whether they differ.
    pub run_verdict : last ≡ Done (is_different 0 (report_of asked (join reads) (join reads')))
    unfolding differing
    run_verdict = told.verdict
