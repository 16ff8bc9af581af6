-- What the laws of stages cite, and no promise: what is said of records with their places, as ways between stages, and room for any step.
-- Assumes nothing.
use Rattle.std.proofs.Common.{ℕ, ◌+◌, ◌≤◌, List, [], ◌++◌, sym, refl, ap, ◌∙◌, append_assoc, arith, lit≤}
use Rattle.lines.specs.Text.{longest_line}
use Rattle.records.specs.declared.Asked.{Asked}
use Rattle.located.specs.declared.Stage.{Stage}
use Rattle.located.specs.Parts.{longest_part}
use Rattle.located.specs.Pass.{saying, Goes}

pub part_room : longest_line + 1 ≤ longest_part
part_room = lit≤ tt

pub goes_none : {asked : Asked} {stage : Stage} {held : List ℕ} → Goes asked stage held [] stage held 0 0
goes_none = record { said = λ more. refl; frames = λ more. omega arith; refusals = λ more. omega arith; end = λ more. refl }

pub goes_then : {asked : Asked} {stage : Stage} {held says : List ℕ} {now : Stage} {left : List ℕ} {a b : ℕ} {next : List ℕ} {last : Stage} {rest : List ℕ} {c d : ℕ} → Goes asked stage held says now left a b → Goes asked now left next last rest c d → Goes asked stage held (says ++ next) last rest (a + c) (b + d)
goes_then {asked} {says = says} {next = next} {last = last} {rest = rest} g h =
    record {
      said = λ more. g.said more ∙ ap (λ (t : List ℕ). says ++ t) (h.said more) ∙ sym (append_assoc says next (saying asked last (rest ++ more)));
      frames = λ more. omega (arith, g.frames more, h.frames more);
      refusals = λ more. omega (arith, g.refusals more, h.refusals more);
      end = λ more. g.end more ∙ h.end more;
    }
