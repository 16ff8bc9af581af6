-- What the laws of stages cite, and no promise: the steps of a listing's lines, as ways between stages, and room for the last line.
-- Assumes nothing.
use Rattle.std.proofs.Common.{ℕ, ◌+◌, ◌≤◌, List, [], ◌++◌, append-nil, append_assoc, add_assoc, arith}
use native.Mathlib.Nat.{add-zero}
use Rattle.lines.specs.Text.{longest_line}
use Rattle.records.specs.declared.Asked.{Asked}
use Rattle.streams.specs.declared.Stage.{Stage}
use Rattle.streams.specs.Stream.{stepped}
use Rattle.streams.specs.Pass.{Steps}
use Rattle.streams.specs.Pass.Steps.{none, more}

pub longest_room : longest_line + 1 ≤ longest_line + 1
longest_room = omega arith

pub way_none : {asked : Asked} {stage : Stage} {held : List ℕ} → Steps asked stage held [] stage held 0 0
way_none = none

pub way_then : {asked : Asked} {stage : Stage} {held says : List ℕ} {now : Stage} {left : List ℕ} {a b : ℕ} {next : List ℕ} {last : Stage} {rest : List ℕ} {c d : ℕ} → Steps asked stage held says now left a b → Steps asked now left next last rest c d → Steps asked stage held (says ++ next) last rest (a + c) (b + d)
way_then {a = a} {b = b} first none = rw (append-nil, add-zero a, add-zero b) first
way_then {asked} {says = says} {a = a} {b = b} first (more {says = s} {now = n} {left = l} {records = r} {refused = f} steps) =
    let t = stepped asked n l in
    rw (← (append_assoc says s t.says), ← (add_assoc a r t.records), ← (add_assoc b f t.refused)) (more (way_then first steps))
