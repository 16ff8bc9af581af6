-- A callee's result and a test of it, joined.
-- Assumes nothing.
use mathlib.Core.Path.{◌≡◌, sym, ◌∙◌}

-- what a callee ensures of its result, and what a test found the result to be
pub results_equal : {A : Type 0} {r x b : A} → r ≡ x → r ≡ b → x ≡ b
results_equal ensures found = sym ensures ∙ found
