-- The branches among document 01's "Lines to compare", as what they show, and document 02's table of the word before `$`.
-- Assumes nothing.
use Rattle.std.proofs.Common.{◌≡◌, true, false, refl}
use Rattle.operands.specs.declared.BranchWord.TheVariants.{None, Short, Near}
use Rattle.operands.specs.declared.Shown.TheVariants.{Branch}
use Rattle.names.specs.declared.Arm.TheVariants as arm
use Rattle.branches.specs.declared.Mode.TheVariants.{Crate, Straight}
use Rattle.branches.specs.Sums.{signed, branch_sum, branch_shown}

pub short_125 : branch_shown Crate arm.Branch 3 125 2 0 ≡ Branch None false 0x7f
unfolding signed branch_sum branch_shown
short_125 = refl

pub short_125_straight : branch_shown Straight arm.Branch 3 125 2 0 ≡ Branch Short false 0x7f
unfolding signed branch_sum branch_shown
short_125_straight = refl

pub short_126_wraps : branch_shown Crate arm.Branch 3 126 2 0 ≡ Branch None true 0x80
unfolding signed branch_sum branch_shown
short_126_wraps = refl

pub short_126_straight : branch_shown Straight arm.Branch 3 126 2 0 ≡ Branch Short false 0x80
unfolding signed branch_sum branch_shown
short_126_straight = refl

pub long_122 : branch_shown Crate arm.Branch 5 122 5 0 ≡ Branch None false 0x7f
unfolding signed branch_sum branch_shown
long_122 = refl

pub long_122_straight : branch_shown Straight arm.Branch 5 122 5 0 ≡ Branch Near false 0x7f
unfolding signed branch_sum branch_shown
long_122_straight = refl

pub long_123_near : branch_shown Crate arm.Branch 5 123 5 0 ≡ Branch Near false 0x80
unfolding signed branch_sum branch_shown
long_123_near = refl

pub long_250_near : branch_shown Crate arm.Branch 5 250 5 0 ≡ Branch Near false 0xff
unfolding signed branch_sum branch_shown
long_250_near = refl

pub long_251 : branch_shown Crate arm.Branch 5 251 5 0 ≡ Branch None false 0x100
unfolding signed branch_sum branch_shown
long_251 = refl

pub long_251_straight : branch_shown Straight arm.Branch 5 251 5 0 ≡ Branch Near false 0x100
unfolding signed branch_sum branch_shown
long_251_straight = refl

pub long_greatest_wraps : branch_shown Crate arm.Branch 5 2147483647 5 0 ≡ Branch None true 0x7ffffffc
unfolding signed branch_sum branch_shown
long_greatest_wraps = refl

pub long_greatest_straight : branch_shown Straight arm.Branch 5 2147483647 5 0 ≡ Branch Near true 0x7ffffffc
unfolding signed branch_sum branch_shown
long_greatest_straight = refl

-- the least sum, whose size is 2 ^ 31
pub long_least : branch_shown Crate arm.Branch 5 0x7fffffff 1 0 ≡ Branch None true 0x80000000
unfolding signed branch_sum branch_shown
long_least = refl

-- CALL and XBEGIN have a word in mode 0 alone
pub call_near : branch_shown Crate arm.Call 5 123 5 0 ≡ Branch Near false 0x80
unfolding signed branch_sum branch_shown
call_near = refl

pub call-straight : branch_shown Straight arm.Call 5 123 5 0 ≡ Branch None false 0x80
unfolding signed branch_sum branch_shown
call-straight = refl

pub short_call_straight : branch_shown Straight arm.Call 3 126 2 0 ≡ Branch None false 0x80
unfolding signed branch_sum branch_shown
short_call_straight = refl

pub xbegin_near : branch_shown Crate arm.Xbegin 5 122 6 0 ≡ Branch Near false 0x80
unfolding signed branch_sum branch_shown
xbegin_near = refl

pub xbegin_straight : branch_shown Straight arm.Xbegin 5 122 6 0 ≡ Branch None false 0x80
unfolding signed branch_sum branch_shown
xbegin_straight = refl
