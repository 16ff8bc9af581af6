-- The numbers of reasons: never 0, which is the answer of what is printed, and of one digit.
-- Assumes nothing.
use Rattle.std.proofs.Common.{◌<◌, lit≤}
use Rattle.answers.specs.declared.Reason.{Reason}
use Rattle.answers.specs.declared.Reason.TheVariants.{Mode, Length, Field, Shape, Size, Broadcast}
use Rattle.answers.specs.Reasons.{number_of}

pub number_below : (reason : Reason) → number_of reason < 10
number_below Mode = lit≤ tt
number_below Length = lit≤ tt
number_below Field = lit≤ tt
number_below Shape = lit≤ tt
number_below Size = lit≤ tt
number_below Broadcast = lit≤ tt

pub number_some : (reason : Reason) → 0 < number_of reason
number_some Mode = lit≤ tt
number_some Length = lit≤ tt
number_some Field = lit≤ tt
number_some Shape = lit≤ tt
number_some Size = lit≤ tt
number_some Broadcast = lit≤ tt
