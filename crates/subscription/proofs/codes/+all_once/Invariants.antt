use Rattle.std.proofs.Common.{length}
use Rattle.subscription.proofs.codes.+all_once.Given as goal

abbrev pub decreases-all_once : goal.decreases-all_once
decreases-all_once l = length l.codes.now
