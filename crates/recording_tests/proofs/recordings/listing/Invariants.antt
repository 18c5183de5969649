-- What falls with each turn of the loop in `listing`.
use Rattle.std.proofs.Common.{◌-◌, length}
use Rattle.recording_tests.proofs.recordings.listing.Given as goal

abbrev pub decreases-loop-text : goal.decreases-loop-text
decreases-loop-text g l = length l.recording - l.place
