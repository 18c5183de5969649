-- What each turn of the loop in `list` keeps, and what falls.
use Rattle.std.proofs.Common.{◌-◌, length}
use Rattle.pieces.proofs.Lists.{ListedTo}
use Rattle.pieces.proofs.listing.list.Given as goal

abbrev pub invariant-loop-reading : goal.invariant-loop-reading
invariant-loop-reading l = ListedTo l.recording l.place l.text.items

abbrev pub decreases-loop-reading : goal.decreases-loop-reading
decreases-loop-reading l = length l.recording - l.place
