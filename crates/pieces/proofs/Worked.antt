-- The worked recording, by computation. Assumes nothing.
use Rattle.std.proofs.Common.{refl}
use Rattle.std.specs.Fmt as text
use Rattle.fcs.specs.Sum as sum
use Rattle.frame.specs.Escapes as escapes
use Rattle.frame.specs.Verdicts as verdicts
use Rattle.pieces.specs.Cases.{WorkedListing}
use Rattle.recording.specs.Listing as lines
use Rattle.recording.specs.Pieces as pieces
use Rattle.pieces.specs.Listing.{listing_of}

pub worked_listing : WorkedListing
unfolding text.digits sum.bit_step sum.eight_steps sum.step sum.register_of sum.fcs escapes.unescaped verdicts.verdict_of pieces.run_from pieces.piece_at pieces.pieces_from lines.line_of listing_of
worked_listing = refl
