-- A worked recording, computed from the definitions. Assumes nothing.
use Rattle.std.specs.Prelude.{◌≡◌, ℕ, List, [], ◌∷◌, ◌++◌, codes}
use Rattle.recording.specs.Listing.{line_feed, field}
use Rattle.pieces.specs.Listing.{listing_of}

-- an empty piece, a join request, and a piece that is too short
abbrev pub worked : List ℕ
worked = 0x7E ∷ 0x7E ∷ 0x06 ∷ 0x00 ∷ 0x08 ∷ 0x5D ∷ 0x9C ∷ 0x7E ∷ 0x06 ∷ 0x00 ∷ 0x7E ∷ []

-- its listing
abbrev pub WorkedListing : Type 0
WorkedListing =
    listing_of worked
    ≡ field (codes "place bytes verdict command") line_feed
    ++ (field (codes "1 0 empty -") line_feed ++ (field (codes "2 5 good 6") line_feed ++ field (codes "8 2 short -") line_feed))
