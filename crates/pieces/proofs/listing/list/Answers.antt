-- What the search leaves to show of `list`.
use Rattle.std.proofs.Common.{◌≡◌, ◌++◌, subst, arith}
use Rattle.std.proofs.lemmas.Grind.{common_steps}
use Rattle.frame.specs.Written.{written}
use Rattle.recording.specs.Listing.{names_line, line_for}
use Rattle.recording.specs.Pieces.{piece_at}
use Rattle.pieces.proofs.Lists.{ListedTo, names_listed, line_listed}
use Rattle.pieces.proofs.listing.list.Goals as goal

pub loop-reading-init : goal.loop-reading-init
unfolding written
loop-reading-init c =
    let is : names_line ≡ c.extend_from_slice.new.self.items = grind (arith, common_steps) in
    subst (ListedTo _ 0) is (names_listed c.args.recording.now c.in_default.field-0 c.in_default.ensures.answer c.in_default.ensures.short)

pub loop-reading-preserved : goal.loop-reading-preserved
unfolding written
loop-reading-preserved c =
    let here = piece_at c.args.recording.now c.loop-reading.place in
    let told = rw c.in-Ok-Some.field-0-is at c.in-Ok-Some.ensures.answer in
    let is : c.loop-reading.text.items ++ line_for here ≡ c.extend_from_slice-in-Ok-Some.new.self.items = grind (arith, common_steps) in
    subst (ListedTo _ _) is (line_listed c.in-Ok-Some.reading told c.loop-reading.invariant)
