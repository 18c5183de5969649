-- What the search leaves to show of `read`: that the pieces cover the recording, at each of its answers.
use Rattle.recording.proofs.Covers.{covers_all}
use Rattle.recording.proofs.reader.read.Goals as goal

pub returns-then-recording-gt-LIMIT-clause-covers : goal.returns-then-recording-gt-LIMIT-clause-covers
returns-then-recording-gt-LIMIT-clause-covers c = covers_all

pub returns-then-place-recording-clause-covers : goal.returns-then-place-recording-clause-covers
returns-then-place-recording-clause-covers c = covers_all

pub returns-then-start-recording-clause-covers : goal.returns-then-start-recording-clause-covers
returns-then-start-recording-clause-covers c = covers_all

pub returns-clause-covers : goal.returns-clause-covers
returns-clause-covers c = covers_all
